use Rattle.std.proofs.Common.{◌≡◌, ◌+◌, ◌*◌, List, ℕ, length, sym, subst, rules}
use Rattle.lois_make.proofs.MadeScript.{script_length}
use Rattle.lois_make.specs.MadeScript.{made_script}
use Rattle.lois_make.proofs.making.make_script.Goals as goal

pub returns-clause-bytes : goal.returns-clause-bytes
returns-clause-bytes c = subst (λ (text : List ℕ). length text ≡ 37 + 74 * c.args.count) (sym is) (script_length c.args.count)
  where
    is : c.extend_from_slice-2.new.self.items ≡ made_script c.args.count
    is = search rules
