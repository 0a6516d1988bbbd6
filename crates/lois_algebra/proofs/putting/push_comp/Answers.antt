use Rattle.std.proofs.Common.{◌≡◌, [], ◌∷◌, ◌++◌}
use Rattle.std.proofs.lemmas.Result.{IfOk-weaker}
use Rattle.lois_base.specs.Tree.{comp_of}
use Rattle.lois_algebra.proofs.Among.{is_put_pushed}
use Rattle.lois_algebra.proofs.putting.push_comp.Goals as goal

pub returns-clause-added : goal.returns-clause-added
returns-clause-added c =
    IfOk-weaker c.push.result (λ _. c.push.new.self ≡ c.args.comps.now ++ comp_of c.args.comp ∷ []) _ (λ _ e. is_put_pushed (comp_of c.args.comp) c.args.comps.now c.push.new.self e) c.push.ensures.ok
