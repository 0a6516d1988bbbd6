use Rattle.std.proofs.Common.{◌≡◌, ◌++◌, ◌∷◌, [], subst}
use Rattle.std.specs.List.{Contains}
use Rattle.lois_base.specs.Tree.{comp_of}
use Rattle.lois_deciders.proofs.Oracle.{on_ok}
use Rattle.lois_simplify.proofs.Seen.{once_there, once_new}
use Rattle.lois_simplify.proofs.distinct.keep_once.Goals as goal

pub returns-then-is_written_in-clause-kept : goal.returns-then-is_written_in-clause-kept
returns-then-is_written_in-clause-kept c =
    once_there c.args.kept.now c.args.kept.now (comp_of c.args.comp) (subst (λ ks. Contains ks (comp_of c.args.comp)) c.as_slice.ensures (c.is_written_in.ensures.0 c.if-is_written_in.true))

pub returns-clause-kept : goal.returns-clause-kept
returns-clause-kept c =
    let k = comp_of c.args.comp in
    on_ok c.push-2.result (c.push-2.new.self ≡ c.args.kept.now ++ k ∷ []) _ (λ is. once_new c.args.kept.now c.push-2.new.self k is) c.push-2.ensures.ok
