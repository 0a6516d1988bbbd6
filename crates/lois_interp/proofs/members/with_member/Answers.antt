use Rattle.std.proofs.Common.{subst}
use Rattle.lois_base.specs.Data.{comp}
use Rattle.lois_base.specs.Tree.{tree}
use Rattle.lois_context.specs.Put.{IsWithOnce}
use Rattle.lois_interp.proofs.members.with_member.Goals as goal

pub returns : goal.returns
returns c =
    let set = tree c.args.term in
    let all = tree c.in_ok-put_once.field-0 in
    (c.is_set.ensures.0 c.if-not-is_set.false, subst (λ g. IsWithOnce set (comp 0 g (tree c.args.item)) all) c.in_ok-always.ensures c.in_ok-put_once.ensures)
