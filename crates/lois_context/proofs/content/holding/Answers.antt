use Rattle.std.proofs.Common.{length, ap, subst, sym, arith}
use Rattle.std.proofs.lemmas.List.{length-map}
use Rattle.lois_base.specs.Tree.{tree, comp_of}
use Rattle.lois_context.specs.Content.{own_count}
use Rattle.lois_context.specs.Noted.{IsNotedOf}
use Rattle.lois_context.specs.Entered.{comps_listed}
use Rattle.lois_context.proofs.Contents.{own_counted}
use Rattle.lois_context.proofs.content.holding.Goals as goal

pub invariant_of-result : goal.invariant_of-result
invariant_of-result c = (
  omega (arith, own_counted c.base.inside.inner.value, ap own_count c.base.view_is, c.if-comps_of_set-len.false, own_counted c.args.base, ap length c.comps_of_set.ensures, length-map c.comps_of_set.result.now comp_of, ap (λ z. length (comps_listed (tree z))) c.get.ensures.same, ap length c.in_ok-new.ensures.same, c.len.ensures),
  subst (IsNotedOf c.args.noted) (sym c.base.view_is) c.requires,
)
