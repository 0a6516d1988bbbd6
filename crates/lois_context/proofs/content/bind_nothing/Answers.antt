use Rattle.std.proofs.Common.{map, take, sym, subst}
use Rattle.lois_base.specs.Data.{comps_of}
use Rattle.lois_base.specs.Tree.{comp_of}
use Rattle.lois_base.proofs.Viewed.{one_more}
use Rattle.lois_terms.specs.Binding.{ItemsBindNothing}
use Rattle.lois_context.proofs.Contents.{one_unbound}
use Rattle.lois_context.proofs.content.bind_nothing.Goals as goal

pub loop-comp-preserved : goal.loop-comp-preserved
loop-comp-preserved c =
    let i = c.loop-comp.comp-index in let comps = c.args.comps.now in let k = c.comp-item.result in
    subst (λ z. ItemsBindNothing (comps_of z)) (sym (one_more comp_of comps i k c.loop-comp-test.true c.comp-item.is))
    (one_unbound (map comp_of (take i comps)) (comp_of k) c.loop-comp.invariant (c.if-comp-ne0.false, c.binds_nothing.ensures.written.0 c.if-not-binds_nothing.false))
