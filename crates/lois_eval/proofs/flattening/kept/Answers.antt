use Rattle.std.proofs.Common.{[], ◌∷◌, map, take, sym, subst}
use Rattle.lois_base.specs.Data.{coll, comps_of}
use Rattle.lois_base.specs.Tree.{comp_of}
use Rattle.lois_base.proofs.Viewed.{one_more, all_taken}
use Rattle.lois_relate.proofs.Parts.{is_comp_of}
use Rattle.lois_eval.specs.Operands.{HasSetsOf, IsMemberFault}
use Rattle.lois_eval.proofs.LoopExit.{passed_on}
use Rattle.lois_eval.proofs.Flattened.{sets_none, sets_more, fault_of_comp}
use Rattle.lois_eval.proofs.flattening.kept.Goals as goal

pub loop-comp-init : goal.loop-comp-init
loop-comp-init g c = record {
  sets = subst (λ z. HasSetsOf c.args.context.now (coll (comps_of [])) (coll (comps_of z))) (sym c.new-kept.ensures) (sets_none c.args.context.now);
  asked = g.met.D.Oracle.reaches_itself c.args.decider.now;
}

pub put_set-requires-clause-over : goal.put_set-requires-clause-over
put_set-requires-clause-over g c =
    let comp = is_comp_of c.as_slice-comp-items.result.now c.args.comps.now c.loop-comp.comp-index c.comp-item.result c.as_slice-comp-items.ensures c.loop-comp-test.true c.comp-item.is in
    record {
      levels = comp.fits c.args.context.now.size c.requires.over.levels;
      operators = comp.admits g.T.Structure.ordered c.requires.over.operators;
    }

pub returns-in_err-put_set-clause-fault : goal.returns-in_err-put_set-clause-fault
returns-in_err-put_set-clause-fault g c =
    let k = c.args.context.now in
    let l = comp_of c.comp-item.result in
    passed_on c.from_residual.result c.in_err-put_set.field-0.0 (IsMemberFault g.T.Structure.ordered k (coll (comps_of (l ∷ []))) c.args.pos.offset) (IsMemberFault g.T.Structure.ordered k (coll (comps_of c.args.comps.now)) c.args.pos.offset) c.from_residual.ensures.1
    (λ f h. fault_of_comp g.T.Structure.ordered k c.as_slice-comp-items.result.now c.args.comps.now c.loop-comp.comp-index c.comp-item.result c.args.pos.offset f c.as_slice-comp-items.ensures c.loop-comp-test.true c.comp-item.is h) c.in_err-put_set.ensures.fault

pub loop-comp-preserved : goal.loop-comp-preserved
loop-comp-preserved g c =
    let k = c.args.context.now in
    let items = c.as_slice-comp-items.result.now in
    let i = c.loop-comp.comp-index in
    let comp = is_comp_of items c.args.comps.now i c.comp-item.result c.as_slice-comp-items.ensures c.loop-comp-test.true c.comp-item.is in
    record {
      sets =
          subst (λ z. HasSetsOf k (coll (comps_of z)) (coll (comps_of c.put_set.new.kept))) (sym (one_more comp_of items i c.comp-item.result c.loop-comp-test.true c.comp-item.is))
          (sets_more k (map comp_of (take i items)) c.loop-comp.kept c.put_set.new.kept (comp_of c.comp-item.result) c.loop-comp.invariant.sets (comp.fits k.size c.requires.over.levels) c.in_ok-put_set.ensures.kept);
      asked = g.met.D.Oracle.reaches_then c.args.decider.now c.loop-comp.decider c.put_set.new.decider c.loop-comp.invariant.asked c.put_set.ensures.asked;
    }

pub returns-clause-sets : goal.returns-clause-sets
returns-clause-sets g c =
    let items = c.as_slice-comp-items.result.now in
    let all = all_taken comp_of items c.args.comps.now c.loop-comp.comp-index c.as_slice-comp-items.ensures c.loop-comp-test.false in
    subst (λ z. HasSetsOf c.args.context.now (coll (comps_of z)) (coll (comps_of c.loop-comp.kept))) all c.loop-comp.invariant.sets
