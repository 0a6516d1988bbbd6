use Rattle.std.proofs.Common.{take, map}
use Rattle.lois_base.specs.Data.{coll, comps_of}
use Rattle.lois_base.specs.Tree.{comp_of}
use Rattle.lois_eval.specs.Operands.{HasSetsOf}
use Rattle.lois_eval.proofs.flattening.kept.Given as goal

abbrev pub invariant-loop-comp : goal.invariant-loop-comp
invariant-loop-comp g l = record {
  sets : HasSetsOf l.context (coll (comps_of (map comp_of (take l.comp-index l.comp-items)))) (coll (comps_of l.kept));
  asked : g.D.Oracle.reaches l.fn.decider l.decider;
}
