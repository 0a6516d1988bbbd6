use Rattle.std.proofs.Common.{arith}
use Rattle.lois_base.specs.Tree.{tree}
use Rattle.lois_eval.proofs.Candidates.{has_place, none_more}
use Rattle.lois_eval.proofs.relations.first_candidate.Goals as goal

pub loop-place-preserved : goal.loop-place-preserved
loop-place-preserved c =
    none_more c.args.comps.now (tree c.args.s.now) c.loop-place.place c.index-comps-place.result (omega (arith, c.loop-place-test.true)) c.index-comps-place.is (c.clash.ensures c.if-not-clash.false) c.loop-place.invariant

pub returns-clause-none : goal.returns-clause-none
returns-clause-none c e i h =
    c.loop-place.invariant i (omega (arith, c.loop-place-test.false, has_place c.args.comps.now (tree c.args.s.now) i h)) h
