use Rattle.std.proofs.Common.{arith}
use Rattle.lois_base.specs.Data.{comps_of}
use Rattle.lois_relate.proofs.Parts.{is_comp_of}
use Rattle.lois_automata.proofs.Adding.{added_members}
use Rattle.lois_automata.proofs.Loops.{AddsTwos, firsts_begin, firsts_more, firsts_end}
use Rattle.lois_minimise.specs.Classes.{IsMoveBack}
use Rattle.lois_minimise.proofs.Moves.{are_backward}
use Rattle.lois_minimise.proofs.moving.backward.Goals as goal

pub add_moves-requires-clause-first : goal.add_moves-requires-clause-first
add_moves-requires-clause-first g c =
    let k = is_comp_of c.as_slice-first-items.result.now c.args.steps.now c.loop-first.first-index c.first-item.result c.as_slice-first-items.ensures c.loop-first-test.true c.first-item.is in
    record {
      levels = k.fits c.args.size c.requires.steps.levels;
      operators = k.admits g.T.Structure.ordered c.requires.steps.operators;
    }

pub loop-first-init : goal.loop-first-init
loop-first-init g c = firsts_begin IsMoveBack c.args.size c.args.steps.now c.args.steps.now c.as_slice-first-items.result.now c.new-moves.result c.as_slice-first-items.ensures c.new-moves.ensures

pub loop-first-preserved : goal.loop-first-preserved
loop-first-preserved g c =
    firsts_more IsMoveBack c.args.size c.args.steps.now c.args.steps.now c.as_slice-first-items.result.now c.loop-first.first-index c.first-item.result (comps_of c.loop-first.moves) (comps_of c.add_moves.new.moves) c.as_slice-first-items.ensures c.loop-first-test.true c.first-item.is c.loop-first.invariant c.in_ok-add_moves.ensures

pub returns-clause-moves : goal.returns-clause-moves
returns-clause-moves g c =
    let n = c.args.size in
    let made = comps_of c.loop-first.moves in
    let added : AddsTwos IsMoveBack n c.args.steps.now c.args.steps.now made = firsts_end IsMoveBack n c.args.steps.now c.args.steps.now c.as_slice-first-items.result.now c.loop-first.first-index made (omega (arith, c.loop-first-test.false)) c.loop-first.invariant in
    are_backward n (comps_of c.args.steps.now) made (added_members n _ _ _ _ made added)

pub returns-clause-levels : goal.returns-clause-levels
returns-clause-levels g c = c.loop-first.invariant.levels (c.requires.steps.levels, c.requires.steps.levels) tt

pub returns-clause-operators : goal.returns-clause-operators
returns-clause-operators g c = λ o a. c.loop-first.invariant.operators o (a, a) tt
