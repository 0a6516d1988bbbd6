use Rattle.std.proofs.Common.{arith}
use Rattle.lois_base.specs.Data.{comps_of}
use Rattle.lois_base.specs.Tree.{comp_of}
use Rattle.lois_relate.proofs.Parts.{is_comp_of}
use Rattle.lois_minimise.specs.Classes.{IsMoveBack}
use Rattle.lois_automata.proofs.Loops.{seconds_begin, seconds_more, seconds_end}
use Rattle.lois_minimise.proofs.moving.add_moves.Goals as goal

pub add_move_back-requires-clause-second : goal.add_move_back-requires-clause-second
add_move_back-requires-clause-second g c =
    let q = is_comp_of c.as_slice-second-items.result.now c.args.others.now c.loop-second.second-index c.second-item.result c.as_slice-second-items.ensures c.loop-second-test.true c.second-item.is in
    record {
      levels = q.fits c.args.size c.requires.second.levels;
      operators = q.admits g.T.Structure.ordered c.requires.second.operators;
    }

pub loop-second-init : goal.loop-second-init
loop-second-init g c = seconds_begin IsMoveBack c.args.size (comp_of c.args.first.now) c.args.others.now (comps_of c.args.moves.now) c.as_slice-second-items.result.now c.as_slice-second-items.ensures

pub loop-second-preserved : goal.loop-second-preserved
loop-second-preserved g c =
    seconds_more IsMoveBack c.args.size (comp_of c.args.first.now) c.args.others.now (comps_of c.args.moves.now) c.as_slice-second-items.result.now c.loop-second.second-index c.second-item.result (comps_of c.loop-second.moves) (comps_of c.add_move_back.new.moves) c.as_slice-second-items.ensures c.loop-second-test.true c.second-item.is c.loop-second.invariant c.in_ok-add_move_back.ensures

pub returns : goal.returns
returns g c =
    seconds_end IsMoveBack c.args.size (comp_of c.args.first.now) c.args.others.now (comps_of c.args.moves.now) c.as_slice-second-items.result.now c.loop-second.second-index (comps_of c.loop-second.moves) (omega (arith, c.loop-second-test.false)) c.loop-second.invariant
