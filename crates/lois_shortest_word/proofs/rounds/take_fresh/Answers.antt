use Rattle.std.proofs.Common.{arith}
use Rattle.lois_base.specs.Data.{comps_of}
use Rattle.lois_relate.proofs.Parts.{is_comp_of}
use Rattle.lois_shortest_word.proofs.Fresh.{fresh_begin, fresh_more, fresh_end}
use Rattle.lois_shortest_word.proofs.rounds.take_fresh.Goals as goal

pub loop-comp-init : goal.loop-comp-init
loop-comp-init g c = fresh_begin c.args.size c.args.members.now (comps_of c.args.seen.now) c.as_slice-comp-items.result.now c.new-fresh.result c.as_slice-comp-items.ensures c.new-fresh.ensures c.requires.seen.levels

pub add_fresh-requires-clause-over : goal.add_fresh-requires-clause-over
add_fresh-requires-clause-over g c =
    record {
      levels = (is_comp_of c.as_slice-comp-items.result.now c.args.members.now c.loop-comp.comp-index c.comp-item.result c.as_slice-comp-items.ensures c.loop-comp-test.true c.comp-item.is).fits c.args.size c.requires.over.levels;
      operators = (is_comp_of c.as_slice-comp-items.result.now c.args.members.now c.loop-comp.comp-index c.comp-item.result c.as_slice-comp-items.ensures c.loop-comp-test.true c.comp-item.is).admits g.T.Structure.ordered c.requires.over.operators;
    }

pub add_fresh-requires-clause-seen : goal.add_fresh-requires-clause-seen
add_fresh-requires-clause-seen g c =
    record {
      levels = c.loop-comp.invariant.levels.0;
      operators = (c.loop-comp.invariant.operators g.T.Structure.ordered c.requires.over.operators c.requires.seen.operators).0;
    }

pub loop-comp-preserved : goal.loop-comp-preserved
loop-comp-preserved g c =
    fresh_more c.args.size c.args.members.now (comps_of c.args.seen.now) c.as_slice-comp-items.result.now c.loop-comp.comp-index c.comp-item.result (comps_of c.loop-comp.seen) (comps_of c.loop-comp.fresh) (comps_of c.add_fresh.new.seen) (comps_of c.add_fresh.new.fresh) c.as_slice-comp-items.ensures c.loop-comp-test.true c.comp-item.is c.loop-comp.invariant c.in_ok-add_fresh.ensures

pub returns : goal.returns
returns g c =
    fresh_end c.args.size c.args.members.now (comps_of c.args.seen.now) c.as_slice-comp-items.result.now c.loop-comp.comp-index (comps_of c.loop-comp.seen) (comps_of c.loop-comp.fresh) (omega (arith, c.loop-comp-test.false)) c.loop-comp.invariant
