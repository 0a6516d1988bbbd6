use Rattle.std.proofs.Common.{arith}
use Rattle.lois_base.specs.Data.{comps_of}
use Rattle.lois_base.specs.Tree.{comp_of}
use Rattle.lois_relate.proofs.Parts.{is_comp_of}
use Rattle.lois_automata.specs.Adding.{IsPairOf}
use Rattle.lois_automata.proofs.Loops.{seconds_begin, seconds_more, seconds_end}
use Rattle.lois_automata.proofs.pairing.add_pairs.Goals as goal

pub add_pair-requires-clause-second : goal.add_pair-requires-clause-second
add_pair-requires-clause-second c =
    let q = is_comp_of c.as_slice-second-items.result.now c.args.others.now c.loop-second.second-index c.second-item.result c.as_slice-second-items.ensures c.loop-second-test.true c.second-item.is in
    q.fits c.args.size c.requires.second

pub loop-second-init : goal.loop-second-init
loop-second-init c = seconds_begin IsPairOf c.args.size (comp_of c.args.first.now) c.args.others.now (comps_of c.args.made.now) c.as_slice-second-items.result.now c.as_slice-second-items.ensures

pub loop-second-preserved : goal.loop-second-preserved
loop-second-preserved c =
    seconds_more IsPairOf c.args.size (comp_of c.args.first.now) c.args.others.now (comps_of c.args.made.now) c.as_slice-second-items.result.now c.loop-second.second-index c.second-item.result (comps_of c.loop-second.made) (comps_of c.add_pair.new.made) c.as_slice-second-items.ensures c.loop-second-test.true c.second-item.is c.loop-second.invariant c.in_ok-add_pair.ensures

pub returns : goal.returns
returns c =
    seconds_end IsPairOf c.args.size (comp_of c.args.first.now) c.args.others.now (comps_of c.args.made.now) c.as_slice-second-items.result.now c.loop-second.second-index (comps_of c.loop-second.made) (omega (arith, c.loop-second-test.false)) c.loop-second.invariant
