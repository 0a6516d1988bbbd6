use Rattle.std.proofs.Common.{arith}
use Rattle.lois_base.specs.Data.{comps_of}
use Rattle.lois_relate.proofs.Parts.{is_comp_of}
use Rattle.lois_automata.specs.Adding.{IsStepOf}
use Rattle.lois_automata.proofs.Adding.{added_members}
use Rattle.lois_automata.proofs.Joined.{are_side_by_side}
use Rattle.lois_automata.proofs.Loops.{AddsTwos, firsts_begin, firsts_more, firsts_end}
use Rattle.lois_automata.proofs.pairing.pair_steps.Goals as goal

pub add_steps-requires-clause-first : goal.add_steps-requires-clause-first
add_steps-requires-clause-first g c =
    let k = is_comp_of c.as_slice-first-items.result.now c.args.one.now c.loop-first.first-index c.first-item.result c.as_slice-first-items.ensures c.loop-first-test.true c.first-item.is in
    record {
      levels = k.fits c.args.size c.requires.first.levels;
      operators = k.admits g.T.Structure.ordered c.requires.first.operators;
    }

pub loop-first-init : goal.loop-first-init
loop-first-init g c = firsts_begin IsStepOf c.args.size c.args.one.now c.args.other.now c.as_slice-first-items.result.now c.new-made.result c.as_slice-first-items.ensures c.new-made.ensures

pub loop-first-preserved : goal.loop-first-preserved
loop-first-preserved g c =
    firsts_more IsStepOf c.args.size c.args.one.now c.args.other.now c.as_slice-first-items.result.now c.loop-first.first-index c.first-item.result (comps_of c.loop-first.made) (comps_of c.add_steps.new.made) c.as_slice-first-items.ensures c.loop-first-test.true c.first-item.is c.loop-first.invariant c.in_ok-add_steps.ensures

pub returns-clause-members : goal.returns-clause-members
returns-clause-members g c =
    let n = c.args.size in
    let made = comps_of c.loop-first.made in
    let added : AddsTwos IsStepOf n c.args.one.now c.args.other.now made = firsts_end IsStepOf n c.args.one.now c.args.other.now c.as_slice-first-items.result.now c.loop-first.first-index made (omega (arith, c.loop-first-test.false)) c.loop-first.invariant in
    are_side_by_side n (comps_of c.args.one.now) (comps_of c.args.other.now) made (added_members n _ _ _ _ made added)

pub returns-clause-levels : goal.returns-clause-levels
returns-clause-levels g c = c.loop-first.invariant.levels (c.requires.first.levels, c.requires.second.levels) tt

pub returns-clause-operators : goal.returns-clause-operators
returns-clause-operators g c = λ o a b. c.loop-first.invariant.operators o (a, b) tt

pub returns-clause-widths : goal.returns-clause-widths
returns-clause-widths g c = λ u v. c.loop-first.invariant.widths (u, v) tt
