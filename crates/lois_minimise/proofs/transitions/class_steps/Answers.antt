use Rattle.std.proofs.Common.{ap, subst}
use Rattle.lois_base.specs.Data.{coll, comps_of}
use Rattle.lois_base.specs.Tree.{tree}
use Rattle.lois_automata.specs.Built.{ArePairs}
use Rattle.lois_minimise.proofs.StepMoves.{class_steps_are}
use Rattle.lois_minimise.proofs.transitions.class_steps.Goals as goal

pub returns-clause-steps : goal.returns-clause-steps
returns-clause-steps g c = λ d l.
    let n = c.args.size in
    let classes = coll (comps_of c.args.classes.now) in
    let letters = coll (comps_of c.args.letters.now) in
    let reads = coll (comps_of c.in-Coll.reads) in
    let one : ArePairs n classes letters reads = subst (λ z. ArePairs n classes letters z) (ap tree c.in-Coll.is) c.in_ok-reads.ensures.members in
    class_steps_are n classes letters (coll (comps_of c.args.steps.now)) reads (coll (comps_of c.in_ok-both.both)) (coll (comps_of c.in_ok-moves.moves)) (coll (comps_of c.in_ok-between.between)) d l one c.in_ok-both.ensures.members (c.in_ok-moves.ensures.moves n) c.in_ok-between.ensures.members
