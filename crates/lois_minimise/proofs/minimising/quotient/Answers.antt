use Rattle.std.proofs.Common.{◌≡◌, ap}
use Rattle.std.proofs.lemmas.Result.{IfOk-weaker}
use Rattle.lois_base.specs.Data.{coll, comps_of}
use Rattle.lois_base.specs.Tree.{tree}
use Rattle.lois_automata.specs.Projections.{five_terms}
use Rattle.lois_minimise.proofs.Quotients.{quotient_term}
use Rattle.lois_minimise.proofs.minimising.quotient.Goals as goal

pub returns-clause-quotient : goal.returns-clause-quotient
returns-clause-quotient g c =
    let n = c.args.size in
    let sets = c.args.sets in
    let states = tree c.in_ok-states.states in
    let l2 = comps_of c.in_ok-copy.field-0 in
    let steps = tree c.in_ok-steps.steps in
    let i2 = comps_of c.in_ok-copy-2.field-0 in
    let initial = tree c.in_ok-initial.initial in
    let f2 = comps_of c.in_ok-copy-3.field-0 in
    let accepting = tree c.in_ok-accepting.accepting in
    IfOk-weaker c.of_five.result (λ r. tree r ≡ five_terms states (coll l2) steps initial accepting) _ (λ r made.
    quotient_term n (comps_of sets.states.now) (comps_of sets.letters.now) (comps_of sets.steps.now) (comps_of sets.initial.now) (comps_of sets.accepting.now) (comps_of c.args.classes.now) l2 i2 f2 states steps initial accepting (tree r) made
    (ap comps_of c.in_ok-copy.ensures) (ap comps_of c.in_ok-copy-2.ensures) (ap comps_of c.in_ok-copy-3.ensures) c.in_ok-states.ensures.set c.in_ok-steps.ensures.set c.in_ok-initial.ensures.set c.in_ok-accepting.ensures.set
    (c.in_ok-states.ensures.members n) c.in_ok-steps.ensures.steps c.in_ok-initial.ensures.members c.in_ok-accepting.ensures.members) c.of_five.ensures
