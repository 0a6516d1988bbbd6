use Rattle.std.proofs.Common.{◌≡◌, ℕ, not, List, ap, subst}
use Rattle.std.proofs.lemmas.Result.{IfOk-weaker}
use Rattle.lois_base.specs.Atom.{Atom}
use Rattle.lois_base.specs.Data.{coll, comps_of}
use Rattle.lois_base.specs.Fits.{ConstraintFits}
use Rattle.lois_base.specs.Tree.{tree}
use Rattle.lois_base.specs.Truth.{holds}
use Rattle.lois_base.specs.Values.{PointValue, point, IsIn}
use Rattle.lois_algebra.specs.Sets.{IsIntersection}
use Rattle.lois_automata.proofs.FiveMachine.{empty_throughout}
use Rattle.lois_automata.proofs.Tests.{not_where}
use Rattle.lois_automata.proofs.operations.empty.Goals as goal

pub returns-in_default-clause-empty : goal.returns-in_default-clause-empty
returns-in_default-clause-empty g c = λ d l u. absurd (c.in_default.ensures.none d (c.requires.automaton d l u))

pub returns-in_default-clause-accepts : goal.returns-in_default-clause-accepts
returns-in_default-clause-accepts g c = λ d l u. absurd (c.in_default.ensures.none d (c.requires.automaton d l u))

pub returns-clause-empty : goal.returns-clause-empty
returns-clause-empty g c =
    let n = c.args.size in
    let sets = c.in-Some.sets in
    let accepting = comps_of c.in_ok-copy.field-0 in
    let states = tree c.in_ok-states.states in
    let found = coll (comps_of c.in-Coll.found) in
    let some = c.in_ok-some.some in
    let among : IsIntersection n states (coll accepting) found = subst (λ z. IsIntersection n states (coll accepting) z) (ap tree c.in-Coll.is) c.in_ok-found.ensures.members in
    IfOk-weaker c.negate.result (λ r. (d : List Atom) → holds d r ≡ not (holds d some)) _ (λ r is.
    (empty_throughout n c.args.under.now (tree c.args.a.now) found (comps_of sets.states.now) (comps_of sets.letters.now) (comps_of sets.steps.now) (comps_of sets.initial.now) (comps_of sets.accepting.now) c.in-Some.ensures.some
    accepting states found r c.in_ok-states.ensures.reached (ap comps_of c.in_ok-copy.ensures) among (not_where n (λ d. (x : PointValue) × IsIn x (point found d)) some r c.in_ok-some.ensures.truth is)).0) c.negate.ensures.truth

pub returns-clause-accepts : goal.returns-clause-accepts
returns-clause-accepts g c =
    let n = c.args.size in
    let sets = c.in-Some.sets in
    let accepting = comps_of c.in_ok-copy.field-0 in
    let states = tree c.in_ok-states.states in
    let found = coll (comps_of c.in-Coll.found) in
    let some = c.in_ok-some.some in
    let among : IsIntersection n states (coll accepting) found = subst (λ z. IsIntersection n states (coll accepting) z) (ap tree c.in-Coll.is) c.in_ok-found.ensures.members in
    IfOk-weaker c.negate.result (λ r. (d : List Atom) → holds d r ≡ not (holds d some)) _ (λ r is.
    (empty_throughout n c.args.under.now (tree c.args.a.now) found (comps_of sets.states.now) (comps_of sets.letters.now) (comps_of sets.steps.now) (comps_of sets.initial.now) (comps_of sets.accepting.now) c.in-Some.ensures.some
    accepting states found r c.in_ok-states.ensures.reached (ap comps_of c.in_ok-copy.ensures) among (not_where n (λ d. (x : PointValue) × IsIn x (point found d)) some r c.in_ok-some.ensures.truth is)).1) c.negate.ensures.truth

pub returns-clause-levels : goal.returns-clause-levels
returns-clause-levels g c =
    IfOk-weaker c.negate.result (λ r. (m : ℕ) → ConstraintFits m c.in_ok-some.some → ConstraintFits m r) _ (λ r fits. fits c.args.size c.in_ok-some.ensures.levels) c.negate.ensures.fits
