use Rattle.std.proofs.Common.{◌≡◌}
use Rattle.std.proofs.lemmas.Result.{IfOk-weaker}
use Rattle.lois_base.specs.Data.{comps_of}
use Rattle.lois_base.specs.Tree.{tree}
use Rattle.lois_automata.specs.Projections.{five_terms}
use Rattle.lois_automata.proofs.FiveMachine.{product_throughout}
use Rattle.lois_automata.proofs.operations.product.Goals as goal

pub returns-in_default-clause-product : goal.returns-in_default-clause-product
returns-in_default-clause-product g c = IfOk-weaker c.copy.result (λ r. r ≡ c.args.a.now) _ (λ r e d l u. absurd (c.in_default.ensures.none d (c.requires.automaton d l u))) c.copy.ensures

pub returns-in_default-clause-words : goal.returns-in_default-clause-words
returns-in_default-clause-words g c = IfOk-weaker c.copy.result (λ r. r ≡ c.args.a.now) _ (λ r e d l u. absurd (c.in_default.ensures.none d (c.requires.automaton d l u))) c.copy.ensures

pub returns-in_default-five-clause-product : goal.returns-in_default-five-clause-product
returns-in_default-five-clause-product g c = IfOk-weaker c.copy-in_default-five.result (λ r. r ≡ c.args.a.now) _ (λ r e d l u. absurd (c.in_default-five.ensures.none d (c.requires.other_automaton d l u))) c.copy-in_default-five.ensures

pub returns-in_default-five-clause-words : goal.returns-in_default-five-clause-words
returns-in_default-five-clause-words g c = IfOk-weaker c.copy-in_default-five.result (λ r. r ≡ c.args.a.now) _ (λ r e d l u. absurd (c.in_default-five.ensures.none d (c.requires.other_automaton d l u))) c.copy-in_default-five.ensures

pub returns-clause-product : goal.returns-clause-product
returns-clause-product g c =
    let n = c.args.size in
    let one = c.in-Some.one in
    let other = c.in-Some-five.other in
    let states = tree c.in_ok-states.states in
    let common = tree c.in_ok-common.common in
    let steps = tree c.in_ok-steps.steps in
    let initial = tree c.in_ok-initial.initial in
    let accepting = tree c.in_ok-accepting.accepting in
    IfOk-weaker c.of_five.result (λ r. tree r ≡ five_terms states common steps initial accepting) _ (λ r made.
    (product_throughout n c.args.under.now (tree c.args.a.now) (tree r) (comps_of one.states.now) (comps_of one.letters.now) (comps_of one.steps.now) (comps_of one.initial.now) (comps_of one.accepting.now) c.in-Some.ensures.some
    (tree c.args.b.now) (comps_of other.states.now) (comps_of other.letters.now) (comps_of other.steps.now) (comps_of other.initial.now) (comps_of other.accepting.now) states common steps initial accepting
    c.in-Some-five.ensures.some c.requires.automaton c.requires.other_automaton c.in_ok-states.ensures.set c.in_ok-common.ensures.set c.in_ok-steps.ensures.set c.in_ok-initial.ensures.set c.in_ok-accepting.ensures.set
    c.in_ok-states.ensures.members c.in_ok-common.ensures.members c.in_ok-steps.ensures.members c.in_ok-initial.ensures.members c.in_ok-accepting.ensures.members made).0) c.of_five.ensures

pub returns-clause-words : goal.returns-clause-words
returns-clause-words g c =
    let n = c.args.size in
    let one = c.in-Some.one in
    let other = c.in-Some-five.other in
    let states = tree c.in_ok-states.states in
    let common = tree c.in_ok-common.common in
    let steps = tree c.in_ok-steps.steps in
    let initial = tree c.in_ok-initial.initial in
    let accepting = tree c.in_ok-accepting.accepting in
    IfOk-weaker c.of_five.result (λ r. tree r ≡ five_terms states common steps initial accepting) _ (λ r made.
    (product_throughout n c.args.under.now (tree c.args.a.now) (tree r) (comps_of one.states.now) (comps_of one.letters.now) (comps_of one.steps.now) (comps_of one.initial.now) (comps_of one.accepting.now) c.in-Some.ensures.some
    (tree c.args.b.now) (comps_of other.states.now) (comps_of other.letters.now) (comps_of other.steps.now) (comps_of other.initial.now) (comps_of other.accepting.now) states common steps initial accepting
    c.in-Some-five.ensures.some c.requires.automaton c.requires.other_automaton c.in_ok-states.ensures.set c.in_ok-common.ensures.set c.in_ok-steps.ensures.set c.in_ok-initial.ensures.set c.in_ok-accepting.ensures.set
    c.in_ok-states.ensures.members c.in_ok-common.ensures.members c.in_ok-steps.ensures.members c.in_ok-initial.ensures.members c.in_ok-accepting.ensures.members made).1) c.of_five.ensures
