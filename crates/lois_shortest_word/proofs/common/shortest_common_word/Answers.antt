use Rattle.std.proofs.Common.{List, Bool, refl, ap, subst}
use Rattle.lois_base.specs.Atom.{Atom}
use Rattle.lois_base.specs.Data.{coll, comps_of, no_comps}
use Rattle.lois_base.specs.Tree.{tree}
use Rattle.lois_base.specs.Validity.{AdmitsTerm, AdmitsItems, HasBoundedWidths, ItemsHaveBoundedWidths}
use Rattle.lois_automata.specs.Built.{ArePairs}
use Rattle.lois_automata.specs.Projections.{five_of, automaton_at}
use Rattle.lois_deciders.proofs.Oracle.{some_is, none_is}
use Rattle.lois_meaning.specs.Automata.{Automaton}
use Rattle.lois_shortest_word.specs.Common.{IsShortestCommonWord}
use Rattle.lois_shortest_word.specs.Rounds.{LeadsToCommon}
use Rattle.lois_shortest_word.specs.Walks.{IsWordOf}
use Rattle.lois_shortest_word.proofs.CommonWords.{none_in_common, common_word, some_is_common}
use Rattle.lois_shortest_word.proofs.Shorter.{word_shortened}
use Rattle.lois_shortest_word.proofs.common.shortest_common_word.Goals as goal

pub returns-in_default-clause-none : goal.returns-in_default-clause-none
returns-in_default-clause-none g c = (λ _ d k h word both. absurd (c.in_default.ensures.none d (c.requires.automaton d k h)), λ _. refl)

pub returns-in_default-five-clause-none : goal.returns-in_default-five-clause-none
returns-in_default-five-clause-none g c = (λ _ d k h word both. absurd (c.in_default-five.ensures.none d (c.requires.other_automaton d k h)), λ _. refl)

pub first_meeting-requires-clause-pairs : goal.first_meeting-requires-clause-pairs
first_meeting-requires-clause-pairs g c =
    subst (ArePairs c.args.size (coll (comps_of c.in-Some.one.initial.now)) (coll (comps_of c.in-Some-five.other.initial.now))) (ap tree c.in-Coll.is) c.in_ok-starts.ensures.members

pub returns-in_default-3-clause-none : goal.returns-in_default-3-clause-none
returns-in_default-3-clause-none g c =
    let one = c.in-Some.one in
    let other = c.in-Some-five.other in
    (λ _. none_in_common (tree c.args.a.now) (tree c.args.b.now) (comps_of one.states.now) (comps_of one.letters.now) (comps_of one.steps.now) (comps_of one.initial.now) (comps_of one.accepting.now) (comps_of other.states.now) (comps_of other.letters.now) (comps_of other.steps.now) (comps_of other.initial.now) (comps_of other.accepting.now) c.in-Some.ensures.some c.in-Some-five.ensures.some c.args.size c.args.under.now c.requires.automaton c.requires.other_automaton (c.in_ok-met.ensures.none (none_is c.in_ok-met.field-0 c.in_default-3.is)), λ _. refl)

pub returns-clause-none : goal.returns-clause-none
returns-clause-none g c =
    let n = c.args.size in
    let u = c.args.under.now in
    let one = c.in-Some.one in
    let other = c.in-Some-five.other in
    let starts = comps_of c.in-Coll.starts in
    let met = c.in-Some-2.met in
    let m : List Atom → Automaton = automaton_at no_comps no_comps (comps_of met.steps) starts (comps_of met.common) in
    let leads : LeadsToCommon n u (automaton_at (comps_of one.states.now) (comps_of one.letters.now) (comps_of one.steps.now) (comps_of one.initial.now) (comps_of one.accepting.now)) (automaton_at (comps_of other.states.now) (comps_of other.letters.now) (comps_of other.steps.now) (comps_of other.initial.now) (comps_of other.accepting.now)) m = some_is (λ r. LeadsToCommon n u (automaton_at (comps_of one.states.now) (comps_of one.letters.now) (comps_of one.steps.now) (comps_of one.initial.now) (comps_of one.accepting.now)) (automaton_at (comps_of other.states.now) (comps_of other.letters.now) (comps_of other.steps.now) (comps_of other.initial.now) (comps_of other.accepting.now)) (automaton_at no_comps no_comps (comps_of r.steps) starts (comps_of r.common))) c.in_ok-met.field-0 met c.in-Some-2.is c.in_ok-met.ensures.some in
    let word : IsWordOf n u m c.in_ok-word.word = subst (λ z. IsWordOf n u (automaton_at (comps_of z) (comps_of z) (comps_of met.steps) starts (comps_of met.common)) c.in_ok-word.word) c.new-none.ensures c.in_ok-word.ensures.word in
    let shorter = c.in_ok-shorter.shorter in
    let is : IsShortestCommonWord n u (tree c.args.a.now) (tree c.args.b.now) shorter = common_word (tree c.args.a.now) (tree c.args.b.now) (comps_of one.states.now) (comps_of one.letters.now) (comps_of one.steps.now) (comps_of one.initial.now) (comps_of one.accepting.now) (comps_of other.states.now) (comps_of other.letters.now) (comps_of other.steps.now) (comps_of other.initial.now) (comps_of other.accepting.now) c.in-Some.ensures.some c.in-Some-five.ensures.some c.args.size c.args.under.now c.requires.automaton c.requires.other_automaton m shorter leads (word_shortened n u m c.in_ok-word.word shorter word c.in_ok-shorter.ensures.shortened) c.in_ok-shorter.ensures.used in
    some_is_common (tree c.args.a.now) (tree c.args.b.now) (comps_of one.states.now) (comps_of one.letters.now) (comps_of one.steps.now) (comps_of one.initial.now) (comps_of one.accepting.now) (comps_of other.states.now) (comps_of other.letters.now) (comps_of other.steps.now) (comps_of other.initial.now) (comps_of other.accepting.now) c.in-Some.ensures.some c.in-Some-five.ensures.some c.args.size c.args.under.now c.requires.automaton c.requires.other_automaton shorter is

pub returns-clause-found : goal.returns-clause-found
returns-clause-found g c =
    let n = c.args.size in
    let u = c.args.under.now in
    let one = c.in-Some.one in
    let other = c.in-Some-five.other in
    let starts = comps_of c.in-Coll.starts in
    let met = c.in-Some-2.met in
    let m : List Atom → Automaton = automaton_at no_comps no_comps (comps_of met.steps) starts (comps_of met.common) in
    let leads : LeadsToCommon n u (automaton_at (comps_of one.states.now) (comps_of one.letters.now) (comps_of one.steps.now) (comps_of one.initial.now) (comps_of one.accepting.now)) (automaton_at (comps_of other.states.now) (comps_of other.letters.now) (comps_of other.steps.now) (comps_of other.initial.now) (comps_of other.accepting.now)) m = some_is (λ r. LeadsToCommon n u (automaton_at (comps_of one.states.now) (comps_of one.letters.now) (comps_of one.steps.now) (comps_of one.initial.now) (comps_of one.accepting.now)) (automaton_at (comps_of other.states.now) (comps_of other.letters.now) (comps_of other.steps.now) (comps_of other.initial.now) (comps_of other.accepting.now)) (automaton_at no_comps no_comps (comps_of r.steps) starts (comps_of r.common))) c.in_ok-met.field-0 met c.in-Some-2.is c.in_ok-met.ensures.some in
    let word : IsWordOf n u m c.in_ok-word.word = subst (λ z. IsWordOf n u (automaton_at (comps_of z) (comps_of z) (comps_of met.steps) starts (comps_of met.common)) c.in_ok-word.word) c.new-none.ensures c.in_ok-word.ensures.word in
    let shorter = c.in_ok-shorter.shorter in
    let is : IsShortestCommonWord n u (tree c.args.a.now) (tree c.args.b.now) shorter = common_word (tree c.args.a.now) (tree c.args.b.now) (comps_of one.states.now) (comps_of one.letters.now) (comps_of one.steps.now) (comps_of one.initial.now) (comps_of one.accepting.now) (comps_of other.states.now) (comps_of other.letters.now) (comps_of other.steps.now) (comps_of other.initial.now) (comps_of other.accepting.now) c.in-Some.ensures.some c.in-Some-five.ensures.some c.args.size c.args.under.now c.requires.automaton c.requires.other_automaton m shorter leads (word_shortened n u m c.in_ok-word.word shorter word c.in_ok-shorter.ensures.shortened) c.in_ok-shorter.ensures.used in
    is

pub returns-clause-operators : goal.returns-clause-operators
returns-clause-operators g c = λ o x y.
    let one = c.in-Some.one in
    let other = c.in-Some-five.other in
    let steps = comps_of one.steps.now in
    let steps' = comps_of other.steps.now in
    let starts = comps_of c.in-Coll.starts in
    let five : AdmitsTerm o (five_of (comps_of one.states.now) (comps_of one.letters.now) (comps_of one.steps.now) (comps_of one.initial.now) (comps_of one.accepting.now)) = subst (AdmitsTerm o) c.in-Some.ensures.some x in
    let five' : AdmitsTerm o (five_of (comps_of other.states.now) (comps_of other.letters.now) (comps_of other.steps.now) (comps_of other.initial.now) (comps_of other.accepting.now)) = subst (AdmitsTerm o) c.in-Some-five.ensures.some y in
    let begins : AdmitsTerm o (coll starts) = subst (AdmitsTerm o) (ap tree c.in-Coll.is) (c.in_ok-starts.ensures.operators o five.1.1.1.0 five'.1.1.1.0) in
    let made = some_is (λ r. (o : Bool) → AdmitsItems o starts → AdmitsItems o steps → AdmitsItems o steps' → AdmitsItems o (comps_of r.steps)) c.in_ok-met.field-0 c.in-Some-2.met c.in-Some-2.is c.in_ok-met.ensures.operators in
    c.in_ok-shorter.ensures.shortened.operators o (c.in_ok-word.ensures.operators o (made o begins five.1.1.0 five'.1.1.0))

pub returns-clause-widths : goal.returns-clause-widths
returns-clause-widths g c = λ x y.
    let one = c.in-Some.one in
    let other = c.in-Some-five.other in
    let steps = comps_of one.steps.now in
    let steps' = comps_of other.steps.now in
    let five : HasBoundedWidths (five_of (comps_of one.states.now) (comps_of one.letters.now) (comps_of one.steps.now) (comps_of one.initial.now) (comps_of one.accepting.now)) = subst HasBoundedWidths c.in-Some.ensures.some x in
    let five' : HasBoundedWidths (five_of (comps_of other.states.now) (comps_of other.letters.now) (comps_of other.steps.now) (comps_of other.initial.now) (comps_of other.accepting.now)) = subst HasBoundedWidths c.in-Some-five.ensures.some y in
    let made = some_is (λ r. ItemsHaveBoundedWidths steps → ItemsHaveBoundedWidths steps' → ItemsHaveBoundedWidths (comps_of r.steps)) c.in_ok-met.field-0 c.in-Some-2.met c.in-Some-2.is c.in_ok-met.ensures.widths in
    c.in_ok-shorter.ensures.shortened.widths (c.in_ok-word.ensures.widths (made five.2.1.1.0 five'.2.1.1.0))
