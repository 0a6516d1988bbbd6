use Rattle.std.proofs.Common.{List, refl, subst}
use Rattle.lois_base.specs.Atom.{Atom}
use Rattle.lois_base.specs.Data.{comps_of}
use Rattle.lois_base.specs.Tree.{tree}
use Rattle.lois_base.specs.Validity.{AdmitsTerm, HasBoundedWidths}
use Rattle.lois_automata.specs.Projections.{five_of, automaton_at}
use Rattle.lois_deciders.proofs.OnlyAsked.{only_asked_then}
use Rattle.lois_meaning.specs.Automata.{Automaton}
use Rattle.lois_shortest_word.proofs.Ends.{word_is}
use Rattle.lois_shortest_word.proofs.Shorter.{word_shortened}
use Rattle.lois_shortest_word.proofs.shortest.shortest_word.Goals as goal

pub returns-in_default-clause-none : goal.returns-in_default-clause-none
returns-in_default-clause-none g c = (λ _ d k h. absurd (c.in_default.ensures.none d (c.requires.automaton d k h)), λ _. refl)

pub returns-in_err-word-clause-only_asked : goal.returns-in_err-word-clause-only_asked
returns-in_err-word-clause-only_asked g c =
    only_asked_then (λ b. (goal.Decider-dyn g (b.vtable, b.value)).kind_of b.value) (λ b. (goal.Decider-dyn g (b.vtable, b.value)).questions b.value) c.args.chosen.now c.entails.new.self c.word_of.new.chosen
    (only_asked_then (λ b. (goal.Decider-dyn g (b.vtable, b.value)).kind_of b.value) (λ b. (goal.Decider-dyn g (b.vtable, b.value)).questions b.value) c.args.chosen.now c.empty.new.chosen c.entails.new.self c.empty.ensures.only_asked c.entails.ensures.only_asked) c.word_of.ensures.only_asked

pub returns-clause-found : goal.returns-clause-found
returns-clause-found g c =
    let sets = c.in-Some.sets in
    let m : List Atom → Automaton = automaton_at (comps_of sets.states.now) (comps_of sets.letters.now) (comps_of sets.steps.now) (comps_of sets.initial.now) (comps_of sets.accepting.now) in
    let shorter = c.in_ok-shorter.shorter in
    word_is (tree c.args.a.now) (comps_of sets.states.now) (comps_of sets.letters.now) (comps_of sets.steps.now) (comps_of sets.initial.now) (comps_of sets.accepting.now) c.in-Some.ensures.some c.args.size c.args.under.now c.requires.automaton shorter
    (word_shortened c.args.size c.args.under.now m c.in_ok-word.word shorter c.in_ok-word.ensures.word c.in_ok-shorter.ensures.shortened) c.in_ok-shorter.ensures.used

pub returns-clause-operators : goal.returns-clause-operators
returns-clause-operators g c = λ o h.
    let five : AdmitsTerm o (five_of (comps_of c.in-Some.sets.states.now) (comps_of c.in-Some.sets.letters.now) (comps_of c.in-Some.sets.steps.now) (comps_of c.in-Some.sets.initial.now) (comps_of c.in-Some.sets.accepting.now)) = subst (AdmitsTerm o) c.in-Some.ensures.some h in
    c.in_ok-shorter.ensures.shortened.operators o (c.in_ok-word.ensures.operators o five.1.1.0)

pub returns-clause-widths : goal.returns-clause-widths
returns-clause-widths g c = λ h.
    let five : HasBoundedWidths (five_of (comps_of c.in-Some.sets.states.now) (comps_of c.in-Some.sets.letters.now) (comps_of c.in-Some.sets.steps.now) (comps_of c.in-Some.sets.initial.now) (comps_of c.in-Some.sets.accepting.now)) = subst HasBoundedWidths c.in-Some.ensures.some h in
    c.in_ok-shorter.ensures.shortened.widths (c.in_ok-word.ensures.widths five.2.1.1.0)

pub drop_unused_numbers-requires-clause-count : goal.drop_unused_numbers-requires-clause-count
drop_unused_numbers-requires-clause-count g c = c.in_ok-word.ensures.word.count

pub drop_unused_numbers-requires-clause-levels : goal.drop_unused_numbers-requires-clause-levels
drop_unused_numbers-requires-clause-levels g c = c.in_ok-word.ensures.word.levels

pub returns-in_err-shorter-clause-only_asked : goal.returns-in_err-shorter-clause-only_asked
returns-in_err-shorter-clause-only_asked g c =
    only_asked_then (λ b. (goal.Decider-dyn g (b.vtable, b.value)).kind_of b.value) (λ b. (goal.Decider-dyn g (b.vtable, b.value)).questions b.value) c.args.chosen.now c.entails.new.self c.word_of.new.chosen
    (only_asked_then (λ b. (goal.Decider-dyn g (b.vtable, b.value)).kind_of b.value) (λ b. (goal.Decider-dyn g (b.vtable, b.value)).questions b.value) c.args.chosen.now c.empty.new.chosen c.entails.new.self c.empty.ensures.only_asked c.entails.ensures.only_asked) c.word_of.ensures.only_asked

pub returns-clause-only_asked : goal.returns-clause-only_asked
returns-clause-only_asked g c =
    only_asked_then (λ b. (goal.Decider-dyn g (b.vtable, b.value)).kind_of b.value) (λ b. (goal.Decider-dyn g (b.vtable, b.value)).questions b.value) c.args.chosen.now c.entails.new.self c.word_of.new.chosen
    (only_asked_then (λ b. (goal.Decider-dyn g (b.vtable, b.value)).kind_of b.value) (λ b. (goal.Decider-dyn g (b.vtable, b.value)).questions b.value) c.args.chosen.now c.empty.new.chosen c.entails.new.self c.empty.ensures.only_asked c.entails.ensures.only_asked) c.word_of.ensures.only_asked
