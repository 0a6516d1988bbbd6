use Rattle.std.specs.List.{All}
use Rattle.std.specs.Prelude.{◌↔◌, Bool, List, IfSome, IsNone}
use Rattle.std.proofs.lemmas.Result.{IfOk-weaker}
use Rattle.lois_base.specs.Data.{comps_of}
use Rattle.lois_base.specs.Tree.{tree}
use Rattle.lois_base.specs.Validity.{AdmitsTerm, HasBoundedWidths}
use Rattle.lois_automata.specs.Throughout.{HoldsThroughout}
use Rattle.lois_base.specs.Values.{PointValue}
use Rattle.lois_shortest_word.specs.Common.{AcceptBothAt, AcceptNoneInCommon, IsShortestCommonWord}
use Rattle.lois_equal.specs.Distinguishing.{AcceptsOnlyFirst}
use Rattle.lois_equal.proofs.Differences.{whole_throughout, alone_throughout, others_automaton, letters_admit, letters_bounded}
use Rattle.lois_equal.proofs.Shorter.{never_alone, some_alone, some_has}
use Rattle.lois_equal.proofs.difference.find_difference.Goals as goal

pub returns-in_default-clause-none : goal.returns-in_default-clause-none
returns-in_default-clause-none g c = λ _ d k h word alone. absurd (c.in_default.ensures.none d (c.requires.automaton d k h))

pub complement-requires-clause-whole : goal.complement-requires-clause-whole
complement-requires-clause-whole g c =
    let sets = c.in-Some.sets in
    whole_throughout c.args.size c.args.under.now (tree c.args.a.now) (tree c.args.b.now) (tree c.in_ok-whole.whole) (comps_of sets.states.now) (comps_of sets.letters.now) (comps_of sets.steps.now) (comps_of sets.initial.now) (comps_of sets.accepting.now) c.in-Some.ensures.some c.requires.deterministic c.in_ok-whole.ensures.completion

pub shortest_common_word-requires-clause-other_automaton : goal.shortest_common_word-requires-clause-other_automaton
shortest_common_word-requires-clause-other_automaton g c = others_automaton c.args.size c.args.under.now (tree c.in_ok-whole.whole) (tree c.in_ok-others.others) c.in_ok-others.ensures.words

pub returns-clause-none : goal.returns-clause-none
returns-clause-none g c =
    let n = c.args.size in
    let u = c.args.under.now in
    let a = tree c.args.a.now in
    let b = tree c.args.b.now in
    let others = tree c.in_ok-others.others in
    let sets = c.in-Some.sets in
    let words : HoldsThroughout n u (λ d. (word : List PointValue) → AcceptBothAt a others d word ↔ AcceptsOnlyFirst a b d word) = alone_throughout n u a b (tree c.in_ok-whole.whole) (comps_of sets.states.now) (comps_of sets.letters.now) (comps_of sets.steps.now) (comps_of sets.initial.now) (comps_of sets.accepting.now) c.in-Some.ensures.some c.requires.deterministic c.in_ok-whole.ensures.completion others c.in_ok-others.ensures.words in
    IfOk-weaker c.shortest_common_word.result (λ o. IsNone o ↔ AcceptNoneInCommon n u a others) _ (λ o is. (never_alone n u a b others words (IsNone o) is).0) c.shortest_common_word.ensures.none

pub returns-clause-found : goal.returns-clause-found
returns-clause-found g c =
    let n = c.args.size in
    let u = c.args.under.now in
    let a = tree c.args.a.now in
    let b = tree c.args.b.now in
    let others = tree c.in_ok-others.others in
    let sets = c.in-Some.sets in
    let words : HoldsThroughout n u (λ d. (word : List PointValue) → AcceptBothAt a others d word ↔ AcceptsOnlyFirst a b d word) = alone_throughout n u a b (tree c.in_ok-whole.whole) (comps_of sets.states.now) (comps_of sets.letters.now) (comps_of sets.steps.now) (comps_of sets.initial.now) (comps_of sets.accepting.now) c.in-Some.ensures.some c.requires.deterministic c.in_ok-whole.ensures.completion others c.in_ok-others.ensures.words in
    IfOk-weaker c.shortest_common_word.result (λ o. IfSome o (IsShortestCommonWord n u a others)) _ (λ o is. some_alone n u a b others words o is) c.shortest_common_word.ensures.found

pub returns-clause-operators : goal.returns-clause-operators
returns-clause-operators g c =
    let a = tree c.args.a.now in
    let b = tree c.args.b.now in
    let r = tree c.in_ok-others.others in
    let sets = c.in-Some.sets in
    IfOk-weaker c.shortest_common_word.result (λ o. IfSome o (λ w. (p : Bool) → AdmitsTerm p a → AdmitsTerm p r → All (AdmitsTerm p) w.letters)) _ (λ o is.
    some_has (λ ts. (p : Bool) → AdmitsTerm p a → AdmitsTerm p r → All (AdmitsTerm p) ts) (λ ts. (p : Bool) → AdmitsTerm p a → AdmitsTerm p b → All (AdmitsTerm p) ts) (λ ts h p x y. h p x (c.in_ok-others.ensures.operators p (c.in_ok-whole.ensures.operators p y (letters_admit (tree c.args.a.now) (comps_of sets.states.now) (comps_of sets.letters.now) (comps_of sets.steps.now) (comps_of sets.initial.now) (comps_of sets.accepting.now) c.in-Some.ensures.some p x)))) o is) c.shortest_common_word.ensures.operators

pub returns-clause-widths : goal.returns-clause-widths
returns-clause-widths g c =
    let a = tree c.args.a.now in
    let b = tree c.args.b.now in
    let r = tree c.in_ok-others.others in
    let sets = c.in-Some.sets in
    IfOk-weaker c.shortest_common_word.result (λ o. IfSome o (λ w. HasBoundedWidths a → HasBoundedWidths r → All HasBoundedWidths w.letters)) _ (λ o is.
    some_has (λ ts. HasBoundedWidths a → HasBoundedWidths r → All HasBoundedWidths ts) (λ ts. HasBoundedWidths a → HasBoundedWidths b → All HasBoundedWidths ts) (λ ts h x y. h x (c.in_ok-others.ensures.widths (c.in_ok-whole.ensures.widths y (letters_bounded (tree c.args.a.now) (comps_of sets.states.now) (comps_of sets.letters.now) (comps_of sets.steps.now) (comps_of sets.initial.now) (comps_of sets.accepting.now) c.in-Some.ensures.some x)))) o is) c.shortest_common_word.ensures.widths
