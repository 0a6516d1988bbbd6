use Rattle.std.proofs.Common.{◌≡◌, suc, ◌+◌, ◌-◌, ◌<◌, Bool, List, [], length, get_or, refl, sym, ap, ◌∙◌, subst, arith}
use Rattle.std.proofs.lemmas.List.{length-map}
use Rattle.std.specs.List.{All}
use Rattle.lois_base.specs.Atom.{Atom}
use Rattle.lois_base.specs.Data.{comps_of}
use Rattle.lois_base.specs.Tree.{tree}
use Rattle.lois_base.specs.Validity.{AdmitsTerm, AdmitsItems, HasBoundedWidths, ItemsHaveBoundedWidths}
use Rattle.lois_base.proofs.Viewed.{item_has, item_at}
use Rattle.lois_algebra.specs.Gathered.{IsAmong}
use Rattle.lois_automata.specs.Projections.{automaton_at}
use Rattle.lois_deciders.proofs.Oracle.{some_is, none_is}
use Rattle.lois_deciders.proofs.OnlyAsked.{only_asked_then}
use Rattle.lois_meaning.specs.Automata.{Automaton}
use Rattle.lois_shortest_word.specs.Layers.{IsLayer, IsReadable}
use Rattle.lois_shortest_word.specs.Steps.{IsSymbolicStep}
use Rattle.lois_shortest_word.specs.Walks.{IsWay, HaveAtLeast}
use Rattle.lois_shortest_word.proofs.Ends.{word_ends}
use Rattle.lois_shortest_word.proofs.Ways.{lengthened_all, lengthened_count, way_goes, way_leads}
use Rattle.lois_shortest_word.proofs.walking.word_of.Goals as goal

pub walking-init : goal.walking-init
walking-init g c =
    let n = c.args.size in
    let u = c.args.under.now in
    let m : List Atom → Automaton = automaton_at (comps_of c.args.sets.states.now) (comps_of c.args.sets.letters.now) (comps_of c.args.sets.steps.now) (comps_of c.args.sets.initial.now) (comps_of c.args.sets.accepting.now) in
    let found = c.in_ok-found.found in
    let none : c.new-letters.result ≡ [] = c.new-letters.ensures in
    let count : length found.layers ≡ length c.as_slice-all.result.now = ap length (sym c.as_slice-all.ensures) ∙ length-map c.as_slice-all.result.now tree in
    let total : length found.layers ≡ length c.new-letters.result + length c.as_slice-all.result.now = omega (arith, count, ap length none) in
    record {
      way = subst (λ z. IsWay n u m z c.new-letters.result found.stage) count (subst (λ z. IsWay n u m (length found.layers) z found.stage) (sym none) c.in_ok-found.ensures.way);
      within = omega arith;
      shortest = subst (HaveAtLeast n u m) total c.in_ok-found.ensures.shortest;
      state = c.in_ok-found.ensures.operators;
      operators = λ o h. subst (All (AdmitsTerm o)) (sym none) (λ j d below. absurd (omega arith));
      widths = λ h. subst (All HasBoundedWidths) (sym none) (λ j d below. absurd (omega arith));
      only_asked = c.nearest.ensures.only_asked;
    }

pub step_from-requires-clause-stage : goal.step_from-requires-clause-stage
step_from-requires-clause-stage g c = c.walking.invariant.way.stage

pub step_from-requires-clause-state_operators : goal.step_from-requires-clause-state_operators
step_from-requires-clause-state_operators g c = c.walking.invariant.state

pub step_from-requires-clause-layer : goal.step_from-requires-clause-layer
step_from-requires-clause-layer g c =
    let below : c.walking.left - 1 < length c.as_slice-all.result.now = omega (arith, c.walking-test.true, c.walking.invariant.within) in
    item_has tree (IsReadable g.T.Structure.ordered c.args.size) c.as_slice-all.result.now c.in_ok-found.found.layers (c.walking.left - 1) c.index-all-left.result c.as_slice-all.ensures below c.index-all-left.is c.in_ok-found.ensures.readable

pub unreachable-requires : goal.unreachable-requires
unreachable-requires g c =
    let n = c.args.size in
    let u = c.args.under.now in
    let s = comps_of c.args.sets.states.now in
    let l = comps_of c.args.sets.letters.now in
    let t = comps_of c.args.sets.steps.now in
    let i = comps_of c.args.sets.initial.now in
    let f = comps_of c.args.sets.accepting.now in
    let m : List Atom → Automaton = automaton_at s l t i f in
    let layers = c.in_ok-found.found.layers in
    let items = c.as_slice-all.result.now in
    let k = c.walking.left - 1 in
    let layer = tree c.index-all-left.result in
    let below : c.walking.left - 1 < length c.as_slice-all.result.now = omega (arith, c.walking-test.true, c.walking.invariant.within) in
    let inside : c.walking.left - 1 < length layers = omega (arith, below, ap length c.as_slice-all.ensures, length-map c.as_slice-all.result.now tree) in
    let more : c.walking.left ≡ suc (c.walking.left - 1) = omega (arith, c.walking-test.true) in
    let at : layer ≡ get_or layers k layer = item_at tree items layers k c.index-all-left.result c.as_slice-all.ensures below c.index-all-left.is in
    let is : IsLayer n m k layer = subst (IsLayer n m k) (sym at) (c.in_ok-found.ensures.layers k inside layer) in
    way_leads s l t i f n u k layer c.walking.letters c.walking.here is (subst (λ z. IsWay n u m z c.walking.letters c.walking.here) more c.walking.invariant.way) (c.in_ok-step.ensures.none (none_is c.in_ok-step.field-0 c.in_default.is))

pub lengthened-requires-clause-letters : goal.lengthened-requires-clause-letters
lengthened-requires-clause-letters g c = c.walking.invariant.way.letter_levels

pub walking-preserved : goal.walking-preserved
walking-preserved g c =
    let n = c.args.size in
    let u = c.args.under.now in
    let s = comps_of c.args.sets.states.now in
    let l = comps_of c.args.sets.letters.now in
    let t = comps_of c.args.sets.steps.now in
    let i = comps_of c.args.sets.initial.now in
    let f = comps_of c.args.sets.accepting.now in
    let m : List Atom → Automaton = automaton_at s l t i f in
    let layers = c.in_ok-found.found.layers in
    let items = c.as_slice-all.result.now in
    let k = c.walking.left - 1 in
    let layer = tree c.index-all-left.result in
    let was = c.walking.invariant in
    let here = c.walking.here in
    let letters = c.walking.letters in
    let step = c.in-Some.step in
    let longer = c.in_ok-longer.longer in
    let long = c.in_ok-longer.ensures.lengthened in
    let from = n + here.more in
    let by = step.stage.more - here.more in
    let below : c.walking.left - 1 < length c.as_slice-all.result.now = omega (arith, c.walking-test.true, was.within) in
    let inside : c.walking.left - 1 < length layers = omega (arith, below, ap length c.as_slice-all.ensures, length-map c.as_slice-all.result.now tree) in
    let more : c.walking.left ≡ suc (c.walking.left - 1) = omega (arith, c.walking-test.true) in
    let at : layer ≡ get_or layers k layer = item_at tree items layers k c.index-all-left.result c.as_slice-all.ensures below c.index-all-left.is in
    let is : IsLayer n m k layer = subst (IsLayer n m k) (sym at) (c.in_ok-found.ensures.layers k inside layer) in
    let way : IsWay n u m (suc k) letters here = subst (λ z. IsWay n u m z letters here) more was.way in
    let taken = some_is (IsSymbolicStep n here (IsAmong t) layer) c.in_ok-step.field-0 step c.in-Some.is c.in_ok-step.ensures.some in
    let counted : length longer ≡ length letters + 1 = lengthened_count from by letters (tree step.letter) longer long in
    let total : length letters + c.walking.left ≡ length longer + (c.walking.left - 1) = omega (arith, counted, more) in
    record {
      way = way_goes s l t i f n u k layer letters longer here step is way taken long;
      within = omega (arith, below);
      shortest = subst (HaveAtLeast n u m) total was.shortest;
      state = some_is (λ r. AdmitsTerm g.T.Structure.ordered (tree r.stage.state)) c.in_ok-step.field-0 step c.in-Some.is c.in_ok-step.ensures.state_operators;
      operators = λ o h. lengthened_all from by letters (tree step.letter) longer long (AdmitsTerm o) (AdmitsTerm o) (λ x r moved p. moved.operators o p) (was.operators o h)
          (some_is (λ r. (o : Bool) → AdmitsItems o (comps_of c.args.sets.steps.now) → AdmitsTerm o (tree r.letter)) c.in_ok-step.field-0 step c.in-Some.is c.in_ok-step.ensures.operators o h);
      widths = λ h. lengthened_all from by letters (tree step.letter) longer long HasBoundedWidths HasBoundedWidths (λ x r moved p. moved.widths p) (was.widths h)
          (some_is (λ r. ItemsHaveBoundedWidths (comps_of c.args.sets.steps.now) → HasBoundedWidths (tree r.letter)) c.in_ok-step.field-0 step c.in-Some.is c.in_ok-step.ensures.widths h);
      only_asked = only_asked_then (λ b. (goal.Decider-dyn g (b.vtable, b.value)).kind_of b.value) (λ b. (goal.Decider-dyn g (b.vtable, b.value)).questions b.value) c.args.chosen.now c.walking.chosen c.step_from.new.chosen was.only_asked c.step_from.ensures.only_asked;
    }

pub returns-clause-word : goal.returns-clause-word
returns-clause-word g c =
    let n = c.args.size in
    let u = c.args.under.now in
    let m : List Atom → Automaton = automaton_at (comps_of c.args.sets.states.now) (comps_of c.args.sets.letters.now) (comps_of c.args.sets.steps.now) (comps_of c.args.sets.initial.now) (comps_of c.args.sets.accepting.now) in
    let here = c.walking.here in
    let letters = c.walking.letters in
    let was = c.walking.invariant in
    let end : c.walking.left ≡ 0 = omega (arith, c.walking-test.false) in
    let total : length letters + c.walking.left ≡ length letters = omega (arith, end) in
    word_ends n u m here (record { sample = here.sample; letters = letters }) (subst (λ z. IsWay n u m z letters here) end was.way) refl (subst (HaveAtLeast n u m) total was.shortest)
