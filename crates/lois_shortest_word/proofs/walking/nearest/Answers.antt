use Rattle.std.proofs.Common.{◌≡◌, suc, ◌+◌, List, [], ◌∷◌, ◌++◌, length, length-append, refl, sym, ap, subst, arith}
use Rattle.std.proofs.lemmas.List.Elements.{All-push}
use Rattle.std.specs.List.{All}
use Rattle.lois_base.specs.Atom.{Atom}
use Rattle.lois_base.specs.Data.{coll, comps_of}
use Rattle.lois_base.specs.Fits.{ItemsFit}
use Rattle.lois_base.specs.Tree.{tree}
use Rattle.lois_base.specs.Validity.{AdmitsItems}
use Rattle.lois_algebra.specs.Gathered.{IsAmong}
use Rattle.lois_automata.specs.Projections.{automaton_at}
use Rattle.lois_deciders.proofs.Oracle.{some_is, none_is}
use Rattle.lois_deciders.proofs.OnlyAsked.{only_asked_nothing, only_asked_then}
use Rattle.lois_meaning.specs.Automata.{Automaton}
use Rattle.lois_shortest_word.specs.Layers.{IsLayer, IsReadable, AreLayers}
use Rattle.lois_shortest_word.specs.SymbolicStates.{IsInitialSymbolicState}
use Rattle.lois_shortest_word.specs.Walks.{HaveAtLeast}
use Rattle.lois_shortest_word.proofs.Sources.{no_layers, first_layer, next_layer, layers_push}
use Rattle.lois_shortest_word.proofs.Ways.{none_shorter, way_begins, none_as_short}
use Rattle.lois_shortest_word.proofs.walking.nearest.Goals as goal

pub layering-init : goal.layering-init
layering-init g c =
    let n = c.args.size in
    let u = c.args.under.now in
    let o = g.T.Structure.ordered in
    let s = comps_of c.args.sets.states.now in
    let l = comps_of c.args.sets.letters.now in
    let t = comps_of c.args.sets.steps.now in
    let i = comps_of c.args.sets.initial.now in
    let f = comps_of c.args.sets.accepting.now in
    let m : List Atom → Automaton = automaton_at s l t i f in
    let none : c.new-layers.result ≡ [] = c.new-layers.ensures in
    let copied = c.in_ok-copy.ensures in
    record {
      layers = subst (AreLayers n m) (sym none) (no_layers n m);
      readable = subst (All (IsReadable o n)) (sym none) (λ j d below. absurd (omega arith));
      layer = subst (λ z. IsLayer n m (length z) (coll (comps_of c.in_ok-copy.field-0))) (sym none) (subst (λ z. IsLayer n m 0 (coll (comps_of z))) (sym copied) (first_layer s l t i f n));
      layer_readable = record {
        set = (comps_of c.in_ok-copy.field-0, refl);
        levels = subst (λ z. ItemsFit n (comps_of z)) (sym copied) c.requires.accepting.levels;
        operators = subst (λ z. AdmitsItems o (comps_of z)) (sym copied) c.requires.accepting.operators;
      };
      shortest = subst (λ z. HaveAtLeast n u m (length z)) (sym none) (none_shorter s l t i f n u);
      only_asked = only_asked_nothing (λ b. (goal.Decider-dyn g (b.vtable, b.value)).kind_of b.value) (λ b. (goal.Decider-dyn g (b.vtable, b.value)).questions b.value) c.args.chosen.now;
    }

pub returns-in-Some-clause-way : goal.returns-in-Some-clause-way
returns-in-Some-clause-way g c =
    let n = c.args.size in
    let u = c.args.under.now in
    let sets = c.args.sets in
    let layer = tree c.layering.layer in
    way_begins (comps_of sets.states.now) (comps_of sets.letters.now) (comps_of sets.steps.now) (comps_of sets.initial.now) (comps_of sets.accepting.now) n u (length c.layering.layers) layer c.in-Some.stage c.layering.invariant.layer
    (some_is (IsInitialSymbolicState n u (IsAmong (comps_of sets.initial.now)) layer) c.in_ok-stage.field-0 c.in-Some.stage c.in-Some.is c.in_ok-stage.ensures.some)

pub layering-preserved : goal.layering-preserved
layering-preserved g c =
    let n = c.args.size in
    let u = c.args.under.now in
    let o = g.T.Structure.ordered in
    let s = comps_of c.args.sets.states.now in
    let l = comps_of c.args.sets.letters.now in
    let t = comps_of c.args.sets.steps.now in
    let i = comps_of c.args.sets.initial.now in
    let f = comps_of c.args.sets.accepting.now in
    let m : List Atom → Automaton = automaton_at s l t i f in
    let before = c.layering.layers in
    let after = c.push.new.self in
    let layer = tree c.layering.layer in
    let next = tree c.in_ok-next.next in
    let was = c.layering.invariant in
    let pushed : after ≡ before ++ layer ∷ [] = c.in_ok-push.ensures.ok in
    let count : suc (length before) ≡ length after = omega (arith, ap length pushed, length-append before (layer ∷ [])) in
    let one_more : length before + 1 ≡ length after = omega (arith, count) in
    record {
      layers = subst (AreLayers n m) (sym pushed) (layers_push n m before layer was.layers was.layer);
      readable = subst (All (IsReadable o n)) (sym pushed) (All-push (IsReadable o n) before layer was.readable was.layer_readable);
      layer = subst (λ z. IsLayer n m z next) count (next_layer s l t i f n (length before) layer next was.layer c.in_ok-next.ensures.members);
      layer_readable = c.in_ok-next.ensures.readable;
      shortest = subst (HaveAtLeast n u m) one_more (none_as_short s l t i f n u (length before) layer was.layer (c.in_ok-stage.ensures.none (none_is c.in_ok-stage.field-0 c.in_default.is)) was.shortest);
      only_asked = only_asked_then (λ b. (goal.Decider-dyn g (b.vtable, b.value)).kind_of b.value) (λ b. (goal.Decider-dyn g (b.vtable, b.value)).questions b.value) c.args.chosen.now c.layering.chosen c.initial_state.new.chosen was.only_asked c.initial_state.ensures.only_asked;
    }
