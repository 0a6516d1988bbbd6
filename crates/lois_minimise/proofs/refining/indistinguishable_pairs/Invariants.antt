use Rattle.std.proofs.Common.{◌≡◌, ◌-◌, ◌^◌, Bool, List, length}
use Rattle.lois_base.specs.Atom.{Atom}
use Rattle.lois_base.specs.Data.{coll, comps_of}
use Rattle.lois_base.specs.Fits.{ItemsFit}
use Rattle.lois_base.specs.Validity.{AdmitsItems, ItemsHaveBoundedWidths}
use Rattle.lois_base.specs.Values.{point}
use Rattle.lois_automata.specs.Projections.{automaton_at}
use Rattle.lois_minimise.specs.Classes.{IsCompleteDeterministicWithReach}
use Rattle.lois_minimise.proofs.Compared.{AreCompared}
use Rattle.lois_minimise.proofs.refining.indistinguishable_pairs.Given as goal

abbrev pub invariant-refining : goal.invariant-refining
invariant-refining g l = record {
  compared : (c : List Atom) → length c ≡ l.size → IsCompleteDeterministicWithReach (automaton_at (comps_of l.sets.states.now) (comps_of l.sets.letters.now) (comps_of l.sets.steps.now) (comps_of l.sets.initial.now) (comps_of l.sets.accepting.now) c) (point (coll (comps_of l.nodes)) c) →
      AreCompared (automaton_at (comps_of l.sets.states.now) (comps_of l.sets.letters.now) (comps_of l.sets.steps.now) (comps_of l.sets.initial.now) (comps_of l.sets.accepting.now) c) (point (coll (comps_of l.shares.inside)) c) (point (coll (comps_of l.shares.outside)) c);
  levels : ItemsFit l.size (comps_of l.shares.inside) × ItemsFit l.size (comps_of l.shares.outside);
  operators : (o : Bool) → AdmitsItems o (comps_of l.sets.steps.now) → AdmitsItems o (comps_of l.sets.accepting.now) → AdmitsItems o (comps_of l.nodes) → AdmitsItems o (comps_of l.shares.inside) × AdmitsItems o (comps_of l.shares.outside);
  widths : ItemsHaveBoundedWidths (comps_of l.nodes) → ItemsHaveBoundedWidths (comps_of l.shares.outside);
}

abbrev pub decreases-refining : goal.decreases-refining
decreases-refining g l = 2 ^ 64 - l.count
