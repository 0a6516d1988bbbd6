use Rattle.std.proofs.Common.{◌≡◌, ℕ, ◌<◌, List, get_or}
use Rattle.lois_base.specs.Theory.{IsSatisfiable}
use Rattle.lois_base.specs.declared.guards.Lit.{Lit}
use Rattle.lois_deciders.specs.QuestionCounts.{IsNoLower}
use Rattle.lois_deciders.proofs.Oracle.{HasAsked}
use Rattle.lois_deciders.proofs.chosen.put.Given as goal

abbrev pub invariant-loop-cube : goal.invariant-loop-cube
invariant-loop-cube g l = record {
  none : (k : ℕ) (d : List Lit) → k < l.cube-index → IsSatisfiable l.size (get_or l.c k d) → ⊥;
  kind : (goal.Decider-dyn g (l.decider.vtable, l.decider.value)).kind_of l.decider.value ≡ (goal.Decider-dyn g (l.fn.decider.vtable, l.fn.decider.value)).kind_of l.fn.decider.value;
  more : IsNoLower ((goal.Decider-dyn g (l.fn.decider.vtable, l.fn.decider.value)).questions l.fn.decider.value) ((goal.Decider-dyn g (l.decider.vtable, l.decider.value)).questions l.decider.value);
  asked : HasAsked l.cube-index ((goal.Decider-dyn g (l.fn.decider.vtable, l.fn.decider.value)).questions l.fn.decider.value) ((goal.Decider-dyn g (l.decider.vtable, l.decider.value)).questions l.decider.value);
}
