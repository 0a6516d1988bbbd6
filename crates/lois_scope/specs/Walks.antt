-- What a walk over a part of a script does: it goes to what is behind the part, and keeps the first break.
use Rattle.std.specs.Prelude.{◌≡◌, ℕ, ◌≤◌, Bool, true, false, ◌⊎◌, suc, List, take, length, Option, nat_lt}
use Rattle.std.specs.List.{All}
use Rattle.lois_script.specs.Scope.{RuleD, order_in_equality, print_in_loop, ScopeD, role_of, with_binder, entered, BindingBreaks, CondBreaks}
use Rattle.lois_script.specs.Tree.{BindingD, CondD}
use Rattle.lois_scope.specs.InScope.{MadeD, made_of, roles_inside}
use Rattle.lois_scope.specs.Breaks.{BreakD, kept_of, KeepsLeast}
use Rattle.lois_scope.specs.declared.names.Made.{Made}
use Rattle.lois_scope.specs.declared.names.Made.TheVariants.{Variable, Fixed}
use Rattle.lois_scope.specs.declared.walk.Walk.{Walk}

-- the place of a walk: the names, the loops around it, and whether the script has an order
pub record StateD : Type 0 where
  pub made : List MadeD
  pub loops : ℕ
  pub ordered : Bool

pub record SeenD : Type 0 where
  pub state : StateD
  pub kept : Option BreakD

abbrev pub state_of : Walk → StateD
state_of w = record { made = made_of w.names; loops = w.loops; ordered = w.ordered }

abbrev pub seen : Walk → SeenD
seen w = record { state = state_of w; kept = kept_of w.first }

abbrev pub scope_of : StateD → ScopeD
scope_of s = record { names = roles_inside s.loops s.made; in_loop = nat_lt 0 s.loops; ordered = s.ordered }

-- no variable was made inside more loops than are around the place
abbrev pub IsMadeWithin : ℕ → Made → Type 0
IsMadeWithin loops (Variable own) = own ≤ loops
IsMadeWithin loops Fixed = Unit {0}

abbrev pub IsWithin : StateD → Type 0
IsWithin s = All (λ d. IsMadeWithin s.loops d.made) s.made

-- two scopes with the same names, each in the same role
pub record IsAlike (s t : ScopeD) : Type 0 where
  pub names : (x : List ℕ) → role_of x s.names ≡ role_of x t.names
  pub in_loop : s.in_loop ≡ t.in_loop
  pub ordered : s.ordered ≡ t.ordered

-- The walk is back where it was, and keeps the least of what it had kept and of the breaks of the part.
pub record Walks (P : ScopeD → RuleD → ℕ → Type 0) (old new : SeenD) : Type 0 where
  pub state : new.state ≡ old.state
  pub first : KeepsLeast (P (scope_of old.state)) old.kept new.kept

-- The walk stands behind the part, with the names that were in scope and those that the part adds.
pub record AdvancesScope (P : ScopeD → RuleD → ℕ → Type 0) (behind : ScopeD → ScopeD) (old new : SeenD) : Type 0 where
  pub made : take (length old.state.made) new.state.made ≡ old.state.made
  pub loops : new.state.loops ≡ old.state.loops
  pub ordered : new.state.ordered ≡ old.state.ordered
  pub within : IsWithin old.state → IsWithin new.state
  pub scope : IsAlike (scope_of new.state) (behind (scope_of old.state))
  pub first : KeepsLeast (P (scope_of old.state)) old.kept new.kept

-- the breaks at `<` and at `print`
abbrev pub ComparisonBreaks : ℕ → ScopeD → RuleD → ℕ → Type 0
ComparisonBreaks p s rule at = (rule ≡ order_in_equality) × (at ≡ p) × (s.ordered ≡ false)

abbrev pub PrintBreaks : ℕ → ScopeD → RuleD → ℕ → Type 0
PrintBreaks p s rule at = (rule ≡ print_in_loop) × (at ≡ p) × (s.in_loop ≡ true)

-- The walk stands in a loop, behind its condition.
pub record Enters (b : BindingD) (c : CondD) (old new : SeenD) : Type 0 where
  pub made : take (length old.state.made) new.state.made ≡ old.state.made
  pub loops : new.state.loops ≡ suc old.state.loops
  pub ordered : new.state.ordered ≡ old.state.ordered
  pub within : IsWithin new.state
  pub scope : IsAlike (scope_of new.state) (with_binder b (entered (scope_of old.state)))
  pub first : KeepsLeast
      (λ rule at. BindingBreaks b (scope_of old.state) rule at ⊎ CondBreaks c (with_binder b (entered (scope_of old.state))) rule at)
      old.kept new.kept
