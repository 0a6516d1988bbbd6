-- Where statements may stand: in which scope no rule is broken.
use Rattle.std.specs.Prelude.{◌≡◌, ℕ, ◌⊎◌, Bool, List, map}
use Rattle.lois_script.specs.Scope.{RuleD, Broken, DeclaredD, ScopeD, ExprBreaks, CondBreaks, StmtBreaks, StmtsBreak}
use Rattle.lois_script.specs.Tree.{ExprD, CondD, StmtD, StmtsD}
use Rattle.lois_interp.specs.WithinLimits.{IsWithinLimits, CondIsWithinLimits, StmtIsWithinLimits, StmtsAreWithinLimits}

abbrev pub declared_name : DeclaredD → List ℕ
declared_name d = d.name

-- Some scope has exactly these names, over atoms with an order or without one, and no rule is broken there.
pub record IsWellScopedIn (breaks : ScopeD → Broken) (formed : Type 0) (ordered : Bool) (names : List (List ℕ)) : Type 0 where
  pub scope : ScopeD
  pub named : map declared_name scope.names ≡ names
  pub order : scope.ordered ≡ ordered
  pub unbroken : (rule : RuleD) (at : ℕ) → breaks scope rule at → ⊥
  pub form : formed

abbrev pub ExprIsWellScoped : ExprD → Bool → List (List ℕ) → Type 0
ExprIsWellScoped e = IsWellScopedIn (ExprBreaks e) (IsWithinLimits e)

abbrev pub CondIsWellScoped : CondD → Bool → List (List ℕ) → Type 0
CondIsWellScoped c = IsWellScopedIn (CondBreaks c) (CondIsWithinLimits c)

abbrev pub StmtIsWellScoped : StmtD → Bool → List (List ℕ) → Type 0
StmtIsWellScoped a = IsWellScopedIn (StmtBreaks a) (StmtIsWithinLimits a)

abbrev pub BlockIsWellScoped : StmtsD → Bool → List (List ℕ) → Type 0
BlockIsWellScoped body = IsWellScopedIn (StmtsBreak body) (StmtsAreWithinLimits body)

-- a condition and a block in one scope
abbrev pub TurnIsWellScoped : CondD → StmtsD → Bool → List (List ℕ) → Type 0
TurnIsWellScoped c body =
    IsWellScopedIn (λ s rule at. CondBreaks c s rule at ⊎ StmtsBreak body s rule at) (CondIsWithinLimits c × StmtsAreWithinLimits body)
