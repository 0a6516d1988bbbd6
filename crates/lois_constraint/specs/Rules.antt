-- What each literal of an answer obeys where each literal of the arguments does.
use Rattle.std.specs.Prelude.{ℕ, Bool, List}
use Rattle.std.specs.List.{All}
use Rattle.lois_base.specs.Fits.{LitFits}
use Rattle.lois_base.specs.Validity.{AdmitsLit, IsStrictLit}
use Rattle.lois_base.specs.UsedLevels.{LitUsesOnly}
use Rattle.lois_base.specs.declared.guards.Lit.{Lit}

-- to use only levels that a constraint uses, to use only levels below a bound, to have an operator that is admitted, to have another one than `<=`
pub data Rule : Type 0 where
  uses : List (List Lit) → Rule
  fits : ℕ → Rule
  admits : Bool → Rule
  strict : Rule

abbrev pub Obeys : Rule → Lit → Type 0
Obeys (uses g) l = LitUsesOnly g l
Obeys (fits n) l = LitFits n l
Obeys (admits ordered) l = AdmitsLit ordered l
Obeys strict l = IsStrictLit l

-- what denies a literal obeys the rule too: only a literal with `<` is denied by one with `<=`
abbrev pub IsKeptByDenial : Rule → Type 0
IsKeptByDenial (uses g) = Unit {0}
IsKeptByDenial (fits n) = Unit {0}
IsKeptByDenial (admits ordered) = Unit {0}
IsKeptByDenial strict = ⊥

abbrev pub CubeObeys : Rule → List Lit → Type 0
CubeObeys rule = All (Obeys rule)

abbrev pub ConstraintObeys : Rule → List (List Lit) → Type 0
ConstraintObeys rule = All (CubeObeys rule)
