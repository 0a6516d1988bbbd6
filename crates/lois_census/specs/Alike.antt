-- What private contracts say of formulas on atoms that stand alike.
use Rattle.std.specs.Prelude.{◌≡◌, ℕ, ◌+◌, ◌<◌, Bool, List, ◌++◌, length, IsTrue, ◌↔◌}
use Rattle.lois_base.specs.Atom.{Atom}
use Rattle.lois_base.specs.FormulaData.{FormulaD, FormulaFits}
use Rattle.lois_base.specs.FormulaTruth.{FormulaHolds}
use Rattle.lois_base.specs.Truth.{atom_at, op_holds, sampled}
use Rattle.lois_base.specs.Validity.{is_admitted}
use Rattle.lois_base.specs.FormulaOperators.{AdmitsFormula}
use Rattle.lois_base.specs.declared.guards.Op.{Op}

-- two atoms stand to one another as two others do
abbrev pub StandAlike : Bool → Atom → Atom → Atom → Atom → Type 0
StandAlike ordered a b x y =
    (op : Op) → IsTrue (is_admitted ordered op) → op_holds op a b ≡ op_holds op x y

-- the atoms at two positions of d stand as the numbers there do
abbrev pub StandsAt : Bool → List ℕ → ℕ → ℕ → List Atom → Type 0
StandsAt ordered s i j d =
    StandAlike ordered (atom_at (sampled s) i) (atom_at (sampled s) j) (atom_at d i) (atom_at d j)

-- at position j and each of the first k
abbrev pub StandsBeside : Bool → List ℕ → ℕ → ℕ → List Atom → Type 0
StandsBeside ordered s j k d = (i : ℕ) → i < k → StandsAt ordered s i j d

-- at each two of the first k positions
abbrev pub StandsBelow : Bool → List ℕ → ℕ → List Atom → Type 0
StandsBelow ordered s k d = (j : ℕ) → j < k → StandsBeside ordered s j j d

-- the formula holds where P does of the m atoms behind n others
pub record SaysBehind (ordered : Bool) (n m : ℕ) (P : List Atom → Type 0) (f : FormulaD) : Type 0 where
  pub truth : (e d : List Atom) → length e ≡ n → length d ≡ m → FormulaHolds (e ++ d) f ↔ P d
  pub levels : FormulaFits (n + m) f
  pub operators : AdmitsFormula ordered f
