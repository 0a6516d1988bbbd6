-- Constraints and verdicts that tell where a property holds.
use Rattle.std.specs.Prelude.{◌≡◌, ℕ, true, List, length, IsTrue, IsFalse, ◌↔◌}
use Rattle.lois_base.specs.Atom.{Atom}
use Rattle.lois_base.specs.Patterns.{AreAlike}
use Rattle.lois_base.specs.Truth.{holds, sampled}
use Rattle.lois_base.specs.declared.guards.Lit.{Lit}
use Rattle.lois_automata.specs.declared.verdicts.Verdict.{Verdict}
use Rattle.lois_automata.specs.declared.verdicts.Verdict.TheVariants.{Holds, Fails}
use Rattle.lois_automata.specs.Throughout.{HoldsThroughout}

-- at each choice of n atoms the constraint holds exactly where P does
abbrev pub HoldsWhere : ℕ → (List Atom → Type 0) → List (List Lit) → Type 0
HoldsWhere n P r = (c : List Atom) → length c ≡ n → IsTrue (holds c r) ↔ P c

-- at each choice of n atoms at which the constraint holds P doesn't, and at the others it does
abbrev pub HoldsUnless : ℕ → (List Atom → Type 0) → List (List Lit) → Type 0
HoldsUnless n P r = (c : List Atom) → length c ≡ n → (IsTrue (holds c r) → P c → ⊥) × (IsFalse (holds c r) → P c)

-- a sample of n numbers that u admits, at which the property doesn't hold; nor does it at atoms that stand as the numbers do
pub record IsBreak (n : ℕ) (u : List (List Lit)) (P : List Atom → Type 0) (s : List ℕ) : Type 0 where
  pub count : length s ≡ n
  pub admitted : IsTrue (holds (sampled s) u)
  pub broken : P (sampled s) → ⊥
  pub alike : (c : List Atom) → AreAlike true (sampled s) c → IsTrue (holds c u) × (P c → ⊥)

-- the verdict is that the property holds throughout, or where it doesn't
abbrev pub IsVerdictOn : ℕ → List (List Lit) → (List Atom → Type 0) → Verdict → Type 0
IsVerdictOn n u P Holds = HoldsThroughout n u P
IsVerdictOn n u P (Fails s) = IsBreak n u P s.items
