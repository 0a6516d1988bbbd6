-- States at constraints over further levels.
use Rattle.std.specs.Prelude.{◌≡◌, ℕ, ◌+◌, ◌<◌, ◌^◌, List, ◌++◌, length, IsTrue}
use Rattle.lois_base.specs.Atom.{Atom}
use Rattle.lois_base.specs.Data.{TermD}
use Rattle.lois_base.specs.Fits.{ConstraintFits, Fits}
use Rattle.lois_base.specs.Tree.{tree}
use Rattle.lois_base.specs.Truth.{holds}
use Rattle.lois_base.specs.Values.{PointValue, point, IsIn}
use Rattle.lois_base.specs.declared.guards.Lit.{Lit}
use Rattle.lois_automata.specs.Throughout.{HoldsThroughout}
use Rattle.lois_deciders.specs.Satisfaction.{IsConstraintSample}
use Rattle.lois_shortest_word.specs.declared.symbolic_states.SymbolicState.{SymbolicState}

-- h holds only where g does, and at the sample
pub record IsSatisfiableCube (n : ℕ) (g h : List (List Lit)) (s : List ℕ) : Type 0 where
  pub narrower : (c : List Atom) → IsTrue (holds c h) → IsTrue (holds c g)
  pub levels : ConstraintFits n h
  pub met : IsConstraintSample n h s

-- the constraint and the state have n levels and those behind them, and the sample meets the constraint
pub record IsSymbolicState (n : ℕ) (s : SymbolicState) : Type 0 where
  pub count : n + s.more < 2 ^ 64
  pub levels : ConstraintFits (n + s.more) s.admitted
  pub state_levels : Fits (n + s.more) (tree s.state)
  pub met : IsConstraintSample (n + s.more) s.admitted s.sample

-- a value in t that Starts names, at a choice that u admits
abbrev pub IsStart : List (List Lit) → (List Atom → PointValue → Type 0) → TermD → List Atom → PointValue → Type 0
IsStart u Starts t c p = IsTrue (holds c u) × Starts c p × IsIn p (point t c)

-- wherever the constraint of the stage holds, its state is such a value
pub record IsInitialSymbolicState (n : ℕ) (u : List (List Lit)) (Starts : List Atom → PointValue → Type 0) (t : TermD) (s : SymbolicState) : Type 0 where
  pub stage : IsSymbolicState n s
  pub begins : (c e : List Atom) → length c ≡ n → length e ≡ s.more → IsTrue (holds (c ++ e) s.admitted) → IsStart u Starts t c (point (tree s.state) (c ++ e))

-- there is no such value
abbrev pub HasNoInitialState : ℕ → List (List Lit) → (List Atom → PointValue → Type 0) → TermD → Type 0
HasNoInitialState n u Starts t = HoldsThroughout n u (λ c. (p : PointValue) → Starts c p → IsIn p (point t c) → ⊥)
