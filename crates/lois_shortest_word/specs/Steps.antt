-- Steps from the state of a stage.
use Rattle.std.specs.Prelude.{◌≡◌, ℕ, ◌+◌, ◌-◌, ◌≤◌, List, ◌++◌, length, IsTrue, ◌↔◌}
use Rattle.lois_base.specs.Atom.{Atom}
use Rattle.lois_base.specs.Data.{TermD}
use Rattle.lois_base.specs.Fits.{Fits}
use Rattle.lois_base.specs.Tree.{tree}
use Rattle.lois_base.specs.Truth.{holds}
use Rattle.lois_base.specs.Values.{PointValue, point, IsIn, IsSame}
use Rattle.lois_base.specs.declared.guards.Lit.{Lit}
use Rattle.lois_meaning.specs.Automata.{IsTriple}
use Rattle.lois_shortest_word.specs.declared.symbolic_states.SymbolicState.{SymbolicState}
use Rattle.lois_shortest_word.specs.declared.steps.SymbolicStep.{SymbolicStep}
use Rattle.lois_shortest_word.specs.SymbolicStates.{IsSymbolicState}

-- a value that Steps names is a triple of p, l and q
abbrev pub AdvancesBy : (PointValue → Type 0) → PointValue → PointValue → PointValue → Type 0
AdvancesBy Steps p l q = (x : PointValue) × Steps x × IsTriple x p l q

-- with x and then m further atoms, r holds exactly where u and the guard do, p is the state and q in the set t
abbrev pub HoldsWhereAdvancing : ℕ → ℕ → ℕ → List (List Lit) → List (List Lit) → TermD → TermD → TermD → TermD → List (List Lit) → Type 0
HoldsWhereAdvancing n x m u guard state p q t r =
    (c e f : List Atom) → length c ≡ n → length e ≡ x → length f ≡ m →
    IsTrue (holds ((c ++ e) ++ f) r) ↔ (IsTrue (holds (c ++ e) u) × IsTrue (holds ((c ++ e) ++ f) guard) × IsSame (point p ((c ++ e) ++ f)) (point state (c ++ e)) × IsIn (point q ((c ++ e) ++ f)) (point t c))

-- the stage s admits these atoms, and a step leads by the letter from its state into t, to the state of the next stage
pub record Advances (s : SymbolicState) (Steps : PointValue → Type 0) (t : PointValue) (r : SymbolicStep) (d f : List Atom) : Type 0 where
  pub admitted : IsTrue (holds d s.admitted)
  pub step : AdvancesBy Steps (point (tree s.state) d) (point (tree r.letter) (d ++ f)) (point (tree r.stage.state) (d ++ f))
  pub inside : IsIn (point (tree r.stage.state) (d ++ f)) t

-- so wherever the constraint of the next stage holds, which has further levels
pub record IsSymbolicStep (n : ℕ) (s : SymbolicState) (Steps : List Atom → PointValue → Type 0) (t : TermD) (r : SymbolicStep) : Type 0 where
  pub stage : IsSymbolicState n r.stage
  pub letter_levels : Fits (n + r.stage.more) (tree r.letter)
  pub order : s.more ≤ r.stage.more
  pub goes : (c e f : List Atom) → length c ≡ n → length e ≡ s.more → length f ≡ r.stage.more - s.more →
      IsTrue (holds ((c ++ e) ++ f) r.stage.admitted) → Advances s (Steps c) (point t c) r (c ++ e) f

-- no step leads from the state of the stage into t
abbrev pub NeverAdvances : ℕ → SymbolicState → (List Atom → PointValue → Type 0) → TermD → Type 0
NeverAdvances n s Steps t = (c e : List Atom) → length c ≡ n → length e ≡ s.more → IsTrue (holds (c ++ e) s.admitted) →
    (l q : PointValue) → AdvancesBy (Steps c) (point (tree s.state) (c ++ e)) l q → IsIn q (point t c) → ⊥
