-- What a register automaton does: configurations, steps and runs.
use Rattle.std.specs.Prelude.{◌≡◌, ℕ, ◌+◌, List, [], ◌∷◌, Option, Some, None, length, slice_index_or, nat_eq, replicate, if◌then◌else◌, IsTrue}
use Rattle.std.specs.List.{All, Contains, list_any}
use Rattle.lois_base.specs.Atom.{Atom}
use Rattle.lois_base.specs.Truth.{op_holds}
use Rattle.lois_base.specs.declared.guards.Lit.{Lit}
use Rattle.lois_registers.specs.declared.automata.RegStep.{RegStep}
use Rattle.lois_registers.specs.declared.automata.Registers.{Registers}

-- a state, and what each register holds: an atom, or nothing
pub record Configuration : Type 0 where
  pub state : List ℕ
  pub contents : List (Option Atom)

abbrev pub IsConfigurationOf : Registers → Configuration → Type 0
IsConfigurationOf r p = Contains r.states p.state × (length p.contents ≡ r.registers)

-- the initial state with every register empty
abbrev pub first : Registers → Configuration
first r = record { state = r.initial; contents = replicate r.registers None }

-- no operand of the literal is empty, and the literal holds; the operands are the letter and the registers
abbrev pub LiteralHolds : List (Option Atom) → Lit → Type 0
LiteralHolds operands l =
    (a b : Atom) × (slice_index_or operands l.left None ≡ Some a) × (slice_index_or operands l.right None ≡ Some b) × IsTrue (op_holds l.op a b)

-- what the registers from number i on hold when the letter is stored in those that are listed: the others stay
abbrev pub stored_from : {X : Type 0} → ℕ → List ℕ → X → List (Option X) → List (Option X)
stored_from i stored x [] = []
stored_from i stored x (o ∷ os) = (if list_any (nat_eq i) stored then Some x else o) ∷ stored_from (i + 1) stored x os

-- the step leads from p to q by reading x
pub record IsStep (s : RegStep) (p : Configuration) (x : Atom) (q : Configuration) : Type 0 where
  pub from : p.state ≡ s.from
  pub guard : All (LiteralHolds (Some x ∷ p.contents)) s.guard
  pub to : q.state ≡ s.to
  pub contents : q.contents ≡ stored_from 1 s.stored x p.contents

abbrev pub Leads : Registers → Configuration → Atom → Configuration → Type 0
Leads r p x q = (s : RegStep) × Contains r.steps s × IsStep s p x q

-- steps that read these atoms lead from p to q
abbrev pub Runs : Registers → Configuration → List Atom → Configuration → Type 0
Runs r p [] q = p ≡ q
Runs r p (x ∷ xs) q = (m : Configuration) × Leads r p x m × Runs r m xs q

abbrev pub AcceptsAtoms : Registers → List Atom → Type 0
AcceptsAtoms r xs = (q : Configuration) × Runs r (first r) xs q × Contains r.finals q.state
