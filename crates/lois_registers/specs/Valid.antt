-- Which register automata have a text.
use Rattle.std.specs.Prelude.{ℕ, ◌<◌, ◌≤◌, Bool, List, [], ◌∷◌, length}
use Rattle.std.specs.List.{All, Contains}
use Rattle.lois_answers.specs.Sound.{AreDistinct}
use Rattle.lois_base.specs.Names.{IsName}
use Rattle.lois_base.specs.Validity.{AdmitsLit, IsStrictLit}
use Rattle.lois_base.specs.declared.guards.Lit.{Lit}
use Rattle.lois_registers.specs.declared.automata.RegStep.{RegStep}
use Rattle.lois_registers.specs.declared.automata.Registers.{Registers}

-- the numbers increase strictly, from above m to n at most
abbrev pub AreIncreasing : ℕ → ℕ → List ℕ → Type 0
AreIncreasing m n [] = Unit {0}
AreIncreasing m n (i ∷ is) = (m < i) × (i ≤ n) × AreIncreasing i n is

-- 1 to 64 distinct names
pub record AreStates (names : List (List ℕ)) : Type 0 where
  pub form : All IsName names
  pub some : 1 ≤ length names
  pub few : length names ≤ 64
  pub distinct : AreDistinct names

-- distinct listed states
pub record AreListed (states names : List (List ℕ)) : Type 0 where
  pub listed : All (Contains states) names
  pub distinct : AreDistinct names

-- a literal over the letter and k registers, with `<` only where atoms are ordered, and no `<=`
pub record IsLiteral (ordered : Bool) (k : ℕ) (l : Lit) : Type 0 where
  pub left : l.left ≤ k
  pub right : l.right ≤ k
  pub operator : AdmitsLit ordered l
  pub strict : IsStrictLit l

pub record IsGuard (ordered : Bool) (k : ℕ) (guard : List Lit) : Type 0 where
  pub few : length guard ≤ 16
  pub literals : All (IsLiteral ordered k) guard

pub record IsRegStep (ordered : Bool) (k : ℕ) (states : List (List ℕ)) (s : RegStep) : Type 0 where
  pub from : Contains states s.from
  pub to : Contains states s.to
  pub guard : IsGuard ordered k s.guard
  pub stored : AreIncreasing 0 k s.stored

pub record IsRegisters (r : Registers) : Type 0 where
  pub some : 1 ≤ r.registers
  pub few : r.registers ≤ 4
  pub states : AreStates r.states
  pub initial : Contains r.states r.initial
  pub finals : AreListed r.states r.finals
  pub few_steps : length r.steps ≤ 256
  pub steps : All (IsRegStep r.order r.registers r.states) r.steps
