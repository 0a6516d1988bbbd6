-- Statements that hold no others, and contexts in which one thing is other than before.
use Rattle.std.specs.Prelude.{◌≡◌, ℕ, List, [], ◌∷◌, ◌++◌, length, get_or, slice_set}
use Rattle.std.specs.List.{HoldsAt}
use Rattle.lois_base.specs.Tree.{tree}
use Rattle.lois_answers.specs.LineView.{line_of}
use Rattle.lois_answers.specs.declared.results.Line.{Line}
use Rattle.lois_script.specs.Tree.{StmtD, for, if, while}
use Rattle.lois_context.specs.Slots.{SlotD}
use Rattle.lois_context.specs.declared.contexts.Context.{Context}
use Rattle.lois_interp.specs.declared.leaves.Taken.{Taken}

abbrev pub IsLeaf : StmtD → Type 0
IsLeaf (for b c body) = ⊥
IsLeaf ((if) c yes_block no_block) = ⊥
IsLeaf (while p c n body) = ⊥
IsLeaf _ = Unit {0}

-- the slot that was taken out
abbrev pub held_of : Taken → SlotD
held_of t = record { name = t.name; term = tree t.term; from = t.from }

pub record IsWithStore (store : List SlotD) (before d : Context) : Type 0 where
  pub size : d.size ≡ before.size
  pub «when» : d.«when» ≡ before.«when»
  pub stored : d.store ≡ store
  pub lines : d.lines ≡ before.lines

pub record IsWithLine (line : Line) (before d : Context) : Type 0 where
  pub size : d.size ≡ before.size
  pub «when» : d.«when» ≡ before.«when»
  pub store : d.store ≡ before.store
  pub lines : d.lines ≡ before.lines ++ line_of line ∷ []

-- What the slot at the index held was taken out: another slot of that name stands there in the rest.
pub record IsTaken (index : ℕ) (before : Context) (t : Taken) : Type 0 where
  pub size : t.rest.size ≡ before.size
  pub «when» : t.rest.«when» ≡ before.«when»
  pub sample : t.rest.sample ≡ before.sample
  pub lines : t.rest.lines ≡ before.lines
  pub stored : (e : SlotD) → slice_set t.rest.store index e ≡ slice_set before.store index e
  pub count : length t.rest.store ≡ length before.store
  pub named : HoldsAt (λ s. s.name ≡ t.name) t.rest.store index
  pub slot : held_of t ≡ get_or before.store index (held_of t)
