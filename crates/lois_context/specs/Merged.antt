-- Contexts that are joined where nothing but their constraints differs.
use Rattle.std.specs.Prelude.{◌≡◌, ℕ, ◌≤◌, Bool, List, ◌++◌, map}
use Rattle.std.specs.List.{All, AllPairs, Contains}
use Rattle.lois_base.specs.Atom.{Atom}
use Rattle.lois_answers.specs.ResultsData.{LineD}
use Rattle.lois_context.specs.Choices.{IsAdmitted, AdmitsContext, ContextHasBoundedWidths}
use Rattle.lois_context.specs.Counted.{times, AdmitAlike}
use Rattle.lois_context.specs.Slots.{SlotD}
use Rattle.lois_context.specs.declared.contexts.Context.{Context}

-- no choice is admitted by two of them
abbrev pub AreDisjoint : List Context → Type 0
AreDisjoint ks = (c : List Atom) → times c ks ≤ 1

-- the size, the store and the lines of a context
abbrev pub contents_of : Context → ℕ × List SlotD × List LineD
contents_of k = (k.size, k.store, k.lines)

-- no two of the contexts have equal sizes, stores and lines
abbrev pub HaveDistinctContents : List Context → Type 0
HaveDistinctContents ks = AllPairs (λ x y. x ≡ y → ⊥) (map contents_of ks)

abbrev pub HasSameContents : Context → Context → Type 0
HasSameContents k d = contents_of d ≡ contents_of k

-- d with the cubes of k behind its own
pub record IsMergedInto (k d r : Context) : Type 0 where
  pub like : HasSameContents d r
  pub sample : r.sample ≡ d.sample
  pub cubes : r.«when» ≡ d.«when» ++ k.«when»

-- one of the contexts admits the choice, and is like d
abbrev pub HasSameContentsAsOne : List Context → List Atom → Context → Type 0
HasSameContentsAsOne ks c d = (k : Context) × Contains ks k × IsAdmitted c k × HasSameContents k d

abbrev pub HasSampleOfOne : List Context → Context → Type 0
HasSampleOfOne ks d = (k : Context) × Contains ks k × (d.sample ≡ k.sample)

-- Where no two of the contexts admit one choice, each choice is admitted by as many after as before: by exactly one, or by none.
-- It has the size, the store and the lines of the one that admitted the choice, and no two are alike.
pub record AreMerged (ks ds : List Context) : Type 0 where
  pub choices : AreDisjoint ks → AdmitAlike ks ds
  pub like : All (λ d. (c : List Atom) → IsAdmitted c d → HasSameContentsAsOne ks c d) ds
  pub kept : All (λ k. (c : List Atom) → IsAdmitted c k → HasSameContentsAsOne ds c k) ks
  pub different : HaveDistinctContents ds
  pub samples : All (HasSampleOfOne ks) ds
  pub operators : (ordered : Bool) → All (AdmitsContext ordered) ks → All (AdmitsContext ordered) ds
  pub widths : All ContextHasBoundedWidths ks → All ContextHasBoundedWidths ds
