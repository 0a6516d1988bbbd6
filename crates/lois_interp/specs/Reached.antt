-- What the contexts are that a run comes to: at each choice the run that is meant, for one store.
use Rattle.std.specs.Prelude.{◌≡◌, ℕ, Bool, List, [], ◌∷◌, ◌++◌, map}
use Rattle.std.specs.List.{All, AllPairs, Contains}
use Rattle.lois_base.specs.Atom.{Atom}
use Rattle.lois_answers.specs.ResultsData.{LineD}
use Rattle.lois_meaning.specs.Runs.{Ending}
use Rattle.lois_meaning.specs.Store.{NamedValues}
use Rattle.lois_context.specs.Choices.{IsAdmitted, AdmitsContext, ContextHasBoundedWidths}
use Rattle.lois_context.specs.Counted.{AdmitAlike}
use Rattle.lois_context.specs.Slots.{SlotD, slot_name, store_at}
use Rattle.lois_context.specs.LineValues.{line_values}
use Rattle.lois_context.specs.declared.contexts.Context.{Context}
use Rattle.lois_eval.specs.WellFormed.{IsWellFormedIn}
use Rattle.lois_interp.specs.Run.{Run}
use Rattle.lois_interp.specs.Slots.{AreKept}

-- At a choice the run ends in the later context's store, and its lines are those from before and then what it has printed.
pub record EndsAt (ends : Ending) (before d : Context) (c : List Atom) : Type 0 where
  pub printed : NamedValues
  pub run : ends (store_at c before.store) (store_at c d.store) printed
  pub lines : line_values c d.lines ≡ line_values c before.lines ++ printed

-- One context that a run from k comes to, at all its choices.
pub record IsReachedContext (ends : Ending) (Assigned : List ℕ → Type 0) (k d : Context) : Type 0 where
  pub size : d.size ≡ k.size
  pub within : (c : List Atom) → IsAdmitted c d → IsAdmitted c k
  pub slots : AreKept Assigned (λ c. IsAdmitted c d) k.store d.store
  pub ends_there : (c : List Atom) → IsAdmitted c d → EndsAt ends k d c

-- The same at one choice.
pub record IsReachedAt (run : Run) (k d : Context) (c : List Atom) : Type 0 where
  pub size : d.size ≡ k.size
  pub admitted : IsAdmitted c k
  pub slots : AreKept run.assigns (λ x. x ≡ c) k.store d.store
  pub named : map slot_name d.store ≡ run.behind (map slot_name k.store)
  pub ends_there : EndsAt run.ends k d c

-- what one of some contexts comes to by a run, at each choice that it admits
abbrev pub ComesFrom : Run → List Context → Context → Type 0
ComesFrom run before d = (c : List Atom) → IsAdmitted c d → (k : Context) × Contains before k × IsReachedAt run k d c

-- What runs from some contexts come to: each choice is admitted by as many contexts as before, and at each choice a context is
-- what a run from the one that admitted it has come to. (Contexts that runs from several have come to may be put together.)
-- They have no operator that the contexts before and the run haven't.
pub record RunsFrom (run : Run) (before after : List Context) : Type 0 where
  pub choices : AdmitAlike before after
  pub reached : (d : Context) → Contains after d → ComesFrom run before d
  pub operators : (ordered : Bool) → All (IsWellFormedIn run.stands ordered) before → All (AdmitsContext ordered) after
  pub widths : All ContextHasBoundedWidths before → All ContextHasBoundedWidths after

-- The same from one context: exactly one of the others admits each choice that it admits, and none admits any other.
abbrev pub RunsAs : Run → Context → List Context → Type 0
RunsAs run before after = RunsFrom run (before ∷ []) after

-- no two of the contexts have equal lists as stores and as lines
abbrev pub held_in : Context → List SlotD × List LineD
held_in k = (k.store, k.lines)

abbrev pub HaveDifferentContents : List Context → Type 0
HaveDifferentContents ks = AllPairs (λ x y. x ≡ y → ⊥) (map held_in ks)
