-- Contexts that are given other ones' lines, which have the same values there, and are put together.
use Rattle.std.specs.Prelude.{◌≡◌, ℕ, Bool, List}
use Rattle.std.specs.List.{All, AllZip, Contains}
use Rattle.lois_base.specs.Atom.{Atom}
use Rattle.lois_base.specs.Truth.{holds}
use Rattle.lois_base.specs.Validity.{AdmitsConstraint}
use Rattle.lois_base.specs.declared.guards.Lit.{Lit}
use Rattle.lois_answers.specs.ResultsData.{LineD}
use Rattle.lois_simplify.specs.Simplification.{IsSameWhere}
use Rattle.lois_context.specs.Choices.{AdmitsContext, ContextHasBoundedWidths}
use Rattle.lois_context.specs.Merged.{AreMerged}
use Rattle.lois_context.specs.declared.contexts.Context.{Context}

-- r has the name of l, and its value at each choice of n atoms at which u holds
pub record IsRetoldLine (n : ℕ) (u : List (List Lit)) (l r : LineD) : Type 0 where
  pub name : r.name ≡ l.name
  pub value : IsSameWhere u n l.term r.term

abbrev pub AreRetoldLines : Context → List LineD → Type 0
AreRetoldLines k ls = AllZip (IsRetoldLine k.size k.«when») k.lines ls

-- one of the contexts has these lines, and they have the values of k's wherever k's constraint holds
pub record IsToldBy (ks : List Context) (k : Context) (ls : List LineD) : Type 0 where
  pub by : Context
  pub among : Contains ks by
  pub is : ls ≡ by.lines
  pub size : by.size ≡ k.size
  pub same : AreRetoldLines k ls

-- the context with other lines that have the values of its own
pub record IsRetold (k r : Context) : Type 0 where
  pub size : r.size ≡ k.size
  pub «when» : r.«when» ≡ k.«when»
  pub lines : AreRetoldLines k r.lines

-- each of the contexts, with other lines that have the values of its own, and no operator or width that none of them has
pub record AreRetold (ks rs : List Context) : Type 0 where
  pub each : AllZip IsRetold ks rs
  pub operators : (ordered : Bool) → All (AdmitsContext ordered) ks → All (AdmitsContext ordered) rs
  pub widths : All ContextHasBoundedWidths ks → All ContextHasBoundedWidths rs

-- the context with another constraint, which holds at the same choices
pub record HasConditionLike (k r : Context) : Type 0 where
  pub size : r.size ≡ k.size
  pub truth : (e : List Atom) → holds e r.«when» ≡ holds e k.«when»
  pub operators : (ordered : Bool) → AdmitsConstraint ordered k.«when» → AdmitsConstraint ordered r.«when»
  pub store : r.store ≡ k.store
  pub lines : r.lines ≡ k.lines

-- Contexts that hold the same are put together, and then conditions may be written anew.
pub record AreJoined (ks rs : List Context) : Type 0 where
  pub between : List Context
  pub merged : AreMerged ks between
  pub conditions : AllZip HasConditionLike between rs
