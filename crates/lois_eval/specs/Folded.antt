-- What the contexts inside of a loop come to outside: sets with the new levels as further binders, and constraints that hold
-- for some atoms at the new levels.
use Rattle.std.specs.Prelude.{◌≡◌, ℕ, ◌+◌, ◌-◌, ◌↔◌, ◌&&◌, ◌||◌, if◌then◌else◌, not, Bool, List, ◌++◌, length, IsTrue}
use Rattle.std.specs.List.{All, Contains}
use Rattle.lois_base.specs.Atom.{Atom}
use Rattle.lois_base.specs.Data.{coll, CompD, comp, CompsD}
use Rattle.lois_base.specs.Fits.{ConstraintFits, ItemsFit}
use Rattle.lois_base.specs.Truth.{holds}
use Rattle.lois_base.specs.Validity.{AdmitsConstraint, AdmitsItems, ItemsHaveBoundedWidths}
use Rattle.lois_base.specs.Values.{PointValue, point, IsIn}
use Rattle.lois_base.specs.declared.guards.Lit.{Lit}
use Rattle.lois_elim.specs.Bound.{HoldsForSomeMore}
use Rattle.lois_meaning.specs.Store.{NamedValues}
use Rattle.lois_context.specs.Choices.{IsAdmitted, AdmitsContext, ContextHasBoundedWidths}
use Rattle.lois_context.specs.Slots.{store_at}
use Rattle.lois_context.specs.declared.contexts.Context.{Context}
use Rattle.lois_eval.specs.WellFormed.{IsWellFormedIn}
use Rattle.lois_eval.specs.Throughout.{Failure, IsFaultOf}
use Rattle.lois_meaning.specs.declared.faults.Fault.{Fault}

-- a comprehension with m more binders in front of its own
abbrev pub outward : ℕ → CompD → CompD
outward m (comp b g t) = comp (m + b) g t

-- in one of the contexts inside, at some longer choice, P holds of the store there
abbrev pub IsSomewhereInside : List Context → List Atom → (NamedValues → Type 0) → Type 0
IsSomewhereInside ds c P =
    (d : Context) × Contains ds d × (e : List Atom) × IsAdmitted (c ++ e) d × P (store_at (c ++ e) d.store)

-- in each of the contexts, at each choice that it admits, P holds of the store there
abbrev pub IsEverywhereInside : List Context → (NamedValues → Type 0) → Type 0
IsEverywhereInside ds P = (d : Context) → Contains ds d → (c : List Atom) → IsAdmitted c d → P (store_at c d.store)

-- The set outside, over n levels, of all that is in the values of which P holds inside.
pub record IsGatheredInside (n : ℕ) (P : NamedValues → PointValue → Type 0) (stands : Bool → List (List ℕ) → Type 0) (ds : List Context) (ks : CompsD) : Type 0 where
  pub made : IsEverywhereInside ds (λ s. (v : PointValue) × P s v)
  pub members : (c : List Atom) → length c ≡ n → (w : PointValue) → IsIn w (point (coll ks) c) ↔ IsSomewhereInside ds c (λ s. (v : PointValue) × P s v × IsIn w v)
  pub levels : ItemsFit n ks
  pub operators : (o : Bool) → All (IsWellFormedIn stands o) ds → AdmitsItems o ks
  pub widths : All ContextHasBoundedWidths ds → ItemsHaveBoundedWidths ks

-- The constraint outside, over n levels, that somewhere inside the truth of which P holds is the one that is looked for.
pub record IsFoundInside (n : ℕ) (P : NamedValues → Bool → Type 0) (wanted : Bool) (stands : Bool → List (List ℕ) → Type 0) (ds : List Context) (g : List (List Lit)) : Type 0 where
  pub decided : IsEverywhereInside ds (λ s. (b : Bool) × P s b)
  pub found : (c : List Atom) → length c ≡ n → IsTrue (holds c g) ↔ IsSomewhereInside ds c (λ s. P s wanted)
  pub levels : ConstraintFits n g
  pub operators : (o : Bool) → All (IsWellFormedIn stands o) ds → AdmitsConstraint o g

-- a fault in one of the contexts inside
abbrev pub IsFaultInside : Bool → List Context → Failure → Fault → Type 0
IsFaultInside ordered ds fails f = (d : Context) × Contains ds d × IsFaultOf ordered d fails f

-- after one context more: where g held, and where h has the wanted truth at some longer choice that the context admits
pub record HasFoundToo (k : Context) (n : ℕ) (wanted : Bool) (g h r : List (List Lit)) : Type 0 where
  pub there : List (List Lit)
  pub some : List (List Lit)
  pub sought : (c : List Atom) → holds c there ≡ (holds c k.«when» && (if wanted then holds c h else not (holds c h)))
  pub bound : HoldsForSomeMore n (k.size - n) there some
  pub joined : (c : List Atom) → holds c r ≡ (holds c g || holds c some)
  pub levels : ConstraintFits n g → ConstraintFits n r
  pub operators : (o : Bool) → AdmitsConstraint o g → AdmitsConstraint o h → AdmitsContext o k → AdmitsConstraint o r
