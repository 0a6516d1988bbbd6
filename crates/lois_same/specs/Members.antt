-- What private contracts say: of members of one set that another lacks, and of values under a constraint.
use Rattle.std.specs.Prelude.{◌≡◌, ℕ, ◌+◌, ◌≤◌, List, ◌++◌, length, drop, IsTrue, Option, Some, None}
use Rattle.lois_base.specs.Atom.{Atom}
use Rattle.lois_base.specs.Data.{TermD, CompD, comp}
use Rattle.lois_base.specs.Fits.{Fits}
use Rattle.lois_base.specs.Tree.{tree}
use Rattle.lois_base.specs.Truth.{holds, sampled}
use Rattle.lois_base.specs.Values.{point, IsExtension, IsIn, IsIncluded, IsMember, IsSame}
use Rattle.lois_base.specs.declared.guards.Lit.{Lit}
use Rattle.lois_automata.specs.Throughout.{HoldsThroughout}
use Rattle.lois_shortest_word.specs.Words.{first_sampled}
use Rattle.lois_same.specs.Contrasts.{AreOtherValues, IsInOneAlone}
use Rattle.lois_same.specs.declared.members.MemberAlone.{MemberAlone}
use Rattle.lois_same.specs.declared.values.ValueContrast.{ValueContrast}
use Rattle.lois_same.specs.declared.values.ValueContrast.TheVariants.{Values, Member}

-- u admits the choice of the sample's first n numbers
pub record IsAdmittedSample (n : ℕ) (u : List (List Lit)) (s : List ℕ) : Type 0 where
  pub count : n ≤ length s
  pub admitted : IsTrue (holds (first_sampled n s) u)

-- each member that the comprehension makes is in the set t, at each choice of n atoms that u admits
abbrev pub CompIsIncluded : ℕ → List (List Lit) → CompD → TermD → Type 0
CompIsIncluded n u (comp m g item) t =
    (c e : List Atom) → length c ≡ n → IsTrue (holds c u) → IsExtension c m g e → IsIn (point item (c ++ e)) (point t c)

abbrev pub IsIncludedUnder : ℕ → List (List Lit) → TermD → TermD → Type 0
IsIncludedUnder n u s t = HoldsThroughout n u (λ c. IsIncluded (point s c) (point t c))

-- at the sample u and the guard hold, and the item isn't in the set t
pub record IsItemAlone (n : ℕ) (u : List (List Lit)) (m : ℕ) (g : List (List Lit)) (item t : TermD) (s : List ℕ) : Type 0 where
  pub count : length s ≡ n + m
  pub admitted : IsTrue (holds (first_sampled n s) u)
  pub guard : IsExtension (first_sampled n s) m g (sampled (drop n s))
  pub alone : IsIn (point item (sampled s)) (point t (first_sampled n s)) → ⊥

abbrev pub IsSampleAlone : ℕ → List (List Lit) → CompD → TermD → List ℕ → Type 0
IsSampleAlone n u (comp m g item) t s = IsItemAlone n u m g item t s

-- the item, read at the sample, is a member of s and isn't in t
pub record IsMemberAlone (n : ℕ) (u : List (List Lit)) (s t : TermD) (a : MemberAlone) : Type 0 where
  pub sample : IsAdmittedSample n u a.sample
  pub levels : Fits (length a.sample) (tree a.item)
  pub member : IsMember (point (tree a.item) (sampled a.sample)) (point s (first_sampled n a.sample))
  pub alone : IsIn (point (tree a.item) (sampled a.sample)) (point t (first_sampled n a.sample)) → ⊥

-- how the values of two terms differ at a choice that u admits
abbrev pub IsValueContrast : ℕ → List (List Lit) → TermD → TermD → ValueContrast → Type 0
IsValueContrast n u s t (Values p) = IsAdmittedSample n u p × AreOtherValues (point s (first_sampled n p)) (point t (first_sampled n p))
IsValueContrast n u s t (Member p item first) =
    IsAdmittedSample n u p × Fits (length p) (tree item) × IsInOneAlone first (point (tree item) (sampled p)) (point s (first_sampled n p)) (point t (first_sampled n p))

-- the values are the same at each choice of n atoms that u admits
abbrev pub AreSameUnder : ℕ → List (List Lit) → TermD → TermD → Type 0
AreSameUnder n u s t = HoldsThroughout n u (λ c. IsSame (point s c) (point t c))

abbrev pub IsValueContrastOrNone : ℕ → List (List Lit) → TermD → TermD → Option ValueContrast → Type 0
IsValueContrastOrNone n u s t None = AreSameUnder n u s t
IsValueContrastOrNone n u s t (Some d) = IsValueContrast n u s t d

-- the values aren't the same at the choice of the sample's first n numbers, which u admits
abbrev pub AreOtherUnder : ℕ → List (List Lit) → TermD → TermD → List ℕ → Type 0
AreOtherUnder n u s t p = IsAdmittedSample n u p × (IsSame (point s (first_sampled n p)) (point t (first_sampled n p)) → ⊥)
