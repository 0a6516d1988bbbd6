-- The members of a set by its comprehensions, and sets with more or fewer of them.
use Rattle.std.proofs.Common.{◌≡◌, ℕ, zero, suc, ◌≤◌, ◌⊎◌, inl, inr, List, [], ◌∷◌, refl, sym, subst, arith}
use Rattle.std.specs.Prelude.{Bool}
use Rattle.std.specs.List.{Contains}
use Rattle.lois_base.specs.Atom.{Atom}
use Rattle.lois_base.specs.Data.{TermD, CompD, comps_of, depth_of_comp}
use Rattle.lois_base.specs.ListDepth.{depth_of_comps}
use Rattle.lois_base.specs.Fits.{CompFits, ItemsFit}
use Rattle.lois_base.specs.Validity.{AdmitsComp, AdmitsItems, CompHasBoundedWidths, ItemsHaveBoundedWidths}
use Rattle.lois_base.specs.Values.{MakesAt, MemberAt, SameAt, InAt}
use Rattle.lois_base.proofs.Same.{all_in_is, is_all_in, is_some_is, same_at_refl, same_at_sym}
use Rattle.lois_simplify.specs.Simplification.{set_of}

module _ {X : Type 0} where
  pub contains_first : (y : X) (xs : List X) → Contains (y ∷ xs) y
  contains_first y xs = (0, omega arith, refl)

  pub contains_later : (y x : X) (xs : List X) → Contains xs x → Contains (y ∷ xs) x
  contains_later y x xs h = (suc h.0, omega (arith, h.1), h.2)

  pub contains_cases : (y x : X) (xs : List X) → Contains (y ∷ xs) x → (y ≡ x) ⊎ Contains xs x
  contains_cases y x xs (zero, l, e) = inl e
  contains_cases y x xs (suc k, l, e) = inr (k, omega arith, e)

  pub contains_none : (x : X) → Contains [] x → ⊥
  contains_none x h = omega (arith, h.1)

pub member_made : (cs : List CompD) (w : TermD) (x d : List Atom) → MemberAt w x (comps_of cs) d → (k : CompD) × Contains cs k × MakesAt w x k d
member_made [] w x d m = absurd m
member_made (c ∷ cs) w x d (inl m) = (c, contains_first c cs, m)
member_made (c ∷ cs) w x d (inr m) = let r = member_made cs w x d m in (r.0, contains_later c r.0 cs r.1, r.2)

pub made_member : (cs : List CompD) (k : CompD) (w : TermD) (x d : List Atom) → Contains cs k → MakesAt w x k d → MemberAt w x (comps_of cs) d
made_member [] k w x d h m = absurd (contains_none k h)
made_member (c ∷ cs) k w x d h m =
    elim (contains_cases c k cs h) [
      | inl e ↦ inl (subst (λ j. MakesAt w x j d) (sym e) m)
      | inr i ↦ inr (made_member cs k w x d i m)
    ]

-- members of fewer are members of more
pub member_more : (xs ys : List CompD) → ((k : CompD) → Contains xs k → Contains ys k) → (w : TermD) (x d : List Atom) → MemberAt w x (comps_of xs) d → MemberAt w x (comps_of ys) d
member_more xs ys more w x d m =
    let r = member_made xs w x d m in made_member ys r.0 w x d (more r.0 r.1) r.2

pub in_more : (xs ys : List CompD) → ((k : CompD) → Contains xs k → Contains ys k) → (t : TermD) (c d : List Atom) → InAt t c (comps_of xs) d → InAt t c (comps_of ys) d
in_more xs ys more t c d i = (i.0, i.1, member_more xs ys more i.0 i.1 d i.2, i.3)

pub member_in : (xs : List CompD) (w : TermD) (x d : List Atom) → MemberAt w x (comps_of xs) d → InAt w x (comps_of xs) d
member_in xs w x d m = (w, x, m, same_at_refl w x)

pub sets_same : (xs ys : List CompD) (c d : List Atom) → ((w : TermD) (x : List Atom) → MemberAt w x (comps_of xs) c → InAt w x (comps_of ys) d) → ((w : TermD) (x : List Atom) → MemberAt w x (comps_of ys) d → InAt w x (comps_of xs) c) → SameAt (set_of xs) c (set_of ys) d
sets_same xs ys c d there back = (
  is_all_in (comps_of xs) c (comps_of ys) d there,
  λ w x m. let i = back w x m in is_some_is (comps_of xs) c w x i.0 i.1 i.2 (same_at_sym w x i.0 i.1 i.3),
)

pub same_sets_in : (xs ys : List CompD) (c d : List Atom) → SameAt (set_of xs) c (set_of ys) d → (w : TermD) (x : List Atom) → MemberAt w x (comps_of xs) c → InAt w x (comps_of ys) d
same_sets_in xs ys c d same = all_in_is (comps_of xs) c (comps_of ys) d same.0

-- what a fact about each comprehension says of each that is there, and the other way round
pub items_fit_each : (n : ℕ) (cs : List CompD) (k : CompD) → ItemsFit n (comps_of cs) → Contains cs k → CompFits n k
items_fit_each n [] k f h = absurd (contains_none k h)
items_fit_each n (c ∷ cs) k f h =
    elim (contains_cases c k cs h) [
      | inl e ↦ subst (CompFits n) e f.0
      | inr i ↦ items_fit_each n cs k f.1 i
    ]

pub each_fits_items : (n : ℕ) (cs : List CompD) → ((k : CompD) → Contains cs k → CompFits n k) → ItemsFit n (comps_of cs)
each_fits_items n [] f = tt
each_fits_items n (c ∷ cs) f =
    (f c (contains_first c cs), each_fits_items n cs (λ k h. f k (contains_later c k cs h)))

pub items_admit_each : (o : Bool) (cs : List CompD) (k : CompD) → AdmitsItems o (comps_of cs) → Contains cs k → AdmitsComp o k
items_admit_each o [] k f h = absurd (contains_none k h)
items_admit_each o (c ∷ cs) k f h =
    elim (contains_cases c k cs h) [
      | inl e ↦ subst (AdmitsComp o) e f.0
      | inr i ↦ items_admit_each o cs k f.1 i
    ]

pub each_admits_items : (o : Bool) (cs : List CompD) → ((k : CompD) → Contains cs k → AdmitsComp o k) → AdmitsItems o (comps_of cs)
each_admits_items o [] f = tt
each_admits_items o (c ∷ cs) f =
    (f c (contains_first c cs), each_admits_items o cs (λ k h. f k (contains_later c k cs h)))

pub items_wide_each : (cs : List CompD) (k : CompD) → ItemsHaveBoundedWidths (comps_of cs) → Contains cs k → CompHasBoundedWidths k
items_wide_each [] k f h = absurd (contains_none k h)
items_wide_each (c ∷ cs) k f h =
    elim (contains_cases c k cs h) [
      | inl e ↦ subst CompHasBoundedWidths e f.0
      | inr i ↦ items_wide_each cs k f.1 i
    ]

pub each_wide_items : (cs : List CompD) → ((k : CompD) → Contains cs k → CompHasBoundedWidths k) → ItemsHaveBoundedWidths (comps_of cs)
each_wide_items [] f = tt
each_wide_items (c ∷ cs) f =
    (f c (contains_first c cs), each_wide_items cs (λ k h. f k (contains_later c k cs h)))

pub comp_depth_le : (cs : List CompD) (k : CompD) → Contains cs k → depth_of_comp k ≤ depth_of_comps cs
comp_depth_le [] k h = absurd (contains_none k h)
comp_depth_le (c ∷ cs) k h =
    elim (contains_cases c k cs h) [
      | inl e ↦ subst (λ j. depth_of_comp j ≤ depth_of_comps (c ∷ cs)) e (omega arith)
      | inr i ↦ omega (arith, comp_depth_le cs k i)
    ]

pub comps_depth_le : (cs : List CompD) (most : ℕ) → ((k : CompD) → Contains cs k → depth_of_comp k ≤ most) → depth_of_comps cs ≤ most
comps_depth_le [] most f = omega arith
comps_depth_le (c ∷ cs) most f =
    omega (arith, f c (contains_first c cs), comps_depth_le cs most (λ k h. f k (contains_later c k cs h)))
