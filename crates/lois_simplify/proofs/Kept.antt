-- What is kept: one step after another, list after list, and where comprehensions are left out.
use Rattle.std.proofs.Common.{ℕ, ◌≤◌, ◌⊎◌, inl, inr, List, ◌++◌, arith}
use Rattle.std.specs.List.{Contains}
use Rattle.std.proofs.lemmas.List.Elements.{Contains-append_left, Contains-append_right, Contains-append_cases}
use Rattle.lois_base.specs.Atom.{Atom}
use Rattle.lois_base.specs.Data.{TermD, CompD, comps_of}
use Rattle.lois_base.specs.ListDepth.{depth_of_comps}
use Rattle.lois_base.specs.Fits.{ItemsFit}
use Rattle.lois_base.specs.Validity.{AdmitsItems, ItemsHaveBoundedWidths}
use Rattle.lois_base.specs.Values.{MakesAt, MemberAt, SameAt, InAt}
use Rattle.lois_base.specs.declared.guards.Lit.{Lit}
use Rattle.lois_base.proofs.Same.{same_at_refl, same_at_sym, same_at_trans}
use Rattle.lois_simplify.specs.Simplification.{IsSameWhere, IsSimplification, set_of}
use Rattle.lois_simplify.proofs.Members.{member_made, made_member, member_more, in_more, member_in, sets_same, same_sets_in, items_fit_each, each_fits_items, items_admit_each, each_admits_items, items_wide_each, each_wide_items, comp_depth_le, comps_depth_le}

pub kept_refl : (u : List (List Lit)) (n : ℕ) (t : TermD) → IsSimplification u n t t
kept_refl u n t = record {
  value = λ c l o. same_at_refl t c;
  levels = λ f. f;
  operators = λ o f. f;
  widths = λ f. f;
  depth = omega arith;
}

pub kept_trans : (u : List (List Lit)) (n : ℕ) (t s r : TermD) → IsSimplification u n t s → IsSimplification u n s r → IsSimplification u n t r
kept_trans u n t s r a b = record {
  value = λ c l o. same_at_trans t c s c r c (a.value c l o) (b.value c l o);
  levels = λ f. b.levels (a.levels f);
  operators = λ o f. b.operators o (a.operators o f);
  widths = λ f. b.widths (a.widths f);
  depth = omega (arith, a.depth, b.depth);
}

module _ (u : List (List Lit)) (n : ℕ) where
  -- some comprehensions are left out
  pub fewer_kept : (cs rs : List CompD) → ((k : CompD) → Contains rs k → Contains cs k) → IsSameWhere u n (set_of cs) (set_of rs) → IsSimplification u n (set_of cs) (set_of rs)
  fewer_kept cs rs only value = record {
    value = value;
    levels = λ f. each_fits_items n rs (λ k h. items_fit_each n cs k f (only k h));
    operators = λ o f. each_admits_items o rs (λ k h. items_admit_each o cs k f (only k h));
    widths = λ f. each_wide_items rs (λ k h. items_wide_each cs k f (only k h));
    depth = let d : depth_of_comps rs ≤ depth_of_comps cs = comps_depth_le rs (depth_of_comps cs) (λ k h. comp_depth_le cs k (only k h)) in omega (arith, d);
  }

  -- the same comprehensions, perhaps at other places and not as often
  pub alike_kept : (cs rs : List CompD) → ((k : CompD) → Contains cs k → Contains rs k) → ((k : CompD) → Contains rs k → Contains cs k) → IsSimplification u n (set_of cs) (set_of rs)
  alike_kept cs rs all only =
      fewer_kept cs rs only (λ c l o. sets_same cs rs c c (λ w x m. member_in rs w x c (member_more cs rs all w x c m)) (λ w x m. member_in cs w x c (member_more rs cs only w x c m)))

  each_left : (ps bs : List CompD) (k : CompD) → Contains ps k → Contains (ps ++ bs) k
  each_left ps bs k h = Contains-append_left ps bs k h

  each_right : (ps bs : List CompD) (k : CompD) → Contains bs k → Contains (ps ++ bs) k
  each_right ps bs k h = Contains-append_right ps bs k h

  -- a member of two lists is one of the first or of the second
  member_of_two : (ps bs : List CompD) (w : TermD) (x c : List Atom) → MemberAt w x (comps_of (ps ++ bs)) c → MemberAt w x (comps_of ps) c ⊎ MemberAt w x (comps_of bs) c
  member_of_two ps bs w x c m =
      let r = member_made (ps ++ bs) w x c m in go r.0 r.2 (Contains-append_cases ps bs r.0 r.1)
    where
      go : (k : CompD) → MakesAt w x k c → Contains ps k ⊎ Contains bs k → MemberAt w x (comps_of ps) c ⊎ MemberAt w x (comps_of bs) c
      go k m (inl h) = inl (made_member ps k w x c h m)
      go k m (inr h) = inr (made_member bs k w x c h m)

  two_in : (ps bs rs qs : List CompD) (c : List Atom) → SameAt (set_of ps) c (set_of rs) c → SameAt (set_of bs) c (set_of qs) c → (w : TermD) (x : List Atom) → MemberAt w x (comps_of (ps ++ bs)) c → InAt w x (comps_of (rs ++ qs)) c
  two_in ps bs rs qs c p q w x m = go (member_of_two ps bs w x c m)
    where
      go : MemberAt w x (comps_of ps) c ⊎ MemberAt w x (comps_of bs) c → InAt w x (comps_of (rs ++ qs)) c
      go (inl h) = in_more rs (rs ++ qs) (each_left rs qs) w x c (same_sets_in ps rs c c p w x h)
      go (inr h) = in_more qs (rs ++ qs) (each_right rs qs) w x c (same_sets_in bs qs c c q w x h)

  -- list after list
  pub kept-append : (ps rs bs qs : List CompD) → IsSimplification u n (set_of ps) (set_of rs) → IsSimplification u n (set_of bs) (set_of qs) → IsSimplification u n (set_of (ps ++ bs)) (set_of (rs ++ qs))
  kept-append ps rs bs qs p q = record {
    value = λ c l o. sets_same (ps ++ bs) (rs ++ qs) c c (two_in ps bs rs qs c (p.value c l o) (q.value c l o))
        (two_in rs qs ps bs c (same_at_sym (set_of ps) c (set_of rs) c (p.value c l o)) (same_at_sym (set_of bs) c (set_of qs) c (q.value c l o)));
    levels = λ f. let left : ItemsFit n (comps_of rs) = p.levels (each_fits_items n ps (λ k h. items_fit_each n (ps ++ bs) k f (each_left ps bs k h))) in
        let right : ItemsFit n (comps_of qs) = q.levels (each_fits_items n bs (λ k h. items_fit_each n (ps ++ bs) k f (each_right ps bs k h))) in
        each_fits_items n (rs ++ qs) (λ k h. elim (Contains-append_cases rs qs k h) [ inl i ↦ items_fit_each n rs k left i | inr i ↦ items_fit_each n qs k right i ]);
    operators = λ o f. let left : AdmitsItems o (comps_of rs) = p.operators o (each_admits_items o ps (λ k h. items_admit_each o (ps ++ bs) k f (each_left ps bs k h))) in
        let right : AdmitsItems o (comps_of qs) = q.operators o (each_admits_items o bs (λ k h. items_admit_each o (ps ++ bs) k f (each_right ps bs k h))) in
        each_admits_items o (rs ++ qs) (λ k h. elim (Contains-append_cases rs qs k h) [ inl i ↦ items_admit_each o rs k left i | inr i ↦ items_admit_each o qs k right i ]);
    widths = λ f. let left : ItemsHaveBoundedWidths (comps_of rs) = p.widths (each_wide_items ps (λ k h. items_wide_each (ps ++ bs) k f (each_left ps bs k h))) in
        let right : ItemsHaveBoundedWidths (comps_of qs) = q.widths (each_wide_items bs (λ k h. items_wide_each (ps ++ bs) k f (each_right ps bs k h))) in
        each_wide_items (rs ++ qs) (λ k h. elim (Contains-append_cases rs qs k h) [ inl i ↦ items_wide_each rs k left i | inr i ↦ items_wide_each qs k right i ]);
    depth = let a : depth_of_comps rs ≤ depth_of_comps (ps ++ bs) = omega (arith, p.depth, comps_depth_le ps (depth_of_comps (ps ++ bs)) (λ k h. comp_depth_le (ps ++ bs) k (each_left ps bs k h))) in
        let b : depth_of_comps qs ≤ depth_of_comps (ps ++ bs) = omega (arith, q.depth, comps_depth_le bs (depth_of_comps (ps ++ bs)) (λ k h. comp_depth_le (ps ++ bs) k (each_right ps bs k h))) in
        let d : depth_of_comps (rs ++ qs) ≤ depth_of_comps (ps ++ bs) = comps_depth_le (rs ++ qs) (depth_of_comps (ps ++ bs)) (λ k h. elim (Contains-append_cases rs qs k h) [ inl i ↦ omega (arith, comp_depth_le rs k i, a) | inr i ↦ omega (arith, comp_depth_le qs k i, b) ]) in
        omega (arith, d);
  }
