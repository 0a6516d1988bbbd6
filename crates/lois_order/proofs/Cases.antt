-- Where a weak lower bound of a level may be the atom: one cube with strict lower bounds, and one for each weak lower bound in its place.
use Rattle.std.proofs.Common.{◌≡◌, ℕ, ◌+◌, Bool, true, false, not, ◌&&◌, ◌||◌, ◌==◌, if◌then◌else◌, List, [], ◌∷◌, ◌++◌, length, map, refl, sym, ◌∙◌, subst}
use Rattle.std.proofs.lemmas.Bool.{cases_Bool, and_from, and_parts, not-true, or_cases}
use Rattle.std.proofs.lemmas.List.Elements.{recursion_from_All}
use Rattle.std.proofs.lemmas.List.Folds.{Any-from_list_any}
use Rattle.std.specs.Bool.{IsTrue}
use Rattle.std.specs.List.{AllByRecursion, list_all, list_any}
use mathlib.Core.Logic.{◌⊎◌, inl, inr}
use Rattle.lois_base.specs.Atom.{Atom, equal, below}
use Rattle.lois_base.specs.Fits.{LitFits, CubeFits}
use Rattle.lois_base.specs.Theory.{Eliminates}
use Rattle.lois_base.specs.Truth.{atom_at, op_holds, lit_holds, cube_holds, holds}
use Rattle.lois_base.specs.declared.guards.Lit.{Lit}
use Rattle.lois_base.specs.declared.guards.Op.{Op}
use Rattle.lois_base.specs.declared.guards.Op.TheVariants.{Eq, Ne, Lt, AtMost}
use Rattle.lois_base.proofs.Order.{equal_in, equal_refl}
use Rattle.lois_order.specs.Bounds.{JoinsBounds, is_step, is_weak, is_lower, is_weak_lower, remains, is_met}
use Rattle.lois_order.specs.Cubes.{is_absurd}
use Rattle.lois_order.specs.Equations.{equates, renamed}
use Rattle.lois_order.proofs.Bounds.{IsStrictly, lower_at, met_remains, step_of, strict_some}
use Rattle.lois_order.proofs.Each.{each_out, each_in}
use Rattle.lois_order.proofs.Picked.{Picked, picked}
use Rattle.lois_order.proofs.Substituted.{cube_renamed}

module _ (x : ℕ) (cube r : List Lit) (g : List (List Lit)) (fits : CubeFits (x + 1) cube) (na : list_any is_absurd cube ≡ false) (ne : list_any (equates x) cube ≡ false) (s : JoinsBounds x true cube r) (is : (c : List Atom) → holds c g ≡ (cube_holds c r || list_any (is_met c x cube) cube)) where
  f : AllByRecursion (LitFits (x + 1)) cube
  f = recursion_from_All (LitFits (x + 1)) cube fits

  module _ (c : List Atom) (e : length c ≡ x) where
    from_case : list_any (is_met c x cube) cube ≡ true → (a : Atom) × IsTrue (cube_holds (c ++ a ∷ []) cube)
    from_case h =
        let found = Any-from_list_any (is_met c x cube) cube h in
        let l : Lit = found.1 in
        let both = and_parts (is_weak_lower x l) (cube_holds c (map (renamed x l.left) cube)) found.4 in
        (atom_at c l.left, cube_renamed c (atom_at c l.left) x l.left e (equal_refl (atom_at c l.left)) cube fits ∙ both.1)

    some : IsTrue (holds c g) → (a : Atom) × IsTrue (cube_holds (c ++ a ∷ []) cube)
    some h = go (or_cases (cube_holds c r) (list_any (is_met c x cube) cube) (sym (is c) ∙ h))
      where
        go : (cube_holds c r ≡ true) ⊎ (list_any (is_met c x cube) cube ≡ true) → (a : Atom) × IsTrue (cube_holds (c ++ a ∷ []) cube)
        go (inl y) = strict_some c x cube e f na ne (sym (s c) ∙ y)
        go (inr y) = from_case y

    module _ (a : Atom) (h : cube_holds (c ++ a ∷ []) cube ≡ true) where
      -- where the literal bounds x from below, that bound is below the atom
      abbrev is_under : Lit → Bool
      is_under l = if is_lower x l then below (atom_at c l.left) a else true

      under : (ls : List Lit) → AllByRecursion (λ l. is_under l ≡ true) ls → AllByRecursion (IsStrictly c a x e true) ls
      under [] k = tt
      under (l ∷ ls) k = (λ t y. rw y at k.0, under ls k.1)

      all_strict : list_all is_under cube ≡ true → cube_holds c r ≡ true
      all_strict t =
          let k = each_out (lit_holds (c ++ a ∷ [])) cube h in
          s c ∙ each_in (remains c x true cube) cube (met_remains c a x e true cube cube f k (under cube (each_out is_under cube t)) f k)

      module _ (l : Picked is_under cube) where
        lower_is : is_lower x l.item ≡ true
        lower_is = go (cases_Bool (is_lower x l.item))
          where
            go : (is_lower x l.item ≡ true) ⊎ (is_lower x l.item ≡ false) → is_lower x l.item ≡ true
            go (inl y) = y
            go (inr n) = let fails : is_under l.item ≡ false = l.fails in let k = rw n at fails in absurd (cc)

        not_under : below (atom_at c l.item.left) a ≡ false
        not_under = let fails : is_under l.item ≡ false = l.fails in rw lower_is at fails

        steps : op_holds l.item.op (atom_at c l.item.left) a ≡ true
        steps =
            let g2 : LitFits (x + 1) l.item = l.levels (x + 1) f in
            sym (lower_at c a x e l.item.op l.item.left l.item.right g2.0 g2.1 lower_is) ∙ l.each (lit_holds (c ++ a ∷ [])) h

        weak : (o : Op) → is_step o ≡ true → op_holds o (atom_at c l.item.left) a ≡ true → o ≡ AtMost
        weak Eq t y = absurd (cc)
        weak Ne t y = absurd (cc)
        weak Lt t y = let n : below (atom_at c l.item.left) a ≡ false = not_under in absurd (cc)
        weak AtMost t y = refl

        op_is : l.item.op ≡ AtMost
        op_is =
            weak l.item.op (step_of c x cube l.item.op (l.item.right == x) (not (l.item.left == x)) lower_is) steps

        weak_is : is_weak_lower x l.item ≡ true
        weak_is =
            let y : (is_step AtMost && (l.item.right == x) && not (l.item.left == x)) ≡ true = subst (λ o. (is_step o && (l.item.right == x) && not (l.item.left == x)) ≡ true) op_is lower_is in
            subst (λ o. (is_weak o && (l.item.right == x) && not (l.item.left == x)) ≡ true) (sym op_is) y

        same : IsTrue (equal a (atom_at c l.item.left))
        same =
            let y : op_holds AtMost (atom_at c l.item.left) a ≡ true = subst (λ o. op_holds o (atom_at c l.item.left) a ≡ true) op_is steps in
            equal_in a (atom_at c l.item.left) (not-true (below a (atom_at c l.item.left)) y) not_under

        met : is_met c x cube l.item ≡ true
        met =
            and_from (is_weak_lower x l.item) (cube_holds c (map (renamed x l.item.left) cube)) weak_is (sym (cube_renamed c a x l.item.left e same cube fits) ∙ h)

        case_met : list_any (is_met c x cube) cube ≡ true
        case_met = go (cases_Bool (list_any (is_met c x cube) cube))
          where
            go : (list_any (is_met c x cube) cube ≡ true) ⊎ (list_any (is_met c x cube) cube ≡ false) → list_any (is_met c x cube) cube ≡ true
            go (inl y) = y
            go (inr n) =
                let isnt : is_met c x cube l.item ≡ false = l.none (is_met c x cube) n in let m : is_met c x cube l.item ≡ true = met in absurd (cc)

    back : ((a : Atom) × IsTrue (cube_holds (c ++ a ∷ []) cube)) → IsTrue (holds c g)
    back p = go (cases_Bool (list_all (is_under p.0 p.1) cube))
      where
        first : (b d : Bool) → b ≡ true → (b || d) ≡ true
        first true d y = refl
        first false d y = absurd (cc)

        second : (b d : Bool) → d ≡ true → (b || d) ≡ true
        second true d y = refl
        second false d y = y

        go : (list_all (is_under p.0 p.1) cube ≡ true) ⊎ (list_all (is_under p.0 p.1) cube ≡ false) → IsTrue (holds c g)
        go (inl y) = is c ∙ first (cube_holds c r) (list_any (is_met c x cube) cube) (all_strict p.0 p.1 y)
        go (inr n) =
            is c ∙ second (cube_holds c r) (list_any (is_met c x cube) cube) (case_met p.0 p.1 (picked (is_under p.0 p.1) cube n))

  pub cases_eliminate : Eliminates x cube g
  cases_eliminate c e = (some c e, back c e)

-- ---- one literal more: its case is put to the others where it has one
pub one_case : (a w m r k b : Bool) → w ≡ true → k ≡ m → b ≡ (a || k) → (a || ((w && m) || r)) ≡ (b || r)
one_case true w m r k b is same put = rw put refl
one_case false w m r k b is same put = rw (is, put, same) refl

pub no_case : (a w m r b : Bool) → w ≡ false → b ≡ a → (a || ((w && m) || r)) ≡ (b || r)
no_case a w m r b isnt same = rw (isnt, same) refl
