-- Terms without a level: lists of them, levels that are left, what fits, and their values without the atom at it.
use Rattle.std.proofs.Common.{◌≡◌, ℕ, zero, suc, ◌+◌, ◌-◌, ◌<◌, ◌≤◌, ◌⊎◌, inl, inr, List, [], ◌∷◌, length, map, refl, sym, ap, ◌∙◌, subst, arith}
use Rattle.std.proofs.lemmas.Bool.{cases_order}
use Rattle.std.proofs.lemmas.Bool.Decides.{nat_tests}
use Rattle.std.proofs.lemmas.List.{get_or-map, length-map}
use Rattle.std.specs.Bool.{IsTrue}
use Rattle.std.specs.List.{Any, remove}
use Rattle.lois_base.specs.Atom.{Atom, equal}
use Rattle.lois_base.specs.Data.{TermD, var, tag, tup, coll, TermsD, no_terms, term, CompD, comp, CompsD, no_comps, more}
use Rattle.lois_base.specs.Fits.{Fits}
use Rattle.lois_base.specs.Normal.{LitUses, GuardUses, Occurs, OccursInPart, OccursInComp, OccursInItem}
use Rattle.lois_base.specs.Rename.{rename, rename_parts, rename_comp, rename_items, rename_lit, rename_cube, rename_constraint}
use Rattle.lois_base.specs.Truth.{atom_at}
use Rattle.lois_base.specs.Values.{point, IsSame}
use Rattle.lois_base.specs.declared.guards.Lit.{Lit}
use Rattle.lois_base.proofs.Order.{equal_refl}
use Rattle.lois_base.proofs.Renamed.{Renames, same_renamed}
use Rattle.lois_base.proofs.RenamedForm.{fits_renamed}
use Rattle.lois_shortest_word.specs.Shortened.{lowered}

pub lowered_below : (gone i : ℕ) → i ≤ gone → lowered gone i ≡ i
lowered_below gone i l = grind (arith, nat_tests)

pub lowered_above : (gone i : ℕ) → gone < i → lowered gone i ≡ i - 1
lowered_above gone i l = grind (arith, nat_tests)

lowered_suc : (gone i : ℕ) → lowered (suc gone) (suc i) ≡ suc (lowered gone i)
lowered_suc gone i = go (cases_order i gone)
  where
    go : (i ≡ gone) ⊎ ((i < gone) ⊎ (gone < i)) → lowered (suc gone) (suc i) ≡ suc (lowered gone i)
    go (inl e) = lowered_below (suc gone) (suc i) (omega arith) ∙ ap suc (sym (lowered_below gone i (omega arith)))
    go (inr (inl l)) = lowered_below (suc gone) (suc i) (omega arith) ∙ ap suc (sym (lowered_below gone i (omega arith)))
    go (inr (inr l)) =
        let e : suc i - 1 ≡ suc (i - 1) = omega arith in
        lowered_above (suc gone) (suc i) (omega arith) ∙ (e ∙ ap suc (sym (lowered_above gone i l)))

-- ---- what is left
pub length_removed : {X : Type 0} (s : List X) (gone : ℕ) → gone < length s → suc (length (remove s gone)) ≡ length s
length_removed [] gone l = absurd (omega arith)
length_removed (x ∷ s) zero l = refl
length_removed (x ∷ s) (suc gone) l = ap suc (length_removed s gone (omega arith))

atom_left : (s : List Atom) (gone i : ℕ) → (i ≡ gone → ⊥) → i < length s → atom_at s i ≡ atom_at (remove s gone) (lowered gone i)
atom_left [] gone i other l = absurd (omega arith)
atom_left (x ∷ s) zero zero other l = absurd (other refl)
atom_left (x ∷ s) zero (suc i) other l =
    let e : lowered 0 (suc i) ≡ i = lowered_above 0 (suc i) (omega arith) ∙ omega arith in
    ap (λ z. atom_at s z) (sym e)
atom_left (x ∷ s) (suc gone) zero other l =
    ap (λ z. atom_at (x ∷ remove s gone) z) (sym (lowered_below (suc gone) 0 (omega arith)))
atom_left (x ∷ s) (suc gone) (suc i) other l =
    atom_left s gone i (λ e. other (ap suc e)) (omega arith) ∙
    ap (λ z. atom_at (x ∷ remove s gone) z) (sym (lowered_suc gone i))

-- ---- a term in which the level doesn't stand
module _ (gone : ℕ) (t : TermD) (unused : Occurs gone t → ⊥) where
  lowered_within : (n i : ℕ) → gone < n → Occurs i t → i < n → suc (lowered gone i) ≤ n - 1
  lowered_within n i l o b = go (cases_order i gone)
    where
      go : (i ≡ gone) ⊎ ((i < gone) ⊎ (gone < i)) → suc (lowered gone i) ≤ n - 1
      go (inl e) = absurd (unused (subst (λ z. Occurs z t) e o))
      go (inr (inl k)) = omega (arith, lowered_below gone i (omega arith))
      go (inr (inr k)) = omega (arith, lowered_above gone i k)

  renames : (s : List Atom) → gone < length s → Renames (lowered gone) (λ i. Occurs i t) s (remove s gone)
  renames s below =
      let one = length_removed s gone below in
      record {
        within = λ i o l. omega (arith, lowered_within (length s) i below o l, one);
        atoms = λ i o l. subst (λ z. IsTrue (equal (atom_at s i) z)) (atom_left s gone i (λ e. unused (subst (λ z. Occurs z t) e o)) l) (equal_refl (atom_at s i));
        after = λ j. lowered_above gone (length s + j) (omega arith) ∙ omega (arith, one);
      }

  pub same_lowered : (s : List Atom) → gone < length s → IsSame (point t s) (point (rename (lowered gone) t) (remove s gone))
  same_lowered s below = same_renamed (lowered gone) t s (remove s gone) (renames s below)

  pub fits_lowered : (s : List ℕ) → gone < length s → Fits (length s) t → Fits (length (remove s gone)) (rename (lowered gone) t)
  fits_lowered s below h =
      let one = length_removed s gone below in
      fits_renamed (lowered gone) t (length s) (length (remove s gone)) (omega (arith, one))
      (record {
        within = λ i o l. omega (arith, lowered_within (length s) i below o l, one);
        after = λ j. lowered_above gone (length s + j) (omega arith) ∙ omega (arith, one);
      }) h

-- ---- a level that stands in a term stands in the renamed one under its new name
module _ (name : ℕ → ℕ) (i : ℕ) where
  any_map : {X : Type 0} (P Q : X → Type 0) (f : X → X) (xs : List X) → ((x : X) → P x → Q (f x)) → Any P xs → Any Q (map f xs)
  any_map P Q f xs h (k, x, l, e, p) = (k, f x, omega (arith, length-map xs f), get_or-map f xs k x (f x) l ∙ ap f e, h x p)

  lit_uses_renamed : (l : Lit) → LitUses i l → LitUses (name i) (rename_lit name l)
  lit_uses_renamed l (inl e) = inl (ap name e)
  lit_uses_renamed l (inr e) = inr (ap name e)

  cube_uses_renamed : (c : List Lit) → Any (LitUses i) c → Any (LitUses (name i)) (rename_cube name c)
  cube_uses_renamed c h = any_map (LitUses i) (LitUses (name i)) (rename_lit name) c lit_uses_renamed h

  guard_uses_renamed : (g : List (List Lit)) → GuardUses i g → GuardUses (name i) (rename_constraint name g)
  guard_uses_renamed g h =
      any_map (Any (LitUses i)) (Any (LitUses (name i))) (rename_cube name) g cube_uses_renamed h

  mutual
    pub occurs_renamed : (t : TermD) → Occurs i t → Occurs (name i) (rename name t)
    occurs_renamed (var j) h = ap name h
    occurs_renamed (tag n) h = h
    occurs_renamed (tup ts) h = part_renamed ts h
    occurs_renamed (coll cs) h = item_renamed cs h

    pub part_renamed : (ts : TermsD) → OccursInPart i ts → OccursInPart (name i) (rename_parts name ts)
    part_renamed no_terms h = h
    part_renamed (term t ts) (inl h) = inl (occurs_renamed t h)
    part_renamed (term t ts) (inr h) = inr (part_renamed ts h)

    comp_renamed : (c : CompD) → OccursInComp i c → OccursInComp (name i) (rename_comp name c)
    comp_renamed (comp m g t) (inl h) = inl (guard_uses_renamed g h)
    comp_renamed (comp m g t) (inr h) = inr (occurs_renamed t h)

    item_renamed : (cs : CompsD) → OccursInItem i cs → OccursInItem (name i) (rename_items name cs)
    item_renamed no_comps h = h
    item_renamed (more c cs) (inl h) = inl (comp_renamed c h)
    item_renamed (more c cs) (inr h) = inr (item_renamed cs h)
