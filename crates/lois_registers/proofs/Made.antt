-- What is made of wanted comprehensions: it has their members, and is as sound.
use Rattle.std.proofs.Common.{◌≡◌, ℕ, ◌+◌, ◌≤◌, ◌<◌, Bool, false, List, [], ◌∷◌, ◌++◌, Option, length, get_or, take, refl, sym, ap, subst, ◌∙◌, ◌⊎◌, inl, inr, arith, append_assoc, append-nil}
use Rattle.std.specs.Bool.{IsTrue}
use Rattle.lois_answers.specs.Sound.{CompHasTags, ItemsHaveTags}
use Rattle.lois_base.specs.Atom.{Atom}
use Rattle.lois_base.specs.Data.{TermD, CompD, comp, comps_of, depth_of_comp}
use Rattle.lois_base.specs.ListDepth.{depth_of_comps}
use Rattle.lois_base.specs.Fits.{CompFits, ItemsFit}
use Rattle.lois_base.specs.Truth.{holds}
use Rattle.lois_base.specs.Validity.{AdmitsComp, AdmitsItems, CompIsStrict, ItemsAreStrict, CompHasBoundedWidths, ItemsHaveBoundedWidths}
use Rattle.lois_base.specs.Values.{MakesAt, MemberAt}
use Rattle.lois_base.specs.Validity.{AdmitsConstraint, IsStrictConstraint}
use Rattle.lois_base.specs.Fits.{ConstraintFits}
use Rattle.lois_base.specs.declared.guards.Lit.{Lit}
use Rattle.lois_base.proofs.Validity.{all_that_are}
use Rattle.std.specs.List.{All, flat_map}
use Rattle.std.proofs.lemmas.List.{take_more, flat_map_more}
use Rattle.lois_registers.specs.Placed.{HasGuard, IsSpelledComp, IsIdle, AreMade, placements}
use Rattle.lois_registers.specs.MadeSteps.{AddsMade}
use Rattle.lois_registers.proofs.Contents.{place_is}
use Rattle.lois_registers.proofs.Members.{Each}

pub made_append : (ks ls made more : List CompD) → AreMade ks made → AreMade ls more → AreMade (ks ++ ls) (made ++ more)
made_append [] ls made more h i = subst (λ z. AreMade ls (z ++ more)) (sym h) i
made_append (k ∷ ks) ls made more (inl (idle, h)) i = inl (idle, made_append ks ls made more h i)
made_append (k ∷ ks) ls made more (inr (l, rest, e, is, h)) i = inr (l, rest ++ more, ap (λ z. z ++ more) e, is, made_append ks ls rest more h i)

pub adds_more : (ks ls old new newer : List CompD) → AddsMade ks old new → AddsMade ls new newer → AddsMade (ks ++ ls) old newer
adds_more ks ls old new newer (made, e, h) (more, f, i) = (
  made ++ more,
  f ∙ (ap (λ z. z ++ more) e ∙ append_assoc old made more),
  made_append ks ls made more h i,
)

pub adds_to : (ks ls made new : List CompD) → AreMade ks made → AddsMade ls made new → AreMade (ks ++ ls) new
adds_to ks ls made new h (more, e, i) = subst (AreMade (ks ++ ls)) (sym e) (made_append ks ls made more h i)

pub adds_one : (k l : CompD) (old new : List CompD) → new ≡ old ++ l ∷ [] → IsSpelledComp k l → AddsMade (k ∷ []) old new
adds_one k l old new e h = (l ∷ [], e, inr (l, [], refl, h, refl))

pub adds_idle : (k : CompD) (old new : List CompD) → new ≡ old → IsIdle k → AddsMade (k ∷ []) old new
adds_idle k old new e h = ([], e ∙ sym (append-nil old), inl (h, refl))

module _ (w : TermD) (x c : List Atom) where
  make_same : (k l : CompD) → IsSpelledComp k l → MakesAt w x k c → MakesAt w x l c
  make_same (comp m g t) (comp n h s) (i, j, same) (e, is, a, b) =
      (e, record { count = is.count ∙ i; guard = subst IsTrue (sym (same.truth (c ++ e))) is.guard }, a ∙ j, b)

  same_make : (k l : CompD) → IsSpelledComp k l → MakesAt w x l c → MakesAt w x k c
  same_make (comp m g t) (comp n h s) (i, j, same) (e, is, a, b) =
      (e, record { count = is.count ∙ sym i; guard = subst IsTrue (same.truth (c ++ e)) is.guard }, a ∙ sym j, b)

  idle_makes : (k : CompD) → IsIdle k → MakesAt w x k c → ⊥
  idle_makes (comp m g t) idle (e, is, a, b) = false_true (holds (c ++ e) g) (idle (c ++ e)) is.guard
    where
      false_true : (b : Bool) → b ≡ false → IsTrue b → ⊥
      false_true b e h = cc

  pub made_member : (ks made : List CompD) → AreMade ks made → MemberAt w x (comps_of ks) c → MemberAt w x (comps_of made) c
  made_member [] made h m = absurd m
  made_member (k ∷ ks) made (inl (idle, h)) (inl m) = absurd (idle_makes k idle m)
  made_member (k ∷ ks) made (inl (idle, h)) (inr m) = made_member ks made h m
  made_member (k ∷ ks) made (inr (l, rest, e, is, h)) (inl m) = subst (λ z. MemberAt w x (comps_of z) c) (sym e) (inl (make_same k l is m))
  made_member (k ∷ ks) made (inr (l, rest, e, is, h)) (inr m) = subst (λ z. MemberAt w x (comps_of z) c) (sym e) (inr (made_member ks rest h m))

  pub member_made : (ks made : List CompD) → AreMade ks made → MemberAt w x (comps_of made) c → MemberAt w x (comps_of ks) c
  member_made [] made h m = absurd (subst (λ z. MemberAt w x (comps_of z) c) h m)
  member_made (k ∷ ks) made (inl (idle, h)) m = inr (member_made ks made h m)
  member_made (k ∷ ks) made (inr (l, rest, e, is, h)) m = go (subst (λ z. MemberAt w x (comps_of z) c) e m) (λ j. member_made ks rest h j)
    where
      go : MakesAt w x l c ⊎ MemberAt w x (comps_of rest) c → (MemberAt w x (comps_of rest) c → MemberAt w x (comps_of ks) c) → MemberAt w x (comps_of (k ∷ ks)) c
      go (inl i) r = inl (same_make k l is i)
      go (inr j) r = inr (r j)

-- a fact that goes over from a wanted comprehension to the one that is made of it
pub each_made : (P : CompD → Type 0) → ((k l : CompD) → IsSpelledComp k l → P k → P l) → (ks made : List CompD) → AreMade ks made → Each P ks → Each P made
each_made P step [] made h i = subst (Each P) (sym h) tt
each_made P step (k ∷ ks) made (inl (idle, h)) i = each_made P step ks made h i.1
each_made P step (k ∷ ks) made (inr (l, rest, e, is, h)) i = subst (Each P) (sym e) (step k l is i.0, each_made P step ks rest h i.1)

pub fits_made : (n : ℕ) (k l : CompD) → IsSpelledComp k l → CompFits n k → CompFits n l
fits_made n (comp m g t) (comp o h s) (i, j, same) f = go m o t s i j f
  where
    go : (m o : ℕ) (t s : TermD) → m ≡ o → t ≡ s → CompFits n (comp m g t) → CompFits n (comp o h s)
    go m o t s i j f =
        subst (λ z. CompFits n (comp z h s)) i (subst (λ z. CompFits n (comp m h z)) j (f.0, same.levels (n + m) f.1, f.2))

pub admits_made : (o : Bool) (k l : CompD) → IsSpelledComp k l → AdmitsComp o k → AdmitsComp o l
admits_made o (comp m g t) (comp n h s) (i, j, same) f = subst (λ z. AdmitsComp o (comp n h z)) j (same.operators o f.0, f.1)

pub strict_made : (k l : CompD) → IsSpelledComp k l → CompIsStrict k → CompIsStrict l
strict_made (comp m g t) (comp n h s) (i, j, same) f = subst (λ z. CompIsStrict (comp n h z)) j (same.strict f.0, f.1)

pub widths_made : (k l : CompD) → IsSpelledComp k l → CompHasBoundedWidths k → CompHasBoundedWidths l
widths_made (comp m g t) (comp n h s) (i, j, same) f = subst (λ z. CompHasBoundedWidths (comp n h z)) j f

pub tags_made : (k l : CompD) → IsSpelledComp k l → CompHasTags k → CompHasTags l
tags_made (comp m g t) (comp n h s) (i, j, same) f = subst (λ z. CompHasTags (comp n h z)) j f

pub depth_made : (d : ℕ) (k l : CompD) → IsSpelledComp k l → depth_of_comp k ≤ d → depth_of_comp l ≤ d
depth_made d (comp m g t) (comp n h s) (i, j, same) f = subst (λ z. depth_of_comp (comp n h z) ≤ d) j f

-- the facts of lists
pub items_fit : (n : ℕ) (ks : List CompD) → Each (CompFits n) ks → ItemsFit n (comps_of ks)
items_fit n [] h = tt
items_fit n (k ∷ ks) h = (h.0, items_fit n ks h.1)

pub items_admit : (o : Bool) (ks : List CompD) → Each (AdmitsComp o) ks → AdmitsItems o (comps_of ks)
items_admit o [] h = tt
items_admit o (k ∷ ks) h = (h.0, items_admit o ks h.1)

pub items_strict : (ks : List CompD) → Each CompIsStrict ks → ItemsAreStrict (comps_of ks)
items_strict [] h = tt
items_strict (k ∷ ks) h = (h.0, items_strict ks h.1)

pub items_widths : (ks : List CompD) → Each CompHasBoundedWidths ks → ItemsHaveBoundedWidths (comps_of ks)
items_widths [] h = tt
items_widths (k ∷ ks) h = (h.0, items_widths ks h.1)

pub items_tags : (ks : List CompD) → Each CompHasTags ks → ItemsHaveTags (comps_of ks)
items_tags [] h = tt
items_tags (k ∷ ks) h = (h.0, items_tags ks h.1)

pub items_depth : (d : ℕ) (ks : List CompD) → Each (λ k. depth_of_comp k ≤ d) ks → depth_of_comps ks ≤ d
items_depth d [] h = omega arith
items_depth d (k ∷ ks) h = omega (arith, h.0, items_depth d ks h.1)

-- the guard that a step got
pub guard_made : (g placed guard : List (List Lit)) → placed ≡ g → ((c : List Atom) → holds c guard ≡ holds c placed) → ((n : ℕ) → ConstraintFits n placed → ConstraintFits n guard) → ((o : Bool) → AdmitsConstraint o placed → AdmitsConstraint o guard) → (IsStrictConstraint placed → IsStrictConstraint guard) → HasGuard g guard
guard_made g placed guard e truth fits operators strict =
    subst (λ z. HasGuard z guard) e (record { truth = truth; levels = fits; operators = operators; strict = strict })

pub guard_idle : (m : ℕ) (t : TermD) (g placed guard : List (List Lit)) → placed ≡ g → ((c : List Atom) → holds c guard ≡ holds c placed) → guard ≡ [] → IsIdle (comp m g t)
guard_idle m t g placed guard e truth none c =
    subst (λ z. holds c z ≡ false) e (sym (truth c) ∙ ap (holds c) none)

module _ {X : Type 0} (f : X → List CompD) where
  pub flat_take : (xs : List X) (i : ℕ) (x : X) → i < length xs → x ≡ get_or xs i x → flat_map f (take (i + 1) xs) ≡ flat_map f (take i xs) ++ f x
  flat_take xs i x l e =
      ap (flat_map f) (take_more xs i x l ∙ ap (λ z. take i xs ++ z ∷ []) (sym e)) ∙ sym (flat_map_more f [] (take i xs) x)

pub places_few : (k : ℕ) (places : List (List (Option ℕ))) → places ≡ placements k → k ≤ 4 → All (λ os. length os ≤ 4) places
places_few k places e l =
    subst (All (λ os. length os ≤ 4)) (sym e) (all_that_are (λ os. length os ≤ 4) (placements k) (λ os i. subst (λ n. n ≤ 4) (sym (place_is k os i).count) l))
