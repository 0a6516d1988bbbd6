-- Pairs of comprehensions: items that are there on both sides, one by one and in a whole set.
use Rattle.std.proofs.Common.{◌≡◌, ℕ, Bool, ◌+◌, ◌<◌, ◌⊎◌, inl, inr, ◌↔◌, Some, List, ◌++◌, length, get_or, map, refl, ap, ◌∙◌, subst}
use Rattle.std.proofs.lemmas.Option.{slice_get_read, slice_get-map}
use Rattle.std.specs.Bool.{IsTrue}
use Rattle.std.specs.Prelude.{slice_get, option_map}
use Rattle.lois_base.specs.Atom.{Atom}
use Rattle.lois_base.specs.Data.{TermD, CompD, comp, CompsD, more}
use Rattle.lois_base.specs.FormulaData.{FormulaD}
use Rattle.lois_base.specs.Tree.{comp_of}
use Rattle.lois_base.specs.Truth.{holds}
use Rattle.lois_base.specs.Validity.{AdmitsConstraint, AdmitsTerm, AdmitsComp, AdmitsItems}
use Rattle.lois_base.specs.Values.{EachInAt, SomeIsAt, OneIsAt}
use Rattle.lois_base.specs.declared.guards.Lit.{Lit}
use Rattle.lois_base.specs.declared.values.Comp.{Comp}
use Rattle.lois_relate.specs.Built.{Defines, IsBoth, IsEither, IsForSome}
use Rattle.lois_relate.specs.Compared.{IsForEach, DefinesPaired, DefinesItem, DefinesFound}
use Rattle.lois_relate.specs.Named.{atoms_named, AreBelow, level_range}
use Rattle.lois_relate.proofs.Binders.{each_says, paired_one}
use Rattle.lois_relate.proofs.Loops.{AnySoFar, any_go_on}
use Rattle.lois_relate.proofs.Names.{below_entered, below_more}
use Rattle.lois_relate.proofs.Steps.{some_is_split}

pub item_got : (ks : List Comp) (vs : List CompD) (i : ℕ) (k : Comp) → map comp_of ks ≡ vs → i < length ks → k ≡ get_or ks i k → slice_get vs i ≡ Some (comp_of k)
item_got ks vs i k m l e =
    subst (λ z. slice_get z i ≡ Some (comp_of k)) m (slice_get-map comp_of ks i ∙ ap (option_map comp_of) (slice_get_read ks (length ks) i k refl l e))

module _ (n : ℕ) (sn tn : List ℕ) (k : ℕ) (h : List (List Lit)) (s : TermD) where
  abbrev pub Found : CompsD → List Atom → Type 0
  Found qs c = IsTrue (holds (atoms_named (sn ++ level_range n k) c) h) × SomeIsAt qs (atoms_named tn c) s (atoms_named (sn ++ level_range n k) c)

  abbrev pub FoundSoFar : CompsD → CompsD → FormulaD → Type 0
  FoundSoFar rest whole =
      AnySoFar (n + k) (Found rest) (Found whole) (λ o. AdmitsComp o (comp k h s) × AdmitsItems o whole)

  pub found_goes_on : (whole rest rest' : CompsD) (q : CompD) → rest ≡ more q rest' → (f g r : FormulaD) → FoundSoFar rest whole f → DefinesItem n sn (comp k h s) tn q g → ((o : Bool) → AdmitsItems o whole → AdmitsComp o q) → IsEither f g r → FoundSoFar rest' whole r
  found_goes_on whole rest rest' q e f g r so_far says admits either =
      any_go_on (n + k) (Found rest) (Found whole) (λ o. AdmitsComp o (comp k h s) × AdmitsItems o whole) (λ c. IsTrue (holds (atoms_named (sn ++ level_range n k) c) h) × OneIsAt q (atoms_named tn c) s (atoms_named (sn ++ level_range n k) c)) (Found rest') (λ o. AdmitsComp o (comp k h s) × AdmitsComp o q) f g r so_far (λ c. split c (some_is_split rest rest' q e (atoms_named tn c) s (atoms_named (sn ++ level_range n k) c))) says (λ o a. (a.0, admits o a.1)) either
    where
      split : (c : List Atom) → SomeIsAt rest (atoms_named tn c) s (atoms_named (sn ++ level_range n k) c) ↔ (OneIsAt q (atoms_named tn c) s (atoms_named (sn ++ level_range n k) c) ⊎ SomeIsAt rest' (atoms_named tn c) s (atoms_named (sn ++ level_range n k) c)) → Found rest c ↔ ((IsTrue (holds (atoms_named (sn ++ level_range n k) c) h) × OneIsAt q (atoms_named tn c) s (atoms_named (sn ++ level_range n k) c)) ⊎ Found rest' c)
      split c parts = (
        λ x. elim (parts.0 x.1) [ inl p ↦ inl (x.0, p) | inr p ↦ inr (x.0, p) ],
        λ x. elim x [ inl p ↦ (p.0, parts.1 (inl p.1)) | inr p ↦ (p.0, parts.1 (inr p.1)) ],
      )

  module _ (sn_below : AreBelow n sn) (tn_below : AreBelow n tn) where
    pub each_found : (qs : CompsD) (f r : FormulaD) → DefinesFound n sn (comp k h s) tn qs f → IsForEach n k (sn ++ level_range n k) h f r → Defines n (λ c. EachInAt (comp k h s) (atoms_named sn c) qs (atoms_named tn c)) (λ o. AdmitsComp o (comp k h s) × AdmitsItems o qs) r
    each_found qs f r found each =
        each_says n k (n + k) refl tn sn (sn ++ level_range n k) refl tn_below sn_below h s qs f r found each

    pub pair_item : (m : ℕ) (g : List (List Lit)) (t : TermD) (f r : FormulaD) → DefinesPaired n sn (comp k h s) tn (comp m g t) f → IsForSome m f r → DefinesItem n sn (comp k h s) tn (comp m g t) r
    pair_item m g t f r pair some =
        paired_one (n + k) m ((n + k) + m) refl (sn ++ level_range n k) tn (tn ++ level_range (n + k) m) refl (below_entered n k sn sn_below) (below_more n k tn tn_below) h g s t (λ o. AdmitsComp o (comp k h s) × AdmitsComp o (comp m g t)) f r pair some

  pub guarded_item : (inner : ℕ) → inner ≡ n + k → (names : List ℕ) → names ≡ sn ++ level_range n k → (q : CompD) (i f r : FormulaD) → Defines inner (λ c. IsTrue (holds (atoms_named names c) h)) (λ o. AdmitsConstraint o h) i → Defines inner (λ c. OneIsAt q (atoms_named tn c) s (atoms_named names c)) (λ o. AdmitsComp o q × AdmitsTerm o s) f → IsBoth i f r → DefinesItem n sn (comp k h s) tn q r
  guarded_item inner sum names e q i f r guard item both =
      subst (λ j. At j (sn ++ level_range n k)) sum (subst (At inner) e (record {
        truth = λ c l. (
          λ x. let y = (both.truth c).0 x in ((guard.truth c l).0 y.0, (item.truth c l).0 y.1),
          λ x. (both.truth c).1 ((guard.truth c l).1 x.0, (item.truth c l).1 x.1),
        );
        levels = both.levels inner guard.levels item.levels;
        operators = λ o a. both.operators o (guard.operators o a.0.0) (item.operators o (a.1, a.0.1));
      }))
    where
      At : ℕ → List ℕ → Type 0
      At j x = Defines j (λ c. IsTrue (holds (atoms_named x c) h) × OneIsAt q (atoms_named tn c) s (atoms_named x c)) (λ o. AdmitsComp o (comp k h s) × AdmitsComp o q) r
