-- The steps of the loops over guards, parts and comprehensions.
use Rattle.std.proofs.Common.{◌≡◌, ℕ, ◌+◌, ◌<◌, ◌≤◌, ◌⊎◌, ◌↔◌, List, ◌∷◌, ◌++◌, length, get_or, drop, map, sym, ap, subst, ◌∙◌}
use Rattle.std.proofs.lemmas.Bool.{false≢true}
use Rattle.std.proofs.lemmas.List.{drop_all}
use Rattle.std.specs.Bool.{IsTrue}
use Rattle.lois_base.specs.Atom.{Atom, equal}
use Rattle.lois_base.specs.Data.{TermD, var, coll, TermsD, term, terms_of, CompD, comp, CompsD, more}
use Rattle.lois_base.specs.Fits.{LitFits, ConstraintFits, Fits, CompFits}
use Rattle.lois_base.specs.FormulaData.{FormulaD, lit, any, no_formulas}
use Rattle.lois_base.specs.Tree.{tree}
use Rattle.lois_base.specs.Truth.{atom_at, lit_holds, cube_holds, holds}
use Rattle.lois_base.specs.Validity.{AdmitsLit, AdmitsTerm, AdmitsParts, AdmitsItems}
use Rattle.lois_base.specs.Values.{SameAt, SamePartsAt, AllInAt, EachInAt, SomeIsAt, OneIsAt}
use Rattle.lois_base.specs.declared.guards.Lit.{Lit}
use Rattle.lois_base.specs.declared.values.Term.{Term}
use Rattle.lois_relate.specs.Built.{Defines, IsBoth}
use Rattle.lois_relate.specs.Named.{atoms_named, AreBelow, level_range, named_lit}
use Rattle.lois_base.proofs.Connectives.{both_true, either_true}
use Rattle.lois_relate.proofs.Names.{lit_named, lit_named_fits, atom_named, below_entered, below_more, length-entered}
use Rattle.lois_relate.proofs.Parts.{as_many_items}
use Rattle.lois_relate.proofs.Sets.{sets_same, parts_as_many}

-- ---- guards
pub literal_says : (names : List ℕ) (l m : Lit) (f : FormulaD) → f ≡ lit m → m ≡ named_lit names l → LitFits (length names) l → (n : ℕ) → AreBelow n names → Defines n (λ c. IsTrue (lit_holds (atoms_named names c) l)) (λ o. AdmitsLit o l) f
literal_says names l m f v e fits n below = subst (Defines n (λ c. IsTrue (lit_holds (atoms_named names c) l)) (λ o. AdmitsLit o l)) (sym (v ∙ ap lit e)) (record {
  truth = λ c k. (λ h. sym (lit_named names c l fits) ∙ h, λ h. lit_named names c l fits ∙ h);
  levels = lit_named_fits n names l fits below;
  operators = λ o h. h;
})

pub literals_split : (d : List Atom) (rest rest' : List Lit) (l : Lit) → rest ≡ l ∷ rest' → IsTrue (cube_holds d rest) ↔ (IsTrue (lit_holds d l) × IsTrue (cube_holds d rest'))
literals_split d rest rest' l e =
    subst (λ z. IsTrue (cube_holds d z) ↔ (IsTrue (lit_holds d l) × IsTrue (cube_holds d rest'))) (sym e) (both_true (lit_holds d l) (cube_holds d rest'))

pub cubes_split : (d : List Atom) (rest rest' : List (List Lit)) (k : List Lit) → rest ≡ k ∷ rest' → IsTrue (holds d rest) ↔ (IsTrue (cube_holds d k) ⊎ IsTrue (holds d rest'))
cubes_split d rest rest' k e =
    subst (λ z. IsTrue (holds d z) ↔ (IsTrue (cube_holds d k) ⊎ IsTrue (holds d rest'))) (sym e) (either_true (cube_holds d k) (holds d rest'))

pub no_literals : (d : List Atom) (k : List Lit) (i : ℕ) → length k ≤ i → IsTrue (cube_holds d (drop i k))
no_literals d k i l = ap (cube_holds d) (drop_all i k l)

pub no_cubes : (d : List Atom) (g : List (List Lit)) (i : ℕ) → length g ≤ i → IsTrue (holds d (drop i g)) → ⊥
no_cubes d g i l h = false≢true (sym (ap (holds d) (drop_all i g l)) ∙ h)

-- ---- parts and comprehensions
pub all_in_split : (ks ks' : CompsD) (k : CompD) → ks ≡ more k ks' → (c : List Atom) (ss : CompsD) (d : List Atom) → AllInAt ks c ss d ↔ (EachInAt k c ss d × AllInAt ks' c ss d)
all_in_split ks ks' k e c ss d =
    subst (λ z. AllInAt z c ss d ↔ (EachInAt k c ss d × AllInAt ks' c ss d)) (sym e) (λ h. h, λ h. h)

pub some_is_split : (ks ks' : CompsD) (k : CompD) → ks ≡ more k ks' → (c : List Atom) (w : TermD) (x : List Atom) → SomeIsAt ks c w x ↔ (OneIsAt k c w x ⊎ SomeIsAt ks' c w x)
some_is_split ks ks' k e c w x =
    subst (λ z. SomeIsAt z c w x ↔ (OneIsAt k c w x ⊎ SomeIsAt ks' c w x)) (sym e) (λ h. h, λ h. h)

pub parts_split : (ts ts' ss ss' : TermsD) (t s : TermD) → ts ≡ term t ts' → ss ≡ term s ss' → (c d : List Atom) → SamePartsAt ts c ss d ↔ (SameAt t c s d × SamePartsAt ts' c ss' d)
parts_split ts ts' ss ss' t s e f c d =
    subst (λ z. SamePartsAt z c ss d ↔ (SameAt t c s d × SamePartsAt ts' c ss' d)) (sym e) (subst (λ z. SamePartsAt (term t ts') c z d ↔ (SameAt t c s d × SamePartsAt ts' c ss' d)) (sym f) (λ h. h, λ h. h))

-- ---- names inside of a comprehension
module _ (n m inner : ℕ) (sum : inner ≡ n + m) (outer names : List ℕ) (entered : names ≡ outer ++ level_range n m) where
  pub names_below : AreBelow n outer → AreBelow inner names
  names_below h = subst (AreBelow inner) (sym entered) (subst (λ k. AreBelow k (outer ++ level_range n m)) (sym sum) (below_entered n m outer h))

  pub names_length : length names ≡ length outer + m
  names_length = ap length entered ∙ length-entered n m outer

  pub item_fits : (g : List (List Lit)) (t : TermD) → CompFits (length outer) (comp m g t) → Fits (length names) t
  item_fits g t h = subst (λ k. Fits k t) (sym names_length) h.2

  pub guard_fits : (g : List (List Lit)) (t : TermD) → CompFits (length outer) (comp m g t) → ConstraintFits (length names) g
  guard_fits g t h = subst (λ k. ConstraintFits k g) (sym names_length) h.1

pub own_below_more : (n m inner : ℕ) (own : List ℕ) → inner ≡ n + m → AreBelow n own → AreBelow inner own
own_below_more n m inner own sum h = subst (λ k. AreBelow k own) (sym sum) (below_more n m own h)

-- ---- tuples of other widths
pub parts_apart : (n : ℕ) (sn tn : List ℕ) (ts us : List Term) (vs ws : List TermD) (f : FormulaD) → map tree ts ≡ vs → map tree us ≡ ws → (length ts ≡ length us → ⊥) → f ≡ any no_formulas → Defines n (λ c. SamePartsAt (terms_of vs) (atoms_named sn c) (terms_of ws) (atoms_named tn c)) (λ o. AdmitsParts o (terms_of vs) × AdmitsParts o (terms_of ws)) f
parts_apart n sn tn ts us vs ws f m k differ e = subst (Defines n (λ c. SamePartsAt (terms_of vs) (atoms_named sn c) (terms_of ws) (atoms_named tn c)) (λ o. AdmitsParts o (terms_of vs) × AdmitsParts o (terms_of ws))) (sym e) (record {
  truth = λ c l. (
    λ h. absurd h,
    λ h. differ (as_many_items ts us vs ws m k (parts_as_many vs ws (atoms_named sn c) (atoms_named tn c) h)),
  );
  levels = tt;
  operators = λ o h. tt;
})

-- ---- atoms and sets
pub atoms_say : (n : ℕ) (sn tn : List ℕ) (i j l r : ℕ) (f : FormulaD) → AreBelow n sn → AreBelow n tn → i < length sn → j < length tn → l ≡ get_or sn i 0 → r ≡ get_or tn j 0 → ((k : ℕ) → l < k → r < k → Defines k (λ c. IsTrue (equal (atom_at c l) (atom_at c r))) (λ o. Unit {0}) f) → (s t : TermD) → s ≡ var i → t ≡ var j → Defines n (λ c. SameAt s (atoms_named sn c) t (atoms_named tn c)) (λ o. AdmitsTerm o s × AdmitsTerm o t) f
atoms_say n sn tn i j l r f sb tb si tj el er says s t es et =
    let lb : l < n = subst (λ k. k < n) (sym el) (sb i 0 si) in
    let rb : r < n = subst (λ k. k < n) (sym er) (tb j 0 tj) in
    let here = says n lb rb in
    subst (λ z. Defines n (λ c. SameAt z (atoms_named sn c) t (atoms_named tn c)) (λ o. AdmitsTerm o z × AdmitsTerm o t) f) (sym es) (subst (λ z. Defines n (λ c. SameAt (var i) (atoms_named sn c) z (atoms_named tn c)) (λ o. AdmitsTerm o (var i) × AdmitsTerm o z) f) (sym et) (record {
      truth = λ c k. (
        λ h. subst (λ z. IsTrue (equal z (atom_at (atoms_named tn c) j))) (atom_named sn c i si l el) (subst (λ z. IsTrue (equal (atom_at c l) z)) (atom_named tn c j tj r er) ((here.truth c k).0 h)),
        λ h. (here.truth c k).1 (subst (λ z. IsTrue (equal z (atom_at c r))) (sym (atom_named sn c i si l el)) (subst (λ z. IsTrue (equal (atom_at (atoms_named sn c) i) z)) (sym (atom_named tn c j tj r er)) h)),
      );
      levels = here.levels;
      operators = λ o h. here.operators o tt;
    }))

pub sets_say : (n : ℕ) (sn tn : List ℕ) (cs ss : CompsD) (f g r : FormulaD) → Defines n (λ c. AllInAt cs (atoms_named sn c) ss (atoms_named tn c)) (λ o. AdmitsItems o cs × AdmitsItems o ss) f → Defines n (λ c. AllInAt ss (atoms_named tn c) cs (atoms_named sn c)) (λ o. AdmitsItems o ss × AdmitsItems o cs) g → IsBoth f g r → Defines n (λ c. SameAt (coll cs) (atoms_named sn c) (coll ss) (atoms_named tn c)) (λ o. AdmitsItems o cs × AdmitsItems o ss) r
sets_say n sn tn cs ss f g r there back both = record {
  truth = λ c k. (
    λ h. let x = (both.truth c).0 h in
        (sets_same cs (atoms_named sn c) ss (atoms_named tn c)).1 ((there.truth c k).0 x.0, (back.truth c k).0 x.1),
    λ h. let x = (sets_same cs (atoms_named sn c) ss (atoms_named tn c)).0 h in
        (both.truth c).1 ((there.truth c k).1 x.0, (back.truth c k).1 x.1),
  );
  levels = both.levels n there.levels back.levels;
  operators = λ o h. both.operators o (there.operators o h) (back.operators o (h.1, h.0));
}
