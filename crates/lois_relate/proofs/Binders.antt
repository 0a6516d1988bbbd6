-- What a comprehension says of the atoms at its binders, and of each or some of them.
use Rattle.std.proofs.Common.{◌≡◌, ℕ, Bool, ◌+◌, ◌⊎◌, inl, inr, List, ◌++◌, length, length-append, sym, subst, arith}
use Rattle.std.specs.Bool.{IsTrue}
use Rattle.lois_base.specs.Atom.{Atom}
use Rattle.lois_base.specs.Data.{TermD, comp, CompsD}
use Rattle.lois_base.specs.FormulaData.{FormulaD, FormulaFits, any, no_formulas}
use Rattle.lois_base.specs.FormulaTruth.{FormulaHolds}
use Rattle.lois_base.specs.Truth.{holds}
use Rattle.lois_base.specs.Validity.{AdmitsConstraint, AdmitsTerm, AdmitsComp, AdmitsItems}
use Rattle.lois_base.specs.FormulaOperators.{AdmitsFormula}
use Rattle.lois_base.specs.Values.{SameAt, EachInAt, InAt, SomeIsAt, OneIsAt}
use Rattle.lois_base.specs.declared.guards.Lit.{Lit}
use Rattle.lois_relate.specs.Built.{Defines, IsBoth, IsNegation, IsForSome}
use Rattle.lois_relate.specs.Compared.{IsForEach}
use Rattle.lois_relate.specs.Named.{atoms_named, AreBelow, level_range}
use Rattle.lois_relate.proofs.Decided.{formula_decided}
use Rattle.lois_relate.proofs.Names.{chosen_longer, chosen_entered}
use Rattle.lois_relate.proofs.Sets.{some_is_in}

-- a term with the names `own`, and a comprehension with the names `outer` and its binders at the levels from n on
module _ (n m inner : ℕ) (sum : inner ≡ n + m) (own outer names : List ℕ) (entered : names ≡ outer ++ level_range n m) (own_below : AreBelow n own) (outer_below : AreBelow n outer) where
  longer : (c e : List Atom) → length c ≡ n → length e ≡ m → length (c ++ e) ≡ inner
  longer c e k l = omega (arith, length-append c e)

  comp_names : (c e : List Atom) → length c ≡ n → length e ≡ m → atoms_named names (c ++ e) ≡ atoms_named outer c ++ e
  comp_names c e k l =
      subst (λ z. atoms_named z (c ++ e) ≡ atoms_named outer c ++ e) (sym entered) (chosen_entered outer n m c e k l outer_below)

  own_names : (c e : List Atom) → length c ≡ n → atoms_named own (c ++ e) ≡ atoms_named own c
  own_names c e k = chosen_longer own c e (subst (λ j. AreBelow j own) (sym k) own_below)

  guard_there : (g : List (List Lit)) (c e : List Atom) → length c ≡ n → length e ≡ m → IsTrue (holds (atoms_named names (c ++ e)) g) → IsTrue (holds (atoms_named outer c ++ e) g)
  guard_there g c e k l h = subst (λ z. IsTrue (holds z g)) (comp_names c e k l) h

  guard_back : (g : List (List Lit)) (c e : List Atom) → length c ≡ n → length e ≡ m → IsTrue (holds (atoms_named outer c ++ e) g) → IsTrue (holds (atoms_named names (c ++ e)) g)
  guard_back g c e k l h = subst (λ z. IsTrue (holds z g)) (sym (comp_names c e k l)) h

  module _ (g : List (List Lit)) (t s : TermD) (e h b r : FormulaD) where
    -- the item is the same as s for some atoms that the guard admits
    pub one_says : Defines inner (λ c. SameAt t (atoms_named names c) s (atoms_named own c)) (λ o. AdmitsTerm o t × AdmitsTerm o s) e → Defines inner (λ c. IsTrue (holds (atoms_named names c) g)) (λ o. AdmitsConstraint o g) h → IsBoth e h b → IsForSome m b r → Defines n (λ c. OneIsAt (comp m g t) (atoms_named outer c) s (atoms_named own c)) (λ o. AdmitsComp o (comp m g t) × AdmitsTerm o s) r
    one_says equal guard both some = record {
      truth = λ c k. (λ x. there c k ((some.truth c).0 x), λ x. back c k x);
      levels = some.levels n (subst (λ j. FormulaFits j b) sum (both.levels inner equal.levels guard.levels));
      operators = λ o a. some.operators o (both.operators o (equal.operators o (a.0.1, a.1)) (guard.operators o a.0.0));
    }
      where
        there : (c : List Atom) → length c ≡ n → ((x : List Atom) × (length x ≡ m) × FormulaHolds (c ++ x) b) → OneIsAt (comp m g t) (atoms_named outer c) s (atoms_named own c)
        there c k (x, l, p) =
            let q = (both.truth (c ++ x)).0 p in
            let i : SameAt t (atoms_named names (c ++ x)) s (atoms_named own (c ++ x)) = (equal.truth (c ++ x) (longer c x k l)).0 q.0 in
            let j : IsTrue (holds (atoms_named names (c ++ x)) g) = (guard.truth (c ++ x) (longer c x k l)).0 q.1 in
            (x, record { count = l; guard = guard_there g c x k l j }, subst (λ z. SameAt t z s (atoms_named own c)) (comp_names c x k l) (subst (λ z. SameAt t (atoms_named names (c ++ x)) s z) (own_names c x k) i))

        back : (c : List Atom) → length c ≡ n → OneIsAt (comp m g t) (atoms_named outer c) s (atoms_named own c) → FormulaHolds c r
        back c k (x, y, i) =
            let l = y.count in
            let u : SameAt t (atoms_named names (c ++ x)) s (atoms_named own (c ++ x)) = subst (λ z. SameAt t (atoms_named names (c ++ x)) s z) (sym (own_names c x k)) (subst (λ z. SameAt t z s (atoms_named own c)) (sym (comp_names c x k l)) i) in
            (some.truth c).1 (x, l, (both.truth (c ++ x)).1 ((equal.truth (c ++ x) (longer c x k l)).1 u, (guard.truth (c ++ x) (longer c x k l)).1 (guard_back g c x k l y.guard)))

  module _ (g : List (List Lit)) (t s : TermD) (e : FormulaD) where
    -- an item that is the same as s nowhere isn't so for atoms that the guard admits
    pub none_says : e ≡ any no_formulas → Defines inner (λ c. SameAt t (atoms_named names c) s (atoms_named own c)) (λ o. AdmitsTerm o t × AdmitsTerm o s) e → Defines n (λ c. OneIsAt (comp m g t) (atoms_named outer c) s (atoms_named own c)) (λ o. AdmitsComp o (comp m g t) × AdmitsTerm o s) e
    none_says never equal = record {
      truth = λ c k. (λ h. absurd (subst (FormulaHolds c) never h), λ x. absurd (back c k x));
      levels = subst (FormulaFits n) (sym never) tt;
      operators = λ o a. subst (AdmitsFormula o) (sym never) tt;
    }
      where
        back : (c : List Atom) → length c ≡ n → OneIsAt (comp m g t) (atoms_named outer c) s (atoms_named own c) → ⊥
        back c k (x, y, i) =
            let l = y.count in
            let u : SameAt t (atoms_named names (c ++ x)) s (atoms_named own (c ++ x)) = subst (λ z. SameAt t (atoms_named names (c ++ x)) s z) (sym (own_names c x k)) (subst (λ z. SameAt t z s (atoms_named own c)) (sym (comp_names c x k l)) i) in
            subst (FormulaHolds (c ++ x)) never ((equal.truth (c ++ x) (longer c x k l)).1 u)

  module _ (g : List (List Lit)) (t : TermD) (ss : CompsD) (f r : FormulaD) where
    -- each item that the guard admits is found in the set
    pub each_says : Defines inner (λ c. IsTrue (holds (atoms_named names c) g) × SomeIsAt ss (atoms_named own c) t (atoms_named names c)) (λ o. AdmitsComp o (comp m g t) × AdmitsItems o ss) f → IsForEach n m names g f r → Defines n (λ c. EachInAt (comp m g t) (atoms_named outer c) ss (atoms_named own c)) (λ o. AdmitsComp o (comp m g t) × AdmitsItems o ss) r
    each_says found each = record {
      truth = λ c k. (
        λ p e y. is_in c e k y.count ((each.truth c k).0 p e y.count (guard_back g c e k y.count y.guard)),
        λ p. (each.truth c k).1 (λ e l y. is_found c e k l y (p e (record { count = l; guard = guard_there g c e k l y }))),
      );
      levels = each.levels;
      operators = λ o a. each.operators o a.0.0 (found.operators o a);
    }
      where
        is_in : (c e : List Atom) → length c ≡ n → length e ≡ m → FormulaHolds (c ++ e) f → InAt t (atoms_named outer c ++ e) ss (atoms_named own c)
        is_in c e k l p =
            let i : SomeIsAt ss (atoms_named own (c ++ e)) t (atoms_named names (c ++ e)) = ((found.truth (c ++ e) (longer c e k l)).0 p).1 in
            (some_is_in t (atoms_named outer c ++ e) ss (atoms_named own c)).0 (subst (λ z. SomeIsAt ss (atoms_named own c) t z) (comp_names c e k l) (subst (λ z. SomeIsAt ss z t (atoms_named names (c ++ e))) (own_names c e k) i))

        is_found : (c e : List Atom) → length c ≡ n → length e ≡ m → IsTrue (holds (atoms_named names (c ++ e)) g) → InAt t (atoms_named outer c ++ e) ss (atoms_named own c) → FormulaHolds (c ++ e) f
        is_found c e k l y p =
            let i : SomeIsAt ss (atoms_named own c) t (atoms_named outer c ++ e) = (some_is_in t (atoms_named outer c ++ e) ss (atoms_named own c)).1 p in
            (found.truth (c ++ e) (longer c e k l)).1 (y, subst (λ z. SomeIsAt ss z t (atoms_named names (c ++ e))) (sym (own_names c e k)) (subst (λ z. SomeIsAt ss (atoms_named own c) t z) (sym (comp_names c e k l)) i))

  -- the item of a pair is there, for some atoms at the other's binders
  module _ (h g : List (List Lit)) (s t : TermD) (A : Bool → Type 0) (f r : FormulaD) where
    pub paired_one : Defines inner (λ c. IsTrue (holds (atoms_named own c) h) × IsTrue (holds (atoms_named names c) g) × SameAt t (atoms_named names c) s (atoms_named own c)) A f → IsForSome m f r → Defines n (λ c. IsTrue (holds (atoms_named own c) h) × OneIsAt (comp m g t) (atoms_named outer c) s (atoms_named own c)) A r
    paired_one pair some = record {
      truth = λ c k. (λ x. there c k ((some.truth c).0 x), λ x. back c k x);
      levels = some.levels n (subst (λ j. FormulaFits j f) sum pair.levels);
      operators = λ o a. some.operators o (pair.operators o a);
    }
      where
        there : (c : List Atom) → length c ≡ n → ((x : List Atom) × (length x ≡ m) × FormulaHolds (c ++ x) f) → IsTrue (holds (atoms_named own c) h) × OneIsAt (comp m g t) (atoms_named outer c) s (atoms_named own c)
        there c k (x, l, p) =
            let q = (pair.truth (c ++ x) (longer c x k l)).0 p in
            let u : IsTrue (holds (atoms_named own c) h) = subst (λ z. IsTrue (holds z h)) (own_names c x k) q.0 in
            (u, (x, record { count = l; guard = guard_there g c x k l q.1 }, subst (λ z. SameAt t z s (atoms_named own c)) (comp_names c x k l) (subst (λ z. SameAt t (atoms_named names (c ++ x)) s z) (own_names c x k) q.2)))

        back : (c : List Atom) → length c ≡ n → IsTrue (holds (atoms_named own c) h) × OneIsAt (comp m g t) (atoms_named outer c) s (atoms_named own c) → FormulaHolds c r
        back c k (v, (x, y, i)) =
            let l = y.count in
            let u : SameAt t (atoms_named names (c ++ x)) s (atoms_named own (c ++ x)) = subst (λ z. SameAt t (atoms_named names (c ++ x)) s z) (sym (own_names c x k)) (subst (λ z. SameAt t z s (atoms_named own c)) (sym (comp_names c x k l)) i) in
            let w : IsTrue (holds (atoms_named own (c ++ x)) h) = subst (λ z. IsTrue (holds z h)) (sym (own_names c x k)) v in
            (some.truth c).1 (x, l, (pair.truth (c ++ x) (longer c x k l)).1 (w, guard_back g c x k l y.guard, u))

-- nothing that the guard admits is missing
module _ (n m : ℕ) (names : List ℕ) (g : List (List Lit)) (f d h b x r : FormulaD) (fits : FormulaFits (n + m) f) where
  pub each_met : IsNegation f d → Defines (n + m) (λ c. IsTrue (holds (atoms_named names c) g)) (λ o. AdmitsConstraint o g) h → IsBoth h d b → IsForSome m b x → IsNegation x r → IsForEach n m names g f r
  each_met absent guard both some none = record {
    truth = λ c k. (λ p. there c k ((none.truth c).0 p), λ p. (none.truth c).1 (λ q. back c k p ((some.truth c).0 q)));
    levels = none.levels n (some.levels n (both.levels (n + m) guard.levels (absent.levels (n + m) fits)));
    operators = λ o a u. none.operators o (some.operators o (both.operators o (guard.operators o a) (absent.operators o u)));
  }
    where
      long : (c e : List Atom) → length c ≡ n → length e ≡ m → length (c ++ e) ≡ n + m
      long c e k l = omega (arith, length-append c e)

      there : (c : List Atom) → length c ≡ n → (FormulaHolds c x → ⊥) → (e : List Atom) → length e ≡ m → IsTrue (holds (atoms_named names (c ++ e)) g) → FormulaHolds (c ++ e) f
      there c k refuted e l y = pick (formula_decided f (c ++ e) (subst (λ j. FormulaFits j f) (sym (long c e k l)) fits))
        where
          pick : FormulaHolds (c ++ e) f ⊎ (FormulaHolds (c ++ e) f → ⊥) → FormulaHolds (c ++ e) f
          pick (inl p) = p
          pick (inr p) =
              absurd (refuted ((some.truth c).1 (e, l, (both.truth (c ++ e)).1 ((guard.truth (c ++ e) (long c e k l)).1 y, (absent.truth (c ++ e)).1 p))))

      back : (c : List Atom) → length c ≡ n → ((e : List Atom) → length e ≡ m → IsTrue (holds (atoms_named names (c ++ e)) g) → FormulaHolds (c ++ e) f) → ((e : List Atom) × (length e ≡ m) × FormulaHolds (c ++ e) b) → ⊥
      back c k each (e, l, p) =
          let q = (both.truth (c ++ e)).0 p in
          (absent.truth (c ++ e)).0 q.1 (each e l ((guard.truth (c ++ e) (long c e k l)).0 q.0))
