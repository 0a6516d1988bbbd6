-- Where values are deep, part by part and comprehension by comprehension.
use Rattle.std.proofs.Common.{◌≡◌, ℕ, ◌+◌, ◌⊎◌, ◌↔◌, List, ◌++◌, length, length-append, sym, subst, arith}
use Rattle.std.specs.Bool.{IsTrue}
use Rattle.lois_base.specs.Atom.{Atom}
use Rattle.lois_base.specs.Data.{TermD, tup, TermsD, term, CompD, comp, CompsD, more}
use Rattle.lois_base.specs.FormulaData.{FormulaD, lit, any, no_formulas, FormulaFits}
use Rattle.lois_base.specs.FormulaTruth.{FormulaHolds}
use Rattle.lois_base.specs.Fits.{LitFits}
use Rattle.lois_base.specs.Truth.{lit_holds, holds}
use Rattle.lois_base.specs.Validity.{AdmitsLit, AdmitsConstraint, AdmitsTerm, AdmitsComp}
use Rattle.lois_base.specs.Values.{DeeperAt, SomePartDeeperAt, SomeMemberDeeperAt, OneDeeperAt}
use Rattle.lois_base.specs.declared.guards.Lit.{Lit}
use Rattle.lois_relate.specs.Built.{Defines, IsBoth, IsForSome}

pub literal_says : (n : ℕ) (l : Lit) (f : FormulaD) → f ≡ lit l → LitFits n l → Defines n (λ c. IsTrue (lit_holds c l)) (λ o. AdmitsLit o l) f
literal_says n l f e fits =
    subst (Defines n (λ c. IsTrue (lit_holds c l)) (λ o. AdmitsLit o l)) (sym e) (record { truth = λ c k. (λ h. h, λ h. h); levels = fits; operators = λ o h. h })

pub tuple_deep : (t : TermD) (ts : TermsD) (k : ℕ) → t ≡ tup ts → k ≡ 0 → (c : List Atom) → DeeperAt t c k
tuple_deep t ts k e z c = subst (λ j. DeeperAt t c j) (sym z) (subst (λ u. DeeperAt u c 0) (sym e) tt)

-- ---- loops
pub parts_deeper_split : (k : ℕ) (ts ts' : TermsD) (t : TermD) → ts ≡ term t ts' → (c : List Atom) → SomePartDeeperAt ts c k ↔ (DeeperAt t c k ⊎ SomePartDeeperAt ts' c k)
parts_deeper_split k ts ts' t e c =
    subst (λ z. SomePartDeeperAt z c k ↔ (DeeperAt t c k ⊎ SomePartDeeperAt ts' c k)) (sym e) (λ h. h, λ h. h)

pub members_deeper_split : (k : ℕ) (ks ks' : CompsD) (q : CompD) → ks ≡ more q ks' → (c : List Atom) → SomeMemberDeeperAt ks c k ↔ (OneDeeperAt q c k ⊎ SomeMemberDeeperAt ks' c k)
members_deeper_split k ks ks' q e c =
    subst (λ z. SomeMemberDeeperAt z c k ↔ (OneDeeperAt q c k ⊎ SomeMemberDeeperAt ks' c k)) (sym e) (λ h. h, λ h. h)

-- ---- a comprehension
pub one_deeper_says : (n m k inner : ℕ) (g : List (List Lit)) (t : TermD) (d h b r : FormulaD) → inner ≡ n + m → Defines inner (λ c. DeeperAt t c k) (λ o. AdmitsTerm o t) d → Defines inner (λ c. IsTrue (holds c g)) (λ o. AdmitsConstraint o g) h → IsBoth d h b → IsForSome m b r → Defines n (λ c. OneDeeperAt (comp m g t) c k) (λ o. AdmitsComp o (comp m g t)) r
one_deeper_says n m k inner g t d h b r sum deep guard both some = record {
  truth = λ c a. (λ x. there c a ((some.truth c).0 x), λ x. back c a x);
  levels = some.levels n (subst (λ j. FormulaFits j b) sum (both.levels inner deep.levels guard.levels));
  operators = λ o x. some.operators o (both.operators o (deep.operators o x.1) (guard.operators o x.0));
}
  where
    longer : (c e : List Atom) → length c ≡ n → length e ≡ m → length (c ++ e) ≡ inner
    longer c e a l = omega (arith, length-append c e)

    there : (c : List Atom) → length c ≡ n → ((e : List Atom) × (length e ≡ m) × FormulaHolds (c ++ e) b) → OneDeeperAt (comp m g t) c k
    there c a (e, l, p) =
        let q = (both.truth (c ++ e)).0 p in
        (e, record { count = l; guard = (guard.truth (c ++ e) (longer c e a l)).0 q.1 }, (deep.truth (c ++ e) (longer c e a l)).0 q.0)

    back : (c : List Atom) → length c ≡ n → OneDeeperAt (comp m g t) c k → FormulaHolds c r
    back c a (e, y, p) =
        let l = y.count in
        (some.truth c).1 (e, l, (both.truth (c ++ e)).1 ((deep.truth (c ++ e) (longer c e a l)).1 p, (guard.truth (c ++ e) (longer c e a l)).1 y.guard))

-- where no item is ever deeper, no member is
pub none_deeper_says : (n m k inner : ℕ) (g : List (List Lit)) (t : TermD) (d : FormulaD) → inner ≡ n + m → Defines inner (λ c. DeeperAt t c k) (λ o. AdmitsTerm o t) d → d ≡ any no_formulas → Defines n (λ c. OneDeeperAt (comp m g t) c k) (λ o. AdmitsComp o (comp m g t)) d
none_deeper_says n m k inner g t d sum deep e = subst (Defines n (λ c. OneDeeperAt (comp m g t) c k) (λ o. AdmitsComp o (comp m g t))) (sym e) (record {
  truth = λ c a. (λ h. absurd h, λ x. refuted c a x);
  levels = tt;
  operators = λ o h. tt;
})
  where
    refuted : (c : List Atom) → length c ≡ n → OneDeeperAt (comp m g t) c k → ⊥
    refuted c a (x, y, p) =
        let longer : length (c ++ x) ≡ inner = omega (arith, length-append c x, y.count) in
        subst (FormulaHolds (c ++ x)) e ((deep.truth (c ++ x) longer).1 p)
