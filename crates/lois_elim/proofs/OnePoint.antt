-- A quantifier whose body says which atom it is: the one-point rule.
use Rattle.std.proofs.Common.{◌≡◌, ℕ, ◌+◌, ◌<◌, ◌≤◌, ◌⊎◌, inl, inr, List, [], ◌∷◌, ◌++◌, length, length-append, refl, sym, subst, ap, ◌∙◌, ◌↔◌, arith}
use Rattle.std.specs.Bool.{IsTrue}
use Rattle.std.proofs.lemmas.Bool.{cases_lt}
use Rattle.std.proofs.lemmas.List.{get_or_append_left, get_or_push}
use Rattle.lois_base.specs.Atom.{Atom, equal, whole}
use Rattle.lois_base.specs.FormulaData.{FormulaD, exists}
use Rattle.lois_base.specs.FormulaTruth.{FormulaHolds}
use Rattle.lois_base.specs.AtomMaps.{AreEqual}
use Rattle.lois_base.specs.Truth.{atom_at}
use Rattle.lois_base.specs.declared.guards.Lit.{Lit}
use Rattle.lois_base.proofs.Choices.{length_same}
use Rattle.lois_base.proofs.Order.{equal_refl}
use Rattle.lois_base.proofs.Truths.{formula_equal}
use Rattle.lois_elim.specs.Names.{named_atoms, AreNames, AgreesUnder, Forces}
use Rattle.lois_elim.proofs.Naming.{named_length, named_push}

-- equal atoms behind
pub equal_behind : (u : List Atom) (a b : Atom) → IsTrue (equal a b) → AreEqual (u ++ a ∷ []) (u ++ b ∷ [])
equal_behind u a b h = record {
  count = length_same u u (a ∷ []) (b ∷ []) refl refl;
  atoms = λ i p l. go i l (cases_lt i (length u));
}
  where
    go : (i : ℕ) → i < length (u ++ a ∷ []) → i < length u ⊎ length u ≤ i → IsTrue (equal (atom_at (u ++ a ∷ []) i) (atom_at (u ++ b ∷ []) i))
    go i l (inl k) =
        rw (get_or_append_left u (a ∷ []) (whole 0) i k, get_or_append_left u (b ∷ []) (whole 0) i k) (equal_refl (atom_at u i))
    go i l (inr k) =
        let e : length u ≡ i = omega (arith, l, length-append u (a ∷ [])) in
        rw (get_or_push u a (whole 0) i e, get_or_push u b (whole 0) i e) h

-- some atom behind u meets the formula exactly where the forced one does
pub one_point : (f : FormulaD) (u : List Atom) (n m : ℕ) → length u ≡ n → m < n → Forces f n m → FormulaHolds u (exists f) ↔ FormulaHolds (u ++ atom_at u m ∷ []) f
one_point f u n m k l forces = (
  λ h. let a = h.0 in
      let here : IsTrue (equal (atom_at (u ++ a ∷ []) n) (atom_at (u ++ a ∷ []) m)) = forces (u ++ a ∷ []) (omega (arith, length-append u (a ∷ []))) h.1 in
      let same : IsTrue (equal a (atom_at u m)) = rw (get_or_push u a (whole 0) n k, get_or_append_left u (a ∷ []) (whole 0) m (omega arith)) at here in
      formula_equal f (u ++ a ∷ []) (u ++ atom_at u m ∷ []) (equal_behind u a (atom_at u m) same) h.1,
  λ h. (atom_at u m, h),
)

pub point_agrees : (n free lower level x : ℕ) (bound longer : List ℕ) (f : FormulaD) (r : List (List Lit)) → AreNames n free bound → level ≡ free + length bound → lower < level → Forces f level lower → ((c : List Atom) → free ≤ length c → atom_at (named_atoms free bound c) lower ≡ atom_at c x) → longer ≡ bound ++ x ∷ [] → AgreesUnder n free longer f r → AgreesUnder n free bound (exists f) r
point_agrees n free lower level x bound longer f r names e l forces atom is agrees c k =
    let u = named_atoms free bound c in
    let deep : length u ≡ level = named_length n free bound c names k ∙ sym e in
    let under : named_atoms free longer c ≡ u ++ atom_at u lower ∷ [] = ap (λ b. named_atoms free b c) is ∙ (named_push free x bound c ∙ ap (λ a. u ++ a ∷ []) (sym (atom c (omega (arith, names.0))))) in
    let point = one_point f u level lower deep l forces in (
      λ p. point.1 (subst (λ v. FormulaHolds v f) under ((agrees c k).0 p)),
      λ h. (agrees c k).1 (subst (λ v. FormulaHolds v f) (sym under) (point.0 h)),
    )
