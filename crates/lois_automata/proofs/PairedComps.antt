-- Comprehensions one behind the other, and what is made of a member of each.
use Rattle.std.proofs.Common.{◌≡◌, ℕ, ◌+◌, ◌&&◌, ◌↔◌, List, ◌++◌, length, length-append, append_assoc, take, drop, sym, subst, ◌∙◌, arith}
use Rattle.std.proofs.lemmas.List.{take-append-drop, length-take, length-drop}
use Rattle.std.specs.Bool.{IsTrue}
use Rattle.lois_base.specs.Atom.{Atom}
use Rattle.lois_base.specs.Data.{TermD, CompD, comp}
use Rattle.lois_base.specs.Fits.{ConstraintFits}
use Rattle.lois_base.specs.Truth.{holds}
use Rattle.lois_base.specs.Values.{PointValue, point, IsSame, IsExtension}
use Rattle.lois_base.specs.declared.guards.Lit.{Lit}
use Rattle.lois_base.proofs.Members.{same_refl, same_sym, same_trans}
use Rattle.lois_algebra.specs.Gathered.{IsCompMember}
use Rattle.lois_base.proofs.Connectives.{both_true}
use Rattle.lois_terms.specs.Shifted.{IsShifted, IsPlacedGuard, IsPlacedItem}
use Rattle.lois_automata.specs.Adding.{IsMadeOfTwo}
use Rattle.lois_automata.specs.Built.{AreBeside}
use Rattle.lois_automata.proofs.Members.{longer_is, raised_same}

-- the binders of the second behind those of the first
module _ (n m m' : ℕ) (g h placed guard : List (List Lit)) (s t raised item : TermD) (g_fits : ConstraintFits (n + m) g) (guard_is : (d : List Atom) → holds d guard ≡ (holds d g && holds d placed)) (placed_guard : IsPlacedGuard n (n + m) h placed) (is_raised : IsShifted (n + m) m' s raised) (placed_item : IsPlacedItem n (n + m) t item) where
  there : (c a b : List Atom) → length c ≡ n → IsExtension c m g a → IsExtension c m' h b →
      IsExtension c (m + m') guard (a ++ b) × IsSame (point raised (c ++ (a ++ b))) (point s (c ++ a)) × IsSame (point item (c ++ (a ++ b))) (point t (c ++ b))
  there c a b l x y =
      let whole : (c ++ a) ++ b ≡ c ++ (a ++ b) = append_assoc c a b in
      let first : length (c ++ a) ≡ n + m = length-append c a ∙ omega (arith, l, x.count) in
      let one : IsTrue (holds ((c ++ a) ++ b) g) = longer_is (n + m) g (c ++ a) b g_fits first ∙ x.guard in
      let two : IsTrue (holds ((c ++ a) ++ b) placed) = placed_guard c a b l first ∙ y.guard in
      let both : IsTrue (holds ((c ++ a) ++ b) guard) = guard_is ((c ++ a) ++ b) ∙ (both_true (holds ((c ++ a) ++ b) g) (holds ((c ++ a) ++ b) placed)).1 (one, two) in (
        record { count = length-append a b ∙ omega (arith, x.count, y.count); guard = subst (λ z. IsTrue (holds z guard)) whole both },
        subst (λ z. IsSame (point raised z) (point s (c ++ a))) whole (raised_same (n + m) m' s raised is_raised (c ++ a) b first y.count),
        subst (λ z. IsSame (point item z) (point t (c ++ b))) whole (placed_item c a b l first),
      )

  back : (c a b : List Atom) → length c ≡ n → length a ≡ m → length b ≡ m' → IsExtension c (m + m') guard (a ++ b) → IsExtension c m g a × IsExtension c m' h b
  back c a b l la lb x =
      let whole : (c ++ a) ++ b ≡ c ++ (a ++ b) = append_assoc c a b in
      let first : length (c ++ a) ≡ n + m = length-append c a ∙ omega (arith, l, la) in
      let d = (c ++ a) ++ b in
      let both = (both_true (holds d g) (holds d placed)).0 (sym (guard_is d) ∙ subst (λ z. IsTrue (holds z guard)) (sym whole) x.guard) in (
        record { count = la; guard = sym (longer_is (n + m) g (c ++ a) b g_fits first) ∙ both.0 },
        record { count = lb; guard = sym (placed_guard c a b l first) ∙ both.1 },
      )

  pub are_beside : AreBeside n (comp m g s) (comp m' h t) (m + m') guard raised item
  are_beside = record { made = λ c l v w. (λ x. join c l v w x.0 x.1, λ x. apart c l v w x.0 x.1 x.2 x.3) }
    where
      join : (c : List Atom) → length c ≡ n → (v w : PointValue) → IsCompMember (comp m g s) c v → IsCompMember (comp m' h t) c w →
          (e : List Atom) × IsExtension c (m + m') guard e × IsSame (point raised (c ++ e)) v × IsSame (point item (c ++ e)) w
      join c l v w (a, x, i) (b, y, j) =
          let f = there c a b l x y in
          (a ++ b, f.0, same_trans (point raised (c ++ (a ++ b))) (point s (c ++ a)) v f.1 i, same_trans (point item (c ++ (a ++ b))) (point t (c ++ b)) w f.2 j)

      apart : (c : List Atom) → length c ≡ n → (v w : PointValue) (e : List Atom) → IsExtension c (m + m') guard e → IsSame (point raised (c ++ e)) v → IsSame (point item (c ++ e)) w → IsCompMember (comp m g s) c v × IsCompMember (comp m' h t) c w
      apart c l v w e x i j =
          let a = take m e in
          let b = drop m e in
          let le : length e ≡ m + m' = x.count in
          let la : length a ≡ m = length-take m e ∙ omega (arith, le) in
          let lb : length b ≡ m' = length-drop m e ∙ omega (arith, le) in
          let joint : a ++ b ≡ e = take-append-drop m e in
          let parts = back c a b l la lb (subst (λ z. IsExtension c (m + m') guard z) (sym joint) x) in
          let f = there c a b l parts.0 parts.1 in
          let i' : IsSame (point raised (c ++ (a ++ b))) v = subst (λ z. IsSame (point raised (c ++ z)) v) (sym joint) i in
          let j' : IsSame (point item (c ++ (a ++ b))) w = subst (λ z. IsSame (point item (c ++ z)) w) (sym joint) j in (
            (a, parts.0, same_trans (point s (c ++ a)) (point raised (c ++ (a ++ b))) v (same_sym (point raised (c ++ (a ++ b))) (point s (c ++ a)) f.1) i'),
            (b, parts.1, same_trans (point t (c ++ b)) (point item (c ++ (a ++ b))) w (same_sym (point item (c ++ (a ++ b))) (point t (c ++ b)) f.2) j'),
          )

-- what R makes of a member of each is what one comprehension makes
module _ (n : ℕ) (k q : CompD) (m : ℕ) (g : List (List Lit)) (one two : TermD) (beside : AreBeside n k q m g one two) (R : PointValue → PointValue → PointValue → Type 0) (guard : List (List Lit)) (item : TermD)
    (R_same : (x y w x' y' w' : PointValue) → IsSame x x' → IsSame y y' → IsSame w w' → R x y w → R x' y' w')
    (made : (c e : List Atom) → length c ≡ n → IsExtension c m guard e → IsExtension c m g e × R (point one (c ++ e)) (point two (c ++ e)) (point item (c ++ e)))
    (only : (c e : List Atom) (w : PointValue) → length c ≡ n → IsExtension c m g e → R (point one (c ++ e)) (point two (c ++ e)) w → IsExtension c m guard e × IsSame (point item (c ++ e)) w) where
  pub made_of_two : (c : List Atom) → length c ≡ n → (w : PointValue) → IsCompMember (comp m guard item) c w ↔ IsMadeOfTwo R (IsCompMember k c) (IsCompMember q c) w
  made_of_two c l w = (to, from)
    where
      to : IsCompMember (comp m guard item) c w → IsMadeOfTwo R (IsCompMember k c) (IsCompMember q c) w
      to (e, x, s) =
          let f = made c e l x in
          let v = point one (c ++ e) in
          let u = point two (c ++ e) in
          let both = (beside.made c l v u).1 (e, f.0, same_refl v, same_refl u) in
          (v, u, both.0, both.1, R_same v u (point item (c ++ e)) v u w (same_refl v) (same_refl u) s f.1)

      from : IsMadeOfTwo R (IsCompMember k c) (IsCompMember q c) w → IsCompMember (comp m guard item) c w
      from (v, u, i, j, r) =
          let f = (beside.made c l v u).0 (i, j) in
          let e = f.0 in
          let there : R (point one (c ++ e)) (point two (c ++ e)) w =
          R_same v u w (point one (c ++ e)) (point two (c ++ e)) w (same_sym (point one (c ++ e)) v f.2) (same_sym (point two (c ++ e)) u f.3) (same_refl w) r in
          let x = only c e w l f.1 there in
          (e, x.0, x.1)
