-- Stores that are the same name by name.
use Rattle.std.proofs.Common.{◌≡◌, ℕ, zero, suc, Bool, true, false, List, [], ◌∷◌, ◌++◌, take, length, map, refl, sym, ap, ◌∙◌, subst, append-nil, Some, None, if◌then◌else◌, bytes_eq}
use Rattle.std.proofs.lemmas.Slice.Eq.{bytes_eq-Decides}
use Rattle.lois_base.specs.Values.{PointValue, IsSame}
use Rattle.lois_base.proofs.Members.{same_refl, same_sym, same_trans}
use Rattle.lois_meaning.specs.Store.{named, NamedValues, looked_up, stored, AreSameNamed}
use Rattle.lois_meaning.specs.ProperStores.{name_of}

pub named_refl : (s : NamedValues) → AreSameNamed s s
named_refl [] = tt
named_refl (b ∷ s) = (refl, same_refl b.holds, named_refl s)

pub named_sym : (s t : NamedValues) → AreSameNamed s t → AreSameNamed t s
named_sym [] [] h = tt
named_sym (b ∷ s) (e ∷ t) h = (sym h.0, same_sym b.holds e.holds h.1, named_sym s t h.2)
named_sym _ _ h = absurd h

pub named_trans : (s t u : NamedValues) → AreSameNamed s t → AreSameNamed t u → AreSameNamed s u
named_trans [] [] [] h k = tt
named_trans (b ∷ s) (e ∷ t) (f ∷ u) h k = (h.0 ∙ k.0, same_trans b.holds e.holds f.holds h.1 k.1, named_trans s t u h.2 k.2)
named_trans _ _ _ h k = absurd (assumption (h, k))

pub some_same : (v w : PointValue) → Some v ≡ Some w → v ≡ w
some_same v w e = cc

-- the same name holds values that are the same
pub looked_up_same : (x : List ℕ) (s t : NamedValues) (v : PointValue) → AreSameNamed s t → looked_up x s ≡ Some v → (w : PointValue) × (looked_up x t ≡ Some w) × IsSame v w
looked_up_same x [] [] v h e = absurd (cc)
looked_up_same x (b ∷ s) (f ∷ t) v h e = go (bytes_eq b.name x) (bytes_eq f.name x) (ap (λ n. bytes_eq n x) h.0) (looked_up_same x s t v h.2) e
  where
    here : (p : Bool) → (looked_up x s ≡ Some v → (w : PointValue) × (looked_up x t ≡ Some w) × IsSame v w) → (if p then Some b.holds else looked_up x s) ≡ Some v → (w : PointValue) × ((if p then Some f.holds else looked_up x t) ≡ Some w) × IsSame v w
    here true later e = (f.holds, refl, subst (λ y. IsSame y f.holds) (some_same b.holds v e) h.1)
    here false later e = later e

    go : (p q : Bool) → p ≡ q → (looked_up x s ≡ Some v → (w : PointValue) × (looked_up x t ≡ Some w) × IsSame v w) → (if p then Some b.holds else looked_up x s) ≡ Some v → (w : PointValue) × ((if q then Some f.holds else looked_up x t) ≡ Some w) × IsSame v w
    go p q same later e = subst (λ r. (w : PointValue) × ((if r then Some f.holds else looked_up x t) ≡ Some w) × IsSame v w) same (here p later e)
looked_up_same x _ _ v h e = absurd h

pub stored_same : (x : List ℕ) (v w : PointValue) (s t : NamedValues) → IsSame v w → AreSameNamed s t → AreSameNamed (stored x v s) (stored x w t)
stored_same x v w [] [] k h = (refl, k, tt)
stored_same x v w (b ∷ s) (f ∷ t) k h = go (bytes_eq b.name x) (bytes_eq f.name x) (ap (λ n. bytes_eq n x) h.0) (stored_same x v w s t k h.2)
  where
    here : (p : Bool) → AreSameNamed (stored x v s) (stored x w t) → AreSameNamed (if p then named x v ∷ s else (b ∷ stored x v s)) (if p then named x w ∷ t else (f ∷ stored x w t))
    here true later = (refl, k, h.2)
    here false later = (h.0, h.1, later)

    go : (p q : Bool) → p ≡ q → AreSameNamed (stored x v s) (stored x w t) →
        AreSameNamed (if p then named x v ∷ s else (b ∷ stored x v s)) (if q then named x w ∷ t else (f ∷ stored x w t))
    go p q e later = subst (λ r. AreSameNamed (if p then named x v ∷ s else (b ∷ stored x v s)) (if r then named x w ∷ t else (f ∷ stored x w t))) e (here p later)
stored_same x v w _ _ k h = absurd h

-- one value stored in stores that are the same, and values that are the same in one store
pub stored_in : (x : List ℕ) (v : PointValue) (s t : NamedValues) → AreSameNamed s t → AreSameNamed (stored x v s) (stored x v t)
stored_in x v s t h = stored_same x v v s t (same_refl v) h

pub stored_other : (x : List ℕ) (v w : PointValue) (s : NamedValues) → IsSame v w → AreSameNamed (stored x v s) (stored x w s)
stored_other x v w s k = stored_same x v w s s k (named_refl s)

pub take_same : (n : ℕ) (s t : NamedValues) → AreSameNamed s t → AreSameNamed (take n s) (take n t)
take_same zero s t h = tt
take_same (suc n) [] [] h = tt
take_same (suc n) (b ∷ s) (e ∷ t) h = (h.0, h.1, take_same n s t h.2)
take_same (suc n) _ _ h = absurd h

pub length_same : (s t : NamedValues) → AreSameNamed s t → length s ≡ length t
length_same [] [] h = refl
length_same (b ∷ s) (e ∷ t) h = ap suc (length_same s t h.2)
length_same _ _ h = absurd h

pub append_same : (a b c d : NamedValues) → AreSameNamed a b → AreSameNamed c d → AreSameNamed (a ++ c) (b ++ d)
append_same [] [] c d h k = k
append_same (x ∷ a) (y ∷ b) c d h k = (h.0, h.1, append_same a b c d h.2 k)
append_same _ _ c d h k = absurd h

-- what is the same as two lists, one after the other, is two such lists
pub split_same : (a b l : NamedValues) → AreSameNamed (a ++ b) l → (c d : NamedValues) × (l ≡ c ++ d) × AreSameNamed a c × AreSameNamed b d
split_same [] b l h = ([], l, refl, tt, h)
split_same (x ∷ a) b (y ∷ l) h =
    let rest : (c d : NamedValues) × (l ≡ c ++ d) × AreSameNamed a c × AreSameNamed b d = split_same a b l h.2 in
    (y ∷ rest.0, rest.1, ap (λ z. y ∷ z) rest.2, (h.0, h.1, rest.3), rest.4)
split_same (x ∷ a) b _ h = absurd h

pub none_same : (l : NamedValues) → AreSameNamed [] l → l ≡ []
none_same [] h = refl
none_same (x ∷ l) h = absurd h

-- a name that is stored keeps its place, or comes last
pub stored_names : (x : List ℕ) (v : PointValue) (s : NamedValues) → (made : List (List ℕ)) × (map name_of (stored x v s) ≡ map name_of s ++ made)
stored_names x v [] = (x ∷ [], refl)
stored_names x v (b ∷ s) = go (bytes_eq b.name x) refl (stored_names x v s)
  where
    go : (p : Bool) → bytes_eq b.name x ≡ p → (made : List (List ℕ)) × (map name_of (stored x v s) ≡ map name_of s ++ made) →
        (made : List (List ℕ)) × (map name_of (if p then named x v ∷ s else (b ∷ stored x v s)) ≡ map name_of (b ∷ s) ++ made)
    go true e later = ([], cc ((bytes_eq-Decides b.name x).0 e, append-nil (map name_of s)))
    go false e later = (later.0, ap (λ z. b.name ∷ z) later.1)

-- what was stored is found
pub found_stored : (x : List ℕ) (v : PointValue) (s : NamedValues) → looked_up x (stored x v s) ≡ Some v
found_stored x v [] = ap (λ p. if p then Some v else None) ((bytes_eq-Decides x x).1 refl)
found_stored x v (b ∷ s) = go (bytes_eq b.name x) refl (found_stored x v s)
  where
    go : (p : Bool) → bytes_eq b.name x ≡ p → looked_up x (stored x v s) ≡ Some v → looked_up x (if p then named x v ∷ s else (b ∷ stored x v s)) ≡ Some v
    go true e later = ap (λ p. if p then Some v else looked_up x s) ((bytes_eq-Decides x x).1 refl)
    go false e later = ap (λ p. if p then Some b.holds else looked_up x (stored x v s)) e ∙ later
