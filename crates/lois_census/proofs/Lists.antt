-- Lists of orbits that grow.
use Rattle.std.proofs.Common.{◌≡◌, ℕ, ◌<◌, ◌≤◌, ◌⊎◌, inl, inr, List, [], ◌∷◌, ◌++◌, length, get_or, append_assoc, append-nil, refl, sym, ap, ◌∙◌, subst, arith}
use Rattle.std.proofs.lemmas.Bool.{cases_lt}
use Rattle.std.proofs.lemmas.List.{get_or_append_left, get_or_default, get_or_push, length-append}
use Rattle.std.proofs.lemmas.List.Elements.{All-nil, All-cons, All-append}
use Rattle.std.specs.List.{Any}
use Rattle.lois_census.specs.OrbitData.{OrbitD}
use Rattle.lois_census.specs.Left.{AddsOnly}

module _ {X : Type 0} (P : X → Type 0) where
  pub Any-kept : (xs ys : List X) → Any P xs → Any P (xs ++ ys)
  Any-kept xs ys h =
      let i = h.0 in
      let x = h.1 in
      (i, x, omega (arith, h.2, length-append xs ys), get_or_append_left xs ys x i h.2 ∙ h.3, h.4)

  pub Any-weaker : (Q : X → Type 0) → ((x : X) → P x → Q x) → (xs : List X) → Any P xs → Any Q xs
  Any-weaker Q weaker xs h = (h.0, h.1, h.2, h.3, weaker h.1 h.4)

  pub Any-parted : (xs : List X) (x : X) → Any P (xs ++ x ∷ []) → Any P xs ⊎ P x
  Any-parted xs x h = elim (cases_lt h.0 (length xs)) [ inl lt ↦ inl (before lt) | inr ge ↦ inr (last ge) ]
    where
      before : h.0 < length xs → Any P xs
      before lt = (h.0, h.1, lt, sym (get_or_append_left xs (x ∷ []) h.1 h.0 lt) ∙ h.3, h.4)

      last : length xs ≤ h.0 → P x
      last ge =
          let l : h.0 < length (xs ++ x ∷ []) = h.2 in
          let i : h.0 ≡ length xs = omega (arith, l, length-append xs (x ∷ [])) in
          let is : h.1 ≡ x = sym h.3 ∙ (ap (λ k. get_or (xs ++ x ∷ []) k h.1) i ∙ get_or_push xs x h.1 (length xs) refl) in
          subst P is h.4

  pub Any-none : Any P [] → ⊥
  Any-none h =
      let l = h.2 in
      omega arith

  pub Any-at : (xs : List X) (i : ℕ) (d : X) → i < length xs → P (get_or xs i d) → Any P xs
  Any-at xs i d l p = (i, get_or xs i d, l, get_or_default xs i (get_or xs i d) d l, p)

module _ (P : OrbitD → Type 0) where
  pub adds_nothing : (xs : List OrbitD) → AddsOnly P xs xs
  adds_nothing xs = ([], sym (append-nil xs), All-nil P)

  pub adds_one : (xs ys : List OrbitD) (o : OrbitD) → P o → ys ≡ xs ++ o ∷ [] → AddsOnly P xs ys
  adds_one xs ys o p is = (o ∷ [], is, All-cons P o [] p (All-nil P))

  pub adds_then : (xs ys zs : List OrbitD) → AddsOnly P xs ys → AddsOnly P ys zs → AddsOnly P xs zs
  adds_then xs ys zs h k = (
    h.0 ++ k.0,
    k.1 ∙ (ap (λ z. z ++ k.0) h.1 ∙ append_assoc xs h.0 k.0),
    All-append P h.0 k.0 h.2 k.2,
  )
