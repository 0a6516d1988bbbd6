-- What the loops over registers and placements keep.
use Rattle.std.proofs.Common.{◌≡◌, ℕ, zero, suc, ◌+◌, ◌-◌, ◌*◌, ◌/◌, ◌%◌, ◌^◌, ◌<◌, ◌≤◌, Bool, true, false, cond, List, [], ◌∷◌, ◌++◌, Option, Some, None, length, get_or, drop, sym, ap, subst, ◌∙◌, arith, append_assoc}
use Rattle.std.specs.Prelude.{nat_eq, if◌then◌else◌}
use Rattle.std.specs.List.{list_any}
use Rattle.lois_base.proofs.Viewed.{rest_at}
use Rattle.lois_registers.specs.Placed.{full, contents_from}
use Rattle.lois_registers.specs.Runs.{stored_from}

full_push : (os : List (Option ℕ)) (o : Option ℕ) → full (os ++ o ∷ []) ≡ full os + full (o ∷ [])
full_push [] o = omega arith
full_push (None ∷ os) o = full_push os o
full_push (Some i ∷ os) o = omega (arith, full_push os o)

pub full_some : (os more : List (Option ℕ)) (i m : ℕ) → more ≡ os ++ Some i ∷ [] → m ≡ full os → m + 1 ≡ full more
full_some os more i m e h = omega (arith, ap full e, full_push os (Some i))

pub full_none : (os more : List (Option ℕ)) (m : ℕ) → more ≡ os ++ None ∷ [] → m ≡ full os → m ≡ full more
full_none os more m e h = omega (arith, ap full e, full_push os None)

module _ (done more whole : List (Option ℕ)) (m k i bits : ℕ) (l : i < k) (h : done ++ contents_from m (k - i) bits ≡ whole) where
  next : k - i ≡ suc (k - (i + 1))
  next = omega arith

  after : (b : Bool) → nat_eq (bits % 2) 1 ≡ b → done ++ cond b (Some m ∷ contents_from (m + 1) (k - (i + 1)) (bits / 2)) (None ∷ contents_from m (k - (i + 1)) (bits / 2)) ≡ whole
  after b t = subst (λ z. done ++ cond z (Some m ∷ contents_from (m + 1) (k - (i + 1)) (bits / 2)) (None ∷ contents_from m (k - (i + 1)) (bits / 2)) ≡ whole) t (subst (λ z. done ++ contents_from m z bits ≡ whole) next h)

  pub full_next : (n : ℕ) → n ≡ m + 1 → bits % 2 ≡ 1 → more ≡ done ++ Some m ∷ [] → more ++ contents_from n (k - (i + 1)) (bits / 2) ≡ whole
  full_next n is t e =
      ap (λ z. more ++ contents_from z (k - (i + 1)) (bits / 2)) is ∙
      (ap (λ z. z ++ contents_from (m + 1) (k - (i + 1)) (bits / 2)) e ∙ (append_assoc done (Some m ∷ []) (contents_from (m + 1) (k - (i + 1)) (bits / 2)) ∙ after true (ap (λ z. nat_eq z 1) t)))

  pub empty_next : (n : ℕ) → n ≡ m → (bits % 2 ≡ 1 → ⊥) → more ≡ done ++ None ∷ [] → more ++ contents_from n (k - (i + 1)) (bits / 2) ≡ whole
  empty_next n is t e =
      let even : bits % 2 ≡ 0 = omega arith in
      ap (λ z. more ++ contents_from z (k - (i + 1)) (bits / 2)) is ∙
      (ap (λ z. z ++ contents_from m (k - (i + 1)) (bits / 2)) e ∙ (append_assoc done (None ∷ []) (contents_from m (k - (i + 1)) (bits / 2)) ∙ after false (ap (λ z. nat_eq z 1) even)))

pub stored_next : (stores : List ℕ) (m : ℕ) (os done more whole : List (Option ℕ)) (i j : ℕ) (d new : Option ℕ) → i < length os → new ≡ (if list_any (nat_eq j) stores then Some m else get_or os i d) → more ≡ done ++ new ∷ [] → done ++ stored_from j stores m (drop i os) ≡ whole → more ++ stored_from (j + 1) stores m (drop (i + 1) os) ≡ whole
stored_next stores m os done more whole i j d new l e f h =
    let rest = stored_from (j + 1) stores m (drop (i + 1) os) in
    ap (λ z. z ++ rest) f ∙ (append_assoc done (new ∷ []) rest ∙ (ap (λ z. done ++ (z ∷ rest)) e ∙ (ap (λ z. done ++ stored_from j stores m z) (sym (rest_at os i d l)) ∙ h)))

-- the shift by the number of registers is a power of two
pub patterns_end : (k i : ℕ) → k ≤ 4 → i ≤ (1 * 2 ^ k) % 18446744073709551616 → (1 * 2 ^ k) % 18446744073709551616 ≤ i → i ≡ 2 ^ k
patterns_end zero i l h j = omega arith
patterns_end (suc zero) i l h j = omega arith
patterns_end (suc (suc zero)) i l h j = omega arith
patterns_end (suc (suc (suc zero))) i l h j = omega arith
patterns_end (suc (suc (suc (suc zero)))) i l h j = omega arith
patterns_end (suc (suc (suc (suc (suc k))))) i l h j = absurd (omega arith)
