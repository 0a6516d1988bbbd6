-- Loops over comprehensions that provide for each of their members.
use Rattle.std.proofs.Common.{◌≡◌, ℕ, ◌⊎◌, inl, inr, List, length, sym, subst}
use Rattle.lois_base.specs.Atom.{Atom}
use Rattle.lois_base.specs.Data.{CompD, CompsD, no_comps, more}
use Rattle.lois_base.specs.Values.{PointValue}
use Rattle.lois_algebra.specs.Gathered.{IsAmong, IsCompMember}

-- each member of the whole is still among the rest, or P holds of it
abbrev pub CoversSoFar : ℕ → CompsD → CompsD → (List Atom → PointValue → Type 0) → Type 0
CoversSoFar n whole rest P =
    (c : List Atom) → length c ≡ n → (w : PointValue) → IsAmong whole c w → IsAmong rest c w ⊎ P c w

pub covers_begin : (n : ℕ) (whole rest : CompsD) (P : List Atom → PointValue → Type 0) → rest ≡ whole → CoversSoFar n whole rest P
covers_begin n whole rest P e c l w h = inl (subst (λ z. IsAmong z c w) (sym e) h)

pub covers_more : (n : ℕ) (whole rest next : CompsD) (k : CompD) (P Q : List Atom → PointValue → Type 0) → rest ≡ more k next → ((c : List Atom) (w : PointValue) → length c ≡ n → P c w → Q c w) → ((c : List Atom) (w : PointValue) → length c ≡ n → IsCompMember k c w → Q c w) → CoversSoFar n whole rest P → CoversSoFar n whole next Q
covers_more n whole rest next k P Q e keeps own before c l w h = elim (before c l w h) [
  | inl i ↦ elim (split i) [
    | inl j ↦ inr (own c w l j)
    | inr j ↦ inl j
  ]
  | inr p ↦ inr (keeps c w l p)
]
  where
    split : IsAmong rest c w → IsCompMember k c w ⊎ IsAmong next c w
    split i = subst (λ z. IsAmong z c w) e i

pub covers_end : (n : ℕ) (whole rest : CompsD) (P : List Atom → PointValue → Type 0) → rest ≡ no_comps → CoversSoFar n whole rest P → (c : List Atom) → length c ≡ n → (w : PointValue) → IsAmong whole c w → P c w
covers_end n whole rest P e before c l w h = elim (before c l w h) [
  | inl i ↦ absurd (none i)
  | inr p ↦ p
]
  where
    none : IsAmong rest c w → ⊥
    none i = subst (λ z. IsAmong z c w) e i
