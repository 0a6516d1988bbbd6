-- What `&&`, `||` and `not` say.
use Rattle.std.proofs.Common.{Bool, true, false, not, ◌&&◌, ◌||◌, ◌⊎◌, inl, inr, ◌↔◌, refl}
use Rattle.std.proofs.lemmas.Bool.{false≢true}
use Rattle.std.specs.Bool.{IsTrue}

pub both_true : (a b : Bool) → IsTrue (a && b) ↔ (IsTrue a × IsTrue b)
both_true true b = (λ h. (refl, h), λ h. h.1)
both_true false b = (λ h. absurd (false≢true h), λ h. h.0)

pub either_true : (a b : Bool) → IsTrue (a || b) ↔ (IsTrue a ⊎ IsTrue b)
either_true true b = (λ h. inl refl, λ h. refl)
either_true false b = (λ h. inr h, λ h. elim h [ inl e ↦ absurd (false≢true e) | inr e ↦ e ])

pub not_true : (a : Bool) → IsTrue (not a) ↔ (IsTrue a → ⊥)
not_true true = (λ h. absurd (false≢true h), λ h. absurd (h refl))
not_true false = (λ h k. false≢true k, λ h. refl)
