-- What ranges of a slice are.
use Rattle.std.proofs.Common.{◌≡◌, ℕ, ◌-◌, ◌<◌, List, [], ◌∷◌, length, get_or, take, drop, refl, arith, length-drop, take_all}

pub rest_is : (at : ℕ) (bytes : List ℕ) → take (length bytes - at) (drop at bytes) ≡ drop at bytes
rest_is at bytes = take_all (length bytes - at) (drop at bytes) (omega (arith, length-drop at bytes))

pub one_byte : (bytes : List ℕ) → 0 < length bytes → take 1 bytes ≡ get_or bytes 0 0 ∷ []
one_byte [] some = absurd (omega arith)
one_byte (b ∷ bs) some = refl

pub two_bytes : (bytes : List ℕ) → 1 < length bytes → take 2 bytes ≡ get_or bytes 0 0 ∷ get_or bytes 1 0 ∷ []
two_bytes [] some = absurd (omega arith)
two_bytes (b ∷ []) some = absurd (omega arith)
two_bytes (b ∷ c ∷ cs) some = refl
