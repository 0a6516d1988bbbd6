-- The parts of tuples by their numbers.
use Rattle.std.proofs.Common.{◌≡◌, ℕ, zero, suc, ◌-◌, ◌<◌, List, [], ◌∷◌, refl, sym, ap, ◌∙◌, arith}
use Rattle.std.specs.List.{slice_get}
use Rattle.lois_base.specs.Data.{TermD, tup, terms_of}
use Rattle.lois_algebra.specs.Parts.{part_at, part_of}

pub part_at-get : (ts : List TermD) (i : ℕ) → part_at (terms_of ts) i ≡ slice_get ts i
part_at-get [] i = refl
part_at-get (t ∷ ts) zero = refl
part_at-get (t ∷ ts) (suc i) = part_at-get ts i

pub part_of-tuple : (t : TermD) (ts : List TermD) (i : ℕ) → t ≡ tup (terms_of ts) → 0 < i → part_of t i ≡ slice_get ts (i - 1)
part_of-tuple t ts zero e l = absurd (omega arith)
part_of-tuple t ts (suc i) e l =
    let k : suc i - 1 ≡ i = omega arith in
    ap (λ z. part_of z (suc i)) e ∙ part_at-get ts i ∙ ap (λ j. slice_get ts j) (sym k)
