-- One atom more among atoms that stand as others do.
use Rattle.std.proofs.Common.{◌≡◌, ℕ, zero, suc, ◌<◌, ◌≤◌, Bool, inl, inr, List, [], ◌∷◌, length, refl, sym, ap, ◌∙◌, arith}
use Rattle.std.specs.List.{remove}
use Rattle.lois_base.specs.Atom.{Atom}
use Rattle.lois_base.specs.Patterns.{AreAlike}
use Rattle.lois_base.specs.Truth.{atom_at}
use Rattle.lois_base.proofs.Twins.{Twins, twins, Has, add, zipped, has_zipped, pattern_zipped}
use Rattle.lois_shortest_word.proofs.Lowered.{length_removed}

-- the atoms with b at the place
abbrev put_at : List Atom → ℕ → Atom → List Atom
put_at d zero b = b ∷ d
put_at [] (suc place) b = b ∷ []
put_at (a ∷ d) (suc place) b = a ∷ put_at d place b

length_put : (d : List Atom) (place : ℕ) (b : Atom) → length (put_at d place b) ≡ suc (length d)
length_put d zero b = refl
length_put [] (suc place) b = refl
length_put (a ∷ d) (suc place) b = ap suc (length_put d place b)

removed_put : (d : List Atom) (place : ℕ) (b : Atom) → place ≤ length d → remove (put_at d place b) place ≡ d
removed_put d zero b l = refl
removed_put [] (suc place) b l = absurd (omega (arith, l))
removed_put (a ∷ d) (suc place) b l = ap (λ z. a ∷ z) (removed_put d place b (omega (arith, l)))

has_put : (ps : List Twins) (c d : List Atom) (place : ℕ) (b : Atom) → place < length c → length (remove c place) ≡ length d → Has ps (twins (atom_at c place) b) →
    ((i : ℕ) → i < length d → Has ps (twins (atom_at (remove c place) i) (atom_at d i))) → (i : ℕ) → i < length c → Has ps (twins (atom_at c i) (atom_at (put_at d place b) i))
has_put ps [] d place b l e here others i m = absurd (omega (arith, l))
has_put ps (a ∷ c) d zero b l e here others zero m = here
has_put ps (a ∷ c) d zero b l e here others (suc i) m = others i (omega (arith, m, e))
has_put ps (a ∷ c) [] (suc place) b l e here others i m = absurd (omega (arith, e))
has_put ps (a ∷ c) (x ∷ d) (suc place) b l e here others zero m = others zero (omega arith)
has_put ps (a ∷ c) (x ∷ d) (suc place) b l e here others (suc i) m =
    has_put ps c d place b (omega (arith, l)) (omega (arith, e)) here (λ k q. others (suc k) (omega (arith, q))) i (omega (arith, m))

-- what stands as the atoms without one of them do comes of what stands as all do
pub put_back : (o : Bool) (c d : List Atom) (place : ℕ) → place < length c → AreAlike o (remove c place) d → (e : List Atom) × AreAlike o c e × (remove e place ≡ d)
put_back o c d place l alike =
    let rest = remove c place in
    let (b, pattern) = add o (zipped rest d) (pattern_zipped o rest d alike) (atom_at c place) in
    let pairs = twins (atom_at c place) b ∷ zipped rest d in
    let count : suc (length d) ≡ length c = ap suc (sym alike.count) ∙ length_removed c place l in
    let has = has_put pairs c d place b l alike.count (inl refl) (λ i m. inr (has_zipped rest d i (omega (arith, m, alike.count)) m)) in (
      put_at d place b,
      record {
        count = sym count ∙ sym (length_put d place b);
        agree = λ op k i j p q. pattern.alike (twins (atom_at c i) (atom_at (put_at d place b) i)) (twins (atom_at c j) (atom_at (put_at d place b) j)) (has i p) (has j q) op k;
      },
      removed_put d place b (omega (arith, count, l)),
    )
