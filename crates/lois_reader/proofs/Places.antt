-- Looking a word up in a table of words finds what going through the names finds.
use Rattle.std.proofs.Common.{◌≡◌, ℕ, ◌+◌, Bool, false, cond, not, ◌||◌, List, [], ◌∷◌, ◌++◌, map, refl, ap, ◌∙◌, Bor, position, bytes_eq, if◌then◌else◌}
use Rattle.std.specs.List.{list_any, position_or_len}
use Rattle.std.proofs.lemmas.List.{length-map, map-append}
use Rattle.lois_reader.specs.Pieces.{is_among}

abbrev now : Bor (List ℕ) → List ℕ
now k = k.now

abbrev has : List ℕ → Bor (List ℕ) → Bool
has w k = bytes_eq w k.now

any_now : (w : List ℕ) (ks : List (Bor (List ℕ))) → list_any (has w) ks ≡ list_any (bytes_eq w) (map now ks)
any_now w [] = refl
any_now w (k ∷ ks) = ap (λ (b : Bool). bytes_eq w k.now || b) (any_now w ks)

place_now : (w : List ℕ) (ks : List (Bor (List ℕ))) → position_or_len (has w) ks ≡ position_or_len (bytes_eq w) (map now ks)
place_now w [] = refl
place_now w (k ∷ ks) = ap (λ (n : ℕ). cond (not (bytes_eq w k.now)) (1 + n) 0) (place_now w ks)

-- whether the word is there
pub among : (w : List ℕ) (ks : List (Bor (List ℕ))) (ns : List (List ℕ)) → map now ks ≡ ns → list_any (has w) ks ≡ is_among ns w
among w ks ns e = any_now w ks ∙ ap (λ (xs : List (List ℕ)). list_any (bytes_eq w) xs) e

-- where it is
pub place : (w : List ℕ) (ks : List (Bor (List ℕ))) (ns : List (List ℕ)) → map now ks ≡ ns → position (has w) ks ≡ position (bytes_eq w) ns
place w ks ns e = rw (← e, ← place_now w ks, length-map ks now) refl

-- a word that is none of them comes last
pub behind : (w : Bor (List ℕ)) (ks new : List (Bor (List ℕ))) (ns : List (List ℕ)) → map now ks ≡ ns → is_among ns w.now ≡ false → new ≡ (if list_any (has w.now) ks then ks else (ks ++ w ∷ [])) → map now new ≡ ns ++ w.now ∷ []
behind w ks new ns e none is =
    let absent : list_any (has w.now) ks ≡ false = among w.now ks ns e ∙ none in
    ap (map now) (is ∙ ap (λ (b : Bool). if b then ks else (ks ++ w ∷ [])) absent) ∙ map-append now ks (w ∷ []) ∙ ap (λ (xs : List (List ℕ)). xs ++ w.now ∷ []) e
