-- Choices that a formula is asked at under its names.
use Rattle.std.proofs.Common.{◌≡◌, ℕ, ◌+◌, ◌<◌, List, [], ◌∷◌, ◌++◌, length, length-append, take, map, append_assoc, refl, sym, subst, ap, ◌∙◌, ◌↔◌, arith}
use Rattle.std.specs.Bool.{IsTrue}
use Rattle.std.specs.List.{All}
use Rattle.std.proofs.lemmas.List.{append-nil, take_all, take-append-le, map_push, get_or_append_left, get_or_push, length-take-le, length-map}
use Rattle.std.proofs.lemmas.List.Elements.{All-head, All-tail, All-push}
use Rattle.lois_base.specs.Atom.{Atom, whole}
use Rattle.lois_base.specs.FormulaData.{FormulaD}
use Rattle.lois_base.specs.FormulaTruth.{FormulaHolds}
use Rattle.lois_base.specs.Truth.{atom_at, holds}
use Rattle.lois_base.specs.declared.guards.Lit.{Lit}
use Rattle.lois_elim.specs.Bound.{AgreesWith}
use Rattle.lois_elim.specs.Names.{named_atoms, AreNames, AgreesUnder}

-- each level names itself
pub named_alone : (n : ℕ) (c : List Atom) → length c ≡ n → named_atoms n [] c ≡ c
named_alone n c k = append-nil (take n c) ∙ take_all n c (omega arith)

pub named_length : (n free : ℕ) (bound : List ℕ) (c : List Atom) → AreNames n free bound → length c ≡ n → length (named_atoms free bound c) ≡ free + length bound
named_length n free bound c names k =
    omega (arith, names.0, length-append (take free c) (map (atom_at c) bound), length-take-le free c (omega (arith, names.0)), length-map bound (atom_at c))

pub more_names : (n free x : ℕ) (bound longer : List ℕ) → longer ≡ bound ++ x ∷ [] → AreNames n free bound → x < n → AreNames n free longer
more_names n free x bound longer e names l =
    subst (AreNames n free) (sym e) (names.0, All-push (λ i. i < n) bound x names.1 l)

-- one more name
pub named_push : (free x : ℕ) (bound : List ℕ) (c : List Atom) → named_atoms free (bound ++ x ∷ []) c ≡ named_atoms free bound c ++ atom_at c x ∷ []
named_push free x bound c =
    ap (λ y. take free c ++ y) (map_push (atom_at c) bound x) ∙ sym (append_assoc (take free c) (map (atom_at c) bound) (atom_at c x ∷ []))

map_longer : (c e : List Atom) (bound : List ℕ) → All (λ i. i < length c) bound → map (atom_at (c ++ e)) bound ≡ map (atom_at c) bound
map_longer c e [] h = refl
map_longer c e (i ∷ bound) h =
    rw (get_or_append_left c e (whole 0) i (All-head (λ i. i < length c) i bound h), map_longer c e bound (All-tail (λ i. i < length c) i bound h)) refl

named_longer : (c e : List Atom) (free : ℕ) (bound : List ℕ) → AreNames (length c) free bound → named_atoms free bound (c ++ e) ≡ named_atoms free bound c
named_longer c e free bound names =
    rw (take-append-le free c e names.0, map_longer c e bound names.1) refl

-- a new level, and its name
pub named_new : (n free : ℕ) (bound : List ℕ) (c : List Atom) (a : Atom) → AreNames n free bound → length c ≡ n → named_atoms free (bound ++ n ∷ []) (c ++ a ∷ []) ≡ named_atoms free bound c ++ a ∷ []
named_new n free bound c a names k =
    let before : named_atoms free bound (c ++ a ∷ []) ≡ named_atoms free bound c = named_longer c (a ∷ []) free bound (subst (λ m. AreNames m free bound) (sym k) names) in
    let last : atom_at (c ++ a ∷ []) n ≡ a = get_or_push c a (whole 0) n k in
    named_push free n bound (c ++ a ∷ []) ∙ (ap (λ u. u ++ atom_at (c ++ a ∷ []) n ∷ []) before ∙ ap (λ b. named_atoms free bound c ++ b ∷ []) last)

-- where each level names itself, the formula stands as it is
pub agrees_alone : (n : ℕ) (f : FormulaD) (r : List (List Lit)) → AgreesUnder n n [] f r → AgreesWith n f r
agrees_alone n f r agrees c k =
    subst (λ u. IsTrue (holds c r) ↔ FormulaHolds u f) (named_alone n c k) (agrees c k)
