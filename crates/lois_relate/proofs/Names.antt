-- The atoms at names, and names for further levels.
use Rattle.std.proofs.Common.{◌≡◌, ℕ, zero, suc, ◌+◌, ◌-◌, ◌<◌, ◌≤◌, List, [], ◌∷◌, ◌++◌, length, length-append, get_or, refl, sym, ap, ◌∙◌, subst, arith}
use Rattle.std.proofs.lemmas.List.{get_or-map, length-map, map-append, append_assoc, get_or_append_left, get_or-append-add}
use Rattle.std.proofs.lemmas.List.Elements.{All-nil, All-cons, All-head, All-tail, All-append, All-weaker}
use Rattle.lois_base.specs.Atom.{Atom, whole}
use Rattle.lois_base.specs.Fits.{LitFits}
use Rattle.lois_base.specs.Truth.{atom_at, lit_holds}
use Rattle.lois_base.specs.declared.guards.Lit.{Lit}
use Rattle.lois_relate.specs.Named.{atoms_named, AreBelow, level_range, named_lit}

pub length-chosen : (names : List ℕ) (c : List Atom) → length (atoms_named names c) ≡ length names
length-chosen names c = length-map names (λ i. atom_at c i)

-- further atoms don't count
pub chosen_longer : (names : List ℕ) (c e : List Atom) → AreBelow (length c) names → atoms_named names (c ++ e) ≡ atoms_named names c
chosen_longer [] c e h = refl
chosen_longer (i ∷ names) c e h =
    let l : i < length c = All-head (λ j. j < length c) i names h in
    rw (get_or_append_left c e (whole 0) i l, chosen_longer names c e (All-tail (λ j. j < length c) i names h))

-- the further atoms are those at the levels after the others
pub chosen_levels : (m : ℕ) (c e : List Atom) → length e ≡ m → atoms_named (level_range (length c) m) (c ++ e) ≡ e
chosen_levels zero c [] l = refl
chosen_levels zero c (a ∷ e) l = absurd (omega arith)
chosen_levels (suc m) c [] l = absurd (omega arith)
chosen_levels (suc m) c (a ∷ e) l =
    let here : atom_at (c ++ a ∷ e) (length c + 0) ≡ a = get_or-append-add c (a ∷ e) 0 (whole 0) in
    let zero_more : length c + 0 ≡ length c = omega arith in
    let first : atom_at (c ++ a ∷ e) (length c) ≡ a = ap (λ i. atom_at (c ++ a ∷ e) i) (sym zero_more) ∙ here in
    let longer : length (c ++ a ∷ []) ≡ suc (length c) = omega (arith, length-append c (a ∷ [])) in
    let regroup : c ++ a ∷ e ≡ (c ++ a ∷ []) ++ e = sym (append_assoc c (a ∷ []) e) in
    let rest : atoms_named (level_range (length (c ++ a ∷ [])) m) ((c ++ a ∷ []) ++ e) ≡ e = chosen_levels m (c ++ a ∷ []) e (omega arith) in
    let rest_here : atoms_named (level_range (suc (length c)) m) (c ++ a ∷ e) ≡ e = subst (λ k. atoms_named (level_range k m) (c ++ a ∷ e) ≡ e) longer (subst (λ z. atoms_named (level_range (length (c ++ a ∷ [])) m) z ≡ e) (sym regroup) rest) in
    ap (λ z. z ∷ atoms_named (level_range (suc (length c)) m) (c ++ a ∷ e)) first ∙ ap (λ z. a ∷ z) rest_here

pub chosen_entered : (names : List ℕ) (n m : ℕ) (c e : List Atom) → length c ≡ n → length e ≡ m → AreBelow n names → atoms_named (names ++ level_range n m) (c ++ e) ≡ atoms_named names c ++ e
chosen_entered names n m c e k l h =
    let own : AreBelow (length c) names = subst (λ j. AreBelow j names) (sym k) h in
    let new : atoms_named (level_range n m) (c ++ e) ≡ e = subst (λ j. atoms_named (level_range j m) (c ++ e) ≡ e) k (chosen_levels m c e l) in
    map-append (λ i. atom_at (c ++ e) i) names (level_range n m) ∙ ap (λ z. z ++ atoms_named (level_range n m) (c ++ e)) (chosen_longer names c e own) ∙ ap (λ z. atoms_named names c ++ z) new

-- each level under its own name
pub chosen_own : (n : ℕ) (c : List Atom) → length c ≡ n → atoms_named (level_range 0 n) c ≡ c
chosen_own n c k = chosen_levels n [] c k

pub length-levels_from : (m n : ℕ) → length (level_range n m) ≡ m
length-levels_from zero n = refl
length-levels_from (suc m) n = omega (arith, length-levels_from m (suc n))

pub levels_below : (m n : ℕ) → AreBelow (n + m) (level_range n m)
levels_below zero n = All-nil (λ i. i < n + 0)
levels_below (suc m) n =
    let e : suc n + m ≡ n + suc m = omega arith in
    All-cons (λ i. i < n + suc m) n (level_range (suc n) m) (omega arith) (subst (λ k. AreBelow k (level_range (suc n) m)) e (levels_below m (suc n)))

pub own_below : (n : ℕ) → AreBelow n (level_range 0 n)
own_below n = let e : 0 + n ≡ n = omega arith in subst (λ k. AreBelow k (level_range 0 n)) e (levels_below n 0)

pub below_more : (n m : ℕ) (names : List ℕ) → AreBelow n names → AreBelow (n + m) names
below_more n m names h = All-weaker (λ i. i < n) (λ i. i < n + m) (λ i l. omega arith) names h

pub below_entered : (n m : ℕ) (names : List ℕ) → AreBelow n names → AreBelow (n + m) (names ++ level_range n m)
below_entered n m names h =
    All-append (λ i. i < n + m) names (level_range n m) (below_more n m names h) (levels_below m n)

pub length-entered : (n m : ℕ) (names : List ℕ) → length (names ++ level_range n m) ≡ length names + m
length-entered n m names = omega (arith, length-append names (level_range n m), length-levels_from m n)

pub levels_from-push : (k n : ℕ) → level_range n (k + 1) ≡ level_range n k ++ (n + k) ∷ []
levels_from-push zero n = let e : n + 0 ≡ n = omega arith in rw e
levels_from-push (suc k) n =
    let e : suc n + k ≡ n + suc k = omega arith in
    let s : suc k + 1 ≡ suc (k + 1) = omega arith in
    ap (λ j. level_range n j) s ∙ ap (λ z. n ∷ z) (levels_from-push k (suc n) ∙ ap (λ j. level_range (suc n) k ++ j ∷ []) e)

-- one more name, as the loop adds it
pub entered_more : (names r r' : List ℕ) (n level : ℕ) → n ≤ level → r ≡ names ++ level_range n (level - n) → r' ≡ r ++ level ∷ [] → r' ≡ names ++ level_range n (level + 1 - n)
entered_more names r r' n level l e f =
    let k : level + 1 - n ≡ (level - n) + 1 = omega arith in
    let j : n + (level - n) ≡ level = omega arith in
    let push : level_range n (level + 1 - n) ≡ level_range n (level - n) ++ level ∷ [] = ap (λ z. level_range n z) k ∙ levels_from-push (level - n) n ∙ ap (λ z. level_range n (level - n) ++ z ∷ []) j in
    f ∙ ap (λ z. z ++ level ∷ []) e ∙ append_assoc names (level_range n (level - n)) (level ∷ []) ∙ ap (λ z. names ++ z) (sym push)

-- ---- literals
pub atom_chosen : (names : List ℕ) (c : List Atom) (i : ℕ) → i < length names → atom_at (atoms_named names c) i ≡ atom_at c (get_or names i 0)
atom_chosen names c i l = get_or-map (λ j. atom_at c j) names i 0 (whole 0) l

pub lit_named : (names : List ℕ) (c : List Atom) (l : Lit) → LitFits (length names) l → lit_holds c (named_lit names l) ≡ lit_holds (atoms_named names c) l
lit_named names c l h = rw (atom_chosen names c l.left h.0, atom_chosen names c l.right h.1) refl

pub lit_named_fits : (n : ℕ) (names : List ℕ) (l : Lit) → LitFits (length names) l → AreBelow n names → LitFits n (named_lit names l)
lit_named_fits n names l h below = (below l.left 0 h.0, below l.right 0 h.1)

pub atom_named : (names : List ℕ) (c : List Atom) (i : ℕ) → i < length names → (j : ℕ) → j ≡ get_or names i 0 → atom_at c j ≡ atom_at (atoms_named names c) i
atom_named names c i l j e = ap (λ k. atom_at c k) e ∙ sym (atom_chosen names c i l)
