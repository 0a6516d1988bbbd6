-- The alternatives of literals.
use Rattle.std.proofs.Common.{◌≡◌, ℕ, ◌<◌, Bool, true, false, not, ◌&&◌, ◌||◌, List, [], ◌∷◌, get_or, map, refl, ◌∙◌}
use Rattle.std.specs.Bool.{IsTrue}
use Rattle.std.specs.List.{list_any}
use Rattle.std.proofs.lemmas.List.Elements.{All-nil, All-cons, All-head, All-tail, All-append, All-map}
use Rattle.std.proofs.lemmas.List.Folds.{list_any-append}
use Rattle.lois_base.specs.Atom.{Atom, equal, below}
use Rattle.lois_base.specs.Normal.{GuardUses}
use Rattle.lois_base.specs.Truth.{atom_at, op_holds, lit_holds, cube_holds, holds}
use Rattle.lois_base.specs.Validity.{is_admitted, AdmitsLit}
use Rattle.lois_base.specs.declared.guards.Lit.{Lit}
use Rattle.lois_base.specs.declared.guards.Op.{Op}
use Rattle.lois_base.specs.declared.guards.Op.TheVariants.{Eq, Ne, Lt, AtMost}
use Rattle.lois_base.proofs.Booleans.{or_false}
use Rattle.lois_constraint.specs.Alternatives.{denial_of, denial, alternatives, denials}
use Rattle.lois_constraint.specs.Rules.{Rule, uses, fits, admits, strict, Obeys, IsKeptByDenial, CubeObeys, ConstraintObeys}

not_not : (p : Bool) → p ≡ not (not p)
not_not true = refl
not_not false = refl

both_not : (p q : Bool) → (not p || not q) ≡ not (p && q)
both_not true q = refl
both_not false q = refl

pub denial_of_holds : (c : List Atom) (o : Op) (x y : ℕ) → lit_holds c (denial_of o x y) ≡ not (op_holds o (atom_at c x) (atom_at c y))
denial_of_holds c Eq x y = refl
denial_of_holds c Ne x y = not_not (equal (atom_at c x) (atom_at c y))
denial_of_holds c Lt x y = refl
denial_of_holds c AtMost x y = not_not (below (atom_at c y) (atom_at c x))

alternatives_hold : (c : List Atom) (l : Lit) → list_any (lit_holds c) (alternatives l) ≡ not (lit_holds c l)
alternatives_hold c l = or_false (lit_holds c (denial l)) ∙ denial_of_holds c l.op l.left l.right

singles_hold : (c : List Atom) (ls : List Lit) → holds c (map (λ m. m ∷ []) ls) ≡ list_any (lit_holds c) ls
singles_hold c [] = refl
singles_hold c (l ∷ ls) = rw (singles_hold c ls) (single (lit_holds c l) (list_any (lit_holds c) ls))
  where
    single : (p q : Bool) → ((p && true) || q) ≡ (p || q)
    single true q = refl
    single false q = refl

pub denials_hold : (c : List Atom) (k : List Lit) → holds c (denials k) ≡ not (cube_holds c k)
denials_hold c [] = refl
denials_hold c (l ∷ k) =
    rw (list_any-append (cube_holds c) (map (λ m. m ∷ []) (alternatives l)) (denials k), singles_hold c (alternatives l), alternatives_hold c l, denials_hold c k) (both_not (lit_holds c l) (cube_holds c k))

module _ (Q : ℕ → Type 0) (x y : ℕ) (p : Q x) (q : Q y) where
  abbrev BothSides : Lit → Type 0
  BothSides l = Q l.left × Q l.right

  denial_sides : (o : Op) → BothSides (denial_of o x y)
  denial_sides Eq = (p, q)
  denial_sides Ne = (p, q)
  denial_sides Lt = (q, p)
  denial_sides AtMost = (q, p)

admitted_denial : (ordered : Bool) (o : Op) (x y : ℕ) → IsTrue (is_admitted ordered o) → AdmitsLit ordered (denial_of o x y)
admitted_denial ordered Eq x y h = refl
admitted_denial ordered Ne x y h = refl
admitted_denial ordered Lt x y h = h
admitted_denial ordered AtMost x y h = h

denial_obeys : (rule : Rule) → IsKeptByDenial rule → (l : Lit) → Obeys rule l → Obeys rule (denial l)
denial_obeys (uses g) d l h = denial_sides (λ i. GuardUses i g) l.left l.right h.0 h.1 l.op
denial_obeys (fits n) d l h = denial_sides (λ i. i < n) l.left l.right h.0 h.1 l.op
denial_obeys (admits o) d l h = admitted_denial o l.op l.left l.right h
denial_obeys strict d l h = absurd d

alternatives_obey : (rule : Rule) → IsKeptByDenial rule → (l : Lit) → Obeys rule l → CubeObeys rule (alternatives l)
alternatives_obey rule d l h = All-cons (Obeys rule) (denial l) [] (denial_obeys rule d l h) (All-nil (Obeys rule))

pub denials_obey : (rule : Rule) → IsKeptByDenial rule → (k : List Lit) → CubeObeys rule k → ConstraintObeys rule (denials k)
denials_obey rule d [] h = All-nil (CubeObeys rule)
denials_obey rule d (l ∷ k) h =
    let first : CubeObeys rule (alternatives l) = alternatives_obey rule d l (All-head (Obeys rule) l k h) in
    All-append (CubeObeys rule) (map (λ m. m ∷ []) (alternatives l)) (denials k)
    (All-map (CubeObeys rule) (λ m. m ∷ []) (alternatives l) (λ i x b. All-cons (Obeys rule) (get_or (alternatives l) i x) [] (first i x b) (All-nil (Obeys rule))))
    (denials_obey rule d k (All-tail (Obeys rule) l k h))
