-- A cube that says that some atom at a level meets another cube, and one that no atoms meet.
use Rattle.std.proofs.Common.{◌≡◌, ℕ, Bool, true, false, not, ◌||◌, ◌==◌, List, [], ◌∷◌, ◌++◌, length, ◌↔◌, refl, sym, ◌∙◌, ap}
use Rattle.std.proofs.lemmas.Bool.{or_cases, and_parts, and_left, and_right, eqb-true}
use Rattle.std.proofs.lemmas.List.Folds.{list_any-append}
use Rattle.std.specs.Bool.{IsTrue}
use Rattle.std.specs.List.{list_any}
use mathlib.Core.Logic.{inl, inr}
use Rattle.lois_base.specs.Atom.{Atom}
use Rattle.lois_base.specs.Theory.{Eliminates}
use Rattle.lois_base.specs.Truth.{atom_at, op_holds, lit_holds, cube_holds, holds}
use Rattle.lois_base.specs.declared.guards.Lit.{Lit}
use Rattle.lois_base.specs.declared.guards.Op.{Op}
use Rattle.lois_base.specs.declared.guards.Op.TheVariants.{Eq, Ne, Lt, AtMost}
use Rattle.lois_base.proofs.Booleans.{or_false}
use Rattle.lois_base.proofs.Order.{equal_refl, below_irrefl}
use Rattle.lois_order.specs.Cubes.{is_apart, is_absurd}

abbrev pub Projects : ℕ → List Lit → List Lit → Type 0
Projects x cube r =
    (c : List Atom) → length c ≡ x → IsTrue (cube_holds c r) ↔ ((a : Atom) × IsTrue (cube_holds (c ++ a ∷ []) cube))

relation_fails : (o : Op) (a : Atom) → is_apart o ≡ true → op_holds o a a ≡ false
relation_fails Eq a h = absurd (cc)
relation_fails Ne a h = ap not (equal_refl a)
relation_fails Lt a h = below_irrefl a
relation_fails AtMost a h = absurd (cc)

literal_fails : (u : List Atom) (l : Lit) → is_absurd l ≡ true → lit_holds u l ≡ false
literal_fails u l h =
    let k = and_parts (l.left == l.right) (is_apart l.op) h in
    rw (eqb-true l.left l.right k.0) (relation_fails l.op (atom_at u l.right) k.1)

pub absurd_fails : (u : List Atom) (cube : List Lit) → list_any is_absurd cube ≡ true → cube_holds u cube ≡ false
absurd_fails u [] h = absurd (cc)
absurd_fails u (l ∷ ls) h = elim (or_cases (is_absurd l) (list_any is_absurd ls) h) [
  | inl y ↦ and_left (lit_holds u l) (cube_holds u ls) (literal_fails u l y)
  | inr n ↦ and_right (lit_holds u l) (cube_holds u ls) (absurd_fails u ls n)
]

-- the answers: nothing where nothing meets the cube, and what it projects to
pub absurd_eliminates : (x : ℕ) (cube : List Lit) → list_any is_absurd cube ≡ true → Eliminates x cube []
absurd_eliminates x cube h c e = (λ f. absurd (cc), λ p. absurd (let k = absurd_fails (c ++ p.0 ∷ []) cube h in cc))

pub alone_eliminates : (x : ℕ) (cube r : List Lit) (g : List (List Lit)) → Projects x cube r → ((c : List Atom) → holds c g ≡ cube_holds c r) → Eliminates x cube g
alone_eliminates x cube r g p is c e = (λ f. (p c e).0 (sym (is c) ∙ f), λ q. is c ∙ (p c e).1 q)

-- a cube put to others, unless it can't hold
pub put_absurd : (c : List Atom) (k : List Lit) → list_any is_absurd k ≡ true → (b : Bool) → b ≡ (b || cube_holds c k)
put_absurd c k h true = refl
put_absurd c k h false = sym (absurd_fails c k h)
