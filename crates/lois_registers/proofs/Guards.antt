-- A step's guard at a placement holds exactly where its literals do.
use Rattle.std.proofs.Common.{◌≡◌, ℕ, zero, suc, ◌<◌, Bool, true, false, List, [], ◌∷◌, Option, Some, None, refl, sym, subst, ◌∙◌}
use Rattle.std.specs.Prelude.{slice_index_or, ◌&&◌, ◌||◌}
use Rattle.std.specs.Bool.{IsTrue}
use Rattle.std.specs.List.{All}
use Rattle.std.proofs.lemmas.List.Elements.{All-nil, All-cons, All-head, All-tail}
use Rattle.lois_base.specs.Atom.{Atom}
use Rattle.lois_base.specs.Fits.{LitFits, CubeFits, ConstraintFits}
use Rattle.lois_base.specs.Truth.{atom_at, op_holds, lit_holds, cube_holds, holds}
use Rattle.lois_base.specs.Validity.{AdmitsLit, AdmitsCube, AdmitsConstraint, IsStrictLit, IsStrictCube, IsStrictConstraint, is_admitted, is_strict}
use Rattle.lois_base.specs.declared.guards.Lit.{Lit}
use Rattle.lois_base.specs.declared.guards.Op.{Op}
use Rattle.lois_registers.specs.Placed.{placed_literal, placed_lit, with_literal, placed, constraint_of_cube, placed_guard}
use Rattle.lois_registers.specs.Runs.{LiteralHolds}
use Rattle.lois_registers.proofs.Contents.{at_level, filled, AreBelow}

-- what is read at a level of the contents
read_at : (e : List Atom) (os : List (Option ℕ)) (i : ℕ) → slice_index_or (filled e os) i None ≡ at_level e (slice_index_or os i None)
read_at e [] i = refl
read_at e (o ∷ os) zero = refl
read_at e (o ∷ os) (suc i) = read_at e os i

abbrev IsMetBy : List Atom → Option Lit → Type 0
IsMetBy e None = ⊥
IsMetBy e (Some l) = IsTrue (lit_holds e l)

module _ (e : List Atom) where
  literal_to : (op : Op) (o u : Option ℕ) (a b : Atom) → at_level e o ≡ Some a → at_level e u ≡ Some b → IsTrue (op_holds op a b) → IsMetBy e (placed_literal op o u)
  literal_to op (Some i) (Some j) a b h k t =
      let x : atom_at e i ≡ a = cc in
      let y : atom_at e j ≡ b = cc in
      subst (λ z. IsTrue (op_holds op z (atom_at e j))) (sym x) (subst (λ z. IsTrue (op_holds op a z)) (sym y) t)
  literal_to op None u a b h k t = absurd (cc)
  literal_to op (Some i) None a b h k t = absurd (cc)

  literal_from : (op : Op) (o u : Option ℕ) → IsMetBy e (placed_literal op o u) → (a b : Atom) × (at_level e o ≡ Some a) × (at_level e u ≡ Some b) × IsTrue (op_holds op a b)
  literal_from op (Some i) (Some j) t = (atom_at e i, atom_at e j, refl, refl, t)
  literal_from op None u t = absurd t
  literal_from op (Some i) None t = absurd t

  module _ (os : List (Option ℕ)) where
    lit_to : (l : Lit) → LiteralHolds (filled e os) l → IsMetBy e (placed_lit os l)
    lit_to l (a, b, h, k, t) =
        literal_to l.op (slice_index_or os l.left None) (slice_index_or os l.right None) a b (sym (read_at e os l.left) ∙ h) (sym (read_at e os l.right) ∙ k) t

    lit_from : (l : Lit) → IsMetBy e (placed_lit os l) → LiteralHolds (filled e os) l
    lit_from l t =
        let r : (a b : Atom) × (at_level e (slice_index_or os l.left None) ≡ Some a) × (at_level e (slice_index_or os l.right None) ≡ Some b) × IsTrue (op_holds l.op a b) = literal_from l.op (slice_index_or os l.left None) (slice_index_or os l.right None) t in
        (r.0, r.1, read_at e os l.left ∙ r.2, read_at e os l.right ∙ r.3, r.4)

  add_to : (l : Option Lit) (ls : Option (List Lit)) → IsMetBy e l → IsTrue (holds e (constraint_of_cube ls)) → IsTrue (holds e (constraint_of_cube (with_literal l ls)))
  add_to (Some l) (Some ls) h k = go (lit_holds e l) (cube_holds e ls) h k
    where
      go : (a b : Bool) → IsTrue a → IsTrue (b || false) → IsTrue ((a && b) || false)
      go true true h k = refl
      go true false h k = k
      go false b h k = absurd (cc)
  add_to None ls h k = absurd h
  add_to (Some l) None h k = absurd (cc)

  add_from : (l : Option Lit) (ls : Option (List Lit)) → IsTrue (holds e (constraint_of_cube (with_literal l ls))) → IsMetBy e l × IsTrue (holds e (constraint_of_cube ls))
  add_from (Some l) (Some ls) h = go (lit_holds e l) (cube_holds e ls) h
    where
      go : (a b : Bool) → IsTrue ((a && b) || false) → IsTrue a × IsTrue (b || false)
      go true true h = (refl, refl)
      go true false h = absurd (cc)
      go false b h = absurd (cc)
  add_from None ls h = absurd (cc)
  add_from (Some l) None h = absurd (cc)

  -- the literals hold exactly where the placed guard does
  pub guard_to : (os : List (Option ℕ)) (g : List Lit) → All (LiteralHolds (filled e os)) g → IsTrue (holds e (placed_guard os g))
  guard_to os [] h = refl
  guard_to os (l ∷ g) h = add_to (placed_lit os l) (placed os g) (lit_to os l (All-head (LiteralHolds (filled e os)) l g h)) (guard_to os g (All-tail (LiteralHolds (filled e os)) l g h))

  pub guard_from : (os : List (Option ℕ)) (g : List Lit) → IsTrue (holds e (placed_guard os g)) → All (LiteralHolds (filled e os)) g
  guard_from os [] h = All-nil (LiteralHolds (filled e os))
  guard_from os (l ∷ g) h =
      let r = add_from (placed_lit os l) (placed os g) h in
      All-cons (LiteralHolds (filled e os)) l g (lit_from os l r.0) (guard_from os g r.1)

-- levels and operators of a placed guard
level_below : (n : ℕ) (os : List (Option ℕ)) (i j : ℕ) → AreBelow n os → slice_index_or os i None ≡ Some j → j < n
level_below n [] i j h e = absurd (cc)
level_below n (None ∷ os) zero j h e = absurd (cc)
level_below n (Some k ∷ os) zero j h e = let s : k ≡ j = cc in subst (λ z. z < n) s h.0
level_below n (None ∷ os) (suc i) j h e = level_below n os i j h e
level_below n (Some k ∷ os) (suc i) j h e = level_below n os i j h.1 e

abbrev IsSoundLit : ℕ → Bool → Option Lit → Type 0
IsSoundLit n o None = Unit {0}
IsSoundLit n o (Some l) = LitFits n l × AdmitsLit o l × IsStrictLit l

lit_sound : (n : ℕ) (o : Bool) (op : Op) (u v : Option ℕ) → ((i : ℕ) → u ≡ Some i → i < n) → ((i : ℕ) → v ≡ Some i → i < n) → IsTrue (is_admitted o op) → IsTrue (is_strict op) → IsSoundLit n o (placed_literal op u v)
lit_sound n o op (Some i) (Some j) h k a s = ((h i refl, k j refl), a, s)
lit_sound n o op None v h k a s = tt
lit_sound n o op (Some i) None h k a s = tt

abbrev IsSoundCube : ℕ → Bool → Option (List Lit) → Type 0
IsSoundCube n o None = Unit {0}
IsSoundCube n o (Some ls) = CubeFits n ls × AdmitsCube o ls × IsStrictCube ls

add_sound : (n : ℕ) (o : Bool) (l : Option Lit) (ls : Option (List Lit)) → IsSoundLit n o l → IsSoundCube n o ls → IsSoundCube n o (with_literal l ls)
add_sound n o (Some l) (Some ls) h k = (All-cons (LitFits n) l ls h.0 k.0, All-cons (AdmitsLit o) l ls h.1 k.1, All-cons IsStrictLit l ls h.2 k.2)
add_sound n o None ls h k = tt
add_sound n o (Some l) None h k = tt

cube_sound : (n : ℕ) (o : Bool) (os : List (Option ℕ)) (g : List Lit) → AreBelow n os → AdmitsCube o g → IsStrictCube g → IsSoundCube n o (placed os g)
cube_sound n o os [] b h s = (All-nil (LitFits n), All-nil (AdmitsLit o), All-nil IsStrictLit)
cube_sound n o os (l ∷ g) b h s =
    add_sound n o (placed_lit os l) (placed os g)
    (lit_sound n o l.op (slice_index_or os l.left None) (slice_index_or os l.right None) (λ i e. level_below n os l.left i b e) (λ i e. level_below n os l.right i b e) (All-head (AdmitsLit o) l g h) (All-head IsStrictLit l g s))
    (cube_sound n o os g b (All-tail (AdmitsLit o) l g h) (All-tail IsStrictLit l g s))

-- what the guard of a sound comprehension inside n levels is
pub record IsSoundGuard (n : ℕ) (o : Bool) (g : List (List Lit)) : Type 0 where
  pub levels : ConstraintFits n g
  pub operators : AdmitsConstraint o g
  pub strict : IsStrictConstraint g

guard_sound : (n : ℕ) (o : Bool) (c : Option (List Lit)) → IsSoundCube n o c → IsSoundGuard n o (constraint_of_cube c)
guard_sound n o None h = record { levels = All-nil (CubeFits n); operators = All-nil (AdmitsCube o); strict = All-nil IsStrictCube }
guard_sound n o (Some ls) h = record {
  levels = All-cons (CubeFits n) ls [] h.0 (All-nil (CubeFits n));
  operators = All-cons (AdmitsCube o) ls [] h.1 (All-nil (AdmitsCube o));
  strict = All-cons IsStrictCube ls [] h.2 (All-nil IsStrictCube);
}

pub placed_sound : (n : ℕ) (o : Bool) (os : List (Option ℕ)) (g : List Lit) → AreBelow n os → AdmitsCube o g → IsStrictCube g → IsSoundGuard n o (placed_guard os g)
placed_sound n o os g b h s = guard_sound n o (placed os g) (cube_sound n o os g b h s)
