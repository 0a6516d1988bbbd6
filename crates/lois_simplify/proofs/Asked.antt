-- What the answers of a decider say of levels that can differ.
use Rattle.std.proofs.Common.{◌≡◌, ℕ, ◌<◌, Bool, true, false, ◌&&◌, ◌||◌, not, List, [], ◌∷◌, length, get_or, Option, Result, Ok, Err, Some, None, IfOk, refl, sym, ap, ◌∙◌, subst, arith}
use Rattle.std.proofs.lemmas.Bool.{and_parts}
use Rattle.std.proofs.lemmas.List.{get_or-map, length-map}
use Rattle.std.proofs.lemmas.List.Elements.{All-nil, All-cons}
use Rattle.std.specs.Bool.{IsTrue, IsFalse}
use Rattle.std.specs.Option.{IfSome, IsNone, is_some}
use Rattle.lois_base.specs.Atom.{Atom, equal, whole}
use Rattle.lois_base.specs.Fits.{LitFits, CubeFits, ConstraintFits}
use Rattle.lois_base.specs.Truth.{atom_at, holds, sampled}
use Rattle.lois_base.specs.declared.guards.Lit.{Lit}
use Rattle.lois_base.specs.declared.guards.Op.TheVariants.{Ne}
use Rattle.lois_base.proofs.Order.{numbers_differ}
use Rattle.lois_deciders.specs.Satisfaction.{IsConstraintSample}
use Rattle.lois_deciders.specs.Satisfiability.{ConstraintIsSatisfiable}
use Rattle.lois_simplify.specs.Fixed.{IsFixed, CanBeApart}

abbrev pub apart : ℕ → ℕ → List (List Lit)
apart b a = (record { op = Ne; left = b; right = a } ∷ []) ∷ []

pub apart_fits : (n b a : ℕ) → b < n → a < n → ConstraintFits n (apart b a)
apart_fits n b a l m =
    All-cons (CubeFits n) (record { op = Ne; left = b; right = a } ∷ []) [] (All-cons (LitFits n) (record { op = Ne; left = b; right = a }) [] (l, m) (All-nil (LitFits n))) (All-nil (CubeFits n))

apart_holds : (c : List Atom) (b a : ℕ) → holds c (apart b a) ≡ not (equal (atom_at c b) (atom_at c a))
apart_holds c b a = go (not (equal (atom_at c b) (atom_at c a)))
  where
    go : (t : Bool) → ((t && true) || false) ≡ t
    go true = refl
    go false = refl

not_true : (t : Bool) → not t ≡ true → IsFalse t
not_true true e = absurd (cc)
not_true false e = refl

true_of_not : (t : Bool) → (not t ≡ true → ⊥) → IsTrue t
true_of_not true f = refl
true_of_not false f = absurd (f refl)

-- a choice at which h holds and the levels differ
pub can_be_apart : (n b a : ℕ) (h r : List (List Lit)) (c : List Atom) → ((d : List Atom) → holds d r ≡ (holds d h && holds d (apart b a))) → length c ≡ n → IsTrue (holds c r) → CanBeApart n h b a
can_be_apart n b a h r c both l o =
    let parts = and_parts (holds c h) (holds c (apart b a)) (sym (both c) ∙ o) in
    (c, l, parts.0, not_true (equal (atom_at c b) (atom_at c a)) (sym (apart_holds c b a) ∙ parts.1))

pub is_fixed : (n b a : ℕ) (h r : List (List Lit)) → ((d : List Atom) → holds d r ≡ (holds d h && holds d (apart b a))) → (ConstraintIsSatisfiable n r → ⊥) → IsFixed n h b a
is_fixed n b a h r both none c l o =
    true_of_not (equal (atom_at c b) (atom_at c a))
    (λ e. none (c, l, both c ∙ (ap (λ t. t && holds c (apart b a)) o ∙ (apart_holds c b a ∙ e))))

-- the sample itself has different numbers there
pub sample_is_apart : (n b a : ℕ) (h : List (List Lit)) (s : List ℕ) → IsConstraintSample n h s → b < n → a < n → (get_or s b 0 ≡ get_or s a 0 → ⊥) → CanBeApart n h b a
sample_is_apart n b a h s m l k d =
    let at_b : atom_at (sampled s) b ≡ whole (get_or s b 0) = get_or-map whole s b 0 (whole 0) (omega (arith, m.0.count)) in
    let at_a : atom_at (sampled s) a ≡ whole (get_or s a 0) = get_or-map whole s a 0 (whole 0) (omega (arith, m.0.count)) in (
      sampled s,
      length-map s whole ∙ m.0.count,
      m.1,
      subst (λ z. IsFalse (equal z (atom_at (sampled s) a))) (sym at_b) (subst (λ z. IsFalse (equal (whole (get_or s b 0)) z)) (sym at_a) (numbers_differ (get_or s b 0) (get_or s a 0) d)),
    )

-- ---- what `is_none` tells
pub none_there : {X : Type 0} (o : Option X) (b : Bool) → is_some o ≡ not b → IsTrue b → IsNone o
none_there None b e t = refl
none_there (Some x) b e t = absurd (cc)

pub some_there : {X : Type 0} (P : X → Type 0) (o : Option X) (b : Bool) → is_some o ≡ not b → IsFalse b → IfSome o P → (x : X) × P x
some_there P None b e f h = absurd (cc)
some_there P (Some x) b e f h = (x, h)

pub some_yes : {X : Type 0} (P : X → Type 0) (o : Option X) (b : Bool) → b ≡ is_some o → IsTrue b → IfSome o P → (x : X) × P x
some_yes P None b e t h = absurd (cc)
some_yes P (Some x) b e t h = (x, h)

pub ok_both : {X E : Type 0} (P Q R : X → Type 0) (r : Result X E) → ((x : X) → P x → Q x → R x) → IfOk r P → IfOk r Q → IfOk r R
ok_both P Q R (Ok x) f p q = f x p q
ok_both P Q R (Err e) f p q = p
