-- The constraint of two constraints holds where both do, and has the literals of both.
use Rattle.std.proofs.Common.{◌≡◌, ℕ, ◌+◌, ◌<◌, Bool, true, false, ◌&&◌, ◌||◌, List, [], ◌∷◌, ◌++◌, length, get_or, map, take, append-nil, refl, sym, subst}
use Rattle.std.specs.List.{All}
use Rattle.std.proofs.lemmas.Grind.{flat_map-append}
use Rattle.std.proofs.lemmas.List.{take_more}
use Rattle.std.proofs.lemmas.List.Elements.{All-nil, All-head, All-tail, All-append, All-map}
use Rattle.std.proofs.lemmas.List.Folds.{list_all-append, list_any-append}
use Rattle.lois_base.specs.Atom.{Atom}
use Rattle.lois_base.specs.Normal.{both}
use Rattle.lois_base.specs.Truth.{lit_holds, cube_holds, holds}
use Rattle.lois_base.specs.declared.guards.Lit.{Lit}
use Rattle.lois_base.proofs.Booleans.{and_false}

and_or : (p q r : Bool) → ((p && q) || (p && r)) ≡ (p && (q || r))
and_or true q r = refl
and_or false q r = refl

or_and : (p q r : Bool) → ((p && r) || (q && r)) ≡ ((p || q) && r)
or_and true true true = refl
or_and true true false = refl
or_and true false true = refl
or_and true false false = refl
or_and false q r = refl

module _ (c : List Atom) where
  pub cubes_append : (k l : List Lit) → cube_holds c (k ++ l) ≡ (cube_holds c k && cube_holds c l)
  cubes_append k l = list_all-append (lit_holds c) k l

  pub holds_append : (u g : List (List Lit)) → holds c (u ++ g) ≡ (holds c u || holds c g)
  holds_append u g = list_any-append (cube_holds c) u g

  pub holds_each : (k : List Lit) (g : List (List Lit)) → holds c (map (λ l. k ++ l) g) ≡ (cube_holds c k && holds c g)
  holds_each k [] = sym (and_false (cube_holds c k))
  holds_each k (l ∷ g) = rw (cubes_append k l, holds_each k g) (and_or (cube_holds c k) (cube_holds c l) (holds c g))

  pub holds_both : (u g : List (List Lit)) → holds c (both u g) ≡ (holds c u && holds c g)
  holds_both [] g = refl
  holds_both (k ∷ u) g =
      rw (holds_append (map (λ l. k ++ l) g) (both u g), holds_each k g, holds_both u g) (or_and (cube_holds c k) (holds c u) (holds c g))

-- what is true of all literals of two constraints is true of those of both
pub all_both : (P : Lit → Type 0) (u g : List (List Lit)) → All (All P) u → All (All P) g → All (All P) (both u g)
all_both P [] g h k = All-nil (All P)
all_both P (x ∷ u) g h k =
    All-append (All P) (map (λ d. x ++ d) g) (both u g)
    (All-map (All P) (λ d. x ++ d) g (λ i d l. All-append P x (get_or g i d) (All-head (All P) x u h) (k i d l)))
    (all_both P u g (All-tail (All P) x u h) k)

-- a further cube of the first
both_more : (a b : List (List Lit)) (i : ℕ) (d : List Lit) → i < length a → both (take (i + 1) a) b ≡ both (take i a) b ++ map (λ e. get_or a i d ++ e) b
both_more a b i d l = rw (take_more a i d l) (simp (flat_map-append, append-nil))

pub both_step : (a b p r : List (List Lit)) (i : ℕ) (x : List Lit) → p ≡ both (take i a) b → x ≡ get_or a i x → i < length a → r ≡ p ++ map (λ e. x ++ e) b → r ≡ both (take (i + 1) a) b
both_step a b p r i x e is l f =
    rw (both_more a b i x l) (subst (λ (y : List Lit). r ≡ both (take i a) b ++ map (λ e. y ++ e) b) is (subst (λ (q : List (List Lit)). r ≡ q ++ map (λ e. x ++ e) b) e f))
