-- The first decider of a kind.
use Rattle.std.proofs.Common.{◌≡◌, ℕ, ◌<◌, List, length, map, get_or, Option, sym, ap, ◌∙◌, subst, arith}
use Rattle.std.proofs.lemmas.List.{get_or-map, length-map}
use Rattle.std.specs.List.{All, HoldsAt}
use Rattle.lois_base.specs.declared.deciding.Kind.{Kind}
use Rattle.lois_deciders.specs.Choice.{IsWanted, IsUnwanted}
use Rattle.lois_deciders.specs.FirstWanted.{IsFirstWanted}

module _ {X : Type 0} (f : X → Kind) (kind : Option Kind) (xs : List X) (at : ℕ) (x : X) (l : at < length xs) (e : x ≡ get_or xs at x) where
  kind_at : (d : Kind) → f x ≡ get_or (map f xs) at d
  kind_at d = ap f e ∙ sym (get_or-map f xs at x d l)

  pub unwanted_at : IsUnwanted kind (f x) → HoldsAt (IsUnwanted kind) (map f xs) at
  unwanted_at w = λ d. subst (IsUnwanted kind) (kind_at d) w

  pub first_wanted : IsWanted kind (f x) → ((i : ℕ) → i < at → HoldsAt (IsUnwanted kind) (map f xs) i) → IsFirstWanted kind (map f xs) at
  first_wanted w before = record {
    place = omega (arith, l, length-map xs f);
    wanted = λ d. subst (IsWanted kind) (kind_at d) w;
    first = before;
  }

  pub some_wanted : IsWanted kind (f x) → All (IsUnwanted kind) (map f xs) → ⊥
  some_wanted w all = all at (f x) (omega (arith, l, length-map xs f)) (subst (IsWanted kind) (kind_at (f x)) w)
