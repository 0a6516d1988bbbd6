-- A literal of a cube that fails a test.
use Rattle.std.proofs.Common.{◌≡◌, ℕ, Bool, true, false, ◌&&◌, List, [], ◌∷◌}
use Rattle.std.proofs.lemmas.Bool.{cases_Bool, and_parts, or_parts}
use Rattle.std.specs.List.{AllByRecursion, list_all, list_any}
use mathlib.Core.Logic.{◌⊎◌, inl, inr}
use Rattle.lois_base.specs.Fits.{LitFits}
use Rattle.lois_base.specs.declared.guards.Lit.{Lit}

pub record Picked (p : Lit → Bool) (ls : List Lit) : Type 0 where
  pub item : Lit
  pub fails : p item ≡ false
  pub each : (q : Lit → Bool) → list_all q ls ≡ true → q item ≡ true
  pub none : (q : Lit → Bool) → list_any q ls ≡ false → q item ≡ false
  pub levels : (n : ℕ) → AllByRecursion (LitFits n) ls → LitFits n item

rest_fails : (b d : Bool) → b ≡ true → (b && d) ≡ false → d ≡ false
rest_fails true d e h = h
rest_fails false d e h = absurd (cc)

pub picked : (p : Lit → Bool) (ls : List Lit) → list_all p ls ≡ false → Picked p ls
picked p [] h = absurd (cc)
picked p (l ∷ ls) h = go (cases_Bool (p l)) (picked p ls)
  where
    later : Picked p ls → Picked p (l ∷ ls)
    later k = record {
      item = k.item;
      fails = k.fails;
      each = λ q e. k.each q (and_parts (q l) (list_all q ls) e).1;
      none = λ q e. k.none q (or_parts (q l) (list_any q ls) e).1;
      levels = λ n f. k.levels n f.1;
    }

    go : (p l ≡ true) ⊎ (p l ≡ false) → (list_all p ls ≡ false → Picked p ls) → Picked p (l ∷ ls)
    go (inl y) rest = later (rest (rest_fails (p l) (list_all p ls) y h))
    go (inr n) rest = record {
      item = l;
      fails = n;
      each = λ q e. (and_parts (q l) (list_all q ls) e).0;
      none = λ q e. (or_parts (q l) (list_any q ls) e).0;
      levels = λ n f. f.0;
    }
