-- Cubes with `<` or `=` in the place of `<=`.
use Rattle.std.proofs.Common.{◌≡◌, ℕ, ◌<◌, ◌⊎◌, inl, inr, true, false, List, ◌∷◌, ◌++◌, Option, Some, None, Result, Ok, Err, IfOk, IfNone, sym, subst}
use Rattle.lois_base.specs.Atom.{Atom}
use Rattle.lois_base.specs.Fits.{LitFits, CubeFits}
use Rattle.lois_base.specs.Truth.{lit_holds, cube_holds}
use Rattle.lois_base.specs.declared.guards.Lit.{Lit}
use Rattle.lois_constraint.specs.Entailment.{CubeIsSatisfiable}
use Rattle.lois_constraint.proofs.Listed.{satisfiable}
use Rattle.lois_constraint.proofs.WeakLiterals.{less, same, at_most, holding_parts, holding_from, one_holds}
use Rattle.lois_deciders.specs.Labels.{IsUnmet}

-- where the part with `<` holds nowhere, that with `=` can be met
pub same_met : (k m : List Lit) (x y : ℕ) → ((c : List Atom) → cube_holds c (k ++ less x y ∷ m) ≡ false) → CubeIsSatisfiable (k ++ at_most x y ∷ m) → CubeIsSatisfiable (k ++ same x y ∷ m)
same_met k m x y nowhere (c, h) = go (one_holds c x y p.1)
  where
    p : (cube_holds c k ≡ true) × (lit_holds c (at_most x y) ≡ true) × (cube_holds c m ≡ true)
    p = holding_parts c k m (at_most x y) h

    go : (lit_holds c (less x y) ≡ true) ⊎ (lit_holds c (same x y) ≡ true) → CubeIsSatisfiable (k ++ same x y ∷ m)
    go (inl l) = absurd (let t = holding_from c k m (less x y) p.0 l p.2 in let f = nowhere c in cc)
    go (inr e) = (c, holding_from c k m (same x y) p.0 e p.2)

pub same_levels_fit : (n : ℕ) (l m : Lit) → l.left ≡ m.left → l.right ≡ m.right → LitFits n m → LitFits n l
same_levels_fit n l m left right f = (subst (λ i. i < n) (sym left) f.0, subst (λ i. i < n) (sym right) f.1)

-- where a part holds nowhere that can be met where the whole can, the whole holds nowhere
pub part_unmet : (n : ℕ) (k part : List Lit) → CubeFits n part → (CubeIsSatisfiable k → CubeIsSatisfiable part) → IsUnmet n part → IsUnmet n k
part_unmet n k part fits met unmet (c, count, h) = unmet (satisfiable n part fits (met (c, h)))

pub none_weaker : {X E : Type 0} (P Q : Type 0) (r : Result (Option X) E) → (P → Q) → IfOk r (λ o. IfNone o P) → IfOk r (λ o. IfNone o Q)
none_weaker P Q (Ok None) f h = f h
none_weaker P Q (Ok (Some x)) f h = h
none_weaker P Q (Err e) f h = h
