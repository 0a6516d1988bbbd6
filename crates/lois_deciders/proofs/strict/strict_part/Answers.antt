use Rattle.std.proofs.Common.{◌≡◌, true, ◌+◌, ◌-◌, [], ◌∷◌, ◌++◌, length, get_or, take, drop, append_assoc, length-drop, arith, refl, sym, ap, ◌∙◌, subst}
use Rattle.std.proofs.lemmas.List.{take_more, take_all}
use Rattle.std.proofs.lemmas.List.Elements.{All-push}
use Rattle.std.specs.Bool.{IsTrue}
use Rattle.lois_base.specs.Fits.{LitFits, CubeFits}
use Rattle.lois_base.specs.Truth.{cube_holds}
use Rattle.lois_base.specs.Validity.{IsStrictLit, IsStrictCube}
use Rattle.lois_base.specs.declared.guards.Lit.{Lit}
use Rattle.lois_base.specs.declared.guards.Op.TheVariants.{Eq}
use Rattle.lois_base.proofs.Lists.{all_before, all_last}
use Rattle.lois_base.proofs.Viewed.{rest_at}
use Rattle.lois_constraint.specs.Entailment.{CubeIsSatisfiable}
use Rattle.lois_constraint.proofs.WeakLiterals.{holding_parts, holding_from}
use Rattle.lois_deciders.proofs.StrictParts.{same_levels_fit}
use Rattle.lois_deciders.proofs.strict.strict_part.Goals as goal

pub loop-index-preserved : goal.loop-index-preserved
loop-index-preserved c =
    let xs = c.as_slice-literals.result.now in
    let i = c.loop-index.index in
    let part = c.loop-index.part in
    let was = c.loop-index.invariant in
    let l = c.in_ok-strict.strict in
    let here = c.in_ok-strict.ensures in
    let d : Lit = record { op = Eq; left = 0; right = 0 } in
    let lit = get_or xs i d in
    let pushed = c.in_ok-push.ensures.ok in
    let rest = drop (i + 1) xs in
    let behind : take (length xs - (i + 1)) rest ≡ rest = take_all (length xs - (i + 1)) rest (omega (arith, length-drop (i + 1) xs)) in
    record {
      strict = subst IsStrictCube (sym pushed) (All-push IsStrictLit part l was.strict here.strict);
      entails = λ e h.
          let p = holding_parts e part [] l (subst (λ z. cube_holds e z ≡ true) pushed h) in
          subst (λ z. IsTrue (cube_holds e z)) (sym (take_more xs i d c.loop-index-test.true)) (holding_from e (take i xs) [] lit (was.entails e p.0) (here.entails e p.1) refl);
      met = λ s. subst CubeIsSatisfiable (sym (ap (λ z. z ++ rest) pushed ∙ append_assoc part (l ∷ []) rest))
          (subst (λ z. CubeIsSatisfiable (part ++ l ∷ z)) behind
          (here.met (subst (λ z. CubeIsSatisfiable (part ++ z)) (rest_at xs i d c.loop-index-test.true ∙ ap (λ z. lit ∷ z) (sym behind)) (was.met s))));
      levels = λ n f.
          let g = subst (CubeFits n) (take_more xs i d c.loop-index-test.true) f in
          subst (CubeFits n) (sym pushed) (All-push (LitFits n) part l (was.levels n (all_before (LitFits n) (take i xs) lit g)) (same_levels_fit n l lit here.left here.right (all_last (LitFits n) (take i xs) lit g)));
    }

pub returns-clause-levels : goal.returns-clause-levels
returns-clause-levels c = λ n f.
    let xs = c.as_slice-literals.result.now in
    c.loop-index.invariant.levels n (subst (CubeFits n) (sym (take_all c.loop-index.index xs c.loop-index-test.false ∙ c.as_slice-literals.ensures)) f)
