use Rattle.std.proofs.Common.{◌≡◌, true, ◌+◌, [], ◌∷◌, ◌++◌, get_or, take, refl, sym, ◌∙◌, subst}
use Rattle.std.proofs.lemmas.List.{take_more, take_all}
use Rattle.std.proofs.lemmas.List.Elements.{All-push}
use Rattle.std.specs.Bool.{IsTrue}
use Rattle.lois_base.specs.Fits.{LitFits, CubeFits}
use Rattle.lois_base.specs.Truth.{lit_holds, cube_holds}
use Rattle.lois_base.specs.Validity.{IsStrictLit, IsStrictCube}
use Rattle.lois_base.specs.declared.guards.Lit.{Lit}
use Rattle.lois_base.specs.declared.guards.Op.TheVariants.{Eq}
use Rattle.lois_base.proofs.Lists.{all_before, all_last}
use Rattle.lois_constraint.proofs.WeakLiterals.{holding_parts, holding_from}
use Rattle.lois_deciders.proofs.StrictParts.{same_levels_fit}
use Rattle.lois_deciders.proofs.strict.tightest_part.Goals as goal

pub loop-lit-preserved : goal.loop-lit-preserved
loop-lit-preserved c =
    let xs = c.as_slice-lit-items.result.now in
    let i = c.loop-lit.lit-index in
    let part = c.loop-lit.part in
    let was = c.loop-lit.invariant in
    let l = c.tightest.result in
    let here = c.tightest.ensures in
    let d : Lit = record { op = Eq; left = 0; right = 0 } in
    let lit = get_or xs i d in
    let pushed = c.in_ok-push.ensures.ok in
    record {
      strict = subst IsStrictCube (sym pushed) (All-push IsStrictLit part l was.strict here.strict);
      entails = λ e h.
          let p = holding_parts e part [] l (subst (λ z. cube_holds e z ≡ true) pushed h) in
          subst (λ z. IsTrue (cube_holds e z)) (sym (take_more xs i d c.loop-lit-test.true)) (holding_from e (take i xs) [] lit (was.entails e p.0) (here.entails e p.1) refl);
      levels = λ n f.
          let g = subst (CubeFits n) (take_more xs i d c.loop-lit-test.true) f in
          subst (CubeFits n) (sym pushed) (All-push (LitFits n) part l (was.levels n (all_before (LitFits n) (take i xs) lit g)) (same_levels_fit n l lit here.left here.right (all_last (LitFits n) (take i xs) lit g)));
    }

pub returns-clause-levels : goal.returns-clause-levels
returns-clause-levels c = λ n f.
    let xs = c.as_slice-lit-items.result.now in
    c.loop-lit.invariant.levels n (subst (CubeFits n) (sym (take_all c.loop-lit.lit-index xs c.loop-lit-test.false ∙ c.as_slice-lit-items.ensures)) f)
