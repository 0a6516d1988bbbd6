use Rattle.std.proofs.Common.{◌≡◌, ◌&&◌, List, [], ◌∷◌, ◌++◌, get_or, sym, ap, ◌∙◌, subst}
use Rattle.std.proofs.lemmas.List.Elements.{All-push}
use Rattle.lois_base.specs.Truth.{cube_holds}
use Rattle.lois_base.specs.declared.guards.Lit.{Lit}
use Rattle.lois_constraint.specs.Rules.{Obeys, CubeObeys}
use Rattle.lois_constraint.proofs.Tightened.{beside_grows, beside_stays}
use Rattle.lois_constraint.proofs.normal.not_implied.Goals as goal
use Rattle.lois_constraint.proofs.normal.not_implied.Goals.{then-not-implies+in_ok-push, else-not-implies}

pub loop-lit-preserved : goal.loop-lit-preserved
loop-lit-preserved c =
    let xs : List Lit = c.args.literals.now in
    let i = c.loop-lit.lit-index in
    let before : List Lit = c.loop-lit.kept.items in
    let after : List Lit = c.if-not-implies.kept.items in
    let inside = c.loop-lit-test.true in
    elim c.if-not-implies.branch [
      | then-not-implies+in_ok-push w ↦ (let is : after ≡ before ++ get_or xs i _ ∷ [] = ap (λ v. v.items) w.kept-is ∙ w.in_ok-push.ensures.items in
          record {
            truth = λ e. beside_grows e (cube_holds e c.args.closed.now) before xs i _ inside (c.loop-lit.invariant.truth e) after is;
            rules = λ rule h. subst (CubeObeys rule) (sym is) (All-push (Obeys rule) before _ (c.loop-lit.invariant.rules rule h) (h i _ inside));
          })
      | else-not-implies w ↦ (let is : after ≡ before = ap (λ v. v.items) w.kept-is in
          record {
            truth = λ e. ap (λ z. cube_holds e c.args.closed.now && cube_holds e z) is ∙ beside_stays e (cube_holds e c.args.closed.now) before xs i _ inside (c.loop-lit.invariant.truth e) (c.implies.ensures.0 w.if-not-implies.false e);
            rules = λ rule h. subst (CubeObeys rule) (sym is) (c.loop-lit.invariant.rules rule h);
          })
    ]
