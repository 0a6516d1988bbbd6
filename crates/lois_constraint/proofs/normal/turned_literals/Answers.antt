use Rattle.std.proofs.Common.{◌≡◌, ◌≢◌, List, [], ◌∷◌, ◌++◌, sym, ap, ◌∙◌, subst}
use Rattle.std.specs.List.{All}
use Rattle.std.proofs.lemmas.List.Elements.{All-push}
use Rattle.lois_base.specs.Truth.{cube_holds}
use Rattle.lois_base.specs.declared.guards.Lit.{Lit}
use Rattle.lois_constraint.specs.Normalised.{IsOriented}
use Rattle.lois_constraint.specs.Rules.{Obeys, CubeObeys}
use Rattle.lois_constraint.proofs.Normals.{turned_grows, turned_stays}
use Rattle.lois_constraint.proofs.normal.turned_literals.Goals as goal
use Rattle.lois_constraint.proofs.normal.turned_literals.Goals.{then-lit+in_ok-push, else-lit}

pub loop-lit-preserved : goal.loop-lit-preserved
loop-lit-preserved c =
    let xs : List Lit = c.args.literals.now in
    let i = c.loop-lit.lit-index in
    let before : List Lit = c.loop-lit.turned_ones.items in
    let after : List Lit = c.if-lit.turned_ones.items in
    elim c.if-lit.branch [
      | then-lit+in_ok-push w ↦ (let t : Lit = w.turned.result in
          let is : after ≡ before ++ t ∷ [] = ap (λ v. v.items) w.turned_ones-is ∙ w.in_ok-push.ensures.items in
          record {
            truth = λ e. turned_grows e before xs i _ c.loop-lit-test.true (c.loop-lit.invariant.truth e) after t is (w.turned.ensures.truth e);
            apart = subst (All (λ x. x.left ≢ x.right)) (sym is) (All-push (λ x. x.left ≢ x.right) before t c.loop-lit.invariant.apart (λ e. w.if-lit.true (w.turned.ensures.apart e)));
            turned = subst (All (λ x. IsOriented x.op x.left x.right)) (sym is) (All-push (λ x. IsOriented x.op x.left x.right) before t c.loop-lit.invariant.turned w.turned.ensures.turned);
            rules = λ rule h. subst (CubeObeys rule) (sym is) (All-push (Obeys rule) before t (c.loop-lit.invariant.rules rule h) (w.turned.ensures.rules rule (h i _ c.loop-lit-test.true)));
          })
      | else-lit w ↦ (let is : after ≡ before = ap (λ v. v.items) w.turned_ones-is in
          record {
            truth = λ e. ap (cube_holds e) is ∙ turned_stays e before xs i _ c.loop-lit-test.true (c.loop-lit.invariant.truth e) c.requires w.if-lit.false;
            apart = subst (All (λ x. x.left ≢ x.right)) (sym is) c.loop-lit.invariant.apart;
            turned = subst (All (λ x. IsOriented x.op x.left x.right)) (sym is) c.loop-lit.invariant.turned;
            rules = λ rule h. subst (CubeObeys rule) (sym is) (c.loop-lit.invariant.rules rule h);
          })
    ]
