use Rattle.std.proofs.Common.{◌≡◌, List, take, ◌∙◌, arith, refl, sym, subst}
use Rattle.std.specs.List.{Contains, All}
use Rattle.std.proofs.lemmas.List.{take_all}
use Rattle.std.proofs.lemmas.List.Elements.{All-more}
use Rattle.lois_base.specs.declared.guards.Lit.{Lit}
use Rattle.lois_simplify.proofs.fixing.each_has.Goals as goal

pub loop-cube-preserved : goal.loop-cube-preserved
loop-cube-preserved c =
    let P = λ (k : List Lit). Contains k c.args.lit in
    All-more P c.as_slice-cube-items.result.now c.loop-cube.cube-index c.cube-item.result (omega arith) c.loop-cube.invariant (subst P c.cube-item.is (c.has_literal.ensures.0 c.if-not-has_literal.false))

pub returns-then-not-has_literal : goal.returns-then-not-has_literal
returns-then-not-has_literal c = (
  λ h. absurd (cc),
  λ all. let P = λ (k : List Lit). Contains k c.args.lit in
      let item : Contains c.cube-item.result c.args.lit = subst P (sym c.cube-item.is) (subst (All P) (sym c.as_slice-cube-items.ensures) all c.loop-cube.cube-index c.cube-item.result (omega arith)) in
      let yes = c.has_literal.ensures.1 item in cc,
)

pub returns : goal.returns
returns c = (
  λ _. let P = λ (k : List Lit). Contains k c.args.lit in
      subst (All P) (take_all c.loop-cube.cube-index c.as_slice-cube-items.result.now (omega arith) ∙ c.as_slice-cube-items.ensures) c.loop-cube.invariant,
  λ _. refl,
)
