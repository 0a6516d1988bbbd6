use Rattle.std.proofs.Common.{◌≡◌, ◌++◌, sym, subst, arith}
use Rattle.std.proofs.lemmas.Grind.{common_steps}
use Rattle.lois_base.specs.UsedLevels.{UsesOnly}
use Rattle.lois_base.proofs.Validity.{uses_only-refl}
use Rattle.lois_constraint.proofs.products.or.Goals as goal

pub returns-clause-levels : goal.returns-clause-levels
returns-clause-levels c =
    let e : c.loop-cube.joined ≡ c.args.a.now ++ c.args.b.now = grind (arith, common_steps) in
    subst (UsesOnly (c.args.a.now ++ c.args.b.now)) (sym e) (uses_only-refl (c.args.a.now ++ c.args.b.now))
