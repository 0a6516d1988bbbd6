use Rattle.std.proofs.Common.{◌≡◌, suc, ◌+◌, ◌-◌, subst, arith}
use Rattle.lois_base.specs.Fits.{ConstraintFits}
use Rattle.lois_elim.proofs.BoundDown.{IsBoundDown, bound_none, bound_more, bound_all}
use Rattle.lois_minimise.proofs.Ties.{unused_levels}
use Rattle.lois_minimise.proofs.members.without_levels.Goals as goal

pub returns-then-fits-clause-truth : goal.returns-then-fits-clause-truth
returns-then-fits-clause-truth g c = unused_levels c.args.size c.args.by c.args.c (c.fits.ensures.0 c.if-fits.true)

pub levels-init : goal.levels-init
levels-init g c = bound_none c.args.size c.args.by c.args.c c.requires.over.levels

pub without_level-requires : goal.without_level-requires
without_level-requires g c =
    let e : c.args.size + c.levels.more ≡ c.args.size + (c.levels.more - 1) + 1 = omega (arith, c.levels-test.true) in
    record {
      over = record {
        levels = subst (λ z. ConstraintFits z c.levels.left) e c.levels.invariant.levels;
        operators = c.levels.invariant.operators g.T.Structure.ordered c.requires.over.operators;
      };
    }

pub levels-preserved : goal.levels-preserved
levels-preserved g c =
    let e : c.levels.more ≡ suc (c.levels.more - 1) = omega (arith, c.levels-test.true) in
    bound_more c.args.size c.args.by (c.levels.more - 1) c.args.c c.levels.left c.in_ok-left.left (subst (λ z. IsBoundDown c.args.size c.args.by z c.args.c c.levels.left) e c.levels.invariant) c.in_ok-left.ensures.truth c.in_ok-left.ensures.levels c.in_ok-left.ensures.operators

pub returns : goal.returns
returns g c =
    let all = bound_all c.args.size c.args.by c.levels.more c.args.c c.levels.left c.levels.invariant c.levels-test.false in
    record { truth = all.0; levels = all.1; operators = c.levels.invariant.operators }
