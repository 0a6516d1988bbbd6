use Rattle.std.proofs.Common.{below_more, arith}
use Rattle.lois_simplify.specs.Fixed.{CanBeApart}
use Rattle.lois_simplify.proofs.fixing.fixed_level.Goals as goal

pub loop-level-preserved : goal.loop-level-preserved
loop-level-preserved g c =
    record {
      apart = below_more (CanBeApart c.args.size c.args.here.now c.args.binder) c.loop-level.level c.loop-level.invariant.apart (c.in_ok-is_fixed.ensures.free c.if-branch.false);
      asked = g.met.D.Oracle.reaches_then c.args.decider.now c.loop-level.decider c.is_fixed.new.decider c.loop-level.invariant.asked c.is_fixed.ensures.asked;
    }

pub returns-clause-none : goal.returns-clause-none
returns-clause-none g c = λ e a l. c.loop-level.invariant.apart a (omega arith)
