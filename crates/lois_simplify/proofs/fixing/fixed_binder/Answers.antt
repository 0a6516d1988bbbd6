use Rattle.std.proofs.Common.{ℕ, ◌<◌, ◌≤◌, below_more, ap, arith}
use Rattle.std.specs.Option.{is_some}
use Rattle.lois_simplify.specs.Fixed.{CanBeApart}
use Rattle.lois_simplify.proofs.fixing.fixed_binder.Goals as goal

pub loop-binder-preserved : goal.loop-binder-preserved
loop-binder-preserved g c =
    record {
      apart = λ b from l. below_more (λ j. c.args.from ≤ j → (a : ℕ) → a < j → CanBeApart c.args.size c.args.here.now j a) c.loop-binder.binder
          (λ j k m. c.loop-binder.invariant.apart j m k) (λ m. c.in_ok-level.ensures.none (ap is_some c.in_default.is)) b l from;
      asked = g.met.D.Oracle.reaches_then c.args.decider.now c.loop-binder.decider c.fixed_level.new.decider c.loop-binder.invariant.asked c.fixed_level.ensures.asked;
    }

pub returns-clause-none : goal.returns-clause-none
returns-clause-none g c = λ e b l m. c.loop-binder.invariant.apart b l (omega arith)
