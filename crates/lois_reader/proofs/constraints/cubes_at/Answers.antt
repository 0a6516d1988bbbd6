use Rattle.std.proofs.Common.{sym, ◌∙◌, arith}
use Rattle.std.specs.Prelude.{codes}
use Rattle.lois_reader.specs.Reading.{begins}
use Rattle.lois_reader.specs.Values.{cubes_at, cube_at}
use Rattle.lois_reader.proofs.Lists.{list_next, list_last}
use Rattle.lois_reader.proofs.constraints.cubes_at.Goals as goal

pub returns-then-not-begins-clause-constraint : goal.returns-then-not-begins-clause-constraint
returns-then-not-begins-clause-constraint c = rw c.in_ok-push.ensures.ok (list_last (begins 32) (codes " or ") (cube_at c.args.scope.now c.args.levels) c.loop-constraint.constraint c.loop-constraint.rest.now c.in_ok-cube.cube c.in_ok-cube.after.now (cubes_at c.args.scope.now c.args.levels c.args.bytes.now) c.in_ok-cube.ensures.cube (sym c.begins.ensures ∙ c.if-not-begins.true) c.loop-constraint.invariant.constraint)

pub loop-constraint-preserved : goal.loop-constraint-preserved
loop-constraint-preserved c = record {
  constraint = rw c.in_ok-push.ensures.ok (list_next (begins 32) (codes " or ") (cube_at c.args.scope.now c.args.levels) c.loop-constraint.constraint c.loop-constraint.rest.now c.in_ok-cube.cube c.in_ok-cube.after.now c.in_ok-rest.rest.now (cubes_at c.args.scope.now c.args.levels c.args.bytes.now) c.in_ok-cube.ensures.cube (sym c.begins.ensures ∙ c.if-not-begins.false) c.in_ok-rest.ensures.end (omega (arith, c.in_ok-cube.ensures.shorter, c.in_ok-rest.ensures.shorter)) c.loop-constraint.invariant.constraint);
  shorter = omega (arith, c.in_ok-cube.ensures.shorter, c.in_ok-rest.ensures.shorter);
}
