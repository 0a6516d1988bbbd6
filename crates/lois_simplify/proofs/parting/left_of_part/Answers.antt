use Rattle.std.proofs.Common.{false, ap, ◌∙◌}
use Rattle.std.proofs.lemmas.Bool.{or_left}
use Rattle.std.proofs.lemmas.Result.{IfOk-weaker}
use Rattle.lois_base.specs.Truth.{cube_holds, holds}
use Rattle.lois_simplify.proofs.Parted.{in_outer, in_left}
use Rattle.lois_simplify.proofs.parting.left_of_part.Goals as goal

pub returns-in-Some : goal.returns-in-Some
returns-in-Some c =
    IfOk-weaker c.halves.result _ _ (λ r t e h. in_left e c.args.outer.now r (t e h))
    c.halves.ensures

pub returns-then-branch : goal.returns-then-branch
returns-then-branch c = λ e h.
    in_outer e c.args.outer.now _ (c.in_ok-is_in_cube.ensures c.if-branch.true e h)

pub returns : goal.returns
returns c =
    IfOk-weaker c.singleton.result _ _ (λ r t e h. in_left e c.args.outer.now r (ap (holds e) t ∙ or_left (cube_holds e c.args.part.now) false h))
    c.singleton.ensures.cubes
