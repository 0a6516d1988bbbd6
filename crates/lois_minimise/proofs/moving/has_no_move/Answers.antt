use Rattle.std.proofs.Common.{arith}
use Rattle.lois_base.specs.Tree.{tree}
use Rattle.lois_minimise.proofs.Moves.{first_moveless, second_moveless, sources_turned, letters_never_same}
use Rattle.lois_minimise.proofs.moving.has_no_move.Goals as goal

pub returns-in_default : goal.returns-in_default
returns-in_default c h =
    let k = c.args.first.now in
    let q = c.args.second.now in
    first_moveless k.binders k.guard (tree k.item) q.binders q.guard (tree q.item) c.in_default.ensures.none

pub returns-in_default-step_parts : goal.returns-in_default-step_parts
returns-in_default-step_parts c h =
    let k = c.args.first.now in
    let q = c.args.second.now in
    second_moveless k.binders k.guard (tree k.item) q.binders q.guard (tree q.item) c.in_default-step_parts.ensures.none

pub returns-then-shape : goal.returns-then-shape
returns-then-shape c h =
    let k = c.args.first.now in
    let q = c.args.second.now in
    sources_turned k.binders k.guard (tree k.item) q.binders q.guard (tree q.item) _ _ _ _ _ _ c.in-Some.ensures.some c.in-Some-step_parts.ensures.some (λ b. omega (arith, b, c.if-shape.true, c.shape.ensures.exact, c.shape-2.ensures.exact))

pub returns : goal.returns
returns c h =
    let k = c.args.first.now in
    let q = c.args.second.now in
    letters_never_same k.binders k.guard (tree k.item) q.binders q.guard (tree q.item) _ _ _ _ _ _ c.in-Some.ensures.some c.in-Some-step_parts.ensures.some (c.clash.ensures h)
