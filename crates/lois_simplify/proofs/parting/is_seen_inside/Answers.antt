use Rattle.std.proofs.Common.{◌++◌, ap, ◌∙◌, subst, arith}
use Rattle.std.specs.Bool.{IsTrue}
use Rattle.std.proofs.lemmas.List.{nil_from_length}
use Rattle.lois_base.specs.Truth.{holds}
use Rattle.lois_simplify.proofs.Parted.{in_left, left_then}
use Rattle.lois_simplify.proofs.parting.is_seen_inside.Goals as goal

pub loop-round-init : goal.loop-round-init
loop-round-init c = λ e h.
    in_left e c.args.outer.now c.in_ok-parts.parts (ap (holds e) c.in_ok-parts.ensures ∙ h)

pub loop-round-preserved : goal.loop-round-preserved
loop-round-preserved c = λ e h.
    left_then e c.args.outer.now c.loop-round.parts c.in_ok-parts-2.parts (c.in_ok-parts-2.ensures e) (c.loop-round.invariant e h)

pub returns-then-len-eq0 : goal.returns-then-len-eq0
returns-then-len-eq0 c = λ t e h.
    subst (λ z. IsTrue (holds e (z ++ c.args.outer.now))) (nil_from_length c.loop-round.parts (omega (arith, c.if-len-eq0.true, c.len.ensures))) (c.loop-round.invariant e h)
