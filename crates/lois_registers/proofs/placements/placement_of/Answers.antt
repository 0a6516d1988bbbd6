use Rattle.std.proofs.Common.{◌≡◌, ◌∷◌, [], ◌++◌, Some, None, ap, ◌∙◌, arith}
use Rattle.lois_registers.proofs.Loops.{full_some, full_none, full_next, empty_next}
use Rattle.lois_registers.proofs.placements.placement_of.Goals as goal
use Rattle.lois_registers.proofs.placements.placement_of.Goals.{then-bits-eq1+in_ok-push, else-bits-eq1+in_ok-push-2}

pub loop-register-preserved : goal.loop-register-preserved
loop-register-preserved c =
    elim c.if-bits-eq1.branch [
      | then-bits-eq1+in_ok-push w ↦
          let grown : c.if-bits-eq1.contents.items ≡ c.loop-register.contents.items ++ Some c.loop-register.levels ∷ [] = ap (λ z. z.items) w.contents-is ∙ w.in_ok-push.ensures.items in
          record {
            rest = full_next c.loop-register.contents.items c.if-bits-eq1.contents.items _ c.loop-register.levels c.args.registers c.loop-register._register c.loop-register.bits (omega arith) c.loop-register.invariant.rest c.if-bits-eq1.levels w.levels-is w.if-bits-eq1.true grown;
            levels = w.levels-is ∙ full_some c.loop-register.contents.items c.if-bits-eq1.contents.items c.loop-register.levels c.loop-register.levels grown c.loop-register.invariant.levels;
            few = omega arith;
          }
      | else-bits-eq1+in_ok-push-2 w ↦
          let grown : c.if-bits-eq1.contents.items ≡ c.loop-register.contents.items ++ None ∷ [] = ap (λ z. z.items) w.contents-is ∙ w.in_ok-push-2.ensures.items in
          record {
            rest = empty_next c.loop-register.contents.items c.if-bits-eq1.contents.items _ c.loop-register.levels c.args.registers c.loop-register._register c.loop-register.bits (omega arith) c.loop-register.invariant.rest c.if-bits-eq1.levels w.levels-is w.if-bits-eq1.false grown;
            levels = w.levels-is ∙ full_none c.loop-register.contents.items c.if-bits-eq1.contents.items c.loop-register.levels grown c.loop-register.invariant.levels;
            few = omega arith;
          }
    ]
