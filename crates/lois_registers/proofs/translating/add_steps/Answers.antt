use Rattle.std.proofs.Common.{take, map, [], ◌∷◌, sym, subst, arith}
use Rattle.lois_base.proofs.Viewed.{one_more}
use Rattle.lois_registers.specs.Placed.{step_comp}
use Rattle.lois_registers.specs.MadeSteps.{AddsMade}
use Rattle.lois_registers.proofs.Made.{adds_more}
use Rattle.lois_registers.proofs.translating.add_steps.Goals as goal

pub loop-place-preserved : goal.loop-place-preserved
loop-place-preserved c =
    let f = step_comp c.args.step.now in
    let before = map f (take c.loop-place.place-index c.args.places.now) in
    subst (λ z. AddsMade z c.args.comps.now c.add_step.new.comps) (sym (one_more f c.args.places.now c.loop-place.place-index c.place-item.result (omega arith) c.place-item.is)) (adds_more before (f c.place-item.result ∷ []) c.args.comps.now c.loop-place.comps c.add_step.new.comps c.loop-place.invariant c.in_ok-add_step.ensures)
