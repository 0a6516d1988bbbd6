use Rattle.std.proofs.Common.{List, take, map, sym, subst, arith}
use Rattle.lois_base.specs.Data.{CompD}
use Rattle.lois_registers.specs.declared.automata.RegStep.{RegStep}
use Rattle.lois_registers.specs.Placed.{AreMade, step_comp, step_comps}
use Rattle.lois_registers.proofs.Made.{adds_to, flat_take}
use Rattle.lois_registers.proofs.translating.steps_of.Goals as goal

pub loop-step-preserved : goal.loop-step-preserved
loop-step-preserved c =
    let f : RegStep → List CompD = λ s. map (step_comp s) c.args.places.now in
    let xs = c.as_slice-step-items.result.now in
    subst (λ z. AreMade z c.add_steps.new.comps) (sym (flat_take f xs c.loop-step.step-index c.step-item.result (omega arith) c.step-item.is)) (adds_to (step_comps c.args.places.now (take c.loop-step.step-index xs)) (f c.step-item.result) c.loop-step.comps c.add_steps.new.comps c.loop-step.invariant c.in_ok-add_steps.ensures)
