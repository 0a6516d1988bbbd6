use Rattle.std.proofs.Common.{◌≡◌, [], ◌∷◌, ◌++◌, length, map, sym, subst, ap, ◌∙◌, arith}
use Rattle.std.specs.List.{All, flat_map}
use Rattle.std.proofs.lemmas.List.{length_push, map_push}
use Rattle.std.proofs.lemmas.List.Elements.{All-push}
use Rattle.lois_registers.specs.Texts.{text_of_words, step_words}
use Rattle.lois_registers.specs.Valid.{IsRegStep}
use Rattle.lois_registers.proofs.Stops.{front_one}
use Rattle.lois_registers.proofs.reading.steps.Goals as goal

pub loop-step-preserved : goal.loop-step-preserved
loop-step-preserved c =
    let steps = c.loop-step.steps in
    let step = c.in-Ok.step in
    let same : c.push.new.self ≡ steps ++ step ∷ [] = c.in_ok-push-in-Ok.ensures.appended in
    let next = c.in-Ok.ensures.read in
    let valid = All-push (IsRegStep c.args.frame.order c.args.frame.registers c.args.frame.states.now) steps step c.loop-step.invariant.valid next.0 in
    let read = front_one (map step_words steps) (step_words step) c.args.text.now c.loop-step.rest.now c.in-Ok.after.now c.loop-step.invariant.read next.1 in
    record {
      count = omega (arith, ap length same, length_push steps step, c.loop-step.invariant.count);
      valid = subst (All (IsRegStep c.args.frame.order c.args.frame.registers c.args.frame.states.now)) (sym same) valid;
      read = read ∙ ap (λ z. flat_map text_of_words z ++ c.in-Ok.after.now) (sym (map_push step_words steps step) ∙ ap (map step_words) (sym same));
    }
