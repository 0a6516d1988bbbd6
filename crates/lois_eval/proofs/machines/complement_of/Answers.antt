use Rattle.lois_deciders.proofs.OnlyAsked.{only_asked_then}
use Rattle.lois_base.specs.Tree.{tree}
use Rattle.lois_script.specs.declared.syntax.Operation.TheVariants.{Complement}
use Rattle.lois_eval.proofs.Automata.{one_applied}
use Rattle.lois_eval.proofs.machines.complement_of.Goals as goal

pub returns-clause-made : goal.returns-clause-made
returns-clause-made g c =
    let t = tree c.args.automaton.now in
    let h = c.in_ok-complement.ensures in
    record {
      applied = one_applied c.args.context.now t Complement (tree c.in_ok-complement.field-0) c.in_ok-check_whole.ensures.whole h.complement;
      levels = h.levels;
      operators = λ o context admits. h.operators o admits.0;
      widths = λ usual. h.widths usual.0;
    }

pub returns-clause-only_asked : goal.returns-clause-only_asked
returns-clause-only_asked g c =
    only_asked_then (λ b. (goal.Decider-dyn g (b.vtable, b.value)).kind_of b.value) (λ b. (goal.Decider-dyn g (b.vtable, b.value)).questions b.value) c.args.chosen.now c.check_whole.new.chosen c.complement.new.chosen c.check_whole.ensures.only_asked c.complement.ensures.only_asked
