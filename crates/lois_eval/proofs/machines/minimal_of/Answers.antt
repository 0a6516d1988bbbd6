use Rattle.lois_base.specs.Tree.{tree}
use Rattle.lois_script.specs.declared.syntax.Operation.TheVariants.{Minimise}
use Rattle.lois_eval.proofs.Automata.{one_applied, whole_automaton}
use Rattle.lois_eval.proofs.machines.minimal_of.Goals as goal

pub reach-requires-clause-automaton : goal.reach-requires-clause-automaton
reach-requires-clause-automaton g c =
    let k = c.args.context.now in
    whole_automaton k.size k.«when» (tree c.args.automaton.now) c.in_ok-check_whole.ensures.whole

pub minimise-requires : goal.minimise-requires
minimise-requires g c =
    let h = c.in_ok-reached.ensures in
    record {
      over = c.requires.over;
      reached_over = record {
        levels = h.levels;
        operators = h.operators g.T.Structure.ordered c.requires.over.operators c.requires.context_operators.«when»;
      };
      under = record { levels = c.args.context.now.levels; operators = c.requires.context_operators.«when» };
      whole = c.in_ok-check_whole.ensures.whole;
      reached = h.reached;
    }

pub returns-clause-made : goal.returns-clause-made
returns-clause-made g c =
    let t = tree c.args.automaton.now in
    let h = c.in_ok-minimise.ensures in
    let before = c.in_ok-reached.ensures in
    record {
      applied = one_applied c.args.context.now t Minimise (tree c.in_ok-minimise.field-0) c.in_ok-check_whole.ensures.whole h.minimal;
      levels = h.levels;
      operators = λ o context admits. h.operators o admits.0 (before.operators o admits.0 context.«when») context.«when»;
      widths = λ usual. h.widths usual.0 (before.widths usual.0);
    }
