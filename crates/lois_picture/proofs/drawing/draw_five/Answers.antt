use Rattle.std.proofs.Common.{[], inl, subst}
use Rattle.lois_base.specs.Data.{comps_of}
use Rattle.lois_base.specs.Tree.{tree}
use Rattle.lois_automata.specs.Machines.{IsAutomatonAt}
use Rattle.lois_automata.specs.Verdicts.{IsVerdictOn}
use Rattle.lois_picture.proofs.Drawn.{automaton_graph, moves_join, holds_here}
use Rattle.lois_picture.proofs.drawing.draw_five.Goals as goal

pub draw_graph-requires-clause-joined : goal.draw_graph-requires-clause-joined
draw_graph-requires-clause-joined g c =
    let s = c.args.sets in
    let v = tree c.args.value.now in
    let always = c.in_ok-always.always in
    let verdict = subst (λ z. IsVerdictOn 0 always (IsAutomatonAt v) z) c.in-Holds.is c.in_ok-check_automaton.ensures.verdict in
    let automaton = holds_here v always c.in_ok-always.ensures verdict in
    moves_join (comps_of s.states.now) (comps_of s.letters.now) (comps_of s.steps.now) (comps_of s.initial.now) (comps_of s.accepting.now) (tree c.in_ok-states-in-Holds.states) (tree c.in_ok-steps-in-Holds.steps) c.in_ok-states-in-Holds.ensures c.in_ok-steps-in-Holds.ensures (subst (λ z. IsAutomatonAt z []) c.requires.five automaton)

pub returns-clause-graph : goal.returns-clause-graph
returns-clause-graph g c =
    let s = c.args.sets in
    let v = tree c.args.value.now in
    let always = c.in_ok-always.always in
    let verdict = subst (λ z. IsVerdictOn 0 always (IsAutomatonAt v) z) c.in-Holds.is c.in_ok-check_automaton.ensures.verdict in
    inl (automaton_graph (comps_of s.states.now) (comps_of s.letters.now) (comps_of s.steps.now) (comps_of s.initial.now) (comps_of s.accepting.now) g.T.Structure.ordered v (tree c.in_ok-states-in-Holds.states) (tree c.in_ok-steps-in-Holds.steps) (tree c.in_ok-initial-in-Holds.initial) (tree c.in_ok-accepting-in-Holds.accepting) c.in_ok-graph-in-Holds.graph
    c.requires.five (holds_here v always c.in_ok-always.ensures verdict) c.in_ok-states-in-Holds.ensures c.in_ok-steps-in-Holds.ensures c.in_ok-initial-in-Holds.ensures c.in_ok-accepting-in-Holds.ensures c.in_ok-graph-in-Holds.ensures.graph)
