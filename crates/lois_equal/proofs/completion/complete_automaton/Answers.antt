use Rattle.std.proofs.Common.{◌≡◌, ap}
use Rattle.std.proofs.lemmas.Result.{IfOk-weaker}
use Rattle.lois_base.specs.Data.{coll, comps_of}
use Rattle.lois_base.specs.Tree.{tree}
use Rattle.lois_automata.specs.Projections.{five_terms}
use Rattle.lois_equal.proofs.Sinks.{completed_at}
use Rattle.lois_equal.proofs.completion.complete_automaton.Goals as goal

pub returns-in_default-clause-completion : goal.returns-in_default-clause-completion
returns-in_default-clause-completion g c = IfOk-weaker c.copy.result (λ r. r ≡ c.args.t.now) _ (λ r e d l h. absurd (c.in_default.ensures.none d (h.0, h.1))) c.copy.ensures

pub returns-clause-completion : goal.returns-clause-completion
returns-clause-completion g c =
    let n = c.args.size in
    let sets = c.in-Some.sets in
    let sink = tree c.in_ok-sink.sink in
    let rs = comps_of c.in_ok-states.states in
    let rl = comps_of c.in_ok-letters.letters in
    let steps = tree c.in_ok-steps.steps in
    let i2 = comps_of c.in_ok-copy.field-0 in
    let f2 = comps_of c.in_ok-copy-2.field-0 in
    IfOk-weaker c.of_five.result (λ r. tree r ≡ five_terms (coll rs) (coll rl) steps (coll i2) (coll f2)) _ (λ r made.
    completed_at n (tree c.args.t.now) (tree r) (comps_of sets.states.now) (comps_of sets.letters.now) (comps_of sets.steps.now) (comps_of sets.initial.now) (comps_of sets.accepting.now) c.in-Some.ensures.some
    (comps_of c.args.more.now) sink steps rs rl i2 f2 c.in_ok-sink.ensures.apart c.in_ok-steps.ensures.set (ap comps_of c.in_ok-copy.ensures) (ap comps_of c.in_ok-copy-2.ensures)
    c.in_ok-states.ensures.members c.in_ok-letters.ensures.members c.in_ok-steps.ensures.total made) c.of_five.ensures
