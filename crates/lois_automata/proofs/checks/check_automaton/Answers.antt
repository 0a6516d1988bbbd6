use Rattle.std.proofs.lemmas.Result.{IfOk-weaker}
use Rattle.std.specs.Bool.{IsTrue}
use Rattle.lois_base.specs.Data.{comps_of}
use Rattle.lois_base.specs.Tree.{tree}
use Rattle.lois_base.specs.Truth.{holds}
use Rattle.lois_automata.specs.Verdicts.{IsVerdictOn}
use Rattle.lois_automata.proofs.Checked.{never_automaton, found_automaton}
use Rattle.lois_automata.proofs.checks.check_automaton.Goals as goal

pub returns-in_default-clause-verdict : goal.returns-in_default-clause-verdict
returns-in_default-clause-verdict g c =
    let n = c.args.size in
    let u = c.args.under.now in
    IfOk-weaker c.asked.result (IsVerdictOn n u (λ d. IsTrue (holds d c.new-nowhere.result))) _ (λ v told.
    never_automaton n u (tree c.args.a.now) c.new-nowhere.result v c.new-nowhere.ensures c.in_default.ensures.none told) c.asked.ensures.verdict

pub asked-requires-2-clause-wanted : goal.asked-requires-2-clause-wanted
asked-requires-2-clause-wanted g c =
    let n = c.args.size in
    c.in_ok-wanted.ensures.fits n c.in_ok-joined.ensures.levels (c.in_ok-both.ensures.fits n c.in_ok-starts.ensures.levels c.in_ok-ends.ensures.levels)

pub returns-clause-verdict : goal.returns-clause-verdict
returns-clause-verdict g c =
    let n = c.args.size in
    let u = c.args.under.now in
    let sets = c.in-Some.sets in
    let wanted = c.in_ok-wanted.wanted in
    IfOk-weaker c.asked-2.result (IsVerdictOn n u (λ d. IsTrue (holds d wanted))) _ (λ v told.
    found_automaton n u (tree c.args.a.now) (comps_of sets.states.now) (comps_of sets.letters.now) (comps_of sets.steps.now) (comps_of sets.initial.now) (comps_of sets.accepting.now) c.in-Some.ensures.some wanted v told
    c.in_ok-joined.joined c.in_ok-starts.starts c.in_ok-ends.ends c.in_ok-both.both c.in_ok-joined.ensures.truth c.in_ok-starts.ensures.truth c.in_ok-ends.ensures.truth c.in_ok-both.ensures.truth c.in_ok-wanted.ensures.truth) c.asked-2.ensures.verdict
