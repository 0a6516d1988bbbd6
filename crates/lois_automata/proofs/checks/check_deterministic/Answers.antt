use Rattle.std.proofs.lemmas.Result.{IfOk-weaker}
use Rattle.std.specs.Bool.{IsTrue}
use Rattle.lois_base.specs.Data.{comps_of}
use Rattle.lois_base.specs.Tree.{tree}
use Rattle.lois_base.specs.Truth.{holds}
use Rattle.lois_automata.specs.Verdicts.{IsVerdictOn}
use Rattle.lois_automata.proofs.Checked.{found_deterministic}
use Rattle.lois_automata.proofs.checks.check_deterministic.Goals as goal

pub returns-in_default-clause-verdict : goal.returns-in_default-clause-verdict
returns-in_default-clause-verdict g c = λ d l m. absurd (c.in_default.ensures.none d (c.requires.automaton d l m))

pub asked-requires-clause-wanted : goal.asked-requires-clause-wanted
asked-requires-clause-wanted g c =
    let n = c.args.size in
    c.in_ok-wanted.ensures.fits n (c.in_ok-start.ensures.fits n c.in_ok-some.ensures.levels c.in_ok-one.ensures.levels) c.in_ok-led.ensures.levels

pub returns-clause-verdict : goal.returns-clause-verdict
returns-clause-verdict g c =
    let n = c.args.size in
    let u = c.args.under.now in
    let sets = c.in-Some.sets in
    let wanted = c.in_ok-wanted.wanted in
    IfOk-weaker c.asked.result (IsVerdictOn n u (λ d. IsTrue (holds d wanted))) _ (λ v told.
    found_deterministic n u (tree c.args.a.now) (comps_of sets.states.now) (comps_of sets.letters.now) (comps_of sets.steps.now) (comps_of sets.initial.now) (comps_of sets.accepting.now) c.in-Some.ensures.some wanted v told c.requires.automaton
    c.in_ok-some.some c.in_ok-one.one c.in_ok-led.led c.in_ok-start.start c.in_ok-some.ensures.truth c.in_ok-one.ensures.truth c.in_ok-led.ensures.truth c.in_ok-start.ensures.truth c.in_ok-wanted.ensures.truth) c.asked.ensures.verdict
