use Rattle.std.proofs.lemmas.Result.{IfOk-weaker}
use Rattle.std.specs.Bool.{IsTrue}
use Rattle.lois_base.specs.Data.{comps_of}
use Rattle.lois_base.specs.Tree.{tree}
use Rattle.lois_base.specs.Truth.{holds}
use Rattle.lois_automata.specs.Verdicts.{IsVerdictOn}
use Rattle.lois_automata.proofs.Checked.{found_complete}
use Rattle.lois_automata.proofs.checks.check_complete.Goals as goal

pub returns-in_default-clause-verdict : goal.returns-in_default-clause-verdict
returns-in_default-clause-verdict g c = λ d l m. absurd (c.in_default.ensures.none d (c.requires.automaton d l m))

pub returns-clause-verdict : goal.returns-clause-verdict
returns-clause-verdict g c =
    let n = c.args.size in
    let u = c.args.under.now in
    let sets = c.in-Some.sets in
    let found = c.in_ok-found.found in
    IfOk-weaker c.asked.result (IsVerdictOn n u (λ d. IsTrue (holds d found))) _ (λ v told.
    found_complete n u (tree c.args.a.now) (comps_of sets.states.now) (comps_of sets.letters.now) (comps_of sets.steps.now) (comps_of sets.initial.now) (comps_of sets.accepting.now) c.in-Some.ensures.some found v told c.requires.automaton
    (tree c.in_ok-wanted.wanted) (tree c.in_ok-outgoing.outgoing) c.in_ok-wanted.ensures.members (c.in_ok-outgoing.ensures.members n) c.in_ok-found.ensures.truth) c.asked.ensures.verdict
