use Rattle.lois_deciders.specs.Satisfiability.{IsCounterexample}
use Rattle.lois_deciders.proofs.Oracle.{some_is, none_is}
use Rattle.lois_automata.proofs.Checked.{parted_breaks}
use Rattle.lois_automata.proofs.checks.asked.Goals as goal

pub returns-in-Some-clause-verdict : goal.returns-in-Some-clause-verdict
returns-in-Some-clause-verdict g c =
    let n = c.args.size in
    let u = c.args.under.now in
    let w = c.args.wanted.now in
    let s = c.in-Some.sample in
    parted_breaks n u w s.items c.requires.under c.requires.wanted (some_is (λ x. IsCounterexample n u w x.items) c.in_ok-sample.field-0 s c.in-Some.is c.in_ok-sample.ensures.sample)

pub returns-in-None-clause-verdict : goal.returns-in-None-clause-verdict
returns-in-None-clause-verdict g c = c.in_ok-sample.ensures.none.0 (none_is c.in_ok-sample.field-0 c.in-None.is)
