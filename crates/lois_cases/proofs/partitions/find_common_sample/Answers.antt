use Rattle.std.specs.Prelude.{IfSome, IsNone}
use Rattle.std.proofs.lemmas.Option.{IfSome_then}
use Rattle.std.proofs.lemmas.Result.{IfOk-weaker}
use Rattle.lois_deciders.specs.Conjunction.{IsSampledConjunction}
use Rattle.lois_deciders.specs.Satisfaction.{IsConstraintSample}
use Rattle.lois_deciders.specs.Satisfiability.{ConstraintIsSatisfiable}
use Rattle.lois_deciders.proofs.Oracle.{some_is}
use Rattle.lois_cases.specs.Partitions.{IsCommonSample}
use Rattle.lois_cases.proofs.Excluded.{common_of, none_common}
use Rattle.lois_cases.proofs.partitions.find_common_sample.Goals as goal

pub ask_for_numbers-requires : goal.ask_for_numbers-requires
ask_for_numbers-requires g c = c.in_ok-both.ensures.fits c.args.size c.requires.first c.requires.second

pub returns-then-len-eq1-2-clause-sample : goal.returns-then-len-eq1-2-clause-sample
returns-then-len-eq1-2-clause-sample g c =
    let n = c.args.size in
    let a = c.args.a.now in
    let b = c.args.b.now in
    let r = c.in_ok-both.both in
    IfOk-weaker c.ask_for_numbers.result (λ o. IfSome o (IsConstraintSample n r)) _ (λ o is.
    IfSome_then o {P = IsConstraintSample n r} {Q = IsCommonSample n a b} is (λ s h. common_of n a b r s c.in_ok-both.ensures.truth h)) c.ask_for_numbers.ensures.sample

pub returns-then-len-eq1-2-clause-none : goal.returns-then-len-eq1-2-clause-none
returns-then-len-eq1-2-clause-none g c =
    let n = c.args.size in
    let r = c.in_ok-both.both in
    IfOk-weaker c.ask_for_numbers.result (λ o. IsNone o → ConstraintIsSatisfiable n r → ⊥) _ (λ o none is.
    none_common n c.args.a.now c.args.b.now r c.in_ok-both.ensures.truth (none is)) c.ask_for_numbers.ensures.none

pub returns-in-Some-clause-sample : goal.returns-in-Some-clause-sample
returns-in-Some-clause-sample g c =
    let n = c.args.size in
    let a = c.args.a.now in
    let b = c.args.b.now in
    let both = c.in-Some.both in
    let is = some_is (λ m. IsSampledConjunction n a b m.constraint m.sample) c.in_ok-both-2.field-0 both c.in-Some.is c.in_ok-both-2.ensures.met in
    common_of n a b both.constraint both.sample is.truth is.sample
