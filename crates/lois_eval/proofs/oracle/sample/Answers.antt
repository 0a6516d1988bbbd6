use Rattle.std.proofs.Common.{sym, subst}
use Rattle.std.specs.Prelude.{IfSome}
use Rattle.lois_deciders.specs.Conjunction.{IsSampledConjunction}
use Rattle.lois_eval.specs.Checks.{MeetsBoth}
use Rattle.lois_eval.proofs.FaultsAt.{meets_both}
use Rattle.lois_eval.proofs.oracle.sample.Goals as goal

pub returns-in-Some-clause-some : goal.returns-in-Some-clause-some
returns-in-Some-clause-some g c =
    let n = c.args.size in
    let a = c.args.a.now in
    let b = c.args.b.now in
    let are_met = subst (λ o. IfSome o (λ m. IsSampledConjunction n a b m.constraint m.sample)) c.in-Some.is c.in_ok-met.ensures.met in
    subst (MeetsBoth n a b) (sym c.into_vec.ensures) (meets_both n a b c.in-Some.met.constraint c.in-Some.met.sample are_met)
