use Rattle.std.proofs.lemmas.Result.{IfOk-weaker}
use Rattle.lois_simplify.specs.Shortened.{IsShortened}
use Rattle.lois_simplify.proofs.Shortened.{normalised_alike, shortened_then}
use Rattle.lois_simplify.proofs.shortening.reduced.Goals as goal

pub returns-then-brief-clause-shortened : goal.returns-then-brief-clause-shortened
returns-then-brief-clause-shortened c =
    let u = c.args.under.now in
    let g = c.args.guard.now in
    let s = c.in_ok-short.short in
    IfOk-weaker c.shortest.result (IsShortened u s) (IsShortened u g) (λ r a. shortened_then u g s r c.in_ok-short.ensures a) c.shortest.ensures.shortened

pub returns-then-brief-clause-plain : goal.returns-then-brief-clause-plain
returns-then-brief-clause-plain c =
    IfOk-weaker c.shortest.result _ _ (λ r plain read n f h. plain n f (c.in_ok-short.ensures.levels n h)) c.shortest.ensures.plain

pub returns-clause-shortened : goal.returns-clause-shortened
returns-clause-shortened c =
    let e = c.normalise.ensures in
    normalised_alike c.args.under.now c.args.guard.now c.in_ok-short.short c.normalise.result c.in_ok-short.ensures e.truth e.fits e.operators
