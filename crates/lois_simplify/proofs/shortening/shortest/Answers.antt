use Rattle.std.proofs.Common.{◌≡◌, [], ◌∷◌}
use Rattle.std.proofs.lemmas.Result.{IfOk-weaker}
use Rattle.lois_base.specs.Validity.{IsStrictConstraint}
use Rattle.lois_simplify.specs.Shortened.{IsShortened}
use Rattle.lois_simplify.proofs.Plain.{always_shortened, always_is_plain, plain_answer}
use Rattle.lois_simplify.proofs.Shortened.{normalised_alike, shortened_then}
use Rattle.lois_simplify.proofs.shortening.shortest.Goals as goal

pub returns-then-branch-clause-shortened : goal.returns-then-branch-clause-shortened
returns-then-branch-clause-shortened c =
    let u = c.args.under.now in
    let g = c.args.guard.now in
    IfOk-weaker c.always.result (λ r. r ≡ [] ∷ []) (IsShortened u g) (λ r e. always_shortened u g r (c.in_ok-always_follows.ensures.yes c.if-branch.true) e) c.always.ensures

pub returns-then-branch-clause-plain : goal.returns-then-branch-clause-plain
returns-then-branch-clause-plain c =
    IfOk-weaker c.always.result (λ r. r ≡ [] ∷ []) _ (λ r e n f h. always_is_plain r c.args.under.now n e) c.always.ensures

pub returns-clause-shortened : goal.returns-clause-shortened
returns-clause-shortened c =
    let u = c.args.under.now in
    let g = c.args.guard.now in
    let short = c.in_ok-short.short in
    let strict = c.in_ok-strict.strict in
    let e = c.normalise.ensures in
    normalised_alike u g strict c.normalise.result (shortened_then u g short strict c.in_ok-short.ensures (c.in_ok-strict.ensures.shortened u)) e.truth e.fits e.operators

pub returns-clause-plain : goal.returns-clause-plain
returns-clause-plain c =
    let strict = IfOk-weaker c.normalise.result (λ r. IsStrictConstraint c.in_ok-strict.strict → IsStrictConstraint r) IsStrictConstraint (λ r h. h c.in_ok-strict.ensures.strict) c.normalise.ensures.strict in
    plain_answer c.args.under.now c.args.guard.now c.normalise.result (c.in_ok-always_follows.ensures.no c.if-branch.false) (returns-clause-shortened c) strict
