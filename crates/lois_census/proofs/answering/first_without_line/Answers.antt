use Rattle.std.proofs.Common.{◌≡◌, ◌+◌, true, false, refl, sym, subst, take, map}
use Rattle.std.proofs.lemmas.List.Elements.{All-push}
use Rattle.std.specs.List.{All}
use Rattle.lois_base.proofs.Viewed.{one_more, all_taken}
use Rattle.lois_answers.specs.CaseView.{case_of}
use Rattle.lois_census.specs.Censuses.{HasNamedLine}
use Rattle.lois_census.proofs.Numbering.{first_without}
use Rattle.lois_census.proofs.answering.first_without_line.Goals as goal

pub returns-then-not-has_line-clause-some : goal.returns-then-not-has_line-clause-some
returns-then-not-has_line-clause-some c =
    let Has = HasNamedLine c.args.name.now in
    first_without Has c.as_slice-case-items.result.now c.args.cases.now c.loop-index.index c.case-item.result (c.loop-index.index + 1) c.as_slice-case-items.ensures.items c.loop-index-test.true c.case-item.is c.loop-index.invariant (λ h.
    let there : c.has_line.result ≡ true = c.has_line.ensures.1 h in
    let not_there : c.has_line.result ≡ false = c.if-not-has_line.true in
    absurd (cc)) refl

pub loop-index-preserved : goal.loop-index-preserved
loop-index-preserved c =
    let Has = HasNamedLine c.args.name.now in
    let items = c.as_slice-case-items.result.now in
    let i = c.loop-index.index in
    let x = c.case-item.result in
    subst (All Has) (sym (one_more case_of items i x c.loop-index-test.true c.case-item.is)) (All-push Has (map case_of (take i items)) (case_of x) c.loop-index.invariant (c.has_line.ensures.0 c.if-not-has_line.false))

pub returns-clause-none : goal.returns-clause-none
returns-clause-none c =
    subst (All (HasNamedLine c.args.name.now)) (all_taken case_of c.as_slice-case-items.result.now c.args.cases.now c.loop-index.index c.as_slice-case-items.ensures.items c.loop-index-test.false) c.loop-index.invariant
