use Rattle.std.proofs.Common.{◌≡◌, ◌+◌, refl, sym, subst, arith}
use Rattle.std.proofs.lemmas.Result.{IfOk-weaker}
use Rattle.lois_answers.specs.CaseView.{case_of}
use Rattle.lois_answers.specs.Sound.{IsSoundCase}
use Rattle.lois_deciders.proofs.OnlyAsked.{only_asked_then}
use Rattle.lois_printer.proofs.Fitting.{holds_of_each}
use Rattle.lois_equal.specs.Comparing.{AreComparable, LinesHaveSameLanguage, LinesDiffer, side_name, IfDiffer}
use Rattle.lois_equal.specs.ComparedCases.{IsFirstDifference}
use Rattle.lois_ranks.specs.Ranks.{AreRanks}
use Rattle.lois_equal.specs.Differences.{AreBounded, IfDiffers}
use Rattle.lois_equal.specs.declared.comparing.Comparison.TheVariants.{Differ}
use Rattle.lois_equal.proofs.CaseLines.{holds_so_far, holds_of_all, first_here, alike_at, apart_at, usual_at}
use Rattle.lois_equal.proofs.comparing.first_difference.Goals as goal

pub compare_lines-requires-clause-sound : goal.compare_lines-requires-clause-sound
compare_lines-requires-clause-sound g c =
    holds_of_each (IsSoundCase g.T.Structure.ordered c.args.size) case_of c.args.cases.now c.as_slice-case-items.result.now c.loop-index.index c.case-item.result c.as_slice-case-items.ensures.items c.loop-index-test.true c.case-item.is c.requires.sound

pub compare_lines-requires-clause-fit : goal.compare_lines-requires-clause-fit
compare_lines-requires-clause-fit g c =
    holds_of_each (AreComparable c.args.size c.args.first.now c.args.second.now) case_of c.args.cases.now c.as_slice-case-items.result.now c.loop-index.index c.case-item.result c.as_slice-case-items.ensures.items c.loop-index-test.true c.case-item.is c.requires.fit

pub loop-index-preserved : goal.loop-index-preserved
loop-index-preserved g c =
    let n = c.args.size in
    let a = c.args.first.now in
    let b = c.args.second.now in
    let x = c.case-item.result in
    record {
      sofar =
          holds_so_far (LinesHaveSameLanguage n a b) case_of c.as_slice-case-items.result.now c.loop-index.index x c.loop-index-test.true c.case-item.is c.loop-index.invariant.sofar
          (alike_at n a b (case_of x) c.in_ok-found.found c.in_default.is c.in_ok-found.ensures.equality);
      only_asked = only_asked_then (λ d. (goal.Decider-dyn g (d.vtable, d.value)).kind_of d.value) (λ d. (goal.Decider-dyn g (d.vtable, d.value)).questions d.value) c.args.chosen.now c.loop-index.chosen c.compare_lines.new.chosen c.loop-index.invariant.only_asked c.compare_lines.ensures.only_asked;
    }

pub returns-in-Differs-clause-first : goal.returns-in-Differs-clause-first
returns-in-Differs-clause-first g c =
    let n = c.args.size in
    let a = c.args.first.now in
    let b = c.args.second.now in
    let x = c.case-item.result in
    let i = c.loop-index.index in
    let d = c.in-Differs.difference in
    let name = side_name d.left a b in
    IfOk-weaker c.differs.result (λ r. r ≡ Differ (i + 1) d name) _ (λ r e.
    subst (IsFirstDifference n a b c.args.cases.now) (sym e)
    (first_here (LinesHaveSameLanguage n a b) case_of (LinesDiffer n a b d name) c.args.cases.now c.as_slice-case-items.result.now i (i + 1) x c.as_slice-case-items.ensures.items c.loop-index-test.true c.case-item.is refl c.loop-index.invariant.sofar
    (apart_at n a b (case_of x) c.in_ok-found.found d c.in-Differs.is c.in_ok-found.ensures.equality))) c.differs.ensures

pub returns-clause-first : goal.returns-clause-first
returns-clause-first g c =
    holds_of_all (LinesHaveSameLanguage c.args.size c.args.first.now c.args.second.now) case_of c.args.cases.now c.as_slice-case-items.result.now c.loop-index.index c.as_slice-case-items.ensures.items (omega (arith, c.loop-index-test.false)) c.loop-index.invariant.sofar

pub returns-in-Differs-clause-usual : goal.returns-in-Differs-clause-usual
returns-in-Differs-clause-usual g c =
    let d = c.in-Differs.difference in
    let name = side_name d.left c.args.first.now c.args.second.now in
    IfOk-weaker c.differs.result (λ r. r ≡ Differ (c.loop-index.index + 1) d name) _ (λ r e.
    subst (IfDiffer (λ z. AreBounded g.T.Structure.ordered z.word)) (sym e) (usual_at g.T.Structure.ordered c.in_ok-found.found d c.in-Differs.is c.in_ok-found.ensures.usual)) c.differs.ensures

pub returns-in-Differs-clause-ranked : goal.returns-in-Differs-clause-ranked
returns-in-Differs-clause-ranked g c =
    let o = g.T.Structure.ordered in
    let d = c.in-Differs.difference in
    let name = side_name d.left c.args.first.now c.args.second.now in
    IfOk-weaker c.differs.result (λ r. r ≡ Differ (c.loop-index.index + 1) d name) _ (λ r e.
    subst (IfDiffer (λ z. AreRanks o z.sample)) (sym e) (subst (IfDiffers (λ z. AreRanks o z.sample)) c.in-Differs.is c.in_ok-found.ensures.ranked)) c.differs.ensures
