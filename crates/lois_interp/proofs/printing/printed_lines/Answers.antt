use Rattle.std.proofs.Common.{◌≡◌, [], ◌∷◌, ◌++◌, ◌+◌, take, map, sym, ◌∙◌, subst}
use Rattle.std.specs.List.{AllZip}
use Rattle.std.proofs.lemmas.List.Elements.{AllZip-push}
use Rattle.lois_base.specs.Fits.{Fits}
use Rattle.lois_base.specs.Validity.{AdmitsTerm}
use Rattle.lois_base.proofs.Viewed.{one_more, all_taken, item_has}
use Rattle.lois_answers.specs.LineView.{line_of}
use Rattle.lois_deciders.proofs.OnlyAsked.{only_asked_then}
use Rattle.lois_interp.specs.Printed.{IsPrintedLine}
use Rattle.lois_interp.proofs.printing.printed_lines.Goals as goal

pub printed_line-requires-clause-over : goal.printed_line-requires-clause-over
printed_line-requires-clause-over g c =
    let k = c.args.context.now in
    record {
      levels = item_has line_of (λ l. Fits k.size l.term) c.as_slice-line-items.result.now k.lines c.loop-line.line-index c.line-item.result (c.as_slice-line-items.ensures.items ∙ c.get.ensures.same) c.loop-line-test.true c.line-item.is k.fitting;
      operators = item_has line_of (λ l. AdmitsTerm g.T.Structure.ordered l.term) c.as_slice-line-items.result.now k.lines c.loop-line.line-index c.line-item.result (c.as_slice-line-items.ensures.items ∙ c.get.ensures.same) c.loop-line-test.true c.line-item.is c.requires.lines;
    }

pub loop-line-preserved : goal.loop-line-preserved
loop-line-preserved g c =
    let k = c.args.context.now in
    let items = c.as_slice-line-items.result.now in
    let i = c.loop-line.line-index in
    let l = c.line-item.result in
    let R = IsPrintedLine k.size k.«when» in
    let seen : map line_of (take (i + 1) items) ≡ map line_of (take i items) ++ line_of l ∷ [] = one_more line_of items i l c.loop-line-test.true c.line-item.is in
    record {
      printed =
          subst (λ z. AllZip R z c.push.new.self) (sym seen)
          (subst (AllZip R (map line_of (take i items) ++ line_of l ∷ [])) (sym c.in_ok-push.ensures.appended)
          (AllZip-push R (map line_of (take i items)) c.loop-line.lines (line_of l) (line_of c.in_ok-printed_line.field-0) c.loop-line.invariant.printed c.in_ok-printed_line.ensures.printed));
      only_asked = only_asked_then (λ b. (goal.Decider-dyn g (b.vtable, b.value)).kind_of b.value) (λ b. (goal.Decider-dyn g (b.vtable, b.value)).questions b.value) c.args.chosen.now c.loop-line.chosen c.printed_line.new.chosen c.loop-line.invariant.only_asked c.printed_line.ensures.only_asked;
    }

pub returns-clause-printed : goal.returns-clause-printed
returns-clause-printed g c =
    subst (λ z. AllZip (IsPrintedLine c.args.context.now.size c.args.context.now.«when») z c.loop-line.lines) (all_taken line_of c.as_slice-line-items.result.now c.args.context.now.lines c.loop-line.line-index (c.as_slice-line-items.ensures.items ∙ c.get.ensures.same) c.loop-line-test.false) c.loop-line.invariant.printed
