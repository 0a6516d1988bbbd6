use Rattle.std.proofs.Common.{◌≡◌, [], ◌∷◌, ◌++◌, ◌+◌, take, map, sym, subst}
use Rattle.std.specs.List.{AllZip}
use Rattle.std.proofs.lemmas.List.Elements.{AllZip-push}
use Rattle.lois_base.proofs.Viewed.{one_more, all_taken}
use Rattle.lois_answers.specs.LineView.{line_of}
use Rattle.lois_interp.specs.Split.{IsSplitLine}
use Rattle.lois_interp.proofs.failures.split_lines.Goals as goal

pub loop-line-preserved : goal.loop-line-preserved
loop-line-preserved c =
    let items = c.as_slice-line-items.result.now in
    let i = c.loop-line.line-index in
    let l = c.line-item.result in
    let seen : map line_of (take (i + 1) items) ≡ map line_of (take i items) ++ line_of l ∷ [] = one_more line_of items i l c.loop-line-test.true c.line-item.is in
    subst (λ z. AllZip IsSplitLine z c.push.new.self) (sym seen)
    (subst (AllZip IsSplitLine (map line_of (take i items) ++ line_of l ∷ [])) (sym c.in_ok-push.ensures.appended)
    (AllZip-push IsSplitLine (map line_of (take i items)) c.loop-line.split (line_of l) (line_of c.in_ok-split_line.field-0) c.loop-line.invariant c.in_ok-split_line.ensures))

pub returns : goal.returns
returns c =
    subst (λ z. AllZip IsSplitLine z c.loop-line.split) (all_taken line_of c.as_slice-line-items.result.now c.args.lines.now c.loop-line.line-index c.as_slice-line-items.ensures.items c.loop-line-test.false) c.loop-line.invariant
