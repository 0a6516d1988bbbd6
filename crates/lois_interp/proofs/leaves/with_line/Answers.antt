use Rattle.std.proofs.Common.{[], ◌∷◌, ◌++◌, sym, ap, ◌∙◌, subst}
use Rattle.std.proofs.lemmas.List.Elements.{All-push}
use Rattle.lois_base.specs.Fits.{Fits}
use Rattle.lois_answers.specs.LineView.{line_of}
use Rattle.lois_context.specs.Kept.{LinesFit}
use Rattle.lois_interp.proofs.leaves.with_line.Goals as goal

pub invariant_of-result-clause-fitting : goal.invariant_of-result-clause-fitting
invariant_of-result-clause-fitting c =
    let k = c.args.context in
    subst (LinesFit k.size) (sym (c.in_ok-lines.ensures.same ∙ (c.in_ok-push.ensures.appended ∙ ap (λ z. z ++ line_of c.args.line ∷ []) c.in_ok-printed.ensures.same))) (All-push (λ l. Fits k.size l.term) k.lines (line_of c.args.line) k.fitting c.requires)
