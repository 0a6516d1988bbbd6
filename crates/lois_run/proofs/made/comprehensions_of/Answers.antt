use Rattle.std.proofs.Common.{◌≡◌, [], ◌∷◌, map, sym, ap, ◌∙◌, arith}
use Rattle.lois_base.specs.Data.{coll, comps_of}
use Rattle.lois_base.specs.Tree.{tree}
use Rattle.lois_base.proofs.Viewed.{item_at}
use Rattle.lois_answers.specs.CaseView.{case_of}
use Rattle.lois_answers.specs.LineView.{line_of}
use Rattle.lois_answers.specs.ResultsData.{CaseD, LineD}
use Rattle.lois_context.specs.ItemCounts.{comps_in}
use Rattle.lois_context.proofs.Carried.{count_of}
use Rattle.lois_run.proofs.made.comprehensions_of.Goals as goal

pub returns-in-Coll : goal.returns-in-Coll
returns-in-Coll c = λ one first cases lines.
    let case = c.case-item.result in
    let line = c.line-item.result in
    let case_is : case_of case ≡ one = item_at case_of c.as_slice.result.now (one ∷ []) 0 case (c.as_slice.ensures.items ∙ cases) (omega (arith, c.in-len1-up.len_at_least)) c.case-item.is in
    let there : map line_of c.as_slice-2.result.now ≡ first ∷ [] = c.as_slice-2.ensures.items ∙ (ap (λ (k : CaseD). k.lines) case_is ∙ lines) in
    let line_is : line_of line ≡ first = item_at line_of c.as_slice-2.result.now (first ∷ []) 0 line there (omega (arith, c.in-len1-up-as_slice.len_at_least)) c.line-item.is in
    let term : first.term ≡ coll (comps_of c.in-Coll.comps) = sym (ap (λ (l : LineD). l.term) line_is) ∙ ap tree c.in-Coll.is in
    c.len.ensures ∙ sym (ap comps_in term ∙ count_of c.in-Coll.comps)
