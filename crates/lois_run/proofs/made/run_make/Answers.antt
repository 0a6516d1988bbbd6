use Rattle.std.proofs.Common.{◌≡◌, ◌+◌, ◌*◌, inl, inr, None, length, sym, ap, ◌∙◌, subst, arith}
use Rattle.lois_answers.specs.declared.results.Results.{Results}
use Rattle.lois_make.specs.MadeCounts.{HasMadeCounts}
use Rattle.lois_make.specs.MadeScript.{made_script}
use Rattle.lois_run.specs.Headline.{Headline, UnlessReadFault}
use Rattle.lois_run.specs.declared.outcomes.Outcome.{Outcome}
use Rattle.lois_run.specs.declared.outcomes.Outcome.TheVariants.{Completed, Made as WasMade}
use Rattle.lois_run.proofs.MadeRuns.{made_completes}
use Rattle.lois_run.proofs.made.run_make.Goals as goal

-- no source is read, so nothing comes but this
sure : {P : Type 0} (o : Outcome) → UnlessReadFault P ⊥ o → P
sure o (inl p) = p
sure o (inr (e, none)) = absurd none

same_results : (o : Outcome) (r q : Results) → o ≡ Completed r → o ≡ Completed q → r ≡ q
same_results o r q is also = inside (sym is ∙ also)
  where
    inside : Completed r ≡ Completed q → r ≡ q
    inside e = cc e

pub unreachable-requires-in_default-2 : goal.unreachable-requires-in_default-2
unreachable-requires-in_default-2 g c =
    let n = c.args.count in let o = c.in_ok-results.field-0 in
    let text : c.deref.result.now ≡ made_script n = cc (c.deref.ensures.value, c.in_ok-text.ensures.text) in
    let counted = sure o (made_completes n c.requires.few ⊥ o (subst (λ t. Headline t ⊥ o) text (c.in_ok-results.ensures.answer None).promise)) in
    c.in_default-2.not-Completed counted.0 counted.1.0

pub returns : goal.returns
returns g c =
    let n = c.args.count in let o = c.in_ok-results.field-0 in
    let text : c.deref.result.now ≡ made_script n = cc (c.deref.ensures.value, c.in_ok-text.ensures.text) in
    let counted = sure o (made_completes n c.requires.few ⊥ o (subst (λ t. Headline t ⊥ o) text (c.in_ok-results.ensures.answer None).promise)) in
    let counts = subst (HasMadeCounts n) (same_results o counted.0 c.in-Completed.results counted.1.0 c.in-Completed.is) counted.1.2 in
    let bytes : c.len.result ≡ 37 + 74 * n = omega (arith, c.len.ensures, c.deref.ensures.len, ap length c.deref.ensures.value, c.in_ok-text.ensures.bytes) in
    let cases = c.len-2.ensures.counted ∙ ap length counts.cases in
    let comprehensions = c.comprehensions_of.ensures counts.one counts.line counts.cases counts.lines ∙ counts.comprehensions in
    record {
      made = λ i. WasMade (record { statements = n; bytes = bytes i; cases = cases i; comprehensions = comprehensions i });
      results = (counted.0, counted.1.1, counted.1.2);
    }
