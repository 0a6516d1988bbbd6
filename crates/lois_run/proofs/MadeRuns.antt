-- What running the made script comes to, by the headline.
use Rattle.std.proofs.Common.{◌≡◌, ℕ, ◌≤◌, refl, arith}
use mathlib.Core.Logic.{inl, inr}
use Rattle.lois_answers.specs.declared.results.Results.{Results}
use Rattle.lois_interp.specs.Interpreted.{AreResultsOf}
use Rattle.lois_make.specs.MadeCounts.{HasMadeCounts}
use Rattle.lois_make.specs.MadeScript.{made_script}
use Rattle.lois_make.specs.MadeTree.{made_tree}
use Rattle.lois_make.proofs.MadeEnds.{made_never_fails}
use Rattle.lois_make.proofs.MadeResults.{results_have_made_counts}
use Rattle.lois_make.proofs.MadeScoped.{made_is_well_scoped}
use Rattle.lois_make.proofs.MadeScript.{script_length}
use Rattle.lois_make.proofs.MadeSpelled.{made_is_spelled}
use Rattle.lois_run.specs.Headline.{FailsSomewhere, IsCompleted, IsRight, UnlessReadFault, IsToRun, Headline}
use Rattle.lois_run.specs.declared.outcomes.Outcome.{Outcome}
use Rattle.lois_run.specs.declared.outcomes.Outcome.TheVariants.{Completed}

made_fails_nowhere : (n : ℕ) → FailsSomewhere (made_tree n) → ⊥
made_fails_nowhere n (choice, is, at, kind, path, fails) = made_never_fails n choice at kind path fails

made_is_to_run : (n : ℕ) → n ≤ 10000 → IsToRun (made_script n) (made_tree n)
made_is_to_run n few = record {
  fits = omega (arith, script_length n);
  spelled = made_is_spelled n;
  scoped = made_is_well_scoped n;
}

-- it completed with these results of the made script, and they have its counts
abbrev pub CompletedWith : ℕ → Outcome → Results → Type 0
CompletedWith n o r = (o ≡ Completed r) × AreResultsOf (made_tree n) r × HasMadeCounts n r

counted : (n : ℕ) (o : Outcome) → IsCompleted o → IsRight (made_script n) (made_tree n) o → (r : Results) × CompletedWith n o r
counted n (Completed r) is right = (r, (refl, right.results, results_have_made_counts n r right.results))
counted n _ (r, e) right = absurd (cc e)

-- What keeps the headline for the made script completes, with the made script's counts, or is a read fault.
pub made_completes : (n : ℕ) → n ≤ 10000 → (fault : Type 0) (o : Outcome) → Headline (made_script n) fault o →
    UnlessReadFault ((r : Results) × CompletedWith n o r) fault o
made_completes n few fault o h = go (h.completes (made_tree n) (made_is_to_run n few) (made_fails_nowhere n))
  where
    go : UnlessReadFault (IsCompleted o) fault o → UnlessReadFault ((r : Results) × CompletedWith n o r) fault o
    go (inl is) = inl (counted n o is (h.right (made_tree n) (made_is_spelled n)))
    go (inr read) = inr read
