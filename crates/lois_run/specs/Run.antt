-- What the private contracts say of a run: what a script comes to.
use Rattle.std.specs.Prelude.{List, ℕ}
use Rattle.lois_script.specs.Tree.{ScriptD}
use Rattle.lois_interp.specs.Interpreted.{AreResultsOf}
use Rattle.lois_run.specs.Headline.{NamesFailure}
use Rattle.lois_run.specs.declared.outcomes.Outcome.{Outcome}
use Rattle.lois_run.specs.declared.outcomes.Outcome.TheVariants.{Completed, Failed}

-- what the script that the text spells comes to
abbrev pub IsRunOf : List ℕ → ScriptD → Outcome → Type 0
IsRunOf text s (Completed r) = AreResultsOf s r
IsRunOf text s (Failed t) = NamesFailure text s t
IsRunOf text s _ = ⊥
