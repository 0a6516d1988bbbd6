-- What the commands about results and register automata come to.
use Rattle.std.specs.Prelude.{◌≡◌, ℕ, List, [], ◌∷◌, length, codes}
use Rattle.lois_base.specs.Data.{TermD}
use Rattle.lois_answers.specs.declared.results.Results.{Results}
use Rattle.lois_answers.specs.Sound.{IsSound}
use Rattle.lois_reader.specs.Refusal.{IsResultsOf}
use Rattle.lois_ranks.specs.Ranks.{AreRanks}
use Rattle.lois_equal.specs.Comparing.{IsComparison, IfDiffer}
use Rattle.lois_equal.specs.declared.comparing.Comparison.{Comparison}
use Rattle.lois_equal.specs.declared.comparing.Comparison.TheVariants as compared
use Rattle.lois_equal.specs.declared.comparing.ComparisonFault.TheVariants as unfit
use Rattle.lois_census.specs.Refusals.{IsCensusAnswer}
use Rattle.lois_census.specs.declared.counting.Answer.{Answer}
use Rattle.lois_census.specs.declared.counting.Answer.TheVariants as listed
use Rattle.lois_census.specs.declared.counting.Refusal.TheVariants as unlisted
use Rattle.lois_registers.specs.Places.{IsRegistersOf}
use Rattle.lois_registers.specs.Translation.{IsTranslatedTo}
use Rattle.lois_registers.specs.Written.{IsWrittenFrom}
use Rattle.lois_registers.specs.declared.automata.Registers.{Registers}
use Rattle.lois_run.specs.declared.outcomes.Outcome.{Outcome}
use Rattle.lois_run.specs.declared.outcomes.Outcome.TheVariants.{Same, Differ, Census, Refused}
use Rattle.lois_run.specs.declared.outcomes.Refusal.TheVariants.{NoLine, NotDeterministic, HasParameters, NotASet}

-- what is found where the lines of two names are compared, as an outcome
abbrev pub compared_outcome : List (List ℕ) → Comparison → Outcome
compared_outcome parameters compared.Alike = Same
compared_outcome parameters (compared.Differ k d name) = Differ k d name parameters
compared_outcome parameters (compared.Refused (unfit.NoLine name k)) = Refused (NoLine name k)
compared_outcome parameters (compared.Refused (unfit.NotDeterministic name k)) = Refused (NotDeterministic name k)

-- the outcome is what is found where the lines of two names are compared, in the results of the text; a word's numbers are ranks
pub record Compares (first second : List ℕ) (text : List ℕ) (o : Outcome) : Type 0 where
  pub results : Results
  pub read : IsResultsOf text results
  pub comparison : Comparison
  pub found : IsComparison (length results.parameters) first second results.cases comparison
  pub ranked : IfDiffer (λ d. AreRanks results.order d.sample) comparison
  pub told : o ≡ compared_outcome results.parameters comparison

-- what is found where the orbits of a name's sets are looked for, as an outcome
abbrev pub listed_outcome : Answer → Outcome
listed_outcome (listed.Listed cs) = Census cs
listed_outcome (listed.Refused unlisted.HasParameters) = Refused HasParameters
listed_outcome (listed.Refused (unlisted.NoLine name k)) = Refused (NoLine name k)
listed_outcome (listed.Refused (unlisted.NotASet name k)) = Refused (NotASet name k)

-- the outcome is what is found where the orbits of the name's sets are looked for, in the results of the text
pub record Lists (name : List ℕ) (text : List ℕ) (o : Outcome) : Type 0 where
  pub results : Results
  pub read : IsResultsOf text results
  pub answer : Answer
  pub found : IsCensusAnswer results.order results name answer
  pub told : o ≡ listed_outcome answer

-- The results hold the automaton of the register automaton whose text it is: in one case, which always holds, without parameters.
pub record Translates (text : List ℕ) (s : Results) : Type 0 where
  pub automaton : Registers
  pub read : IsRegistersOf text automaton
  pub term : TermD
  pub translated : IsTranslatedTo automaton term
  pub written : IsWrittenFrom automaton term
  pub structure : s.order ≡ automaton.order
  pub parameters : s.parameters ≡ []
  pub case : s.cases ≡ record { «when» = [] ∷ []; lines = record { name = codes "automaton"; term = term } ∷ [] } ∷ []
  pub sound : IsSound s
