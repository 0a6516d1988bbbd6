-- What the commands about results and register automata answer.
use Rattle.std.proofs.Common.{◌≡◌, ℕ, suc, Bool, List, [], ◌∷◌, codes, length, filter, refl, sym, subst, inl}
use Rattle.std.specs.List.{All, AllZip}
use Rattle.std.proofs.lemmas.List.Elements.{All-head, All-tail, All-cons, All-nil, All-filter}
use Rattle.lois_answers.specs.ResultsData.{CaseD}
use Rattle.lois_answers.specs.Sound.{IsSound, IsSoundCase}
use Rattle.lois_base.specs.Validity.{HasBoundedWidths}
use Rattle.lois_census.specs.CensusData.{CensusD}
use Rattle.lois_census.specs.Censuses.{IsCensusOf, NumberedD, numbered, is_met}
use Rattle.lois_census.specs.OrbitData.{OrbitD}
use Rattle.lois_census.specs.Orbits.{FitsSample}
use Rattle.lois_equal.proofs.CaseLines.{found_sound}
use Rattle.lois_run.specs.Outcomes.{HasText, CanBeListed, IsWritable}
use Rattle.lois_run.specs.declared.outcomes.Outcome.{Outcome}
use Rattle.lois_answers.specs.declared.results.Results.{Results}
use Rattle.lois_census.specs.Refusals.{IsCensusAnswer as IsCounted}
use Rattle.lois_census.specs.declared.counting.Answer.{Answer}
use Rattle.lois_census.specs.declared.counting.Answer.TheVariants.{Listed, Refused as Uncounted}
use Rattle.lois_census.specs.declared.counting.Refusal.TheVariants as uncounted
use Rattle.lois_equal.specs.Comparing.{IsComparison, IfDiffer}
use Rattle.lois_equal.specs.Differences.{AreBounded}
use Rattle.lois_equal.specs.declared.comparing.Comparison.{Comparison}
use Rattle.lois_equal.specs.declared.comparing.Comparison.TheVariants.{Alike, Differ as Unlike, Refused as Unfit}
use Rattle.lois_equal.specs.declared.comparing.ComparisonFault.TheVariants as unfit
use Rattle.lois_lexer.specs.declared.Place.{Place}
use Rattle.lois_reader.specs.Refusal.{IsResultsOf}
use Rattle.lois_base.specs.Data.{TermD}
use Rattle.lois_registers.specs.Places.{IsRegistersOf, SpellsNoRegisters, IsFaultPlace}
use Rattle.lois_registers.specs.Translation.{IsTranslatedTo}
use Rattle.lois_registers.specs.Written.{IsWrittenFrom}
use Rattle.lois_registers.specs.declared.RegistersError.TheVariants.{NotRegisters as NoRegisters}
use Rattle.lois_registers.specs.declared.automata.Registers.{Registers as Automaton}
use Rattle.lois_run.specs.TextAnswers.{AnswersText}
use Rattle.lois_command.specs.NoResults.{IsNoResults}
use Rattle.lois_run.specs.Lines.{Translates, compared_outcome, listed_outcome}
use Rattle.lois_run.specs.declared.outcomes.Outcome.TheVariants.{Refused, Translated}
use Rattle.lois_command.specs.Places.{IsPlaceOf}
use Rattle.lois_run.specs.declared.outcomes.Refusal.TheVariants.{NotRegisters, NotResults}
use Rattle.lois_run.specs.declared.words.Command.TheVariants.{Equal, Registers, Census}

module _ (text : List ℕ) where
  no_results : (place : Place) → IsNoResults text place → (r : Results) → IsResultsOf text r → ⊥
  no_results place (k, none, at) r h = none.none r h

  pub no_comparison : (a b : List ℕ) (place : Place) → IsNoResults text place → AnswersText (Equal a b) text (Refused (NotResults place))
  no_comparison a b place none = record { cause = inl (place, none, refl); promise = λ l r h. absurd (no_results place none r h); kind = tt }

  pub no_census : (name : List ℕ) (place : Place) → IsNoResults text place → AnswersText (Census name) text (Refused (NotResults place))
  no_census name place none = record { cause = inl (place, none, refl); promise = λ l r h. absurd (no_results place none r h); kind = tt }

  pub translated_is_answered : (r : Automaton) (s : Results) → IsRegistersOf text r → s.order ≡ r.order → s.parameters ≡ []
      → ((t : TermD) × (s.cases ≡ record { «when» = [] ∷ []; lines = record { name = codes "automaton"; term = t } ∷ [] } ∷ []) × IsTranslatedTo r t × IsWrittenFrom r t) → IsSound s
      → AnswersText Registers text (Translated s)
  translated_is_answered r s read order none (t, is, translated, written) sound =
      let all : Translates text s = record { automaton = r; read = read; term = t; translated = translated; written = written; structure = order; parameters = none; case = is; sound = sound } in
      record { cause = (s, all, refl); promise = λ l q h. inl (s, all, refl); kind = tt }

  pub no_translation : (k : ℕ) (place : Place) → SpellsNoRegisters text (NoRegisters k) → IsFaultPlace text (NoRegisters k) → IsPlaceOf text k place → AnswersText Registers text (Refused (NotRegisters place))
  no_translation k place none is at = record { cause = (place, (k, (none, is), at), refl); promise = λ l r h. absurd (none r h); kind = tt }

-- ---- what is found can be written

compared_is_written : (n : ℕ) (a b : List ℕ) (r : Results) (x : Comparison) (ordered : Bool) → IsComparison n a b r.cases x → IfDiffer (λ d. AreBounded ordered d.word) x → HasText (compared_outcome r.parameters x)
compared_is_written n a b r Alike ordered found usual = tt
compared_is_written n a b r (Unlike k d name) ordered found usual = record { levels = found.1.own.difference.levels; widths = usual.widths }
compared_is_written n a b r (Unfit (unfit.NoLine name k)) ordered found usual = tt
compared_is_written n a b r (Unfit (unfit.NotDeterministic name k)) ordered found usual = tt

pub comparison_is_written : (n : ℕ) (a b : List ℕ) (r : Results) (x : Comparison) (ordered : Bool) (o : Outcome) → IsComparison n a b r.cases x → IfDiffer (λ d. AreBounded ordered d.word) x → o ≡ compared_outcome r.parameters x → HasText o
comparison_is_written n a b r x ordered o found usual is = subst HasText (sym is) (compared_is_written n a b r x ordered found usual)

module _ (r : Results) (sound : IsSound r) (name : List ℕ) where
  abbrev Usable : NumberedD → Type 0
  Usable k = IsSoundCase r.order (length r.parameters) k.case

  sound_numbered : (n : ℕ) (cs : List CaseD) → All (IsSoundCase r.order (length r.parameters)) cs → All Usable (numbered n cs)
  sound_numbered n [] h = All-nil Usable
  sound_numbered n (c ∷ cs) h =
      All-cons Usable (record { number = n; case = c }) (numbered (suc n) cs) (All-head (IsSoundCase r.order (length r.parameters)) c cs h) (sound_numbered (suc n) cs (All-tail (IsSoundCase r.order (length r.parameters)) c cs h))

  all_written : (os : List OrbitD) → All FitsSample os → All (λ k. HasBoundedWidths k.item) os → All IsWritable os
  all_written [] levels widths = All-nil IsWritable
  all_written (o ∷ os) levels widths =
      All-cons IsWritable o os (record { levels = All-head FitsSample o os levels; widths = All-head (λ k. HasBoundedWidths k.item) o os widths }) (all_written os (All-tail FitsSample o os levels) (All-tail (λ k. HasBoundedWidths k.item) o os widths))

  all_listed : (ks : List NumberedD) (es : List CensusD) → All Usable ks → AllZip (IsCensusOf r.order name) ks es → All CanBeListed es
  all_listed [] [] h z = All-nil CanBeListed
  all_listed [] (e ∷ es) h z = absurd z
  all_listed (k ∷ ks) [] h z = absurd z
  all_listed (k ∷ ks) (e ∷ es) h ((number, (l, last, orbits)), rest) =
      All-cons CanBeListed e es (all_written e.orbits orbits.levels (orbits.widths (found_sound r.order (length r.parameters) name k.case l (All-head Usable k ks h) (sym last)).widths)) (all_listed ks es (All-tail Usable k ks h) rest)

  counted_is_written : (x : Answer) → IsCounted r.order r name x → HasText (listed_outcome x)
  counted_is_written (Listed cs) found = all_listed (filter is_met (numbered 1 r.cases)) cs (All-filter is_met Usable (numbered 1 r.cases) (sound_numbered 1 r.cases sound.cases)) found.censuses
  counted_is_written (Uncounted uncounted.HasParameters) found = tt
  counted_is_written (Uncounted (uncounted.NoLine n k)) found = tt
  counted_is_written (Uncounted (uncounted.NotASet n k)) found = tt

  pub census_is_written : (x : Answer) (o : Outcome) → IsCounted r.order r name x → o ≡ listed_outcome x → HasText o
  census_is_written x o found is = subst HasText (sym is) (counted_is_written x found)
