-- What the questions come to, and that it can be written.
use Rattle.std.proofs.Common.{◌≡◌, ℕ, Bool, List, refl, subst, sym, inl}
use Rattle.lois_lexer.specs.declared.Place.{Place}
use Rattle.lois_picture.specs.Pictures.{HasPictureText}
use Rattle.lois_picture.specs.declared.pictures.Picture.{Picture as Found}
use Rattle.lois_picture.specs.declared.pictures.Picture.TheVariants as pictured
use Rattle.lois_same.specs.ContrastText.{ContrastFits}
use Rattle.lois_same.specs.Likenesses.{IfDiffer, IsLikeness}
use Rattle.lois_same.specs.TwoTexts.{first_text, second_text}
use Rattle.lois_same.specs.declared.comparing.Likeness.{Likeness}
use Rattle.lois_same.specs.declared.comparing.Likeness.TheVariants as compared
use Rattle.lois_cases.specs.declared.partitions.Partition.{Partition}
use Rattle.lois_cases.specs.declared.partitions.Partition.TheVariants as partitions
use Rattle.lois_answers.specs.ResultsData.{CaseD}
use Rattle.lois_answers.specs.declared.results.Results.{Results}
use Rattle.lois_command.specs.NoResults.{IsNoResults}
use Rattle.lois_equal.specs.Differences.{AreBounded}
use Rattle.lois_languages.specs.Inclusions.{IsInclusion, IfBeyond}
use Rattle.lois_languages.specs.Witnesses.{IsWitness, IfFound}
use Rattle.lois_languages.specs.declared.inclusions.Inclusion.{Inclusion}
use Rattle.lois_languages.specs.declared.inclusions.Inclusion.TheVariants as included
use Rattle.lois_languages.specs.declared.witnesses.Witness.{Witness}
use Rattle.lois_languages.specs.declared.witnesses.Witness.TheVariants as witnessed
use Rattle.lois_questions.specs.Answers.{TellsBoth, word_outcome, within_outcome, picture_outcome, IsFlawRefusal, IsSameOutcome}
use Rattle.lois_questions.specs.Causes.{AnswersText, CanBeAsked, HasCause, IsOfText, IsReadable, first_asked}
use Rattle.lois_questions.specs.Outcomes.{HasText}
use Rattle.lois_questions.specs.declared.command_line.Question.{Question}
use Rattle.lois_questions.specs.declared.command_line.Question.TheVariants as questions
use Rattle.lois_questions.specs.declared.outcomes.Outcome.{Outcome}
use Rattle.lois_questions.specs.declared.outcomes.Outcome.TheVariants.{Same, Structure, Parameters, Differ, Refused}
use Rattle.lois_questions.specs.declared.outcomes.Input.{Input}
use Rattle.lois_questions.specs.declared.outcomes.Input.TheVariants.{First, Second}
use Rattle.lois_questions.specs.declared.outcomes.Refusal.{Refusal}
use Rattle.lois_questions.specs.declared.outcomes.Refusal.TheVariants.{NotResults, SecondNotResults, NoCase, TwoCases}
use Rattle.lois_reader.specs.Refusal.{IsResultsOf}

can_be_read : (question : Question) (text : List ℕ) → CanBeAsked question text → IsReadable (first_asked question text)
can_be_read (questions.Word a) text h = h
can_be_read (questions.Within a b) text h = h
can_be_read questions.Same text h = h.0
can_be_read (questions.Picture a) text h = h

-- a text that isn't that of results is refused, whatever is asked
pub no_answer : (question : Question) (text : List ℕ) (place : Place) → IsNoResults (first_asked question text) place → AnswersText question text (Refused (NotResults place))
no_answer question text place (k, none, at) = record { cause = (k, none, at); promise = λ l h. let r = can_be_read question text h in absurd (none.none r.0 r.1); kind = tt }

-- so is a second text
pub no_second_answer : (text : List ℕ) (place : Place) → IsReadable (first_text text) → IsNoResults (second_text text) place → AnswersText questions.Same text (Refused (SecondNotResults place))
no_second_answer text place read (k, none, at) = record { cause = (refl, read, (k, none, at)); promise = λ l h. absurd (none.none h.1.0 h.1.1); kind = tt }

-- ---- what is found can be written

found_word : (n : ℕ) (a : List ℕ) (ordered : Bool) (cases : List CaseD) (ps : List (List ℕ)) (x : Witness) → IsWitness n a cases x → IfFound (λ w. AreBounded ordered w.letters) x → HasText (word_outcome ps x)
found_word n a ordered cases ps witnessed.Nothing found usual = tt
found_word n a ordered cases ps (witnessed.Found k w) found usual = record { levels = found.1.own.2.levels; widths = usual.widths }
found_word n a ordered cases ps (witnessed.Refused r) found usual = tt

pub word_is_written : (n : ℕ) (a : List ℕ) (r : Results) (x : Witness) (ordered : Bool) (o : Outcome) → IsWitness n a r.cases x → IfFound (λ w. AreBounded ordered w.letters) x → o ≡ word_outcome r.parameters x → HasText o
word_is_written n a r x ordered o found usual is = subst HasText (sym is) (found_word n a ordered r.cases r.parameters x found usual)

found_excess : (n : ℕ) (a b : List ℕ) (ordered : Bool) (cases : List CaseD) (ps : List (List ℕ)) (x : Inclusion) → IsInclusion n a b cases x → IfBeyond (λ d. AreBounded ordered d.word) x → HasText (within_outcome ps x)
found_excess n a b ordered cases ps included.Within found usual = tt
found_excess n a b ordered cases ps (included.Beyond k d name) found usual = record { levels = found.1.own.4.word.levels; widths = usual.widths }
found_excess n a b ordered cases ps (included.Refused r) found usual = tt

pub within_is_written : (n : ℕ) (a b : List ℕ) (r : Results) (x : Inclusion) (ordered : Bool) (o : Outcome) → IsInclusion n a b r.cases x → IfBeyond (λ d. AreBounded ordered d.word) x → o ≡ within_outcome r.parameters x → HasText o
within_is_written n a b r x ordered o found usual is = subst HasText (sym is) (found_excess n a b ordered r.cases r.parameters x found usual)

pub picture_is_written : (x : Found) (o : Outcome) → HasPictureText x → o ≡ picture_outcome x → HasText o
picture_is_written (pictured.Drawn g) o text is = subst HasText (sym is) text
picture_is_written (pictured.Refused u) o text is = subst HasText (sym is) tt

pub same_is_written : (ps : List (List ℕ)) (x : Likeness) (o : Outcome) → IfDiffer ContrastFits x → IsSameOutcome ps x o → HasText o
same_is_written ps compared.Same o fits is = subst HasText (sym is) tt
same_is_written ps compared.Structure o fits is = subst HasText (sym is) tt
same_is_written ps compared.Parameters o fits is = subst HasText (sym is) tt
same_is_written ps (compared.Differ d) o fits is = subst HasText (sym is) fits
same_is_written ps (compared.First p) o fits (u, flaw, is) = subst HasText (sym is) tt
same_is_written ps (compared.Second p) o fits (u, flaw, is) = subst HasText (sym is) tt

-- what two results are found to be is an answer
pub answered_same : (text : List ℕ) (r q : Results) (x : Likeness) (o : Outcome) → IsResultsOf (first_text text) r → IsResultsOf (second_text text) q → IsLikeness r q x → IsSameOutcome r.parameters x o → AnswersText questions.Same text o
answered_same text r q x o read other found told = by_likeness x found told
  where
    both : (x : Likeness) → IsLikeness r q x → IsSameOutcome r.parameters x o → TellsBoth text o
    both x found told = record { first = r; second = q; first_read = read; second_read = other; answer = x; found = found; told = told }

    answered : (p : Outcome) → o ≡ p → TellsBoth text p → HasCause questions.Same text p → IsOfText p → AnswersText questions.Same text o
    answered p is tells cause kind = subst (AnswersText questions.Same text) (sym is) (record { cause = cause; promise = λ l h. inl tells; kind = kind })

    refused : (input : Input) (u : Refusal) (p : Partition) → IsFlawRefusal input p u → TellsBoth text (Refused u) → AnswersText questions.Same text (Refused u)
    refused input u partitions.Whole flaw tells = absurd flaw
    refused input u (partitions.Overlap i j s) flaw tells =
        subst (λ z. AnswersText questions.Same text (Refused z)) (sym flaw) (of_tells (subst (λ z. TellsBoth text (Refused z)) flaw tells))
      where
        of_tells : TellsBoth text (Refused (TwoCases input i j s)) → AnswersText questions.Same text (Refused (TwoCases input i j s))
        of_tells t = record { cause = t; promise = λ l h. inl t; kind = tt }
    refused input u (partitions.Gap s) flaw tells =
        subst (λ z. AnswersText questions.Same text (Refused z)) (sym flaw) (of_tells (subst (λ z. TellsBoth text (Refused z)) flaw tells))
      where
        of_tells : TellsBoth text (Refused (NoCase input s)) → AnswersText questions.Same text (Refused (NoCase input s))
        of_tells t = record { cause = t; promise = λ l h. inl t; kind = tt }

    by_likeness : (x : Likeness) → IsLikeness r q x → IsSameOutcome r.parameters x o → AnswersText questions.Same text o
    by_likeness compared.Same found told = let t = subst (TellsBoth text) told (both compared.Same found told) in answered Same told t t tt
    by_likeness compared.Structure found told = let t = subst (TellsBoth text) told (both compared.Structure found told) in answered Structure told t t tt
    by_likeness compared.Parameters found told = let t = subst (TellsBoth text) told (both compared.Parameters found told) in answered Parameters told t t tt
    by_likeness (compared.Differ d) found told = let t = subst (TellsBoth text) told (both (compared.Differ d) found told) in answered (Differ d r.parameters) told t t tt
    by_likeness (compared.First p) found (u, flaw, told) =
        subst (AnswersText questions.Same text) (sym told) (refused First u p flaw (subst (TellsBoth text) told (both (compared.First p) found (u, flaw, told))))
    by_likeness (compared.Second p) found (u, flaw, told) =
        subst (AnswersText questions.Same text) (sym told) (refused Second u p flaw (subst (TellsBoth text) told (both (compared.Second p) found (u, flaw, told))))
