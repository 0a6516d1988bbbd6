-- What is found in the results of a text, or in those of two texts, as an outcome.
use Rattle.std.specs.Prelude.{◌≡◌, ℕ, List, [], length}
use Rattle.lois_answers.specs.declared.results.Results.{Results}
use Rattle.lois_cases.specs.declared.partitions.Partition.{Partition}
use Rattle.lois_cases.specs.declared.partitions.Partition.TheVariants as partitions
use Rattle.lois_ranks.specs.Ranks.{AreRanks}
use Rattle.lois_languages.specs.Inclusions.{IsInclusion, IfBeyond}
use Rattle.lois_languages.specs.Witnesses.{IsWitness, IfFound}
use Rattle.lois_languages.specs.declared.faults.LineFault.{LineFault}
use Rattle.lois_languages.specs.declared.faults.LineFault.TheVariants as fault
use Rattle.lois_languages.specs.declared.inclusions.Inclusion.{Inclusion}
use Rattle.lois_languages.specs.declared.inclusions.Inclusion.TheVariants as included
use Rattle.lois_languages.specs.declared.witnesses.Witness.{Witness}
use Rattle.lois_languages.specs.declared.witnesses.Witness.TheVariants as witnessed
use Rattle.lois_picture.specs.Pictures.{IsPicture}
use Rattle.lois_picture.specs.declared.pictures.Picture.{Picture as Found}
use Rattle.lois_picture.specs.declared.pictures.Picture.TheVariants as pictured
use Rattle.lois_picture.specs.declared.pictures.PictureFault.{PictureFault}
use Rattle.lois_picture.specs.declared.pictures.PictureFault.TheVariants as picture
use Rattle.lois_reader.specs.Refusal.{IsResultsOf}
use Rattle.lois_same.specs.Likenesses.{IsLikeness}
use Rattle.lois_same.specs.TwoTexts.{first_text, second_text}
use Rattle.lois_same.specs.declared.comparing.Likeness.{Likeness}
use Rattle.lois_same.specs.declared.comparing.Likeness.TheVariants as compared
use Rattle.lois_questions.specs.declared.command_line.Question.{Question}
use Rattle.lois_questions.specs.declared.command_line.Question.TheVariants as questions
use Rattle.lois_questions.specs.declared.outcomes.Input.{Input}
use Rattle.lois_questions.specs.declared.outcomes.Input.TheVariants.{Only, First, Second}
use Rattle.lois_questions.specs.declared.outcomes.Outcome.{Outcome}
use Rattle.lois_questions.specs.declared.outcomes.Outcome.TheVariants.{Word, NoWord, Within, Beyond, Same, Structure, Parameters, Differ, Picture, Refused}
use Rattle.lois_questions.specs.declared.outcomes.Refusal.{Refusal}
use Rattle.lois_questions.specs.declared.outcomes.Refusal.TheVariants.{NoLine, NotAutomaton, NotDeterministic, NotGraph, HasParameters, NoCase, TwoCases}

abbrev pub refusal_of : LineFault → Refusal
refusal_of (fault.NoLine name k) = NoLine name k
refusal_of (fault.NotAutomaton name k) = NotAutomaton name k
refusal_of (fault.NotDeterministic name k) = NotDeterministic name k

abbrev pub word_outcome : List (List ℕ) → Witness → Outcome
word_outcome parameters witnessed.Nothing = NoWord
word_outcome parameters (witnessed.Found k w) = Word k w parameters
word_outcome parameters (witnessed.Refused r) = Refused (refusal_of r)

abbrev pub within_outcome : List (List ℕ) → Inclusion → Outcome
within_outcome parameters included.Within = Within
within_outcome parameters (included.Beyond k d name) = Beyond k d name parameters
within_outcome parameters (included.Refused r) = Refused (refusal_of r)

abbrev pub picture_refusal : PictureFault → Refusal
picture_refusal picture.HasParameters = HasParameters
picture_refusal picture.NoCase = NoCase Only []
picture_refusal (picture.TwoCases i j) = TwoCases Only i j []
picture_refusal (picture.NoLine name k) = NoLine name k
picture_refusal (picture.NotGraph name k) = NotGraph name k

abbrev pub picture_outcome : Found → Outcome
picture_outcome (pictured.Drawn g) = Picture g
picture_outcome (pictured.Refused fault) = Refused (picture_refusal fault)

-- why cases that are no partition are refused
abbrev pub IsFlawRefusal : Input → Partition → Refusal → Type 0
IsFlawRefusal input partitions.Whole u = ⊥
IsFlawRefusal input (partitions.Overlap i j s) u = u ≡ TwoCases input i j s
IsFlawRefusal input (partitions.Gap s) u = u ≡ NoCase input s

abbrev pub IsRefusedFlaw : Input → Partition → Outcome → Type 0
IsRefusedFlaw input p o = (u : Refusal) × IsFlawRefusal input p u × (o ≡ Refused u)

abbrev pub IsSameOutcome : List (List ℕ) → Likeness → Outcome → Type 0
IsSameOutcome parameters compared.Same o = o ≡ Same
IsSameOutcome parameters compared.Structure o = o ≡ Structure
IsSameOutcome parameters compared.Parameters o = o ≡ Parameters
IsSameOutcome parameters (compared.Differ d) o = o ≡ Differ d parameters
IsSameOutcome parameters (compared.First p) o = IsRefusedFlaw First p o
IsSameOutcome parameters (compared.Second p) o = IsRefusedFlaw Second p o

-- the outcome tells what is found in the results of the text
pub record Tells {A : Type 0} (Found : Results → A → Type 0) (outcome : List (List ℕ) → A → Outcome) (text : List ℕ) (o : Outcome) : Type 0 where
  pub results : Results
  pub read : IsResultsOf text results
  pub answer : A
  pub found : Found results answer
  pub told : o ≡ outcome results.parameters answer

-- the outcome tells what is found where the results of the two texts are compared
pub record TellsBoth (text : List ℕ) (o : Outcome) : Type 0 where
  pub first : Results
  pub second : Results
  pub first_read : IsResultsOf (first_text text) first
  pub second_read : IsResultsOf (second_text text) second
  pub answer : Likeness
  pub found : IsLikeness first second answer
  pub told : IsSameOutcome first.parameters answer o

-- what is found where a word is looked for that the lines of a name accept; its numbers are ranks
abbrev pub IsWordIn : List ℕ → Results → Witness → Type 0
IsWordIn name r w = IsWitness (length r.parameters) name r.cases w × IfFound (λ v. AreRanks r.order v.sample) w

-- so where a word is looked for that one name's lines accept and another's don't
abbrev pub IsInclusionIn : List ℕ → List ℕ → Results → Inclusion → Type 0
IsInclusionIn first second r i =
    IsInclusion (length r.parameters) first second r.cases i × IfBeyond (λ d. AreRanks r.order d.sample) i

-- the outcome answers the question about the results of the text
abbrev pub Answers : Question → List ℕ → Outcome → Type 0
Answers (questions.Word name) text o = Tells (IsWordIn name) word_outcome text o
Answers (questions.Within first second) text o = Tells (IsInclusionIn first second) within_outcome text o
Answers questions.Same text o = TellsBoth text o
Answers (questions.Picture name) text o = Tells (λ r p. IsPicture r.order r name p) (λ parameters p. picture_outcome p) text o

-- ---- what private contracts say
abbrev pub IsFlawed : Partition → Type 0
IsFlawed partitions.Whole = ⊥
IsFlawed _ = Unit {0}

abbrev pub HasFlawsAlone : Likeness → Type 0
HasFlawsAlone (compared.First p) = IsFlawed p
HasFlawsAlone (compared.Second p) = IsFlawed p
HasFlawsAlone _ = Unit {0}
