-- Results have at most as many cases as their parameters have patterns.
use Rattle.std.proofs.Common.{◌≡◌, ◌≤◌, ◌+◌, List, length, map, refl, sym, ap, ◌∙◌, subst}
use Rattle.std.proofs.lemmas.List.{length-map}
use Rattle.std.proofs.lemmas.List.Elements.{All-weaker}
use Rattle.std.specs.List.{All}
use Rattle.lois_base.specs.Atom.{Atom}
use Rattle.lois_base.specs.Validity.{AdmitsConstraint}
use Rattle.lois_answers.specs.ResultsData.{CaseD}
use Rattle.lois_answers.specs.Sound.{IsSound, IsSoundCase}
use Rattle.lois_answers.specs.declared.results.Results.{Results}
use Rattle.lois_cases.specs.CaseCount.{patterns}
use Rattle.lois_cases.specs.Cases.{CaseFits}
use Rattle.lois_cases.specs.Partitions.{ArePartition}
use Rattle.lois_cases.proofs.FewCases.{IsMetCase, few_cases}
use Rattle.lois_script.specs.Tree.{ScriptD}
use Rattle.lois_interp.specs.Interpreted.{IsChoiceOf, IsRightAt, HoldsSomewhere, parameter_name}

module _ (s : ScriptD) (r : Results) (sound : IsSound r) (parameters : r.parameters ≡ map parameter_name s.parameters) (met : All (HoldsSomewhere s) r.cases) (choices : (c : List Atom) → IsChoiceOf s c → IsRightAt s r.cases c) where
  count : length r.parameters ≡ length s.parameters
  count = ap length parameters ∙ length-map s.parameters parameter_name

  parted : ArePartition (length r.parameters) r.cases
  parted c l =
      let right = choices c (l ∙ count) in (
        length right.before + 1,
        right.one,
        record {
          case = record { before = right.before; behind = right.behind; among = right.among; number = refl };
          here = right.here;
          none_before = right.none_before;
          none_behind = right.none_behind;
        },
      )

  pub few_enough : length r.cases ≤ patterns r.order (length r.parameters) 0
  few_enough =
      few_cases r.order (length r.parameters) r.cases
      (All-weaker (IsSoundCase r.order (length r.parameters)) (CaseFits (length r.parameters)) (λ k h. h.levels) r.cases sound.cases)
      (All-weaker (IsSoundCase r.order (length r.parameters)) (λ k. AdmitsConstraint r.order k.«when») (λ k h. h.operators) r.cases sound.cases)
      (All-weaker (HoldsSomewhere s) (IsMetCase (length r.parameters)) (λ k h. (h.0, h.1 ∙ sym count, h.2)) r.cases met)
      parted
