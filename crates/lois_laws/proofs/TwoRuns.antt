-- Results of two scripts are the same exactly where the scripts print the same.
use Rattle.std.proofs.Common.{◌≡◌, ℕ, ◌+◌, List, length, refl, sym, ap, ◌∙◌, subst}
use Rattle.lois_base.specs.Atom.{Atom}
use Rattle.lois_answers.specs.ResultsData.{CaseD}
use Rattle.lois_answers.specs.declared.results.Results.{Results}
use Rattle.lois_cases.specs.Cases.{IsTheCaseAt}
use Rattle.lois_cases.proofs.OneCase.{one_case}
use Rattle.lois_context.specs.LineValues.{line_values}
use Rattle.lois_interp.specs.Interpreted.{AreResultsOf, IsRightAt}
use Rattle.lois_meaning.proofs.Stores.{named_sym, named_trans}
use Rattle.lois_meaning.proofs.TheLaws.{determined}
use Rattle.lois_meaning.specs.Store.{AreSameNamed}
use Rattle.lois_same.proofs.Flaws.{no_flaw}
use Rattle.lois_same.proofs.Distinct.{contrasts_are_differences}
use Rattle.lois_same.specs.Likenesses.{IsLikeness}
use Rattle.lois_same.specs.Same.{AreSameResults}
use Rattle.lois_same.specs.declared.comparing.Likeness.{Likeness}
use Rattle.lois_same.specs.declared.comparing.Likeness.TheVariants.{Same, Structure, Parameters, Differ, First, Second}
use Rattle.lois_script.specs.Tree.{ScriptD}
use Rattle.lois_laws.proofs.CaseHere.{as_choice, as_many}
use Rattle.lois_laws.specs.TwoRuns.{PrintTheSame, RunsArePartitioned, SameIsOfTheRuns}

-- ---- the case at a choice

the_case : (s : ScriptD) (r : Results) (c : List Atom) (right : IsRightAt s r.cases c) → IsTheCaseAt c r.cases (length right.before + 1) right.one
the_case s r c right = record {
  case = record { before = right.before; behind = right.behind; among = right.among; number = refl };
  here = right.here;
  none_before = right.none_before;
  none_behind = right.none_behind;
}

pub runs_are_partitioned : RunsArePartitioned
runs_are_partitioned s r results c count =
    let right = results.choices c (as_choice s r results c count) in (length right.before + 1, right.one, the_case s r c right)

-- ---- what is printed there

-- the lines of the case that holds are what the script prints
printed : (s : ScriptD) (r : Results) (c : List Atom) (right : IsRightAt s r.cases c) (i : ℕ) (k : CaseD) → IsTheCaseAt c r.cases i k → AreSameNamed (line_values c k.lines) right.lines.printed
printed s r c right i k the =
    let is = (one_case c r.cases (length right.before + 1) i right.one k (the_case s r c right) the).1 in
    subst (λ (z : CaseD). AreSameNamed (line_values c z.lines) right.lines.printed) is right.lines.values

module _ (s t : ScriptD) (r q : Results) (of_s : AreResultsOf s r) (of_t : AreResultsOf t q) where
  print_the_same : AreSameResults r q → PrintTheSame s t
  print_the_same same = record {
    structure = sym of_s.structure ∙ (same.structure ∙ of_t.structure);
    parameters = sym of_s.parameters ∙ (same.parameters ∙ of_t.parameters);
    lines = λ c choice ls ms ends other.
        let count = as_many s r of_s c choice in
        let first = of_s.choices c choice in
        let second = of_t.choices c (as_choice t q of_t c (count ∙ ap length same.parameters)) in
        let lines = same.lines c count (length first.before + 1) (length second.before + 1) first.one second.one (the_case s r c first) (the_case t q c second) in
        named_trans ls first.lines.printed ms (determined.scripts s c ls first.lines.printed ends first.lines.ends)
        (named_trans first.lines.printed (line_values c first.one.lines) ms (named_sym (line_values c first.one.lines) first.lines.printed first.lines.values)
        (named_trans (line_values c first.one.lines) (line_values c second.one.lines) ms lines
        (named_trans (line_values c second.one.lines) second.lines.printed ms second.lines.values (determined.scripts t c second.lines.printed ms second.lines.ends other))));
  }

  same_structure : PrintTheSame s t → r.order ≡ q.order
  same_structure h = of_s.structure ∙ (h.structure ∙ sym of_t.structure)

  same_parameters : PrintTheSame s t → r.parameters ≡ q.parameters
  same_parameters h = of_s.parameters ∙ (h.parameters ∙ sym of_t.parameters)

  results_are_the_same : PrintTheSame s t → AreSameResults r q
  results_are_the_same h = record {
    structure = same_structure h;
    parameters = same_parameters h;
    lines = λ c count i j k l the other.
        let choice = as_choice s r of_s c count in
        let first = of_s.choices c choice in
        let second = of_t.choices c (as_choice t q of_t c (count ∙ ap length (same_parameters h))) in
        let both = h.lines c choice first.lines.printed second.lines.printed first.lines.ends second.lines.ends in
        named_trans (line_values c k.lines) first.lines.printed (line_values c l.lines) (printed s r c first i k the)
        (named_trans first.lines.printed second.lines.printed (line_values c l.lines) both (named_sym (line_values c l.lines) second.lines.printed (printed t q c second j l other)));
  }

  -- nothing else is found where they print the same
  found_same : (x : Likeness) → IsLikeness r q x → PrintTheSame s t → x ≡ Same
  found_same Same found h = refl
  found_same Structure found h = absurd (found.1 (same_structure h))
  found_same Parameters found h = absurd (found.2 (same_parameters h))
  found_same (Differ d) found h = absurd (contrasts_are_differences r q d found.0 found.3 (results_are_the_same h))
  found_same (First p) found h = absurd (no_flaw r p (runs_are_partitioned s r of_s) found)
  found_same (Second p) found h = absurd (no_flaw q p (runs_are_partitioned t q of_t) found.1)

  said_same : (x : Likeness) → IsLikeness r q x → x ≡ Same → PrintTheSame s t
  said_same x found is = print_the_same (subst (IsLikeness r q) is found).1

pub same_is_of_the_runs : SameIsOfTheRuns
same_is_of_the_runs s t r q x of_s of_t found = (said_same s t r q of_s of_t x found, found_same s t r q of_s of_t x found)
