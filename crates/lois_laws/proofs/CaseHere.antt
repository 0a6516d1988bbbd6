-- The case that holds at a choice.
use Rattle.std.proofs.Common.{◌≡◌, ℕ, ◌≤◌, List, [], ◌∷◌, ◌++◌, length, take, sym, ap, ◌∙◌, subst, arith}
use Rattle.std.specs.List.{All}
use Rattle.std.proofs.lemmas.List.{length-map, length-take}
use Rattle.std.proofs.lemmas.List.Elements.{All-head, All-tail}
use Rattle.lois_base.specs.Atom.{Atom, whole}
use Rattle.lois_answers.specs.ResultsData.{CaseD}
use Rattle.lois_answers.specs.declared.results.Results.{Results}
use Rattle.lois_context.specs.LineValues.{line_values}
use Rattle.lois_equal.specs.Comparing.{IsFirst}
use Rattle.lois_meaning.specs.Store.{AreSameNamed}
use Rattle.lois_script.specs.Tree.{ScriptD}
use Rattle.lois_shortest_word.specs.Words.{first_sampled}
use Rattle.lois_interp.specs.Interpreted.{AreResultsOf, IsChoiceOf, IsRightAt, HoldsAt, parameter_name}

module _ (P : CaseD → Type 0) where
  pub at_one : (before behind : List CaseD) (k : CaseD) → All P (before ++ k ∷ behind) → P k
  at_one [] behind k h = All-head P k behind h
  at_one (x ∷ before) behind k h = at_one before behind k (All-tail P x (before ++ k ∷ behind) h)

abbrev pub HoldNowhere : List Atom → List CaseD → Type 0
HoldNowhere c = All (λ k. HoldsAt c k → ⊥)

-- a case that holds is the one beside which none holds
only_case : (c : List Atom) (before behind d e : List CaseD) (k l : CaseD) → before ++ k ∷ behind ≡ d ++ l ∷ e → HoldNowhere c before → HoldNowhere c behind → HoldsAt c l → k ≡ l
only_case c [] behind [] e k l same none none_behind here = cc
only_case c [] behind (z ∷ d) e k l same none none_behind here =
    let rest : behind ≡ d ++ l ∷ e = cc in
    absurd (at_one (λ o. HoldsAt c o → ⊥) d e l (subst (HoldNowhere c) rest none_behind) here)
only_case c (z ∷ before) behind [] e k l same none none_behind here =
    let is : z ≡ l = cc in
    absurd (All-head (λ o. HoldsAt c o → ⊥) z before none (subst (HoldsAt c) (sym is) here))
only_case c (z ∷ before) behind (w ∷ d) e k l same none none_behind here =
    let rest : before ++ k ∷ behind ≡ d ++ l ∷ e = cc in
    only_case c before behind d e k l rest (All-tail (λ o. HoldsAt c o → ⊥) z before none) none_behind here

module _ (s : ScriptD) (r : Results) (results : AreResultsOf s r) where
  pub as_many : (c : List Atom) → IsChoiceOf s c → length c ≡ length r.parameters
  as_many c choice = choice ∙ (sym (length-map s.parameters parameter_name) ∙ ap length (sym results.parameters))

  pub as_choice : (c : List Atom) → length c ≡ length r.parameters → IsChoiceOf s c
  as_choice c e = e ∙ (ap length results.parameters ∙ length-map s.parameters parameter_name)

  -- the choice that a sample begins with
  pub sampled_choice : (sample : List ℕ) → length r.parameters ≤ length sample → IsChoiceOf s (first_sampled (length r.parameters) sample)
  sampled_choice sample enough =
      let n = length r.parameters in
      as_choice (first_sampled n sample) (length-map (take n sample) whole ∙ (length-take n sample ∙ omega arith))

  -- what holds of all cases holds of the one that holds there
  pub said_here : (P : CaseD → Type 0) (c : List Atom) (right : IsRightAt s r.cases c) → All P r.cases → P right.one
  said_here P c right h = at_one P right.before right.behind right.one (subst (All P) right.among h)

  -- the script prints the lines of the case that holds
  pub printed_here : {P Q : CaseD → Type 0} {k : ℕ} (c : List Atom) (right : IsRightAt s r.cases c) (first : IsFirst P Q k r.cases) → HoldsAt c first.here → AreSameNamed (line_values c first.here.lines) right.lines.printed
  printed_here c right first here =
      let is : right.one ≡ first.here = only_case c right.before right.behind first.before first.after right.one first.here (sym right.among ∙ first.whole) right.none_before right.none_behind here in
      subst (λ z. AreSameNamed (line_values c z.lines) right.lines.printed) is right.lines.values
