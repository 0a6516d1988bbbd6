-- A refusal of two lines is found alone: no other finding has its cause.
use Rattle.std.proofs.Common.{◌≡◌, ℕ, ◌+◌, List, Some, None, option_map, sym, ap, ap₂, ◌∙◌, subst, inl, inr}
use Rattle.std.specs.List.{All}
use Rattle.lois_base.specs.Data.{TermD}
use Rattle.lois_answers.specs.ResultsData.{CaseD}
use Rattle.lois_automata.specs.Deterministic.{IsDeterministicAt}
use Rattle.lois_equal.proofs.CaseLines.{one_term}
use Rattle.lois_equal.specs.Comparing.{HasTerm, HasNoLine, IsComparable, IsNotDeterministic, AreComparable, IsReason, number_of, IsFirst, IsComparison}
use Rattle.lois_equal.specs.declared.comparing.Comparison.{Comparison}
use Rattle.lois_equal.specs.declared.comparing.Comparison.TheVariants.{Alike, Differ, Refused as Unlike}
use Rattle.lois_equal.specs.declared.comparing.ComparisonFault.{ComparisonFault}
use Rattle.lois_equal.specs.declared.comparing.ComparisonFault.TheVariants.{NoLine, NotDeterministic}
use Rattle.lois_command.proofs.Firsts.{all_here, one_first}
use Rattle.lois_run.specs.Lines.{compared_outcome}
use Rattle.lois_run.specs.declared.outcomes.Outcome.TheVariants.{Refused}
use Rattle.lois_run.specs.declared.outcomes.Refusal.{Refusal}

no_term : (name : List ℕ) (c : CaseD) (t : TermD) → HasNoLine name c → HasTerm name c t → ⊥
no_term name c t none h = apart (sym (ap (option_map (λ l. l.term)) none) ∙ h)
  where
    apart : None ≡ Some t → ⊥
    apart e = cc e

never_fit : (n : ℕ) (name : List ℕ) (c : CaseD) → IsNotDeterministic n name c → IsComparable n name c → ⊥
never_fit n name c (t, h, (d, count, admitted, broken)) (s, g, fit) =
    broken (subst (λ x. IsDeterministicAt x d) (one_term name c s t g h) (fit d count admitted))

module _ (n : ℕ) (a b : List ℕ) where
  no_reason : (u : ComparisonFault) (c : CaseD) → IsReason n a b u c → AreComparable n a b c → ⊥
  no_reason (NoLine name k) c (inl (is, none)) fit = no_term a c fit.0.0 none fit.0.1
  no_reason (NoLine name k) c (inr (is, line, none)) fit = no_term b c fit.1.0 none fit.1.1
  no_reason (NotDeterministic name k) c (inl (is, unfit, line)) fit = never_fit n a c unfit fit.0
  no_reason (NotDeterministic name k) c (inr (is, fits, unfit)) fit = never_fit n b c unfit fit.1

  -- a case has one reason at most
  one_reason : (u v : ComparisonFault) (c : CaseD) → IsReason n a b u c → IsReason n a b v c → number_of u ≡ number_of v → u ≡ v
  one_reason (NoLine x k) (NoLine y m) c (inl (is, none)) (inl (e, neither)) same = ap₂ NoLine (is ∙ sym e) same
  one_reason (NoLine x k) (NoLine y m) c (inl (is, none)) (inr (e, line, neither)) same = absurd (no_term a c line.0 none line.1)
  one_reason (NoLine x k) (NoLine y m) c (inr (is, line, none)) (inl (e, neither)) same = absurd (no_term a c line.0 neither line.1)
  one_reason (NoLine x k) (NoLine y m) c (inr (is, line, none)) (inr (e, other, neither)) same = ap₂ NoLine (is ∙ sym e) same
  one_reason (NoLine x k) (NotDeterministic y m) c (inl (is, none)) (inl (e, unfit, line)) same = absurd (no_term a c unfit.0 none unfit.1)
  one_reason (NoLine x k) (NotDeterministic y m) c (inl (is, none)) (inr (e, fit, unfit)) same = absurd (no_term a c fit.0 none fit.1)
  one_reason (NoLine x k) (NotDeterministic y m) c (inr (is, line, none)) (inl (e, unfit, other)) same = absurd (no_term b c other.0 none other.1)
  one_reason (NoLine x k) (NotDeterministic y m) c (inr (is, line, none)) (inr (e, fit, unfit)) same = absurd (no_term b c unfit.0 none unfit.1)
  one_reason (NotDeterministic x k) (NoLine y m) c (inl (is, unfit, line)) (inl (e, none)) same = absurd (no_term a c unfit.0 none unfit.1)
  one_reason (NotDeterministic x k) (NoLine y m) c (inl (is, unfit, line)) (inr (e, other, none)) same = absurd (no_term b c line.0 none line.1)
  one_reason (NotDeterministic x k) (NoLine y m) c (inr (is, fit, unfit)) (inl (e, none)) same = absurd (no_term a c fit.0 none fit.1)
  one_reason (NotDeterministic x k) (NoLine y m) c (inr (is, fit, unfit)) (inr (e, other, none)) same = absurd (no_term b c unfit.0 none unfit.1)
  one_reason (NotDeterministic x k) (NotDeterministic y m) c (inl (is, unfit, line)) (inl (e, unfits, other)) same = ap₂ NotDeterministic (is ∙ sym e) same
  one_reason (NotDeterministic x k) (NotDeterministic y m) c (inl (is, unfit, line)) (inr (e, fit, other)) same = absurd (never_fit n a c unfit fit)
  one_reason (NotDeterministic x k) (NotDeterministic y m) c (inr (is, fit, unfit)) (inl (e, other, line)) same = absurd (never_fit n a c other fit)
  one_reason (NotDeterministic x k) (NotDeterministic y m) c (inr (is, fit, unfit)) (inr (e, fits, other)) same = ap₂ NotDeterministic (is ∙ sym e) same

  none_fit : (cases : List CaseD) (u : ComparisonFault) → All (AreComparable n a b) cases → IsFirst (AreComparable n a b) (IsReason n a b u) (number_of u) cases → ⊥
  none_fit cases u fit h = no_reason u h.here h.own (all_here (AreComparable n a b) h.before h.after h.here (subst (All (AreComparable n a b)) h.whole fit))

  one_unfit : (cases : List CaseD) (u v : ComparisonFault) → IsFirst (AreComparable n a b) (IsReason n a b u) (number_of u) cases → IsFirst (AreComparable n a b) (IsReason n a b v) (number_of v) cases → u ≡ v
  one_unfit cases u v h g =
      let at = one_first (AreComparable n a b) h.before g.before h.after g.after h.here g.here (sym h.whole ∙ g.whole) h.earlier g.earlier (no_reason u h.here h.own) (no_reason v g.here g.own) in
      one_reason u v g.here (subst (IsReason n a b u) at.0 h.own) g.own (h.number ∙ (ap (λ k. k + 1) at.1 ∙ sym g.number))

  pub compared_once : (cases : List CaseD) (parameters : List (List ℕ)) (x y : Comparison) (r : Refusal) → IsComparison n a b cases x → IsComparison n a b cases y → Refused r ≡ compared_outcome parameters x → compared_outcome parameters y ≡ compared_outcome parameters x
  compared_once cases parameters Alike y r h g is = absurd (cc is)
  compared_once cases parameters (Differ k d name) y r h g is = absurd (cc is)
  compared_once cases parameters (Unlike u) Alike r h g is = absurd (none_fit cases u g.0 h)
  compared_once cases parameters (Unlike u) (Differ k d name) r h g is = absurd (none_fit cases u g.0 h)
  compared_once cases parameters (Unlike u) (Unlike v) r h g is = ap (λ z. compared_outcome parameters (Unlike z)) (one_unfit cases v u g h)
