-- What is refused comes to that refusal alone.
use Rattle.std.proofs.Common.{◌≡◌, ℕ, ◌+◌, ◌<◌, Bool, List, [], length, Some, None, option_map, refl, sym, ap, ap₂, ◌∙◌, inl, inr, subst, arith}
use Rattle.std.specs.List.{All}
use Rattle.lois_base.specs.Data.{TermD}
use Rattle.lois_base.specs.Truth.{sampled}
use Rattle.lois_base.specs.Values.{point}
use Rattle.lois_lexer.specs.declared.Place.{Place}
use Rattle.lois_answers.specs.LastNamed.{last_named}
use Rattle.lois_answers.specs.ResultsData.{CaseD, LineD}
use Rattle.lois_answers.specs.declared.results.Results.{Results}
use Rattle.lois_automata.specs.Machines.{IsAutomatonAt}
use Rattle.lois_automata.specs.Deterministic.{IsDeterministicAt}
use Rattle.lois_cases.proofs.OneCase.{one_case}
use Rattle.lois_cases.specs.Cases.{IsTheCaseAt}
use Rattle.lois_cases.specs.declared.partitions.Partition.{Partition}
use Rattle.lois_cases.specs.declared.partitions.Partition.TheVariants as partitions
use Rattle.lois_command.proofs.Firsts.{all_here, one_first}
use Rattle.lois_command.proofs.OnePlace.{results_once, same_results}
use Rattle.lois_command.specs.NoResults.{IsNoResults}
use Rattle.lois_equal.proofs.CaseLines.{one_term}
use Rattle.lois_equal.specs.Comparing.{HasTerm, HasNoLine, IsComparable, IsNotDeterministic, IsFirst}
use Rattle.lois_languages.specs.Faults.{HasAutomaton, LacksAutomaton, fault_number}
use Rattle.lois_languages.specs.Inclusions.{AreSuited, IsInclusion, IsWithinReason}
use Rattle.lois_languages.specs.Witnesses.{IsWitness, IsWordReason}
use Rattle.lois_languages.specs.declared.faults.LineFault.{LineFault}
use Rattle.lois_languages.specs.declared.faults.LineFault.TheVariants.{NoLine, NotAutomaton, NotDeterministic}
use Rattle.lois_languages.specs.declared.inclusions.Inclusion.{Inclusion}
use Rattle.lois_languages.specs.declared.inclusions.Inclusion.TheVariants as included
use Rattle.lois_languages.specs.declared.witnesses.Witness.{Witness}
use Rattle.lois_languages.specs.declared.witnesses.Witness.TheVariants as witnessed
use Rattle.lois_picture.specs.Graphs.{IsRelation}
use Rattle.lois_picture.specs.Pictures.{IsPicture, IsTheLine}
use Rattle.lois_picture.specs.declared.pictures.Picture.{Picture as Found}
use Rattle.lois_picture.specs.declared.pictures.Picture.TheVariants as pictured
use Rattle.lois_picture.specs.declared.pictures.PictureFault.{PictureFault}
use Rattle.lois_picture.specs.declared.pictures.PictureFault.TheVariants as picture
use Rattle.lois_same.proofs.Flaws.{alone_or_both, alone_or_none, both_or_none, no_flaw, sampled_count}
use Rattle.lois_same.specs.Likenesses.{IsLikeness, IsFlaw, IsPartition}
use Rattle.lois_same.specs.TwoTexts.{first_text, second_text}
use Rattle.lois_same.specs.declared.comparing.Likeness.{Likeness}
use Rattle.lois_same.specs.declared.comparing.Likeness.TheVariants as compared
use Rattle.lois_questions.specs.Answers.{Answers, IsWordIn, IsInclusionIn, Tells, TellsBoth, word_outcome, within_outcome, picture_outcome, picture_refusal, IsFlawRefusal, IsSameOutcome}
use Rattle.lois_questions.specs.Causes.{HasCause, IsOfText, IsReadable, first_asked}
use Rattle.lois_questions.specs.Laws.{IsRefusedSo, RefusalsAreSure}
use Rattle.lois_questions.specs.declared.command_line.Question.{Question}
use Rattle.lois_questions.specs.declared.command_line.Question.TheVariants as questions
use Rattle.lois_questions.specs.declared.outcomes.Input.{Input}
use Rattle.lois_questions.specs.declared.outcomes.Input.TheVariants.{First, Second}
use Rattle.lois_questions.specs.declared.outcomes.Outcome.{Outcome}
use Rattle.lois_questions.specs.declared.outcomes.Outcome.TheVariants.{Word, Within, Beyond, Same, Structure, Parameters, Differ, Picture, Refused, ReadFault, Usage}
use Rattle.lois_questions.specs.declared.outcomes.Refusal.{Refusal}
use Rattle.lois_questions.specs.declared.outcomes.Refusal.TheVariants.{TooLong, NotResults, SecondNotResults, NoLine as Missing, NotGraph, HasParameters, NoCase, TwoCases}

-- the very refusal is refused so
so : (u : Refusal) (o : Outcome) → o ≡ Refused u → IsRefusedSo u o
so (NoCase input s) o e = (s, e)
so (TwoCases input i j s) o e = (i, j, s, e)
so _ o e = e

-- ---- a case with a reason isn't as asked for

no_term : (name : List ℕ) (c : CaseD) (t : TermD) → HasNoLine name c → HasTerm name c t → ⊥
no_term name c t none h = apart (sym (ap (option_map (λ l. l.term)) none) ∙ h)
  where
    apart : None ≡ Some t → ⊥
    apart e = cc e

never_automaton : (n : ℕ) (name : List ℕ) (c : CaseD) → LacksAutomaton n name c → HasAutomaton n name c → ⊥
never_automaton n name c (t, h, (d, count, admitted, broken)) (s, g, fit) =
    broken (subst (λ x. IsAutomatonAt x d) (one_term name c s t g h) (fit d count admitted))

never_deterministic : (n : ℕ) (name : List ℕ) (c : CaseD) → IsNotDeterministic n name c → IsComparable n name c → ⊥
never_deterministic n name c (t, h, (d, count, admitted, broken)) (s, g, fit) =
    broken (subst (λ x. IsDeterministicAt x d) (one_term name c s t g h) (fit d count admitted))

-- ---- the first case with a reason is one, and has one reason

module _ (Suits : CaseD → Type 0) (Reason : LineFault → CaseD → Type 0) (no_reason : (u : LineFault) (c : CaseD) → Reason u c → Suits c → ⊥)
    (one_reason : (u v : LineFault) (c : CaseD) → Reason u c → Reason v c → fault_number u ≡ fault_number v → u ≡ v) where
  pub none_suit : (cases : List CaseD) (u : LineFault) → All Suits cases → IsFirst Suits (Reason u) (fault_number u) cases → ⊥
  none_suit cases u fit h = no_reason u h.here h.own (all_here Suits h.before h.after h.here (subst (All Suits) h.whole fit))

  pub one_fault : (cases : List CaseD) (u v : LineFault) → IsFirst Suits (Reason u) (fault_number u) cases → IsFirst Suits (Reason v) (fault_number v) cases → u ≡ v
  one_fault cases u v h g =
      let at = one_first Suits h.before g.before h.after g.after h.here g.here (sym h.whole ∙ g.whole) h.earlier g.earlier (no_reason u h.here h.own) (no_reason v g.here g.own) in
      one_reason u v g.here (subst (Reason u) at.0 h.own) g.own (h.number ∙ (ap (λ k. k + 1) at.1 ∙ sym g.number))

-- ---- `word`

module _ (n : ℕ) (a : List ℕ) where
  no_word_reason : (u : LineFault) (c : CaseD) → IsWordReason n a u c → HasAutomaton n a c → ⊥
  no_word_reason (NoLine name k) c (is, none) fit = no_term a c fit.0 none fit.1
  no_word_reason (NotAutomaton name k) c (is, lacks) fit = never_automaton n a c lacks fit
  no_word_reason (NotDeterministic name k) c why fit = why

  one_word_reason : (u v : LineFault) (c : CaseD) → IsWordReason n a u c → IsWordReason n a v c → fault_number u ≡ fault_number v → u ≡ v
  one_word_reason (NoLine x k) (NoLine y m) c (is, none) (e, neither) same = ap₂ NoLine (is ∙ sym e) same
  one_word_reason (NoLine x k) (NotAutomaton y m) c (is, none) (e, lacks) same = absurd (no_term a c lacks.0 none lacks.1)
  one_word_reason (NotAutomaton x k) (NoLine y m) c (is, lacks) (e, none) same = absurd (no_term a c lacks.0 none lacks.1)
  one_word_reason (NotAutomaton x k) (NotAutomaton y m) c (is, lacks) (e, other) same = ap₂ NotAutomaton (is ∙ sym e) same
  one_word_reason (NotDeterministic x k) v c why other same = absurd why
  one_word_reason u (NotDeterministic y m) c why other same = absurd other

  pub witnessed_once : (cases : List CaseD) (ps : List (List ℕ)) (x y : Witness) (r : Refusal) → IsWitness n a cases x → IsWitness n a cases y → Refused r ≡ word_outcome ps x → word_outcome ps y ≡ word_outcome ps x
  witnessed_once cases ps witnessed.Nothing y r h g is = absurd (cc is)
  witnessed_once cases ps (witnessed.Found k w) y r h g is = absurd (cc is)
  witnessed_once cases ps (witnessed.Refused u) witnessed.Nothing r h g is = absurd (none_suit (HasAutomaton n a) (IsWordReason n a) no_word_reason one_word_reason cases u g.0 h)
  witnessed_once cases ps (witnessed.Refused u) (witnessed.Found k w) r h g is = absurd (none_suit (HasAutomaton n a) (IsWordReason n a) no_word_reason one_word_reason cases u g.0 h)
  witnessed_once cases ps (witnessed.Refused u) (witnessed.Refused v) r h g is =
      ap (λ z. word_outcome ps (witnessed.Refused z)) (one_fault (HasAutomaton n a) (IsWordReason n a) no_word_reason one_word_reason cases v u g h)

-- ---- `within`

module _ (n : ℕ) (a b : List ℕ) where
  no_within_reason : (u : LineFault) (c : CaseD) → IsWithinReason n a b u c → AreSuited n a b c → ⊥
  no_within_reason (NoLine name k) c (inl (is, none)) fit = no_term a c fit.0.0 none fit.0.1
  no_within_reason (NoLine name k) c (inr (is, line, none)) fit = no_term b c fit.1.0 none fit.1.1
  no_within_reason (NotAutomaton name k) c (is, lacks, line) fit = never_automaton n a c lacks fit.0
  no_within_reason (NotDeterministic name k) c (is, fits, unfit) fit = never_deterministic n b c unfit fit.1

  one_within_reason : (u v : LineFault) (c : CaseD) → IsWithinReason n a b u c → IsWithinReason n a b v c → fault_number u ≡ fault_number v → u ≡ v
  one_within_reason (NoLine x k) (NoLine y m) c (inl (is, none)) (inl (e, neither)) same = ap₂ NoLine (is ∙ sym e) same
  one_within_reason (NoLine x k) (NoLine y m) c (inl (is, none)) (inr (e, line, neither)) same = absurd (no_term a c line.0 none line.1)
  one_within_reason (NoLine x k) (NoLine y m) c (inr (is, line, none)) (inl (e, neither)) same = absurd (no_term a c line.0 neither line.1)
  one_within_reason (NoLine x k) (NoLine y m) c (inr (is, line, none)) (inr (e, other, neither)) same = ap₂ NoLine (is ∙ sym e) same
  one_within_reason (NoLine x k) (NotAutomaton y m) c (inl (is, none)) (e, lacks, line) same = absurd (no_term a c lacks.0 none lacks.1)
  one_within_reason (NoLine x k) (NotAutomaton y m) c (inr (is, line, none)) (e, lacks, other) same = absurd (no_term b c other.0 none other.1)
  one_within_reason (NoLine x k) (NotDeterministic y m) c (inl (is, none)) (e, fit, unfit) same = absurd (no_term a c fit.0 none fit.1)
  one_within_reason (NoLine x k) (NotDeterministic y m) c (inr (is, line, none)) (e, fit, unfit) same = absurd (no_term b c unfit.0 none unfit.1)
  one_within_reason (NotAutomaton x k) (NoLine y m) c (is, lacks, line) (inl (e, none)) same = absurd (no_term a c lacks.0 none lacks.1)
  one_within_reason (NotAutomaton x k) (NoLine y m) c (is, lacks, line) (inr (e, other, none)) same = absurd (no_term b c line.0 none line.1)
  one_within_reason (NotAutomaton x k) (NotAutomaton y m) c (is, lacks, line) (e, others, other) same = ap₂ NotAutomaton (is ∙ sym e) same
  one_within_reason (NotAutomaton x k) (NotDeterministic y m) c (is, lacks, line) (e, fit, unfit) same = absurd (never_automaton n a c lacks fit)
  one_within_reason (NotDeterministic x k) (NoLine y m) c (is, fit, unfit) (inl (e, none)) same = absurd (no_term a c fit.0 none fit.1)
  one_within_reason (NotDeterministic x k) (NoLine y m) c (is, fit, unfit) (inr (e, other, none)) same = absurd (no_term b c unfit.0 none unfit.1)
  one_within_reason (NotDeterministic x k) (NotAutomaton y m) c (is, fit, unfit) (e, lacks, line) same = absurd (never_automaton n a c lacks fit)
  one_within_reason (NotDeterministic x k) (NotDeterministic y m) c (is, fit, unfit) (e, fits, other) same = ap₂ NotDeterministic (is ∙ sym e) same

  pub included_once : (cases : List CaseD) (ps : List (List ℕ)) (x y : Inclusion) (r : Refusal) → IsInclusion n a b cases x → IsInclusion n a b cases y → Refused r ≡ within_outcome ps x → within_outcome ps y ≡ within_outcome ps x
  included_once cases ps included.Within y r h g is = absurd (cc is)
  included_once cases ps (included.Beyond k d name) y r h g is = absurd (cc is)
  included_once cases ps (included.Refused u) included.Within r h g is = absurd (none_suit (AreSuited n a b) (IsWithinReason n a b) no_within_reason one_within_reason cases u g.0 h)
  included_once cases ps (included.Refused u) (included.Beyond k d name) r h g is = absurd (none_suit (AreSuited n a b) (IsWithinReason n a b) no_within_reason one_within_reason cases u g.0 h)
  included_once cases ps (included.Refused u) (included.Refused v) r h g is =
      ap (λ z. within_outcome ps (included.Refused z)) (one_fault (AreSuited n a b) (IsWithinReason n a b) no_within_reason one_within_reason cases v u g h)

-- ---- `same`

module _ (r : Results) where
  same_flaw : (input : Input) (p q : Partition) (u v : Refusal) (o : Outcome) → IsFlaw r p → IsFlaw r q → IsFlawRefusal input p u → IsFlawRefusal input q v → o ≡ Refused v → IsRefusedSo u o
  same_flaw input partitions.Whole q u v o h g is e told = absurd h
  same_flaw input p partitions.Whole u v o h g is e told = absurd g
  same_flaw input (partitions.Overlap i j s) (partitions.Overlap k l t) u v o h g is e told =
      subst (λ x. IsRefusedSo x o) (sym is) (k, l, t, told ∙ ap Refused e)
  same_flaw input (partitions.Overlap i j s) (partitions.Gap t) u v o (count, both) (length, never, none) is e told = absurd (never (sampled s) (sampled_count s count) i j both)
  same_flaw input (partitions.Gap s) (partitions.Overlap k l t) u v o (count, never, none) (length, both) is e told = absurd (never (sampled t) (sampled_count t length) k l both)
  same_flaw input (partitions.Gap s) (partitions.Gap t) u v o h g is e told = subst (λ x. IsRefusedSo x o) (sym is) (t, told ∙ ap Refused e)

module _ (r q : Results) where
  -- a flaw of the first, and what else is found; a flaw of the second
  first_flawed : (p : Partition) (y : Likeness) (ps : List (List ℕ)) (u : Refusal) (o : Outcome) → IsFlaw r p → IsFlawRefusal First p u → IsLikeness r q y → IsSameOutcome ps y o → IsRefusedSo u o
  first_flawed p compared.Same ps u o flaw is found told = absurd (no_flaw r p found.0.0 flaw)
  first_flawed p compared.Structure ps u o flaw is found told = absurd (no_flaw r p found.0.0 flaw)
  first_flawed p compared.Parameters ps u o flaw is found told = absurd (no_flaw r p found.0.0 flaw)
  first_flawed p (compared.Differ d) ps u o flaw is found told = absurd (no_flaw r p found.0.0 flaw)
  first_flawed p (compared.First x) ps u o flaw is found (v, e, told) = same_flaw r First p x u v o flaw found is e told
  first_flawed p (compared.Second x) ps u o flaw is found told = absurd (no_flaw r p found.0 flaw)

  second_flawed : (p : Partition) (y : Likeness) (ps : List (List ℕ)) (u : Refusal) (o : Outcome) → IsPartition r → IsFlaw q p → IsFlawRefusal Second p u → IsLikeness r q y → IsSameOutcome ps y o → IsRefusedSo u o
  second_flawed p compared.Same ps u o part flaw is found told = absurd (no_flaw q p found.0.1 flaw)
  second_flawed p compared.Structure ps u o part flaw is found told = absurd (no_flaw q p found.0.1 flaw)
  second_flawed p compared.Parameters ps u o part flaw is found told = absurd (no_flaw q p found.0.1 flaw)
  second_flawed p (compared.Differ d) ps u o part flaw is found told = absurd (no_flaw q p found.0.1 flaw)
  second_flawed p (compared.First x) ps u o part flaw is found told = absurd (no_flaw r x part found)
  second_flawed p (compared.Second x) ps u o part flaw is found (v, e, told) = same_flaw q Second p x u v o flaw found.1 is e told

  refusal_is : (u v : Refusal) → Refused u ≡ Refused v → u ≡ v
  refusal_is u v e = cc e

  compared_once : (x y : Likeness) (ps qs : List (List ℕ)) (u : Refusal) (o : Outcome) → IsLikeness r q x → IsLikeness r q y → IsSameOutcome ps x (Refused u) → IsSameOutcome qs y o → IsRefusedSo u o
  compared_once compared.Same y ps qs u o h g is told = absurd (cc is)
  compared_once compared.Structure y ps qs u o h g is told = absurd (cc is)
  compared_once compared.Parameters y ps qs u o h g is told = absurd (cc is)
  compared_once (compared.Differ d) y ps qs u o h g is told = absurd (cc is)
  compared_once (compared.First p) y ps qs u o h g (v, flaw, is) told = first_flawed p y qs u o h (subst (IsFlawRefusal First p) (sym (refusal_is u v is)) flaw) g told
  compared_once (compared.Second p) y ps qs u o h g (v, flaw, is) told = second_flawed p y qs u o h.0 h.1 (subst (IsFlawRefusal Second p) (sym (refusal_is u v is)) flaw) g told

-- ---- `picture`

module _ (ordered : Bool) (r : Results) (name : List ℕ) where
  no_parameters : 0 < length r.parameters → r.parameters ≡ [] → ⊥
  no_parameters some none = omega (arith, some, ap length none)

  one_line : (i j : ℕ) (k l : LineD) → IsTheLine name r.cases i k → IsTheLine name r.cases j l → (i ≡ j) × (k ≡ l)
  one_line i j k l h g =
      let one = one_case [] r.cases i j h.case g.case h.holding g.holding in
      let lines : Some k ≡ Some l = sym h.line ∙ (ap (λ (c : CaseD). last_named name c.lines) one.1 ∙ g.line) in
      (one.0, cc lines)

  line_or_none : (i j : ℕ) (l : LineD) (k : CaseD) → IsTheLine name r.cases i l → IsTheCaseAt [] r.cases j k → last_named name k.lines ≡ None → ⊥
  line_or_none i j l k h the none =
      let one = one_case [] r.cases i j h.case k h.holding the in
      let lines : Some l ≡ None = sym h.line ∙ (ap (λ (c : CaseD). last_named name c.lines) one.1 ∙ none) in
      cc lines

  pub drawn_once : (x y : Found) (u : Refusal) → IsPicture ordered r name x → IsPicture ordered r name y → Refused u ≡ picture_outcome x → IsRefusedSo u (picture_outcome y)
  drawn_once (pictured.Drawn g) y u h k is = absurd (cc is)
  drawn_once (pictured.Refused v) y u h k is = subst (λ z. IsRefusedSo z (picture_outcome y)) (sym (same_refusal is)) (once v y h k)
    where
      same_refusal : Refused u ≡ Refused (picture_refusal v) → u ≡ picture_refusal v
      same_refusal e = cc e

      once : (v : PictureFault) (y : Found) → IsPicture ordered r name (pictured.Refused v) → IsPicture ordered r name y → IsRefusedSo (picture_refusal v) (picture_outcome y)
      once picture.HasParameters (pictured.Drawn g) h k = absurd (no_parameters h k.0)
      once picture.HasParameters (pictured.Refused picture.HasParameters) h k = refl
      once picture.HasParameters (pictured.Refused picture.NoCase) h k = absurd (no_parameters h k.0)
      once picture.HasParameters (pictured.Refused (picture.TwoCases i j)) h k = absurd (no_parameters h k.0)
      once picture.HasParameters (pictured.Refused (picture.NoLine n i)) h k = absurd (no_parameters h k.0)
      once picture.HasParameters (pictured.Refused (picture.NotGraph n i)) h k = absurd (no_parameters h k.0)
      once picture.NoCase (pictured.Drawn g) (e, none) (f, (i, l, the, graph)) = absurd (alone_or_none [] r.cases i the.case the.holding none)
      once picture.NoCase (pictured.Refused picture.HasParameters) h k = absurd (no_parameters k h.0)
      once picture.NoCase (pictured.Refused picture.NoCase) h k = ([], refl)
      once picture.NoCase (pictured.Refused (picture.TwoCases i j)) (e, none) (f, both) = absurd (both_or_none [] r.cases i j both none)
      once picture.NoCase (pictured.Refused (picture.NoLine n i)) (e, none) (f, is, (c, the, lacks)) = absurd (alone_or_none [] r.cases i c the none)
      once picture.NoCase (pictured.Refused (picture.NotGraph n i)) (e, none) (f, is, (l, the, other_kind, no_pairs)) = absurd (alone_or_none [] r.cases i the.case the.holding none)
      once (picture.TwoCases i j) (pictured.Drawn g) (e, both) (f, (k, l, the, graph)) = absurd (alone_or_both [] r.cases k i j the.case the.holding both)
      once (picture.TwoCases i j) (pictured.Refused picture.HasParameters) h k = absurd (no_parameters k h.0)
      once (picture.TwoCases i j) (pictured.Refused picture.NoCase) (e, both) (f, none) = absurd (both_or_none [] r.cases i j both none)
      once (picture.TwoCases i j) (pictured.Refused (picture.TwoCases k l)) h g = (k, l, [], refl)
      once (picture.TwoCases i j) (pictured.Refused (picture.NoLine n k)) (e, both) (f, is, (c, the, lacks)) = absurd (alone_or_both [] r.cases k i j c the both)
      once (picture.TwoCases i j) (pictured.Refused (picture.NotGraph n k)) (e, both) (f, is, (l, the, other_kind, no_pairs)) = absurd (alone_or_both [] r.cases k i j the.case the.holding both)
      once (picture.NoLine n i) (pictured.Drawn g) (e, is, (c, the, lacks)) (f, (k, l, line, graph)) = absurd (line_or_none k i l c line the lacks)
      once (picture.NoLine n i) (pictured.Refused picture.HasParameters) h k = absurd (no_parameters k h.0)
      once (picture.NoLine n i) (pictured.Refused picture.NoCase) (e, is, (c, the, lacks)) (f, none) = absurd (alone_or_none [] r.cases i c the none)
      once (picture.NoLine n i) (pictured.Refused (picture.TwoCases k l)) (e, is, (c, the, lacks)) (f, both) = absurd (alone_or_both [] r.cases i k l c the both)
      once (picture.NoLine n i) (pictured.Refused (picture.NoLine m j)) (e, is, (c, the, lacks)) (f, also, (d, other, none)) =
          ap₂ (λ (x : List ℕ) (z : ℕ). Refused (Missing x z)) (also ∙ sym is) (one_case [] r.cases j i d c other the).0
      once (picture.NoLine n i) (pictured.Refused (picture.NotGraph m j)) (e, is, (c, the, lacks)) (f, also, (l, line, other_kind, no_pairs)) = absurd (line_or_none j i l c line the lacks)
      once (picture.NotGraph n i) (pictured.Drawn g) (e, is, (l, line, no_automaton, no_relation)) (f, (j, m, other, inl graph)) =
          absurd (no_automaton (subst (λ (x : LineD). IsAutomatonAt x.term []) (one_line j i m l other line).1 graph.6))
      once (picture.NotGraph n i) (pictured.Drawn g) (e, is, (l, line, no_automaton, no_relation)) (f, (j, m, other, inr graph)) =
          absurd (no_relation (subst (λ (x : LineD). IsRelation (point x.term [])) (one_line j i m l other line).1 graph.1))
      once (picture.NotGraph n i) (pictured.Refused picture.HasParameters) h k = absurd (no_parameters k h.0)
      once (picture.NotGraph n i) (pictured.Refused picture.NoCase) (e, is, (l, line, other_kind, no_pairs)) (f, none) = absurd (alone_or_none [] r.cases i line.case line.holding none)
      once (picture.NotGraph n i) (pictured.Refused (picture.TwoCases j k)) (e, is, (l, line, other_kind, no_pairs)) (f, both) = absurd (alone_or_both [] r.cases i j k line.case line.holding both)
      once (picture.NotGraph n i) (pictured.Refused (picture.NoLine m j)) (e, is, (l, line, other_kind, no_pairs)) (f, also, (c, the, lacks)) = absurd (line_or_none i j l c line the lacks)
      once (picture.NotGraph n i) (pictured.Refused (picture.NotGraph m j)) (e, is, (l, line, other_kind, no_pairs)) (f, also, (k, other, nothing, nor_pairs)) =
          ap₂ (λ (x : List ℕ) (z : ℕ). Refused (NotGraph x z)) (also ∙ sym is) (one_line j i k l other line).0

-- ---- whatever else a text comes to

module _ (text : List ℕ) where
  module _ {A : Type 0} (Found : Results → A → Type 0) (outcome : List (List ℕ) → A → Outcome)
      (once : (r : Results) (x y : A) (u : Refusal) → Found r x → Found r y → Refused u ≡ outcome r.parameters x → IsRefusedSo u (outcome r.parameters y)) where
    told_once : (u : Refusal) (o : Outcome) → Tells Found outcome text (Refused u) → Tells Found outcome text o → IsRefusedSo u o
    told_once u o h g =
        let same = results_once text g.results h.results g.read h.read in
        let found : Found h.results g.answer = subst (λ (x : Results). Found x g.answer) same g.found in
        let told : o ≡ outcome h.results.parameters g.answer = g.told ∙ ap (λ (x : Results). outcome x.parameters g.answer) same in
        subst (IsRefusedSo u) (sym told) (once h.results h.answer g.answer u h.found found h.told)

  both_once : (u : Refusal) (o : Outcome) → TellsBoth text (Refused u) → TellsBoth text o → IsRefusedSo u o
  both_once u o h g =
      let first = results_once (first_text text) g.first h.first g.first_read h.first_read in
      let second = results_once (second_text text) g.second h.second g.second_read h.second_read in
      let found : IsLikeness h.first h.second g.answer = subst (λ (x : Results). IsLikeness x h.second g.answer) first (subst (λ (x : Results). IsLikeness g.first x g.answer) second g.found) in
      compared_once h.first h.second h.answer g.answer h.first.parameters g.first.parameters u o h.found found h.told g.told

  answered_once : (q : Question) (u : Refusal) (o : Outcome) → Answers q text (Refused u) → Answers q text o → IsRefusedSo u o
  answered_once (questions.Word a) u o h g =
      told_once (IsWordIn a) word_outcome
      (λ r x y u h g is. so u (word_outcome r.parameters y) (witnessed_once (length r.parameters) a r.cases r.parameters x y u h.0 g.0 is ∙ sym is)) u o h g
  answered_once (questions.Within a b) u o h g =
      told_once (IsInclusionIn a b) within_outcome
      (λ r x y u h g is. so u (within_outcome r.parameters y) (included_once (length r.parameters) a b r.cases r.parameters x y u h.0 g.0 is ∙ sym is)) u o h g
  answered_once questions.Same u o h g = both_once u o h g
  answered_once (questions.Picture a) u o h g =
      told_once (λ r p. IsPicture r.order r a p) (λ ps p. picture_outcome p) (λ r x y u h g is. drawn_once r.order r a x y u h g is) u o h g

  -- ---- a text that isn't read, or is answered

  data Told (q : Question) (o : Outcome) : Type 0 where
    first_unread : (p : Place) → o ≡ Refused (NotResults p) → IsNoResults (first_asked q text) p → Told q o
    second_unread : (p : Place) → o ≡ Refused (SecondNotResults p) → q ≡ questions.Same → IsReadable (first_text text) → IsNoResults (second_text text) p → Told q o
    answered : Answers q text o → Told q o

  told : (q : Question) (o : Outcome) → IsOfText o → HasCause q text o → Told q o
  told q (Refused (TooLong n)) is h = absurd is
  told q (Refused (NotResults p)) is h = first_unread p refl h
  told q (Refused (SecondNotResults p)) is (both, read, none) = second_unread p refl both read none
  told q ReadFault is h = absurd is
  told q Usage is h = absurd is
  told q _ is h = answered h

  first_read : (q : Question) (o : Outcome) → Answers q text o → IsReadable (first_asked q text)
  first_read (questions.Word a) o h = (h.results, h.read)
  first_read (questions.Within a b) o h = (h.results, h.read)
  first_read questions.Same o h = (h.first, h.first_read)
  first_read (questions.Picture a) o h = (h.results, h.read)

  second_read : (q : Question) (o : Outcome) → q ≡ questions.Same → Answers q text o → IsReadable (second_text text)
  second_read q o both h = let pair : TellsBoth text o = subst (λ z. Answers z text o) both h in (pair.second, pair.second_read)

  unreadable : (bytes : List ℕ) (p : Place) → IsNoResults bytes p → IsReadable bytes → ⊥
  unreadable bytes p (k, none, here) (r, read) = none.none r read

  first_of_both : (q : Question) (p : Place) → q ≡ questions.Same → IsNoResults (first_asked q text) p → IsReadable (first_text text) → ⊥
  first_of_both q p both none read = unreadable (first_text text) p (subst (λ z. IsNoResults (first_asked z text) p) both none) read

  surely : (q : Question) (u : Refusal) (o : Outcome) → Told q (Refused u) → Told q o → IsRefusedSo u o
  surely q u o (first_unread p is none) (first_unread s e never) = so u o (e ∙ (ap (λ x. Refused (NotResults x)) (same_results (first_asked q text) p s none never) ∙ sym is))
  surely q u o (first_unread p is none) (second_unread s e both read never) = absurd (first_of_both q p both none read)
  surely q u o (first_unread p is none) (answered h) = absurd (unreadable (first_asked q text) p none (first_read q o h))
  surely q u o (second_unread p is both read none) (first_unread s e never) = absurd (first_of_both q s both never read)
  surely q u o (second_unread p is both read none) (second_unread s e also again never) =
      so u o (e ∙ (ap (λ x. Refused (SecondNotResults x)) (same_results (second_text text) p s none never) ∙ sym is))
  surely q u o (second_unread p is both read none) (answered h) = absurd (unreadable (second_text text) p none (second_read q o both h))
  surely q u o (answered h) (first_unread s e never) = absurd (unreadable (first_asked q text) s never (first_read q (Refused u) h))
  surely q u o (answered h) (second_unread s e both read never) = absurd (unreadable (second_text text) s never (second_read q (Refused u) both h))
  surely q u o (answered h) (answered g) = answered_once q u o h g

pub refusals_are_sure : RefusalsAreSure
refusals_are_sure q text u o of_text refused is cause = surely text q u o (told text q (Refused u) of_text refused) (told text q o is cause)
