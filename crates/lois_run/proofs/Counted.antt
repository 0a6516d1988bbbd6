-- A refusal of a census is found alone: no other finding has its cause.
use Rattle.std.proofs.Common.{◌≡◌, ℕ, ◌+◌, ◌<◌, Bool, List, [], length, refl, sym, ap, ap₂, ◌∙◌, subst, arith}
use Rattle.std.specs.List.{All}
use Rattle.lois_answers.specs.ResultsData.{CaseD}
use Rattle.lois_answers.specs.declared.results.Results.{Results}
use Rattle.lois_census.specs.Censuses.{HasNamedLine, HasSet}
use Rattle.lois_census.specs.Refusals.{IsFirstWithout, IsCensusRefusal, IsCensusAnswer}
use Rattle.lois_census.specs.declared.counting.Answer.{Answer}
use Rattle.lois_census.specs.declared.counting.Answer.TheVariants.{Listed, Refused as Uncounted}
use Rattle.lois_census.specs.declared.counting.Refusal.{Refusal as Cause}
use Rattle.lois_census.specs.declared.counting.Refusal.TheVariants.{HasParameters, NoLine, NotASet}
use Rattle.lois_command.proofs.Firsts.{all_here, one_first}
use Rattle.lois_run.specs.Lines.{listed_outcome}
use Rattle.lois_run.specs.declared.outcomes.Outcome.TheVariants.{Refused}
use Rattle.lois_run.specs.declared.outcomes.Refusal.{Refusal}

module _ (Has : CaseD → Type 0) (cases : List CaseD) where
  -- of what each case has, none is the first without
  has_all : (k : ℕ) → All Has cases → IsFirstWithout Has cases k → ⊥
  has_all k all h = h.lacks (all_here Has h.before h.after h.case (subst (All Has) h.parted all))

  same_number : (k m : ℕ) → IsFirstWithout Has cases k → IsFirstWithout Has cases m → k ≡ m
  same_number k m h g =
      let at = one_first Has h.before g.before h.after g.after h.case g.case (sym h.parted ∙ g.parted) h.have g.have h.lacks g.lacks in
      h.counted ∙ (ap (λ i. i + 1) at.1 ∙ sym g.counted)

module _ (r : Results) (name : List ℕ) where
  some_parameters : {P : Type 0} → 0 < length r.parameters → r.parameters ≡ [] → P
  some_parameters some none = absurd (omega (arith, some, ap length none))

  one_cause : (x y : Cause) → IsCensusRefusal r name x → IsCensusRefusal r name y → x ≡ y
  one_cause HasParameters HasParameters h g = refl
  one_cause HasParameters (NoLine n k) h (none, is, first) = some_parameters h none
  one_cause HasParameters (NotASet n k) h (none, is, lines, first) = some_parameters h none
  one_cause (NoLine n k) HasParameters (none, is, first) g = some_parameters g none
  one_cause (NoLine n k) (NoLine m l) (none, is, first) (nothing, e, other) = ap₂ NoLine (is ∙ sym e) (same_number (HasNamedLine name) r.cases k l first other)
  one_cause (NoLine n k) (NotASet m l) (none, is, first) (nothing, e, lines, other) = absurd (has_all (HasNamedLine name) r.cases k lines first)
  one_cause (NotASet n k) HasParameters (none, is, lines, first) g = some_parameters g none
  one_cause (NotASet n k) (NoLine m l) (none, is, lines, first) (nothing, e, other) = absurd (has_all (HasNamedLine name) r.cases l lines other)
  one_cause (NotASet n k) (NotASet m l) (none, is, lines, first) (nothing, e, others, other) = ap₂ NotASet (is ∙ sym e) (same_number (HasSet name) r.cases k l first other)

  pub counted_once : (ordered : Bool) (x y : Answer) (q : Refusal) → IsCensusAnswer ordered r name x → IsCensusAnswer ordered r name y → Refused q ≡ listed_outcome x → listed_outcome y ≡ listed_outcome x
  counted_once ordered (Listed cs) y q h g is = absurd (cc is)
  counted_once ordered (Uncounted x) (Uncounted y) q h g is = ap (λ z. listed_outcome (Uncounted z)) (one_cause y x g h)
  counted_once ordered (Uncounted HasParameters) (Listed cs) q h g is = some_parameters h g.parameters
  counted_once ordered (Uncounted (NoLine n k)) (Listed cs) q (none, e, first) g is =
      let set = all_here (HasSet name) first.before first.after first.case (subst (All (HasSet name)) first.parted g.sets) in
      absurd (first.lacks (set.0, set.1))
  counted_once ordered (Uncounted (NotASet n k)) (Listed cs) q (none, e, lines, first) g is = absurd (has_all (HasSet name) r.cases k g.sets first)
