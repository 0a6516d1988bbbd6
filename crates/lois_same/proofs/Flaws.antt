-- Cases that are no partition.
use Rattle.std.proofs.Common.{◌≡◌, ℕ, List, ◌∷◌, length, ◌∙◌, subst, arith}
use Rattle.std.proofs.lemmas.List.{length-map}
use Rattle.std.proofs.lemmas.List.Elements.{All-head}
use Rattle.lois_base.proofs.Lists.{all_right}
use Rattle.lois_base.specs.Atom.{Atom, whole}
use Rattle.lois_base.specs.Truth.{sampled}
use Rattle.lois_answers.specs.ResultsData.{CaseD}
use Rattle.lois_answers.specs.declared.results.Results.{Results}
use Rattle.lois_cases.proofs.OneCase.{the_case}
use Rattle.lois_cases.specs.Cases.{HoldsAt, NoneHoldsAt, IsCase, IsTheCaseAt, BothHoldAt}
use Rattle.lois_cases.specs.declared.partitions.Partition.{Partition}
use Rattle.lois_cases.specs.declared.partitions.Partition.TheVariants.{Whole, Overlap, Gap}
use Rattle.lois_same.specs.Likenesses.{IsFlaw, IsPartition}

pub sampled_count : {n : ℕ} (s : List ℕ) → length s ≡ n → length (sampled s) ≡ n
sampled_count s e = length-map s whole ∙ e

none_at : (c : List Atom) (cases : List CaseD) (i : ℕ) (k : CaseD) → IsCase cases i k → NoneHoldsAt c cases → HoldsAt c k → ⊥
none_at c cases i k case none here =
    All-head (λ x. HoldsAt c x → ⊥) k case.behind (all_right (λ x. HoldsAt c x → ⊥) case.before (k ∷ case.behind) (subst (NoneHoldsAt c) case.among none)) here

-- where one case alone holds, two don't, and not none
pub alone_or_both : (c : List Atom) (cases : List CaseD) (i m j : ℕ) (k : CaseD) → IsTheCaseAt c cases i k → BothHoldAt c cases m j → ⊥
alone_or_both c cases i m j k the (x, y, less, first, second, here, there) =
    omega (arith, less, (the_case c cases i m k x the first here).0, (the_case c cases i j k y the second there).0)

pub alone_or_none : (c : List Atom) (cases : List CaseD) (i : ℕ) (k : CaseD) → IsTheCaseAt c cases i k → NoneHoldsAt c cases → ⊥
alone_or_none c cases i k the none = none_at c cases i k the.case none the.here

pub both_or_none : (c : List Atom) (cases : List CaseD) (i j : ℕ) → BothHoldAt c cases i j → NoneHoldsAt c cases → ⊥
both_or_none c cases i j (k, l, less, first, second, here, there) none = none_at c cases i k first none here

-- a partition has no flaw
pub no_flaw : (r : Results) (p : Partition) → IsPartition r → IsFlaw r p → ⊥
no_flaw r Whole parted flaw = flaw
no_flaw r (Overlap i j s) parted (count, both) =
    let found = parted (sampled s) (sampled_count s count) in alone_or_both (sampled s) r.cases found.0 i j found.1 found.2 both
no_flaw r (Gap s) parted (count, never, none) =
    let found = parted (sampled s) (sampled_count s count) in alone_or_none (sampled s) r.cases found.0 found.1 found.2 none
