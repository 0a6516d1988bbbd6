use Rattle.std.proofs.Common.{subst, sym, arith}
use Rattle.std.specs.List.{Contains}
use Rattle.std.proofs.lemmas.List.Filters.{dedup_is}
use Rattle.std.proofs.lemmas.List.Kept.{Contains-dedup_nat, Contains-from_dedup}
use Rattle.std.proofs.lemmas.List.Sorted.{Contains-permutation, IsPermutation-sym}
use Rattle.std.proofs.lemmas.Map.Keys.{IsStrictlyIncreasing-dedup}
use Rattle.lois_ranks.proofs.ranking.sorted_values.Goals as goal

pub returns : goal.returns
returns c =
    let is = dedup_is _ _ _ c.dedup.ensures.filtered in
    let moved = c.sort_unstable.ensures.permutation in
    let same = c.in_ok-values.ensures.items in
    record {
      rising = rw is (IsStrictlyIncreasing-dedup _ c.sort_unstable.ensures.sorted);
      all = λ n h. rw is (Contains-dedup_nat _ n (Contains-permutation _ _ n moved (subst (λ z. Contains z n) (sym same) h)));
      alone = λ n h. subst (λ z. Contains z n) same (Contains-permutation _ _ n (IsPermutation-sym _ _ moved) (Contains-from_dedup _ _ n (rw is at h)));
      short = omega (arith, c.dedup.ensures.bound, c.sort_unstable.ensures.len, c.in_ok-values.ensures.len);
    }
