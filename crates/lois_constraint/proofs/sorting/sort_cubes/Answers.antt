use Rattle.std.proofs.Common.{rules}
use Rattle.std.proofs.lemmas.List.Sorted.{answers_always}
use Rattle.lois_constraint.specs.Normalised.{cube_before}
use Rattle.lois_constraint.proofs.Ordered.{cube_before_trans, cube_before_irrefl, cube_equal}
use Rattle.lois_constraint.proofs.Sorted.{is_strict, sorted_pairs}
use Rattle.lois_constraint.proofs.sorting.sort_cubes.Goals as goal

pub returns-clause-sorted : goal.returns-clause-sorted
returns-clause-sorted c =
    let strict = is_strict cube_before cube_before_trans cube_before_irrefl cube_equal in
    sorted_pairs cube_before cube_before_trans cube_before_irrefl cube_equal c.sort_unstable_by.new.self.items (c.sort_unstable_by.ensures.sorted cube_before strict (answers_always _ _ _ (λ f a r g h. search rules)))
