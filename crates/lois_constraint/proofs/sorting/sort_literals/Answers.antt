use Rattle.std.proofs.Common.{◌≡◌, ◌↔◌, rules, subst, sym}
use Rattle.std.specs.Bool.{IsTrue}
use Rattle.std.specs.List.{AllPairs, Contains, dedup}
use Rattle.std.proofs.lemmas.List.Filters.{dedup_is}
use Rattle.std.proofs.lemmas.List.Sorted.{answers_always}
use Rattle.lois_constraint.specs.Normalised.{lit_before}
use Rattle.lois_constraint.proofs.Alike.{lit_eq, lits_same, lit_eq_itself, same_literals}
use Rattle.lois_constraint.proofs.Ordered.{lit_before_trans, lit_before_irrefl, lit_equal}
use Rattle.lois_constraint.proofs.Sorted.{is_strict, sorted_pairs, dedup_increases}
use Rattle.lois_constraint.proofs.sorting.sort_literals.Goals as goal

pub returns-clause-same : goal.returns-clause-same
returns-clause-same c =
    let is : c.dedup.new.self.items ≡ dedup lit_eq c.sort_unstable_by.new.self.items = dedup_is lit_eq _ _ c.dedup.ensures.filtered in
    λ l. subst (λ r. Contains c.args.literals.now.items l ↔ Contains r l) (sym is) (same_literals c.args.literals.now.items c.sort_unstable_by.new.self.items c.sort_unstable_by.ensures.permutation l)

pub returns-clause-increasing : goal.returns-clause-increasing
returns-clause-increasing c =
    let is : c.dedup.new.self.items ≡ dedup lit_eq c.sort_unstable_by.new.self.items = dedup_is lit_eq _ _ c.dedup.ensures.filtered in
    let strict = is_strict lit_before lit_before_trans lit_before_irrefl lit_equal in
    let sorted = c.sort_unstable_by.ensures.sorted lit_before strict (answers_always _ _ _ (λ f a r g h. search rules)) in
    let pairs = sorted_pairs lit_before lit_before_trans lit_before_irrefl lit_equal c.sort_unstable_by.new.self.items sorted in
    subst (AllPairs (λ l m. IsTrue (lit_before l m))) (sym is) (dedup_increases lit_before lit_before_trans lit_before_irrefl lit_equal lit_eq lits_same lit_eq_itself c.sort_unstable_by.new.self.items pairs)
