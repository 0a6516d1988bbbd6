use Rattle.std.proofs.Common.{◌≡◌, ◌++◌, drop, option_map}
use Rattle.lois_vectors_rounds.proofs.Worked.{OptionFits}
use Rattle.lois_vectors_rounds.specs.Worked.{chained_from, chained}
use Rattle.lois_vectors_rounds.proofs.rounds.linked_family.Given as goal

abbrev pub invariant-loop-member : goal.invariant-loop-member
invariant-loop-member l = record {
  so_far : l.next ++ chained_from l.grows (option_map (λ p. p.now) l.before) (drop l.member-index l.member-items) ≡ chained l.grows l.member-items;
  before_fits : OptionFits (option_map (λ p. p.now) l.before);
}
