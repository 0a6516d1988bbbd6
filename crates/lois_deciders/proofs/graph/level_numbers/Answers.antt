use Rattle.std.proofs.Common.{ℕ, ◌+◌, ◌<◌, get_or, refl, sym, subst, arith}
use Rattle.std.proofs.lemmas.List.Elements.{All-from_get_or}
use Rattle.lois_deciders.proofs.graph.level_numbers.Goals as goal

pub returns : goal.returns
returns c =
    let xs = c.loop-level.numbers.items in
    let h = c.loop-level.invariant in
    record {
      count = omega (arith, h.count, c.loop-level-test.false, c.loop-level.auto.level-end);
      small = All-from_get_or (λ i. i < c.args.size) xs 0 (λ i l. subst (λ x. x < c.args.size) (sym (h.own i (omega (arith, l, h.count)))) (omega (arith, l, h.count, c.loop-level.auto.level-end)));
      met = refl;
    }
