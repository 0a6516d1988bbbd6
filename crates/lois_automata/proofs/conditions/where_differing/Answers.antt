use Rattle.std.proofs.Common.{◌+◌, subst, rules}
use Rattle.std.proofs.lemmas.Result.{IfOk-weaker}
use Rattle.lois_base.specs.Tree.{tree, comp_of}
use Rattle.lois_elim.specs.Bound.{HoldsForSomeMore}
use Rattle.lois_automata.specs.Built.{AreBeside}
use Rattle.lois_automata.specs.Projections.{pair_of}
use Rattle.lois_automata.proofs.Apart.{differs_nowhere}
use Rattle.lois_automata.proofs.Clashes.{first_is_no_pair, second_is_no_pair, differing}
use Rattle.lois_automata.proofs.conditions.where_differing.Goals as goal

pub returns-then-keys_clash-clause-truth : goal.returns-then-keys_clash-clause-truth
returns-then-keys_clash-clause-truth g c =
    differs_nowhere c.args.size _ c.new.result c.new.ensures (c.keys_clash.ensures c.if-keys_clash.true)

pub returns-in_default-clause-truth : goal.returns-in_default-clause-truth
returns-in_default-clause-truth g c =
    let both = c.in_ok-both.both in
    first_is_no_pair c.args.size (comp_of c.args.first.now) (comp_of c.args.second.now) both.binders both.guard (tree both.first) (tree both.second) c.in_ok-both.ensures.made c.new-in_default.result c.new-in_default.ensures c.in_default.ensures.none

pub returns-in_default-pair_parts-clause-truth : goal.returns-in_default-pair_parts-clause-truth
returns-in_default-pair_parts-clause-truth g c =
    let both = c.in_ok-both.both in
    second_is_no_pair c.args.size (comp_of c.args.first.now) (comp_of c.args.second.now) both.binders both.guard (tree both.first) (tree both.second) c.in_ok-both.ensures.made c.new-in_default-pair_parts.result c.new-in_default-pair_parts.ensures c.in_default-pair_parts.ensures.none

pub for_some_more-requires-clause-over : goal.for_some_more-requires-clause-over
for_some_more-requires-clause-over g c =
    let inner = c.args.size + c.in_ok-both.both.binders in
    record {
      levels = c.in_ok-clash.ensures.fits inner (c.in_ok-keys.ensures.fits inner c.in_ok-both.ensures.guard_fits c.in_ok-same_key.ensures.levels) c.in_ok-same_value.ensures.levels;
      operators = search rules;
    }

pub returns-clause-truth : goal.returns-clause-truth
returns-clause-truth g c =
    let both = c.in_ok-both.both in
    let n = c.args.size in
    let m = both.binders in
    let k = comp_of c.args.first.now in
    let q = comp_of c.args.second.now in
    let key = tree c.in-Some.key.now in
    let value = tree c.in-Some.value.now in
    let other_key = tree c.in-Some-pair_parts.other_key.now in
    let other_value = tree c.in-Some-pair_parts.other_value.now in
    let beside : AreBeside n k q m both.guard (pair_of key value) (pair_of other_key other_value) =
    subst (λ z. AreBeside n k q m both.guard (pair_of key value) z) c.in-Some-pair_parts.ensures.some (subst (λ z. AreBeside n k q m both.guard z (tree both.second)) c.in-Some.ensures.some c.in_ok-both.ensures.made) in
    IfOk-weaker c.for_some_more.result (HoldsForSomeMore n m c.in_ok-clash.clash) _ (λ r some.
    differing n k q m both.guard key value other_key other_value beside c.in_ok-same_key.same_key c.in_ok-same_value.same_value c.in_ok-keys.keys c.in_ok-clash.clash r
    c.in_ok-same_key.ensures.truth c.in_ok-same_value.ensures.truth c.in_ok-keys.ensures.truth c.in_ok-clash.ensures.truth some) c.for_some_more.ensures.truth
