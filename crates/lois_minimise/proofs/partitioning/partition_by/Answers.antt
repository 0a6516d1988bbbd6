use Rattle.std.proofs.Common.{◌+◌, ◌⊎◌, ap, arith}
use Rattle.lois_base.specs.Data.{coll, comps_of}
use Rattle.lois_base.specs.Tree.{comp_of}
use Rattle.lois_base.specs.Validity.{AdmitsTerm, AdmitsComp}
use Rattle.lois_algebra.specs.Gathered.{IsAmong}
use Rattle.lois_relate.proofs.Parts.{comps_from, comps_are, no_comps_left, is_comp_of}
use Rattle.lois_automata.proofs.Adding.{added_members}
use Rattle.lois_automata.proofs.Loops.{AddsOnes, ones_begin, ones_more, ones_end}
use Rattle.lois_minimise.specs.Classes.{IsInFirstPart, IsInSecondPart}
use Rattle.lois_minimise.proofs.Covering.{covers_begin, covers_more, covers_end}
use Rattle.lois_minimise.proofs.Partitioned.{are_shared, still_shared}
use Rattle.lois_minimise.proofs.partitioning.partition_by.Goals as goal

pub partition_comp-requires-clause-over : goal.partition_comp-requires-clause-over
partition_comp-requires-clause-over g c =
    let k = is_comp_of c.as_slice-one-items.result.now c.args.items.now c.loop-one.one-index c.one-item.result c.as_slice-one-items.ensures c.loop-one-test.true c.one-item.is in
    record {
      levels = k.fits c.args.size c.requires.over.levels;
      operators = k.admits g.T.Structure.ordered c.requires.over.operators;
    }

pub loop-one-init : goal.loop-one-init
loop-one-init g c =
    let t = coll (comps_of c.args.set.now) in
    let n = c.args.size in
    let items = c.as_slice-one-items.result.now in (
      ones_begin (IsInFirstPart t) (λ o. AdmitsTerm o t) n c.args.items.now items c.new-inside.result c.as_slice-one-items.ensures c.new-inside.ensures,
      ones_begin (IsInSecondPart t) (λ o. AdmitsTerm o t) n c.args.items.now items c.new-outside.result c.as_slice-one-items.ensures c.new-outside.ensures,
      covers_begin n (comps_of c.args.items.now) (comps_from items 0) _ (ap comps_of c.as_slice-one-items.ensures),
    )

pub loop-one-preserved : goal.loop-one-preserved
loop-one-preserved g c =
    let t = coll (comps_of c.args.set.now) in
    let n = c.args.size in
    let k = c.one-item.result in
    let items = c.as_slice-one-items.result.now in
    let i = c.loop-one.one-index in
    let added = c.in_ok-partition_comp.ensures in
    let before = c.loop-one.invariant in (
      ones_more (IsInFirstPart t) (λ o. AdmitsTerm o t) n c.args.items.now (λ o. AdmitsComp o (comp_of k) × AdmitsTerm o t) items i k (comps_of c.loop-one.inside) (comps_of c.partition_comp.new.inside) c.as_slice-one-items.ensures c.loop-one-test.true c.one-item.is (λ o a. a) before.0 added.inside,
      ones_more (IsInSecondPart t) (λ o. AdmitsTerm o t) n c.args.items.now (λ o. AdmitsComp o (comp_of k) × AdmitsTerm o t) items i k (comps_of c.loop-one.outside) (comps_of c.partition_comp.new.outside) c.as_slice-one-items.ensures c.loop-one-test.true c.one-item.is (λ o a. a) before.1 added.outside,
      covers_more n (comps_of c.args.items.now) (comps_from items i) (comps_from items (i + 1)) (comp_of k) _ _ (comps_are items i k c.loop-one-test.true c.one-item.is) (still_shared n (comp_of k) t _ _ _ _ added) (λ d w l. added.each d l w) before.2,
    )

pub returns-clause-shared : goal.returns-clause-shared
returns-clause-shared g c =
    let t = coll (comps_of c.args.set.now) in
    let n = c.args.size in
    let items = c.as_slice-one-items.result.now in
    let i = c.loop-one.one-index in
    let inside = comps_of c.loop-one.inside in
    let outside = comps_of c.loop-one.outside in
    let before = c.loop-one.invariant in
    let one : AddsOnes (IsInFirstPart t) (λ o. AdmitsTerm o t) n c.args.items.now inside = ones_end (IsInFirstPart t) (λ o. AdmitsTerm o t) n c.args.items.now items i inside (omega (arith, c.loop-one-test.false)) before.0 in
    let other : AddsOnes (IsInSecondPart t) (λ o. AdmitsTerm o t) n c.args.items.now outside = ones_end (IsInSecondPart t) (λ o. AdmitsTerm o t) n c.args.items.now items i outside (omega (arith, c.loop-one-test.false)) before.1 in
    are_shared n (comps_of c.args.items.now) inside outside t (added_members n _ _ _ _ inside one) (added_members n _ _ _ _ outside other)
    (covers_end n (comps_of c.args.items.now) (comps_from items i) (λ d w. IsAmong inside d w ⊎ IsAmong outside d w) (no_comps_left items i (omega (arith, c.loop-one-test.false))) before.2)

pub returns-clause-levels : goal.returns-clause-levels
returns-clause-levels g c = (c.loop-one.invariant.0.levels c.requires.over.levels tt, c.loop-one.invariant.1.levels c.requires.over.levels tt)

pub returns-clause-operators : goal.returns-clause-operators
returns-clause-operators g c = λ o a b. (c.loop-one.invariant.0.operators o (a, b) tt, c.loop-one.invariant.1.operators o (a, b) tt)

pub returns-clause-widths : goal.returns-clause-widths
returns-clause-widths g c = λ u. (c.loop-one.invariant.0.widths u tt, c.loop-one.invariant.1.widths u tt)
