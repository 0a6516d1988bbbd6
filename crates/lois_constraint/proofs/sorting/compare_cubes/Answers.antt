use Rattle.std.proofs.Common.{◌≡◌, length, sym, ap, ◌∙◌, arith}
use Rattle.std.specs.Ordering.{is_lt}
use Rattle.lois_base.specs.declared.guards.Op.TheVariants.{Eq}
use Rattle.lois_constraint.proofs.Sides.{ends_first, decided, goes_on, at_end, lt_by_cmp, within_next}
use Rattle.lois_constraint.proofs.sorting.compare_cubes.Goals as goal

pub returns-in_default : goal.returns-in_default
returns-in_default c =
    ends_first c.args.a.now c.args.b.now c.as_slice-lit-items.result.now c.loop-index.index (record { op = Eq; left = 0; right = 0 }) c.as_slice-lit-items.ensures c.loop-index-test.true c.loop-index.invariant.same c.in_default.ensures

pub returns-then-is_ne : goal.returns-then-is_ne
returns-then-is_ne c =
    decided c.args.a.now c.args.b.now c.as_slice-lit-items.result.now c.loop-index.index _ c.as_slice-lit-items.ensures c.loop-index-test.true c.loop-index.invariant.same c.in-Some.other.now c.in-Some.ensures c.compare_literals-order.result c.compare_literals-order.ensures.before c.compare_literals-order.ensures.same c.if-is_ne.ensures

pub loop-index-preserved : goal.loop-index-preserved
loop-index-preserved c = record {
  within = within_next c.args.b.now c.loop-index.index c.in-Some.other.now c.in-Some.ensures;
  same = goes_on c.args.a.now c.args.b.now c.as_slice-lit-items.result.now c.loop-index.index _ c.as_slice-lit-items.ensures c.loop-index-test.true c.loop-index.invariant.same c.in-Some.other.now c.in-Some.ensures c.compare_literals-order.result c.compare_literals-order.ensures.before c.compare_literals-order.ensures.same c.if-is_ne.ensures;
}

pub returns : goal.returns
returns c =
    let e : c.loop-index.index ≡ length c.args.a.now = omega (arith, ap length c.as_slice-lit-items.ensures) in
    let l : length c.args.a.now ≡ c.len.result = sym c.len.ensures in
    let m : length c.args.b.now ≡ c.len-2.result = sym c.len-2.ensures in
    let f = at_end c.args.a.now c.args.b.now c.loop-index.index e c.loop-index.invariant.same in
    ap is_lt c.cmp.ensures ∙ (lt_by_cmp c.len.result c.len-2.result ∙ rw (sym l, sym m) f)
