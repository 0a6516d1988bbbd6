use Rattle.std.proofs.Common.{◌≡◌, ◌+◌, ◌++◌, [], List, drop, map, sym, ap, subst, ◌∙◌, arith}
use Rattle.std.specs.Bool.{IsTrue}
use Rattle.std.proofs.lemmas.List.{length-set, drop_all, append-nil}
use Rattle.std.proofs.lemmas.List.Elements.{All-contains}
use Rattle.std.specs.List.{Contains}
use Rattle.lois_base.specs.Data.{CompD, comps_of}
use Rattle.lois_base.specs.Fits.{ItemsFit}
use Rattle.lois_base.specs.Tree.{comp_of}
use Rattle.lois_base.specs.Validity.{AdmitsItems}
use Rattle.lois_terms.specs.Shapes.{item_shape}
use Rattle.lois_simplify.specs.Covered.{IsCovered}
use Rattle.lois_simplify.specs.Lean.{IsIrredundantComp, HasOwn}
use Rattle.lois_simplify.specs.Simplification.{IsSimplification, set_of}
use Rattle.lois_simplify.proofs.Members.{items_fit_each, items_admit_each}
use Rattle.lois_simplify.proofs.Pass.{UncoveredSoFar, uncovered_begin, next_moved, next_is_there, kept_fit, coming_fit, kept_admit, coming_admit, next_dropped, next_kept, next_shapes, to_the_end}
use Rattle.lois_simplify.proofs.covering.uncovered.Goals as goal
use Rattle.lois_simplify.proofs.covering.uncovered.Goals.{then-not-branch+in_ok-keep, else-not-branch+in-Tag-1, else-not-branch+in-Tup-1, else-not-branch+in-Coll-1, else-not-branch+in-Var-1}

pub loop-index-init : goal.loop-index-init
loop-index-init g c =
    record {
      count = sym c.into_vec-items.result.ok.0 ∙ sym c.len-index-end.ensures;
      so_far = subst (λ z. UncoveredSoFar c.args.under.now c.args.size c.args.comps z (map comp_of c.into_vec-items.result.items)) (sym c.new-kept.ensures)
          (subst (UncoveredSoFar c.args.under.now c.args.size c.args.comps []) (sym c.into_vec-items.ensures) (uncovered_begin c.args.under.now c.args.size c.args.comps));
      kept_shapes = c.new-kept_shapes.ensures ∙ ap (map item_shape) (sym c.new-kept.ensures);
      shapes = sym (ap (map item_shape) c.into_vec-items.ensures);
      asked = g.met.D.Oracle.reaches_itself c.args.decider.now;
    }

pub is_covered-requires-clause-over : goal.is_covered-requires-clause-over
is_covered-requires-clause-over g c =
    let u = c.args.under.now in
    let n = c.args.size in
    let now = c.deref.result.now in
    let i = c.loop-index.index in
    let k = c.replace-comp.result in
    let so_far = next_moved u n c.args.comps c.loop-index.kept c.loop-index.items.items now i k c.index_mut.result.now c.replace-comp.new.dest (omega (arith, c.loop-index-test.true, c.loop-index.invariant.count)) c.replace-comp.ensures.value c.index_mut.ensures.value c.deref.ensures.value c.loop-index.invariant.so_far in
    record {
      levels = items_fit_each n c.args.comps (comp_of k) c.requires.over.levels (next_is_there u n c.args.comps c.loop-index.kept (map comp_of (drop (i + 1) now)) (comp_of k) so_far);
      operators = items_admit_each g.T.Structure.ordered c.args.comps (comp_of k) c.requires.over.operators (next_is_there u n c.args.comps c.loop-index.kept (map comp_of (drop (i + 1) now)) (comp_of k) so_far);
    }

pub is_covered-requires-clause-kept : goal.is_covered-requires-clause-kept
is_covered-requires-clause-kept g c =
    let u = c.args.under.now in
    let n = c.args.size in
    let now = c.deref.result.now in
    let i = c.loop-index.index in
    let k = c.replace-comp.result in
    let so_far = next_moved u n c.args.comps c.loop-index.kept c.loop-index.items.items now i k c.index_mut.result.now c.replace-comp.new.dest (omega (arith, c.loop-index-test.true, c.loop-index.invariant.count)) c.replace-comp.ensures.value c.index_mut.ensures.value c.deref.ensures.value c.loop-index.invariant.so_far in
    record {
      levels = kept_fit u n c.args.comps c.loop-index.kept (map comp_of (drop (i + 1) now)) (comp_of k) so_far c.requires.over.levels;
      operators = kept_admit u n c.args.comps c.loop-index.kept (map comp_of (drop (i + 1) now)) (comp_of k) so_far g.T.Structure.ordered c.requires.over.operators;
    }

pub is_covered-requires-clause-coming : goal.is_covered-requires-clause-coming
is_covered-requires-clause-coming g c =
    let u = c.args.under.now in
    let n = c.args.size in
    let now = c.deref.result.now in
    let i = c.loop-index.index in
    let k = c.replace-comp.result in
    let so_far = next_moved u n c.args.comps c.loop-index.kept c.loop-index.items.items now i k c.index_mut.result.now c.replace-comp.new.dest (omega (arith, c.loop-index-test.true, c.loop-index.invariant.count)) c.replace-comp.ensures.value c.index_mut.ensures.value c.deref.ensures.value c.loop-index.invariant.so_far in
    record {
      levels = subst (λ z. ItemsFit n (comps_of (map comp_of z))) (sym (to_the_end now (i + 1))) (coming_fit u n c.args.comps c.loop-index.kept (map comp_of (drop (i + 1) now)) (comp_of k) so_far c.requires.over.levels);
      operators = subst (λ z. AdmitsItems g.T.Structure.ordered (comps_of (map comp_of z))) (sym (to_the_end now (i + 1))) (coming_admit u n c.args.comps c.loop-index.kept (map comp_of (drop (i + 1) now)) (comp_of k) so_far g.T.Structure.ordered c.requires.over.operators);
    }

pub is_covered-requires-clause-kept_shapes : goal.is_covered-requires-clause-kept_shapes
is_covered-requires-clause-kept_shapes g c = c.loop-index.invariant.kept_shapes

pub is_covered-requires-clause-coming_shapes : goal.is_covered-requires-clause-coming_shapes
is_covered-requires-clause-coming_shapes g c =
    let now = c.deref.result.now in
    let i = c.loop-index.index in
    ap (drop (i + 1)) (c.in_ok-shapes.ensures ∙ ap (map item_shape) (ap (map comp_of) c.as_slice.ensures.value ∙ c.into_vec-items.ensures))
    ∙ subst (λ z. drop (i + 1) (map item_shape c.args.comps) ≡ map item_shape (map comp_of z)) (sym (to_the_end now (i + 1))) (next_shapes (map item_shape c.args.comps) c.loop-index.items.items now i c.replace-comp.new.dest c.deref.ensures.value c.loop-index.invariant.shapes)

pub is_covered-requires-clause-lean : goal.is_covered-requires-clause-lean
is_covered-requires-clause-lean g c =
    let u = c.args.under.now in
    let n = c.args.size in
    let now = c.deref.result.now in
    let i = c.loop-index.index in
    let k = c.replace-comp.result in
    let so_far = next_moved u n c.args.comps c.loop-index.kept c.loop-index.items.items now i k c.index_mut.result.now c.replace-comp.new.dest (omega (arith, c.loop-index-test.true, c.loop-index.invariant.count)) c.replace-comp.ensures.value c.index_mut.ensures.value c.deref.ensures.value c.loop-index.invariant.so_far in
    All-contains (IsIrredundantComp u n) c.args.comps (comp_of k) c.requires.lean (next_is_there u n c.args.comps c.loop-index.kept (map comp_of (drop (i + 1) now)) (comp_of k) so_far)

pub loop-index-preserved : goal.loop-index-preserved
loop-index-preserved g c =
    let u = c.args.under.now in
    let n = c.args.size in
    let now = c.deref.result.now in
    let i = c.loop-index.index in
    let k = c.replace-comp.result in
    let so_far = next_moved u n c.args.comps c.loop-index.kept c.loop-index.items.items now i k c.index_mut.result.now c.replace-comp.new.dest (omega (arith, c.loop-index-test.true, c.loop-index.invariant.count)) c.replace-comp.ensures.value c.index_mut.ensures.value c.deref.ensures.value c.loop-index.invariant.so_far in
    let whole = c.args.comps in
    let kept = c.loop-index.kept in
    let coming : List CompD = map comp_of (drop (i + 1) now) in
    let others = ap (λ z. kept ++ map comp_of z) (to_the_end now (i + 1)) in
    let dropped : IsTrue c.in_ok-is_covered.field-0 → UncoveredSoFar u n whole kept coming = λ t. next_dropped u n whole kept coming (comp_of k) so_far (subst (λ z. IsCovered u n z (comp_of k)) others (c.in_ok-is_covered.ensures.covered t)) in
    record {
      count = length-set c.loop-index.items.items i c.replace-comp.new.dest ∙ c.loop-index.invariant.count;
      so_far =
          subst (λ z. UncoveredSoFar u n whole c.if-not-branch.kept (map comp_of (drop (i + 1) z))) c.deref.ensures.value
          (elim c.if-not-branch.branch [
            | then-not-branch+in_ok-keep w ↦
                let own = subst (λ z. HasOwn u n z (comp_of k)) others (c.in_ok-is_covered.ensures.own w.if-not-branch.true) in
                subst (λ z. UncoveredSoFar u n whole z coming) (sym (w.kept-is ∙ w.in_ok-keep.ensures.kept)) (next_kept u n whole kept coming (comp_of k) so_far own)
            | else-not-branch+in-Tag-1 w ↦ subst (λ z. UncoveredSoFar u n whole z coming) (sym w.kept-is) (dropped w.if-not-branch.false)
            | else-not-branch+in-Tup-1 w ↦ subst (λ z. UncoveredSoFar u n whole z coming) (sym w.kept-is) (dropped w.if-not-branch.false)
            | else-not-branch+in-Coll-1 w ↦ subst (λ z. UncoveredSoFar u n whole z coming) (sym w.kept-is) (dropped w.if-not-branch.false)
            | else-not-branch+in-Var-1 w ↦ subst (λ z. UncoveredSoFar u n whole z coming) (sym w.kept-is) (dropped w.if-not-branch.false)
          ]);
      kept_shapes =
          elim c.if-not-branch.branch [
            | then-not-branch+in_ok-keep w ↦ w.kept_shapes-is ∙ w.in_ok-keep.ensures.shapes ∙ ap (map item_shape) (sym w.kept-is)
            | else-not-branch+in-Tag-1 w ↦ w.kept_shapes-is ∙ c.loop-index.invariant.kept_shapes ∙ ap (map item_shape) (sym w.kept-is)
            | else-not-branch+in-Tup-1 w ↦ w.kept_shapes-is ∙ c.loop-index.invariant.kept_shapes ∙ ap (map item_shape) (sym w.kept-is)
            | else-not-branch+in-Coll-1 w ↦ w.kept_shapes-is ∙ c.loop-index.invariant.kept_shapes ∙ ap (map item_shape) (sym w.kept-is)
            | else-not-branch+in-Var-1 w ↦ w.kept_shapes-is ∙ c.loop-index.invariant.kept_shapes ∙ ap (map item_shape) (sym w.kept-is)
          ];
      shapes =
          subst (λ z. drop (i + 1) (map item_shape c.args.comps) ≡ map item_shape (map comp_of (drop (i + 1) z))) c.deref.ensures.value
          (next_shapes (map item_shape c.args.comps) c.loop-index.items.items now i c.replace-comp.new.dest c.deref.ensures.value c.loop-index.invariant.shapes);
      asked = g.met.D.Oracle.reaches_then c.args.decider.now c.loop-index.decider c.is_covered.new.decider c.loop-index.invariant.asked c.is_covered.ensures.asked;
    }

pub returns-in_err-keep-clause-asked : goal.returns-in_err-keep-clause-asked
returns-in_err-keep-clause-asked g c =
    g.met.D.Oracle.reaches_then c.args.decider.now c.loop-index.decider c.is_covered.new.decider c.loop-index.invariant.asked c.is_covered.ensures.asked

pub returns-clause-kept : goal.returns-clause-kept
returns-clause-kept g c =
    let u = c.args.under.now in
    let n = c.args.size in
    let kept = c.loop-index.kept in
    let items = c.loop-index.items.items in
    let none = drop_all c.loop-index.index items (omega (arith, c.loop-index-test.false, c.loop-index.invariant.count)) in
    let ended = subst (λ z. UncoveredSoFar u n c.args.comps kept (map comp_of z)) none c.loop-index.invariant.so_far in
    subst (λ z. IsSimplification u n (set_of c.args.comps) (set_of z)) (append-nil kept) ended.value

pub returns-clause-only : goal.returns-clause-only
returns-clause-only g c =
    let u = c.args.under.now in
    let n = c.args.size in
    let kept = c.loop-index.kept in
    let items = c.loop-index.items.items in
    let none = drop_all c.loop-index.index items (omega (arith, c.loop-index-test.false, c.loop-index.invariant.count)) in
    let ended = subst (λ z. UncoveredSoFar u n c.args.comps kept (map comp_of z)) none c.loop-index.invariant.so_far in
    subst (λ z. (k : CompD) → Contains z k → Contains c.args.comps k) (append-nil kept) ended.only
