use Rattle.std.proofs.Common.{◌+◌, ◌<◌, length, ap, arith}
use Rattle.std.proofs.lemmas.Result.{IfOk-weaker}
use Rattle.lois_base.specs.Data.{terms_of}
use Rattle.lois_base.specs.Tree.{tree}
use Rattle.lois_relate.proofs.Parts.{terms_from, terms_are, is_part_of}
use Rattle.lois_minimise.proofs.Ties.{tie_added, tuple_tied, part_tied, parts_tied, no_terms_left}
use Rattle.lois_minimise.proofs.tying.+tying.Goals as goal

pub tie_parts-tie_terms-requires : goal.tie_parts-tie_terms-requires
tie_parts-tie_terms-requires t c =
    let p = is_part_of c.as_slice-parts.result.now c.args.terms.now c.loop-i.i c.index-parts-i.result c.as_slice-parts.ensures c.loop-i-test.true c.index-parts-i.is in
    omega (arith, p.depth)

pub tie_parts-loop-i-preserved : goal.tie_parts-loop-i-preserved
tie_parts-loop-i-preserved t c =
    let parts = c.as_slice-parts.result.now in
    let partners = c.as_slice-partners.result.now in
    let i = c.loop-i.i in
    let other : i < length partners = omega arith in
    let p = is_part_of parts c.args.terms.now i c.index-parts-i.result c.as_slice-parts.ensures c.loop-i-test.true c.index-parts-i.is in
    let q = is_part_of partners c.args.others.now i c.index-partners-i.result c.as_slice-partners.ensures other c.index-partners-i.is in
    part_tied _ _ (terms_from parts i) (terms_from parts (i + 1)) (terms_from partners i) (terms_from partners (i + 1)) (tree c.index-parts-i.result) (tree c.index-partners-i.result) _ c.loop-i.ties.items _ (terms_are parts i c.index-parts-i.result c.loop-i-test.true c.index-parts-i.is) (terms_are partners i c.index-partners-i.result other c.index-partners-i.is) p.fits q.fits (c.in_ok-tie_terms.ensures (cc)) c.loop-i.invariant

pub tie_parts-returns : goal.tie_parts-returns
tie_parts-returns t c = λ yes.
    let parts = c.as_slice-parts.result.now in
    let partners = c.as_slice-partners.result.now in
    parts_tied (terms_of c.args.terms.now) (terms_of c.args.others.now) (terms_from parts c.loop-i.i) (terms_from partners c.loop-i.i) _ _ (no_terms_left parts c.loop-i.i (omega arith)) (no_terms_left partners c.loop-i.i (omega arith)) c.loop-i.invariant

pub tie_terms-returns-in_ok-push-in-Var-Var : goal.tie_terms-returns-in_ok-push-in-Var-Var
tie_terms-returns-in_ok-push-in-Var-Var t c = λ yes.
    tie_added (tree c.args.one.now) (tree c.args.other.now) c.in-Var-Var.i c.in-Var-Var.j (ap tree c.in-Var-Var.is-0) (ap tree c.in-Var-Var.is-1) _ _ c.in_ok-push-in-Var-Var.ensures.items

pub tie_terms-returns-in-Tup-Tup : goal.tie_terms-returns-in-Tup-Tup
tie_terms-returns-in-Tup-Tup t c =
    IfOk-weaker c.tie_parts.result _ _ (λ b adds yes. tuple_tied (tree c.args.one.now) (tree c.args.other.now) _ _ (ap tree c.in-Tup-Tup.is-0) (ap tree c.in-Tup-Tup.is-1) c.args.ties.now.items c.tie_parts.new.ties.items (adds yes)) c.tie_parts.ensures
