use Rattle.std.proofs.Common.{◌+◌, arith, sym, subst}
use Rattle.lois_base.specs.Tree.{tree}
use Rattle.lois_base.specs.declared.values.Comp.{Comp}
use Rattle.lois_relate.specs.Apart.{AreNeverSame}
use Rattle.lois_eval.proofs.Candidates.{AreFoundBelow, has_place, found_none, found_more, found_same}
use Rattle.lois_eval.proofs.relations.later_candidates.Goals as goal
use Rattle.lois_eval.proofs.relations.later_candidates.Goals.{then-not-clash+in_ok-push, else-not-clash}

pub loop-place-init : goal.loop-place-init
loop-place-init c = found_none c.args.comps.now (tree c.args.s.now) c.args.from c.new-places.result.items c.new-places.ensures.items

pub loop-place-preserved : goal.loop-place-preserved
loop-place-preserved c =
    let cs = c.args.comps.now in
    let t = tree c.args.s.now in
    let place = c.loop-place.place in
    let inv = c.loop-place.invariant in
    elim c.if-not-clash.branch [
      | then-not-clash+in_ok-push w ↦
          subst (λ z. AreFoundBelow cs t c.args.from (place + 1) z.items) (sym w.places-is)
          (found_more cs t c.args.from place c.loop-place.places.items w.push.new.self.items (omega (arith, c.loop-place-test.true)) w.in_ok-push.ensures.items inv)
      | else-not-clash w ↦
          subst (λ z. AreFoundBelow cs t c.args.from (place + 1) z.items) (sym w.places-is)
          (found_same cs t c.args.from place c.index-comps-place.result c.loop-place.places.items (omega (arith, c.loop-place-test.true)) c.index-comps-place.is (subst (λ (z : Comp). AreNeverSame (tree z.item) t) (sym c.index-comps-place.is) (c.clash.ensures w.if-not-clash.false)) inv)
    ]

pub returns-clause-all : goal.returns-clause-all
returns-clause-all c i after h =
    c.loop-place.invariant.all i (omega (arith, c.loop-place-test.false, has_place c.args.comps.now (tree c.args.s.now) i h)) after h
