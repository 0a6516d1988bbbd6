use Rattle.std.proofs.Common.{◌≡◌, ◌<◌, [], ◌∷◌, ◌++◌, ◌+◌, length, take, map, sym, ◌∙◌, subst, arith}
use Rattle.std.specs.List.{AllZip}
use Rattle.std.proofs.lemmas.List.Elements.{AllZip-push}
use Rattle.lois_base.specs.Fits.{Fits}
use Rattle.lois_base.specs.Validity.{AdmitsTerm}
use Rattle.lois_base.proofs.Viewed.{one_more, item_has}
use Rattle.lois_answers.specs.LineView.{line_of}
use Rattle.lois_deciders.proofs.OnlyAsked.{only_asked_then}
use Rattle.lois_interp.specs.Retold.{IsRetoldLine}
use Rattle.lois_interp.proofs.retelling.tells.Goals as goal

pub tells_line-requires-clause-over : goal.tells_line-requires-clause-over
tells_line-requires-clause-over g c =
    let k = c.args.own.now in
    record {
      levels = item_has line_of (λ l. Fits k.size l.term) c.as_slice-lines.result.now k.lines c.loop-i.i c.index-lines-i.result (c.as_slice-lines.ensures.items ∙ c.get.ensures.same) c.loop-i-test.true c.index-lines-i.is k.fitting;
      operators = item_has line_of (λ l. AdmitsTerm g.T.Structure.ordered l.term) c.as_slice-lines.result.now k.lines c.loop-i.i c.index-lines-i.result (c.as_slice-lines.ensures.items ∙ c.get.ensures.same) c.loop-i-test.true c.index-lines-i.is c.requires.own.lines;
    }

pub tells_line-requires-clause-other : goal.tells_line-requires-clause-other
tells_line-requires-clause-other g c =
    let k = c.args.own.now in
    let d = c.args.other.now in
    let size : d.size ≡ k.size = omega (arith, c.if-other-own.false) in
    let below : c.loop-i.i < length c.as_slice-others.result.now = omega (arith, c.loop-i-test.true, c.if-others-lines.false) in
    record {
      levels =
          subst (λ n. Fits n (line_of c.index-others-i.result).term) size
          (item_has line_of (λ l. Fits d.size l.term) c.as_slice-others.result.now d.lines c.loop-i.i c.index-others-i.result (c.as_slice-others.ensures.items ∙ c.get-2.ensures.same) below c.index-others-i.is d.fitting);
      operators = item_has line_of (λ l. AdmitsTerm g.T.Structure.ordered l.term) c.as_slice-others.result.now d.lines c.loop-i.i c.index-others-i.result (c.as_slice-others.ensures.items ∙ c.get-2.ensures.same) below c.index-others-i.is c.requires.other.lines;
    }

pub loop-i-preserved : goal.loop-i-preserved
loop-i-preserved g c =
    let k = c.args.own.now in
    let lines = c.as_slice-lines.result.now in
    let others = c.as_slice-others.result.now in
    let i = c.loop-i.i in
    let l = c.index-lines-i.result in
    let r = c.index-others-i.result in
    let R = IsRetoldLine k.size k.«when» in
    let below : i < length others = omega (arith, c.loop-i-test.true, c.if-others-lines.false) in
    let seen : map line_of (take (i + 1) lines) ≡ map line_of (take i lines) ++ line_of l ∷ [] = one_more line_of lines i l c.loop-i-test.true c.index-lines-i.is in
    let others_seen : map line_of (take (i + 1) others) ≡ map line_of (take i others) ++ line_of r ∷ [] = one_more line_of others i r below c.index-others-i.is in
    record {
      same =
          subst (λ z. AllZip R z (map line_of (take (i + 1) others))) (sym seen)
          (subst (AllZip R (map line_of (take i lines) ++ line_of l ∷ [])) (sym others_seen)
          (AllZip-push R (map line_of (take i lines)) (map line_of (take i others)) (line_of l) (line_of r) c.loop-i.invariant.same (c.in_ok-tells_line.ensures.same c.if-not-branch.false)));
      only_asked = only_asked_then (λ b. (goal.Decider-dyn g (b.vtable, b.value)).kind_of b.value) (λ b. (goal.Decider-dyn g (b.vtable, b.value)).questions b.value) c.args.chosen.now c.loop-i.chosen c.tells_line.new.chosen c.loop-i.invariant.only_asked c.tells_line.ensures.only_asked;
    }
