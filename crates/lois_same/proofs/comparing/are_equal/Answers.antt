use Rattle.std.proofs.Common.{◌≡◌, sym, ◌∙◌, arith}
use Rattle.std.proofs.lemmas.Slice.Eq.{bytes_eq-Decides}
use Rattle.lois_same.proofs.TextEnds.{not_false, equal_further}
use Rattle.lois_same.proofs.comparing.are_equal.Goals as goal

pub loop-i-preserved : goal.loop-i-preserved
loop-i-preserved c =
    let x = c.index-ours-i.result in
    let y = c.index-theirs-i.result in
    let same : x ≡ y = (bytes_eq-Decides x y).0 (not_false _ (sym c.ne.ensures ∙ c.if-ne.false)) in
    equal_further (c.args.names.now ≡ c.args.others.now) c.as_slice-ours.result.now c.as_slice-theirs.result.now c.loop-i.i x y c.loop-i-test.true (omega (arith, c.loop-i-test.true, c.if-ours-theirs.false)) c.index-ours-i.is c.index-theirs-i.is same c.loop-i.invariant
