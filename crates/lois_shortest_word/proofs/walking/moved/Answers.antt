use Rattle.std.proofs.Common.{◌≡◌, ◌+◌, [], ◌∷◌, ◌++◌, take, map, sym, subst}
use Rattle.lois_base.specs.Fits.{Fits}
use Rattle.lois_base.specs.Tree.{tree}
use Rattle.lois_base.proofs.Viewed.{one_more, item_has}
use Rattle.lois_shortest_word.specs.Walks.{IsShiftedLetter, AreShiftedLetters}
use Rattle.lois_shortest_word.proofs.Ways.{moved_push}
use Rattle.lois_shortest_word.proofs.walking.moved.Goals as goal

pub insert_levels-requires-clause-fits : goal.insert_levels-requires-clause-fits
insert_levels-requires-clause-fits c =
    item_has tree (Fits c.args.size) c.as_slice-letter-items.result.now c.args.letters.now c.loop-letter.letter-index c.letter-item.result c.as_slice-letter-items.ensures c.loop-letter-test.true c.letter-item.is c.requires.letters

pub loop-letter-preserved : goal.loop-letter-preserved
loop-letter-preserved c =
    let items = c.as_slice-letter-items.result.now in
    let i = c.loop-letter.letter-index in
    let t = tree c.letter-item.result in
    let r = tree c.in_ok-insert_levels.field-0 in
    let seen : map tree (take (i + 1) items) ≡ map tree (take i items) ++ t ∷ [] = one_more tree items i c.letter-item.result c.loop-letter-test.true c.letter-item.is in
    let moved : IsShiftedLetter c.args.size c.args.by t r = record {
      raised = c.in_ok-insert_levels.ensures.raised;
      levels = c.in_ok-insert_levels.ensures.fits;
      operators = c.in_ok-insert_levels.ensures.operators;
      widths = c.in_ok-insert_levels.ensures.widths;
    } in
    subst (AreShiftedLetters c.args.size c.args.by (map tree (take (i + 1) items))) (sym c.in_ok-push.ensures.ok)
    (subst (λ z. AreShiftedLetters c.args.size c.args.by z (c.loop-letter.among ++ r ∷ [])) (sym seen) (moved_push c.args.size c.args.by (map tree (take i items)) c.loop-letter.among t r c.loop-letter.invariant moved))
