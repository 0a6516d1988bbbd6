use Rattle.std.proofs.Common.{List, ℕ, get_or, take}
use Rattle.std.proofs.lemmas.List.{take_more}
use Rattle.lois_ranks.proofs.Places.{numbering_more}
use Rattle.lois_ranks.proofs.ranking.places_in_turn.Goals as goal

pub loop-number-preserved : goal.loop-number-preserved
loop-number-preserved c =
    let sample : List ℕ = c.args.sample.now in
    let i : ℕ = c.loop-number.number-index in
    rw (c.in_ok-push.ensures.ok, take_more sample i 0 c.loop-number-test.true)
    (numbering_more (take i sample) c.loop-number.values.items c.loop-number.places c.place_in_turn.new.values.items (get_or sample i 0) c.in_ok-place.place c.loop-number.invariant c.in_ok-place.ensures)
