use Rattle.std.proofs.Common.{◌≡◌, ◌<◌, true, false, ℕ, List, length, IfOk, Contains, sym, subst, ◌∙◌}
use Rattle.std.proofs.lemmas.Result.{IfOk-weaker}
use Rattle.std.specs.List.{All}
use Rattle.lois_base.specs.Patterns.{AreAlike}
use Rattle.lois_base.specs.Truth.{sampled}
use Rattle.lois_ranks.specs.Numberings.{ArePlaces, IsNumbering}
use Rattle.lois_ranks.specs.Ranks.{AreRanks, ComeInTurn, HaveNoGaps}
use Rattle.lois_ranks.proofs.Alike.{alike_apart, alike_ordered}
use Rattle.lois_ranks.proofs.Places.{equal_places, below_places, no_gaps, places_small, different_sorted}
use Rattle.lois_ranks.proofs.ranking.rank_sample.Goals as goal

pub places_among-requires : goal.places_among-requires
places_among-requires g c = λ n h. subst (λ z. Contains z n) (sym c.deref.ensures.value) (c.in_ok-values.ensures.all n h)

pub returns-then-admits-clause-alike : goal.returns-then-admits-clause-alike
returns-then-admits-clause-alike g c =
    let sample : List ℕ = c.args.sample.now in
    let values : List ℕ = c.in_ok-values.values.items in
    let ordered : g.T.Structure.ordered ≡ true = sym c.admits.ensures ∙ c.if-admits.true in
    let rising = c.in_ok-values.ensures.rising in
    subst (λ o. IfOk c.places_among.result (λ r. AreAlike o (sampled sample) (sampled r))) (sym ordered)
    (IfOk-weaker c.places_among.result (ArePlaces values sample) (λ r. AreAlike true (sampled sample) (sampled r))
    (λ r h. alike_ordered sample r h.count (equal_places values sample r h (different_sorted values rising)) (below_places values sample r h rising))
    (subst (λ z. IfOk c.places_among.result (ArePlaces z sample)) c.deref.ensures.value c.places_among.ensures))

pub returns-then-admits-clause-ranked : goal.returns-then-admits-clause-ranked
returns-then-admits-clause-ranked g c =
    let sample : List ℕ = c.args.sample.now in
    let values : List ℕ = c.in_ok-values.values.items in
    let ordered : g.T.Structure.ordered ≡ true = sym c.admits.ensures ∙ c.if-admits.true in
    subst (λ o. IfOk c.places_among.result (AreRanks o)) (sym ordered)
    (IfOk-weaker c.places_among.result (ArePlaces values sample) HaveNoGaps
    (λ r h. no_gaps values sample r h (different_sorted values c.in_ok-values.ensures.rising) c.in_ok-values.ensures.alone)
    (subst (λ z. IfOk c.places_among.result (ArePlaces z sample)) c.deref.ensures.value c.places_among.ensures))

pub returns-clause-alike : goal.returns-clause-alike
returns-clause-alike g c =
    let sample : List ℕ = c.args.sample.now in
    let apart : g.T.Structure.ordered ≡ false = sym c.admits.ensures ∙ c.if-admits.false in
    subst (λ o. IfOk c.places_in_turn.result (λ r. AreAlike o (sampled sample) (sampled r))) (sym apart)
    (IfOk-weaker c.places_in_turn.result (λ r. (values : List ℕ) × IsNumbering sample values r) (λ r. AreAlike false (sampled sample) (sampled r))
    (λ r h. alike_apart sample r h.1.stand.count (equal_places h.0 sample r h.1.stand h.1.different))
    c.places_in_turn.ensures)

pub returns-then-admits-clause-small : goal.returns-then-admits-clause-small
returns-then-admits-clause-small g c =
    let sample : List ℕ = c.args.sample.now in
    let values : List ℕ = c.in_ok-values.values.items in
    IfOk-weaker c.places_among.result (ArePlaces values sample) (All (λ n. n < length sample)) (λ r h. places_small values sample r h c.in_ok-values.ensures.short)
    (subst (λ z. IfOk c.places_among.result (ArePlaces z sample)) c.deref.ensures.value c.places_among.ensures)

pub returns-clause-ranked : goal.returns-clause-ranked
returns-clause-ranked g c =
    let sample : List ℕ = c.args.sample.now in
    let apart : g.T.Structure.ordered ≡ false = sym c.admits.ensures ∙ c.if-admits.false in
    subst (λ o. IfOk c.places_in_turn.result (AreRanks o)) (sym apart)
    (IfOk-weaker c.places_in_turn.result (λ r. (values : List ℕ) × IsNumbering sample values r) ComeInTurn (λ r h. h.1.turn) c.places_in_turn.ensures)

pub returns-clause-small : goal.returns-clause-small
returns-clause-small g c =
    let sample : List ℕ = c.args.sample.now in
    IfOk-weaker c.places_in_turn.result (λ r. (values : List ℕ) × IsNumbering sample values r) (All (λ n. n < length sample)) (λ r h. places_small h.0 sample r h.1.stand h.1.short) c.places_in_turn.ensures
