use Rattle.std.proofs.Common.{refl, sym, subst, ◌∙◌, rules}
use Rattle.std.proofs.lemmas.Bool.{false≢true}
use Rattle.lois_base.specs.Data.{coll, comps_of}
use Rattle.lois_base.specs.Fits.{Fits}
use Rattle.lois_base.specs.Tree.{tree}
use Rattle.lois_base.specs.Validity.{AdmitsTerm}
use Rattle.lois_base.proofs.Validity.{items_admitted, term_admitted}
use Rattle.lois_automata.specs.Built.{AreTargets}
use Rattle.lois_automata.specs.Rounds.{RoundParameters, held, IsSettled}
use Rattle.lois_automata.proofs.Families.{over_length}
use Rattle.lois_automata.proofs.Rounding.{led_on, left_alone, changed, settles, other_left, fresh_sizes, joined_sizes, held_fits, held_admits, news_over, over_sizes, weakened_sizes}
use Rattle.lois_automata.proofs.frontier.FrontierRoundRound.next.Goals as goal

pub returns-then-not-is_over_nodes-clause-none : goal.returns-then-not-is_over_nodes-clause-none
returns-then-not-is_over_nodes-clause-none c =
    let self = c.args.self.now in
    let x : RoundParameters = record { size = self.size; under = self.under; nodes = comps_of self.nodes; moves = coll (comps_of self.moves) } in
    (λ h. other_left x c.args.family.now (sym c.is_over_nodes.ensures ∙ c.if-not-is_over_nodes.true), λ h. refl)

pub set_of_family-requires : goal.set_of_family-requires
set_of_family-requires c =
    let self = c.args.self.now in
    let x : RoundParameters = record { size = self.size; under = self.under; nodes = comps_of self.nodes; moves = coll (comps_of self.moves) } in
    let f = c.args.family.now in
    let g = c.frontier_of-frontier.result.now in
    let over = sym c.is_over_nodes.ensures ∙ c.if-not-is_over_nodes.false in
    let settled : IsSettled x f g = c.frontier_of-frontier.ensures x self.settled in
    let g_over = news_over x f g settled over in
    over_length x.size self.nodes g (over_sizes x.size x.nodes g f (weakened_sizes g f settled.within) ∙ over)

pub targets_from-requires-clause-held : goal.targets_from-requires-clause-held
targets_from-requires-clause-held c =
    let self = c.args.self.now in
    let x : RoundParameters = record { size = self.size; under = self.under; nodes = comps_of self.nodes; moves = coll (comps_of self.moves) } in
    let f = c.args.family.now in
    let g = c.frontier_of-frontier.result.now in
    let over = sym c.is_over_nodes.ensures ∙ c.if-not-is_over_nodes.false in
    let settled : IsSettled x f g = c.frontier_of-frontier.ensures x self.settled in
    let g_over = news_over x f g settled over in
    record {
      levels = subst (λ z. Fits self.size z) (sym c.in_ok-held.ensures) (held_fits self.size (comps_of self.nodes) g g_over c.as_slice-frontier.ensures.fits self.nodes_fit);
      operators = term_admitted (tree c.in_ok-held.held);
    }

pub targets_from-requires-clause-over : goal.targets_from-requires-clause-over
targets_from-requires-clause-over c =
    record {
      levels = search rules;
      operators = items_admitted (comps_of c.args.self.now.moves);
    }

pub fresh_family-requires-clause-nodes : goal.fresh_family-requires-clause-nodes
fresh_family-requires-clause-nodes c =
    record {
      levels = search rules;
      operators = items_admitted (comps_of c.args.self.now.nodes);
    }

pub fresh_family-requires-clause-set_over : goal.fresh_family-requires-clause-set_over
fresh_family-requires-clause-set_over c =
    record {
      levels = search rules;
      operators = term_admitted (tree c.in_ok-targets.targets);
    }

pub returns-then-is_empty_family-clause-none : goal.returns-then-is_empty_family-clause-none
returns-then-is_empty_family-clause-none c =
    let self = c.args.self.now in
    let x : RoundParameters = record { size = self.size; under = self.under; nodes = comps_of self.nodes; moves = coll (comps_of self.moves) } in
    let f = c.args.family.now in
    let g = c.frontier_of-frontier.result.now in
    let over = sym c.is_over_nodes.ensures ∙ c.if-not-is_over_nodes.false in
    let settled : IsSettled x f g = c.frontier_of-frontier.ensures x self.settled in
    let g_over = news_over x f g settled over in
    let targets = tree c.in_ok-targets.targets in
    let are : AreTargets x.size x.moves (coll (held x.nodes g)) targets = subst (λ z. AreTargets x.size x.moves z targets) c.in_ok-held.ensures c.in_ok-targets.ensures.members in
    (λ h. left_alone x f g targets are settled.within g_over over settled.settled c.in_ok-fresh.fresh c.as_slice-fresh.ensures.fits c.in_ok-fresh.ensures.members (c.is_empty_family.ensures.0 c.if-is_empty_family.true), λ h. refl)

pub join_family-requires : goal.join_family-requires
join_family-requires c =
    let self = c.args.self.now in
    fresh_sizes self.size self.under (tree c.in_ok-targets.targets) (comps_of self.nodes) c.args.family.now c.in_ok-fresh.fresh c.in_ok-fresh.ensures.members

pub returns-clause-none : goal.returns-clause-none
returns-clause-none c =
    let self = c.args.self.now in
    let x : RoundParameters = record { size = self.size; under = self.under; nodes = comps_of self.nodes; moves = coll (comps_of self.moves) } in
    let f = c.args.family.now in
    let g = c.frontier_of-frontier.result.now in
    let over = sym c.is_over_nodes.ensures ∙ c.if-not-is_over_nodes.false in
    let settled : IsSettled x f g = c.frontier_of-frontier.ensures x self.settled in
    let g_over = news_over x f g settled over in
    let targets = tree c.in_ok-targets.targets in
    let are : AreTargets x.size x.moves (coll (held x.nodes g)) targets = subst (λ z. AreTargets x.size x.moves z targets) c.in_ok-held.ensures c.in_ok-targets.ensures.members in
    (λ h. absurd (false≢true (sym h)), λ h. absurd (changed x f g targets are settled.within g_over over settled.settled c.in_ok-fresh.fresh c.as_slice-fresh.ensures.fits c.in_ok-fresh.ensures.members (λ blank. false≢true (sym c.if-is_empty_family.false ∙ c.is_empty_family.ensures.1 blank)) h))

pub invariant_of-self-2-clause-settled : goal.invariant_of-self-2-clause-settled
invariant_of-self-2-clause-settled c =
    let self = c.args.self.now in
    let x : RoundParameters = record { size = self.size; under = self.under; nodes = comps_of self.nodes; moves = coll (comps_of self.moves) } in
    let f = c.args.family.now in
    let g = c.frontier_of-frontier.result.now in
    let over = sym c.is_over_nodes.ensures ∙ c.if-not-is_over_nodes.false in
    let settled : IsSettled x f g = c.frontier_of-frontier.ensures x self.settled in
    let g_over = news_over x f g settled over in
    let targets = tree c.in_ok-targets.targets in
    let are : AreTargets x.size x.moves (coll (held x.nodes g)) targets = subst (λ z. AreTargets x.size x.moves z targets) c.in_ok-held.ensures c.in_ok-targets.ensures.members in
    subst (λ z. IsSettled x z c.in_ok-fresh.fresh) (sym c.in_ok-known.ensures) (settles x f g targets are settled.within g_over over settled.settled c.in_ok-fresh.fresh c.as_slice-fresh.ensures.fits c.in_ok-fresh.ensures.members c.in_ok-joined.joined c.in_ok-joined.ensures.members)

pub returns-clause-led : goal.returns-clause-led
returns-clause-led c =
    let self = c.args.self.now in
    let x : RoundParameters = record { size = self.size; under = self.under; nodes = comps_of self.nodes; moves = coll (comps_of self.moves) } in
    let f = c.args.family.now in
    let g = c.frontier_of-frontier.result.now in
    let over = sym c.is_over_nodes.ensures ∙ c.if-not-is_over_nodes.false in
    let settled : IsSettled x f g = c.frontier_of-frontier.ensures x self.settled in
    let g_over = news_over x f g settled over in
    let targets = tree c.in_ok-targets.targets in
    let are : AreTargets x.size x.moves (coll (held x.nodes g)) targets = subst (λ z. AreTargets x.size x.moves z targets) c.in_ok-held.ensures c.in_ok-targets.ensures.members in
    led_on x f g targets are settled.within g_over over settled.settled c.in_ok-fresh.fresh c.as_slice-fresh.ensures.fits c.in_ok-fresh.ensures.members c.in_ok-joined.joined c.in_ok-joined.ensures.members

pub returns-clause-sizes : goal.returns-clause-sizes
returns-clause-sizes c = joined_sizes c.args.family.now c.in_ok-fresh.fresh c.in_ok-joined.joined c.in_ok-joined.ensures.members

pub returns-clause-operators : goal.returns-clause-operators
returns-clause-operators c o own admitted =
    let self = c.args.self.now in
    let x : RoundParameters = record { size = self.size; under = self.under; nodes = comps_of self.nodes; moves = coll (comps_of self.moves) } in
    let f = c.args.family.now in
    let g = c.frontier_of-frontier.result.now in
    let settled : IsSettled x f g = c.frontier_of-frontier.ensures x self.settled in
    let ks = comps_of c.args.self.now.nodes in
    let kept : AdmitsTerm o (tree c.in_ok-held.held) = subst (λ z. AdmitsTerm o z) (sym c.in_ok-held.ensures) (held_admits o ks g (settled.operators o admitted) own.1) in
    let targets = c.in_ok-targets.ensures.operators o own.2 kept in
    c.in_ok-joined.ensures.operators o admitted (c.in_ok-fresh.ensures.operators o own.1 admitted targets own.0)
