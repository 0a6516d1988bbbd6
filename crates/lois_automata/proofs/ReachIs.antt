-- What the moves of an automaton lead to from its initial states are its reachable states.
use Rattle.std.proofs.Common.{ℕ, zero, suc, inl, inr, ◌↔◌, List, [], ◌∷◌}
use Rattle.lois_base.specs.Values.{PointValue, IsSame, IsIn}
use Rattle.lois_base.proofs.Members.{same_refl, in_same}
use Rattle.lois_meaning.specs.Automata.{Automaton, IsPair, IsAutomatonOf, HasStep, Reads, IsReachable}
use Rattle.lois_meaning.proofs.Automata.{step_same}
use Rattle.lois_meaning.proofs.Operations.{pair_exists}
use Rattle.lois_automata.specs.Reachability.{Graph, LeadsTo, IsReachedBy, IsReached}
use Rattle.lois_meaning.proofs.Operations.{pair_both, reach_step}
use Rattle.lois_automata.proofs.Paths.{machine_refl, target_in}
use Rattle.lois_automata.proofs.Tuples.{leads_same}

module _ (v : PointValue) (a : Automaton) (is : IsAutomatonOf v a) (moves : PointValue) (made : (w : PointValue) → IsIn w moves ↔ ((p l q : PointValue) × HasStep a p l q × IsPair w p q)) where
  abbrev pub states_graph : Graph
  states_graph = record { nodes = a.states; start = a.initial; moves = moves }

  leads_step : (p q : PointValue) → LeadsTo moves p q → (l : PointValue) × HasStep a p l q
  leads_step p q (x, i, pair) =
      let f = (made x).0 i in
      let both : IsSame f.0 p × IsSame f.2 q = pair_both x x f.0 f.2 p q (same_refl x) f.4 pair in
      (f.1, step_same a a f.0 f.1 f.2 p f.1 q (machine_refl a) both.0 (same_refl f.1) both.1 f.3)

  step_leads : (p l q : PointValue) → HasStep a p l q → LeadsTo moves p q
  step_leads p l q step =
      let x : (x : PointValue) × IsPair x p q = pair_exists p q in
      (x.0, (made x.0).1 (p, l, q, step, x.1), x.1)

  reached_is : (n : ℕ) (q : PointValue) → IsReachedBy states_graph n q → IsReachable a q
  reached_is zero q h = (q, [], h.1, same_refl q)
  reached_is (suc n) q h = elim h [
    | inl k ↦ reached_is n q k
    | inr k ↦
        let step = leads_step k.1.0 q k.1.2 in
        reach_step a k.1.0 step.0 q (reached_is n k.1.0 k.1.1) step.1
  ]

  reached_same : (n : ℕ) (q q' : PointValue) → IsSame q q' → IsReachedBy states_graph n q → IsReachedBy states_graph n q'
  reached_same zero q q' s h = (in_same q q' a.states s h.0, in_same q q' a.initial s h.1)
  reached_same (suc n) q q' s h = elim h [
    | inl k ↦ inl (reached_same n q q' s k)
    | inr k ↦ inr (in_same q q' a.states s k.0, (k.1.0, k.1.1, leads_same moves k.1.0 q k.1.0 q' (same_refl k.1.0) s k.1.2))
  ]

  path_reached : (n : ℕ) (word : List PointValue) (p q : PointValue) → IsReachedBy states_graph n p → Reads a word p q → IsReached states_graph q
  path_reached n [] p q h s = (n, reached_same n p q s h)
  path_reached n (l ∷ word) p q h (r, step, rest) =
      path_reached (suc n) word r q (inr (target_in v a is p l r step, (p, h, step_leads p l r step))) rest

  pub reach_exactly : (q : PointValue) → IsReached states_graph q ↔ IsReachable a q
  reach_exactly q = (
    λ h. reached_is h.0 q h.1,
    λ h. path_reached zero h.1 h.0 q (is.initial_states h.0 h.2, h.2) h.3,
  )
