-- After n rounds a family holds exactly what at most n moves lead to, and where a round changes nothing, all that is reached.
use Rattle.std.proofs.Common.{◌≡◌, ℕ, zero, suc, true, List, [], ◌∷◌, ◌++◌, length, ◌↔◌, ◌⊎◌, inl, inr, refl, sym, ◌∙◌, subst}
use Rattle.std.specs.Bool.{IsTrue}
use Rattle.lois_base.specs.Atom.{Atom}
use Rattle.lois_base.specs.Data.{TermD, coll, comp, CompsD, no_comps, more}
use Rattle.lois_base.specs.Truth.{holds}
use Rattle.lois_base.specs.Values.{PointValue, point}
use Rattle.lois_base.proofs.Members.{same_refl, same_sym}
use Rattle.lois_base.specs.declared.guards.Lit.{Lit}
use Rattle.lois_algebra.specs.Gathered.{IsAmong, IsCompMember}
use Rattle.lois_algebra.proofs.Among.{among_in}
use Rattle.lois_rounds.specs.Equivalences.{equivalent_sym}
use Rattle.lois_rounds.specs.Families.{MemberD, FamilyD}
use Rattle.lois_rounds.specs.Rounds.{LeadsAfter, LeavesEquivalent, IsFirstUnchanged}
use Rattle.lois_automata.specs.Reachability.{Graph, LeadsTo, IsReachedBy, IsReached}
use Rattle.lois_automata.specs.Rounds.{RoundParameters, is_over, held, IsPropagatedMember, ArePropagated, PropagatesIf, Propagates}
use Rattle.lois_automata.specs.RoundsLaw.{is_over_true, held_same}
use Rattle.lois_automata.proofs.Tuples.{leads_same}

-- a round keeps the sizes
spread_over : (x : RoundParameters) (n : ℕ) (f : FamilyD) (ks : CompsD) (b a : FamilyD) → ArePropagated x f ks b a → is_over n ks a ≡ is_over n ks b
spread_over x n f no_comps [] [] h = refl
spread_over x n f no_comps [] (s ∷ a) h = absurd h
spread_over x n f no_comps (r ∷ b) [] h = absurd h
spread_over x n f no_comps (r ∷ b) (s ∷ a) h = absurd h
spread_over x n f (more (comp m q t) ks) [] a h = absurd h
spread_over x n f (more (comp m q t) ks) (r ∷ b) [] h = absurd h
spread_over x n f (more (comp m q t) ks) (r ∷ b) (s ∷ a) h = rw (h.0.size, spread_over x n f ks b a h.1)

-- where a family over the nodes is led
pub spreads_where : (x : RoundParameters) (f g : FamilyD) → is_over x.size x.nodes f ≡ true → Propagates x f g → ArePropagated x f x.nodes f g
spreads_where x f g e h = subst (λ b. PropagatesIf b x f g) e h

pub where_spreads : (x : RoundParameters) (f g : FamilyD) → is_over x.size x.nodes f ≡ true → ArePropagated x f x.nodes f g → Propagates x f g
where_spreads x f g e h = subst (λ b. PropagatesIf b x f g) (sym e) h

module _ (x : RoundParameters) (c : List Atom) (l : length c ≡ x.size) (admitted : IsTrue (holds c x.under)) where
  -- a move leads to the node w from what the family holds
  abbrev pub IsNext : FamilyD → CompsD → PointValue → Type 0
  IsNext f ks w = IsAmong ks c w × ((p : PointValue) × IsAmong (held x.nodes f) c p × LeadsTo (point x.moves c) p w)

  spread_one : (f : FamilyD) (m : ℕ) (q : List (List Lit)) (t : TermD) (b a : MemberD) (w : PointValue) → IsPropagatedMember x f m q t b a →
      IsCompMember (comp m a.1 t) c w ↔ (IsCompMember (comp m b.1 t) c w ⊎ (IsCompMember (comp m q t) c w × ((p : PointValue) × IsAmong (held x.nodes f) c p × LeadsTo (point x.moves c) p w)))
  spread_one f m q t b a w h = (there, back)
    where
      there : IsCompMember (comp m a.1 t) c w → IsCompMember (comp m b.1 t) c w ⊎ (IsCompMember (comp m q t) c w × ((p : PointValue) × IsAmong (held x.nodes f) c p × LeadsTo (point x.moves c) p w))
      there (e, ext, s) = elim ((h.truth c e l ext.count).0 ext.guard) [
        | inl k ↦ inl (e, record { count = ext.count; guard = k }, s)
        | inr k ↦ inr ((e, record { count = ext.count; guard = k.guard }, s), (k.from.0, k.from.1, leads_same (point x.moves c) k.from.0 (point t (c ++ e)) k.from.0 w (same_refl k.from.0) s k.from.2))
      ]

      back : IsCompMember (comp m b.1 t) c w ⊎ (IsCompMember (comp m q t) c w × ((p : PointValue) × IsAmong (held x.nodes f) c p × LeadsTo (point x.moves c) p w)) → IsCompMember (comp m a.1 t) c w
      back (inl (e, ext, s)) = (e, record { count = ext.count; guard = (h.truth c e l ext.count).1 (inl ext.guard) }, s)
      back (inr ((e, ext, s), (p, i, lead))) = (e, record { count = ext.count; guard = (h.truth c e l ext.count).1 (inr (record { admitted = admitted; guard = ext.guard; from = (p, i, leads_same (point x.moves c) p w p (point t (c ++ e)) (same_refl p) (same_sym (point t (c ++ e)) w s) lead) })) }, s)

  pub held_spread : (f : FamilyD) (ks : CompsD) (b a : FamilyD) (w : PointValue) → ArePropagated x f ks b a → IsAmong (held ks a) c w ↔ (IsAmong (held ks b) c w ⊎ IsNext f ks w)
  held_spread f no_comps [] [] w h = (λ k. absurd k, λ k. elim k [ inl p ↦ p | inr p ↦ p.0 ])
  held_spread f no_comps [] (s ∷ a) w h = absurd h
  held_spread f no_comps (r ∷ b) [] w h = absurd h
  held_spread f no_comps (r ∷ b) (s ∷ a) w h = absurd h
  held_spread f (more (comp m q t) ks) [] a w h = absurd h
  held_spread f (more (comp m q t) ks) (r ∷ b) [] w h = absurd h
  held_spread f (more (comp m q t) ks) (r ∷ b) (s ∷ a) w h =
      let one = spread_one f m q t r s w h.0 in
      let rest = held_spread f ks b a w h.1 in (
        λ k. elim k [
          | inl p ↦ elim (one.0 p) [ inl i ↦ inl (inl i) | inr i ↦ inr (inl i.0, i.1) ]
          | inr p ↦ elim (rest.0 p) [ inl i ↦ inl (inr i) | inr i ↦ inr (inr i.0, i.1) ]
        ],
        λ k. elim k [
          | inl p ↦ elim p [ inl i ↦ inl (one.1 (inl i)) | inr i ↦ inr (rest.1 (inl i)) ]
          | inr p ↦ elim p.0 [ inl i ↦ inl (one.1 (inr (i, p.1))) | inr i ↦ inr (rest.1 (inr (i, p.1))) ]
        ],
      )

  module _ (s : PointValue) (start : FamilyD) (over : is_over x.size x.nodes start ≡ true) where
    abbrev graph : Graph
    graph = record { nodes = point (coll x.nodes) c; start = s; moves = point x.moves c }

    -- at first the family holds the nodes to start at
    module _ (begun : (w : PointValue) → IsAmong (held x.nodes start) c w ↔ IsReachedBy graph zero w) where
      abbrev IsAfter : ℕ → FamilyD → Type 0
      IsAfter k f = (is_over x.size x.nodes f ≡ true) × ((w : PointValue) → IsAmong (held x.nodes f) c w ↔ IsReachedBy graph k w)

      one_more : (k : ℕ) (f h : FamilyD) → IsAfter k f → Propagates x f h → IsAfter (suc k) h
      one_more k f h (o, same) led =
          let spread = spreads_where x f h o led in (
            spread_over x x.size f x.nodes f h spread ∙ o,
            λ w.
                let all = held_spread f x.nodes f h w spread in
                let node = among_in x.nodes c w in (
                  λ i. elim (all.0 i) [ inl j ↦ inl ((same w).0 j) | inr j ↦ inr (node.0 j.0, (j.1.0, (same j.1.0).0 j.1.1, j.1.2)) ],
                  λ i. all.1 (elim i [ inl j ↦ inl ((same w).1 j) | inr j ↦ inr (node.1 j.0, (j.1.0, (same j.1.0).1 j.1.1, j.1.2)) ]),
                ),
          )

      after : (k : ℕ) (f : FamilyD) → LeadsAfter (Propagates x) k start f → IsAfter k f
      after zero f h = subst (λ g. IsAfter zero g) h (over, begun)
      after (suc k) f (g, led, fits, one) = one_more k g f (after k g led) one

      -- what one more move leads to is held already
      closed : (f : FamilyD) (w : PointValue) → is_over x.size x.nodes f ≡ true → LeavesEquivalent (Propagates x) f → IsNext f x.nodes w → IsAmong (held x.nodes f) c w
      closed f w o (g, led, same) next =
          let spread = spreads_where x f g o led in
          let o' : is_over x.size x.nodes g ≡ true = spread_over x x.size f x.nodes f g spread ∙ o in
          held_same x.size x.nodes g f c w l (is_over_true x.size x.nodes g o') (equivalent_sym f g same) ((held_spread f x.nodes f g w spread).1 (inr next))

      first_stays : (k : ℕ) (w : PointValue) → IsReachedBy graph zero w → IsReachedBy graph k w
      first_stays zero w h = h
      first_stays (suc k) w h = inl (first_stays k w h)

      no_more : (k n : ℕ) (w : PointValue) → ((v : PointValue) → IsReachedBy graph (suc k) v → IsReachedBy graph k v) → IsReachedBy graph n w → IsReachedBy graph k w
      no_more k zero w stays h = first_stays k w h
      no_more k (suc n) w stays h = elim h [
        | inl i ↦ no_more k n w stays i
        | inr i ↦ stays w (inr (i.0, (i.1.0, no_more k n i.1.0 stays i.1.1, i.1.2)))
      ]

      -- the first family that a round leaves equivalent holds exactly what is reached
      pub holds_reached : (f : FamilyD) → IsFirstUnchanged (Propagates x) start f → (w : PointValue) → IsAmong (held x.nodes f) c w ↔ IsReached graph w
      holds_reached f h w =
          let k = h.rounds in
          let done = after k f h.reached in
          let stays : (v : PointValue) → IsReachedBy graph (suc k) v → IsReachedBy graph k v =
          λ v i. elim i [
            | inl j ↦ j
            | inr j ↦ (done.1 v).0 (closed f v done.0 h.unchanged ((among_in x.nodes c v).1 j.0, (j.1.0, (done.1 j.1.0).1 j.1.1, j.1.2)))
          ] in (
            λ i. (k, (done.1 w).0 i),
            λ i. (done.1 w).1 (no_more k i.0 w stays i.1),
          )
