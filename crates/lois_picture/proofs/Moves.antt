-- Steps and pairs as they are written, and their ends.
use Rattle.std.proofs.Common.{◌≡◌, ℕ, Bool, inl, inr, List, sym, ◌∙◌, subst}
use Rattle.lois_base.proofs.Members.{same_sym}
use Rattle.lois_base.specs.Atom.{Atom}
use Rattle.lois_base.specs.Data.{TermD}
use Rattle.lois_base.specs.Fits.{Fits}
use Rattle.lois_base.specs.Truth.{sampled}
use Rattle.lois_base.specs.Validity.{AdmitsTerm}
use Rattle.lois_base.specs.Values.{PointValue, point, IsSame}
use Rattle.lois_automata.specs.Projections.{pair_of, triple_of}
use Rattle.lois_automata.proofs.Written.{pair_term, triple_term}
use Rattle.lois_census.proofs.Lists.{Any-weaker}
use Rattle.lois_census.specs.OrbitData.{OrbitD}
use Rattle.lois_census.specs.Orbits.{IsInOrbit, IsInListedOrbit}
use Rattle.lois_meaning.proofs.Operations.{pair_to}
use Rattle.lois_meaning.proofs.Tuples.{triple_to}
use Rattle.lois_picture.specs.Drawing.{IsMoveTerm, HasListedEnds, LiesInNode, IsEdgeOf}
use Rattle.lois_picture.specs.GraphData.{NodeD, EdgeD}
use Rattle.lois_picture.specs.Graphs.{node_orbits, LeadsBy, IsInNode}
use Rattle.lois_picture.proofs.AtChoices.{in_orbit_same}

-- what leads somewhere is written as a step or a pair, from and to the values of its ends
pub move_term : (t : TermD) (c : List Atom) (p q : PointValue) → LeadsBy (point t c) p q → (a b : TermD) × IsMoveTerm t a b × IsSame p (point a c) × IsSame q (point b c)
move_term t c p q (inl (l, h)) =
    let parts = triple_term t c p l q h in
    (parts.0, parts.2, inl (parts.1, parts.3), parts.4, parts.6)
move_term t c p q (inr h) =
    let parts = pair_term t c p q h in
    (parts.0, parts.1, inr parts.2, parts.3, parts.4)

-- a term is so written in one way
one_way : (t a b a' b' : TermD) → IsMoveTerm t a b → IsMoveTerm t a' b' → (a ≡ a') × (b ≡ b')
one_way t a b a' b' (inl (l, e)) (inl (l', e')) =
    let both : triple_of a l b ≡ triple_of a' l' b' = sym e ∙ e' in
    (cc, cc)
one_way t a b a' b' (inr e) (inr e') =
    let both : pair_of a b ≡ pair_of a' b' = sym e ∙ e' in
    (cc, cc)
one_way t a b a' b' (inl (l, e)) (inr e') =
    let both : triple_of a l b ≡ pair_of a' b' = sym e ∙ e' in
    absurd (cc)
one_way t a b a' b' (inr e) (inl (l, e')) =
    let both : pair_of a b ≡ triple_of a' l b' = sym e ∙ e' in
    absurd (cc)

leads_to : (x y p q : PointValue) → IsSame x y → LeadsBy x p q → LeadsBy y p q
leads_to x y p q h (inl (l, k)) = inl (l, triple_to x y p l q h k)
leads_to x y p q h (inr k) = inr (pair_to x y p q h k)

in_node_same : (ordered : Bool) (nodes : List NodeD) (i : ℕ) (v w : PointValue) → IsSame w v → IsInNode ordered nodes i v → IsInNode ordered nodes i w
in_node_same ordered nodes i v w h (before, behind, node, parted, number, inside) = (before, behind, node, parted, number, in_orbit_same ordered node.orbit v w h inside)

listed_same : (ordered : Bool) (os : List OrbitD) (v w : PointValue) → IsSame w v → IsInListedOrbit ordered os v → IsInListedOrbit ordered os w
listed_same ordered os v w h i = Any-weaker (IsInOrbit ordered v) (IsInOrbit ordered w) (λ o k. in_orbit_same ordered o v w h k) os i

module _ (t a b : TermD) (is : IsMoveTerm t a b) where
  ends_same : (c : List Atom) (p q : PointValue) → LeadsBy (point t c) p q → IsSame p (point a c) × IsSame q (point b c)
  ends_same c p q h =
      let own = move_term t c p q h in
      let same = one_way t own.0 own.1 a b own.2 is in
      (subst (λ z. IsSame p (point z c)) same.0 own.3, subst (λ z. IsSame q (point z c)) same.1 own.4)

  pub ends_fit : (n : ℕ) → Fits n t → Fits n a × Fits n b
  ends_fit n h = elim is [
    | inl (l, e) ↦ let f : Fits n (triple_of a l b) = subst (Fits n) e h in (f.0, f.1.1.0)
    | inr e ↦ let f : Fits n (pair_of a b) = subst (Fits n) e h in (f.0, f.1.0)
  ]

  pub ends_admitted : (ordered : Bool) → AdmitsTerm ordered t → AdmitsTerm ordered a × AdmitsTerm ordered b
  ends_admitted ordered h = elim is [
    | inl (l, e) ↦ let f : AdmitsTerm ordered (triple_of a l b) = subst (AdmitsTerm ordered) e h in (f.0, f.1.1.0)
    | inr e ↦ let f : AdmitsTerm ordered (pair_of a b) = subst (AdmitsTerm ordered) e h in (f.0, f.1.0)
  ]

  -- the values of the ends are in the nodes
  pub ends_listed : (ordered : Bool) (nodes : List NodeD) (s : List ℕ) → HasListedEnds ordered nodes (record { item = t; sample = s }) → IsInListedOrbit ordered (node_orbits nodes) (point a (sampled s)) × IsInListedOrbit ordered (node_orbits nodes) (point b (sampled s))
  ends_listed ordered nodes s (p, q, leads, source, target) =
      let same = ends_same (sampled s) p q leads in (
        listed_same ordered (node_orbits nodes) p (point a (sampled s)) (same_sym p (point a (sampled s)) same.0) source,
        listed_same ordered (node_orbits nodes) q (point b (sampled s)) (same_sym q (point b (sampled s)) same.1) target,
      )

  -- where the values of the ends are in two nodes at each choice alike to the sample, an edge between these has its ends
  pub edge_between : (ordered : Bool) (nodes : List NodeD) (s : List ℕ) (e : EdgeD) → e.orbit ≡ record { item = t; sample = s } → LiesInNode ordered nodes a s e.from → LiesInNode ordered nodes b s e.to → IsEdgeOf ordered nodes (record { item = t; sample = s }) e
  edge_between ordered nodes s e own leaves enters = record { orbit = own; ends = subst (λ o. (x p q : PointValue) → IsInOrbit ordered x o → LeadsBy x p q → IsInNode ordered nodes e.from p × IsInNode ordered nodes e.to q) (sym own) at }
    where
      at : (x p q : PointValue) → IsInOrbit ordered x (record { item = t; sample = s }) → LeadsBy x p q → IsInNode ordered nodes e.from p × IsInNode ordered nodes e.to q
      at x p q (d, alike, same) leads =
          let ends = ends_same d p q (leads_to x (point t d) p q same leads) in (
            in_node_same ordered nodes e.from (point a d) p ends.0 (leaves d alike),
            in_node_same ordered nodes e.to (point b d) q ends.1 (enters d alike),
          )
