-- The node that has a value, which is looked for among those of its shape.
use Rattle.std.proofs.Common.{◌≡◌, ℕ, ◌+◌, ◌<◌, Bool, List, [], ◌∷◌, ◌++◌, length, get_or, map, take, drop, refl, sym, ap, ◌∙◌, subst, slice_get, Some, arith}
use Rattle.std.proofs.lemmas.List.{get_or-map, length-map, length-take-le, take-append-drop}
use Rattle.std.proofs.lemmas.List.Elements.{All-contains}
use Rattle.std.proofs.lemmas.Option.{slice_get-get_or, slice_get-map}
use Rattle.std.specs.Bool.{IsTrue}
use Rattle.std.specs.List.{All, Contains}
use Rattle.std.specs.Prelude.{option_map}
use Rattle.lois_base.proofs.Viewed.{item_at, rest_at}
use Rattle.lois_base.specs.Atom.{Atom}
use Rattle.lois_base.specs.Data.{TermD}
use Rattle.lois_base.specs.Truth.{sampled}
use Rattle.lois_base.specs.Values.{point, IsSame}
use Rattle.lois_terms.specs.Shapes.{shape_of}
use Rattle.lois_census.specs.OrbitData.{OrbitD}
use Rattle.lois_census.specs.Orbits.{IsInOrbit, IsInListedOrbit}
use Rattle.lois_picture.specs.Drawing.{TellsOrbit, LiesInNode, shapes_of}
use Rattle.lois_picture.specs.GraphData.{NodeD}
use Rattle.lois_picture.specs.Graphs.{node_orbits}
use Rattle.lois_picture.specs.NodeView.{node_of}
use Rattle.lois_picture.specs.declared.graphs.Node.{Node}
use Rattle.lois_picture.proofs.AtChoices.{alike_self}

module _ (ordered : Bool) (nodes : List NodeD) (t : TermD) (s : List ℕ) where
  -- the value isn't in the orbit that stands there
  abbrev pub IsOutsideAt : ℕ → Type 0
  IsOutsideAt j =
      (o : OrbitD) → j < length (node_orbits nodes) → get_or (node_orbits nodes) j o ≡ o → IsInOrbit ordered (point t (sampled s)) o → ⊥

  module _ (items : List Node) (j : ℕ) (x : Node) (all : map node_of items ≡ nodes) (l : j < length items) (is : x ≡ get_or items j x) where
    there : node_of x ≡ get_or nodes j (node_of x)
    there = item_at node_of items nodes j x all l is

    within : j < length nodes
    within = subst (λ z. j < length z) all (omega (arith, l, length-map items node_of))

    pub outside_here : (b : Bool) → TellsOrbit ordered t s (node_of x).orbit b → (IsTrue b → ⊥) → IsOutsideAt j
    outside_here b tells never o short same inside =
        let here : (node_of x).orbit ≡ o =
        ap (λ v. v.orbit) there ∙ (sym (get_or-map (λ v. v.orbit) nodes j (node_of x) o within) ∙ same) in
        never ((tells (sampled s) (alike_self ordered (sampled s))).1 (subst (IsInOrbit ordered (point t (sampled s))) (sym here) inside))

    pub lies_here : (b : Bool) → TellsOrbit ordered t s (node_of x).orbit b → IsTrue b → LiesInNode ordered nodes t s (j + 1)
    lies_here b tells h d alike = (
      take j nodes,
      drop (j + 1) nodes,
      node_of x,
      sym (take-append-drop j nodes) ∙ (ap (λ z. take j nodes ++ z) (rest_at nodes j (node_of x) within) ∙ ap (λ z. take j nodes ++ z ∷ drop (j + 1) nodes) (sym there)),
      ap (λ k. k + 1) (sym (length-take-le j nodes (omega (arith, within)))),
      (tells d alike).0 h,
    )

  pub position_within : (items : List Node) (shapes positions : List ℕ) (i d : ℕ) → map node_of items ≡ nodes → shapes ≡ shapes_of nodes → All (λ j. j < length shapes) positions → i < length positions → get_or positions i d < length items
  position_within items shapes positions i d all are inside l =
      let counted : length shapes ≡ length items =
      ap length are ∙ (length-map nodes (λ v. shape_of v.orbit.item) ∙ (ap length (sym all) ∙ length-map items node_of)) in
      subst (λ k. get_or positions i d < k) counted (inside i d l)

  -- each orbit of the value's shape was looked at
  pub not_nowhere : (n : ℕ) (shapes positions : List ℕ) → shapes ≡ shapes_of nodes → ((u : TermD) (c d : List Atom) → IsSame (point t c) (point u d) → n ≡ shape_of u) → ((i : ℕ) → slice_get shapes i ≡ Some n → Contains positions i) → All IsOutsideAt positions → IsInListedOrbit ordered (node_orbits nodes) (point t (sampled s)) → ⊥
  not_nowhere n shapes positions are same found none (i, o, l, here, inside) =
      let shape : n ≡ shape_of o.item = same o.item (sampled s) inside.0 inside.2 in
      let long : i < length nodes = subst (λ k. i < k) (length-map nodes (λ v. v.orbit)) l in
      let of_orbits : shapes_of nodes ≡ map (λ k. shape_of k.item) (node_orbits nodes) = shapes_by_orbit nodes in
      let at : slice_get (map (λ k. shape_of k.item) (node_orbits nodes)) i ≡ Some (shape_of o.item) =
      slice_get-map (λ k. shape_of k.item) (node_orbits nodes) i ∙ ap (option_map (λ k. shape_of k.item)) (slice_get-get_or (node_orbits nodes) i o l ∙ ap Some here) in
      let listed : slice_get shapes i ≡ Some n = ap (λ z. slice_get z i) (are ∙ of_orbits) ∙ (at ∙ ap Some (sym shape)) in
      All-contains IsOutsideAt positions i none (found i listed) o l here inside
    where
      shapes_by_orbit : (vs : List NodeD) → shapes_of vs ≡ map (λ k. shape_of k.item) (node_orbits vs)
      shapes_by_orbit [] = refl
      shapes_by_orbit (v ∷ vs) = ap (λ z. shape_of v.orbit.item ∷ z) (shapes_by_orbit vs)
