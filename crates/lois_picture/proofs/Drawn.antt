-- What is drawn of automata and of relations.
use Rattle.std.proofs.Common.{◌≡◌, Bool, inl, inr, List, [], ◌∷◌, get_or, refl, sym, subst}
use Rattle.std.specs.List.{All}
use Rattle.std.specs.Prelude.{Option, Some, None}
use Rattle.lois_base.proofs.Members.{member_in}
use Rattle.lois_base.specs.Data.{TermD, coll, CompsD, no_comps}
use Rattle.lois_base.specs.Tree.{tree}
use Rattle.lois_base.specs.Truth.{holds}
use Rattle.lois_base.specs.Validity.{AdmitsTerm}
use Rattle.lois_base.specs.Values.{PointValue, point, IsMember, IsIn}
use Rattle.lois_base.specs.declared.guards.Lit.{Lit}
use Rattle.std.specs.Bool.{IsTrue}
use Rattle.lois_base.specs.declared.values.Term.{Term}
use Rattle.lois_base.specs.declared.values.Term.TheVariants.{Var, Tag, Tup, Coll}
use Rattle.lois_automata.proofs.FiveMachine.{five_machine}
use Rattle.lois_automata.specs.Machines.{IsAutomatonAt}
use Rattle.lois_automata.specs.Throughout.{HoldsThroughout}
use Rattle.lois_automata.specs.Projections.{five_of}
use Rattle.lois_census.specs.Left.{IsUsable}
use Rattle.lois_census.specs.OrbitData.{OrbitD}
use Rattle.lois_census.specs.Orbits.{value_of, IsInListedOrbit, FitsSample}
use Rattle.lois_meaning.specs.Kinds.{IsSet}
use Rattle.lois_picture.specs.Drawing.{MovesJoin, HasListedEnds, AreEndsOf, IsGraphOrNone, IsRelationGraphOrNone}
use Rattle.lois_picture.specs.GraphData.{NodeD}
use Rattle.lois_picture.specs.Graphs.{node_orbits, IsRelation, IsGraphOf, IsAutomatonGraph, IsRelationGraph}
use Rattle.lois_picture.specs.declared.graphs.Graph.{Graph}

-- ---- orbits
pub all_usable : (ordered : Bool) (os : List OrbitD) → All FitsSample os → All (λ o. AdmitsTerm ordered o.item) os → All (IsUsable ordered) os
all_usable ordered os fits admits i d l = record { levels = fits i d l; operators = admits i d l }

-- each orbit of moves leads from one of the nodes to one of them
pub all_listed : (ordered : Bool) (nodes moves : TermD) (vs : List NodeD) (os ks : List OrbitD) → node_orbits vs ≡ os → ((v : PointValue) → IsIn v (point nodes []) → IsInListedOrbit ordered os v) → All (λ k. IsMember (value_of k) (point moves [])) ks →
    MovesJoin (point nodes []) (point moves []) → All (HasListedEnds ordered vs) ks
all_listed ordered nodes moves vs os ks are each members join i d l =
    let k = get_or ks i d in
    let lead = join (value_of k) (member_in (value_of k) (point moves []) (members i d l)) in (
      lead.0,
      lead.1,
      lead.2,
      subst (λ z. IsInListedOrbit ordered z lead.0) (sym are) (each lead.0 lead.3),
      subst (λ z. IsInListedOrbit ordered z lead.1) (sym are) (each lead.1 lead.4),
    )

-- ---- automata
module _ (s l t i f : CompsD) where
  steps_join : IsAutomatonAt (five_of s l t i f) [] → MovesJoin (point (coll s) []) (point (coll t) [])
  steps_join h x k =
      let joins = (five_machine s l t i f [] h).steps_join x k in
      (joins.0, joins.2, inl (joins.1, joins.3), joins.4, joins.6)

  pub automaton_graph : (ordered : Bool) (v states steps initial accepting : TermD) (g : Graph) → v ≡ five_of s l t i f → IsAutomatonAt v [] → states ≡ coll s → steps ≡ coll t → initial ≡ coll i → accepting ≡ coll f → IsGraphOf ordered states steps initial accepting g → IsAutomatonGraph ordered v g
  automaton_graph ordered v states steps initial accepting g is automaton e1 e2 e3 e4 graph =
      let same : IsGraphOf ordered (coll s) (coll t) (coll i) (coll f) g =
      subst (λ z. IsGraphOf ordered z (coll t) (coll i) (coll f) g) e1
      (subst (λ z. IsGraphOf ordered states z (coll i) (coll f) g) e2 (subst (λ z. IsGraphOf ordered states steps z (coll f) g) e3 (subst (λ z. IsGraphOf ordered states steps initial z g) e4 graph))) in
      (coll s, coll l, coll t, coll i, coll f, is, automaton, same)

  pub moves_join : (states steps : TermD) → states ≡ coll s → steps ≡ coll t → IsAutomatonAt (five_of s l t i f) [] → MovesJoin (point states []) (point steps [])
  moves_join states steps e1 e2 h =
      subst (λ z. MovesJoin (point z []) (point steps [])) (sym e1) (subst (λ z. MovesJoin (point (coll s) []) (point z [])) (sym e2) (steps_join h))

-- the verdict is asked for at the one choice
pub holds_here : (v : TermD) (always : List (List Lit)) → always ≡ [] ∷ [] → HoldsThroughout 0 always (IsAutomatonAt v) → IsAutomatonAt v []
holds_here v always is throughout = throughout [] refl (subst (λ z. IsTrue (holds [] z)) (sym is) refl)

-- ---- relations
module _ (ordered : Bool) (t ends : TermD) (are : AreEndsOf ordered t ends) where
  pub pairs_join : MovesJoin (point ends []) (point t [])
  pairs_join x k =
      let pair = are.relation.1 x k in
      let p = pair.0 in
      let q = pair.1 in
      (p, q, inr pair.2, (are.members p).1 (x, k, (q, inl pair.2)), (are.members q).1 (x, k, (p, inr pair.2)))

  pub relation_graph : (g : Graph) → IsGraphOf ordered ends t (coll no_comps) (coll no_comps) g → IsRelationGraph ordered t g
  relation_graph g graph = (ends, are.relation, (is_set, are.members), graph)
    where
      is_set : IsSet (point ends [])
      is_set = subst (λ z. IsSet (point z [])) (sym are.closed.set.1) tt

pub graph_of_relation : (ordered : Bool) (v : TermD) (r : Option Graph) → (IsAutomatonAt v [] → ⊥) → IsRelationGraphOrNone ordered v r → IsGraphOrNone ordered v r
graph_of_relation ordered v None never h = (never, h)
graph_of_relation ordered v (Some g) never h = inr h

-- only a set is a relation
pub no_relation_but_set : (v : Term) → ((ks : _) → v ≡ Coll ks → ⊥) → IsRelation (point (tree v) []) → ⊥
no_relation_but_set (Var i) never h = absurd h.0
no_relation_but_set (Tag x) never h = absurd h.0
no_relation_but_set (Tup ts) never h = absurd h.0
no_relation_but_set (Coll ks) never h = never ks refl
