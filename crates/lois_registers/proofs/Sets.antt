-- What is in the sets of the translated automaton.
use Rattle.std.proofs.Common.{◌≡◌, ℕ, zero, suc, ◌+◌, List, [], ◌∷◌, ◌++◌, Option, Some, None, length, map, replicate, refl, sym, ap, subst, ◌∙◌, inl, inr, arith}
use Rattle.std.specs.List.{All, Contains}
use Rattle.std.proofs.lemmas.List.{length-append, length-map, get_or_at, get_or_append_left}
use Rattle.lois_base.specs.Atom.{Atom}
use Rattle.lois_base.specs.Data.{TermD, var, coll, comp, comps_of}
use Rattle.lois_base.specs.Truth.{atom_at}
use Rattle.lois_base.specs.Values.{PointValue, point, IsSame, IsIn, MakesAt}
use Rattle.lois_base.proofs.Members.{same_refl, same_sym}
use Rattle.lois_base.proofs.Order.{equal_refl}
use Rattle.lois_meaning.specs.Automata.{IsTriple}
use Rattle.lois_meaning.specs.Kinds.{IsAtomValue}
use Rattle.lois_meaning.proofs.Alike.{is_atom_same, atoms_same}
use Rattle.lois_meaning.proofs.Tuples.{triple_to, triples_same}
use Rattle.lois_registers.specs.Placed.{full, placements, configuration_comp, configuration_term, configurations, step_comp, step_comps, step_item}
use Rattle.lois_registers.specs.Runs.{Configuration, LiteralHolds, IsStep, stored_from}
use Rattle.lois_registers.specs.Translation.{IsValueOf}
use Rattle.lois_registers.specs.declared.automata.RegStep.{RegStep}
use Rattle.lois_registers.proofs.Configurations.{configured, value_is, value_move, values_same, are_like_refl, AreLike}
use Rattle.lois_registers.proofs.Contents.{filled, at_level, AreBelow, placed_at, place_is, filled_stored}
use Rattle.lois_registers.proofs.Guards.{guard_to, guard_from}
use Rattle.lois_registers.proofs.Members.{member_flat, flat_member, member_map, map_member}

-- a value is its term at its choice
at_point : (u : PointValue) (t : TermD) (e : List Atom) → u.term_of ≡ t → u.choice ≡ e → point t e ≡ u
at_point u t e a b = ap (λ z. point z e) (sym a) ∙ ap (λ z. point u.term_of z) (sym b)

-- the states
module _ (k : ℕ) (names : List (List ℕ)) (v : PointValue) where
  pub configuration_from : IsIn v (point (coll (comps_of (configurations (placements k) names))) []) → (p : Configuration) × Contains names p.state × (length p.contents ≡ k) × IsValueOf v p
  configuration_from (u, m, s) =
      let r = member_flat u.term_of u.choice [] (λ name. map (configuration_comp name) (placements k)) names m in
      let q = member_map u.term_of u.choice [] (configuration_comp r.0) (placements k) r.2 in
      of r.0 r.1 q.0 q.1 q.2
    where
      of : (name : List ℕ) → Contains names name → (os : List (Option ℕ)) → Contains (placements k) os → MakesAt u.term_of u.choice (configuration_comp name os) [] → (p : Configuration) × Contains names p.state × (length p.contents ≡ k) × IsValueOf v p
      of name i os j (e, is, a, b) = (
        configured name (filled e os),
        i,
        length-map os (at_level e) ∙ (place_is k os j).count,
        value_move u v (configured name (filled e os)) (same_sym v u s) (subst (λ z. IsValueOf z (configured name (filled e os))) (at_point u (configuration_term name os) e a b) (value_is name os e)),
      )

  pub configuration_in : (p : Configuration) → Contains names p.state → length p.contents ≡ k → IsValueOf v p → IsIn v (point (coll (comps_of (configurations (placements k) names))) [])
  configuration_in p i l h =
      let at = placed_at k p.contents l in
      let here : MakesAt (configuration_term p.state at.place) at.atoms (configuration_comp p.state at.place) [] = (at.atoms, record { count = at.count; guard = refl }, refl, refl) in
      let among = map_member (configuration_term p.state at.place) at.atoms [] (configuration_comp p.state) (placements k) at.place at.listed here in (
        point (configuration_term p.state at.place) at.atoms,
        flat_member (configuration_term p.state at.place) at.atoms [] (λ name. map (configuration_comp name) (placements k)) names p.state i among,
        values_same v (point (configuration_term p.state at.place) at.atoms) p (configured p.state (filled at.atoms at.place)) (record {
          state = refl;
          contents = subst (AreLike p.contents) (sym at.same) (are_like_refl p.contents);
        }) h (value_is p.state at.place at.atoms),
      )

-- a step of these from a configuration with k registers, as a value
pub record IsStepOf (k : ℕ) (steps : List RegStep) (v : PointValue) : Type 0 where
  pub step : RegStep
  pub listed : Contains steps step
  pub source : Configuration
  pub target : Configuration
  pub atom : Atom
  pub first : PointValue
  pub letter : PointValue
  pub second : PointValue
  pub count : length source.contents ≡ k
  pub leads : IsStep step source atom target
  pub first_is : IsValueOf first source
  pub letter_is : IsAtomValue letter atom
  pub second_is : IsValueOf second target
  pub triple : IsTriple v first letter second

longer : (e f : List Atom) (os : List (Option ℕ)) → AreBelow (length e) os → filled (e ++ f) os ≡ filled e os
longer e f [] h = refl
longer e f (None ∷ os) h = ap (λ z. None ∷ z) (longer e f os h)
longer e f (Some i ∷ os) h =
    let one : atom_at (e ++ f) i ≡ atom_at e i = get_or_append_left e f _ i h.0 in
    ap (λ z. Some z ∷ filled (e ++ f) os) one ∙ ap (λ z. Some (atom_at e i) ∷ z) (longer e f os h.1)

-- the item of a step at a choice
step_written : (s : RegStep) (os : List (Option ℕ)) (e : List Atom) →
    IsTriple (point (step_item s os) e) (point (configuration_term s.from os) e) (point (var (full os)) e) (point (configuration_term s.to (stored_from 1 s.stored (full os) os)) e)
step_written s os e =
    let c = point (configuration_term s.from os) e in
    let l = point (var (full os)) e in
    let d = point (configuration_term s.to (stored_from 1 s.stored (full os) os)) e in
    (c, l, d, refl, same_refl c, same_refl l, same_refl d)

module _ (k : ℕ) (steps : List RegStep) (v : PointValue) where
  pub step_from : IsIn v (point (coll (comps_of (step_comps (placements k) steps))) []) → IsStepOf k steps v
  step_from (u, m, s) =
      let r = member_flat u.term_of u.choice [] (λ step. map (step_comp step) (placements k)) steps m in
      let q = member_map u.term_of u.choice [] (step_comp r.0) (placements k) r.2 in
      of r.0 r.1 q.0 q.1 q.2
    where
      of : (step : RegStep) → Contains steps step → (os : List (Option ℕ)) → Contains (placements k) os → MakesAt u.term_of u.choice (step_comp step os) [] → IsStepOf k steps v
      of step i os j (e, is, a, b) =
          let written = subst (λ z. IsTriple z (point (configuration_term step.from os) e) (point (var (full os)) e) (point (configuration_term step.to (stored_from 1 step.stored (full os) os)) e)) (at_point u (step_item step os) e a b) (step_written step os e) in
          record {
            step = step;
            listed = i;
            source = configured step.from (filled e os);
            target = configured step.to (filled e (stored_from 1 step.stored (full os) os));
            atom = atom_at e (full os);
            first = point (configuration_term step.from os) e;
            letter = point (var (full os)) e;
            second = point (configuration_term step.to (stored_from 1 step.stored (full os) os)) e;
            count = length-map os (at_level e) ∙ (place_is k os j).count;
            leads = record {
              from = refl;
              guard = guard_from e (Some (full os) ∷ os) step.guard is.guard;
              to = refl;
              contents = filled_stored e 1 step.stored (full os) os;
            };
            first_is = value_is step.from os e;
            letter_is = equal_refl (atom_at e (full os));
            second_is = value_is step.to (stored_from 1 step.stored (full os) os) e;
            triple = triple_to u v (point (configuration_term step.from os) e) (point (var (full os)) e) (point (configuration_term step.to (stored_from 1 step.stored (full os) os)) e) (same_sym v u s) written;
          }

  pub step_in : IsStepOf k steps v → IsIn v (point (coll (comps_of (step_comps (placements k) steps))) [])
  step_in h =
      let at = placed_at k h.source.contents h.count in
      let os = at.place in
      let e : List Atom = at.atoms ++ h.atom ∷ [] in
      let s = h.step in
      let below : AreBelow (length at.atoms) os = subst (λ n. AreBelow n os) (sym at.count) (place_is k os at.listed).below in
      let held : filled e os ≡ h.source.contents = longer at.atoms (h.atom ∷ []) os below ∙ at.same in
      let read : atom_at e (full os) ≡ h.atom = get_or_at at.atoms h.atom [] _ (full os) at.count in
      let operands : filled e (Some (full os) ∷ os) ≡ Some h.atom ∷ h.source.contents = ap (λ z. Some z ∷ filled e os) read ∙ ap (λ z. Some h.atom ∷ z) held in
      let met : All (LiteralHolds (filled e (Some (full os) ∷ os))) s.guard = subst (λ z. All (LiteralHolds z) s.guard) (sym operands) h.leads.guard in
      let count : length e ≡ full os + 1 = omega (arith, length-append at.atoms (h.atom ∷ []), at.count) in
      let here : MakesAt (step_item s os) e (step_comp s os) [] = (e, record { count = count; guard = guard_to e (Some (full os) ∷ os) s.guard met }, refl, refl) in
      let among = map_member (step_item s os) e [] (step_comp s) (placements k) os at.listed here in
      let c = point (configuration_term s.from os) e in
      let l = point (var (full os)) e in
      let after = stored_from 1 s.stored (full os) os in
      let d = point (configuration_term s.to after) e in
      let target : filled e after ≡ h.target.contents = filled_stored e 1 s.stored (full os) os ∙ (ap (λ z. stored_from 1 s.stored z (filled e os)) read ∙ (ap (stored_from 1 s.stored h.atom) held ∙ sym h.leads.contents)) in
      let one : IsSame h.first c = values_same h.first c h.source (configured s.from (filled e os)) (record { state = h.leads.from; contents = subst (AreLike h.source.contents) (sym held) (are_like_refl h.source.contents) }) h.first_is (value_is s.from os e) in
      let two : IsSame h.letter l = atoms_same h.letter l h.atom h.letter_is (subst (λ z. IsAtomValue l z) read (equal_refl (atom_at e (full os)))) in
      let three : IsSame h.second d = values_same h.second d h.target (configured s.to (filled e after)) (record { state = h.leads.to; contents = subst (AreLike h.target.contents) (sym target) (are_like_refl h.target.contents) }) h.second_is (value_is s.to after e) in (
        point (step_item s os) e,
        flat_member (step_item s os) e [] (λ step. map (step_comp step) (placements k)) steps s h.listed among,
        triples_same v (point (step_item s os) e) h.first h.letter h.second h.first h.letter h.second (same_refl h.first) (same_refl h.letter) (same_refl h.second) h.triple (c, l, d, refl, one, two, three),
      )

-- the letters
pub letter_from : (v : PointValue) → IsIn v (point (coll (comps_of (comp 1 ([] ∷ []) (var 0) ∷ []))) []) → (x : Atom) × IsAtomValue v x
letter_from v (u, inl (e, is, a, b), s) =
    (atom_at e 0, is_atom_same u v (atom_at e 0) (same_sym v u s) (subst (λ z. IsAtomValue z (atom_at e 0)) (at_point u (var 0) e a b) (equal_refl (atom_at e 0))))
letter_from v (u, inr m, s) = absurd m

pub letter_in : (v : PointValue) (x : Atom) → IsAtomValue v x → IsIn v (point (coll (comps_of (comp 1 ([] ∷ []) (var 0) ∷ []))) [])
letter_in v x h =
    (point (var 0) (x ∷ []), inl (x ∷ [], record { count = refl; guard = refl }, refl, refl), atoms_same v (point (var 0) (x ∷ [])) x h (equal_refl x))

-- the initial state
filled_empty : (e : List Atom) (k : ℕ) → filled e (replicate k None) ≡ replicate k None
filled_empty e zero = refl
filled_empty e (suc k) = ap (λ z. None ∷ z) (filled_empty e k)

module _ (k : ℕ) (state : List ℕ) (v : PointValue) where
  first_value : (e : List Atom) → IsValueOf (point (configuration_term state (replicate k None)) e) (configured state (replicate k None))
  first_value e = subst (λ z. IsValueOf (point (configuration_term state (replicate k None)) e) (configured state z)) (filled_empty e k) (value_is state (replicate k None) e)

  pub first_from : IsIn v (point (coll (comps_of (comp 0 ([] ∷ []) (configuration_term state (replicate k None)) ∷ []))) []) → IsValueOf v (configured state (replicate k None))
  first_from (u, inl (e, is, a, b), s) =
      value_move u v (configured state (replicate k None)) (same_sym v u s) (subst (λ z. IsValueOf z (configured state (replicate k None))) (at_point u (configuration_term state (replicate k None)) e a b) (first_value e))
  first_from (u, inr m, s) = absurd m

  pub first_in : IsValueOf v (configured state (replicate k None)) → IsIn v (point (coll (comps_of (comp 0 ([] ∷ []) (configuration_term state (replicate k None)) ∷ []))) [])
  first_in h = (
    point (configuration_term state (replicate k None)) [],
    inl ([], record { count = refl; guard = refl }, refl, refl),
    values_same v (point (configuration_term state (replicate k None)) []) (configured state (replicate k None)) (configured state (replicate k None)) (record { state = refl; contents = are_like_refl (replicate k None) }) h (first_value []),
  )
