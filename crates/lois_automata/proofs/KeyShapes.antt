-- Comprehensions by the shapes of their items, and of the first parts of pairs.
use Rattle.std.proofs.Common.{◌≡◌, ℕ, ◌↔◌, Some, List, [], ◌∷◌, ◌++◌, map, refl, sym, ap, ◌∙◌, subst}
use Rattle.std.proofs.lemmas.Option.{slice_get-map}
use Rattle.std.specs.Prelude.{slice_get, option_map, Contains}
use Rattle.lois_base.specs.Atom.{Atom}
use Rattle.lois_base.specs.Data.{TermD, CompD, comp, comps_of}
use Rattle.lois_base.specs.Values.{PointValue, point, OneIsAt}
use Rattle.lois_base.proofs.Members.{same_sym, same_trans}
use Rattle.lois_algebra.specs.Gathered.{IsAmong, IsCompMember}
use Rattle.lois_meaning.specs.Automata.{IsPair}
use Rattle.lois_meaning.proofs.Operations.{pair_to}
use Rattle.lois_relate.specs.Candidates.{comps_at, AreCandidates}
use Rattle.lois_relate.proofs.Places.{candidates_suffice}
use Rattle.lois_terms.specs.Shapes.{shape_of, item_shape}
use Rattle.lois_terms.proofs.Shapes.{one_shape}
use Rattle.lois_automata.specs.KeyShapes.{key_shape_of, comp_key_shape, item_shapes}
use Rattle.lois_automata.specs.Projections.{AllAgree, pair_of}
use Rattle.lois_automata.proofs.Written.{pair_is, pair_term}

pub shapes_are : (ks : List CompD) → item_shapes (comps_of ks) ≡ map item_shape ks
shapes_are [] = refl
shapes_are (k ∷ ks) = ap (λ z. item_shape k ∷ z) (shapes_are ks)

-- a comprehension that makes a pair has the shape of the pair's first part
one_key : (k : CompD) (c d : List Atom) (a b : TermD) → OneIsAt k c (pair_of a b) d → comp_key_shape k ≡ shape_of a
one_key (comp m g s) c d a b (e, extension, same) =
    let x = point s (c ++ e) in
    let is : IsPair x (point a d) (point b d) = pair_to (point (pair_of a b) d) x (point a d) (point b d) (same_sym x (point (pair_of a b) d) same) (pair_is a b d) in
    let t = pair_term s (c ++ e) (point a d) (point b d) is in
    ap key_shape_of t.2 ∙ one_shape t.0 a (c ++ e) d (same_sym (point a d) (point t.0 (c ++ e)) t.3)

-- pairs with the same first part are made by comprehensions of one shape
module _ (k : CompD) (qs : List CompD) (places : List ℕ) (found : (i : ℕ) → slice_get (map comp_key_shape qs) i ≡ Some (comp_key_shape k) → Contains places i) (c : List Atom) where
  key_candidates : (x y w v v' : PointValue) → IsCompMember k c x → IsPair x w v → IsPair y w v' → AreCandidates qs y.term_of places
  key_candidates x y w v v' i p p' =
      let s = pair_term x.term_of x.choice w v p in
      let t = pair_term y.term_of y.choice w v' p' in
      let own : comp_key_shape k ≡ shape_of s.0 = one_key k c x.choice s.0 s.1 (subst (λ z. OneIsAt k c z x.choice) s.2 i) in
      let shared : shape_of s.0 ≡ shape_of t.0 = one_shape s.0 t.0 x.choice y.choice (same_trans (point s.0 x.choice) w (point t.0 y.choice) (same_sym w (point s.0 x.choice) s.3) t.3) in
      λ j q e d at one.
      let other : comp_key_shape q ≡ shape_of t.0 = one_key q e d t.0 t.1 (subst (λ z. OneIsAt q e z d) t.2 one) in
      found j (slice_get-map comp_key_shape qs j ∙ (ap (option_map comp_key_shape) at ∙ ap Some (other ∙ (sym shared ∙ sym own))))

  pub agree_all : AllAgree (IsCompMember k c) (IsAmong (comps_at qs places) c) ↔ AllAgree (IsCompMember k c) (IsAmong (comps_of qs) c)
  agree_all = (
    λ h x y w v v' i j p p'. h x y w v v' i ((candidates_suffice qs y.term_of places (key_candidates x y w v v' i p p') c y.choice).1 j) p p',
    λ h x y w v v' i j p p'. h x y w v v' i ((candidates_suffice qs y.term_of places (key_candidates x y w v v' i p p') c y.choice).0 j) p p',
  )
