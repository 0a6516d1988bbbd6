-- The first family holds the nodes to start at.
use Rattle.std.proofs.Common.{◌≡◌, ℕ, zero, ◌+◌, Bool, true, false, nat_eq, inl, inr, ◌↔◌, List, [], ◌∷◌, ◌++◌, length, refl, sym, subst, ◌∙◌, eq-eqb}
use Rattle.std.specs.Bool.{IsTrue}
use Rattle.lois_base.specs.Atom.{Atom}
use Rattle.lois_base.specs.Data.{TermD, coll, comp, CompsD, no_comps, more}
use Rattle.lois_base.specs.Truth.{holds}
use Rattle.lois_base.specs.Values.{PointValue, point, IsIn}
use Rattle.lois_base.specs.declared.guards.Lit.{Lit}
use Rattle.lois_base.proofs.Connectives.{both_true}
use Rattle.lois_base.proofs.Members.{in_same, same_sym}
use Rattle.lois_algebra.specs.Gathered.{IsAmong}
use Rattle.lois_algebra.proofs.Among.{among_in}
use Rattle.lois_meaning.specs.Kinds.{IsSetOf}
use Rattle.lois_rounds.specs.Families.{MemberD, FamilyD, AreWeakened, IsWeakened}
use Rattle.lois_rounds.specs.Rounds.{OnlyWeakens, IsFirstUnchanged}
use Rattle.lois_automata.specs.Built.{AreFirstMembers}
use Rattle.lois_automata.specs.Rounds.{RoundParameters, is_over, held, IsPropagatedMember, ArePropagated, PropagatesIf, Propagates}
use Rattle.lois_automata.specs.RoundsLaw.{IsOver, is_over_true, equal_weakened}
use Rattle.lois_automata.specs.Reachability.{graph_at, IsReachedBy, IsReached}
use Rattle.lois_automata.specs.Throughout.{HoldsThroughout}
use Rattle.lois_automata.proofs.Propagated.{holds_reached}
use Rattle.std.proofs.lemmas.List.{take-append-drop, length-take, length-drop}
use Rattle.std.proofs.Common.{take, drop, arith}

pub first_over : (n : ℕ) (u : List (List Lit)) (t : TermD) (ks : CompsD) (f : FamilyD) → AreFirstMembers n u t ks f → is_over n ks f ≡ true
first_over n u t no_comps [] h = refl
first_over n u t no_comps (r ∷ f) h = absurd h
first_over n u t (more (comp m g i) ks) [] h = absurd h
first_over n u t (more (comp m g i) ks) (r ∷ f) h = (both_true (nat_eq r.0 (n + m)) (is_over n ks f)).1 (eq-eqb r.0 (n + m) h.0.0, first_over n u t ks f h.1)

module _ (n : ℕ) (u : List (List Lit)) (t : TermD) (c : List Atom) (l : length c ≡ n) (admitted : IsTrue (holds c u)) where
  first_held : (ks : CompsD) (f : FamilyD) (w : PointValue) → AreFirstMembers n u t ks f → IsAmong (held ks f) c w ↔ (IsAmong ks c w × IsIn w (point t c))
  first_held no_comps [] w h = (λ i. absurd i, λ i. absurd i.0)
  first_held no_comps (r ∷ f) w h = absurd h
  first_held (more (comp m g item) ks) [] w h = absurd h
  first_held (more (comp m g item) ks) (r ∷ f) w h =
      let rest = first_held ks f w h.1 in (
        λ i. elim i [
          | inl p ↦
              let x = (h.0.1 c p.0 l (p.1).count).0 (p.1).guard in
              (inl (p.0, record { count = (p.1).count; guard = x.1 }, p.2), in_same (point item (c ++ p.0)) w (point t c) p.2 x.2)
          | inr p ↦ let y = rest.0 p in (inr y.0, y.1)
        ],
        λ i. elim i.0 [
          | inl p ↦ inl (p.0, record { count = (p.1).count; guard = (h.0.1 c p.0 l (p.1).count).1 (admitted, (p.1).guard, in_same w (point item (c ++ p.0)) (point t c) (same_sym (point item (c ++ p.0)) w p.2) i.1) }, p.2)
          | inr p ↦ inr (rest.1 (p, i.1))
        ],
      )

-- rounds only make members weaker
member_weakened : (x : RoundParameters) (f : FamilyD) (m : ℕ) (g : List (List Lit)) (t : TermD) (b a : MemberD) → b.0 ≡ x.size + m → IsPropagatedMember x f m g t b a → IsWeakened b a
member_weakened x f m g t b a over h = record {
  size = sym h.size;
  truth = λ d l p.
      let n : length d ≡ x.size + m = l ∙ over in
      let lc : length (take x.size d) ≡ x.size = length-take x.size d ∙ omega arith in
      let le : length (drop x.size d) ≡ m = length-drop x.size d ∙ omega arith in
      let joint : take x.size d ++ drop x.size d ≡ d = take-append-drop x.size d in
      subst (λ z. IsTrue (holds z a.1)) joint ((h.truth (take x.size d) (drop x.size d) lc le).1 (inl (subst (λ z. IsTrue (holds z b.1)) (sym joint) p)));
}

spread_weakened : (x : RoundParameters) (f : FamilyD) (ks : CompsD) (b a : FamilyD) → IsOver x.size ks b → ArePropagated x f ks b a → AreWeakened b a
spread_weakened x f no_comps [] [] over h = tt
spread_weakened x f (more (comp m g t) ks) (p ∷ b) (q ∷ a) over h = (member_weakened x f m g t p q over.0 h.0, spread_weakened x f ks b a over.1 h.1)
spread_weakened x f _ _ _ over h = absurd (assumption (over, h))

pub only_weakens : (x : RoundParameters) → OnlyWeakens (Propagates x)
only_weakens x f g fits led = go (is_over x.size x.nodes f) refl led
  where
    go : (b : Bool) → is_over x.size x.nodes f ≡ b → PropagatesIf b x f g → AreWeakened f g
    go true e h = spread_weakened x f x.nodes f g (is_over_true x.size x.nodes f e) h
    go false e h = equal_weakened f g h

-- what the code's set is
pub is_reached_set : (x : RoundParameters) (start : TermD) (first f : FamilyD) → AreFirstMembers x.size x.under start x.nodes first → IsFirstUnchanged (Propagates x) first f →
    HoldsThroughout x.size x.under (λ c. IsSetOf (point (coll (held x.nodes f)) c) (IsReached (graph_at (coll x.nodes) start x.moves c)))
is_reached_set x start first f are unchanged c l admitted = (
  tt,
  λ w.
      let begun : (v : PointValue) → IsAmong (held x.nodes first) c v ↔ IsReachedBy (graph_at (coll x.nodes) start x.moves c) zero v =
      λ v. let h = first_held x.size x.under start c l admitted x.nodes first v are in
      let node = among_in x.nodes c v in
      (λ i. let y = h.0 i in (node.0 y.0, y.1), λ i. h.1 (node.1 i.0, i.1)) in
      let all = holds_reached x c l admitted (point start c) first (first_over x.size x.under start x.nodes first are) begun f unchanged w in
      let here = among_in (held x.nodes f) c w in
      (λ i. all.0 (here.1 i), λ i. here.0 (all.1 i)),
)
