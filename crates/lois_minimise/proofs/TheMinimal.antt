-- From the classes of states to the minimal automaton, throughout the choices that a constraint admits.
use Rattle.std.proofs.Common.{◌≡◌, ℕ, List, length, refl, sym, subst}
use Rattle.std.specs.Bool.{IsTrue}
use Rattle.lois_base.specs.Atom.{Atom}
use Rattle.lois_base.specs.Data.{TermD, coll, CompsD}
use Rattle.lois_base.specs.Truth.{holds}
use Rattle.lois_base.specs.Values.{point}
use Rattle.lois_base.specs.declared.guards.Lit.{Lit}
use Rattle.lois_meaning.specs.Automata.{IsReachable, IsDeterministic, IsComplete, IsAutomatonOf, IsMinimalOf}
use Rattle.lois_meaning.specs.Kinds.{IsSetOf}
use Rattle.lois_meaning.specs.Operations.{ClassesExist}
use Rattle.lois_meaning.proofs.Operations.{minimal_is_minimal}
use Rattle.lois_automata.specs.Projections.{five_of, automaton_at}
use Rattle.lois_automata.specs.Machines.{IsCompleteDeterministicAt, IsReachAt}
use Rattle.lois_automata.specs.Throughout.{HoldsThroughout}
use Rattle.lois_automata.proofs.FiveMachine.{five_equal, five_machine}
use Rattle.lois_minimise.specs.Classes.{IsCompleteDeterministicWithReach, AreIndistinguishable, AreClassed, IsQuotientTerm}
use Rattle.lois_minimise.specs.Minimal.{IsMinimalAt, IsLeastAt}
use Rattle.lois_minimise.proofs.Classes.{are_with_classes, minimal_of, classes_exist, automaton_of}

module _ (s l t i f : CompsD) (c : List Atom) where
  pub whole_with_reach : (states : TermD) → IsCompleteDeterministicAt (five_of s l t i f) c → IsReachAt (five_of s l t i f) states c → IsCompleteDeterministicWithReach (automaton_at s l t i f c) (point states c)
  whole_with_reach states (m, is, one, whole) (m', is', set) = record {
    value = point (five_of s l t i f) c;
    automaton = five_machine s l t i f c (m, is);
    deterministic = subst IsDeterministic (five_equal s l t i f c m is) one;
    complete = subst IsComplete (five_equal s l t i f c m is) whole;
    reached = subst (λ z. IsSetOf (point states c) (IsReachable z)) (five_equal s l t i f c m' is') set;
  }

  pub minimal_at : (n : ℕ) (states alike pairs r : TermD) → length c ≡ n → IsCompleteDeterministicAt (five_of s l t i f) c → IsReachAt (five_of s l t i f) states c → AreIndistinguishable (automaton_at s l t i f c) (point alike c) → AreClassed (point states c) (point alike c) (point pairs c) →
      IsQuotientTerm n s l t i f pairs r → IsMinimalAt (five_of s l t i f) r c × IsLeastAt (five_of s l t i f) r c
  minimal_at n states alike pairs r k is_whole is_reach tells classed q =
      let a = automaton_at s l t i f c in
      let m = automaton_at q.states q.letters q.steps q.initial q.final c in
      let all = whole_with_reach states is_whole is_reach in
      let v = point (five_of s l t i f) c in
      let own : IsAutomatonOf v a = five_machine s l t i f c (is_whole.0, is_whole.1) in
      let classes = are_with_classes a (point states c) (point alike c) (point pairs c) all.reached tells classed in
      let made = q.quotient c k in
      let minimal : IsMinimalOf m a = minimal_of v m a (point pairs c) own classes made in
      let exist : ClassesExist a = classes_exist v m a (point pairs c) own classes made in
      let there : IsAutomatonOf (point (five_of q.states q.letters q.steps q.initial q.final) c) m = automaton_of v m a (point pairs c) own classes made (point (five_of q.states q.letters q.steps q.initial q.final) c) refl tt in
      let is : IsAutomatonOf (point r c) m = subst (λ z. IsAutomatonOf (point z c) m) (sym q.written) there in (
        (a, m, own, is, minimal),
        record {
          first = a;
          made = m;
          first_is = own;
          made_is = is;
          words = λ word. minimal_is_minimal.words m a word minimal exist;
          reached = λ x j. minimal_is_minimal.reached m a x minimal exist j;
          apart = λ x y j j' h. minimal_is_minimal.apart m a x y minimal exist j j' h;
        },
      )

-- throughout the choices that a constraint admits
module _ (n : ℕ) (u : List (List Lit)) (a states : TermD) (s l t i f nodes : CompsD) (is : a ≡ five_of s l t i f) (is_nodes : states ≡ coll nodes) (whole : HoldsThroughout n u (IsCompleteDeterministicAt a)) (reach : HoldsThroughout n u (IsReachAt a states)) where
  whole_of : (c : List Atom) → length c ≡ n → IsTrue (holds c u) → IsCompleteDeterministicAt (five_of s l t i f) c
  whole_of c k h = subst (λ z. IsCompleteDeterministicAt z c) is (whole c k h)

  reach_of : (c : List Atom) → length c ≡ n → IsTrue (holds c u) → IsReachAt (five_of s l t i f) (coll nodes) c
  reach_of c k h = subst (λ z. IsReachAt z (coll nodes) c) is (subst (λ z. IsReachAt a z c) is_nodes (reach c k h))

  pub whole_throughout : HoldsThroughout n u (λ c. IsCompleteDeterministicWithReach (automaton_at s l t i f c) (point (coll nodes) c))
  whole_throughout c k h = whole_with_reach s l t i f c (coll nodes) (whole_of c k h) (reach_of c k h)

  pub minimal_throughout : (alike pairs r : TermD) → HoldsThroughout n u (λ c. AreIndistinguishable (automaton_at s l t i f c) (point alike c)) → HoldsThroughout n u (λ c. AreClassed (point (coll nodes) c) (point alike c) (point pairs c)) → IsQuotientTerm n s l t i f pairs r →
      HoldsThroughout n u (IsMinimalAt a r) × HoldsThroughout n u (IsLeastAt a r)
  minimal_throughout alike pairs r tells classed quotient =
      let both : (c : List Atom) → length c ≡ n → IsTrue (holds c u) → IsMinimalAt a r c × IsLeastAt a r c = λ c k h.
      subst (λ z. IsMinimalAt z r c × IsLeastAt z r c) (sym is) (minimal_at s l t i f c n (coll nodes) alike pairs r k (whole_of c k h) (reach_of c k h) (tells c k h) (classed c k h) quotient) in
      (λ c k h. (both c k h).0, λ c k h. (both c k h).1)
