-- From states with their classes to the minimal automaton.
use Rattle.std.proofs.Common.{[], ◌∷◌}
use Rattle.lois_base.specs.Values.{PointValue, IsSame, IsIn}
use Rattle.lois_base.proofs.Members.{same_refl, same_sym, same_in, in_same}
use Rattle.lois_meaning.specs.Automata.{Automaton, IsPair, IsAutomatonOf, IsReachable, HaveSameWords, IsClassOf, IsMinimalOf}
use Rattle.lois_meaning.specs.Operations.{ClassesExist}
use Rattle.lois_meaning.specs.Kinds.{HasParts, IsSet, IsSetOf}
use Rattle.lois_meaning.proofs.Alike.{set_of_same, set_of_move}
use Rattle.lois_meaning.proofs.Operations.{pair_both, reach_step, words_sym}
use Rattle.lois_meaning.proofs.Tuples.{pair_parts}
use Rattle.lois_automata.specs.Reachability.{LeadsTo}
use Rattle.lois_automata.proofs.Paths.{letter_in}
use Rattle.lois_automata.proofs.Tuples.{leads_same}
use Rattle.lois_minimise.specs.Classes.{AreIndistinguishable, IsSetOfLed, AreClassed, IsQuotient}

-- Reachable states with classes: each member is a pair of a reachable state and its class, and each reachable state stands in one.
pub record AreWithClasses (pairs : PointValue) (a : Automaton) : Type 0 where
  pub classed : (y q x : PointValue) → IsIn y pairs → IsPair y q x → IsReachable a q × IsClassOf a x q
  pub each : (q : PointValue) → IsReachable a q → (y x : PointValue) × IsIn y pairs × IsPair y q x

-- the pairs of states that words don't tell apart give each reachable state its class
module _ (a : Automaton) (nodes alike pairs : PointValue) (reached : IsSetOf nodes (IsReachable a)) (tells : AreIndistinguishable a alike) (are : AreClassed nodes alike pairs) where
  is_class : (p q x x' : PointValue) → IsSame p q → IsSame x x' → IsReachable a q → IsSetOfLed alike p x → IsClassOf a x' q
  is_class p q x x' s t reach led = set_of_move (LeadsTo alike p) (λ r. IsReachable a r × HaveSameWords a r q) x x' t
      (λ r h. let k = (tells q r).0 (leads_same alike p r q r s (same_refl r) h) in (k.1, words_sym a q r k.2))
      (λ r h. leads_same alike q r p r (same_sym p q s) (same_refl r) ((tells q r).1 (reach, h.0, words_sym a r q h.1)))
      led

  pub are_with_classes : AreWithClasses pairs a
  are_with_classes = record {
    classed = λ y q x i pair.
        let f = are.classed y i in
        let both : IsSame f.0 q × IsSame f.2.0 x = pair_both y y f.0 f.2.0 q x (same_refl y) f.2.1 pair in
        let reach : IsReachable a q = (reached.1 q).0 (in_same f.0 q nodes both.0 f.1) in
        (reach, is_class f.0 q f.2.0 x both.0 both.1 reach f.2.2);
    each = λ q reach.
        let f = are.each q ((reached.1 q).1 reach) in
        (f.0, f.2.0, f.1, f.2.1);
  }

module _ (v : PointValue) (m a : Automaton) (pairs : PointValue) (is : IsAutomatonOf v a) (with_classes : AreWithClasses pairs a) (made : IsQuotient m a pairs) where
  paired_class : (q x : PointValue) → LeadsTo pairs q x → IsReachable a q × IsClassOf a x q
  paired_class q x (y, i, pair) = with_classes.classed y q x i pair

  -- a class of a reachable state is what the pairs have for it
  class_paired : (q x : PointValue) → IsReachable a q → IsClassOf a x q → LeadsTo pairs q x
  class_paired q x r class =
      let f = with_classes.each q r in
      let own = with_classes.classed f.0 q f.1 f.2 f.3 in
      (f.0, f.2, pair_parts f.0 q f.1 q x (same_refl q) (set_of_same _ f.1 x own.1 class) f.3)

  pub classes_exist : ClassesExist a
  classes_exist q r =
      let f = with_classes.each q r in
      (f.1, (with_classes.classed f.0 q f.1 f.2 f.3).1)

  started : (q : PointValue) → IsIn q a.initial → IsReachable a q
  started q i = (q, [], i, same_refl q)

  pub minimal_of : IsMinimalOf m a
  minimal_of = record {
    states = (
      made.states.0,
      λ x. (
        λ i. let f = (made.states.1 x).0 i in let k = paired_class f.0 x f.1 in (f.0, k.0, k.1),
        λ h. (made.states.1 x).1 (h.0, class_paired h.0 x h.1 h.2),
      ),
    );
    letters = made.letters;
    steps = (
      made.steps.0,
      λ s. (
        λ i. let f = (made.steps.1 s).0 i in
            let one = paired_class f.0 f.3 f.5 in
            let two = paired_class f.2 f.4 f.7 in
            (f.0, f.1, f.2, f.3, f.4, one.0, f.8, one.1, two.1, f.9),
        λ h. (made.steps.1 s).1 (h.0, h.1, h.2, h.3, h.4, class_paired h.0 h.3 h.5 h.7, letter_in v a is h.0 h.1 h.2 h.6, class_paired h.2 h.4 (reach_step a h.0 h.1 h.2 h.5 h.6) h.8, h.6, h.9),
      ),
    );
    initial = (
      made.initial.0,
      λ x. (
        λ i. let f = (made.initial.1 x).0 i in (f.0, f.1, (paired_class f.0 x f.2).1),
        λ h. (made.initial.1 x).1 (h.0, h.1, class_paired h.0 x (started h.0 h.1) h.2),
      ),
    );
    final = (
      made.final.0,
      λ x. (
        λ i. let f = (made.final.1 x).0 i in let k = paired_class f.0 x f.2 in (f.0, k.0, f.1, k.1),
        λ h. (made.final.1 x).1 (h.0, h.2, class_paired h.0 x h.1 h.3),
      ),
    );
  }

  -- and what is made is an automaton
  pub automaton_of : (r : PointValue) → HasParts r (m.states ∷ m.letters ∷ m.steps ∷ m.initial ∷ m.final ∷ []) → IsSet m.letters → IsAutomatonOf r m
  automaton_of r five letters = record {
    five = five;
    states_set = made.states.0;
    letters_set = letters;
    steps_set = made.steps.0;
    initial_set = made.initial.0;
    final_set = made.final.0;
    steps_join = λ s i.
        let f = (made.steps.1 s).0 i in (
          f.3,
          f.1,
          f.4,
          f.9,
          (made.states.1 f.3).1 (f.0, f.5),
          in_letters f.1 f.6,
          (made.states.1 f.4).1 (f.2, f.7),
        );
    initial_states = λ x i. let f = (made.initial.1 x).0 i in (made.states.1 x).1 (f.0, f.2);
    final_states = λ x i. let f = (made.final.1 x).0 i in (made.states.1 x).1 (f.0, f.2);
  }
    where
      in_letters : (l : PointValue) → IsIn l a.letters → IsIn l m.letters
      in_letters l i = same_in l a.letters m.letters (same_sym m.letters a.letters made.letters) i
