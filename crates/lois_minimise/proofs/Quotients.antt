-- The term of the five sets that are made of states with their classes.
use Rattle.std.proofs.Common.{◌≡◌, ℕ, List, length, sym, subst}
use Rattle.lois_base.specs.Atom.{Atom}
use Rattle.lois_base.specs.Data.{TermD, coll, CompsD}
use Rattle.lois_base.specs.Values.{point, IsSame}
use Rattle.lois_base.proofs.Members.{same_refl}
use Rattle.lois_terms.specs.Collections.{IsColl}
use Rattle.lois_automata.specs.Built.{AreTargets}
use Rattle.lois_automata.specs.Projections.{five_terms}
use Rattle.lois_minimise.specs.Classes.{AreSeconds, AreClassSteps, IsQuotientTerm}

pub quotient_term : (n : ℕ) (s l t i f classes l2 i2 f2 : CompsD) (states steps initial final r : TermD) → r ≡ five_terms states (coll l2) steps initial final →
    l2 ≡ l → i2 ≡ i → f2 ≡ f → IsColl states → IsColl steps → IsColl initial → IsColl final → AreSeconds n (coll classes) states → ((c : List Atom) → length c ≡ n → AreClassSteps (point (coll classes) c) (point (coll l) c) (point (coll t) c) (point steps c)) →
    AreTargets n (coll classes) (coll i2) initial → AreTargets n (coll classes) (coll f2) final → IsQuotientTerm n s l t i f (coll classes) r
quotient_term n s l t i f classes l2 i2 f2 states steps initial final r is el ei ef set1 set2 set3 set4 seconds between starts ends = record {
  states = set1.0;
  letters = l2;
  steps = set2.0;
  initial = set3.0;
  final = set4.0;
  written = rw (is, set1.1, set2.1, set3.1, set4.1);
  quotient = λ c k. record {
    states = (tt, subst (λ z. AreSeconds n (coll classes) z) set1.1 seconds c k);
    letters = subst (λ z. IsSame (point (coll z) c) (point (coll l) c)) (sym el) (same_refl (point (coll l) c));
    steps = (tt, subst (λ z. AreClassSteps (point (coll classes) c) (point (coll l) c) (point (coll t) c) (point z c)) set2.1 (between c k));
    initial = (tt, subst (λ z. AreTargets n (coll classes) (coll z) (coll set3.0)) ei (subst (λ z. AreTargets n (coll classes) (coll i2) z) set3.1 starts) c k);
    final = (tt, subst (λ z. AreTargets n (coll classes) (coll z) (coll set4.0)) ef (subst (λ z. AreTargets n (coll classes) (coll f2) z) set4.1 ends) c k);
  };
}
