-- A comprehension whose guard speaks of what surrounds it has the members that it had.
use Rattle.std.proofs.Common.{◌≡◌, ℕ, ◌+◌, Bool, ◌&&◌, List, [], ◌∷◌, ◌∙◌, sym, subst, arith}
use Rattle.std.specs.Bool.{IsTrue}
use Rattle.std.proofs.lemmas.Bool.{and_parts, and_from}
use Rattle.lois_base.specs.Atom.{Atom}
use Rattle.lois_base.specs.Data.{TermD, comp}
use Rattle.lois_base.specs.Fits.{ConstraintFits}
use Rattle.lois_base.specs.Truth.{holds}
use Rattle.lois_base.specs.Validity.{AdmitsComp, AdmitsConstraint}
use Rattle.lois_base.specs.declared.guards.Lit.{Lit}
use Rattle.lois_base.proofs.Order.{same_truth}
use Rattle.lois_base.proofs.Validity.{constraint_admitted, fits_longer}
use Rattle.lois_readable.specs.Strengthened.{IsGuardFor}
use Rattle.lois_simplify.specs.Shortened.{IsShortened}
use Rattle.lois_simplify.specs.Simplification.{IsSimplification, set_of}
use Rattle.lois_simplify.proofs.Single.{guard_changed}

-- where the atoms are ordered, each constraint may compare by their order
pub ordered_admits_all : (o : Bool) → IsTrue o → (u : List (List Lit)) → AdmitsConstraint o u
ordered_admits_all o is u = subst (λ b. AdmitsConstraint b u) (sym is) (constraint_admitted u)

module _ (u : List (List Lit)) (m : ℕ) (g : List (List Lit)) (t : TermD) where
  -- a shorter form of what holds where the guard and u do
  pub guard_shortened : (s h : List (List Lit)) → ((e : List Atom) → holds e s ≡ (holds e u && holds e g)) → ((n : ℕ) → ConstraintFits n u → ConstraintFits n g → ConstraintFits n s) → ((o : Bool) → AdmitsConstraint o u → AdmitsConstraint o g → AdmitsConstraint o s) → ((o : Bool) → AdmitsComp o (comp m g t) → IsTrue o) → IsShortened u s h → IsGuardFor u g (comp m g t) h
  guard_shortened s h truth fits admits order short = record {
    there = λ e a b. short.there e a (truth e ∙ and_from (holds e u) (holds e g) a b);
    back = λ e a b. (and_parts (holds e u) (holds e g) (sym (truth e) ∙ short.back e a b)).1;
    levels = λ n a b. short.levels n (fits n a b);
    operators = λ o a. short.operators o (admits o (ordered_admits_all o (order o a) u) a.0);
  }

  pub guard_replaced : (n : ℕ) (h : List (List Lit)) → ConstraintFits n u → IsGuardFor u g (comp m g t) h → IsSimplification u n (set_of (comp m g t ∷ [])) (set_of (comp m h t ∷ []))
  guard_replaced n h fits is = record {
    value = guard_changed u n m g h t fits (λ e a. same_truth (holds e g) (holds e h) (is.there e a) (is.back e a));
    levels = λ f. (((f.0).0, is.levels (n + m) (fits_longer n m u fits) (f.0).1, (f.0).2), tt);
    operators = λ o f. ((is.operators o f.0, (f.0).1), tt);
    widths = λ f. f;
    depth = omega arith;
  }
