-- The two sides of a split context.
use Rattle.std.proofs.Common.{◌≡◌, Bool, true, false, not, ◌&&◌, ◌↔◌, List, length, Option, Some, None, refl, sym, ap, ◌∙◌, subst}
use Rattle.std.proofs.lemmas.Bool.{and_parts}
use Rattle.std.specs.Bool.{IsTrue, IsFalse}
use Rattle.std.specs.List.{All}
use Rattle.std.specs.Option.{IfSome, IsNone}
use Rattle.lois_base.specs.Atom.{Atom}
use Rattle.lois_base.specs.Truth.{holds}
use Rattle.lois_base.specs.Validity.{AdmitsConstraint, AdmitsTerm}
use Rattle.lois_base.specs.declared.guards.Lit.{Lit}
use Rattle.lois_base.proofs.Booleans.{and_true}
use Rattle.lois_deciders.specs.Conjunction.{IsSampledConjunction, AreInconsistent}
use Rattle.lois_deciders.specs.declared.chosen.SampledConstraint.{SampledConstraint}
use Rattle.lois_context.specs.Choices.{IsAdmitted, IsAdmittedBy, AdmitsContext}
use Rattle.lois_context.specs.Sides.{IsSide, HasSamplePathCondition, CanHavePathCondition}
use Rattle.lois_context.specs.declared.contexts.Context.{Context}

-- a test that answers the same tells the same side
pub side_of : (before : Context) (p q : List Atom → Bool) → ((c : List Atom) → p c ≡ q c) → (o : Option Context) → IfSome o (IsSide before p) → IfSome o (IsSide before q)
side_of before p q e None h = h
side_of before p q e (Some side) h = record {
  size = h.size;
  «when» = λ c. h.«when» c ∙ ap (λ b. holds c before.«when» && b) (e c);
  store = h.store;
  lines = h.lines;
}

pub not_holds : (b : Bool) → (IsTrue (not b) → IsFalse b) × (IsFalse b → IsTrue (not b))
not_holds true = (λ h. absurd (cc), λ h. absurd (cc))
not_holds false = (λ h. refl, λ h. refl)

-- what a context admits where a further constraint holds
pub side_choices : (before : Context) (g r : List (List Lit)) → ((c : List Atom) → holds c r ≡ (holds c before.«when» && holds c g)) → (c : List Atom) → ((length c ≡ before.size) × IsTrue (holds c r)) ↔ (IsAdmitted c before × IsTrue (holds c g))
side_choices before g r truth c = (
  λ a. let p = and_parts (holds c before.«when») (holds c g) (sym (truth c) ∙ a.1) in ((a.0, p.0), p.1),
  λ a. (a.0.0, truth c ∙ and_true (holds c before.«when») (holds c g) a.0.1 a.1),
)

-- ---- a side, from what was met
pub side_met : (before : Context) (g : List (List Lit)) (o : Option SampledConstraint) (r : Option Context) → IfSome o (λ m. IsSampledConjunction before.size before.«when» g m.constraint m.sample) → HasSamplePathCondition before o r → IfSome r (IsSide before (λ c. holds c g))
side_met before g None None h by = tt
side_met before g (Some m) (Some side) h by = record {
  size = by.size;
  «when» = λ c. ap (holds c) by.«when» ∙ h.truth c;
  store = by.store;
  lines = by.lines;
}
side_met before g None (Some side) h by = absurd by
side_met before g (Some m) None h by = absurd by

pub operators_met : (before : Context) (g : List (List Lit)) (o : Option SampledConstraint) (r : Option Context) → IfSome o (λ m. IsSampledConjunction before.size before.«when» g m.constraint m.sample) → HasSamplePathCondition before o r → (ordered : Bool) → AdmitsContext ordered before → AdmitsConstraint ordered g → IfSome r (AdmitsContext ordered)
operators_met before g None None h by ordered a b = tt
operators_met before g (Some m) (Some side) h by ordered a b = record {
  «when» = subst (AdmitsConstraint ordered) (sym by.«when») (h.operators ordered a.«when» b);
  store = subst (All (λ s. AdmitsTerm ordered s.term)) (sym by.store) a.store;
  lines = subst (All (λ s. AdmitsTerm ordered s.term)) (sym by.lines) a.lines;
}
operators_met before g None (Some side) h by ordered a b = absurd by
operators_met before g (Some m) None h by ordered a b = absurd by

pub choices_met : (before : Context) (g : List (List Lit)) (o : Option SampledConstraint) (r : Option Context) → IfSome o (λ m. IsSampledConjunction before.size before.«when» g m.constraint m.sample) → (IsNone o → AreInconsistent before.size before.«when» g) → HasSamplePathCondition before o r → (c : List Atom) → IsAdmittedBy c r ↔ (IsAdmitted c before × IsTrue (holds c g))
choices_met before g None None h none by c = (λ a. absurd a, λ a. none refl c a.0.0 a.0.1 a.1)
choices_met before g (Some m) (Some side) h none by c =
    let own = side_choices before g m.constraint h.truth c in (
      λ a. own.0 (a.0 ∙ by.size, sym (ap (holds c) by.«when») ∙ a.1),
      λ a. let b = own.1 a in (b.0 ∙ sym by.size, ap (holds c) by.«when» ∙ b.1),
    )
choices_met before g None (Some side) h none by c = absurd by
choices_met before g (Some m) None h none by c = absurd by

pub can_narrow : (before : Context) (g : List (List Lit)) (o : Option SampledConstraint) → IfSome o (λ m. IsSampledConjunction before.size before.«when» g m.constraint m.sample) → IfSome o (CanHavePathCondition before)
can_narrow before g None h = h
can_narrow before g (Some m) h = (h.levels, h.sample)

-- the same of a constraint that holds where another doesn't
pub denied_choices : (before : Context) (g r : List (List Lit)) (o : Option Context) → ((c : List Atom) → holds c r ≡ not (holds c g)) → (c : List Atom) → IsAdmittedBy c o ↔ (IsAdmitted c before × IsTrue (holds c r)) → IsAdmittedBy c o ↔ (IsAdmitted c before × IsFalse (holds c g))
denied_choices before g r o truth c h = (
  λ a. let p = h.0 a in (p.0, (not_holds (holds c g)).0 (sym (truth c) ∙ p.1)),
  λ a. h.1 (a.0, truth c ∙ (not_holds (holds c g)).1 a.1),
)
