use Rattle.std.proofs.Common.{◌≡◌, ℕ, Bool, true, false, not as opposite, ◌↔◌, List, refl, sym, ◌∙◌}
use Rattle.std.proofs.lemmas.Bool.{false≢true}
use Rattle.std.proofs.lemmas.Result.{IfOk-weaker}
use Rattle.std.specs.Bool.{IsTrue, IsFalse}
use Rattle.lois_base.specs.Atom.{Atom}
use Rattle.lois_base.specs.Fits.{ConstraintFits}
use Rattle.lois_base.specs.Tree.{tree}
use Rattle.lois_base.specs.Truth.{holds}
use Rattle.lois_base.specs.Validity.{AdmitsConstraint}
use Rattle.lois_base.specs.Values.{point, IsSame}
use Rattle.lois_eval.proofs.relations.unequal.Goals as goal

denied : (a b : Bool) (P : Type 0) → a ≡ opposite b → IsTrue b ↔ P → IsFalse a ↔ P
denied a true P is h = (λ f. h.0 refl, λ p. is)
denied a false P is h = (λ f. absurd (false≢true (sym f ∙ is)), λ p. absurd (false≢true (h.1 p)))

pub returns-clause-truth : goal.returns-clause-truth
returns-clause-truth g c =
    let s = tree c.args.s.now in
    let t = tree c.args.t.now in
    IfOk-weaker c.negate.result (λ r. (d : List Atom) → holds d r ≡ opposite (holds d c.in_ok-same.same)) _
    (λ r h d l. denied (holds d r) (holds d c.in_ok-same.same) (IsSame (point s d) (point t d)) (h d) (c.in_ok-same.ensures.truth d l)) c.negate.ensures.truth

pub returns-clause-levels : goal.returns-clause-levels
returns-clause-levels g c =
    IfOk-weaker c.negate.result (λ r. (n : ℕ) → ConstraintFits n c.in_ok-same.same → ConstraintFits n r) _ (λ r fits. fits c.args.size c.in_ok-same.ensures.levels) c.negate.ensures.fits

pub returns-clause-operators : goal.returns-clause-operators
returns-clause-operators g c =
    IfOk-weaker c.negate.result (λ r. (o : Bool) → AdmitsConstraint o c.in_ok-same.same → AdmitsConstraint o r) _ (λ r admits o a b. admits o (c.in_ok-same.ensures.operators o a b)) c.negate.ensures.operators
