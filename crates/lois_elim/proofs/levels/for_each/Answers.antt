use Rattle.std.proofs.Common.{◌≡◌, ℕ, ◌+◌, Bool, not, List, rules}
use Rattle.std.proofs.lemmas.Result.{IfOk-weaker}
use Rattle.lois_base.specs.Atom.{Atom}
use Rattle.lois_base.specs.Fits.{ConstraintFits}
use Rattle.lois_base.specs.Truth.{holds}
use Rattle.lois_base.specs.Validity.{AdmitsConstraint}
use Rattle.lois_elim.specs.Bound.{HoldsForEach}
use Rattle.lois_elim.proofs.Truth.{each_of_some}
use Rattle.lois_elim.proofs.levels.for_each.Goals as goal

pub for_some-requires : goal.for_some-requires
for_some-requires g c =
    record {
      over = record {
        levels = c.in_ok-negate.ensures.fits (c.args.size + 1) c.requires.over.levels;
        operators = search rules;
      };
    }

pub returns-clause-truth : goal.returns-clause-truth
returns-clause-truth g c =
    IfOk-weaker c.negate-2.result (λ r. (e : List Atom) → holds e r ≡ not (holds e c.in_ok-refuted.refuted)) (HoldsForEach c.args.size c.args.c.now) (λ r negated. each_of_some c.args.size c.args.c.now c.in_ok-negate.field-0 c.in_ok-refuted.refuted r c.in_ok-negate.ensures.truth c.in_ok-refuted.ensures.truth negated) c.negate-2.ensures.truth

pub returns-clause-levels : goal.returns-clause-levels
returns-clause-levels g c =
    IfOk-weaker c.negate-2.result (λ r. (n : ℕ) → ConstraintFits n c.in_ok-refuted.refuted → ConstraintFits n r) (ConstraintFits c.args.size) (λ r fits. fits c.args.size c.in_ok-refuted.ensures.levels) c.negate-2.ensures.fits

pub returns-clause-operators : goal.returns-clause-operators
returns-clause-operators g c =
    IfOk-weaker c.negate-2.result (λ r. (o : Bool) → AdmitsConstraint o c.in_ok-refuted.refuted → AdmitsConstraint o r) (λ r. (o : Bool) → AdmitsConstraint o c.args.c.now → AdmitsConstraint o r) (λ r admits o h. admits o (c.in_ok-refuted.ensures.operators o (c.in_ok-negate.ensures.operators o h))) c.negate-2.ensures.operators
