use Rattle.std.proofs.Common.{◌≡◌, true, not, ◌&&◌, ◌||◌, List, sym, ap, ◌∙◌, subst}
use Rattle.std.proofs.lemmas.List.Elements.{All-nil}
use Rattle.lois_base.proofs.Validity.{uses_only-refl}
use Rattle.lois_base.specs.Atom.{Atom}
use Rattle.lois_base.specs.Truth.{cube_holds, holds}
use Rattle.lois_base.specs.declared.guards.Lit.{Lit}
use Rattle.lois_constraint.specs.Rules.{Rule, IsKeptByDenial, uses, fits, admits, Obeys, CubeObeys, ConstraintObeys}
use Rattle.lois_constraint.proofs.Uses.{same_answer}
use Rattle.lois_constraint.proofs.negation.negate.Goals as goal

pub returns-clause-truth : goal.returns-clause-truth
returns-clause-truth c =
    let whole : (e : List Atom) → holds e c.in_ok-everywhere.everywhere ≡ true = λ e. c.in_ok-everywhere.ensures.truth e ∙ (ap (λ (g : List (List Lit)). holds e g || cube_holds e c.new-2.result) c.new.ensures ∙ ap (λ (k : List Lit). cube_holds e k) c.new-2.ensures) in
    same_answer c.into_constraint.result c.in_ok-rest.rest _ c.into_constraint.ensures.same (λ e. c.in_ok-rest.ensures.truth e ∙ ap (λ p. p && not (holds e c.args.c.now)) (whole e))

pub returns-clause-levels : goal.returns-clause-levels
returns-clause-levels c =
    let g : List (List Lit) = c.args.c.now in
    let obeys : (rule : Rule) → IsKeptByDenial rule → ConstraintObeys rule g → ConstraintObeys rule c.in_ok-rest.rest = λ rule d h. c.in_ok-rest.ensures.rules rule d (c.in_ok-everywhere.ensures.rules rule (subst (ConstraintObeys rule) (sym c.new.ensures) (All-nil (CubeObeys rule))) (subst (CubeObeys rule) (sym c.new-2.ensures) (All-nil (Obeys rule)))) h in
    same_answer c.into_constraint.result c.in_ok-rest.rest _ c.into_constraint.ensures.same (obeys (uses g) tt (uses_only-refl g))

pub returns-clause-fits : goal.returns-clause-fits
returns-clause-fits c =
    let g : List (List Lit) = c.args.c.now in
    let obeys : (rule : Rule) → IsKeptByDenial rule → ConstraintObeys rule g → ConstraintObeys rule c.in_ok-rest.rest = λ rule d h. c.in_ok-rest.ensures.rules rule d (c.in_ok-everywhere.ensures.rules rule (subst (ConstraintObeys rule) (sym c.new.ensures) (All-nil (CubeObeys rule))) (subst (CubeObeys rule) (sym c.new-2.ensures) (All-nil (Obeys rule)))) h in
    same_answer c.into_constraint.result c.in_ok-rest.rest _ c.into_constraint.ensures.same (λ n. obeys (fits n) tt)

pub returns-clause-operators : goal.returns-clause-operators
returns-clause-operators c =
    let g : List (List Lit) = c.args.c.now in
    let obeys : (rule : Rule) → IsKeptByDenial rule → ConstraintObeys rule g → ConstraintObeys rule c.in_ok-rest.rest = λ rule d h. c.in_ok-rest.ensures.rules rule d (c.in_ok-everywhere.ensures.rules rule (subst (ConstraintObeys rule) (sym c.new.ensures) (All-nil (CubeObeys rule))) (subst (CubeObeys rule) (sym c.new-2.ensures) (All-nil (Obeys rule)))) h in
    same_answer c.into_constraint.result c.in_ok-rest.rest _ c.into_constraint.ensures.same (λ o. obeys (admits o) tt)
