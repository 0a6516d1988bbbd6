use Rattle.std.proofs.Common.{◌≡◌, [], ◌∷◌, ◌||◌, List, sym, ap, ◌∙◌, subst}
use Rattle.std.proofs.lemmas.List.Elements.{All-nil}
use Rattle.std.specs.List.{list_any}
use Rattle.lois_base.specs.Fits.{CubeFits, ConstraintFits}
use Rattle.lois_base.specs.Truth.{holds, cube_holds}
use Rattle.lois_base.specs.declared.guards.Lit.{Lit}
use Rattle.lois_order.specs.Bounds.{JoinsBounds, is_met}
use Rattle.lois_order.proofs.Bounds.{joined_projects}
use Rattle.lois_order.proofs.Cases.{cases_eliminate}
use Rattle.lois_order.proofs.Projects.{alone_eliminates}
use Rattle.lois_order.proofs.atoms.without_level.Goals as goal

pub returns-then-not-cases-clause-equivalent : goal.returns-then-not-cases-clause-equivalent
returns-then-not-cases-clause-equivalent c =
    let few = c.if-not-cases.true in
    alone_eliminates c.args.size c.args.cube.now c.in_ok-rest.rest c.put.new.answer
    (joined_projects c.args.size c.args.cube.now c.in_ok-rest.rest c.requires.levels c.requires.apart c.requires.free (sym c.has_cases-cases.ensures ∙ few)
    (subst (λ b. JoinsBounds c.args.size b c.args.cube.now c.in_ok-rest.rest) few c.in_ok-rest.ensures.holds))
    (λ e. c.in_ok-put.ensures.holds e ∙ ap (λ (g : List (List Lit)). holds e g || cube_holds e c.in_ok-rest.rest) c.new-answer.ensures)

pub returns-then-not-cases-clause-levels : goal.returns-then-not-cases-clause-levels
returns-then-not-cases-clause-levels c =
    c.in_ok-put.ensures.levels c.args.size (subst (ConstraintFits c.args.size) (sym c.new-answer.ensures) (All-nil (CubeFits c.args.size))) c.in_ok-rest.ensures.levels

pub add_cases-requires-clause-answer : goal.add_cases-requires-clause-answer
add_cases-requires-clause-answer c =
    c.in_ok-put.ensures.levels c.args.size (subst (ConstraintFits c.args.size) (sym c.new-answer.ensures) (All-nil (CubeFits c.args.size))) c.in_ok-rest.ensures.levels

pub returns-clause-equivalent : goal.returns-clause-equivalent
returns-clause-equivalent c =
    cases_eliminate c.args.size c.args.cube.now c.in_ok-rest.rest c.add_cases.new.answer c.requires.levels c.requires.apart c.requires.free
    (subst (λ b. JoinsBounds c.args.size b c.args.cube.now c.in_ok-rest.rest) c.if-not-cases.false c.in_ok-rest.ensures.holds)
    (λ e. c.in_ok-add_cases.ensures.holds e
    ∙ ap (λ b. b || list_any (is_met e c.args.size c.args.cube.now) c.args.cube.now)
    (c.in_ok-put.ensures.holds e ∙ ap (λ (g : List (List Lit)). holds e g || cube_holds e c.in_ok-rest.rest) c.new-answer.ensures))
