use Rattle.std.proofs.Common.{◌≡◌, [], ◌∷◌, ◌||◌, List, sym, ap, ◌∙◌, subst}
use Rattle.std.proofs.lemmas.List.Elements.{All-nil}
use Rattle.lois_base.specs.Fits.{CubeFits, ConstraintFits}
use Rattle.lois_base.specs.Theory.{Eliminates}
use Rattle.lois_base.specs.Truth.{holds, cube_holds}
use Rattle.lois_base.specs.declared.guards.Lit.{Lit}
use Rattle.lois_order.proofs.Projects.{absurd_eliminates, alone_eliminates}
use Rattle.lois_order.proofs.Substituted.{substituted_projects}
use Rattle.lois_order.proofs.atoms.OrderAtomsStructure.eliminate.Goals as goal

pub returns-then-contradicts-clause-equivalent : goal.returns-then-contradicts-clause-equivalent
returns-then-contradicts-clause-equivalent c =
    subst (Eliminates c.args.size c.args.cube.now) (sym c.new-answer.ensures)
    (absurd_eliminates c.args.size c.args.cube.now (sym c.contradicts.ensures ∙ c.if-contradicts.true))

pub returns-clause-equivalent : goal.returns-clause-equivalent
returns-clause-equivalent c =
    alone_eliminates c.args.size c.args.cube.now c.in_ok-rest.rest c.put.new.answer
    (substituted_projects c.args.cube.now c.args.size c.in-Some.other c.requires.levels c.in-Some.ensures.found c.in_ok-rest.rest c.in_ok-rest.ensures.holds)
    (λ e. c.in_ok-put.ensures.holds e ∙ ap (λ (g : List (List Lit)). holds e g || cube_holds e c.in_ok-rest.rest) c.new-answer.ensures)

pub returns-clause-levels : goal.returns-clause-levels
returns-clause-levels c =
    c.in_ok-put.ensures.levels c.args.size (subst (ConstraintFits c.args.size) (sym c.new-answer.ensures) (All-nil (CubeFits c.args.size))) c.in_ok-rest.ensures.levels
