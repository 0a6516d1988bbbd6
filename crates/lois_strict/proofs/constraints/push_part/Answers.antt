use Rattle.std.proofs.Common.{◌≡◌, [], ◌∷◌, ◌++◌, List, sym, ap, ◌∙◌, subst}
use Rattle.std.proofs.lemmas.List.Elements.{All-push}
use Rattle.lois_base.specs.Truth.{holds}
use Rattle.lois_base.specs.declared.guards.Lit.{Lit}
use Rattle.lois_constraint.specs.Rules.{Obeys, CubeObeys, ConstraintObeys}
use Rattle.lois_strict.proofs.ApartLiterals.{unmet_adds_nothing, part_added}
use Rattle.lois_strict.proofs.constraints.push_part.Goals as goal

pub returns-then-branch-clause-truth : goal.returns-then-branch-clause-truth
returns-then-branch-clause-truth c =
    let part : c.push.new.self ≡ c.args.cube.now ++ c.args.lit ∷ [] = c.in_ok-push.ensures.ok ∙ ap (λ (k : List Lit). k ++ c.args.lit ∷ []) c.in_ok-part.ensures in
    λ e. unmet_adds_nothing e c.args.cube.now c.push.new.self c.args.lit part (holds e c.args.parts.now) (c.in_ok-conflict.ensures.unmet.0 c.if-branch.true e)

pub returns-clause-truth : goal.returns-clause-truth
returns-clause-truth c =
    let part : c.push.new.self ≡ c.args.cube.now ++ c.args.lit ∷ [] = c.in_ok-push.ensures.ok ∙ ap (λ (k : List Lit). k ++ c.args.lit ∷ []) c.in_ok-part.ensures in
    λ e. part_added e c.args.cube.now c.push.new.self c.args.lit part c.args.parts.now c.push-2.new.self c.in_ok-push-2.ensures.ok

pub returns-clause-rules : goal.returns-clause-rules
returns-clause-rules c =
    let part : c.push.new.self ≡ c.args.cube.now ++ c.args.lit ∷ [] = c.in_ok-push.ensures.ok ∙ ap (λ (k : List Lit). k ++ c.args.lit ∷ []) c.in_ok-part.ensures in
    λ rule h k o. subst (ConstraintObeys rule) (sym c.in_ok-push-2.ensures.ok) (All-push (CubeObeys rule) c.args.parts.now c.push.new.self h (subst (CubeObeys rule) (sym part) (All-push (Obeys rule) c.args.cube.now c.args.lit k o)))
