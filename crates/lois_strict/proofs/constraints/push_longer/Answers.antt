use Rattle.std.proofs.Common.{◌≡◌, [], ◌∷◌, ◌++◌, List, sym, ap, ◌∙◌, subst}
use Rattle.std.proofs.lemmas.List.Elements.{All-push}
use Rattle.lois_base.specs.declared.guards.Lit.{Lit}
use Rattle.lois_constraint.specs.Rules.{Obeys, CubeObeys, ConstraintObeys}
use Rattle.lois_strict.proofs.ApartLiterals.{part_added}
use Rattle.lois_strict.proofs.constraints.push_longer.Goals as goal

pub returns-clause-truth : goal.returns-clause-truth
returns-clause-truth c =
    let part : c.push.new.self ≡ c.args.cube.now ++ c.args.lit ∷ [] = c.in_ok-push.ensures.ok ∙ ap (λ (k : List Lit). k ++ c.args.lit ∷ []) c.in_ok-part.ensures in
    λ e. part_added e c.args.cube.now c.push.new.self c.args.lit part c.args.parts.now c.push-2.new.self c.in_ok-push-2.ensures.ok

pub returns-clause-rules : goal.returns-clause-rules
returns-clause-rules c =
    let part : c.push.new.self ≡ c.args.cube.now ++ c.args.lit ∷ [] = c.in_ok-push.ensures.ok ∙ ap (λ (k : List Lit). k ++ c.args.lit ∷ []) c.in_ok-part.ensures in
    λ rule h k o. subst (ConstraintObeys rule) (sym c.in_ok-push-2.ensures.ok) (All-push (CubeObeys rule) c.args.parts.now c.push.new.self h (subst (CubeObeys rule) (sym part) (All-push (Obeys rule) c.args.cube.now c.args.lit k o)))
