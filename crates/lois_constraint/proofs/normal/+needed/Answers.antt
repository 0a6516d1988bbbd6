use Rattle.std.proofs.Common.{◌≡◌, ◌&&◌, List, ◌++◌, sym, ap, ◌∙◌, subst}
use Rattle.std.proofs.lemmas.List.Elements.{All-take, All-drop, All-append}
use Rattle.lois_base.specs.Truth.{cube_holds}
use Rattle.lois_base.specs.declared.guards.Lit.{Lit}
use Rattle.lois_constraint.specs.Rules.{Obeys, CubeObeys}
use Rattle.lois_constraint.proofs.Tightened.{halves_thinned}
use Rattle.lois_constraint.proofs.normal.+needed.Goals as goal

pub returns-clause-truth : goal.returns-clause-truth
returns-clause-truth t c =
    let beside : List Lit = c.in-Some.beside in
    let low : List Lit = c.split_at.result.0.now in
    let high : List Lit = c.split_at.result.1.now in
    let kept : List Lit = c.in_ok-kept.kept.items in
    let rest : List Lit = c.in_ok-rest.rest.items in
    let both = rw c.in-Some.is at c.in_ok-beside.ensures.truth in
    λ e.
    halves_thinned e (cube_holds e c.args.closed.now) (cube_holds e c.args.others.now) beside low high kept rest c.args.literals.now c.extend_from_slice.new.self.items (both e ∙ ap (λ (k : List Lit). cube_holds e k && cube_holds e c.args.others.now) c.in_ok-copy.ensures) (c.in_ok-kept.ensures.truth e) (subst (λ (z : List Lit). (cube_holds e beside && (cube_holds e z && cube_holds e rest)) ≡ (cube_holds e beside && (cube_holds e z && cube_holds e high))) c.deref.ensures.value (c.in_ok-rest.ensures.truth e)) c.split_at.ensures.by_index.0 (c.in_ok-extend_from_slice.ensures.items ∙ ap (λ (z : List Lit). kept ++ z) c.deref-2.ensures.value)

pub returns-clause-rules : goal.returns-clause-rules
returns-clause-rules t c = λ rule h.
    let low : CubeObeys rule c.split_at.result.0.now = subst (CubeObeys rule) (sym c.split_at.ensures.front) (All-take (Obeys rule) _ c.args.literals.now h) in
    let high : CubeObeys rule c.split_at.result.1.now = subst (CubeObeys rule) (sym c.split_at.ensures.back) (All-drop (Obeys rule) _ c.args.literals.now h) in
    subst (CubeObeys rule) (sym (c.in_ok-extend_from_slice.ensures.items ∙ ap (λ (z : List Lit). c.in_ok-kept.kept.items ++ z) c.deref-2.ensures.value)) (All-append (Obeys rule) c.in_ok-kept.kept.items c.in_ok-rest.rest.items (c.in_ok-kept.ensures.rules rule low) (c.in_ok-rest.ensures.rules rule high))
