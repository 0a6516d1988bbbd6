use Rattle.std.proofs.Common.{◌≡◌, length, Some, sym, ap, ◌∙◌, arith}
use Rattle.std.proofs.lemmas.Bool.{lt-ltb}
use Rattle.lois_base.specs.Tree.{tree}
use Rattle.lois_terms.specs.Shapes.{shape_of}
use Rattle.lois_automata.specs.Projections.{pair_of, triple_of}
use Rattle.lois_minimise.proofs.transitions.is_step_shape.Goals as goal

pub returns-in_default : goal.returns-in_default
returns-in_default c = λ q x l r z i e1 e2 at. absurd (c.in_default.ensures.none (pair_of q x) l e1)

pub returns-in_default-pair_parts : goal.returns-in_default-pair_parts
returns-in_default-pair_parts c = λ q x l r z i e1 e2 at.
    let is = c.in-Some.ensures.some in
    let e : tree c.in-Some.from.now ≡ pair_of q x = cc in
    absurd (c.in_default-pair_parts.ensures.none q x e)

pub returns-in_default-pair_parts-2 : goal.returns-in_default-pair_parts-2
returns-in_default-pair_parts-2 c = λ q x l r z i e1 e2 at. absurd (c.in_default-pair_parts-2.ensures.none r z e2)

pub returns : goal.returns
returns c = λ q x l r z i e1 e2 at.
    let s1 = c.in-Some.ensures.some in
    let s2 = c.in-Some-pair_parts.ensures.some in
    let s3 = c.in-Some-pair_parts-2.ensures.some in
    let is1 : q ≡ tree c.in-Some-pair_parts.source.now = cc in
    let is2 : l ≡ tree c.in-Some.letter.now = cc in
    let is3 : r ≡ tree c.in-Some-pair_parts-2.target.now = cc in
    let here : triple_of q l r ≡ tree c.in_ok-step.step = ap (λ z. triple_of z l r) is1 ∙ (ap (λ z. triple_of (tree c.in-Some-pair_parts.source.now) z r) is2 ∙ (ap (triple_of (tree c.in-Some-pair_parts.source.now) (tree c.in-Some.letter.now)) is3 ∙ sym c.in_ok-step.ensures)) in
    let found = c.positions.ensures.found i (at ∙ ap Some (ap shape_of here ∙ sym c.shape.ensures.exact)) in
    lt-ltb 0 (length c.positions.result.now) (omega (arith, found.1))
