use Rattle.std.proofs.Common.{sym, subst}
use Rattle.std.proofs.lemmas.Result.{IfOk-weaker}
use Rattle.lois_base.specs.Data.{comp, comps_of}
use Rattle.lois_base.specs.Tree.{tree}
use Rattle.lois_algebra.specs.Gathered.{IsPut}
use Rattle.lois_automata.specs.Projections.{AddsOfOne}
use Rattle.lois_minimise.specs.Classes.{IsStepMove}
use Rattle.lois_minimise.proofs.StepMoves.{adds_move, no_move}
use Rattle.lois_minimise.proofs.transitions.add_move.Goals as goal

pub returns-in_default : goal.returns-in_default
returns-in_default c = λ n.
    let k = c.args.comp.now in
    no_move n k.binders k.guard (tree k.item) (comps_of c.args.moves.now) c.in_default.ensures.none

pub returns : goal.returns
returns c =
    let k = c.args.comp.now in
    let parts = c.in-Some.parts in
    let before = comps_of c.args.moves.now in
    let after = comps_of c.push_comp.new.comps in
    IfOk-weaker c.push_comp.result (λ _. IsPut (comp k.binders c.in_ok-guard.guard (tree c.in_ok-item.item)) before after) _ (λ _ added n.
    subst (λ z. AddsOfOne IsStepMove n (comp k.binders k.guard z) before after) (sym c.in-Some.ensures.some)
    (adds_move n k.binders k.guard (tree parts.source.now) (tree parts.class.now) (tree parts.letter.now) (tree parts.target.now) (tree parts.next.now) before after
    (subst (λ z. IsPut (comp k.binders k.guard z) before after) c.in_ok-item.ensures
    (subst (λ z. IsPut (comp k.binders z (tree c.in_ok-item.item)) before after) c.in_ok-guard.ensures added)))) c.push_comp.ensures.added
