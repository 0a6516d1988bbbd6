use Rattle.std.proofs.Common.{◌+◌, ◌≡◌, ◌∙◌, ap, arith}
use Rattle.std.proofs.lemmas.Result.{IfOk-weaker}
use Rattle.lois_base.specs.Data.{comp, comps_of}
use Rattle.lois_base.specs.Tree.{tree, comp_of}
use Rattle.lois_algebra.specs.Gathered.{IsPut}
use Rattle.lois_automata.specs.Projections.{pair_of}
use Rattle.lois_minimise.proofs.Moves.{first_is_no_step, move_put, no_moves_added, second_is_no_step, sources_out_of_order}
use Rattle.lois_minimise.proofs.moving.add_move_back.Goals as goal

pub returns-then-has_no_move : goal.returns-then-has_no_move
returns-then-has_no_move g c =
    no_moves_added c.args.size (comp_of c.args.first.now) (comp_of c.args.second.now) (comps_of c.args.moves.now) (c.has_no_move.ensures c.if-has_no_move.true)

pub returns-in_default : goal.returns-in_default
returns-in_default g c =
    let both = c.in_ok-both.both in
    first_is_no_step c.args.size (comp_of c.args.first.now) (comp_of c.args.second.now) both.binders both.guard (tree both.first) (tree both.second) c.in_ok-both.ensures.made (comps_of c.args.moves.now) c.in_default.ensures.none

pub returns-in_default-into_step : goal.returns-in_default-into_step
returns-in_default-into_step g c =
    let both = c.in_ok-both.both in
    second_is_no_step c.args.size (comp_of c.args.first.now) (comp_of c.args.second.now) both.binders both.guard (tree both.first) (tree both.second) c.in_ok-both.ensures.made (comps_of c.args.moves.now) c.in_default-into_step.ensures.none

pub returns-then-shape : goal.returns-then-shape
returns-then-shape g c =
    let both = c.in_ok-both.both in
    sources_out_of_order c.args.size (comp_of c.args.first.now) (comp_of c.args.second.now) both.binders both.guard (tree both.first) (tree both.second) c.in_ok-both.ensures.made (comps_of c.args.moves.now) _ _ _ _ _ _ c.in-Some.ensures.some c.in-Some-into_step.ensures.some
    (λ b. omega (arith, b, c.if-shape.true, c.shape.ensures.exact, c.shape-2.ensures.exact))

pub returns : goal.returns
returns g c =
    let both = c.in_ok-both.both in
    let told = c.in_ok-both.ensures in
    let one = c.in-Some.one in
    let other = c.in-Some-into_step.other in
    let n = c.args.size in
    let inner = n + both.binders in
    let guard = c.in_ok-guard.guard in
    let found = c.in_ok-found.found in
    let l = tree one.letter in
    let b = tree other.letter in
    let t = tree c.in_ok-target.target in
    let item = tree c.in_ok-item.item in
    let before = comps_of c.args.moves.now in
    let after = comps_of c.push_comp.new.comps in
    let is : item ≡ pair_of t (pair_of (tree one.source) (tree other.source)) = c.in_ok-item.ensures ∙ ap (pair_of t) c.in_ok-source.ensures in
    IfOk-weaker c.push_comp.result (λ _. IsPut (comp both.binders guard item) before after) _ (λ _ added.
    move_put n (comp_of c.args.first.now) (comp_of c.args.second.now) both.binders both.guard found guard (tree both.first) (tree both.second)
    (tree one.source) l (tree one.target) (tree other.source) b (tree other.target) t item before after
    c.in-Some.ensures.some c.in-Some-into_step.ensures.some is c.in_ok-target.ensures (omega (arith, c.if-shape.false, c.shape.ensures.exact, c.shape-2.ensures.exact)) told.made
    (λ d len. (λ x. (c.in_ok-same.ensures.truth d len).0 ((c.in_ok-found.ensures.truth d len).0 x), λ x. (c.in_ok-found.ensures.truth d len).1 ((c.in_ok-same.ensures.truth d len).1 x))) c.in_ok-guard.ensures.truth added
    (told.room, c.in_ok-guard.ensures.fits inner told.guard_fits c.in_ok-found.ensures.levels, told.first_fits) told.second_fits told.operators
    (λ o h p q. c.in_ok-guard.ensures.operators o h (c.in_ok-found.ensures.operators o (c.in_ok-same.ensures.operators o p q))) told.first_widths told.second_widths) c.push_comp.ensures.added
