use Rattle.std.proofs.Common.{◌≡◌, [], ◌∷◌, ◌+◌, Some, refl, ap, sym, ◌∙◌, arith}
use Rattle.std.proofs.lemmas.List.{nil_from_length}
use Rattle.std.proofs.lemmas.Result.{on_ok_weaker}
use Rattle.lois_base.specs.Tree.{tree}
use Rattle.lois_base.specs.Data.{comp}
use Rattle.lois_registers.specs.Placed.{full, placed_guard, step_item, step_comp}
use Rattle.lois_registers.proofs.Contents.{full_few}
use Rattle.lois_registers.proofs.Made.{adds_one, adds_idle, guard_made, guard_idle}
use Rattle.lois_registers.proofs.translating.add_step.Goals as goal

pub returns-then-len-eq0 : goal.returns-then-len-eq0
returns-then-len-eq0 c =
    let os = c.args.place.now in
    let g = placed_guard (Some (full os) ∷ os) c.args.step.now.guard in
    let is : c.in_ok-placed.placed ≡ g =
    c.in_ok-placed.ensures ∙ (ap (λ z. placed_guard (Some z ∷ c.contents.result.now) c.args.step.now.guard) c.levels-letter.ensures.counted ∙ ap (λ z. placed_guard (Some (full os) ∷ z) c.args.step.now.guard) c.contents.ensures.same) in
    let none : c.in_ok-guard.guard ≡ [] = nil_from_length c.in_ok-guard.guard (sym c.len.ensures ∙ c.if-len-eq0.true) in
    adds_idle (step_comp c.args.step.now os) c.args.comps.now c.args.comps.now refl (guard_idle (full os + 1) (step_item c.args.step.now os) g c.in_ok-placed.placed c.in_ok-guard.guard is c.in_ok-guard.ensures.truth none)

pub overflow_add-letter : goal.overflow_add-letter
overflow_add-letter c = omega (arith, full_few c.args.place.now, c.levels-letter.ensures.counted, c.requires.few)

pub returns : goal.returns
returns c =
    let os = c.args.place.now in
    let g = placed_guard (Some (full os) ∷ os) c.args.step.now.guard in
    let is : c.in_ok-placed.placed ≡ g =
    c.in_ok-placed.ensures ∙ (ap (λ z. placed_guard (Some z ∷ c.contents.result.now) c.args.step.now.guard) c.levels-letter.ensures.counted ∙ ap (λ z. placed_guard (Some (full os) ∷ z) c.args.step.now.guard) c.contents.ensures.same) in
    let binders : full os + 1 ≡ c.levels-letter.result + 1 = ap (λ z. z + 1) (sym c.levels-letter.ensures.counted) in
    let guard = guard_made g c.in_ok-placed.placed c.in_ok-guard.guard is c.in_ok-guard.ensures.truth c.in_ok-guard.ensures.fits c.in_ok-guard.ensures.operators c.in_ok-guard.ensures.strict in
    on_ok_weaker c.push.result (λ e. adds_one (step_comp c.args.step.now os) (comp (c.levels-letter.result + 1) c.in_ok-guard.guard (tree c.in_ok-item.item)) c.args.comps.now c.push.new.self e (binders, sym c.in_ok-item.ensures, guard)) c.push.ensures.ok
