use Rattle.std.proofs.Common.{◌≡◌, ◌+◌, ◌<◌, ◌^◌, ap, refl, subst}
use Rattle.lois_base.specs.Fits.{Fits}
use Rattle.lois_base.specs.Tree.{tree}
use Rattle.lois_automata.specs.Projections.{triple_of}
use Rattle.lois_deciders.proofs.Oracle.{some_is, none_is}
use Rattle.lois_shortest_word.specs.SymbolicStates.{IsSatisfiableCube}
use Rattle.lois_shortest_word.proofs.Advances.{no_step, never_goes, taken_is}
use Rattle.lois_shortest_word.proofs.steps.step_by.Goals as goal

pub returns-in_default-clause-none : goal.returns-in_default-clause-none
returns-in_default-clause-none g c = λ _.
    let comp = c.args.comp.now in
    let placed = c.in_ok-placed in
    no_step c.args.size comp.binders comp.guard (tree comp.item) c.args.stage.now placed.placed.guard (tree placed.placed.item) placed.ensures.guard placed.ensures.item (tree c.args.layer.now) c.in_default.ensures.none

pub returns-in_default-2-clause-none : goal.returns-in_default-2-clause-none
returns-in_default-2-clause-none g c = λ _.
    let comp = c.args.comp.now in
    let placed = c.in_ok-placed in
    let step = c.in-Some.step in
    never_goes c.args.size comp.binders comp.guard (tree comp.item) c.args.stage.now placed.placed.guard (tree placed.placed.item) placed.ensures.guard placed.ensures.item (tree step.source.now) (tree step.letter.now) (tree step.target.now) (tree c.args.layer.now) c.in_ok-wanted.wanted c.in-Some.ensures.some c.in_ok-wanted.ensures.truth (c.in_ok-met.ensures.none (none_is c.in_ok-met.field-0 c.in_default-2.is))

pub returns-clause-some : goal.returns-clause-some
returns-clause-some g c =
    let comp = c.args.comp.now in
    let s = c.args.stage.now in
    let n = c.args.size + s.more + comp.binders in
    let placed = c.in_ok-placed in
    let p = tree c.in-Some.step.source.now in
    let l = tree c.in-Some.step.letter.now in
    let q = tree c.in-Some.step.target.now in
    let parts : tree placed.placed.item ≡ triple_of p l q = c.in-Some.ensures.some in
    let fits : Fits n (triple_of p l q) = subst (Fits n) parts placed.ensures.item_levels in
    let small : n < 2 ^ 64 = (c.fits.ensures.0 c.if-not-fits.false).0 in
    let narrow = some_is (λ m. IsSatisfiableCube n c.in_ok-wanted.wanted m.constraint m.sample) c.in_ok-met.field-0 c.in-Some-2.met c.in-Some-2.is c.in_ok-met.ensures.some in
    taken_is c.args.size comp.binders comp.guard (tree comp.item) s placed.placed.guard (tree placed.placed.item) placed.ensures.guard placed.ensures.item p l q (tree c.args.layer.now) c.in_ok-wanted.wanted parts c.in_ok-wanted.ensures.truth
    (record { letter = c.in_ok-letter.letter; stage = record { more = s.more + comp.binders; admitted = c.in-Some-2.met.constraint; state = c.in_ok-state.state; sample = c.in-Some-2.met.sample } })
    refl small (ap tree c.in_ok-letter.ensures) (ap tree c.in_ok-state.ensures) fits.1.0 fits.1.1.0 narrow
