use Rattle.std.proofs.Common.{◌+◌}
use Rattle.std.proofs.lemmas.Result.{IfOk-weaker}
use Rattle.lois_base.specs.Data.{comp, comps_of}
use Rattle.lois_base.specs.FormulaView.{view}
use Rattle.lois_base.specs.Tree.{tree, comp_of}
use Rattle.lois_base.specs.Values.{point, IsSame}
use Rattle.lois_algebra.specs.Gathered.{IsPut}
use Rattle.lois_automata.proofs.Apart.{no_steps_added}
use Rattle.lois_automata.proofs.Joined.{first_is_no_step, second_is_no_step, step_put}
use Rattle.lois_automata.proofs.Tests.{formula_where}
use Rattle.lois_automata.proofs.pairing.add_step.Goals as goal

pub returns-then-letters_clash : goal.returns-then-letters_clash
returns-then-letters_clash g c =
    no_steps_added c.args.size (comp_of c.args.first.now) (comp_of c.args.second.now) (comps_of c.args.made.now) (c.letters_clash.ensures c.if-letters_clash.true)

pub returns-in_default : goal.returns-in_default
returns-in_default g c =
    let both = c.in_ok-both.both in
    first_is_no_step c.args.size (comp_of c.args.first.now) (comp_of c.args.second.now) both.binders both.guard (tree both.first) (tree both.second) c.in_ok-both.ensures.made (comps_of c.args.made.now) c.in_default.ensures.none

pub returns-in_default-into_step : goal.returns-in_default-into_step
returns-in_default-into_step g c =
    let both = c.in_ok-both.both in
    second_is_no_step c.args.size (comp_of c.args.first.now) (comp_of c.args.second.now) both.binders both.guard (tree both.first) (tree both.second) c.in_ok-both.ensures.made (comps_of c.args.made.now) c.in_default-into_step.ensures.none

pub returns : goal.returns
returns g c =
    let both = c.in_ok-both.both in
    let told = c.in_ok-both.ensures in
    let one = c.in-Some.one in
    let other = c.in-Some-into_step.other in
    let n = c.args.size in
    let inner = n + both.binders in
    let guard = c.in_ok-guard.guard in
    let found = c.in_ok-found.found in
    let l = tree one.letter in
    let b = tree other.letter in
    let item = tree c.in_ok-item.item in
    let before = comps_of c.args.made.now in
    let after = comps_of c.push_comp.new.comps in
    IfOk-weaker c.push_comp.result (λ _. IsPut (comp both.binders guard item) before after) _ (λ _ added.
    step_put n (comp_of c.args.first.now) (comp_of c.args.second.now) both.binders both.guard found guard (tree both.first) (tree both.second)
    (tree one.source) l (tree one.target) (tree other.source) b (tree other.target) item before after
    c.in-Some.ensures.some c.in-Some-into_step.ensures.some c.in_ok-item.ensures told.made
    (formula_where inner (λ d. IsSame (point l d) (point b d)) (view c.in_ok-same.same) found c.in_ok-same.ensures.truth c.in_ok-found.ensures.truth) c.in_ok-guard.ensures.truth added
    (told.room, c.in_ok-guard.ensures.fits inner told.guard_fits c.in_ok-found.ensures.levels, told.first_fits) told.second_fits told.operators
    (λ o h p q. c.in_ok-guard.ensures.operators o h (c.in_ok-found.ensures.operators o (c.in_ok-same.ensures.operators o p q))) told.first_widths told.second_widths) c.push_comp.ensures.added
