use Rattle.std.proofs.Common.{subst}
use Rattle.std.proofs.lemmas.Result.{IfOk-weaker}
use Rattle.lois_base.specs.Data.{comp, comps_of}
use Rattle.lois_base.specs.Tree.{tree, comp_of}
use Rattle.lois_algebra.specs.Gathered.{IsPut}
use Rattle.lois_automata.proofs.Joined.{adds_pair}
use Rattle.lois_minimise.proofs.Matching.{matching_all, no_step_between}
use Rattle.lois_minimise.proofs.transitions.add_transition.Goals as goal

pub returns-then-not-branch : goal.returns-then-not-branch
returns-then-not-branch c = λ steps are.
    let k = c.args.read.now in
    let q = c.args.class.now in
    no_step_between c.args.size steps k.binders q.binders k.guard q.guard (tree k.item) (tree q.item) c.args.shapes.now are
    (λ p x l r z i e1 e2 at. let found = c.in_ok-is_step_shape.ensures p x l r z i e1 e2 at in let missed = c.if-not-branch.true in absurd (cc)) (comps_of c.args.made.now)

pub returns : goal.returns
returns c =
    let both = c.in_ok-both.both in
    let told = c.in_ok-both.ensures in
    let before = comps_of c.args.made.now in
    let after = comps_of c.push_comp.new.comps in
    IfOk-weaker c.push_comp.result (λ _. IsPut (comp both.binders both.guard (tree c.in_ok-item.item)) before after) _ (λ _ added steps are.
    matching_all c.args.size _ _ _ _ _ before after (adds_pair c.args.size (comp_of c.args.read.now) (comp_of c.args.class.now) both.binders both.guard (tree both.first) (tree both.second) told.made before after
    (subst (λ z. IsPut (comp both.binders both.guard z) before after) c.in_ok-item.ensures added)
    (told.room, told.guard_fits, (told.first_fits, (told.second_fits, tt))) told.operators told.first_widths told.second_widths)) c.push_comp.ensures.added
