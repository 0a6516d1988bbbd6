use Rattle.std.proofs.Common.{subst}
use Rattle.std.proofs.lemmas.Result.{IfOk-weaker}
use Rattle.lois_base.specs.Data.{comp, comps_of}
use Rattle.lois_base.specs.Tree.{tree, comp_of}
use Rattle.lois_algebra.specs.Gathered.{IsPut}
use Rattle.lois_automata.proofs.Joined.{adds_pair}
use Rattle.lois_automata.proofs.pairing.add_pair.Goals as goal

pub returns : goal.returns
returns c =
    let both = c.in_ok-both.both in
    let told = c.in_ok-both.ensures in
    let before = comps_of c.args.made.now in
    let after = comps_of c.push_comp.new.comps in
    IfOk-weaker c.push_comp.result (λ _. IsPut (comp both.binders both.guard (tree c.in_ok-item.item)) before after) _ (λ _ added.
    adds_pair c.args.size (comp_of c.args.first.now) (comp_of c.args.second.now) both.binders both.guard (tree both.first) (tree both.second) told.made before after
    (subst (λ z. IsPut (comp both.binders both.guard z) before after) c.in_ok-item.ensures added)
    (told.room, told.guard_fits, (told.first_fits, (told.second_fits, tt))) told.operators told.first_widths told.second_widths) c.push_comp.ensures.added
