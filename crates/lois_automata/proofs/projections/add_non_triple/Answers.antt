use Rattle.std.proofs.Common.{sym, subst}
use Rattle.std.proofs.lemmas.Result.{IfOk-weaker}
use Rattle.lois_base.specs.Data.{comp, comps_of}
use Rattle.lois_base.specs.Tree.{tree, comp_of}
use Rattle.lois_algebra.specs.Gathered.{IsPut}
use Rattle.lois_automata.specs.Projections.{AddsOfOne, IsNonTriple}
use Rattle.lois_automata.proofs.Shaping.{adds_misfit, fits_well}
use Rattle.lois_automata.proofs.projections.add_non_triple.Goals as goal

pub returns-in-Some : goal.returns-in-Some
returns-in-Some c = λ n.
    let k = c.args.comp.now in
    let step = c.in-Some.field-0 in
    let before = comps_of c.args.others.now in
    subst (λ z. AddsOfOne IsNonTriple n (comp k.binders k.guard z) before before) (sym c.in-Some.ensures.some)
    (fits_well n k.binders k.guard (tree step.source.now) (tree step.letter.now) (tree step.target.now) before)

pub returns-in_ok-copy-in-None : goal.returns-in_ok-copy-in-None
returns-in_ok-copy-in-None c =
    let k = c.args.comp.now in
    let copy = c.in_ok-copy-in-None.field-0 in
    let before = comps_of c.args.others.now in
    let after = comps_of c.push_comp.new.comps in
    IfOk-weaker c.push_comp.result (λ _. IsPut (comp_of copy) before after) _ (λ _ added n.
    adds_misfit n k.binders k.guard (tree k.item) before after c.in-None.ensures.none (subst (λ z. IsPut (comp_of z) before after) c.in_ok-copy-in-None.ensures added)) c.push_comp.ensures.added
