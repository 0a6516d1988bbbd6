use Rattle.std.proofs.Common.{◌+◌, [], map, sym, subst}
use Rattle.std.proofs.lemmas.Result.{IfOk-weaker}
use Rattle.lois_base.specs.Data.{comps_of}
use Rattle.lois_base.specs.Fits.{ItemsFit}
use Rattle.lois_base.specs.Tree.{comp_of}
use Rattle.lois_context.specs.Joined.{IsWithMoved}
use Rattle.lois_context.specs.SlotView.{slot_of}
use Rattle.lois_context.proofs.Joined.{added_fits, items_fit_parts, with_both}
use Rattle.lois_context.proofs.joining.moved_out.Goals as goal

pub with_moved-requires-clause-fits : goal.with_moved-requires-clause-fits
with_moved-requires-clause-fits c =
    let n = c.args.size + c.args.by in
    (items_fit_parts n (map comp_of c.behind.result.0.now) (map comp_of c.behind.result.1.now) (subst (λ z. ItemsFit n (comps_of z)) (sym c.behind.ensures) (added_fits n (slot_of c.args.end.now) c.requires.end.0))).0

pub with_moved-requires-2-clause-fits : goal.with_moved-requires-2-clause-fits
with_moved-requires-2-clause-fits c =
    let n = c.args.size + c.args.by in
    (items_fit_parts n (map comp_of c.behind.result.0.now) (map comp_of c.behind.result.1.now) (subst (λ z. ItemsFit n (comps_of z)) (sym c.behind.ensures) (added_fits n (slot_of c.args.end.now) c.requires.end.0))).1

pub returns : goal.returns
returns c =
    let n = c.args.size in let g = c.args.when.now in let by = c.args.by in
    let first = map comp_of c.behind.result.0.now in let second = map comp_of c.behind.result.1.now in
    let moved = c.in_ok-moved.moved in
    let own : IsWithMoved n g by first [] moved = subst (λ z. IsWithMoved n g by first z moved) c.new.ensures c.in_ok-moved.ensures in
    IfOk-weaker c.with_moved-2.result (IsWithMoved n g by second moved) _
    (λ r h. subst (λ z. IsWithMoved n g by z [] r) c.behind.ensures (with_both n g by first second [] moved r own h)) c.with_moved-2.ensures
