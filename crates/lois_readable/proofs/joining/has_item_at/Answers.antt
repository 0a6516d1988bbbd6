use Rattle.std.proofs.Common.{◌≡◌, ap, ◌∙◌, sym}
use Rattle.std.specs.Prelude.{Some}
use Rattle.lois_base.specs.Data.{comp}
use Rattle.lois_base.specs.Tree.{tree, comp_of}
use Rattle.lois_readable.proofs.Joined.{viewed_at}
use Rattle.lois_readable.proofs.joining.has_item_at.Goals as goal

pub returns-then-comp-other : goal.returns-then-comp-other
returns-then-comp-other c = λ yes.
    let k = c.args.comp.now in
    let o = c.in-Some.other.now in
    let here = c.in-Some.ensures.lookup in
    let item : tree k.item ≡ tree o.item = c.is_equal.ensures.0 yes in
    let alike : Some (comp_of o) ≡ Some (comp k.binders o.guard (tree k.item)) =
    ap (λ m. Some (comp m o.guard (tree o.item))) (sym c.if-comp-other.true)
    ∙ ap (λ t. Some (comp k.binders o.guard t)) (sym item) in
    (o.guard, viewed_at c.args.joined.now c.args.place o here.3.0 (here.3.1 o) ∙ alike)
