use Rattle.std.proofs.Common.{◌≡◌, false, get_or, take, sym, subst}
use Rattle.std.proofs.lemmas.List.{take_all, take_more}
use Rattle.std.proofs.lemmas.List.Elements.{All-push}
use Rattle.std.specs.List.{All}
use Rattle.lois_base.proofs.Viewed.{item_has}
use Rattle.lois_base.specs.Tree.{tree}
use Rattle.lois_census.specs.Left.{IsUsable}
use Rattle.lois_picture.specs.NodeView.{node_of}
use Rattle.lois_picture.proofs.FoundNodes.{IsOutsideAt, outside_here, lies_here, position_within, not_nowhere}
use Rattle.lois_picture.proofs.linking.find_node.Goals as goal

pub lies_in-requires-clause-node : goal.lies_in-requires-clause-node
lies_in-requires-clause-node g c =
    let o = g.T.Structure.ordered in
    let items = c.as_slice-all.result.now in
    let found = c.positions-position-items.result.now in
    let i = c.loop-position.position-index in
    item_has node_of (λ v. IsUsable o v.orbit) items c.args.nodes.now (get_or found i 0) c.index-all-position.result c.as_slice-all.ensures.items
    (position_within o c.args.nodes.now (tree c.args.t.now) c.args.sample.now items c.args.shapes.now found i 0 c.as_slice-all.ensures.items c.requires.shapes c.positions-position-items.ensures.within c.loop-position-test.true) c.index-all-position.is c.requires.nodes

pub returns-then-branch : goal.returns-then-branch
returns-then-branch g c =
    let o = g.T.Structure.ordered in
    let nodes = c.args.nodes.now in
    let t = tree c.args.t.now in
    let s = c.args.sample.now in
    let items = c.as_slice-all.result.now in
    let found = c.positions-position-items.result.now in
    let i = c.loop-position.position-index in
    let l = position_within o nodes t s items c.args.shapes.now found i 0 c.as_slice-all.ensures.items c.requires.shapes c.positions-position-items.ensures.within c.loop-position-test.true in
    lies_here o nodes t s items (get_or found i 0) c.index-all-position.result c.as_slice-all.ensures.items l c.index-all-position.is c.in_ok-lies_in.field-0 c.in_ok-lies_in.ensures c.if-branch.true

pub loop-position-preserved : goal.loop-position-preserved
loop-position-preserved g c =
    let o = g.T.Structure.ordered in
    let nodes = c.args.nodes.now in
    let t = tree c.args.t.now in
    let s = c.args.sample.now in
    let items = c.as_slice-all.result.now in
    let found = c.positions-position-items.result.now in
    let i = c.loop-position.position-index in
    let l = position_within o nodes t s items c.args.shapes.now found i 0 c.as_slice-all.ensures.items c.requires.shapes c.positions-position-items.ensures.within c.loop-position-test.true in
    let no : c.in_ok-lies_in.field-0 ≡ false = c.if-branch.false in
    subst (All (IsOutsideAt o nodes t s)) (sym (take_more found i 0 c.loop-position-test.true))
    (All-push (IsOutsideAt o nodes t s) (take i found) (get_or found i 0) c.loop-position.invariant
    (outside_here o nodes t s items (get_or found i 0) c.index-all-position.result c.as_slice-all.ensures.items l c.index-all-position.is c.in_ok-lies_in.field-0 c.in_ok-lies_in.ensures (λ h. absurd (cc))))

pub unreachable-requires : goal.unreachable-requires
unreachable-requires g c =
    let o = g.T.Structure.ordered in
    let nodes = c.args.nodes.now in
    let t = tree c.args.t.now in
    let s = c.args.sample.now in
    let found = c.positions-position-items.result.now in
    not_nowhere o nodes t s c.shape.result c.args.shapes.now found c.requires.shapes c.shape.ensures.same c.positions-position-items.ensures.found
    (subst (All (IsOutsideAt o nodes t s)) (take_all c.loop-position.position-index found c.loop-position-test.false) c.loop-position.invariant) c.requires.listed
