use Rattle.std.proofs.Common.{[], ◌∷◌, map, ap, ◌∙◌}
use Rattle.std.proofs.lemmas.List.{map-append}
use Rattle.lois_base.proofs.Viewed.{item_has, mapped_more, all_taken}
use Rattle.lois_constraint.proofs.Shifting.{All-of_map}
use Rattle.lois_census.specs.Orbits.{FitsSample}
use Rattle.lois_picture.specs.GraphText.{node_label}
use Rattle.lois_picture.specs.NodeView.{node_of}
use Rattle.lois_picture.proofs.Labels.{node_is_written}
use Rattle.lois_picture.proofs.texts.append_nodes.Goals as goal

pub spell_node-requires : goal.spell_node-requires
spell_node-requires c =
    item_has node_of (λ v. FitsSample v.orbit) c.as_slice-node-items.result.now c.args.nodes.now c.loop-index.index c.node-item.result c.as_slice-node-items.ensures.items c.loop-index-test.true c.node-item.is (All-of_map FitsSample (λ v. v.orbit) c.args.nodes.now c.requires)

pub loop-index-preserved : goal.loop-index-preserved
loop-index-preserved c =
    let items = c.as_slice-node-items.result.now in
    let i = c.loop-index.index in
    let x = c.node-item.result in
    record {
      text = node_is_written items i x c.args.text.now.items c.loop-index.text.items c.append_node.new.text.items c.loop-index-test.true c.node-item.is c.loop-index.invariant.text c.in_ok-append_node.ensures;
      labels = mapped_more node_of node_label items i x (map (λ z. z.items) c.loop-index.labels.items) (map (λ z. z.items) c.push.new.self.items) _ (ap (map (λ z. z.items)) c.in_ok-push.ensures.items ∙ map-append (λ z. z.items) c.loop-index.labels.items (c.in_ok-label.label ∷ [])) c.in_ok-label.ensures c.loop-index.invariant.labels c.loop-index-test.true c.node-item.is;
    }

pub returns-clause-labels : goal.returns-clause-labels
returns-clause-labels c =
    c.loop-index.invariant.labels ∙ ap (map node_label) (all_taken node_of c.as_slice-node-items.result.now c.args.nodes.now c.loop-index.index c.as_slice-node-items.ensures.items c.loop-index-test.false)
