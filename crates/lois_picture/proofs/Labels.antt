-- Texts of nodes, one behind the other.
use Rattle.std.proofs.Common.{◌≡◌, ℕ, suc, ◌+◌, ◌<◌, List, [], ◌∷◌, ◌++◌, length, get_or, take, map, sym, ap, ◌∙◌, append_assoc, append-nil, arith}
use Rattle.std.proofs.lemmas.List.{length-map, length-take-le}
use Rattle.lois_base.proofs.Viewed.{one_more}
use Rattle.lois_picture.specs.GraphData.{NodeD}
use Rattle.lois_picture.specs.GraphText.{node_text, nodes_text}
use Rattle.lois_picture.specs.NodeView.{node_of}
use Rattle.lois_picture.specs.declared.graphs.Node.{Node}

nodes_more : (i : ℕ) (vs : List NodeD) (v : NodeD) → nodes_text i (vs ++ v ∷ []) ≡ nodes_text i vs ++ node_text (i + length vs) v
nodes_more i [] v = append-nil (node_text i v) ∙ ap (λ k. node_text k v) (let e : i ≡ i + 0 = omega arith in e)
nodes_more i (u ∷ vs) v =
    ap (λ z. node_text i u ++ z) (nodes_more (suc i) vs v) ∙ (sym (append_assoc (node_text i u) (nodes_text (suc i) vs) (node_text (suc i + length vs) v)) ∙
    ap (λ k. nodes_text i (u ∷ vs) ++ node_text k v) (let e : suc i + length vs ≡ i + suc (length vs) = omega arith in e))

-- one more node is written
pub node_is_written : (xs : List Node) (i : ℕ) (x : Node) (t0 t1 t2 : List ℕ) → i < length xs → x ≡ get_or xs i x → t1 ≡ t0 ++ nodes_text 1 (map node_of (take i xs)) → t2 ≡ t1 ++ node_text (i + 1) (node_of x) → t2 ≡ t0 ++ nodes_text 1 (map node_of (take (i + 1) xs))
node_is_written xs i x t0 t1 t2 l is so_far written =
    let before = map node_of (take i xs) in
    let count : length before ≡ i = length-map (take i xs) node_of ∙ length-take-le i xs (omega (arith, l)) in
    let number : 1 + length before ≡ i + 1 = omega (arith, count) in
    written ∙ (ap (λ z. z ++ node_text (i + 1) (node_of x)) so_far ∙ (append_assoc t0 (nodes_text 1 before) (node_text (i + 1) (node_of x)) ∙
    ap (λ z. t0 ++ z) (ap (λ k. nodes_text 1 before ++ node_text k (node_of x)) (sym number) ∙ (sym (nodes_more 1 before (node_of x)) ∙ ap (nodes_text 1) (sym (one_more node_of xs i x l is))))))
