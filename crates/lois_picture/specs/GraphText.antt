-- The text of a graph, in Graphviz' DOT.
use Rattle.std.specs.Prelude.{ℕ, suc, ◌-◌, if◌then◌else◌, List, [], ◌∷◌, ◌++◌, length, map, drop, slice_index_or, bytes_eq, codes}
use Rattle.std.specs.Fmt.{decimal}
use Rattle.std.specs.List.{flat_map}
use Rattle.lois_base.specs.Data.{TermD, tup, no_terms, term}
use Rattle.lois_answers.specs.ResultsText.{lined}
use Rattle.lois_answers.specs.TermText.{term_text}
use Rattle.lois_picture.specs.GraphData.{NodeD, EdgeD}
use Rattle.lois_picture.specs.declared.graphs.Graph.{Graph}

abbrev pub number_name : ℕ → List ℕ
number_name a = codes "x" ++ decimal a

-- a term at a sample, with a name for each number: over an order x0 is below x1, as 0 is below 1
abbrev pub named_text : List ℕ → TermD → List ℕ
named_text sample t = term_text (map number_name sample) (length sample) t

abbrev pub node_label : NodeD → List ℕ
node_label v = named_text v.orbit.sample v.orbit.item

-- the label of the node of that number, counted from 1
abbrev pub label_at : List (List ℕ) → ℕ → List ℕ
label_at labels number = slice_index_or labels (number - 1) []

-- an end of a step is told where the label of its node isn't spelled as it is
abbrev pub end_text : List ℕ → List ℕ → List ℕ → List ℕ
end_text word label text = (if (bytes_eq label text) then [] else (word ++ text))

abbrev pub ends_text : List (List ℕ) → EdgeD → TermD → TermD → List ℕ
ends_text labels e p q =
    end_text (codes " from ") (label_at labels e.from) (named_text e.orbit.sample p) ++ end_text (codes " to ") (label_at labels e.to) (named_text e.orbit.sample q)

-- The letter of a step and what its nodes don't say of its ends; of a pair the ends alone. So the label and those of the two nodes
-- say the whole step: an end that isn't told is spelled as the label of its node.
abbrev pub step_label : List (List ℕ) → EdgeD → TermD → List ℕ
step_label labels e (tup (term p (term l (term q no_terms)))) = named_text e.orbit.sample l ++ ends_text labels e p q
step_label labels e (tup (term p (term q no_terms))) = drop 1 (ends_text labels e p q)
step_label labels e t = named_text e.orbit.sample t

abbrev pub edge_label : List (List ℕ) → EdgeD → List ℕ
edge_label labels e = step_label labels e e.orbit.item

-- initial states are bold, and accepting ones have two lines round them
abbrev pub marks_text : NodeD → List ℕ
marks_text v = (if v.initial then (codes ", style=bold") else []) ++ (if v.accepting then (codes ", peripheries=2") else [])

abbrev pub quoted : List ℕ → List ℕ
quoted label = codes "label=" ++ 34 ∷ [] ++ label ++ 34 ∷ []

abbrev pub node_text : ℕ → NodeD → List ℕ
node_text number v = lined (codes "  n" ++ decimal number ++ codes " [" ++ quoted (node_label v) ++ marks_text v ++ codes "]")

-- numbered from i on
abbrev pub nodes_text : ℕ → List NodeD → List ℕ
nodes_text i [] = []
nodes_text i (v ∷ vs) = node_text i v ++ nodes_text (suc i) vs

abbrev pub edge_text : List (List ℕ) → EdgeD → List ℕ
edge_text labels e =
    lined (codes "  n" ++ decimal e.from ++ codes " -> n" ++ decimal e.to ++ codes " [" ++ quoted (edge_label labels e) ++ codes "]")

abbrev pub graph_text : Graph → List ℕ
graph_text g =
    lined (codes "digraph {") ++ nodes_text 1 g.nodes ++ flat_map (edge_text (map node_label g.nodes)) g.edges ++ lined (codes "}")
