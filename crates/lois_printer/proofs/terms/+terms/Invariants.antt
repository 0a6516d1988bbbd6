use Rattle.std.proofs.Common.{◌≡◌, ◌++◌, map, take, codes}
use Rattle.lois_base.specs.Tree.{tree, comp_of}
use Rattle.lois_answers.specs.TermText.{term_text, comp_text, joined}
use Rattle.lois_printer.proofs.terms.+terms.Given as goal

abbrev pub invariant-append_items-loop-index : goal.invariant-append_items-loop-index
invariant-append_items-loop-index l =
    l.text.items ≡ l.initial.text.items ++ joined (codes ", ") (map (λ c. comp_text l.parameters l.size (comp_of c)) (take l.index l.comp-items))

abbrev pub invariant-append_parts-loop-index : goal.invariant-append_parts-loop-index
invariant-append_parts-loop-index l =
    l.text.items ≡ l.initial.text.items ++ joined (codes ", ") (map (λ t. term_text l.parameters l.size (tree t)) (take l.index l.part-items))
