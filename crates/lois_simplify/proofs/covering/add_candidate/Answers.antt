use Rattle.std.proofs.Common.{◌≡◌, ◌++◌, map, None, option_map, option_to_list, sym, ap, ◌∙◌, Bor}
use Rattle.std.proofs.lemmas.List.{append-nil}
use Rattle.lois_base.specs.Tree.{comp_of}
use Rattle.lois_base.specs.declared.values.Comp.{Comp}
use Rattle.lois_simplify.specs.Candidates.{behind}
use Rattle.lois_simplify.proofs.covering.add_candidate.Goals as goal

pub returns-in_default : goal.returns-in_default
returns-in_default c =
    let old = c.args.candidates.now in
    let none : behind c.args.first (map comp_of c.args.comps.now) c.args.position ≡ None =
    sym c.behind.ensures ∙ ap (option_map (λ (k : Bor Comp). comp_of k.now)) c.in_default.is in
    sym (ap (λ o. old ++ option_to_list o) none ∙ append-nil old)
