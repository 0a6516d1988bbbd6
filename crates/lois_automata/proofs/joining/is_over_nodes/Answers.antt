use Rattle.std.proofs.Common.{length, sym, ap, arith}
use Rattle.std.proofs.lemmas.List.{length-map}
use Rattle.lois_base.specs.Tree.{comp_of}
use Rattle.lois_relate.proofs.Parts.{is_comp_of}
use Rattle.lois_automata.proofs.Families.{over_lengths}
use Rattle.lois_automata.proofs.joining.is_over_nodes.Goals as goal

pub returns-then-comps-members : goal.returns-then-comps-members
returns-then-comps-members c =
    sym (over_lengths c.args.size c.args.nodes.now c.args.family.now (λ e. absurd (omega (arith, c.if-comps-members.true, e, length-map c.as_slice-comps.result.now comp_of, ap length c.as_slice-comps.ensures, ap length c.as_slice-members.ensures.items))))

pub overflow_add-size : goal.overflow_add-size
overflow_add-size c =
    let k = is_comp_of c.as_slice-comps.result.now c.args.nodes.now c.loop-index.index c.index-comps-index.result c.as_slice-comps.ensures (omega (arith, c.loop-index-test.true)) c.index-comps-index.is in
    omega (arith, (k.fits c.args.size c.requires).0)
