use Rattle.std.proofs.Common.{arith, subst}
use Rattle.lois_base.specs.Data.{comps_of}
use Rattle.lois_base.specs.Tree.{tree}
use Rattle.lois_base.specs.Validity.{AdmitsItems}
use Rattle.lois_relate.proofs.Parts.{is_comp_of}
use Rattle.lois_automata.specs.Built.{AreFirstMembers}
use Rattle.lois_automata.proofs.Families.{first_more, first_end}
use Rattle.lois_automata.proofs.joining.first_family.Goals as goal

pub first_member-requires-clause-over : goal.first_member-requires-clause-over
first_member-requires-clause-over g c =
    let k = is_comp_of c.as_slice-comp-items.result.now c.args.nodes.now c.loop-comp.comp-index c.comp-item.result c.as_slice-comp-items.ensures c.loop-comp-test.true c.comp-item.is in
    record {
      levels = k.fits c.args.size c.requires.over.levels;
      operators = k.admits g.T.Structure.ordered c.requires.over.operators;
    }

pub loop-comp-preserved : goal.loop-comp-preserved
loop-comp-preserved g c =
    let items = c.as_slice-comp-items.result.now in
    let k = is_comp_of items c.args.nodes.now c.loop-comp.comp-index c.comp-item.result c.as_slice-comp-items.ensures c.loop-comp-test.true c.comp-item.is in
    first_more c.args.size c.args.under.now (tree c.args.t.now) items c.loop-comp.comp-index c.comp-item.result c.in_ok-first_member.field-0 c.loop-comp.family c.push.new.self c.loop-comp-test.true c.comp-item.is c.in_ok-push.ensures.ok c.loop-comp.invariant c.in_ok-first_member.ensures.member
    (λ o h. k.admits o (subst (λ z. AdmitsItems o (comps_of z)) c.as_slice-comp-items.ensures h)) c.in_ok-first_member.ensures.operators

pub returns-clause-members : goal.returns-clause-members
returns-clause-members g c =
    subst (λ z. AreFirstMembers c.args.size c.args.under.now (tree c.args.t.now) (comps_of z) c.loop-comp.family) c.as_slice-comp-items.ensures (first_end c.args.size c.args.under.now (tree c.args.t.now) c.as_slice-comp-items.result.now c.loop-comp.family c.loop-comp.comp-index (omega (arith, c.loop-comp-test.false)) c.loop-comp.invariant)
