use Rattle.std.proofs.Common.{◌≡◌, true, ◌<◌, length, slice_index_or, map, arith, sym, subst}
use Rattle.std.proofs.lemmas.List.{length-map}
use Rattle.lois_base.specs.Data.{comps_of}
use Rattle.lois_base.specs.Tree.{tree, comp_of}
use Rattle.lois_base.specs.Validity.{AdmitsItems}
use Rattle.lois_relate.proofs.Parts.{is_comp_of}
use Rattle.lois_rounds.specs.Families.{MemberFits}
use Rattle.lois_automata.specs.Built.{AreFreshMembers}
use Rattle.lois_automata.specs.Rounds.{is_over}
use Rattle.lois_automata.proofs.Families.{fresh_more, fresh_end, over_length, over_at}
use Rattle.lois_automata.proofs.joining.fresh_family.Goals as goal

pub bounds-members-index : goal.bounds-members-index
bounds-members-index g c =
    let items = c.as_slice-comp-items.result.now in
    let members = c.as_slice-members.result.now in
    let over : is_over c.args.size (comps_of (map comp_of items)) members ≡ true = subst (λ z. is_over c.args.size (comps_of z) members ≡ true) (sym c.as_slice-comp-items.ensures) (subst (λ z. is_over c.args.size (comps_of c.args.nodes.now) z ≡ true) (sym c.as_slice-members.ensures.items) c.requires.over) in
    omega (arith, c.loop-index-test.true, over_length c.args.size (map comp_of items) members over, length-map items comp_of)

pub fresh_member-requires-clause-over : goal.fresh_member-requires-clause-over
fresh_member-requires-clause-over g c =
    let items = c.as_slice-comp-items.result.now in
    let members = c.as_slice-members.result.now in
    let over : is_over c.args.size (comps_of (map comp_of items)) members ≡ true = subst (λ z. is_over c.args.size (comps_of z) members ≡ true) (sym c.as_slice-comp-items.ensures) (subst (λ z. is_over c.args.size (comps_of c.args.nodes.now) z ≡ true) (sym c.as_slice-members.ensures.items) c.requires.over) in
    over_at c.args.size items members c.loop-index.index c.comp-item.result c.index-members-index.result over c.loop-index-test.true c.comp-item.is c.index-members-index.is

pub fresh_member-requires-clause-fits : goal.fresh_member-requires-clause-fits
fresh_member-requires-clause-fits g c =
    let items = c.as_slice-comp-items.result.now in
    let members = c.as_slice-members.result.now in
    let over : is_over c.args.size (comps_of (map comp_of items)) members ≡ true = subst (λ z. is_over c.args.size (comps_of z) members ≡ true) (sym c.as_slice-comp-items.ensures) (subst (λ z. is_over c.args.size (comps_of c.args.nodes.now) z ≡ true) (sym c.as_slice-members.ensures.items) c.requires.over) in
    let l : c.loop-index.index < length members = omega (arith, c.loop-index-test.true, over_length c.args.size (map comp_of items) members over, length-map items comp_of) in
    subst MemberFits (sym c.index-members-index.is) (subst (λ z. MemberFits (slice_index_or z c.loop-index.index c.index-members-index.result)) (sym c.as_slice-members.ensures.items) (c.as_slice-members.ensures.fits c.loop-index.index c.index-members-index.result (subst (λ z. c.loop-index.index < length z) c.as_slice-members.ensures.items l)))

pub fresh_member-requires-clause-comp : goal.fresh_member-requires-clause-comp
fresh_member-requires-clause-comp g c =
    let k = is_comp_of c.as_slice-comp-items.result.now c.args.nodes.now c.loop-index.index c.comp-item.result c.as_slice-comp-items.ensures c.loop-index-test.true c.comp-item.is in
    record {
      levels = k.fits c.args.size c.requires.nodes.levels;
      operators = k.admits g.T.Structure.ordered c.requires.nodes.operators;
    }

pub loop-index-preserved : goal.loop-index-preserved
loop-index-preserved g c =
    let items = c.as_slice-comp-items.result.now in
    let members = c.as_slice-members.result.now in
    let over : is_over c.args.size (comps_of (map comp_of items)) members ≡ true = subst (λ z. is_over c.args.size (comps_of z) members ≡ true) (sym c.as_slice-comp-items.ensures) (subst (λ z. is_over c.args.size (comps_of c.args.nodes.now) z ≡ true) (sym c.as_slice-members.ensures.items) c.requires.over) in
    let l : c.loop-index.index < length members = omega (arith, c.loop-index-test.true, over_length c.args.size (map comp_of items) members over, length-map items comp_of) in
    let k = is_comp_of items c.args.nodes.now c.loop-index.index c.comp-item.result c.as_slice-comp-items.ensures c.loop-index-test.true c.comp-item.is in
    fresh_more c.args.size c.args.under.now (tree c.args.t.now) items members c.loop-index.index c.comp-item.result c.index-members-index.result c.in_ok-fresh_member.field-0 c.loop-index.fresh c.push.new.self c.loop-index-test.true l c.comp-item.is c.index-members-index.is c.in_ok-push.ensures.ok c.loop-index.invariant c.in_ok-fresh_member.ensures.member
    (λ o h. k.admits o (subst (λ z. AdmitsItems o (comps_of z)) c.as_slice-comp-items.ensures h)) c.in_ok-fresh_member.ensures.operators

pub returns-clause-members : goal.returns-clause-members
returns-clause-members g c =
    let items = c.as_slice-comp-items.result.now in
    let members = c.as_slice-members.result.now in
    let over : is_over c.args.size (comps_of (map comp_of items)) members ≡ true = subst (λ z. is_over c.args.size (comps_of z) members ≡ true) (sym c.as_slice-comp-items.ensures) (subst (λ z. is_over c.args.size (comps_of c.args.nodes.now) z ≡ true) (sym c.as_slice-members.ensures.items) c.requires.over) in
    let all : AreFreshMembers c.args.size c.args.under.now (tree c.args.t.now) (comps_of (map comp_of items)) members c.loop-index.fresh = fresh_end c.args.size c.args.under.now (tree c.args.t.now) items members c.loop-index.fresh c.loop-index.index (omega (arith, c.loop-index-test.false)) (omega (arith, c.loop-index-test.false, over_length c.args.size (map comp_of items) members over, length-map items comp_of)) c.loop-index.invariant in
    subst (λ z. AreFreshMembers c.args.size c.args.under.now (tree c.args.t.now) (comps_of z) c.args.family.now c.loop-index.fresh) c.as_slice-comp-items.ensures (subst (λ z. AreFreshMembers c.args.size c.args.under.now (tree c.args.t.now) (comps_of (map comp_of items)) z c.loop-index.fresh) c.as_slice-members.ensures.items all)
