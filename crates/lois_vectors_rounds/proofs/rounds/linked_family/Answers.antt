use Rattle.std.proofs.Common.{option_map, sym, subst, arith}
use Rattle.lois_vectors_rounds.proofs.Worked.{link_fits, chained_step}
use Rattle.lois_rounds.specs.Families.{MemberFits, FamilyFits}
use Rattle.lois_vectors_rounds.proofs.rounds.linked_family.Goals as goal

pub push-requires : goal.push-requires
push-requires c =
    let fits : FamilyFits c.as_slice-member-items.result.now =
    rw c.as_slice-member-items.ensures.items c.as_slice-member-items.ensures.fits in
    let own : MemberFits c.member-item.result =
    subst MemberFits (sym c.member-item.is) (fits c.loop-member.member-index c.member-item.result (omega arith)) in
    subst MemberFits (sym c.in_ok-linked_member.ensures) (link_fits c.args.grows (option_map (λ p. p.now) c.loop-member.before) c.member-item.result c.loop-member.invariant.before_fits own)

pub loop-member-preserved : goal.loop-member-preserved
loop-member-preserved c =
    let fits : FamilyFits c.as_slice-member-items.result.now =
    rw c.as_slice-member-items.ensures.items c.as_slice-member-items.ensures.fits in
    record {
      so_far =
          rw (c.in_ok-push.ensures.ok, c.in_ok-linked_member.ensures)
          (chained_step c.args.grows c.as_slice-member-items.result.now c.loop-member.next _ (option_map (λ p. p.now) c.loop-member.before) c.loop-member.member-index c.member-item.result (omega arith) c.member-item.is c.loop-member.invariant.so_far);
      before_fits =
          subst MemberFits (sym c.member-item.is) (fits c.loop-member.member-index c.member-item.result (omega arith));
    }
