use Rattle.std.proofs.Common.{◌≡◌, ◌<◌, length, slice_index_or, arith, sym, subst, ap, ◌∙◌}
use Rattle.lois_rounds.specs.Families.{sizes, MemberFits, AdmitsFamily}
use Rattle.lois_automata.specs.Built.{AreJoinedMembers}
use Rattle.lois_automata.proofs.Families.{joined_begin, joined_more, joined_end, sizes_length, size_at}
use Rattle.lois_automata.proofs.joining.join_family.Goals as goal

pub joined_member-requires-clause-sizes : goal.joined_member-requires-clause-sizes
joined_member-requires-clause-sizes c =
    let f = c.as_slice-member-items.result.now in
    let g = c.as_slice-others.result.now in
    let same : sizes g ≡ sizes f = ap sizes c.as_slice-others.ensures.items ∙ (c.requires ∙ sym (ap sizes c.as_slice-member-items.ensures.items)) in
    let l : c.loop-index.index < length g = omega (arith, c.loop-index-test.true, sizes_length g f same) in
    size_at g f c.loop-index.index c.index-others-index.result c.member-item.result same l c.index-others-index.is c.member-item.is

pub joined_member-requires-clause-other_fits : goal.joined_member-requires-clause-other_fits
joined_member-requires-clause-other_fits c =
    let f = c.as_slice-member-items.result.now in
    let g = c.as_slice-others.result.now in
    let same : sizes g ≡ sizes f = ap sizes c.as_slice-others.ensures.items ∙ (c.requires ∙ sym (ap sizes c.as_slice-member-items.ensures.items)) in
    let l : c.loop-index.index < length g = omega (arith, c.loop-index-test.true, sizes_length g f same) in
    let fits = c.as_slice-others.ensures.fits in
    subst MemberFits (sym c.index-others-index.is) (subst (λ z. MemberFits z) (ap (λ z. slice_index_or z c.loop-index.index c.index-others-index.result) (sym c.as_slice-others.ensures.items)) (fits c.loop-index.index c.index-others-index.result (subst (λ z. c.loop-index.index < length z) c.as_slice-others.ensures.items l)))

pub loop-index-init : goal.loop-index-init
loop-index-init c = joined_begin c.as_slice-member-items.result.now c.as_slice-others.result.now c.new-joined.result c.new-joined.ensures

pub loop-index-preserved : goal.loop-index-preserved
loop-index-preserved c =
    let f = c.as_slice-member-items.result.now in
    let g = c.as_slice-others.result.now in
    let same : sizes g ≡ sizes f = ap sizes c.as_slice-others.ensures.items ∙ (c.requires ∙ sym (ap sizes c.as_slice-member-items.ensures.items)) in
    let l : c.loop-index.index < length g = omega (arith, c.loop-index-test.true, sizes_length g f same) in
    joined_more f g c.loop-index.joined c.push.new.self c.loop-index.index c.member-item.result c.index-others-index.result c.in_ok-joined_member.field-0 c.loop-index-test.true l c.member-item.is c.index-others-index.is c.in_ok-push.ensures.ok c.loop-index.invariant c.in_ok-joined_member.ensures.member c.in_ok-joined_member.ensures.operators

pub returns-clause-members : goal.returns-clause-members
returns-clause-members c =
    let f = c.as_slice-member-items.result.now in
    let g = c.as_slice-others.result.now in
    let same : sizes g ≡ sizes f = ap sizes c.as_slice-others.ensures.items ∙ (c.requires ∙ sym (ap sizes c.as_slice-member-items.ensures.items)) in
    let one : AreJoinedMembers f g c.loop-index.joined = joined_end f g c.loop-index.joined c.loop-index.index (omega (arith, c.loop-index-test.false)) (omega (arith, c.loop-index-test.false, sizes_length g f same)) c.loop-index.invariant in
    subst (λ z. AreJoinedMembers z c.args.fresh.now c.loop-index.joined) c.as_slice-member-items.ensures.items (subst (λ z. AreJoinedMembers f z c.loop-index.joined) c.as_slice-others.ensures.items one)

pub returns-clause-operators : goal.returns-clause-operators
returns-clause-operators c o p q =
    c.loop-index.invariant.operators o (subst (λ z. AdmitsFamily o z) (sym c.as_slice-member-items.ensures.items) p) (subst (λ z. AdmitsFamily o z) (sym c.as_slice-others.ensures.items) q)
