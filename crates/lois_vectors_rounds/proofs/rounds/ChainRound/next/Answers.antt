use Rattle.std.proofs.Common.{None, refl, sym, subst}
use Rattle.lois_vectors_rounds.proofs.Worked.{length-chained, leaves_where_agreed, agreed_where_left, sizes-chained_from, chained_admitted}
use Rattle.lois_rounds.specs.Equivalences.{equivalent_refl}
use Rattle.lois_rounds.specs.Families.{FamilyFits, AdmitsFamily}
use Rattle.lois_vectors_rounds.specs.Worked.{chained, Chains, EachAgrees}
use Rattle.lois_vectors_rounds.proofs.rounds.ChainRound.next.Goals as goal

pub agree-requires-clause-lengths : goal.agree-requires-clause-lengths
agree-requires-clause-lengths c =
    rw (c.as_slice.ensures.items, c.as_slice-2.ensures.items, c.in_ok-next.ensures) (length-chained c.args.self.now.grows c.args.family.now)

pub returns-then-agree-clause-none : goal.returns-then-agree-clause-none
returns-then-agree-clause-none c =
    let fits : FamilyFits (chained c.args.self.now.grows c.args.family.now) =
    subst FamilyFits c.in_ok-next.ensures c.as_slice-2.ensures.fits in
    let each : EachAgrees c.args.family.now (chained c.args.self.now.grows c.args.family.now) =
    rw (c.as_slice.ensures.items, c.as_slice-2.ensures.items, c.in_ok-next.ensures) at (c.if-agree.ensures.0 refl) in
    (λ _. leaves_where_agreed c.args.self.now.grows c.args.family.now c.as_slice.ensures.fits fits each, λ _. refl)

pub returns-else-agree-clause-none : goal.returns-else-agree-clause-none
returns-else-agree-clause-none c = (
  λ h. absurd (cc h),
  λ leaves. let each : EachAgrees c.as_slice.result.now c.as_slice-2.result.now =
      rw (c.as_slice.ensures.items, c.as_slice-2.ensures.items, c.in_ok-next.ensures) (agreed_where_left c.args.self.now.grows c.args.family.now leaves) in
      absurd (cc (c.if-agree.ensures.1 each)),
)

pub returns-else-agree-clause-led : goal.returns-else-agree-clause-led
returns-else-agree-clause-led c =
    subst (λ f. Chains c.args.self.now.grows c.args.family.now f) (sym c.in_ok-next.ensures) (equivalent_refl (chained c.args.self.now.grows c.args.family.now))

pub returns-else-agree-clause-sizes : goal.returns-else-agree-clause-sizes
returns-else-agree-clause-sizes c =
    rw c.in_ok-next.ensures (sizes-chained_from c.args.self.now.grows None c.args.family.now)

pub returns-else-agree-clause-operators : goal.returns-else-agree-clause-operators
returns-else-agree-clause-operators c =
    λ ordered admits own. subst (AdmitsFamily ordered) (sym c.in_ok-next.ensures) (chained_admitted ordered c.args.self.now.grows None c.args.family.now tt own)
