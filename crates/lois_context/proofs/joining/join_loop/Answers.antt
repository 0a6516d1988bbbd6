use Rattle.std.proofs.Common.{subst}
use Rattle.lois_context.specs.Joined.{AreJoined}
use Rattle.lois_context.proofs.Joined.{has_joined, joined_admits, joined_widths}
use Rattle.lois_context.proofs.SlotDepths.{joined_within}
use Rattle.lois_context.proofs.joining.join_loop.Goals as goal

pub returns-clause-members : goal.returns-clause-members
returns-clause-members c =
    let before = c.args.before in
    let joined = subst (λ ds. AreJoined before.size ds before.store c.in_ok-store.store) c.deref.ensures.value c.in_ok-store.ensures.joined in
    has_joined before c.args.ends.items c.in_ok-store.store c.requires joined

pub returns-clause-operators : goal.returns-clause-operators
returns-clause-operators c = λ ordered h k.
    let before = c.args.before in
    let joined = subst (λ ds. AreJoined before.size ds before.store c.in_ok-store.store) c.deref.ensures.value c.in_ok-store.ensures.joined in
    record { «when» = h.«when»; store = joined_admits ordered before.size c.args.ends.items before.store c.in_ok-store.store joined k h.store; lines = h.lines }

pub returns-clause-widths : goal.returns-clause-widths
returns-clause-widths c = λ h k.
    let before = c.args.before in
    let joined = subst (λ ds. AreJoined before.size ds before.store c.in_ok-store.store) c.deref.ensures.value c.in_ok-store.ensures.joined in
    record { store = joined_widths before.size c.args.ends.items before.store c.in_ok-store.store joined k h.store; lines = h.lines }

pub returns-clause-depth : goal.returns-clause-depth
returns-clause-depth c =
    let before = c.args.before in
    let joined = subst (λ ds. AreJoined before.size ds before.store c.in_ok-store.store) c.deref.ensures.value c.in_ok-store.ensures.joined in
    joined_within before c.args.ends.items c.in_ok-store.store c.requires joined
