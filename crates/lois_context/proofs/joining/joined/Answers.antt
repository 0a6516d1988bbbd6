use Rattle.std.proofs.Common.{◌≡◌, ◌≤◌, [], ◌∷◌, ◌++◌, ◌+◌, ◌-◌, length, take, sym, ap, ◌∙◌, subst, arith}
use Rattle.std.proofs.lemmas.List.{length-map, take_more}
use Rattle.lois_context.specs.Joined.{AreEndSlots, AreJoined}
use Rattle.lois_context.specs.Slots.{slot_name}
use Rattle.lois_context.specs.declared.contexts.Context.{Context}
use Rattle.lois_context.proofs.Joined.{end_slots_count, joined_more, names_joined}
use Rattle.lois_context.proofs.joining.joined.Goals as goal

pub with_end-requires-clause-count : goal.with_end-requires-clause-count
with_end-requires-clause-count c =
    let n = c.args.size in
    let store = c.args.store in
    let d = c.end-item.result in
    let own = subst (λ (z : Context). (n ≤ z.size) × AreEndSlots n (z.size - n) store z.store) (sym c.end-item.is) (c.requires.ends c.loop-end.end-index d c.loop-end-test.true) in
    omega (arith, ap length c.loop-end.invariant.names, length-map c.loop-end.joined slot_name, length-map c.args.store slot_name, end_slots_count n (d.size - n) store d.store own.1)

pub loop-end-preserved : goal.loop-end-preserved
loop-end-preserved c =
    let n = c.args.size in
    let ends = c.args.ends.now in
    let i = c.loop-end.end-index in
    let d = c.end-item.result in
    let seen : take (i + 1) ends ≡ take i ends ++ d ∷ [] = take_more ends i d c.loop-end-test.true ∙ ap (λ z. take i ends ++ z ∷ []) (sym c.end-item.is) in
    record {
      joined = subst (λ z. AreJoined n z c.args.store c.in_ok-joined.joined) (sym seen) (joined_more n (take i ends) d c.args.store c.loop-end.joined c.in_ok-joined.joined c.loop-end.invariant.joined c.in_ok-joined.ensures.joined);
      fit = c.in_ok-joined.ensures.slots;
      names = names_joined n (d.size - n) d.«when» [] d.store c.loop-end.joined c.in_ok-joined.joined c.in_ok-joined.ensures.joined ∙ c.loop-end.invariant.names;
    }
