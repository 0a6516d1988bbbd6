use Rattle.std.proofs.Common.{◌<◌, ◌++◌, ◌∷◌, [], length, nat_eq, sym, ap, subst}
use Rattle.std.specs.HashMap.{get, ContainsKey}
use Rattle.std.specs.List.{All, HoldsAt}
use Rattle.lois_deciders.proofs.Oracle.{on_ok, some_is, none_is}
use Rattle.lois_context.specs.Merged.{AreMerged, HasSameContents, IsMergedInto}
use Rattle.lois_context.proofs.Merged.{merged_new, merged_in, like_at, prints_taken, all_placed}
use Rattle.lois_context.proofs.merging.put.Goals as goal

pub merge_into-requires : goal.merge_into-requires
merge_into-requires c =
    let at = some_is (λ i. (i < length c.deref.result.now) × HoldsAt (HasSameContents c.args.context) c.deref.result.now i) c.partner_of.result c.in-Some.place c.in-Some.is c.partner_of.ensures.found in
    ap (λ p. p.0) (like_at c.args.context c.deref.result.now c.args.merged.now.items c.in-Some.place c.index_mut.result.now c.deref.ensures.value at.1 c.index_mut.ensures.value)

pub returns-in-Some-clause-merged : goal.returns-in-Some-clause-merged
returns-in-Some-clause-merged c =
    let at = some_is (λ i. (i < length c.deref.result.now) × HoldsAt (HasSameContents c.args.context) c.deref.result.now i) c.partner_of.result c.in-Some.place c.in-Some.is c.partner_of.ensures.found in
    let same = like_at c.args.context c.deref.result.now c.args.merged.now.items c.in-Some.place c.index_mut.result.now c.deref.ensures.value at.1 c.index_mut.ensures.value in
    on_ok c.merge_into.result (IsMergedInto c.args.context c.index_mut.result.now c.merge_into.new.context) _
    (λ taken ks h. merged_in ks c.args.merged.now.items c.args.context h c.in-Some.place c.index_mut.result.now c.merge_into.new.context (subst (λ ds. c.in-Some.place < length ds) c.deref.ensures.value at.0) c.index_mut.ensures.value same taken)
    c.merge_into.ensures

pub returns-in-Some-clause-hashes : goal.returns-in-Some-clause-hashes
returns-in-Some-clause-hashes c =
    on_ok c.merge_into.result (IsMergedInto c.args.context c.index_mut.result.now c.merge_into.new.context) _
    (λ taken. prints_taken c.args.hashes.now.items c.args.merged.now.items c.in-Some.place c.args.context c.index_mut.result.now c.merge_into.new.context c.requires.hashes c.index_mut.ensures.value taken)
    c.merge_into.ensures

pub returns-clause-merged : goal.returns-clause-merged
returns-clause-merged c = λ ks h.
    subst (AreMerged (ks ++ c.args.context ∷ [])) (sym c.in_ok-push.ensures.items)
    (merged_new ks c.args.merged.now.items c.args.context h (subst (All (λ d. HasSameContents c.args.context d → ⊥)) c.deref.ensures.value (c.partner_of.ensures.none (none_is c.partner_of.result c.in_default.is))))

pub returns-clause-places : goal.returns-clause-places
returns-clause-places c =
    let updated = c.in_ok-insert.ensures.updates in
    subst (All (ContainsKey nat_eq c.insert.new.self)) (sym c.in_ok-push-2.ensures.items)
    (all_placed (get nat_eq c.args.places.now) (get nat_eq c.insert.new.self) c.args.hashes.now.items c.hash_of-hash.result c.len.result updated.0 updated.1 c.requires.places)
