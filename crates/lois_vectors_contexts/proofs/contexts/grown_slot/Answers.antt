use Rattle.std.proofs.Common.{rules, ◌≡◌, ℕ, List, [], ◌∷◌, ◌++◌, length, length-append, map, refl, sym, ap, ◌∙◌, subst, append_assoc, arith}
use Rattle.lois_base.specs.Data.{TermD, var, tag, tup, coll, CompD, comps_of}
use Rattle.lois_base.specs.Fits.{Fits}
use Rattle.lois_base.specs.Shift.{shift_comp}
use Rattle.lois_base.specs.Tree.{tree, comp_of}
use Rattle.lois_context.specs.Entered.{items_listed}
use Rattle.lois_context.specs.Joined.{IsGoneOn, IsEndSlot}
use Rattle.lois_context.specs.Kept.{IsSlot}
use Rattle.lois_context.specs.Slots.{SlotD}
use Rattle.lois_context.specs.ItemCounts.{comps_in}
use Rattle.lois_context.specs.SlotView.{slot_of}
use Rattle.lois_context.proofs.Carried.{count_of}
use Rattle.lois_context.proofs.Entered.{listed_coll}
use Rattle.lois_vectors_contexts.proofs.contexts.grown_slot.Goals as goal

-- a set that has gone on, with one comprehension more
gone_on_more : (n by : ℕ) (s e r : TermD) (ks : List CompD) (k : CompD) → e ≡ coll (comps_of ks) → r ≡ coll (comps_of (ks ++ k ∷ [])) → IsGoneOn n by s e → IsGoneOn n by s r
gone_on_more n by (coll ls) e r ks k was is gone =
    let old = map (shift_comp n by) (items_listed ls) in
    let listed : ks ≡ old ++ gone.0 = sym (listed_coll e ks was) ∙ listed_coll e (old ++ gone.0) gone.1 in
    (gone.0 ++ k ∷ [], is ∙ (ap (λ z. coll (comps_of (z ++ k ∷ []))) listed ∙ ap (λ z. coll (comps_of z)) (append_assoc old gone.0 (k ∷ []))))
gone_on_more n by (var i) e r ks k was is gone = absurd (cc)
gone_on_more n by (tag x) e r ks k was is gone = absurd (cc)
gone_on_more n by (tup ts) e r ks k was is gone = absurd (cc)

end_slot_more : (n by : ℕ) (s e r : SlotD) (ks : List CompD) (k : CompD) → r.name ≡ e.name → r.from ≡ e.from → e.term ≡ coll (comps_of ks) → r.term ≡ coll (comps_of (ks ++ k ∷ [])) → IsEndSlot n by s e → IsEndSlot n by s r
end_slot_more n by s e r ks k name from was is end =
    record { name = name ∙ end.name; term = gone_on_more n by s.term e.term r.term ks k was is end.term; from = from ∙ end.from }

pub returns-clause-slot : goal.returns-clause-slot
returns-clause-slot g c =
    let fits : Fits c.args.size (coll (comps_of c.push.new.self)) = search rules in
    subst (IsSlot c.args.size) (sym c.in_ok-new.ensures.made) (fits, omega (arith, c.requires.1, ap (λ z. comps_in (tree z)) (sym (c.get.ensures.same ∙ c.in_ok-set.ensures.same) ∙ c.in-Coll.is), count_of c.in-Coll.comps, count_of c.push.new.self, ap length c.in_ok-grown.ensures, ap length c.in_ok-push.ensures.ok, length-append c.in_ok-grown.grown (comp_of c.in_ok-copy.field-0 ∷ [])))

pub returns-clause-end : goal.returns-clause-end
returns-clause-end g c = λ n by s end.
    let k = comp_of c.in_ok-copy.field-0 in
    subst (IsEndSlot n by s) (sym c.in_ok-new.ensures.made)
    (end_slot_more n by s (slot_of c.args.slot.now) _ c.in-Coll.comps k c.in_ok-copy-2.ensures refl (ap tree (sym (c.get.ensures.same ∙ c.in_ok-set.ensures.same) ∙ c.in-Coll.is))
    (ap (λ z. coll (comps_of z)) (c.in_ok-push.ensures.ok ∙ ap (λ z. z ++ k ∷ []) c.in_ok-grown.ensures)) end)

pub returns-clause-name : goal.returns-clause-name
returns-clause-name g c = ap (λ (z : SlotD). z.name) c.in_ok-new.ensures.made ∙ c.in_ok-copy-2.ensures
