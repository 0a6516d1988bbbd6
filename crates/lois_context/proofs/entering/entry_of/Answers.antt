use Rattle.std.proofs.Common.{◌+◌, map, refl, ap, subst, ◌∙◌}
use Rattle.lois_base.specs.Tree.{tree}
use Rattle.lois_deciders.specs.Conjunction.{IsSampledConjunction}
use Rattle.lois_context.specs.Entered.{carried, carried_line}
use Rattle.lois_context.specs.Kept.{AreSlots, LinesFit}
use Rattle.lois_context.proofs.Entered.{is_entry}
use Rattle.lois_deciders.proofs.Oracle.{some_is}
use Rattle.lois_context.proofs.entering.entry_of.Goals as goal

pub inner_store-requires-clause-outside : goal.inner_store-requires-clause-outside
inner_store-requires-clause-outside g c =
    let k = c.args.context.now in
    let own = c.in_ok-outside.ensures in
    own.carried.store ∙ ap (λ m. map (carried k.size m) k.store) own.by

pub inner_store-requires-clause-slots : goal.inner_store-requires-clause-slots
inner_store-requires-clause-slots g c =
    let own = c.in_ok-outside.ensures in
    subst (λ m. AreSlots (c.args.context.now.size + m) c.in_ok-outside.outside.store) own.by own.carried.slots

pub invariant_of-result : goal.invariant_of-result
invariant_of-result g c =
    let own = some_is (λ m. IsSampledConjunction (c.args.context.now.size + c.args.comp.now.binders) c.args.context.now.«when» c.args.comp.now.guard m.constraint m.sample) c.in_ok-met.field-0 c.in-Some.met c.in-Some.is c.in_ok-met.ensures.met in
    record {
      levels = own.levels;
      count = own.sample.0.count;
      met = own.sample.1;
      slots = c.in_ok-store.ensures.slots;
      fitting = subst (λ m. LinesFit (c.args.context.now.size + m) c.in_ok-outside.outside.lines) c.in_ok-outside.ensures.by c.in_ok-outside.ensures.carried.fitting;
      names = c.in_ok-store.ensures.names;
    }

pub returns-clause-entry : goal.returns-clause-entry
returns-clause-entry g c =
    let own = some_is (λ m. IsSampledConjunction (c.args.context.now.size + c.args.comp.now.binders) c.args.context.now.«when» c.args.comp.now.guard m.constraint m.sample) c.in_ok-met.field-0 c.in-Some.met c.in-Some.is c.in_ok-met.ensures.met in
    let k = c.args.context.now in
    let lines = c.in_ok-outside.ensures.carried.lines ∙ ap (λ m. map (carried_line k.size m) k.lines) c.in_ok-outside.ensures.by in
    is_entry c.args.context.now c.args.name.now c.args.comp.now.binders c.args.comp.now.guard (tree c.args.comp.now.item) _ refl own.truth own.operators c.in_ok-store.ensures.store lines
