use Rattle.std.proofs.Common.{◌≡◌, ◌+◌, [], ◌∷◌, ◌++◌, take, map, sym, ap, ◌∙◌, subst}
use Rattle.lois_base.specs.Tree.{comp_of}
use Rattle.lois_context.specs.Entered.{IsMemberContext, AreMemberContexts}
use Rattle.lois_deciders.proofs.OnlyAsked.{only_asked_then}
use Rattle.lois_context.proofs.Entered.{entries_skip, entries_put}
use Rattle.lois_deciders.proofs.Oracle.{some_is, none_is}
use Rattle.lois_base.proofs.Viewed.{one_more}
use Rattle.lois_relate.proofs.Parts.{is_comp_of}
use Rattle.lois_context.proofs.entering.entries.Goals as goal
use Rattle.lois_context.proofs.entering.entries.Goals.{in-Some+in_ok-push, in_default}

pub entry_of-requires-clause-levels : goal.entry_of-requires-clause-levels
entry_of-requires-clause-levels g c =
    (is_comp_of c.as_slice-comp-items.result.now c.args.comps.now c.loop-comp.comp-index c.comp-item.result c.as_slice-comp-items.ensures c.loop-comp-test.true c.comp-item.is).fits c.args.context.now.size c.requires.levels

pub loop-comp-preserved : goal.loop-comp-preserved
loop-comp-preserved g c =
    let items = c.as_slice-comp-items.result.now in
    let i = c.loop-comp.comp-index in
    let k = comp_of c.comp-item.result in
    let seen : map comp_of (take (i + 1) items) ≡ map comp_of (take i items) ++ k ∷ [] = one_more comp_of items i c.comp-item.result c.loop-comp-test.true c.comp-item.is in
    record {
      entries =
          subst (λ z. AreMemberContexts c.args.context.now c.args.name.now z c.match-branch-2.inner.items) (sym seen)
          (elim c.match-branch-2.branch [
            | in-Some+in_ok-push w ↦
                let entry = some_is (IsMemberContext c.args.context.now c.args.name.now k) c.in_ok-inside.field-0 w.in-Some.inside w.in-Some.is c.in_ok-inside.ensures.entry in
                let pushed = ap (λ v. v.items) w.inner-is ∙ w.in_ok-push.ensures.items in
                subst (AreMemberContexts c.args.context.now c.args.name.now (map comp_of (take i items) ++ k ∷ [])) (sym pushed)
                (entries_put c.args.context.now c.args.name.now (map comp_of (take i items)) c.loop-comp.inner.items k w.in-Some.inside c.loop-comp.invariant.entries entry)
            | in_default w ↦
                let none = c.in_ok-inside.ensures.none (none_is c.in_ok-inside.field-0 w.in_default.is) in
                subst (λ v. AreMemberContexts c.args.context.now c.args.name.now (map comp_of (take i items) ++ k ∷ []) v.items) (sym w.inner-is)
                (entries_skip c.args.context.now c.args.name.now (map comp_of (take i items)) c.loop-comp.inner.items k c.loop-comp.invariant.entries none)
          ]);
      known = c.in_ok-inside.ensures.known;
      only_asked = only_asked_then (λ b. (goal.Decider-dyn g (b.vtable, b.value)).kind_of b.value) (λ b. (goal.Decider-dyn g (b.vtable, b.value)).questions b.value) c.args.chosen.now c.loop-comp.chosen c.entry_of.new.chosen c.loop-comp.invariant.only_asked c.entry_of.ensures.only_asked;
    }
