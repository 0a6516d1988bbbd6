use Rattle.std.proofs.Common.{◌+◌, ◌<◌, ◌≤◌, [], sym, subst, ◌∙◌, arith}
use Rattle.std.proofs.lemmas.Bool.{and_parts}
use Rattle.lois_base.specs.Data.{comp}
use Rattle.lois_base.specs.Normal.{both}
use Rattle.lois_base.specs.Tree.{tree, comp_of}
use Rattle.lois_base.specs.Truth.{holds}
use Rattle.lois_base.proofs.Both.{holds_both}
use Rattle.lois_base.proofs.Validity.{fits_longer}
use Rattle.lois_deciders.specs.Satisfaction.{IsConstraintSample}
use Rattle.lois_deciders.specs.Conjunction.{IsSampledConjunction}
use Rattle.lois_deciders.proofs.Oracle.{some_is, none_is, is_met}
use Rattle.lois_simplify.specs.Fixed.{IsFixed}
use Rattle.lois_simplify.specs.Simplification.{set_of}
use Rattle.lois_simplify.specs.Rounds.{only}
use Rattle.lois_simplify.proofs.Kept.{kept_trans}
use Rattle.lois_simplify.proofs.OneRound.{nothing_kept, guard_kept, binder_less, fixed_can_leave}
use Rattle.lois_simplify.proofs.Shortened.{equally_true}
use Rattle.lois_simplify.proofs.rounds.open_asked.Goals as goal

pub both-requires-clause-first : goal.both-requires-clause-first
both-requires-clause-first g c =
    fits_longer c.args.size c.args.comp.binders c.args.under.now c.requires.under_levels

pub both-requires-clause-second : goal.both-requires-clause-second
both-requires-clause-second g c =
    let inner = c.args.size + c.args.comp.binders in
    c.in_ok-reduced.ensures.shortened.levels inner c.requires.over.levels.1

pub returns-in_default-clause-opening : goal.returns-in_default-clause-opening
returns-in_default-clause-opening g c =
    let u = c.args.under.now in
    let n = c.args.size in
    let k = c.args.comp in
    let h = c.in_ok-reduced.field-0 in
    let apart = c.in_ok-met.ensures.none.0 (none_is c.in_ok-met.field-0 c.in_default.is) in
    kept_trans u n (set_of (only (comp_of k))) (set_of (only (comp k.binders h (tree k.item)))) (set_of [])
    (guard_kept u n k.binders k.guard h (tree k.item) c.requires.under_levels (equally_true u k.guard h c.in_ok-reduced.ensures.shortened) c.in_ok-reduced.ensures.shortened.levels c.in_ok-reduced.ensures.shortened.operators)
    (nothing_kept u n k.binders h (both u h) (tree k.item) c.requires.under_levels (λ d. holds_both d u h) (λ p.
    let parts = and_parts (holds p.0 u) (holds p.0 h) (sym (holds_both p.0 u h) ∙ p.2) in
    apart p.0 p.1 parts.0 parts.1))

pub fixed_binder-requires-clause-here : goal.fixed_binder-requires-clause-here
fixed_binder-requires-clause-here g c =
    let u = c.args.under.now in
    let n = c.args.size in
    let k = c.args.comp in
    let h = c.in_ok-reduced.field-0 in
    let met = some_is (λ m. IsSampledConjunction (n + k.binders) u h m.constraint m.sample) c.in_ok-met.field-0 c.in-Some.met c.in-Some.is c.in_ok-met.ensures.met in
    met.levels

pub fixed_binder-requires-clause-sample : goal.fixed_binder-requires-clause-sample
fixed_binder-requires-clause-sample g c =
    let u = c.args.under.now in
    let n = c.args.size in
    let k = c.args.comp in
    let h = c.in_ok-reduced.field-0 in
    let met = some_is (λ m. IsSampledConjunction (n + k.binders) u h m.constraint m.sample) c.in_ok-met.field-0 c.in-Some.met c.in-Some.is c.in_ok-met.ensures.met in
    subst (IsConstraintSample (n + k.binders) c.in-Some.met.constraint) (sym c.as_slice-sample.ensures) met.sample

pub returns-in_default-2-clause-opening : goal.returns-in_default-2-clause-opening
returns-in_default-2-clause-opening g c =
    let u = c.args.under.now in
    let n = c.args.size in
    let k = c.args.comp in
    let h = c.in_ok-reduced.field-0 in
    let met = some_is (λ m. IsSampledConjunction (n + k.binders) u h m.constraint m.sample) c.in_ok-met.field-0 c.in-Some.met c.in-Some.is c.in_ok-met.ensures.met in (
      guard_kept u n k.binders k.guard h (tree k.item) c.requires.under_levels (equally_true u k.guard h c.in_ok-reduced.ensures.shortened) c.in_ok-reduced.ensures.shortened.levels c.in_ok-reduced.ensures.shortened.operators,
      omega arith,
      record {
        levels = met.levels;
        operators = met.operators;
        here = met.truth;
        guard = c.in_ok-reduced.ensures.normalised;
        plain = λ read. c.in_ok-reduced.ensures.plain read (n + k.binders) (fits_longer n k.binders u c.requires.under_levels) c.requires.over.levels.1;
        met = is_met (n + k.binders) c.in-Some.met.constraint c.in-Some.met.sample met.sample;
        free = c.in_ok-fixed.ensures.none (none_is c.in_ok-fixed.field-0 c.in_default-2.is);
      },
    )

pub without_binder-requires-clause-levels : goal.without_binder-requires-clause-levels
without_binder-requires-clause-levels g c =
    let inner = c.args.size + c.args.comp.binders in
    (c.requires.over.levels.0, c.in_ok-reduced.ensures.shortened.levels inner c.requires.over.levels.1, c.requires.over.levels.2)

pub without_binder-requires-clause-operators : goal.without_binder-requires-clause-operators
without_binder-requires-clause-operators g c =
    c.in_ok-reduced.ensures.shortened.operators g.T.Structure.ordered c.requires.over.operators.0

pub returns-clause-opening : goal.returns-clause-opening
returns-clause-opening g c =
    let u = c.args.under.now in
    let n = c.args.size in
    let k = c.args.comp in
    let h = c.in_ok-reduced.field-0 in
    let inner = n + k.binders in
    let met = some_is (λ m. IsSampledConjunction inner u h m.constraint m.sample) c.in_ok-met.field-0 c.in-Some.met c.in-Some.is c.in_ok-met.ensures.met in
    let r = c.in_ok-shorter.shorter in
    let e = c.in_ok-shorter.ensures in
    let b = c.in-Some-2.fixed.binder in
    let a = c.in-Some-2.fixed.level in
    let range = some_is (λ f. (n ≤ f.binder) × (f.binder < n + k.binders) × (f.level < f.binder)) c.in_ok-fixed.field-0 c.in-Some-2.fixed c.in-Some-2.is c.in_ok-fixed.ensures.range in
    let fixed = some_is (λ f. IsFixed (n + k.binders) c.in-Some.met.constraint f.binder f.level) c.in_ok-fixed.field-0 c.in-Some-2.fixed c.in-Some-2.is c.in_ok-fixed.ensures.some in (
      kept_trans u n (set_of (only (comp_of k))) (set_of (only (comp k.binders h (tree k.item)))) (set_of (only (comp_of r)))
          (guard_kept u n k.binders k.guard h (tree k.item) c.requires.under_levels (equally_true u k.guard h c.in_ok-reduced.ensures.shortened) c.in_ok-reduced.ensures.shortened.levels c.in_ok-reduced.ensures.shortened.operators)
          (binder_less u n k.binders r.binders b a h r.guard (tree k.item) (tree r.item) e.binders e.item c.requires.under_levels range.0 range.1 e.guard e.guard_levels e.guard_operators
          (c.requires.over.levels.0, c.in_ok-reduced.ensures.shortened.levels inner c.requires.over.levels.1, c.requires.over.levels.2)
          (fixed_can_leave u n (n + k.binders) b a h c.in-Some.met.constraint (tree k.item) met.truth range.2 fixed)),
      omega (arith, e.binders),
    )

pub returns-clause-asked : goal.returns-clause-asked
returns-clause-asked g c =
    g.met.D.Oracle.reaches_then c.args.decider.now c.both.new.self c.fixed_binder.new.decider c.both.ensures.asked c.fixed_binder.ensures.asked

pub returns-in_err-fixed-clause-asked : goal.returns-in_err-fixed-clause-asked
returns-in_err-fixed-clause-asked g c =
    g.met.D.Oracle.reaches_then c.args.decider.now c.both.new.self c.fixed_binder.new.decider c.both.ensures.asked c.fixed_binder.ensures.asked

pub returns-in_err-shorter-clause-asked : goal.returns-in_err-shorter-clause-asked
returns-in_err-shorter-clause-asked g c =
    g.met.D.Oracle.reaches_then c.args.decider.now c.both.new.self c.fixed_binder.new.decider c.both.ensures.asked c.fixed_binder.ensures.asked
