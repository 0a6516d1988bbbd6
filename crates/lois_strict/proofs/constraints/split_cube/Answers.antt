use Rattle.std.proofs.Common.{◌≡◌, true, ◌&&◌, List, filter, take, refl, sym, ap, ◌∙◌, arith}
use Rattle.std.proofs.lemmas.Grind.{common_steps}
use Rattle.std.proofs.lemmas.List.Elements.{All-filter, filter_passes}
use Rattle.lois_base.specs.Truth.{cube_holds, holds}
use Rattle.lois_base.proofs.Booleans.{and_true, and_first}
use Rattle.lois_base.specs.Validity.{is_strict, IsStrictLit}
use Rattle.lois_base.specs.declared.guards.Lit.{Lit}
use Rattle.lois_constraint.specs.Rules.{strict, Obeys}
use Rattle.lois_strict.proofs.ApartLiterals.{apart_hold, begun_holds, begun_obeys, weak_literals, read_weak, weak_holds, back_read, split_obeys, as_true}
use Rattle.lois_strict.proofs.constraints.split_cube.Goals as goal

pub loop-lit-init : goal.loop-lit-init
loop-lit-init c =
    let k : List Lit = c.args.cube.now in
    let s : List Lit = filter (λ (l : Lit). is_strict l.op) k in
    let first : c.in_ok-strict.field-0.strict ≡ s = cc (c.in_ok-strict.ensures.strict, c.in_ok-strict.strict-is) in
    record {
      there = λ e h. begun_holds c.in_ok-strict.field-0.strict s c.new-parts.result c.push.new.self c.in_ok-push.ensures.ok c.new-parts.ensures first e ∙ and_true (cube_holds e s) true (and_first (cube_holds e s) (cube_holds e (weak_literals k)) (apart_hold e (λ (l : Lit). is_strict l.op) k ∙ h)) refl;
      back = λ e h. sym (begun_holds c.in_ok-strict.field-0.strict s c.new-parts.result c.push.new.self c.in_ok-push.ensures.ok c.new-parts.ensures first e) ∙ h;
      strict = begun_obeys c.in_ok-strict.field-0.strict s c.new-parts.result c.push.new.self c.in_ok-push.ensures.ok c.new-parts.ensures first IsStrictLit (filter_passes (λ (l : Lit). is_strict l.op) k);
      rules = λ rule h. begun_obeys c.in_ok-strict.field-0.strict s c.new-parts.result c.push.new.self c.in_ok-push.ensures.ok c.new-parts.ensures first (Obeys rule) (All-filter (λ (l : Lit). is_strict l.op) (Obeys rule) k h);
    }

pub loop-lit-preserved : goal.loop-lit-preserved
loop-lit-preserved c =
    let k : List Lit = c.args.cube.now in
    let xs : List Lit = c.as_slice-lit-items.result.now in
    let weak : xs ≡ weak_literals k = cc (c.in_ok-strict.ensures.weak, c.in_ok-strict.weak-is, c.as_slice-lit-items.ensures) in
    record {
      there = λ e h. c.in_ok-parts.ensures.there e h (weak_holds k xs c.loop-lit.parts c.in_ok-parts.parts c.loop-lit.lit-index _ weak (omega arith) e h) (c.loop-lit.invariant.there e h);
      back = λ e h. back_read k xs c.loop-lit.parts c.in_ok-parts.parts c.loop-lit.lit-index _ weak (omega arith) e (cube_holds e (filter (λ (l : Lit). is_strict l.op) k)) (c.loop-lit.invariant.back e) (c.in_ok-parts.ensures.back e h);
      strict = c.in_ok-parts.ensures.rules strict c.loop-lit.invariant.strict refl refl;
      rules = λ rule h. split_obeys k xs c.loop-lit.parts c.in_ok-parts.parts c.loop-lit.lit-index _ weak (omega arith) rule h (c.loop-lit.invariant.rules rule h) (c.in_ok-parts.ensures.rules rule);
    }

pub returns-clause-truth : goal.returns-clause-truth
returns-clause-truth c =
    let k : List Lit = c.args.cube.now in
    let weak : c.as_slice-lit-items.result.now ≡ weak_literals k = cc (c.in_ok-strict.ensures.weak, c.in_ok-strict.weak-is, c.as_slice-lit-items.ensures) in
    let whole : take c.loop-lit.lit-index c.as_slice-lit-items.result.now ≡ c.as_slice-lit-items.result.now = grind (arith, common_steps) in
    λ e. as_true (holds e c.loop-lit.parts) (cube_holds e k) (c.loop-lit.invariant.there e) (λ h. sym (apart_hold e (λ (l : Lit). is_strict l.op) k) ∙ (ap (λ (q : List Lit). cube_holds e (filter (λ (l : Lit). is_strict l.op) k) && cube_holds e q) (sym (whole ∙ weak)) ∙ c.loop-lit.invariant.back e h))

pub next_parts-requires : goal.next_parts-requires
next_parts-requires c =
    let k : List Lit = c.args.cube.now in
    let xs : List Lit = c.as_slice-lit-items.result.now in
    let weak : xs ≡ weak_literals k = cc (c.in_ok-strict.ensures.weak, c.in_ok-strict.weak-is, c.as_slice-lit-items.ensures) in
    record { weak = read_weak k xs c.loop-lit.parts c.loop-lit.parts c.loop-lit.lit-index _ weak (omega arith) }
