use Rattle.std.proofs.Common.{◌≡◌, ◌+◌, Bool, true, false, not, ◌&&◌, List, take, sym, ap, ◌∙◌, subst, arith}
use Rattle.std.proofs.lemmas.Bool.{and_parts}
use Rattle.std.proofs.lemmas.Grind.{common_steps}
use Rattle.lois_base.specs.Atom.{Atom}
use Rattle.lois_base.specs.Truth.{cube_holds, holds}
use Rattle.lois_base.specs.declared.guards.Lit.{Lit}
use Rattle.lois_constraint.specs.Rules.{Rule, IsKeptByDenial, ConstraintObeys}
use Rattle.lois_constraint.proofs.Tightened.{rest_shrinks}
use Rattle.lois_constraint.proofs.Uses.{item_obeys}
use Rattle.lois_constraint.proofs.negation.take_off_partly.Goals as goal
use Rattle.lois_constraint.proofs.negation.take_off_partly.Goals.{then-len-most, else-len-most}

pub loop-cube-preserved : goal.loop-cube-preserved
loop-cube-preserved c =
    let x : List Lit = c.cube-item.result in
    let items : List (List Lit) = c.as_slice-cube-items.result.now in
    let met : List (List Lit) = c.in_ok-rest.rest in
    let before = c.loop-cube.invariant in
    let left : List Atom → Bool = λ e. holds e c.args.antichain && not (holds e (take (c.loop-cube.cube-index + 1) items)) in
    let exactly : (e : List Atom) → holds e c.loop-cube.rest ≡ (holds e c.args.antichain && not (holds e (take c.loop-cube.cube-index items))) → holds e met ≡ left e =
    λ e t. c.in_ok-rest.ensures.truth e ∙ rest_shrinks e (holds e c.args.antichain) c.loop-cube.rest items x c.loop-cube.cube-index (omega arith) c.cube-item.is t in
    let partly : (e : List Atom) → holds e met ≡ true → left e ≡ true =
    λ e h. let one : holds e c.loop-cube.rest ≡ true = (and_parts (holds e c.loop-cube.rest) (not (cube_holds e x)) (sym (c.in_ok-rest.ensures.truth e) ∙ h)).0 in sym (exactly e (one ∙ sym (before.part e one))) ∙ h in
    let obeyed : (rule : Rule) → IsKeptByDenial rule → ConstraintObeys rule c.args.antichain → ConstraintObeys rule c.args.c.now → ConstraintObeys rule met =
    λ rule d h k. c.in_ok-rest.ensures.rules rule d (before.rules rule d h k) (item_obeys rule c.args.c.now items c.loop-cube.cube-index x c.as_slice-cube-items.ensures (omega arith) c.cube-item.is k) in
    elim c.if-len-most.branch [
      | then-len-most w ↦ record {
        part = λ e h. partly e (w.keep_first-rest.ensures.truth e (subst (λ (g : List (List Lit)). holds e g ≡ true) w.rest-is h));
        whole = λ h e. let no : c.if-len-most.whole ≡ false = w.whole-is in let yes : c.if-len-most.whole ≡ true = h in cc;
        rules = λ rule d h k. subst (ConstraintObeys rule) (sym w.rest-is) (w.keep_first-rest.ensures.rules rule (obeyed rule d h k));
      }
      | else-len-most w ↦ record {
        part = λ e h. partly e (subst (λ (g : List (List Lit)). holds e g ≡ true) w.rest-is h);
        whole = λ h e. ap (holds e) w.rest-is ∙ exactly e (before.whole (sym w.whole-is ∙ h) e);
        rules = λ rule d h k. subst (ConstraintObeys rule) (sym w.rest-is) (obeyed rule d h k);
      }
    ]

pub returns-clause-part : goal.returns-clause-part
returns-clause-part c =
    let k : take c.loop-cube.cube-index c.as_slice-cube-items.result.now ≡ c.args.c.now = grind (arith, common_steps) in
    λ e h. ap (λ (g : List (List Lit)). holds e c.args.antichain && not (holds e g)) (sym k) ∙ c.loop-cube.invariant.part e h

pub returns-clause-whole : goal.returns-clause-whole
returns-clause-whole c =
    let k : take c.loop-cube.cube-index c.as_slice-cube-items.result.now ≡ c.args.c.now = grind (arith, common_steps) in
    λ h e. c.loop-cube.invariant.whole h e ∙ ap (λ (g : List (List Lit)). holds e c.args.antichain && not (holds e g)) k
