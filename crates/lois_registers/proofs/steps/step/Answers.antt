use Rattle.std.proofs.Common.{◌≡◌, ◌+◌, ◌-◌, ◌∷◌, ◌++◌, take, drop, map, length, sym, subst, ap, ◌∙◌, arith}
use Rattle.std.specs.Prelude.{codes}
use Rattle.std.specs.List.{Contains}
use Rattle.std.proofs.lemmas.List.{take_rest}
use Rattle.lois_registers.specs.Texts.{guard_words, stored_words}
use Rattle.lois_registers.specs.Valid.{AreIncreasing, IsGuard}
use Rattle.lois_registers.proofs.StepWords.{head_words, step_from, step_cut, none_of, some_of}
use Rattle.lois_registers.proofs.steps.step.Goals as goal

pub returns-in_default-2 : goal.returns-in_default-2
returns-in_default-2 c = λ v h e.
    let words = c.args.words.now in
    let behind = take (length words - 4) (drop 4 words) in
    let head = head_words (λ w. w.now) words (codes "step") v.from v.to (codes "when") (guard_words v.guard ++ codes "store" ∷ stored_words v.stored) e in
    let cut = step_cut c.args.frame.order c.args.frame.registers c.args.frame.states.now v c.requires.count.1 h (map (λ w. w.now) behind) _ _ c.in-Some.ensures.cut (ap (map (λ w. w.now)) (take_rest words 4) ∙ head.5) in
    none_of (IsGuard c.args.frame.order c.args.frame.registers) guard_words _ c.in_ok-guard.field-0 c.in_ok-guard.ensures c.in_default-2.is v.guard h.guard cut.0

pub returns-in_default-3 : goal.returns-in_default-3
returns-in_default-3 c = λ v h e.
    let words = c.args.words.now in
    let behind = take (length words - 4) (drop 4 words) in
    let head = head_words (λ w. w.now) words (codes "step") v.from v.to (codes "when") (guard_words v.guard ++ codes "store" ∷ stored_words v.stored) e in
    let cut = step_cut c.args.frame.order c.args.frame.registers c.args.frame.states.now v c.requires.count.1 h (map (λ w. w.now) behind) _ _ c.in-Some.ensures.cut (ap (map (λ w. w.now)) (take_rest words 4) ∙ head.5) in
    none_of (AreIncreasing 0 c.args.frame.registers) stored_words _ c.in_ok-stored.field-0 c.in_ok-stored.ensures c.in_default-3.is v.stored h.stored (ap (map (λ w. w.now)) (take_rest behind _) ∙ cut.1)

pub returns : goal.returns
returns c =
    let words = c.args.words.now in
    let behind = take (length words - 4) (drop 4 words) in
    let g = some_of (IsGuard c.args.frame.order c.args.frame.registers) guard_words _ c.in_ok-guard.field-0 c.in_ok-guard.ensures c.in-Some-2.guard c.in-Some-2.is in
    let s = some_of (AreIncreasing 0 c.args.frame.registers) stored_words _ c.in_ok-stored.field-0 c.in_ok-stored.ensures c.in-Some-3.stored c.in-Some-3.is in
    let tail : map (λ w. w.now) (drop 4 words) ≡ guard_words c.in-Some-2.guard ++ codes "store" ∷ stored_words c.in-Some-3.stored =
    ap (map (λ w. w.now)) (sym (take_rest words 4)) ∙ (c.in-Some.ensures.cut.0 ∙
    (ap (λ z. z ++ codes "store" ∷ map (λ w. w.now) (drop (c.in-Some.store + 1) behind)) g.1 ∙ ap (λ z. guard_words c.in-Some-2.guard ++ codes "store" ∷ z) (ap (map (λ w. w.now)) (sym (take_rest behind (c.in-Some.store + 1))) ∙ s.1))) in (
      record {
        from = subst (Contains c.args.frame.states.now) (sym c.in_ok-from_bytes.ensures) (c.is_among.ensures.0 c.if-not-is_among.false);
        to = subst (Contains c.args.frame.states.now) (sym c.in_ok-from_bytes-2.ensures) (c.is_among-else-not-is_among.ensures.0 c.if-not-is_among-2.false);
        guard = g.0;
        stored = s.0;
      },
      step_from (λ w. w.now) words _ _ _ _ _ (omega arith) (c.is.ensures.0 c.if-not-is.false) c.in_ok-from_bytes.ensures c.in_ok-from_bytes-2.ensures (c.is-else-not-is.ensures.0 c.if-not-is-2.false) tail,
    )
