use Rattle.std.proofs.Common.{◌≡◌, ◌+◌, ◌<◌, ◌≤◌, [], ◌∷◌, ◌++◌, take, map, sym, subst, arith, ◌↔◌}
use Rattle.lois_registers.specs.Texts.{digit}
use Rattle.lois_registers.specs.Valid.{AreIncreasing}
use Rattle.lois_registers.proofs.Increasing.{increasing_more, register_read, register_at, registers_so_far}
use Rattle.lois_registers.proofs.steps.increasing.Goals as goal

pub returns-in_default : goal.returns-in_default
returns-in_default c = λ v h e.
    let r = register_at (λ w. w.now) c.args.words.now c.loop-word.word-index _ c.loop-word-test.true c.args.registers v h e in
    c.in_default.ensures.none r.0 r.1 r.2 r.3

pub returns-then-next-last : goal.returns-then-next-last
returns-then-next-last c = λ v h e.
    let so = register_read (λ w. w.now) c.args.words.now c.loop-word.word-index _ c.loop-word-test.true c.loop-word.stores c.in-Some.next c.in-Some.ensures.some.2 c.loop-word.invariant.words in
    let more = registers_so_far (λ w. w.now) c.args.words.now c.loop-word.word-index c.args.registers c.loop-word.stores v c.in-Some.next h e so in
    let above = ((c.loop-word.invariant.further c.in-Some.next).0 more).0 in
    absurd (omega (arith, above, c.if-next-last.true))

pub loop-word-preserved : goal.loop-word-preserved
loop-word-preserved c =
    let same : c.push.new.self ≡ c.loop-word.stores ++ c.in-Some.next ∷ [] = c.in_ok-push.ensures.appended in
    let above : c.loop-word.last < c.in-Some.next = omega (arith, c.if-next-last.false) in
    let more : AreIncreasing 0 c.args.registers (c.loop-word.stores ++ c.in-Some.next ∷ []) = (c.loop-word.invariant.further c.in-Some.next).1 (above, c.in-Some.ensures.some.1) in
    record {
      increase = subst (AreIncreasing 0 c.args.registers) (sym same) more;
      further = λ i. subst (λ z. AreIncreasing 0 c.args.registers (z ++ i ∷ []) ↔ ((c.in-Some.next < i) × (i ≤ c.args.registers))) (sym same) (increasing_more c.args.registers 0 c.in-Some.next i c.loop-word.stores more);
      words = subst (λ z. map (λ w. w.now) (take (c.loop-word.word-index + 1) c.args.words.now) ≡ map digit z) (sym same)
          (register_read (λ w. w.now) c.args.words.now c.loop-word.word-index _ c.loop-word-test.true c.loop-word.stores c.in-Some.next c.in-Some.ensures.some.2 c.loop-word.invariant.words);
    }
