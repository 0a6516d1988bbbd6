use Rattle.std.proofs.Common.{subst, arith, ◌≡◌}
use Rattle.std.specs.List.{All}
use Rattle.std.proofs.lemmas.List.{take_all}
use Rattle.lois_registers.proofs.StepWords.{cut_at, no_cut}
use Rattle.lois_registers.proofs.steps.first_of.Goals as goal

pub returns-then-is-clause-cut : goal.returns-then-is-clause-cut
returns-then-is-clause-cut c =
    cut_at (λ w. w.now) c.args.words.now c.args.word.now c.loop-i.i _ c.loop-i-test.true (c.is.ensures.0 c.if-is.true) c.loop-i.invariant

pub returns-clause-none : goal.returns-clause-none
returns-clause-none c =
    no_cut (λ w. w.now) c.args.words.now c.args.word.now (subst (All (λ w. w.now ≡ c.args.word.now → ⊥)) (take_all c.loop-i.i c.args.words.now (omega arith)) c.loop-i.invariant)
