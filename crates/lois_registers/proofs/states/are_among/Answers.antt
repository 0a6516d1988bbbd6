use Rattle.std.proofs.Common.{arith, refl, sym, subst}
use Rattle.std.specs.List.{Contains, All}
use Rattle.std.proofs.lemmas.List.{take_all}
use Rattle.std.proofs.lemmas.List.Elements.{All-more}
use Rattle.lois_registers.proofs.states.are_among.Goals as goal

pub loop-name-preserved : goal.loop-name-preserved
loop-name-preserved c =
    All-more (Contains c.args.states.now) c.args.names.now c.loop-name.name-index c.name-item.result (omega arith) c.loop-name.invariant (subst (Contains c.args.states.now) c.name-item.is (subst (Contains c.args.states.now) c.bytes.ensures.same (c.is_among.ensures.0 c.if-not-is_among.false)))

pub returns-then-not-is_among : goal.returns-then-not-is_among
returns-then-not-is_among c = (
  λ h. absurd (cc),
  λ all. let item : Contains c.args.states.now c.name-item.result = subst (Contains c.args.states.now) (sym c.name-item.is) (all c.loop-name.name-index c.name-item.result (omega arith)) in
      let bytes : Contains c.args.states.now c.bytes.result.now = subst (Contains c.args.states.now) (sym c.bytes.ensures.same) item in
      let yes = c.is_among.ensures.1 bytes in cc,
)

pub returns : goal.returns
returns c = (λ _. subst (All (Contains c.args.states.now)) (take_all c.loop-name.name-index c.args.names.now (omega arith)) c.loop-name.invariant, λ _. refl)
