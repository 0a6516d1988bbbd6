use Rattle.std.proofs.Common.{◌≡◌, not, filter, take}
use Rattle.lois_base.specs.Validity.{is_strict}
use Rattle.lois_strict.proofs.constraints.literals_of.Given as goal

abbrev pub invariant-loop-lit : goal.invariant-loop-lit
invariant-loop-lit l =
    (l.strict ≡ filter (λ q. is_strict q.op) (take l.lit-index l.lit-items)) × (l.weak ≡ filter (λ q. not (is_strict q.op)) (take l.lit-index l.lit-items))
