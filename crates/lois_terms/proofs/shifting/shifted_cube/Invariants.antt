use Rattle.std.proofs.Common.{◌≡◌, ◌+◌, ◌^◌, ◌≤◌, take, drop, map}
use Rattle.lois_base.specs.Shift.{shift_lit, top_of_lits}
use Rattle.lois_terms.proofs.shifting.shifted_cube.Given as goal

abbrev pub invariant-loop-lit : goal.invariant-loop-lit
invariant-loop-lit l =
    (l.shifted ≡ map (shift_lit l.from l.by) (take l.lit-index l.lit-items)) × (top_of_lits (drop l.lit-index l.lit-items) + l.by ≤ 2 ^ 64)
