-- The bytes so far are what the source gave, and none was asked for past one more than the limit.
use Rattle.std.proofs.Common.{◌+◌, ◌-◌, vec_len}
use Rattle.lois_outside.proofs.Runs.{HasRead}
use Rattle.lois_outside.proofs.reading.read_all.Given as goal

abbrev pub invariant-loop-piece : goal.invariant-loop-piece
invariant-loop-piece g l =
    let source = g.S.Source in
    HasRead source.left source.faults source.takes (l.limit + 1) l.initial.source l.bytes.items l.source

abbrev pub decreases-loop-piece : goal.decreases-loop-piece
decreases-loop-piece g l = l.limit + 1 - vec_len l.bytes
