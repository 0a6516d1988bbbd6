-- What is gone from `rest` was appended, and each call was handed the rest.
use Rattle.std.proofs.Common.{length}
use Rattle.lois_outside.proofs.Runs.{HasWritten}
use Rattle.lois_outside.proofs.writing.write_all.Given as goal

abbrev pub invariant-loop-rest : goal.invariant-loop-rest
invariant-loop-rest g l =
    let sink = g.K.Sink in
    HasWritten sink.held sink.faults sink.puts l.initial.sink l.bytes l.rest l.sink

abbrev pub decreases-loop-rest : goal.decreases-loop-rest
decreases-loop-rest g l = length l.rest
