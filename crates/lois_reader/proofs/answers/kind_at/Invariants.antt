use Rattle.std.proofs.Common.{◌≡◌, drop}
use Rattle.lois_reader.specs.AnswerValues.{kinds_at, all_kinds}
use Rattle.lois_reader.proofs.answers.kind_at.Given as goal

abbrev pub invariant-loop-kind : goal.invariant-loop-kind
invariant-loop-kind l = kinds_at (drop l.kind-index all_kinds) l.bytes ≡ kinds_at all_kinds l.bytes
