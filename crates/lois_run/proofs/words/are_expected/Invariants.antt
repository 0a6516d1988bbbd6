use Rattle.std.proofs.Common.{◌≡◌, false, drop, map, string_bytes, Global}
use Rattle.lois_run.specs.CommandLine.{are_expected}
use Rattle.lois_run.proofs.words.are_expected.Given as goal

abbrev pub invariant-loop-word : goal.invariant-loop-word
invariant-loop-word l = are_expected l.seen (drop l.word-index (map (string_bytes {Z = Global}) l.fn.words)) ≡ are_expected false (map (string_bytes {Z = Global}) l.fn.words)
