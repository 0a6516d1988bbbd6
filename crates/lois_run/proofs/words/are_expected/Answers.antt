use Rattle.std.proofs.Common.{◌≡◌, ◌≤◌, List, [], length, map, drop, drop_of_length-le, Some, None, string_bytes, Global, sym, ap, ◌∙◌, arith, ℕ}
use Rattle.std.proofs.lemmas.List.{length-map}
use Rattle.lois_run.specs.CommandLine.{are_expected, seen_behind}
use Rattle.lois_run.proofs.CommandLine.{expected_step, expected_stop}
use Rattle.lois_run.proofs.words.are_expected.Goals as goal

pub returns-in-None : goal.returns-in-None
returns-in-None c =
    let is : seen_behind c.loop-word.seen (string_bytes c.word-item.result) ≡ None = ap (seen_behind c.loop-word.seen) (sym c.as_str.ensures.value) ∙ sym c.in-None.ensures in
    sym (expected_stop c.args.words.now c.loop-word.word-index c.word-item.result c.loop-word.seen c.loop-word-test.true c.word-item.is is) ∙ c.loop-word.invariant

pub loop-word-preserved : goal.loop-word-preserved
loop-word-preserved c =
    let is : seen_behind c.loop-word.seen (string_bytes c.word-item.result) ≡ Some c.in-Some.behind = ap (seen_behind c.loop-word.seen) (sym c.as_str.ensures.value) ∙ sym c.in-Some.ensures in
    sym (expected_step c.args.words.now c.loop-word.word-index c.word-item.result c.loop-word.seen c.in-Some.behind c.loop-word-test.true c.word-item.is is) ∙ c.loop-word.invariant

pub returns : goal.returns
returns c =
    let texts : List (List ℕ) = map (string_bytes {Z = Global}) c.args.words.now in
    let past : length texts ≤ c.loop-word.word-index = omega (arith, length-map c.args.words.now (string_bytes {Z = Global}), c.loop-word-test.false) in
    let none : drop c.loop-word.word-index texts ≡ [] = drop_of_length-le texts past in
    sym (ap (are_expected c.loop-word.seen) none) ∙ c.loop-word.invariant
