use Rattle.std.proofs.Common.{suc, [], length, sym, ◌∙◌, arith}
use Rattle.std.proofs.lemmas.Result.{err_from_is_err_and}
use Rattle.lois_reader.specs.AnswerValues.{names_at}
use Rattle.lois_reader.proofs.NameLists.{names_halt, names_refused, names_more, names_last, not_free, not_new, free_and_new}
use Rattle.lois_reader.proofs.answers.names_at.Goals as goal
use Rattle.lois_reader.proofs.answers.names_at.Goals.{then-not-is_free-via-then-not-is_free, then-not-is_free-via-else-not-is_free+then-contains}

pub returns-in_err-word-clause-names : goal.returns-in_err-word-clause-names
returns-in_err-word-clause-names c =
    let p = err_from_is_err_and c.from_residual-in_err-word.result c.from_residual-in_err-word.ensures.1 in
    rw (p.1, p.2) (names_halt c.loop-alloc.names c.loop-alloc.rest.now c.in_ok-inside.inside.now c.in_err-word.field-0.0 (names_at (suc (length c.args.bytes.now)) [] c.args.bytes.now) (sym c.begins.ensures ∙ c.loop-alloc-test.true) c.in_ok-inside.ensures.end c.in_err-word.ensures.word c.loop-alloc.invariant.names)

pub returns-then-not-is_free-clause-names : goal.returns-then-not-is_free-clause-names
returns-then-not-is_free-clause-names c =
    names_refused c.loop-alloc.names c.loop-alloc.rest.now c.in_ok-inside.inside.now (c.in_ok-word.word.now, c.in_ok-word.after.now) (names_at (suc (length c.args.bytes.now)) [] c.args.bytes.now) (sym c.begins.ensures ∙ c.loop-alloc-test.true) c.in_ok-inside.ensures.end c.in_ok-word.ensures.word
    (elim c.then-not-is_free.branch [
      | then-not-is_free-via-then-not-is_free w ↦ not_free _ _ (sym c.is_free.ensures ∙ w.if-not-is_free.true)
      | then-not-is_free-via-else-not-is_free+then-contains w ↦ not_new _ _ (sym w.contains.ensures.exact ∙ w.if-contains.true)
    ]) c.loop-alloc.invariant.names

pub loop-alloc-preserved : goal.loop-alloc-preserved
loop-alloc-preserved c = record {
  names =
      rw (c.in_ok-names.ensures.added, c.names.view_is, c.in_ok-name_of.ensures)
      (names_more c.loop-alloc.names c.loop-alloc.rest.now c.in_ok-inside.inside.now (c.in_ok-word.word.now, c.in_ok-word.after.now) (names_at (suc (length c.args.bytes.now)) [] c.args.bytes.now) (sym c.begins.ensures ∙ c.loop-alloc-test.true) c.in_ok-inside.ensures.end c.in_ok-word.ensures.word
      (free_and_new _ _ (sym c.is_free.ensures ∙ c.if-not-is_free.false) (sym c.contains.ensures.exact ∙ c.if-contains.false)) (omega (arith, c.in_ok-inside.ensures.shorter, c.in_ok-word.ensures.shorter)) c.loop-alloc.invariant.names);
  shorter = omega (arith, c.in_ok-inside.ensures.shorter, c.in_ok-word.ensures.shorter);
}

pub returns-clause-names : goal.returns-clause-names
returns-clause-names c = names_last c.loop-alloc.names c.loop-alloc.rest.now (names_at (suc (length c.args.bytes.now)) [] c.args.bytes.now) (sym c.begins.ensures ∙ c.loop-alloc-test.false) c.loop-alloc.invariant.names
