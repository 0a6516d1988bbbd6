use Rattle.std.proofs.Common.{sym, ◌∙◌}
use Rattle.lois_reader.proofs.Forms.{front_form}
use Rattle.lois_reader.proofs.words.word_at.Goals as goal

pub returns-clause-form : goal.returns-clause-form
returns-clause-form c = rw (c.split_at.ensures.front, c.word_len.ensures.value) (front_form c.args.bytes.now (sym c.begins_with_letter.ensures ∙ c.if-not-begins_with_letter.false))
