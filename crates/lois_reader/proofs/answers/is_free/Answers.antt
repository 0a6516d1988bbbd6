use Rattle.lois_reader.proofs.Forms.{free_is}
use Rattle.lois_reader.proofs.answers.is_free.Goals as goal

pub returns-then-word-le-LONGEST_NAME : goal.returns-then-word-le-LONGEST_NAME
returns-then-word-le-LONGEST_NAME c = free_is c.args.word.now c.is_reserved.result c.if-word-le-LONGEST_NAME.true c.is_reserved.ensures
