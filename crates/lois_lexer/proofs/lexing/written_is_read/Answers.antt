use Rattle.lois_lexer.proofs.Written.{written_is_read}
use Rattle.lois_lexer.proofs.lexing.written_is_read.Goals as goal

pub returns : goal.returns
returns c = written_is_read
