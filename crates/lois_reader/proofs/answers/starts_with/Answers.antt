use Rattle.std.proofs.Common.{sym}
use Rattle.lois_reader.proofs.Forms.{isn't_ok}
use Rattle.lois_reader.specs.Ends.{fixed_end}
use Rattle.lois_reader.proofs.answers.starts_with.Goals as goal

pub returns-in-Err : goal.returns-in-Err
returns-in-Err c = sym (isn't_ok c.in-Err.field-0 (fixed_end c.args.text.now c.args.bytes.now) c.in-Err.ensures.end c.in-Err.ensures.sure)
