use Rattle.lois_script_printer.proofs.Appending.{tag_written}
use Rattle.lois_script_printer.proofs.tokens.put_tag.Goals as goal

pub returns : goal.returns
returns c = tag_written c.put.result _ _ _ _ _ c.in_ok-append.ensures c.bytes.ensures.same (c.put.ensures _)
