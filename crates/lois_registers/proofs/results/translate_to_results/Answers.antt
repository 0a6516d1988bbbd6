use Rattle.std.proofs.Common.{rules}
use Rattle.lois_base.specs.Tree.{tree}
use Rattle.lois_registers.proofs.Answered.{one_line_sound}
use Rattle.lois_registers.proofs.results.translate_to_results.Goals as goal

pub returns-clause-sound : goal.returns-clause-sound
returns-clause-sound c = one_line_sound c.args.r.now.order (tree c.in_ok-term.term) c.new.result c.push-2.new.self c.in_ok-term.ensures.sound c.new.ensures (search rules)
