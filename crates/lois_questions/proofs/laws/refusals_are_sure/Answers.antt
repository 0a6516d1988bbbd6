use Rattle.lois_questions.proofs.Sure.{refusals_are_sure}
use Rattle.lois_questions.proofs.laws.refusals_are_sure.Goals as goal

pub returns : goal.returns
returns c = record { sure = refusals_are_sure }
