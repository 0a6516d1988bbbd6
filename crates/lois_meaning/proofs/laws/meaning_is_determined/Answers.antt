use Rattle.lois_meaning.proofs.TheLaws.{determined}
use Rattle.lois_meaning.proofs.laws.meaning_is_determined.Goals as goal

pub returns : goal.returns
returns c = record { determined = determined }
