use Rattle.lois_same.proofs.SameCases.{cases_fit}
use Rattle.lois_same.proofs.rows.compare_row.Goals as goal

pub find_entailed-requires-clause-cases : goal.find_entailed-requires-clause-cases
find_entailed-requires-clause-cases g c = cases_fit g.T.Structure.ordered c.args.size c.args.others.now c.requires.second
