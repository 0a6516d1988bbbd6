use Rattle.lois_interp.proofs.Retold.{all_as_they_are}
use Rattle.lois_interp.proofs.retelling.retold.Goals as goal

pub returns-then-count-lt2-clause-told : goal.returns-then-count-lt2-clause-told
returns-then-count-lt2-clause-told g c = all_as_they_are c.args.contexts.items
