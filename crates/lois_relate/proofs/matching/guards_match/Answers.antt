use Rattle.lois_relate.proofs.AlikeSame.{guards_apart}
use Rattle.lois_relate.proofs.matching.guards_match.Goals as goal

pub returns-then-cubes-others : goal.returns-then-cubes-others
returns-then-cubes-others c =
    guards_apart c.args.s_names.now c.args.t_names.now c.args.g.now c.args.h.now c.as_slice-cubes.result.now c.as_slice-others.result.now c.as_slice-cubes.ensures c.as_slice-others.ensures c.if-cubes-others.true
