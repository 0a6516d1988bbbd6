use Rattle.lois_relate.proofs.AlikeSame.{cubes_apart}
use Rattle.lois_relate.proofs.matching.cubes_match.Goals as goal

pub returns-then-literals-others : goal.returns-then-literals-others
returns-then-literals-others c =
    cubes_apart c.args.s_names.now c.args.t_names.now c.args.k.now c.args.q.now c.as_slice-literals.result.now c.as_slice-others.result.now c.as_slice-literals.ensures c.as_slice-others.ensures c.if-literals-others.true
