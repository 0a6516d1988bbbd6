use Rattle.std.proofs.Common.{◌↔◌, drop}
use Rattle.lois_relate.specs.Alike.{CubesMatch}
use Rattle.lois_relate.proofs.matching.cubes_match.Given as goal

abbrev pub invariant-loop-i : goal.invariant-loop-i
invariant-loop-i l =
    CubesMatch l.s_names l.t_names (drop l.i l.literals) (drop l.i l.others) ↔ CubesMatch l.s_names l.t_names l.k l.q
