use Rattle.std.proofs.Common.{◌↔◌, drop}
use Rattle.lois_relate.specs.Alike.{GuardsMatch}
use Rattle.lois_relate.proofs.matching.guards_match.Given as goal

abbrev pub invariant-loop-i : goal.invariant-loop-i
invariant-loop-i l =
    GuardsMatch l.s_names l.t_names (drop l.i l.cubes) (drop l.i l.others) ↔ GuardsMatch l.s_names l.t_names l.g l.h
