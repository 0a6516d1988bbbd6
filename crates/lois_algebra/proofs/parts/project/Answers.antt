use Rattle.std.proofs.Common.{sym, ap, ◌∙◌, arith}
use Rattle.lois_base.specs.Tree.{tree}
use Rattle.lois_algebra.proofs.PartsAt.{part_of-tuple}
use Rattle.lois_algebra.proofs.parts.project.Goals as goal

pub returns-in-Tup : goal.returns-in-Tup
returns-in-Tup c =
    c.get.ensures ∙ sym (part_of-tuple (tree c.args.t.now) c.in-Tup.parts c.args.index (ap tree c.in-Tup.is) (omega arith))
