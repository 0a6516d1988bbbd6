use Rattle.lois_base.specs.Tree.{tree}
use Rattle.lois_simplify.proofs.Kept.{kept_refl}
use Rattle.lois_readable.proofs.Readable.{readable_from}
use Rattle.lois_readable.proofs.reading.read_parts.Goals as goal

pub returns-then-is_equal-clause-readable : goal.returns-then-is_equal-clause-readable
returns-then-is_equal-clause-readable g c =
    record { kept = kept_refl c.args.under.now c.args.size (tree c.args.term); normal = c.requires.normal; guards = c.requires.guards; plain = c.requires.plain }

pub returns-then-weight-most-clause-readable : goal.returns-then-weight-most-clause-readable
returns-then-weight-most-clause-readable g c =
    record { kept = kept_refl c.args.under.now c.args.size (tree c.args.term); normal = c.requires.normal; guards = c.requires.guards; plain = c.requires.plain }

pub returns-clause-readable : goal.returns-clause-readable
returns-clause-readable g c =
    readable_from c.args.under.now c.args.size (tree c.args.term) (tree c.in_ok-parted.parted) (tree c.in_ok-further.further) c.in_ok-parted.ensures c.in_ok-further.ensures.readable
