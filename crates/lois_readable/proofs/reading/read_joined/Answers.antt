use Rattle.lois_base.specs.Tree.{tree}
use Rattle.lois_simplify.proofs.Kept.{kept_refl, kept_trans}
use Rattle.lois_readable.proofs.Joined.{kept_where}
use Rattle.lois_readable.proofs.Readable.{readable_from}
use Rattle.lois_readable.proofs.reading.read_joined.Goals as goal

pub returns-then-not-branch-clause-readable : goal.returns-then-not-branch-clause-readable
returns-then-not-branch-clause-readable g c =
    record { kept = kept_refl c.args.under.now c.args.size (tree c.args.term); normal = c.requires.normal; guards = c.requires.guards; plain = c.requires.plain }

pub returns-then-is_equal-clause-readable : goal.returns-then-is_equal-clause-readable
returns-then-is_equal-clause-readable g c =
    record { kept = kept_refl c.args.under.now c.args.size (tree c.args.term); normal = c.requires.normal; guards = c.requires.guards; plain = c.requires.plain }

pub returns-then-weight-most-clause-readable : goal.returns-then-weight-most-clause-readable
returns-then-weight-most-clause-readable g c =
    record { kept = kept_refl c.args.under.now c.args.size (tree c.args.term); normal = c.requires.normal; guards = c.requires.guards; plain = c.requires.plain }

pub strengthen-requires : goal.strengthen-requires
strengthen-requires g c =
    let joined = kept_where c.args.under.now c.args.size (tree c.args.term) (tree c.in_ok-joined.joined) c.in_ok-joined.ensures in
    record { levels = joined.levels c.requires.over.levels; under_levels = c.requires.under.levels }

pub simplified-requires : goal.simplified-requires
simplified-requires g c =
    let o = g.T.Structure.ordered in
    let joined = kept_where c.args.under.now c.args.size (tree c.args.term) (tree c.in_ok-joined.joined) c.in_ok-joined.ensures in
    let strong = c.in_ok-strong.ensures in
    record {
      over = record {
        levels = strong.levels (joined.levels c.requires.over.levels);
        operators = strong.operators o (joined.operators o c.requires.over.operators);
      };
      under = c.requires.under;
    }

pub returns-clause-readable : goal.returns-clause-readable
returns-clause-readable g c =
    let u = c.args.under.now in
    let n = c.args.size in
    let t = tree c.args.term in
    let j = tree c.in_ok-joined.joined in
    let s = tree c.in_ok-strong.strong in
    readable_from u n t s (tree c.in_ok-shorter.shorter) (kept_trans u n t j s (kept_where u n t j c.in_ok-joined.ensures) c.in_ok-strong.ensures) c.in_ok-shorter.ensures.readable
