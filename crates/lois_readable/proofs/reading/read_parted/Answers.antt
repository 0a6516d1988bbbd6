use Rattle.std.proofs.lemmas.Result.{IfOk-weaker}
use Rattle.lois_base.specs.Tree.{tree}
use Rattle.lois_readable.specs.Readable.{IsReadable}
use Rattle.lois_readable.proofs.Readable.{readable_from}
use Rattle.lois_readable.proofs.reading.read_parted.Goals as goal

pub returns-then-is_equal-clause-readable : goal.returns-then-is_equal-clause-readable
returns-then-is_equal-clause-readable g c =
    readable_from c.args.under.now c.args.size (tree c.args.term.now) (tree c.in_ok-parted.parted) (tree c.in_ok-readable.readable) c.in_ok-parted.ensures c.in_ok-readable.ensures.readable

pub read_parts-requires-clause-over : goal.read_parts-requires-clause-over
read_parts-requires-clause-over g c =
    let o = g.T.Structure.ordered in
    record {
      levels = c.in_ok-readable.ensures.readable.kept.levels (c.in_ok-parted.ensures.levels c.requires.over.levels);
      operators = c.in_ok-readable.ensures.readable.kept.operators o (c.in_ok-parted.ensures.operators o c.requires.over.operators);
    }

pub returns-clause-readable : goal.returns-clause-readable
returns-clause-readable g c =
    let u = c.args.under.now in
    let n = c.args.size in
    let t = tree c.args.term.now in
    let s = tree c.in_ok-readable.readable in
    let first = readable_from u n t (tree c.in_ok-parted.parted) s c.in_ok-parted.ensures c.in_ok-readable.ensures.readable in
    IfOk-weaker c.read_parts.result (λ r. IsReadable u n s (tree r)) (λ r. IsReadable u n t (tree r)) (λ r h. readable_from u n t s (tree r) first.kept h) c.read_parts.ensures.readable
