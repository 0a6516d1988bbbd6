use Rattle.std.proofs.lemmas.Result.{IfOk-weaker}
use Rattle.lois_base.specs.Tree.{tree}
use Rattle.lois_readable.specs.Readable.{IsReadable}
use Rattle.lois_readable.proofs.Readable.{readable_from}
use Rattle.lois_readable.proofs.reading.read.Goals as goal

pub read_joined-requires : goal.read_joined-requires
read_joined-requires g c =
    let parted = c.in_ok-parted.ensures.readable in
    record {
      over = record {
        levels = parted.kept.levels c.requires.over.levels;
        operators = parted.kept.operators g.T.Structure.ordered c.requires.over.operators;
      };
      under = c.requires.under;
      normal = parted.normal;
      guards = parted.guards;
      plain = parted.plain;
    }

pub returns-clause-readable : goal.returns-clause-readable
returns-clause-readable g c =
    let u = c.args.under.now in
    let n = c.args.size in
    let t = tree c.args.term.now in
    let s = tree c.in_ok-parted.parted in
    IfOk-weaker c.read_joined.result (λ r. IsReadable u n s (tree r)) (λ r. IsReadable u n t (tree r)) (λ r h. readable_from u n t s (tree r) c.in_ok-parted.ensures.readable.kept h) c.read_joined.ensures.readable
