use Rattle.std.proofs.Common.{length, refl, subst, Contains}
use Rattle.std.proofs.lemmas.Option.{IfSome_then, slice_get_read}
use Rattle.lois_relate.proofs.comparing.PairCache.of.Goals as goal

pub returns-in-Some : goal.returns-in-Some
returns-in-Some c =
    let rows = c.args.self.rows.now in
    let row = c.in-Some.row.now in
    let here = c.in-Some.ensures.lookup in
    let at = slice_get_read rows (length rows) c.args.comp row refl here.3.0 (here.3.1 row) in
    IfSome_then c.paired_at.result c.paired_at.ensures (λ f has. (row, at, has.0, subst (λ z. Contains z has.0) c.as_slice.ensures.value has.1, has.2, has.3))
