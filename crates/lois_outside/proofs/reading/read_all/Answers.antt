use Rattle.std.proofs.Common.{◌≡◌, ◌+◌, ◌≤◌, ◌++◌, length, take, drop, sym, subst, arith, rules}
use Rattle.std.proofs.lemmas.List.{length-take, take-append-le}
use Rattle.lois_outside.proofs.Runs.{HasRead, HasRead-more, HasRead-nothing}
use Rattle.lois_outside.proofs.reading.read_all.Goals as goal

pub loop-piece-init : goal.loop-piece-init
loop-piece-init g c =
    let source = g.S.Source in
    subst (λ xs. HasRead source.left source.faults source.takes (c.args.limit + 1) c.args.source.now xs c.args.source.now) (sym c.new-bytes.ensures.items) (HasRead-nothing _ _ _ _ _)

pub loop-piece-preserved : goal.loop-piece-preserved
loop-piece-preserved g c =
    let source = g.S.Source in
    let took = c.in-Ok.ensures in
    let into = c.take.new.into in
    let asked = length (take c.min-asked.result c.loop-piece.piece) in
    let kept : length into ≡ asked = search rules in
    let room : length c.loop-piece.bytes.items + asked ≤ c.args.limit + 1 = grind (arith, length-take) in
    let whole : take c.in-Ok.count (into ++ drop c.min-asked.result c.loop-piece.piece) ≡ take c.in-Ok.count into =
    take-append-le c.in-Ok.count into _ (omega (arith, kept, took.within)) in
    let items : c.append.new.bytes.items ≡ c.loop-piece.bytes.items ++ take c.in-Ok.count into =
    rw (c.append.ensures.items, c.reserve.ensures.items, whole) in
    let within : length (take c.in-Ok.count into) ≤ asked = omega (arith, kept, length-take c.in-Ok.count into) in
    subst (λ xs. HasRead source.left source.faults source.takes (c.args.limit + 1) c.args.source.now xs c.take.new.self) (sym items)
    (HasRead-more _ _ _ _ _ _ _ asked _ _ c.loop-piece.invariant room within took.front took.count_never_falls took.call)
