use Rattle.lois_readable.proofs.reading.simplified.Goals as goal

pub returns-clause-readable : goal.returns-clause-readable
returns-clause-readable g c =
    let h = c.in_ok-simplify_to_read.ensures in
    record { kept = record { value = h.value; levels = λ f. h.levels; operators = h.operators; widths = h.widths; depth = h.depth }; normal = h.normal; guards = h.guards; plain = h.plain }
