use Rattle.std.proofs.Common.{rules, sym, subst}
use Rattle.std.proofs.lemmas.List.{take_rest}
use Rattle.lois_outside.proofs.Runs.{on_err, HasWritten, HasWritten-failed, HasWritten-more, HasWritten-nothing}
use Rattle.lois_outside.proofs.writing.write_all.Goals as goal

pub loop-rest-init : goal.loop-rest-init
loop-rest-init g c = HasWritten-nothing _ _ _ _ _

pub loop-rest-preserved : goal.loop-rest-preserved
loop-rest-preserved g c =
    let rest = c.loop-rest.rest.now in
    let put = c.in_ok-count.ensures in
    let more = HasWritten-more _ _ _ _ _ rest c.in_ok-count.count _ _ c.loop-rest.invariant put.appended put.count_never_falls put.call in
    let sink = g.K.Sink in
    subst (λ xs. HasWritten sink.held sink.faults sink.puts c.args.sink.now c.args.bytes.now xs c.put.new.self) (sym (take_rest rest c.in_ok-count.count)) more

pub returns-in_err-count-clause-proper_prefix : goal.returns-in_err-count-clause-proper_prefix
returns-in_err-count-clause-proper_prefix g c =
    on_err c.from_residual.result (HasWritten-failed _ _ _ _ _ _ _ _ c.loop-rest.invariant (search rules) c.in_err-count.ensures.nothing_appended)
