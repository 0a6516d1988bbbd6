use Rattle.std.proofs.Common.{◌+◌, ◌≤◌, ℕ, List, length, Err, sym, ap, subst, arith}
use Rattle.std.specs.Prelude.{IfErr}
use Rattle.std.proofs.lemmas.Result.{IfOk-weaker}
use Rattle.std.specs.Io.KnownBytes.{Consumes}
use Rattle.lois_command.specs.Calls.{GaveUnder}
use Rattle.lois_outside.specs.Reading.{ReadsToEnd}
use Rattle.lois_command.proofs.Given.{gave_text, whatever_error}
use Rattle.lois_questions.proofs.TextsOfOutcomes.{text_is_told, fault_is_told, long_is_told}
use Rattle.lois_questions.proofs.top.answer_source.Goals as goal

pub returns-in-Ok-clause-outcome : goal.returns-in-Ok-clause-outcome
returns-in-Ok-clause-outcome g c =
    let whole = subst (λ (bytes : List ℕ). Consumes (g.S.Source.left c.args.source.now) (g.S.Source.left c.read_all.new.source) bytes) (sym c.deref.ensures.value) c.in-Ok.ensures.whole in
    let calls = subst (λ (bytes : List ℕ). ReadsToEnd g.S.Source.takes (c.limit-limit.result + 1) c.args.source.now bytes c.read_all.new.source) (sym c.deref.ensures.value) c.in-Ok.ensures.calls_to_end in
    let fits : length c.deref.result.now ≤ c.limit-limit.result = omega (arith, c.deref.ensures.len, c.in-Ok.ensures.fits) in
    IfOk-weaker c.answer.result _ _ (λ o answers words kinds asks has.
    text_is_told words kinds g.S.Source.left g.S.Source.faults g.S.Source.takes c.args.source.now c.read_all.new.source c.args.question.now asks has c.limit-limit.result c.limit-limit.ensures
    c.deref.result.now o calls whole c.in-Ok.ensures.ended fits answers) c.answer.ensures.answer

pub returns-in-Ok-clause-no_memory : goal.returns-in-Ok-clause-no_memory
returns-in-Ok-clause-no_memory g c =
    let whole = subst (λ (bytes : List ℕ). Consumes (g.S.Source.left c.args.source.now) (g.S.Source.left c.read_all.new.source) bytes) (sym c.deref.ensures.value) c.in-Ok.ensures.whole in
    let calls = subst (λ (bytes : List ℕ). ReadsToEnd g.S.Source.takes (c.limit-limit.result + 1) c.args.source.now bytes c.read_all.new.source) (sym c.deref.ensures.value) c.in-Ok.ensures.calls_to_end in
    let fits : length c.deref.result.now ≤ c.limit-limit.result = omega (arith, c.deref.ensures.len, c.in-Ok.ensures.fits) in
    subst (λ (n : ℕ). IfErr c.answer.result (λ e. GaveUnder g.S.Source.left g.S.Source.takes n n c.args.source.now c.read_all.new.source)) c.limit-limit.ensures
    (whatever_error g.S.Source.left g.S.Source.takes c.limit-limit.result c.limit-limit.result c.args.source.now c.read_all.new.source c.answer.result
    (gave_text g.S.Source.left g.S.Source.takes c.limit-limit.result c.limit-limit.result c.args.source.now c.read_all.new.source c.deref.result.now calls fits whole))

pub returns-in-Err-ReadFault-clause-outcome : goal.returns-in-Err-ReadFault-clause-outcome
returns-in-Err-ReadFault-clause-outcome g c = λ words kinds asks has.
    let taken = rw c.in-Err-ReadFault.field-0-is at c.in-Err-ReadFault.ensures.stays_taken in
    let calls = rw c.in-Err-ReadFault.field-0-is at c.in-Err-ReadFault.ensures.calls_to_error in
    fault_is_told words kinds g.S.Source.left g.S.Source.faults g.S.Source.takes c.args.source.now c.read_all.new.source c.args.question.now asks has c.limit-limit.result c.limit-limit.ensures
    calls taken (c.in-Err-ReadFault.ensures.read_fault (ap Err c.in-Err-ReadFault.field-0-is))

pub returns-in-Err-TooLong-clause-outcome : goal.returns-in-Err-TooLong-clause-outcome
returns-in-Err-TooLong-clause-outcome g c = λ words kinds asks has.
    let taken = rw c.in-Err-TooLong.field-0-is at c.in-Err-TooLong.ensures.stays_taken in
    let calls = rw c.in-Err-TooLong.field-0-is at c.in-Err-TooLong.ensures.calls_to_error in
    long_is_told words kinds g.S.Source.left g.S.Source.faults g.S.Source.takes c.args.source.now c.read_all.new.source c.args.question.now asks has c.limit-limit.result c.limit-limit.ensures
    c.in-Err-TooLong.field-0-0 calls taken
