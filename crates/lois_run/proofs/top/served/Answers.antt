use Rattle.std.proofs.Common.{◌+◌, ◌≤◌, ℕ, List, length, Err, sym, ap, subst, refl, arith}
use Rattle.std.proofs.lemmas.Result.{IfOk-weaker}
use Rattle.std.specs.Io.KnownBytes.{Consumes}
use Rattle.lois_base.specs.declared.limits.TheConstants.{LONGEST_TEXT}
use Rattle.lois_outside.specs.Reading.{ReadsToEnd}
use Rattle.lois_eval.proofs.LoopExit.{both_ok}
use Rattle.lois_run.specs.Causes.{IsOutcomeOf}
use Rattle.lois_command.proofs.Given.{gave_nothing, gave_text, whatever_error}
use Rattle.lois_run.proofs.TextsOfOutcomes.{reads_text, text_is_told, fault_is_told, long_is_told, made_is_told}
use Rattle.lois_run.proofs.top.served.Goals as goal

pub returns-in-Make-clause-outcome : goal.returns-in-Make-clause-outcome
returns-in-Make-clause-outcome g c =
    let from = c.args.source.now in
    both_ok c.run_make.result _ _ _ c.run_make.ensures.made c.run_make.ensures.results (λ o is made words kinds asks has.
    subst (IsOutcomeOf words kinds g.S.Source.left g.S.Source.faults g.S.Source.takes from from) (sym is)
    (made_is_told words kinds g.S.Source.left g.S.Source.faults g.S.Source.takes from from c.args.command asks has c.in-Make.count c.in-Make.field-1 c.in-Make.is refl made))

pub returns-in-Make-clause-no_memory : goal.returns-in-Make-clause-no_memory
returns-in-Make-clause-no_memory g c =
    whatever_error g.S.Source.left g.S.Source.takes LONGEST_TEXT LONGEST_TEXT c.args.source.now c.args.source.now c.run_make.result
    (gave_nothing g.S.Source.left g.S.Source.takes LONGEST_TEXT LONGEST_TEXT c.args.source.now)

pub returns-in-Ok-clause-outcome : goal.returns-in-Ok-clause-outcome
returns-in-Ok-clause-outcome g c =
    let whole = subst (λ (bytes : List ℕ). Consumes (g.S.Source.left c.args.source.now) (g.S.Source.left c.read_all.new.source) bytes) (sym c.deref.ensures.value) c.in-Ok.ensures.whole in
    let calls = subst (λ (bytes : List ℕ). ReadsToEnd g.S.Source.takes (LONGEST_TEXT + 1) c.args.source.now bytes c.read_all.new.source) (sym c.deref.ensures.value) c.in-Ok.ensures.calls_to_end in
    let fits : length c.deref.result.now ≤ LONGEST_TEXT = omega (arith, c.deref.ensures.len, c.in-Ok.ensures.fits) in
    IfOk-weaker c.answer.result _ _ (λ o answers words kinds asks has.
    text_is_told words kinds g.S.Source.left g.S.Source.faults g.S.Source.takes c.args.source.now c.read_all.new.source c.args.command asks has
    (reads_text c.args.command c.in_default.not-Make) c.deref.result.now o calls whole c.in-Ok.ensures.ended fits answers) c.answer.ensures.answer

pub returns-in-Ok-clause-make_asks_nothing : goal.returns-in-Ok-clause-make_asks_nothing
returns-in-Ok-clause-make_asks_nothing g c = λ n kind is. absurd (c.in_default.not-Make n kind is)

pub returns-in-Ok-clause-no_memory : goal.returns-in-Ok-clause-no_memory
returns-in-Ok-clause-no_memory g c =
    let whole = subst (λ (bytes : List ℕ). Consumes (g.S.Source.left c.args.source.now) (g.S.Source.left c.read_all.new.source) bytes) (sym c.deref.ensures.value) c.in-Ok.ensures.whole in
    let calls = subst (λ (bytes : List ℕ). ReadsToEnd g.S.Source.takes (LONGEST_TEXT + 1) c.args.source.now bytes c.read_all.new.source) (sym c.deref.ensures.value) c.in-Ok.ensures.calls_to_end in
    let fits : length c.deref.result.now ≤ LONGEST_TEXT = omega (arith, c.deref.ensures.len, c.in-Ok.ensures.fits) in
    whatever_error g.S.Source.left g.S.Source.takes LONGEST_TEXT LONGEST_TEXT c.args.source.now c.read_all.new.source c.answer.result
    (gave_text g.S.Source.left g.S.Source.takes LONGEST_TEXT LONGEST_TEXT c.args.source.now c.read_all.new.source c.deref.result.now calls fits whole)

pub returns-in-Err-ReadFault-clause-outcome : goal.returns-in-Err-ReadFault-clause-outcome
returns-in-Err-ReadFault-clause-outcome g c = λ words kinds asks has.
    let taken = rw c.in-Err-ReadFault.field-0-is at c.in-Err-ReadFault.ensures.stays_taken in
    let calls = rw c.in-Err-ReadFault.field-0-is at c.in-Err-ReadFault.ensures.calls_to_error in
    fault_is_told words kinds g.S.Source.left g.S.Source.faults g.S.Source.takes c.args.source.now c.read_all.new.source c.args.command asks has
    (reads_text c.args.command c.in_default.not-Make) calls taken (c.in-Err-ReadFault.ensures.read_fault (ap Err c.in-Err-ReadFault.field-0-is))

pub returns-in-Err-ReadFault-clause-make_asks_nothing : goal.returns-in-Err-ReadFault-clause-make_asks_nothing
returns-in-Err-ReadFault-clause-make_asks_nothing g c = λ n kind is. absurd (c.in_default.not-Make n kind is)

pub returns-in-Err-TooLong-clause-outcome : goal.returns-in-Err-TooLong-clause-outcome
returns-in-Err-TooLong-clause-outcome g c = λ words kinds asks has.
    let taken = rw c.in-Err-TooLong.field-0-is at c.in-Err-TooLong.ensures.stays_taken in
    let calls = rw c.in-Err-TooLong.field-0-is at c.in-Err-TooLong.ensures.calls_to_error in
    long_is_told words kinds g.S.Source.left g.S.Source.faults g.S.Source.takes c.args.source.now c.read_all.new.source c.args.command asks has
    (reads_text c.args.command c.in_default.not-Make) c.in-Err-TooLong.field-0-0 calls taken

pub returns-in-Err-TooLong-clause-make_asks_nothing : goal.returns-in-Err-TooLong-clause-make_asks_nothing
returns-in-Err-TooLong-clause-make_asks_nothing g c = λ n kind is. absurd (c.in_default.not-Make n kind is)
