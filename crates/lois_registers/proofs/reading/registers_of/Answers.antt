use Rattle.std.proofs.Common.{◌≡◌, true, length, ◌⊎◌, refl, subst}
use Rattle.std.specs.List.{All, Contains}
use Rattle.lois_registers.specs.Reading.{IsLeftAt, BeginsWithNoLine}
use Rattle.lois_registers.specs.Texts.{text_of_words, initial_words, final_words, step_words, end_words}
use Rattle.lois_registers.specs.Valid.{AreListed, IsRegStep}
use Rattle.lois_registers.specs.declared.parse_error.ParseError.TheVariants.{NoMemory}
use Rattle.lois_registers.proofs.Cuts.{err_left}
use Rattle.lois_registers.proofs.Stops.{stop_title, stop_order, stop_count, stop_states, stop_initial, stop_final, stop_end, is_read}
use Rattle.lois_registers.proofs.reading.registers_of.Goals as goal

pub returns-in_err-rest-clause-left : goal.returns-in_err-rest-clause-left
returns-in_err-rest-clause-left c =
    err_left c.from_residual.result c.in_err-rest.field-0.0 _ c.from_residual.ensures.1 (stop_title c.args.text.now c.in_err-rest.field-0.0 c.in_err-rest.ensures.left)

pub returns-in_err-order-clause-left : goal.returns-in_err-order-clause-left
returns-in_err-order-clause-left c =
    err_left c.from_residual-in_err-order.result c.in_err-order.field-0.0 _ c.from_residual-in_err-order.ensures.1
    (stop_order c.args.text.now c.in_err-order.field-0.0 c.in_ok-rest.rest.now c.in_ok-rest.ensures.read c.in_err-order.ensures.left)

pub returns-in_err-registers-clause-left : goal.returns-in_err-registers-clause-left
returns-in_err-registers-clause-left c =
    err_left c.from_residual-in_err-registers.result c.in_err-registers.field-0.0 _ c.from_residual-in_err-registers.ensures.1
    (stop_count c.args.text.now c.in_err-registers.field-0.0 c.in_ok-rest.rest.now c.in_ok-rest.ensures.read c.in_ok-order.order c.in_ok-order.rest.now c.in_ok-order.ensures.read c.in_err-registers.ensures.left)

pub returns-in_err-states-clause-left : goal.returns-in_err-states-clause-left
returns-in_err-states-clause-left c =
    err_left c.from_residual-in_err-states.result c.in_err-states.field-0.0 _ c.from_residual-in_err-states.ensures.1
    (stop_states c.args.text.now c.in_err-states.field-0.0 c.in_ok-rest.rest.now c.in_ok-rest.ensures.read c.in_ok-order.order c.in_ok-order.rest.now c.in_ok-order.ensures.read c.in_ok-registers.registers c.in_ok-registers.ensures.read.0 c.in_ok-registers.rest.now c.in_ok-registers.ensures.read.1 c.in_err-states.ensures.left)

pub returns-in_err-initial-clause-left : goal.returns-in_err-initial-clause-left
returns-in_err-initial-clause-left c =
    err_left c.from_residual-in_err-initial.result c.in_err-initial.field-0.0 _ c.from_residual-in_err-initial.ensures.1
    (stop_initial c.args.text.now c.in_err-initial.field-0.0 c.in_ok-rest.rest.now c.in_ok-rest.ensures.read c.in_ok-order.order c.in_ok-order.rest.now c.in_ok-order.ensures.read c.in_ok-registers.registers c.in_ok-registers.ensures.read.0 c.in_ok-registers.rest.now c.in_ok-registers.ensures.read.1 c.in_ok-states.states c.in_ok-states.ensures.read.0 c.in_ok-states.rest.now c.in_ok-states.ensures.read.1
    (subst (λ z. IsLeftAt c.in_ok-states.rest.now (BeginsWithNoLine (Contains z) initial_words c.in_ok-states.rest.now) c.in_err-initial.field-0.0) c.as_slice.ensures c.in_err-initial.ensures.left))

pub returns-in_err-finals-clause-left : goal.returns-in_err-finals-clause-left
returns-in_err-finals-clause-left c =
    err_left c.from_residual-in_err-finals.result c.in_err-finals.field-0.0 _ c.from_residual-in_err-finals.ensures.1
    (stop_final c.args.text.now c.in_err-finals.field-0.0 c.in_ok-rest.rest.now c.in_ok-rest.ensures.read c.in_ok-order.order c.in_ok-order.rest.now c.in_ok-order.ensures.read c.in_ok-registers.registers c.in_ok-registers.ensures.read.0 c.in_ok-registers.rest.now c.in_ok-registers.ensures.read.1 c.in_ok-states.states c.in_ok-states.ensures.read.0 c.in_ok-states.rest.now c.in_ok-states.ensures.read.1
    c.in_ok-initial.initial (subst (λ z. Contains z c.in_ok-initial.initial) c.as_slice.ensures c.in_ok-initial.ensures.read.0) c.in_ok-initial.rest.now c.in_ok-initial.ensures.read.1
    (subst (λ z. IsLeftAt c.in_ok-initial.rest.now (BeginsWithNoLine (AreListed z) final_words c.in_ok-initial.rest.now) c.in_err-finals.field-0.0) c.as_slice-2.ensures c.in_err-finals.ensures.left))

pub returns-then-not-is-clause-left : goal.returns-then-not-is-clause-left
returns-then-not-is-clause-left c =
    let states = c.in_ok-states.states in
    let o = c.in_ok-order.order in
    let k = c.in_ok-registers.registers in
    let rest7 = c.in_ok-steps.rest.now in
    let valid = subst (λ z. All (IsRegStep o k z) c.in_ok-steps.steps) c.as_slice-3.ensures c.in_ok-steps.ensures.valid in
    let all = subst (λ z. (length c.in_ok-steps.steps ≡ 256) ⊎ BeginsWithNoLine (IsRegStep o k z) step_words rest7) c.as_slice-3.ensures c.in_ok-steps.ensures.all in
    let never : rest7 ≡ text_of_words end_words → ⊥ = λ e. let yes : c.is.result ≡ true = c.is.ensures.1 e in let no = c.if-not-is.true in absurd (cc) in (
      _,
      rest7,
      stop_end c.args.text.now NoMemory c.in_ok-rest.rest.now c.in_ok-rest.ensures.read o c.in_ok-order.rest.now c.in_ok-order.ensures.read k c.in_ok-registers.ensures.read.0 c.in_ok-registers.rest.now c.in_ok-registers.ensures.read.1 states c.in_ok-states.ensures.read.0 c.in_ok-states.rest.now c.in_ok-states.ensures.read.1
          c.in_ok-initial.initial (subst (λ z. Contains z c.in_ok-initial.initial) c.as_slice.ensures c.in_ok-initial.ensures.read.0) c.in_ok-initial.rest.now c.in_ok-initial.ensures.read.1
          c.in_ok-finals.finals (subst (λ z. AreListed z c.in_ok-finals.finals) c.as_slice-2.ensures c.in_ok-finals.ensures.read.0) c.in_ok-finals.rest.now c.in_ok-finals.ensures.read.1
          c.in_ok-steps.steps c.in_ok-steps.ensures.few valid rest7 c.in_ok-steps.ensures.read all never,
      refl,
    )

pub returns-clause-exact : goal.returns-clause-exact
returns-clause-exact c =
    let states = c.in_ok-states.states in
    let o = c.in_ok-order.order in
    let k = c.in_ok-registers.registers in
    let rest7 = c.in_ok-steps.rest.now in
    let valid = subst (λ z. All (IsRegStep o k z) c.in_ok-steps.steps) c.as_slice-3.ensures c.in_ok-steps.ensures.valid in
    is_read c.args.text.now NoMemory c.in_ok-rest.rest.now c.in_ok-rest.ensures.read o c.in_ok-order.rest.now c.in_ok-order.ensures.read k c.in_ok-registers.ensures.read.0 c.in_ok-registers.rest.now c.in_ok-registers.ensures.read.1 states c.in_ok-states.ensures.read.0 c.in_ok-states.rest.now c.in_ok-states.ensures.read.1
    c.in_ok-initial.initial (subst (λ z. Contains z c.in_ok-initial.initial) c.as_slice.ensures c.in_ok-initial.ensures.read.0) c.in_ok-initial.rest.now c.in_ok-initial.ensures.read.1
    c.in_ok-finals.finals (subst (λ z. AreListed z c.in_ok-finals.finals) c.as_slice-2.ensures c.in_ok-finals.ensures.read.0) c.in_ok-finals.rest.now c.in_ok-finals.ensures.read.1
    c.in_ok-steps.steps c.in_ok-steps.ensures.few valid rest7 c.in_ok-steps.ensures.read (c.is.ensures.0 c.if-not-is.false)
