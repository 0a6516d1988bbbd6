use Rattle.std.proofs.Common.{◌≡◌, ◌≤◌, [], ◌++◌, sym, ◌∙◌, arith, append-nil}
use Rattle.std.proofs.lemmas.Grind.{common_steps}
use Rattle.lois_answers.specs.TermText.{op_text}
use Rattle.lois_registers.specs.Reading.{operand_text}
use Rattle.lois_registers.proofs.Literals.{operand_unique, op_unique, literal_is}
use Rattle.lois_registers.proofs.steps.literal.Goals as goal

pub returns-in_default-clause-none : goal.returns-in_default-clause-none
returns-in_default-clause-none c = λ l h e.
    let i : l.left ≤ 4 = omega (arith, h.left, c.requires.count.1) in
    let j : l.right ≤ 4 = omega (arith, h.right, c.requires.count.1) in
    c.in_default.ensures.none l.left (op_text l.op ++ operand_text l.right) h.left (e ∙ literal_is l i j)

pub returns-in_default-operand-clause-none : goal.returns-in_default-operand-clause-none
returns-in_default-operand-clause-none c = λ l h e.
    let i : l.left ≤ 4 = omega (arith, h.left, c.requires.count.1) in
    let j : l.right ≤ 4 = omega (arith, h.right, c.requires.count.1) in
    let k : c.in-Some.left ≤ 4 = omega (arith, c.in-Some.ensures.some.0, c.requires.count.1) in
    let one = operand_unique l.left c.in-Some.left (op_text l.op ++ operand_text l.right) c.in-Some.rest.now i k (sym (literal_is l i j) ∙ (sym e ∙ c.in-Some.ensures.some.1)) in
    let two = op_unique l.op c.in-Some-operator.op (operand_text l.right) c.in-Some-operator.rest.now h.strict c.in-Some-operator.ensures.some.1 (one.1 ∙ c.in-Some-operator.ensures.some.2) in
    c.in_default-operand.ensures.none l.right [] h.right (sym two.1 ∙ sym (append-nil (operand_text l.right)))

pub returns-else-is_empty-clause-none : goal.returns-else-is_empty-clause-none
returns-else-is_empty-clause-none c = λ l h e.
    let i : l.left ≤ 4 = omega (arith, h.left, c.requires.count.1) in
    let j : l.right ≤ 4 = omega (arith, h.right, c.requires.count.1) in
    let k : c.in-Some.left ≤ 4 = omega (arith, c.in-Some.ensures.some.0, c.requires.count.1) in
    let m : c.in-Some-operand.right ≤ 4 = omega (arith, c.in-Some-operand.ensures.some.0, c.requires.count.1) in
    let one = operand_unique l.left c.in-Some.left (op_text l.op ++ operand_text l.right) c.in-Some.rest.now i k (sym (literal_is l i j) ∙ (sym e ∙ c.in-Some.ensures.some.1)) in
    let two = op_unique l.op c.in-Some-operator.op (operand_text l.right) c.in-Some-operator.rest.now h.strict c.in-Some-operator.ensures.some.1 (one.1 ∙ c.in-Some-operator.ensures.some.2) in
    let three = operand_unique l.right c.in-Some-operand.right [] c.in-Some-operand.rest.now j m (append-nil (operand_text l.right) ∙ (two.1 ∙ c.in-Some-operand.ensures.some.1)) in
    let none : c.in-Some-operand.rest.now ≡ [] = sym three.1 in grind (arith, common_steps)
