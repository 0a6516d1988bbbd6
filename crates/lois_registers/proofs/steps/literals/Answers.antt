use Rattle.std.proofs.Common.{◌≡◌, ◌+◌, ◌<◌, ◌%◌, true, [], ◌∷◌, ◌++◌, take, map, length, sym, subst, ◌∙◌, arith}
use Rattle.std.specs.Prelude.{codes}
use Rattle.std.specs.List.{All}
use Rattle.std.proofs.lemmas.List.{length-map, get_or-map, take_all}
use Rattle.std.proofs.lemmas.List.Elements.{All-push}
use Rattle.lois_answers.specs.TermText.{literal_text}
use Rattle.lois_registers.specs.Texts.{operand_names}
use Rattle.lois_registers.specs.Valid.{IsLiteral}
use Rattle.lois_registers.proofs.Linked.{anded, word_spelled, word_and, words_odd, literals_read, and_read, literal_read}
use Rattle.lois_registers.proofs.steps.literals.Goals as goal
use Rattle.lois_registers.proofs.steps.literals.Goals.{then-i-eq1+else-not-is, else-i-eq1+in-Some+in_ok-push}

pub returns-then-not-is : goal.returns-then-not-is
returns-then-not-is c = λ v h e.
    let inside : c.loop-i.i < length (map (λ w. w.now) c.args.words.now) = omega (arith, c.loop-i-test.true, length-map c.args.words.now (λ w. w.now)) in
    let yes : c.is.result ≡ true = c.is.ensures.1 (sym (get_or-map (λ w. w.now) c.args.words.now c.loop-i.i _ [] c.loop-i-test.true) ∙ word_and c.args.ordered c.args.registers (map (λ w. w.now) c.args.words.now) v c.loop-i.i [] e inside c.if-i-eq1.true) in
    let no = c.if-not-is.true in absurd (cc)

pub returns-in_default : goal.returns-in_default
returns-in_default c = λ v h e.
    let inside : c.loop-i.i < length (map (λ w. w.now) c.args.words.now) = omega (arith, c.loop-i-test.true, length-map c.args.words.now (λ w. w.now)) in
    let even : c.loop-i.i % 2 ≡ 0 = omega arith in
    let s = word_spelled c.args.ordered c.args.registers (map (λ w. w.now) c.args.words.now) v c.loop-i.i [] h e inside even in
    c.in_default.ensures.none s.0 s.1 (sym (get_or-map (λ w. w.now) c.args.words.now c.loop-i.i _ [] c.loop-i-test.true) ∙ s.2)

pub loop-i-preserved : goal.loop-i-preserved
loop-i-preserved c =
    elim c.if-i-eq1.branch [
      | then-i-eq1+else-not-is w ↦
          let same : c.if-i-eq1.cube ≡ c.loop-i.cube = cc in
          let odd : c.loop-i.i % 2 ≡ 1 = omega (arith, w.if-i-eq1.true) in
          record {
            literals = subst (All (IsLiteral c.args.ordered c.args.registers)) (sym same) c.loop-i.invariant.literals;
            even = λ _. subst (λ z. map (λ w. w.now) (take (c.loop-i.i + 1) c.args.words.now) ≡ anded (map (literal_text operand_names) z)) (sym same)
                (and_read (λ w. w.now) c.args.words.now c.loop-i.i _ c.loop-i-test.true c.loop-i.cube (w.is.ensures.0 w.if-not-is.false) (c.loop-i.invariant.odd odd));
            odd = λ o. absurd (omega (arith, o, odd));
          }
      | else-i-eq1+in-Some+in_ok-push w ↦
          let same : c.if-i-eq1.cube ≡ c.loop-i.cube ++ w.in-Some.lit ∷ [] = w.cube-is ∙ w.in_ok-push.ensures.ok in
          let even : c.loop-i.i % 2 ≡ 0 = omega (arith, w.if-i-eq1.false) in
          record {
            literals = subst (All (IsLiteral c.args.ordered c.args.registers)) (sym same) (All-push (IsLiteral c.args.ordered c.args.registers) c.loop-i.cube w.in-Some.lit c.loop-i.invariant.literals w.in-Some.ensures.some.0);
            even = λ o. absurd (omega (arith, o, even));
            odd = λ _. subst (λ z. map (λ w. w.now) (take (c.loop-i.i + 1) c.args.words.now) ++ codes "and" ∷ [] ≡ anded (map (literal_text operand_names) z)) (sym same)
                (literal_read (λ w. w.now) c.args.words.now c.loop-i.i _ c.loop-i-test.true c.loop-i.cube w.in-Some.lit w.in-Some.ensures.some.1 (c.loop-i.invariant.even even));
          }
    ]

pub returns-then-words-eq1 : goal.returns-then-words-eq1
returns-then-words-eq1 c =
    let odd : c.loop-i.i % 2 ≡ 1 = omega arith in
    let all = subst (λ z. map (λ w. w.now) z ++ codes "and" ∷ [] ≡ anded (map (literal_text operand_names) c.loop-i.cube)) (take_all c.loop-i.i c.args.words.now (omega arith)) (c.loop-i.invariant.odd odd) in
    let r = literals_read (map (λ w. w.now) c.args.words.now) c.loop-i.cube all in
    (record { some = r.0; literals = c.loop-i.invariant.literals }, r.1)

pub returns-else-words-eq1 : goal.returns-else-words-eq1
returns-else-words-eq1 c = λ v h e.
    absurd (omega (arith, words_odd c.args.ordered c.args.registers (map (λ w. w.now) c.args.words.now) v h e, length-map c.args.words.now (λ w. w.now), c.if-words-eq1.false))
