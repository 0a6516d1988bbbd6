use Rattle.std.proofs.Common.{◌≡◌, ◌++◌, ℕ, zero, suc, List, refl, arith}
use Rattle.lois_registers.specs.Texts.{text_of_words, count_words}
use Rattle.lois_registers.specs.ReadParts.{IsCount}
use Rattle.lois_registers.proofs.fixed.count_line.Goals as goal

four : (text : List ℕ) →
    ((more : List ℕ) → text ≡ text_of_words (count_words 1) ++ more → ⊥) → ((more : List ℕ) → text ≡ text_of_words (count_words 2) ++ more → ⊥) →
    ((more : List ℕ) → text ≡ text_of_words (count_words 3) ++ more → ⊥) → ((more : List ℕ) → text ≡ text_of_words (count_words 4) ++ more → ⊥) →
    (v : ℕ) (more : List ℕ) → IsCount v → text ≡ text_of_words (count_words v) ++ more → ⊥
four text a b c d zero more h e = absurd (omega arith)
four text a b c d (suc zero) more h e = a more e
four text a b c d (suc (suc zero)) more h e = b more e
four text a b c d (suc (suc (suc zero))) more h e = c more e
four text a b c d (suc (suc (suc (suc zero)))) more h e = d more e
four text a b c d (suc (suc (suc (suc (suc v))))) more h e = absurd (omega (arith, h.1))

pub returns-in-None-clause-left : goal.returns-in-None-clause-left
returns-in-None-clause-left c =
    (refl, four c.args.text.now c.in_default.ensures.none c.in_default-behind.ensures.none c.in_default-behind-2.ensures.none c.in-None.ensures.none)
