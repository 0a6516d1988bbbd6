use Rattle.std.proofs.Common.{◌≡◌, ◌++◌, ℕ, Bool, List, true, false, refl}
use Rattle.lois_registers.specs.Texts.{text_of_words, order_words}
use Rattle.lois_registers.proofs.fixed.order_line.Goals as goal

two : (text : List ℕ) → ((more : List ℕ) → text ≡ text_of_words (order_words false) ++ more → ⊥) → ((more : List ℕ) → text ≡ text_of_words (order_words true) ++ more → ⊥) → (order : Bool) (more : List ℕ) → text ≡ text_of_words (order_words order) ++ more → ⊥
two text a b false more e = a more e
two text a b true more e = b more e

pub returns-in-None-clause-left : goal.returns-in-None-clause-left
returns-in-None-clause-left c = (refl, two c.args.text.now c.in_default.ensures.none c.in-None.ensures.none)
