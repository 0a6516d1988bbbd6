-- The text of a register automaton: lines of words.
use Rattle.std.specs.Prelude.{ℕ, ◌+◌, Bool, true, false, List, [], ◌∷◌, ◌++◌, map, codes}
use Rattle.std.specs.List.{flat_map, join_with_byte}
use Rattle.lois_answers.specs.ResultsText.{lined}
use Rattle.lois_answers.specs.TermText.{literal_text}
use Rattle.lois_base.specs.declared.guards.Lit.{Lit}
use Rattle.lois_registers.specs.declared.automata.RegStep.{RegStep}
use Rattle.lois_registers.specs.declared.automata.Registers.{Registers}

-- the words of the levels of a guard: the letter, and the registers
abbrev pub operand_names : List (List ℕ)
operand_names = codes "x" ∷ codes "r1" ∷ codes "r2" ∷ codes "r3" ∷ codes "r4" ∷ []

-- the digit of a number below 10
abbrev pub digit : ℕ → List ℕ
digit k = (48 + k) ∷ []

-- the words, with `and` between each two
abbrev pub joined_by_and : List (List ℕ) → List (List ℕ)
joined_by_and [] = []
joined_by_and (w ∷ []) = w ∷ []
joined_by_and (w ∷ v ∷ ws) = w ∷ codes "and" ∷ joined_by_and (v ∷ ws)

abbrev pub linked_words : List Lit → List (List ℕ)
linked_words ls = joined_by_and (map (literal_text operand_names) ls)

abbrev pub guard_words : List Lit → List (List ℕ)
guard_words [] = codes "true" ∷ []
guard_words (l ∷ ls) = linked_words (l ∷ ls)

abbrev pub stored_words : List ℕ → List (List ℕ)
stored_words [] = codes "none" ∷ []
stored_words (i ∷ is) = map digit (i ∷ is)

abbrev pub step_words : RegStep → List (List ℕ)
step_words s =
    codes "step" ∷ s.from ∷ s.to ∷ codes "when" ∷ (guard_words s.guard ++ codes "store" ∷ stored_words s.stored)

abbrev pub order_words : Bool → List (List ℕ)
order_words false = codes "atoms" ∷ codes "equality" ∷ []
order_words true = codes "atoms" ∷ codes "order" ∷ []

abbrev pub title_words : List (List ℕ)
title_words = codes "lois" ∷ codes "registers" ∷ codes "1" ∷ []

abbrev pub count_words : ℕ → List (List ℕ)
count_words k = codes "registers" ∷ digit k ∷ []

abbrev pub states_words : List (List ℕ) → List (List ℕ)
states_words states = codes "states" ∷ states

abbrev pub initial_words : List ℕ → List (List ℕ)
initial_words state = codes "initial" ∷ state ∷ []

abbrev pub final_words : List (List ℕ) → List (List ℕ)
final_words states = codes "final" ∷ states

abbrev pub end_words : List (List ℕ)
end_words = codes "end" ∷ []

-- the lines up to the steps
abbrev pub head_lines : Registers → List (List (List ℕ))
head_lines r =
    title_words ∷ order_words r.order ∷ count_words r.registers ∷ states_words r.states ∷ initial_words r.initial ∷
    final_words r.finals ∷ []

-- the lines but the last one
abbrev pub front_lines : Registers → List (List (List ℕ))
front_lines r = head_lines r ++ map step_words r.steps

-- a line: its words with a space between each two, and the end of the line
abbrev pub text_of_words : List (List ℕ) → List ℕ
text_of_words words = lined (join_with_byte 32 words)

abbrev pub registers_text : Registers → List ℕ
registers_text r = flat_map text_of_words (front_lines r) ++ text_of_words end_words
