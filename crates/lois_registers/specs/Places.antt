-- Where a text stops being one of a register automaton.
use Rattle.std.specs.Prelude.{◌≡◌, ℕ, List, [], ◌∷◌, ◌++◌, length}
use Rattle.std.specs.List.{flat_map}
use Rattle.lois_registers.specs.Texts.{front_lines, text_of_words, end_words, registers_text}
use Rattle.lois_registers.specs.Valid.{IsRegisters}
use Rattle.lois_registers.specs.declared.RegistersError.{RegistersError}
use Rattle.lois_registers.specs.declared.RegistersError.TheVariants.{NotRegisters, NoMemory as OutOfMemory}
use Rattle.lois_registers.specs.declared.automata.Registers.{Registers}

-- the text is that of r
pub record IsRegistersOf (text : List ℕ) (r : Registers) : Type 0 where
  pub valid : IsRegisters r
  pub same : registers_text r ≡ text

-- each line has its form and keeps its rule, the lines before it being what they are: some register automaton has these lines,
-- and then others or the line `end`
abbrev pub AreGoodLines : List (List (List ℕ)) → Type 0
AreGoodLines lines = (r : Registers) × (rest : List (List (List ℕ))) × IsRegisters r × (front_lines r ≡ lines ++ rest)

-- The text begins with whole good lines, and what is left of it begins with no further one; nor is it the line `end` behind
-- all lines of a register automaton.
pub record BreaksAt (text : List ℕ) (lines : List (List (List ℕ))) (rest : List ℕ) : Type 0 where
  pub whole : text ≡ flat_map text_of_words lines ++ rest
  pub good : AreGoodLines lines
  pub further : (line : List (List ℕ)) (more : List ℕ) → rest ≡ text_of_words line ++ more → AreGoodLines (lines ++ line ∷ []) → ⊥
  pub last : (r : Registers) → IsRegisters r → front_lines r ≡ lines → rest ≡ text_of_words end_words → ⊥

-- the offset is that of the first line at fault, or the text's length where a line is missing
abbrev pub IsFaultPlace : List ℕ → RegistersError → Type 0
IsFaultPlace text (NotRegisters at) =
    (lines : List (List (List ℕ))) × (rest : List ℕ) × BreaksAt text lines rest × (at ≡ length (flat_map text_of_words lines))
IsFaultPlace text OutOfMemory = Unit {0}

-- no register automaton has the text
abbrev pub SpellsNoRegisters : List ℕ → RegistersError → Type 0
SpellsNoRegisters text (NotRegisters at) = (r : Registers) → IsRegistersOf text r → ⊥
SpellsNoRegisters text OutOfMemory = Unit {0}
