-- The number and the words of each cause of a refusal.
use Rattle.std.specs.Prelude.{ℕ, List, codes}
use Rattle.lois_lexer.specs.declared.LexError.{LexError}
use Rattle.lois_lexer.specs.declared.LexError.TheVariants.{BadByte, LongName, BadNumber, NoMemory}

-- counted from 1 as the causes are declared
abbrev pub cause_number : LexError → ℕ
cause_number (BadByte at) = 1
cause_number (LongName at) = 2
cause_number (BadNumber at) = 3
cause_number NoMemory = 4

abbrev pub cause_text : LexError → List ℕ
cause_text (BadByte at) = codes "bad byte"
cause_text (LongName at) = codes "long name"
cause_text (BadNumber at) = codes "bad number"
cause_text NoMemory = codes "out of memory"
