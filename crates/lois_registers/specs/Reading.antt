-- What is read of a text, line by line.
use Rattle.std.specs.Prelude.{◌≡◌, ℕ, Bool, not, ◌&&◌, List, ◌∷◌, ◌++◌, Option, length, nat_eq, MatchOption, IsTrue, [], slice_index_or}
use Rattle.std.specs.List.{All, list_all, slice_split, join_with_byte}
use Rattle.lois_base.specs.Names.{IsName}
use Rattle.lois_registers.specs.Texts.{text_of_words, operand_names}
use Rattle.lois_registers.specs.declared.parse_error.ParseError.{ParseError}
use Rattle.lois_registers.specs.declared.parse_error.ParseError.TheVariants.{Left, NoMemory}

-- without the ends of lines and of words
abbrev pub is_clean : List ℕ → Bool
is_clean = list_all (λ b. not (nat_eq b 10) && not (nat_eq b 32))

-- what a line can be cut into at its spaces
pub record AreWords (words : List (List ℕ)) : Type 0 where
  pub line : IsTrue (list_all (λ b. not (nat_eq b 10)) (join_with_byte 32 words))
  pub cut : slice_split (λ b. nat_eq b 32) (join_with_byte 32 words) ≡ words

-- reading stopped at the front of the text, for this cause; or for want of memory
abbrev pub IsLeftAt : List ℕ → Type 0 → ParseError → Type 0
IsLeftAt text Cause (Left n) = (n ≡ length text) × Cause
IsLeftAt text Cause NoMemory = Unit {0}

-- the words are those of a value of this kind, or of none
abbrev pub AreOf : {V : Type 0} → (V → Type 0) → (V → List (List ℕ)) → List (List ℕ) → Option V → Type 0
AreOf {V} P words_of words o =
    MatchOption o ((v : V) → P v → words ≡ words_of v → ⊥) (λ v. P v × (words ≡ words_of v))

-- no value of this kind has its line at the front
abbrev pub BeginsWithNoLine : {V : Type 0} → (V → Type 0) → (V → List (List ℕ)) → List ℕ → Type 0
BeginsWithNoLine {V} P words_of text = (v : V) (more : List ℕ) → P v → text ≡ text_of_words (words_of v) ++ more → ⊥

-- a line of this word and these names is at the front
abbrev pub HasNames : List ℕ → List (List ℕ) → List ℕ → Type 0
HasNames first names text = All IsName names × ((more : List ℕ) × (text ≡ text_of_words (first ∷ names) ++ more))

-- the words are those before a word and those after it, and it isn't one of those before
abbrev pub IsCutAt : List ℕ → List (List ℕ) → List (List ℕ) → List (List ℕ) → Type 0
IsCutAt word words before after = (words ≡ before ++ word ∷ after) × All (λ w. w ≡ word → ⊥) before

abbrev pub operand_text : ℕ → List ℕ
operand_text i = slice_index_or operand_names i []
