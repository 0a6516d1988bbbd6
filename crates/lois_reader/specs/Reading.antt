-- Reading from left to right, with the first fault that is met: how many bytes are left there.
use Rattle.std.specs.Prelude.{◌≡◌, ℕ, Bool, false, ◌==◌, List, [], ◌∷◌, Option, Some, None, Result, Ok, Err}
use Rattle.lois_reader.specs.declared.parse_error.ParseError.{ParseError}
use Rattle.lois_reader.specs.declared.parse_error.ParseError.TheVariants.{Left, NoMemory}

infixl 10 ◌>>=◌
abbrev pub ◌>>=◌ : {A B : Type 0} → Result A ℕ → (A → Result B ℕ) → Result B ℕ
(Ok x) >>= f = f x
(Err e) >>= f = Err e

-- What a function returned, seen by view, is what reading gives, unless memory ran out.
abbrev pub ErrorIs : {Y : Type 0} → ParseError → Result Y ℕ → Type 0
ErrorIs NoMemory read = Unit {0}
ErrorIs (Left left) read = read ≡ Err left

-- it isn't want of memory
abbrev pub IsTextError : ParseError → Type 0
IsTextError NoMemory = ⊥
IsTextError (Left left) = Unit {0}

abbrev pub ResultIs : {X Y : Type 0} → (X → Y) → Result X ParseError → Result Y ℕ → Type 0
ResultIs view (Ok x) read = read ≡ Ok (view x)
ResultIs view (Err e) read = ErrorIs e read

-- the bytes after a part
abbrev pub End : Type 0
End = Result (List ℕ) ℕ

-- the first byte, if there is one, and a test of it
abbrev pub first_byte : List ℕ → Option ℕ
first_byte [] = None
first_byte (b ∷ bs) = Some b

abbrev pub passes : (ℕ → Bool) → Option ℕ → Bool
passes p None = false
passes p (Some b) = p b

abbrev pub begins : ℕ → List ℕ → Bool
begins b s = passes (λ c. c == b) (first_byte s)
