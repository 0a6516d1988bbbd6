-- Where the parts of a text end.
use Rattle.std.specs.Prelude.{ℕ, zero, suc, Bool, true, false, ◌&&◌, ◌||◌, ◌==◌, not, List, [], ◌∷◌, length, take, drop, Option, Some, None, Result, Ok, Err, bytes_eq, codes, if◌then◌else◌}
use Rattle.std.specs.Char.{is_ascii_alphabetic, is_ascii_digit}
use Rattle.std.specs.List.{prefix_len}
use Rattle.lois_lexer.specs.Bytes.{is_word_byte}
use Rattle.lois_reader.specs.Reading.{◌>>=◌, End, first_byte, passes, begins}
use Rattle.lois_reader.specs.declared.constraint_ends.Connective.{Connective}
use Rattle.lois_reader.specs.declared.constraint_ends.Connective.TheVariants.{Start, And, Or}

-- behind a text that is written so
abbrev pub fixed_end : List ℕ → List ℕ → End
fixed_end [] s = Ok s
fixed_end (c ∷ cs) [] = Err 0
fixed_end (c ∷ cs) (b ∷ s) = if b == c then fixed_end cs s else Err (suc (length s))

-- a word, and what follows it
unfoldable pub word_at : List ℕ → Result (List ℕ × List ℕ) ℕ
word_at s =
    if passes is_ascii_alphabetic (first_byte s) then Ok (take (prefix_len is_word_byte s) s, drop (prefix_len is_word_byte s) s)
    else Err (length s)

unfoldable pub word_end : List ℕ → End
word_end s = word_at s >>= λ x. Ok x.1

-- the digits of a number, and what follows it
unfoldable pub number_at : List ℕ → Result (List ℕ × List ℕ) ℕ
number_at s =
    if begins 48 s then Ok (take 1 s, drop 1 s)
    else (if passes is_ascii_digit (first_byte s) then Ok (take (prefix_len is_ascii_digit s) s, drop (prefix_len is_ascii_digit s) s)
    else Err (length s))

unfoldable pub number_end : List ℕ → End
number_end s = number_at s >>= λ x. Ok x.1

unfoldable pub level_end : List ℕ → End
level_end s = fixed_end (codes "$") s >>= number_end

unfoldable pub operand_end : List ℕ → End
operand_end s = if begins 36 s then level_end s else word_end s

unfoldable pub op_end : List ℕ → End
op_end s =
    if begins 61 s then fixed_end (codes "=") s
    else (if begins 33 s then fixed_end (codes "!=") s else fixed_end (codes "<") s)

unfoldable pub tag_end : List ℕ → End
tag_end s = fixed_end (codes "'") s >>= word_end

-- items as long as one begins here, at most n - 1 of them
abbrev pub many_end : (List ℕ → Bool) → (List ℕ → End) → ℕ → List ℕ → End
many_end test item zero s = Err (length s)
many_end test item (suc n) s = if test s then item s >>= many_end test item n else Ok s

-- Constraints. Behind a literal stands `and` or `or` with another piece, or nothing more.
unfoldable pub joint_at : List ℕ → Result (Option Connective × List ℕ) ℕ
joint_at s =
    if begins 32 s then fixed_end (codes " ") s >>= (λ r.
    if begins 97 r then fixed_end (codes "and ") r >>= (λ t. Ok (Some And, t))
    else fixed_end (codes "or ") r >>= (λ t. Ok (Some Or, t)))
    else Ok (None, s)

-- what follows `true`
unfoldable pub or_at : List ℕ → Result (Option Connective × List ℕ) ℕ
or_at s = if begins 32 s then fixed_end (codes " or ") s >>= (λ t. Ok (Some Or, t)) else Ok (None, s)

abbrev pub begins_op : List ℕ → Bool
begins_op s = begins 61 s || begins 33 s || begins 60 s

abbrev pub is_and : Connective → Bool
is_and Start = false
is_and And = true
is_and Or = false

abbrev pub is_start : Connective → Bool
is_start Start = true
is_start And = false
is_start Or = false

-- behind the first operand of a literal
unfoldable pub comparison_at : List ℕ → Result (Option Connective × List ℕ) ℕ
comparison_at s = op_end s >>= operand_end >>= joint_at

-- a piece behind this joint: a literal, `true` or `false`
unfoldable pub piece_at : Connective → List ℕ → Result (Option Connective × List ℕ) ℕ
piece_at joint s =
    if begins 36 s then level_end s >>= comparison_at
    else word_at s >>= (λ x.
    if begins_op x.1 then comparison_at x.1
    else (if not (is_and joint) && bytes_eq x.0 (codes "true") then or_at x.1
    else (if is_start joint && bytes_eq x.0 (codes "false") then Ok (None, x.1)
    else Err (length x.1))))

abbrev pub onward : (Connective → List ℕ → End) → Option Connective → List ℕ → End
onward go None s = Ok s
onward go (Some joint) s = go joint s

abbrev pub pieces_end : ℕ → Connective → List ℕ → End
pieces_end zero joint s = Err (length s)
pieces_end (suc n) joint s = piece_at joint s >>= λ x. onward (pieces_end n) x.0 x.1

unfoldable pub constraint_end : List ℕ → End
constraint_end s = pieces_end (suc (length s)) Start s

-- Terms. What stands behind `if` and behind the first binder.
unfoldable pub guard_end : List ℕ → End
guard_end s = fixed_end (codes "if ") s >>= constraint_end

abbrev pub binders_end : ℕ → List ℕ → End
binders_end zero s = Err (length s)
binders_end (suc n) s =
    if begins 32 s then fixed_end (codes " ") s >>= (λ t. if begins 36 t then level_end t >>= binders_end n else guard_end t)
    else Ok s

unfoldable pub tail_end : List ℕ → End
tail_end s =
    if begins 32 s then fixed_end (codes " ") s >>= (λ t.
    if begins 102 t then fixed_end (codes "for ") t >>= level_end >>= (λ r. binders_end (suc (length r)) r) else guard_end t)
    else Ok s

-- of a tuple and of a set, where t ends the terms inside
unfoldable pub more_parts_end : (List ℕ → End) → List ℕ → End
more_parts_end t s = many_end (begins 44) (λ q. fixed_end (codes ", ") q >>= t) (suc (length s)) s

unfoldable pub tuple_end : (List ℕ → End) → List ℕ → End
tuple_end t s =
    fixed_end (codes "(") s >>= t >>= fixed_end (codes ", ") >>= t >>= more_parts_end t >>= fixed_end (codes ")")

unfoldable pub comp_end : (List ℕ → End) → List ℕ → End
comp_end t s = t s >>= tail_end

unfoldable pub more_comps_end : (List ℕ → End) → List ℕ → End
more_comps_end t s = many_end (begins 44) (λ q. fixed_end (codes ", ") q >>= comp_end t) (suc (length s)) s

unfoldable pub items_end : (List ℕ → End) → List ℕ → End
items_end t s = comp_end t s >>= more_comps_end t >>= fixed_end (codes "}")

unfoldable pub set_end : (List ℕ → End) → List ℕ → End
set_end t s = fixed_end (codes "{") s >>= (λ r. if begins 125 r then fixed_end (codes "}") r else items_end t r)

-- a term in which at most d brackets are open at one place
unfoldable pub term_end : ℕ → List ℕ → End
term_end zero s = if begins 39 s then tag_end s else operand_end s
term_end (suc d) s =
    if begins 39 s then tag_end s
    else (if begins 40 s then tuple_end (term_end d) s
    else (if begins 123 s then set_end (term_end d) s else operand_end s))
