-- What the parts of a text stand for, or the first side rule that they break.
use Rattle.std.specs.Prelude.{ℕ, zero, suc, Bool, ◌&&◌, ◌==◌, not, nat_le, nat_lt, List, [], ◌∷◌, length, slice_index, position, Option, Some, None, Result, Ok, Err, bytes_eq, codes, if◌then◌else◌}
use Rattle.lois_base.specs.declared.guards.Lit.{Lit}
use Rattle.lois_base.specs.declared.guards.Op.{Op}
use Rattle.lois_base.specs.declared.guards.Op.TheVariants.{Eq, Ne, Lt}
use Rattle.lois_reader.specs.declared.scope.Scope.{Scope}
use Rattle.lois_reader.specs.Reading.{◌>>=◌, begins}
use Rattle.lois_reader.specs.Ends.{fixed_end, word_at, number_at, begins_op}
use Rattle.lois_reader.specs.Pieces.{value}

-- the value, where there is one
abbrev pub given : {A : Type 0} → Option A → ℕ → Result A ℕ
given (Some a) left = Ok a
given None left = Err left

-- the value of the digits, where it is at least low and below high
abbrev pub value_within : ℕ → ℕ → List ℕ → Option ℕ
value_within low high ds = if nat_le low (value ds) && nat_lt (value ds) high then Some (value ds) else None

unfoldable pub level_at : List (List ℕ) → ℕ → List ℕ → Result (ℕ × List ℕ) ℕ
level_at names n s = fixed_end (codes "$") s >>= number_at >>= λ x. given (value_within (length names) n x.0) (length s) >>= λ i. Ok (i, x.1)

-- the level of a parameter
unfoldable pub parameter_at : List (List ℕ) → List ℕ → Result (ℕ × List ℕ) ℕ
parameter_at names s = word_at s >>= λ x. given (position (bytes_eq x.0) names) (length s) >>= λ i. Ok (i, x.1)

unfoldable pub operand_at : Scope → ℕ → List ℕ → Result (ℕ × List ℕ) ℕ
operand_at scope n s = if begins 36 s then level_at scope.names n s else parameter_at scope.names s

unfoldable pub op_at : Bool → List ℕ → Result (Op × List ℕ) ℕ
op_at ordered s =
    if begins 61 s then fixed_end (codes "=") s >>= (λ r. Ok (Eq, r))
    else (if begins 33 s then fixed_end (codes "!=") s >>= (λ r. Ok (Ne, r))
    else (if ordered then fixed_end (codes "<") s >>= (λ r. Ok (Lt, r)) else Err (length s)))

unfoldable pub literal_at : Scope → ℕ → List ℕ → Result (Lit × List ℕ) ℕ
literal_at scope n s = do
  left ← operand_at scope n s
  op ← op_at scope.ordered left.1
  right ← operand_at scope n op.1
  Ok (record { op = op.0; left = left.0; right = right.0 }, right.1)

-- behind this word, where it isn't the operand of a literal
abbrev pub keyword_in : List ℕ → Result (List ℕ × List ℕ) ℕ → Option (List ℕ)
keyword_in k (Ok x) = if bytes_eq x.0 k && not (begins_op x.1) then Some x.1 else None
keyword_in k (Err left) = None

unfoldable pub keyword : List ℕ → List ℕ → Option (List ℕ)
keyword k s = keyword_in k (word_at s)

-- a space and this byte
abbrev pub follows : ℕ → List ℕ → Bool
follows b s = slice_index s 0 == 32 && slice_index s 1 == b

-- items with a text between them: after each, a test says whether the text and another item follow
abbrev pub list_at : {A : Type 0} → (List ℕ → Bool) → List ℕ → (List ℕ → Result (A × List ℕ) ℕ) → ℕ → List ℕ → Result (List A × List ℕ) ℕ
list_at test between item zero s = Err (length s)
list_at test between item (suc n) s = item s >>= λ x.
    if test x.1 then fixed_end between x.1 >>= list_at test between item n >>= (λ y. Ok (x.0 ∷ y.0, y.1))
    else Ok (x.0 ∷ [], x.1)

-- items as long as a test says that one follows
abbrev pub many_at : {A : Type 0} → (List ℕ → Bool) → (List ℕ → Result (A × List ℕ) ℕ) → ℕ → List ℕ → Result (List A × List ℕ) ℕ
many_at test item zero s = Err (length s)
many_at test item (suc n) s = if test s then item s >>= (λ x. many_at test item n x.1 >>= (λ y. Ok (x.0 ∷ y.0, y.1))) else Ok ([], s)

unfoldable pub literals_at : Scope → ℕ → List ℕ → Result (List Lit × List ℕ) ℕ
literals_at scope n s = list_at (follows 97) (codes " and ") (literal_at scope n) (suc (length s)) s

-- `true` is the empty cube
abbrev pub cube_or : Option (List ℕ) → Result (List Lit × List ℕ) ℕ → Result (List Lit × List ℕ) ℕ
cube_or (Some r) other = Ok ([], r)
cube_or None other = other

unfoldable pub cube_at : Scope → ℕ → List ℕ → Result (List Lit × List ℕ) ℕ
cube_at scope n s = cube_or (keyword (codes "true") s) (literals_at scope n s)

unfoldable pub cubes_at : Scope → ℕ → List ℕ → Result (List (List Lit) × List ℕ) ℕ
cubes_at scope n s = list_at (begins 32) (codes " or ") (cube_at scope n) (suc (length s)) s

-- `false` is the constraint without cubes
abbrev pub cubes_or : Option (List ℕ) → Result (List (List Lit) × List ℕ) ℕ → Result (List (List Lit) × List ℕ) ℕ
cubes_or (Some r) other = Ok ([], r)
cubes_or None other = other

unfoldable pub constraint_at : Scope → ℕ → List ℕ → Result (List (List Lit) × List ℕ) ℕ
constraint_at scope n s = cubes_or (keyword (codes "false") s) (cubes_at scope n s)
