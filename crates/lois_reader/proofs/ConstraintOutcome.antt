-- What reading gives on the pieces of operands, literals and constraints.
use Rattle.std.proofs.Common.{◌≡◌, ℕ, suc, ◌+◌, ◌<◌, ◌≤◌, Bool, true, false, cond, not, ◌&&◌, List, [], ◌∷◌, ◌++◌, length, map, Option, Some, None, Result, Ok, Err, refl, ap, ◌∙◌, append_assoc, arith, length-append}
use Rattle.std.specs.Prelude.{codes, bytes_eq, nat_le, nat_lt, IsTrue}
use Rattle.std.specs.List.{AllByRecursion, list_any, position_or_len}
use Rattle.std.proofs.lemmas.Bool.{false≢true}
use Rattle.std.proofs.lemmas.Bool.Decides.{nat_tests}
use Rattle.lois_base.specs.Validity.{is_strict}
use Rattle.lois_base.specs.declared.guards.Lit.{Lit}
use Rattle.lois_base.specs.declared.guards.Op.{Op}
use Rattle.lois_base.specs.declared.guards.Op.TheVariants.{Eq, Ne, Lt, AtMost}
use Rattle.lois_lexer.specs.Forms.{is_word_form}
use Rattle.lois_reader.specs.declared.scope.Scope.{Scope}
use Rattle.lois_reader.specs.Draft.{Operand, word, level, LitDraft, ConstraintDraft, IsOperand, IsLitDraft, IsConstraintDraft}
use Rattle.lois_reader.specs.Pieces.{Piece, plain, each, value, operand_piece, op_piece, literal_pieces, cube_pieces, constraint_pieces}
use Rattle.lois_reader.specs.Shape.{text_of_pieces}
use Rattle.lois_reader.specs.Reading.{◌>>=◌, begins}
use Rattle.lois_reader.specs.Ends.{word_at, begins_op}
use Rattle.lois_reader.specs.Values.{given, level_at, parameter_at, operand_at, op_at, literal_at, keyword, follows, literals_at, cube_or, cube_at, cubes_at, cubes_or, constraint_at}
use Rattle.lois_reader.proofs.Fronts.{EndsWord, ends_number, word_front, number_front, word_begins}
use Rattle.lois_reader.proofs.Outcome.{out, bind_out, list_out, text_split}

-- the level that an operand stands for, where it breaks no rule
abbrev pub level_of : Scope → Operand → ℕ
level_of s (word w) = position_or_len (bytes_eq w) s.names
level_of s (level ds) = value ds

abbrev pub lit_of : Scope → LitDraft → Lit
lit_of s l = record { op = l.op; left = level_of s l.left; right = level_of s l.right }

abbrev pub cube_of : Scope → List LitDraft → List Lit
cube_of s = map (lit_of s)

abbrev pub constraint_of : Scope → ConstraintDraft → List (List Lit)
constraint_of s = map (cube_of s)

-- behind an operator no word goes on
pub op_begins_word : (s : Scope) (op : Op) (r : List ℕ) → EndsWord ((op_piece s op).bytes ++ r)
op_begins_word s Eq r = refl
op_begins_word s Ne r = refl
op_begins_word s Lt r = refl
op_begins_word s AtMost r = refl

pub op_begins : (s : Scope) (op : Op) (r : List ℕ) → begins_op ((op_piece s op).bytes ++ r) ≡ true
op_begins s Eq r = refl
op_begins s Ne r = refl
op_begins s Lt r = refl
op_begins s AtMost r = refl

-- what is given on a test
given_out : (b : Bool) (v l m : ℕ) (r : List ℕ) → l ≡ m → ◌>>=◌ {A = ℕ} {B = ℕ × List ℕ} (given (cond b (Some v) None) l) (λ i. Ok (i, r)) ≡ cond (not b) (Err m) (Ok (v, r))
given_out true v l m r e = refl
given_out false v l m r e = ap (λ (n : ℕ). Err n) e

position_is : (p : List ℕ → Bool) (xs : List (List ℕ)) → nat_lt (position_or_len p xs) (length xs) ≡ list_any p xs
position_is p [] = refl
position_is p (x ∷ xs) =
    elim (p x) as (λ b. p x ≡ b → nat_lt (position_or_len p (x ∷ xs)) (length (x ∷ xs)) ≡ list_any p (x ∷ xs)) [
      | true ↦ λ e. rw e (here (length xs))
      | false ↦ λ e. rw e (there (position_or_len p xs) (length xs) ∙ position_is p xs)
    ] refl
  where
    here : (n : ℕ) → nat_lt 0 (suc n) ≡ true
    here n = grind (arith, nat_tests)

    there : (m n : ℕ) → nat_lt (1 + m) (suc n) ≡ nat_lt m n
    there m n = grind (arith, nat_tests)

pub operand_out : (s : Scope) (n : ℕ) (o : Operand) → IsOperand o → (r : List ℕ) → EndsWord r → operand_at s n ((operand_piece s n o).bytes ++ r) ≡ out (operand_piece s n o ∷ []) (level_of s o) r
unfolding operand_at parameter_at level_at
operand_out s n (word w) form r ends =
    let front = word_front w r form ends in
    let other : begins 36 (w ++ r) ≡ false = word_begins 36 w r form refl in
    let e : length (w ++ r) ≡ length w + (0 + length r) = omega (arith, length-append w r) in
    rw (other, front, position_is (bytes_eq w) s.names) (given_out (list_any (bytes_eq w) s.names) (position_or_len (bytes_eq w) s.names) (length (w ++ r)) (length w + (0 + length r)) r e)
operand_out s n (level ds) form r ends =
    let front = number_front ds r form (ends_number r ends) in
    let e : suc (length (ds ++ r)) ≡ suc (length ds) + (0 + length r) = omega (arith, length-append ds r) in
    rw front (given_out (nat_le (length s.names) (value ds) && nat_lt (value ds) n) (value ds) (suc (length (ds ++ r))) (suc (length ds) + (0 + length r)) r e)

less_out : (b : Bool) (r : List ℕ) → op_at b (codes "<" ++ r) ≡ cond (not b) (Err (1 + (0 + length r))) (Ok (Lt, r))
unfolding op_at
less_out true r = refl
less_out false r = ap (λ (n : ℕ). Err n) (omega arith)

pub op_out : (s : Scope) (op : Op) (r : List ℕ) → IsTrue (is_strict op) → op_at s.ordered ((op_piece s op).bytes ++ r) ≡ out (op_piece s op ∷ []) op r
unfolding op_at
op_out s Eq r strict = refl
op_out s Ne r strict = refl
op_out s Lt r strict = less_out s.ordered r
op_out s AtMost r strict = absurd (false≢true strict)

-- no byte of a word stands in front of an operator

pub literal_out : (s : Scope) (n : ℕ) (l : LitDraft) → IsLitDraft l → (r : List ℕ) → EndsWord r → literal_at s n (text_of_pieces (literal_pieces s n l) ++ r) ≡ out (literal_pieces s n l) (lit_of s l) r
unfolding literal_at
literal_out s n l form r ends =
    let left : Piece = operand_piece s n l.left in
    let op : Piece = op_piece s l.op in
    let right : Piece = operand_piece s n l.right in
    let made : ℕ × List ℕ → Op × List ℕ → ℕ × List ℕ → Result (Lit × List ℕ) ℕ = λ a o b. Ok (record { op = o.0; left = a.0; right = b.0 }, b.1) in
    let behind_left : List ℕ = text_of_pieces (op ∷ right ∷ []) ++ r in
    let ends_left : EndsWord (text_of_pieces (op_piece s l.op ∷ operand_piece s n l.right ∷ []) ++ r) = rw (append_assoc op.bytes (text_of_pieces (right ∷ [])) r) (op_begins_word s l.op (text_of_pieces (right ∷ []) ++ r)) in
    let a : ℕ × List ℕ = (level_of s l.left, behind_left) in
    let o : Op × List ℕ = (l.op, text_of_pieces (right ∷ []) ++ r) in
    step (operand_at s n) left (op ∷ right ∷ []) (level_of s l.left) (lit_of s l) r (λ a. op_at s.ordered a.1 >>= λ o. operand_at s n o.1 >>= made a o)
    (operand_out s n l.left form.0 (text_of_pieces (op ∷ right ∷ []) ++ r) ends_left)
    (step (op_at s.ordered) op (right ∷ []) l.op (lit_of s l) r (λ o. operand_at s n o.1 >>= made a o) (op_out s l.op (text_of_pieces (right ∷ []) ++ r) form.2)
    (step (operand_at s n) right [] (level_of s l.right) (lit_of s l) r (made a o) (operand_out s n l.right form.1 r ends) refl))
  where
    -- one piece, and what is read behind it
    step : {A B : Type 0} (read : List ℕ → Result (A × List ℕ) ℕ) (p : Piece) (qs : List Piece) (a : A) (b : B) (r : List ℕ) (f : A × List ℕ → Result (B × List ℕ) ℕ) →
        read (p.bytes ++ (text_of_pieces qs ++ r)) ≡ out (p ∷ []) a (text_of_pieces qs ++ r) → f (a, text_of_pieces qs ++ r) ≡ out qs b r → (read (text_of_pieces (p ∷ qs) ++ r) >>= f) ≡ out (p ∷ qs) b r
    step read p qs a b r f here later =
        ap (λ (s : List ℕ). read s >>= f) (append_assoc p.bytes (text_of_pieces qs) r) ∙ ap (λ x. x >>= f) here ∙ bind_out (p ∷ []) qs a b r f later

-- ---- cubes

-- what may stand behind a constraint: neither a byte of a word nor a space nor an operator
pub record Closes (r : List ℕ) : Type 0 where
  pub word_ends : EndsWord r
  pub space : begins 32 r ≡ false
  pub op : begins_op r ≡ false

-- `and` follows no cube that is followed by `or` or closed
pub record ClosesCube (r : List ℕ) : Type 0 where
  pub word_ends : EndsWord r
  pub joint : follows 97 r ≡ false
  pub op : begins_op r ≡ false

pub no_space : (r : List ℕ) → begins 32 r ≡ false → follows 97 r ≡ false
no_space [] h = refl
no_space (b ∷ r) h = rw h refl

pub closes_cube : (r : List ℕ) → Closes r → ClosesCube r
closes_cube r c = record { word_ends = c.word_ends; joint = no_space r c.space; op = c.op }

closes_or : (r : List ℕ) → ClosesCube (codes " or " ++ r)
closes_or r = record { word_ends = refl; joint = refl; op = refl }

and_ends : (r : List ℕ) → EndsWord (codes " and " ++ r)
and_ends r = refl

and_follows : (r : List ℕ) → follows 97 (codes " and " ++ r) ≡ true
and_follows r = refl

-- no word begins a literal that is followed by its operator
word_is_no_keyword : (k w r : List ℕ) (x : List ℕ × List ℕ) → word_at r ≡ Ok x → begins_op x.1 ≡ true → keyword k r ≡ None
unfolding keyword
word_is_no_keyword k w r x e h = rw (e, h) (never (bytes_eq x.0 k) (Some x.1))
  where
    never : (b : Bool) (o : Option (List ℕ)) → cond (b && false) o None ≡ None
    never true o = refl
    never false o = refl

no_word_no_keyword : (k r : List ℕ) (left : ℕ) → word_at r ≡ Err left → keyword k r ≡ None
unfolding keyword
no_word_no_keyword k r left e = rw e refl

dollar_no_word : (r : List ℕ) → word_at (36 ∷ r) ≡ Err (suc (length r))
unfolding word_at
dollar_no_word r = refl

operand_no_keyword : (s : Scope) (n : ℕ) (k : List ℕ) (o : Operand) (op : Op) (r : List ℕ) → IsOperand o → keyword k ((operand_piece s n o).bytes ++ ((op_piece s op).bytes ++ r)) ≡ None
operand_no_keyword s n k (word w) op r form =
    word_is_no_keyword k w (w ++ ((op_piece s op).bytes ++ r)) (w, (op_piece s op).bytes ++ r) (word_front w ((op_piece s op).bytes ++ r) form (op_begins_word s op r)) (op_begins s op r)
operand_no_keyword s n k (level ds) op r form = no_word_no_keyword k (codes "$" ++ ds ++ ((op_piece s op).bytes ++ r)) (suc (length (ds ++ ((op_piece s op).bytes ++ r)))) (dollar_no_word (ds ++ ((op_piece s op).bytes ++ r)))

pub literal_no_keyword : (s : Scope) (n : ℕ) (k : List ℕ) (l : LitDraft) (qs : List Piece) (r : List ℕ) → IsLitDraft l → keyword k (text_of_pieces (literal_pieces s n l ++ qs) ++ r) ≡ None
literal_no_keyword s n k l qs r form =
    let left : Piece = operand_piece s n l.left in
    let op : Piece = op_piece s l.op in
    let rest : List Piece = operand_piece s n l.right ∷ qs in
    ap (keyword k) (append_assoc left.bytes (op.bytes ++ text_of_pieces rest) r ∙ ap (λ (t : List ℕ). left.bytes ++ t) (append_assoc op.bytes (text_of_pieces rest) r)) ∙ operand_no_keyword s n k l.left l.op (text_of_pieces rest ++ r) form.0

-- `true` and `false` themselves
pub keyword_is : (k r : List ℕ) → is_word_form k ≡ true → bytes_eq k k ≡ true → EndsWord r → begins_op r ≡ false → keyword k (k ++ r) ≡ Some r
unfolding keyword
keyword_is k r form same ends op = rw (word_front k r form ends, same, op) refl

pub other_keyword : (k w r : List ℕ) → is_word_form w ≡ true → bytes_eq w k ≡ false → EndsWord r → keyword k (w ++ r) ≡ None
unfolding keyword
other_keyword k w r form other ends = rw (word_front w r form ends, other) refl

-- there are no more items than bytes
items_enough : {A : Type 0} (between : List ℕ) (pieces : A → List Piece) (xs : List A) (r : List ℕ) → 0 < length between → length xs ≤ length (text_of_pieces (each (λ y. plain between ∷ pieces y) xs) ++ r)
items_enough between pieces [] r some = omega arith
items_enough between pieces (x ∷ xs) r some =
    let later : List Piece = each (λ y. plain between ∷ pieces y) xs in
    omega (arith, ap length (text_split (plain between ∷ pieces x) later r), length-append (between ++ text_of_pieces (pieces x)) (text_of_pieces later ++ r), length-append between (text_of_pieces (pieces x)), items_enough between pieces xs r some)

pub list_enough : {A : Type 0} (between : List ℕ) (pieces : A → List Piece) (x : A) (xs : List A) (r : List ℕ) → 0 < length between → length xs < suc (length (text_of_pieces (pieces x ++ each (λ y. plain between ∷ pieces y) xs) ++ r))
list_enough between pieces x xs r some =
    let later : List Piece = each (λ y. plain between ∷ pieces y) xs in
    omega (arith, ap length (text_split (pieces x) later r), length-append (text_of_pieces (pieces x)) (text_of_pieces later ++ r), items_enough between pieces xs r some)

literals_out : (s : Scope) (n : ℕ) (l : LitDraft) (ls : List LitDraft) → IsLitDraft l → AllByRecursion IsLitDraft ls → (r : List ℕ) → ClosesCube r → literals_at s n (text_of_pieces (cube_pieces s n (l ∷ ls)) ++ r) ≡ out (cube_pieces s n (l ∷ ls)) (cube_of s (l ∷ ls)) r
unfolding literals_at
literals_out s n l ls form forms r closes =
    list_out (follows 97) (codes " and ") (literal_at s n) (literal_pieces s n) (lit_of s) IsLitDraft EndsWord
    (λ x good t ends. literal_out s n x good t ends) and_follows and_ends l ls
    (suc (length (text_of_pieces (cube_pieces s n (l ∷ ls)) ++ r))) r
    (list_enough (codes " and ") (literal_pieces s n) l ls r (omega arith)) form forms closes.word_ends closes.joint

cube_by : (o : Option (List ℕ)) (r : List ℕ) (other : Result (List Lit × List ℕ) ℕ) → o ≡ Some r → cube_or o other ≡ Ok ([], r)
cube_by o r other e = rw e refl

pub cube_out : (s : Scope) (n : ℕ) (c : List LitDraft) → AllByRecursion IsLitDraft c → (r : List ℕ) → ClosesCube r → cube_at s n (text_of_pieces (cube_pieces s n c) ++ r) ≡ out (cube_pieces s n c) (cube_of s c) r
unfolding cube_at
cube_out s n [] forms r closes = cube_by (keyword (codes "true") (codes "true" ++ r)) r (literals_at s n (codes "true" ++ r)) (keyword_is (codes "true") r refl refl closes.word_ends closes.op)
cube_out s n (l ∷ ls) forms r closes =
    rw (literal_no_keyword s n (codes "true") l (each (λ k. plain (codes " and ") ∷ literal_pieces s n k) ls) r forms.0) (literals_out s n l ls forms.0 forms.1 r closes)

or_follows : (r : List ℕ) → begins 32 (codes " or " ++ r) ≡ true
or_follows r = refl

cubes_out : (s : Scope) (n : ℕ) (c : List LitDraft) (cs : ConstraintDraft) → AllByRecursion IsLitDraft c → IsConstraintDraft cs → (r : List ℕ) → Closes r → cubes_at s n (text_of_pieces (constraint_pieces s n (c ∷ cs)) ++ r) ≡ out (constraint_pieces s n (c ∷ cs)) (constraint_of s (c ∷ cs)) r
unfolding cubes_at
cubes_out s n c cs form forms r closes =
    list_out (begins 32) (codes " or ") (cube_at s n) (cube_pieces s n) (cube_of s) (AllByRecursion IsLitDraft) ClosesCube
    (λ x good t ends. cube_out s n x good t ends) or_follows closes_or c cs
    (suc (length (text_of_pieces (constraint_pieces s n (c ∷ cs)) ++ r))) r
    (list_enough (codes " or ") (cube_pieces s n) c cs r (omega arith)) form forms (closes_cube r closes) closes.space

cubes_by : (o : Option (List ℕ)) (r : List ℕ) (other : Result (List (List Lit) × List ℕ) ℕ) → o ≡ Some r → cubes_or o other ≡ Ok ([], r)
cubes_by o r other e = rw e refl

-- a first cube isn't `false`, what follows it doesn't matter
cube_no_false : (s : Scope) (n : ℕ) (c : List LitDraft) (qs : List Piece) (r : List ℕ) → AllByRecursion IsLitDraft c → EndsWord (text_of_pieces qs ++ r) → keyword (codes "false") (text_of_pieces (cube_pieces s n c ++ qs) ++ r) ≡ None
cube_no_false s n [] qs r forms ends =
    ap (keyword (codes "false")) (append_assoc (codes "true") (text_of_pieces qs) r) ∙ other_keyword (codes "false") (codes "true") (text_of_pieces qs ++ r) refl refl ends
cube_no_false s n (l ∷ ls) qs r forms ends =
    let more_literals : List Piece = each (λ k. plain (codes " and ") ∷ literal_pieces s n k) ls in
    ap (λ (ps : List Piece). keyword (codes "false") (text_of_pieces ps ++ r)) (append_assoc (literal_pieces s n l) more_literals qs) ∙ literal_no_keyword s n (codes "false") l (more_literals ++ qs) r forms.0

pub or_ends : (s : Scope) (n : ℕ) (cs : ConstraintDraft) (r : List ℕ) → EndsWord r → EndsWord (text_of_pieces (each (λ d. plain (codes " or ") ∷ cube_pieces s n d) cs) ++ r)
or_ends s n [] r ends = ends
or_ends s n (c ∷ cs) r ends = refl

pub constraint_out : (s : Scope) (n : ℕ) (g : ConstraintDraft) → IsConstraintDraft g → (r : List ℕ) → Closes r → constraint_at s n (text_of_pieces (constraint_pieces s n g) ++ r) ≡ out (constraint_pieces s n g) (constraint_of s g) r
unfolding constraint_at
constraint_out s n [] forms r closes = cubes_by (keyword (codes "false") (codes "false" ++ r)) r (cubes_at s n (codes "false" ++ r)) (keyword_is (codes "false") r refl refl closes.word_ends closes.op)
constraint_out s n (c ∷ cs) forms r closes =
    rw (cube_no_false s n c (each (λ d. plain (codes " or ") ∷ cube_pieces s n d) cs) r forms.0 (or_ends s n cs r closes.word_ends)) (cubes_out s n c cs forms.0 forms.1 r closes)
