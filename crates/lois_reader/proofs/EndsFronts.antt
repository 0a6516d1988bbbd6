-- Where constraints and terms end, the texts of their drafts standing in front.
use Rattle.std.proofs.Common.{◌≡◌, ℕ, zero, suc, ◌+◌, ◌<◌, ◌≤◌, Bool, true, false, List, [], ◌∷◌, ◌++◌, length, Option, Some, None, Result, Ok, refl, sym, ap, subst, ◌∙◌, append_assoc, arith, length-append}
use Rattle.std.specs.Prelude.{codes, IfSome, IsTrue}
use Rattle.std.specs.List.{AllByRecursion}
use Rattle.std.proofs.lemmas.Bool.{false≢true}
use Rattle.lois_base.specs.Validity.{is_strict}
use Rattle.lois_base.specs.declared.guards.Op.{Op}
use Rattle.lois_base.specs.declared.guards.Op.TheVariants.{Eq, Ne, Lt, AtMost}
use Rattle.lois_reader.specs.declared.constraint_ends.Connective.{Connective}
use Rattle.lois_reader.specs.declared.constraint_ends.Connective.TheVariants.{Start, And, Or}
use Rattle.lois_reader.specs.declared.scope.Scope.{Scope}
use Rattle.lois_reader.specs.Draft.{Operand, word, level, LitDraft, ConstraintDraft, TermDraft, atom, tag, tuple, set, TermDrafts, no_terms, term, CompDraft, comp, CompDrafts, no_comps, more, IsWord, IsNumber, IsOperand, IsLitDraft, IsConstraintDraft, IsTermDraft, AreTermDrafts, IsCompDraft, AreCompDrafts}
use Rattle.lois_reader.specs.Pieces.{Piece, plain, each, comma, operand_piece, op_piece, literal_pieces, cube_pieces, constraint_pieces, guard_pieces, level_pieces, binder_pieces, term_pieces, part_pieces, comp_pieces, item_pieces}
use Rattle.lois_reader.specs.Shape.{text_of_pieces}
use Rattle.lois_reader.specs.Reading.{◌>>=◌, End, first_byte, begins}
use Rattle.lois_reader.specs.Ends.{fixed_end, level_end, operand_end, op_end, tag_end, many_end, joint_at, or_at, begins_op, is_and, comparison_at, piece_at, pieces_end, constraint_end, guard_end, binders_end, tail_end, more_parts_end, tuple_end, comp_end, more_comps_end, items_end, set_end, term_end}
use Rattle.lois_reader.proofs.Fronts.{EndsWord, EndsNumber, ends_number, word_front, word_ends, number_ends, word_begins}
use Rattle.lois_reader.proofs.Outcome.{text_split}
use Rattle.lois_reader.proofs.ConstraintOutcome.{Closes, op_begins_word, op_begins}

pub level_front : (b t : List ℕ) → IsNumber b → EndsNumber t → level_end (codes "$" ++ (b ++ t)) ≡ Ok t
unfolding level_end
level_front b t form ends = number_ends b t form ends

pub operand_front : (s : Scope) (n : ℕ) (o : Operand) (r : List ℕ) → IsOperand o → EndsWord r → operand_end ((operand_piece s n o).bytes ++ r) ≡ Ok r
unfolding operand_end
operand_front s n (word w) r form ends = rw (word_begins 36 w r form refl) (word_ends w r form ends)
operand_front s n (level ds) r form ends = level_front ds r form (ends_number r ends)

op_front : (s : Scope) (op : Op) (r : List ℕ) → IsTrue (is_strict op) → op_end ((op_piece s op).bytes ++ r) ≡ Ok r
unfolding op_end
op_front s Eq r strict = refl
op_front s Ne r strict = refl
op_front s Lt r strict = refl
op_front s AtMost r strict = absurd (false≢true strict)

comparison_front : (s : Scope) (n : ℕ) (op : Op) (o : Operand) (r : List ℕ) → IsTrue (is_strict op) → IsOperand o → EndsWord r → comparison_at ((op_piece s op).bytes ++ ((operand_piece s n o).bytes ++ r)) ≡ joint_at r
unfolding comparison_at
comparison_front s n op o r strict form ends = rw (op_front s op ((operand_piece s n o).bytes ++ r) strict, operand_front s n o r form ends) refl

first_front : (s : Scope) (n : ℕ) (joint : Connective) (o : Operand) (op : Op) (r : List ℕ) → IsOperand o → piece_at joint ((operand_piece s n o).bytes ++ ((op_piece s op).bytes ++ r)) ≡ comparison_at ((op_piece s op).bytes ++ r)
unfolding piece_at
first_front s n joint (word w) op r form =
    let t : List ℕ = (op_piece s op).bytes ++ r in
    rw (word_begins 36 w t form refl, word_front w t form (op_begins_word s op r), op_begins s op r) refl
first_front s n joint (level ds) op r form =
    let t : List ℕ = (op_piece s op).bytes ++ r in
    rw (level_front ds t form (ends_number t (op_begins_word s op r))) refl

pub literal_text : (s : Scope) (n : ℕ) (l : LitDraft) (r : List ℕ) → text_of_pieces (literal_pieces s n l) ++ r ≡ (operand_piece s n l.left).bytes ++ ((op_piece s l.op).bytes ++ ((operand_piece s n l.right).bytes ++ r))
literal_text s n l r =
    let a = (operand_piece s n l.left).bytes in
    let o = (op_piece s l.op).bytes in
    let b = (operand_piece s n l.right).bytes in
    append_assoc a (o ++ (b ++ [])) r ∙ ap (λ (t : List ℕ). a ++ t) (append_assoc o (b ++ []) r ∙ ap (λ (t : List ℕ). o ++ t) (append_assoc b [] r))

literal_front : (s : Scope) (n : ℕ) (joint : Connective) (l : LitDraft) (r : List ℕ) → IsLitDraft l → EndsWord r → piece_at joint (text_of_pieces (literal_pieces s n l) ++ r) ≡ joint_at r
literal_front s n joint l r form ends =
    ap (piece_at joint) (literal_text s n l r)
    ∙ first_front s n joint l.left l.op ((operand_piece s n l.right).bytes ++ r) form.0
    ∙ comparison_front s n l.op l.right r form.2 form.1 ends

true_front : (joint : Connective) (r : List ℕ) → is_and joint ≡ false → EndsWord r → begins_op r ≡ false → piece_at joint (codes "true" ++ r) ≡ or_at r
unfolding piece_at
true_front joint r other ends op = rw (word_front (codes "true") r refl ends, op, other) refl

false_front : (r : List ℕ) → EndsWord r → begins_op r ≡ false → piece_at Start (codes "false" ++ r) ≡ Ok (None, r)
unfolding piece_at
false_front r ends op = rw (word_front (codes "false") r refl ends, op) refl

-- the pieces from here on end before r, with any number of steps that is large enough
abbrev PiecesEnd : Connective → List ℕ → List ℕ → Type 0
PiecesEnd joint t r = (n : ℕ) → length t < n → pieces_end n joint t ≡ Ok r

last_piece : (joint : Connective) (t r : List ℕ) → piece_at joint t ≡ Ok (None, r) → PiecesEnd joint t r
last_piece joint t r e zero enough = absurd (omega arith)
last_piece joint t r e (suc n) enough = rw e refl

next_piece : (joint next : Connective) (t u r : List ℕ) → piece_at joint t ≡ Ok (Some next, u) → length u < length t → PiecesEnd next u r → PiecesEnd joint t r
next_piece joint next t u r e shorter later zero enough = absurd (omega arith)
next_piece joint next t u r e shorter later (suc n) enough = rw e (later n (omega arith))

-- what follows a literal, and what follows `true`: nothing more, or `or` and further pieces
pub record Goes (reads : List ℕ → Result (Option Connective × List ℕ) ℕ) (t r : List ℕ) : Type 0 where
  pub found : Option Connective × List ℕ
  pub is_found : reads t ≡ Ok found
  pub shorter : length found.1 ≤ length t
  pub on : (joint : Connective) (u : List ℕ) → piece_at joint u ≡ Ok found → length found.1 < length u → PiecesEnd joint u r

goes_closed : (reads : List ℕ → Result (Option Connective × List ℕ) ℕ) (r : List ℕ) → reads r ≡ Ok (None, r) → Goes reads r r
goes_closed reads r e = record { found = (None, r); is_found = e; shorter = omega arith; on = λ joint u h shorter. last_piece joint u r h }

goes_on : (reads : List ℕ → Result (Option Connective × List ℕ) ℕ) (t u r : List ℕ) (next : Connective) → reads t ≡ Ok (Some next, u) → length u ≤ length t → PiecesEnd next u r → Goes reads t r
goes_on reads t u r next e shorter later = record { found = (Some next, u); is_found = e; shorter = shorter; on = λ joint v h less. next_piece joint next v u r h less later }

joint_closed : (r : List ℕ) → begins 32 r ≡ false → joint_at r ≡ Ok (None, r)
unfolding joint_at
joint_closed r none = rw none refl

or_closed : (r : List ℕ) → begins 32 r ≡ false → or_at r ≡ Ok (None, r)
unfolding or_at
or_closed r none = rw none refl

joint_or : (t : List ℕ) → joint_at (codes " or " ++ t) ≡ Ok (Some Or, t)
unfolding joint_at
joint_or t = refl

joint_and : (t : List ℕ) → joint_at (codes " and " ++ t) ≡ Ok (Some And, t)
unfolding joint_at
joint_and t = refl

or_or : (t : List ℕ) → or_at (codes " or " ++ t) ≡ Ok (Some Or, t)
unfolding or_at
or_or t = refl

operand_size : (s : Scope) (n : ℕ) (o : Operand) → IsOperand o → 0 < length (operand_piece s n o).bytes
operand_size s n (word []) form = absurd (false≢true form)
operand_size s n (word (b ∷ w)) form = omega arith
operand_size s n (level ds) form = omega arith

literal_goes : (s : Scope) (n : ℕ) (joint : Connective) (l : LitDraft) (t r : List ℕ) → IsLitDraft l → EndsWord t → Goes joint_at t r → PiecesEnd joint (text_of_pieces (literal_pieces s n l) ++ t) r
literal_goes s n joint l t r form ends g =
    let a = (operand_piece s n l.left).bytes in
    let rest : List ℕ = (op_piece s l.op).bytes ++ ((operand_piece s n l.right).bytes ++ t) in
    let longer : length t < length (text_of_pieces (literal_pieces s n l) ++ t) =
    omega (arith, ap length (literal_text s n l t), length-append a rest, length-append (op_piece s l.op).bytes ((operand_piece s n l.right).bytes ++ t), length-append (operand_piece s n l.right).bytes t, operand_size s n l.left form.0) in
    let short = g.shorter in
    g.on joint (text_of_pieces (literal_pieces s n l) ++ t) (literal_front s n joint l t form ends ∙ g.is_found) (omega arith)

literals_go : (s : Scope) (n : ℕ) (joint : Connective) (l : LitDraft) (ls : List LitDraft) (t r : List ℕ) → IsLitDraft l → AllByRecursion IsLitDraft ls → EndsWord t → Goes joint_at t r → PiecesEnd joint (text_of_pieces (cube_pieces s n (l ∷ ls)) ++ t) r
literals_go s n joint l [] t r form forms ends g =
    subst (λ (u : List ℕ). PiecesEnd joint u r) (sym (text_split (literal_pieces s n l) [] t)) (literal_goes s n joint l t r form ends g)
literals_go s n joint l (k ∷ ls) t r form forms ends g =
    let rest : List Piece = cube_pieces s n (k ∷ ls) in
    let later = literals_go s n And k ls t r forms.0 forms.1 ends g in
    let e : text_of_pieces (plain (codes " and ") ∷ cube_pieces s n (k ∷ ls)) ++ t ≡ codes " and " ++ (text_of_pieces (cube_pieces s n (k ∷ ls)) ++ t) = append_assoc (codes " and ") (text_of_pieces rest) t in
    let joined : Goes joint_at (codes " and " ++ (text_of_pieces (cube_pieces s n (k ∷ ls)) ++ t)) r = goes_on joint_at (codes " and " ++ (text_of_pieces rest ++ t)) (text_of_pieces rest ++ t) r And (joint_and (text_of_pieces rest ++ t)) (omega (arith, length-append (codes " and ") (text_of_pieces rest ++ t))) later in
    subst (λ (u : List ℕ). PiecesEnd joint u r) (sym (text_split (literal_pieces s n l) (plain (codes " and ") ∷ rest) t ∙ ap (λ (u : List ℕ). text_of_pieces (literal_pieces s n l) ++ u) e))
    (literal_goes s n joint l (codes " and " ++ (text_of_pieces rest ++ t)) r form refl joined)

-- a cube, where what follows is read behind a literal and behind `true` alike
cube_goes : (s : Scope) (n : ℕ) (joint : Connective) (c : List LitDraft) (t r : List ℕ) → is_and joint ≡ false → AllByRecursion IsLitDraft c → EndsWord t → begins_op t ≡ false → Goes joint_at t r → Goes or_at t r → PiecesEnd joint (text_of_pieces (cube_pieces s n c) ++ t) r
cube_goes s n joint [] t r other forms ends op g h =
    let short = h.shorter in
    h.on joint (codes "true" ++ t) (true_front joint t other ends op ∙ h.is_found) (omega (arith, length-append (codes "true") t))
cube_goes s n joint (l ∷ ls) t r other forms ends op g h = literals_go s n joint l ls t r forms.0 forms.1 ends g

cubes_go : (s : Scope) (n : ℕ) (joint : Connective) (c : List LitDraft) (cs : ConstraintDraft) (r : List ℕ) → is_and joint ≡ false → AllByRecursion IsLitDraft c → IsConstraintDraft cs → Closes r → PiecesEnd joint (text_of_pieces (constraint_pieces s n (c ∷ cs)) ++ r) r
cubes_go s n joint c [] r other form forms closes =
    subst (λ (u : List ℕ). PiecesEnd joint u r) (sym (text_split (cube_pieces s n c) [] r))
    (cube_goes s n joint c r r other form closes.word_ends closes.op (goes_closed joint_at r (joint_closed r closes.space)) (goes_closed or_at r (or_closed r closes.space)))
cubes_go s n joint c (d ∷ ds) r other form forms closes =
    let rest : List Piece = constraint_pieces s n (d ∷ ds) in
    let later = cubes_go s n Or d ds r refl forms.0 forms.1 closes in
    let t : List ℕ = text_of_pieces rest ++ r in
    let e : text_of_pieces (plain (codes " or ") ∷ constraint_pieces s n (d ∷ ds)) ++ r ≡ codes " or " ++ (text_of_pieces (constraint_pieces s n (d ∷ ds)) ++ r) = append_assoc (codes " or ") (text_of_pieces rest) r in
    let short : length (text_of_pieces (constraint_pieces s n (d ∷ ds)) ++ r) ≤ length (codes " or " ++ (text_of_pieces (constraint_pieces s n (d ∷ ds)) ++ r)) = omega (arith, length-append (codes " or ") t) in
    subst (λ (u : List ℕ). PiecesEnd joint u r) (sym (text_split (cube_pieces s n c) (plain (codes " or ") ∷ rest) r ∙ ap (λ (u : List ℕ). text_of_pieces (cube_pieces s n c) ++ u) e))
    (cube_goes s n joint c (codes " or " ++ t) r other form refl refl (goes_on joint_at (codes " or " ++ t) t r Or (joint_or t) short later) (goes_on or_at (codes " or " ++ t) t r Or (or_or t) short later))

pub constraint_front : (s : Scope) (n : ℕ) (g : ConstraintDraft) (r : List ℕ) → IsConstraintDraft g → Closes r → constraint_end (text_of_pieces (constraint_pieces s n g) ++ r) ≡ Ok r
unfolding constraint_end
constraint_front s n [] r forms closes = last_piece Start (codes "false" ++ r) r (false_front r closes.word_ends closes.op) (suc (length (codes "false" ++ r))) (omega arith)
constraint_front s n (c ∷ cs) r forms closes = cubes_go s n Start c cs r refl forms.0 forms.1 closes (suc (length (text_of_pieces (constraint_pieces s n (c ∷ cs)) ++ r))) (omega arith)

-- ---- terms

pub guard_text : (s : Scope) (n : ℕ) (g : ConstraintDraft) → text_of_pieces (guard_pieces s n (Some g)) ≡ codes " if " ++ text_of_pieces (constraint_pieces s n g)
guard_text s n [] = refl
guard_text s n ([] ∷ []) = refl
guard_text s n ([] ∷ d ∷ ds) = refl
guard_text s n ((l ∷ ls) ∷ cs) = refl

guard_if : (s : Scope) (n : ℕ) (g : ConstraintDraft) (r : List ℕ) → IsConstraintDraft g → Closes r → guard_end (codes "if " ++ (text_of_pieces (constraint_pieces s n g) ++ r)) ≡ Ok r
unfolding guard_end
guard_if s n g r forms closes = constraint_front s n g r forms closes

pub if_text : (s : Scope) (n : ℕ) (g : ConstraintDraft) (r : List ℕ) → text_of_pieces (guard_pieces s n (Some g)) ++ r ≡ codes " if " ++ (text_of_pieces (constraint_pieces s n g) ++ r)
if_text s n g r = ap (λ (t : List ℕ). t ++ r) (guard_text s n g) ∙ append_assoc (codes " if ") (text_of_pieces (constraint_pieces s n g)) r

pub guard_ends : (s : Scope) (n : ℕ) (g : Option ConstraintDraft) (r : List ℕ) → Closes r → EndsWord (text_of_pieces (guard_pieces s n g) ++ r)
guard_ends s n None r closes = closes.word_ends
guard_ends s n (Some g) r closes = rw (if_text s n g r) refl

pub levels_ends : (s : Scope) (i n : ℕ) (bs : List (List ℕ)) (g : Option ConstraintDraft) (r : List ℕ) → Closes r → EndsWord (text_of_pieces (level_pieces i bs ++ guard_pieces s n g) ++ r)
levels_ends s i n [] g r closes = guard_ends s n g r closes
levels_ends s i n (b ∷ bs) g r closes = refl

binders_none : (r : List ℕ) (n : ℕ) → begins 32 r ≡ false → binders_end (suc n) r ≡ Ok r
binders_none r n none = rw none refl

binders_guard : (t r : List ℕ) (n : ℕ) → guard_end (codes "if " ++ t) ≡ Ok r → binders_end (suc n) (codes " if " ++ t) ≡ Ok r
binders_guard t r n e = e

binders_level : (b t r : List ℕ) (n : ℕ) → IsNumber b → EndsNumber t → binders_end n t ≡ Ok r → binders_end (suc n) (codes " $" ++ (b ++ t)) ≡ Ok r
binders_level b t r n form ends later = ap (λ e. e >>= binders_end n) (level_front b t form ends) ∙ later

-- the binders behind the first, and the guard
binders_front : (s : Scope) (i n k : ℕ) (bs : List (List ℕ)) (g : Option ConstraintDraft) (r : List ℕ) → AllByRecursion IsNumber bs → IfSome g IsConstraintDraft → Closes r → length (text_of_pieces (level_pieces i bs ++ guard_pieces s n g) ++ r) < k → binders_end k (text_of_pieces (level_pieces i bs ++ guard_pieces s n g) ++ r) ≡ Ok r
binders_front s i n zero bs g r forms form closes enough = absurd (omega arith)
binders_front s i n (suc k) [] None r forms form closes enough = binders_none r k closes.space
binders_front s i n (suc k) [] (Some g) r forms form closes enough = ap (binders_end (suc k)) (if_text s n g r) ∙ binders_guard (text_of_pieces (constraint_pieces s n g) ++ r) r k (guard_if s n g r form closes)
binders_front s i n (suc k) (b ∷ bs) g r forms form closes enough =
    let t : List ℕ = text_of_pieces (level_pieces (suc i) bs ++ guard_pieces s n g) ++ r in
    let e : text_of_pieces (level_pieces i (b ∷ bs) ++ guard_pieces s n g) ++ r ≡ codes " $" ++ (b ++ (text_of_pieces (level_pieces (suc i) bs ++ guard_pieces s n g) ++ r)) = ap (λ (u : List ℕ). codes " $" ++ u) (append_assoc b (text_of_pieces (level_pieces (suc i) bs ++ guard_pieces s n g)) r) in
    let short : length (text_of_pieces (level_pieces (suc i) bs ++ guard_pieces s n g) ++ r) < k = omega (arith, ap length e, length-append (codes " $") (b ++ t), length-append b t) in
    ap (binders_end (suc k)) e ∙ binders_level b t r k forms.0 (ends_number t (levels_ends s (suc i) n bs g r closes)) (binders_front s (suc i) n k bs g r forms.1 form closes short)

tail_for : (b t r : List ℕ) → IsNumber b → EndsNumber t → binders_end (suc (length t)) t ≡ Ok r → tail_end (codes " for $" ++ (b ++ t)) ≡ Ok r
unfolding tail_end
tail_for b t r form ends later = ap (λ e. e >>= (λ (q : List ℕ). binders_end (suc (length q)) q)) (level_front b t form ends) ∙ later

tail_if : (t r : List ℕ) → guard_end (codes "if " ++ t) ≡ Ok r → tail_end (codes " if " ++ t) ≡ Ok r
unfolding tail_end
tail_if t r e = e

tail_none : (r : List ℕ) → begins 32 r ≡ false → tail_end r ≡ Ok r
unfolding tail_end
tail_none r none = rw none refl

pub tail_front : (s : Scope) (i n : ℕ) (bs : List (List ℕ)) (g : Option ConstraintDraft) (r : List ℕ) → AllByRecursion IsNumber bs → IfSome g IsConstraintDraft → Closes r → tail_end (text_of_pieces (binder_pieces i bs ++ guard_pieces s n g) ++ r) ≡ Ok r
tail_front s i n [] None r forms form closes = tail_none r closes.space
tail_front s i n [] (Some g) r forms form closes = ap tail_end (if_text s n g r) ∙ tail_if (text_of_pieces (constraint_pieces s n g) ++ r) r (guard_if s n g r form closes)
tail_front s i n (b ∷ bs) g r forms form closes =
    let t : List ℕ = text_of_pieces (level_pieces (suc i) bs ++ guard_pieces s n g) ++ r in
    let e : text_of_pieces (binder_pieces i (b ∷ bs) ++ guard_pieces s n g) ++ r ≡ codes " for $" ++ (b ++ (text_of_pieces (level_pieces (suc i) bs ++ guard_pieces s n g) ++ r)) = ap (λ (u : List ℕ). codes " for $" ++ u) (append_assoc b (text_of_pieces (level_pieces (suc i) bs ++ guard_pieces s n g)) r) in
    ap tail_end e ∙ tail_for b t r forms.0 (ends_number t (levels_ends s (suc i) n bs g r closes)) (binders_front s (suc i) n (suc (length t)) bs g r forms.1 form closes (omega arith))

pub tail_ends : (s : Scope) (i n : ℕ) (bs : List (List ℕ)) (g : Option ConstraintDraft) (r : List ℕ) → Closes r → EndsWord (text_of_pieces (binder_pieces i bs ++ guard_pieces s n g) ++ r)
tail_ends s i n [] g r closes = guard_ends s n g r closes
tail_ends s i n (b ∷ bs) g r closes = refl

-- items as long as one begins
module _ {A : Type 0} (test : List ℕ → Bool) (item : List ℕ → End) (pieces : A → List Piece) (Good : A → Type 0) (Ends : List ℕ → Type 0) where
  pub many_front : (each_front : (x : A) → Good x → (r : List ℕ) → Ends r → item (text_of_pieces (pieces x) ++ r) ≡ Ok r) → (goes_on : (x : A) → Good x → (r : List ℕ) → test (text_of_pieces (pieces x) ++ r) ≡ true) → (item_ends : (x : A) → Good x → (r : List ℕ) → Ends (text_of_pieces (pieces x) ++ r)) → (longer : (x : A) → Good x → (r : List ℕ) → length r < length (text_of_pieces (pieces x) ++ r)) →
      (xs : List A) (n : ℕ) (r : List ℕ) → length (text_of_pieces (each pieces xs) ++ r) < n → AllByRecursion Good xs → Ends r → test r ≡ false → many_end test item n (text_of_pieces (each pieces xs) ++ r) ≡ Ok r
  many_front each_front goes_on item_ends longer xs zero r enough all ends none = absurd (omega arith)
  many_front each_front goes_on item_ends longer [] (suc n) r enough all ends none = rw none refl
  many_front each_front goes_on item_ends longer (x ∷ xs) (suc n) r enough all ends none =
      let t : List ℕ = text_of_pieces (each pieces xs) ++ r in
      let e : text_of_pieces (each pieces (x ∷ xs)) ++ r ≡ text_of_pieces (pieces x) ++ (text_of_pieces (each pieces xs) ++ r) = text_split (pieces x) (each pieces xs) r in
      let short : length (text_of_pieces (each pieces xs) ++ r) < n = omega (arith, ap length e, longer x all.0 t) in
      step (text_of_pieces (each pieces (x ∷ xs)) ++ r) t n r (ap test e ∙ goes_on x all.0 t) (ap item e ∙ each_front x all.0 t (ends_of xs all.1)) (many_front each_front goes_on item_ends longer xs n r short all.1 ends none)
    where
      step : (u t : List ℕ) (n : ℕ) (r : List ℕ) → test u ≡ true → item u ≡ Ok t → many_end test item n t ≡ Ok r → many_end test item (suc n) u ≡ Ok r
      step u t n r here found later = rw (here, found) later

      ends_of : (ys : List A) → AllByRecursion Good ys → Ends (text_of_pieces (each pieces ys) ++ r)
      ends_of [] h = ends
      ends_of (y ∷ ys) h = rw (text_split (pieces y) (each pieces ys) r) (item_ends y h.0 (text_of_pieces (each pieces ys) ++ r))

-- parts and comprehensions as lists
abbrev pub parts_list : TermDrafts → List TermDraft
parts_list no_terms = []
parts_list (term t ts) = t ∷ parts_list ts

abbrev pub items_list : CompDrafts → List CompDraft
items_list no_comps = []
items_list (more c cs) = c ∷ items_list cs

abbrev pub further_part : Scope → ℕ → TermDraft → List Piece
further_part s n t = plain (codes ", ") ∷ term_pieces s n t

abbrev pub further_item : Scope → ℕ → CompDraft → List Piece
further_item s n c = plain (codes ", ") ∷ comp_pieces s n c

pub parts_are : (s : Scope) (n : ℕ) (ts : TermDrafts) → part_pieces s n comma ts ≡ each (further_part s n) (parts_list ts)
parts_are s n no_terms = refl
parts_are s n (term t ts) = ap (λ (ps : List Piece). plain (codes ", ") ∷ (term_pieces s n t ++ ps)) (parts_are s n ts)

pub items_are : (s : Scope) (n : ℕ) (cs : CompDrafts) → item_pieces s n comma cs ≡ each (further_item s n) (items_list cs)
items_are s n no_comps = refl
items_are s n (more c cs) = ap (λ (ps : List Piece). plain (codes ", ") ∷ (comp_pieces s n c ++ ps)) (items_are s n cs)

pub parts_good : (d : ℕ) (ts : TermDrafts) → AreTermDrafts d ts → AllByRecursion (IsTermDraft d) (parts_list ts)
parts_good d no_terms h = tt
parts_good d (term t ts) h = (h.0, parts_good d ts h.1)

pub items_good : (d : ℕ) (cs : CompDrafts) → AreCompDrafts d cs → AllByRecursion (IsCompDraft d) (items_list cs)
items_good d no_comps h = tt
items_good d (more c cs) h = (h.0, items_good d cs h.1)

pub brace_closes : (r : List ℕ) → Closes (codes "}" ++ r)
brace_closes r = record { word_ends = refl; space = refl; op = refl }

pub comma_closes : (r : List ℕ) → Closes (codes ", " ++ r)
comma_closes r = record { word_ends = refl; space = refl; op = refl }

-- ---- the terms themselves

atom_front : (s : Scope) (n d : ℕ) (o : Operand) (r : List ℕ) → IsOperand o → term_end d ((operand_piece s n o).bytes ++ r) ≡ operand_end ((operand_piece s n o).bytes ++ r)
unfolding term_end
atom_front s n zero (word w) r form = rw (word_begins 39 w r form refl) refl
atom_front s n (suc d) (word w) r form = rw (word_begins 39 w r form refl, word_begins 40 w r form refl, word_begins 123 w r form refl) refl
atom_front s n zero (level ds) r form = refl
atom_front s n (suc d) (level ds) r form = refl

tag_front : (d : ℕ) (w r : List ℕ) → IsWord w → EndsWord r → term_end d (codes "'" ++ (w ++ r)) ≡ Ok r
unfolding term_end tag_end
tag_front zero w r form ends = word_ends w r form ends
tag_front (suc d) w r form ends = word_ends w r form ends

tuple_is : (t : List ℕ → End) (a b m r : List ℕ) → t (a ++ (codes ", " ++ (b ++ m))) ≡ Ok (codes ", " ++ (b ++ m)) → t (b ++ m) ≡ Ok m → more_parts_end t m ≡ Ok (codes ")" ++ r) → tuple_end t (codes "(" ++ (a ++ (codes ", " ++ (b ++ m)))) ≡ Ok r
unfolding tuple_end
tuple_is t a b m r first_byte second third = rw (first_byte, second, third) refl

more_parts_is : (t : List ℕ → End) (m r : List ℕ) → many_end (begins 44) (λ q. fixed_end (codes ", ") q >>= t) (suc (length m)) m ≡ Ok r → more_parts_end t m ≡ Ok r
unfolding more_parts_end
more_parts_is t m r e = e

more_comps_is : (t : List ℕ → End) (m r : List ℕ) → many_end (begins 44) (λ q. fixed_end (codes ", ") q >>= comp_end t) (suc (length m)) m ≡ Ok r → more_comps_end t m ≡ Ok r
unfolding more_comps_end
more_comps_is t m r e = e

comp_is : (t : List ℕ → End) (a b r : List ℕ) → t (a ++ b) ≡ Ok b → tail_end b ≡ Ok r → comp_end t (a ++ b) ≡ Ok r
unfolding comp_end
comp_is t a b r first_byte second = rw (first_byte, second) refl

empty_set_is : (t : List ℕ → End) (r : List ℕ) → set_end t (codes "{}" ++ r) ≡ Ok r
unfolding set_end
empty_set_is t r = refl

set_is : (t : List ℕ → End) (a m r : List ℕ) → begins 125 (a ++ m) ≡ false → comp_end t (a ++ m) ≡ Ok m → more_comps_end t m ≡ Ok (codes "}" ++ r) → set_end t (codes "{" ++ (a ++ m)) ≡ Ok r
unfolding set_end items_end
set_is t a m r other first_byte second = rw (other, first_byte, second) refl

tuple_of : (d : ℕ) (t : List ℕ) → term_end (suc d) (codes "(" ++ t) ≡ tuple_end (term_end d) (codes "(" ++ t)
unfolding term_end
tuple_of d t = refl

set_of : (d : ℕ) (t : List ℕ) → term_end (suc d) (codes "{" ++ t) ≡ set_end (term_end d) (codes "{" ++ t)
unfolding term_end
set_of d t = refl

-- no term begins with `}`
pub no_brace : (s : Scope) (n d : ℕ) (t : TermDraft) (r : List ℕ) → IsTermDraft d t → begins 125 (text_of_pieces (term_pieces s n t) ++ r) ≡ false
no_brace s n d (atom (word w)) r form = ap (begins 125) (append_assoc w [] r) ∙ word_begins 125 w r form refl
no_brace s n d (atom (level ds)) r form = refl
no_brace s n d (tag w) r form = refl
no_brace s n d (tuple ts) r form = refl
no_brace s n d (set cs) r form = refl

-- the text of a tuple of two parts at least, and of a set of one comprehension at least, part by part
pub tuple_text : (s : Scope) (n : ℕ) (t u : TermDraft) (us : TermDrafts) (r : List ℕ) → text_of_pieces (term_pieces s n (tuple (term t (term u us)))) ++ r ≡ codes "(" ++ (text_of_pieces (term_pieces s n t) ++ (codes ", " ++ (text_of_pieces (term_pieces s n u) ++ (text_of_pieces (part_pieces s n comma us) ++ (codes ")" ++ r)))))
tuple_text s n t u us r =
    let rest : List Piece = part_pieces s n comma us in
    let inner : List Piece = term_pieces s n u ++ rest in
    ap (λ (x : List ℕ). codes "(" ++ x) (text_split (term_pieces s n t ++ (plain (codes ", ") ∷ inner)) (plain (codes ")") ∷ []) r
    ∙ text_split (term_pieces s n t) (plain (codes ", ") ∷ inner) (codes ")" ++ r)
    ∙ ap (λ (x : List ℕ). text_of_pieces (term_pieces s n t) ++ (codes ", " ++ x)) (text_split (term_pieces s n u) rest (codes ")" ++ r)))

pub set_text : (s : Scope) (n : ℕ) (c : CompDraft) (cs : CompDrafts) (r : List ℕ) → text_of_pieces (term_pieces s n (set (more c cs))) ++ r ≡ codes "{" ++ (text_of_pieces (comp_pieces s n c) ++ (text_of_pieces (item_pieces s n comma cs) ++ (codes "}" ++ r)))
set_text s n c cs r =
    ap (λ (x : List ℕ). codes "{" ++ x) (text_split (comp_pieces s n c ++ item_pieces s n comma cs) (plain (codes "}") ∷ []) r
    ∙ text_split (comp_pieces s n c) (item_pieces s n comma cs) (codes "}" ++ r))

part_longer : (s : Scope) (n : ℕ) (t : TermDraft) (r : List ℕ) → length r < length (text_of_pieces (further_part s n t) ++ r)
part_longer s n t r = omega (arith, length-append (text_of_pieces (term_pieces s n t)) r)

item_longer : (s : Scope) (n : ℕ) (c : CompDraft) (r : List ℕ) → length r < length (text_of_pieces (further_item s n c) ++ r)
item_longer s n c r = omega (arith, length-append (text_of_pieces (comp_pieces s n c)) r)

pub part_ends : (s : Scope) (n : ℕ) (ts : TermDrafts) (r : List ℕ) → EndsWord r → EndsWord (text_of_pieces (part_pieces s n comma ts) ++ r)
part_ends s n no_terms r ends = ends
part_ends s n (term t ts) r ends = refl

pub item_closes : (s : Scope) (n : ℕ) (cs : CompDrafts) (r : List ℕ) → Closes r → Closes (text_of_pieces (item_pieces s n comma cs) ++ r)
item_closes s n no_comps r closes = closes
item_closes s n (more c cs) r closes = comma_closes (text_of_pieces (comp_pieces s n c ++ item_pieces s n comma cs) ++ r)

pub comp_text : (s : Scope) (n : ℕ) (t : TermDraft) (bs : List (List ℕ)) (g : Option ConstraintDraft) (r : List ℕ) → text_of_pieces (comp_pieces s n (comp t bs g)) ++ r ≡ text_of_pieces (term_pieces s (n + length bs) t) ++ (text_of_pieces (binder_pieces n bs ++ guard_pieces s (n + length bs) g) ++ r)
comp_text s n t bs g r =
    let m : ℕ = n + length bs in
    ap (λ (ps : List Piece). text_of_pieces ps ++ r) (append_assoc (term_pieces s m t) (binder_pieces n bs) (guard_pieces s m g)) ∙ text_split (term_pieces s m t) (binder_pieces n bs ++ guard_pieces s m g) r

-- a comprehension, where its item's end is found
comp_front : (s : Scope) (n d : ℕ) (c : CompDraft) (r : List ℕ) → ((m : ℕ) (t : TermDraft) (q : List ℕ) → IsTermDraft d t → EndsWord q → term_end d (text_of_pieces (term_pieces s m t) ++ q) ≡ Ok q) → IsCompDraft d c → Closes r → comp_end (term_end d) (text_of_pieces (comp_pieces s n c) ++ r) ≡ Ok r
comp_front s n d (comp t bs g) r inner form closes =
    let m : ℕ = n + length bs in
    let rest : List Piece = binder_pieces n bs ++ guard_pieces s m g in
    ap (comp_end (term_end d)) (comp_text s n t bs g r)
    ∙ comp_is (term_end d) (text_of_pieces (term_pieces s m t)) (text_of_pieces rest ++ r) r (inner m t (text_of_pieces rest ++ r) form.0 (tail_ends s n m bs g r closes)) (tail_front s n m bs g r form.1 form.2 closes)

pub term_front : (d : ℕ) (s : Scope) (n : ℕ) (t : TermDraft) (r : List ℕ) → IsTermDraft d t → EndsWord r → term_end d (text_of_pieces (term_pieces s n t) ++ r) ≡ Ok r
term_front d s n (atom o) r form ends =
    let b = (operand_piece s n o).bytes in
    ap (term_end d) (append_assoc b [] r) ∙ atom_front s n d o r form ∙ operand_front s n o r form ends
term_front d s n (tag w) r form ends = ap (λ (x : List ℕ). term_end d (codes "'" ++ x)) (append_assoc w [] r) ∙ tag_front d w r form ends
term_front zero s n (tuple ts) r form ends = absurd form
term_front zero s n (set cs) r form ends = absurd form
term_front (suc d) s n (tuple no_terms) r form ends = absurd (omega (arith, form.0))
term_front (suc d) s n (tuple (term t no_terms)) r form ends = absurd (omega (arith, form.0))
term_front (suc d) s n (tuple (term t (term u us))) r form ends =
    let m : List ℕ = text_of_pieces (part_pieces s n comma us) ++ (codes ")" ++ r) in
    let b : List ℕ = text_of_pieces (term_pieces s n u) in
    let more_end : more_parts_end (term_end d) (text_of_pieces (part_pieces s n comma us) ++ (codes ")" ++ r)) ≡ Ok (codes ")" ++ r) =
    more_parts_is (term_end d) m (codes ")" ++ r)
    (ap (λ (ps : List Piece). many_end (begins 44) (λ q. fixed_end (codes ", ") q >>= term_end d) (suc (length (text_of_pieces ps ++ (codes ")" ++ r)))) (text_of_pieces ps ++ (codes ")" ++ r))) (parts_are s n us)
    ∙ many_front (begins 44) (λ q. fixed_end (codes ", ") q >>= term_end d) (further_part s n) (IsTermDraft d) EndsWord
    (λ x good q ends_q. term_front d s n x q good ends_q) (λ x good q. refl) (λ x good q. refl) (λ x good q. part_longer s n x q)
    (parts_list us) (suc (length (text_of_pieces (each (further_part s n) (parts_list us)) ++ (codes ")" ++ r)))) (codes ")" ++ r) (omega arith) (parts_good d us form.1.1.1) refl refl) in
    ap (term_end (suc d)) (tuple_text s n t u us r)
    ∙ tuple_of d (text_of_pieces (term_pieces s n t) ++ (codes ", " ++ (b ++ m)))
    ∙ tuple_is (term_end d) (text_of_pieces (term_pieces s n t)) b m r (term_front d s n t (codes ", " ++ (b ++ m)) form.1.0 refl) (term_front d s n u m form.1.1.0 (part_ends s n us (codes ")" ++ r) refl)) more_end
term_front (suc d) s n (set no_comps) r form ends = set_of d (codes "}" ++ r) ∙ empty_set_is (term_end d) r
term_front (suc d) s n (set (more c cs)) r form ends =
    let m : List ℕ = text_of_pieces (item_pieces s n comma cs) ++ (codes "}" ++ r) in
    let a : List ℕ = text_of_pieces (comp_pieces s n c) in
    let inner : (k : ℕ) (t : TermDraft) (q : List ℕ) → IsTermDraft d t → EndsWord q → term_end d (text_of_pieces (term_pieces s k t) ++ q) ≡ Ok q = λ k t q good ends_q. term_front d s k t q good ends_q in
    let more_end : more_comps_end (term_end d) (text_of_pieces (item_pieces s n comma cs) ++ (codes "}" ++ r)) ≡ Ok (codes "}" ++ r) =
    more_comps_is (term_end d) m (codes "}" ++ r)
    (ap (λ (ps : List Piece). many_end (begins 44) (λ q. fixed_end (codes ", ") q >>= comp_end (term_end d)) (suc (length (text_of_pieces ps ++ (codes "}" ++ r)))) (text_of_pieces ps ++ (codes "}" ++ r))) (items_are s n cs)
    ∙ many_front (begins 44) (λ q. fixed_end (codes ", ") q >>= comp_end (term_end d)) (further_item s n) (IsCompDraft d) Closes
    (λ x good q closes. comp_front s n d x q inner good closes) (λ x good q. refl) (λ x good q. comma_closes (text_of_pieces (comp_pieces s n x) ++ q)) (λ x good q. item_longer s n x q)
    (items_list cs) (suc (length (text_of_pieces (each (further_item s n) (items_list cs)) ++ (codes "}" ++ r)))) (codes "}" ++ r) (omega arith) (items_good d cs form.1) (brace_closes r) refl) in
    ap (term_end (suc d)) (set_text s n c cs r)
    ∙ set_of d (a ++ m)
    ∙ set_is (term_end d) a m r (first_of c form.0) (comp_front s n d c m inner form.0 (item_closes s n cs (codes "}" ++ r) (brace_closes r))) more_end
  where
    first_of : (x : CompDraft) → IsCompDraft d x → begins 125 (text_of_pieces (comp_pieces s n x) ++ (text_of_pieces (item_pieces s n comma cs) ++ (codes "}" ++ r))) ≡ false
    first_of (comp t bs g) good =
        let k : ℕ = n + length bs in
        let rest : List Piece = binder_pieces n bs ++ guard_pieces s k g in
        let q : List ℕ = text_of_pieces (item_pieces s n comma cs) ++ (codes "}" ++ r) in
        ap (begins 125) (comp_text s n t bs g q) ∙ no_brace s k d t (text_of_pieces rest ++ q) good.0
