-- The readers of operands, constraints and terms are exact.
use Rattle.std.proofs.Common.{◌≡◌, ℕ, zero, suc, ◌<◌, ◌≤◌, Bool, true, false, cond, not, ◌&&◌, ◌||◌, ◌==◌, List, [], ◌∷◌, ◌++◌, length, Option, Some, None, Result, Ok, Err, refl, sym, ap, subst, ◌∙◌, arith, length-append}
use Rattle.std.specs.Prelude.{codes, bytes_eq}
use Rattle.std.specs.Char.{is_ascii_alphabetic, is_ascii_digit}
use Rattle.std.proofs.lemmas.Bool.{eqb-true, false≢true, or_parts}
use Rattle.std.proofs.lemmas.Bool.Decides.{nat_tests}
use Rattle.lois_lexer.specs.Bytes.{is_word_byte}
use Rattle.lois_lexer.specs.Forms.{is_word_form}
use Rattle.lois_reader.specs.declared.constraint_ends.Connective.{Connective}
use Rattle.lois_reader.specs.declared.constraint_ends.Connective.TheVariants.{Start, And, Or}
use Rattle.lois_reader.specs.Reading.{◌>>=◌, End, first_byte, passes, begins}
use Rattle.lois_reader.specs.Ends.{fixed_end, word_at, word_end, number_end, level_end, operand_end, op_end, tag_end, joint_at, or_at, begins_op, is_and, is_start, comparison_at, piece_at, onward, pieces_end, constraint_end, guard_end, binders_end, tail_end, more_parts_end, tuple_end, comp_end, more_comps_end, items_end, set_end, term_end}
use Rattle.lois_reader.proofs.Fronts.{EndsWord, word_front, word_ends, word_begins}
use Rattle.lois_reader.proofs.Outcome.{bind_assoc}
use Rattle.lois_reader.proofs.ConstraintOutcome.{Closes}
use Rattle.lois_reader.proofs.Backs.{no_ok, same_ok, got, run_of, word_form, word_size, word_at_back}
use Rattle.lois_reader.proofs.Exact.{bind_same, cond_then, behind, behind_any, behind_stop, passed_first, choice_at, refused_behind, accepted_text, Exact, Upto, Refuses, no_byte, refuses_none, same_reader, ◌⨾◌, IsPart, IsItem, part_of, wider_part, part_then, item_then, fixed_part, fixed_item, fixed_refuses, differs, word_item, number_item, choice_item, optional_part, many, many_part, many_refuses, or_byte, or_later, word_refused}

-- ---- operands

digit_in_word : (b : ℕ) → is_ascii_digit b ≡ true → is_word_byte b ≡ true
digit_in_word b h = grind (arith, nat_tests)

pub level_item : IsItem is_ascii_digit level_end
unfolding level_end
level_item = item_then (fixed_item 36 []) (part_of number_item) (λ k s. refuses_none (number_end ⨾ k))

number_in_word : IsPart is_word_byte number_end
number_in_word = wider_part is_word_byte digit_in_word (part_of number_item)

level_takes : (x : List ℕ) → level_end (36 ∷ x) ≡ number_end x
unfolding level_end
level_takes x = refl

pub operand_item : IsItem is_word_byte operand_end
unfolding operand_end
operand_item = choice_item 36 level_end level_takes number_in_word word_item (λ t. word_refused 36 t refl)

pub op_item : IsItem no_byte op_end
unfolding op_end
op_item =
    choice_item 61 (fixed_end (codes "=")) (λ x. refl) (fixed_part [])
    (choice_item 33 (fixed_end (codes "!=")) (λ x. refl) (fixed_part (codes "=")) (fixed_item 60 []) (λ t. refl)) (λ t. refl)

-- ---- constraints

-- what would go on with a constraint: with its last word, with a literal after a word, with `and` or `or`
abbrev pub in_constraint : ℕ → Bool
in_constraint b = is_word_byte b || (b == 61 || b == 33 || b == 60) || b == 32

fixed_size : (x s r : List ℕ) → fixed_end x s ≡ Ok r → length r ≤ length s
fixed_size x s r e = (fixed_part x).shorter s r e

-- a fixed text, and what is found
found_size : {A : Type 0} (x s : List ℕ) (a : A) (y : A × List ℕ) → (fixed_end x s >>= λ t. Ok (a, t)) ≡ Ok y → length y.1 ≤ length s
found_size {A} x s a y e =
    let m = got (fixed_end x s) (λ t. Ok (a, t)) y e in
    let le : length m.0 ≤ length s = fixed_size x s m.0 m.1 in
    let is : length m.0 ≡ length y.1 = ap (λ (z : A × List ℕ). length z.1) (same_ok m.2) in
    omega arith

joint_size : (s : List ℕ) (y : Option Connective × List ℕ) → joint_at s ≡ Ok y → length y.1 ≤ length s
unfolding joint_at
joint_size s y e =
    elim (begins 32 s) as (λ v. begins 32 s ≡ v → length y.1 ≤ length s) [
      | true ↦ λ h. let m = got (fixed_end (codes " ") s) (λ r. cond (begins 97 r) (fixed_end (codes "and ") r >>= (λ t. Ok (Some And, t))) (fixed_end (codes "or ") r >>= (λ t. Ok (Some Or, t)))) y (rw h at e) in
          let le : length m.0 ≤ length s = fixed_size (codes " ") s m.0 m.1 in
          let later : length y.1 ≤ length m.0 = elim (begins 97 m.0) as (λ v. begins 97 m.0 ≡ v → length y.1 ≤ length m.0) [
            | true ↦ λ g. found_size (codes "and ") m.0 (Some And) y (rw g at m.2)
            | false ↦ λ g. found_size (codes "or ") m.0 (Some Or) y (rw g at m.2)
          ] refl in
          omega arith
      | false ↦ λ h. omega (arith, ap (λ (z : Option Connective × List ℕ). length z.1) (same_ok (rw h at e)))
    ] refl

or_size : (s : List ℕ) (y : Option Connective × List ℕ) → or_at s ≡ Ok y → length y.1 ≤ length s
unfolding or_at
or_size s y e =
    elim (begins 32 s) as (λ v. begins 32 s ≡ v → length y.1 ≤ length s) [
      | true ↦ λ h. found_size (codes " or ") s (Some Or) y (rw h at e)
      | false ↦ λ h. omega (arith, ap (λ (z : Option Connective × List ℕ). length z.1) (same_ok (rw h at e)))
    ] refl

comparison_size : (s : List ℕ) (y : Option Connective × List ℕ) → comparison_at s ≡ Ok y → length y.1 < length s
unfolding comparison_at
comparison_size s y e =
    let m = got (op_end s >>= operand_end) joint_at y e in
    let n = got (op_end s) operand_end m.0 m.1 in
    let a : length n.0 < length s = op_item.shorter s n.0 n.1 in
    let b : length m.0 < length n.0 = operand_item.shorter n.0 m.0 n.2 in
    let c : length y.1 ≤ length m.0 = joint_size m.0 y m.2 in
    omega arith

-- behind a word that stands in a constraint
abbrev pub behind_word : Connective → List ℕ × List ℕ → Result (Option Connective × List ℕ) ℕ
behind_word joint x =
    cond (begins_op x.1) (comparison_at x.1)
    (cond (not (is_and joint) && bytes_eq x.0 (codes "true")) (or_at x.1)
    (cond (is_start joint && bytes_eq x.0 (codes "false")) (Ok (None, x.1)) (Err (length x.1))))

behind_word_size : (joint : Connective) (x : List ℕ × List ℕ) (y : Option Connective × List ℕ) → behind_word joint x ≡ Ok y → length y.1 ≤ length x.1
behind_word_size joint x y e =
    elim (begins_op x.1) as (λ v. begins_op x.1 ≡ v → length y.1 ≤ length x.1) [
      | true ↦ λ h. let lt : length y.1 < length x.1 = comparison_size x.1 y (rw h at e) in omega arith
      | false ↦ λ h. elim (not (is_and joint) && bytes_eq x.0 (codes "true")) as (λ v. (not (is_and joint) && bytes_eq x.0 (codes "true")) ≡ v → length y.1 ≤ length x.1) [
        | true ↦ λ g. or_size x.1 y (rw (h, g) at e)
        | false ↦ λ g. elim (is_start joint && bytes_eq x.0 (codes "false")) as (λ v. (is_start joint && bytes_eq x.0 (codes "false")) ≡ v → length y.1 ≤ length x.1) [
          | true ↦ λ f. omega (arith, ap (λ (z : Option Connective × List ℕ). length z.1) (same_ok (rw (h, g, f) at e)))
          | false ↦ λ f. absurd (no_ok (rw (h, g, f) at e))
        ] refl
      ] refl
    ] refl

piece_size : (joint : Connective) (s : List ℕ) (y : Option Connective × List ℕ) → piece_at joint s ≡ Ok y → length y.1 < length s
unfolding piece_at
piece_size joint s y e =
    elim (begins 36 s) as (λ v. begins 36 s ≡ v → length y.1 < length s) [
      | true ↦ λ h. let m = got (level_end s) comparison_at y (rw h at e) in
          let a : length m.0 < length s = level_item.shorter s m.0 m.1 in
          let b : length y.1 < length m.0 = comparison_size m.0 y m.2 in
          omega arith
      | false ↦ λ h. let m = got (word_at s) (behind_word joint) y (rw h at e) in
          let w = word_at_back s m.0 m.1 in
          let b : length y.1 ≤ length m.0.1 = behind_word_size joint m.0 y m.2 in
          omega (arith, ap length w.split, length-append m.0.0 m.0.1, word_size m.0.0 w.form)
    ] refl

pieces_same : (n m : ℕ) (joint : Connective) (s : List ℕ) → length s < n → length s < m → pieces_end n joint s ≡ pieces_end m joint s
pieces_same zero m joint s a b = absurd (omega arith)
pieces_same (suc n) zero joint s a b = absurd (omega arith)
pieces_same (suc n) (suc m) joint s a b =
    bind_same (piece_at joint s) (λ x. onward (pieces_end n) x.0 x.1) (λ x. onward (pieces_end m) x.0 x.1)
    (λ x e. let lt : length x.1 < length s = piece_size joint s x e in onward_same x.0 x.1 (λ next. pieces_same n m next x.1 (omega arith) (omega arith)))
  where
    onward_same : (found : Option Connective) (t : List ℕ) → ((next : Connective) → pieces_end n next t ≡ pieces_end m next t) → onward (pieces_end n) found t ≡ onward (pieces_end m) found t
    onward_same None t same = refl
    onward_same (Some next) t same = same next

pieces_shorter : (n : ℕ) (joint : Connective) (s r : List ℕ) → pieces_end n joint s ≡ Ok r → length r < length s
pieces_shorter zero joint s r e = absurd (no_ok e)
pieces_shorter (suc n) joint s r e =
    let m = got (piece_at joint s) (λ x. onward (pieces_end n) x.0 x.1) r e in
    let lt : length m.0.1 < length s = piece_size joint s m.0 m.1 in
    let le : length r ≤ length m.0.1 = onward_size m.0.0 m.0.1 m.2 (λ next f. let below : length r < length m.0.1 = pieces_shorter n next m.0.1 r f in omega arith) in
    omega arith
  where
    onward_size : (found : Option Connective) (t : List ℕ) → onward (pieces_end n) found t ≡ Ok r → ((next : Connective) → pieces_end n next t ≡ Ok r → length r ≤ length t) → length r ≤ length t
    onward_size None t e le = omega (arith, ap length (same_ok e))
    onward_size (Some next) t e le = le next e

-- what would go on with a word of a constraint, or with a literal that begins with it
abbrev in_literal : ℕ → Bool
in_literal b = is_word_byte b || (b == 61 || b == 33 || b == 60)

literal_closed : (x : List ℕ) → passes in_literal (first_byte x) ≡ false → EndsWord x × (begins_op x ≡ false)
literal_closed [] h = (refl, refl)
literal_closed (b ∷ t) h = or_parts (is_word_byte b) (b == 61 || b == 33 || b == 60) h

not_in_literal : (x : List ℕ) → EndsWord x → begins_op x ≡ false → passes in_literal (first_byte x) ≡ false
not_in_literal [] ends op = refl
not_in_literal (b ∷ t) ends op = rw (ends, op) refl

digit_no_op : (b : ℕ) → is_ascii_digit b ≡ true → (b == 61 || b == 33 || b == 60) ≡ false
digit_no_op b h = grind (arith, nat_tests)

-- The reader of what follows the constraint.
module _ (k : List ℕ → End) where
  abbrev next : Option Connective → List ℕ → End
  next None s = k s
  next (Some joint) s = pieces_end (suc (length s)) joint s >>= k

  abbrev onto : Result (Option Connective × List ℕ) ℕ → End
  onto read = read >>= λ x. next x.0 x.1

  abbrev after_literal : List ℕ → End
  after_literal s = onto (joint_at s)

  abbrev after_true : List ℕ → End
  after_true s = onto (or_at s)

  abbrev comparison : List ℕ → End
  comparison s = onto (comparison_at s)

  abbrev pieces : Connective → List ℕ → End
  pieces joint s = pieces_end (suc (length s)) joint s >>= k

  onward_next : (n : ℕ) (x : Option Connective × List ℕ) → length x.1 < n → (onward (pieces_end n) x.0 x.1 >>= k) ≡ next x.0 x.1
  onward_next n x lt = by_found x.0
    where
      by_found : (found : Option Connective) → (onward (pieces_end n) found x.1 >>= k) ≡ next found x.1
      by_found None = refl
      by_found (Some joint) = ap (λ (e : End). e >>= k) (pieces_same n (suc (length x.1)) joint x.1 lt (omega arith))

  pieces_open : (joint : Connective) (s : List ℕ) → pieces joint s ≡ onto (piece_at joint s)
  pieces_open joint s =
      bind_assoc (piece_at joint s) (λ x. onward (pieces_end (length s)) x.0 x.1) k
      ∙ bind_same (piece_at joint s) (λ x. onward (pieces_end (length s)) x.0 x.1 >>= k) (λ x. next x.0 x.1) (λ x e. onward_next (length s) x (piece_size joint s x e))

  -- behind a space that follows a literal
  abbrev and_or : List ℕ → End
  and_or s = cond (begins 97 s) (fixed_end (codes "and ") s >>= pieces And) (fixed_end (codes "or ") s >>= pieces Or)

  literal_takes : (x : List ℕ) → after_literal (32 ∷ x) ≡ and_or x
  unfolding joint_at
  literal_takes x =
      cond_then (begins 97 x) (fixed_end (codes "and ") x >>= (λ t. Ok (Some And, t))) (fixed_end (codes "or ") x >>= (λ t. Ok (Some Or, t))) (λ y. next y.0 y.1)
      ∙ ap (λ (e : End). cond (begins 97 x) e (onto (fixed_end (codes "or ") x >>= (λ t. Ok (Some Or, t))))) (bind_assoc (fixed_end (codes "and ") x) (λ t. Ok (Some And, t)) (λ y. next y.0 y.1))
      ∙ ap (λ (e : End). cond (begins 97 x) (fixed_end (codes "and ") x >>= pieces And) e) (bind_assoc (fixed_end (codes "or ") x) (λ t. Ok (Some Or, t)) (λ y. next y.0 y.1))

  literal_other : (x : List ℕ) → begins 32 x ≡ false → after_literal x ≡ k x
  unfolding joint_at
  literal_other x none = rw none refl

  true_takes : (x : List ℕ) → after_true (32 ∷ x) ≡ (fixed_end (codes "or ") x >>= pieces Or)
  unfolding or_at
  true_takes x = bind_assoc (fixed_end (codes "or ") x) (λ t. Ok (Some Or, t)) (λ y. next y.0 y.1)

  true_other : (x : List ℕ) → begins 32 x ≡ false → after_true x ≡ k x
  unfolding or_at
  true_other x none = rw none refl

  comparison_is : (s : List ℕ) → comparison s ≡ (((op_end ⨾ operand_end) ⨾ after_literal) s)
  unfolding comparison_at
  comparison_is s = bind_assoc (op_end s >>= operand_end) joint_at (λ x. next x.0 x.1)

  module _ (stops : Refuses in_constraint k) where
    word_stops : (b : ℕ) (s : List ℕ) → is_word_byte b ≡ true → k (b ∷ s) ≡ Err (suc (length s))
    word_stops b s h = stops b s (rw h refl)

    space_stops : (t : List ℕ) → k (32 ∷ t) ≡ Err (suc (length t))
    space_stops t = stops 32 t refl

    literal_refuses : Refuses is_word_byte after_literal
    literal_refuses b s h = literal_other (b ∷ s) (differs is_word_byte b 32 h refl) ∙ word_stops b s h

    -- shorter texts are read exactly from any piece on
    abbrev Below : ℕ → Type 0
    Below n = (m : ℕ) → m < n → (joint : Connective) → Upto m (pieces joint)

    and_or_exact : (n : ℕ) → Below n → (t : List ℕ) → length t < n → Exact and_or t
    and_or_exact n below t lt =
        choice_at 97 and_or (fixed_end (codes "nd ") ⨾ pieces And) (fixed_end (codes "or ") ⨾ pieces Or) (λ x. refl) (λ x none. rw none refl) (λ x. refl) t
        (λ u shorter. (fixed_part (codes "nd ")).exact (length u) (pieces And) (refuses_none (pieces And)) (below (length u) (omega arith) And) u (omega arith))
        ((fixed_part (codes "or ")).exact (length t) (pieces Or) (refuses_none (pieces Or)) (below (length t) lt Or) t (omega arith))

    literal_upto : (n : ℕ) → Below n → Upto n k → Upto n after_literal
    literal_upto n below upto s le =
        choice_at 32 after_literal and_or k literal_takes literal_other space_stops s
        (λ t lt. and_or_exact n below t (omega arith)) (upto s le)

    true_upto : (n : ℕ) → Below n → Upto n k → Upto n after_true
    true_upto n below upto s le =
        choice_at 32 after_true (fixed_end (codes "or ") ⨾ pieces Or) k true_takes true_other space_stops s
        (λ t lt. (fixed_part (codes "or ")).exact (length t) (pieces Or) (refuses_none (pieces Or)) (below (length t) (omega arith) Or) t (omega arith)) (upto s le)

    comparison_upto : (n : ℕ) → Below n → Upto n k → Upto n comparison
    comparison_upto n below upto s le =
        same_reader comparison ((op_end ⨾ operand_end) ⨾ after_literal) comparison_is s
        ((part_then (part_of op_item) (part_of operand_item) (λ l r. refuses_none (operand_end ⨾ l))).exact n after_literal literal_refuses (literal_upto n below upto) s le)

    closes_of : (x : List ℕ) → passes in_constraint (first_byte x) ≡ false → Closes x
    closes_of [] h = record { word_ends = refl; space = refl; op = refl }
    closes_of (b ∷ t) h =
        let outer = or_parts (is_word_byte b || (b == 61 || b == 33 || b == 60)) (b == 32) h in
        let inner = or_parts (is_word_byte b) (b == 61 || b == 33 || b == 60) outer.0 in
        record { word_ends = inner.0; space = outer.1; op = inner.1 }

    accepted_closes : (w : List ℕ) → k w ≡ Ok [] → Closes w
    accepted_closes w e = closes_of w (passed_first in_constraint k stops w e)

    operand_text : (w : List ℕ) → EndsWord w → operand_end (97 ∷ w) ≡ Ok w
    unfolding operand_end
    operand_text w ends = word_ends (97 ∷ []) w refl ends

    equals_text : (x : List ℕ) → op_end (61 ∷ x) ≡ Ok x
    unfolding op_end
    equals_text x = refl

    comparison_text : (w : List ℕ) → k w ≡ Ok [] → comparison (codes "=a" ++ w) ≡ Ok []
    comparison_text w e =
        let c = accepted_closes w e in
        comparison_is (codes "=a" ++ w) ∙ rw (equals_text (97 ∷ w), operand_text w c.word_ends) (literal_other w c.space ∙ e)

    piece_level : (joint : Connective) (x : List ℕ) → pieces joint (36 ∷ x) ≡ ((number_end ⨾ comparison) x)
    unfolding piece_at level_end
    piece_level joint x = pieces_open joint (36 ∷ x) ∙ bind_assoc (number_end x) comparison_at (λ y. next y.0 y.1)

    piece_word : (joint : Connective) (w r : List ℕ) → is_word_form w ≡ true → EndsWord r → pieces joint (w ++ r) ≡ onto (behind_word joint (w, r))
    unfolding piece_at
    piece_word joint w r form ends = pieces_open joint (w ++ r) ∙ rw (word_begins 36 w r form refl, word_front w r form ends) refl

    piece_refused : (joint : Connective) (b : ℕ) (t : List ℕ) → (b == 36) ≡ false → is_ascii_alphabetic b ≡ false → pieces joint (b ∷ t) ≡ Err (suc (length t))
    unfolding piece_at word_at
    piece_refused joint b t other none = pieces_open joint (b ∷ t) ∙ rw (other, none) refl

    piece_nothing : (joint : Connective) → pieces joint [] ≡ Err 0
    unfolding piece_at word_at
    piece_nothing joint = pieces_open joint [] ∙ refl

    word_then : (joint : Connective) (w r : List ℕ) → is_word_form w ≡ true → EndsWord r → begins_op r ≡ true → pieces joint (w ++ r) ≡ comparison r
    word_then joint w r form ends op = piece_word joint w r form ends ∙ rw op refl

    op_ends_word : (x : List ℕ) → begins_op x ≡ true → EndsWord x
    op_ends_word [] h = refl
    op_ends_word (b ∷ t) h = grind (arith, nat_tests)

    op_refused : (x : List ℕ) → begins_op x ≡ false → op_end x ≡ Err (length x)
    unfolding op_end
    op_refused [] h = refl
    op_refused (b ∷ t) h =
        let outer = or_parts (b == 61 || b == 33) (b == 60) h in
        let inner = or_parts (b == 61) (b == 33) outer.0 in
        rw (inner.0, inner.1, outer.1) refl

    comparison_refused : (x : List ℕ) → begins_op x ≡ false → comparison x ≡ Err (length x)
    comparison_refused x h = comparison_is x ∙ rw (op_refused x h) refl

    comparison_op : (x : List ℕ) → comparison x ≡ Ok [] → begins_op x ≡ true
    comparison_op x e =
        elim (begins_op x) as (λ v. begins_op x ≡ v → begins_op x ≡ true) [
          | true ↦ λ h. h
          | false ↦ λ h. absurd (no_ok (sym (comparison_refused x h) ∙ e))
        ] refl

    comparison_refuses : Refuses is_ascii_digit comparison
    comparison_refuses b t h = comparison_refused (b ∷ t) (digit_no_op b h)

    true_refuses : Refuses in_literal after_true
    true_refuses b t h = true_other (b ∷ t) (differs in_literal b 32 h refl) ∙ stops b t (rw h refl)

    constraint_refuses : Refuses in_literal k
    constraint_refuses b t h = stops b t (rw h refl)

    word_exact : (n : ℕ) → Below n → Upto n k → (joint : Connective) (w r : List ℕ) → is_word_form w ≡ true → EndsWord r → length r ≤ n → Exact (pieces joint) (w ++ r)
    word_exact n below upto joint w r form ends le =
        elim (begins_op r) as (λ v. begins_op r ≡ v → Exact (pieces joint) (w ++ r)) [
          | true ↦ λ h. behind (pieces joint) comparison (λ o. passes (λ c. c == 61) o || passes (λ c. c == 33) o || passes (λ c. c == 60) o) w r
              (λ x op. word_then joint w x form (op_ends_word x op) op) comparison_op h (comparison_upto n below upto r le)
          | false ↦ λ h. elim (not (is_and joint) && bytes_eq w (codes "true")) as (λ v. (not (is_and joint) && bytes_eq w (codes "true")) ≡ v → Exact (pieces joint) (w ++ r)) [
            | true ↦ λ g. behind_stop (pieces joint) after_true in_literal w r
                (λ x q. let c = literal_closed x q in piece_word joint w x form c.0 ∙ rw (c.1, g) refl) true_refuses (not_in_literal r ends h) (true_upto n below upto r le)
            | false ↦ λ g. elim (is_start joint && bytes_eq w (codes "false")) as (λ v. (is_start joint && bytes_eq w (codes "false")) ≡ v → Exact (pieces joint) (w ++ r)) [
              | true ↦ λ f. behind_stop (pieces joint) k in_literal w r
                  (λ x q. let c = literal_closed x q in piece_word joint w x form c.0 ∙ rw (c.1, g, f) refl) constraint_refuses (not_in_literal r ends h) (upto r le)
              | false ↦ λ f. let text = accepted_text k (upto [] (omega arith)) in
                  refused_behind (pieces joint) w r (codes "=a" ++ text.0) (piece_word joint w r form ends ∙ rw (h, g, f) refl)
                  (word_then joint w (codes "=a" ++ text.0) form refl refl ∙ comparison_text text.0 text.1)
                  (λ b t u same. piece_word joint w (b ∷ u) form (subst (λ (x : List ℕ). EndsWord x) same ends) ∙ rw (subst (λ (x : List ℕ). begins_op x ≡ false) same h, g, f) refl)
            ] refl
          ] refl
        ] refl

    -- no piece begins here
    none_exact : (joint : Connective) (s : List ℕ) → Exact k [] → pieces joint s ≡ Err (length s) → ((b : ℕ) (t u : List ℕ) → s ≡ b ∷ t → pieces joint (b ∷ u) ≡ Err (suc (length u))) → Exact (pieces joint) s
    none_exact joint s some e stays =
        let text = accepted_text k some in
        refused_behind (pieces joint) [] s (codes "a=a" ++ text.0) e
        (word_then joint (codes "a") (codes "=a" ++ text.0) refl refl refl ∙ comparison_text text.0 text.1) stays

    pieces_here : (n : ℕ) → Below n → Upto n k → (joint : Connective) → Upto n (pieces joint)
    pieces_here n below upto joint [] le = none_exact joint [] (upto [] le) (piece_nothing joint) (λ b t u e. cc)
    pieces_here n below upto joint (b ∷ t) le =
        elim (b == 36) as (λ v. (b == 36) ≡ v → Exact (pieces joint) (b ∷ t)) [
          | true ↦ λ e. subst (λ (x : ℕ). Exact (pieces joint) (x ∷ t)) (sym (eqb-true b 36 e))
              (behind_any (pieces joint) (number_end ⨾ comparison) (36 ∷ []) t (piece_level joint)
              ((part_of number_item).exact n comparison comparison_refuses (comparison_upto n below upto) t (omega arith)))
          | false ↦ λ other. elim (is_ascii_alphabetic b) as (λ v. is_ascii_alphabetic b ≡ v → Exact (pieces joint) (b ∷ t)) [
            | true ↦ λ h. let u = run_of is_word_byte t in
                let short : length u.rest ≤ n = omega (arith, ap length u.split, length-append u.run u.rest) in
                subst (λ (x : List ℕ). Exact (pieces joint) (b ∷ x)) (sym u.split) (word_exact n below upto joint (b ∷ u.run) u.rest (word_form b u.run h u.all) u.ends short)
            | false ↦ λ h. none_exact joint (b ∷ t) (upto [] (omega arith)) (piece_refused joint b t other h)
                (λ d v u same. let is_d : b ≡ d = cc in piece_refused joint d u (subst (λ (x : ℕ). (x == 36) ≡ false) is_d other) (subst (λ (x : ℕ). is_ascii_alphabetic x ≡ false) is_d h))
          ] refl
        ] refl

    pieces_below : (n : ℕ) → Upto n k → Below n
    pieces_below zero upto m lt joint s le = absurd (omega arith)
    pieces_below (suc n) upto m lt joint s le =
        let fewer : Upto n k = λ x h. upto x (omega arith) in
        pieces_here n (pieces_below n fewer) fewer joint s (omega arith)

    -- and one byte longer than the texts that k reads exactly
    first_piece : (n : ℕ) → Upto n k → (joint : Connective) → Upto n (pieces joint)
    first_piece n upto joint = pieces_here n (pieces_below n upto) upto joint

pub constraint_part : IsPart in_constraint constraint_end
unfolding constraint_end
constraint_part = record {
  exact = λ n k stops upto. first_piece k stops n upto Start;
  shorter = λ s r e. let lt : length r < length s = pieces_shorter (suc (length s)) Start s r e in omega arith;
}

-- ---- binders and guards

pub guard_part : IsPart in_constraint guard_end
unfolding guard_end
guard_part = part_then (fixed_part (codes "if ")) constraint_part (λ k s. refuses_none (constraint_end ⨾ k))

-- the binders behind the first
abbrev pub more_binders : List ℕ → End
more_binders s = binders_end (suc (length s)) s

abbrev binder_or_guard : ℕ → List ℕ → End
binder_or_guard n t = cond (begins 36 t) (level_end t >>= binders_end n) (guard_end t)

behind_space_size : (n : ℕ) (t r : List ℕ) → ((u : List ℕ) → binders_end n u ≡ Ok r → length r ≤ length u) → binder_or_guard n t ≡ Ok r → length r ≤ length t
behind_space_size n t r later e =
    elim (begins 36 t) as (λ v. begins 36 t ≡ v → length r ≤ length t) [
      | true ↦ λ h. let m = got (level_end t) (binders_end n) r (rw h at e) in
          let lt : length m.0 < length t = level_item.shorter t m.0 m.1 in
          let le : length r ≤ length m.0 = later m.0 m.2 in
          omega arith
      | false ↦ λ h. guard_part.shorter t r (rw h at e)
    ] refl

binders_size : (n : ℕ) (s r : List ℕ) → binders_end n s ≡ Ok r → length r ≤ length s
binders_size zero s r e = absurd (no_ok e)
binders_size (suc n) s r e =
    elim (begins 32 s) as (λ v. begins 32 s ≡ v → length r ≤ length s) [
      | true ↦ λ h. let m = got (fixed_end (codes " ") s) (binder_or_guard n) r (rw h at e) in
          let first_le : length m.0 ≤ length s = fixed_size (codes " ") s m.0 m.1 in
          let le : length r ≤ length m.0 = behind_space_size n m.0 r (λ u f. binders_size n u r f) m.2 in
          omega arith
      | false ↦ λ h. omega (arith, ap length (same_ok (rw h at e)))
    ] refl

binders_same : (n m : ℕ) (s : List ℕ) → length s < n → length s < m → binders_end n s ≡ binders_end m s
binders_same zero m s a b = absurd (omega arith)
binders_same (suc n) zero s a b = absurd (omega arith)
binders_same (suc n) (suc m) s a b =
    ap (λ (e : End). cond (begins 32 s) e (Ok s))
    (bind_same (fixed_end (codes " ") s) (binder_or_guard n) (binder_or_guard m)
    (λ t e. ap (λ (e : End). cond (begins 36 t) e (guard_end t))
    (bind_same (level_end t) (binders_end n) (binders_end m)
    (λ r f. let le : length t ≤ length s = fixed_size (codes " ") s t e in
    let lt : length r < length t = level_item.shorter t r f in
    binders_same n m r (omega arith) (omega arith)))))

module _ (k : List ℕ → End) where
  -- behind a space that follows a binder
  abbrev another : List ℕ → End
  another s = cond (begins 36 s) ((level_end ⨾ (more_binders ⨾ k)) s) ((guard_end ⨾ k) s)

  binders_take : (x : List ℕ) → ((more_binders ⨾ k) (32 ∷ x)) ≡ another x
  binders_take x =
      cond_then (begins 36 x) (level_end x >>= binders_end (suc (length x))) (guard_end x) k
      ∙ ap (λ (e : End). cond (begins 36 x) e (guard_end x >>= k))
      (bind_assoc (level_end x) (binders_end (suc (length x))) k
      ∙ bind_same (level_end x) (λ r. binders_end (suc (length x)) r >>= k) (more_binders ⨾ k)
      (λ r e. let lt : length r < length x = level_item.shorter x r e in ap (λ (f : End). f >>= k) (binders_same (suc (length x)) (suc (length r)) r (omega arith) (omega arith))))

  binders_other : (x : List ℕ) → begins 32 x ≡ false → ((more_binders ⨾ k) x) ≡ k x
  binders_other x none = rw none refl

  module _ (stops : Refuses in_constraint k) where
    binders_refuse : Refuses is_ascii_digit (more_binders ⨾ k)
    binders_refuse b s h = binders_other (b ∷ s) (differs is_ascii_digit b 32 h refl) ∙ stops b s (rw (digit_in_word b h) refl)

    another_takes : (x : List ℕ) → another (36 ∷ x) ≡ ((number_end ⨾ (more_binders ⨾ k)) x)
    another_takes x = rw (level_takes x) refl

    guard_refuses : (t : List ℕ) → ((guard_end ⨾ k) (36 ∷ t)) ≡ Err (suc (length t))
    unfolding guard_end
    guard_refuses t = refl

    binders_step : (n : ℕ) → Upto n k → (s : List ℕ) → length s ≤ n → ((t : List ℕ) → length t < length s → Upto (length t) (more_binders ⨾ k)) → Exact (more_binders ⨾ k) s
    binders_step n upto s le below =
        choice_at 32 (more_binders ⨾ k) another k binders_take binders_other (λ t. stops 32 t refl) s
        (λ t lt. choice_at 36 another (number_end ⨾ (more_binders ⨾ k)) (guard_end ⨾ k) another_takes (λ x none. rw none refl) guard_refuses t
        (λ u shorter. (part_of number_item).exact (length u) (more_binders ⨾ k) binders_refuse (below u (omega arith)) u (omega arith))
        (guard_part.exact n k stops upto t (omega arith)))
        (upto s le)

    binders_upto : (n : ℕ) → Upto n k → Upto n (more_binders ⨾ k)
    binders_upto zero upto s le = binders_step zero upto s le (λ t lt. absurd (omega arith))
    binders_upto (suc n) upto s le = binders_step (suc n) upto s le (λ t lt x h. binders_upto n (λ y g. upto y (omega arith)) x (omega arith))

binders_part : IsPart in_constraint more_binders
binders_part = record { exact = λ n k stops upto. binders_upto k stops n upto; shorter = λ s r e. binders_size (suc (length s)) s r e }

-- behind a space that follows an item: binders, or a guard
abbrev behind_item : List ℕ → End
behind_item t = cond (begins 102 t) (fixed_end (codes "for ") t >>= level_end >>= more_binders) (guard_end t)

guard_item : IsItem in_constraint guard_end
unfolding guard_end
guard_item = item_then (fixed_item 105 (codes "f ")) constraint_part (λ k s. refuses_none (constraint_end ⨾ k))

guard_refuses_for : (t : List ℕ) → guard_end (102 ∷ t) ≡ Err (suc (length t))
unfolding guard_end
guard_refuses_for t = refl

for_part : IsPart in_constraint ((fixed_end (codes "or ") ⨾ level_end) ⨾ more_binders)
for_part =
    part_then (part_then (fixed_part (codes "or ")) (part_of level_item) (λ k s. refuses_none (level_end ⨾ k))) binders_part
    (λ k stops. binders_refuse k stops)

behind_item_part : IsItem in_constraint behind_item
behind_item_part = choice_item 102 ((fixed_end (codes "for ") ⨾ level_end) ⨾ more_binders) (λ x. refl) for_part guard_item guard_refuses_for

pub tail_part : IsPart in_constraint tail_end
unfolding tail_end
tail_part = optional_part 32 (λ s. fixed_end (codes " ") s >>= behind_item) (λ x. refl) (part_of behind_item_part) refl

-- ---- terms

comma_refuses : (p : ℕ → Bool) (k : List ℕ → End) → p 44 ≡ false → Refuses p (fixed_end (codes ", ") ⨾ k)
comma_refuses p k none = fixed_refuses p 44 (32 ∷ []) k none

-- an item behind a comma, and such items
comma_item : {p : ℕ → Bool} {t : List ℕ → End} → IsItem p t → IsItem p (fixed_end (codes ", ") ⨾ t)
comma_item {p} {t} i = item_then (fixed_item 44 (32 ∷ [])) (part_of i) (λ k s. refuses_none (t ⨾ k))

space_part : {p : ℕ → Bool} {t : List ℕ → End} → IsItem p t → IsPart p (fixed_end (codes " ") ⨾ t)
space_part {p} {t} i = part_then (fixed_part (codes " ")) (part_of i) (λ k s. refuses_none (t ⨾ k))

more_items : {p : ℕ → Bool} {t : List ℕ → End} → IsItem p t → p 44 ≡ false → IsPart (or_byte 44 p) (many 44 (fixed_end (codes ", ") ⨾ t))
more_items {p} {t} i none = many_part 44 (fixed_end (codes ", ") ⨾ t) (comma_item i).shorter (λ x. refl) (space_part i) none

-- items behind commas, and a bracket
more_refuse : (p : ℕ → Bool) (item k : List ℕ → End) → p 44 ≡ false → Refuses (or_byte 44 p) k → Refuses p (many 44 item ⨾ k)
more_refuse p item k none stops = many_refuses p 44 item k none (λ b s h. stops b s (or_later 44 p b h))

tail_refuses : (k : List ℕ → End) → Refuses in_constraint k → Refuses is_word_byte (tail_end ⨾ k)
unfolding tail_end
tail_refuses k stops b s h = rw (differs is_word_byte b 32 h refl) (stops b s (rw h refl))

nothing_passes : (b : ℕ) → no_byte b ≡ true → is_word_byte b ≡ true
nothing_passes b h = absurd (false≢true h)

tag_takes : (x : List ℕ) → tag_end (39 ∷ x) ≡ word_end x
unfolding tag_end
tag_takes x = refl

operand_refused : (c : ℕ) (x : List ℕ) → (c == 36) ≡ false → is_ascii_alphabetic c ≡ false → operand_end (c ∷ x) ≡ Err (suc (length x))
unfolding operand_end
operand_refused c x other none = rw other (word_refused c x none)

-- of a tuple and of a set, behind the bracket
abbrev tuple_rest : (List ℕ → End) → List ℕ → End
tuple_rest t = (((t ⨾ fixed_end (codes ", ")) ⨾ t) ⨾ more_parts_end t) ⨾ fixed_end (codes ")")

abbrev set_rest : (List ℕ → End) → List ℕ → End
set_rest t r = cond (begins 125 r) (fixed_end (codes "}") r) (items_end t r)

module _ (t : List ℕ → End) (i : IsItem is_word_byte t) (closed : (x : List ℕ) → t (125 ∷ x) ≡ Err (suc (length x))) where
  two_parts : IsPart is_word_byte ((t ⨾ fixed_end (codes ", ")) ⨾ t)
  two_parts =
      part_then (part_then (part_of i) (fixed_part (codes ", ")) (λ k s. comma_refuses is_word_byte k refl)) (part_of i) (λ k s. refuses_none (t ⨾ k))

  tuple_part : IsPart no_byte (tuple_rest t)
  unfolding more_parts_end
  tuple_part =
      part_then (part_then two_parts (more_items i refl) (λ k stops. more_refuse is_word_byte (fixed_end (codes ", ") ⨾ t) k refl stops))
      (fixed_part (codes ")")) (λ k s. fixed_refuses (or_byte 44 is_word_byte) 41 [] k refl)

  comp_item : IsItem in_constraint (comp_end t)
  unfolding comp_end
  comp_item = item_then i tail_part tail_refuses

  items_item : IsItem no_byte (items_end t)
  unfolding items_end more_comps_end
  items_item =
      item_then (item_then comp_item (more_items comp_item refl) (λ k stops. more_refuse in_constraint (fixed_end (codes ", ") ⨾ comp_end t) k refl stops))
      (fixed_part (codes "}")) (λ k s. fixed_refuses (or_byte 44 in_constraint) 125 [] k refl)

  no_items : (x : List ℕ) → items_end t (125 ∷ x) ≡ Err (suc (length x))
  unfolding items_end comp_end
  no_items x = rw (closed x) refl

  set_part : IsPart no_byte (set_rest t)
  set_part = part_of (choice_item 125 (fixed_end (codes "}")) (λ x. refl) (fixed_part []) items_item no_items)

  tuple_takes : (x : List ℕ) → tuple_end t (40 ∷ x) ≡ tuple_rest t x
  unfolding tuple_end
  tuple_takes x = refl

  set_takes : (x : List ℕ) → set_end t (123 ∷ x) ≡ set_rest t x
  unfolding set_end
  set_takes x = refl

  term_choice : IsItem is_word_byte (λ s. cond (begins 39 s) (tag_end s) (cond (begins 40 s) (tuple_end t s) (cond (begins 123 s) (set_end t s) (operand_end s))))
  term_choice =
      choice_item 39 tag_end tag_takes (part_of word_item)
      (choice_item 40 (tuple_end t) tuple_takes (wider_part is_word_byte nothing_passes tuple_part)
      (choice_item 123 (set_end t) set_takes (wider_part is_word_byte nothing_passes set_part) operand_item (λ x. operand_refused 123 x refl refl)) (λ x. operand_refused 40 x refl refl)) (λ x. operand_refused 39 x refl refl)

no_close : (d : ℕ) (x : List ℕ) → term_end d (125 ∷ x) ≡ Err (suc (length x))
unfolding term_end
no_close zero x = operand_refused 125 x refl refl
no_close (suc d) x = operand_refused 125 x refl refl

pub term_item : (d : ℕ) → IsItem is_word_byte (term_end d)
unfolding term_end
term_item zero = choice_item 39 tag_end tag_takes (part_of word_item) operand_item (λ x. operand_refused 39 x refl refl)
term_item (suc d) = term_choice (term_end d) (term_item d) (no_close d)
