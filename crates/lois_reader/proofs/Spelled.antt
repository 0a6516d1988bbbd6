-- What the readers of operands, constraints and terms pass over is the text of a draft.
use Rattle.std.proofs.Common.{◌≡◌, ℕ, zero, suc, ◌+◌, ◌<◌, ◌⊎◌, inl, inr, true, false, cond, not, ◌&&◌, List, [], ◌∷◌, ◌++◌, length, Option, Some, None, Result, Ok, Err, refl, sym, ap, subst, ◌∙◌, append_assoc, arith}
use Rattle.std.specs.Prelude.{codes, bytes_eq, IfSome, IsTrue}
use Rattle.std.specs.List.{AllByRecursion}
use Rattle.std.proofs.lemmas.Bool.{and_parts, false≢true, not-true}
use Rattle.std.proofs.lemmas.Slice.Eq.{bytes_eq-Decides}
use Rattle.lois_base.specs.Validity.{is_strict}
use Rattle.lois_base.specs.declared.guards.Op.{Op}
use Rattle.lois_base.specs.declared.guards.Op.TheVariants.{Eq, Ne, Lt}
use Rattle.lois_answers.specs.TermText.{op_text}
use Rattle.lois_reader.specs.declared.constraint_ends.Connective.{Connective}
use Rattle.lois_reader.specs.declared.constraint_ends.Connective.TheVariants.{Start, And, Or}
use Rattle.lois_reader.specs.declared.scope.Scope.{Scope}
use Rattle.lois_reader.specs.Draft.{Operand, word, level, LitDraft, ConstraintDraft, TermDraft, atom, tag, tuple, set, TermDrafts, no_terms, term, CompDraft, comp, CompDrafts, no_comps, more, IsNumber, IsOperand, IsLitDraft, IsConstraintDraft, IsTermDraft, AreTermDrafts, IsCompDraft, AreCompDrafts}
use Rattle.lois_reader.specs.Pieces.{Piece, plain, each, comma, operand_piece, literal_pieces, cube_pieces, constraint_pieces, guard_pieces, level_pieces, binder_pieces, term_pieces, part_pieces, comp_pieces, item_pieces}
use Rattle.lois_reader.specs.Shape.{text_of_pieces}
use Rattle.lois_reader.specs.Reading.{◌>>=◌, End, begins}
use Rattle.lois_reader.specs.Ends.{fixed_end, word_at, word_end, number_end, level_end, operand_end, op_end, tag_end, many_end, joint_at, or_at, begins_op, is_and, is_start, comparison_at, piece_at, onward, pieces_end, constraint_end, guard_end, binders_end, tail_end, more_parts_end, tuple_end, comp_end, more_comps_end, items_end, set_end, term_end}
use Rattle.lois_reader.proofs.Outcome.{text_split}
use Rattle.lois_reader.proofs.Backs.{no_ok, same_ok, got, fixed_back, word_back, word_at_back, number_back}
use Rattle.lois_reader.proofs.ExactEnds.{behind_word, more_binders}
use Rattle.lois_reader.proofs.EndsFronts.{literal_text, if_text, tuple_text, set_text, comp_text, further_part, further_item}
use Rattle.lois_reader.proofs.TermOutcome.{level_text, for_text}

-- one text behind another
pub then_text : {s m t : List ℕ} (a : List ℕ) → s ≡ a ++ m → m ≡ t → s ≡ a ++ t
then_text a e f = e ∙ ap (λ (x : List ℕ). a ++ x) f

-- s is the text of a draft of this form, with r behind it; what a piece has to do with its scope and its levels leaves its bytes alone
pub record Spelled {D : Type 0} (Form : D → Type 0) (pieces : Scope → ℕ → D → List Piece) (s r : List ℕ) : Type 0 where
  pub draft : D
  pub form : Form draft
  pub text : (c : Scope) (n : ℕ) → s ≡ text_of_pieces (pieces c n draft) ++ r

-- items as long as one begins with a byte
pub many_spelled : {D : Type 0} (b : ℕ) (item : List ℕ → End) (Form : D → Type 0) (pieces : Scope → ℕ → D → List Piece) → ((s r : List ℕ) → item s ≡ Ok r → Spelled Form pieces s r) → (n : ℕ) (s r : List ℕ) → many_end (begins b) item n s ≡ Ok r → Spelled (AllByRecursion Form) (λ c m xs. each (pieces c m) xs) s r
many_spelled b item Form pieces one zero s r e = absurd (no_ok e)
many_spelled b item Form pieces one (suc n) s r e =
    elim (begins b s) as (λ v. begins b s ≡ v → Spelled (AllByRecursion Form) (λ c m xs. each (pieces c m) xs) s r) [
      | true ↦ λ h. let m = got (item s) (many_end (begins b) item n) r (rw h at e) in
          let x = one s m.0 m.1 in
          let xs = many_spelled b item Form pieces one n m.0 r m.2 in
          record {
            draft = x.draft ∷ xs.draft;
            form = (x.form, xs.form);
            text = λ c k. then_text (text_of_pieces (pieces c k x.draft)) (x.text c k) (xs.text c k) ∙ sym (text_split (pieces c k x.draft) (each (pieces c k) xs.draft) r);
          }
      | false ↦ λ h. record { draft = []; form = tt; text = λ c k. same_ok (rw h at e) }
    ] refl

-- ---- operands

abbrev pub operand_bytes : Operand → List ℕ
operand_bytes (word w) = w
operand_bytes (level ds) = codes "$" ++ ds

pub bytes_are : (c : Scope) (n : ℕ) (o : Operand) → (operand_piece c n o).bytes ≡ operand_bytes o
bytes_are c n (word w) = refl
bytes_are c n (level ds) = refl

pub record IsOperandAt (s : List ℕ) (o : Operand) (r : List ℕ) : Type 0 where
  pub form : IsOperand o
  pub text : s ≡ operand_bytes o ++ r

pub level_spelled : (s r : List ℕ) → level_end s ≡ Ok r → (ds : List ℕ) × IsNumber ds × (s ≡ codes "$" ++ (ds ++ r))
unfolding level_end
level_spelled s r e =
    let m = got (fixed_end (codes "$") s) number_end r e in
    let d = number_back m.0 r m.2 in
    (d.0, d.1.form, then_text (codes "$") (fixed_back (codes "$") s m.0 m.1) d.1.split)

pub operand_spelled : (s r : List ℕ) → operand_end s ≡ Ok r → (o : Operand) × IsOperandAt s o r
unfolding operand_end
operand_spelled s r e =
    elim (begins 36 s) as (λ v. begins 36 s ≡ v → (o : Operand) × IsOperandAt s o r) [
      | true ↦ λ h. let l = level_spelled s r (rw h at e) in (level l.0, record { form = l.1; text = l.2 })
      | false ↦ λ h. let w = word_back s r (rw h at e) in (word w.0, record { form = w.1.form; text = w.1.split })
    ] refl

op_spelled : (s r : List ℕ) → op_end s ≡ Ok r → (op : Op) × IsTrue (is_strict op) × (s ≡ op_text op ++ r)
unfolding op_end
op_spelled s r e =
    elim (begins 61 s) as (λ v. begins 61 s ≡ v → (op : Op) × IsTrue (is_strict op) × (s ≡ op_text op ++ r)) [
      | true ↦ λ h. (Eq, refl, fixed_back (codes "=") s r (rw h at e))
      | false ↦ λ h. elim (begins 33 s) as (λ v. begins 33 s ≡ v → (op : Op) × IsTrue (is_strict op) × (s ≡ op_text op ++ r)) [
        | true ↦ λ g. (Ne, refl, fixed_back (codes "!=") s r (rw (h, g) at e))
        | false ↦ λ g. (Lt, refl, fixed_back (codes "<") s r (rw (h, g) at e))
      ] refl
    ] refl

-- ---- constraints

abbrev joint_text : Option Connective → List ℕ
joint_text None = []
joint_text (Some Start) = []
joint_text (Some And) = codes " and "
joint_text (Some Or) = codes " or "

-- behind a literal, and behind `true`
abbrev Joins : Option Connective → Type 0
Joins None = Unit {0}
Joins (Some Start) = ⊥
Joins (Some And) = Unit {0}
Joins (Some Or) = Unit {0}

abbrev JoinsCubes : Option Connective → Type 0
JoinsCubes None = Unit {0}
JoinsCubes (Some Start) = ⊥
JoinsCubes (Some And) = ⊥
JoinsCubes (Some Or) = Unit {0}

record Found (Allowed : Option Connective → Type 0) (s : List ℕ) (y : Option Connective × List ℕ) : Type 0 where
  pub allowed : Allowed y.0
  pub text : s ≡ joint_text y.0 ++ y.1

-- a joint that is written, its first bytes read before, and what follows it
found_written : (Allowed : Option Connective → Type 0) (before x s m : List ℕ) (found : Option Connective) (y : Option Connective × List ℕ) → s ≡ before ++ m → joint_text found ≡ before ++ x → Allowed found → (fixed_end x m >>= λ t. Ok (found, t)) ≡ Ok y → Found Allowed s y
found_written Allowed before x s m found y split is allowed e =
    let t = got (fixed_end x m) (λ t. Ok (found, t)) y e in
    let here : Option Connective × List ℕ = (found, t.0) in
    let same : here ≡ y = same_ok t.2 in
    let written : s ≡ joint_text found ++ t.0 = then_text before split (fixed_back x m t.0 t.1) ∙ sym (append_assoc before x t.0) ∙ ap (λ (u : List ℕ). u ++ t.0) (sym is) in
    subst (λ (z : Option Connective × List ℕ). Found Allowed s z) same (record { allowed = allowed; text = written })

found_none : (Allowed : Option Connective → Type 0) (s : List ℕ) (y : Option Connective × List ℕ) → Allowed None → (let r : Result (Option Connective × List ℕ) ℕ = Ok (None, s) in r) ≡ Ok y → Found Allowed s y
found_none Allowed s y allowed e =
    let here : Option Connective × List ℕ = (None, s) in
    let same : here ≡ y = same_ok e in
    subst (λ (z : Option Connective × List ℕ). Found Allowed s z) same (record { allowed = allowed; text = refl })

joint_spelled : (s : List ℕ) (y : Option Connective × List ℕ) → joint_at s ≡ Ok y → Found Joins s y
unfolding joint_at
joint_spelled s y e =
    elim (begins 32 s) as (λ v. begins 32 s ≡ v → Found Joins s y) [
      | true ↦ λ h. let m = got (fixed_end (codes " ") s) (λ r. cond (begins 97 r) (fixed_end (codes "and ") r >>= (λ t. Ok (Some And, t))) (fixed_end (codes "or ") r >>= (λ t. Ok (Some Or, t)))) y (rw h at e) in
          let split : s ≡ codes " " ++ m.0 = fixed_back (codes " ") s m.0 m.1 in
          elim (begins 97 m.0) as (λ v. begins 97 m.0 ≡ v → Found Joins s y) [
            | true ↦ λ g. found_written Joins (codes " ") (codes "and ") s m.0 (Some And) y split refl tt (rw g at m.2)
            | false ↦ λ g. found_written Joins (codes " ") (codes "or ") s m.0 (Some Or) y split refl tt (rw g at m.2)
          ] refl
      | false ↦ λ h. found_none Joins s y tt (rw h at e)
    ] refl

or_spelled : (s : List ℕ) (y : Option Connective × List ℕ) → or_at s ≡ Ok y → Found JoinsCubes s y
unfolding or_at
or_spelled s y e =
    elim (begins 32 s) as (λ v. begins 32 s ≡ v → Found JoinsCubes s y) [
      | true ↦ λ h. found_written JoinsCubes [] (codes " or ") s s (Some Or) y refl refl tt (rw h at e)
      | false ↦ λ h. found_none JoinsCubes s y tt (rw h at e)
    ] refl

-- behind the first operand of a literal
record ComparedAt (s : List ℕ) (y : Option Connective × List ℕ) : Type 0 where
  pub op : Op
  pub strict : IsTrue (is_strict op)
  pub right : Operand
  pub form : IsOperand right
  pub allowed : Joins y.0
  pub text : s ≡ op_text op ++ (operand_bytes right ++ (joint_text y.0 ++ y.1))

compared : (s : List ℕ) (y : Option Connective × List ℕ) → comparison_at s ≡ Ok y → ComparedAt s y
unfolding comparison_at
compared s y e =
    let m = got (op_end s >>= operand_end) joint_at y e in
    let n = got (op_end s) operand_end m.0 m.1 in
    let op = op_spelled s n.0 n.1 in
    let o = operand_spelled n.0 m.0 n.2 in
    let j = joint_spelled m.0 y m.2 in
    record { op = op.0; strict = op.1; right = o.0; form = o.1.form; allowed = j.allowed; text = then_text (op_text op.0) op.2 (then_text (operand_bytes o.0) o.1.text j.text) }

-- A piece of a constraint: a literal; `true`, which no `and` stands before or behind; `false` alone.
data PieceAt (joint : Connective) (s : List ℕ) (y : Option Connective × List ℕ) : Type 0 where
  literal : (l : LitDraft) → IsLitDraft l → Joins y.0 → ((c : Scope) (n : ℕ) → s ≡ text_of_pieces (literal_pieces c n l) ++ (joint_text y.0 ++ y.1)) → PieceAt joint s y
  always : is_and joint ≡ false → JoinsCubes y.0 → s ≡ codes "true" ++ (joint_text y.0 ++ y.1) → PieceAt joint s y
  never : is_start joint ≡ true → y.0 ≡ None → s ≡ codes "false" ++ y.1 → PieceAt joint s y

literal_is : (joint : Connective) (s m : List ℕ) (o : Operand) (y : Option Connective × List ℕ) → IsOperand o → s ≡ operand_bytes o ++ m → ComparedAt m y → PieceAt joint s y
literal_is joint s m o y form split h =
    let l : LitDraft = record { left = o; op = h.op; right = h.right } in
    let rest : List ℕ = joint_text y.0 ++ y.1 in
    literal l (form, h.form, h.strict) h.allowed
    (λ c n. then_text (operand_bytes o) split h.text
    ∙ ap (λ (x : List ℕ). x ++ (op_text h.op ++ (operand_bytes h.right ++ rest))) (sym (bytes_are c n o))
    ∙ ap (λ (x : List ℕ). (operand_piece c n o).bytes ++ (op_text h.op ++ (x ++ rest))) (sym (bytes_are c n h.right))
    ∙ sym (literal_text c n l rest))

-- behind a word that isn't an operand
keyword_is : (joint : Connective) (s w r : List ℕ) (y : Option Connective × List ℕ) → s ≡ w ++ r → cond (not (is_and joint) && bytes_eq w (codes "true")) (or_at r) (cond (is_start joint && bytes_eq w (codes "false")) (Ok (None, r)) (Err (length r))) ≡ Ok y → PieceAt joint s y
keyword_is joint s w r y split e =
    elim (not (is_and joint) && bytes_eq w (codes "true")) as (λ v. (not (is_and joint) && bytes_eq w (codes "true")) ≡ v → PieceAt joint s y) [
      | true ↦ λ h. let parts = and_parts (not (is_and joint)) (bytes_eq w (codes "true")) h in
          let is : w ≡ codes "true" = (bytes_eq-Decides w (codes "true")).0 parts.1 in
          let f = or_spelled r y (rw h at e) in
          always (not-true (is_and joint) parts.0) f.allowed (split ∙ ap (λ (x : List ℕ). x ++ r) is ∙ ap (λ (x : List ℕ). codes "true" ++ x) f.text)
      | false ↦ λ h. elim (is_start joint && bytes_eq w (codes "false")) as (λ v. (is_start joint && bytes_eq w (codes "false")) ≡ v → PieceAt joint s y) [
        | true ↦ λ g. let parts = and_parts (is_start joint) (bytes_eq w (codes "false")) g in
            let is : w ≡ codes "false" = (bytes_eq-Decides w (codes "false")).0 parts.1 in
            let here : Option Connective × List ℕ = (None, r) in
            let same : here ≡ y = same_ok (rw (h, g) at e) in
            subst (λ (z : Option Connective × List ℕ). PieceAt joint s z) same (never parts.0 refl (split ∙ ap (λ (x : List ℕ). x ++ r) is))
        | false ↦ λ g. absurd (no_ok (rw (h, g) at e))
      ] refl
    ] refl

piece_spelled : (joint : Connective) (s : List ℕ) (y : Option Connective × List ℕ) → piece_at joint s ≡ Ok y → PieceAt joint s y
unfolding piece_at
piece_spelled joint s y e =
    elim (begins 36 s) as (λ v. begins 36 s ≡ v → PieceAt joint s y) [
      | true ↦ λ h. let m = got (level_end s) comparison_at y (rw h at e) in
          let l = level_spelled s m.0 m.1 in
          literal_is joint s m.0 (level l.0) y l.1 l.2 (compared m.0 y m.2)
      | false ↦ λ h. let m = got (word_at s) (behind_word joint) y (rw h at e) in
          let w = word_at_back s m.0 m.1 in
          elim (begins_op m.0.1) as (λ v. begins_op m.0.1 ≡ v → PieceAt joint s y) [
            | true ↦ λ g. literal_is joint s m.0.1 (word m.0.0) y w.form w.split (compared m.0.1 y (rw g at m.2))
            | false ↦ λ g. keyword_is joint s m.0.0 m.0.1 y w.split (rw g at m.2)
          ] refl
    ] refl

abbrev further_cube : Scope → ℕ → List LitDraft → List Piece
further_cube c n d = plain (codes " or ") ∷ cube_pieces c n d

-- from a piece on that stands in a cube or begins one: the rest of the cube, and the cubes behind it
record CubesAt (joint : Connective) (s r : List ℕ) : Type 0 where
  pub cube : List LitDraft
  pub others : List (List LitDraft)
  pub cube_form : AllByRecursion IsLitDraft cube
  pub others_form : AllByRecursion (AllByRecursion IsLitDraft) others
  pub some : is_and joint ≡ true → 0 < length cube
  pub text : (c : Scope) (n : ℕ) → s ≡ text_of_pieces (cube_pieces c n cube) ++ (text_of_pieces (each (further_cube c n) others) ++ r)

cube_more : (c : Scope) (n : ℕ) (l k : LitDraft) (ks : List LitDraft) (q : List ℕ) → text_of_pieces (cube_pieces c n (l ∷ k ∷ ks)) ++ q ≡ text_of_pieces (literal_pieces c n l) ++ (codes " and " ++ (text_of_pieces (cube_pieces c n (k ∷ ks)) ++ q))
cube_more c n l k ks q = text_split (literal_pieces c n l) (plain (codes " and ") ∷ cube_pieces c n (k ∷ ks)) q

others_more : (c : Scope) (n : ℕ) (d : List LitDraft) (ds : List (List LitDraft)) (r : List ℕ) → text_of_pieces (each (further_cube c n) (d ∷ ds)) ++ r ≡ codes " or " ++ (text_of_pieces (cube_pieces c n d) ++ (text_of_pieces (each (further_cube c n) ds) ++ r))
others_more c n d ds r = ap (λ (x : List ℕ). codes " or " ++ x) (text_split (cube_pieces c n d) (each (further_cube c n) ds) r)

-- a literal that is the last piece, or stands before `and`, or before `or`
last_literal : (joint : Connective) (s t r : List ℕ) (l : LitDraft) → IsLitDraft l → ((c : Scope) (n : ℕ) → s ≡ text_of_pieces (literal_pieces c n l) ++ t) → t ≡ r → CubesAt joint s r
last_literal joint s t r l form text e = record {
  cube = l ∷ [];
  others = [];
  cube_form = (form, tt);
  others_form = tt;
  some = λ h. omega arith;
  text = λ c n. then_text (text_of_pieces (literal_pieces c n l)) (text c n) e;
}

literal_and : (joint : Connective) (s t r : List ℕ) (l : LitDraft) → IsLitDraft l → ((c : Scope) (n : ℕ) → s ≡ text_of_pieces (literal_pieces c n l) ++ (codes " and " ++ t)) → CubesAt And t r → CubesAt joint s r
literal_and joint s t r l form text later = by_cube later.cube (later.some refl) later.cube_form later.text
  where
    by_cube : (ks : List LitDraft) → 0 < length ks → AllByRecursion IsLitDraft ks → ((c : Scope) (n : ℕ) → t ≡ text_of_pieces (cube_pieces c n ks) ++ (text_of_pieces (each (further_cube c n) later.others) ++ r)) → CubesAt joint s r
    by_cube [] some forms rest = absurd (omega arith)
    by_cube (k ∷ ks) some forms rest = record {
      cube = l ∷ k ∷ ks;
      others = later.others;
      cube_form = (form, forms);
      others_form = later.others_form;
      some = λ h. omega arith;
      text = λ c n. then_text (text_of_pieces (literal_pieces c n l)) (text c n) (ap (λ (x : List ℕ). codes " and " ++ x) (rest c n)) ∙ sym (cube_more c n l k ks (text_of_pieces (each (further_cube c n) later.others) ++ r));
    }

literal_or : (joint : Connective) (s t r : List ℕ) (l : LitDraft) → IsLitDraft l → ((c : Scope) (n : ℕ) → s ≡ text_of_pieces (literal_pieces c n l) ++ (codes " or " ++ t)) → CubesAt Or t r → CubesAt joint s r
literal_or joint s t r l form text later = record {
  cube = l ∷ [];
  others = later.cube ∷ later.others;
  cube_form = (form, tt);
  others_form = (later.cube_form, later.others_form);
  some = λ h. omega arith;
  text = λ c n. then_text (text_of_pieces (literal_pieces c n l)) (text c n) (ap (λ (x : List ℕ). codes " or " ++ x) (later.text c n) ∙ sym (others_more c n later.cube later.others r));
}

no_and : (joint : Connective) → is_and joint ≡ false → is_and joint ≡ true → 0 < length (let ls : List LitDraft = [] in ls)
no_and joint h e = absurd (false≢true (sym h ∙ e))

last_true : (joint : Connective) (s t r : List ℕ) → is_and joint ≡ false → s ≡ codes "true" ++ t → t ≡ r → CubesAt joint s r
last_true joint s t r other split e = record {
  cube = [];
  others = [];
  cube_form = tt;
  others_form = tt;
  some = no_and joint other;
  text = λ c n. then_text (codes "true") split e;
}

true_or : (joint : Connective) (s t r : List ℕ) → is_and joint ≡ false → s ≡ codes "true" ++ (codes " or " ++ t) → CubesAt Or t r → CubesAt joint s r
true_or joint s t r other split later = record {
  cube = [];
  others = later.cube ∷ later.others;
  cube_form = tt;
  others_form = (later.cube_form, later.others_form);
  some = no_and joint other;
  text = λ c n. then_text (codes "true") split (ap (λ (x : List ℕ). codes " or " ++ x) (later.text c n) ∙ sym (others_more c n later.cube later.others r));
}

-- cubes, or `false` where nothing stands before it
abbrev PiecesAt : Connective → List ℕ → List ℕ → Type 0
PiecesAt joint s r = CubesAt joint s r ⊎ ((is_start joint ≡ true) × (s ≡ codes "false" ++ r))

cubes_of : (joint : Connective) (s r : List ℕ) → is_start joint ≡ false → PiecesAt joint s r → CubesAt joint s r
cubes_of joint s r h (inl cubes) = cubes
cubes_of joint s r h (inr other) = absurd (false≢true (sym h ∙ other.0))

-- what follows a piece
module _ (n : ℕ) (r : List ℕ) (rec : (joint : Connective) (s : List ℕ) → pieces_end n joint s ≡ Ok r → PiecesAt joint s r) where
  add_literal : (joint : Connective) (s : List ℕ) (l : LitDraft) (found : Option Connective) (t : List ℕ) → IsLitDraft l → Joins found → ((c : Scope) (k : ℕ) → s ≡ text_of_pieces (literal_pieces c k l) ++ (joint_text found ++ t)) → onward (pieces_end n) found t ≡ Ok r → CubesAt joint s r
  add_literal joint s l None t form allowed text e = last_literal joint s t r l form text (same_ok e)
  add_literal joint s l (Some Start) t form allowed text e = absurd allowed
  add_literal joint s l (Some And) t form allowed text e = literal_and joint s t r l form text (cubes_of And t r refl (rec And t e))
  add_literal joint s l (Some Or) t form allowed text e = literal_or joint s t r l form text (cubes_of Or t r refl (rec Or t e))

  add_true : (joint : Connective) (s : List ℕ) (found : Option Connective) (t : List ℕ) → is_and joint ≡ false → JoinsCubes found → s ≡ codes "true" ++ (joint_text found ++ t) → onward (pieces_end n) found t ≡ Ok r → CubesAt joint s r
  add_true joint s None t other allowed split e = last_true joint s t r other split (same_ok e)
  add_true joint s (Some Start) t other allowed split e = absurd allowed
  add_true joint s (Some And) t other allowed split e = absurd allowed
  add_true joint s (Some Or) t other allowed split e = true_or joint s t r other split (cubes_of Or t r refl (rec Or t e))

  add_piece : (joint : Connective) (s : List ℕ) (y : Option Connective × List ℕ) → onward (pieces_end n) y.0 y.1 ≡ Ok r → PieceAt joint s y → PiecesAt joint s r
  add_piece joint s y e (literal l form allowed text) = inl (add_literal joint s l y.0 y.1 form allowed text e)
  add_piece joint s y e (always other allowed split) = inl (add_true joint s y.0 y.1 other allowed split e)
  add_piece joint s y e (never start none split) = inr (start, then_text (codes "false") split (same_ok (ap (λ (o : Option Connective). onward (pieces_end n) o y.1) (sym none) ∙ e)))

pieces_spelled : (n : ℕ) (r : List ℕ) (joint : Connective) (s : List ℕ) → pieces_end n joint s ≡ Ok r → PiecesAt joint s r
pieces_spelled zero r joint s e = absurd (no_ok e)
pieces_spelled (suc n) r joint s e =
    let m = got (piece_at joint s) (λ x. onward (pieces_end n) x.0 x.1) r e in
    add_piece n r (pieces_spelled n r) joint s m.0 m.2 (piece_spelled joint s m.0 m.1)

pub constraint_spelled : (s r : List ℕ) → constraint_end s ≡ Ok r → Spelled IsConstraintDraft constraint_pieces s r
unfolding constraint_end
constraint_spelled s r e = by_kind (pieces_spelled (suc (length s)) r Start s e)
  where
    by_kind : PiecesAt Start s r → Spelled IsConstraintDraft constraint_pieces s r
    by_kind (inl h) = record {
      draft = h.cube ∷ h.others;
      form = (h.cube_form, h.others_form);
      text = λ c n. h.text c n ∙ sym (text_split (cube_pieces c n h.cube) (each (further_cube c n) h.others) r);
    }
    by_kind (inr h) = record { draft = []; form = tt; text = λ c n. h.1 }

-- ---- binders and guards

-- levels, and a guard or none
record LevelsAt (s r : List ℕ) : Type 0 where
  pub levels : List (List ℕ)
  pub guard : Option ConstraintDraft
  pub levels_form : AllByRecursion IsNumber levels
  pub guard_form : IfSome guard IsConstraintDraft
  pub text : (c : Scope) (i n : ℕ) → s ≡ text_of_pieces (level_pieces i levels ++ guard_pieces c n guard) ++ r

-- binders, and a guard or none
record TailAt (s r : List ℕ) : Type 0 where
  pub binders : List (List ℕ)
  pub guard : Option ConstraintDraft
  pub binders_form : AllByRecursion IsNumber binders
  pub guard_form : IfSome guard IsConstraintDraft
  pub text : (c : Scope) (i n : ℕ) → s ≡ text_of_pieces (binder_pieces i binders ++ guard_pieces c n guard) ++ r

guard_spelled : (s r : List ℕ) → guard_end s ≡ Ok r → (g : ConstraintDraft) × IsConstraintDraft g × ((c : Scope) (n : ℕ) → s ≡ codes "if " ++ (text_of_pieces (constraint_pieces c n g) ++ r))
unfolding guard_end
guard_spelled s r e =
    let m = got (fixed_end (codes "if ") s) constraint_end r e in
    let g = constraint_spelled m.0 r m.2 in
    (g.draft, g.form, λ c n. then_text (codes "if ") (fixed_back (codes "if ") s m.0 m.1) (g.text c n))

-- behind a space
guard_behind : (s m r : List ℕ) → s ≡ codes " " ++ m → guard_end m ≡ Ok r → (g : ConstraintDraft) × IsConstraintDraft g × ((c : Scope) (n : ℕ) → s ≡ text_of_pieces (guard_pieces c n (Some g)) ++ r)
guard_behind s m r split e =
    let g = guard_spelled m r e in
    (g.0, g.1, λ c n. then_text (codes " ") split (g.2 c n) ∙ sym (if_text c n g.0 r))

level_behind : (c : Scope) (i n : ℕ) (b : List ℕ) (bs : List (List ℕ)) (g : Option ConstraintDraft) (r : List ℕ) → text_of_pieces (level_pieces i (b ∷ bs) ++ guard_pieces c n g) ++ r ≡ codes " $" ++ (b ++ (text_of_pieces (level_pieces (suc i) bs ++ guard_pieces c n g) ++ r))
level_behind c i n b bs g r =
    text_split (level_pieces i (b ∷ bs)) (guard_pieces c n g) r
    ∙ level_text b bs i (text_of_pieces (guard_pieces c n g) ++ r)
    ∙ ap (λ (x : List ℕ). codes " $" ++ (b ++ x)) (sym (text_split (level_pieces (suc i) bs) (guard_pieces c n g) r))

for_behind : (c : Scope) (i n : ℕ) (b : List ℕ) (bs : List (List ℕ)) (g : Option ConstraintDraft) (r : List ℕ) → text_of_pieces (binder_pieces i (b ∷ bs) ++ guard_pieces c n g) ++ r ≡ codes " for $" ++ (b ++ (text_of_pieces (level_pieces (suc i) bs ++ guard_pieces c n g) ++ r))
for_behind c i n b bs g r =
    text_split (binder_pieces i (b ∷ bs)) (guard_pieces c n g) r
    ∙ for_text b bs i (text_of_pieces (guard_pieces c n g) ++ r)
    ∙ ap (λ (x : List ℕ). codes " for $" ++ (b ++ x)) (sym (text_split (level_pieces (suc i) bs) (guard_pieces c n g) r))

no_guard : (s r : List ℕ) → s ≡ r → LevelsAt s r
no_guard s r e = record { levels = []; guard = None; levels_form = tt; guard_form = tt; text = λ c i n. e }

levels_spelled : (n : ℕ) (s r : List ℕ) → binders_end n s ≡ Ok r → LevelsAt s r
levels_spelled zero s r e = absurd (no_ok e)
levels_spelled (suc n) s r e =
    elim (begins 32 s) as (λ v. begins 32 s ≡ v → LevelsAt s r) [
      | true ↦ λ h. let m = got (fixed_end (codes " ") s) (λ t. cond (begins 36 t) (level_end t >>= binders_end n) (guard_end t)) r (rw h at e) in
          let split : s ≡ codes " " ++ m.0 = fixed_back (codes " ") s m.0 m.1 in
          elim (begins 36 m.0) as (λ v. begins 36 m.0 ≡ v → LevelsAt s r) [
            | true ↦ λ g. let k = got (level_end m.0) (binders_end n) r (rw g at m.2) in
                let l = level_spelled m.0 k.0 k.1 in
                let later = levels_spelled n k.0 r k.2 in
                record {
                  levels = l.0 ∷ later.levels;
                  guard = later.guard;
                  levels_form = (l.1, later.levels_form);
                  guard_form = later.guard_form;
                  text = λ c i j. then_text (codes " ") split (then_text (codes "$") l.2 (ap (λ (x : List ℕ). l.0 ++ x) (later.text c (suc i) j))) ∙ sym (level_behind c i j l.0 later.levels later.guard r);
                }
            | false ↦ λ g. let k = guard_behind s m.0 r split (rw g at m.2) in
                record { levels = []; guard = Some k.0; levels_form = tt; guard_form = k.1; text = λ c i j. k.2 c j }
          ] refl
      | false ↦ λ h. no_guard s r (same_ok (rw h at e))
    ] refl

tail_spelled : (s r : List ℕ) → tail_end s ≡ Ok r → TailAt s r
unfolding tail_end
tail_spelled s r e =
    elim (begins 32 s) as (λ v. begins 32 s ≡ v → TailAt s r) [
      | true ↦ λ h. let m = got (fixed_end (codes " ") s) (λ t. cond (begins 102 t) (fixed_end (codes "for ") t >>= level_end >>= more_binders) (guard_end t)) r (rw h at e) in
          let split : s ≡ codes " " ++ m.0 = fixed_back (codes " ") s m.0 m.1 in
          elim (begins 102 m.0) as (λ v. begins 102 m.0 ≡ v → TailAt s r) [
            | true ↦ λ g. let k = got (fixed_end (codes "for ") m.0 >>= level_end) more_binders r (rw g at m.2) in
                let f = got (fixed_end (codes "for ") m.0) level_end k.0 k.1 in
                let l = level_spelled f.0 k.0 f.2 in
                let later = levels_spelled (suc (length k.0)) k.0 r k.2 in
                record {
                  binders = l.0 ∷ later.levels;
                  guard = later.guard;
                  binders_form = (l.1, later.levels_form);
                  guard_form = later.guard_form;
                  text = λ c i n. then_text (codes " ") split (then_text (codes "for ") (fixed_back (codes "for ") m.0 f.0 f.1) (then_text (codes "$") l.2 (ap (λ (x : List ℕ). l.0 ++ x) (later.text c (suc i) n)))) ∙ sym (for_behind c i n l.0 later.levels later.guard r);
                }
            | false ↦ λ g. let k = guard_behind s m.0 r split (rw g at m.2) in
                record { binders = []; guard = Some k.0; binders_form = tt; guard_form = k.1; text = λ c i n. k.2 c n }
          ] refl
      | false ↦ λ h. record { binders = []; guard = None; binders_form = tt; guard_form = tt; text = λ c i n. same_ok (rw h at e) }
    ] refl

-- ---- terms

parts_from : List TermDraft → TermDrafts
parts_from [] = no_terms
parts_from (t ∷ ts) = term t (parts_from ts)

items_from : List CompDraft → CompDrafts
items_from [] = no_comps
items_from (c ∷ cs) = more c (items_from cs)

parts_pieces : (c : Scope) (n : ℕ) (ts : List TermDraft) → part_pieces c n comma (parts_from ts) ≡ each (further_part c n) ts
unfolding parts_from
parts_pieces c n [] = refl
parts_pieces c n (t ∷ ts) = ap (λ (ps : List Piece). plain (codes ", ") ∷ (term_pieces c n t ++ ps)) (parts_pieces c n ts)

items_pieces : (c : Scope) (n : ℕ) (cs : List CompDraft) → item_pieces c n comma (items_from cs) ≡ each (further_item c n) cs
unfolding items_from
items_pieces c n [] = refl
items_pieces c n (k ∷ ks) = ap (λ (ps : List Piece). plain (codes ", ") ∷ (comp_pieces c n k ++ ps)) (items_pieces c n ks)

parts_form : (d : ℕ) (ts : List TermDraft) → AllByRecursion (IsTermDraft d) ts → AreTermDrafts d (parts_from ts)
unfolding parts_from
parts_form d [] h = tt
parts_form d (t ∷ ts) h = (h.0, parts_form d ts h.1)

items_form : (d : ℕ) (cs : List CompDraft) → AllByRecursion (IsCompDraft d) cs → AreCompDrafts d (items_from cs)
unfolding items_from
items_form d [] h = tt
items_form d (k ∷ ks) h = (h.0, items_form d ks h.1)

atom_spelled : (d : ℕ) (s r : List ℕ) → operand_end s ≡ Ok r → Spelled (IsTermDraft d) term_pieces s r
atom_spelled d s r e =
    let o = operand_spelled s r e in
    record {
      draft = atom o.0;
      form = o.1.form;
      text = λ c n. o.1.text ∙ ap (λ (x : List ℕ). x ++ r) (sym (bytes_are c n o.0)) ∙ sym (append_assoc (operand_piece c n o.0).bytes [] r);
    }

tag_spelled : (d : ℕ) (s r : List ℕ) → tag_end s ≡ Ok r → Spelled (IsTermDraft d) term_pieces s r
unfolding tag_end
tag_spelled d s r e =
    let m = got (fixed_end (codes "'") s) word_end r e in
    let w = word_back m.0 r m.2 in
    record {
      draft = tag w.0;
      form = w.1.form;
      text = λ c n. then_text (codes "'") (fixed_back (codes "'") s m.0 m.1) (w.1.split ∙ sym (append_assoc w.0 [] r));
    }

-- of the terms that t reads
module _ (d : ℕ) (t : List ℕ → End) (one : (s r : List ℕ) → t s ≡ Ok r → Spelled (IsTermDraft d) term_pieces s r) where
  further_spelled : (s r : List ℕ) → (fixed_end (codes ", ") s >>= t) ≡ Ok r → Spelled (IsTermDraft d) further_part s r
  further_spelled s r e =
      let m = got (fixed_end (codes ", ") s) t r e in
      let x = one m.0 r m.2 in
      record { draft = x.draft; form = x.form; text = λ c n. then_text (codes ", ") (fixed_back (codes ", ") s m.0 m.1) (x.text c n) }

  more_parts_spelled : (s r : List ℕ) → more_parts_end t s ≡ Ok r → Spelled (AreTermDrafts d) (λ c n ts. part_pieces c n comma ts) s r
  unfolding more_parts_end
  more_parts_spelled s r e =
      let xs = many_spelled 44 (λ q. fixed_end (codes ", ") q >>= t) (IsTermDraft d) further_part further_spelled (suc (length s)) s r e in
      record { draft = parts_from xs.draft; form = parts_form d xs.draft xs.form; text = λ c n. xs.text c n ∙ ap (λ (ps : List Piece). text_of_pieces ps ++ r) (sym (parts_pieces c n xs.draft)) }

  tuple_spelled : (s r : List ℕ) → tuple_end t s ≡ Ok r → Spelled (IsTermDraft (suc d)) term_pieces s r
  unfolding tuple_end
  tuple_spelled s r e =
      let f = got (fixed_end (codes "(") s >>= t >>= fixed_end (codes ", ") >>= t >>= more_parts_end t) (fixed_end (codes ")")) r e in
      let g = got (fixed_end (codes "(") s >>= t >>= fixed_end (codes ", ") >>= t) (more_parts_end t) f.0 f.1 in
      let h = got (fixed_end (codes "(") s >>= t >>= fixed_end (codes ", ")) t g.0 g.1 in
      let i = got (fixed_end (codes "(") s >>= t) (fixed_end (codes ", ")) h.0 h.1 in
      let j = got (fixed_end (codes "(") s) t i.0 i.1 in
      let x = one j.0 i.0 j.2 in
      let y = one h.0 g.0 h.2 in
      let zs = more_parts_spelled g.0 f.0 g.2 in
      record {
        draft = tuple (term x.draft (term y.draft zs.draft));
        form = (omega arith, (x.form, (y.form, zs.form)));
        text = λ c n. then_text (codes "(") (fixed_back (codes "(") s j.0 j.1)
            (then_text (text_of_pieces (term_pieces c n x.draft)) (x.text c n)
            (then_text (codes ", ") (fixed_back (codes ", ") i.0 h.0 i.2)
            (then_text (text_of_pieces (term_pieces c n y.draft)) (y.text c n)
            (then_text (text_of_pieces (part_pieces c n comma zs.draft)) (zs.text c n) (fixed_back (codes ")") f.0 r f.2)))))
            ∙ sym (tuple_text c n x.draft y.draft zs.draft r);
      }

  comp_spelled : (s r : List ℕ) → comp_end t s ≡ Ok r → Spelled (IsCompDraft d) comp_pieces s r
  unfolding comp_end
  comp_spelled s r e =
      let m = got (t s) tail_end r e in
      let x = one s m.0 m.1 in
      let y = tail_spelled m.0 r m.2 in
      record {
        draft = comp x.draft y.binders y.guard;
        form = (x.form, y.binders_form, y.guard_form);
        text = λ c n. then_text (text_of_pieces (term_pieces c (n + length y.binders) x.draft)) (x.text c (n + length y.binders)) (y.text c n (n + length y.binders)) ∙ sym (comp_text c n x.draft y.binders y.guard r);
      }

  further_comp_spelled : (s r : List ℕ) → (fixed_end (codes ", ") s >>= comp_end t) ≡ Ok r → Spelled (IsCompDraft d) further_item s r
  further_comp_spelled s r e =
      let m = got (fixed_end (codes ", ") s) (comp_end t) r e in
      let x = comp_spelled m.0 r m.2 in
      record { draft = x.draft; form = x.form; text = λ c n. then_text (codes ", ") (fixed_back (codes ", ") s m.0 m.1) (x.text c n) }

  more_comps_spelled : (s r : List ℕ) → more_comps_end t s ≡ Ok r → Spelled (AreCompDrafts d) (λ c n ks. item_pieces c n comma ks) s r
  unfolding more_comps_end
  more_comps_spelled s r e =
      let xs = many_spelled 44 (λ q. fixed_end (codes ", ") q >>= comp_end t) (IsCompDraft d) further_item further_comp_spelled (suc (length s)) s r e in
      record { draft = items_from xs.draft; form = items_form d xs.draft xs.form; text = λ c n. xs.text c n ∙ ap (λ (ps : List Piece). text_of_pieces ps ++ r) (sym (items_pieces c n xs.draft)) }

  -- behind the brace
  items_spelled : (s r : List ℕ) → items_end t s ≡ Ok r → Spelled (IsTermDraft (suc d)) term_pieces (codes "{" ++ s) r
  unfolding items_end
  items_spelled s r e =
      let f = got (comp_end t s >>= more_comps_end t) (fixed_end (codes "}")) r e in
      let g = got (comp_end t s) (more_comps_end t) f.0 f.1 in
      let x = comp_spelled s g.0 g.1 in
      let ys = more_comps_spelled g.0 f.0 g.2 in
      record {
        draft = set (more x.draft ys.draft);
        form = (x.form, ys.form);
        text = λ c n. ap (λ (y : List ℕ). codes "{" ++ y)
            (then_text (text_of_pieces (comp_pieces c n x.draft)) (x.text c n)
            (then_text (text_of_pieces (item_pieces c n comma ys.draft)) (ys.text c n) (fixed_back (codes "}") f.0 r f.2)))
            ∙ sym (set_text c n x.draft ys.draft r);
      }

  set_spelled : (s r : List ℕ) → set_end t s ≡ Ok r → Spelled (IsTermDraft (suc d)) term_pieces s r
  unfolding set_end
  set_spelled s r e =
      let m = got (fixed_end (codes "{") s) (λ q. cond (begins 125 q) (fixed_end (codes "}") q) (items_end t q)) r e in
      let split : s ≡ codes "{" ++ m.0 = fixed_back (codes "{") s m.0 m.1 in
      elim (begins 125 m.0) as (λ v. begins 125 m.0 ≡ v → Spelled (IsTermDraft (suc d)) term_pieces s r) [
        | true ↦ λ h. record { draft = set no_comps; form = tt; text = λ c n. then_text (codes "{") split (fixed_back (codes "}") m.0 r (rw h at m.2)) }
        | false ↦ λ h. subst (λ (x : List ℕ). Spelled (IsTermDraft (suc d)) term_pieces x r) (sym split) (items_spelled m.0 r (rw h at m.2))
      ] refl

pub term_spelled : (d : ℕ) (s r : List ℕ) → term_end d s ≡ Ok r → Spelled (IsTermDraft d) term_pieces s r
unfolding term_end
term_spelled zero s r e =
    elim (begins 39 s) as (λ v. begins 39 s ≡ v → Spelled (IsTermDraft zero) term_pieces s r) [
      | true ↦ λ h. tag_spelled zero s r (rw h at e)
      | false ↦ λ h. atom_spelled zero s r (rw h at e)
    ] refl
term_spelled (suc d) s r e =
    elim (begins 39 s) as (λ v. begins 39 s ≡ v → Spelled (IsTermDraft (suc d)) term_pieces s r) [
      | true ↦ λ h. tag_spelled (suc d) s r (rw h at e)
      | false ↦ λ h. elim (begins 40 s) as (λ v. begins 40 s ≡ v → Spelled (IsTermDraft (suc d)) term_pieces s r) [
        | true ↦ λ g. tuple_spelled d (term_end d) (term_spelled d) s r (rw (h, g) at e)
        | false ↦ λ g. elim (begins 123 s) as (λ v. begins 123 s ≡ v → Spelled (IsTermDraft (suc d)) term_pieces s r) [
          | true ↦ λ f. set_spelled d (term_end d) (term_spelled d) s r (rw (h, g, f) at e)
          | false ↦ λ f. atom_spelled (suc d) s r (rw (h, g, f) at e)
        ] refl
      ] refl
    ] refl
