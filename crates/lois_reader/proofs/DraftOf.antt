-- The drafts of sound values: they have the values' texts, break no rule, and stand for the values.
use Rattle.std.proofs.Common.{◌≡◌, ℕ, zero, suc, ◌+◌, ◌^◌, ◌<◌, ◌≤◌, ◌⊎◌, inl, inr, ⊎_elim, true, false, cond, not, ◌&&◌, ◌||◌, ◌==◌, List, [], ◌∷◌, ◌++◌, length, map, get_or, Option, Some, None, Ok, refl, sym, ap, subst, ◌∙◌, append_assoc, arith}
use Rattle.std.specs.Prelude.{codes, bytes_eq, nat_le, nat_lt, IfSome}
use Rattle.std.specs.Fmt.{decimal}
use Rattle.std.specs.List.{AllByRecursion, list_all, position_or_len}
use Rattle.std.specs.Char.{is_ascii_alphabetic, is_ascii_digit}
use Rattle.std.specs.Str.{all_ascii_digits}
use Rattle.std.proofs.lemmas.Bool.{and_parts, and_from, false≢true, cases_lt}
use Rattle.std.proofs.lemmas.Bool.Decides.{nat_tests}
use Rattle.std.proofs.lemmas.Fmt.{decimal_nonempty, first_decimal, decimal_digit, digits_decimal, digits_value-decimal}
use Rattle.std.proofs.lemmas.List.{append-nil, get_or_past}
use Rattle.std.proofs.lemmas.List.Elements.{recursion_from_All}
use Rattle.std.proofs.lemmas.List.Sums.{position_or_len_is}
use Rattle.std.proofs.lemmas.Slice.Eq.{bytes_eq-Decides}
use Rattle.std.proofs.lemmas.Str.Parse.{IsNumeralModel, FoldsDigits, numerals_by_fold, tells_all_ascii_digits}
use Rattle.lois_base.specs.Data.{TermD, var, tup, coll, terms_of, TermsD, CompD, CompsD, comps_of, depth, depth_of_parts, depth_of_comp, depth_of_items}
use Rattle.lois_base.specs.Data as data_of
use Rattle.lois_base.specs.Fits.{LitFits, CubeFits, ConstraintFits, Fits, PartsFit, CompFits, ItemsFit}
use Rattle.lois_base.specs.Names.{IsName, is_letter, is_name_byte}
use Rattle.lois_base.specs.Validity.{AdmitsLit, AdmitsCube, AdmitsConstraint, AdmitsTerm, AdmitsParts, AdmitsComp, AdmitsItems, IsStrictLit, IsStrictCube, IsStrictConstraint, IsStrictTerm, PartsAreStrict, CompIsStrict, ItemsAreStrict, HasBoundedWidths, PartsHaveBoundedWidths, CompHasBoundedWidths, ItemsHaveBoundedWidths, count_of_parts}
use Rattle.lois_base.specs.declared.guards.Lit.{Lit}
use Rattle.lois_base.proofs.NumberTests.{less_true, less_false}
use Rattle.lois_lexer.specs.Bytes.{is_word_byte}
use Rattle.lois_answers.specs.Sound.{HasTags, PartsHaveTags, CompHasTags, ItemsHaveTags, AreDistinct}
use Rattle.lois_answers.specs.TermText as texts
use Rattle.lois_reader.specs.declared.scope.Scope.{Scope}
use Rattle.lois_reader.specs.Draft.{Operand, word, level, LitDraft, ConstraintDraft, TermDraft, atom, tag, tuple, set, TermDrafts, no_terms, term, CompDraft, comp, CompDrafts, no_comps, more, IsWord, IsNumber, IsOperand, IsLitDraft, IsConstraintDraft, IsTermDraft, AreTermDrafts, IsCompDraft, AreCompDrafts, draft_width, is_number}
use Rattle.lois_reader.specs.Pieces.{Piece, plain, each, value, value_from, is_among, comma, operand_piece, literal_pieces, cube_pieces, constraint_pieces, guard_pieces, level_pieces, binder_pieces, term_pieces, part_pieces, comp_pieces, item_pieces}
use Rattle.lois_reader.specs.Shape.{text_of_pieces}
use Rattle.lois_reader.proofs.Forms.{is_among_iff}
use Rattle.lois_reader.proofs.Outcome.{out, text_append}
use Rattle.lois_reader.proofs.ConstraintOutcome.{level_of, lit_of, cube_of, constraint_of}
use Rattle.lois_reader.proofs.TermOutcome.{guard_of, value_of, values_of, item_of, items_of}

-- ---- pieces that break no rule

abbrev pub Unbroken : List Piece → Type 0
Unbroken [] = Unit {0}
Unbroken (p ∷ ps) = (p.broken ≡ false) × Unbroken ps

pub unbroken_append : (ps qs : List Piece) → Unbroken ps → Unbroken qs → Unbroken (ps ++ qs)
unbroken_append [] qs h k = k
unbroken_append (p ∷ ps) qs h k = (h.0, unbroken_append ps qs h.1 k)

pub unbroken_each : {A : Type 0} (pieces : A → List Piece) (Good : A → Type 0) → ((x : A) → Good x → Unbroken (pieces x)) → (xs : List A) → AllByRecursion Good xs → Unbroken (each pieces xs)
unbroken_each pieces Good one [] all = tt
unbroken_each pieces Good one (x ∷ xs) all = unbroken_append (pieces x) (each pieces xs) (one x all.0) (unbroken_each pieces Good one xs all.1)

pub out_unbroken : {A : Type 0} (ps : List Piece) (a : A) (r : List ℕ) → Unbroken ps → out ps a r ≡ Ok (a, r)
out_unbroken [] a r h = refl
out_unbroken (p ∷ ps) a r h = rw h.0 (out_unbroken ps a r h.1)

-- ---- words and numbers

letter_back : (b : ℕ) → is_letter b ≡ true → is_ascii_alphabetic b ≡ true
letter_back b h = grind (arith, nat_tests)

byte_back : (b : ℕ) → is_name_byte b ≡ true → is_word_byte b ≡ true
byte_back b h = grind (arith, nat_tests)

bytes_back : (bs : List ℕ) → list_all is_name_byte bs ≡ true → list_all is_word_byte bs ≡ true
bytes_back [] h = refl
bytes_back (b ∷ bs) h = let parts = and_parts (is_name_byte b) (list_all is_name_byte bs) h in and_from (is_word_byte b) (list_all is_word_byte bs) (byte_back b parts.0) (bytes_back bs parts.1)

pub name_is_word : (w : List ℕ) → IsName w → IsWord w
name_is_word [] h = absurd (false≢true h.letter)
name_is_word (b ∷ bs) h = and_from (is_ascii_alphabetic b) (list_all is_word_byte bs) (letter_back b h.letter) (bytes_back bs (and_parts (is_name_byte b) (list_all is_name_byte bs) h.bytes).1)

folds : FoldsDigits value_from
folds = record { empty = λ n. refl; more = λ n c cs h. refl }

pub numerals : IsNumeralModel (λ ds. all_ascii_digits ds ≡ true) (value_from 0)
numerals = numerals_by_fold (λ ds. all_ascii_digits ds ≡ true) tells_all_ascii_digits value_from folds

pub value_decimal : (i : ℕ) → i < 2 ^ 64 → value (decimal i) ≡ i
value_decimal i lt = digits_value-decimal numerals i lt

digits_all : (ds : List ℕ) → all_ascii_digits ds ≡ true → list_all is_ascii_digit ds ≡ true
digits_all [] h = refl
digits_all (d ∷ ds) h = let parts = and_parts (is_ascii_digit d) (all_ascii_digits ds) h in and_from (is_ascii_digit d) (list_all is_ascii_digit ds) parts.0 (digits_all ds parts.1)

number_from : (ds : List ℕ) → 0 < length ds → list_all is_ascii_digit ds ≡ true → (length ds ≡ 1) ⊎ (48 < get_or ds 0 0) → is_number ds ≡ true
number_from [] some all first = absurd (omega arith)
number_from (d ∷ ds) some all first = rw all (two (length ds) d (⊎_elim (λ e. inl (omega arith)) (λ e. inr e) first))
  where
    two : (n d : ℕ) → (n ≡ 0) ⊎ (48 < d) → (not (suc n == 0) && true && (suc n == 1 || not (d == 48))) ≡ true
    two n d (inl e) = grind (arith, nat_tests)
    two n d (inr e) = grind (arith, nat_tests)

pub decimal_is_number : (i : ℕ) → i < 2 ^ 64 → IsNumber (decimal i)
decimal_is_number i lt =
    number_from (decimal i) (decimal_nonempty i lt) (digits_all (decimal i) (digits_decimal numerals i lt)) (by_size i lt)
  where
    by_size : (i : ℕ) → i < 2 ^ 64 → (length (decimal i) ≡ 1) ⊎ (48 < get_or (decimal i) 0 0)
    by_size zero lt = inl (ap length (decimal_digit 0 (omega arith)))
    by_size (suc i) lt = inr (first_decimal (suc i) (omega arith) lt)

-- ---- operands

abbrev pub operand_draft : List (List ℕ) → ℕ → Operand
operand_draft ps i = cond (nat_lt i (length ps)) (word (get_or ps i [])) (level (decimal i))

abbrev pub lit_draft : List (List ℕ) → Lit → LitDraft
lit_draft ps l = record { left = operand_draft ps l.left; op = l.op; right = operand_draft ps l.right }

abbrev pub cube_draft : List (List ℕ) → List Lit → List LitDraft
cube_draft ps ls = map (lit_draft ps) ls

abbrev pub constraint_draft : List (List ℕ) → List (List Lit) → ConstraintDraft
constraint_draft ps cs = map (cube_draft ps) cs

pub le_test : (a b : ℕ) → a ≤ b → nat_le a b ≡ true
le_test a b h = grind (arith, nat_tests)

pub eq_test : (a b : ℕ) → a ≡ b → (a == b) ≡ true
eq_test a b h = grind (arith, nat_tests)

same_at : (xs : List (List ℕ)) (i : ℕ) (d e : List ℕ) → i < length xs → get_or xs i d ≡ get_or xs i e
same_at [] i d e lt = absurd (omega arith)
same_at (x ∷ xs) zero d e lt = refl
same_at (x ∷ xs) (suc i) d e lt = same_at xs i d e (omega arith)

all_at : (P : List ℕ → Type 0) (xs : List (List ℕ)) (i : ℕ) → AllByRecursion P xs → i < length xs → P (get_or xs i [])
all_at P [] i all lt = absurd (omega arith)
all_at P (x ∷ xs) zero all lt = all.0
all_at P (x ∷ xs) (suc i) all lt = all_at P xs i all.1 (omega arith)

distinct_at : (xs : List (List ℕ)) (k i : ℕ) → AreDistinct xs → k < i → i < length xs → get_or xs k [] ≡ get_or xs i [] → ⊥
distinct_at [] k i d lt within e = omega arith
distinct_at (x ∷ xs) zero zero d lt within e = omega arith
distinct_at (x ∷ xs) zero (suc i) d lt within e = d.0 (i, omega arith, same_at xs i x [] (omega arith) ∙ sym e)
distinct_at (x ∷ xs) (suc k) zero d lt within e = omega arith
distinct_at (x ∷ xs) (suc k) (suc i) d lt within e = distinct_at xs k i d.1 (omega arith) (omega arith) e

pub unequal : (x y : List ℕ) → (x ≡ y → ⊥) → bytes_eq x y ≡ false
unequal x y h =
    elim (bytes_eq x y) as (λ b. bytes_eq x y ≡ b → b ≡ false) [ true ↦ λ e. absurd (h ((bytes_eq-Decides x y).0 e)) | false ↦ λ e. refl ] refl

-- what the parameters are, with recursion
pub record Parameters (ps : List (List ℕ)) : Type 0 where
  pub words : AllByRecursion IsWord ps
  pub distinct : AreDistinct ps

place_is : (ps : List (List ℕ)) (i : ℕ) → AreDistinct ps → i < length ps → position_or_len (bytes_eq (get_or ps i [])) ps ≡ i
place_is ps i d lt =
    position_or_len_is (bytes_eq (get_or ps i [])) ps i [] (omega arith)
    (λ k below. unequal (get_or ps i []) (get_or ps k []) (λ e. distinct_at ps k i d below lt (sym e)))
    (λ within. (bytes_eq-Decides (get_or ps i []) (get_or ps i [])).1 refl)

among_is : (ps : List (List ℕ)) (i : ℕ) → i < length ps → is_among ps (get_or ps i []) ≡ true
among_is ps i lt = (is_among_iff ps (get_or ps i [])).1 (i, lt, same_at ps i (get_or ps i []) [] lt)

pub operand_bytes : (s : Scope) (n i : ℕ) → (operand_piece s n (operand_draft s.names i)).bytes ≡ texts.level_or_name_text s.names i
operand_bytes s n i =
    ⊎_elim (λ lt. rw (less_true i (length s.names) lt) (same_at s.names i [] (texts.level_text i) lt))
    (λ le. rw (less_false i (length s.names) le) (sym (get_or_past s.names i (texts.level_text i) le)))
    (cases_lt i (length s.names))

-- levels that are no parameter's are usize numbers
abbrev pub Small : List (List ℕ) → ℕ → Type 0
Small ps n = (i : ℕ) → length ps ≤ i → i < n → i < 2 ^ 64

operand_form : (ps : List (List ℕ)) (n i : ℕ) → Parameters ps → Small ps n → i < n → IsOperand (operand_draft ps i)
operand_form ps n i good small lt =
    ⊎_elim (λ below. rw (less_true i (length ps) below) (all_at IsWord ps i good.words below))
    (λ le. rw (less_false i (length ps) le) (decimal_is_number i (small i le lt)))
    (cases_lt i (length ps))

within_test : (a b v i : ℕ) → v ≡ i → a ≤ i → i < b → not (nat_le a v && nat_lt v b) ≡ false
within_test a b v i e le lt = grind (arith, nat_tests)

operand_whole : (s : Scope) (n i : ℕ) → Small s.names n → i < n → (operand_piece s n (operand_draft s.names i)).broken ≡ false
operand_whole s n i small lt =
    ⊎_elim (λ below. rw (less_true i (length s.names) below) (ap not (among_is s.names i below)))
    (λ le. rw (less_false i (length s.names) le) (within_test (length s.names) n (value (decimal i)) i (value_decimal i (small i le lt)) le lt))
    (cases_lt i (length s.names))

operand_level : (s : Scope) (n i : ℕ) → Parameters s.names → Small s.names n → i < n → level_of s (operand_draft s.names i) ≡ i
operand_level s n i good small lt =
    ⊎_elim (λ below. rw (less_true i (length s.names) below) (place_is s.names i good.distinct below))
    (λ le. rw (less_false i (length s.names) le) (value_decimal i (small i le lt)))
    (cases_lt i (length s.names))

-- ---- texts with something between them

pub joined_text : {A : Type 0} (between : List ℕ) (pieces : A → List Piece) (f : A → List ℕ) → ((x : A) → text_of_pieces (pieces x) ≡ f x) → (x : A) (xs : List A) → text_of_pieces (pieces x ++ each (λ y. plain between ∷ pieces y) xs) ≡ texts.joined between (map f (x ∷ xs))
joined_text between pieces f same x [] = text_append (pieces x) [] ∙ append-nil (text_of_pieces (pieces x)) ∙ same x
joined_text between pieces f same x (y ∷ ys) =
    let later : List Piece = pieces y ++ each (λ z. plain between ∷ pieces z) ys in
    text_append (pieces x) (plain between ∷ later)
    ∙ ap (λ (t : List ℕ). t ++ (between ++ text_of_pieces later)) (same x)
    ∙ ap (λ (t : List ℕ). f x ++ (between ++ t)) (joined_text between pieces f same y ys)
    ∙ sym (append_assoc (f x) between (texts.joined between (map f (y ∷ ys))))

pub each_map : {A B : Type 0} (pieces : B → List Piece) (f : A → B) (xs : List A) → each pieces (map f xs) ≡ each (λ x. pieces (f x)) xs
each_map pieces f [] = refl
each_map pieces f (x ∷ xs) = ap (λ (ps : List Piece). pieces (f x) ++ ps) (each_map pieces f xs)

literal_text : (s : Scope) (n : ℕ) (l : Lit) → text_of_pieces (literal_pieces s n (lit_draft s.names l)) ≡ texts.literal_text s.names l
literal_text s n l =
    let a = texts.level_or_name_text s.names l.left in
    let o = texts.op_text l.op in
    let b = texts.level_or_name_text s.names l.right in
    ap (λ (t : List ℕ). t ++ (o ++ ((operand_piece s n (operand_draft s.names l.right)).bytes ++ []))) (operand_bytes s n l.left)
    ∙ ap (λ (t : List ℕ). a ++ (o ++ (t ++ []))) (operand_bytes s n l.right)
    ∙ ap (λ (t : List ℕ). a ++ (o ++ t)) (append-nil b)
    ∙ sym (append_assoc a o b)

cube_text : (s : Scope) (n : ℕ) (ls : List Lit) → text_of_pieces (cube_pieces s n (cube_draft s.names ls)) ≡ texts.cube_text s.names ls
cube_text s n [] = refl
cube_text s n (l ∷ ls) =
    let pieces : Lit → List Piece = λ k. literal_pieces s n (lit_draft s.names k) in
    ap (λ (ps : List Piece). text_of_pieces (pieces l ++ ps)) (each_map (λ k. plain (codes " and ") ∷ literal_pieces s n k) (lit_draft s.names) ls)
    ∙ joined_text (codes " and ") pieces (texts.literal_text s.names) (literal_text s n) l ls

pub constraint_text : (s : Scope) (n : ℕ) (cs : List (List Lit)) → text_of_pieces (constraint_pieces s n (constraint_draft s.names cs)) ≡ texts.constraint_text s.names cs
constraint_text s n [] = refl
constraint_text s n (c ∷ cs) =
    let pieces : List Lit → List Piece = λ d. cube_pieces s n (cube_draft s.names d) in
    ap (λ (ps : List Piece). text_of_pieces (pieces c ++ ps)) (each_map (λ d. plain (codes " or ") ∷ cube_pieces s n d) (cube_draft s.names) cs)
    ∙ joined_text (codes " or ") pieces (texts.cube_text s.names) (cube_text s n) c cs

-- ---- constraints: form, rules, value

lits_form : (ps : List (List ℕ)) (n : ℕ) (ls : List Lit) → Parameters ps → Small ps n → AllByRecursion (LitFits n) ls → AllByRecursion IsStrictLit ls → AllByRecursion IsLitDraft (cube_draft ps ls)
lits_form ps n [] good small fits strict = tt
lits_form ps n (l ∷ ls) good small fits strict = ((operand_form ps n l.left good small fits.0.0, operand_form ps n l.right good small fits.0.1, strict.0), lits_form ps n ls good small fits.1 strict.1)

cubes_form : (ps : List (List ℕ)) (n : ℕ) (cs : List (List Lit)) → Parameters ps → Small ps n → AllByRecursion (CubeFits n) cs → AllByRecursion IsStrictCube cs → IsConstraintDraft (constraint_draft ps cs)
cubes_form ps n [] good small fits strict = tt
cubes_form ps n (c ∷ cs) good small fits strict = (lits_form ps n c good small (recursion_from_All (LitFits n) c fits.0) (recursion_from_All IsStrictLit c strict.0), cubes_form ps n cs good small fits.1 strict.1)

pub constraint_form : (ps : List (List ℕ)) (n : ℕ) (cs : List (List Lit)) → Parameters ps → Small ps n → ConstraintFits n cs → IsStrictConstraint cs → IsConstraintDraft (constraint_draft ps cs)
constraint_form ps n cs good small fits strict = cubes_form ps n cs good small (recursion_from_All (CubeFits n) cs fits) (recursion_from_All IsStrictCube cs strict)

literal_whole : (s : Scope) (n : ℕ) (l : Lit) → Small s.names n → LitFits n l → AdmitsLit s.ordered l → Unbroken (literal_pieces s n (lit_draft s.names l))
literal_whole s n l small fits admits = (operand_whole s n l.left small fits.0, (ap not admits, (operand_whole s n l.right small fits.1, tt)))

lits_whole : (s : Scope) (n : ℕ) (ls : List Lit) → Small s.names n → AllByRecursion (LitFits n) ls → AllByRecursion (AdmitsLit s.ordered) ls → Unbroken (each (λ k. plain (codes " and ") ∷ literal_pieces s n k) (cube_draft s.names ls))
lits_whole s n [] small fits admits = tt
lits_whole s n (l ∷ ls) small fits admits =
    (refl, unbroken_append (literal_pieces s n (lit_draft s.names l)) (each (λ k. plain (codes " and ") ∷ literal_pieces s n k) (cube_draft s.names ls)) (literal_whole s n l small fits.0 admits.0) (lits_whole s n ls small fits.1 admits.1))

cube_whole : (s : Scope) (n : ℕ) (ls : List Lit) → Small s.names n → AllByRecursion (LitFits n) ls → AllByRecursion (AdmitsLit s.ordered) ls → Unbroken (cube_pieces s n (cube_draft s.names ls))
cube_whole s n [] small fits admits = (refl, tt)
cube_whole s n (l ∷ ls) small fits admits =
    unbroken_append (literal_pieces s n (lit_draft s.names l)) (each (λ k. plain (codes " and ") ∷ literal_pieces s n k) (cube_draft s.names ls)) (literal_whole s n l small fits.0 admits.0) (lits_whole s n ls small fits.1 admits.1)

cubes_whole : (s : Scope) (n : ℕ) (cs : List (List Lit)) → Small s.names n → AllByRecursion (CubeFits n) cs → AllByRecursion (AdmitsCube s.ordered) cs → Unbroken (each (λ d. plain (codes " or ") ∷ cube_pieces s n d) (constraint_draft s.names cs))
cubes_whole s n [] small fits admits = tt
cubes_whole s n (c ∷ cs) small fits admits =
    (refl, unbroken_append (cube_pieces s n (cube_draft s.names c)) (each (λ d. plain (codes " or ") ∷ cube_pieces s n d) (constraint_draft s.names cs)) (cube_whole s n c small (recursion_from_All (LitFits n) c fits.0) (recursion_from_All (AdmitsLit s.ordered) c admits.0)) (cubes_whole s n cs small fits.1 admits.1))

rec_whole : (s : Scope) (n : ℕ) (cs : List (List Lit)) → Small s.names n → AllByRecursion (CubeFits n) cs → AllByRecursion (AdmitsCube s.ordered) cs → Unbroken (constraint_pieces s n (constraint_draft s.names cs))
rec_whole s n [] small fits admits = (refl, tt)
rec_whole s n (c ∷ cs) small fits admits =
    unbroken_append (cube_pieces s n (cube_draft s.names c)) (each (λ d. plain (codes " or ") ∷ cube_pieces s n d) (constraint_draft s.names cs)) (cube_whole s n c small (recursion_from_All (LitFits n) c fits.0) (recursion_from_All (AdmitsLit s.ordered) c admits.0)) (cubes_whole s n cs small fits.1 admits.1)

pub constraint_whole : (s : Scope) (n : ℕ) (cs : List (List Lit)) → Small s.names n → ConstraintFits n cs → AdmitsConstraint s.ordered cs → Unbroken (constraint_pieces s n (constraint_draft s.names cs))
constraint_whole s n cs small fits admits = rec_whole s n cs small (recursion_from_All (CubeFits n) cs fits) (recursion_from_All (AdmitsCube s.ordered) cs admits)

lit_value : (s : Scope) (n : ℕ) (l : Lit) → Parameters s.names → Small s.names n → LitFits n l → lit_of s (lit_draft s.names l) ≡ l
lit_value s n l good small fits =
    let e = operand_level s n l.left good small fits.0 in
    let f = operand_level s n l.right good small fits.1 in
    ap (λ (i : ℕ). let x : Lit = record { op = l.op; left = i; right = level_of s (operand_draft s.names l.right) } in x) e
    ∙ ap (λ (i : ℕ). let x : Lit = record { op = l.op; left = l.left; right = i } in x) f

lits_value : (s : Scope) (n : ℕ) (ls : List Lit) → Parameters s.names → Small s.names n → AllByRecursion (LitFits n) ls → cube_of s (cube_draft s.names ls) ≡ ls
lits_value s n [] good small fits = refl
lits_value s n (l ∷ ls) good small fits = ap (λ (x : Lit). x ∷ cube_of s (cube_draft s.names ls)) (lit_value s n l good small fits.0) ∙ ap (λ (xs : List Lit). l ∷ xs) (lits_value s n ls good small fits.1)

cubes_value : (s : Scope) (n : ℕ) (cs : List (List Lit)) → Parameters s.names → Small s.names n → AllByRecursion (CubeFits n) cs → constraint_of s (constraint_draft s.names cs) ≡ cs
cubes_value s n [] good small fits = refl
cubes_value s n (c ∷ cs) good small fits =
    ap (λ (x : List Lit). x ∷ constraint_of s (constraint_draft s.names cs)) (lits_value s n c good small (recursion_from_All (LitFits n) c fits.0)) ∙ ap (λ (xs : List (List Lit)). c ∷ xs) (cubes_value s n cs good small fits.1)

pub constraint_value : (s : Scope) (n : ℕ) (cs : List (List Lit)) → Parameters s.names → Small s.names n → ConstraintFits n cs → constraint_of s (constraint_draft s.names cs) ≡ cs
constraint_value s n cs good small fits = cubes_value s n cs good small (recursion_from_All (CubeFits n) cs fits)

-- ---- terms

-- the digits of m levels from n on
abbrev pub numbers_from : ℕ → ℕ → List (List ℕ)
numbers_from n zero = []
numbers_from n (suc m) = decimal n ∷ numbers_from (suc n) m

numbers_count : (n m : ℕ) → length (numbers_from n m) ≡ m
numbers_count n zero = refl
numbers_count n (suc m) = ap suc (numbers_count (suc n) m)

abbrev pub guard_draft : List (List ℕ) → List (List Lit) → Option ConstraintDraft
guard_draft ps ([] ∷ []) = None
guard_draft ps g = Some (constraint_draft ps g)

abbrev mutual
  pub term_draft : List (List ℕ) → ℕ → TermD → TermDraft
  term_draft ps n (var i) = atom (operand_draft ps i)
  term_draft ps n (data_of.tag t) = tag t
  term_draft ps n (tup ts) = tuple (parts_draft ps n ts)
  term_draft ps n (coll cs) = set (items_draft ps n cs)

  pub parts_draft : List (List ℕ) → ℕ → TermsD → TermDrafts
  parts_draft ps n data_of.no_terms = no_terms
  parts_draft ps n (data_of.term t ts) = term (term_draft ps n t) (parts_draft ps n ts)

  pub comp_draft : List (List ℕ) → ℕ → CompD → CompDraft
  comp_draft ps n (data_of.comp m g t) = comp (term_draft ps (n + m) t) (numbers_from n m) (guard_draft ps g)

  pub items_draft : List (List ℕ) → ℕ → CompsD → CompDrafts
  items_draft ps n data_of.no_comps = no_comps
  items_draft ps n (data_of.more c cs) = more (comp_draft ps n c) (items_draft ps n cs)

-- their texts
-- the bytes of binders are those of their digits, whatever number is asked of them
levels_any : (k n : ℕ) (m : ℕ) → text_of_pieces (level_pieces k (numbers_from n m)) ≡ texts.levels_text n m
levels_any k n zero = refl
levels_any k n (suc m) = ap (λ (t : List ℕ). codes " $" ++ (decimal n ++ t)) (levels_any (suc k) (suc n) m)

binders_any : (k n : ℕ) (m : ℕ) → text_of_pieces (binder_pieces k (numbers_from n m)) ≡ texts.binders_text n m
binders_any k n zero = refl
binders_any k n (suc m) = ap (λ (t : List ℕ). codes " for" ++ t) (levels_any k n (suc m))

guard_text : (s : Scope) (n : ℕ) (g : List (List Lit)) → text_of_pieces (guard_pieces s n (guard_draft s.names g)) ≡ texts.guard_text s.names g
guard_text s n [] = refl
guard_text s n ([] ∷ []) = refl
guard_text s n ([] ∷ d ∷ ds) = ap (λ (t : List ℕ). codes " if " ++ t) (constraint_text s n ([] ∷ d ∷ ds))
guard_text s n ((l ∷ ls) ∷ cs) = ap (λ (t : List ℕ). codes " if " ++ t) (constraint_text s n ((l ∷ ls) ∷ cs))

-- texts behind a text between them
abbrev later_texts : List (List ℕ) → List ℕ
later_texts [] = []
later_texts (t ∷ ts) = codes ", " ++ (t ++ later_texts ts)

joined_is : (t : List ℕ) (ts : List (List ℕ)) → texts.joined (codes ", ") (t ∷ ts) ≡ t ++ later_texts ts
joined_is t [] = sym (append-nil t)
joined_is t (u ∷ us) = append_assoc t (codes ", ") (texts.joined (codes ", ") (u ∷ us)) ∙ ap (λ (x : List ℕ). t ++ (codes ", " ++ x)) (joined_is u us)

mutual
  pub term_text : (s : Scope) (k n : ℕ) (t : TermD) → text_of_pieces (term_pieces s k (term_draft s.names n t)) ≡ texts.term_text s.names n t
  term_text s k n (var i) = append-nil ((operand_piece s k (operand_draft s.names i)).bytes) ∙ operand_bytes s k i
  term_text s k n (data_of.tag t) = ap (λ (x : List ℕ). codes "'" ++ x) (append-nil t)
  term_text s k n (tup data_of.no_terms) = refl
  term_text s k n (tup (data_of.term t ts)) =
      ap (λ (x : List ℕ). codes "(" ++ x) (text_append (term_pieces s k (term_draft s.names n t) ++ part_pieces s k comma (parts_draft s.names n ts)) (plain (codes ")") ∷ [])
      ∙ ap (λ (x : List ℕ). x ++ codes ")") (text_append (term_pieces s k (term_draft s.names n t)) (part_pieces s k comma (parts_draft s.names n ts))
      ∙ ap (λ (x : List ℕ). x ++ text_of_pieces (part_pieces s k comma (parts_draft s.names n ts))) (term_text s k n t)
      ∙ ap (λ (x : List ℕ). texts.term_text s.names n t ++ x) (parts_text s k n ts)
      ∙ sym (joined_is (texts.term_text s.names n t) (texts.part_texts s.names n ts))))
  term_text s k n (coll data_of.no_comps) = refl
  term_text s k n (coll (data_of.more c cs)) =
      ap (λ (x : List ℕ). codes "{" ++ x) (text_append (comp_pieces s k (comp_draft s.names n c) ++ item_pieces s k comma (items_draft s.names n cs)) (plain (codes "}") ∷ [])
      ∙ ap (λ (x : List ℕ). x ++ codes "}") (text_append (comp_pieces s k (comp_draft s.names n c)) (item_pieces s k comma (items_draft s.names n cs))
      ∙ ap (λ (x : List ℕ). x ++ text_of_pieces (item_pieces s k comma (items_draft s.names n cs))) (comp_text s k n c)
      ∙ ap (λ (x : List ℕ). texts.comp_text s.names n c ++ x) (items_text s k n cs)
      ∙ sym (joined_is (texts.comp_text s.names n c) (texts.item_texts s.names n cs))))

  parts_text : (s : Scope) (k n : ℕ) (ts : TermsD) → text_of_pieces (part_pieces s k comma (parts_draft s.names n ts)) ≡ later_texts (texts.part_texts s.names n ts)
  parts_text s k n data_of.no_terms = refl
  parts_text s k n (data_of.term t ts) =
      ap (λ (x : List ℕ). codes ", " ++ x) (text_append (term_pieces s k (term_draft s.names n t)) (part_pieces s k comma (parts_draft s.names n ts))
      ∙ ap (λ (x : List ℕ). x ++ text_of_pieces (part_pieces s k comma (parts_draft s.names n ts))) (term_text s k n t)
      ∙ ap (λ (x : List ℕ). texts.term_text s.names n t ++ x) (parts_text s k n ts))

  comp_text : (s : Scope) (k n : ℕ) (c : CompD) → text_of_pieces (comp_pieces s k (comp_draft s.names n c)) ≡ texts.comp_text s.names n c
  comp_text s k n (data_of.comp m g t) =
      let j : ℕ = k + length (numbers_from n m) in
      let item : List Piece = term_pieces s j (term_draft s.names (n + m) t) in
      let binders : List Piece = binder_pieces k (numbers_from n m) in
      let guard : List Piece = guard_pieces s j (guard_draft s.names g) in
      text_append (item ++ binders) guard
      ∙ ap (λ (x : List ℕ). x ++ text_of_pieces guard) (text_append item binders
      ∙ ap (λ (x : List ℕ). x ++ text_of_pieces binders) (term_text s j (n + m) t)
      ∙ ap (λ (x : List ℕ). texts.term_text s.names (n + m) t ++ x) (binders_any k n m))
      ∙ ap (λ (x : List ℕ). (texts.term_text s.names (n + m) t ++ texts.binders_text n m) ++ x) (guard_text s j g)

  items_text : (s : Scope) (k n : ℕ) (cs : CompsD) → text_of_pieces (item_pieces s k comma (items_draft s.names n cs)) ≡ later_texts (texts.item_texts s.names n cs)
  items_text s k n data_of.no_comps = refl
  items_text s k n (data_of.more c cs) =
      ap (λ (x : List ℕ). codes ", " ++ x) (text_append (comp_pieces s k (comp_draft s.names n c)) (item_pieces s k comma (items_draft s.names n cs))
      ∙ ap (λ (x : List ℕ). x ++ text_of_pieces (item_pieces s k comma (items_draft s.names n cs))) (comp_text s k n c)
      ∙ ap (λ (x : List ℕ). texts.comp_text s.names n c ++ x) (items_text s k n cs))

-- ---- their form

pub small_inside : (ps : List (List ℕ)) (n : ℕ) → n < 2 ^ 64 → Small ps n
small_inside ps n lt i le below = omega arith

numbers_form : (n m : ℕ) → n + m < 2 ^ 64 → AllByRecursion IsNumber (numbers_from n m)
numbers_form n zero lt = tt
numbers_form n (suc m) lt = (decimal_is_number n (omega arith), numbers_form (suc n) m (omega arith))

guard_form : (ps : List (List ℕ)) (n : ℕ) (g : List (List Lit)) → Parameters ps → Small ps n → ConstraintFits n g → IsStrictConstraint g → IfSome (guard_draft ps g) IsConstraintDraft
guard_form ps n [] good small fits strict = constraint_form ps n [] good small fits strict
guard_form ps n ([] ∷ []) good small fits strict = tt
guard_form ps n ([] ∷ d ∷ ds) good small fits strict = constraint_form ps n ([] ∷ d ∷ ds) good small fits strict
guard_form ps n ((l ∷ ls) ∷ cs) good small fits strict = constraint_form ps n ((l ∷ ls) ∷ cs) good small fits strict

parts_width : (ps : List (List ℕ)) (n : ℕ) (ts : TermsD) → draft_width (parts_draft ps n ts) ≡ count_of_parts ts
parts_width ps n data_of.no_terms = refl
parts_width ps n (data_of.term t ts) = ap suc (parts_width ps n ts)

mutual
  pub term_form : (ps : List (List ℕ)) (d n : ℕ) (t : TermD) → Parameters ps → Small ps n → Fits n t → HasTags t → HasBoundedWidths t → IsStrictTerm t → depth t ≤ d → IsTermDraft d (term_draft ps n t)
  term_form ps d n (var i) good small fits tags widths strict deep = operand_form ps n i good small fits
  term_form ps d n (data_of.tag t) good small fits tags widths strict deep = name_is_word t tags
  term_form ps zero n (tup ts) good small fits tags widths strict deep = absurd (omega arith)
  term_form ps (suc d) n (tup ts) good small fits tags widths strict deep = (rw (parts_width ps n ts) widths.0, parts_form ps d n ts good small fits tags widths.2 strict (omega arith))
  term_form ps zero n (coll cs) good small fits tags widths strict deep = absurd (omega arith)
  term_form ps (suc d) n (coll cs) good small fits tags widths strict deep = items_form ps d n cs good small fits tags widths strict (omega arith)

  parts_form : (ps : List (List ℕ)) (d n : ℕ) (ts : TermsD) → Parameters ps → Small ps n → PartsFit n ts → PartsHaveTags ts → PartsHaveBoundedWidths ts → PartsAreStrict ts → depth_of_parts ts ≤ d → AreTermDrafts d (parts_draft ps n ts)
  parts_form ps d n data_of.no_terms good small fits tags widths strict deep = tt
  parts_form ps d n (data_of.term t ts) good small fits tags widths strict deep = (term_form ps d n t good small fits.0 tags.0 widths.0 strict.0 (omega arith), parts_form ps d n ts good small fits.1 tags.1 widths.1 strict.1 (omega arith))

  comp_form : (ps : List (List ℕ)) (d n : ℕ) (c : CompD) → Parameters ps → CompFits n c → CompHasTags c → CompHasBoundedWidths c → CompIsStrict c → depth_of_comp c ≤ d → IsCompDraft d (comp_draft ps n c)
  comp_form ps d n (data_of.comp m g t) good fits tags widths strict deep = (term_form ps d (n + m) t good (small_inside ps (n + m) fits.0) fits.2 tags widths strict.1 deep, numbers_form n m fits.0, guard_form ps (n + m) g good (small_inside ps (n + m) fits.0) fits.1 strict.0)

  items_form : (ps : List (List ℕ)) (d n : ℕ) (cs : CompsD) → Parameters ps → Small ps n → ItemsFit n cs → ItemsHaveTags cs → ItemsHaveBoundedWidths cs → ItemsAreStrict cs → depth_of_items cs ≤ d → AreCompDrafts d (items_draft ps n cs)
  items_form ps d n data_of.no_comps good small fits tags widths strict deep = tt
  items_form ps d n (data_of.more c cs) good small fits tags widths strict deep = (comp_form ps d n c good fits.0 tags.0 widths.0 strict.0 (omega arith), items_form ps d n cs good small fits.1 tags.1 widths.1 strict.1 (omega arith))

-- ---- they break no rule

levels_whole : (n m : ℕ) → n + m < 2 ^ 64 → Unbroken (level_pieces n (numbers_from n m))
levels_whole n zero lt = tt
levels_whole n (suc m) lt = (refl, (ap not (eq_test (value (decimal n)) n (value_decimal n (omega arith))), levels_whole (suc n) m (omega arith)))

binders_whole : (n m : ℕ) → n + m < 2 ^ 64 → Unbroken (binder_pieces n (numbers_from n m))
binders_whole n zero lt = tt
binders_whole n (suc m) lt = (refl, levels_whole n (suc m) lt)

guard_whole : (s : Scope) (n : ℕ) (g : List (List Lit)) → Small s.names n → ConstraintFits n g → AdmitsConstraint s.ordered g → Unbroken (guard_pieces s n (guard_draft s.names g))
guard_whole s n [] small fits admits = (refl, constraint_whole s n [] small fits admits)
guard_whole s n ([] ∷ []) small fits admits = tt
guard_whole s n ([] ∷ d ∷ ds) small fits admits = (refl, constraint_whole s n ([] ∷ d ∷ ds) small fits admits)
guard_whole s n ((l ∷ ls) ∷ cs) small fits admits = (refl, constraint_whole s n ((l ∷ ls) ∷ cs) small fits admits)

mutual
  pub term_whole : (s : Scope) (n : ℕ) (t : TermD) → Small s.names n → Fits n t → HasTags t → HasBoundedWidths t → AdmitsTerm s.ordered t → Unbroken (term_pieces s n (term_draft s.names n t))
  term_whole s n (var i) small fits tags widths admits = (operand_whole s n i small fits, tt)
  term_whole s n (data_of.tag t) small fits tags widths admits = (ap not (le_test (length t) 64 tags.short), tt)
  term_whole s n (tup ts) small fits tags widths admits = (
    ap not (le_test (draft_width (parts_draft s.names n ts)) 8 (rw (parts_width s.names n ts) widths.1)),
    unbroken_append (part_pieces s n [] (parts_draft s.names n ts)) (plain (codes ")") ∷ []) (parts_whole s n [] ts tt small fits tags widths.2 admits) (refl, tt),
  )
  term_whole s n (coll cs) small fits tags widths admits =
      (refl, unbroken_append (item_pieces s n [] (items_draft s.names n cs)) (plain (codes "}") ∷ []) (items_whole s n [] cs tt small fits tags widths admits) (refl, tt))

  parts_whole : (s : Scope) (n : ℕ) (before : List Piece) (ts : TermsD) → Unbroken before → Small s.names n → PartsFit n ts → PartsHaveTags ts → PartsHaveBoundedWidths ts → AdmitsParts s.ordered ts → Unbroken (part_pieces s n before (parts_draft s.names n ts))
  parts_whole s n before data_of.no_terms h small fits tags widths admits = tt
  parts_whole s n before (data_of.term t ts) h small fits tags widths admits =
      unbroken_append (before ++ term_pieces s n (term_draft s.names n t)) (part_pieces s n comma (parts_draft s.names n ts))
      (unbroken_append before (term_pieces s n (term_draft s.names n t)) h (term_whole s n t small fits.0 tags.0 widths.0 admits.0))
      (parts_whole s n comma ts (refl, tt) small fits.1 tags.1 widths.1 admits.1)

  comp_whole : (s : Scope) (n : ℕ) (c : CompD) → CompFits n c → CompHasTags c → CompHasBoundedWidths c → AdmitsComp s.ordered c → Unbroken (comp_pieces s n (comp_draft s.names n c))
  comp_whole s n (data_of.comp m g t) fits tags widths admits =
      let small : Small s.names (n + m) = small_inside s.names (n + m) fits.0 in
      let e : n + m ≡ n + length (numbers_from n m) = ap (λ (k : ℕ). n + k) (sym (numbers_count n m)) in
      unbroken_append (term_pieces s (n + length (numbers_from n m)) (term_draft s.names (n + m) t) ++ binder_pieces n (numbers_from n m)) (guard_pieces s (n + length (numbers_from n m)) (guard_draft s.names g))
      (unbroken_append (term_pieces s (n + length (numbers_from n m)) (term_draft s.names (n + m) t)) (binder_pieces n (numbers_from n m))
      (subst (λ (k : ℕ). Unbroken (term_pieces s k (term_draft s.names (n + m) t))) e (term_whole s (n + m) t small fits.2 tags widths admits.1))
      (binders_whole n m fits.0))
      (subst (λ (k : ℕ). Unbroken (guard_pieces s k (guard_draft s.names g))) e (guard_whole s (n + m) g small fits.1 admits.0))

  items_whole : (s : Scope) (n : ℕ) (before : List Piece) (cs : CompsD) → Unbroken before → Small s.names n → ItemsFit n cs → ItemsHaveTags cs → ItemsHaveBoundedWidths cs → AdmitsItems s.ordered cs → Unbroken (item_pieces s n before (items_draft s.names n cs))
  items_whole s n before data_of.no_comps h small fits tags widths admits = tt
  items_whole s n before (data_of.more c cs) h small fits tags widths admits =
      unbroken_append (before ++ comp_pieces s n (comp_draft s.names n c)) (item_pieces s n comma (items_draft s.names n cs))
      (unbroken_append before (comp_pieces s n (comp_draft s.names n c)) h (comp_whole s n c fits.0 tags.0 widths.0 admits.0))
      (items_whole s n comma cs (refl, tt) small fits.1 tags.1 widths.1 admits.1)

-- ---- what they stand for

guard_value : (s : Scope) (n : ℕ) (g : List (List Lit)) → Parameters s.names → Small s.names n → ConstraintFits n g → guard_of s (guard_draft s.names g) ≡ g
guard_value s n [] good small fits = refl
guard_value s n ([] ∷ []) good small fits = refl
guard_value s n ([] ∷ d ∷ ds) good small fits = constraint_value s n ([] ∷ d ∷ ds) good small fits
guard_value s n ((l ∷ ls) ∷ cs) good small fits = constraint_value s n ((l ∷ ls) ∷ cs) good small fits

mutual
  pub term_value : (s : Scope) (n : ℕ) (t : TermD) → Parameters s.names → Small s.names n → Fits n t → value_of s (term_draft s.names n t) ≡ t
  term_value s n (var i) good small fits = ap (λ (k : ℕ). var k) (operand_level s n i good small fits)
  term_value s n (data_of.tag t) good small fits = refl
  term_value s n (tup ts) good small fits = ap tup (parts_value s n ts good small fits)
  term_value s n (coll cs) good small fits = ap coll (items_value s n cs good small fits)

  parts_value : (s : Scope) (n : ℕ) (ts : TermsD) → Parameters s.names → Small s.names n → PartsFit n ts → terms_of (values_of s (parts_draft s.names n ts)) ≡ ts
  parts_value s n data_of.no_terms good small fits = refl
  parts_value s n (data_of.term t ts) good small fits = ap (λ (x : TermD). data_of.term x (terms_of (values_of s (parts_draft s.names n ts)))) (term_value s n t good small fits.0) ∙ ap (data_of.term t) (parts_value s n ts good small fits.1)

  comp_value : (s : Scope) (n : ℕ) (c : CompD) → Parameters s.names → CompFits n c → item_of s (comp_draft s.names n c) ≡ c
  comp_value s n (data_of.comp m g t) good fits =
      let small : Small s.names (n + m) = small_inside s.names (n + m) fits.0 in
      ap (λ (k : ℕ). data_of.comp k (guard_of s (guard_draft s.names g)) (value_of s (term_draft s.names (n + m) t))) (numbers_count n m)
      ∙ ap (λ (x : List (List Lit)). data_of.comp m x (value_of s (term_draft s.names (n + m) t))) (guard_value s (n + m) g good small fits.1)
      ∙ ap (λ (x : TermD). data_of.comp m g x) (term_value s (n + m) t good small fits.2)

  items_value : (s : Scope) (n : ℕ) (cs : CompsD) → Parameters s.names → Small s.names n → ItemsFit n cs → comps_of (items_of s (items_draft s.names n cs)) ≡ cs
  items_value s n data_of.no_comps good small fits = refl
  items_value s n (data_of.more c cs) good small fits = ap (λ (x : CompD). data_of.more x (comps_of (items_of s (items_draft s.names n cs)))) (comp_value s n c good fits.0) ∙ ap (data_of.more c) (items_value s n cs good small fits.1)
