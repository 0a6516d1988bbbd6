-- A draft that breaks no rule is the draft of the value that it stands for, and that is sound: constraints and terms.
use Rattle.std.proofs.Common.{◌≡◌, ℕ, zero, suc, ◌+◌, ◌^◌, ◌<◌, ◌≤◌, true, false, not, ◌&&◌, ◌||◌, ◌==◌, List, [], ◌∷◌, ◌++◌, length, get_or, Option, Some, None, refl, sym, ap, ◌∙◌, arith}
use Rattle.std.specs.Prelude.{codes, bytes_eq, nat_le, nat_lt, IfSome, option_map}
use Rattle.std.specs.Fmt.{decimal}
use Rattle.std.specs.List.{AllByRecursion, list_all, position_or_len}
use Rattle.std.specs.Char.{is_ascii_digit}
use Rattle.std.specs.Str.{all_ascii_digits}
use Rattle.std.proofs.lemmas.Bool.{and_parts, and_from, eqb-true, false≢true, not-false}
use Rattle.std.proofs.lemmas.Bool.Decides.{nat_tests}
use Rattle.std.proofs.lemmas.Fmt.{decimal-digits_value}
use Rattle.std.proofs.lemmas.List.Elements.{All-from_recursion}
use Rattle.std.proofs.lemmas.Slice.Eq.{bytes_eq-Decides}
use Rattle.lois_base.specs.Data.{terms_of, comps_of, depth, depth_of_parts, depth_of_comp, depth_of_items}
use Rattle.lois_base.specs.Fits.{LitFits, CubeFits, ConstraintFits, Fits, PartsFit, CompFits, ItemsFit}
use Rattle.lois_base.specs.Validity.{is_admitted, AdmitsLit, AdmitsCube, AdmitsConstraint, AdmitsTerm, AdmitsParts, AdmitsComp, AdmitsItems, IsStrictLit, IsStrictCube, IsStrictConstraint, IsStrictTerm, PartsAreStrict, CompIsStrict, ItemsAreStrict, HasBoundedWidths, PartsHaveBoundedWidths, CompHasBoundedWidths, ItemsHaveBoundedWidths, count_of_parts}
use Rattle.lois_base.proofs.NumberTests.{zero_alone, less_true, less_false}
use Rattle.lois_answers.specs.Sound.{HasTags, PartsHaveTags, CompHasTags, ItemsHaveTags}
use Rattle.lois_reader.specs.declared.scope.Scope.{Scope}
use Rattle.lois_reader.specs.Draft.{Operand, word, level, LitDraft, ConstraintDraft, TermDraft, atom, tag, tuple, set, TermDrafts, no_terms, term, CompDraft, comp, CompDrafts, no_comps, more, IsNumber, IsOperand, IsLitDraft, IsConstraintDraft, IsTermDraft, AreTermDrafts, IsCompDraft, AreCompDrafts, draft_width}
use Rattle.lois_reader.specs.Pieces.{Piece, plain, each, value, is_among, comma, operand_piece, literal_pieces, cube_pieces, constraint_pieces, guard_pieces, level_pieces, binder_pieces, term_pieces, part_pieces, comp_pieces, item_pieces}
use Rattle.lois_reader.specs.Shape.{first_broken}
use Rattle.lois_reader.proofs.Fronts.{number_parts}
use Rattle.lois_reader.proofs.Forms.{word_is_name}
use Rattle.lois_reader.proofs.Outcome.{size, size_append}
use Rattle.lois_reader.proofs.ConstraintOutcome.{level_of, lit_of, cube_of, constraint_of}
use Rattle.lois_reader.proofs.TermOutcome.{guard_of, value_of, values_of, item_of, items_of}
use Rattle.lois_reader.proofs.DraftOf.{Unbroken, numerals, operand_draft, lit_draft, cube_draft, constraint_draft, numbers_from, guard_draft, term_draft, parts_draft, comp_draft, items_draft}

-- ---- pieces

pub unbroken_split : (ps qs : List Piece) → Unbroken (ps ++ qs) → Unbroken ps × Unbroken qs
unbroken_split [] qs h = (tt, h)
unbroken_split (p ∷ ps) qs h = let r = unbroken_split ps qs h.1 in ((h.0, r.0), r.1)

pub each_unbroken : {A : Type 0} (pieces : A → List Piece) (xs : List A) → Unbroken (each pieces xs) → AllByRecursion (λ x. Unbroken (pieces x)) xs
each_unbroken pieces [] h = tt
each_unbroken pieces (x ∷ xs) h = let r = unbroken_split (pieces x) (each pieces xs) h in (r.0, each_unbroken pieces xs r.1)

none_mapped : (f : ℕ → ℕ) (o : Option ℕ) → option_map f o ≡ None → o ≡ None
none_mapped f None e = refl
none_mapped f (Some k) e = absurd (some_none e)
  where
    some_none : {k : ℕ} → (let o : Option ℕ = Some k in o) ≡ None → ⊥
    some_none e = cc

pub unbroken_none : (ps : List Piece) → first_broken ps ≡ None → Unbroken ps
unbroken_none [] e = tt
unbroken_none (p ∷ ps) e =
    elim p.broken as (λ b. p.broken ≡ b → Unbroken (p ∷ ps)) [
      | true ↦ λ h. absurd (some_none (rw h at e))
      | false ↦ λ h. (h, unbroken_none ps (none_mapped (λ k. length p.bytes + k) (first_broken ps) (rw h at e)))
    ] refl
  where
    some_none : (let o : Option ℕ = Some 0 in o) ≡ None → ⊥
    some_none e = cc

-- ---- operands

digits_back : (ds : List ℕ) → list_all is_ascii_digit ds ≡ true → all_ascii_digits ds ≡ true
digits_back [] h = refl
digits_back (d ∷ ds) h = let parts = and_parts (is_ascii_digit d) (list_all is_ascii_digit ds) h in and_from (is_ascii_digit d) (all_ascii_digits ds) parts.0 (digits_back ds parts.1)

-- a number is written in one way
pub digits_of_value : (ds : List ℕ) → IsNumber ds → value ds < 2 ^ 64 → decimal (value ds) ≡ ds
digits_of_value ds form lt =
    let parts = number_parts ds form in
    decimal-digits_value numerals ds (digits_back ds parts.1) parts.0 (zero_alone (length ds) (get_or ds 0 0) parts.2) lt

-- the first place of a word that is among others
word_found : (w : List ℕ) (xs : List (List ℕ)) → is_among xs w ≡ true → (position_or_len (bytes_eq w) xs < length xs) × (get_or xs (position_or_len (bytes_eq w) xs) [] ≡ w)
word_found w [] h = absurd (false≢true h)
word_found w (x ∷ xs) h =
    elim (bytes_eq w x) as (λ b. bytes_eq w x ≡ b → (position_or_len (bytes_eq w) (x ∷ xs) < length (x ∷ xs)) × (get_or (x ∷ xs) (position_or_len (bytes_eq w) (x ∷ xs)) [] ≡ w)) [
      | true ↦ λ e. rw e (omega arith, sym ((bytes_eq-Decides w x).0 e))
      | false ↦ λ e. let later = word_found w xs (rw e at h) in
          rw e (omega (arith, later.0), next_place (position_or_len (bytes_eq w) xs) later.1)
    ] refl
  where
    next_place : (i : ℕ) → get_or xs i [] ≡ w → get_or (x ∷ xs) (1 + i) [] ≡ w
    next_place i f = let e : 1 + i ≡ suc i = omega arith in rw e f

-- the parameters are the first of n levels, which are numbers of the machine
pub record Room (s : Scope) (n : ℕ) : Type 0 where
  pub named : length s.names ≤ n
  pub small : n < 2 ^ 64

record OperandGood (s : Scope) (n : ℕ) (o : Operand) : Type 0 where
  pub fits : level_of s o < n
  pub same : operand_draft s.names (level_of s o) ≡ o

level_tests : (a b v : ℕ) → not (nat_le a v && nat_lt v b) ≡ false → (a ≤ v) × (v < b)
level_tests a b v h = (grind (arith, nat_tests), grind (arith, nat_tests))

operand_good : (s : Scope) (n : ℕ) (o : Operand) → IsOperand o → Room s n → (operand_piece s n o).broken ≡ false → OperandGood s n o
operand_good s n (word w) form room whole =
    let found = word_found w s.names (not-false (is_among s.names w) whole) in
    let lt : position_or_len (bytes_eq w) s.names < length s.names = found.0 in
    let le : length s.names ≤ n = room.named in
    record { fits = omega arith; same = rw (less_true (position_or_len (bytes_eq w) s.names) (length s.names) lt) (ap word found.1) }
operand_good s n (level ds) form room whole =
    let tests = level_tests (length s.names) n (value ds) whole in
    let small : n < 2 ^ 64 = room.small in
    let below : value ds < n = tests.1 in
    let lt : value ds < 2 ^ 64 = omega arith in
    record { fits = tests.1; same = rw (less_false (value ds) (length s.names) tests.0) (ap level (digits_of_value ds form lt)) }

-- ---- constraints

record LitGood (s : Scope) (n : ℕ) (l : LitDraft) : Type 0 where
  pub fits : LitFits n (lit_of s l)
  pub admits : AdmitsLit s.ordered (lit_of s l)
  pub strict : IsStrictLit (lit_of s l)
  pub same : lit_draft s.names (lit_of s l) ≡ l

lit_good : (s : Scope) (n : ℕ) (l : LitDraft) → IsLitDraft l → Room s n → Unbroken (literal_pieces s n l) → LitGood s n l
lit_good s n l form room whole =
    let a = operand_good s n l.left form.0 room whole.0 in
    let b = operand_good s n l.right form.1 room whole.1.1.0 in
    record {
      fits = (a.fits, b.fits);
      admits = not-false (is_admitted s.ordered l.op) whole.1.0;
      strict = form.2;
      same = ap (λ (o : Operand). let x : LitDraft = record { left = o; op = l.op; right = operand_draft s.names (level_of s l.right) } in x) a.same
          ∙ ap (λ (o : Operand). let x : LitDraft = record { left = l.left; op = l.op; right = o } in x) b.same;
    }

record CubeGood (s : Scope) (n : ℕ) (c : List LitDraft) : Type 0 where
  pub fits : AllByRecursion (LitFits n) (cube_of s c)
  pub admits : AllByRecursion (AdmitsLit s.ordered) (cube_of s c)
  pub strict : AllByRecursion IsStrictLit (cube_of s c)
  pub same : cube_draft s.names (cube_of s c) ≡ c

lits_good : (s : Scope) (n : ℕ) (ls : List LitDraft) → AllByRecursion IsLitDraft ls → Room s n → AllByRecursion (λ k. Unbroken (plain (codes " and ") ∷ literal_pieces s n k)) ls → CubeGood s n ls
lits_good s n [] forms room wholes = record { fits = tt; admits = tt; strict = tt; same = refl }
lits_good s n (l ∷ ls) forms room wholes = add_lit s n l ls (lit_good s n l forms.0 room wholes.0.1) (lits_good s n ls forms.1 room wholes.1)
  where
    add_lit : (s : Scope) (n : ℕ) (l : LitDraft) (ls : List LitDraft) → LitGood s n l → CubeGood s n ls → CubeGood s n (l ∷ ls)
    add_lit s n l ls a b = record {
      fits = (a.fits, b.fits);
      admits = (a.admits, b.admits);
      strict = (a.strict, b.strict);
      same = ap (λ (x : LitDraft). x ∷ cube_draft s.names (cube_of s ls)) a.same ∙ ap (λ (xs : List LitDraft). l ∷ xs) b.same;
    }

cube_good : (s : Scope) (n : ℕ) (c : List LitDraft) → AllByRecursion IsLitDraft c → Room s n → Unbroken (cube_pieces s n c) → CubeGood s n c
cube_good s n [] forms room whole = record { fits = tt; admits = tt; strict = tt; same = refl }
cube_good s n (l ∷ ls) forms room whole =
    let r = unbroken_split (literal_pieces s n l) (each (λ k. plain (codes " and ") ∷ literal_pieces s n k) ls) whole in
    lits_good s n (l ∷ ls) forms room ((refl, r.0), each_unbroken (λ k. plain (codes " and ") ∷ literal_pieces s n k) ls r.1)

pub record ConstraintGood (s : Scope) (n : ℕ) (g : ConstraintDraft) : Type 0 where
  pub fits : ConstraintFits n (constraint_of s g)
  pub admits : AdmitsConstraint s.ordered (constraint_of s g)
  pub strict : IsStrictConstraint (constraint_of s g)
  pub same : constraint_draft s.names (constraint_of s g) ≡ g

record CubesGood (s : Scope) (n : ℕ) (cs : ConstraintDraft) : Type 0 where
  pub fits : AllByRecursion (CubeFits n) (constraint_of s cs)
  pub admits : AllByRecursion (AdmitsCube s.ordered) (constraint_of s cs)
  pub strict : AllByRecursion IsStrictCube (constraint_of s cs)
  pub same : constraint_draft s.names (constraint_of s cs) ≡ cs

add_cube : (s : Scope) (n : ℕ) (c : List LitDraft) (cs : ConstraintDraft) → CubeGood s n c → CubesGood s n cs → CubesGood s n (c ∷ cs)
add_cube s n c cs a b = record {
  fits = (All-from_recursion (LitFits n) (cube_of s c) a.fits, b.fits);
  admits = (All-from_recursion (AdmitsLit s.ordered) (cube_of s c) a.admits, b.admits);
  strict = (All-from_recursion IsStrictLit (cube_of s c) a.strict, b.strict);
  same = ap (λ (x : List LitDraft). x ∷ constraint_draft s.names (constraint_of s cs)) a.same ∙ ap (λ (xs : ConstraintDraft). c ∷ xs) b.same;
}

cubes_good : (s : Scope) (n : ℕ) (cs : ConstraintDraft) → IsConstraintDraft cs → Room s n → AllByRecursion (λ d. Unbroken (plain (codes " or ") ∷ cube_pieces s n d)) cs → CubesGood s n cs
cubes_good s n [] forms room wholes = record { fits = tt; admits = tt; strict = tt; same = refl }
cubes_good s n (c ∷ cs) forms room wholes = add_cube s n c cs (cube_good s n c forms.0 room wholes.0.1) (cubes_good s n cs forms.1 room wholes.1)

all_cubes : (s : Scope) (n : ℕ) (g : ConstraintDraft) → CubesGood s n g → ConstraintGood s n g
all_cubes s n g h = record { fits = All-from_recursion (CubeFits n) (constraint_of s g) h.fits; admits = All-from_recursion (AdmitsCube s.ordered) (constraint_of s g) h.admits; strict = All-from_recursion IsStrictCube (constraint_of s g) h.strict; same = h.same }

pub constraint_good : (s : Scope) (n : ℕ) (g : ConstraintDraft) → IsConstraintDraft g → Room s n → Unbroken (constraint_pieces s n g) → ConstraintGood s n g
constraint_good s n [] forms room whole = all_cubes s n [] (record { fits = tt; admits = tt; strict = tt; same = refl })
constraint_good s n (c ∷ cs) forms room whole =
    let r = unbroken_split (cube_pieces s n c) (each (λ d. plain (codes " or ") ∷ cube_pieces s n d) cs) whole in
    all_cubes s n (c ∷ cs) (cubes_good s n (c ∷ cs) forms room ((refl, r.0), each_unbroken (λ d. plain (codes " or ") ∷ cube_pieces s n d) cs r.1))

-- ---- guards and binders

record GuardGood (s : Scope) (n : ℕ) (g : Option ConstraintDraft) : Type 0 where
  pub fits : ConstraintFits n (guard_of s g)
  pub admits : AdmitsConstraint s.ordered (guard_of s g)
  pub strict : IsStrictConstraint (guard_of s g)
  pub same : guard_draft s.names (guard_of s g) ≡ g

guard_of_good : (s : Scope) (n : ℕ) (g : ConstraintDraft) → ConstraintGood s n g → guard_draft s.names (constraint_of s g) ≡ Some (constraint_draft s.names (constraint_of s g)) → GuardGood s n (Some g)
guard_of_good s n g h is = record { fits = h.fits; admits = h.admits; strict = h.strict; same = is ∙ ap (λ (x : ConstraintDraft). Some x) h.same }

guard_good : (s : Scope) (n : ℕ) (g : Option ConstraintDraft) → IfSome g IsConstraintDraft → Room s n → Unbroken (guard_pieces s n g) → GuardGood s n g
guard_good s n None form room whole = record {
  fits = All-from_recursion (CubeFits n) ([] ∷ []) (All-from_recursion (LitFits n) [] tt, tt);
  admits = All-from_recursion (AdmitsCube s.ordered) ([] ∷ []) (All-from_recursion (AdmitsLit s.ordered) [] tt, tt);
  strict = All-from_recursion IsStrictCube ([] ∷ []) (All-from_recursion IsStrictLit [] tt, tt);
  same = refl;
}
guard_good s n (Some []) form room whole = guard_of_good s n [] (constraint_good s n [] form room whole.1) refl
guard_good s n (Some ([] ∷ [])) form room whole = absurd (false≢true (sym whole.1.0))
guard_good s n (Some ([] ∷ d ∷ ds)) form room whole = guard_of_good s n ([] ∷ d ∷ ds) (constraint_good s n ([] ∷ d ∷ ds) form room whole.1) refl
guard_good s n (Some ((l ∷ ls) ∷ cs)) form room whole = guard_of_good s n ((l ∷ ls) ∷ cs) (constraint_good s n ((l ∷ ls) ∷ cs) form room whole.1) refl

levels_good : (n : ℕ) (bs : List (List ℕ)) → AllByRecursion IsNumber bs → Unbroken (level_pieces n bs) → n + length bs < 2 ^ 64 → numbers_from n (length bs) ≡ bs
levels_good n [] forms whole small = refl
levels_good n (b ∷ bs) forms whole small =
    let is : value b ≡ n = eqb-true (value b) n (not-false (value b == n) whole.1.0) in
    let lt : value b < 2 ^ 64 = omega arith in
    ap (λ (x : List ℕ). x ∷ numbers_from (suc n) (length bs)) (ap decimal (sym is) ∙ digits_of_value b forms.0 lt)
    ∙ ap (λ (xs : List (List ℕ)). b ∷ xs) (levels_good (suc n) bs forms.1 whole.1.1 (omega arith))

binders_good : (n : ℕ) (bs : List (List ℕ)) → AllByRecursion IsNumber bs → Unbroken (binder_pieces n bs) → n + length bs < 2 ^ 64 → numbers_from n (length bs) ≡ bs
binders_good n [] forms whole small = refl
binders_good n (b ∷ bs) forms whole small = levels_good n (b ∷ bs) forms whole.1 small

levels_size : (n : ℕ) (bs : List (List ℕ)) → length bs ≤ size (level_pieces n bs)
levels_size n [] = omega arith
levels_size n (b ∷ bs) = omega (arith, levels_size (suc n) bs)

binders_size : (n : ℕ) (bs : List (List ℕ)) → length bs ≤ size (binder_pieces n bs)
binders_size n [] = omega arith
binders_size n (b ∷ bs) = omega (arith, levels_size n (b ∷ bs))

-- ---- terms

pub record TermGood (s : Scope) (n d : ℕ) (t : TermDraft) : Type 0 where
  pub fits : Fits n (value_of s t)
  pub tags : HasTags (value_of s t)
  pub widths : HasBoundedWidths (value_of s t)
  pub admits : AdmitsTerm s.ordered (value_of s t)
  pub strict : IsStrictTerm (value_of s t)
  pub deep : depth (value_of s t) ≤ d
  pub same : term_draft s.names n (value_of s t) ≡ t

record PartsGood (s : Scope) (n d : ℕ) (ts : TermDrafts) : Type 0 where
  pub fits : PartsFit n (terms_of (values_of s ts))
  pub tags : PartsHaveTags (terms_of (values_of s ts))
  pub widths : PartsHaveBoundedWidths (terms_of (values_of s ts))
  pub admits : AdmitsParts s.ordered (terms_of (values_of s ts))
  pub strict : PartsAreStrict (terms_of (values_of s ts))
  pub deep : depth_of_parts (terms_of (values_of s ts)) ≤ d
  pub count : count_of_parts (terms_of (values_of s ts)) ≡ draft_width ts
  pub same : parts_draft s.names n (terms_of (values_of s ts)) ≡ ts

record CompGood (s : Scope) (n d : ℕ) (c : CompDraft) : Type 0 where
  pub fits : CompFits n (item_of s c)
  pub tags : CompHasTags (item_of s c)
  pub widths : CompHasBoundedWidths (item_of s c)
  pub admits : AdmitsComp s.ordered (item_of s c)
  pub strict : CompIsStrict (item_of s c)
  pub deep : depth_of_comp (item_of s c) ≤ d
  pub same : comp_draft s.names n (item_of s c) ≡ c

record ItemsGood (s : Scope) (n d : ℕ) (cs : CompDrafts) : Type 0 where
  pub fits : ItemsFit n (comps_of (items_of s cs))
  pub tags : ItemsHaveTags (comps_of (items_of s cs))
  pub widths : ItemsHaveBoundedWidths (comps_of (items_of s cs))
  pub admits : AdmitsItems s.ordered (comps_of (items_of s cs))
  pub strict : ItemsAreStrict (comps_of (items_of s cs))
  pub deep : depth_of_items (comps_of (items_of s cs)) ≤ d
  pub same : items_draft s.names n (comps_of (items_of s cs)) ≡ cs

pub le_back : (a b : ℕ) → not (nat_le a b) ≡ false → a ≤ b
le_back a b h = grind (arith, nat_tests)

tuple_good : (s : Scope) (n d : ℕ) (ts : TermDrafts) → 2 ≤ draft_width ts → draft_width ts ≤ 8 → PartsGood s n d ts → TermGood s n (suc d) (tuple ts)
tuple_good s n d ts many few h = record {
  fits = h.fits;
  tags = h.tags;
  widths = (omega (arith, h.count), omega (arith, h.count), h.widths);
  admits = h.admits;
  strict = h.strict;
  deep = omega (arith, h.deep);
  same = ap tuple h.same;
}

add_part : (s : Scope) (n d : ℕ) (t : TermDraft) (ts : TermDrafts) → TermGood s n d t → PartsGood s n d ts → PartsGood s n d (term t ts)
add_part s n d t ts a b = record {
  fits = (a.fits, b.fits);
  tags = (a.tags, b.tags);
  widths = (a.widths, b.widths);
  admits = (a.admits, b.admits);
  strict = (a.strict, b.strict);
  deep = omega (arith, a.deep, b.deep);
  count = ap suc b.count;
  same = ap (λ (x : TermDraft). term x (parts_draft s.names n (terms_of (values_of s ts)))) a.same ∙ ap (term t) b.same;
}

add_item : (s : Scope) (n d : ℕ) (c : CompDraft) (cs : CompDrafts) → CompGood s n d c → ItemsGood s n d cs → ItemsGood s n d (more c cs)
add_item s n d c cs a b = record {
  fits = (a.fits, b.fits);
  tags = (a.tags, b.tags);
  widths = (a.widths, b.widths);
  admits = (a.admits, b.admits);
  strict = (a.strict, b.strict);
  deep = omega (arith, a.deep, b.deep);
  same = ap (λ (x : CompDraft). more x (items_draft s.names n (comps_of (items_of s cs)))) a.same ∙ ap (more c) b.same;
}

comp_of_good : (s : Scope) (n d : ℕ) (t : TermDraft) (bs : List (List ℕ)) (g : Option ConstraintDraft) → n + length bs < 2 ^ 64 → TermGood s (n + length bs) d t → numbers_from n (length bs) ≡ bs → GuardGood s (n + length bs) g → CompGood s n d (comp t bs g)
comp_of_good s n d t bs g small a levels b = record {
  fits = (small, b.fits, a.fits);
  tags = a.tags;
  widths = a.widths;
  admits = (b.admits, a.admits);
  strict = (b.strict, a.strict);
  deep = a.deep;
  same = ap (λ (x : TermDraft). comp x (numbers_from n (length bs)) (guard_draft s.names (guard_of s g))) a.same
      ∙ ap (λ (x : List (List ℕ)). comp t x (guard_draft s.names (guard_of s g))) levels
      ∙ ap (λ (x : Option ConstraintDraft). comp t bs x) b.same;
}

mutual
  pub term_good : (s : Scope) (n d : ℕ) (t : TermDraft) → Room s n → IsTermDraft d t → Unbroken (term_pieces s n t) → n + size (term_pieces s n t) < 2 ^ 64 → TermGood s n d t
  term_good s n d (atom o) room form whole short =
      let a = operand_good s n o form room whole.0 in
      record { fits = a.fits; tags = tt; widths = tt; admits = tt; strict = tt; deep = omega arith; same = ap atom a.same }
  term_good s n d (tag w) room form whole short =
      record { fits = tt; tags = word_is_name w form (le_back (length w) 64 whole.0); widths = tt; admits = tt; strict = tt; deep = omega arith; same = refl }
  term_good s n zero (tuple ts) room form whole short = absurd form
  term_good s n zero (set cs) room form whole short = absurd form
  term_good s n (suc d) (tuple ts) room form whole short =
      let r = unbroken_split (part_pieces s n [] ts) (plain (codes ")") ∷ []) whole.1 in
      tuple_good s n d ts form.0 (le_back (draft_width ts) 8 whole.0)
      (parts_good s n d [] ts room form.1 r.0 (omega (arith, size_append (part_pieces s n [] ts) (plain (codes ")") ∷ []))))
  term_good s n (suc d) (set cs) room form whole short =
      let r = unbroken_split (item_pieces s n [] cs) (plain (codes "}") ∷ []) whole.1 in
      let h = items_good s n d [] cs room form r.0 (omega (arith, size_append (item_pieces s n [] cs) (plain (codes "}") ∷ []))) in
      record { fits = h.fits; tags = h.tags; widths = h.widths; admits = h.admits; strict = h.strict; deep = omega (arith, h.deep); same = ap set h.same }

  parts_good : (s : Scope) (n d : ℕ) (first : List Piece) (ts : TermDrafts) → Room s n → AreTermDrafts d ts → Unbroken (part_pieces s n first ts) → n + size (part_pieces s n first ts) < 2 ^ 64 → PartsGood s n d ts
  parts_good s n d first no_terms room form whole short = record { fits = tt; tags = tt; widths = tt; admits = tt; strict = tt; deep = omega arith; count = refl; same = refl }
  parts_good s n d first (term t ts) room form whole short =
      let r = unbroken_split (first ++ term_pieces s n t) (part_pieces s n comma ts) whole in
      let q = unbroken_split first (term_pieces s n t) r.0 in
      let all = size_append (first ++ term_pieces s n t) (part_pieces s n comma ts) in
      let front = size_append first (term_pieces s n t) in
      add_part s n d t ts (term_good s n d t room form.0 q.1 (omega arith)) (parts_good s n d comma ts room form.1 r.1 (omega arith))

  comp_good : (s : Scope) (n d : ℕ) (c : CompDraft) → Room s n → IsCompDraft d c → Unbroken (comp_pieces s n c) → n + size (comp_pieces s n c) < 2 ^ 64 → CompGood s n d c
  comp_good s n d (comp t bs g) room form whole short =
      let m : ℕ = n + length bs in
      let item : List Piece = term_pieces s m t in
      let binders : List Piece = binder_pieces n bs in
      let guard : List Piece = guard_pieces s m g in
      let r = unbroken_split (item ++ binders) guard whole in
      let q = unbroken_split item binders r.0 in
      let all : size ((term_pieces s (n + length bs) t ++ binder_pieces n bs) ++ guard_pieces s (n + length bs) g) ≡ size (term_pieces s (n + length bs) t ++ binder_pieces n bs) + size (guard_pieces s (n + length bs) g) = size_append (item ++ binders) guard in
      let front : size (term_pieces s (n + length bs) t ++ binder_pieces n bs) ≡ size (term_pieces s (n + length bs) t) + size (binder_pieces n bs) = size_append item binders in
      let levels : length bs ≤ size (binder_pieces n bs) = binders_size n bs in
      let small : n + length bs < 2 ^ 64 = omega arith in
      let named : length s.names ≤ n = room.named in
      let inner : Room s (n + length bs) = record { named = omega arith; small = small } in
      comp_of_good s n d t bs g small (term_good s m d t inner form.0 q.0 (omega arith)) (binders_good n bs form.1 q.1 small) (guard_good s m g form.2 inner r.1)

  items_good : (s : Scope) (n d : ℕ) (first : List Piece) (cs : CompDrafts) → Room s n → AreCompDrafts d cs → Unbroken (item_pieces s n first cs) → n + size (item_pieces s n first cs) < 2 ^ 64 → ItemsGood s n d cs
  items_good s n d first no_comps room form whole short = record { fits = tt; tags = tt; widths = tt; admits = tt; strict = tt; deep = omega arith; same = refl }
  items_good s n d first (more c cs) room form whole short =
      let r = unbroken_split (first ++ comp_pieces s n c) (item_pieces s n comma cs) whole in
      let q = unbroken_split first (comp_pieces s n c) r.0 in
      let all = size_append (first ++ comp_pieces s n c) (item_pieces s n comma cs) in
      let front = size_append first (comp_pieces s n c) in
      add_item s n d c cs (comp_good s n d c room form.0 q.1 (omega arith)) (items_good s n d comma cs room form.1 r.1 (omega arith))
