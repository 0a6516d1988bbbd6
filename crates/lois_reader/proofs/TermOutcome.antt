-- What reading gives on the pieces of terms.
use Rattle.std.proofs.Common.{◌≡◌, ℕ, zero, suc, ◌+◌, ◌<◌, Bool, true, false, cond, not, ◌&&◌, ◌==◌, List, [], ◌∷◌, ◌++◌, length, map, Option, Some, None, Result, Ok, Err, refl, sym, ap, ◌∙◌, append_assoc, arith, length-append}
use Rattle.std.specs.Prelude.{codes, nat_le, nat_lt, IfSome}
use Rattle.std.specs.List.{AllByRecursion}
use Rattle.std.proofs.lemmas.Bool.Decides.{nat_tests}
use Rattle.lois_base.specs.Data.{TermD, var, tup, coll, terms_of, CompD, comps_of}
use Rattle.lois_base.specs.Data as data_of
use Rattle.lois_base.specs.declared.guards.Lit.{Lit}
use Rattle.lois_reader.specs.declared.scope.Scope.{Scope}
use Rattle.lois_reader.specs.Draft.{Operand, word, level, LitDraft, ConstraintDraft, TermDraft, atom, tag, tuple, set, TermDrafts, no_terms, term, CompDraft, comp, CompDrafts, no_comps, more, IsWord, IsNumber, IsOperand, IsLitDraft, IsConstraintDraft, IsTermDraft, AreTermDrafts, IsCompDraft, AreCompDrafts, draft_width}
use Rattle.lois_reader.specs.Pieces.{Piece, plain, each, value, comma, operand_piece, literal_pieces, cube_pieces, constraint_pieces, guard_pieces, level_pieces, binder_pieces, term_pieces, part_pieces, comp_pieces, item_pieces}
use Rattle.lois_reader.specs.Shape.{text_of_pieces}
use Rattle.lois_reader.specs.Reading.{◌>>=◌, End, first_byte, begins}
use Rattle.lois_reader.specs.Ends.{fixed_end, term_end}
use Rattle.lois_reader.specs.Values.{given, operand_at, keyword, follows, list_at, constraint_at}
use Rattle.lois_reader.specs.TermValues.{level_count, binder_count, binder_at, levels_from, binders_at, ends_true, true_alone, behind_if, guard_at, tag_at, var_at, part_count, parts_at, closed_parts_at, tuple_at, comp_at, comps_at, closed_comps_at, set_at, term_at}
use Rattle.lois_reader.proofs.Fronts.{EndsWord, EndsNumber, ends_number, word_front, number_front, word_begins}
use Rattle.lois_reader.proofs.Outcome.{size, size_is, size_append, out, map_out, part_step, text_split, list_out}
use Rattle.lois_reader.proofs.ConstraintOutcome.{Closes, level_of, constraint_of, operand_out, constraint_out, literal_no_keyword, keyword_is, other_keyword, list_enough}
use Rattle.lois_reader.proofs.EndsFronts.{level_front, term_front, tail_ends, no_brace, comp_text, part_ends, if_text, parts_list, items_list, further_part, further_item, parts_are, items_are, parts_good, items_good, brace_closes, comma_closes}

-- the values that drafts stand for, where they break no rule
abbrev pub guard_of : Scope → Option ConstraintDraft → List (List Lit)
guard_of s None = [] ∷ []
guard_of s (Some g) = constraint_of s g

abbrev mutual
  pub value_of : Scope → TermDraft → TermD
  value_of s (atom o) = var (level_of s o)
  value_of s (tag w) = data_of.tag w
  value_of s (tuple ts) = tup (terms_of (values_of s ts))
  value_of s (set cs) = coll (comps_of (items_of s cs))

  pub values_of : Scope → TermDrafts → List TermD
  values_of s no_terms = []
  values_of s (term t ts) = value_of s t ∷ values_of s ts

  pub item_of : Scope → CompDraft → CompD
  item_of s (comp t bs g) = data_of.comp (length bs) (guard_of s g) (value_of s t)

  pub items_of : Scope → CompDrafts → List CompD
  items_of s no_comps = []
  items_of s (more c cs) = item_of s c ∷ items_of s cs

values_are : (s : Scope) (ts : TermDrafts) → map (value_of s) (parts_list ts) ≡ values_of s ts
values_are s no_terms = refl
values_are s (term t ts) = ap (λ (xs : List TermD). value_of s t ∷ xs) (values_are s ts)

items_same : (s : Scope) (cs : CompDrafts) → map (item_of s) (items_list cs) ≡ items_of s cs
items_same s no_comps = refl
items_same s (more c cs) = ap (λ (xs : List CompD). item_of s c ∷ xs) (items_same s cs)

-- ---- binders

-- what follows the pieces, or how many bytes are left at the first broken one
abbrev pub ends : List Piece → List ℕ → End
ends [] r = Ok r
ends (p ∷ ps) r = cond p.broken (Err (length p.bytes + (size ps + length r))) (ends ps r)

bind_cond : {B : Type 0} (b : Bool) (l m : ℕ) (x : End) (y : Result B ℕ) (f : List ℕ → Result B ℕ) → l ≡ m → (x >>= f) ≡ y → (cond b (Err l) x >>= f) ≡ cond b (Err m) y
bind_cond true l m x y f e h = ap (λ (n : ℕ). Err n) e
bind_cond false l m x y f e h = h

bind_ends : {B : Type 0} (ps qs : List Piece) (b : B) (r : List ℕ) (f : List ℕ → Result (B × List ℕ) ℕ) → f (text_of_pieces qs ++ r) ≡ out qs b r → (ends ps (text_of_pieces qs ++ r) >>= f) ≡ out (ps ++ qs) b r
bind_ends [] qs b r f e = e
bind_ends (p ∷ ps) qs b r f e =
    bind_cond p.broken (length p.bytes + (size ps + length (text_of_pieces qs ++ r))) (length p.bytes + (size (ps ++ qs) + length r)) (ends ps (text_of_pieces qs ++ r)) (out (ps ++ qs) b r) f
    (omega (arith, size_append ps qs, length-append (text_of_pieces qs) r, size_is qs))
    (bind_ends ps qs b r f e)

-- what may stand behind the levels of binders
pub record ClosesLevels (q : List ℕ) : Type 0 where
  pub number : EndsNumber q
  pub level : follows 36 q ≡ false

levels_number : (bs : List (List ℕ)) (i : ℕ) (q : List ℕ) → EndsNumber q → EndsNumber (text_of_pieces (level_pieces i bs) ++ q)
levels_number [] i q h = h
levels_number (b ∷ bs) i q h = refl

pub level_text : (b : List ℕ) (bs : List (List ℕ)) (i : ℕ) (q : List ℕ) → text_of_pieces (level_pieces i (b ∷ bs)) ++ q ≡ codes " $" ++ (b ++ (text_of_pieces (level_pieces (suc i) bs) ++ q))
level_text b bs i q = ap (λ (u : List ℕ). codes " $" ++ u) (append_assoc b (text_of_pieces (level_pieces (suc i) bs)) q)

counted : (b t : List ℕ) (k m : ℕ) → IsNumber b → EndsNumber t → level_count k t ≡ Ok m → level_count (suc k) (codes " $" ++ (b ++ t)) ≡ Ok (suc m)
counted b t k m form ends_b later = ap (λ e. e >>= level_count k >>= (λ (i : ℕ). Ok (suc i))) (level_front b t form ends_b) ∙ ap (λ e. e >>= (λ (i : ℕ). Ok (suc i))) later

level_count_is : (bs : List (List ℕ)) (i k : ℕ) (q : List ℕ) → AllByRecursion IsNumber bs → ClosesLevels q → length (text_of_pieces (level_pieces i bs) ++ q) < k → level_count k (text_of_pieces (level_pieces i bs) ++ q) ≡ Ok (length bs)
level_count_is bs i zero q forms closes enough = absurd (omega arith)
level_count_is [] i (suc k) q forms closes enough = rw closes.level refl
level_count_is (b ∷ bs) i (suc k) q forms closes enough =
    let t : List ℕ = text_of_pieces (level_pieces (suc i) bs) ++ q in
    let short : length (text_of_pieces (level_pieces (suc i) bs) ++ q) < k = omega (arith, ap length (level_text b bs i q), length-append (codes " $") (b ++ t), length-append b t) in
    ap (level_count (suc k)) (level_text b bs i q) ∙ counted b t k (length bs) forms.0 (levels_number bs (suc i) q closes.number) (level_count_is bs (suc i) k q forms.1 closes short)

count_none : (q : List ℕ) → follows 102 q ≡ false → binder_count q ≡ Ok 0
unfolding binder_count
count_none q none = rw none refl

count_for : (t : List ℕ) (m : ℕ) → level_count (suc (length (codes " $" ++ t))) (codes " $" ++ t) ≡ Ok m → binder_count (codes " for $" ++ t) ≡ Ok m
unfolding binder_count
count_for t m e = e

pub for_text : (b : List ℕ) (bs : List (List ℕ)) (i : ℕ) (q : List ℕ) → text_of_pieces (binder_pieces i (b ∷ bs)) ++ q ≡ codes " for $" ++ (b ++ (text_of_pieces (level_pieces (suc i) bs) ++ q))
for_text b bs i q = ap (λ (u : List ℕ). codes " for $" ++ u) (append_assoc b (text_of_pieces (level_pieces (suc i) bs)) q)

pub binder_count_is : (bs : List (List ℕ)) (i : ℕ) (q : List ℕ) → AllByRecursion IsNumber bs → ClosesLevels q → follows 102 q ≡ false → binder_count (text_of_pieces (binder_pieces i bs) ++ q) ≡ Ok (length bs)
binder_count_is [] i q forms closes none = count_none q none
binder_count_is (b ∷ bs) i q forms closes none =
    let t : List ℕ = b ++ (text_of_pieces (level_pieces (suc i) bs) ++ q) in
    let counted_all : level_count (suc (length (codes " $" ++ (b ++ (text_of_pieces (level_pieces (suc i) bs) ++ q))))) (codes " $" ++ (b ++ (text_of_pieces (level_pieces (suc i) bs) ++ q))) ≡ Ok (suc (length bs)) =
    ap (λ (u : List ℕ). level_count (suc (length u)) u) (sym (level_text b bs i q)) ∙ level_count_is (b ∷ bs) i (suc (length (text_of_pieces (level_pieces i (b ∷ bs)) ++ q))) q forms closes (omega arith) in
    ap binder_count (for_text b bs i q) ∙ count_for t (suc (length bs)) counted_all

-- the test of a binder's number
same_number : (v n : ℕ) → (nat_le n v && nat_lt v (suc n)) ≡ (v == n)
same_number v n = grind (arith, nat_tests)

given_end : (b c : Bool) (v l m : ℕ) (t : List ℕ) → b ≡ c → l ≡ m → (given (cond b (Some v) None) l >>= λ i. Ok t) ≡ cond (not c) (Err m) (Ok t)
given_end true true v l m t e f = refl
given_end false false v l m t e f = ap (λ (n : ℕ). Err n) f
given_end true false v l m t e f = absurd (cc)
given_end false true v l m t e f = absurd (cc)

binder_is : (n : ℕ) (b t : List ℕ) → IsNumber b → EndsNumber t → binder_at n (codes "$" ++ (b ++ t)) ≡ cond (not (value b == n)) (Err (suc (length (b ++ t)))) (Ok t)
unfolding binder_at
binder_is n b t form ends_b = rw (number_front b t form ends_b) (given_end (nat_le n (value b) && nat_lt (value b) (suc n)) (value b == n) (value b) (suc (length (b ++ t))) (suc (length (b ++ t))) t (same_number (value b) n) refl)

cond_bind : (c : Bool) (l m : ℕ) (t : List ℕ) (f : List ℕ → End) (y : End) → l ≡ m → f t ≡ y → (cond (not c) (Err l) (Ok t) >>= f) ≡ cond (not c) (Err m) y
cond_bind true l m t f y e h = h
cond_bind false l m t f y e h = ap (λ (n : ℕ). Err n) e

levels_step : (b t : List ℕ) (k i m : ℕ) (y : End) → IsNumber b → EndsNumber t → suc (length (b ++ t)) ≡ m → levels_from k (suc i) t ≡ y → levels_from (suc k) i (codes " $" ++ (b ++ t)) ≡ cond (not (value b == i)) (Err m) y
levels_step b t k i m y form ends_b l later = ap (λ e. e >>= levels_from k (suc i)) (binder_is i b t form ends_b) ∙ cond_bind (value b == i) (suc (length (b ++ t))) m t (levels_from k (suc i)) y l later

levels_from_is : (bs : List (List ℕ)) (i k : ℕ) (q : List ℕ) → AllByRecursion IsNumber bs → ClosesLevels q → length (text_of_pieces (level_pieces i bs) ++ q) < k → levels_from k i (text_of_pieces (level_pieces i bs) ++ q) ≡ ends (level_pieces i bs) q
levels_from_is bs i zero q forms closes enough = absurd (omega arith)
levels_from_is [] i (suc k) q forms closes enough = rw closes.level refl
levels_from_is (b ∷ bs) i (suc k) q forms closes enough =
    let t : List ℕ = text_of_pieces (level_pieces (suc i) bs) ++ q in
    let short : length (text_of_pieces (level_pieces (suc i) bs) ++ q) < k = omega (arith, ap length (level_text b bs i q), length-append (codes " $") (b ++ t), length-append b t) in
    let left : suc (length (b ++ (text_of_pieces (level_pieces (suc i) bs) ++ q))) ≡ suc (length b) + (size (level_pieces (suc i) bs) + length q) = omega (arith, length-append b t, length-append (text_of_pieces (level_pieces (suc i) bs)) q, size_is (level_pieces (suc i) bs)) in
    ap (levels_from (suc k) i) (level_text b bs i q) ∙ levels_step b t k i (suc (length b) + (size (level_pieces (suc i) bs) + length q)) (ends (level_pieces (suc i) bs) q) forms.0 (levels_number bs (suc i) q closes.number) left (levels_from_is bs (suc i) k q forms.1 closes short)

binders_none : (i : ℕ) (q : List ℕ) → follows 102 q ≡ false → binders_at i q ≡ Ok q
unfolding binders_at
binders_none i q none = rw none refl

binders_for : (i : ℕ) (t : List ℕ) (y : End) → levels_from (suc (length (codes " $" ++ t))) i (codes " $" ++ t) ≡ y → binders_at i (codes " for $" ++ t) ≡ y
unfolding binders_at
binders_for i t y e = e

pub binders_out : (bs : List (List ℕ)) (i : ℕ) (q : List ℕ) → AllByRecursion IsNumber bs → ClosesLevels q → follows 102 q ≡ false → binders_at i (text_of_pieces (binder_pieces i bs) ++ q) ≡ ends (binder_pieces i bs) q
binders_out [] i q forms closes none = binders_none i q none
binders_out (b ∷ bs) i q forms closes none =
    let t : List ℕ = b ++ (text_of_pieces (level_pieces (suc i) bs) ++ q) in
    let all : levels_from (suc (length (codes " $" ++ (b ++ (text_of_pieces (level_pieces (suc i) bs) ++ q))))) i (codes " $" ++ (b ++ (text_of_pieces (level_pieces (suc i) bs) ++ q))) ≡ ends (level_pieces i (b ∷ bs)) q =
    ap (λ (u : List ℕ). levels_from (suc (length u)) i u) (sym (level_text b bs i q)) ∙ levels_from_is (b ∷ bs) i (suc (length (text_of_pieces (level_pieces i (b ∷ bs)) ++ q))) q forms closes (omega arith) in
    ap (binders_at i) (for_text b bs i q) ∙ binders_for i t (ends (level_pieces i (b ∷ bs)) q) all

-- ---- guards

behind_alone : (s : Scope) (n : ℕ) (t : List ℕ) → true_alone t ≡ true → behind_if s n t ≡ Err (length t)
unfolding behind_if
behind_alone s n t e = rw e refl

behind_other : (s : Scope) (n : ℕ) (t : List ℕ) → true_alone t ≡ false → behind_if s n t ≡ constraint_at s n t
unfolding behind_if
behind_other s n t e = rw e refl

guard_if_is : (s : Scope) (n : ℕ) (t : List ℕ) → guard_at s n (codes " if " ++ t) ≡ behind_if s n t
unfolding guard_at
guard_if_is s n t = refl

guard_none_is : (s : Scope) (n : ℕ) (r : List ℕ) → begins 32 r ≡ false → guard_at s n r ≡ Ok ([] ∷ [], r)
unfolding guard_at
guard_none_is s n r none = rw none refl

alone_keyword : (t : List ℕ) (k : Option (List ℕ)) → keyword (codes "true") t ≡ k → true_alone t ≡ ends_true k
unfolding true_alone
alone_keyword t k e = rw e refl

constraint_behind : (s : Scope) (n : ℕ) (g : ConstraintDraft) (r : List ℕ) → IsConstraintDraft g → Closes r → true_alone (text_of_pieces (constraint_pieces s n g) ++ r) ≡ false → guard_pieces s n (Some g) ≡ plain (codes " if ") ∷ constraint_pieces s n g → guard_at s n (text_of_pieces (guard_pieces s n (Some g)) ++ r) ≡ out (guard_pieces s n (Some g)) (constraint_of s g) r
constraint_behind s n g r forms closes other same =
    let t : List ℕ = text_of_pieces (constraint_pieces s n g) ++ r in
    ap (guard_at s n) (if_text s n g r) ∙ guard_if_is s n t ∙ behind_other s n t other ∙ constraint_out s n g forms r closes
    ∙ ap (λ (ps : List Piece). out ps (constraint_of s g) r) (sym same)

cube_no_true : (s : Scope) (n : ℕ) (l : LitDraft) (ls : List LitDraft) (cs : ConstraintDraft) (r : List ℕ) → IsLitDraft l → keyword (codes "true") (text_of_pieces (constraint_pieces s n ((l ∷ ls) ∷ cs)) ++ r) ≡ None
cube_no_true s n l ls cs r form =
    let ands : List Piece = each (λ k. plain (codes " and ") ∷ literal_pieces s n k) ls in
    let ors : List Piece = each (λ c. plain (codes " or ") ∷ cube_pieces s n c) cs in
    ap (λ (ps : List Piece). keyword (codes "true") (text_of_pieces ps ++ r)) (append_assoc (literal_pieces s n l) ands ors) ∙ literal_no_keyword s n (codes "true") l (ands ++ ors) r form

pub guard_out : (s : Scope) (n : ℕ) (g : Option ConstraintDraft) (r : List ℕ) → IfSome g IsConstraintDraft → Closes r → guard_at s n (text_of_pieces (guard_pieces s n g) ++ r) ≡ out (guard_pieces s n g) (guard_of s g) r
guard_out s n None r forms closes = guard_none_is s n r closes.space
guard_out s n (Some []) r forms closes =
    constraint_behind s n [] r forms closes (alone_keyword (codes "false" ++ r) None (other_keyword (codes "true") (codes "false") r refl refl closes.word_ends)) refl
guard_out s n (Some ([] ∷ [])) r forms closes =
    let alone : true_alone (codes "true" ++ r) ≡ true = alone_keyword (codes "true" ++ r) (Some r) (keyword_is (codes "true") r refl refl closes.word_ends closes.op) ∙ ap not closes.space in
    guard_if_is s n (codes "true" ++ r) ∙ behind_alone s n (codes "true" ++ r) alone ∙ ap (λ (k : ℕ). Err k) (omega (arith, length-append (codes "true") r))
guard_out s n (Some ([] ∷ d ∷ ds)) r forms closes =
    let t : List ℕ = text_of_pieces (each (λ c. plain (codes " or ") ∷ cube_pieces s n c) (d ∷ ds)) ++ r in
    constraint_behind s n ([] ∷ d ∷ ds) r forms closes (alone_keyword (codes "true" ++ t) (Some t) (keyword_is (codes "true") t refl refl refl refl)) refl
guard_out s n (Some ((l ∷ ls) ∷ cs)) r forms closes =
    constraint_behind s n ((l ∷ ls) ∷ cs) r forms closes (alone_keyword (text_of_pieces (constraint_pieces s n ((l ∷ ls) ∷ cs)) ++ r) None (cube_no_true s n l ls cs r forms.0.0)) refl

-- ---- comprehensions

no_follow : (b : ℕ) (r : List ℕ) → begins 32 r ≡ false → follows b r ≡ false
no_follow b [] h = refl
no_follow b (c ∷ r) h = rw h refl

guard_levels : (s : Scope) (n : ℕ) (g : Option ConstraintDraft) (r : List ℕ) → Closes r → ClosesLevels (text_of_pieces (guard_pieces s n g) ++ r)
guard_levels s n None r closes = record { number = ends_number r closes.word_ends; level = no_follow 36 r closes.space }
guard_levels s n (Some g) r closes = rw (if_text s n g r) (record { number = refl; level = refl })

guard_no_for : (s : Scope) (n : ℕ) (g : Option ConstraintDraft) (r : List ℕ) → Closes r → follows 102 (text_of_pieces (guard_pieces s n g) ++ r) ≡ false
guard_no_for s n None r closes = no_follow 102 r closes.space
guard_no_for s n (Some g) r closes = rw (if_text s n g r) refl

-- a comprehension's item, binders and guard, once its binders are counted
abbrev pub counted_comp : (ℕ → List ℕ → Result (TermD × List ℕ) ℕ) → Scope → ℕ → ℕ → List ℕ → Result (CompD × List ℕ) ℕ
counted_comp t s n m u = t (n + m) u >>= λ item. binders_at n item.1 >>= λ after. guard_at s (n + m) after >>= λ g. Ok (data_of.comp m g.0 item.0, g.1)

comp_counted : (e : List ℕ → End) (t : ℕ → List ℕ → Result (TermD × List ℕ) ℕ) (s : Scope) (n m : ℕ) (u tail : List ℕ) → e u ≡ Ok tail → binder_count tail ≡ Ok m → comp_at e t s n u ≡ counted_comp t s n m u
unfolding comp_at
comp_counted e t s n m u tail first_byte second = rw (first_byte, second) refl

abbrev InnerOut : ℕ → Scope → Type 0
InnerOut d s = (k : ℕ) (x : TermDraft) (q : List ℕ) → IsTermDraft d x → EndsWord q → term_at d s k (text_of_pieces (term_pieces s k x) ++ q) ≡ out (term_pieces s k x) (value_of s x) q

comp_out : (d : ℕ) (s : Scope) (n : ℕ) (c : CompDraft) (r : List ℕ) → InnerOut d s → IsCompDraft d c → Closes r → comp_at (term_end d) (term_at d s) s n (text_of_pieces (comp_pieces s n c) ++ r) ≡ out (comp_pieces s n c) (item_of s c) r
comp_out d s n (comp t bs g) r inner form closes =
    let m : ℕ = length bs in
    let item : List Piece = term_pieces s (n + m) t in
    let binders : List Piece = binder_pieces n bs in
    let guard : List Piece = guard_pieces s (n + m) g in
    let tail : List ℕ = text_of_pieces (binders ++ guard) ++ r in
    let whole : List ℕ = text_of_pieces (comp_pieces s n (comp t bs g)) ++ r in
    let split : text_of_pieces (binder_pieces n bs ++ guard_pieces s (n + length bs) g) ++ r ≡ text_of_pieces (binder_pieces n bs) ++ (text_of_pieces (guard_pieces s (n + length bs) g) ++ r) = text_split binders guard r in
    let levels = guard_levels s (n + m) g r closes in
    let no_for = guard_no_for s (n + m) g r closes in
    let word_ends = tail_ends s n (n + m) bs g r closes in
    let ended : term_end d (text_of_pieces (comp_pieces s n (comp t bs g)) ++ r) ≡ Ok (text_of_pieces (binder_pieces n bs ++ guard_pieces s (n + length bs) g) ++ r) = ap (term_end d) (comp_text s n t bs g r) ∙ term_front d s (n + m) t tail form.0 word_ends in
    let count : binder_count (text_of_pieces (binder_pieces n bs ++ guard_pieces s (n + length bs) g) ++ r) ≡ Ok (length bs) = ap binder_count split ∙ binder_count_is bs n (text_of_pieces guard ++ r) form.1 levels no_for in
    let behind : TermD × List ℕ → Result (CompD × List ℕ) ℕ = λ x. binders_at n x.1 >>= λ after. guard_at s (n + m) after >>= λ y. Ok (data_of.comp m y.0 x.0, y.1) in
    let guarded : (guard_at s (n + length bs) (text_of_pieces (guard_pieces s (n + length bs) g) ++ r) >>= λ y. Ok (data_of.comp (length bs) y.0 (value_of s t), y.1)) ≡ out (guard_pieces s (n + length bs) g) (item_of s (comp t bs g)) r =
    ap (λ e. e >>= λ y. Ok (data_of.comp m y.0 (value_of s t), y.1)) (guard_out s (n + m) g r form.2 closes) ∙ map_out guard (guard_of s g) r (λ (x : List (List Lit)). data_of.comp m x (value_of s t)) in
    let later : behind (value_of s t, text_of_pieces (binder_pieces n bs ++ guard_pieces s (n + length bs) g) ++ r) ≡ out (binder_pieces n bs ++ guard_pieces s (n + length bs) g) (item_of s (comp t bs g)) r =
    ap (λ (u : List ℕ). binders_at n u >>= λ after. guard_at s (n + m) after >>= λ y. Ok (data_of.comp m y.0 (value_of s t), y.1)) split
    ∙ ap (λ e. e >>= λ after. guard_at s (n + m) after >>= λ y. Ok (data_of.comp m y.0 (value_of s t), y.1)) (binders_out bs n (text_of_pieces guard ++ r) form.1 levels no_for)
    ∙ bind_ends binders guard (item_of s (comp t bs g)) r (λ after. guard_at s (n + m) after >>= λ y. Ok (data_of.comp m y.0 (value_of s t), y.1)) guarded in
    comp_counted (term_end d) (term_at d s) s n m whole tail ended count
    ∙ ap (λ (ps : List Piece). term_at d s (n + m) (text_of_pieces ps ++ r) >>= behind) (append_assoc item binders guard)
    ∙ part_step (term_at d s (n + m)) item (binders ++ guard) (value_of s t) (item_of s (comp t bs g)) r behind (inner (n + m) t tail form.0 word_ends) later
    ∙ ap (λ (ps : List Piece). out ps (item_of s (comp t bs g)) r) (sym (append_assoc item binders guard))

-- ---- tuples and sets

count_last : (e : List ℕ → End) (k : ℕ) (u q : List ℕ) → e u ≡ Ok q → begins 44 q ≡ false → part_count e (suc k) u ≡ Ok 1
count_last e k u q found none = rw (found, none) refl

count_next : (e : List ℕ → End) (k m : ℕ) (u v : List ℕ) → e u ≡ Ok (codes ", " ++ v) → part_count e k v ≡ Ok m → part_count e (suc k) u ≡ Ok (suc m)
count_next e k m u v found later = rw (found, later) refl

part_count_is : (d : ℕ) (s : Scope) (n : ℕ) (t : TermDraft) (ts : TermDrafts) (k : ℕ) (q : List ℕ) → IsTermDraft d t → AreTermDrafts d ts → EndsWord q → begins 44 q ≡ false → length (text_of_pieces (term_pieces s n t) ++ (text_of_pieces (part_pieces s n comma ts) ++ q)) < k → part_count (term_end d) k (text_of_pieces (term_pieces s n t) ++ (text_of_pieces (part_pieces s n comma ts) ++ q)) ≡ Ok (suc (draft_width ts))
part_count_is d s n t ts zero q form forms ends_q none enough = absurd (omega arith)
part_count_is d s n t no_terms (suc k) q form forms ends_q none enough = count_last (term_end d) k (text_of_pieces (term_pieces s n t) ++ q) q (term_front d s n t q form ends_q) none
part_count_is d s n t (term u us) (suc k) q form forms ends_q none enough =
    let rest : List ℕ = text_of_pieces (part_pieces s n comma us) ++ q in
    let v : List ℕ = text_of_pieces (term_pieces s n u) ++ rest in
    let e : text_of_pieces (part_pieces s n comma (term u us)) ++ q ≡ codes ", " ++ (text_of_pieces (term_pieces s n u) ++ (text_of_pieces (part_pieces s n comma us) ++ q)) = ap (λ (x : List ℕ). codes ", " ++ x) (text_split (term_pieces s n u) (part_pieces s n comma us) q) in
    let a : List ℕ = text_of_pieces (term_pieces s n t) in
    let short : length (text_of_pieces (term_pieces s n u) ++ (text_of_pieces (part_pieces s n comma us) ++ q)) < k = omega (arith, ap length e, length-append a (text_of_pieces (part_pieces s n comma (term u us)) ++ q), length-append (codes ", ") v) in
    count_next (term_end d) k (suc (draft_width us)) (a ++ (text_of_pieces (part_pieces s n comma (term u us)) ++ q)) v
    (term_front d s n t (text_of_pieces (part_pieces s n comma (term u us)) ++ q) form (part_ends s n (term u us) q ends_q) ∙ ap (λ (x : List ℕ). Ok x) e)
    (part_count_is d s n u us k q forms.0 forms.1 ends_q none short)

parts_are_at : (t : List ℕ → Result (TermD × List ℕ) ℕ) (u : List ℕ) (y : Result (List TermD × List ℕ) ℕ) → list_at (begins 44) (codes ", ") t (suc (length u)) u ≡ y → parts_at t u ≡ y
unfolding parts_at
parts_are_at t u y e = e

comps_are_at : (c : List ℕ → Result (CompD × List ℕ) ℕ) (u : List ℕ) (y : Result (List CompD × List ℕ) ℕ) → list_at (begins 44) (codes ", ") c (suc (length u)) u ≡ y → comps_at c u ≡ y
unfolding comps_at
comps_are_at c u y e = e

closed_parts_is : (t : List ℕ → Result (TermD × List ℕ) ℕ) (u : List ℕ) → closed_parts_at t u ≡ (parts_at t u >>= λ x. fixed_end (codes ")") x.1 >>= λ r. Ok (tup (terms_of x.0), r))
unfolding closed_parts_at
closed_parts_is t u = refl

closed_comps_is : (c : List ℕ → Result (CompD × List ℕ) ℕ) (u : List ℕ) → closed_comps_at c u ≡ (comps_at c u >>= λ x. fixed_end (codes "}") x.1 >>= λ r. Ok (coll (comps_of x.0), r))
unfolding closed_comps_at
closed_comps_is c u = refl

parts_out : (d : ℕ) (s : Scope) (n : ℕ) (t : TermDraft) (ts : TermDrafts) (q : List ℕ) → InnerOut d s → IsTermDraft d t → AreTermDrafts d ts → EndsWord q → begins 44 q ≡ false → parts_at (term_at d s n) (text_of_pieces (term_pieces s n t ++ part_pieces s n comma ts) ++ q) ≡ out (term_pieces s n t ++ part_pieces s n comma ts) (values_of s (term t ts)) q
parts_out d s n t ts q inner form forms ends_q none =
    let later : List Piece = each (further_part s n) (parts_list ts) in
    let listed : parts_at (term_at d s n) (text_of_pieces (term_pieces s n t ++ each (further_part s n) (parts_list ts)) ++ q) ≡ out (term_pieces s n t ++ each (further_part s n) (parts_list ts)) (value_of s t ∷ map (value_of s) (parts_list ts)) q =
    parts_are_at (term_at d s n) (text_of_pieces (term_pieces s n t ++ later) ++ q) (out (term_pieces s n t ++ later) (value_of s t ∷ map (value_of s) (parts_list ts)) q)
    (list_out (begins 44) (codes ", ") (term_at d s n) (term_pieces s n) (value_of s) (IsTermDraft d) EndsWord
    (λ x good u ends_u. inner n x u good ends_u) (λ u. refl) (λ u. refl) t (parts_list ts) (suc (length (text_of_pieces (term_pieces s n t ++ later) ++ q))) q
    (list_enough (codes ", ") (term_pieces s n) t (parts_list ts) q (omega arith)) form (parts_good d ts forms) ends_q none) in
    ap (λ (ps : List Piece). parts_at (term_at d s n) (text_of_pieces (term_pieces s n t ++ ps) ++ q)) (parts_are s n ts)
    ∙ listed
    ∙ ap (λ (xs : List TermD). out (term_pieces s n t ++ later) (value_of s t ∷ xs) q) (values_are s ts)
    ∙ ap (λ (ps : List Piece). out (term_pieces s n t ++ ps) (values_of s (term t ts)) q) (sym (parts_are s n ts))

items_out : (d : ℕ) (s : Scope) (n : ℕ) (c : CompDraft) (cs : CompDrafts) (q : List ℕ) → InnerOut d s → IsCompDraft d c → AreCompDrafts d cs → Closes q → begins 44 q ≡ false → comps_at (comp_at (term_end d) (term_at d s) s n) (text_of_pieces (comp_pieces s n c ++ item_pieces s n comma cs) ++ q) ≡ out (comp_pieces s n c ++ item_pieces s n comma cs) (items_of s (more c cs)) q
items_out d s n c cs q inner form forms closes none =
    let read : List ℕ → Result (CompD × List ℕ) ℕ = comp_at (term_end d) (term_at d s) s n in
    let later : List Piece = each (further_item s n) (items_list cs) in
    let listed : comps_at (comp_at (term_end d) (term_at d s) s n) (text_of_pieces (comp_pieces s n c ++ each (further_item s n) (items_list cs)) ++ q) ≡ out (comp_pieces s n c ++ each (further_item s n) (items_list cs)) (item_of s c ∷ map (item_of s) (items_list cs)) q =
    comps_are_at read (text_of_pieces (comp_pieces s n c ++ later) ++ q) (out (comp_pieces s n c ++ later) (item_of s c ∷ map (item_of s) (items_list cs)) q)
    (list_out (begins 44) (codes ", ") read (comp_pieces s n) (item_of s) (IsCompDraft d) Closes
    (λ x good u closes_u. comp_out d s n x u inner good closes_u) (λ u. refl) comma_closes c (items_list cs) (suc (length (text_of_pieces (comp_pieces s n c ++ later) ++ q))) q
    (list_enough (codes ", ") (comp_pieces s n) c (items_list cs) q (omega arith)) form (items_good d cs forms) closes none) in
    ap (λ (ps : List Piece). comps_at read (text_of_pieces (comp_pieces s n c ++ ps) ++ q)) (items_are s n cs)
    ∙ listed
    ∙ ap (λ (xs : List CompD). out (comp_pieces s n c ++ later) (item_of s c ∷ xs) q) (items_same s cs)
    ∙ ap (λ (ps : List Piece). out (comp_pieces s n c ++ ps) (items_of s (more c cs)) q) (sym (items_are s n cs))

closed_parts_out : (d : ℕ) (s : Scope) (n : ℕ) (t : TermDraft) (ts : TermDrafts) (r : List ℕ) → InnerOut d s → IsTermDraft d t → AreTermDrafts d ts → closed_parts_at (term_at d s n) (text_of_pieces ((term_pieces s n t ++ part_pieces s n comma ts) ++ plain (codes ")") ∷ []) ++ r) ≡ out ((term_pieces s n t ++ part_pieces s n comma ts) ++ plain (codes ")") ∷ []) (value_of s (tuple (term t ts))) r
closed_parts_out d s n t ts r inner form forms =
    let ps : List Piece = term_pieces s n t ++ part_pieces s n comma ts in
    let close : List Piece = plain (codes ")") ∷ [] in
    closed_parts_is (term_at d s n) (text_of_pieces ((term_pieces s n t ++ part_pieces s n comma ts) ++ plain (codes ")") ∷ []) ++ r)
    ∙ part_step (parts_at (term_at d s n)) ps close (values_of s (term t ts)) (value_of s (tuple (term t ts))) r (λ x. fixed_end (codes ")") x.1 >>= λ q. Ok (tup (terms_of x.0), q))
    (parts_out d s n t ts (codes ")" ++ r) inner form forms refl refl) refl

closed_items_out : (d : ℕ) (s : Scope) (n : ℕ) (c : CompDraft) (cs : CompDrafts) (r : List ℕ) → InnerOut d s → IsCompDraft d c → AreCompDrafts d cs → closed_comps_at (comp_at (term_end d) (term_at d s) s n) (text_of_pieces ((comp_pieces s n c ++ item_pieces s n comma cs) ++ plain (codes "}") ∷ []) ++ r) ≡ out ((comp_pieces s n c ++ item_pieces s n comma cs) ++ plain (codes "}") ∷ []) (value_of s (set (more c cs))) r
closed_items_out d s n c cs r inner form forms =
    let read : List ℕ → Result (CompD × List ℕ) ℕ = comp_at (term_end d) (term_at d s) s n in
    let ps : List Piece = comp_pieces s n c ++ item_pieces s n comma cs in
    let close : List Piece = plain (codes "}") ∷ [] in
    closed_comps_is read (text_of_pieces ((comp_pieces s n c ++ item_pieces s n comma cs) ++ plain (codes "}") ∷ []) ++ r)
    ∙ part_step (comps_at read) ps close (items_of s (more c cs)) (value_of s (set (more c cs))) r (λ x. fixed_end (codes "}") x.1 >>= λ q. Ok (coll (comps_of x.0), q))
    (items_out d s n c cs (codes "}" ++ r) inner form forms (brace_closes r) refl) refl

-- ---- terms

pick : {A : Type 0} (b : Bool) (l m : ℕ) (x : Result A ℕ) → l ≡ m → cond b x (Err l) ≡ cond (not b) (Err m) x
pick true l m x e = refl
pick false l m x e = ap (λ (n : ℕ). Err n) e

tuple_at_is : (e : List ℕ → End) (t : List ℕ → Result (TermD × List ℕ) ℕ) (u : List ℕ) (m : ℕ) → part_count e (suc (length u)) u ≡ Ok m → tuple_at e t (codes "(" ++ u) ≡ cond (nat_le m 8) (closed_parts_at t u) (Err (suc (length u)))
unfolding tuple_at
tuple_at_is e t u m found = rw found refl

set_at_empty : (c : List ℕ → Result (CompD × List ℕ) ℕ) (r : List ℕ) → set_at c (codes "{}" ++ r) ≡ Ok (coll data_of.no_comps, r)
unfolding set_at
set_at_empty c r = refl

set_at_is : (c : List ℕ → Result (CompD × List ℕ) ℕ) (u : List ℕ) → begins 125 u ≡ false → set_at c (codes "{" ++ u) ≡ closed_comps_at c u
unfolding set_at
set_at_is c u other = rw other refl

var_is : (s : Scope) (n : ℕ) (u : List ℕ) → var_at s n u ≡ (operand_at s n u >>= λ x. Ok (var x.0, x.1))
unfolding var_at
var_is s n u = refl

atom_at : (s : Scope) (n d : ℕ) (o : Operand) (r : List ℕ) → IsOperand o → term_at d s n ((operand_piece s n o).bytes ++ r) ≡ var_at s n ((operand_piece s n o).bytes ++ r)
unfolding term_at
atom_at s n zero (word w) r form = rw (word_begins 39 w r form refl) refl
atom_at s n (suc d) (word w) r form = rw (word_begins 39 w r form refl, word_begins 40 w r form refl, word_begins 123 w r form refl) refl
atom_at s n zero (level ds) r form = refl
atom_at s n (suc d) (level ds) r form = refl

tag_is : (w r : List ℕ) → IsWord w → EndsWord r → tag_at (codes "'" ++ (w ++ r)) ≡ cond (nat_le (length w) 64) (Ok (data_of.tag w, r)) (Err (suc (length (w ++ r))))
unfolding tag_at
tag_is w r form ends_r = rw (word_front w r form ends_r) refl

term_tag : (d : ℕ) (s : Scope) (n : ℕ) (u : List ℕ) → term_at d s n (codes "'" ++ u) ≡ tag_at (codes "'" ++ u)
unfolding term_at
term_tag zero s n u = refl
term_tag (suc d) s n u = refl

term_tuple : (d : ℕ) (s : Scope) (n : ℕ) (u : List ℕ) → term_at (suc d) s n (codes "(" ++ u) ≡ tuple_at (term_end d) (term_at d s n) (codes "(" ++ u)
unfolding term_at
term_tuple d s n u = refl

term_set : (d : ℕ) (s : Scope) (n : ℕ) (u : List ℕ) → term_at (suc d) s n (codes "{" ++ u) ≡ set_at (comp_at (term_end d) (term_at d s) s n) (codes "{" ++ u)
unfolding term_at
term_set d s n u = refl

comp_no_brace : (d : ℕ) (s : Scope) (n : ℕ) (c : CompDraft) (q : List ℕ) → IsCompDraft d c → begins 125 (text_of_pieces (comp_pieces s n c) ++ q) ≡ false
comp_no_brace d s n (comp t bs g) q good =
    let k : ℕ = n + length bs in
    ap (begins 125) (comp_text s n t bs g q) ∙ no_brace s k d t (text_of_pieces (binder_pieces n bs ++ guard_pieces s k g) ++ q) good.0

pub term_out : (d : ℕ) (s : Scope) (n : ℕ) (t : TermDraft) (r : List ℕ) → IsTermDraft d t → EndsWord r → term_at d s n (text_of_pieces (term_pieces s n t) ++ r) ≡ out (term_pieces s n t) (value_of s t) r
term_out d s n (atom o) r form ends_r =
    let b = (operand_piece s n o).bytes in
    ap (term_at d s n) (append_assoc b [] r) ∙ atom_at s n d o r form ∙ var_is s n (b ++ r)
    ∙ ap (λ e. e >>= λ x. Ok (var x.0, x.1)) (operand_out s n o form r ends_r) ∙ map_out (operand_piece s n o ∷ []) (level_of s o) r (λ (i : ℕ). var i)
term_out d s n (tag w) r form ends_r =
    ap (λ (x : List ℕ). term_at d s n (codes "'" ++ x)) (append_assoc w [] r) ∙ term_tag d s n (w ++ r) ∙ tag_is w r form ends_r
    ∙ pick (nat_le (length w) 64) (suc (length (w ++ r))) (suc (length w) + (0 + length r)) (Ok (data_of.tag w, r)) (omega (arith, length-append w r))
term_out zero s n (tuple ts) r form ends_r = absurd form
term_out zero s n (set cs) r form ends_r = absurd form
term_out (suc d) s n (tuple no_terms) r form ends_r = absurd (omega (arith, form.0))
term_out (suc d) s n (tuple (term t ts)) r form ends_r =
    let inner : InnerOut d s = λ k x q good ends_q. term_out d s k x q good ends_q in
    let ps : List Piece = (term_pieces s n t ++ part_pieces s n comma ts) ++ plain (codes ")") ∷ [] in
    let u : List ℕ = text_of_pieces ps ++ r in
    let split : text_of_pieces ((term_pieces s n t ++ part_pieces s n comma ts) ++ plain (codes ")") ∷ []) ++ r ≡ text_of_pieces (term_pieces s n t) ++ (text_of_pieces (part_pieces s n comma ts) ++ (codes ")" ++ r)) =
    text_split (term_pieces s n t ++ part_pieces s n comma ts) (plain (codes ")") ∷ []) r ∙ text_split (term_pieces s n t) (part_pieces s n comma ts) (codes ")" ++ r) in
    let count : part_count (term_end d) (suc (length (text_of_pieces ((term_pieces s n t ++ part_pieces s n comma ts) ++ plain (codes ")") ∷ []) ++ r))) (text_of_pieces ((term_pieces s n t ++ part_pieces s n comma ts) ++ plain (codes ")") ∷ []) ++ r) ≡ Ok (suc (draft_width ts)) =
    ap (λ (v : List ℕ). part_count (term_end d) (suc (length v)) v) split
    ∙ part_count_is d s n t ts (suc (length (text_of_pieces (term_pieces s n t) ++ (text_of_pieces (part_pieces s n comma ts) ++ (codes ")" ++ r))))) (codes ")" ++ r) form.1.0 form.1.1 refl refl (omega arith) in
    let left : suc (length (text_of_pieces ((term_pieces s n t ++ part_pieces s n comma ts) ++ plain (codes ")") ∷ []) ++ r)) ≡ 1 + (size ((term_pieces s n t ++ part_pieces s n comma ts) ++ plain (codes ")") ∷ []) + length r) = omega (arith, length-append (text_of_pieces ps) r, size_is ps) in
    term_tuple d s n u
    ∙ tuple_at_is (term_end d) (term_at d s n) u (suc (draft_width ts)) count
    ∙ pick (nat_le (suc (draft_width ts)) 8) (suc (length u)) (1 + (size ps + length r)) (closed_parts_at (term_at d s n) u) left
    ∙ ap (λ e. cond (not (nat_le (suc (draft_width ts)) 8)) (Err (1 + (size ps + length r))) e) (closed_parts_out d s n t ts r inner form.1.0 form.1.1)
term_out (suc d) s n (set no_comps) r form ends_r = term_set d s n (codes "}" ++ r) ∙ set_at_empty (comp_at (term_end d) (term_at d s) s n) r
term_out (suc d) s n (set (more c cs)) r form ends_r =
    let inner : InnerOut d s = λ k x q good ends_q. term_out d s k x q good ends_q in
    let ps : List Piece = (comp_pieces s n c ++ item_pieces s n comma cs) ++ plain (codes "}") ∷ [] in
    let split : text_of_pieces ((comp_pieces s n c ++ item_pieces s n comma cs) ++ plain (codes "}") ∷ []) ++ r ≡ text_of_pieces (comp_pieces s n c) ++ (text_of_pieces (item_pieces s n comma cs) ++ (codes "}" ++ r)) =
    text_split (comp_pieces s n c ++ item_pieces s n comma cs) (plain (codes "}") ∷ []) r ∙ text_split (comp_pieces s n c) (item_pieces s n comma cs) (codes "}" ++ r) in
    let other : begins 125 (text_of_pieces ((comp_pieces s n c ++ item_pieces s n comma cs) ++ plain (codes "}") ∷ []) ++ r) ≡ false = ap (begins 125) split ∙ comp_no_brace d s n c (text_of_pieces (item_pieces s n comma cs) ++ (codes "}" ++ r)) form.0 in
    term_set d s n (text_of_pieces ps ++ r)
    ∙ set_at_is (comp_at (term_end d) (term_at d s) s n) (text_of_pieces ps ++ r) other
    ∙ closed_items_out d s n c cs r inner form.0 form.1
