-- Words and numbers.
use Rattle.std.proofs.Common.{◌≡◌, ℕ, suc, ◌+◌, ◌-◌, ◌*◌, ◌<◌, ◌≤◌, Bool, true, false, cond, not, ◌&&◌, List, [], ◌∷◌, length, take, drop, get_or, Some, None, Result, Err, refl, sym, ap, ◌∙◌, arith, drop-cons, add-one}
use Rattle.std.specs.Prelude.{nat_le, nat_lt, bytes_eq, Contains, ◌↔◌, is_ok}
use Rattle.std.proofs.lemmas.Slice.Eq.{bytes_eq-Decides}
use Rattle.std.proofs.lemmas.List.Folds.{list_any_at}
use Rattle.std.proofs.lemmas.Map.Views.{Contains-from_any}
use Rattle.lois_lexer.specs.Words.{reserved}
use Rattle.lois_answers.specs.TraceText.{kind_text}
use Rattle.lois_answers.specs.declared.faults.FaultKind.{FaultKind}
use Rattle.lois_reader.specs.declared.parse_error.ParseError.{ParseError}
use Rattle.lois_reader.specs.declared.parse_error.ParseError.TheVariants.{Left, NoMemory}
use Rattle.std.proofs.lemmas.List.{drop_all}
use Rattle.std.specs.List.{list_any, prefix_len}
use Rattle.std.specs.Char.{is_ascii_alphabetic}
use Rattle.std.proofs.lemmas.Bool.{false≢true, le-leb}
use Rattle.std.proofs.lemmas.Bool.Decides.{nat_tests}
use Rattle.lois_base.specs.Names.{IsName}
use Rattle.lois_base.proofs.NameForm.{name_form}
use Rattle.lois_lexer.specs.Bytes.{is_word_byte}
use Rattle.lois_lexer.specs.Forms.{is_word_form}
use Rattle.lois_lexer.proofs.Longest.{front_is_word}
use Rattle.lois_reader.specs.Pieces.{value_from, value, is_unreserved}
use Rattle.lois_reader.specs.Reading.{first_byte, passes, ErrorIs, IsTextError}
use Rattle.lois_reader.specs.Ends.{fixed_end, word_at}
use Rattle.lois_reader.specs.AnswerValues.{kinds_at}
use Rattle.lois_reader.specs.Values.{value_within, keyword}

pub word_is_name : (w : List ℕ) → is_word_form w ≡ true → length w ≤ 64 → IsName w
word_is_name [] form short = absurd (false≢true form)
word_is_name (b ∷ bs) form short = name_form b bs form short

-- the number only grows with further digits
pub value_grows : (n : ℕ) (ds : List ℕ) → n ≤ value_from n ds
value_grows n [] = omega arith
value_grows n (d ∷ ds) = omega (arith, value_grows (n * 10 + (d - 48)) ds)

-- too large a number, and one that isn't
none_within : (low high v : ℕ) → high ≤ v → cond (nat_le low v && nat_lt v high) (Some v) None ≡ None
none_within low high v le = grind (arith, nat_tests)

some_within : (low high v : ℕ) → low ≤ v → v < high → cond (nat_le low v && nat_lt v high) (Some v) None ≡ Some v
some_within low high v le lt = grind (arith, nat_tests)

no_next : (n limit : ℕ) → cond (nat_lt n limit) (Some n) None ≡ None → limit ≤ n
no_next n limit e = grind (arith, nat_tests)

drop_is : (i d : ℕ) (ds : List ℕ) → i < length ds → d ≡ get_or ds i 0 → drop i ds ≡ d ∷ drop (suc i) ds
drop_is i d ds lt e = rw e (drop-cons ds i 0 lt)

pub too_large : (n i d limit : ℕ) (ds : List ℕ) → i < length ds → d ≡ get_or ds i 0 → value_from n (drop i ds) ≡ value ds → cond (nat_lt (n * 10 + (d - 48)) limit) (Some (n * 10 + (d - 48))) None ≡ None → value_within 0 limit ds ≡ None
too_large n i d limit ds lt e same none =
    let grown = value_grows (n * 10 + (d - 48)) (drop (suc i) ds) in
    let here : value_from n (d ∷ drop (suc i) ds) ≡ value ds = ap (value_from n) (sym (drop_is i d ds lt e)) ∙ same in
    none_within 0 limit (value ds) (omega (arith, no_next (n * 10 + (d - 48)) limit none, here, grown))

pub all_read : (n i limit : ℕ) (ds : List ℕ) → length ds ≤ i → n < limit → value_from n (drop i ds) ≡ value ds → Some n ≡ value_within 0 limit ds
all_read n i limit ds le lt same =
    let e : drop i ds ≡ [] = drop_all i ds le in
    let v : n ≡ value ds = ap (value_from n) (sym e) ∙ same in
    rw v (sym (some_within 0 limit (value ds) (omega arith) (omega (arith, v))))

pub front_form : (s : List ℕ) → passes is_ascii_alphabetic (first_byte s) ≡ true → is_word_form (take (prefix_len is_word_byte s) s) ≡ true
front_form [] h = absurd (false≢true h)
front_form (b ∷ s) h = front_is_word (b ∷ s) (omega arith) h

-- ---- tests

pub is_among_iff : (words : List (List ℕ)) (w : List ℕ) → (list_any (bytes_eq w) words ≡ true) ↔ Contains words w
is_among_iff words w = (
  λ e. Contains-from_any {eq = bytes_eq} (λ x y h. (bytes_eq-Decides x y).0 h) w words e,
  λ h. list_any_at (bytes_eq w) words h.0 w h.1 ((bytes_eq-Decides w (get_or words h.0 w)).1 (sym h.2)),
)

same_test : (b c : Bool) → (b ≡ true → c ≡ true) → (c ≡ true → b ≡ true) → b ≡ c
same_test true c f g = sym (f refl)
same_test false true f g = g refl
same_test false false f g = refl

pub free_is : (w : List ℕ) (b : Bool) → length w ≤ 64 → ((b ≡ true) ↔ Contains reserved w) → not b ≡ is_unreserved w
free_is w b short h =
    let e : b ≡ list_any (bytes_eq w) reserved = same_test b (list_any (bytes_eq w) reserved) (λ t. (is_among_iff reserved w).1 (h.0 t)) (λ t. h.1 ((is_among_iff reserved w).0 t)) in
    rw (e, le-leb (length w) 64 short) refl

-- what isn't there
pub isn't_ok : {A : Type 0} (e : ParseError) (read : Result A ℕ) → ErrorIs e read → IsTextError e → is_ok read ≡ false
isn't_ok (Left left) read failed sure = rw failed refl
isn't_ok NoMemory read failed sure = absurd sure

kinds_at_next : (ks : List FaultKind) (i left : ℕ) (d : FaultKind) (s : List ℕ) → i < length ks → fixed_end (kind_text (get_or ks i d)) s ≡ Err left → kinds_at (drop i ks) s ≡ kinds_at (drop (i + 1) ks) s
kinds_at_next ks i left d s lt failed = rw (add-one, drop-cons ks i d lt, failed) refl

left_of : {A : Type 0} (e : ParseError) (read : Result A ℕ) → ErrorIs e read → IsTextError e → (left : ℕ) × (read ≡ Err left)
left_of (Left left) read failed sure = (left, failed)
left_of NoMemory read failed sure = absurd sure

pub kinds_go_on : (e : ParseError) (ks : List FaultKind) (i : ℕ) (d : FaultKind) (s : List ℕ) (total : Result (FaultKind × List ℕ) ℕ) → i < length ks → ErrorIs e (fixed_end (kind_text (get_or ks i d)) s) → IsTextError e → kinds_at (drop i ks) s ≡ total → kinds_at (drop (i + 1) ks) s ≡ total
kinds_go_on e ks i d s total lt failed sure so_far =
    let l = left_of e (fixed_end (kind_text (get_or ks i d)) s) failed sure in
    sym (kinds_at_next ks i l.0 d s lt l.1) ∙ so_far
