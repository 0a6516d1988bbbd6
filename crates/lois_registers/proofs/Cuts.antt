-- Lines and words as parts of a text.
use Rattle.std.proofs.Common.{◌≡◌, eqb→eq, ℕ, zero, suc, ◌+◌, ◌-◌, ◌≤◌, ◌<◌, Bool, true, false, not, List, [], ◌∷◌, ◌++◌, length, get_or, take, drop, map, refl, sym, ap, subst, ◌∙◌, arith, append_assoc}
use Rattle.std.specs.Prelude.{nat_eq, ◌&&◌}
use Rattle.std.proofs.Math.Dec.{T}
use Rattle.std.specs.Prelude.{Result, Ok, Err, IfErr, IsErrAnd}
use Rattle.std.specs.Bool.{IsTrue}
use Rattle.std.specs.List.{All, list_all, slice_split, join_with_byte}
use Rattle.std.proofs.lemmas.List.{take-append-drop, take_rest}
use Rattle.std.proofs.lemmas.List.Splits.{slice_split_none, slice_split_at, join_with_byte-slice_split}
use Rattle.std.proofs.lemmas.List.Elements.{All-nil, All-cons, All-head, All-tail}
use Rattle.lois_base.proofs.Connectives.{both_true}
use Rattle.lois_registers.specs.Reading.{is_clean, AreWords, HasNames, IsLeftAt}
use Rattle.lois_registers.specs.declared.parse_error.ParseError.{ParseError}
use Rattle.lois_registers.specs.declared.parse_error.ParseError.TheVariants.{Left, NoMemory}
use Rattle.lois_base.specs.Names.{IsName, is_name_byte}
use Rattle.lois_base.proofs.Viewed.{rest_at}
use Rattle.lois_constraint.proofs.Shifting.{All-of_map}
use Rattle.lois_registers.specs.Texts.{text_of_words}

-- ---- lines
abbrev is_inside : ℕ → Bool
is_inside b = not (nat_eq b 10)

-- the text before the first end of a line
pub line_unique : (x y a b : List ℕ) → IsTrue (list_all is_inside x) → IsTrue (list_all is_inside y) → x ++ (10 ∷ a) ≡ y ++ (10 ∷ b) → (x ≡ y) × (a ≡ b)
line_unique [] [] a b h k e = (refl, cc)
line_unique [] (c ∷ y) a b h k e =
    let c_is : c ≡ 10 = cc in
    let no : IsTrue (is_inside c) = ((both_true (is_inside c) (list_all is_inside y)).0 k).0 in
    let bad : IsTrue (is_inside 10) = subst (λ z. IsTrue (is_inside z)) c_is no in absurd (cc)
line_unique (c ∷ x) [] a b h k e =
    let c_is : c ≡ 10 = cc in
    let no : IsTrue (is_inside c) = ((both_true (is_inside c) (list_all is_inside x)).0 h).0 in
    let bad : IsTrue (is_inside 10) = subst (λ z. IsTrue (is_inside z)) c_is no in absurd (cc)
line_unique (c ∷ x) (d ∷ y) a b h k e =
    let first : c ≡ d = cc in
    let rest : x ++ (10 ∷ a) ≡ y ++ (10 ∷ b) = cc in
    let r = line_unique x y a b ((both_true (is_inside c) (list_all is_inside x)).0 h).1 ((both_true (is_inside d) (list_all is_inside y)).0 k).1 rest in
    (ap (λ z. z ∷ x) first ∙ ap (λ z. d ∷ z) r.0, r.1)

-- ---- words
spelled_more : (ws : List (List ℕ)) (more : List ℕ) → text_of_words ws ++ more ≡ join_with_byte 32 ws ++ (10 ∷ more)
spelled_more ws more = append_assoc (join_with_byte 32 ws) (10 ∷ []) more

-- a line has its words alone
pub words_unique : (ws vs : List (List ℕ)) (a b : List ℕ) → AreWords ws → AreWords vs → text_of_words ws ++ a ≡ text_of_words vs ++ b → (ws ≡ vs) × (a ≡ b)
words_unique ws vs a b h k e =
    let r = line_unique (join_with_byte 32 ws) (join_with_byte 32 vs) a b h.line k.line (sym (spelled_more ws a) ∙ (e ∙ spelled_more vs b)) in
    (sym h.cut ∙ (ap (slice_split (λ c. nat_eq c 32)) r.0 ∙ k.cut), r.1)

-- clean words are words
abbrev is_word_part : ℕ → Bool
is_word_part b = not (nat_eq b 10) && not (nat_eq b 32)

clean_inside : (w : List ℕ) → IsTrue (is_clean w) → IsTrue (list_all is_inside w)
clean_inside [] h = refl
clean_inside (b ∷ w) h =
    let r = (both_true (is_word_part b) (is_clean w)).0 h in
    let s = (both_true (not (nat_eq b 10)) (not (nat_eq b 32))).0 r.0 in
    (both_true (is_inside b) (list_all is_inside w)).1 (s.0, clean_inside w r.1)

not_space : (b : Bool) → IsTrue (not b) → b ≡ false
not_space false h = refl
not_space true h = absurd (cc)

clean_spaceless : (w : List ℕ) → IsTrue (is_clean w) → All (λ b. nat_eq b 32 ≡ false) w
clean_spaceless [] h = All-nil (λ b. nat_eq b 32 ≡ false)
clean_spaceless (b ∷ w) h =
    let r = (both_true (is_word_part b) (is_clean w)).0 h in
    let s = (both_true (not (nat_eq b 10)) (not (nat_eq b 32))).0 r.0 in
    All-cons (λ b. nat_eq b 32 ≡ false) b w (not_space (nat_eq b 32) s.1) (clean_spaceless w r.1)

inside_append : (x y : List ℕ) → IsTrue (list_all is_inside x) → IsTrue (list_all is_inside y) → IsTrue (list_all is_inside (x ++ y))
inside_append [] y h k = k
inside_append (b ∷ x) y h k =
    let r = (both_true (is_inside b) (list_all is_inside x)).0 h in
    (both_true (is_inside b) (list_all is_inside (x ++ y))).1 (r.0, inside_append x y r.1 k)

pub clean_words : (w : List ℕ) (ws : List (List ℕ)) → IsTrue (list_all is_clean (w ∷ ws)) → AreWords (w ∷ ws)
clean_words w [] h =
    let r = (both_true (is_clean w) true).0 h in
    record { line = clean_inside w r.0; cut = slice_split_none (λ c. nat_eq c 32) w (clean_spaceless w r.0) }
clean_words w (v ∷ ws) h =
    let r = (both_true (is_clean w) (list_all is_clean (v ∷ ws))).0 h in
    let rest = clean_words v ws r.1 in
    let tail : IsTrue (list_all is_inside (32 ∷ join_with_byte 32 (v ∷ ws))) = (both_true (is_inside 32) (list_all is_inside (join_with_byte 32 (v ∷ ws)))).1 (refl, rest.line) in
    record {
      line = inside_append w (32 ∷ join_with_byte 32 (v ∷ ws)) (clean_inside w r.0) tail;
      cut = slice_split_at (λ c. nat_eq c 32) w 32 (join_with_byte 32 (v ∷ ws)) (clean_spaceless w r.0) refl ∙ ap (λ z. w ∷ z) rest.cut;
    }

-- the first line of a text, by its end
pub inside_before : (text : List ℕ) (n : ℕ) → n ≤ length text → ((k : ℕ) → k < n → get_or text k 0 ≡ 10 → ⊥) → IsTrue (list_all is_inside (take n text))
inside_before text zero l h = refl
inside_before [] (suc n) l h = absurd (omega arith)
inside_before (b ∷ text) (suc n) l h =
    let first : IsTrue (is_inside b) = other b (h 0 (omega arith)) in
    (both_true (is_inside b) (list_all is_inside (take n text))).1 (first, inside_before text n (omega arith) (λ k i. h (suc k) (omega arith)))
  where
    pick : (b : ℕ) (t : Bool) → nat_eq b 10 ≡ t → (b ≡ 10 → ⊥) → IsTrue (not t)
    pick b false e never = refl
    pick b true e never = absurd (never (eqb→eq b 10 (subst T (sym e) tt)))

    other : (b : ℕ) → (b ≡ 10 → ⊥) → IsTrue (is_inside b)
    other b never = pick b (nat_eq b 10) refl never

pub cut_line : (text : List ℕ) (words : List (List ℕ)) (n : ℕ) → n < length text → get_or text n 0 ≡ 10 → ((k : ℕ) → k < n → get_or text k 0 ≡ 10 → ⊥) → words ≡ slice_split (λ b. nat_eq b 32) (take n text) →
    AreWords words × (text ≡ text_of_words words ++ take (length text - (n + 1)) (drop (n + 1) text))
cut_line text words n l found before is =
    let joined : join_with_byte 32 words ≡ take n text = ap (join_with_byte 32) is ∙ join_with_byte-slice_split 32 (take n text) in
    let cut : text ≡ take n text ++ drop n text = sym (take-append-drop n text) in
    let rest : drop n text ≡ 10 ∷ drop (n + 1) text = rest_at text n 0 l ∙ ap (λ z. z ∷ drop (n + 1) text) found in
    let whole : text ≡ text_of_words words ++ drop (n + 1) text = cut ∙ (ap (λ z. take n text ++ z) rest ∙ (ap (λ z. z ++ (10 ∷ drop (n + 1) text)) (sym joined) ∙ sym (spelled_more words (drop (n + 1) text)))) in (
      record {
        line = subst (λ z. IsTrue (list_all is_inside z)) (sym joined) (inside_before text n (omega arith) before);
        cut = ap (slice_split (λ b. nat_eq b 32)) joined ∙ sym is;
      },
      whole ∙ ap (λ z. text_of_words words ++ z) (sym (take_rest text (n + 1))),
    )

-- names are clean
name_part : (b : ℕ) → IsTrue (is_name_byte b) → IsTrue (is_word_part b)
name_part b h = pick (nat_eq b 10) (nat_eq b 32) refl refl
  where
    pick : (s t : Bool) → nat_eq b 10 ≡ s → nat_eq b 32 ≡ t → IsTrue (not s && not t)
    pick false false e f = refl
    pick true t e f = let bad : IsTrue (is_name_byte 10) = subst (λ z. IsTrue (is_name_byte z)) (eqb→eq b 10 (subst T (sym e) tt)) h in absurd (cc)
    pick false true e f = let bad : IsTrue (is_name_byte 32) = subst (λ z. IsTrue (is_name_byte z)) (eqb→eq b 32 (subst T (sym f) tt)) h in absurd (cc)

bytes_clean : (bs : List ℕ) → IsTrue (list_all is_name_byte bs) → IsTrue (is_clean bs)
bytes_clean [] h = refl
bytes_clean (b ∷ bs) h =
    let r = (both_true (is_name_byte b) (list_all is_name_byte bs)).0 h in
    (both_true (is_word_part b) (is_clean bs)).1 (name_part b r.0, bytes_clean bs r.1)

pub name_clean : (name : List ℕ) → IsName name → IsTrue (is_clean name)
name_clean name h = bytes_clean name h.bytes

pub names_clean : (names : List (List ℕ)) → All IsName names → IsTrue (list_all is_clean names)
names_clean [] h = refl
names_clean (n ∷ names) h =
    (both_true (is_clean n) (list_all is_clean names)).1 (name_clean n (All-head IsName n names h), names_clean names (All-tail IsName n names h))

pub named_words : (first : List ℕ) (names : List (List ℕ)) → IsTrue (is_clean first) → All IsName names → AreWords (first ∷ names)
named_words first names c h = clean_words first names ((both_true (is_clean first) (list_all is_clean names)).1 (c, names_clean names h))

pub tails : (a b : List ℕ) (xs ys : List (List ℕ)) → a ∷ xs ≡ b ∷ ys → xs ≡ ys
tails a b xs ys e = cc

-- the words of a line that begins with names are those that were read
pub named_only : (first text rest : List ℕ) (ws : List (List ℕ)) → IsTrue (is_clean first) → AreWords ws → text ≡ text_of_words ws ++ rest → (names : List (List ℕ)) → HasNames first names text → ws ≡ first ∷ names
named_only first text rest ws c are e names (form, (more, f)) =
    (words_unique ws (first ∷ names) rest more are (named_words first names c form) (sym e ∙ f)).0

pub left_weaker : (text : List ℕ) (C D : Type 0) (h : ParseError) → (C → D) → IsLeftAt text C h → IsLeftAt text D h
left_weaker text C D (Left n) f (e, c) = (e, f c)
left_weaker text C D NoMemory f c = tt

-- a cause that goes on to the caller
pub err_left : {V : Type 0} (r : Result V ParseError) (h : ParseError) (Q : ParseError → Type 0) → IsErrAnd r (λ e. e ≡ h) → Q h → IfErr r Q
err_left (Ok v) h Q e q = tt
err_left (Err k) h Q e q = subst Q (sym e) q

-- a first word and names behind it, as items that a function shows
module _ {X : Type 0} (f : X → List ℕ) (slice : List X) (first : List ℕ) (begins : map f slice ≡ first ∷ map f (drop 1 slice)) where
  pub behind_first : (names : List (List ℕ)) → map f slice ≡ first ∷ names → names ≡ map f (take (length slice - 1) (drop 1 slice))
  behind_first names e = tails first first names (map f (drop 1 slice)) (sym e ∙ begins) ∙ ap (map f) (sym (take_rest slice 1))

  pub all_behind : (names : List (List ℕ)) → map f slice ≡ first ∷ names → All IsName names → All (λ x. IsName (f x)) (take (length slice - 1) (drop 1 slice))
  all_behind names e h = All-of_map IsName f (take (length slice - 1) (drop 1 slice)) (subst (All IsName) (behind_first names e) h)

  pub with_first : (names : List (List ℕ)) → names ≡ map f (take (length slice - 1) (drop 1 slice)) → map f slice ≡ first ∷ names
  with_first names e = begins ∙ ap (λ z. first ∷ z) (sym (e ∙ ap (map f) (take_rest slice 1)))
