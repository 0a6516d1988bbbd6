-- A text is read in one way at most: it ends with one list of tokens, or with one refusal.
use Rattle.std.proofs.Common.{◌≡◌, ℕ, ◌+◌, ◌-◌, ◌≤◌, List, [], ◌∷◌, ◌++◌, Result, Ok, Err, length, take, drop, subst, sym, refl, ap, ◌∙◌, arith, append_assoc, append-nil, length-drop, get_or, length-append, add-zero, ⊎_elim}
use Rattle.std.specs.Prelude.{IsTrue, slice_range, All}
use Rattle.std.proofs.lemmas.Bool.{cases_lt}
use Rattle.std.proofs.lemmas.List.{get_or_append_left, get_or-append-add}
use Rattle.std.proofs.lemmas.List.Elements.{All-nil, All-push, All-weaker}
use Rattle.lois_lexer.specs.declared.TokenKind.{TokenKind}
use Rattle.lois_lexer.specs.declared.TokenKind.TheVariants.{Number}
use Rattle.lois_lexer.specs.declared.Token.{Token}
use Rattle.lois_lexer.specs.declared.LexError.{LexError}
use Rattle.lois_lexer.specs.Forms.{HasForm, is_within_limits}
use Rattle.lois_lexer.specs.Tokens.{Longest, IsTrivia, IsCut, HasTokens}
use Rattle.lois_lexer.specs.InText.{IsTokenOf, AreInOrder, IsPlaceInText}
use Rattle.lois_lexer.specs.Tokens.IsCut.{at_start, past_gap, past_token}
use Rattle.lois_lexer.specs.Refusals.{IsWrongAt, IsLexicalRefusal}
use Rattle.lois_lexer.specs.Refusals.IsWrongAt.{bad_byte, bad_comment, long_name, bad_number}
use Rattle.lois_lexer.specs.Laws.{OneList, OneRefusal, NeverBoth}
use Rattle.lois_lexer.proofs.Cutting.{gap_positive, gap_within, token_positive}
use Rattle.lois_lexer.proofs.OnePiece.{gap_once, gap_no_token, token_once, wrong_no_gap, wrong_no_token, wrong_once, wrong_nonempty}

abbrev Outcome : Type 0
Outcome = Result (List Token) LexError

-- an outcome with a token, or tokens, before it
abbrev first : Token → Outcome → Outcome
first t (Ok ts) = Ok (t ∷ ts)
first t (Err e) = Err e

abbrev before : List Token → Outcome → Outcome
before ts (Ok us) = Ok (ts ++ us)
before ts (Err e) = Err e

before_nil : (rest : Outcome) → before [] rest ≡ rest
before_nil (Ok us) = refl
before_nil (Err e) = refl

before_first : (ts : List Token) (t : Token) (rest : Outcome) → before ts (first t rest) ≡ before (ts ++ t ∷ []) rest
before_first ts t (Ok us) = ap (λ l. Ok l) (sym (append_assoc ts (t ∷ []) us))
before_first ts t (Err e) = refl

abbrev token_at : TokenKind → ℕ → ℕ → Token
token_at kind at n = record { kind = kind; from = at; to = at + n }

-- how a text goes on from a place
data Ends (text : List ℕ) : ℕ → Outcome → Type 0 where
  finish : (at : ℕ) → at ≡ length text → Ends text at (Ok [])
  refuse : (at : ℕ) (error : LexError) → IsWrongAt at (drop at text) error → Ends text at (Err error)
  gap : (at n : ℕ) (rest : Outcome) → IsTrivia (drop at text) n → Ends text (at + n) rest → Ends text at rest
  token : (at n : ℕ) (kind : TokenKind) (rest : Outcome) → Longest (drop at text) kind n → IsTrue (is_within_limits kind (take n (drop at text))) → Ends text (at + n) rest → Ends text at (first (token_at kind at n) rest)

module _ (text : List ℕ) where
  -- nothing stands at the end
  no_gap_at_end : (at n : ℕ) → at ≡ length text → IsTrivia (drop at text) n → ⊥
  no_gap_at_end at n e g = omega (arith, gap_positive (drop at text) n g, gap_within (drop at text) n g, length-drop at text)

  no_token_at_end : (at n : ℕ) (kind : TokenKind) → at ≡ length text → Longest (drop at text) kind n → ⊥
  no_token_at_end at n kind e t = omega (arith, token_positive (drop at text) kind n t, t.within, length-drop at text)

  no_fault_at_end : (at : ℕ) (error : LexError) → at ≡ length text → IsWrongAt at (drop at text) error → ⊥
  no_fault_at_end at error e w = omega (arith, wrong_nonempty at (drop at text) error w, length-drop at text)

  one_end : (at : ℕ) (this that : Outcome) → Ends text at this → Ends text at that → this ≡ that
  one_end at this that (finish i e) (finish j f) = refl
  one_end at this that (finish i e) (refuse j error w) = absurd (no_fault_at_end at error e w)
  one_end at this that (finish i e) (gap j n rest g more) = absurd (no_gap_at_end at n e g)
  one_end at this that (finish i e) (token j n kind rest t limits more) = absurd (no_token_at_end at n kind e t)
  one_end at this that (refuse i error w) (finish j f) = absurd (no_fault_at_end at error f w)
  one_end at this that (refuse i error w) (refuse j other v) = ap (λ e. Err e) (wrong_once at (drop at text) error other w v)
  one_end at this that (refuse i error w) (gap j n rest g more) = absurd (wrong_no_gap at (drop at text) error n w g)
  one_end at this that (refuse i error w) (token j n kind rest t limits more) = absurd (wrong_no_token at (drop at text) error n kind w t limits)
  one_end at this that (gap i n rest g more) (finish j f) = absurd (no_gap_at_end at n f g)
  one_end at this that (gap i n rest g more) (refuse j error w) = absurd (wrong_no_gap at (drop at text) error n w g)
  one_end at this that (gap i n rest g more) (gap j m other h most) =
      let same : m ≡ n = gap_once (drop at text) m n h g in
      one_end (at + n) rest other more (subst (λ (k : ℕ). Ends text (at + k) other) same most)
  one_end at this that (gap i n rest g more) (token j m kind other t limits most) = absurd (gap_no_token (drop at text) n m kind g t.form)
  one_end at this that (token i n kind rest t limits more) (finish j f) = absurd (no_token_at_end at n kind f t)
  one_end at this that (token i n kind rest t limits more) (refuse j error w) = absurd (wrong_no_token at (drop at text) error n kind w t limits)
  one_end at this that (token i n kind rest t limits more) (gap j m other h most) = absurd (gap_no_token (drop at text) m n kind h t.form)
  one_end at this that (token i n kind rest t limits more) (token j m other_kind other u other_limits most) =
      let same = token_once (drop at text) m n other_kind kind u t in
      let rests : rest ≡ other = one_end (at + n) rest other more (subst (λ (k : ℕ). Ends text (at + k) other) same.1 most) in
      ap (λ r. first (token_at kind at n) r) rests ∙ ap (λ (k : TokenKind). first (token_at k at n) other) (sym same.0) ∙ ap (λ (k : ℕ). first (token_at other_kind at k) other) (sym same.1)

  -- what a text is cut into stands before what comes
  from_start : (at : ℕ) (ts : List Token) (rest : Outcome) → IsCut text at ts → Ends text at rest → Ends text 0 (before ts rest)
  from_start at ts rest at_start more = subst (Ends text 0) (sym (before_nil rest)) more
  from_start at ts rest (past_gap from n tokens cut g) more = from_start from tokens rest cut (gap from n rest g more)
  from_start at ts rest (past_token from n kind tokens cut t limits) more =
      subst (Ends text 0) (before_first tokens (token_at kind from n) rest) (from_start from tokens (first (token_at kind from n) rest) cut (token from n kind rest t limits more))

  tokens_end : (ts : List Token) → HasTokens text ts → Ends text 0 (Ok ts)
  tokens_end ts cut = subst (λ l. Ends text 0 (Ok l)) (append-nil ts) (from_start (length text) ts (Ok []) cut (finish (length text) refl))

  refusal_ends : (error : LexError) → IsLexicalRefusal text error → Ends text 0 (Err error)
  refusal_ends error r = from_start r.0 r.1 (Err error) r.2 (refuse r.0 error r.3)

pub one_list : OneList
one_list text these those a b = let same = one_end text 0 (Ok these) (Ok those) (tokens_end text these a) (tokens_end text those b) in cc

pub one_refusal : OneRefusal
one_refusal text this that a b = let same = one_end text 0 (Err this) (Err that) (refusal_ends text this a) (refusal_ends text that b) in cc

pub never_both : NeverBoth
never_both text tokens error a b = let same = one_end text 0 (Ok tokens) (Err error) (tokens_end text tokens a) (refusal_ends text error b) in cc

-- each token has its form and lies in the text
token_of : (text : List ℕ) (at n : ℕ) (kind : TokenKind) → Longest (drop at text) kind n → IsTrue (is_within_limits kind (take n (drop at text))) → IsTokenOf text (token_at kind at n)
token_of text at n kind t limits =
    let positive = token_positive (drop at text) kind n t in
    let same : at + n - at ≡ n = omega arith in
    let bytes : slice_range text at (at + n) ≡ take n (drop at text) = ap (λ k. take k (drop at text)) same in
    record {
      nonempty = omega arith;
      within = omega (arith, t.within, length-drop at text);
      form = subst (HasForm kind) (sym bytes) t.form;
      limits = subst (λ xs. IsTrue (is_within_limits kind xs)) (sym bytes) limits;
    }

pub tokens_of_cut : (text : List ℕ) (at : ℕ) (ts : List Token) → IsCut text at ts → All (IsTokenOf text) ts
tokens_of_cut text at ts at_start = All-nil (IsTokenOf text)
tokens_of_cut text at ts (past_gap from n tokens cut g) = tokens_of_cut text from tokens cut
tokens_of_cut text at ts (past_token from n kind tokens cut t limits) = All-push (IsTokenOf text) tokens (token_at kind from n) (tokens_of_cut text from tokens cut) (token_of text from n kind t limits)

-- the tokens end before the place, and each before the next begins
ends_before : (text : List ℕ) (at : ℕ) (ts : List Token) → IsCut text at ts → All (λ (t : Token). t.to ≤ at) ts
ends_before text at ts at_start = All-nil (λ (t : Token). t.to ≤ 0)
ends_before text at ts (past_gap from n tokens cut g) = All-weaker (λ (t : Token). t.to ≤ from) (λ (t : Token). t.to ≤ from + n) (λ t h. omega arith) tokens (ends_before text from tokens cut)
ends_before text at ts (past_token from n kind tokens cut t limits) =
    All-push (λ (u : Token). u.to ≤ from + n) tokens (token_at kind from n)
    (All-weaker (λ (u : Token). u.to ≤ from) (λ (u : Token). u.to ≤ from + n) (λ u h. omega arith) tokens (ends_before text from tokens cut))
    (omega arith)

pub cut_in_order : (text : List ℕ) (at : ℕ) (ts : List Token) → IsCut text at ts → AreInOrder ts
cut_in_order text at ts at_start = λ k d below. absurd (omega arith)
cut_in_order text at ts (past_gap from n tokens cut g) = cut_in_order text from tokens cut
cut_in_order text at ts (past_token from n kind tokens cut t limits) = λ k d below.
    let new = token_at kind from n in
    let len = length-append tokens (new ∷ []) in
    let here = ap (λ (u : Token). u.to) (get_or_append_left tokens (new ∷ []) d k (omega arith)) in
    ⊎_elim
    (λ inner. omega (arith, cut_in_order text from tokens cut k d inner, ap (λ (u : Token). u.from) (get_or_append_left tokens (new ∷ []) d (k + 1) inner)))
    (λ last.
    let is_last : k + 1 ≡ length tokens = omega arith in
    let next : get_or (tokens ++ new ∷ []) (k + 1) d ≡ new = ap (λ i. get_or (tokens ++ new ∷ []) i d) is_last ∙ ap (λ i. get_or (tokens ++ new ∷ []) i d) (sym (add-zero (length tokens))) ∙ get_or-append-add tokens (new ∷ []) 0 d in
    omega (arith, ends_before text from tokens cut k d (omega arith), ap (λ (u : Token). u.from) next))
    (cases_lt (k + 1) (length tokens))

-- the place of a refusal is a byte of the text
pub refused_inside : (text : List ℕ) (error : LexError) → IsLexicalRefusal text error → IsPlaceInText text error
refused_inside text error r = inside r.0 error r.3
  where
    inside : (at : ℕ) (error : LexError) → IsWrongAt at (drop at text) error → IsPlaceInText text error
    inside at error (bad_byte nothing) = omega (arith, nothing.nonempty, length-drop at text)
    inside at error (bad_comment n broken) = omega (arith, broken.within, length-drop at text)
    inside at error (long_name kind apart over) = omega (arith, over.1.within, token_positive (drop at text) kind over.0 over.1, length-drop at text)
    inside at error (bad_number over) = omega (arith, over.1.within, token_positive (drop at text) Number over.0 over.1, length-drop at text)
