-- A lexeme tells the kind and the bytes of its token.
use Rattle.std.proofs.Common.{◌≡◌, ℕ, Bool, true, false, cond, Option, Some, None, List, [], ◌∷◌, ◌⊎◌, inl, inr, ⊎_elim, refl, sym, ap, ap₂, ◌∙◌, eqb-true}
use Rattle.std.specs.Prelude.{nat_eq}
use Rattle.std.specs.List.{find}
use Rattle.std.specs.Str.{bytes_eq}
use Rattle.std.proofs.lemmas.Slice.Eq.{bytes_eq-Decides}
use Rattle.lois_lexer.specs.declared.TokenKind.{TokenKind}
use Rattle.lois_lexer.specs.declared.TokenKind.TheVariants as kinds
use Rattle.lois_script.specs.Grammar.{PlacedToken, TakesWordAt, TakesSymbolAt, TakesName, TakesTag, TakesNumber, decimal}
use Rattle.lois_descent.specs.Lexemes.{word_of, punctuator_text, as_word, as_symbol, as_tag, lexeme_from, lexeme_of}
use Rattle.lois_descent.specs.declared.lexemes.TheConstants.{KEYWORDS, PUNCTUATORS}
use Rattle.lois_descent.specs.declared.lexemes.Lexeme.{Lexeme}
use Rattle.lois_descent.specs.declared.lexemes.Lexeme.TheVariants.{End, Name, Tag, Number, Word, Symbol, Other}
use Rattle.lois_descent.specs.declared.lexemes.Keyword.{Keyword}
use Rattle.lois_descent.specs.declared.lexemes.Punctuator.{Punctuator}

abbrev pub kind_of : Lexeme → Option TokenKind
kind_of Name = Some kinds.Name
kind_of Tag = Some kinds.Tag
kind_of Number = Some kinds.Number
kind_of (Word k) = Some kinds.Word
kind_of (Symbol s) = Some kinds.Symbol
kind_of End = None
kind_of Other = None

tag_or_other : (b : ℕ) (test : Bool) → (kind_of (cond test Tag Other) ≡ Some kinds.Tag) ⊎ (cond test Tag Other ≡ Other)
tag_or_other b true = inl refl
tag_or_other b false = inr refl

word_or_other : (o : Option Keyword) → (kind_of (as_word o) ≡ Some kinds.Word) ⊎ (as_word o ≡ Other)
word_or_other None = inr refl
word_or_other (Some k) = inl refl

symbol_or_other : (o : Option Punctuator) → (kind_of (as_symbol o) ≡ Some kinds.Symbol) ⊎ (as_symbol o ≡ Other)
symbol_or_other None = inr refl
symbol_or_other (Some s) = inl refl

kind_or_other : (kind : TokenKind) (bytes : List ℕ) → (kind_of (lexeme_from kind bytes) ≡ Some kind) ⊎ (lexeme_from kind bytes ≡ Other)
kind_or_other kinds.Name bytes = inl refl
kind_or_other kinds.Tag [] = inr refl
kind_or_other kinds.Tag (b ∷ bs) = tag_or_other b (nat_eq b 39)
kind_or_other kinds.Number bytes = inl refl
kind_or_other kinds.Word bytes = word_or_other (find (λ k. bytes_eq (word_of k) bytes) KEYWORDS)
kind_or_other kinds.Symbol bytes = symbol_or_other (find (λ s. bytes_eq (punctuator_text s) bytes) PUNCTUATORS)

pub kind_is : (kind : TokenKind) (bytes : List ℕ) (l : Lexeme) (k : TokenKind) → lexeme_from kind bytes ≡ l → kind_of l ≡ Some k → kind ≡ k
kind_is kind bytes l k e h =
    ⊎_elim
    (λ right. let same : Some kind ≡ Some k = sym right ∙ ap kind_of e ∙ h in cc)
    (λ wrong. let no : kind_of Other ≡ Some k = ap kind_of (sym wrong ∙ e) ∙ h in absurd (cc))
    (kind_or_other kind bytes)

found_word_by : (x : Keyword) (rest : Option Keyword) (bytes : List ℕ) (k : Keyword) (b : Bool) → bytes_eq (word_of x) bytes ≡ b →
    (as_word rest ≡ Word k → bytes ≡ word_of k) → as_word (cond b (Some x) rest) ≡ Word k → bytes ≡ word_of k
found_word_by x rest bytes k true e later h = let same : x ≡ k = cc in sym ((bytes_eq-Decides (word_of x) bytes).0 e) ∙ ap word_of same
found_word_by x rest bytes k false e later h = later h

found_word : (ks : List Keyword) (bytes : List ℕ) (k : Keyword) → as_word (find (λ x. bytes_eq (word_of x) bytes) ks) ≡ Word k → bytes ≡ word_of k
found_word [] bytes k h = absurd (cc)
found_word (x ∷ ks) bytes k h =
    found_word_by x (find (λ x. bytes_eq (word_of x) bytes) ks) bytes k (bytes_eq (word_of x) bytes) refl (found_word ks bytes k) h

found_sign_by : (x : Punctuator) (rest : Option Punctuator) (bytes : List ℕ) (s : Punctuator) (b : Bool) → bytes_eq (punctuator_text x) bytes ≡ b →
    (as_symbol rest ≡ Symbol s → bytes ≡ punctuator_text s) → as_symbol (cond b (Some x) rest) ≡ Symbol s → bytes ≡ punctuator_text s
found_sign_by x rest bytes s true e later h = let same : x ≡ s = cc in sym ((bytes_eq-Decides (punctuator_text x) bytes).0 e) ∙ ap punctuator_text same
found_sign_by x rest bytes s false e later h = later h

found_sign : (ss : List Punctuator) (bytes : List ℕ) (s : Punctuator) → as_symbol (find (λ x. bytes_eq (punctuator_text x) bytes) ss) ≡ Symbol s → bytes ≡ punctuator_text s
found_sign [] bytes s h = absurd (cc)
found_sign (x ∷ ss) bytes s h =
    found_sign_by x (find (λ x. bytes_eq (punctuator_text x) bytes) ss) bytes s (bytes_eq (punctuator_text x) bytes) refl (found_sign ss bytes s) h

found_tag_by : (b : ℕ) (bs : List ℕ) (test : Bool) → nat_eq b 39 ≡ test → cond test Tag Other ≡ Tag → b ≡ 39
found_tag_by b bs true e h = eqb-true b 39 e
found_tag_by b bs false e h = absurd (cc)

found_tag : (bytes : List ℕ) → as_tag bytes ≡ Tag → (name : List ℕ) × (bytes ≡ 39 ∷ name)
found_tag [] h = absurd (cc)
found_tag (b ∷ bs) h = (bs, ap (λ x. x ∷ bs) (found_tag_by b bs (nat_eq b 39) refl h))

is_token : (t : PlacedToken) (kind : TokenKind) (bytes : List ℕ) → t.kind ≡ kind → t.bytes ≡ bytes → (r : List PlacedToken) → t ∷ r ≡ record { kind = kind; bytes = bytes; place = t.place } ∷ r
is_token t kind bytes e f r =
    let with : TokenKind → List ℕ → List PlacedToken = λ k b. record { kind = k; bytes = b; place = t.place } ∷ r in ap₂ with e f

pub taken_word : (t : PlacedToken) (k : Keyword) → lexeme_of t ≡ Word k → (r : List PlacedToken) → TakesWordAt t.place (word_of k) (t ∷ r) r
taken_word t k e r =
    let kind = kind_is t.kind t.bytes (Word k) kinds.Word e refl in
    is_token t kinds.Word (word_of k) kind (found_word KEYWORDS t.bytes k (sym (ap (λ x. lexeme_from x t.bytes) kind) ∙ e)) r

pub taken_sign : (t : PlacedToken) (s : Punctuator) → lexeme_of t ≡ Symbol s → (r : List PlacedToken) → TakesSymbolAt t.place (punctuator_text s) (t ∷ r) r
taken_sign t s e r =
    let kind = kind_is t.kind t.bytes (Symbol s) kinds.Symbol e refl in
    is_token t kinds.Symbol (punctuator_text s) kind (found_sign PUNCTUATORS t.bytes s (sym (ap (λ x. lexeme_from x t.bytes) kind) ∙ e)) r

pub taken_name : (t : PlacedToken) → lexeme_of t ≡ Name → (r : List PlacedToken) → TakesName t.place t.bytes (t ∷ r) r
taken_name t e r = is_token t kinds.Name t.bytes (kind_is t.kind t.bytes Name kinds.Name e refl) refl r

pub taken_number : (t : PlacedToken) → lexeme_of t ≡ Number → (r : List PlacedToken) → TakesNumber (decimal t.bytes) (t ∷ r) r
taken_number t e r = (t.place, t.bytes, is_token t kinds.Number t.bytes (kind_is t.kind t.bytes Number kinds.Number e refl) refl r, refl)

pub taken_tag : (t : PlacedToken) → lexeme_of t ≡ Tag → (r : List PlacedToken) → (name : List ℕ) × TakesTag t.place name (t ∷ r) r
taken_tag t e r =
    let kind = kind_is t.kind t.bytes Tag kinds.Tag e refl in
    let found = found_tag t.bytes (sym (ap (λ x. lexeme_from x t.bytes) kind) ∙ e) in
    (found.0, is_token t kinds.Tag (39 ∷ found.0) kind found.1 r)
