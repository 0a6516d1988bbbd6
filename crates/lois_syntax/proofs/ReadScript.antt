-- What the descent over all tokens says of the text.
use Rattle.std.proofs.Common.{◌≡◌, ◌≢◌, ℕ, ◌⊎◌, inl, inr, List, length, Ok, Err, refl, subst}
use Rattle.std.proofs.lemmas.List.{length-map}
use Rattle.lois_lexer.specs.declared.Token.{Token}
use Rattle.lois_lexer.specs.Tokens.{HasTokens}
use Rattle.lois_script.specs.Grammar.{token_at_place}
use Rattle.lois_script.specs.Limits.{Spells}
use Rattle.lois_script.specs.Tree.{ScriptD}
use Rattle.lois_descent.specs.Descent as descent
use Rattle.lois_descent.specs.Reading.{ErrorIs, refusal_of}
use Rattle.lois_descent.specs.Laws.{IsCorrectResult}
use Rattle.lois_descent.specs.Refusals.{Refused}
use Rattle.lois_syntax.specs.Causes.{error_of}
use Rattle.lois_syntax.specs.Refusals.{IsSyntaxRefusal, refusal, tokens_in}
use Rattle.lois_syntax.specs.declared.SyntaxError.{SyntaxError}
use Rattle.lois_syntax.specs.declared.SyntaxError.TheVariants as errors
use Rattle.lois_descent.specs.declared.parse_error.ParseError.{ParseError}
use Rattle.lois_descent.specs.declared.parse_error.ParseError.TheVariants.{NoScript, TooNested, WideTuple, TurnsTooMany, NoMemory}
use Rattle.lois_descent.proofs.DescendsScript.{script_reads}
use Rattle.lois_descent.proofs.OneStatement.{one_script_of_text}
use Rattle.lois_syntax.proofs.Refusing.{never_both, one_refusal}

refusal_is : (count : ℕ) (h : ParseError) → refusal_of count h ≡ refusal (error_of count h)
refusal_is count (NoScript left) = refl
refusal_is count (TooNested left) = refl
refusal_is count (WideTuple left) = refl
refusal_is count (TurnsTooMany left) = refl
refusal_is count NoMemory = refl

module _ (text : List ℕ) (tokens : List Token) (cut : HasTokens text tokens) where
  pub spells : (s : ScriptD) → descent.script (tokens_in text tokens) ≡ Ok s → Spells text s
  spells s e =
      let found : IsCorrectResult (tokens_in text tokens) (Ok s) = subst (IsCorrectResult (tokens_in text tokens)) e (script_reads (tokens_in text tokens)) in
      record { tokens = tokens; cut = cut; script = found.0; nesting = found.1; forms = found.2 }

  count : length (tokens_in text tokens) ≡ length tokens
  count = length-map tokens (token_at_place text)

  refused_by : (h : ParseError) → descent.script (tokens_in text tokens) ≡ Err h → IsSyntaxRefusal (tokens_in text tokens) (error_of (length tokens) h)
  refused_by h e =
      let found : IsCorrectResult (tokens_in text tokens) (Err h) = subst (IsCorrectResult (tokens_in text tokens)) e (script_reads (tokens_in text tokens)) in
      subst (λ n. IsSyntaxRefusal (tokens_in text tokens) (error_of n h)) count (subst (Refused (tokens_in text tokens)) (refusal_is (length (tokens_in text tokens)) h) found.1)

  pub refuses : (h : ParseError) → ErrorIs h (descent.script (tokens_in text tokens)) → error_of (length tokens) h ≢ errors.NoMemory → IsSyntaxRefusal (tokens_in text tokens) (error_of (length tokens) h)
  refuses (NoScript left) e some = refused_by (NoScript left) e
  refuses (TooNested left) e some = refused_by (TooNested left) e
  refuses (WideTuple left) e some = refused_by (WideTuple left) e
  refuses (TurnsTooMany left) e some = refused_by (TurnsTooMany left) e
  refuses NoMemory e some = absurd (some refl)

  never : (h : ParseError) → descent.script (tokens_in text tokens) ≡ Err h → (s : ScriptD) → Spells text s → ⊥
  never h e s spelled = never_both text tokens s (error_of (length tokens) h) cut spelled (refused_by h e)

  pub accepts : (h : ParseError) → ErrorIs h (descent.script (tokens_in text tokens)) → (s : ScriptD) → Spells text s → error_of (length tokens) h ≡ errors.NoMemory
  accepts (NoScript left) e s spelled = absurd (never (NoScript left) e s spelled)
  accepts (TooNested left) e s spelled = absurd (never (TooNested left) e s spelled)
  accepts (WideTuple left) e s spelled = absurd (never (WideTuple left) e s spelled)
  accepts (TurnsTooMany left) e s spelled = absurd (never (TurnsTooMany left) e s spelled)
  accepts NoMemory e s spelled = refl

  -- what is read is the one script of the text
  pub those : (s : ScriptD) → descent.script (tokens_in text tokens) ≡ Ok s → (other : ScriptD) → Spells text other → s ≡ other
  those s e other spelled = one_script_of_text text s other (spells s e) spelled

  pub never_refused : (s : ScriptD) → descent.script (tokens_in text tokens) ≡ Ok s → (error : SyntaxError) → IsSyntaxRefusal (tokens_in text tokens) error → ⊥
  never_refused s e error refused = never_both text tokens s error cut (spells s e) refused

  only : (h : ParseError) → descent.script (tokens_in text tokens) ≡ Err h → (error : SyntaxError) → IsSyntaxRefusal (tokens_in text tokens) error → error_of (length tokens) h ≡ error
  only h e error refused = one_refusal (tokens_in text tokens) (error_of (length tokens) h) error (refused_by h e) refused

  -- the tokens are refused in this way alone, unless memory ran out
  pub refuses_so : (h : ParseError) → ErrorIs h (descent.script (tokens_in text tokens)) → (error : SyntaxError) → IsSyntaxRefusal (tokens_in text tokens) error → (error_of (length tokens) h ≡ error) ⊎ (error_of (length tokens) h ≡ errors.NoMemory)
  refuses_so (NoScript left) e error refused = inl (only (NoScript left) e error refused)
  refuses_so (TooNested left) e error refused = inl (only (TooNested left) e error refused)
  refuses_so (WideTuple left) e error refused = inl (only (WideTuple left) e error refused)
  refuses_so (TurnsTooMany left) e error refused = inl (only (TurnsTooMany left) e error refused)
  refuses_so NoMemory e error refused = inr refl
