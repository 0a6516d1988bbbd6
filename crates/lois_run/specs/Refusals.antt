-- Why a text is refused: each refusal with the fact that it comes for.
use Rattle.std.specs.Prelude.{◌≡◌, ℕ, List, length, slice_get, option_map, unwrap_or}
use Rattle.lois_lexer.specs.Refusals.{IsLexicalRefusal as LexRefuses}
use Rattle.lois_lexer.specs.Tokens.{HasTokens}
use Rattle.lois_lexer.specs.declared.LexError.{LexError}
use Rattle.lois_lexer.specs.declared.LexError.TheVariants.{BadByte, LongName, BadNumber}
use Rattle.lois_lexer.specs.declared.Place.{Place}
use Rattle.lois_lexer.specs.declared.Token.{Token}
use Rattle.lois_script.specs.Limits.{Spells}
use Rattle.lois_script.specs.Scope.{RuleD, rule_number, BreaksFirst}
use Rattle.lois_script.specs.Tree.{ScriptD}
use Rattle.lois_reader.specs.Pieces.{answer_pieces}
use Rattle.lois_reader.specs.Refusal.{IsAnswerOf}
use Rattle.lois_reader.specs.Shape.{HasAnswerShape, SpellsAnswer}
use Rattle.lois_syntax.specs.Refusals.{tokens_in, IsSyntaxRefusal as SyntaxRefuses}
use Rattle.lois_syntax.specs.declared.SyntaxError.{SyntaxError}
use Rattle.lois_syntax.specs.declared.SyntaxError.TheVariants.{NoScript, TooNested, WideTuple, TurnsTooMany}
use Rattle.lois_registers.specs.Places.{SpellsNoRegisters as HasNoRegisters, IsFaultPlace as IsRegistersPlace}
use Rattle.lois_registers.specs.declared.RegistersError.TheVariants.{NotRegisters as NoRegisters}
use Rattle.lois_command.specs.NoResults.{IsNoneAt, IsAtPlace}
use Rattle.lois_command.specs.Places.{IsPlaceOf}
use Rattle.lois_run.specs.declared.outcomes.Refusal.{Refusal}
use Rattle.lois_run.specs.declared.outcomes.Refusal.TheVariants.{Lexical, Syntax, Scope}

-- the offset of the token's first byte, or the end of the text where there is no such token
abbrev pub token_place : List ℕ → List Token → ℕ → ℕ
token_place text tokens index = unwrap_or (option_map (λ t. t.from) (slice_get tokens index)) (length text)

abbrev pub IsLexical : List ℕ → ℕ → ℕ → Refusal → Type 0
IsLexical text number at (Lexical n place) = (n ≡ number) × IsPlaceOf text at place
IsLexical text number at _ = ⊥

-- the refusal tells the error
abbrev pub LexicalTells : List ℕ → LexError → Refusal → Type 0
LexicalTells text (BadByte at) refusal = IsLexical text 1 at refusal
LexicalTells text (LongName at) refusal = IsLexical text 2 at refusal
LexicalTells text (BadNumber at) refusal = IsLexical text 3 at refusal
LexicalTells text _ refusal = ⊥

abbrev pub IsSyntax : List ℕ → List Token → ℕ → ℕ → Refusal → Type 0
IsSyntax text tokens number index (Syntax n place) = (n ≡ number) × IsPlaceOf text (token_place text tokens index) place
IsSyntax text tokens number index _ = ⊥

abbrev pub SyntaxTells : List ℕ → List Token → SyntaxError → Refusal → Type 0
SyntaxTells text tokens (NoScript k) refusal = IsSyntax text tokens 1 k refusal
SyntaxTells text tokens (TooNested k) refusal = IsSyntax text tokens 2 k refusal
SyntaxTells text tokens (WideTuple k) refusal = IsSyntax text tokens 3 k refusal
SyntaxTells text tokens (TurnsTooMany k) refusal = IsSyntax text tokens 4 k refusal
SyntaxTells text tokens _ refusal = ⊥

-- a place of the text has no token
abbrev pub HasNoTokens : List ℕ → ℕ → Place → Type 0
HasNoTokens text n place = (error : LexError) × LexRefuses text error × LexicalTells text error (Lexical n place)

-- the tokens of the text are no script, at the least one at fault
abbrev pub HasNoScript : List ℕ → ℕ → Place → Type 0
HasNoScript text n place =
    (tokens : List Token) × (error : SyntaxError) × HasTokens text tokens × SyntaxRefuses (tokens_in text tokens) error × SyntaxTells text tokens error (Syntax n place)

-- the text spells a script, of which this rule is the first to be broken
abbrev pub BreaksRule : List ℕ → ℕ → Place → Type 0
BreaksRule text n place =
    (s : ScriptD) × (rule : RuleD) × (at : ℕ) × Spells text s × BreaksFirst s rule at × (n ≡ rule_number rule) × IsPlaceOf text at place

-- The text is refused so, as a script. A text that is too long isn't looked at, and a script isn't read as anything else.
abbrev pub IsRefusedAs : List ℕ → Refusal → Type 0
IsRefusedAs text (Lexical n place) = HasNoTokens text n place
IsRefusedAs text (Syntax n place) = HasNoScript text n place
IsRefusedAs text (Scope n place) = BreaksRule text n place
IsRefusedAs text _ = ⊥

-- no sound results and no sound trace
abbrev pub IsNoAnswerAt : List ℕ → ℕ → Type 0
IsNoAnswerAt text k = IsNoneAt (IsAnswerOf text) HasAnswerShape SpellsAnswer answer_pieces text k

-- no register automaton, at the first line that is at fault
abbrev pub IsNoRegistersAt : List ℕ → ℕ → Type 0
IsNoRegistersAt text k = HasNoRegisters text (NoRegisters k) × IsRegistersPlace text (NoRegisters k)

abbrev pub IsNoAnswer : List ℕ → Place → Type 0
IsNoAnswer = IsAtPlace IsNoAnswerAt

abbrev pub IsNoRegisters : List ℕ → Place → Type 0
IsNoRegisters = IsAtPlace IsNoRegistersAt
