-- How far the machine comes with what a function of the reader reads.
use Rattle.std.specs.Prelude.{◌≡◌, ℕ, Bool, true, false, not, List, [], ◌∷◌, drop, codes}
use Rattle.lois_script.specs.Grammar.{PlacedToken, Spelling, Either, TakesName, TakesWord, TakesSymbol, TakesNumber, structure_word}
use Rattle.lois_descent.specs.declared.lexemes.Terminal.{Terminal}
use Rattle.lois_descent.specs.declared.lexemes.Terminal.TheVariants.{Atoms as the_atoms, Structure as structure, Semicolon as semicolon, Comma as comma, CloseRound as close_round, CloseSquare as close_square, OpenCurly as open_curly, CloseCurly as close_curly, Colon as colon, Equal as equal, Becomes as becomes, In as within, To as to, Relation as relation, Name as name, Number as number}
use Rattle.lois_descent.specs.Lexemes.{lexeme_of}
use Rattle.lois_descent.specs.Refusals.{nesting, parts, turns, GoesOver}
use Rattle.lois_descent.specs.Machine.{Item, State, push, Verdict, refused, no_script, over, verdict}
use Rattle.lois_descent.specs.Refusals.{Refusal}
use Rattle.lois_descent.specs.Refusals.{NoScript, TooNested, WideTuple, TurnsTooMany, NoMemory}
use Rattle.lois_descent.specs.declared.lexemes.Lexeme.{Lexeme}
use Rattle.lois_descent.specs.declared.lexemes.Lexeme.TheVariants.{End}

abbrev pub first_lexeme : List PlacedToken → Lexeme
first_lexeme [] = End
first_lexeme (t ∷ ts) = lexeme_of t

-- the lexeme of token number `at`
unfoldable pub lexeme_at : List PlacedToken → ℕ → Lexeme
lexeme_at ts at = first_lexeme (drop at ts)

abbrev pub first_place : List PlacedToken → ℕ
first_place [] = 0
first_place (t ∷ ts) = t.place

unfoldable pub place_at : List PlacedToken → ℕ → ℕ
place_at ts at = first_place (drop at ts)

abbrev pub first_bytes : List PlacedToken → List ℕ
first_bytes [] = []
first_bytes (t ∷ ts) = t.bytes

unfoldable pub bytes_at : List PlacedToken → ℕ → List ℕ
bytes_at ts at = first_bytes (drop at ts)

abbrev pub AStructure : Spelling
AStructure before after = (ordered : Bool) × TakesWord (structure_word ordered) before after

abbrev pub AName : Spelling
AName before after = (place : ℕ) × (bytes : List ℕ) × TakesName place bytes before after

abbrev pub ANumber : Spelling
ANumber before after = (n : ℕ) × TakesNumber n before after

-- one token
abbrev pub One : Terminal → Spelling
One the_atoms = TakesWord (codes "atoms")
One structure = AStructure
One semicolon = TakesSymbol (codes ";")
One comma = TakesSymbol (codes ",")
One close_round = TakesSymbol (codes ")")
One close_square = TakesSymbol (codes "]")
One open_curly = TakesSymbol (codes "{")
One close_curly = TakesSymbol (codes "}")
One colon = TakesSymbol (codes ":")
One equal = TakesSymbol (codes "=")
One becomes = TakesSymbol (codes ":=")
One within = TakesWord (codes "in")
One to = TakesWord (codes "to")
One relation = Either (TakesSymbol (codes "=")) (Either (TakesSymbol (codes "!=")) (Either (TakesSymbol (codes "<")) (Either (TakesWord (codes "in")) (TakesWord (codes "subset")))))
One name = AName
One number = ANumber

-- From token number `at`, where n brackets are open and w has still to come, the machine comes to token number `end`,
-- where m are open and v has still to come, whatever is under them.
pub record Moves (ts : List PlacedToken) (at n : ℕ) (w : List Item) (end m : ℕ) (v : List Item) : Type 0 where
  pub run : (s : State) → verdict at n (push w s) (drop at ts) ≡ verdict end m (push v s) (drop end ts)

-- The error tells the verdict, and the tuple or the turns that are at fault.
abbrev pub RefusalMatches : List PlacedToken → Refusal → Verdict → Type 0
RefusalMatches ts (NoScript k) v = v ≡ refused no_script k
RefusalMatches ts (TooNested k) v = v ≡ refused (over nesting) k
RefusalMatches ts (WideTuple k) v = (v ≡ refused (over parts) k) × GoesOver parts ts k
RefusalMatches ts (TurnsTooMany k) v = (v ≡ refused (over turns) k) × GoesOver turns ts k
RefusalMatches ts NoMemory v = Unit {0}

-- From there the machine stops as the error says.
pub record Stuck (ts : List PlacedToken) (at n : ℕ) (w : List Item) (error : Refusal) : Type 0 where
  pub run : (s : State) → RefusalMatches ts error (verdict at n (push w s) (drop at ts))

abbrev pub is_closer : Terminal → Bool
is_closer close_round = true
is_closer close_square = true
is_closer close_curly = true
is_closer _ = false

-- no bracket
abbrev pub is_plain : Terminal → Bool
is_plain open_curly = false
is_plain x = not (is_closer x)
