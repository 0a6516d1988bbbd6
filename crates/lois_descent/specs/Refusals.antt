-- Where the tokens of a text are refused as a script, and for what.
use Rattle.std.specs.Prelude.{◌≡◌, ℕ, suc, ◌<◌, ◌⊎◌, List, [], ◌∷◌, length, take, drop, map, codes, IsTrue}
use Rattle.lois_lexer.specs.declared.Token.{Token}
use Rattle.lois_script.specs.Tree.{ExprsD, ScriptD}
use Rattle.lois_script.specs.Grammar.{PlacedToken, token_at_place, ◌▹◌, TakesWord, TakesSymbol, TakesNumber, SpellsExprs, SpellsScript, Begins}
use Rattle.lois_script.specs.Limits.{opens, open_after, width}

-- Some script begins with the first k tokens, and none with one more; or there is no more, and they are none.
abbrev pub IsNoScriptAt : List PlacedToken → ℕ → Type 0
IsNoScriptAt tokens k =
    Begins (take k tokens) ×
    (((k < length tokens) × (Begins (take (suc k) tokens) → ⊥)) ⊎ ((k ≡ length tokens) × ((s : ScriptD) → SpellsScript s tokens → ⊥)))

-- how many brackets are open after the tokens, where n were before them
abbrev pub open_behind : ℕ → List PlacedToken → ℕ
open_behind n [] = n
open_behind n (t ∷ ts) = open_behind (open_after n t) ts

-- what a script may not go over
pub data Limit : Type 0 where
  nesting : Limit
  parts : Limit
  turns : Limit

-- Token k goes over the limit: it opens a bracket while 64 are open; or it is the comma behind the eighth part of a
-- tuple; or it is the number of turns, over 1,000,000. No form but a tuple has eight expressions behind a `(`.
abbrev pub GoesOver : Limit → List PlacedToken → ℕ → Type 0
GoesOver nesting tokens k =
    (t : PlacedToken) × (after : List PlacedToken) × (drop k tokens ≡ t ∷ after) × IsTrue (opens t) × (open_behind 0 (take k tokens) ≡ 64)
GoesOver parts tokens k =
    (j : ℕ) × (es : ExprsD) × (width es ≡ 8) × (TakesSymbol (codes "(") ▹ SpellsExprs es) (drop j tokens) (drop k tokens)
    × TakesSymbol (codes ",") (drop k tokens) (drop (suc k) tokens)
GoesOver turns tokens k =
    (j : ℕ) × (n : ℕ) × (k ≡ suc j) × (1000000 < n) × (TakesWord (codes "turns") ▹ TakesNumber n) (drop j tokens) (drop (suc k) tokens)

-- Token k is the first that goes over a limit, and some script of the grammar without limits begins with the tokens
-- up to it.
pub record BreaksLimit (limit : Limit) (tokens : List PlacedToken) (k : ℕ) : Type 0 where
  pub begun : Begins (take (suc k) tokens)
  pub over : GoesOver limit tokens k
  pub first : (other : Limit) (j : ℕ) → j < k → GoesOver other tokens j → ⊥

-- Why tokens are refused, and at which of them; or that memory ran out, which says nothing of the tokens.
pub data Refusal : Type 0 where
  NoScript : ℕ → Refusal
  TooNested : ℕ → Refusal
  WideTuple : ℕ → Refusal
  TurnsTooMany : ℕ → Refusal
  NoMemory : Refusal

-- The tokens are refused so.
abbrev pub Refused : List PlacedToken → Refusal → Type 0
Refused tokens (NoScript k) = IsNoScriptAt tokens k × ((limit : Limit) (j : ℕ) → j < k → GoesOver limit tokens j → ⊥)
Refused tokens (TooNested k) = BreaksLimit nesting tokens k
Refused tokens (WideTuple k) = BreaksLimit parts tokens k
Refused tokens (TurnsTooMany k) = BreaksLimit turns tokens k
Refused tokens NoMemory = ⊥

-- the tokens of a text, with their bytes
abbrev pub tokens_in : List ℕ → List Token → List PlacedToken
tokens_in text tokens = map (token_at_place text) tokens
