-- The reserved words and the symbols of the language.
use Rattle.std.specs.Prelude.{ℕ, List, [], ◌∷◌, codes}

unfoldable pub reserved : List (List ℕ)
reserved =
    codes "atoms" ∷ codes "equality" ∷ codes "order" ∷ codes "parameter" ∷ codes "let" ∷ codes "add" ∷
    codes "to" ∷ codes "for" ∷ codes "in" ∷ codes "where" ∷ codes "if" ∷ codes "else" ∷
    codes "while" ∷ codes "turns" ∷ codes "assert" ∷ codes "print" ∷ codes "true" ∷ codes "false" ∷
    codes "not" ∷ codes "and" ∷ codes "or" ∷ codes "exists" ∷ codes "forall" ∷ codes "subset" ∷
    codes "empty" ∷ codes "union" ∷ codes "inter" ∷ codes "minus" ∷ codes "flatten" ∷ codes "part" ∷
    codes "reach" ∷ codes "product" ∷ codes "complement" ∷ codes "minimise" ∷ codes "case" ∷ codes "end" ∷ []

unfoldable pub symbols : List (List ℕ)
symbols =
    codes ";" ∷ codes "," ∷ codes "(" ∷ codes ")" ∷ codes "[" ∷ codes "]" ∷ codes "{" ∷ codes "}" ∷
    codes ":=" ∷ codes ":" ∷ codes "=" ∷ codes "!=" ∷ codes "<" ∷ []
