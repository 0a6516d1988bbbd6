-- The words that a refusal is told by.
use Rattle.std.specs.Prelude.{ℕ, List, if◌then◌else◌, ◌==◌}
use Rattle.lois_script.specs.declared.syntax.Pos.{Pos}
use Rattle.lois_lexer.specs.Causes.{cause_text as lexical_cause}
use Rattle.lois_lexer.specs.declared.LexError.TheVariants.{BadByte, LongName, BadNumber}
use Rattle.lois_scope.specs.Causes.{cause_text as scope_cause}
use Rattle.lois_scope.specs.declared.checking.ScopeError.TheVariants.{Unknown, Again, OuterAssign, PrintInLoop, OrderInEquality}
use Rattle.lois_syntax.specs.Causes.{cause_text as syntax_cause}
use Rattle.lois_syntax.specs.declared.SyntaxError.TheVariants.{NoScript, TooNested, WideTuple, TurnsTooMany}

-- each refusal by its number; the last words are those of the last number
abbrev pub lexical_text : ℕ → List ℕ
lexical_text n = if (n == 1) then (lexical_cause (BadByte 0)) else (if (n == 2) then (lexical_cause (LongName 0)) else (lexical_cause (BadNumber 0)))

abbrev pub syntax_text : ℕ → List ℕ
syntax_text n =
    if (n == 1) then (syntax_cause (NoScript 0)) else
    (if (n == 2) then (syntax_cause (TooNested 0)) else
    (if (n == 3) then (syntax_cause (WideTuple 0)) else (syntax_cause (TurnsTooMany 0))))

abbrev pub place_zero : Pos
place_zero = record { offset = 0 }

abbrev pub scope_text : ℕ → List ℕ
scope_text n =
    if (n == 1) then (scope_cause (Unknown place_zero)) else
    (if (n == 2) then (scope_cause (Again place_zero)) else
    (if (n == 3) then (scope_cause (OuterAssign place_zero)) else
    (if (n == 4) then (scope_cause (PrintInLoop place_zero)) else (scope_cause (OrderInEquality place_zero)))))
