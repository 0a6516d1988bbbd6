-- The places of a script where a statement may begin.
use Rattle.std.proofs.Common.{◌≡◌, false, Some, None, List, [], ◌∷◌, ◌++◌, append-nil, append_assoc, refl, sym, ap, ◌∙◌}
use Rattle.std.specs.Prelude.{option_map}
use Rattle.lois_script.specs.Grammar.{PlacedToken}
use Rattle.lois_descent.specs.Lexemes.{accepts, stmt_form, optional_start}
use Rattle.lois_descent.specs.declared.lexemes.Terminal.TheVariants.{OpenCurly as open_curly, CloseCurly as close_curly}
use Rattle.lois_descent.specs.Machine.{token, Item, terminal, condition, statements, after_if, outermost, after_outer_if, State, push, behind, statement_start, statements_start, at_bottom, bottom_start, step, item_breach, is_end_of}
use Rattle.lois_descent.specs.declared.lexemes.Lexeme.{Lexeme}
use Rattle.lois_descent.specs.declared.lexemes.Lexeme.TheVariants.{Word, Symbol}
use Rattle.lois_descent.specs.declared.lexemes.Keyword.TheVariants as words
use Rattle.lois_descent.specs.declared.lexemes.Punctuator.TheVariants as punctuators
use Rattle.lois_descent.specs.declared.lexemes.OptionalStart.TheVariants as leads
use Rattle.lois_descent.specs.declared.lexemes.StmtForm.TheVariants as stmts
use Rattle.lois_descent.proofs.TokenForms.{no_else, stmt_is}

-- A state where a statement may begin, and the one behind an `if`, where `else` may follow.
pub record Host : Type 0 where
  pub state : State
  pub choice : State
  pub calm : (t : PlacedToken) → item_breach state.stack t ≡ None
  pub calm_choice : (t : PlacedToken) → item_breach choice.stack t ≡ None
  pub starts : (l : Lexeme) (w : List Item) → statement_start l ≡ Some w → step state l ≡ Some (push w state)
  pub if_starts : step state (Word words.If) ≡ Some (push (condition (token open_curly) ∷ statements ∷ []) choice)
  pub else_starts : step choice (Word words.Else) ≡ Some (push (terminal open_curly ∷ statements ∷ []) state)
  pub passes : (l : Lexeme) → (optional_start l ≡ leads.Else → ⊥) → step choice l ≡ step state l
  pub ends : is_end_of choice.stack ≡ is_end_of state.stack

-- inside a block
pub statements_from : (l : Lexeme) (w : List Item) → statement_start l ≡ Some w → statements_start l ≡ Some (w ++ statements ∷ [])
statements_from (Symbol punctuators.CloseCurly) w e = absurd (cc)
statements_from (Word words.If) w e = absurd (cc)
statements_from l w e = ap (behind (statements ∷ [])) e

pub stray_inside : (l : Lexeme) → stmt_form l ≡ stmts.NoStmt → accepts close_curly l ≡ false → statements_start l ≡ None
stray_inside (Symbol punctuators.CloseCurly) e no_closer = absurd (cc)
stray_inside (Word words.If) e no_closer = absurd (cc)
stray_inside l e no_closer = ap (behind (statements ∷ [])) (stmt_is l stmts.NoStmt (sym e))

abbrev pub inside : State → Host
inside s = record {
  state = push (statements ∷ []) s;
  choice = push (after_if ∷ []) s;
  calm = λ t. refl;
  calm_choice = λ t. refl;
  starts = λ l w e. ap (option_map (λ x. at_bottom s.bottom (x ++ s.stack))) (statements_from l w e) ∙ ap (λ x. Some (at_bottom s.bottom x)) (append_assoc w (statements ∷ []) s.stack);
  if_starts = refl;
  else_starts = refl;
  passes = λ l h. ap (option_map (λ x. at_bottom s.bottom (x ++ s.stack))) (no_else l h);
  ends = refl;
}

-- in no block
pub outermost_from : (l : Lexeme) (w : List Item) → statement_start l ≡ Some w → bottom_start outermost l ≡ Some (push w (at_bottom outermost []))
outermost_from (Word words.If) w e = absurd (cc)
outermost_from l w e = ap (option_map (at_bottom outermost)) e ∙ ap (λ x. Some (at_bottom outermost x)) (sym (append-nil w))

pub no_else_outside : (l : Lexeme) → (optional_start l ≡ leads.Else → ⊥) → bottom_start after_outer_if l ≡ bottom_start outermost l
no_else_outside (Word words.Else) h = absurd (h refl)
no_else_outside _ h = refl

pub stray_outside : (l : Lexeme) → stmt_form l ≡ stmts.NoStmt → bottom_start outermost l ≡ None
stray_outside (Word words.If) e = absurd (cc)
stray_outside l e = ap (option_map (at_bottom outermost)) (stmt_is l stmts.NoStmt (sym e))

abbrev pub outside : Host
outside = record {
  state = at_bottom outermost [];
  choice = at_bottom after_outer_if [];
  calm = λ t. refl;
  calm_choice = λ t. refl;
  starts = outermost_from;
  if_starts = refl;
  else_starts = refl;
  passes = no_else_outside;
  ends = refl;
}
