-- What the grammar allows, the machine takes: where an item is spelled, its first token begins it, and what has to come
-- then is spelled behind it.
use Rattle.std.proofs.Common.{◌≡◌, ℕ, suc, zero, ◌+◌, ◌≤◌, Bool, true, false, Option, Some, None, List, [], ◌∷◌, ◌++◌, inl, inr, refl, sym, ◌∙◌, subst, arith, codes, le-leb}
use Rattle.std.specs.Prelude.{option_map}
use Rattle.lois_script.specs.Grammar.{PlacedToken, Spelling, ◌▹◌, Bracketed, TakesSymbol, HasArity, SpellsExpr, SpellsExprs, SpellsCond, SpellsMoreUnits, SpellsMoreConjunctions, Enclosed, is_unit, is_base, is_conjunction, SpellsStmt, SpellsStmts}
use Rattle.lois_script.specs.Limits.{width, IsNarrow, AreNarrow, CondIsNarrow, CondsAreNarrow, StmtIsWithin, StmtsAreWithin}
use Rattle.lois_script.specs.Tree.{ExprD, atoms, var, tag, tuple, listed, each, part, apply, ExprsD, no_exprs, expr, binding, no_bindings, bind, CondD, truth, falsity, same, differ, below, member, included, empty, not, all, any, exists, every, CondsD, no_conds, cond, StmtD, «let», assign, add, for, if, while, assert, print, StmtsD, no_stmts, stmt}
use Rattle.lois_script.specs.declared.syntax.Operation.{Operation}
use Rattle.lois_script.specs.declared.syntax.Operation.TheVariants.{Union, Inter, Minus, Flatten, Reach, Product, Complement, Minimise}
use Rattle.lois_descent.specs.Lexemes.{lexeme_of}
use Rattle.lois_descent.specs.declared.lexemes.Terminal.{Terminal}
use Rattle.lois_descent.specs.declared.lexemes.Terminal.TheVariants.{Atoms as the_atoms, Structure as structure, Semicolon as semicolon, Comma as comma, CloseRound as close_round, CloseSquare as close_square, OpenCurly as open_curly, CloseCurly as close_curly, Colon as colon, Equal as equal, Becomes as becomes, In as within, To as to, Relation as relation, Name as name, Number as number}
use Rattle.lois_descent.specs.Lexemes.{accepts}
use Rattle.lois_descent.specs.Machine.{ItemEnd, token, turns_block, Arguments, one, two, part_number, Item, terminal, expression, arguments, more_parts, more_items, after_brace, after_item, more_bindings, where_clause, condition, more_condition, unit, base, turns_number, statements, after_if, more_names, Bottom, body, outermost, after_outer_if, State, behind, accepted_if, arguments_of, operands, expression_start, base_start, unit_start, ending, where_start, statement_start, statements_start, after_if_start, more_parts_start, more_items_start, brace_start, after_item_start, more_bindings_start, more_condition_start, more_names_start, arguments_start, turns_start, item_start, at_bottom, outermost_start, bottom_start, step_from, step}
use Rattle.lois_descent.specs.declared.lexemes.Lexeme.{Lexeme}
use Rattle.lois_descent.specs.declared.lexemes.Lexeme.TheVariants.{Word, Symbol}
use Rattle.lois_descent.specs.declared.lexemes.Keyword.TheVariants as words
use Rattle.lois_descent.specs.declared.lexemes.Punctuator.TheVariants as punctuators
use Rattle.lois_descent.specs.Steps.{One}
use Rattle.lois_descent.proofs.Language.{AUnit, Operands, MoreParts, MoreItems, MoreBindings, AfterItem, AStatements, Turns, Ends, MoreCondition, AWhere, ACondition, AfterIf, MoreNames, Means, AllMean, BottomMeans, Completes, join}
use Rattle.lois_descent.proofs.Language.{GoesOn}
use Rattle.lois_descent.proofs.Keywords.{word_lexeme}

abbrev pub Begun : Type 0 → (Lexeme → Option (List Item)) → Spelling
Begun limits f [] after = ⊥
Begun limits f (t ∷ r) after = GoesOn limits (f (lexeme_of t)) r after

module _ (limits : Type 0) where
  begin : (f : Lexeme → Option (List Item)) (t : PlacedToken) (r before after : List PlacedToken) → before ≡ t ∷ r → GoesOn limits (f (lexeme_of t)) r after → Begun limits f before after
  begin f t r before after e h = subst (λ (b : List PlacedToken). Begun limits f b after) (sym e) h

  from_same : (f : Lexeme → Option (List Item)) (before m after : List PlacedToken) → before ≡ m → Begun limits f m after → Begun limits f before after
  from_same f before m after e h = subst (λ (b : List PlacedToken). Begun limits f b after) (sym e) h

  goes_behind : (v : List Item) (o : Option (List Item)) (r m after : List PlacedToken) → GoesOn limits o r m → AllMean limits v m after → GoesOn limits (behind v o) r after
  goes_behind v None r m after h g = h
  goes_behind v (Some w) r m after h g = join limits w v r m after h g

  begun_behind : (f : Lexeme → Option (List Item)) (v : List Item) (before m after : List PlacedToken) → Begun limits f before m → AllMean limits v m after → Begun limits (λ l. behind v (f l)) before after
  begun_behind f v [] m after h g = h
  begun_behind f v (t ∷ r) m after h g = goes_behind v (f (lexeme_of t)) r m after h g

  begun_as : (f g : Lexeme → Option (List Item)) → ((l : Lexeme) (r after : List PlacedToken) → GoesOn limits (f l) r after → GoesOn limits (g l) r after) →
      (before after : List PlacedToken) → Begun limits f before after → Begun limits g before after
  begun_as f g k [] after h = h
  begun_as f g k (t ∷ r) after h = k (lexeme_of t) r after h

  complete_terminal : (x : Terminal) (before after : List PlacedToken) → One x before after → Begun limits (λ l. accepted_if (accepts x l)) before after
  complete_terminal the_atoms before after (p, e) = begin (λ l. accepted_if (accepts the_atoms l)) _ after before after e refl
  complete_terminal structure before after (false, (p, e)) = begin (λ l. accepted_if (accepts structure l)) _ after before after e refl
  complete_terminal structure before after (true, (p, e)) = begin (λ l. accepted_if (accepts structure l)) _ after before after e refl
  complete_terminal semicolon before after (p, e) = begin (λ l. accepted_if (accepts semicolon l)) _ after before after e refl
  complete_terminal comma before after (p, e) = begin (λ l. accepted_if (accepts comma l)) _ after before after e refl
  complete_terminal close_round before after (p, e) = begin (λ l. accepted_if (accepts close_round l)) _ after before after e refl
  complete_terminal close_square before after (p, e) = begin (λ l. accepted_if (accepts close_square l)) _ after before after e refl
  complete_terminal open_curly before after (p, e) = begin (λ l. accepted_if (accepts open_curly l)) _ after before after e refl
  complete_terminal close_curly before after (p, e) = begin (λ l. accepted_if (accepts close_curly l)) _ after before after e refl
  complete_terminal colon before after (p, e) = begin (λ l. accepted_if (accepts colon l)) _ after before after e refl
  complete_terminal equal before after (p, e) = begin (λ l. accepted_if (accepts equal l)) _ after before after e refl
  complete_terminal becomes before after (p, e) = begin (λ l. accepted_if (accepts becomes l)) _ after before after e refl
  complete_terminal within before after (p, e) = begin (λ l. accepted_if (accepts within l)) _ after before after e refl
  complete_terminal to before after (p, e) = begin (λ l. accepted_if (accepts to l)) _ after before after e refl
  complete_terminal relation before after (inl (p, e)) = begin (λ l. accepted_if (accepts relation l)) _ after before after e refl
  complete_terminal relation before after (inr (inl (p, e))) = begin (λ l. accepted_if (accepts relation l)) _ after before after e refl
  complete_terminal relation before after (inr (inr (inl (p, e)))) = begin (λ l. accepted_if (accepts relation l)) _ after before after e refl
  complete_terminal relation before after (inr (inr (inr (inl (p, e))))) = begin (λ l. accepted_if (accepts relation l)) _ after before after e refl
  complete_terminal relation before after (inr (inr (inr (inr (p, e))))) = begin (λ l. accepted_if (accepts relation l)) _ after before after e refl
  complete_terminal name before after (p, x, e) = begin (λ l. accepted_if (accepts name l)) _ after before after e refl
  complete_terminal number before after (n, (p, digits, e, d)) = begin (λ l. accepted_if (accepts number l)) _ after before after e refl

  two_operands : (x y : ExprD) (before after : List PlacedToken) → (limits → IsNarrow x × IsNarrow y) →
      (SpellsExprs (expr x (expr y no_exprs)) ▹ TakesSymbol (codes ")")) before after → Operands limits two before after
  two_operands x y before after n (m2, (m1, s, (m3, sep, (m4, u, e))), close) =
      (m1, (x, λ k. (n k).0, s), (m3, sep, (m4, (y, λ k. (n k).1, u), subst (λ (b : List PlacedToken). TakesSymbol (codes ")") b after) (sym e) close)))

  one_operand : (x : ExprD) (before after : List PlacedToken) → (limits → IsNarrow x) →
      (SpellsExprs (expr x no_exprs) ▹ TakesSymbol (codes ")")) before after → Operands limits one before after
  one_operand x before after n (m2, (m1, s, e), close) =
      (m1, (x, n, s), subst (λ (b : List PlacedToken). TakesSymbol (codes ")") b after) (sym e) close)

  operands_of : (op : Operation) (es : ExprsD) (before after : List PlacedToken) → HasArity op es → (limits → AreNarrow es) →
      (SpellsExprs es ▹ TakesSymbol (codes ")")) before after → Operands limits (arguments_of op) before after
  operands_of Union (expr x (expr y no_exprs)) before after fits n h = two_operands x y before after (λ k. ((n k).0, (n k).1.0)) h
  operands_of Inter (expr x (expr y no_exprs)) before after fits n h = two_operands x y before after (λ k. ((n k).0, (n k).1.0)) h
  operands_of Minus (expr x (expr y no_exprs)) before after fits n h = two_operands x y before after (λ k. ((n k).0, (n k).1.0)) h
  operands_of Product (expr x (expr y no_exprs)) before after fits n h = two_operands x y before after (λ k. ((n k).0, (n k).1.0)) h
  operands_of Flatten (expr x no_exprs) before after fits n h = one_operand x before after (λ k. (n k).0) h
  operands_of Reach (expr x no_exprs) before after fits n h = one_operand x before after (λ k. (n k).0) h
  operands_of Complement (expr x no_exprs) before after fits n h = one_operand x before after (λ k. (n k).0) h
  operands_of Minimise (expr x no_exprs) before after fits n h = one_operand x before after (λ k. (n k).0) h
  operands_of _ _ before after fits n h = absurd fits

  complete_expression : (e : ExprD) (before after : List PlacedToken) → (limits → IsNarrow e) → SpellsExpr e before after → Begun limits expression_start before after
  complete_expression (atoms p) before after n e = begin expression_start _ after before after e refl
  complete_expression (var p x) before after n e = begin expression_start _ after before after e refl
  complete_expression (tag p x) before after n e = begin expression_start _ after before after e refl
  complete_expression (tuple p no_exprs) before after n (wide, h) = absurd wide
  complete_expression (tuple p (expr x no_exprs)) before after n (wide, h) = absurd wide
  complete_expression (tuple p (expr x (expr y es))) before after n (wide, (m, e, (m2, (m1, s, more), close))) =
      let narrow : limits → AreNarrow (expr y es) × (1 + width (expr y es) ≤ 8) = λ k. ((n k).1.1, let bound = (n k).0 in omega arith) in
      begin expression_start _ m before after e (m1, (x, λ k. (n k).1.0, s), (after, (expr y es, omega arith, narrow, (m2, more, close)), refl))
  complete_expression (listed p no_exprs) before after n (m, e, (m1, same_place, close)) =
      begin expression_start _ m before after e (after, inl (subst (λ (b : List PlacedToken). TakesSymbol (codes "}") b after) (sym same_place) close), refl)
  complete_expression (listed p (expr x es)) before after n (m, e, (m2, (m1, s, more), close)) =
      begin expression_start _ m before after e (after, inr (m1, (x, λ k. (n k).0, s), inl (es, λ k. (n k).1, (m2, more, close))), refl)
  complete_expression (each p x no_bindings c) before after n (m, e, (m1, s, (m2, word, (m4, none, rest)))) = absurd none
  complete_expression (each p x (bind b bs) c) before after n (m, e, (m1, s, (m2, word, (m4, (m3, sb, more), (m5, guard, close))))) =
      begin expression_start _ m before after e
      (after, inr (m1, (x, λ k. (n k).0, s), inr (m2, word, (m3, (b, λ k. (n k).1.0, sb), (bs, c, λ k. ((n k).1.1, (n k).2), (m4, more, (m5, guard, close)))))), refl)
  complete_expression (part p x i) before after n (m, e, (m1, bracket, (m2, s, (m3, sep, (m4, num, close))))) =
      begin expression_start _ m before after e (after, (m1, bracket, (m2, (x, n, s), (m3, sep, (m4, (i, num), close)))), refl)
  complete_expression (apply p op es) before after n (fits, (m, e, (m1, bracket, h))) =
      begin expression_start _ m before after e
      (subst (λ (l : Lexeme). GoesOn limits (expression_start l) m after) (sym (word_lexeme op)) (after, (m1, bracket, operands_of op es m1 after fits n h), refl))

  compared : (x y : ExprD) (before m m1 after : List PlacedToken) → (limits → IsNarrow x × IsNarrow y) → SpellsExpr x before m → One relation m m1 → SpellsExpr y m1 after → Begun limits base_start before after
  compared x y before m m1 after n s sign u =
      begun_as (λ l. behind (terminal relation ∷ expression ∷ []) (expression_start l)) base_start as_base before after
      (begun_behind expression_start (terminal relation ∷ expression ∷ []) before m after (complete_expression x before m (λ k. (n k).0) s) (m1, sign, (after, (y, λ k. (n k).1, u), refl)))
    where
      as_base : (l : Lexeme) (r end : List PlacedToken) → GoesOn limits (behind (terminal relation ∷ expression ∷ []) (expression_start l)) r end → GoesOn limits (base_start l) r end
      as_base (Word words.True) r end h = absurd h
      as_base (Word words.False) r end h = absurd h
      as_base (Word words.Empty) r end h = absurd h
      as_base (Symbol punctuators.OpenSquare) r end h = absurd h
      as_base _ r end h = h

  bare_base : (c : CondD) (before after : List PlacedToken) → is_base c ≡ true → (limits → CondIsNarrow c) → SpellsCond c before after → Begun limits base_start before after
  bare_base truth before after h n (p, e) = begin base_start _ after before after e refl
  bare_base falsity before after h n (p, e) = begin base_start _ after before after e refl
  bare_base (same x y) before after h n (m, s, (m1, sign, u)) = compared x y before m m1 after n s (inl sign) u
  bare_base (differ x y) before after h n (m, s, (m1, sign, u)) = compared x y before m m1 after n s (inr (inl sign)) u
  bare_base (below p x y) before after h n (m, s, (m1, sign, u)) = compared x y before m m1 after n s (inr (inr (inl (p, sign)))) u
  bare_base (member x y) before after h n (m, s, (m1, word, u)) = compared x y before m m1 after n s (inr (inr (inr (inl word)))) u
  bare_base (included x y) before after h n (m, s, (m1, word, u)) = compared x y before m m1 after n s (inr (inr (inr (inr word)))) u
  bare_base (empty x) before after h n (m, (p, e), (m1, bracket, (m2, s, close))) =
      begin base_start _ m before after e (after, (m1, bracket, (m2, (x, n, s), close)), refl)
  bare_base _ before after h n s = absurd (cc)

  in_brackets : (c : CondD) (i : ℕ) (before after : List PlacedToken) → (limits → CondIsNarrow c) → Bracketed (suc i) (SpellsCond c) before after → Begun limits base_start before after
  in_brackets c i before after n (m, (p, e), (m2, inside, close)) = begin base_start _ m before after e (after, (c, n, (m2, (i, inl refl, inside), close)), refl)

  complete_base : (c : CondD) (before after : List PlacedToken) → (limits → CondIsNarrow c) → Enclosed (is_base c) (SpellsCond c) before after → Begun limits base_start before after
  complete_base c before after n (zero, inl form, s) = bare_base c before after form n s
  complete_base c before after n (zero, inr none, s) = absurd (omega arith)
  complete_base c before after n (suc i, form, s) = in_brackets c i before after n s

  as_unit : (l : Lexeme) (r after : List PlacedToken) → GoesOn limits (base_start l) r after → GoesOn limits (unit_start l) r after
  as_unit (Word words.Not) r after h = absurd h
  as_unit (Word words.Exists) r after h = absurd h
  as_unit (Word words.Forall) r after h = absurd h
  as_unit _ r after h = h

  base_as_unit : (before after : List PlacedToken) → Begun limits base_start before after → Begun limits unit_start before after
  base_as_unit before after h = begun_as base_start unit_start as_unit before after h

  bare_unit : (c : CondD) (before after : List PlacedToken) → is_unit c ≡ true → (limits → CondIsNarrow c) → SpellsCond c before after → Begun limits unit_start before after
  bare_unit (not c) before after h n (m, (p, e), inside) = begin unit_start _ m before after e (after, (c, n, inside), refl)
  bare_unit (exists (binding q x y) c) before after h n (m, (p, e), (m3, (m1, tn, (m2, word, s)), (m4, sign, inside))) =
      begin unit_start _ m before after e (m1, (q, x, tn), (m2, word, (m3, (y, λ k. (n k).0, s), (m4, sign, (after, (c, λ k. (n k).1, inside), refl)))))
  bare_unit (every (binding q x y) c) before after h n (m, (p, e), (m3, (m1, tn, (m2, word, s)), (m4, sign, inside))) =
      begin unit_start _ m before after e (m1, (q, x, tn), (m2, word, (m3, (y, λ k. (n k).0, s), (m4, sign, (after, (c, λ k. (n k).1, inside), refl)))))
  bare_unit (all cs) before after h n s = absurd (cc)
  bare_unit (any cs) before after h n s = absurd (cc)
  bare_unit truth before after h n s = base_as_unit before after (bare_base truth before after refl n s)
  bare_unit falsity before after h n s = base_as_unit before after (bare_base falsity before after refl n s)
  bare_unit (same x y) before after h n s = base_as_unit before after (bare_base (same x y) before after refl n s)
  bare_unit (differ x y) before after h n s = base_as_unit before after (bare_base (differ x y) before after refl n s)
  bare_unit (below p x y) before after h n s = base_as_unit before after (bare_base (below p x y) before after refl n s)
  bare_unit (member x y) before after h n s = base_as_unit before after (bare_base (member x y) before after refl n s)
  bare_unit (included x y) before after h n s = base_as_unit before after (bare_base (included x y) before after refl n s)
  bare_unit (empty x) before after h n s = base_as_unit before after (bare_base (empty x) before after refl n s)

  complete_unit : (before after : List PlacedToken) → AUnit limits before after → Begun limits unit_start before after
  complete_unit before after (c, n, (zero, inl form, s)) = bare_unit c before after form n s
  complete_unit before after (c, n, (zero, inr none, s)) = absurd (omega arith)
  complete_unit before after (c, n, (suc i, form, s)) = base_as_unit before after (in_brackets c i before after n s)

  -- a conjunction is a unit and more of them, a condition a unit and more of both
  record Conjunction (before after : List PlacedToken) : Type 0 where
    first : List PlacedToken
    head : AUnit limits before first
    more : CondsD
    narrow : limits → CondsAreNarrow more
    rest : SpellsMoreUnits more first after

  record Condition (before after : List PlacedToken) : Type 0 where
    first : List PlacedToken
    head : AUnit limits before first
    more : CondsD
    others : CondsD
    narrow : limits → CondsAreNarrow more × CondsAreNarrow others
    rest : (SpellsMoreUnits more ▹ SpellsMoreConjunctions others) first after

  lone_unit : (c : CondD) (before after : List PlacedToken) → (limits → CondIsNarrow c) → Enclosed (is_unit c) (SpellsCond c) before after → Conjunction before after
  lone_unit c before after n s = record { first = after; head = (c, n, s); more = no_conds; narrow = λ k. tt; rest = refl }

  bare_conjunction : (d : CondD) (before after : List PlacedToken) → is_conjunction d ≡ true → (limits → CondIsNarrow d) → SpellsCond d before after → Conjunction before after
  bare_conjunction (all no_conds) before after h n (many, s) = absurd many
  bare_conjunction (all (cond c us)) before after h n (many, (m1, u, more)) =
      record { first = m1; head = (c, λ k. (n k).0, u); more = us; narrow = λ k. (n k).1; rest = more }
  bare_conjunction (any cs) before after h n s = absurd (cc)
  bare_conjunction truth before after h n s = lone_unit truth before after n (0, inl refl, s)
  bare_conjunction falsity before after h n s = lone_unit falsity before after n (0, inl refl, s)
  bare_conjunction (same x y) before after h n s = lone_unit (same x y) before after n (0, inl refl, s)
  bare_conjunction (differ x y) before after h n s = lone_unit (differ x y) before after n (0, inl refl, s)
  bare_conjunction (below p x y) before after h n s = lone_unit (below p x y) before after n (0, inl refl, s)
  bare_conjunction (member x y) before after h n s = lone_unit (member x y) before after n (0, inl refl, s)
  bare_conjunction (included x y) before after h n s = lone_unit (included x y) before after n (0, inl refl, s)
  bare_conjunction (empty x) before after h n s = lone_unit (empty x) before after n (0, inl refl, s)
  bare_conjunction (not c) before after h n s = lone_unit (not c) before after n (0, inl refl, s)
  bare_conjunction (exists b c) before after h n s = lone_unit (exists b c) before after n (0, inl refl, s)
  bare_conjunction (every b c) before after h n s = lone_unit (every b c) before after n (0, inl refl, s)

  conjunction_of : (d : CondD) (before after : List PlacedToken) → (limits → CondIsNarrow d) → Enclosed (is_conjunction d) (SpellsCond d) before after → Conjunction before after
  conjunction_of d before after n (zero, inl form, s) = bare_conjunction d before after form n s
  conjunction_of d before after n (zero, inr none, s) = absurd (omega arith)
  conjunction_of d before after n (suc i, form, s) = lone_unit d before after n (suc i, inr (omega arith), s)

  lone_conjunction : (before after : List PlacedToken) → Conjunction before after → Condition before after
  lone_conjunction before after c =
      record { first = c.first; head = c.head; more = c.more; others = no_conds; narrow = λ k. (c.narrow k, tt); rest = (after, c.rest, refl) }

  bare_condition : (f : CondD) (before after : List PlacedToken) → (limits → CondIsNarrow f) → SpellsCond f before after → Condition before after
  bare_condition (any no_conds) before after n (many, s) = absurd many
  bare_condition (any (cond d cs)) before after n (many, (m1, h, more)) =
      let c = conjunction_of d before m1 (λ k. (n k).0) h in
      record { first = c.first; head = c.head; more = c.more; others = cs; narrow = λ k. (c.narrow k, (n k).1); rest = (m1, c.rest, more) }
  bare_condition (all cs) before after n s = lone_conjunction before after (bare_conjunction (all cs) before after refl n s)
  bare_condition truth before after n s = lone_conjunction before after (bare_conjunction truth before after refl n s)
  bare_condition falsity before after n s = lone_conjunction before after (bare_conjunction falsity before after refl n s)
  bare_condition (same x y) before after n s = lone_conjunction before after (bare_conjunction (same x y) before after refl n s)
  bare_condition (differ x y) before after n s = lone_conjunction before after (bare_conjunction (differ x y) before after refl n s)
  bare_condition (below p x y) before after n s = lone_conjunction before after (bare_conjunction (below p x y) before after refl n s)
  bare_condition (member x y) before after n s = lone_conjunction before after (bare_conjunction (member x y) before after refl n s)
  bare_condition (included x y) before after n s = lone_conjunction before after (bare_conjunction (included x y) before after refl n s)
  bare_condition (empty x) before after n s = lone_conjunction before after (bare_conjunction (empty x) before after refl n s)
  bare_condition (not c) before after n s = lone_conjunction before after (bare_conjunction (not c) before after refl n s)
  bare_condition (exists b c) before after n s = lone_conjunction before after (bare_conjunction (exists b c) before after refl n s)
  bare_condition (every b c) before after n s = lone_conjunction before after (bare_conjunction (every b c) before after refl n s)

  condition_of : (f : CondD) (before after : List PlacedToken) → (limits → CondIsNarrow f) → Enclosed true (SpellsCond f) before after → Condition before after
  condition_of f before after n (zero, form, s) = bare_condition f before after n s
  condition_of f before after n (suc i, form, s) = lone_conjunction before after (lone_unit f before after n (suc i, inr (omega arith), s))

  complete_condition : (x : ItemEnd) (before after : List PlacedToken) → ACondition limits x before after → Begun limits (λ l. behind (more_condition x ∷ []) (unit_start l)) before after
  complete_condition x before after (f, n, (m, h, end)) =
      let c = condition_of f before m n h in
      begun_behind unit_start (more_condition x ∷ []) before c.first after (complete_unit before c.first c.head)
      (after, (c.more, c.others, c.narrow, (c.rest.0, c.rest.1, (m, c.rest.2, end))), refl)

  complete_ending : (x : ItemEnd) (before after : List PlacedToken) → Ends limits x before after → Begun limits (ending x) before after
  complete_ending (token x) before after h = complete_terminal x before after h
  complete_ending turns_block before after (m, (p, e), (m1, n, (m2, bracket, l))) = begin (ending turns_block) _ m before after e (m1, n, (m2, bracket, (after, l, refl)))

  no_word : (x : Terminal) (r after : List PlacedToken) → GoesOn limits (accepted_if (accepts x (Word words.Where))) r after → ⊥
  no_word the_atoms r after h = h
  no_word _ r after h = h

  no_and : (x : ItemEnd) (r after : List PlacedToken) → GoesOn limits (ending x (Word words.And)) r after → ⊥
  no_and (token the_atoms) r after h = h
  no_and (token _) r after h = h
  no_and turns_block r after h = h

  no_or : (x : ItemEnd) (r after : List PlacedToken) → GoesOn limits (ending x (Word words.Or)) r after → ⊥
  no_or (token the_atoms) r after h = h
  no_or (token _) r after h = h
  no_or turns_block r after h = h

  as_more_condition : (x : ItemEnd) (l : Lexeme) (r after : List PlacedToken) → GoesOn limits (ending x l) r after → GoesOn limits (more_condition_start x l) r after
  as_more_condition x (Word words.And) r after h = absurd (no_and x r after h)
  as_more_condition x (Word words.Or) r after h = absurd (no_or x r after h)
  as_more_condition x _ r after h = h

  complete_more_condition : (x : ItemEnd) (before after : List PlacedToken) → MoreCondition limits x before after → Begun limits (more_condition_start x) before after
  complete_more_condition x before after (cond c us, cs, n, (m1, (m, (p, e), (m0, u, more)), rest)) =
      begin (more_condition_start x) _ m before after e (m0, (c, λ k. (n k).0.0, u), (after, (us, cs, λ k. ((n k).0.1, (n k).1), (m1, more, rest)), refl))
  complete_more_condition x before after (no_conds, cond d cs, n, (m1, e1, (m2, (m, (p, e), (m0, h, more)), end))) =
      let c = conjunction_of d m m0 (λ k. (n k).1.0) h in
      begin (more_condition_start x) _ m before after (e1 ∙ e) (c.first, c.head, (after, (c.more, cs, λ k. (c.narrow k, (n k).1.1), (m0, c.rest, (m2, more, end))), refl))
  complete_more_condition x before after (no_conds, no_conds, n, (m1, e1, (m2, e2, end))) =
      from_same (more_condition_start x) before m2 after (e1 ∙ e2) (begun_as (ending x) (more_condition_start x) (as_more_condition x) m2 after (complete_ending x m2 after end))

  as_where : (x : Terminal) (l : Lexeme) (r after : List PlacedToken) → GoesOn limits (accepted_if (accepts x l)) r after → GoesOn limits (where_start x l) r after
  as_where x (Word words.Where) r after h = absurd (no_word x r after h)
  as_where x _ r after h = h

  complete_where : (x : Terminal) (before after : List PlacedToken) → AWhere limits x before after → Begun limits (where_start x) before after
  complete_where x before after (c, n, (m, inl (holds, e), end)) =
      from_same (where_start x) before m after e (begun_as (λ l. accepted_if (accepts x l)) (where_start x) (as_where x) m after (complete_terminal x m after end))
  complete_where x before after (c, n, (m, inr (m1, (p, e), h), end)) = begin (where_start x) _ m1 before after e (after, (c, n, (m, h, end)), refl)

  abbrev IsPlain : StmtD → Type 0
  IsPlain ((if) c l k) = ⊥
  IsPlain _ = Unit {0}

  complete_statement : (s : StmtD) (before after : List PlacedToken) → IsPlain s → (limits → StmtIsWithin s) → SpellsStmt s before after → Begun limits statement_start before after
  complete_statement («let» p x y) before after plain n (m, (q, e), (m1, tn, (m2, sign, (m3, s, end)))) =
      begin statement_start _ m before after e (m1, (p, x, tn), (m2, sign, (m3, (y, n, s), (after, end, refl))))
  complete_statement (assign p x y) before after plain n (m, e, (m1, sign, (m2, s, end))) =
      begin statement_start _ m before after e (m1, sign, (m2, (y, n, s), (after, end, refl)))
  complete_statement (add y p x) before after plain n (m, (q, e), (m1, s, (m2, word, (m3, tn, end)))) =
      begin statement_start _ m before after e (m1, (y, n, s), (m2, word, (m3, (p, x, tn), (after, end, refl))))
  complete_statement (for (binding p x y) c l) before after plain n (m, (q, e), (m3, (m1, tn, (m2, word, s)), (m5, guard, (m4, bracket, (m6, inside, close))))) =
      begin statement_start _ m before after e
      (m1, (p, x, tn), (m2, word, (m3, (y, λ k. (n k).0, s), (m4, (c, λ k. (n k).1, (m5, guard, bracket)), (after, (l, λ k. (n k).2, (m6, inside, close)), refl)))))
  complete_statement ((if) c l k) before after plain n h = absurd plain
  complete_statement (while p c i l) before after plain n (m, e, (m1, h, (m2, word, (m3, num, (m4, bracket, (m5, inside, close)))))) =
      begin statement_start _ m before after e
      (after, (c, λ k. (n k).1, (m1, h, (m2, word, (m3, (i, λ k. (n k).0, num), (m4, bracket, (l, λ k. (n k).2, (m5, inside, close))))))), refl)
  complete_statement (assert p c) before after plain n (m, e, (m1, h, end)) = begin statement_start _ m before after e (after, (c, n, (m1, h, end)), refl)
  complete_statement (print p q x) before after plain n (m, e, (m1, tn, end)) = begin statement_start _ m before after e (m1, (q, x, tn), (after, end, refl))

  as_statements : (l : Lexeme) (r after : List PlacedToken) → GoesOn limits (behind (statements ∷ []) (statement_start l)) r after → GoesOn limits (statements_start l) r after
  as_statements (Symbol punctuators.CloseCurly) r after h = absurd h
  as_statements (Word words.If) r after h = absurd h
  as_statements _ r after h = h

  -- a statement that isn't `if`, and what follows it
  plain_first : (s : StmtD) (rest : StmtsD) (before m after : List PlacedToken) → IsPlain s → (limits → StmtIsWithin s × StmtsAreWithin rest) → SpellsStmt s before m →
      (SpellsStmts rest ▹ TakesSymbol (codes "}")) m after → Begun limits statements_start before after
  plain_first s rest before m after plain n h more =
      begun_as (λ l. behind (statements ∷ []) (statement_start l)) statements_start as_statements before after
      (begun_behind statement_start (statements ∷ []) before m after (complete_statement s before m plain (λ k. (n k).0) h) (after, (rest, λ k. (n k).1, more), refl))

  complete_statements : (before after : List PlacedToken) → AStatements limits before after → Begun limits statements_start before after
  complete_statements before after (no_stmts, n, (m, e, (p, close))) = begin statements_start _ after before after (e ∙ close) refl
  complete_statements before after (stmt ((if) c l l2) rest, n, (m, (m1, (k, (q, e), (m2, h, (m3, (m4, bracket, (m5, inside, shut)), otherwise))), ss), close)) =
      begin statements_start _ k before after e
      (m4, (c, λ i. (n i).0.0, (m2, h, bracket)), (m3, (l, λ i. (n i).0.1, (m5, inside, shut)), (after, (l2, rest, λ i. ((n i).0.2, (n i).1), (m1, otherwise, (m, ss, close))), refl)))
  complete_statements before after (stmt («let» p x y) rest, n, (m, (m1, h, ss), close)) = plain_first («let» p x y) rest before m1 after tt n h (m, ss, close)
  complete_statements before after (stmt (assign p x y) rest, n, (m, (m1, h, ss), close)) = plain_first (assign p x y) rest before m1 after tt n h (m, ss, close)
  complete_statements before after (stmt (add y p x) rest, n, (m, (m1, h, ss), close)) = plain_first (add y p x) rest before m1 after tt n h (m, ss, close)
  complete_statements before after (stmt (for b c l) rest, n, (m, (m1, h, ss), close)) = plain_first (for b c l) rest before m1 after tt n h (m, ss, close)
  complete_statements before after (stmt (while p c i l) rest, n, (m, (m1, h, ss), close)) = plain_first (while p c i l) rest before m1 after tt n h (m, ss, close)
  complete_statements before after (stmt (assert p c) rest, n, (m, (m1, h, ss), close)) = plain_first (assert p c) rest before m1 after tt n h (m, ss, close)
  complete_statements before after (stmt (print p q x) rest, n, (m, (m1, h, ss), close)) = plain_first (print p q x) rest before m1 after tt n h (m, ss, close)

  as_after_if : (l : Lexeme) (r after : List PlacedToken) → GoesOn limits (statements_start l) r after → GoesOn limits (after_if_start l) r after
  as_after_if (Word words.Else) r after h = absurd h
  as_after_if _ r after h = h

  complete_after_if : (before after : List PlacedToken) → AfterIf limits before after → Begun limits after_if_start before after
  complete_after_if before after (l, rest, n, (m, inl (none, e), more)) =
      from_same after_if_start before m after e (begun_as statements_start after_if_start as_after_if m after (complete_statements m after (rest, λ k. (n k).1, more)))
  complete_after_if before after (l, rest, n, (m, inr (k, (q, e), (k1, bracket, (k2, inside, shut))), more)) =
      begin after_if_start _ k before after e (k1, bracket, (m, (l, λ i. (n i).0, (k2, inside, shut)), (after, (rest, λ i. (n i).1, more), refl)))

  complete_more_parts : (i : ℕ) (before after : List PlacedToken) → MoreParts limits i before after → Begun limits (more_parts_start i) before after
  complete_more_parts i before after (no_exprs, wide, n, (m, e, (p, close))) =
      let enough : 2 ≤ i = omega arith in
      begin (more_parts_start i) _ after before after (e ∙ close) (subst (λ (b : Bool). GoesOn limits (accepted_if b) after after) (sym (le-leb 2 i enough)) refl)
  complete_more_parts i before after (expr y es, wide, n, (m, (m1, (q, e), (m2, s, more)), close)) =
      let narrow : limits → AreNarrow es × (suc i + width es ≤ 8) = λ k. ((n k).0.1, let bound = (n k).1 in omega arith) in
      begin (more_parts_start i) _ m1 before after e (m2, (y, λ k. (n k).0.0, s), (after, (es, omega arith, narrow, (m, more, close)), refl))

  complete_more_items : (before after : List PlacedToken) → MoreItems limits before after → Begun limits more_items_start before after
  complete_more_items before after (no_exprs, n, (m, e, (p, close))) = begin more_items_start _ after before after (e ∙ close) refl
  complete_more_items before after (expr y es, n, (m, (m1, (q, e), (m2, s, more)), close)) =
      begin more_items_start _ m1 before after e (m2, (y, λ k. (n k).0, s), (after, (es, λ k. (n k).1, (m, more, close)), refl))

  complete_after_item : (before after : List PlacedToken) → AfterItem limits before after → Begun limits after_item_start before after
  complete_after_item before after (inl (no_exprs, n, (m, e, (p, close)))) = begin after_item_start _ after before after (e ∙ close) refl
  complete_after_item before after (inl (expr y es, n, (m, (m1, (q, e), (m2, s, more)), close))) =
      begin after_item_start _ m1 before after e (m2, (y, λ k. (n k).0, s), (after, (es, λ k. (n k).1, (m, more, close)), refl))
  complete_after_item before after (inr (m, (q, e), (m3, (binding p x y, n, (m1, tn, (m2, word, s))), rest))) =
      begin after_item_start _ m before after e (m1, (p, x, tn), (m2, word, (m3, (y, n, s), (after, rest, refl))))

  as_more_bindings : (l : Lexeme) (r after : List PlacedToken) → GoesOn limits (where_start close_curly l) r after → GoesOn limits (more_bindings_start l) r after
  as_more_bindings (Symbol punctuators.Comma) r after h = absurd h
  as_more_bindings _ r after h = h

  complete_more_bindings : (before after : List PlacedToken) → MoreBindings limits before after → Begun limits more_bindings_start before after
  complete_more_bindings before after (no_bindings, c, n, (m, e, rest)) =
      from_same more_bindings_start before m after e
      (begun_as (where_start close_curly) more_bindings_start as_more_bindings m after (complete_where close_curly m after (c, λ k. (n k).1, rest)))
  complete_more_bindings before after (bind (binding p x y) bs, c, n, (m, (k, (q, e), (k3, (k1, tn, (k2, word, s)), more)), rest)) =
      begin more_bindings_start _ k before after e (k1, (p, x, tn), (k2, word, (k3, (y, λ i. (n i).0.0, s), (after, (bs, c, λ i. ((n i).0.1, (n i).1), (m, more, rest)), refl))))

  as_brace : (l : Lexeme) (r after : List PlacedToken) → GoesOn limits (behind (after_item ∷ []) (expression_start l)) r after → GoesOn limits (brace_start l) r after
  as_brace (Symbol punctuators.CloseCurly) r after h = absurd h
  as_brace _ r after h = h

  complete_brace : (before after : List PlacedToken) → Means limits after_brace before after → Begun limits brace_start before after
  complete_brace before after (inl (p, close)) = begin brace_start _ after before after close refl
  complete_brace before after (inr (m, (x, n, s), rest)) =
      begun_as (λ l. behind (after_item ∷ []) (expression_start l)) brace_start as_brace before after
      (begun_behind expression_start (after_item ∷ []) before m after (complete_expression x before m n s) (after, rest, refl))

  all_operands : (a : Arguments) (before after : List PlacedToken) → Operands limits a before after → AllMean limits (operands a) before after
  all_operands one before after (m, x, close) = (m, x, (after, close, refl))
  all_operands two before after (m, x, (m1, sep, (m2, y, close))) = (m, x, (m1, sep, (m2, y, (after, close, refl))))
  all_operands part_number before after (m, x, (m1, sep, (m2, y, close))) = (m, x, (m1, sep, (m2, y, (after, close, refl))))

  complete_arguments : (a : Arguments) (before after : List PlacedToken) → Means limits (arguments a) before after → Begun limits (arguments_start a) before after
  complete_arguments a before after (m, (p, e), h) = begin (arguments_start a) _ m before after e (all_operands a m after h)

  complete_turns : (before after : List PlacedToken) → Turns limits before after → Begun limits turns_start before after
  complete_turns before after (i, n, (p, digits, e, d)) = begin turns_start _ after before after e refl

  complete_more_names : (before after : List PlacedToken) → MoreNames before after → Begun limits more_names_start before after
  complete_more_names before after ([], (m, e, (p, end))) = begin more_names_start _ after before after (e ∙ end) refl
  complete_more_names before after (x ∷ xs, (m, (k, (q, e), (k1, tn, more)), end)) =
      begin more_names_start _ k before after e (k1, (x.place, x.name, tn), (after, (xs, (m, more, end)), refl))

  -- an expression on its own, and what an item is
  pub complete_item : (x : Item) (before after : List PlacedToken) → Means limits x before after → Begun limits (item_start x) before after
  complete_item (terminal x) before after h = complete_terminal x before after h
  complete_item expression before after (e, n, s) = complete_expression e before after n s
  complete_item (arguments a) before after h = complete_arguments a before after h
  complete_item (more_parts n) before after h = complete_more_parts n before after h
  complete_item more_items before after h = complete_more_items before after h
  complete_item after_brace before after h = complete_brace before after h
  complete_item after_item before after h = complete_after_item before after h
  complete_item more_bindings before after h = complete_more_bindings before after h
  complete_item (where_clause x) before after h = complete_where x before after h
  complete_item (condition x) before after h = complete_condition x before after h
  complete_item (more_condition x) before after h = complete_more_condition x before after h
  complete_item unit before after h = complete_unit before after h
  complete_item base before after (c, n, s) = complete_base c before after n s
  complete_item turns_number before after h = complete_turns before after h
  complete_item statements before after h = complete_statements before after h
  complete_item after_if before after h = complete_after_if before after h
  complete_item more_names before after h = complete_more_names before after h

  abbrev StateGoesOn : Option State → List PlacedToken → Type 0
  StateGoesOn None tokens = ⊥
  StateGoesOn (Some next) tokens = Completes limits next tokens

  -- the tokens may end here
  abbrev BottomBegun : (Lexeme → Option State) → List PlacedToken → Type 0
  BottomBegun f [] = Unit {0}
  BottomBegun f (t ∷ r) = StateGoesOn (f (lexeme_of t)) r

  bottom_begin : (f : Lexeme → Option State) (t : PlacedToken) (r before : List PlacedToken) → before ≡ t ∷ r → StateGoesOn (f (lexeme_of t)) r → BottomBegun f before
  bottom_begin f t r before e h = subst (BottomBegun f) (sym e) h

  bottom_as : (f g : Lexeme → Option State) → ((l : Lexeme) (r : List PlacedToken) → StateGoesOn (f l) r → StateGoesOn (g l) r) → (before : List PlacedToken) → BottomBegun f before → BottomBegun g before
  bottom_as f g k [] h = h
  bottom_as f g k (t ∷ r) h = k (lexeme_of t) r h

  outer_goes : (o : Option (List Item)) (r m : List PlacedToken) → GoesOn limits o r m → BottomMeans limits outermost m → StateGoesOn (option_map (at_bottom outermost) o) r
  outer_goes None r m h g = h
  outer_goes (Some w) r m h g = (m, h, g)

  outer_plain : (before m : List PlacedToken) → Begun limits statement_start before m → BottomMeans limits outermost m → BottomBegun (λ l. option_map (at_bottom outermost) (statement_start l)) before
  outer_plain [] m h g = absurd h
  outer_plain (t ∷ r) m h g = outer_goes (statement_start (lexeme_of t)) r m h g

  as_outermost : (l : Lexeme) (r : List PlacedToken) → StateGoesOn (option_map (at_bottom outermost) (statement_start l)) r → StateGoesOn (outermost_start l) r
  as_outermost (Word words.If) r h = absurd h
  as_outermost _ r h = h

  outer_first : (s : StmtD) (rest : StmtsD) (before m : List PlacedToken) → IsPlain s → (limits → StmtIsWithin s × StmtsAreWithin rest) → SpellsStmt s before m → SpellsStmts rest m [] → BottomBegun outermost_start before
  outer_first s rest before m plain n h more =
      bottom_as (λ l. option_map (at_bottom outermost) (statement_start l)) outermost_start as_outermost before
      (outer_plain before m (complete_statement s before m plain (λ k. (n k).0) h) (rest, λ k. (n k).1, more))

  complete_outermost : (before : List PlacedToken) → BottomMeans limits outermost before → BottomBegun outermost_start before
  complete_outermost before (no_stmts, n, e) = subst (BottomBegun outermost_start) (sym e) tt
  complete_outermost before (stmt ((if) c l l2) rest, n, (m1, (k, (q, e), (m2, h, (m3, (m4, bracket, (m5, inside, shut)), otherwise))), ss)) =
      bottom_begin outermost_start _ k before e
      (m3, (m4, (c, λ i. (n i).0.0, (m2, h, bracket)), (m3, (l, λ i. (n i).0.1, (m5, inside, shut)), refl)), (l2, rest, λ i. ((n i).0.2, (n i).1), (m1, otherwise, ss)))
  complete_outermost before (stmt («let» p x y) rest, n, (m1, h, ss)) = outer_first («let» p x y) rest before m1 tt n h ss
  complete_outermost before (stmt (assign p x y) rest, n, (m1, h, ss)) = outer_first (assign p x y) rest before m1 tt n h ss
  complete_outermost before (stmt (add y p x) rest, n, (m1, h, ss)) = outer_first (add y p x) rest before m1 tt n h ss
  complete_outermost before (stmt (for b c l) rest, n, (m1, h, ss)) = outer_first (for b c l) rest before m1 tt n h ss
  complete_outermost before (stmt (while p c i l) rest, n, (m1, h, ss)) = outer_first (while p c i l) rest before m1 tt n h ss
  complete_outermost before (stmt (assert p c) rest, n, (m1, h, ss)) = outer_first (assert p c) rest before m1 tt n h ss
  complete_outermost before (stmt (print p q x) rest, n, (m1, h, ss)) = outer_first (print p q x) rest before m1 tt n h ss

  as_body : (l : Lexeme) (r : List PlacedToken) → StateGoesOn (outermost_start l) r → StateGoesOn (bottom_start body l) r
  as_body (Word words.Parameter) r h = absurd h
  as_body _ r h = h

  as_after_outer_if : (l : Lexeme) (r : List PlacedToken) → StateGoesOn (outermost_start l) r → StateGoesOn (bottom_start after_outer_if l) r
  as_after_outer_if (Word words.Else) r h = absurd h
  as_after_outer_if _ r h = h

  complete_bottom : (b : Bottom) (before : List PlacedToken) → BottomMeans limits b before → BottomBegun (bottom_start b) before
  complete_bottom outermost before h = complete_outermost before h
  complete_bottom body before ([], l, n, (m, e, ss)) =
      subst (BottomBegun (bottom_start body)) (sym e) (bottom_as outermost_start (bottom_start body) as_body m (complete_outermost m (l, n, ss)))
  complete_bottom body before (x ∷ xs, l, n, (m, (k, (q, e), (k1, tn, (k2, more, end))), ss)) =
      bottom_begin (bottom_start body) _ k before e (m, (k1, (x.place, x.name, tn), (m, (xs, (k2, more, end)), refl)), (l, n, ss))
  complete_bottom after_outer_if before (l, rest, n, (m, inl (none, e), ss)) =
      subst (BottomBegun (bottom_start after_outer_if)) (sym e)
      (bottom_as outermost_start (bottom_start after_outer_if) as_after_outer_if m (complete_outermost m (rest, λ k. (n k).1, ss)))
  complete_bottom after_outer_if before (l, rest, n, (m, inr (k, (q, e), (k1, bracket, (k2, inside, shut))), ss)) =
      bottom_begin (bottom_start after_outer_if) _ k before e (m, (k1, bracket, (m, (l, λ i. (n i).0, (k2, inside, shut)), refl)), (rest, λ i. (n i).1, ss))

  in_stack : (rest : List Item) (b : Bottom) (o : Option (List Item)) (r m1 m : List PlacedToken) → GoesOn limits o r m1 → AllMean limits rest m1 m → BottomMeans limits b m →
      StateGoesOn (option_map (λ w. at_bottom b (w ++ rest)) o) r
  in_stack rest b None r m1 m h g k = h
  in_stack rest b (Some w) r m1 m h g k = (m, join limits w rest r m1 m h g, k)

  step_goes_on : (stack : List Item) (b : Bottom) (t : PlacedToken) (r : List PlacedToken) → Completes limits record { stack = stack; bottom = b } (t ∷ r) → StateGoesOn (step_from stack b (lexeme_of t)) r
  step_goes_on [] b t r (m, e, h) = complete_bottom b (t ∷ r) (subst (BottomMeans limits b) (sym e) h)
  step_goes_on (x ∷ rest) b t r (m, (m1, h, more), k) = in_stack rest b (item_start x (lexeme_of t)) r m1 m (complete_item x (t ∷ r) m1 h) more k

  went_on : (o : Option State) (r : List PlacedToken) → StateGoesOn o r → (next : State) × (o ≡ Some next) × Completes limits next r
  went_on None r h = absurd h
  went_on (Some next) r h = (next, refl, h)

  -- what completes a state, the machine takes
  pub complete_step : (s : State) (t : PlacedToken) (r : List PlacedToken) → Completes limits s (t ∷ r) → (next : State) × (step s (lexeme_of t) ≡ Some next) × Completes limits next r
  complete_step s t r h = went_on (step s (lexeme_of t)) r (step_goes_on s.stack s.bottom t r h)

  -- where nothing completes a state, nothing is on its stack
  pub complete_end : (stack : List Item) (b : Bottom) → Completes limits record { stack = stack; bottom = b } [] → stack ≡ []
  complete_end [] b h = refl
  complete_end (x ∷ rest) b (m, (m1, h, more), k) = absurd (complete_item x [] m1 h)

-- an item that is spelled, as what has to come behind its first token
pub goes_some : (o : Option (List Item)) (r after : List PlacedToken) → GoesOn ⊥ o r after → (w : List Item) × (o ≡ Some w) × AllMean ⊥ w r after
goes_some None r after h = absurd h
goes_some (Some w) r after h = (w, refl, h)
