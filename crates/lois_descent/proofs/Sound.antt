-- What the machine takes, the grammar allows: where a token begins an item, and what has to come then is spelled, the
-- item is spelled with the token.
use Rattle.std.proofs.Common.{◌≡◌, ℕ, suc, ◌+◌, ◌≤◌, Bool, true, false, Option, Some, None, option_map, List, [], ◌∷◌, ◌++◌, inl, inr, refl, subst, arith, codes, leb-true}
use Rattle.std.specs.Prelude.{nat_le, option_map}
use Rattle.lois_script.specs.Grammar.{PlacedToken, Spelling, TakesSymbol, decimal, IsWide, HasArity, SpellsCond, SpellsMoreUnits, SpellsMoreConjunctions, Enclosed, is_unit, is_base, is_conjunction, ElseClause, SpellsStmt, SpellsStmts}
use Rattle.lois_script.specs.Limits.{width}
use Rattle.lois_script.specs.Tree.{ExprD, atoms, var, tag, tuple, listed, each, part, apply, ExprsD, no_exprs, expr, binding, no_bindings, bind, CondD, truth, falsity, same, differ, below, member, included, empty, not, all, any, exists, every, CondsD, no_conds, cond, StmtD, «let», assign, add, for, if, while, assert, print, StmtsD, no_stmts, stmt}
use Rattle.lois_script.specs.declared.syntax.Operation.{Operation}
use Rattle.lois_script.specs.declared.syntax.Operation.TheVariants.{Union, Inter, Minus, Flatten, Reach, Product, Complement, Minimise}
use Rattle.lois_descent.specs.Lexemes.{lexeme_of}
use Rattle.lois_descent.specs.declared.lexemes.Terminal.{Terminal}
use Rattle.lois_descent.specs.declared.lexemes.Terminal.TheVariants.{Atoms as the_atoms, Structure as structure, Semicolon as semicolon, Comma as comma, CloseRound as close_round, CloseSquare as close_square, OpenCurly as open_curly, CloseCurly as close_curly, Colon as colon, Equal as equal, Becomes as becomes, In as within, To as to, Relation as relation, Name as name, Number as number}
use Rattle.lois_descent.specs.Lexemes.{accepts}
use Rattle.lois_descent.specs.Machine.{ItemEnd, token, turns_block, Arguments, one, two, part_number, Item, terminal, expression, arguments, more_parts, more_items, after_brace, after_item, more_bindings, where_clause, condition, more_condition, unit, base, turns_number, statements, after_if, more_names, Bottom, body, outermost, after_outer_if, State, behind, accepted_if, arguments_of, operands, expression_start, base_start, unit_start, ending, where_start, statement_start, statements_start, after_if_start, more_parts_start, more_items_start, brace_start, after_item_start, more_bindings_start, more_condition_start, more_names_start, arguments_start, turns_start, item_start, at_bottom, outermost_start, bottom_start, step_from, step}
use Rattle.lois_descent.specs.declared.lexemes.Lexeme.{Lexeme}
use Rattle.lois_descent.specs.declared.lexemes.Lexeme.TheVariants.{Name, Tag, Number, Word, Symbol}
use Rattle.lois_descent.specs.declared.lexemes.Keyword.TheVariants as words
use Rattle.lois_descent.specs.declared.lexemes.Punctuator.TheVariants as punctuators
use Rattle.lois_descent.specs.Steps.{AName, One}
use Rattle.lois_descent.proofs.Language.{AnExpr, ABinding, ABase, AUnit, Operands, MoreParts, MoreItems, MoreBindings, AfterItem, AStatements, Turns, Ends, MoreCondition, AWhere, ACondition, AfterIf, MoreNames, Means, AllMean, BottomMeans, Completes, split, only}
use Rattle.lois_descent.proofs.Tokens.{taken_word, taken_sign, taken_name, taken_number, taken_tag}

-- what is spelled without the limits
abbrev pub NoLimits : Type 0
NoLimits = ⊥

pub never : {A : Type 0} → NoLimits → A
never h = absurd h

abbrev pub Allows : Spelling → PlacedToken → Option (List Item) → Type 0
Allows P t None = Unit {0}
Allows P t (Some w) = (r after : List PlacedToken) → AllMean NoLimits w r after → P (t ∷ r) after

at_once : (P : Spelling) (t : PlacedToken) → ((r : List PlacedToken) → P (t ∷ r) r) → Allows P t (Some [])
at_once P t f r after e = subst (λ (m : List PlacedToken). P (t ∷ r) m) e (f r)

allows_as : (P Q : Spelling) (t : PlacedToken) (o : Option (List Item)) → ((before after : List PlacedToken) → P before after → Q before after) → Allows P t o → Allows Q t o
allows_as P Q t None f h = tt
allows_as P Q t (Some w) f h = λ r after g. f (t ∷ r) after (h r after g)

allows_behind : (P Q : Spelling) (v : List Item) (t : PlacedToken) (o : Option (List Item)) →
    ((before middle after : List PlacedToken) → P before middle → AllMean NoLimits v middle after → Q before after) → Allows P t o → Allows Q t (behind v o)
allows_behind P Q v t None f h = tt
allows_behind P Q v t (Some w) f h = λ r after g. let s = split NoLimits w v r after g in f (t ∷ r) s.0 after (h r s.0 s.1) s.2

sound_terminal : (x : Terminal) (t : PlacedToken) (l : Lexeme) → lexeme_of t ≡ l → Allows (One x) t (accepted_if (accepts x l))
sound_terminal the_atoms t (Word words.Atoms) e = at_once (One the_atoms) t (λ r. (t.place, taken_word t words.Atoms e r))
sound_terminal structure t (Word words.Equality) e = at_once (One structure) t (λ r. (false, (t.place, taken_word t words.Equality e r)))
sound_terminal structure t (Word words.Order) e = at_once (One structure) t (λ r. (true, (t.place, taken_word t words.Order e r)))
sound_terminal semicolon t (Symbol punctuators.Semicolon) e = at_once (One semicolon) t (λ r. (t.place, taken_sign t punctuators.Semicolon e r))
sound_terminal comma t (Symbol punctuators.Comma) e = at_once (One comma) t (λ r. (t.place, taken_sign t punctuators.Comma e r))
sound_terminal close_round t (Symbol punctuators.CloseRound) e = at_once (One close_round) t (λ r. (t.place, taken_sign t punctuators.CloseRound e r))
sound_terminal close_square t (Symbol punctuators.CloseSquare) e = at_once (One close_square) t (λ r. (t.place, taken_sign t punctuators.CloseSquare e r))
sound_terminal open_curly t (Symbol punctuators.OpenCurly) e = at_once (One open_curly) t (λ r. (t.place, taken_sign t punctuators.OpenCurly e r))
sound_terminal close_curly t (Symbol punctuators.CloseCurly) e = at_once (One close_curly) t (λ r. (t.place, taken_sign t punctuators.CloseCurly e r))
sound_terminal colon t (Symbol punctuators.Colon) e = at_once (One colon) t (λ r. (t.place, taken_sign t punctuators.Colon e r))
sound_terminal equal t (Symbol punctuators.Equal) e = at_once (One equal) t (λ r. (t.place, taken_sign t punctuators.Equal e r))
sound_terminal becomes t (Symbol punctuators.Becomes) e = at_once (One becomes) t (λ r. (t.place, taken_sign t punctuators.Becomes e r))
sound_terminal within t (Word words.In) e = at_once (One within) t (λ r. (t.place, taken_word t words.In e r))
sound_terminal to t (Word words.To) e = at_once (One to) t (λ r. (t.place, taken_word t words.To e r))
sound_terminal relation t (Symbol punctuators.Equal) e = at_once (One relation) t (λ r. inl (t.place, taken_sign t punctuators.Equal e r))
sound_terminal relation t (Symbol punctuators.Differs) e = at_once (One relation) t (λ r. inr (inl (t.place, taken_sign t punctuators.Differs e r)))
sound_terminal relation t (Symbol punctuators.Below) e = at_once (One relation) t (λ r. inr (inr (inl (t.place, taken_sign t punctuators.Below e r))))
sound_terminal relation t (Word words.In) e = at_once (One relation) t (λ r. inr (inr (inr (inl (t.place, taken_word t words.In e r)))))
sound_terminal relation t (Word words.Subset) e = at_once (One relation) t (λ r. inr (inr (inr (inr (t.place, taken_word t words.Subset e r)))))
sound_terminal name t Name e = at_once (One name) t (λ r. (t.place, t.bytes, taken_name t e r))
sound_terminal number t Number e = at_once (One number) t (λ r. (decimal t.bytes, taken_number t e r))
sound_terminal _ t _ e = tt

wide_of : (e : ExprD) (es : ExprsD) → 2 ≤ 1 + width es → IsWide (expr e es)
wide_of e no_exprs h = absurd (omega arith)
wide_of e (expr f rest) h = tt

tuple_of : (t : PlacedToken) (r m after : List PlacedToken) → lexeme_of t ≡ Symbol punctuators.OpenRound → AnExpr NoLimits r m → MoreParts NoLimits 1 m after → AnExpr NoLimits (t ∷ r) after
tuple_of t r m after e (x, n, s) (es, wide, k, (m2, more, close)) =
    (tuple t.place (expr x es), never, (wide_of x es wide, (r, taken_sign t punctuators.OpenRound e r, (m2, (m, s, more), close))))

braces_of : (t : PlacedToken) (r after : List PlacedToken) → lexeme_of t ≡ Symbol punctuators.OpenCurly → Means NoLimits after_brace r after → AnExpr NoLimits (t ∷ r) after
braces_of t r after e (inl close) = (listed t.place no_exprs, never, (r, taken_sign t punctuators.OpenCurly e r, (r, refl, close)))
braces_of t r after e (inr (m, (x, n, s), inl (es, k, (m2, more, close)))) =
    (listed t.place (expr x es), never, (r, taken_sign t punctuators.OpenCurly e r, (m2, (m, s, more), close)))
braces_of t r after e (inr (m, (x, n, s), inr (m2, word, (m3, (b, k, sb), (bs, c, j, (m4, more, (m5, guard, close))))))) =
    (each t.place x (bind b bs) c, never, (r, taken_sign t punctuators.OpenCurly e r, (m, s, (m2, word, (m4, (m3, sb, more), (m5, guard, close))))))

part_of : (t : PlacedToken) (r after : List PlacedToken) → lexeme_of t ≡ Word words.Part → Means NoLimits (arguments part_number) r after → AnExpr NoLimits (t ∷ r) after
part_of t r after e (m, bracket, (m1, (x, k, s), (m2, sep, (m3, (n, num), close)))) =
    (part t.place x n, never, (r, taken_word t words.Part e r, (m, bracket, (m1, s, (m2, sep, (m3, num, close))))))

two_of : (op : Operation) → ((x y : ExprD) → HasArity op (expr x (expr y no_exprs))) → (t : PlacedToken) (r after : List PlacedToken) → lexeme_of t ≡ Word (words.Apply op) → Means NoLimits (arguments two) r after → AnExpr NoLimits (t ∷ r) after
two_of op fits t r after e (m, bracket, (m1, (x, k, s), (m2, sep, (m3, (y, j, u), close)))) =
    (apply t.place op (expr x (expr y no_exprs)), never, (fits x y, (r, taken_word t (words.Apply op) e r, (m, bracket, (m3, (m1, s, (m2, sep, (m3, u, refl))), close)))))

one_of : (op : Operation) → ((x : ExprD) → HasArity op (expr x no_exprs)) → (t : PlacedToken) (r after : List PlacedToken) → lexeme_of t ≡ Word (words.Apply op) → Means NoLimits (arguments one) r after → AnExpr NoLimits (t ∷ r) after
one_of op fits t r after e (m, bracket, (m1, (x, k, s), close)) =
    (apply t.place op (expr x no_exprs), never, (fits x, (r, taken_word t (words.Apply op) e r, (m, bracket, (m1, (m1, s, refl), close)))))

sound_apply : (op : Operation) (t : PlacedToken) → lexeme_of t ≡ Word (words.Apply op) → Allows (AnExpr NoLimits) t (Some (arguments (arguments_of op) ∷ []))
sound_apply Union t e = λ r after h. two_of Union (λ x y. tt) t r after e (only NoLimits (arguments two) r after h)
sound_apply Inter t e = λ r after h. two_of Inter (λ x y. tt) t r after e (only NoLimits (arguments two) r after h)
sound_apply Minus t e = λ r after h. two_of Minus (λ x y. tt) t r after e (only NoLimits (arguments two) r after h)
sound_apply Product t e = λ r after h. two_of Product (λ x y. tt) t r after e (only NoLimits (arguments two) r after h)
sound_apply Flatten t e = λ r after h. one_of Flatten (λ x. tt) t r after e (only NoLimits (arguments one) r after h)
sound_apply Reach t e = λ r after h. one_of Reach (λ x. tt) t r after e (only NoLimits (arguments one) r after h)
sound_apply Complement t e = λ r after h. one_of Complement (λ x. tt) t r after e (only NoLimits (arguments one) r after h)
sound_apply Minimise t e = λ r after h. one_of Minimise (λ x. tt) t r after e (only NoLimits (arguments one) r after h)

sound_expression : (t : PlacedToken) (l : Lexeme) → lexeme_of t ≡ l → Allows (AnExpr NoLimits) t (expression_start l)
sound_expression t (Word words.Atoms) e = at_once (AnExpr NoLimits) t (λ r. (atoms t.place, never, taken_word t words.Atoms e r))
sound_expression t Name e = at_once (AnExpr NoLimits) t (λ r. (var t.place t.bytes, never, taken_name t e r))
sound_expression t Tag e = at_once (AnExpr NoLimits) t (λ r. let x = taken_tag t e r in (tag t.place x.0, never, x.1))
sound_expression t (Symbol punctuators.OpenRound) e = λ r after h. tuple_of t r h.0 after e h.1 (only NoLimits (more_parts 1) h.0 after h.2)
sound_expression t (Symbol punctuators.OpenCurly) e = λ r after h. braces_of t r after e (only NoLimits after_brace r after h)
sound_expression t (Word words.Part) e = λ r after h. part_of t r after e (only NoLimits (arguments part_number) r after h)
sound_expression t (Word (words.Apply op)) e = sound_apply op t e
sound_expression t _ e = tt

empty_of : (t : PlacedToken) (r after : List PlacedToken) → lexeme_of t ≡ Word words.Empty → Means NoLimits (arguments one) r after → ABase NoLimits (t ∷ r) after
empty_of t r after e (m, bracket, (m1, (x, k, s), close)) = (empty x, never, (0, inl refl, (r, (t.place, taken_word t words.Empty e r), (m, bracket, (m1, s, close)))))

brackets_of : (t : PlacedToken) (r after : List PlacedToken) → lexeme_of t ≡ Symbol punctuators.OpenSquare → ACondition NoLimits (token close_square) r after → ABase NoLimits (t ∷ r) after
brackets_of t r after e (c, k, (m, (n, form, inside), close)) = (c, never, (suc n, inr (omega arith), (r, (t.place, taken_sign t punctuators.OpenSquare e r), (m, inside, close))))

compare : (before m m1 after : List PlacedToken) → AnExpr NoLimits before m → One relation m m1 → AnExpr NoLimits m1 after → ABase NoLimits before after
compare before m m1 after (x, k, s) (inl sign) (y, j, u) = (same x y, never, (0, inl refl, (m, s, (m1, sign, u))))
compare before m m1 after (x, k, s) (inr (inl sign)) (y, j, u) = (differ x y, never, (0, inl refl, (m, s, (m1, sign, u))))
compare before m m1 after (x, k, s) (inr (inr (inl (p, sign)))) (y, j, u) = (below p x y, never, (0, inl refl, (m, s, (m1, sign, u))))
compare before m m1 after (x, k, s) (inr (inr (inr (inl word)))) (y, j, u) = (member x y, never, (0, inl refl, (m, s, (m1, word, u))))
compare before m m1 after (x, k, s) (inr (inr (inr (inr word)))) (y, j, u) = (included x y, never, (0, inl refl, (m, s, (m1, word, u))))

comparison : (t : PlacedToken) (o : Option (List Item)) → Allows (AnExpr NoLimits) t o → Allows (ABase NoLimits) t (behind (terminal relation ∷ expression ∷ []) o)
comparison t o h =
    allows_behind (AnExpr NoLimits) (ABase NoLimits) (terminal relation ∷ expression ∷ []) t o
    (λ before m after x g. compare before m g.0 after x g.1 (only NoLimits expression g.0 after g.2)) h

sound_base : (t : PlacedToken) (l : Lexeme) → lexeme_of t ≡ l → Allows (ABase NoLimits) t (base_start l)
sound_base t (Word words.True) e = at_once (ABase NoLimits) t (λ r. (truth, never, (0, inl refl, (t.place, taken_word t words.True e r))))
sound_base t (Word words.False) e = at_once (ABase NoLimits) t (λ r. (falsity, never, (0, inl refl, (t.place, taken_word t words.False e r))))
sound_base t (Word words.Empty) e = λ r after h. empty_of t r after e (only NoLimits (arguments one) r after h)
sound_base t (Symbol punctuators.OpenSquare) e = λ r after h. brackets_of t r after e (only NoLimits (condition (token close_square)) r after h)
sound_base t l e = comparison t (expression_start l) (sound_expression t l e)

pub base_is_unit : (c : CondD) → is_base c ≡ true → is_unit c ≡ true
base_is_unit (all cs) h = h
base_is_unit (any cs) h = h
base_is_unit _ h = refl

pub unit_is_conjunction : (c : CondD) → is_unit c ≡ true → is_conjunction c ≡ true
unit_is_conjunction (any cs) h = h
unit_is_conjunction _ h = refl

-- a form that fewer conditions have by themselves
pub enclosed_as : (c : CondD) (a b : Bool) (before after : List PlacedToken) → (a ≡ true → b ≡ true) → Enclosed a (SpellsCond c) before after → Enclosed b (SpellsCond c) before after
enclosed_as c a b before after f (n, inl has, inside) = (n, inl (f has), inside)
enclosed_as c a b before after f (n, inr brackets, inside) = (n, inr brackets, inside)

unit_of_base : (before after : List PlacedToken) → ABase NoLimits before after → AUnit NoLimits before after
unit_of_base before after (c, k, h) = (c, never, enclosed_as c (is_base c) (is_unit c) before after (base_is_unit c) h)

not_of : (t : PlacedToken) (r after : List PlacedToken) → lexeme_of t ≡ Word words.Not → ABase NoLimits r after → AUnit NoLimits (t ∷ r) after
not_of t r after e (c, k, h) = (not c, never, (0, inl refl, (r, (t.place, taken_word t words.Not e r), h)))

abbrev quantified : List Item
quantified = terminal name ∷ terminal within ∷ expression ∷ terminal colon ∷ base ∷ []

exists_of : (t : PlacedToken) (r after : List PlacedToken) → lexeme_of t ≡ Word words.Exists → AllMean NoLimits quantified r after → AUnit NoLimits (t ∷ r) after
exists_of t r after e (m1, (p, x, tn), (m2, word, (m3, (y, k, s), (m4, sign, (m5, (c, j, h), end))))) =
    let inside = subst (λ (m : List PlacedToken). Enclosed (is_base c) (SpellsCond c) m4 m) end h in
    (exists (binding p x y) c, never, (0, inl refl, (r, (t.place, taken_word t words.Exists e r), (m3, (m1, tn, (m2, word, s)), (m4, sign, inside)))))

every_of : (t : PlacedToken) (r after : List PlacedToken) → lexeme_of t ≡ Word words.Forall → AllMean NoLimits quantified r after → AUnit NoLimits (t ∷ r) after
every_of t r after e (m1, (p, x, tn), (m2, word, (m3, (y, k, s), (m4, sign, (m5, (c, j, h), end))))) =
    let inside = subst (λ (m : List PlacedToken). Enclosed (is_base c) (SpellsCond c) m4 m) end h in
    (every (binding p x y) c, never, (0, inl refl, (r, (t.place, taken_word t words.Forall e r), (m3, (m1, tn, (m2, word, s)), (m4, sign, inside)))))

sound_unit : (t : PlacedToken) (l : Lexeme) → lexeme_of t ≡ l → Allows (AUnit NoLimits) t (unit_start l)
sound_unit t (Word words.Not) e = λ r after h. not_of t r after e (only NoLimits base r after h)
sound_unit t (Word words.Exists) e = λ r after h. exists_of t r after e h
sound_unit t (Word words.Forall) e = λ r after h. every_of t r after e h
sound_unit t l e = allows_as (ABase NoLimits) (AUnit NoLimits) t (base_start l) unit_of_base (sound_base t l e)

-- one unit or more make a conjunction, and one conjunction or more a condition
conjunction_of : (c : CondD) (us : CondsD) (before m after : List PlacedToken) → Enclosed (is_unit c) (SpellsCond c) before m → SpellsMoreUnits us m after →
    (d : CondD) × Enclosed (is_conjunction d) (SpellsCond d) before after
conjunction_of c no_conds before m after h e =
    (c, subst (λ (b : List PlacedToken). Enclosed (is_conjunction c) (SpellsCond c) before b) e (enclosed_as c (is_unit c) (is_conjunction c) before m (unit_is_conjunction c) h))
conjunction_of c (cond d us) before m after h more = (all (cond c (cond d us)), (0, inl refl, (tt, (m, h, more))))

condition_of : (d : CondD) (cs : CondsD) (before m after : List PlacedToken) → Enclosed (is_conjunction d) (SpellsCond d) before m → SpellsMoreConjunctions cs m after →
    (f : CondD) × Enclosed true (SpellsCond f) before after
condition_of d no_conds before m after h e =
    (d, subst (λ (b : List PlacedToken). Enclosed true (SpellsCond d) before b) e (enclosed_as d (is_conjunction d) true before m (λ k. refl) h))
condition_of d (cond f cs) before m after h more = (any (cond d (cond f cs)), (0, inl refl, (tt, (m, h, more))))

whole_condition : (e : ItemEnd) (before m after : List PlacedToken) → AUnit NoLimits before m → MoreCondition NoLimits e m after → ACondition NoLimits e before after
whole_condition e before m after (c, k, h) (us, cs, j, (m1, units, (m2, conjunctions, end))) =
    let d = conjunction_of c us before m m1 h units in
    let f = condition_of d.0 cs before m1 m2 d.1 conjunctions in
    (f.0, never, (m2, f.1, end))

sound_condition : (x : ItemEnd) (t : PlacedToken) (l : Lexeme) → lexeme_of t ≡ l → Allows (ACondition NoLimits x) t (behind (more_condition x ∷ []) (unit_start l))
sound_condition x t l e =
    allows_behind (AUnit NoLimits) (ACondition NoLimits x) (more_condition x ∷ []) t (unit_start l)
    (λ before m after u h. whole_condition x before m after u (only NoLimits (more_condition x) m after h)) (sound_unit t l e)

turns_of : (t : PlacedToken) (r after : List PlacedToken) → lexeme_of t ≡ Word words.Turns → AllMean NoLimits (turns_number ∷ terminal open_curly ∷ statements ∷ []) r after → Ends NoLimits turns_block (t ∷ r) after
turns_of t r after e (m, turns, (m1, bracket, rest)) = (r, (t.place, taken_word t words.Turns e r), (m, turns, (m1, bracket, only NoLimits statements m1 after rest)))

sound_ending : (x : ItemEnd) (t : PlacedToken) (l : Lexeme) → lexeme_of t ≡ l → Allows (Ends NoLimits x) t (ending x l)
sound_ending (token x) t l e = sound_terminal x t l e
sound_ending turns_block t (Word words.Turns) e = λ r after h. turns_of t r after e h
sound_ending turns_block t _ e = tt

and_of : (x : ItemEnd) (t : PlacedToken) (r m after : List PlacedToken) → lexeme_of t ≡ Word words.And → AUnit NoLimits r m → MoreCondition NoLimits x m after → MoreCondition NoLimits x (t ∷ r) after
and_of x t r m after e (c, k, h) (us, cs, j, (m1, units, rest)) =
    (cond c us, cs, never, (m1, (r, (t.place, taken_word t words.And e r), (m, h, units)), rest))

or_of : (x : ItemEnd) (t : PlacedToken) (r m after : List PlacedToken) → lexeme_of t ≡ Word words.Or → AUnit NoLimits r m → MoreCondition NoLimits x m after → MoreCondition NoLimits x (t ∷ r) after
or_of x t r m after e (c, k, h) (us, cs, j, (m1, units, (m2, conjunctions, end))) =
    let d = conjunction_of c us r m m1 h units in
    (no_conds, cond d.0 cs, never, (t ∷ r, refl, (m2, (r, (t.place, taken_word t words.Or e r), (m1, d.1, conjunctions)), end)))

sound_more_condition : (x : ItemEnd) (t : PlacedToken) (l : Lexeme) → lexeme_of t ≡ l → Allows (MoreCondition NoLimits x) t (more_condition_start x l)
sound_more_condition x t (Word words.And) e = λ r after h. and_of x t r h.0 after e h.1 (only NoLimits (more_condition x) h.0 after h.2)
sound_more_condition x t (Word words.Or) e = λ r after h. or_of x t r h.0 after e h.1 (only NoLimits (more_condition x) h.0 after h.2)
sound_more_condition x t l e =
    allows_as (Ends NoLimits x) (MoreCondition NoLimits x) t (ending x l) (λ before after end. (no_conds, no_conds, never, (before, refl, (before, refl, end)))) (sound_ending x t l e)

where_of : (x : Terminal) (t : PlacedToken) (r after : List PlacedToken) → lexeme_of t ≡ Word words.Where → ACondition NoLimits (token x) r after → AWhere NoLimits x (t ∷ r) after
where_of x t r after e (c, k, (m, h, end)) = (c, never, (m, inr (r, (t.place, taken_word t words.Where e r), h), end))

sound_where : (x : Terminal) (t : PlacedToken) (l : Lexeme) → lexeme_of t ≡ l → Allows (AWhere NoLimits x) t (where_start x l)
sound_where x t (Word words.Where) e = λ r after h. where_of x t r after e (only NoLimits (condition (token x)) r after h)
sound_where x t l e =
    allows_as (One x) (AWhere NoLimits x) t (accepted_if (accepts x l)) (λ before after end. (truth, never, (before, inl (refl, refl), end))) (sound_terminal x t l e)

abbrev pub AStatement : Spelling
AStatement before after = (s : StmtD) × SpellsStmt s before after

let_of : (t : PlacedToken) (r after : List PlacedToken) → lexeme_of t ≡ Word words.Let → AllMean NoLimits (terminal name ∷ terminal equal ∷ expression ∷ terminal semicolon ∷ []) r after → AStatement (t ∷ r) after
let_of t r after e (m1, (p, x, tn), (m2, sign, (m3, (y, k, s), rest))) =
    («let» p x y, (r, (t.place, taken_word t words.Let e r), (m1, tn, (m2, sign, (m3, s, only NoLimits (terminal semicolon) m3 after rest)))))

assign_of : (t : PlacedToken) (r after : List PlacedToken) → lexeme_of t ≡ Name → AllMean NoLimits (terminal becomes ∷ expression ∷ terminal semicolon ∷ []) r after → AStatement (t ∷ r) after
assign_of t r after e (m1, sign, (m2, (y, k, s), rest)) =
    (assign t.place t.bytes y, (r, taken_name t e r, (m1, sign, (m2, s, only NoLimits (terminal semicolon) m2 after rest))))

add_of : (t : PlacedToken) (r after : List PlacedToken) → lexeme_of t ≡ Word words.Add → AllMean NoLimits (expression ∷ terminal to ∷ terminal name ∷ terminal semicolon ∷ []) r after → AStatement (t ∷ r) after
add_of t r after e (m1, (y, k, s), (m2, word, (m3, (p, x, tn), rest))) =
    (add y p x, (r, (t.place, taken_word t words.Add e r), (m1, s, (m2, word, (m3, tn, only NoLimits (terminal semicolon) m3 after rest)))))

for_of : (t : PlacedToken) (r m1 m2 m3 m4 after : List PlacedToken) → lexeme_of t ≡ Word words.For → AName r m1 → One within m1 m2 → AnExpr NoLimits m2 m3 → AWhere NoLimits open_curly m3 m4 → AStatements NoLimits m4 after → AStatement (t ∷ r) after
for_of t r m1 m2 m3 m4 after e (p, x, tn) word (y, k, s) (c, j, (m5, guard, bracket)) (l, i, (m6, inside, close)) =
    (for (binding p x y) c l, (r, (t.place, taken_word t words.For e r), (m3, (m1, tn, (m2, word, s)), (m5, guard, (m4, bracket, (m6, inside, close))))))

while_of : (t : PlacedToken) (r after : List PlacedToken) → lexeme_of t ≡ Word words.While → ACondition NoLimits turns_block r after → AStatement (t ∷ r) after
while_of t r after e (c, k, (m1, h, (m2, word, (m3, (n, j, num), (m4, bracket, (l, i, (m5, inside, close))))))) =
    (while t.place c n l, (r, taken_word t words.While e r, (m1, h, (m2, word, (m3, num, (m4, bracket, (m5, inside, close)))))))

assert_of : (t : PlacedToken) (r after : List PlacedToken) → lexeme_of t ≡ Word words.Assert → ACondition NoLimits (token semicolon) r after → AStatement (t ∷ r) after
assert_of t r after e (c, k, (m1, h, end)) = (assert t.place c, (r, taken_word t words.Assert e r, (m1, h, end)))

print_of : (t : PlacedToken) (r after : List PlacedToken) → lexeme_of t ≡ Word words.Print → AllMean NoLimits (terminal name ∷ terminal semicolon ∷ []) r after → AStatement (t ∷ r) after
print_of t r after e (m1, (p, x, tn), rest) = (print t.place p x, (r, taken_word t words.Print e r, (m1, tn, only NoLimits (terminal semicolon) m1 after rest)))

sound_statement : (t : PlacedToken) (l : Lexeme) → lexeme_of t ≡ l → Allows AStatement t (statement_start l)
sound_statement t (Word words.Let) e = λ r after h. let_of t r after e h
sound_statement t Name e = λ r after h. assign_of t r after e h
sound_statement t (Word words.Add) e = λ r after h. add_of t r after e h
sound_statement t (Word words.For) e = λ r after h.
    for_of t r h.0 h.2.0 h.2.2.0 h.2.2.2.0 after e h.1 h.2.1 h.2.2.1 h.2.2.2.1 (only NoLimits statements h.2.2.2.0 after h.2.2.2.2)
sound_statement t (Word words.While) e = λ r after h. while_of t r after e (only NoLimits (condition turns_block) r after h)
sound_statement t (Word words.Assert) e = λ r after h. assert_of t r after e (only NoLimits (condition (token semicolon)) r after h)
sound_statement t (Word words.Print) e = λ r after h. print_of t r after e h
sound_statement t _ e = tt

one_more_statement : (before m after : List PlacedToken) → AStatement before m → AStatements NoLimits m after → AStatements NoLimits before after
one_more_statement before m after (s, h) (l, k, (m1, inside, close)) = (stmt s l, never, (m1, (m, h, inside), close))

if_of : (t : PlacedToken) (r m1 m2 : List PlacedToken) → lexeme_of t ≡ Word words.If → ACondition NoLimits (token open_curly) r m1 → AStatements NoLimits m1 m2 → (no_block : StmtsD) (after : List PlacedToken) → ElseClause no_block (SpellsStmts no_block) m2 after →
    (c : CondD) × (yes_block : StmtsD) × SpellsStmt ((if) c yes_block no_block) (t ∷ r) after
if_of t r m1 m2 e (c, k, (m3, h, bracket)) (l, j, (m4, inside, close)) no_block after otherwise =
    (c, l, (r, (t.place, taken_word t words.If e r), (m3, h, (m2, (m1, bracket, (m4, inside, close)), otherwise))))

inner_if : (t : PlacedToken) (r m1 m2 after : List PlacedToken) → lexeme_of t ≡ Word words.If → ACondition NoLimits (token open_curly) r m1 → AStatements NoLimits m1 m2 → AfterIf NoLimits m2 after → AStatements NoLimits (t ∷ r) after
inner_if t r m1 m2 after e c yes_block (l, rest, k, (m5, otherwise, (m6, more, close))) =
    let s = if_of t r m1 m2 e c yes_block l m5 otherwise in (stmt ((if) s.0 s.1 l) rest, never, (m6, (m5, s.2, more), close))

sound_statements : (t : PlacedToken) (l : Lexeme) → lexeme_of t ≡ l → Allows (AStatements NoLimits) t (statements_start l)
sound_statements t (Symbol punctuators.CloseCurly) e = at_once (AStatements NoLimits) t (λ r. (no_stmts, never, (t ∷ r, refl, (t.place, taken_sign t punctuators.CloseCurly e r))))
sound_statements t (Word words.If) e = λ r after h. inner_if t r h.0 h.2.0 after e h.1 h.2.1 (only NoLimits after_if h.2.0 after h.2.2)
sound_statements t l e =
    allows_behind AStatement (AStatements NoLimits) (statements ∷ []) t (statement_start l)
    (λ before m after s h. one_more_statement before m after s (only NoLimits statements m after h)) (sound_statement t l e)

else_of : (t : PlacedToken) (r m1 m2 : List PlacedToken) → lexeme_of t ≡ Word words.Else → TakesSymbol (codes "{") r m1 → AStatements NoLimits m1 m2 → (l : StmtsD) × ElseClause l (SpellsStmts l) (t ∷ r) m2
else_of t r m1 m2 e bracket (l, k, (m3, inside, close)) = (l, inr (r, (t.place, taken_word t words.Else e r), (m1, bracket, (m3, inside, close))))

inner_else : (t : PlacedToken) (r m1 m2 after : List PlacedToken) → lexeme_of t ≡ Word words.Else → TakesSymbol (codes "{") r m1 → AStatements NoLimits m1 m2 → AStatements NoLimits m2 after → AfterIf NoLimits (t ∷ r) after
inner_else t r m1 m2 after e bracket l (rest, k, (m3, more, close)) = let s = else_of t r m1 m2 e bracket l in (s.0, rest, never, (m2, s.1, (m3, more, close)))

no_else : (before after : List PlacedToken) → AStatements NoLimits before after → AfterIf NoLimits before after
no_else before after (l, k, (m, inside, close)) = (no_stmts, l, never, (before, inl (refl, refl), (m, inside, close)))

sound_after_if : (t : PlacedToken) (l : Lexeme) → lexeme_of t ≡ l → Allows (AfterIf NoLimits) t (after_if_start l)
sound_after_if t (Word words.Else) e = λ r after h. inner_else t r h.0 h.2.0 after e h.1 h.2.1 (only NoLimits statements h.2.0 after h.2.2)
sound_after_if t l e = allows_as (AStatements NoLimits) (AfterIf NoLimits) t (statements_start l) no_else (sound_statements t l e)

one_more_part : (n : ℕ) (t : PlacedToken) (r m after : List PlacedToken) → lexeme_of t ≡ Symbol punctuators.Comma → AnExpr NoLimits r m → MoreParts NoLimits (suc n) m after → MoreParts NoLimits n (t ∷ r) after
one_more_part n t r m after e (x, k, s) (es, wide, j, (m2, more, close)) =
    (expr x es, omega arith, never, (m2, (r, (t.place, taken_sign t punctuators.Comma e r), (m, s, more)), close))

last_part : (n : ℕ) (t : PlacedToken) (b : Bool) → nat_le 2 n ≡ b → lexeme_of t ≡ Symbol punctuators.CloseRound → Allows (MoreParts NoLimits n) t (accepted_if b)
last_part n t true wide e = at_once (MoreParts NoLimits n) t (λ r. (no_exprs, omega (arith, leb-true 2 n wide), never, (t ∷ r, refl, (t.place, taken_sign t punctuators.CloseRound e r))))
last_part n t false wide e = tt

sound_more_parts : (n : ℕ) (t : PlacedToken) (l : Lexeme) → lexeme_of t ≡ l → Allows (MoreParts NoLimits n) t (more_parts_start n l)
sound_more_parts n t (Symbol punctuators.Comma) e = λ r after h. one_more_part n t r h.0 after e h.1 (only NoLimits (more_parts (suc n)) h.0 after h.2)
sound_more_parts n t (Symbol punctuators.CloseRound) e = last_part n t (nat_le 2 n) refl e
sound_more_parts n t _ e = tt

one_more_item : (t : PlacedToken) (r m after : List PlacedToken) → lexeme_of t ≡ Symbol punctuators.Comma → AnExpr NoLimits r m → MoreItems NoLimits m after → MoreItems NoLimits (t ∷ r) after
one_more_item t r m after e (x, k, s) (es, j, (m2, more, close)) =
    (expr x es, never, (m2, (r, (t.place, taken_sign t punctuators.Comma e r), (m, s, more)), close))

no_more_items : (t : PlacedToken) → lexeme_of t ≡ Symbol punctuators.CloseCurly → (r : List PlacedToken) → MoreItems NoLimits (t ∷ r) r
no_more_items t e r = (no_exprs, never, (t ∷ r, refl, (t.place, taken_sign t punctuators.CloseCurly e r)))

sound_more_items : (t : PlacedToken) (l : Lexeme) → lexeme_of t ≡ l → Allows (MoreItems NoLimits) t (more_items_start l)
sound_more_items t (Symbol punctuators.Comma) e = λ r after h. one_more_item t r h.0 after e h.1 (only NoLimits more_items h.0 after h.2)
sound_more_items t (Symbol punctuators.CloseCurly) e = at_once (MoreItems NoLimits) t (no_more_items t e)
sound_more_items t _ e = tt

binding_of : (r m1 m2 m3 : List PlacedToken) → AName r m1 → One within m1 m2 → AnExpr NoLimits m2 m3 → ABinding NoLimits r m3
binding_of r m1 m2 m3 (p, x, tn) word (y, k, s) = (binding p x y, never, (m1, tn, (m2, word, s)))

sound_after_item : (t : PlacedToken) (l : Lexeme) → lexeme_of t ≡ l → Allows (AfterItem NoLimits) t (after_item_start l)
sound_after_item t (Symbol punctuators.Comma) e = λ r after h. inl (one_more_item t r h.0 after e h.1 (only NoLimits more_items h.0 after h.2))
sound_after_item t (Word words.For) e = λ r after h.
    inr (r, (t.place, taken_word t words.For e r), (h.2.2.0, binding_of r h.0 h.2.0 h.2.2.0 h.1 h.2.1 h.2.2.1, only NoLimits more_bindings h.2.2.0 after h.2.2.2))
sound_after_item t (Symbol punctuators.CloseCurly) e = at_once (AfterItem NoLimits) t (λ r. inl (no_more_items t e r))
sound_after_item t _ e = tt

one_more_binding : (t : PlacedToken) (r m after : List PlacedToken) → lexeme_of t ≡ Symbol punctuators.Comma → ABinding NoLimits r m → MoreBindings NoLimits m after → MoreBindings NoLimits (t ∷ r) after
one_more_binding t r m after e (b, k, s) (bs, c, j, (m2, more, rest)) =
    (bind b bs, c, never, (m2, (r, (t.place, taken_sign t punctuators.Comma e r), (m, s, more)), rest))

no_more_bindings : (before after : List PlacedToken) → AWhere NoLimits close_curly before after → MoreBindings NoLimits before after
no_more_bindings before after (c, k, (m, guard, close)) = (no_bindings, c, never, (before, refl, (m, guard, close)))

sound_more_bindings : (t : PlacedToken) (l : Lexeme) → lexeme_of t ≡ l → Allows (MoreBindings NoLimits) t (more_bindings_start l)
sound_more_bindings t (Symbol punctuators.Comma) e = λ r after h.
    one_more_binding t r h.2.2.0 after e (binding_of r h.0 h.2.0 h.2.2.0 h.1 h.2.1 h.2.2.1) (only NoLimits more_bindings h.2.2.0 after h.2.2.2)
sound_more_bindings t l e = allows_as (AWhere NoLimits close_curly) (MoreBindings NoLimits) t (where_start close_curly l) no_more_bindings (sound_where close_curly t l e)

name_behind_comma : (t : PlacedToken) (r m after : List PlacedToken) → lexeme_of t ≡ Symbol punctuators.Comma → AName r m → MoreNames m after → MoreNames (t ∷ r) after
name_behind_comma t r m after e (p, x, tn) (xs, (m2, more, end)) =
    (record { place = p; name = x } ∷ xs, (m2, (r, (t.place, taken_sign t punctuators.Comma e r), (m, tn, more)), end))

sound_more_names : (t : PlacedToken) (l : Lexeme) → lexeme_of t ≡ l → Allows MoreNames t (more_names_start l)
sound_more_names t (Symbol punctuators.Comma) e = λ r after h. name_behind_comma t r h.0 after e h.1 (only NoLimits more_names h.0 after h.2)
sound_more_names t (Symbol punctuators.Semicolon) e = at_once MoreNames t (λ r. ([], (t ∷ r, refl, (t.place, taken_sign t punctuators.Semicolon e r))))
sound_more_names t _ e = tt

operands_mean : (a : Arguments) (r after : List PlacedToken) → AllMean NoLimits (operands a) r after → Operands NoLimits a r after
operands_mean one r after (m, x, rest) = (m, x, only NoLimits (terminal close_round) m after rest)
operands_mean two r after (m, x, (m1, sep, (m2, y, rest))) = (m, x, (m1, sep, (m2, y, only NoLimits (terminal close_round) m2 after rest)))
operands_mean part_number r after (m, x, (m1, sep, (m2, y, rest))) = (m, x, (m1, sep, (m2, y, only NoLimits (terminal close_round) m2 after rest)))

sound_arguments : (a : Arguments) (t : PlacedToken) (l : Lexeme) → lexeme_of t ≡ l → Allows (Means NoLimits (arguments a)) t (arguments_start a l)
sound_arguments a t (Symbol punctuators.OpenRound) e = λ r after h. (r, (t.place, taken_sign t punctuators.OpenRound e r), operands_mean a r after h)
sound_arguments a t _ e = tt

sound_turns : (t : PlacedToken) (l : Lexeme) → lexeme_of t ≡ l → Allows (Turns NoLimits) t (turns_start l)
sound_turns t Number e = at_once (Turns NoLimits) t (λ r. (decimal t.bytes, never, taken_number t e r))
sound_turns t _ e = tt

sound_brace : (t : PlacedToken) (l : Lexeme) → lexeme_of t ≡ l → Allows (Means NoLimits after_brace) t (brace_start l)
sound_brace t (Symbol punctuators.CloseCurly) e = at_once (Means NoLimits after_brace) t (λ r. inl (t.place, taken_sign t punctuators.CloseCurly e r))
sound_brace t l e =
    allows_behind (AnExpr NoLimits) (Means NoLimits after_brace) (after_item ∷ []) t (expression_start l)
    (λ before m after x h. inr (m, x, only NoLimits after_item m after h)) (sound_expression t l e)

pub sound_item : (x : Item) (t : PlacedToken) (l : Lexeme) → lexeme_of t ≡ l → Allows (Means NoLimits x) t (item_start x l)
sound_item (terminal x) t l e = sound_terminal x t l e
sound_item expression t l e = sound_expression t l e
sound_item (arguments a) t l e = sound_arguments a t l e
sound_item (more_parts n) t l e = sound_more_parts n t l e
sound_item more_items t l e = sound_more_items t l e
sound_item after_brace t l e = sound_brace t l e
sound_item after_item t l e = sound_after_item t l e
sound_item more_bindings t l e = sound_more_bindings t l e
sound_item (where_clause x) t l e = sound_where x t l e
sound_item (condition x) t l e = sound_condition x t l e
sound_item (more_condition x) t l e = sound_more_condition x t l e
sound_item unit t l e = sound_unit t l e
sound_item base t l e = sound_base t l e
sound_item turns_number t l e = sound_turns t l e
sound_item statements t l e = sound_statements t l e
sound_item after_if t l e = sound_after_if t l e
sound_item more_names t l e = sound_more_names t l e

abbrev BottomAllows : (List PlacedToken → Type 0) → PlacedToken → Option State → Type 0
BottomAllows P t None = Unit {0}
BottomAllows P t (Some next) = (r : List PlacedToken) → Completes NoLimits next r → P (t ∷ r)

bottom_as : (P Q : List PlacedToken → Type 0) (t : PlacedToken) (o : Option State) → ((tokens : List PlacedToken) → P tokens → Q tokens) → BottomAllows P t o → BottomAllows Q t o
bottom_as P Q t None f h = tt
bottom_as P Q t (Some next) f h = λ r g. f (t ∷ r) (h r g)

outer_statement : (t : PlacedToken) (o : Option (List Item)) → Allows AStatement t o → BottomAllows (BottomMeans NoLimits outermost) t (option_map (at_bottom outermost) o)
outer_statement t None h = tt
outer_statement t (Some w) h = λ r g. let s = h r g.0 g.1 in (stmt s.0 g.2.0, never, (g.0, s.1, g.2.2))

outer_if : (t : PlacedToken) (r m1 m2 : List PlacedToken) → lexeme_of t ≡ Word words.If → ACondition NoLimits (token open_curly) r m1 → AStatements NoLimits m1 m2 → BottomMeans NoLimits after_outer_if m2 → BottomMeans NoLimits outermost (t ∷ r)
outer_if t r m1 m2 e c yes_block (l, rest, k, (m5, otherwise, more)) =
    let s = if_of t r m1 m2 e c yes_block l m5 otherwise in (stmt ((if) s.0 s.1 l) rest, never, (m5, s.2, more))

sound_outermost : (t : PlacedToken) (l : Lexeme) → lexeme_of t ≡ l → BottomAllows (BottomMeans NoLimits outermost) t (outermost_start l)
sound_outermost t (Word words.If) e = λ r g. outer_if t r g.1.0 g.0 e g.1.1 (only NoLimits statements g.1.0 g.0 g.1.2) g.2
sound_outermost t l e = outer_statement t (statement_start l) (sound_statement t l e)

parameters_of : (t : PlacedToken) (r m1 m2 : List PlacedToken) → lexeme_of t ≡ Word words.Parameter → AName r m1 → MoreNames m1 m2 → BottomMeans NoLimits outermost m2 → BottomMeans NoLimits body (t ∷ r)
parameters_of t r m1 m2 e (p, x, tn) (xs, (m3, more, end)) (l, k, h) =
    (record { place = p; name = x } ∷ xs, l, never, (m2, (r, (t.place, taken_word t words.Parameter e r), (m1, tn, (m3, more, end))), h))

outer_else : (t : PlacedToken) (r m1 m2 : List PlacedToken) → lexeme_of t ≡ Word words.Else → TakesSymbol (codes "{") r m1 → AStatements NoLimits m1 m2 → BottomMeans NoLimits outermost m2 → BottomMeans NoLimits after_outer_if (t ∷ r)
outer_else t r m1 m2 e bracket l (rest, k, h) = let s = else_of t r m1 m2 e bracket l in (s.0, rest, never, (m2, s.1, h))

sound_bottom : (b : Bottom) (t : PlacedToken) (l : Lexeme) → lexeme_of t ≡ l → BottomAllows (BottomMeans NoLimits b) t (bottom_start b l)
sound_bottom outermost t l e = sound_outermost t l e
sound_bottom body t (Word words.Parameter) e = λ r g. parameters_of t r g.1.0 g.0 e g.1.1 (only NoLimits more_names g.1.0 g.0 g.1.2) g.2
sound_bottom body t l e =
    bottom_as (BottomMeans NoLimits outermost) (BottomMeans NoLimits body) t (outermost_start l) (λ tokens h. ([], h.0, never, (tokens, refl, h.2))) (sound_outermost t l e)
sound_bottom after_outer_if t (Word words.Else) e = λ r g. outer_else t r g.1.0 g.0 e g.1.1 (only NoLimits statements g.1.0 g.0 g.1.2) g.2
sound_bottom after_outer_if t l e =
    bottom_as (BottomMeans NoLimits outermost) (BottomMeans NoLimits after_outer_if) t (outermost_start l)
    (λ tokens h. (no_stmts, h.0, never, (tokens, inl (refl, refl), h.2))) (sound_outermost t l e)

in_stack : (x : Item) (rest : List Item) (b : Bottom) (t : PlacedToken) (o : Option (List Item)) → Allows (Means NoLimits x) t o →
    BottomAllows (Completes NoLimits record { stack = x ∷ rest; bottom = b }) t (option_map (λ w. at_bottom b (w ++ rest)) o)
in_stack x rest b t None h = tt
in_stack x rest b t (Some w) h = λ r g. let s = split NoLimits w rest r g.0 g.1 in (g.0, (s.0, h r s.0 s.1, s.2), g.2)

sound_step_from : (stack : List Item) (b : Bottom) (t : PlacedToken) (l : Lexeme) → lexeme_of t ≡ l → BottomAllows (Completes NoLimits record { stack = stack; bottom = b }) t (step_from stack b l)
sound_step_from [] b t l e =
    bottom_as (BottomMeans NoLimits b) (Completes NoLimits record { stack = []; bottom = b }) t (bottom_start b l) (λ tokens h. (tokens, refl, h)) (sound_bottom b t l e)
sound_step_from (x ∷ rest) b t l e = in_stack x rest b t (item_start x l) (sound_item x t l e)

-- what the machine takes, some completion of what it then wants follows
pub sound_step : (s next : State) (t : PlacedToken) → step s (lexeme_of t) ≡ Some next → (r : List PlacedToken) → Completes NoLimits next r → Completes NoLimits s (t ∷ r)
sound_step s next t e r h =
    let allowed = subst (BottomAllows (Completes NoLimits s) t) e (sound_step_from s.stack s.bottom t (lexeme_of t) refl) in allowed r h

pub one_token : (x : Terminal) (t : PlacedToken) → accepts x (lexeme_of t) ≡ true → (r : List PlacedToken) → One x (t ∷ r) r
one_token x t e r = let allowed = subst (λ b. Allows (One x) t (accepted_if b)) e (sound_terminal x t (lexeme_of t) refl) in allowed r r refl
