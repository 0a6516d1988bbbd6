-- Whatever has still to come, some tokens spell it.
use Rattle.std.proofs.Common.{ℕ, true, List, [], ◌∷◌, inl, refl, arith, codes}
use Rattle.lois_lexer.specs.declared.TokenKind.TheVariants as kinds
use Rattle.lois_script.specs.Grammar.{PlacedToken}
use Rattle.lois_script.specs.Tree.{atoms, no_exprs, expr, no_bindings, truth, no_conds, no_stmts}
use Rattle.lois_descent.specs.declared.lexemes.Terminal.{Terminal}
use Rattle.lois_descent.specs.declared.lexemes.Terminal.TheVariants.{Atoms as the_atoms, Structure as structure, Semicolon as semicolon, Comma as comma, CloseRound as close_round, CloseSquare as close_square, OpenCurly as open_curly, CloseCurly as close_curly, Colon as colon, Equal as equal, Becomes as becomes, In as within, To as to, Relation as relation, Name as name, Number as number}
use Rattle.lois_descent.specs.Machine.{ItemEnd, token, turns_block, Arguments, one, two, part_number, Item, terminal, expression, arguments, more_parts, more_items, after_brace, after_item, more_bindings, where_clause, condition, more_condition, unit, base, turns_number, statements, after_if, more_names, Bottom, body, outermost, after_outer_if, State}
use Rattle.lois_descent.specs.Steps.{One}
use Rattle.lois_descent.proofs.Language.{AnExpr, ABase, Operands, AStatements, Ends, Means, AllMean, BottomMeans, Completes}
use Rattle.lois_descent.proofs.Sound.{NoLimits, never}

word : List ℕ → PlacedToken
word bytes = record { kind = kinds.Word; bytes = bytes; place = 0 }

symbol : List ℕ → PlacedToken
symbol bytes = record { kind = kinds.Symbol; bytes = bytes; place = 0 }

finish_terminal : (x : Terminal) (r : List PlacedToken) → (before : List PlacedToken) × One x before r
unfolding word symbol
finish_terminal the_atoms r = (word (codes "atoms") ∷ r, (0, refl))
finish_terminal structure r = (word (codes "order") ∷ r, (true, (0, refl)))
finish_terminal semicolon r = (symbol (codes ";") ∷ r, (0, refl))
finish_terminal comma r = (symbol (codes ",") ∷ r, (0, refl))
finish_terminal close_round r = (symbol (codes ")") ∷ r, (0, refl))
finish_terminal close_square r = (symbol (codes "]") ∷ r, (0, refl))
finish_terminal open_curly r = (symbol (codes "{") ∷ r, (0, refl))
finish_terminal close_curly r = (symbol (codes "}") ∷ r, (0, refl))
finish_terminal colon r = (symbol (codes ":") ∷ r, (0, refl))
finish_terminal equal r = (symbol (codes "=") ∷ r, (0, refl))
finish_terminal becomes r = (symbol (codes ":=") ∷ r, (0, refl))
finish_terminal within r = (word (codes "in") ∷ r, (0, refl))
finish_terminal to r = (word (codes "to") ∷ r, (0, refl))
finish_terminal relation r = (symbol (codes "=") ∷ r, inl (0, refl))
finish_terminal name r = (record { kind = kinds.Name; bytes = codes "a"; place = 0 } ∷ r, (0, codes "a", refl))
finish_terminal number r = (record { kind = kinds.Number; bytes = codes "1"; place = 0 } ∷ r, (1, (0, codes "1", refl, refl)))

an_expression : (r : List PlacedToken) → (before : List PlacedToken) × AnExpr NoLimits before r
unfolding word
an_expression r = (word (codes "atoms") ∷ r, (atoms 0, never, refl))

operands_to_come : (a : Arguments) (r : List PlacedToken) → (before : List PlacedToken) × Operands NoLimits a before r
operands_to_come one r =
    let close = finish_terminal close_round r in
    let x = an_expression close.0 in
    (x.0, (close.0, x.1, close.1))
operands_to_come two r =
    let close = finish_terminal close_round r in
    let y = an_expression close.0 in
    let sep = finish_terminal comma y.0 in
    let x = an_expression sep.0 in
    (x.0, (sep.0, x.1, (y.0, sep.1, (close.0, y.1, close.1))))
operands_to_come part_number r =
    let close = finish_terminal close_round r in
    let y = finish_terminal number close.0 in
    let sep = finish_terminal comma y.0 in
    let x = an_expression sep.0 in
    (x.0, (sep.0, x.1, (y.0, sep.1, (close.0, y.1, close.1))))

no_statements : (r : List PlacedToken) → (before : List PlacedToken) × AStatements NoLimits before r
no_statements r = let close = finish_terminal close_curly r in (close.0, (no_stmts, never, (close.0, refl, close.1)))

an_ending : (x : ItemEnd) (r : List PlacedToken) → (before : List PlacedToken) × Ends NoLimits x before r
unfolding word symbol
an_ending (token x) r = finish_terminal x r
an_ending turns_block r =
    let l = no_statements r in
    let bracket = finish_terminal open_curly l.0 in
    let digits = finish_terminal number bracket.0 in
    (word (codes "turns") ∷ digits.0, (digits.0, (0, refl), (bracket.0, (digits.1.0, never, digits.1.1), (l.0, bracket.1, l.1))))

a_base : (r : List PlacedToken) → (before : List PlacedToken) × ABase NoLimits before r
unfolding word
a_base r = (word (codes "true") ∷ r, (truth, never, (0, inl refl, (0, refl))))

finish_item : (x : Item) (r : List PlacedToken) → (before : List PlacedToken) × Means NoLimits x before r
unfolding word symbol
finish_item (terminal x) r = finish_terminal x r
finish_item expression r = an_expression r
finish_item (arguments a) r = let h = operands_to_come a r in (symbol (codes "(") ∷ h.0, (h.0, (0, refl), h.1))
finish_item (more_parts n) r =
    let close = finish_terminal close_round r in
    let y = an_expression close.0 in
    let sep = finish_terminal comma y.0 in
    let x = an_expression sep.0 in
    let first = finish_terminal comma x.0 in
    (first.0, (expr x.1.0 (expr y.1.0 no_exprs), omega arith, never, (close.0, (x.0, first.1, (sep.0, x.1.2, (y.0, sep.1, (close.0, y.1.2, refl)))), close.1)))
finish_item more_items r = let close = finish_terminal close_curly r in (close.0, (no_exprs, never, (close.0, refl, close.1)))
finish_item after_brace r = let close = finish_terminal close_curly r in (close.0, inl close.1)
finish_item after_item r = let close = finish_terminal close_curly r in (close.0, inl (no_exprs, never, (close.0, refl, close.1)))
finish_item more_bindings r =
    let close = finish_terminal close_curly r in (close.0, (no_bindings, truth, never, (close.0, refl, (close.0, inl (refl, refl), close.1))))
finish_item (where_clause x) r = let end = finish_terminal x r in (end.0, (truth, never, (end.0, inl (refl, refl), end.1)))
finish_item (condition x) r = let end = an_ending x r in (word (codes "true") ∷ end.0, (truth, never, (end.0, (0, inl refl, (0, refl)), end.1)))
finish_item (more_condition x) r = let end = an_ending x r in (end.0, (no_conds, no_conds, never, (end.0, refl, (end.0, refl, end.1))))
finish_item unit r = (word (codes "true") ∷ r, (truth, never, (0, inl refl, (0, refl))))
finish_item base r = a_base r
finish_item turns_number r = let digits = finish_terminal number r in (digits.0, (digits.1.0, never, digits.1.1))
finish_item statements r = no_statements r
finish_item after_if r =
    let close = finish_terminal close_curly r in (close.0, (no_stmts, no_stmts, never, (close.0, inl (refl, refl), (close.0, refl, close.1))))
finish_item more_names r = let end = finish_terminal semicolon r in (end.0, ([], (end.0, refl, end.1)))

finish_items : (w : List Item) (r : List PlacedToken) → (before : List PlacedToken) × AllMean NoLimits w before r
finish_items [] r = (r, refl)
finish_items (x ∷ w) r = let more = finish_items w r in let h = finish_item x more.0 in (h.0, (more.0, h.1, more.1))

finish_bottom : (b : Bottom) → BottomMeans NoLimits b []
finish_bottom outermost = (no_stmts, never, refl)
finish_bottom after_outer_if = (no_stmts, no_stmts, never, ([], inl (refl, refl), refl))
finish_bottom body = ([], no_stmts, never, ([], refl, refl))

pub finish : (s : State) → (more : List PlacedToken) × Completes NoLimits s more
finish s = let h = finish_items s.stack [] in (h.0, ([], h.1, finish_bottom s.bottom))
