-- The tokens that each item of the machine's stack may stand for. Where `limits` holds, those of the forms within the limits.
use Rattle.std.proofs.Common.{ℕ, ◌+◌, ◌≤◌, true, List, [], ◌∷◌, ◌++◌, codes, Option, Some, None, refl, sym, subst}
use Rattle.lois_script.specs.Tree.{ExprD, ExprsD, BindingD, BindingsD, CondD, CondsD, StmtsD, ParamD}
use Rattle.lois_script.specs.Grammar.{PlacedToken, Spelling, Nothing, Either, ◌▹◌, TakesWord, TakesSymbol, TakesNumber, SpellsExpr, SpellsMoreExprs, SpellsBinding, SpellsMoreBindings, SpellsCond, SpellsMoreUnits, SpellsMoreConjunctions, Enclosed, is_unit, is_base, WhereClause, ElseClause, SpellsStmts, SpellsMoreNames, SpellsParameters}
use Rattle.lois_script.specs.Limits.{width, IsNarrow, AreNarrow, BindingIsNarrow, BindingsAreNarrow, CondIsNarrow, CondsAreNarrow, StmtsAreWithin}
use Rattle.lois_descent.specs.declared.lexemes.Terminal.{Terminal}
use Rattle.lois_descent.specs.declared.lexemes.Terminal.TheVariants.{Comma as comma, CloseRound as close_round, Number as number}
use Rattle.lois_descent.specs.Steps.{One}
use Rattle.lois_descent.specs.Machine.{ItemEnd, token, turns_block, Arguments, one, two, part_number, Item, terminal, expression, arguments, more_parts, more_items, after_brace, after_item, more_bindings, where_clause, condition, more_condition, unit, base, turns_number, statements, after_if, more_names, Bottom, body, outermost, after_outer_if, State}

abbrev pub AnExpr : Type 0 → Spelling
AnExpr limits before after = (e : ExprD) × (limits → IsNarrow e) × SpellsExpr e before after

abbrev pub ABinding : Type 0 → Spelling
ABinding limits before after = (b : BindingD) × (limits → BindingIsNarrow b) × SpellsBinding b before after

abbrev pub ABase : Type 0 → Spelling
ABase limits before after = (c : CondD) × (limits → CondIsNarrow c) × Enclosed (is_base c) (SpellsCond c) before after

abbrev pub AUnit : Type 0 → Spelling
AUnit limits before after = (c : CondD) × (limits → CondIsNarrow c) × Enclosed (is_unit c) (SpellsCond c) before after

abbrev pub Operands : Type 0 → Arguments → Spelling
Operands limits one = AnExpr limits ▹ One close_round
Operands limits two = AnExpr limits ▹ One comma ▹ AnExpr limits ▹ One close_round
Operands limits part_number = AnExpr limits ▹ One comma ▹ One number ▹ One close_round

abbrev pub MoreParts : Type 0 → ℕ → Spelling
MoreParts limits n before after =
    (es : ExprsD) × (2 ≤ n + width es) × (limits → AreNarrow es × (n + width es ≤ 8)) × (SpellsMoreExprs es ▹ TakesSymbol (codes ")")) before after

abbrev pub MoreItems : Type 0 → Spelling
MoreItems limits before after = (es : ExprsD) × (limits → AreNarrow es) × (SpellsMoreExprs es ▹ TakesSymbol (codes "}")) before after

abbrev pub MoreBindings : Type 0 → Spelling
MoreBindings limits before after =
    (bs : BindingsD) × (c : CondD) × (limits → BindingsAreNarrow bs × CondIsNarrow c) ×
    (SpellsMoreBindings bs ▹ WhereClause c (SpellsCond c) ▹ TakesSymbol (codes "}")) before after

abbrev pub AfterItem : Type 0 → Spelling
AfterItem limits = Either (MoreItems limits) (TakesWord (codes "for") ▹ ABinding limits ▹ MoreBindings limits)

abbrev pub AStatements : Type 0 → Spelling
AStatements limits before after = (l : StmtsD) × (limits → StmtsAreWithin l) × (SpellsStmts l ▹ TakesSymbol (codes "}")) before after

abbrev pub Turns : Type 0 → Spelling
Turns limits before after = (n : ℕ) × (limits → n ≤ 1000000) × TakesNumber n before after

abbrev pub Ends : Type 0 → ItemEnd → Spelling
Ends limits (token x) = One x
Ends limits turns_block = TakesWord (codes "turns") ▹ Turns limits ▹ TakesSymbol (codes "{") ▹ AStatements limits

abbrev pub MoreCondition : Type 0 → ItemEnd → Spelling
MoreCondition limits e before after =
    (us : CondsD) × (cs : CondsD) × (limits → CondsAreNarrow us × CondsAreNarrow cs) ×
    (SpellsMoreUnits us ▹ SpellsMoreConjunctions cs ▹ Ends limits e) before after

abbrev pub AWhere : Type 0 → Terminal → Spelling
AWhere limits x before after = (c : CondD) × (limits → CondIsNarrow c) × (WhereClause c (SpellsCond c) ▹ One x) before after

abbrev pub ACondition : Type 0 → ItemEnd → Spelling
ACondition limits e before after = (c : CondD) × (limits → CondIsNarrow c) × (Enclosed true (SpellsCond c) ▹ Ends limits e) before after

abbrev pub AfterIf : Type 0 → Spelling
AfterIf limits before after =
    (l : StmtsD) × (rest : StmtsD) × (limits → StmtsAreWithin l × StmtsAreWithin rest) ×
    (ElseClause l (SpellsStmts l) ▹ SpellsStmts rest ▹ TakesSymbol (codes "}")) before after

abbrev pub MoreNames : Spelling
MoreNames before after = (xs : List ParamD) × (SpellsMoreNames xs ▹ TakesSymbol (codes ";")) before after

abbrev pub Means : Type 0 → Item → Spelling
Means limits (terminal x) = One x
Means limits expression = AnExpr limits
Means limits (arguments a) = TakesSymbol (codes "(") ▹ Operands limits a
Means limits (more_parts n) = MoreParts limits n
Means limits more_items = MoreItems limits
Means limits after_brace = Either (TakesSymbol (codes "}")) (AnExpr limits ▹ AfterItem limits)
Means limits after_item = AfterItem limits
Means limits more_bindings = MoreBindings limits
Means limits (where_clause x) = AWhere limits x
Means limits (condition e) = ACondition limits e
Means limits (more_condition e) = MoreCondition limits e
Means limits unit = AUnit limits
Means limits base = ABase limits
Means limits turns_number = Turns limits
Means limits statements = AStatements limits
Means limits after_if = AfterIf limits
Means limits more_names = MoreNames

abbrev pub AllMean : Type 0 → List Item → Spelling
AllMean limits [] = Nothing
AllMean limits (x ∷ rest) = Means limits x ▹ AllMean limits rest

-- up to the end of the tokens
abbrev pub BottomMeans : Type 0 → Bottom → List PlacedToken → Type 0
BottomMeans limits outermost tokens = (l : StmtsD) × (limits → StmtsAreWithin l) × SpellsStmts l tokens []
BottomMeans limits after_outer_if tokens =
    (l : StmtsD) × (rest : StmtsD) × (limits → StmtsAreWithin l × StmtsAreWithin rest) × (ElseClause l (SpellsStmts l) ▹ SpellsStmts rest) tokens []
BottomMeans limits body tokens =
    (xs : List ParamD) × (l : StmtsD) × (limits → StmtsAreWithin l) × (SpellsParameters xs ▹ SpellsStmts l) tokens []

abbrev pub Completes : Type 0 → State → List PlacedToken → Type 0
Completes limits s tokens = (middle : List PlacedToken) × AllMean limits s.stack tokens middle × BottomMeans limits s.bottom middle

-- what is left is spelled by what has to come, if a token begins it
abbrev pub GoesOn : Type 0 → Option (List Item) → Spelling
GoesOn limits None before after = ⊥
GoesOn limits (Some w) before after = AllMean limits w before after

-- one list of items behind another
pub split : (limits : Type 0) (w v : List Item) (before after : List PlacedToken) → AllMean limits (w ++ v) before after →
    (middle : List PlacedToken) × AllMean limits w before middle × AllMean limits v middle after
split limits [] v before after h = (before, refl, h)
split limits (x ∷ w) v before after (m, first, rest) = let more = split limits w v m after rest in (more.0, (m, first, more.1), more.2)

pub join : (limits : Type 0) (w v : List Item) (before middle after : List PlacedToken) → AllMean limits w before middle → AllMean limits v middle after → AllMean limits (w ++ v) before after
join limits [] v before middle after same h = subst (λ (b : List PlacedToken). AllMean limits v b after) (sym same) h
join limits (x ∷ w) v before middle after (m, first, rest) h = (m, first, join limits w v m middle after rest h)

pub only : (limits : Type 0) (x : Item) (before after : List PlacedToken) → AllMean limits (x ∷ []) before after → Means limits x before after
only limits x before after (m, h, same) = subst (Means limits x before) same h
