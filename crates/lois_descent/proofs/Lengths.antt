-- The tokens behind a part of the grammar are no more than those that the part begins.
use Rattle.std.proofs.Common.{◌≡◌, ℕ, zero, suc, ◌≤◌, Bool, true, List, ◌∷◌, length, codes, ap, inl, inr, arith}
use Rattle.lois_lexer.specs.declared.TokenKind.{TokenKind}
use Rattle.lois_lexer.specs.declared.TokenKind.TheVariants.{Name, Word, Tag, Symbol}
use Rattle.lois_script.specs.Tree.{ExprD, atoms, var, tag, tuple, listed, each, part, apply, ExprsD, no_exprs, expr, BindingD, binding, BindingsD, no_bindings, bind, CondD, truth, falsity, same, differ, below, member, included, empty, not, all, any, exists, every, CondsD, no_conds, cond}
use Rattle.lois_script.specs.Grammar.{PlacedToken, Spelling, Nothing, Never, Provided, Either, ◌▹◌, Takes, TakesWord, TakesSymbol, TakesNumber, IsWide, AreMany, operation_word, HasArity, Bracketed, Enclosed, is_base, is_unit, is_conjunction, WhereClause, SpellsExpr, SpellsExprs, SpellsListed, SpellsMoreExprs, SpellsBinding, SpellsBindings, SpellsMoreBindings, SpellsCond, SpellsUnits, SpellsMoreUnits, SpellsConjunctions, SpellsMoreConjunctions}

abbrev pub Tokens : Type 0
Tokens = List PlacedToken

pub record Shrinks (P : Spelling) : Type 0 where
  pub to : (before after : Tokens) → P before after → length after ≤ length before

nothing_shrinks : Shrinks Nothing
nothing_shrinks = record { to = λ b a e. omega (arith, ap length e) }

never_shrinks : Shrinks Never
never_shrinks = record { to = λ b a e. absurd e }

takes_shrinks : (kind : TokenKind) (bytes : List ℕ) (place : ℕ) → Shrinks (Takes kind bytes place)
takes_shrinks kind bytes place = record { to = λ b a e. omega (arith, ap length e) }

then_shrinks : {P Q : Spelling} → Shrinks P → Shrinks Q → Shrinks (P ▹ Q)
then_shrinks p q = record { to = λ b a h. omega (arith, p.to b h.0 h.1, q.to h.0 a h.2) }

provided_shrinks : (fact : Type 0) {P : Spelling} → Shrinks P → Shrinks (Provided fact P)
provided_shrinks fact p = record { to = λ b a h. p.to b a h.1 }

either : (P Q : Spelling) → Shrinks P → Shrinks Q → (b a : Tokens) → Either P Q b a → length a ≤ length b
either P Q p q b a (inl h) = p.to b a h
either P Q p q b a (inr h) = q.to b a h

either_shrinks : {P Q : Spelling} → Shrinks P → Shrinks Q → Shrinks (Either P Q)
either_shrinks {P} {Q} p q = record { to = either P Q p q }

word_shrinks : (word : List ℕ) → Shrinks (TakesWord word)
word_shrinks word = record { to = λ b a h. omega (arith, ap length h.1) }

symbol_shrinks : (symbol : List ℕ) → Shrinks (TakesSymbol symbol)
symbol_shrinks symbol = record { to = λ b a h. omega (arith, ap length h.1) }

number_shrinks : (n : ℕ) → Shrinks (TakesNumber n)
number_shrinks n = record { to = λ b a h. omega (arith, ap length h.2) }

bracketed_shrinks : (n : ℕ) {P : Spelling} → Shrinks P → Shrinks (Bracketed n P)
bracketed_shrinks zero p = p
bracketed_shrinks (suc n) p = then_shrinks (symbol_shrinks (codes "[")) (then_shrinks (bracketed_shrinks n p) (symbol_shrinks (codes "]")))

pub enclosed_shrinks : (b : Bool) {P : Spelling} → Shrinks P → Shrinks (Enclosed b P)
enclosed_shrinks has_form p = record { to = λ b a h. (bracketed_shrinks h.0 p).to b a h.2 }

where_shrinks : (c : CondD) {P : Spelling} → Shrinks P → Shrinks (WhereClause c P)
where_shrinks c p =
    either_shrinks (provided_shrinks (c ≡ truth) nothing_shrinks) (then_shrinks (word_shrinks (codes "where")) (enclosed_shrinks true p))

mutual
  pub expr_shrinks : (e : ExprD) → Shrinks (SpellsExpr e)
  expr_shrinks (atoms p) = takes_shrinks Word (codes "atoms") p
  expr_shrinks (var p x) = takes_shrinks Name x p
  expr_shrinks (tag p x) = takes_shrinks Tag (39 ∷ x) p
  expr_shrinks (tuple p es) =
      provided_shrinks (IsWide es) (then_shrinks (takes_shrinks Symbol (codes "(") p) (then_shrinks (exprs_shrink es) (symbol_shrinks (codes ")"))))
  expr_shrinks (listed p es) =
      then_shrinks (takes_shrinks Symbol (codes "{") p) (then_shrinks (listed_shrinks es) (symbol_shrinks (codes "}")))
  expr_shrinks (each p e bs c) =
      then_shrinks (takes_shrinks Symbol (codes "{") p) (then_shrinks (expr_shrinks e) (then_shrinks (word_shrinks (codes "for")) (then_shrinks (bindings_shrink bs) (then_shrinks (where_shrinks c (cond_shrinks c)) (symbol_shrinks (codes "}"))))))
  expr_shrinks (part p e n) =
      then_shrinks (takes_shrinks Word (codes "part") p) (then_shrinks (symbol_shrinks (codes "(")) (then_shrinks (expr_shrinks e) (then_shrinks (symbol_shrinks (codes ",")) (then_shrinks (number_shrinks n) (symbol_shrinks (codes ")"))))))
  expr_shrinks (apply p op es) =
      provided_shrinks (HasArity op es) (then_shrinks (takes_shrinks Word (operation_word op) p) (then_shrinks (symbol_shrinks (codes "(")) (then_shrinks (exprs_shrink es) (symbol_shrinks (codes ")")))))

  exprs_shrink : (es : ExprsD) → Shrinks (SpellsExprs es)
  exprs_shrink no_exprs = never_shrinks
  exprs_shrink (expr e rest) = then_shrinks (expr_shrinks e) (more_exprs_shrink rest)

  listed_shrinks : (es : ExprsD) → Shrinks (SpellsListed es)
  listed_shrinks no_exprs = nothing_shrinks
  listed_shrinks (expr e rest) = then_shrinks (expr_shrinks e) (more_exprs_shrink rest)

  more_exprs_shrink : (es : ExprsD) → Shrinks (SpellsMoreExprs es)
  more_exprs_shrink no_exprs = nothing_shrinks
  more_exprs_shrink (expr e rest) = then_shrinks (symbol_shrinks (codes ",")) (then_shrinks (expr_shrinks e) (more_exprs_shrink rest))

  pub binding_shrinks : (b : BindingD) → Shrinks (SpellsBinding b)
  binding_shrinks (binding p x e) = then_shrinks (takes_shrinks Name x p) (then_shrinks (word_shrinks (codes "in")) (expr_shrinks e))

  pub bindings_shrink : (bs : BindingsD) → Shrinks (SpellsBindings bs)
  bindings_shrink no_bindings = never_shrinks
  bindings_shrink (bind b rest) = then_shrinks (binding_shrinks b) (more_bindings_shrink rest)

  more_bindings_shrink : (bs : BindingsD) → Shrinks (SpellsMoreBindings bs)
  more_bindings_shrink no_bindings = nothing_shrinks
  more_bindings_shrink (bind b rest) = then_shrinks (symbol_shrinks (codes ",")) (then_shrinks (binding_shrinks b) (more_bindings_shrink rest))

  pub cond_shrinks : (c : CondD) → Shrinks (SpellsCond c)
  cond_shrinks truth = word_shrinks (codes "true")
  cond_shrinks falsity = word_shrinks (codes "false")
  cond_shrinks (same e f) = then_shrinks (expr_shrinks e) (then_shrinks (symbol_shrinks (codes "=")) (expr_shrinks f))
  cond_shrinks (differ e f) = then_shrinks (expr_shrinks e) (then_shrinks (symbol_shrinks (codes "!=")) (expr_shrinks f))
  cond_shrinks (below p e f) = then_shrinks (expr_shrinks e) (then_shrinks (takes_shrinks Symbol (codes "<") p) (expr_shrinks f))
  cond_shrinks (member e f) = then_shrinks (expr_shrinks e) (then_shrinks (word_shrinks (codes "in")) (expr_shrinks f))
  cond_shrinks (included e f) = then_shrinks (expr_shrinks e) (then_shrinks (word_shrinks (codes "subset")) (expr_shrinks f))
  cond_shrinks (empty e) =
      then_shrinks (word_shrinks (codes "empty")) (then_shrinks (symbol_shrinks (codes "(")) (then_shrinks (expr_shrinks e) (symbol_shrinks (codes ")"))))
  cond_shrinks (not c) = then_shrinks (word_shrinks (codes "not")) (enclosed_shrinks (is_base c) (cond_shrinks c))
  cond_shrinks (all cs) = provided_shrinks (AreMany cs) (units_shrink cs)
  cond_shrinks (any cs) = provided_shrinks (AreMany cs) (conjunctions_shrink cs)
  cond_shrinks (exists b c) =
      then_shrinks (word_shrinks (codes "exists")) (then_shrinks (binding_shrinks b) (then_shrinks (symbol_shrinks (codes ":")) (enclosed_shrinks (is_base c) (cond_shrinks c))))
  cond_shrinks (every b c) =
      then_shrinks (word_shrinks (codes "forall")) (then_shrinks (binding_shrinks b) (then_shrinks (symbol_shrinks (codes ":")) (enclosed_shrinks (is_base c) (cond_shrinks c))))

  units_shrink : (cs : CondsD) → Shrinks (SpellsUnits cs)
  units_shrink no_conds = never_shrinks
  units_shrink (cond c rest) = then_shrinks (enclosed_shrinks (is_unit c) (cond_shrinks c)) (more_units_shrink rest)

  more_units_shrink : (cs : CondsD) → Shrinks (SpellsMoreUnits cs)
  more_units_shrink no_conds = nothing_shrinks
  more_units_shrink (cond c rest) =
      then_shrinks (word_shrinks (codes "and")) (then_shrinks (enclosed_shrinks (is_unit c) (cond_shrinks c)) (more_units_shrink rest))

  conjunctions_shrink : (cs : CondsD) → Shrinks (SpellsConjunctions cs)
  conjunctions_shrink no_conds = never_shrinks
  conjunctions_shrink (cond c rest) = then_shrinks (enclosed_shrinks (is_conjunction c) (cond_shrinks c)) (more_conjunctions_shrink rest)

  more_conjunctions_shrink : (cs : CondsD) → Shrinks (SpellsMoreConjunctions cs)
  more_conjunctions_shrink no_conds = nothing_shrinks
  more_conjunctions_shrink (cond c rest) =
      then_shrinks (word_shrinks (codes "or")) (then_shrinks (enclosed_shrinks (is_conjunction c) (cond_shrinks c)) (more_conjunctions_shrink rest))
