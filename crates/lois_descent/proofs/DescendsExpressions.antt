-- What the descent reads as an expression is one, and it stops where the machine does. The readers of what stands inside
-- are given, with what they come to.
use Rattle.std.proofs.Common.{◌≡◌, ℕ, zero, suc, ◌+◌, ◌<◌, ◌≤◌, Bool, true, false, inl, inr, List, [], ◌∷◌, ◌++◌, length, drop, Some, None, ◌&&◌, refl, sym, ap, ap₂, ◌∙◌, subst, arith, drop-drop, append-nil, append_assoc, length-append, eq-eqb, ne_eqb, eqb-true}
use Rattle.std.specs.Prelude.{Result, Ok, Err, if◌then◌else◌, ◌==◌, nat_eq, codes}
use Rattle.std.specs.Prelude.{cond as choose}
use Rattle.std.proofs.lemmas.Bool.{le-leb}
use Rattle.lois_script.specs.declared.syntax.Operation.{Operation}
use Rattle.lois_script.specs.declared.syntax.Operation.TheVariants as operations
use Rattle.lois_script.specs.Grammar.{TakesSymbol, TakesSymbolAt, Enclosed, HasArity, IsWide, WhereClause, SpellsExpr, SpellsExprs, SpellsListed, SpellsMoreExprs, SpellsBinding, SpellsBindings, SpellsMoreBindings, SpellsCond}
use Rattle.lois_script.specs.Limits.{opens, IsNarrow, AreNarrow, BindingIsNarrow, BindingsAreNarrow, CondIsNarrow}
use Rattle.lois_script.specs.Tree.{ExprD, var, tuple, listed, no_exprs, expr, BindingD, CondD, truth}
use Rattle.lois_script.specs.Tree as trees
use Rattle.lois_script.specs.View.{exprs_of, bindings_of}
use Rattle.lois_descent.specs.declared.parse_error.ParseError.{ParseError}
use Rattle.lois_descent.specs.declared.parse_error.ParseError.TheVariants as parse_errors
use Rattle.lois_descent.specs.declared.lexemes.ExprForm.{ExprForm}
use Rattle.lois_descent.specs.declared.lexemes.ExprForm.TheVariants as exprs
use Rattle.lois_descent.specs.declared.lexemes.Connective.TheVariants as joints
use Rattle.lois_descent.specs.declared.lexemes.Keyword.TheVariants as words
use Rattle.lois_descent.specs.declared.lexemes.OptionalStart.{OptionalStart}
use Rattle.lois_descent.specs.declared.lexemes.OptionalStart.TheVariants as leads
use Rattle.lois_descent.specs.declared.lexemes.Lexeme.{Lexeme}
use Rattle.lois_descent.specs.declared.lexemes.Lexeme.TheVariants.{Name, Tag, Word, Symbol}
use Rattle.lois_descent.specs.declared.lexemes.Punctuator.TheVariants as punctuators
use Rattle.lois_descent.specs.declared.lexemes.Terminal.{Terminal}
use Rattle.lois_descent.specs.declared.lexemes.Terminal.TheVariants as terminals
use Rattle.lois_descent.specs.Descent as descent
use Rattle.lois_descent.specs.Descent.{Tokens, Read, ◌>>=◌, stop, pass}
use Rattle.lois_descent.specs.Lexemes.{lexeme_of, accepts, expr_form, connective, optional_start, has_two_operands}
use Rattle.lois_descent.specs.Machine.{ItemEnd, token, one, two, part_number, terminal, expression, arguments, more_parts, more_items, after_brace, after_item, more_bindings, where_clause, condition, more_condition, behind, accepted_if, arguments_of, expression_start, brace_start, after_item_start, more_parts_start, more_items_start, more_bindings_start, where_start, in_set, is_comma, over_if, State, push, verdict, refused, over}
use Rattle.lois_descent.specs.Refusals.{GoesOver}
use Rattle.lois_descent.specs.Refusals as limits
use Rattle.lois_descent.specs.Steps.{first_lexeme, lexeme_at, place_at, bytes_at, Moves}
use Rattle.lois_descent.proofs.Descends.{Comes, done, on, alike, and_then, led, told, taken, stops, stops_wide, behind_word, passing, closing, entering, entering_call, number_reads, name_reads, comma_accepted, comma_moves, listed_reads}
use Rattle.lois_descent.proofs.TokenForms.{expr_is, joint_is, lead_is, no_where, word_at, sign_at, tag_here, word_moves, leaf_moves}
use Rattle.lois_descent.proofs.TokenSteps.{token_at, opens_is, and_false, token_over, plain_moves_at, close_moves, close_moves_at, missed, same_alone, same_behind}
use Rattle.lois_descent.proofs.AcceptedTokens.{one_at}
use Rattle.lois_descent.proofs.ExpressionLists.{width_of, exprs_grow, narrow_grow}

-- ---- what is read

-- an expression, from token number `at` on
abbrev pub AnExpr : Tokens → ℕ → ExprD → ℕ → Type 0
AnExpr ts at e end = (at < end) × SpellsExpr e (drop at ts) (drop end ts) × IsNarrow e

-- a name, `in` and an expression
abbrev pub ABinding : Tokens → ℕ → BindingD → ℕ → Type 0
ABinding ts at b end = (at < end) × SpellsBinding b (drop at ts) (drop end ts) × BindingIsNarrow b

-- a condition, and neither `and` nor `or` behind it
abbrev pub ACond : Tokens → ℕ → CondD → ℕ → Type 0
ACond ts at c end = (at < end) × Enclosed true (SpellsCond c) (drop at ts) (drop end ts) × CondIsNarrow c × (connective (lexeme_at ts end) ≡ joints.NoConnective)

-- `where` and a condition, or neither
abbrev pub AGuard : Tokens → ℕ → CondD → ℕ → Type 0
AGuard ts at c end = WhereClause c (SpellsCond c) (drop at ts) (drop end ts) × CondIsNarrow c

-- what gives an expression where n brackets are open, whatever is under it on the stack
abbrev pub GivesExpr : Tokens → ℕ → ℕ → Result (ExprD × Tokens) ParseError → Type 0
GivesExpr ts n at read = Comes ts at n (λ s. push (expression ∷ []) s) n (λ e s. s) (AnExpr ts at) read

abbrev pub ReadsExpr : Tokens → ℕ → Read ExprD → Type 0
ReadsExpr ts n read = (at : ℕ) → GivesExpr ts n at (read (drop at ts))

-- reads conditions, whatever may stand behind them
abbrev pub ReadsCond : Tokens → ℕ → Read CondD → Type 0
ReadsCond ts n read = (at : ℕ) → Comes {X = ItemEnd × State} ts at n (λ i. push (condition i.0 ∷ []) i.1) n (λ c i. push (more_condition i.0 ∷ []) i.1) (ACond ts at) (read (drop at ts))

abbrev pub GivesGuard : Tokens → ℕ → ℕ → Result (CondD × Tokens) ParseError → Type 0
GivesGuard ts n at read = Comes {X = Terminal × State} ts at n (λ i. push (where_clause i.0 ∷ []) i.1) n (λ c i. push (terminal i.0 ∷ []) i.1) (AGuard ts at) read

-- ---- bindings and guards

pub binding_reads : (ts : Tokens) (n : ℕ) (e : Read ExprD) → ReadsExpr ts n e → (at : ℕ) → Comes ts at n (λ s. push in_set s) n (λ b s. s) (ABinding ts at) (descent.binding e (drop at ts))
unfolding descent.binding
binding_reads ts n e reads at =
    and_then _ (λ s. push (terminal terminals.In ∷ expression ∷ []) s) (name_reads ts at n) (λ x b forward named.
    passing terminals.In _ refl (λ within.
    and_then _ (λ s. s) (reads (b + 1)) (λ from c later read. done (omega arith, (drop b ts, named.1, (drop (b + 1) ts, within, read.1)), read.2))))

-- a condition that a token ends
pub test_reads : (ts : Tokens) (n : ℕ) (c : Read CondD) → ReadsCond ts n c → (at : ℕ) →
    Comes {X = Terminal × State} ts at n (λ i. push (condition (token i.0) ∷ []) i.1) n (λ c i. push (terminal i.0 ∷ []) i.1) (ACond ts at) (c (drop at ts))
test_reads ts n c tests at =
    led (λ i. (token i.0, i.1)) (λ test end p i. (same_alone ts end n (more_condition (token i.0)) (terminal i.0) (λ rest t. refl) (λ rest t. refl) (joint_is (lexeme_at ts end) joints.NoConnective (sym p.3) (token i.0))).run i.1) (tests at)

-- `where` and a condition, or neither
pub guard_reads : (ts : Tokens) (n : ℕ) (c : Read CondD) → ReadsCond ts n c → (at : ℕ) →
    GivesGuard ts n at (descent.guard c (drop at ts))
unfolding descent.guard lexeme_at place_at
guard_reads ts n c tests at = go (optional_start (lexeme_at ts at)) refl
  where
    none : (l : OptionalStart) → optional_start (lexeme_at ts at) ≡ l → (l ≡ leads.Where → ⊥) →
        GivesGuard ts n at (Ok (truth, drop at ts))
    none l e other =
        alike (λ i. (same_alone ts at n (where_clause i.0) (terminal i.0) (λ rest t. refl) (λ rest t. refl) (no_where (lexeme_at ts at) (λ g. other (sym e ∙ g)) i.0)).run i.1) (done (inl (refl, refl), tt))

    go : (l : OptionalStart) → optional_start (lexeme_at ts at) ≡ l →
        GivesGuard ts n at (descent.guard_by l c (drop at ts))
    go leads.Where e =
        let here : lexeme_at ts at ≡ Word words.Where = lead_is (lexeme_at ts at) leads.Where (sym e) in
        rw (drop-drop 1 at ts) (
        on (omega arith) (taken ts at (Word words.Where) here (λ g. cc)) (λ i. (word_moves ts at n words.Where (where_clause i.0) (condition (token i.0) ∷ []) here refl (λ rest t. refl)).run i.1) (
        told (λ test end forward p. (inr (drop (at + 1) ts, (place_at ts at, word_at ts at words.Where here), p.1), p.2)) (test_reads ts n c tests (at + 1))))
    go leads.OpenRound e = none leads.OpenRound e (λ g. cc)
    go leads.Parameter e = none leads.Parameter e (λ g. cc)
    go leads.For e = none leads.For e (λ g. cc)
    go leads.Else e = none leads.Else e (λ g. cc)
    go leads.NoOptionalStart e = none leads.NoOptionalStart e (λ g. cc)

-- ---- calls

-- how many operands an operation has
two_operands : (op : Operation) → has_two_operands op ≡ true → (arguments_of op ≡ two) × ((x y : ExprD) → HasArity op (expr x (expr y no_exprs)))
two_operands operations.Union h = (refl, λ x y. tt)
two_operands operations.Inter h = (refl, λ x y. tt)
two_operands operations.Minus h = (refl, λ x y. tt)
two_operands operations.Product h = (refl, λ x y. tt)
two_operands _ h = absurd (cc)

one_operand : (op : Operation) → has_two_operands op ≡ false → (arguments_of op ≡ one) × ((x : ExprD) → HasArity op (expr x no_exprs))
one_operand operations.Flatten h = (refl, λ x. tt)
one_operand operations.Reach h = (refl, λ x. tt)
one_operand operations.Complement h = (refl, λ x. tt)
one_operand operations.Minimise h = (refl, λ x. tt)
one_operand _ h = absurd (cc)

-- n brackets are open, and e reads what stands in one more
module _ (ts : Tokens) (n depth_left : ℕ) (all : n + depth_left ≡ 64) (e : Read ExprD) (reads : 0 < depth_left → ReadsExpr ts (n + 1) e) where
  -- a part of a tuple, by its number
  part_reads : (at : ℕ) → lexeme_at ts at ≡ Word words.Part → GivesExpr ts n at (descent.part depth_left e (drop at ts))
  unfolding descent.part place_at
  part_reads at here =
      rw (drop-drop 1 at ts) (behind_word words.Part expression (arguments part_number ∷ []) here refl (λ rest t. refl) (
      entering_call depth_left part_number _ all (λ opened inner.
      and_then _ (λ s. push (terminal terminals.Comma ∷ terminal terminals.Number ∷ terminal terminals.CloseRound ∷ []) s) (reads inner (at + 1 + 1)) (λ x b forward whole.
      passing terminals.Comma _ refl (λ comma.
      and_then _ (λ s. push (terminal terminals.CloseRound ∷ []) s) (number_reads ts (b + 1) (n + 1)) (λ i c later index.
      closing terminals.CloseRound _ refl (λ closed.
      done (omega arith, (drop (at + 1) ts, word_at ts at words.Part here, (drop (at + 1 + 1) ts, (place_at ts (at + 1), sign_at ts (at + 1) punctuators.OpenRound opened), (drop b ts, whole.1, (drop (b + 1) ts, comma, (drop c ts, index.1, closed))))), whole.2))))))))

  apply_one_reads : (at : ℕ) (op : Operation) → lexeme_at ts at ≡ Word (words.Apply op) → has_two_operands op ≡ false →
      GivesExpr ts n at (descent.apply_one op depth_left e (drop at ts))
  unfolding descent.apply_one place_at
  apply_one_reads at op here h =
      let operands = one_operand op h in
      rw (drop-drop 1 at ts) (behind_word (words.Apply op) expression (arguments one ∷ []) here (ap (λ a. Some (arguments a ∷ [])) operands.0) (λ rest t. refl) (
      entering_call depth_left one _ all (λ opened inner.
      and_then _ (λ s. push (terminal terminals.CloseRound ∷ []) s) (reads inner (at + 1 + 1)) (λ x b forward operand.
      closing terminals.CloseRound _ refl (λ closed.
      done (omega arith, (operands.1 x, (drop (at + 1) ts, word_at ts at (words.Apply op) here, (drop (at + 1 + 1) ts, (place_at ts (at + 1), sign_at ts (at + 1) punctuators.OpenRound opened), (drop b ts, (drop b ts, operand.1, refl), closed)))), (operand.2, tt)))))))

  apply_two_reads : (at : ℕ) (op : Operation) → lexeme_at ts at ≡ Word (words.Apply op) → has_two_operands op ≡ true →
      GivesExpr ts n at (descent.apply_two op depth_left e (drop at ts))
  unfolding descent.apply_two place_at
  apply_two_reads at op here h =
      let operands = two_operands op h in
      rw (drop-drop 1 at ts) (behind_word (words.Apply op) expression (arguments two ∷ []) here (ap (λ a. Some (arguments a ∷ [])) operands.0) (λ rest t. refl) (
      entering_call depth_left two _ all (λ opened inner.
      and_then _ (λ s. push (terminal terminals.Comma ∷ expression ∷ terminal terminals.CloseRound ∷ []) s) (reads inner (at + 1 + 1)) (λ x b forward left.
      passing terminals.Comma _ refl (λ comma.
      and_then _ (λ s. push (terminal terminals.CloseRound ∷ []) s) (reads inner (b + 1)) (λ y c later right.
      closing terminals.CloseRound _ refl (λ closed.
      done (omega arith, (operands.1 x y, (drop (at + 1) ts, word_at ts at (words.Apply op) here, (drop (at + 1 + 1) ts, (place_at ts (at + 1), sign_at ts (at + 1) punctuators.OpenRound opened), (drop c ts, (drop b ts, left.1, (drop (b + 1) ts, comma, (drop c ts, right.1, refl))), closed)))), (left.2, (right.2, tt))))))))))

  -- an operation with its operands
  apply_reads : (at : ℕ) (op : Operation) → lexeme_at ts at ≡ Word (words.Apply op) → GivesExpr ts n at (descent.apply op depth_left e (drop at ts))
  unfolding descent.apply
  apply_reads at op here = go (has_two_operands op) refl
    where
      go : (b : Bool) → has_two_operands op ≡ b →
          GivesExpr ts n at (if b then descent.apply_two op depth_left e (drop at ts) else descent.apply_one op depth_left e (drop at ts))
      go true h = apply_two_reads at op here h
      go false h = apply_one_reads at op here h

-- ---- tuples

-- what the machine takes behind the parts of a tuple
only_one : (l : Lexeme) → accepts terminals.Comma l ≡ false → more_parts_start 1 l ≡ None
only_one (Symbol punctuators.Comma) h = absurd (cc)
only_one (Symbol punctuators.CloseRound) h = refl
only_one _ h = refl

no_part : (count : ℕ) (l : Lexeme) → accepts terminals.Comma l ≡ false → accepts terminals.CloseRound l ≡ false → more_parts_start count l ≡ None
no_part count (Symbol punctuators.Comma) h g = absurd (cc)
no_part count (Symbol punctuators.CloseRound) h g = absurd (cc)
no_part count _ h g = refl

-- the bracket that a test finds
closes_round : (l : Lexeme) → accepts terminals.CloseRound l ≡ true → l ≡ Symbol punctuators.CloseRound
closes_round (Symbol punctuators.CloseRound) h = refl
closes_round _ h = absurd (cc)

-- two parts are enough for a tuple
wide : (es : List ExprD) → 2 ≤ length es → IsWide (exprs_of es)
wide [] h = absurd (omega arith)
wide (x ∷ []) h = absurd (omega arith)
wide (x ∷ y ∷ es) h = tt

-- behind the `(` at token number `start` stand these parts
record Parts (ts : Tokens) (start at : ℕ) (es : List ExprD) : Type 0 where
  forward : start < at
  some : 1 ≤ length es
  few : length es ≤ 8
  spelled : SpellsExprs (exprs_of es) (drop (start + 1) ts) (drop at ts)
  narrow : AreNarrow (exprs_of es)

-- what gives the parts behind those so far, and then the whole tuple, where n brackets are open before it
abbrev GivesParts : Tokens → ℕ → ℕ → List ExprD → ℕ → Result (List ExprD × Tokens) ParseError → Type 0
GivesParts ts n start front at read =
    Comes ts at (n + 1) (λ s. push (more_parts (length front) ∷ []) s) (n + 1) (λ rest s. push (more_parts (length (front ++ rest)) ∷ []) s)
    (λ rest end. Parts ts start end (front ++ rest) × (accepts terminals.Comma (lexeme_at ts end) ≡ false)) read

abbrev GivesTuple : Tokens → ℕ → ℕ → List ExprD → ℕ → Result (ExprD × Tokens) ParseError → Type 0
GivesTuple ts n start es at read = Comes ts at (n + 1) (λ s. push (more_parts (length es) ∷ []) s) n (λ e s. s) (AnExpr ts start) read

-- the machine at a token behind so many parts
module _ (ts : Tokens) (at n count : ℕ) where
  -- a comma behind so many parts
  comma_parts : accepts terminals.Comma (lexeme_at ts at) ≡ true → count < 8 → Moves ts at n (more_parts count ∷ []) (at + 1) n (expression ∷ more_parts (suc count) ∷ [])
  comma_parts comma few =
      let k = token_at ts at (Symbol punctuators.Comma) (comma_accepted (lexeme_at ts at) comma) (λ g. cc) in
      plain_moves_at ts at n (more_parts count) (expression ∷ more_parts (suc count) ∷ []) (Symbol punctuators.Comma) k refl refl refl refl (
      λ rest. ap (λ b. over_if (b && is_comma (lexeme_of k.it)) limits.parts) (ne_eqb count 8 (omega arith)))

  -- the comma behind the eighth part
  comma_over : accepts terminals.Comma (lexeme_at ts at) ≡ true → count ≡ 8 → (s : State) → verdict at n (push (more_parts count ∷ []) s) (drop at ts) ≡ refused (over limits.parts) at
  comma_over comma eight s =
      let k = token_at ts at (Symbol punctuators.Comma) (comma_accepted (lexeme_at ts at) comma) (λ g. cc) in
      let opens_not : opens k.it ≡ false = opens_is k.it (Symbol punctuators.Comma) k.lexeme refl in
      token_over ts at n (more_parts count) (expression ∷ more_parts (suc count) ∷ []) k.it limits.parts k.here (ap (more_parts_start count) k.lexeme) (
      λ rest. ap₂ (λ (a b : Bool). choose (a && nat_eq n 64) (Some limits.nesting) (over_if (b && is_comma (lexeme_of k.it)) limits.parts)) opens_not (eq-eqb count 8 eight) ∙ ap (λ l. over_if (is_comma l) limits.parts) k.lexeme) s

  -- the `)` behind two parts or more
  close_parts : accepts terminals.CloseRound (lexeme_at ts at) ≡ true → 2 ≤ count → Moves ts at (n + 1) (more_parts count ∷ []) (at + 1) n []
  close_parts shut many =
      let k = token_at ts at (Symbol punctuators.CloseRound) (closes_round (lexeme_at ts at) shut) (λ g. cc) in
      close_moves_at ts at n (more_parts count) [] (Symbol punctuators.CloseRound) k refl refl refl (ap accepted_if (le-leb 2 count many)) (
      λ rest. ap (λ l. over_if (nat_eq count 8 && is_comma l) limits.parts) k.lexeme ∙ ap (λ b. over_if b limits.parts) (and_false (nat_eq count 8) false refl))

-- n brackets are open before the `(` at token number `start`, and e reads what stands in one more
module _ (ts : Tokens) (n start : ℕ) (opened : lexeme_at ts start ≡ Symbol punctuators.OpenRound) (e : Read ExprD) (reads : ReadsExpr ts (n + 1) e) where
  -- the token is the comma behind the eighth part
  ninth : (at : ℕ) (front : List ExprD) → Parts ts start at front → length front ≡ 8 → accepts terminals.Comma (lexeme_at ts at) ≡ true → GoesOver limits.parts ts at
  unfolding place_at
  ninth at front read eight comma =
      let after : at + 1 ≡ suc at = omega arith in
      (start, exprs_of front, width_of front ∙ eight, (drop (start + 1) ts, (place_at ts start, sign_at ts start punctuators.OpenRound opened), read.spelled), subst (λ k. TakesSymbol (codes ",") (drop at ts) (drop k ts)) after (one_at ts at terminals.Comma comma))

  -- the machine counts the parts that were read
  counted : (b : ℕ) (xs ys : List ExprD) → xs ≡ ys → (s : State) → verdict b (n + 1) (push (more_parts (length xs) ∷ []) s) (drop b ts) ≡ verdict b (n + 1) (push (more_parts (length ys) ∷ []) s) (drop b ts)
  counted b xs ys same s = ap (λ l. verdict b (n + 1) (push (more_parts (length l) ∷ []) s) (drop b ts)) same

  -- no comma follows, and so no part
  parts_end : (at : ℕ) (front : List ExprD) → Parts ts start at front → accepts terminals.Comma (lexeme_at ts at) ≡ false →
      GivesParts ts n start front at (Ok ([], drop at ts))
  parts_end at front read none =
      alike (counted at front (front ++ []) (sym (append-nil front))) (done (subst (Parts ts start at) (sym (append-nil front)) read, none))

  -- one part more
  grown : (at b : ℕ) (front : List ExprD) (x : ExprD) → Parts ts start at front → length front < 8 → accepts terminals.Comma (lexeme_at ts at) ≡ true → AnExpr ts (at + 1) x b → Parts ts start b (front ++ x ∷ [])
  grown at b front x read few comma more =
      let longer = length-append front (x ∷ []) in
      let ahead = read.forward in
      let further = more.0 in
      record {
        forward = omega arith;
        some = omega arith;
        few = omega arith;
        spelled = exprs_grow front x (drop (start + 1) ts) (drop at ts) (drop (at + 1) ts) (drop b ts) read.spelled (one_at ts at terminals.Comma comma) more.1;
        narrow = narrow_grow front x read.narrow more.2;
      }

  -- at most so many parts more
  more_parts_read : (most : ℕ) (front : List ExprD) (at : ℕ) → length front + most ≡ 8 → Parts ts start at front →
      GivesParts ts n start front at (descent.more_parts e most (drop at ts))
  unfolding lexeme_at
  more_parts_read zero front at full read = go (accepts terminals.Comma (lexeme_at ts at)) refl
    where
      go : (b : Bool) → accepts terminals.Comma (lexeme_at ts at) ≡ b →
          GivesParts ts n start front at (if b then Err (parse_errors.WideTuple (length (drop at ts))) else Ok ([], drop at ts))
      go true comma = let eight : length front ≡ 8 = omega arith in stops_wide (comma_over ts at (n + 1) (length front) comma eight) (ninth at front read eight comma)
      go false none = parts_end at front read none
  more_parts_read (suc most) front at full read =
      go (accepts terminals.Comma (lexeme_at ts at)) refl (λ x b comma more.
      more_parts_read most (front ++ x ∷ []) b (let longer = length-append front (x ∷ []) in omega arith) (grown at b front x read (omega arith) comma more))
    where
      go : (b : Bool) → accepts terminals.Comma (lexeme_at ts at) ≡ b →
          ((x : ExprD) (b : ℕ) → accepts terminals.Comma (lexeme_at ts at) ≡ true → AnExpr ts (at + 1) x b →
          GivesParts ts n start (front ++ x ∷ []) b (descent.more_parts e most (drop b ts))) →
          GivesParts ts n start front at (if b then e (drop 1 (drop at ts)) >>= (λ x. descent.more_parts e most x.1 >>= (λ y. Ok (x.0 ∷ y.0, y.1))) else Ok ([], drop at ts))
      go false none next = parts_end at front read none
      go true comma next =
          rw (drop-drop 1 at ts) (
          on (omega arith) (taken ts at (Symbol punctuators.Comma) (comma_accepted (lexeme_at ts at) comma) (λ g. cc)) (λ s. (comma_parts ts at (n + 1) (length front) comma (omega arith)).run s) (
          and_then _ (λ s. push (more_parts (suc (length front)) ∷ []) s) (reads (at + 1)) (λ x b forward more.
          alike (λ s. ap (λ count. verdict b (n + 1) (push (more_parts count ∷ []) s) (drop b ts)) (let longer = length-append front (x ∷ []) in omega arith)) (
          and_then _ (λ s. s) (next x b comma more) (λ rest c later all.
          let same : (front ++ x ∷ []) ++ rest ≡ front ++ (x ∷ rest) = append_assoc front (x ∷ []) rest in
          alike (counted c ((front ++ x ∷ []) ++ rest) (front ++ (x ∷ rest)) same) (done (subst (Parts ts start c) same all.0, all.1)))))))

  -- all parts, from the first one on
  parts_read : (at : ℕ) (first : ExprD) → Parts ts start at (first ∷ []) →
      Comes ts at (n + 1) (λ s. push (more_parts 1 ∷ []) s) (n + 1) (λ es s. push (more_parts (length es) ∷ []) s)
      (λ es end. Parts ts start end es × (accepts terminals.Comma (lexeme_at ts end) ≡ false)) (descent.parts e first (drop at ts))
  unfolding descent.parts
  parts_read at first read = and_then _ (λ s. s) (more_parts_read 7 (first ∷ []) at refl read) (λ rest b forward all. done all)

  -- the `)` behind at least two parts
  shut_parts : (at : ℕ) (es : List ExprD) → Parts ts start at es → accepts terminals.Comma (lexeme_at ts at) ≡ false →
      GivesTuple ts n start es at ((if length es == 1 then stop (drop at ts) else pass terminals.CloseRound (drop at ts)) >>= λ end. Ok (tuple (place_at ts start) (exprs_of es), end))
  unfolding pass lexeme_at place_at
  shut_parts at es read none = go (length es == 1) refl
    where
      shut : (b : Bool) → accepts terminals.CloseRound (lexeme_at ts at) ≡ b → 2 ≤ length es →
          GivesTuple ts n start es at ((if b then Ok (drop 1 (drop at ts)) else stop (drop at ts)) >>= λ end. Ok (tuple (place_at ts start) (exprs_of es), end))
      shut true closed many =
          let ahead = read.forward in
          rw (drop-drop 1 at ts) (
          on (omega arith) (taken ts at (Symbol punctuators.CloseRound) (closes_round (lexeme_at ts at) closed) (λ g. cc)) (λ s. (close_parts ts at n (length es) closed many).run s) (
          done (
            omega arith,
            (wide es many, (drop (start + 1) ts, sign_at ts start punctuators.OpenRound opened, (drop at ts, read.spelled, one_at ts at terminals.CloseRound closed))),
            (subst (λ k. k ≤ 8) (sym (width_of es)) read.few, read.narrow),
          )))
      shut false other many = stops (λ s. (missed ts at (n + 1) (more_parts (length es)) (no_part (length es) (lexeme_at ts at) none other)).run s)

      two_or_more : (count : ℕ) → 1 ≤ count → (count == 1) ≡ false → 2 ≤ count
      two_or_more zero h g = absurd (omega arith)
      two_or_more (suc zero) h g = absurd (cc)
      two_or_more (suc (suc count)) h g = omega arith

      go : (b : Bool) → (length es == 1) ≡ b →
          GivesTuple ts n start es at ((if b then stop (drop at ts) else pass terminals.CloseRound (drop at ts)) >>= λ end. Ok (tuple (place_at ts start) (exprs_of es), end))
      go true single =
          stops (λ s. (missed ts at (n + 1) (more_parts (length es)) (ap (λ count. more_parts_start count (lexeme_at ts at)) (eqb-true (length es) 1 single) ∙ only_one (lexeme_at ts at) none)).run s)
      go false several = shut (accepts terminals.CloseRound (lexeme_at ts at)) refl (two_or_more (length es) read.some several)

-- a tuple, where e reads its parts
tuple_reads : (ts : Tokens) (n depth_left : ℕ) → n + depth_left ≡ 64 → (e : Read ExprD) → (0 < depth_left → ReadsExpr ts (n + 1) e) → (at : ℕ) → lexeme_at ts at ≡ Symbol punctuators.OpenRound →
    GivesExpr ts n at (descent.tuple depth_left e (drop at ts))
unfolding descent.tuple place_at
tuple_reads ts n depth_left all e reads at here =
    entering depth_left punctuators.OpenRound expression (expression ∷ more_parts 1 ∷ []) _ here refl refl (λ rest t. refl) all (λ inner.
    and_then _ (λ s. push (more_parts 1 ∷ []) s) (reads inner (at + 1)) (λ first b forward read.
    and_then _ (λ s. s) (parts_read ts n at here e (reads inner) b first (record { forward = omega arith; some = omega arith; few = omega arith; spelled = (drop b ts, read.1, refl); narrow = (read.2, tt) })) (λ es c later parts.
    shut_parts ts n at here e (reads inner) c es parts.0 parts.1)))

-- ---- sets

-- what the machine takes in braces, by the token
no_for : (l : Lexeme) → (optional_start l ≡ leads.For → ⊥) → after_item_start l ≡ more_items_start l
no_for (Word words.For) h = absurd (h refl)
no_for _ h = refl

no_more_items : (l : Lexeme) → accepts terminals.Comma l ≡ false → more_items_start l ≡ accepted_if (accepts terminals.CloseCurly l)
no_more_items (Symbol punctuators.Comma) h = absurd (cc)
no_more_items (Symbol punctuators.CloseCurly) h = refl
no_more_items _ h = refl

no_more_bindings : (l : Lexeme) → accepts terminals.Comma l ≡ false → more_bindings_start l ≡ where_start terminals.CloseCurly l
no_more_bindings (Symbol punctuators.Comma) h = absurd (cc)
no_more_bindings _ h = refl

some_item : (l : Lexeme) → accepts terminals.CloseCurly l ≡ false → brace_start l ≡ behind (after_item ∷ []) (expression_start l)
some_item (Symbol punctuators.CloseCurly) h = absurd (cc)
some_item _ h = refl

-- the bracket that a test finds
closes_curly : (l : Lexeme) → accepts terminals.CloseCurly l ≡ true → l ≡ Symbol punctuators.CloseCurly
closes_curly (Symbol punctuators.CloseCurly) h = refl
closes_curly _ h = absurd (cc)

-- expressions, or bindings, each behind a comma
abbrev MoreItems : Tokens → List ExprD → ℕ → ℕ → Type 0
MoreItems ts es at end = SpellsMoreExprs (exprs_of es) (drop at ts) (drop end ts) × AreNarrow (exprs_of es) × (accepts terminals.Comma (lexeme_at ts end) ≡ false)

abbrev MoreBindings : Tokens → List BindingD → ℕ → ℕ → Type 0
MoreBindings ts bs at end = SpellsMoreBindings (bindings_of bs) (drop at ts) (drop end ts) × BindingsAreNarrow (bindings_of bs) × (accepts terminals.Comma (lexeme_at ts end) ≡ false)

-- from token number `start` to `at` stand the `{` and the first item
record Begun (ts : Tokens) (start at place : ℕ) (item : ExprD) : Type 0 where
  forward : start < at
  opened : TakesSymbolAt place (codes "{") (drop start ts) (drop (start + 1) ts)
  spelled : SpellsExpr item (drop (start + 1) ts) (drop at ts)
  narrow : IsNarrow item

-- what gives the whole set, where n brackets are open before it
abbrev GivesSet : Tokens → ℕ → ℕ → ℕ → Result (ExprD × Tokens) ParseError → Type 0
GivesSet ts n start at read = Comes ts at (n + 1) (λ s. push (after_item ∷ []) s) n (λ e s. s) (AnExpr ts start) read

-- n + 1 brackets are open
module _ (ts : Tokens) (n : ℕ) (e : Read ExprD) (reads : ReadsExpr ts (n + 1) e) where
  -- items with commas between them, and the `}`
  items_reads : (start at place : ℕ) (item : ExprD) → Begun ts start at place item → (optional_start (lexeme_at ts at) ≡ leads.For → ⊥) →
      GivesSet ts n start at (descent.items place e item (drop at ts))
  unfolding descent.items
  items_reads start at place item begun other =
      alike (λ s. (same_alone ts at (n + 1) after_item more_items (λ rest t. refl) (λ rest t. refl) (no_for (lexeme_at ts at) other)).run s) (
      and_then _ (λ s. s)
      (listed_reads e (λ x b c. AnExpr ts b x c) (MoreItems ts) (λ es end. (at ≤ end) × SpellsListed (exprs_of es) (drop (start + 1) ts) (drop end ts) × AreNarrow (exprs_of es) × (accepts terminals.Comma (lexeme_at ts end) ≡ false)) item at
      (λ b comma s. (comma_moves ts b (n + 1) more_items (expression ∷ more_items ∷ []) comma refl (λ rest t. refl)).run s)
      (λ b none. (refl, tt, none))
      (λ x xs a b c comma read rest. ((drop (a + 1) ts, comma, (drop b ts, read.1, rest.0)), (read.2, rest.1), rest.2))
      (λ b. led (λ s. push (more_items ∷ []) s) (λ x end read s. refl) (reads b))
      (λ rest end forward more. (forward, (drop at ts, begun.spelled, more.0), (begun.narrow, more.1), more.2)))
      (λ es b forward read.
      alike (λ s. (same_alone ts b (n + 1) more_items (terminal terminals.CloseCurly) (λ rest t. refl) (λ rest t. refl) (no_more_items (lexeme_at ts b) read.3)).run s) (
      closing terminals.CloseCurly _ refl (λ closed. let ahead = begun.forward in done (omega arith, (drop (start + 1) ts, begun.opened, (drop b ts, read.1, closed)), read.2)))))

  -- the bindings behind the first one
  bindings_read : (start at : ℕ) (first : BindingD) → ABinding ts start first at →
      Comes ts at (n + 1) (λ s. push (more_bindings ∷ []) s) (n + 1) (λ bs s. push (where_clause terminals.CloseCurly ∷ []) s)
      (λ bs end. (at ≤ end) × SpellsBindings (bindings_of bs) (drop start ts) (drop end ts) × BindingsAreNarrow (bindings_of bs) × (accepts terminals.Comma (lexeme_at ts end) ≡ false)) (descent.listed (descent.binding e) first (drop at ts))
  bindings_read start at first begun =
      led (λ s. s) (λ bs end read s. (same_alone ts end (n + 1) more_bindings (where_clause terminals.CloseCurly) (λ rest t. refl) (λ rest t. refl) (no_more_bindings (lexeme_at ts end) read.3)).run s)
      (listed_reads (descent.binding e) (λ x b c. ABinding ts b x c) (MoreBindings ts) (λ bs end. (at ≤ end) × SpellsBindings (bindings_of bs) (drop start ts) (drop end ts) × BindingsAreNarrow (bindings_of bs) × (accepts terminals.Comma (lexeme_at ts end) ≡ false)) first at
      (λ b comma s. (comma_moves ts b (n + 1) more_bindings (in_set ++ more_bindings ∷ []) comma refl (λ rest t. refl)).run s)
      (λ b none. (refl, tt, none))
      (λ x xs a b c comma read rest. ((drop (a + 1) ts, comma, (drop b ts, read.1, rest.0)), (read.2, rest.1), rest.2))
      (λ b. led (λ s. push (more_bindings ∷ []) s) (λ x end read s. refl) (binding_reads ts (n + 1) e reads b))
      (λ rest end forward more. (forward, (drop at ts, begun.1, more.0), (begun.2, more.1), more.2)))

  -- `for`, its bindings and its guard, and the `}`
  each_reads : (c : Read CondD) → ReadsCond ts (n + 1) c → (start at place : ℕ) (item : ExprD) → Begun ts start at place item → lexeme_at ts at ≡ Word words.For →
      GivesSet ts n start at (descent.each place e c item (drop at ts))
  unfolding descent.each place_at
  each_reads c tests start at place item begun here =
      rw (drop-drop 1 at ts) (behind_word words.For after_item (in_set ++ more_bindings ∷ []) here refl (λ rest t. refl) (
      and_then _ (λ s. push (more_bindings ∷ []) s) (binding_reads ts (n + 1) e reads (at + 1)) (λ first b forward begun_list.
      and_then _ (λ s. s) (bindings_read (at + 1) b first begun_list) (λ bs d later read.
      and_then _ (λ s. (terminals.CloseCurly, s)) (guard_reads ts (n + 1) c tests d) (λ filter g last guarded.
      closing terminals.CloseCurly _ refl (λ closed.
      let ahead = begun.forward in
      done (
        omega arith,
        (drop (start + 1) ts, begun.opened, (drop at ts, begun.spelled, (drop (at + 1) ts, (place_at ts at, word_at ts at words.For here), (drop d ts, read.1, (drop g ts, guarded.0, closed))))),
        (begun.narrow, read.2, guarded.1),
      )))))))

-- n brackets are open, and e and c read what stands in one more
module _ (ts : Tokens) (n depth_left : ℕ) (all : n + depth_left ≡ 64) (e : Read ExprD) (reads : 0 < depth_left → ReadsExpr ts (n + 1) e) (c : Read CondD) (tests : 0 < depth_left → ReadsCond ts (n + 1) c) where
  -- what follows the first item
  set_reads : 0 < depth_left → (start at place : ℕ) (item : ExprD) → Begun ts start at place item →
      GivesSet ts n start at (descent.set_by (optional_start (lexeme_at ts at)) place e c item (drop at ts))
  set_reads inner start at place item begun = go (optional_start (lexeme_at ts at)) refl
    where
      none : (l : OptionalStart) → optional_start (lexeme_at ts at) ≡ l → (l ≡ leads.For → ⊥) → GivesSet ts n start at (descent.items place e item (drop at ts))
      none l h other = items_reads ts n e (reads inner) start at place item begun (λ g. other (sym h ∙ g))

      go : (l : OptionalStart) → optional_start (lexeme_at ts at) ≡ l → GivesSet ts n start at (descent.set_by l place e c item (drop at ts))
      go leads.For h = each_reads ts n e (reads inner) c (tests inner) start at place item begun (lead_is (lexeme_at ts at) leads.For (sym h))
      go leads.OpenRound h = none leads.OpenRound h (λ g. cc)
      go leads.Parameter h = none leads.Parameter h (λ g. cc)
      go leads.Where h = none leads.Where h (λ g. cc)
      go leads.Else h = none leads.Else h (λ g. cc)
      go leads.NoOptionalStart h = none leads.NoOptionalStart h (λ g. cc)

  -- a set in braces
  braces_reads : (at : ℕ) → lexeme_at ts at ≡ Symbol punctuators.OpenCurly → GivesExpr ts n at (descent.braces depth_left e c (drop at ts))
  unfolding descent.braces lexeme_at place_at
  braces_reads at here = entering depth_left punctuators.OpenCurly expression (after_brace ∷ []) _ here refl refl (λ rest t. refl) all (λ inner. go inner (accepts terminals.CloseCurly (lexeme_at ts (at + 1))) refl)
    where
      go : 0 < depth_left → (b : Bool) → accepts terminals.CloseCurly (lexeme_at ts (at + 1)) ≡ b →
          Comes ts (at + 1) (n + 1) (λ s. push (after_brace ∷ []) s) n (λ e s. s) (AnExpr ts at)
          (if b then Ok (listed (place_at ts at) no_exprs, drop 1 (drop (at + 1) ts)) else e (drop (at + 1) ts) >>= λ first. descent.set_by (optional_start (first_lexeme first.1)) (place_at ts at) e c first.0 first.1)
      go inner true h =
          let shut : lexeme_at ts (at + 1) ≡ Symbol punctuators.CloseCurly = closes_curly (lexeme_at ts (at + 1)) h in
          let there = token_at ts (at + 1) (Symbol punctuators.CloseCurly) shut (λ g. cc) in
          rw (drop-drop 1 (at + 1) ts) (
          on (omega arith) (taken ts (at + 1) (Symbol punctuators.CloseCurly) shut (λ g. cc)) (λ s. (close_moves ts (at + 1) n after_brace [] (Symbol punctuators.CloseCurly) there refl refl refl refl (λ rest t. refl)).run s) (
          done (omega arith, (drop (at + 1) ts, sign_at ts at punctuators.OpenCurly here, (drop (at + 1) ts, refl, (place_at ts (at + 1), sign_at ts (at + 1) punctuators.CloseCurly shut))), tt)))
      go inner false h =
          alike (λ s. (same_behind ts (at + 1) (n + 1) after_brace expression (after_item ∷ []) (λ rest t. refl) (λ rest t. refl) (some_item (lexeme_at ts (at + 1)) h)).run s) (
          and_then _ (λ s. push (after_item ∷ []) s) (reads inner (at + 1)) (λ first b forward read.
          set_reads inner at b (place_at ts at) first (record { forward = omega arith; opened = sign_at ts at punctuators.OpenCurly here; spelled = read.1; narrow = read.2 })))

  -- a name, or a tag, as an expression
  name_alone : (at : ℕ) → lexeme_at ts at ≡ Name → GivesExpr ts n at (descent.name (drop at ts) >>= λ x. Ok (var x.0.place x.0.name, x.1))
  name_alone at here =
      alike (λ s. (same_alone ts at n expression (terminal terminals.Name) (λ rest t. refl) (λ rest t. refl) (ap expression_start here ∙ sym (ap (λ l. accepted_if (accepts terminals.Name l)) here))).run s) (
      and_then _ (λ s. s) (name_reads ts at n) (λ x b forward named. done (omega arith, named.1, tt)))

  tag_alone : (at : ℕ) → lexeme_at ts at ≡ Tag → GivesExpr ts n at (descent.tag (drop at ts) >>= λ x. Ok (trees.tag (place_at ts at) x.0, x.1))
  unfolding descent.tag lexeme_at bytes_at
  tag_alone at here =
      subst (λ l. GivesExpr ts n at (descent.tag_by l (drop at ts) >>= λ x. Ok (trees.tag (place_at ts at) x.0, x.1))) (sym here) (
      rw (drop-drop 1 at ts) (
      on (omega arith) (taken ts at Tag here (λ g. cc)) (λ s. (leaf_moves ts at n expression Tag here (λ g. cc) refl refl refl refl (λ rest t. refl)).run s) (done (omega arith, tag_here ts at here, tt))))

  -- every form of expression
  pub expression_reads : ReadsExpr ts n (descent.expression depth_left e c)
  unfolding descent.expression lexeme_at place_at
  expression_reads at = go (expr_form (lexeme_at ts at)) refl
    where
      go : (f : ExprForm) → f ≡ expr_form (lexeme_at ts at) → GivesExpr ts n at (descent.expression_by f depth_left e c (drop at ts))
      go exprs.Atoms h =
          let here : lexeme_at ts at ≡ Word words.Atoms = expr_is (lexeme_at ts at) exprs.Atoms h in
          rw (drop-drop 1 at ts) (behind_word words.Atoms expression [] here refl (λ rest t. refl) (done (omega arith, word_at ts at words.Atoms here, tt)))
      go exprs.Var h = name_alone at (expr_is (lexeme_at ts at) exprs.Var h)
      go exprs.Tag h = tag_alone at (expr_is (lexeme_at ts at) exprs.Tag h)
      go exprs.Tuple h = tuple_reads ts n depth_left all e reads at (expr_is (lexeme_at ts at) exprs.Tuple h)
      go exprs.Braces h = braces_reads at (expr_is (lexeme_at ts at) exprs.Braces h)
      go exprs.Part h = part_reads ts n depth_left all e reads at (expr_is (lexeme_at ts at) exprs.Part h)
      go (exprs.Apply op) h = apply_reads ts n depth_left all e reads at op (expr_is (lexeme_at ts at) (exprs.Apply op) h)
      go exprs.NoExpr h = stops (λ s. (missed ts at n expression (expr_is (lexeme_at ts at) exprs.NoExpr h)).run s)
