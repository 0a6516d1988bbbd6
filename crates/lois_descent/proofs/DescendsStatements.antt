-- Statements, as the descent reads them.
use Rattle.std.proofs.Common.{◌≡◌, ℕ, zero, suc, ◌+◌, ◌<◌, ◌≤◌, Bool, true, false, inl, inr, Option, Some, None, List, [], ◌∷◌, ◌++◌, length, drop, refl, sym, ap, ◌∙◌, subst, arith, codes, ap₂, drop-drop, ltb-false, ltb-true, length-drop}
use Rattle.std.specs.Prelude.{not as flip, ◌&&◌}
use Rattle.std.specs.Prelude.{cond as choose}
use Rattle.std.specs.Prelude.{option_map, Result, Ok, Err, nat_lt, nat_eq, if◌then◌else◌}
use Rattle.lois_script.specs.Grammar.{◌▹◌, TakesNumber, TakesWord, TakesSymbol, ElseClause, Block, SpellsStmt, SpellsStmts}
use Rattle.lois_script.specs.Limits.{StmtIsWithin, StmtsAreWithin}
use Rattle.lois_script.specs.Tree.{StmtD}
use Rattle.lois_script.specs.View.{stmts_of}
use Rattle.lois_script.specs.Grammar.{decimal}
use Rattle.lois_descent.specs.Refusals as limits
use Rattle.lois_descent.specs.declared.parse_error.ParseError.TheVariants as parse_errors
use Rattle.lois_descent.specs.declared.parse_error.ParseError.{ParseError}
use Rattle.lois_descent.specs.declared.lexemes.Lexeme.{Lexeme}
use Rattle.lois_descent.specs.declared.lexemes.Lexeme.TheVariants.{Name, Number, Word, Symbol}
use Rattle.lois_descent.specs.declared.lexemes.Keyword.{Keyword}
use Rattle.lois_descent.specs.declared.lexemes.Keyword.TheVariants as words
use Rattle.lois_descent.specs.declared.lexemes.Punctuator.TheVariants as punctuators
use Rattle.lois_descent.specs.declared.lexemes.Terminal.TheVariants as terminals
use Rattle.lois_descent.specs.declared.lexemes.Connective.TheVariants.{NoConnective}
use Rattle.lois_descent.specs.declared.lexemes.OptionalStart.{OptionalStart}
use Rattle.lois_descent.specs.declared.lexemes.OptionalStart.TheVariants as leads
use Rattle.lois_descent.specs.declared.lexemes.StmtForm.{StmtForm}
use Rattle.lois_descent.specs.declared.lexemes.StmtForm.TheVariants as stmts
use Rattle.lois_descent.proofs.AcceptedTokens.{one_at, pass_stuck, number_accepted}
use Rattle.lois_descent.specs.Lexemes.{accepts, stmt_form, connective, optional_start}
use Rattle.lois_descent.specs.Machine.{statements_start, at_bottom, turns_start, turns_number, ending, accepted_if, item_breach, over_if, Item, token, turns_block, terminal, expression, condition, more_condition, where_clause, statements, State, push, verdict, refused, over, no_script, statement_start}
use Rattle.lois_descent.specs.Steps.{first_place, first_bytes, lexeme_at, place_at, bytes_at, One}
use Rattle.lois_descent.specs.Descent as descent
use Rattle.lois_descent.specs.Descent.{Tokens, Read, ◌>>=◌, let_statement, assignment, addition, enter, block, for_statement, else_block, if_statement, turns, while_statement, assertion, printing, statement, expr_of, cond_of}
use Rattle.lois_descent.proofs.TokenSteps.{TokenAt, token_at, opens_is, state_passes, state_stuck, state_same, token_over, plain_moves_at, missed, same_alone}
use Rattle.lois_descent.proofs.TokenForms.{word_at, word_moves, name_here, joint_is, lead_is, stmt_is, number_here}
use Rattle.lois_descent.proofs.Hosts.{inside, stray_inside, Host}
use Rattle.lois_descent.proofs.Descends.{Comes, done, on, alike, and_then, led, told, taken, stops, before, passing, closing, entering, name_reads, many_reads}
use Rattle.lois_descent.proofs.DescendsConditions.{expr_reads, cond_reads}
use Rattle.lois_descent.proofs.DescendsExpressions.{ReadsExpr, ReadsCond, binding_reads, guard_reads, test_reads}

-- ---- forms

-- a statement, where it stands
abbrev pub StmtRead : Tokens → ℕ → StmtD → ℕ → Type 0
StmtRead ts at a end = (at < end) × SpellsStmt a (drop at ts) (drop end ts) × StmtIsWithin a

-- statements with the `}` behind them
abbrev pub StmtsRead : Tokens → ℕ → List StmtD → ℕ → Type 0
StmtsRead ts at l end = (at < end) × (SpellsStmts (stmts_of l) ▹ TakesSymbol (codes "}")) (drop at ts) (drop end ts) × StmtsAreWithin (stmts_of l)

abbrev pub BlockRead : Tokens → ℕ → List StmtD → ℕ → Type 0
BlockRead ts at l end = (at < end) × Block (SpellsStmts (stmts_of l)) (drop at ts) (drop end ts) × StmtsAreWithin (stmts_of l)

-- `else` and a block, or neither
abbrev pub ElseRead : Tokens → ℕ → List StmtD → ℕ → Type 0
ElseRead ts at l end = ElseClause (stmts_of l) (SpellsStmts (stmts_of l)) (drop at ts) (drop end ts) × StmtsAreWithin (stmts_of l)

-- reads the statements of a block, inside which so many brackets and one more are open
abbrev pub ReadsStmts : Tokens → ℕ → Read (List StmtD) → Type 0
ReadsStmts ts n b = (at : ℕ) → Comes ts at (n + 1) (λ s. push (statements ∷ []) s) n (λ l s. s) (StmtsRead ts at) (b (drop at ts))

abbrev pub hosted : Host → State
hosted h = h.state

-- the word that begins a statement
begun : {B : Type 0} {ts : Tokens} {at n k : ℕ} {v : B → Host → State} {Q : B → ℕ → Type 0} {r : Result (B × Tokens) ParseError} (x : Keyword) (w : List Item) → lexeme_at ts at ≡ Word x → statement_start (Word x) ≡ Some w →
    Comes ts (at + 1) n (λ h. push w (hosted h)) k v Q r → Comes ts at n hosted k v Q r
begun {ts = ts} {at = at} {n = n} x w here starts next =
    let k = token_at ts at (Word x) here (λ e. cc) in
    on (omega arith) (taken ts at (Word x) here (λ e. cc)) (λ h. state_passes ts at n h.state (push w h.state) (Word x) k refl refl refl (h.starts (Word x) w starts) (h.calm k.it)) next

name_found : (ts : Tokens) (at : ℕ) → lexeme_at ts at ≡ Name → descent.name (drop at ts) ≡ Ok (record { place = place_at ts at; name = bytes_at ts at }, drop (at + 1) ts)
unfolding descent.name lexeme_at place_at bytes_at
name_found ts at here =
    ap (λ l. if accepts terminals.Name l then Ok (record { place = first_place (drop at ts); name = first_bytes (drop at ts) }, drop 1 (drop at ts)) else descent.stop (drop at ts)) here ∙
    ap (λ l. Ok (record { place = first_place (drop at ts); name = first_bytes (drop at ts) }, l)) (drop-drop 1 at ts)

curly_accepted : (l : Lexeme) → accepts terminals.OpenCurly l ≡ true → l ≡ Symbol punctuators.OpenCurly
curly_accepted (Symbol punctuators.OpenCurly) e = refl
curly_accepted _ e = absurd (cc)

-- `turns` and a number that isn't too large
abbrev pub TurnsRead : Tokens → ℕ → ℕ → ℕ → Type 0
TurnsRead ts at k end = (k ≤ 1000000) × (TakesWord (codes "turns") ▹ TakesNumber k) (drop at ts) (drop end ts)

turns_as_number : (l : Lexeme) → turns_start l ≡ accepted_if (accepts terminals.Number l)
turns_as_number Number = refl
turns_as_number _ = refl

no_turns : (l : Lexeme) → (l ≡ Word words.Turns → ⊥) → ending turns_block l ≡ None
no_turns (Word words.Turns) h = absurd (h refl)
no_turns _ h = refl

-- the machine stops at too large a number, and so does the reader
stops_turning : {A X : Type 0} {ts : Tokens} {at n m : ℕ} {w : X → State} {v : A → X → State} {P : A → ℕ → Type 0} → ((i : X) → verdict at n (w i) (drop at ts) ≡ refused (over limits.turns) at) → limits.GoesOver limits.turns ts at →
    Comes ts at n w m v P (Err (parse_errors.TurnsTooMany (length (drop at ts))))
stops_turning {ts = ts} {at = at} h large =
    record { run = λ inside. record { enough = λ e. cc; stuck = λ i. (h i ∙ ap (refused (over limits.turns)) (before ts at inside), subst (limits.GoesOver limits.turns ts) (before ts at inside) large) } }

-- the number behind `turns`
abbrev TurnsNumber : Tokens → ℕ → ℕ → ℕ → Type 0
TurnsNumber ts at k end = (k ≤ 1000000) × TakesNumber k (drop at ts) (drop end ts)

abbrev number_or_stop : Bool → Tokens → ℕ → Result (ℕ × Tokens) ParseError
number_or_stop t s k = if t then Err (parse_errors.TurnsTooMany (length s)) else Ok (k, drop 1 s)

module _ (ts : Tokens) (at n : ℕ) (here : lexeme_at ts at ≡ Number) where
  turns_breach : (t : Bool) → nat_lt 1000000 (decimal (bytes_at ts at)) ≡ t → (k : TokenAt ts at Number) (rest : List Item) → item_breach (turns_number ∷ rest) k.it ≡ over_if t limits.turns
  unfolding bytes_at
  turns_breach t size k rest = ap (λ b. over_if (nat_lt 1000000 (decimal (first_bytes b))) limits.turns) (sym k.here) ∙ ap (λ b. over_if b limits.turns) size

  turns_counted : (before_it : ℕ) → at ≡ suc before_it → TakesWord (codes "turns") (drop before_it ts) (drop at ts) → (t : Bool) → nat_lt 1000000 (decimal (bytes_at ts at)) ≡ t →
      Comes ts at n (λ s. push (turns_number ∷ []) s) n (λ k s. s) (TurnsNumber ts at) (number_or_stop t (drop at ts) (decimal (bytes_at ts at)))
  turns_counted j place word false size =
      let k = token_at ts at Number here (λ g. cc) in
      rw (drop-drop 1 at ts) (
      on (omega arith) (taken ts at Number here (λ g. cc)) (λ s. (plain_moves_at ts at n turns_number [] Number k refl refl refl refl (turns_breach false size k)).run s) (
      done (ltb-false 1000000 (decimal (bytes_at ts at)) size, number_here ts at here)))
  turns_counted j place word true size =
      let k = token_at ts at Number here (λ g. cc) in
      let next : at + 1 ≡ suc at = omega arith in
      stops_turning
      (λ s. token_over ts at n turns_number [] k.it limits.turns k.here (ap turns_start k.lexeme)
      (λ rest. ap₂ (λ (a : Bool) (o : Option limits.Limit). choose (a && nat_eq n 64) (Some limits.nesting) o) (opens_is k.it Number k.lexeme refl) (turns_breach true size k rest)) s)
      (j, decimal (bytes_at ts at), place, ltb-true 1000000 (decimal (bytes_at ts at)) size, (drop at ts, word, subst (λ x. TakesNumber (decimal (bytes_at ts at)) (drop at ts) (drop x ts)) next (number_here ts at here)))

turns_number_read : (ts : Tokens) (at n j : ℕ) → at ≡ suc j → TakesWord (codes "turns") (drop j ts) (drop at ts) →
    Comes ts at n (λ s. push (turns_number ∷ []) s) n (λ k s. s) (TurnsNumber ts at) (descent.number (drop at ts) >>= (λ k. if nat_lt 1000000 k.0 then Err (parse_errors.TurnsTooMany (length (drop at ts))) else Ok k))
unfolding descent.number lexeme_at bytes_at
turns_number_read ts at n j place word = go (accepts terminals.Number (lexeme_at ts at)) refl
  where
    go : (t : Bool) → accepts terminals.Number (lexeme_at ts at) ≡ t →
        Comes ts at n (λ s. push (turns_number ∷ []) s) n (λ k s. s) (TurnsNumber ts at)
        ((if t then Ok (decimal (first_bytes (drop at ts)), drop 1 (drop at ts)) else descent.stop (drop at ts)) >>= (λ k. if nat_lt 1000000 k.0 then Err (parse_errors.TurnsTooMany (length (drop at ts))) else Ok k))
    go false e = stops (λ s. (missed ts at n turns_number (turns_as_number (lexeme_at ts at) ∙ ap accepted_if e)).run s)
    go true e = turns_counted ts at n (number_accepted (lexeme_at ts at) e) j place word (nat_lt 1000000 (decimal (bytes_at ts at))) refl

turns_read : (ts : Tokens) (at n : ℕ) → connective (lexeme_at ts at) ≡ NoConnective →
    Comes ts at n (λ s. push (more_condition turns_block ∷ []) s) n (λ k s. push (terminal terminals.OpenCurly ∷ statements ∷ []) s) (TurnsRead ts at) (turns (drop at ts))
unfolding turns lexeme_at descent.limited
turns_read ts at n none = go (lexeme_at ts at) refl
  where
    missing : (l : Lexeme) → lexeme_at ts at ≡ l → (l ≡ Word words.Turns → ⊥) →
        Comes ts at n (λ s. push (more_condition turns_block ∷ []) s) n (λ k s. push (terminal terminals.OpenCurly ∷ statements ∷ []) s) (TurnsRead ts at) (descent.stop (drop at ts))
    missing l e other = stops (λ s. (missed ts at n (more_condition turns_block) (joint_is (lexeme_at ts at) NoConnective (sym none) turns_block ∙ no_turns (lexeme_at ts at) (λ g. other (sym e ∙ g)))).run s)

    go : (l : Lexeme) → lexeme_at ts at ≡ l →
        Comes ts at n (λ s. push (more_condition turns_block ∷ []) s) n (λ k s. push (terminal terminals.OpenCurly ∷ statements ∷ []) s) (TurnsRead ts at) (descent.turns_by l (drop at ts))
    go (Word words.Turns) e =
        let next : at + 1 ≡ suc at = omega arith in
        rw (drop-drop 1 at ts) (
        on (omega arith) (taken ts at (Word words.Turns) e (λ g. cc))
        (λ s. (word_moves ts at n words.Turns (more_condition turns_block) (turns_number ∷ terminal terminals.OpenCurly ∷ statements ∷ []) e refl (λ rest t. refl)).run s)
        (told (λ k b later read. (read.0, (drop (at + 1) ts, (place_at ts at, word_at ts at words.Turns e), read.1)))
        (led (λ s. push (terminal terminals.OpenCurly ∷ statements ∷ []) s) (λ k end read s. refl) (turns_number_read ts (at + 1) n at next (place_at ts at, word_at ts at words.Turns e)))))
    go _ e = missing _ e (λ g. cc)

module _ (ts : Tokens) (depth_left n : ℕ) (all : n + depth_left ≡ 64) (exprs : ReadsExpr ts n (expr_of depth_left)) (conds : ReadsCond ts n (cond_of depth_left)) where
  let_reads : (at : ℕ) → lexeme_at ts at ≡ Word words.Let → Comes ts at n hosted n (λ a. hosted) (StmtRead ts at) (let_statement depth_left (drop at ts))
  unfolding let_statement
  let_reads at here =
      rw (drop-drop 1 at ts) (begun words.Let (terminal terminals.Name ∷ terminal terminals.Equal ∷ expression ∷ terminal terminals.Semicolon ∷ []) here refl
      (and_then _ (λ h. push (terminal terminals.Equal ∷ expression ∷ terminal terminals.Semicolon ∷ []) (hosted h)) (name_reads ts (at + 1) n) (λ x b from named.
      passing terminals.Equal _ refl (λ equal.
      and_then _ (λ h. push (terminal terminals.Semicolon ∷ []) (hosted h)) (exprs (b + 1)) (λ value c later read.
      passing terminals.Semicolon _ refl (λ end.
      done (omega arith, (drop (at + 1) ts, (place_at ts at, word_at ts at words.Let here), (drop b ts, named.1, (drop (b + 1) ts, equal, (drop c ts, read.1, end)))), read.2)))))))

  assignment_reads : (at : ℕ) → lexeme_at ts at ≡ Name → Comes ts at n hosted n (λ a. hosted) (StmtRead ts at) (assignment depth_left (drop at ts))
  unfolding assignment
  assignment_reads at here =
      let k = token_at ts at Name here (λ e. cc) in
      let behind = terminal terminals.Becomes ∷ expression ∷ terminal terminals.Semicolon ∷ [] in
      rw (name_found ts at here) (
      on (omega arith) (taken ts at Name here (λ e. cc)) (λ h. state_passes ts at n h.state (push behind h.state) Name k refl refl refl (h.starts Name behind refl) (h.calm k.it)) (
      passing terminals.Becomes _ refl (λ becomes.
      and_then _ (λ h. push (terminal terminals.Semicolon ∷ []) (hosted h)) (exprs (at + 1 + 1)) (λ value c later read.
      passing terminals.Semicolon _ refl (λ end.
      done (omega arith, (drop (at + 1) ts, name_here ts at here, (drop (at + 1 + 1) ts, becomes, (drop c ts, read.1, end))), read.2))))))

  addition_reads : (at : ℕ) → lexeme_at ts at ≡ Word words.Add → Comes ts at n hosted n (λ a. hosted) (StmtRead ts at) (addition depth_left (drop at ts))
  unfolding addition
  addition_reads at here =
      rw (drop-drop 1 at ts) (begun words.Add (expression ∷ terminal terminals.To ∷ terminal terminals.Name ∷ terminal terminals.Semicolon ∷ []) here refl
      (and_then _ (λ h. push (terminal terminals.To ∷ terminal terminals.Name ∷ terminal terminals.Semicolon ∷ []) (hosted h)) (exprs (at + 1)) (λ value b from read.
      passing terminals.To _ refl (λ to.
      and_then _ (λ h. push (terminal terminals.Semicolon ∷ []) (hosted h)) (name_reads ts (b + 1) n) (λ x c later named.
      passing terminals.Semicolon _ refl (λ end.
      done (omega arith, (drop (at + 1) ts, (place_at ts at, word_at ts at words.Add here), (drop b ts, read.1, (drop (b + 1) ts, to, (drop c ts, named.1, end)))), read.2)))))))

  assertion_reads : (at : ℕ) → lexeme_at ts at ≡ Word words.Assert → Comes ts at n hosted n (λ a. hosted) (StmtRead ts at) (assertion depth_left (drop at ts))
  unfolding assertion place_at
  assertion_reads at here =
      rw (drop-drop 1 at ts) (begun words.Assert (condition (token terminals.Semicolon) ∷ []) here refl
      (and_then _ (λ h. (terminals.Semicolon, hosted h)) (test_reads ts n (cond_of depth_left) conds (at + 1)) (λ test b from read.
      passing terminals.Semicolon _ refl (λ end.
      done (omega arith, (drop (at + 1) ts, word_at ts at words.Assert here, (drop b ts, read.1, end)), read.2)))))

  printing_reads : (at : ℕ) → lexeme_at ts at ≡ Word words.Print → Comes ts at n hosted n (λ a. hosted) (StmtRead ts at) (printing (drop at ts))
  unfolding printing place_at
  printing_reads at here =
      rw (drop-drop 1 at ts) (begun words.Print (terminal terminals.Name ∷ terminal terminals.Semicolon ∷ []) here refl
      (and_then _ (λ h. push (terminal terminals.Semicolon ∷ []) (hosted h)) (name_reads ts (at + 1) n) (λ x b from named.
      passing terminals.Semicolon _ refl (λ end.
      done (omega arith, (drop (at + 1) ts, word_at ts at words.Print here, (drop b ts, named.1, end)), tt)))))

  module _ (b : Read (List StmtD)) (reads : 0 < depth_left → ReadsStmts ts n b) where
    block_reads : (at : ℕ) → Comes ts at n (λ s. push (terminal terminals.OpenCurly ∷ statements ∷ []) s) n (λ l s. s) (BlockRead ts at) (block depth_left b (drop at ts))
    unfolding block lexeme_at
    block_reads at = go (accepts terminals.OpenCurly (lexeme_at ts at)) refl
      where
        go : (t : Bool) → accepts terminals.OpenCurly (lexeme_at ts at) ≡ t →
            Comes ts at n (λ s. push (terminal terminals.OpenCurly ∷ statements ∷ []) s) n (λ l s. s) (BlockRead ts at) (if t then enter depth_left (drop at ts) >>= b else descent.stop (drop at ts))
        go false e = stops (λ s. (pass_stuck ts at terminals.OpenCurly e n).run (push (statements ∷ []) s))
        go true e =
            entering depth_left punctuators.OpenCurly (terminal terminals.OpenCurly) [] b (curly_accepted (lexeme_at ts at) e) refl refl (λ rest t. refl) all (λ inner.
            told (λ l c later read. (omega arith, (drop (at + 1) ts, one_at ts at terminals.OpenCurly e, read.1), read.2)) (reads inner (at + 1)))

    for_reads : (at : ℕ) → lexeme_at ts at ≡ Word words.For → Comes ts at n hosted n (λ a. hosted) (StmtRead ts at) (for_statement depth_left b (drop at ts))
    unfolding for_statement
    for_reads at here =
        rw (drop-drop 1 at ts) (begun words.For (terminal terminals.Name ∷ terminal terminals.In ∷ expression ∷ where_clause terminals.OpenCurly ∷ statements ∷ []) here refl
        (and_then _ (λ h. push (where_clause terminals.OpenCurly ∷ statements ∷ []) (hosted h)) (binding_reads ts n (expr_of depth_left) exprs (at + 1)) (λ variable c from bound.
        and_then _ (λ h. (terminals.OpenCurly, push (statements ∷ []) (hosted h))) (guard_reads ts n (cond_of depth_left) conds c) (λ filter d later guarded.
        and_then _ hosted (block_reads d) (λ l end last inner.
        done (omega arith, (drop (at + 1) ts, (place_at ts at, word_at ts at words.For here), (drop c ts, bound.1, (drop d ts, guarded.0, inner.1))), (bound.2, guarded.1, inner.2)))))))

    else_reads : (at : ℕ) → Comes ts at n (λ h. h.choice) n (λ l. hosted) (ElseRead ts at) (else_block depth_left b (drop at ts))
    unfolding else_block lexeme_at
    else_reads at = go (optional_start (lexeme_at ts at)) refl
      where
        none : (l : OptionalStart) → optional_start (lexeme_at ts at) ≡ l → (l ≡ leads.Else → ⊥) →
            Comes ts at n (λ h. h.choice) n (λ l. hosted) (ElseRead ts at) (Ok ([], drop at ts))
        none l e other =
            alike (λ h. state_same ts at n h.choice h.state h.calm_choice h.calm h.ends (h.passes (lexeme_at ts at) (λ g. other (sym e ∙ g)))) (done (inl (refl, refl), tt))

        go : (l : OptionalStart) → optional_start (lexeme_at ts at) ≡ l →
            Comes ts at n (λ h. h.choice) n (λ l. hosted) (ElseRead ts at) (descent.else_by l depth_left b (drop at ts))
        go leads.Else e =
            let here : lexeme_at ts at ≡ Word words.Else = lead_is (lexeme_at ts at) leads.Else (sym e) in
            let k = token_at ts at (Word words.Else) here (λ g. cc) in
            rw (drop-drop 1 at ts) (
            on (omega arith) (taken ts at (Word words.Else) here (λ g. cc)) (λ h. state_passes ts at n h.choice (push (terminal terminals.OpenCurly ∷ statements ∷ []) h.state) (Word words.Else) k refl refl refl h.else_starts (h.calm_choice k.it)) (
            told (λ l c later read. (inr (drop (at + 1) ts, (place_at ts at, word_at ts at words.Else here), read.1), read.2)) (led hosted (λ l c read h. refl) (block_reads (at + 1)))))
        go leads.OpenRound e = none leads.OpenRound e (λ g. cc)
        go leads.Parameter e = none leads.Parameter e (λ g. cc)
        go leads.For e = none leads.For e (λ g. cc)
        go leads.Where e = none leads.Where e (λ g. cc)
        go leads.NoOptionalStart e = none leads.NoOptionalStart e (λ g. cc)

    if_reads : (at : ℕ) → lexeme_at ts at ≡ Word words.If → Comes ts at n hosted n (λ a. hosted) (StmtRead ts at) (if_statement depth_left b (drop at ts))
    unfolding if_statement
    if_reads at here =
        let k = token_at ts at (Word words.If) here (λ g. cc) in
        rw (drop-drop 1 at ts) (
        on (omega arith) (taken ts at (Word words.If) here (λ g. cc)) (λ h. state_passes ts at n h.state (push (condition (token terminals.OpenCurly) ∷ statements ∷ []) h.choice) (Word words.If) k refl refl refl h.if_starts (h.calm k.it)) (
        and_then _ (λ h. (terminals.OpenCurly, push (statements ∷ []) (h.choice))) (test_reads ts n (cond_of depth_left) conds (at + 1)) (λ test c from read.
        and_then _ (λ h. h.choice) (block_reads c) (λ yes d later first.
        and_then _ (λ h. h) (else_reads d) (λ other end last second.
        done (omega arith, (drop (at + 1) ts, (place_at ts at, word_at ts at words.If here), (drop c ts, read.1, (drop d ts, first.1, second.0))), (read.2, first.2, second.1)))))))

    while_reads : (at : ℕ) → lexeme_at ts at ≡ Word words.While → Comes ts at n hosted n (λ a. hosted) (StmtRead ts at) (while_statement depth_left b (drop at ts))
    unfolding while_statement place_at
    while_reads at here =
        rw (drop-drop 1 at ts) (begun words.While (condition turns_block ∷ []) here refl
        (and_then _ (λ h. (turns_block, hosted h)) (conds (at + 1)) (λ test c from read.
        and_then _ hosted (turns_read ts c n read.3) (λ limit d later turned.
        and_then _ hosted (block_reads d) (λ l end last inner.
        done (omega arith, (drop (at + 1) ts, word_at ts at words.While here, (drop c ts, read.1, (turned.1.0, turned.1.1, (drop d ts, turned.1.2, inner.1)))), (turned.0, read.2, inner.2)))))))

    statement_reads : {Y : Type 0} (at : ℕ) (host : Y → Host) → ((y : Y) → stmt_form (lexeme_at ts at) ≡ stmts.NoStmt → verdict at n (hosted (host y)) (drop at ts) ≡ refused no_script at) →
        Comes ts at n (λ y. hosted (host y)) n (λ a y. hosted (host y)) (StmtRead ts at) (statement depth_left b (drop at ts))
    unfolding statement lexeme_at
    statement_reads {Y} at host stray = go (stmt_form (lexeme_at ts at)) refl
      where
        go : (f : StmtForm) → stmt_form (lexeme_at ts at) ≡ f → Comes ts at n (λ y. hosted (host y)) n (λ a y. hosted (host y)) (StmtRead ts at) (descent.statement_by f depth_left b (drop at ts))
        go stmts.Let e = led host (λ a end read y. refl) (let_reads at (stmt_is (lexeme_at ts at) stmts.Let (sym e)))
        go stmts.Assign e = led host (λ a end read y. refl) (assignment_reads at (stmt_is (lexeme_at ts at) stmts.Assign (sym e)))
        go stmts.Add e = led host (λ a end read y. refl) (addition_reads at (stmt_is (lexeme_at ts at) stmts.Add (sym e)))
        go stmts.For e = led host (λ a end read y. refl) (for_reads at (stmt_is (lexeme_at ts at) stmts.For (sym e)))
        go stmts.If e = led host (λ a end read y. refl) (if_reads at (stmt_is (lexeme_at ts at) stmts.If (sym e)))
        go stmts.While e = led host (λ a end read y. refl) (while_reads at (stmt_is (lexeme_at ts at) stmts.While (sym e)))
        go stmts.Assert e = led host (λ a end read y. refl) (assertion_reads at (stmt_is (lexeme_at ts at) stmts.Assert (sym e)))
        go stmts.Print e = led host (λ a end read y. refl) (printing_reads at (stmt_is (lexeme_at ts at) stmts.Print (sym e)))
        go stmts.NoStmt e = stops (λ y. stray y e)

-- ---- lists of statements

-- statements one behind another
abbrev pub ManyRead : Tokens → List StmtD → ℕ → ℕ → Type 0
ManyRead ts l at end = SpellsStmts (stmts_of l) (drop at ts) (drop end ts) × StmtsAreWithin (stmts_of l)

-- as many statements as a test says, where the machine stops at a token that begins none
pub many_statements : {Y : Type 0} (ts : Tokens) (depth_left n : ℕ) → n + depth_left ≡ 64 → (b : Read (List StmtD)) → (0 < depth_left → ReadsStmts ts n b) → (host : Y → Host) (test : Tokens → Bool) →
    ((at : ℕ) → test (drop at ts) ≡ true → (y : Y) → stmt_form (lexeme_at ts at) ≡ stmts.NoStmt → verdict at n (hosted (host y)) (drop at ts) ≡ refused no_script at) → (at : ℕ) →
    Comes ts at n (λ y. hosted (host y)) n (λ l y. hosted (host y)) (λ l end. ManyRead ts l at end × (test (drop end ts) ≡ false)) (descent.many test (statement depth_left b) (suc (length (drop at ts))) (drop at ts))
many_statements ts depth_left n all b reads host test stray at =
    many_reads test (statement depth_left b) (λ a at end. StmtRead ts at a end) (λ l at end. ManyRead ts l at end × (test (drop end ts) ≡ false))
    (λ at e. ((refl, tt), e))
    (λ a l at c end read more. (((drop c ts, read.1, more.0.0), (read.2, more.0.1)), more.1))
    (λ at e. told (λ a c later read. (read.0, read)) (statement_reads ts depth_left n all (expr_reads ts depth_left n all) (cond_reads ts depth_left n all) b reads at host (stray at e)))
    (suc (length (drop at ts))) at (let l = length-drop at ts in omega arith)

closer_ends : (l : Lexeme) → accepts terminals.CloseCurly l ≡ true → statements_start l ≡ accepted_if (accepts terminals.CloseCurly l)
closer_ends (Symbol punctuators.CloseCurly) e = refl
closer_ends _ e = absurd (cc)

-- the `}` behind statements
block_closes : {B X : Type 0} {ts : Tokens} {at n k : ℕ} {u : X → State} {v : B → X → State} {Q : B → ℕ → Type 0} (f : Tokens → Result (B × Tokens) ParseError) → accepts terminals.CloseCurly (lexeme_at ts at) ≡ true →
    (One terminals.CloseCurly (drop at ts) (drop (at + 1) ts) → Comes ts (at + 1) n u k v Q (f (drop (at + 1) ts))) →
    Comes ts at (n + 1) (λ i. push (statements ∷ []) (u i)) k v Q (descent.pass terminals.CloseCurly (drop at ts) >>= f)
block_closes {ts = ts} {at = at} {n = n} {u = u} f e next =
    alike (λ i. (same_alone ts at (n + 1) statements (terminal terminals.CloseCurly) (λ rest t. refl) (λ rest t. refl) (closer_ends (lexeme_at ts at) e)).run (u i))
    (closing terminals.CloseCurly f refl next)

-- statements and their `}`, where so many brackets and one more are open
statements_read : (ts : Tokens) (depth_left n : ℕ) → n + 1 + depth_left ≡ 64 → (b : Read (List StmtD)) → (0 < depth_left → ReadsStmts ts (n + 1) b) → ReadsStmts ts n (descent.statements (statement depth_left b))
unfolding descent.statements lexeme_at
statements_read ts depth_left n all b reads at =
    and_then _ (λ s. s) (many_statements ts depth_left (n + 1) all b reads inside descent.goes_on stray at) (λ l c from read.
    block_closes _ (closes (accepts terminals.CloseCurly (lexeme_at ts c)) read.1) (λ closed.
    done (omega arith, (drop c ts, read.0.0, closed), read.0.1)))
  where
    closes : (t : Bool) → flip t ≡ false → t ≡ true
    closes true e = refl
    closes false e = absurd (cc)

    opens_not : (t : Bool) → flip t ≡ true → t ≡ false
    opens_not false e = refl
    opens_not true e = absurd (cc)

    stray : (at : ℕ) → descent.goes_on (drop at ts) ≡ true → (s : State) → stmt_form (lexeme_at ts at) ≡ stmts.NoStmt → verdict at (n + 1) (hosted (inside s)) (drop at ts) ≡ refused no_script at
    stray at e s none =
        state_stuck ts at (n + 1) (hosted (inside s)) (ap (option_map (λ w. at_bottom s.bottom (w ++ s.stack))) (stray_inside (lexeme_at ts at) none (opens_not (accepts terminals.CloseCurly (lexeme_at ts at)) e))) (λ g. refl)

-- the statements of a block, where so many brackets more may be open
pub block_of_reads : (ts : Tokens) (depth_left n : ℕ) → n + 1 + depth_left ≡ 64 → ReadsStmts ts n (descent.block_of depth_left)
unfolding descent.block_of
block_of_reads ts zero n all at = statements_read ts zero n all descent.closed (λ none. absurd (omega arith)) at
block_of_reads ts (suc depth_left) n all at = statements_read ts (suc depth_left) n all (descent.block_of depth_left) (λ some. block_of_reads ts depth_left (n + 1) (omega arith)) at
