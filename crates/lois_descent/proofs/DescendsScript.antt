-- A whole script, as the descent reads it: it is a script within the limits, or it is refused as the machine refuses it.
use Rattle.std.proofs.Common.{◌≡◌, ℕ, ◌+◌, true, false, List, [], ◌∷◌, length, drop, refl, sym, ap, ◌∙◌, subst, arith, drop-drop}
use Rattle.std.specs.Prelude.{Result, Ok, Err}
use Rattle.lois_script.specs.Grammar.{PlacedToken, TakesName, SpellsScript, SpellsStmts, SpellsParameters, SpellsMoreNames}
use Rattle.lois_script.specs.Limits.{StmtsAreWithin}
use Rattle.lois_script.specs.Tree.{ParamD, ScriptD}
use Rattle.lois_script.specs.View.{stmts_of}
use Rattle.lois_descent.specs.declared.parse_error.ParseError.{ParseError}
use Rattle.lois_descent.specs.declared.parse_error.ParseError.TheVariants as parse_errors
use Rattle.lois_descent.specs.declared.lexemes.Keyword.TheVariants as words
use Rattle.lois_descent.specs.declared.lexemes.OptionalStart.{OptionalStart}
use Rattle.lois_descent.specs.declared.lexemes.OptionalStart.TheVariants as leads
use Rattle.lois_descent.specs.declared.lexemes.Lexeme.{Lexeme}
use Rattle.lois_descent.specs.declared.lexemes.Lexeme.TheVariants.{Word, Symbol}
use Rattle.lois_descent.specs.declared.lexemes.Punctuator.TheVariants as punctuators
use Rattle.lois_descent.specs.declared.lexemes.StmtForm.TheVariants as stmts
use Rattle.lois_descent.specs.declared.lexemes.Terminal.TheVariants as terminals
use Rattle.lois_descent.specs.Refusals.{Refusal}
use Rattle.lois_descent.specs.Refusals.{NoScript, TooNested, WideTuple, TurnsTooMany, NoMemory}
use Rattle.lois_descent.specs.Descent as descent
use Rattle.lois_descent.specs.Descent.{Tokens, Read, ◌>>=◌}
use Rattle.lois_descent.specs.Lexemes.{accepts, optional_start, stmt_form}
use Rattle.lois_descent.specs.Laws.{IsCorrectResult}
use Rattle.lois_descent.specs.Machine.{terminal, more_names, more_names_start, accepted_if, State, push, body, outermost, at_bottom, refused, no_script, verdict, start}
use Rattle.lois_descent.specs.Refusals.{nesting, parts, turns, Refused}
use Rattle.lois_descent.specs.Steps.{RefusalMatches, lexeme_at, place_at, One}
use Rattle.lois_descent.specs.Reading.{refusal_of}
use Rattle.lois_descent.proofs.Descends.{Outcome, Comes, done, on, alike, and_then, led, told, taken, passing, name_reads, structure_reads, comma_moves, listed_reads}
use Rattle.lois_descent.proofs.DescendsStatements.{hosted, many_statements, block_of_reads, ManyRead}
use Rattle.lois_descent.proofs.TokenForms.{lead_is, no_parameter, word_at}
use Rattle.lois_descent.proofs.Hosts.{outside, stray_outside}
use Rattle.lois_descent.proofs.TokenSteps.{token_at, state_passes, state_stuck, state_same, same_alone}
use Rattle.lois_descent.proofs.Refusing.{no_script_refused, limit_broken, nesting_over, accepted_nested}

-- ---- parameters

-- names, each behind a comma
abbrev NamesRead : Tokens → List ParamD → ℕ → ℕ → Type 0
NamesRead ts xs at end = SpellsMoreNames xs (drop at ts) (drop end ts) × (accepts terminals.Comma (lexeme_at ts end) ≡ false)

names_ended : (l : Lexeme) → accepts terminals.Comma l ≡ false → more_names_start l ≡ accepted_if (accepts terminals.Semicolon l)
names_ended (Symbol punctuators.Comma) e = absurd (cc)
names_ended (Symbol punctuators.Semicolon) e = refl
names_ended _ e = refl

-- a name that was read, and those behind it
names_read : (ts : Tokens) (at n : ℕ) (x : ParamD) →
    Comes ts at n (λ s. push (more_names ∷ []) s) n (λ xs s. push (more_names ∷ []) s)
    (λ l end. (xs : List ParamD) × (l ≡ x ∷ xs) × NamesRead ts xs at end) (descent.listed descent.name x (drop at ts))
names_read ts at n x =
    listed_reads descent.name (λ (x : ParamD) b c. TakesName x.place x.name (drop b ts) (drop c ts)) (NamesRead ts) (λ l end. (xs : List ParamD) × (l ≡ x ∷ xs) × NamesRead ts xs at end) x at
    (λ b comma s. (comma_moves ts b n more_names (terminal terminals.Name ∷ more_names ∷ []) comma refl (λ rest t. refl)).run s)
    (λ b none. (refl, none))
    (λ y xs a b c comma named rest. ((drop (a + 1) ts, comma, (drop b ts, named, rest.0)), rest.1))
    (λ b. told (λ y end forward named. named.1) (led (λ s. push (more_names ∷ []) s) (λ y end read s. refl) (name_reads ts b n)))
    (λ rest end forward all. (rest, refl, all))

-- the `;` behind names
names_end : {B X : Type 0} {ts : Tokens} {at n k : ℕ} {u : X → State} {v : B → X → State} {Q : B → ℕ → Type 0} (f : Tokens → Result (B × Tokens) ParseError) → accepts terminals.Comma (lexeme_at ts at) ≡ false →
    (One terminals.Semicolon (drop at ts) (drop (at + 1) ts) → Comes ts (at + 1) n u k v Q (f (drop (at + 1) ts))) →
    Comes ts at n (λ i. push (more_names ∷ []) (u i)) k v Q (descent.pass terminals.Semicolon (drop at ts) >>= f)
names_end {ts = ts} {at = at} {n = n} {u = u} f e next =
    alike (λ i. (same_alone ts at n more_names (terminal terminals.Semicolon) (λ rest t. refl) (λ rest t. refl) (names_ended (lexeme_at ts at) e)).run (u i)) (passing terminals.Semicolon f refl next)

-- parameters, or none: the machine is then where statements may stand
parameters_read : (ts : Tokens) (at n : ℕ) →
    Comes ts at n (λ (i : Unit {0}). at_bottom body []) n (λ xs i. hosted outside) (λ xs end. SpellsParameters xs (drop at ts) (drop end ts)) (descent.parameters (drop at ts))
unfolding descent.parameters lexeme_at
parameters_read ts at n = go (optional_start (lexeme_at ts at)) refl
  where
    none : (l : OptionalStart) → optional_start (lexeme_at ts at) ≡ l → (l ≡ leads.Parameter → ⊥) →
        Comes ts at n (λ (i : Unit {0}). at_bottom body []) n (λ xs i. hosted outside) (λ xs end. SpellsParameters xs (drop at ts) (drop end ts)) (Ok ([], drop at ts))
    none l e other =
        alike (λ i. state_same ts at n (at_bottom body []) (hosted outside) (λ t. refl) (λ t. refl) refl (no_parameter (lexeme_at ts at) (λ g. other (sym e ∙ g)))) (done refl)

    go : (l : OptionalStart) → optional_start (lexeme_at ts at) ≡ l →
        Comes ts at n (λ (i : Unit {0}). at_bottom body []) n (λ xs i. hosted outside) (λ xs end. SpellsParameters xs (drop at ts) (drop end ts)) (descent.parameters_by l (drop at ts))
    go leads.Parameter e =
        let here : lexeme_at ts at ≡ Word words.Parameter = lead_is (lexeme_at ts at) leads.Parameter (sym e) in
        let k = token_at ts at (Word words.Parameter) here (λ g. cc) in
        rw (drop-drop 1 at ts) (
        on (omega arith) (taken ts at (Word words.Parameter) here (λ g. cc)) (λ i. state_passes ts at n (at_bottom body []) (at_bottom outermost (terminal terminals.Name ∷ more_names ∷ [])) (Word words.Parameter) k refl refl refl refl refl) (
        and_then _ (λ i. at_bottom outermost (more_names ∷ [])) (name_reads ts (at + 1) n) (λ x b from named.
        and_then _ (λ i. at_bottom outermost []) (names_read ts b n x) (λ l c later more.
        names_end _ more.2.1 (λ semicolon.
        done (subst (λ y. SpellsParameters y (drop at ts) (drop (c + 1) ts)) (sym more.1) (drop (at + 1) ts, (place_at ts at, word_at ts at words.Parameter here), (drop b ts, named.1, (drop c ts, more.2.0, semicolon)))))))))
    go leads.OpenRound e = none leads.OpenRound e (λ g. cc)
    go leads.Else e = none leads.Else e (λ g. cc)
    go leads.For e = none leads.For e (λ g. cc)
    go leads.Where e = none leads.Where e (λ g. cc)
    go leads.NoOptionalStart e = none leads.NoOptionalStart e (λ g. cc)

-- ---- the whole script

-- all statements up to the end
body_reads : (ts : Tokens) (at : ℕ) → Comes ts at 0 (λ (i : Unit {0}). hosted outside) 0 (λ l i. hosted outside) (λ l end. ManyRead ts l at end × (drop end ts ≡ [])) (descent.body (drop at ts))
unfolding descent.inner_block descent.outermost
body_reads ts at =
    told (λ l b from read. (read.0, nothing (drop b ts) read.1)) (many_statements ts 64 0 refl (descent.inner_block 64) (λ some. block_of_reads ts 63 0 refl) (λ i. outside) descent.is_some stray at)
  where
    nothing : (r : Tokens) → descent.is_some r ≡ false → r ≡ []
    nothing [] e = refl
    nothing (t ∷ r) e = absurd (cc)

    some_token : (r : Tokens) → descent.is_some r ≡ true → r ≡ [] → ⊥
    some_token [] e g = cc
    some_token (t ∷ r) e g = cc

    stray : (at : ℕ) → descent.is_some (drop at ts) ≡ true → (i : Unit {0}) → stmt_form (lexeme_at ts at) ≡ stmts.NoStmt → verdict at 0 (hosted outside) (drop at ts) ≡ refused no_script at
    stray at e i none = state_stuck ts at 0 (hosted outside) (stray_outside (lexeme_at ts at) none) (λ g. absurd (some_token (drop at ts) e g))

-- the script, and the tokens behind it
whole : Read ScriptD
whole s = do
  head ← descent.pass terminals.Atoms s
  order ← descent.structure head
  begin ← descent.pass terminals.Semicolon order.1
  names ← descent.parameters begin
  all ← descent.body names.1
  Ok (record { ordered = order.0; parameters = names.0; body = stmts_of all.0 }, all.1)

abbrev forget : {A : Type 0} → Result (A × Tokens) ParseError → Result A ParseError
forget (Ok x) = Ok x.0
forget (Err e) = Err e

forget_behind : {A B : Type 0} (r : Result A ParseError) (f : A → Result B ParseError) (g : A → Result (B × Tokens) ParseError) → ((x : A) → f x ≡ forget (g x)) → r >>= f ≡ forget (r >>= g)
forget_behind (Ok x) f g same = same x
forget_behind (Err e) f g same = refl

script_is : (ts : Tokens) → descent.script ts ≡ forget (whole ts)
unfolding descent.script whole
script_is ts =
    forget_behind (descent.pass terminals.Atoms ts) _ _ (λ head.
    forget_behind (descent.structure head) _ _ (λ order.
    forget_behind (descent.pass terminals.Semicolon order.1) _ _ (λ begin.
    forget_behind (descent.parameters begin) _ _ (λ names.
    forget_behind (descent.body names.1) _ _ (λ all. refl)))))

-- all the tokens are those of the script
abbrev ScriptRead : Tokens → ScriptD → ℕ → Type 0
ScriptRead ts s end = SpellsScript s ts × StmtsAreWithin s.body × (drop end ts ≡ [])

whole_reads : (ts : Tokens) → Comes ts 0 0 (λ (i : Unit {0}). start) 0 (λ s i. hosted outside) (ScriptRead ts) (whole ts)
unfolding whole
whole_reads ts =
    passing terminals.Atoms _ refl (λ atoms.
    and_then _ (λ i. push (terminal terminals.Semicolon ∷ []) (at_bottom body [])) (structure_reads ts 1 0) (λ ordered b from structure.
    passing terminals.Semicolon _ refl (λ semicolon.
    and_then _ (λ i. i) (parameters_read ts (b + 1) 0) (λ names c later parameters.
    and_then _ (λ i. i) (body_reads ts c) (λ l end last read.
    done ((drop 1 ts, atoms, (drop b ts, structure.1, (drop (b + 1) ts, semicolon, (drop c ts, parameters, subst (SpellsStmts (stmts_of l) (drop c ts)) read.1 read.0.0)))), read.0.1, read.1))))))

-- ---- what it means

-- what the machine says of all the tokens refuses them
pub refused_so : (ts : List PlacedToken) (e : Refusal) → (e ≡ NoMemory → ⊥) → RefusalMatches ts e (verdict 0 0 start ts) → Refused ts e
refused_so ts (NoScript k) some v = no_script_refused ts k v
refused_so ts (TooNested k) some v = limit_broken nesting ts k v (nesting_over ts k v)
refused_so ts (WideTuple k) some v = limit_broken parts ts k v.0 v.1
refused_so ts (TurnsTooMany k) some v = limit_broken turns ts k v.0 v.1
refused_so ts NoMemory some v = absurd (some refl)

judged : (ts : Tokens) (r : Result (ScriptD × Tokens) ParseError) → Outcome ts 0 0 (λ (i : Unit {0}). start) 0 (λ s i. hosted outside) (ScriptRead ts) r → IsCorrectResult ts (forget r)
unfolding verdict
judged ts (Ok x) o = (o.read.0, accepted_nested ts (o.moved tt ∙ ap (verdict o.end 0 (hosted outside)) o.read.2), o.read.1)
judged ts (Err e) o = (o.enough, refused_so ts (refusal_of (length ts) e) (known e o.enough) (o.stuck tt))
  where
    known : (e : ParseError) → (e ≡ parse_errors.NoMemory → ⊥) → refusal_of (length ts) e ≡ NoMemory → ⊥
    known (parse_errors.NoScript left) some g = cc
    known (parse_errors.TooNested left) some g = cc
    known (parse_errors.WideTuple left) some g = cc
    known (parse_errors.TurnsTooMany left) some g = cc
    known parse_errors.NoMemory some g = some refl

pub script_reads : (ts : Tokens) → IsCorrectResult ts (descent.script ts)
script_reads ts = subst (IsCorrectResult ts) (sym (script_is ts)) (judged ts (whole ts) ((whole_reads ts).run (omega arith)))
