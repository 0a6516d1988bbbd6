-- The answer to a text.
use Rattle.std.proofs.Common.{◌≡◌, ◌≢◌, ℕ, ◌≤◌, List, Option, Result, Ok, Err, IfOk, length, take, refl, sym, ap, subst, inl, inr, arith}
use Rattle.std.proofs.lemmas.List.{length-map, length-take}
use Rattle.lois_base.specs.Atom.{whole}
use Rattle.lois_base.specs.Truth.{sampled}
use Rattle.lois_base.specs.declared.deciding.Kind.{Kind}
use Rattle.lois_base.specs.declared.memory.NoMemory.{NoMemory}
use Rattle.lois_lexer.specs.Tokens.{HasTokens}
use Rattle.lois_lexer.specs.declared.Token.{Token}
use Rattle.lois_script.specs.Limits.{Spells}
use Rattle.lois_script.specs.Scope.{IsWellScoped, unknown, again, outer_assign, print_in_loop, order_in_equality}
use Rattle.lois_script.specs.Tree.{ScriptD}
use Rattle.lois_script.specs.declared.script.Script.{Script}
use Rattle.lois_answers.specs.declared.faults.Trace.{Trace}
use Rattle.lois_answers.specs.declared.results.Results.{Results}
use Rattle.lois_meaning.proofs.TheLaws.{never_both}
use Rattle.lois_interp.specs.Interpreted.{parameter_name, AreResultsOf}
use Rattle.lois_reader.proofs.Determined.{results_are_told}
use Rattle.lois_scope.specs.Refusals.{IsScopeRefusal as ScopeRefuses}
use Rattle.lois_scope.specs.declared.checking.ScopeError.{ScopeError}
use Rattle.lois_scope.specs.declared.checking.ScopeError.TheVariants.{Unknown, Again, OuterAssign, PrintInLoop, OrderInEquality, NoMemory as ScopeMemory}
use Rattle.lois_syntax.specs.Refusals.{tokens_in, IsSyntaxRefusal as SyntaxRefuses}
use Rattle.lois_syntax.specs.declared.SyntaxError.{SyntaxError}
use Rattle.lois_syntax.specs.declared.SyntaxError.TheVariants.{NoScript, TooNested, WideTuple, TurnsTooMany, NoMemory as SyntaxMemory}
use Rattle.lois_syntax.proofs.OneStatement.{one_script_of_text}
use Rattle.lois_run.specs.TextAnswers.{AnswersText}
use Rattle.lois_run.specs.Headline.{Completes, NamesFailure, FailsSomewhere, Headline}
use Rattle.lois_run.specs.Outcomes.{HasCauseNumber, HasText}
use Rattle.lois_run.specs.Read.{IsReadOf, SpellsNone, ScopeTells}
use Rattle.lois_run.specs.Refusals.{SyntaxTells, IsRefusedAs}
use Rattle.lois_run.specs.Run.{IsRunOf}
use Rattle.lois_run.specs.declared.outcomes.Outcome.{Outcome}
use Rattle.lois_run.specs.declared.outcomes.Outcome.TheVariants.{Completed, Failed, Checked, Refused}
use Rattle.lois_run.specs.declared.outcomes.Refusal.{Refusal}
use Rattle.lois_run.specs.declared.outcomes.Refusal.TheVariants.{Lexical, Syntax, Scope}
use Rattle.lois_run.specs.declared.reading.Read.TheVariants.{Script as WasRead, Refused as NotRead}
use Rattle.lois_run.specs.declared.words.Command.TheVariants.{Run, Check}

-- ---- refusals

one_of : (n k last : ℕ) → n ≡ k → 1 ≤ k → k ≤ last → (1 ≤ n) × (n ≤ last)
one_of n k last e l m = (omega (arith, e, l), omega (arith, e, m))

pub syntax_refused : (text : List ℕ) (ts : List Token) (error : SyntaxError) (r : Refusal) → HasTokens text ts → (error ≢ SyntaxMemory → SyntaxRefuses (tokens_in text ts) error) → SyntaxTells text ts error r → IsRefusedAs text r × HasCauseNumber r
syntax_refused text ts (NoScript k) (Syntax n p) cut refuses told = ((ts, NoScript k, cut, refuses (λ e. cc e), told), one_of n 1 4 told.0 (omega arith) (omega arith))
syntax_refused text ts (TooNested k) (Syntax n p) cut refuses told = ((ts, TooNested k, cut, refuses (λ e. cc e), told), one_of n 2 4 told.0 (omega arith) (omega arith))
syntax_refused text ts (WideTuple k) (Syntax n p) cut refuses told = ((ts, WideTuple k, cut, refuses (λ e. cc e), told), one_of n 3 4 told.0 (omega arith) (omega arith))
syntax_refused text ts (TurnsTooMany k) (Syntax n p) cut refuses told = ((ts, TurnsTooMany k, cut, refuses (λ e. cc e), told), one_of n 4 4 told.0 (omega arith) (omega arith))
syntax_refused text ts _ _ cut refuses told = absurd told

pub scope_refused : (text : List ℕ) (s : ScriptD) (error : ScopeError) (r : Refusal) → Spells text s → ScopeRefuses s error → ScopeTells text error r → IsRefusedAs text r × HasCauseNumber r
scope_refused text s (Unknown q) (Scope n p) spells refuses told = ((s, unknown, q.offset, spells, refuses, told.0, told.1), one_of n 1 5 told.0 (omega arith) (omega arith))
scope_refused text s (Again q) (Scope n p) spells refuses told = ((s, again, q.offset, spells, refuses, told.0, told.1), one_of n 2 5 told.0 (omega arith) (omega arith))
scope_refused text s (OuterAssign q) (Scope n p) spells refuses told = ((s, outer_assign, q.offset, spells, refuses, told.0, told.1), one_of n 3 5 told.0 (omega arith) (omega arith))
scope_refused text s (PrintInLoop q) (Scope n p) spells refuses told = ((s, print_in_loop, q.offset, spells, refuses, told.0, told.1), one_of n 4 5 told.0 (omega arith) (omega arith))
scope_refused text s (OrderInEquality q) (Scope n p) spells refuses told = ((s, order_in_equality, q.offset, spells, refuses, told.0, told.1), one_of n 5 5 told.0 (omega arith) (omega arith))
scope_refused text s _ _ spells refuses told = absurd told

-- an error that is told is never want of memory
pub no_syntax_memory : (text : List ℕ) (ts : List Token) (error : SyntaxError) (r : Refusal) → SyntaxTells text ts error r → error ≡ SyntaxMemory → ⊥
no_syntax_memory text ts error r told e = subst (λ x. SyntaxTells text ts x r) e told

pub no_scope_memory : (text : List ℕ) (error : ScopeError) (r : Refusal) → ScopeTells text error r → error ≡ ScopeMemory → ⊥
no_scope_memory text error r told e = subst (λ x. ScopeTells text x r) e told

-- the text spells one script, which isn't well scoped
pub none_scoped : (text : List ℕ) (s : ScriptD) → Spells text s → (IsWellScoped s → ⊥) → SpellsNone text
none_scoped text s spells never other h w = never (subst IsWellScoped (one_script_of_text text other s h spells) w)

-- ---- outcomes

module _ (text : List ℕ) where
  -- a text that spells no well-scoped script spells none to run
  refused_headline : (r : Refusal) → SpellsNone text → Headline text ⊥ (Refused r)
  refused_headline r none = record {
    runs = λ s h. absurd (none s h.spelled h.scoped);
    completes = λ s h never. absurd (none s h.spelled h.scoped);
    fails = λ s h some. absurd (none s h.spelled h.scoped);
    right = λ s h. tt;
  }

  refused_run : (kind : Option Kind) (r : Refusal) → IsRefusedAs text r → SpellsNone text → AnswersText (Run kind) text (Refused r)
  refused_run kind (Lexical n p) why none = record { cause = why; promise = refused_headline (Lexical n p) none; kind = tt }
  refused_run kind (Syntax n p) why none = record { cause = why; promise = refused_headline (Syntax n p) none; kind = tt }
  refused_run kind (Scope n p) why none = record { cause = why; promise = refused_headline (Scope n p) none; kind = tt }
  refused_run kind _ why none = absurd why

  pub refused_is_run : (r : Refusal) → IsReadOf text (NotRead r) → (kind : Option Kind) → AnswersText (Run kind) text (Refused r)
  refused_is_run r (why, none, number) kind = refused_run kind r why none

  refused_check : (r : Refusal) → IsRefusedAs text r → SpellsNone text → AnswersText Check text (Refused r)
  refused_check (Lexical n p) why none = record { cause = why; promise = λ l s h. absurd (none s h.0 h.1); kind = tt }
  refused_check (Syntax n p) why none = record { cause = why; promise = λ l s h. absurd (none s h.0 h.1); kind = tt }
  refused_check (Scope n p) why none = record { cause = why; promise = λ l s h. absurd (none s h.0 h.1); kind = tt }
  refused_check _ why none = absurd why

  pub refused_is_checked : (r : Refusal) → IsReadOf text (NotRead r) → AnswersText Check text (Refused r)
  refused_is_checked r (why, none, number) = refused_check r why none

  pub checked_is_answered : (scoped script : Script) → IsReadOf text (WasRead scoped) → script ≡ scoped → AnswersText Check text (Checked script)
  checked_is_answered scoped script read same = subst (λ (x : Script). AnswersText Check text (Checked x)) (sym same) (record { cause = (scoped, read, refl); promise = λ l s h. inl (scoped, read, refl); kind = tt })

  module _ (s : ScriptD) (spells : Spells text s) (scoped : IsWellScoped s) where
    -- the text spells no other script
    only_one : (other : ScriptD) → Spells text other → other ≡ s
    only_one other h = one_script_of_text text other s h spells

    -- nothing fails that completes
    never_fails : (r : Results) → AreResultsOf s r → FailsSomewhere s → ⊥
    never_fails r h (choice, count, at, kind, path, fails) =
        let lines = (h.choices choice count).lines in
        never_both.scripts s choice lines.printed at kind path lines.ends fails

    completed : (r : Results) → AreResultsOf s r → (kind : Option Kind) → AnswersText (Run kind) text (Completed r)
    completed r h kind =
        let all : Completes s r = record { results = h; read_again = λ q sound same. results_are_told q r sound h.sound same } in
        record {
          cause = (s, spells, scoped, all);
          promise = record {
            runs = λ other g. inl (inl (r, refl));
            completes = λ other g fine. inl (r, refl);
            fails = λ other g some. absurd (never_fails r h (subst FailsSomewhere (only_one other g.spelled) some));
            right = λ other g. subst (λ x. Completes x r) (sym (only_one other g)) all;
          };
          kind = tt;
        }

    fails_there : (t : Trace) → NamesFailure text s t → FailsSomewhere s
    fails_there t h =
        let n = length s.parameters in
        let count : length (sampled (take n t.sample)) ≡ n = omega (arith, length-map (take n t.sample) whole, length-take n t.sample, h.sound.enough, ap length h.parameters, length-map s.parameters parameter_name) in
        (sampled (take n t.sample), count, h.at, t.kind, h.path, h.failed)

    failed : (t : Trace) → NamesFailure text s t → (kind : Option Kind) → AnswersText (Run kind) text (Failed t)
    failed t h kind = record {
      cause = (s, spells, scoped, h);
      promise = record {
        runs = λ other g. inl (inr (t, refl));
        completes = λ other g fine. absurd (fine (subst FailsSomewhere (sym (only_one other g.spelled)) (fails_there t h)));
        fails = λ other g some. inl (t, refl);
        right = λ other g. subst (λ x. NamesFailure text x t) (sym (only_one other g)) h;
      };
      kind = tt;
    }

    pub run_is_answered : (o : Outcome) → IsRunOf text s o → ((kind : Option Kind) → AnswersText (Run kind) text o) × HasText o
    run_is_answered (Completed r) h = (completed r h, h.sound)
    run_is_answered (Failed t) h = (failed t h, h.sound)
    run_is_answered _ h = absurd h

    -- the same of a call
    pub run_answered : (r : Result Outcome NoMemory) → IfOk r (IsRunOf text s) → IfOk r (λ o. (kind : Option Kind) → AnswersText (Run kind) text o)
    run_answered (Ok o) h = (run_is_answered o h).0
    run_answered (Err e) h = tt
