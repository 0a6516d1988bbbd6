-- What is refused comes to that refusal alone.
use Rattle.std.proofs.Common.{◌≡◌, ℕ, List, Option, sym, ap, length, ◌∙◌, ◌⊎◌, inl, inr, subst}
use Rattle.lois_base.specs.declared.deciding.Kind.{Kind}
use Rattle.lois_lexer.proofs.OneReading.{one_list, one_refusal as one_lexical, never_both as tokens_or_refusal}
use Rattle.lois_lexer.specs.Tokens.{HasTokens}
use Rattle.lois_lexer.specs.declared.LexError.{LexError}
use Rattle.lois_lexer.specs.declared.LexError.TheVariants.{BadByte, LongName, BadNumber, NoMemory as LexMemory}
use Rattle.lois_lexer.specs.declared.Place.{Place}
use Rattle.lois_lexer.specs.declared.Token.{Token}
use Rattle.lois_script.specs.Limits.{Spells}
use Rattle.lois_script.specs.Scope.{RuleD, rule_number, ScriptBreaks, IsWellScoped, BreaksFirst}
use Rattle.lois_script.specs.Tree.{ScriptD}
use Rattle.lois_answers.specs.declared.results.Results.{Results}
use Rattle.lois_census.specs.Refusals.{IsCensusAnswer as IsCounted}
use Rattle.lois_equal.specs.Comparing.{IsComparison}
use Rattle.lois_reader.specs.Pieces.{answer_pieces}
use Rattle.lois_reader.specs.Refusal.{IsAnswerOf, IsResultsOf}
use Rattle.lois_reader.specs.Shape.{HasAnswerShape, SpellsAnswer}
use Rattle.lois_scope.proofs.First.{same_first}
use Rattle.lois_syntax.proofs.OneStatement.{one_script_of_text}
use Rattle.lois_syntax.proofs.Refusing.{one_refusal as one_syntax, never_both as script_or_refusal}
use Rattle.lois_syntax.specs.Refusals.{tokens_in, IsSyntaxRefusal as SyntaxRefuses}
use Rattle.lois_syntax.specs.declared.SyntaxError.{SyntaxError}
use Rattle.lois_syntax.specs.declared.SyntaxError.TheVariants.{NoScript, TooNested, WideTuple, TurnsTooMany, NoMemory as SyntaxMemory}
use Rattle.lois_run.specs.Causes.{IsRefusedBy, HasCause}
use Rattle.lois_run.specs.TextAnswers.{IsOfText}
use Rattle.lois_run.specs.Laws.{RefusalsAreSure}
use Rattle.lois_run.specs.Read.{SpellsNone, IsScope}
use Rattle.lois_command.specs.NoResults.{IsNoResults}
use Rattle.lois_command.proofs.OnePlace.{one_place, one_end, at_once, results_once, same_results}
use Rattle.lois_registers.proofs.Unique.{one_place as one_line}
use Rattle.lois_run.proofs.Compared.{compared_once}
use Rattle.lois_run.proofs.Counted.{counted_once}
use Rattle.lois_run.specs.Lines.{Compares, Lists, compared_outcome}
use Rattle.lois_run.specs.Refusals.{token_place, IsLexical, LexicalTells, IsSyntax, SyntaxTells, IsRefusedAs, IsNoAnswer, IsNoAnswerAt, IsNoRegisters, IsNoRegistersAt}
use Rattle.lois_run.specs.declared.outcomes.Outcome.{Outcome}
use Rattle.lois_run.specs.declared.outcomes.Outcome.TheVariants.{Completed, Failed, Made as WasMade, Refused, ReadFault, Usage}
use Rattle.lois_run.specs.declared.outcomes.Refusal.{Refusal}
use Rattle.lois_run.specs.declared.outcomes.Refusal.TheVariants.{TooLong, Lexical, Syntax, Scope, NotResults, NotRegisters}
use Rattle.lois_run.specs.declared.words.Command.TheVariants.{Run, Check, Reread, Make, Equal, Registers, Census}

-- ---- one number, one place

lexical_once : (text : List ℕ) (number at n m : ℕ) (p q : Place) → IsLexical text number at (Lexical n p) → IsLexical text number at (Lexical m q) → Lexical n p ≡ Lexical m q
lexical_once text number at n m p q a b = λ i. Lexical ((a.0 ∙ sym b.0) i) (one_place text at p q a.1 b.1 i)

syntax_once : (text : List ℕ) (tokens : List Token) (number index n m : ℕ) (p q : Place) → IsSyntax text tokens number index (Syntax n p) → IsSyntax text tokens number index (Syntax m q) → Syntax n p ≡ Syntax m q
syntax_once text tokens number index n m p q a b = λ i. Syntax ((a.0 ∙ sym b.0) i) (one_place text (token_place text tokens index) p q a.1 b.1 i)

scope_once : (text : List ℕ) (number at n m : ℕ) (p q : Place) → IsScope text number at (Scope n p) → IsScope text number at (Scope m q) → Scope n p ≡ Scope m q
scope_once text number at n m p q a b = λ i. Scope ((a.0 ∙ sym b.0) i) (one_place text at p q a.1 b.1 i)

-- ---- an error is told in one way

lexical_told : (text : List ℕ) (e : LexError) (n m : ℕ) (p q : Place) → LexicalTells text e (Lexical n p) → LexicalTells text e (Lexical m q) → Lexical n p ≡ Lexical m q
lexical_told text (BadByte at) n m p q a b = lexical_once text 1 at n m p q a b
lexical_told text (LongName at) n m p q a b = lexical_once text 2 at n m p q a b
lexical_told text (BadNumber at) n m p q a b = lexical_once text 3 at n m p q a b
lexical_told text LexMemory n m p q a b = absurd a

syntax_told : (text : List ℕ) (tokens : List Token) (e : SyntaxError) (n m : ℕ) (p q : Place) → SyntaxTells text tokens e (Syntax n p) → SyntaxTells text tokens e (Syntax m q) → Syntax n p ≡ Syntax m q
syntax_told text tokens (NoScript k) n m p q a b = syntax_once text tokens 1 k n m p q a b
syntax_told text tokens (TooNested k) n m p q a b = syntax_once text tokens 2 k n m p q a b
syntax_told text tokens (WideTuple k) n m p q a b = syntax_once text tokens 3 k n m p q a b
syntax_told text tokens (TurnsTooMany k) n m p q a b = syntax_once text tokens 4 k n m p q a b
syntax_told text tokens SyntaxMemory n m p q a b = absurd a

-- what a refusal for scope tells: a rule that is broken first, and the place
abbrev FirstBreak : List ℕ → ScriptD → Refusal → Type 0
FirstBreak text s r = (rule : RuleD) × (at : ℕ) × BreaksFirst s rule at × IsScope text (rule_number rule) at r

scope_told : (text : List ℕ) (s : ScriptD) (n m : ℕ) (p q : Place) → FirstBreak text s (Scope n p) → FirstBreak text s (Scope m q) → Scope n p ≡ Scope m q
scope_told text s n m p q (one, at, h, a) (other, there, g, b) =
    let e = same_first s one other at there h g in
    let number : IsScope text (rule_number other) at (Scope n p) = subst (λ (rule : RuleD). IsScope text (rule_number rule) at (Scope n p)) e.0 a in
    scope_once text (rule_number other) there n m p q (subst (λ k. IsScope text (rule_number other) k (Scope n p)) e.1 number) b

-- ---- two refusals of one text

module _ (text : List ℕ) where
  no_tokens : (n : ℕ) (p : Place) → IsRefusedAs text (Lexical n p) → (tokens : List Token) → HasTokens text tokens → ⊥
  no_tokens n p (e, refuses, told) tokens cut = tokens_or_refusal text tokens e cut refuses

  no_script : (n : ℕ) (p : Place) → IsRefusedAs text (Syntax n p) → (s : ScriptD) → Spells text s → ⊥
  no_script n p (tokens, e, cut, refuses, told) s spells = script_or_refusal text tokens s e cut spells refuses

  not_scoped : (n : ℕ) (p : Place) → IsRefusedAs text (Scope n p) → (s : ScriptD) → Spells text s → IsWellScoped s → ⊥
  not_scoped n p (t, rule, at, spells, first, number, place) s spelled scoped =
      scoped rule at (subst (λ (x : ScriptD). ScriptBreaks x rule at) (one_script_of_text text t s spells spelled) first.broken)

  pub refused_spell_none : (r : Refusal) → IsRefusedAs text r → SpellsNone text
  refused_spell_none (Lexical n p) why s spells scoped = no_tokens n p why spells.tokens spells.cut
  refused_spell_none (Syntax n p) why s spells scoped = no_script n p why s spells
  refused_spell_none (Scope n p) why s spells scoped = not_scoped n p why s spells scoped
  refused_spell_none _ why s spells scoped = absurd why

  same_lexical : (n m : ℕ) (p q : Place) → IsRefusedAs text (Lexical n p) → IsRefusedAs text (Lexical m q) → Lexical n p ≡ Lexical m q
  same_lexical n m p q (e, refuses, told) (f, refused, tells) =
      lexical_told text f n m p q (subst (λ (x : LexError). LexicalTells text x (Lexical n p)) (one_lexical text e f refuses refused) told) tells

  same_syntax : (n m : ℕ) (p q : Place) → IsRefusedAs text (Syntax n p) → IsRefusedAs text (Syntax m q) → Syntax n p ≡ Syntax m q
  same_syntax n m p q (tokens, e, cut, refuses, told) (others, f, cuts, refused, tells) =
      let same = one_list text others tokens cuts cut in
      let refused_here : SyntaxRefuses (tokens_in text tokens) f = subst (λ (ts : List Token). SyntaxRefuses (tokens_in text ts) f) same refused in
      let tells_here : SyntaxTells text tokens f (Syntax m q) = subst (λ (ts : List Token). SyntaxTells text ts f (Syntax m q)) same tells in
      syntax_told text tokens f n m p q (subst (λ (x : SyntaxError). SyntaxTells text tokens x (Syntax n p)) (one_syntax (tokens_in text tokens) e f refuses refused_here) told) tells_here

  same_scope : (n m : ℕ) (p q : Place) → IsRefusedAs text (Scope n p) → IsRefusedAs text (Scope m q) → Scope n p ≡ Scope m q
  same_scope n m p q (s, rule, at, spells, first, number, place) (t, other, there, spelled, least, numbered, placed) =
      scope_told text s n m p q (rule, at, first, (number, place)) (subst (λ (x : ScriptD). FirstBreak text x (Scope m q)) (one_script_of_text text t s spelled spells) (other, there, least, (numbered, placed)))

  same_refusal : (r q : Refusal) → IsRefusedAs text r → IsRefusedAs text q → q ≡ r
  same_refusal (Lexical n p) (Lexical m q) a b = same_lexical m n q p b a
  same_refusal (Lexical n p) (Syntax m q) a (tokens, e, cut, refuses, told) = absurd (no_tokens n p a tokens cut)
  same_refusal (Lexical n p) (Scope m q) a (s, rule, at, spells, first, number, place) = absurd (no_tokens n p a spells.tokens spells.cut)
  same_refusal (Syntax n p) (Lexical m q) (tokens, e, cut, refuses, told) b = absurd (no_tokens m q b tokens cut)
  same_refusal (Syntax n p) (Syntax m q) a b = same_syntax m n q p b a
  same_refusal (Syntax n p) (Scope m q) a (s, rule, at, spells, first, number, place) = absurd (no_script n p a s spells)
  same_refusal (Scope n p) (Lexical m q) (s, rule, at, spells, first, number, place) b = absurd (no_tokens m q b spells.tokens spells.cut)
  same_refusal (Scope n p) (Syntax m q) (s, rule, at, spells, first, number, place) b = absurd (no_script m q b s spells)
  same_refusal (Scope n p) (Scope m q) a b = same_scope m n q p b a
  same_refusal (Lexical n p) _ a b = absurd b
  same_refusal (Syntax n p) _ a b = absurd b
  same_refusal (Scope n p) _ a b = absurd b
  same_refusal _ q a b = absurd a

  -- ---- nothing of a kind has the text

  same_answer : (p q : Place) → IsNoAnswer text p → IsNoAnswer text q → q ≡ p
  same_answer = at_once text IsNoAnswerAt (one_end text (IsAnswerOf text) HasAnswerShape SpellsAnswer answer_pieces (λ d h. (d, h)))

  same_registers : (p q : Place) → IsNoRegisters text p → IsNoRegisters text q → q ≡ p
  same_registers = at_once text IsNoRegistersAt (λ k m h g. one_line text k m h.1 g.1)

  -- ---- whatever else a text comes to

  never_runs : (r : Refusal) (s : ScriptD) → IsRefusedAs text r → Spells text s → IsWellScoped s → ⊥
  never_runs (Lexical n p) s a spells scoped = no_tokens n p a spells.tokens spells.cut
  never_runs (Syntax n p) s a spells scoped = no_script n p a s spells
  never_runs (Scope n p) s a spells scoped = not_scoped n p a s spells scoped
  never_runs _ s a spells scoped = absurd a

  run_refusal : (kind : Option Kind) (r : Refusal) → IsOfText (Refused r) → IsRefusedBy (Run kind) text r → IsRefusedAs text r
  run_refusal kind TooLong is a = absurd is
  run_refusal kind (Lexical n p) is a = a
  run_refusal kind (Syntax n p) is a = a
  run_refusal kind (Scope n p) is a = a
  run_refusal kind _ is a = absurd a

  check_refusal : (r : Refusal) → IsOfText (Refused r) → IsRefusedBy Check text r → IsRefusedAs text r
  check_refusal TooLong is a = absurd is
  check_refusal (Lexical n p) is a = a
  check_refusal (Syntax n p) is a = a
  check_refusal (Scope n p) is a = a
  check_refusal _ is a = absurd a

  reread_refusal : (r : Refusal) → IsOfText (Refused r) → IsRefusedBy Reread text r → (p : Place) × (r ≡ NotResults p) × IsNoAnswer text p
  reread_refusal TooLong is a = absurd is
  reread_refusal _ is (p, none, e) = (p, e, none)

  surely_run : (kind : Option Kind) (r : Refusal) (o : Outcome) → IsRefusedAs text r → IsOfText o → HasCause (Run kind) text o → o ≡ Refused r
  surely_run kind r (Completed results) a is (s, spells, scoped, answer) = absurd (never_runs r s a spells scoped)
  surely_run kind r (Failed t) a is (s, spells, scoped, answer) = absurd (never_runs r s a spells scoped)
  surely_run kind r (Refused q) a is b = ap Refused (same_refusal r q a (run_refusal kind q is b))
  surely_run kind r (WasMade counts) a is b = absurd is
  surely_run kind r ReadFault a is b = absurd is
  surely_run kind r Usage a is b = absurd is
  surely_run kind r _ a is b = absurd b

  surely_checked : (r : Refusal) (o : Outcome) → IsRefusedAs text r → IsOfText o → HasCause Check text o → o ≡ Refused r
  surely_checked r (Refused q) a is b = ap Refused (same_refusal r q a (check_refusal q is b))
  surely_checked r (WasMade counts) a is b = absurd is
  surely_checked r ReadFault a is b = absurd is
  surely_checked r Usage a is b = absurd is
  surely_checked r _ a is (s, (spells, scoped), e) = absurd (refused_spell_none r a _ spells scoped)

  surely_reread : (p : Place) (o : Outcome) → IsNoAnswer text p → IsOfText o → HasCause Reread text o → o ≡ Refused (NotResults p)
  surely_reread p (Refused q) a is b =
      let other = reread_refusal q is b in
      ap Refused (other.1 ∙ ap NotResults (same_answer p other.0 a other.2))
  surely_reread p (WasMade counts) a is b = absurd is
  surely_reread p ReadFault a is b = absurd is
  surely_reread p Usage a is b = absurd is
  surely_reread p _ (k, none, at) is (answer, holds, e) = absurd (none.none answer holds)

  -- ---- what is said of results

  -- the text isn't that of results, or something is said of its results
  abbrev NoneOr : (Outcome → Type 0) → Outcome → Type 0
  NoneOr Tells o = ((p : Place) × (o ≡ Refused (NotResults p)) × IsNoResults text p) ⊎ Tells o

  module _ (Tells : Outcome → Type 0) (of_results : (o : Outcome) → Tells o → (r : Results) × IsResultsOf text r)
      (once : (r : Refusal) (o : Outcome) → Tells (Refused r) → Tells o → o ≡ Refused r) where
    surely_told : (r : Refusal) (o : Outcome) → NoneOr Tells (Refused r) → NoneOr Tells o → o ≡ Refused r
    surely_told r o (inl (p, is, none)) (inl (q, e, never)) = e ∙ (ap (λ x. Refused (NotResults x)) (same_results text p q none never) ∙ sym is)
    surely_told r o (inl (p, is, (k, none, here))) (inr h) = let results = of_results o h in absurd (none.none results.0 results.1)
    surely_told r o (inr h) (inl (q, e, (k, never, there))) = let results = of_results (Refused r) h in absurd (never.none results.0 results.1)
    surely_told r o (inr h) (inr g) = once r o h g

  equal_told : (first second : List ℕ) (o : Outcome) → IsOfText o → HasCause (Equal first second) text o → NoneOr (Compares first second text) o
  equal_told first second (Refused TooLong) is h = absurd is
  equal_told first second (Refused _) is (inl (p, none, e)) = inl (p, ap Refused e, none)
  equal_told first second (Refused _) is (inr h) = inr h
  equal_told first second (WasMade counts) is h = absurd is
  equal_told first second ReadFault is h = absurd is
  equal_told first second Usage is h = absurd is
  equal_told first second _ is h = inr h

  census_told : (name : List ℕ) (o : Outcome) → IsOfText o → HasCause (Census name) text o → NoneOr (Lists name text) o
  census_told name (Refused TooLong) is h = absurd is
  census_told name (Refused _) is (inl (p, none, e)) = inl (p, ap Refused e, none)
  census_told name (Refused _) is (inr h) = inr h
  census_told name (WasMade counts) is h = absurd is
  census_told name ReadFault is h = absurd is
  census_told name Usage is h = absurd is
  census_told name _ is h = inr h

  surely_compared : (first second : List ℕ) (r : Refusal) (o : Outcome) → Compares first second text (Refused r) → Compares first second text o → o ≡ Refused r
  surely_compared first second r o h g =
      let same = results_once text g.results h.results g.read h.read in
      let found : IsComparison (length h.results.parameters) first second h.results.cases g.comparison = subst (λ (x : Results). IsComparison (length x.parameters) first second x.cases g.comparison) same g.found in
      let told : o ≡ compared_outcome h.results.parameters g.comparison = g.told ∙ ap (λ (x : Results). compared_outcome x.parameters g.comparison) same in
      told ∙ (compared_once (length h.results.parameters) first second h.results.cases h.results.parameters h.comparison g.comparison r h.found found h.told ∙ sym h.told)

  surely_listed : (name : List ℕ) (r : Refusal) (o : Outcome) → Lists name text (Refused r) → Lists name text o → o ≡ Refused r
  surely_listed name r o h g =
      let same = results_once text g.results h.results g.read h.read in
      let found = subst (λ (x : Results). IsCounted x.order x name g.answer) same g.found in
      g.told ∙ (counted_once h.results name h.results.order h.answer g.answer r h.found found h.told ∙ sym h.told)

  make_refuses_none : (n : ℕ) (kind : Option Kind) (r : Refusal) → IsRefusedBy (Make n kind) text r → ⊥
  make_refuses_none n kind TooLong h = h
  make_refuses_none n kind _ h = h

  registers_refusal : (r : Refusal) → IsOfText (Refused r) → IsRefusedBy Registers text r → (p : Place) × (r ≡ NotRegisters p) × IsNoRegisters text p
  registers_refusal TooLong is a = absurd is
  registers_refusal _ is (p, none, e) = (p, e, none)

  surely_translated : (p : Place) (o : Outcome) → IsNoRegisters text p → IsOfText o → HasCause Registers text o → o ≡ Refused (NotRegisters p)
  surely_translated p (Refused q) a is b =
      let other = registers_refusal q is b in
      ap Refused (other.1 ∙ ap NotRegisters (same_registers p other.0 a other.2))
  surely_translated p (WasMade counts) a is b = absurd is
  surely_translated p ReadFault a is b = absurd is
  surely_translated p Usage a is b = absurd is
  surely_translated p _ (k, none, at) is (s, h, e) = absurd (none.0 h.automaton h.read)

pub refusals_are_sure : RefusalsAreSure
refusals_are_sure (Run kind) text r o of_text refused is cause = surely_run text kind r o (run_refusal text kind r of_text refused) is cause
refusals_are_sure (Make n kind) text r o of_text refused is cause = absurd (make_refuses_none text n kind r refused)
refusals_are_sure Check text r o of_text refused is cause = surely_checked text r o (check_refusal text r of_text refused) is cause
refusals_are_sure Reread text r o of_text refused is cause =
    let why = reread_refusal text r of_text refused in
    surely_reread text why.0 o why.2 is cause ∙ ap Refused (sym why.1)
refusals_are_sure (Equal first second) text r o of_text refused is cause =
    surely_told text (Compares first second text) (λ o h. (h.results, h.read)) (surely_compared text first second) r o (equal_told text first second (Refused r) of_text refused) (equal_told text first second o is cause)
refusals_are_sure Registers text r o of_text refused is cause =
    let why = registers_refusal text r of_text refused in
    surely_translated text why.0 o why.2 is cause ∙ ap Refused (sym why.1)
refusals_are_sure (Census name) text r o of_text refused is cause =
    surely_told text (Lists name text) (λ o h. (h.results, h.read)) (surely_listed text name) r o (census_told text name (Refused r) of_text refused) (census_told text name o is cause)
