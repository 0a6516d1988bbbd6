-- What a reader of the descent gives, set against the machine: it comes to a later token, where the machine comes too, or
-- it stops where the machine stops.
use Rattle.std.proofs.Common.{◌≡◌, ℕ, zero, suc, ◌+◌, ◌-◌, ◌<◌, ◌≤◌, Bool, true, false, List, [], ◌∷◌, length, drop, Option, Some, None, refl, sym, ap, ◌∙◌, subst, arith, length-drop, drop-drop, eqb-true}
use Rattle.std.specs.Prelude.{codes, Result, Ok, Err, if◌then◌else◌, ◌==◌}
use Rattle.lois_script.specs.Grammar.{TakesName, TakesNumber, TakesSymbol, TakesWord, TakesWordAt, structure_word, decimal}
use Rattle.lois_script.specs.Tree.{ParamD}
use Rattle.lois_descent.specs.Reading.{refusal_of}
use Rattle.lois_descent.specs.declared.parse_error.ParseError.{ParseError}
use Rattle.lois_descent.specs.declared.parse_error.ParseError.TheVariants as parse_errors
use Rattle.lois_descent.specs.declared.lexemes.Keyword.{Keyword}
use Rattle.lois_descent.specs.declared.lexemes.Keyword.TheVariants as words
use Rattle.lois_descent.specs.declared.lexemes.OptionalStart.{OptionalStart}
use Rattle.lois_descent.specs.declared.lexemes.OptionalStart.TheVariants as leads
use Rattle.lois_descent.specs.declared.lexemes.Lexeme.{Lexeme}
use Rattle.lois_descent.specs.declared.lexemes.Lexeme.TheVariants.{End, Name, Number, Word, Symbol}
use Rattle.lois_descent.specs.declared.lexemes.Relation.{Relation}
use Rattle.lois_descent.specs.declared.lexemes.Punctuator.{Punctuator}
use Rattle.lois_descent.specs.declared.lexemes.Punctuator.TheVariants as punctuators
use Rattle.lois_descent.specs.declared.lexemes.Terminal.{Terminal}
use Rattle.lois_descent.specs.declared.lexemes.Terminal.TheVariants as terminals
use Rattle.lois_descent.specs.Lexemes.{accepts, optional_start, relation_of, word_of}
use Rattle.lois_descent.specs.Machine.{Arguments, Item, terminal, arguments, operands, item_start, State, push, verdict, refused, no_script, over}
use Rattle.lois_descent.specs.Refusals.{GoesOver, nesting, parts}
use Rattle.lois_descent.specs.Steps.{first_place, first_bytes, lexeme_at, place_at, bytes_at, Moves, RefusalMatches, One, is_plain, is_closer}
use Rattle.lois_descent.specs.Descent as descent
use Rattle.lois_descent.specs.Descent.{Tokens, Read, ◌>>=◌, stop, pass, enter, enter_call, call_by}
use Rattle.lois_descent.proofs.TokenForms.{lead_is, no_round, name_here, number_here, word_at, word_moves}
use Rattle.lois_descent.proofs.TokenSteps.{along, token_at, opens_by, Quiet, plain_moves, open_moves, full_stuck, missed}
use Rattle.lois_descent.proofs.AcceptedTokens.{accepts_no_end, relation_found, relation_none, one_at, pass_moves, pass_stuck, close_moves_on, name_accepted, number_accepted}

-- It came from token number `at` to token number `end`. The machine, where it is in one of the states w and n brackets are
-- open, comes there too, and is in the state of the same number of those that v says for what was read, with m brackets
-- open. What was read is as P says.
pub record Came {A X : Type 0} (ts : Tokens) (at n : ℕ) (w : X → State) (m : ℕ) (v : A → X → State) (P : A → ℕ → Type 0) (x : A × Tokens) : Type 0 where
  pub end : ℕ
  pub rest : x.1 ≡ drop end ts
  pub forward : at ≤ end
  pub inside : end ≤ length ts
  pub moved : (i : X) → verdict at n (w i) (drop at ts) ≡ verdict end m (v x.0 i) (drop end ts)
  pub read : P x.0 end

-- It stopped where the machine stops, from each of the states w.
pub record Halted {X : Type 0} (ts : Tokens) (at n : ℕ) (w : X → State) (e : ParseError) : Type 0 where
  pub enough : e ≡ parse_errors.NoMemory → ⊥
  pub stuck : (i : X) → RefusalMatches ts (refusal_of (length ts) e) (verdict at n (w i) (drop at ts))

abbrev pub Outcome : {A X : Type 0} → Tokens → ℕ → ℕ → (X → State) → ℕ → (A → X → State) → (A → ℕ → Type 0) → Result (A × Tokens) ParseError → Type 0
Outcome ts at n w m v P (Ok x) = Came ts at n w m v P x
Outcome ts at n w m v P (Err e) = Halted ts at n w e

-- What a reader gives from token number `at` on: the one or the other.
pub record Comes {A X : Type 0} (ts : Tokens) (at n : ℕ) (w : X → State) (m : ℕ) (v : A → X → State) (P : A → ℕ → Type 0) (read : Result (A × Tokens) ParseError) : Type 0 where
  pub run : at ≤ length ts → Outcome ts at n w m v P read

-- nothing more is read
pub done : {A X : Type 0} {ts : Tokens} {at n : ℕ} {v : A → X → State} {P : A → ℕ → Type 0} {x : A} → P x at → Comes ts at n (v x) n v P (Ok (x, drop at ts))
done {at = at} h = record { run = λ inside. record { end = at; rest = refl; forward = omega arith; inside = inside; moved = λ i. refl; read = h } }

-- the machine goes on, and the reader from there
pub on : {A X : Type 0} {ts : Tokens} {at n b m k : ℕ} {w u : X → State} {v : A → X → State} {P : A → ℕ → Type 0} {r : Result (A × Tokens) ParseError} → at ≤ b → b ≤ length ts →
    ((i : X) → verdict at n (w i) (drop at ts) ≡ verdict b m (u i) (drop b ts)) → Comes ts b m u k v P r → Comes ts at n w k v P r
on {A} {X} {ts} {at} {n} {b} {m} {k} {w} {u} {v} {P} {r} forward within moves h = record { run = λ inside. go r (h.run within) }
  where
    go : (r : Result (A × Tokens) ParseError) → Outcome ts b m u k v P r → Outcome ts at n w k v P r
    go (Ok x) g = record { end = g.end; rest = g.rest; forward = let there = g.forward in omega arith; inside = g.inside; moved = λ i. moves i ∙ g.moved i; read = g.read }
    go (Err e) g = record { enough = g.enough; stuck = λ i. along ts (refusal_of (length ts) e) (verdict at n (w i) (drop at ts)) (verdict b m (u i) (drop b ts)) (moves i) (g.stuck i) }

-- the machine does here what it does in other states
pub alike : {A X : Type 0} {ts : Tokens} {at n k : ℕ} {w u : X → State} {v : A → X → State} {P : A → ℕ → Type 0} {r : Result (A × Tokens) ParseError} → ((i : X) → verdict at n (w i) (drop at ts) ≡ verdict at n (u i) (drop at ts)) →
    Comes ts at n u k v P r → Comes ts at n w k v P r
alike moves h = record { run = λ inside. (on (omega arith) inside moves h).run inside }

-- one reader, and then another from where it came to; g says which of the first one's states are meant
pub and_then : {A B X Y : Type 0} {ts : Tokens} {at n m k : ℕ} {w : X → State} {v : A → X → State} {z : B → Y → State} {P : A → ℕ → Type 0} {Q : B → ℕ → Type 0} {r : Result (A × Tokens) ParseError} →
    (f : A × Tokens → Result (B × Tokens) ParseError) (g : Y → X) → Comes ts at n w m v P r → ((x : A) (b : ℕ) → at ≤ b → P x b → Comes ts b m (λ i. v x (g i)) k z Q (f (x, drop b ts))) →
    Comes ts at n (λ i. w (g i)) k z Q (r >>= f)
and_then {A} {B} {X} {Y} {ts} {at} {n} {m} {k} {w} {v} {z} {P} {Q} {r} f g h next = record { run = λ inside. go r (h.run inside) }
  where
    go : (r : Result (A × Tokens) ParseError) → Outcome ts at n w m v P r → Outcome ts at n (λ i. w (g i)) k z Q (r >>= f)
    go (Ok (x, s)) o =
        let there : Outcome ts o.end m (λ i. v x (g i)) k z Q (f (x, drop o.end ts)) = (next x o.end o.forward o.read).run o.inside in
        let same : Outcome ts o.end m (λ i. v x (g i)) k z Q (f (x, s)) = subst (λ l. Outcome ts o.end m (λ i. v x (g i)) k z Q (f (x, l))) (sym o.rest) there in
        (on o.forward o.inside (λ i. o.moved (g i)) (record { run = λ _. same })).run (let a = o.forward in let b = o.inside in omega arith)
    go (Err e) o = record { enough = o.enough; stuck = λ i. o.stuck (g i) }

-- ---- one token

-- how many are before those that are left
pub before : (ts : Tokens) (at : ℕ) → at ≤ length ts → at ≡ length ts - length (drop at ts)
before ts at inside = let l = length-drop at ts in omega arith

-- a token that is there
pub taken : (ts : Tokens) (at : ℕ) (l : Lexeme) → lexeme_at ts at ≡ l → (l ≡ End → ⊥) → at + 1 ≤ length ts
taken ts at l e some =
    let k = token_at ts at l e some in
    let l = length-drop at ts in
    let m = ap length k.here in omega arith

-- the machine stops here, and so does the reader
pub stops : {A X : Type 0} {ts : Tokens} {at n m : ℕ} {w : X → State} {v : A → X → State} {P : A → ℕ → Type 0} → ((i : X) → verdict at n (w i) (drop at ts) ≡ refused no_script at) →
    Comes ts at n w m v P (stop (drop at ts))
stops {ts = ts} {at = at} h = record { run = λ inside. record { enough = λ e. cc; stuck = λ i. h i ∙ ap (refused no_script) (before ts at inside) } }

pub stops_nested : {A X : Type 0} {ts : Tokens} {at n m : ℕ} {w : X → State} {v : A → X → State} {P : A → ℕ → Type 0} → ((i : X) → verdict at n (w i) (drop at ts) ≡ refused (over nesting) at) →
    Comes ts at n w m v P (Err (parse_errors.TooNested (length (drop at ts))))
stops_nested {ts = ts} {at = at} h = record { run = λ inside. record { enough = λ e. cc; stuck = λ i. h i ∙ ap (refused (over nesting)) (before ts at inside) } }

pub stops_wide : {A X : Type 0} {ts : Tokens} {at n m : ℕ} {w : X → State} {v : A → X → State} {P : A → ℕ → Type 0} → ((i : X) → verdict at n (w i) (drop at ts) ≡ refused (over parts) at) → GoesOver parts ts at →
    Comes ts at n w m v P (Err (parse_errors.WideTuple (length (drop at ts))))
stops_wide {ts = ts} {at = at} h wide = record { run = λ inside. record { enough = λ e. cc; stuck = λ i. (h i ∙ ap (refused (over parts)) (before ts at inside), subst (GoesOver parts ts) (before ts at inside) wide) } }

-- a word with which the item x begins
pub behind_word : {A X : Type 0} {ts : Tokens} {at n m : ℕ} {u : X → State} {v : A → X → State} {P : A → ℕ → Type 0} {r : Result (A × Tokens) ParseError} (k : Keyword) (x : Item) (w : List Item) →
    lexeme_at ts at ≡ Word k → item_start x (Word k) ≡ Some w → Quiet x → Comes ts (at + 1) n (λ i. push w (u i)) m v P r → Comes ts at n (λ i. push (x ∷ []) (u i)) m v P r
behind_word {ts = ts} {at = at} {n = n} {u = u} k x w e starts quiet h = on (omega arith) (taken ts at (Word k) e (λ g. cc)) (λ i. (word_moves ts at n k x w e starts quiet).run (u i)) h

-- a token that is no bracket
pub passing : {B X : Type 0} {ts : Tokens} {at n k : ℕ} {u : X → State} {v : B → X → State} {Q : B → ℕ → Type 0} (x : Terminal) (f : Tokens → Result (B × Tokens) ParseError) → is_plain x ≡ true →
    (One x (drop at ts) (drop (at + 1) ts) → Comes ts (at + 1) n u k v Q (f (drop (at + 1) ts))) → Comes ts at n (λ i. push (terminal x ∷ []) (u i)) k v Q (pass x (drop at ts) >>= f)
unfolding pass lexeme_at
passing {B} {X} {ts} {at} {n} {k} {u} {v} {Q} x f plain next = go (accepts x (lexeme_at ts at)) refl
  where
    go : (b : Bool) → accepts x (lexeme_at ts at) ≡ b → Comes ts at n (λ i. push (terminal x ∷ []) (u i)) k v Q ((if b then Ok (drop 1 (drop at ts)) else stop (drop at ts)) >>= f)
    go true e =
        rw (drop-drop 1 at ts) (on (omega arith) (taken ts at (lexeme_at ts at) refl (accepts_no_end x (lexeme_at ts at) e)) (λ i. (pass_moves ts at x e plain n).run (u i)) (next (one_at ts at x e)))
    go false e = stops (λ i. (pass_stuck ts at x e n).run (u i))

-- a closing bracket
pub closing : {B X : Type 0} {ts : Tokens} {at n k : ℕ} {u : X → State} {v : B → X → State} {Q : B → ℕ → Type 0} (x : Terminal) (f : Tokens → Result (B × Tokens) ParseError) → is_closer x ≡ true →
    (One x (drop at ts) (drop (at + 1) ts) → Comes ts (at + 1) n u k v Q (f (drop (at + 1) ts))) → Comes ts at (n + 1) (λ i. push (terminal x ∷ []) (u i)) k v Q (pass x (drop at ts) >>= f)
unfolding pass lexeme_at
closing {B} {X} {ts} {at} {n} {k} {u} {v} {Q} x f closer next = go (accepts x (lexeme_at ts at)) refl
  where
    go : (b : Bool) → accepts x (lexeme_at ts at) ≡ b → Comes ts at (n + 1) (λ i. push (terminal x ∷ []) (u i)) k v Q ((if b then Ok (drop 1 (drop at ts)) else stop (drop at ts)) >>= f)
    go true e =
        rw (drop-drop 1 at ts) (on (omega arith) (taken ts at (lexeme_at ts at) refl (accepts_no_end x (lexeme_at ts at) e)) (λ i. (close_moves_on ts at x e closer n).run (u i)) (next (one_at ts at x e)))
    go false e = stops (λ i. (pass_stuck ts at x e (n + 1)).run (u i))

-- an opening bracket with which the item x begins
pub entering : {B X : Type 0} {ts : Tokens} {at n k : ℕ} {u : X → State} {v : B → X → State} {Q : B → ℕ → Type 0} (depth_left : ℕ) (s : Punctuator) (x : Item) (w : List Item) (f : Tokens → Result (B × Tokens) ParseError) →
    lexeme_at ts at ≡ Symbol s → opens_by (Symbol s) ≡ true → item_start x (Symbol s) ≡ Some w → Quiet x → n + depth_left ≡ 64 →
    (0 < depth_left → Comes ts (at + 1) (n + 1) (λ i. push w (u i)) k v Q (f (drop (at + 1) ts))) → Comes ts at n (λ i. push (x ∷ []) (u i)) k v Q (enter depth_left (drop at ts) >>= f)
unfolding enter
entering {B} {X} {ts} {at} {n} {k} {u} {v} {Q} depth_left s x w f e opener starts quiet all next = go (depth_left == 0) refl
  where
    some : (m : ℕ) → (m == 0) ≡ false → 0 < m
    some zero g = absurd (cc)
    some (suc m) g = omega arith

    go : (b : Bool) → (depth_left == 0) ≡ b → Comes ts at n (λ i. push (x ∷ []) (u i)) k v Q ((if b then Err (parse_errors.TooNested (length (drop at ts))) else Ok (drop 1 (drop at ts))) >>= f)
    go true g =
        let none : depth_left ≡ 0 = eqb-true depth_left 0 g in
        stops_nested (λ i. (full_stuck ts at n x w (Symbol s) (token_at ts at (Symbol s) e (λ h. cc)) refl opener (omega arith) starts).run (u i))
    go false g =
        let inner : 0 < depth_left = some depth_left g in
        rw (drop-drop 1 at ts) (
        on (omega arith) (taken ts at (Symbol s) e (λ h. cc)) (λ i. (open_moves ts at n x w (Symbol s) (token_at ts at (Symbol s) e (λ h. cc)) refl opener (omega arith) starts quiet).run (u i)) (next inner))

-- the `(` of a call
pub entering_call : {B X : Type 0} {ts : Tokens} {at n k : ℕ} {u : X → State} {v : B → X → State} {Q : B → ℕ → Type 0} (depth_left : ℕ) (a : Arguments) (f : Tokens → Result (B × Tokens) ParseError) → n + depth_left ≡ 64 →
    (lexeme_at ts at ≡ Symbol punctuators.OpenRound → 0 < depth_left → Comes ts (at + 1) (n + 1) (λ i. push (operands a) (u i)) k v Q (f (drop (at + 1) ts))) →
    Comes ts at n (λ i. push (arguments a ∷ []) (u i)) k v Q (enter_call depth_left (drop at ts) >>= f)
unfolding enter_call lexeme_at
entering_call {B} {X} {ts} {at} {n} {k} {u} {v} {Q} depth_left a f all next = go (optional_start (lexeme_at ts at)) refl
  where
    none : (l : OptionalStart) → optional_start (lexeme_at ts at) ≡ l → (l ≡ leads.OpenRound → ⊥) → Comes ts at n (λ i. push (arguments a ∷ []) (u i)) k v Q (stop (drop at ts))
    none l e other = stops (λ i. (missed ts at n (arguments a) (no_round (lexeme_at ts at) (λ g. other (sym e ∙ g)) a)).run (u i))

    go : (l : OptionalStart) → optional_start (lexeme_at ts at) ≡ l → Comes ts at n (λ i. push (arguments a ∷ []) (u i)) k v Q (call_by l depth_left (drop at ts) >>= f)
    go leads.OpenRound e =
        let here : lexeme_at ts at ≡ Symbol punctuators.OpenRound = lead_is (lexeme_at ts at) leads.OpenRound (sym e) in
        entering depth_left punctuators.OpenRound (arguments a) (operands a) f here refl refl (λ rest t. refl) all (next here)
    go leads.Parameter e = none leads.Parameter e (λ g. cc)
    go leads.For e = none leads.For e (λ g. cc)
    go leads.Where e = none leads.Where e (λ g. cc)
    go leads.Else e = none leads.Else e (λ g. cc)
    go leads.NoOptionalStart e = none leads.NoOptionalStart e (λ g. cc)

-- a name
pub name_reads : (ts : Tokens) (at n : ℕ) → Comes ts at n (λ s. push (terminal terminals.Name ∷ []) s) n (λ x s. s) (λ (x : ParamD) end. (end ≡ at + 1) × TakesName x.place x.name (drop at ts) (drop end ts)) (descent.name (drop at ts))
unfolding descent.name lexeme_at place_at bytes_at
name_reads ts at n = go (accepts terminals.Name (lexeme_at ts at)) refl
  where
    go : (b : Bool) → accepts terminals.Name (lexeme_at ts at) ≡ b →
        Comes ts at n (λ s. push (terminal terminals.Name ∷ []) s) n (λ x s. s) (λ (x : ParamD) end. (end ≡ at + 1) × TakesName x.place x.name (drop at ts) (drop end ts))
        (if b then Ok (record { place = first_place (drop at ts); name = first_bytes (drop at ts) }, drop 1 (drop at ts)) else stop (drop at ts))
    go true e =
        let here : lexeme_at ts at ≡ Name = name_accepted (lexeme_at ts at) e in
        rw (drop-drop 1 at ts) (on (omega arith) (taken ts at Name here (λ g. cc)) (λ s. (pass_moves ts at terminals.Name e refl n).run s) (done (refl, name_here ts at here)))
    go false e = stops (λ s. (pass_stuck ts at terminals.Name e n).run s)

-- a number
pub number_reads : (ts : Tokens) (at n : ℕ) → Comes ts at n (λ s. push (terminal terminals.Number ∷ []) s) n (λ x s. s) (λ x end. (end ≡ at + 1) × TakesNumber x (drop at ts) (drop end ts)) (descent.number (drop at ts))
unfolding descent.number lexeme_at bytes_at
number_reads ts at n = go (accepts terminals.Number (lexeme_at ts at)) refl
  where
    go : (b : Bool) → accepts terminals.Number (lexeme_at ts at) ≡ b →
        Comes ts at n (λ s. push (terminal terminals.Number ∷ []) s) n (λ x s. s) (λ x end. (end ≡ at + 1) × TakesNumber x (drop at ts) (drop end ts))
        (if b then Ok (decimal (first_bytes (drop at ts)), drop 1 (drop at ts)) else stop (drop at ts))
    go true e =
        let here : lexeme_at ts at ≡ Number = number_accepted (lexeme_at ts at) e in
        rw (drop-drop 1 at ts) (on (omega arith) (taken ts at Number here (λ g. cc)) (λ s. (pass_moves ts at terminals.Number e refl n).run s) (done (refl, number_here ts at here)))
    go false e = stops (λ s. (pass_stuck ts at terminals.Number e n).run s)

-- a relation
pub relation_reads : (ts : Tokens) (at n : ℕ) → Comes ts at n (λ s. push (terminal terminals.Relation ∷ []) s) n (λ x s. s) (λ x end. (end ≡ at + 1) × (relation_of (lexeme_at ts at) ≡ Some x)) (descent.relation (drop at ts))
unfolding descent.relation lexeme_at
relation_reads ts at n = go (relation_of (lexeme_at ts at)) refl
  where
    go : (o : Option Relation) → relation_of (lexeme_at ts at) ≡ o →
        Comes ts at n (λ s. push (terminal terminals.Relation ∷ []) s) n (λ x s. s) (λ x end. (end ≡ at + 1) × (relation_of (lexeme_at ts at) ≡ Some x)) (descent.relation_by o (drop at ts))
    go (Some r) e =
        let found : accepts terminals.Relation (lexeme_at ts at) ≡ true = relation_found (lexeme_at ts at) r e in
        rw (drop-drop 1 at ts) (
        on (omega arith) (taken ts at (lexeme_at ts at) refl (accepts_no_end terminals.Relation (lexeme_at ts at) found)) (λ s. (pass_moves ts at terminals.Relation found refl n).run s) (done (refl, e)))
    go None e = stops (λ s. (pass_stuck ts at terminals.Relation (relation_none (lexeme_at ts at) e) n).run s)

-- the structure of the atoms
pub structure_reads : (ts : Tokens) (at n : ℕ) →
    Comes ts at n (λ s. push (terminal terminals.Structure ∷ []) s) n (λ x s. s) (λ x end. (end ≡ at + 1) × TakesWord (structure_word x) (drop at ts) (drop end ts)) (descent.structure (drop at ts))
unfolding descent.structure lexeme_at
structure_reads ts at n = go (lexeme_at ts at) refl
  where
    found : (k : Keyword) (ordered : Bool) → lexeme_at ts at ≡ Word k → accepts terminals.Structure (Word k) ≡ true → word_of k ≡ structure_word ordered →
        Comes ts at n (λ s. push (terminal terminals.Structure ∷ []) s) n (λ x s. s) (λ x end. (end ≡ at + 1) × TakesWord (structure_word x) (drop at ts) (drop end ts)) (Ok (ordered, drop 1 (drop at ts)))
    found k ordered e accepted spelled =
        let here : accepts terminals.Structure (lexeme_at ts at) ≡ true = ap (accepts terminals.Structure) e ∙ accepted in
        let word : TakesWord (structure_word ordered) (drop at ts) (drop (at + 1) ts) = (place_at ts at, subst (λ b. TakesWordAt (place_at ts at) b (drop at ts) (drop (at + 1) ts)) spelled (word_at ts at k e)) in
        rw (drop-drop 1 at ts) (on (omega arith) (taken ts at (Word k) e (λ g. cc)) (λ s. (pass_moves ts at terminals.Structure here refl n).run s) (done (refl, word)))

    go : (l : Lexeme) → lexeme_at ts at ≡ l →
        Comes ts at n (λ s. push (terminal terminals.Structure ∷ []) s) n (λ x s. s) (λ x end. (end ≡ at + 1) × TakesWord (structure_word x) (drop at ts) (drop end ts)) (descent.structure_by l (drop at ts))
    go (Word words.Equality) e = found words.Equality false e refl refl
    go (Word words.Order) e = found words.Order true e refl refl
    go _ e = stops (λ s. (pass_stuck ts at terminals.Structure (ap (accepts terminals.Structure) e) n).run s)

-- ---- lists

-- Items as long as a test says that one follows. The machine is in one of the states w before each and behind the last; R
-- says what an item is, and P what the items are together.
pub many_reads : {A X : Type 0} {ts : Tokens} {n : ℕ} {w : X → State} (test : Tokens → Bool) (item : Read A) (R : A → ℕ → ℕ → Type 0) (P : List A → ℕ → ℕ → Type 0) →
    ((at : ℕ) → test (drop at ts) ≡ false → P [] at at) → ((x : A) (xs : List A) (at b c : ℕ) → R x at b → P xs b c → P (x ∷ xs) at c) →
    ((at : ℕ) → test (drop at ts) ≡ true → Comes ts at n w n (λ x i. w i) (λ x end. (at < end) × R x at end) (item (drop at ts))) →
    (fuel at : ℕ) → length ts < fuel + at → Comes ts at n w n (λ xs i. w i) (λ xs end. P xs at end) (descent.many test item fuel (drop at ts))
many_reads {A} {X} {ts} {n} {w} test item R P none one reads zero at enough = record { run = λ inside. absurd (omega arith) }
many_reads {A} {X} {ts} {n} {w} test item R P none one reads (suc fuel) at enough =
    go (test (drop at ts)) refl (λ b further. many_reads test item R P none one reads fuel b (omega arith))
  where
    go : (t : Bool) → test (drop at ts) ≡ t → ((b : ℕ) → at < b → Comes ts b n w n (λ xs i. w i) (λ xs end. P xs b end) (descent.many test item fuel (drop b ts))) →
        Comes ts at n w n (λ xs i. w i) (λ xs end. P xs at end)
        (if t then item (drop at ts) >>= (λ x. descent.many test item fuel x.1 >>= (λ y. Ok (x.0 ∷ y.0, y.1))) else Ok ([], drop at ts))
    go false e more = done (none at e)
    go true e more =
        and_then _ (λ i. i) (reads at e) (λ x b further read. and_then _ (λ i. i) (more b read.0) (λ xs c later all. done (one x xs at b c read.1 all)))

-- the same with another word for what was read
pub told : {A X : Type 0} {ts : Tokens} {at n m : ℕ} {w : X → State} {v : A → X → State} {P Q : A → ℕ → Type 0} {r : Result (A × Tokens) ParseError} → ((x : A) (end : ℕ) → at ≤ end → P x end → Q x end) →
    Comes ts at n w m v P r → Comes ts at n w m v Q r
told {A} {X} {ts} {at} {n} {m} {w} {v} {P} {Q} {r} says h = record { run = λ inside. go r (h.run inside) }
  where
    go : (r : Result (A × Tokens) ParseError) → Outcome ts at n w m v P r → Outcome ts at n w m v Q r
    go (Ok x) g = record { end = g.end; rest = g.rest; forward = g.forward; inside = g.inside; moved = g.moved; read = says x.0 g.end g.forward g.read }
    go (Err e) g = g

-- the same with other states behind it, from which the machine does the same; g says which of the states are meant
pub led : {A X Y : Type 0} {ts : Tokens} {at n m : ℕ} {w : X → State} {v : A → X → State} {z : A → Y → State} {P : A → ℕ → Type 0} {r : Result (A × Tokens) ParseError} → (g : Y → X) →
    ((x : A) (end : ℕ) → P x end → (i : Y) → verdict end m (v x (g i)) (drop end ts) ≡ verdict end m (z x i) (drop end ts)) → Comes ts at n w m v P r → Comes ts at n (λ i. w (g i)) m z P r
led {A} {X} {Y} {ts} {at} {n} {m} {w} {v} {z} {P} {r} g same h = record { run = λ inside. go r (h.run inside) }
  where
    go : (r : Result (A × Tokens) ParseError) → Outcome ts at n w m v P r → Outcome ts at n (λ i. w (g i)) m z P r
    go (Ok x) o = record { end = o.end; rest = o.rest; forward = o.forward; inside = o.inside; moved = λ i. o.moved (g i) ∙ same x.0 o.end o.read i; read = o.read }
    go (Err e) o = record { enough = o.enough; stuck = λ i. o.stuck (g i) }

-- a comma with which the item x begins
pub comma_accepted : (l : Lexeme) → accepts terminals.Comma l ≡ true → l ≡ Symbol punctuators.Comma
comma_accepted (Symbol punctuators.Comma) e = refl
comma_accepted _ e = absurd (cc)

pub comma_moves : (ts : Tokens) (at n : ℕ) (x : Item) (v : List Item) → accepts terminals.Comma (lexeme_at ts at) ≡ true → item_start x (Symbol punctuators.Comma) ≡ Some v → Quiet x → Moves ts at n (x ∷ []) (at + 1) n v
comma_moves ts at n x v e starts quiet = plain_moves ts at n x v (Symbol punctuators.Comma) (token_at ts at (Symbol punctuators.Comma) (comma_accepted (lexeme_at ts at) e) (λ g. cc)) refl refl refl starts quiet

-- Items behind a first one, each behind one token, which is there as long as a test says so. The token takes the machine
-- from the states w to u, and an item back to w.
pub separated_reads : {A X : Type 0} {ts : Tokens} {n : ℕ} {w u : X → State} (test : Tokens → Bool) (item : Read A) (R : A → ℕ → ℕ → Type 0) (P : List A → ℕ → ℕ → Type 0) (Q : List A → ℕ → Type 0) (first : A) (at : ℕ) →
    ((at : ℕ) → test (drop at ts) ≡ true → (at + 1 ≤ length ts) × ((i : X) → verdict at n (w i) (drop at ts) ≡ verdict (at + 1) n (u i) (drop (at + 1) ts))) →
    ((at : ℕ) → test (drop at ts) ≡ false → P [] at at) →
    ((x : A) (xs : List A) (at b c : ℕ) → test (drop at ts) ≡ true → R x (at + 1) b → P xs b c → P (x ∷ xs) at c) →
    ((at : ℕ) → Comes ts at n u n (λ x i. w i) (λ x end. R x at end) (item (drop at ts))) →
    ((rest : List A) (end : ℕ) → at ≤ end → P rest at end → Q (first ∷ rest) end) →
    Comes ts at n w n (λ all i. w i) Q (descent.behind (first ∷ []) (descent.many test (descent.next item) (suc (length (drop at ts))) (drop at ts)))
separated_reads {A} {X} {ts} {n} {w} {u} test item R P Q first at separator none one reads whole =
    and_then _ (λ i. i)
    (many_reads test (descent.next item) (λ x b c. (test (drop b ts) ≡ true) × R x (b + 1) c) P none (λ x xs a b c h. one x xs a b c h.0 h.1) behind
    (suc (length (drop at ts))) at (let l = length-drop at ts in omega arith))
    (λ rest b forward all. done (whole rest b forward all))
  where
    behind : (at : ℕ) → test (drop at ts) ≡ true → Comes ts at n w n (λ x i. w i) (λ x c. (at < c) × ((test (drop at ts) ≡ true) × R x (at + 1) c)) (item (drop 1 (drop at ts)))
    behind at e =
        let there = separator at e in
        rw (drop-drop 1 at ts) (on (omega arith) there.0 there.1 (told (λ x c forward r. (omega arith, (e, r))) (reads (at + 1))))

-- the same with commas
pub listed_reads : {A X : Type 0} {ts : Tokens} {n : ℕ} {w u : X → State} (item : Read A) (R : A → ℕ → ℕ → Type 0) (P : List A → ℕ → ℕ → Type 0) (Q : List A → ℕ → Type 0) (first : A) (at : ℕ) →
    ((at : ℕ) → accepts terminals.Comma (lexeme_at ts at) ≡ true → (i : X) → verdict at n (w i) (drop at ts) ≡ verdict (at + 1) n (u i) (drop (at + 1) ts)) →
    ((at : ℕ) → accepts terminals.Comma (lexeme_at ts at) ≡ false → P [] at at) →
    ((x : A) (xs : List A) (at b c : ℕ) → TakesSymbol (codes ",") (drop at ts) (drop (at + 1) ts) → R x (at + 1) b → P xs b c → P (x ∷ xs) at c) →
    ((at : ℕ) → Comes ts at n u n (λ x i. w i) (λ x end. R x at end) (item (drop at ts))) →
    ((rest : List A) (end : ℕ) → at ≤ end → P rest at end → Q (first ∷ rest) end) → Comes ts at n w n (λ all i. w i) Q (descent.listed item first (drop at ts))
unfolding descent.listed lexeme_at
listed_reads {A} {X} {ts} {n} {w} {u} item R P Q first at comma none one reads whole =
    separated_reads (descent.begins terminals.Comma) item R P Q first at
    (λ b e. (taken ts b (lexeme_at ts b) refl (accepts_no_end terminals.Comma (lexeme_at ts b) e), comma b e)) none (λ x xs a b c e. one x xs a b c (one_at ts a terminals.Comma e)) reads whole
