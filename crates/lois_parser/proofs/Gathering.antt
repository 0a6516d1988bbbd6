-- Loops that gather what they read.
use Rattle.std.proofs.Common.{◌≡◌, ℕ, zero, suc, ◌+◌, ◌<◌, ◌≤◌, Bool, true, false, List, [], ◌∷◌, ◌++◌, length, drop, Result, Ok, Err, refl, sym, ap, ◌∙◌, append_assoc, length-append, arith}
use Rattle.std.proofs.lemmas.List.{append-nil}
use Rattle.lois_script.specs.Tree.{ExprD, CondD, StmtD}
use Rattle.lois_descent.specs.Descent.{Tokens, Read, ◌>>=◌, behind, many, begins, next, listed, begins_and, begins_or, more_units, more_conjunctions, more_parts, parts, goes_on, is_some, statement, outermost}
use Rattle.lois_descent.specs.Reading.{ErrorIs}
use Rattle.lois_descent.specs.declared.parse_error.ParseError.{ParseError}
use Rattle.lois_descent.specs.declared.parse_error.ParseError.TheVariants.{NoScript, TooNested, WideTuple, TurnsTooMany, NoMemory}
use Rattle.lois_descent.specs.declared.lexemes.Terminal.TheVariants as terminals

-- what was read so far, and what is read on from here, is the total
pub record Gathers {A : Type 0} (test : Tokens → Bool) (item : Read A) (front : List A) (s : Tokens) (total : Result (List A × Tokens) ParseError) : Type 0 where
  pub steps : ℕ
  pub enough : length s < steps
  pub same : behind front (many test item steps s) ≡ total

stops_by : {A : Type 0} (e : ParseError) (read total : Result A ParseError) → total ≡ read → ErrorIs e read → ErrorIs e total
stops_by NoMemory read total same h = tt
stops_by (NoScript left) read total same h = same ∙ h
stops_by (TooNested left) read total same h = same ∙ h
stops_by (WideTuple left) read total same h = same ∙ h
stops_by (TurnsTooMany left) read total same h = same ∙ h

stops_on : {A B : Type 0} (e : ParseError) (read : Result A ParseError) (f : A → Result B ParseError) → ErrorIs e read → ErrorIs e (read >>= f)
stops_on NoMemory read f h = tt
stops_on (NoScript left) read f h = ap (λ r. r >>= f) h
stops_on (TooNested left) read f h = ap (λ r. r >>= f) h
stops_on (WideTuple left) read f h = ap (λ r. r >>= f) h
stops_on (TurnsTooMany left) read f h = ap (λ r. r >>= f) h

regroup : {A : Type 0} (front : List A) (a : A) (read : Result (List A × Tokens) ParseError) → behind front (read >>= λ y. Ok (a ∷ y.0, y.1)) ≡ behind (front ++ a ∷ []) read
regroup front a (Ok x) = ap (λ (xs : List _). Ok (xs, x.1)) (sym (append_assoc front (a ∷ []) x.0))
regroup front a (Err e) = refl

-- one more than these steps
steps_more : {A : Type 0} (test : Tokens → Bool) (item : Read A) (front : List A) (s : Tokens) (total : Result (List A × Tokens) ParseError) →
    Gathers test item front s total → (k : ℕ) × (length s ≤ k) × (behind front (many test item (suc k) s) ≡ total)
steps_more {A} test item front s total h = go h.steps h.enough h.same
  where
    go : (n : ℕ) → length s < n → behind front (many test item n s) ≡ total → (k : ℕ) × (length s ≤ k) × (behind front (many test item (suc k) s) ≡ total)
    go zero enough same = absurd (omega arith)
    go (suc k) enough same = (k, omega arith, same)

module _ {A : Type 0} (test : Tokens → Bool) (item : Read A) where
  pub many_starts : (front : List A) (s : Tokens) → Gathers test item front s (behind front (many test item (suc (length s)) s))
  many_starts front s = record { steps = suc (length s); enough = omega arith; same = refl }

  pub many_next : (front : List A) (s : Tokens) (a : A) (rest : Tokens) (total : Result (List A × Tokens) ParseError) →
      test s ≡ true → item s ≡ Ok (a, rest) → length rest < length s → Gathers test item front s total → Gathers test item (front ++ a ∷ []) rest total
  many_next front s a rest total here found shorter h =
      let o = steps_more test item front s total h in
      let le : length s ≤ o.0 = o.1 in
      let step : behind front (many test item (suc o.0) s) ≡ behind (front ++ a ∷ []) (many test item o.0 rest) = rw (here, found) (regroup front a (many test item o.0 rest)) in
      record { steps = o.0; enough = omega arith; same = sym step ∙ o.2 }

  pub many_last : (front : List A) (s : Tokens) (total : Result (List A × Tokens) ParseError) → test s ≡ false → Gathers test item front s total → total ≡ Ok (front, s)
  many_last front s total none h =
      let o = steps_more test item front s total h in
      let step : behind front (many test item (suc o.0) s) ≡ Ok (front, s) = rw none (ap (λ (xs : List A). Ok (xs, s)) (append-nil front)) in
      sym o.2 ∙ step

  pub many_halts : (e : ParseError) (front : List A) (s : Tokens) (total : Result (List A × Tokens) ParseError) → test s ≡ true → ErrorIs e (item s) → Gathers test item front s total → ErrorIs e total
  many_halts e front s total here failed h =
      let o = steps_more test item front s total h in
      let read = behind front (item s >>= (λ x. many test item o.0 x.1 >>= (λ y. Ok (x.0 ∷ y.0, y.1)))) in
      let step : behind front (many test item (suc o.0) s) ≡ behind front (item s >>= (λ x. many test item o.0 x.1 >>= (λ y. Ok (x.0 ∷ y.0, y.1)))) = rw here refl in
      stops_by e (behind front (item s >>= (λ x. many test item o.0 x.1 >>= (λ y. Ok (x.0 ∷ y.0, y.1))))) total (sym o.2 ∙ step)
      (stops_on e (item s >>= (λ x. many test item o.0 x.1 >>= (λ y. Ok (x.0 ∷ y.0, y.1)))) (λ y. Ok (front ++ y.0, y.1)) (stops_on e (item s) (λ x. many test item o.0 x.1 >>= (λ y. Ok (x.0 ∷ y.0, y.1))) failed))

pub listed_starts : {A : Type 0} (item : Read A) (first : A) (s : Tokens) → Gathers (begins terminals.Comma) (next item) (first ∷ []) s (listed item first s)
unfolding listed
listed_starts item first s = many_starts (begins terminals.Comma) (next item) (first ∷ []) s

pub units_start : (item : Read CondD) (first : CondD) (s : Tokens) → Gathers begins_and (next item) (first ∷ []) s (more_units item first s)
unfolding more_units
units_start item first s = many_starts begins_and (next item) (first ∷ []) s

pub conjunctions_start : (item : Read CondD) (first : CondD) (s : Tokens) → Gathers begins_or (next item) (first ∷ []) s (more_conjunctions item first s)
unfolding more_conjunctions
conjunctions_start item first s = many_starts begins_or (next item) (first ∷ []) s

nothing_behind : {A : Type 0} (read : Result (List A × Tokens) ParseError) → behind [] read ≡ read
nothing_behind (Ok x) = refl
nothing_behind (Err e) = refl

pub statements_start : (item : Read StmtD) (s : Tokens) → Gathers goes_on item [] s (many goes_on item (suc (length s)) s)
statements_start item s = record { steps = suc (length s); enough = omega arith; same = nothing_behind (many goes_on item (suc (length s)) s) }

pub outermost_start : (depth_left : ℕ) (b : Read (List StmtD)) (s : Tokens) → Gathers is_some (statement depth_left b) [] s (outermost depth_left b s)
unfolding outermost
outermost_start depth_left b s = record { steps = suc (length s); enough = omega arith; same = nothing_behind (many is_some (statement depth_left b) (suc (length s)) s) }

pub some_ahead : (s : Tokens) → 0 < length s → is_some s ≡ true
some_ahead [] h = absurd (omega arith)
some_ahead (t ∷ ts) h = refl

pub none_ahead : (s : Tokens) → length s ≡ 0 → is_some s ≡ false
none_ahead [] h = refl
none_ahead (t ∷ ts) h = absurd (omega arith)

-- the parts of a tuple so far, of which eight may come, and what is read on from here
pub record Parts (e : Read ExprD) (front : List ExprD) (s : Tokens) (total : Result (List ExprD × Tokens) ParseError) : Type 0 where
  pub left : ℕ
  pub few : length front + left ≡ 8
  pub same : behind front (more_parts e left s) ≡ total

module _ (e : Read ExprD) where
  pub parts_start : (first : ExprD) (s : Tokens) → Parts e (first ∷ []) s (parts e first s)
  unfolding parts
  parts_start first s = record { left = 7; few = refl; same = refl }

  pub parts_last : (front : List ExprD) (s : Tokens) (total : Result (List ExprD × Tokens) ParseError) → begins terminals.Comma s ≡ false → Parts e front s total → total ≡ Ok (front, s)
  parts_last front s total none h = sym h.same ∙ go h.left
    where
      go : (n : ℕ) → behind front (more_parts e n s) ≡ Ok (front, s)
      go zero = rw none (ap (λ (xs : List ExprD). Ok (xs, s)) (append-nil front))
      go (suc n) = rw none (ap (λ (xs : List ExprD). Ok (xs, s)) (append-nil front))

  pub parts_full : (front : List ExprD) (s : Tokens) (total : Result (List ExprD × Tokens) ParseError) → begins terminals.Comma s ≡ true → length front ≡ 8 → Parts e front s total → total ≡ Err (WideTuple (length s))
  parts_full front s total here full h = let few = h.few in sym h.same ∙ go h.left (omega arith)
    where
      go : (n : ℕ) → n ≡ 0 → behind front (more_parts e n s) ≡ Err (WideTuple (length s))
      go zero none = rw here refl
      go (suc n) none = absurd (omega arith)

  -- room for one more part
  room_left : (front : List ExprD) (s : Tokens) (total : Result (List ExprD × Tokens) ParseError) → (length front ≡ 8 → ⊥) → Parts e front s total →
      (k : ℕ) × (length front + suc k ≡ 8) × (behind front (more_parts e (suc k) s) ≡ total)
  room_left front s total depth_left h = go h.left h.few h.same
    where
      go : (n : ℕ) → length front + n ≡ 8 → behind front (more_parts e n s) ≡ total → (k : ℕ) × (length front + suc k ≡ 8) × (behind front (more_parts e (suc k) s) ≡ total)
      go zero few same = absurd (depth_left (omega arith))
      go (suc k) few same = (k, few, same)

  pub parts_next : (front : List ExprD) (s : Tokens) (a : ExprD) (rest : Tokens) (total : Result (List ExprD × Tokens) ParseError) →
      begins terminals.Comma s ≡ true → (length front ≡ 8 → ⊥) → e (drop 1 s) ≡ Ok (a, rest) → Parts e front s total → Parts e (front ++ a ∷ []) rest total
  parts_next front s a rest total here depth_left found h =
      let o = room_left front s total depth_left h in
      let count : length front + suc o.0 ≡ 8 = o.1 in
      let step : behind front (more_parts e (suc o.0) s) ≡ behind (front ++ a ∷ []) (more_parts e o.0 rest) = rw (here, found) (regroup front a (more_parts e o.0 rest)) in
      record { left = o.0; few = omega (arith, length-append front (a ∷ [])); same = sym step ∙ o.2 }

  pub parts_halt : (error : ParseError) (front : List ExprD) (s : Tokens) (total : Result (List ExprD × Tokens) ParseError) →
      begins terminals.Comma s ≡ true → (length front ≡ 8 → ⊥) → ErrorIs error (e (drop 1 s)) → Parts e front s total → ErrorIs error total
  parts_halt error front s total here depth_left failed h =
      let o = room_left front s total depth_left h in
      let step : behind front (more_parts e (suc o.0) s) ≡ behind front (e (drop 1 s) >>= (λ x. more_parts e o.0 x.1 >>= (λ y. Ok (x.0 ∷ y.0, y.1)))) = rw here refl in
      stops_by error (behind front (e (drop 1 s) >>= (λ x. more_parts e o.0 x.1 >>= (λ y. Ok (x.0 ∷ y.0, y.1))))) total (sym o.2 ∙ step)
      (stops_on error (e (drop 1 s) >>= (λ x. more_parts e o.0 x.1 >>= (λ y. Ok (x.0 ∷ y.0, y.1)))) (λ y. Ok (front ++ y.0, y.1)) (stops_on error (e (drop 1 s)) (λ x. more_parts e o.0 x.1 >>= (λ y. Ok (x.0 ∷ y.0, y.1))) failed))
