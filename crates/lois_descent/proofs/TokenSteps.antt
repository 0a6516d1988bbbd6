-- Steps of the machine over the tokens that the reader sees.
use Rattle.std.proofs.Common.{◌≡◌, ◌≢◌, ℕ, zero, suc, ◌+◌, ◌-◌, ◌<◌, Bool, true, false, ◌&&◌, Option, Some, None, List, [], ◌∷◌, ◌++◌, drop, append_assoc, ap₂, refl, sym, ap, ◌∙◌, subst, arith, eq-eqb, ne_eqb}
use Rattle.std.specs.Prelude.{nat_eq, option_map, if◌then◌else◌}
use Rattle.std.specs.Prelude.{cond as choose}
use Rattle.lois_script.specs.Grammar.{PlacedToken}
use Rattle.lois_script.specs.Limits.{opens, closes, open_after}
use Rattle.lois_descent.specs.Lexemes.{lexeme_of}
use Rattle.lois_descent.specs.Machine.{Item, State, behind, item_start, at_bottom, step}
use Rattle.lois_descent.specs.declared.lexemes.Lexeme.{Lexeme}
use Rattle.lois_descent.specs.declared.lexemes.Lexeme.TheVariants.{End, Name, Tag, Number, Word, Symbol, Other}
use Rattle.lois_descent.specs.declared.lexemes.Punctuator.{Punctuator}
use Rattle.lois_descent.specs.declared.lexemes.Punctuator.TheVariants as punctuators
use Rattle.lois_descent.specs.Machine.{push, breach, item_breach, settle, unless_over, no_script, over, Verdict, refused, at_end, is_end_of, verdict}
use Rattle.lois_descent.specs.Refusals.{Limit, nesting}
use Rattle.lois_descent.specs.Steps.{first_lexeme, lexeme_at, Moves, RefusalMatches, Stuck}
use Rattle.lois_descent.specs.Refusals.{Refusal}
use Rattle.lois_descent.specs.Refusals.{NoScript, TooNested}
use Rattle.lois_descent.proofs.Tokens.{taken_word, taken_sign, taken_name, taken_number, taken_tag}
use Rattle.lois_descent.proofs.Verdicts.{verdict_stuck, verdict_over, verdict_next, verdict_end}

-- what follows a token
pub rest_is : (ts : List PlacedToken) (at : ℕ) (t : PlacedToken) (r : List PlacedToken) → drop at ts ≡ t ∷ r → r ≡ drop (at + 1) ts
rest_is [] zero t r e = absurd (cc)
rest_is [] (suc at) t r e = absurd (cc)
rest_is (u ∷ ts) zero t r e = let same_rest : ts ≡ r = cc in sym same_rest
rest_is (u ∷ ts) (suc at) t r e = rest_is ts at t r e ∙ ap (λ x. drop x (u ∷ ts)) (go at)
  where
    go : (x : ℕ) → suc (x + 1) ≡ suc x + 1
    go x = omega arith

pub record TokenAt (ts : List PlacedToken) (at : ℕ) (l : Lexeme) : Type 0 where
  pub it : PlacedToken
  pub here : drop at ts ≡ it ∷ drop (at + 1) ts
  pub lexeme : lexeme_of it ≡ l

pub token_at : (ts : List PlacedToken) (at : ℕ) (l : Lexeme) → lexeme_at ts at ≡ l → (l ≡ End → ⊥) → TokenAt ts at l
unfolding lexeme_at
token_at ts at l e some = go (drop at ts) refl e
  where
    go : (r : List PlacedToken) → drop at ts ≡ r → first_lexeme r ≡ l → TokenAt ts at l
    go [] h g = absurd (some (sym g))
    go (t ∷ r) h g = record { it = t; here = h ∙ ap (λ x. t ∷ x) (rest_is ts at t r h); lexeme = g }

-- brackets
abbrev pub opens_by : Lexeme → Bool
opens_by (Symbol punctuators.OpenRound) = true
opens_by (Symbol punctuators.OpenSquare) = true
opens_by (Symbol punctuators.OpenCurly) = true
opens_by _ = false

abbrev pub closes_by : Lexeme → Bool
closes_by (Symbol punctuators.CloseRound) = true
closes_by (Symbol punctuators.CloseSquare) = true
closes_by (Symbol punctuators.CloseCurly) = true
closes_by _ = false

abbrev pub is_known : Lexeme → Bool
is_known Other = false
is_known End = false
is_known _ = true

abbrev first_opens : List PlacedToken → Bool
first_opens [] = false
first_opens (t ∷ ts) = opens t

abbrev first_closes : List PlacedToken → Bool
first_closes [] = false
first_closes (t ∷ ts) = closes t

opens_sign : (t : PlacedToken) (s : Punctuator) → lexeme_of t ≡ Symbol s → opens t ≡ opens_by (Symbol s)
opens_sign t punctuators.Semicolon e = ap first_opens (taken_sign t punctuators.Semicolon e [])
opens_sign t punctuators.Comma e = ap first_opens (taken_sign t punctuators.Comma e [])
opens_sign t punctuators.OpenRound e = ap first_opens (taken_sign t punctuators.OpenRound e [])
opens_sign t punctuators.CloseRound e = ap first_opens (taken_sign t punctuators.CloseRound e [])
opens_sign t punctuators.OpenSquare e = ap first_opens (taken_sign t punctuators.OpenSquare e [])
opens_sign t punctuators.CloseSquare e = ap first_opens (taken_sign t punctuators.CloseSquare e [])
opens_sign t punctuators.OpenCurly e = ap first_opens (taken_sign t punctuators.OpenCurly e [])
opens_sign t punctuators.CloseCurly e = ap first_opens (taken_sign t punctuators.CloseCurly e [])
opens_sign t punctuators.Becomes e = ap first_opens (taken_sign t punctuators.Becomes e [])
opens_sign t punctuators.Colon e = ap first_opens (taken_sign t punctuators.Colon e [])
opens_sign t punctuators.Equal e = ap first_opens (taken_sign t punctuators.Equal e [])
opens_sign t punctuators.Differs e = ap first_opens (taken_sign t punctuators.Differs e [])
opens_sign t punctuators.Below e = ap first_opens (taken_sign t punctuators.Below e [])

closes_sign : (t : PlacedToken) (s : Punctuator) → lexeme_of t ≡ Symbol s → closes t ≡ closes_by (Symbol s)
closes_sign t punctuators.Semicolon e = ap first_closes (taken_sign t punctuators.Semicolon e [])
closes_sign t punctuators.Comma e = ap first_closes (taken_sign t punctuators.Comma e [])
closes_sign t punctuators.OpenRound e = ap first_closes (taken_sign t punctuators.OpenRound e [])
closes_sign t punctuators.CloseRound e = ap first_closes (taken_sign t punctuators.CloseRound e [])
closes_sign t punctuators.OpenSquare e = ap first_closes (taken_sign t punctuators.OpenSquare e [])
closes_sign t punctuators.CloseSquare e = ap first_closes (taken_sign t punctuators.CloseSquare e [])
closes_sign t punctuators.OpenCurly e = ap first_closes (taken_sign t punctuators.OpenCurly e [])
closes_sign t punctuators.CloseCurly e = ap first_closes (taken_sign t punctuators.CloseCurly e [])
closes_sign t punctuators.Becomes e = ap first_closes (taken_sign t punctuators.Becomes e [])
closes_sign t punctuators.Colon e = ap first_closes (taken_sign t punctuators.Colon e [])
closes_sign t punctuators.Equal e = ap first_closes (taken_sign t punctuators.Equal e [])
closes_sign t punctuators.Differs e = ap first_closes (taken_sign t punctuators.Differs e [])
closes_sign t punctuators.Below e = ap first_closes (taken_sign t punctuators.Below e [])

pub opens_is : (t : PlacedToken) (l : Lexeme) → lexeme_of t ≡ l → is_known l ≡ true → opens t ≡ opens_by l
opens_is t End e known = absurd (cc)
opens_is t Other e known = absurd (cc)
opens_is t Name e known = ap first_opens (taken_name t e [])
opens_is t Tag e known = let h = taken_tag t e [] in ap first_opens h.1
opens_is t Number e known = let h = taken_number t e [] in ap first_opens h.2
opens_is t (Word k) e known = ap first_opens (taken_word t k e [])
opens_is t (Symbol s) e known = opens_sign t s e

closes_is : (t : PlacedToken) (l : Lexeme) → lexeme_of t ≡ l → is_known l ≡ true → closes t ≡ closes_by l
closes_is t End e known = absurd (cc)
closes_is t Other e known = absurd (cc)
closes_is t Name e known = ap first_closes (taken_name t e [])
closes_is t Tag e known = let h = taken_tag t e [] in ap first_closes h.1
closes_is t Number e known = let h = taken_number t e [] in ap first_closes h.2
closes_is t (Word k) e known = ap first_closes (taken_word t k e [])
closes_is t (Symbol s) e known = closes_sign t s e

counted : (n : ℕ) (t : PlacedToken) (a b : Bool) → opens t ≡ a → closes t ≡ b → open_after n t ≡ (if a then (suc n) else (if b then (n - 1) else n))
counted n t a b p q = ap₂ (λ (x y : Bool). if x then (suc n) else (if y then (n - 1) else n)) p q

-- an item that no limit is about
abbrev pub Quiet : Item → Type 0
Quiet x = (rest : List Item) (t : PlacedToken) → item_breach (x ∷ rest) t ≡ None

no_breach : (a b : Bool) (o : Option Limit) → a && b ≡ false → o ≡ None → choose (a && b) (Some nesting) o ≡ None
no_breach a b o p q = ap (λ x. choose x (Some nesting) o) p ∙ q

pub and_false : (a b : Bool) → b ≡ false → a && b ≡ false
and_false true b e = e
and_false false b e = refl

left_false : (a b : Bool) → a ≡ false → a && b ≡ false
left_false a b e = ap (λ x. x && b) e

-- one token, from one state to another
pub state_moves : (ts : List PlacedToken) (at n m : ℕ) (s next : State) (t : PlacedToken) → drop at ts ≡ t ∷ drop (at + 1) ts → step s (lexeme_of t) ≡ Some next → breach n s.stack t ≡ None → open_after n t ≡ m →
    verdict at n s (drop at ts) ≡ verdict (at + 1) m next (drop (at + 1) ts)
state_moves ts at n m s next t here steps calm open_count =
    let one_more : suc at ≡ at + 1 = omega arith in
    ap (verdict at n s) here ∙ verdict_next at n s next t (drop (at + 1) ts) steps calm ∙ ap₂ (λ i k. verdict i k next (drop (at + 1) ts)) one_more open_count

-- a token that is no bracket, where it goes over no limit
pub state_passes : (ts : List PlacedToken) (at n : ℕ) (s next : State) (l : Lexeme) (k : TokenAt ts at l) → is_known l ≡ true → opens_by l ≡ false → closes_by l ≡ false → step s l ≡ Some next → item_breach s.stack k.it ≡ None →
    verdict at n s (drop at ts) ≡ verdict (at + 1) n next (drop (at + 1) ts)
state_passes ts at n s next l k known no_opener no_closer steps calm =
    let opens_not : opens k.it ≡ false = opens_is k.it l k.lexeme known ∙ no_opener in
    let closes_not : closes k.it ≡ false = closes_is k.it l k.lexeme known ∙ no_closer in
    state_moves ts at n n s next k.it k.here (ap (step s) k.lexeme ∙ steps)
    (no_breach (opens k.it) (nat_eq n 64) (item_breach s.stack k.it) (left_false (opens k.it) (nat_eq n 64) opens_not) calm) (counted n k.it false false opens_not closes_not)

-- a token that goes on nothing
pub state_stuck : (ts : List PlacedToken) (at n : ℕ) (s : State) → step s (lexeme_at ts at) ≡ None → (drop at ts ≡ [] → is_end_of s.stack ≡ false) → verdict at n s (drop at ts) ≡ refused no_script at
unfolding lexeme_at
state_stuck ts at n s e unfinished = go (drop at ts) e unfinished
  where
    go : (r : List PlacedToken) → step s (first_lexeme r) ≡ None → (r ≡ [] → is_end_of s.stack ≡ false) → verdict at n s r ≡ refused no_script at
    go [] g h = verdict_end at n s ∙ ap (at_end at) (h refl)
    go (t ∷ r) g h = verdict_stuck at n s t r g

-- two states that the next token brings to the same
pub state_same : (ts : List PlacedToken) (at n : ℕ) (s u : State) → ((t : PlacedToken) → item_breach s.stack t ≡ None) → ((t : PlacedToken) → item_breach u.stack t ≡ None) → is_end_of s.stack ≡ is_end_of u.stack →
    step s (lexeme_at ts at) ≡ step u (lexeme_at ts at) → verdict at n s (drop at ts) ≡ verdict at n u (drop at ts)
unfolding lexeme_at verdict
state_same ts at n s u calm_s calm_u ends e = go (drop at ts) e
  where
    go : (r : List PlacedToken) → step s (first_lexeme r) ≡ step u (first_lexeme r) → verdict at n s r ≡ verdict at n u r
    go [] g = ap (at_end at) ends
    go (t ∷ r) g =
        let calm : breach n s.stack t ≡ breach n u.stack t = ap (λ o. choose (opens t && nat_eq n 64) (Some nesting) o) (calm_s t ∙ sym (calm_u t)) in
        ap₂ (λ o b. settle at o (λ next. unless_over at b (verdict (suc at) (open_after n t) next r))) g calm

-- one token for the item on top
pub token_moves : (ts : List PlacedToken) (at n m : ℕ) (x : Item) (v : List Item) (t : PlacedToken) → drop at ts ≡ t ∷ drop (at + 1) ts → item_start x (lexeme_of t) ≡ Some v →
    ((rest : List Item) → breach n (x ∷ rest) t ≡ None) → open_after n t ≡ m → Moves ts at n (x ∷ []) (at + 1) m v
token_moves ts at n m x v t here starts calm open_count =
    record { run = λ s. state_moves ts at n m (push (x ∷ []) s) (push v s) t here (ap (option_map (λ w. at_bottom s.bottom (w ++ s.stack))) starts) (calm s.stack) open_count }

pub token_over : (ts : List PlacedToken) (at n : ℕ) (x : Item) (v : List Item) (t : PlacedToken) (limit : Limit) → drop at ts ≡ t ∷ drop (at + 1) ts → item_start x (lexeme_of t) ≡ Some v →
    ((rest : List Item) → breach n (x ∷ rest) t ≡ Some limit) → (s : State) → verdict at n (push (x ∷ []) s) (drop at ts) ≡ refused (over limit) at
token_over ts at n x v t limit here starts over_it s =
    ap (verdict at n (push (x ∷ []) s)) here ∙
    verdict_over at n (push (x ∷ []) s) (push v s) t (drop (at + 1) ts) limit (ap (option_map (λ w. at_bottom s.bottom (w ++ s.stack))) starts) (over_it s.stack)

-- a token that is no bracket, where it goes over no limit
pub plain_moves_at : (ts : List PlacedToken) (at n : ℕ) (x : Item) (v : List Item) (l : Lexeme) → (k : TokenAt ts at l) → is_known l ≡ true → opens_by l ≡ false → closes_by l ≡ false →
    item_start x l ≡ Some v → ((rest : List Item) → item_breach (x ∷ rest) k.it ≡ None) → Moves ts at n (x ∷ []) (at + 1) n v
plain_moves_at ts at n x v l k known no_opener no_closer starts quiet =
    record { run = λ s. state_passes ts at n (push (x ∷ []) s) (push v s) l k known no_opener no_closer (ap (option_map (λ w. at_bottom s.bottom (w ++ s.stack))) starts) (quiet s.stack) }

pub plain_moves : (ts : List PlacedToken) (at n : ℕ) (x : Item) (v : List Item) (l : Lexeme) → TokenAt ts at l → is_known l ≡ true → opens_by l ≡ false → closes_by l ≡ false →
    item_start x l ≡ Some v → Quiet x → Moves ts at n (x ∷ []) (at + 1) n v
plain_moves ts at n x v l k known no_opener no_closer starts quiet = plain_moves_at ts at n x v l k known no_opener no_closer starts (λ rest. quiet rest k.it)

pub close_moves_at : (ts : List PlacedToken) (at n : ℕ) (x : Item) (v : List Item) (l : Lexeme) → (k : TokenAt ts at l) → is_known l ≡ true → opens_by l ≡ false → closes_by l ≡ true →
    item_start x l ≡ Some v → ((rest : List Item) → item_breach (x ∷ rest) k.it ≡ None) → Moves ts at (n + 1) (x ∷ []) (at + 1) n v
close_moves_at ts at n x v l k known no_opener closer starts quiet =
    let opens_not : opens k.it ≡ false = opens_is k.it l k.lexeme known ∙ no_opener in
    let fewer : (n + 1) - 1 ≡ n = omega arith in
    token_moves ts at (n + 1) n x v k.it k.here (ap (item_start x) k.lexeme ∙ starts)
    (λ rest. no_breach (opens k.it) (nat_eq (n + 1) 64) (item_breach (x ∷ rest) k.it) (left_false (opens k.it) (nat_eq (n + 1) 64) opens_not) (quiet rest))
    (counted (n + 1) k.it false true opens_not (closes_is k.it l k.lexeme known ∙ closer) ∙ fewer)

pub close_moves : (ts : List PlacedToken) (at n : ℕ) (x : Item) (v : List Item) (l : Lexeme) → TokenAt ts at l → is_known l ≡ true → opens_by l ≡ false → closes_by l ≡ true →
    item_start x l ≡ Some v → Quiet x → Moves ts at (n + 1) (x ∷ []) (at + 1) n v
close_moves ts at n x v l k known no_opener closer starts quiet = close_moves_at ts at n x v l k known no_opener closer starts (λ rest. quiet rest k.it)

pub open_moves : (ts : List PlacedToken) (at n : ℕ) (x : Item) (v : List Item) (l : Lexeme) → TokenAt ts at l → is_known l ≡ true → opens_by l ≡ true → n < 64 →
    item_start x l ≡ Some v → Quiet x → Moves ts at n (x ∷ []) (at + 1) (n + 1) v
open_moves ts at n x v l k known opener depth_left starts quiet =
    let not_full : n ≢ 64 = omega arith in
    let more : suc n ≡ n + 1 = omega arith in
    token_moves ts at n (n + 1) x v k.it k.here (ap (item_start x) k.lexeme ∙ starts)
    (λ rest. no_breach (opens k.it) (nat_eq n 64) (item_breach (x ∷ rest) k.it) (and_false (opens k.it) (nat_eq n 64) (ne_eqb n 64 not_full)) (quiet rest k.it))
    (counted n k.it true (closes k.it) (opens_is k.it l k.lexeme known ∙ opener) refl ∙ more)

-- a bracket where 64 are open
pub full_stuck : (ts : List PlacedToken) (at n : ℕ) (x : Item) (v : List Item) (l : Lexeme) → TokenAt ts at l → is_known l ≡ true → opens_by l ≡ true → n ≡ 64 → item_start x l ≡ Some v →
    Stuck ts at n (x ∷ []) (TooNested at)
full_stuck ts at n x v l k known opener full starts = record { run = token_over ts at n x v k.it nesting k.here (ap (item_start x) k.lexeme ∙ starts) deep }
  where
    deep : (rest : List Item) → breach n (x ∷ rest) k.it ≡ Some nesting
    deep rest = ap₂ (λ (a b : Bool). choose (a && b) (Some nesting) (item_breach (x ∷ rest) k.it)) (opens_is k.it l k.lexeme known ∙ opener) (eq-eqb n 64 full)

-- a token that goes on no form
pub missed : (ts : List PlacedToken) (at n : ℕ) (x : Item) → item_start x (lexeme_at ts at) ≡ None → Stuck ts at n (x ∷ []) (NoScript at)
missed ts at n x e = record { run = λ s. state_stuck ts at n (push (x ∷ []) s) (ap (option_map (λ w. at_bottom s.bottom (w ++ s.stack))) e) (λ none. refl) }

-- Two stacks that begin with the same tokens, and on which those bring the same.
same_start : (ts : List PlacedToken) (at n : ℕ) (x y : Item) (v : List Item) → Quiet x → Quiet y →
    ((s : State) → step (push (x ∷ []) s) (lexeme_at ts at) ≡ step (push (y ∷ v) s) (lexeme_at ts at)) → Moves ts at n (x ∷ []) at n (y ∷ v)
same_start ts at n x y v quiet_x quiet_y e = record { run = λ s. state_same ts at n (push (x ∷ []) s) (push (y ∷ v) s) (quiet_x s.stack) (quiet_y (v ++ s.stack)) refl (e s) }

pub same_alone : (ts : List PlacedToken) (at n : ℕ) (x y : Item) → Quiet x → Quiet y → item_start x (lexeme_at ts at) ≡ item_start y (lexeme_at ts at) → Moves ts at n (x ∷ []) at n (y ∷ [])
same_alone ts at n x y quiet_x quiet_y e = same_start ts at n x y [] quiet_x quiet_y (λ s. ap (option_map (λ w. at_bottom s.bottom (w ++ s.stack))) e)

behind_stack : (v : List Item) (s : State) (o : Option (List Item)) → option_map (λ w. at_bottom s.bottom (w ++ s.stack)) (behind v o) ≡ option_map (λ w. at_bottom s.bottom (w ++ (v ++ s.stack))) o
behind_stack v s None = refl
behind_stack v s (Some w) = ap (λ k. Some (at_bottom s.bottom k)) (append_assoc w v s.stack)

pub same_behind : (ts : List PlacedToken) (at n : ℕ) (x y : Item) (v : List Item) → Quiet x → Quiet y → item_start x (lexeme_at ts at) ≡ behind v (item_start y (lexeme_at ts at)) → Moves ts at n (x ∷ []) at n (y ∷ v)
same_behind ts at n x y v quiet_x quiet_y e =
    same_start ts at n x y v quiet_x quiet_y (λ s. ap (option_map (λ w. at_bottom s.bottom (w ++ s.stack))) e ∙ behind_stack v s (item_start y (lexeme_at ts at)))

-- how the pieces of a form make the form
pub along : (ts : List PlacedToken) (e : Refusal) (v w : Verdict) → v ≡ w → RefusalMatches ts e w → RefusalMatches ts e v
along ts e v w p h = subst (RefusalMatches ts e) (sym p) h
