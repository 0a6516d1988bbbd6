-- What the machine's verdict says of the tokens.
use Rattle.std.proofs.Common.{◌≡◌, ℕ, suc, ◌+◌, ◌<◌, Bool, true, false, ◌⊎◌, inl, inr, Option, Some, None, List, [], ◌∷◌, ◌++◌, length, take, refl, sym, ap, ◌∙◌, subst, arith}
use Rattle.lois_script.specs.Grammar.{PlacedToken}
use Rattle.lois_script.specs.Limits.{open_after}
use Rattle.lois_descent.specs.Lexemes.{lexeme_of}
use Rattle.lois_descent.specs.Machine.{State, step}
use Rattle.lois_descent.proofs.Language.{Completes}
use Rattle.lois_descent.specs.Machine.{breach, Cause, no_script, over, refused, at_end, is_end_of, settle, unless_over, verdict}
use Rattle.lois_descent.specs.Refusals.{Limit}
use Rattle.lois_descent.proofs.Sound.{NoLimits, sound_step}
use Rattle.lois_descent.proofs.Complete.{complete_step, complete_end}
use Rattle.lois_descent.proofs.Finish.{finish}

pub verdict_stuck : (i n : ℕ) (s : State) (t : PlacedToken) (ts : List PlacedToken) → step s (lexeme_of t) ≡ None → verdict i n s (t ∷ ts) ≡ refused no_script i
unfolding verdict
verdict_stuck i n s t ts e = ap (λ o. settle i o (λ next. unless_over i (breach n s.stack t) (verdict (suc i) (open_after n t) next ts))) e

verdict_taken : (i n : ℕ) (s next : State) (t : PlacedToken) (ts : List PlacedToken) → step s (lexeme_of t) ≡ Some next → verdict i n s (t ∷ ts) ≡ unless_over i (breach n s.stack t) (verdict (suc i) (open_after n t) next ts)
unfolding verdict
verdict_taken i n s next t ts e = ap (λ o. settle i o (λ next. unless_over i (breach n s.stack t) (verdict (suc i) (open_after n t) next ts))) e

pub verdict_over : (i n : ℕ) (s next : State) (t : PlacedToken) (ts : List PlacedToken) (limit : Limit) → step s (lexeme_of t) ≡ Some next → breach n s.stack t ≡ Some limit → verdict i n s (t ∷ ts) ≡ refused (over limit) i
verdict_over i n s next t ts limit e b = verdict_taken i n s next t ts e ∙ ap (λ o. unless_over i o (verdict (suc i) (open_after n t) next ts)) b

pub verdict_next : (i n : ℕ) (s next : State) (t : PlacedToken) (ts : List PlacedToken) → step s (lexeme_of t) ≡ Some next → breach n s.stack t ≡ None → verdict i n s (t ∷ ts) ≡ verdict (suc i) (open_after n t) next ts
verdict_next i n s next t ts e b = verdict_taken i n s next t ts e ∙ ap (λ o. unless_over i o (verdict (suc i) (open_after n t) next ts)) b

pub verdict_end : (i n : ℕ) (s : State) → verdict i n s [] ≡ at_end i (is_end_of s.stack)
unfolding verdict
verdict_end i n s = refl

-- what the machine does with a token
pub data Turn (i n : ℕ) (s : State) (t : PlacedToken) (ts : List PlacedToken) : Type 0 where
  stuck : step s (lexeme_of t) ≡ None → verdict i n s (t ∷ ts) ≡ refused no_script i → Turn i n s t ts
  stopped : (next : State) (limit : Limit) → step s (lexeme_of t) ≡ Some next → breach n s.stack t ≡ Some limit → verdict i n s (t ∷ ts) ≡ refused (over limit) i → Turn i n s t ts
  moved : (next : State) → step s (lexeme_of t) ≡ Some next → breach n s.stack t ≡ None → verdict i n s (t ∷ ts) ≡ verdict (suc i) (open_after n t) next ts → Turn i n s t ts

turn_over : (i n : ℕ) (s next : State) (t : PlacedToken) (ts : List PlacedToken) → step s (lexeme_of t) ≡ Some next → (b : Option Limit) → breach n s.stack t ≡ b → Turn i n s t ts
turn_over i n s next t ts e None b = moved next e b (verdict_next i n s next t ts e b)
turn_over i n s next t ts e (Some limit) b = stopped next limit e b (verdict_over i n s next t ts limit e b)

turn_from : (i n : ℕ) (s : State) (t : PlacedToken) (ts : List PlacedToken) (o : Option State) → step s (lexeme_of t) ≡ o → Turn i n s t ts
turn_from i n s t ts None e = stuck e (verdict_stuck i n s t ts e)
turn_from i n s t ts (Some next) e = turn_over i n s next t ts e (breach n s.stack t) refl

pub turn : (i n : ℕ) (s : State) (t : PlacedToken) (ts : List PlacedToken) → Turn i n s t ts
turn i n s t ts = turn_from i n s t ts (step s (lexeme_of t)) refl

-- why the machine stops at the token number d of those that are left
abbrev pub CauseAt : Cause → State → ℕ → List PlacedToken → Type 0
CauseAt no_script s d ts =
    ((d < length ts) × ((more : List PlacedToken) → Completes NoLimits s (take (suc d) ts ++ more) → ⊥)) ⊎ ((d ≡ length ts) × (Completes NoLimits s ts → ⊥))
CauseAt (over limit) s d ts = (d < length ts) × (more : List PlacedToken) × Completes NoLimits s (take (suc d) ts ++ more)

pub record Stops (i : ℕ) (s : State) (ts : List PlacedToken) (c : Cause) (k : ℕ) : Type 0 where
  pub taken : ℕ
  pub place : k ≡ i + taken
  pub more : List PlacedToken
  pub begun : Completes NoLimits s (take taken ts ++ more)
  pub cause : CauseAt c s taken ts

pub same_refusal : (c e : Cause) (i k : ℕ) → refused c i ≡ refused e k → (c ≡ e) × (i ≡ k)
same_refusal c e i k h = let first : c ≡ e = cc in let second : i ≡ k = cc in (first, second)

stops_here : (i k : ℕ) (s : State) (ts : List PlacedToken) (c e : Cause) → refused e i ≡ refused c k → CauseAt e s 0 ts → Stops i s ts c k
stops_here i k s ts c e h cause =
    let both = same_refusal e c i k h in
    let more = finish s in
    let at : k ≡ i + 0 = let there = both.1 in omega arith in
    record { taken = 0; place = at; more = more.0; begun = more.1; cause = subst (λ (x : Cause). CauseAt x s 0 ts) both.0 cause }

nothing_left : (i k : ℕ) (c : Cause) (s : State) (ends : Bool) → is_end_of s.stack ≡ ends → at_end i ends ≡ refused c k → Stops i s [] c k
nothing_left i k c s true e h = absurd (cc)
nothing_left i k c s false e h =
    stops_here i k s [] c no_script h
    (inr (refl, λ whole. let empty_stack = complete_end NoLimits s.stack s.bottom whole in let ends : true ≡ false = sym (ap is_end_of empty_stack) ∙ e in absurd (cc)))

one_more : (i n k : ℕ) (s next : State) (t : PlacedToken) (ts : List PlacedToken) (c : Cause) → step s (lexeme_of t) ≡ Some next → Stops (suc i) next ts c k → Stops i s (t ∷ ts) c k
one_more i n k s next t ts c e h =
    let d = h.taken in
    let there = h.place in
    record {
      taken = suc h.taken;
      place = omega arith;
      more = h.more;
      begun = sound_step s next t e (take h.taken ts ++ h.more) h.begun;
      cause = go c h.cause;
    }
  where
    next_is : (tokens : List PlacedToken) → Completes NoLimits s (t ∷ tokens) → Completes NoLimits next tokens
    next_is tokens g =
        let found = complete_step NoLimits s t tokens g in
        let both : Some found.0 ≡ Some next = sym found.1 ∙ e in
        let same_next : found.0 ≡ next = cc in
        subst (λ (x : State). Completes NoLimits x tokens) same_next found.2

    go : (x : Cause) → CauseAt x next h.taken ts → CauseAt x s (suc h.taken) (t ∷ ts)
    go no_script (inl (in_list, none)) = inl (omega arith, λ more g. none more (next_is (take (suc h.taken) ts ++ more) g))
    go no_script (inr (all_of, none)) = inr (omega arith, λ g. none (next_is ts g))
    go (over limit) (in_list, more, g) = (omega arith, more, sound_step s next t e (take (suc h.taken) ts ++ more) g)

pub stops : (i n : ℕ) (s : State) (ts : List PlacedToken) (c : Cause) (k : ℕ) → verdict i n s ts ≡ refused c k → Stops i s ts c k
stops i n s [] c k h = nothing_left i k c s (is_end_of s.stack) refl (sym (verdict_end i n s) ∙ h)
stops i n s (t ∷ ts) c k h = go (turn i n s t ts) (λ next g. stops (suc i) (open_after n t) next ts c k g)
  where
    go : Turn i n s t ts → ((next : State) → verdict (suc i) (open_after n t) next ts ≡ refused c k → Stops (suc i) next ts c k) → Stops i s (t ∷ ts) c k
    go (stuck e v) later =
        stops_here i k s (t ∷ ts) c no_script (sym v ∙ h)
        (inl (omega arith, λ more g. let found = complete_step NoLimits s t more g in let both : None ≡ Some found.0 = sym e ∙ found.1 in absurd (cc)))
    go (stopped next limit e b v) later =
        let more = finish next in stops_here i k s (t ∷ ts) c (over limit) (sym v ∙ h) (omega arith, more.0, sound_step s next t e more.0 more.1)
    go (moved next e b v) later = one_more i n k s next t ts c e (later next (sym v ∙ h))
