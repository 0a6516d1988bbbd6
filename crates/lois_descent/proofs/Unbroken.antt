-- The machine stops at the first token that goes over a limit, or earlier.
use Rattle.std.proofs.Common.{◌≡◌, ℕ, zero, suc, ◌+◌, ◌<◌, ◌≤◌, Bool, true, false, ◌&&◌, ◌⊎◌, inl, inr, ⊎_elim, Option, Some, None, List, [], ◌∷◌, ◌++◌, length, take, drop, append_assoc, refl, sym, ap, ◌∙◌, subst, arith, codes, eq-eqb, lt-ltb}
use Rattle.std.specs.Prelude.{nat_eq, option_map}
use Rattle.std.specs.Prelude.{cond as choose}
use Rattle.lois_lexer.specs.declared.TokenKind.TheVariants as kinds
use Rattle.lois_script.specs.Grammar.{PlacedToken, decimal, SpellsExpr, SpellsMoreExprs}
use Rattle.lois_script.specs.Limits.{opens, open_after, width}
use Rattle.lois_script.specs.Tree.{ExprD, ExprsD, no_exprs, expr}
use Rattle.lois_descent.specs.Lexemes.{lexeme_of}
use Rattle.lois_descent.specs.declared.lexemes.Terminal.{Terminal}
use Rattle.lois_descent.specs.declared.lexemes.Terminal.TheVariants.{Atoms as the_atoms, Comma as comma, CloseRound as close_round, OpenCurly as open_curly, Relation as relation, Number as number}
use Rattle.lois_descent.specs.Lexemes.{accepts}
use Rattle.lois_descent.specs.Machine.{token, turns_block, Arguments, one, two, part_number, Item, terminal, expression, arguments, more_parts, after_brace, after_item, where_clause, condition, more_condition, unit, base, turns_number, statements, Bottom, body, outermost, after_outer_if, State, accepted_if, operands, expression_start, item_start, at_bottom, step_from, step}
use Rattle.lois_descent.specs.declared.lexemes.Lexeme.{Lexeme}
use Rattle.lois_descent.specs.declared.lexemes.Lexeme.TheVariants.{Number, Word, Symbol}
use Rattle.lois_descent.specs.declared.lexemes.Keyword.TheVariants as words
use Rattle.lois_descent.specs.declared.lexemes.Punctuator.TheVariants as punctuators
use Rattle.lois_descent.proofs.Language.{AllMean, join}
use Rattle.lois_descent.specs.Machine.{push, breach, item_breach, over_if, Cause, no_script, over, Verdict, accepted, refused, verdict}
use Rattle.lois_descent.specs.Refusals.{Limit, nesting, turns, open_behind}
use Rattle.lois_descent.proofs.Sound.{NoLimits, never}
use Rattle.lois_descent.proofs.Complete.{complete_item, goes_some, Begun}
use Rattle.lois_descent.proofs.Verdicts.{Turn, stuck, stopped, moved, turn, verdict_stuck}

-- at the token number m at the latest
abbrev pub StopsBy : Verdict → ℕ → Type 0
StopsBy v m = (c : Cause) × (k : ℕ) × (v ≡ refused c k) × (k ≤ m)

pub stop_along : (v w : Verdict) (j k : ℕ) → v ≡ w → j ≤ k → StopsBy w j → StopsBy v k
stop_along v w j k e longer (c, m, h, bound) = (c, m, e ∙ h, omega arith)

pub record Walked (i n : ℕ) (s : State) (ts : List PlacedToken) (j d : ℕ) : Type 0 where
  pub open_count : ℕ
  pub state : State
  pub same_verdict : verdict i n s ts ≡ verdict j open_count state (drop d ts)
  pub counted : open_count ≡ open_behind n (take d ts)

pub walk : (i n : ℕ) (s : State) (ts : List PlacedToken) (j d : ℕ) → j ≡ i + d → (t : PlacedToken) (after : List PlacedToken) → drop d ts ≡ t ∷ after → StopsBy (verdict i n s ts) j ⊎ Walked i n s ts j d
walk i n s ts j zero e t after h =
    let here : i ≡ j = omega arith in inr record { open_count = n; state = s; same_verdict = ap (λ x. verdict x n s ts) here; counted = refl }
walk i n s [] j (suc d) e t after h = absurd (cc)
walk i n s (u ∷ ts) j (suc d) e t after h = go (turn i n s u ts) (λ next. walk (suc i) (open_after n u) next ts j d (omega arith) t after h)
  where
    go : Turn i n s u ts → ((next : State) → StopsBy (verdict (suc i) (open_after n u) next ts) j ⊎ Walked (suc i) (open_after n u) next ts j d) →
        StopsBy (verdict i n s (u ∷ ts)) j ⊎ Walked i n s (u ∷ ts) j (suc d)
    go (stuck q v) later = inl (no_script, i, v, omega arith)
    go (stopped next limit q b v) later = inl (over limit, i, v, omega arith)
    go (moved next q b v) later =
        ⊎_elim (λ stop. inl (stop_along (verdict i n s (u ∷ ts)) (verdict (suc i) (open_after n u) next ts) j j v (omega arith) stop))
        (λ w. inr record { open_count = w.open_count; state = w.state; same_verdict = v ∙ w.same_verdict; counted = w.counted }) (later next)

-- where the token would break a limit, the machine stops
stops_at_breach : (i n : ℕ) (s : State) (t : PlacedToken) (ts : List PlacedToken) → (breach n s.stack t ≡ None → ⊥) → StopsBy (verdict i n s (t ∷ ts)) i
stops_at_breach i n s t ts never_none = go (turn i n s t ts)
  where
    go : Turn i n s t ts → StopsBy (verdict i n s (t ∷ ts)) i
    go (stuck q v) = (no_script, i, v, omega arith)
    go (stopped next limit q b v) = (over limit, i, v, omega arith)
    go (moved next q b v) = absurd (never_none b)

both_hold : (a b : Bool) (x : Limit) (y : Option Limit) → a ≡ true → b ≡ true → choose (a && b) (Some x) y ≡ None → ⊥
both_hold true true x y p q h = cc
both_hold true false x y p q h = cc
both_hold false b x y p q h = cc

either_way : (a : Bool) (x y : Limit) → choose a (Some x) (Some y) ≡ None → ⊥
either_way true x y h = cc
either_way false x y h = cc

pub nesting_stops : (i n : ℕ) (s : State) (t : PlacedToken) (ts : List PlacedToken) → opens t ≡ true → n ≡ 64 → StopsBy (verdict i n s (t ∷ ts)) i
nesting_stops i n s t ts o full = stops_at_breach i n s t ts (both_hold (opens t) (nat_eq n 64) nesting (item_breach s.stack t) o (eq-eqb n 64 full))

pub item_stops : (i n : ℕ) (s : State) (t : PlacedToken) (ts : List PlacedToken) (limit : Limit) → item_breach s.stack t ≡ Some limit → StopsBy (verdict i n s (t ∷ ts)) i
item_stops i n s t ts limit e =
    stops_at_breach i n s t ts (λ none. either_way (opens t && nat_eq n 64) nesting limit (sym (ap (λ o. choose (opens t && nat_eq n 64) (Some nesting) o) e) ∙ none))

-- only `turns` wants a number of turns, and right behind it
abbrev WantsTurns : Option State → Type 0
WantsTurns None = Unit {0}
WantsTurns (Some next) = (rest : List Item) × (next.stack ≡ turns_number ∷ rest)

no_terminal_turns : (x : Terminal) (b : Bottom) (rest : List Item) → WantsTurns (option_map (λ w. at_bottom b (w ++ rest)) (accepted_if (accepts x (Word words.Turns))))
no_terminal_turns the_atoms b rest = tt
no_terminal_turns _ b rest = tt

turns_next : (stack : List Item) (b : Bottom) → WantsTurns (step_from stack b (Word words.Turns))
turns_next [] body = tt
turns_next [] outermost = tt
turns_next [] after_outer_if = tt
turns_next (terminal x ∷ rest) b = no_terminal_turns x b rest
turns_next (where_clause x ∷ rest) b = no_terminal_turns x b rest
turns_next (more_condition (token x) ∷ rest) b = no_terminal_turns x b rest
turns_next (more_condition turns_block ∷ rest) b = (terminal open_curly ∷ statements ∷ rest, refl)
turns_next (_ ∷ rest) b = tt

pub turns_stop : (i n : ℕ) (s : State) (t u : PlacedToken) (ts : List PlacedToken) → lexeme_of t ≡ Word words.Turns → 1000000 < decimal u.bytes → StopsBy (verdict i n s (t ∷ u ∷ ts)) (suc i)
turns_stop i n s t u ts word many = go (turn i n s t (u ∷ ts))
  where
    go : Turn i n s t (u ∷ ts) → StopsBy (verdict i n s (t ∷ u ∷ ts)) (suc i)
    go (stuck q v) = (no_script, i, v, omega arith)
    go (stopped next limit q b v) = (over limit, i, v, omega arith)
    go (moved next q b v) =
        let wants = subst WantsTurns (sym (ap (step s) word) ∙ q) (turns_next s.stack s.bottom) in
        let goes_over : item_breach next.stack u ≡ Some turns =
        ap (λ x. item_breach x u) wants.1 ∙ ap (λ x. over_if x turns) (lt-ltb 1000000 (decimal u.bytes) many) in
        stop_along (verdict i n s (t ∷ u ∷ ts)) (verdict (suc i) (open_after n t) next (u ∷ ts)) (suc i) (suc i) v (omega arith) (item_stops (suc i) (open_after n t) next u ts turns goes_over)

-- one step for an item on top
take_item : (i n : ℕ) (x : Item) (w v : List Item) (s : State) (t : PlacedToken) (ts : List PlacedToken) → item_start x (lexeme_of t) ≡ Some v →
    StopsBy (verdict i n (push (x ∷ w) s) (t ∷ ts)) i ⊎ (verdict i n (push (x ∷ w) s) (t ∷ ts) ≡ verdict (suc i) (open_after n t) (push v (push w s)) ts)
take_item i n x w v s t ts e = go (turn i n (push (x ∷ w) s) t ts)
  where
    go : Turn i n (push (x ∷ w) s) t ts → StopsBy (verdict i n (push (x ∷ w) s) (t ∷ ts)) i ⊎ (verdict i n (push (x ∷ w) s) (t ∷ ts) ≡ verdict (suc i) (open_after n t) (push v (push w s)) ts)
    go (stuck q k) = inl (no_script, i, k, omega arith)
    go (stopped next limit q b k) = inl (over limit, i, k, omega arith)
    go (moved next q b k) =
        let known : step (push (x ∷ w) s) (lexeme_of t) ≡ Some (push v (push w s)) = ap (option_map (λ y. at_bottom s.bottom (y ++ (w ++ s.stack)))) e in
        let both : Some next ≡ Some (push v (push w s)) = sym q ∙ known in
        let same_next : next ≡ push v (push w s) = cc in
        inr (k ∙ ap (λ y. verdict (suc i) (open_after n t) y ts) same_next)

reject_item : (i n : ℕ) (x : Item) (w : List Item) (s : State) (t : PlacedToken) (ts : List PlacedToken) → item_start x (lexeme_of t) ≡ None → StopsBy (verdict i n (push (x ∷ w) s) (t ∷ ts)) i
reject_item i n x w s t ts e =
    (no_script, i, verdict_stuck i n (push (x ∷ w) s) t ts (ap (option_map (λ y. at_bottom s.bottom (y ++ (w ++ s.stack)))) e), omega arith)

-- Over tokens that spell what is on the stack the machine comes to what is under it, at the place j, unless it stops before.
abbrev pub Reaches : ℕ → Verdict → State → List PlacedToken → List PlacedToken → Type 0
Reaches i v s r after =
    (j : ℕ) × (i ≤ j) × (j + length after ≡ i + length r) × (StopsBy v j ⊎ ((n : ℕ) × (v ≡ verdict j n s after)))

reaches_later : (i k : ℕ) (v w : Verdict) (s : State) (r m after : List PlacedToken) → k + length m ≡ i + length r → i ≤ k → StopsBy v k ⊎ (v ≡ w) → Reaches k w s m after → Reaches i v s r after
reaches_later i k v w s r m after lengths later (inl stop) (j, least, same_place, g) = (j, omega arith, omega arith, inl (stop_along v v k j refl (omega arith) stop))
reaches_later i k v w s r m after lengths later (inr e) (j, least, same_place, inl stop) = (j, omega arith, omega arith, inl (stop_along v w j j e (omega arith) stop))
reaches_later i k v w s r m after lengths later (inr e) (j, least, same_place, inr (n, g)) = (j, omega arith, omega arith, inr (n, e ∙ g))

pub spans : (w : List Item) (r after : List PlacedToken) → AllMean NoLimits w r after → (i n : ℕ) (s : State) → Reaches i (verdict i n (push w s) r) s r after
spans [] r after e i n s = (i, omega arith, ap (λ x. i + length x) (sym e), inr (n, ap (verdict i n s) e))
spans (x ∷ w) [] after (m, h, more) i n s = absurd (complete_item NoLimits x [] m h)
spans (x ∷ w) (t ∷ r) after (m, h, more) i n s =
    let g = goes_some (item_start x (lexeme_of t)) r m (complete_item NoLimits x (t ∷ r) m h) in
    let rest = spans (g.0 ++ w) r after (join NoLimits g.0 w r m after g.2 more) (suc i) (open_after n t) s in
    let regrouped : verdict (suc i) (open_after n t) (push g.0 (push w s)) r ≡ verdict (suc i) (open_after n t) (push (g.0 ++ w) s) r =
    ap (λ y. verdict (suc i) (open_after n t) record { stack = y; bottom = s.bottom } r) (sym (append_assoc g.0 w s.stack)) in
    reaches_later i (suc i) (verdict i n (push (x ∷ w) s) (t ∷ r)) (verdict (suc i) (open_after n t) (push (g.0 ++ w) s) r) s (t ∷ r) r after (omega arith) (omega arith)
    (⊎_elim (λ stop. inl (stop_along (verdict i n (push (x ∷ w) s) (t ∷ r)) (verdict i n (push (x ∷ w) s) (t ∷ r)) i (suc i) refl (omega arith) stop)) (λ e. inr (e ∙ regrouped))
    (take_item i n x w g.0 s t r g.1)) rest

pub one_expression : (e : ExprD) (r after : List PlacedToken) → SpellsExpr e r after → AllMean NoLimits (expression ∷ []) r after
one_expression e r after h = (after, (e, never, h), refl)

pub chain : (i k : ℕ) (v w : Verdict) (s u : State) (r m after : List PlacedToken) → Reaches i v s r m → ((j n : ℕ) → Reaches j (verdict j n s m) u m after) → Reaches i v u r after
chain i k v w s u r m after (j, least, lengths, inl stop) more =
    reaches_later i j v (verdict j 0 s m) u r m after lengths least (inl stop) (more j 0)
chain i k v w s u r m after (j, least, lengths, inr (n, e)) more =
    reaches_later i j v (verdict j n s m) u r m after lengths least (inr e) (more j n)

pub parts_run : (es : ExprsD) (r after : List PlacedToken) → SpellsMoreExprs es r after → (q : ℕ) (s : State) (i n : ℕ) →
    Reaches i (verdict i n (push (more_parts q ∷ []) s) r) (push (more_parts (q + width es) ∷ []) s) r after
parts_run no_exprs r after e q s i n =
    let counted : q ≡ q + 0 = omega arith in
    (i, omega arith, ap (λ x. i + length x) (sym e), inr (n, ap (verdict i n (push (more_parts q ∷ []) s)) e ∙ ap (λ x. verdict i n (push (more_parts x ∷ []) s) after) counted))
parts_run (expr y es) r after (m1, (p, e), (m2, h, more)) q s i n =
    let later = parts_run es m2 after more (suc q) s in
    let counted : suc q + width es ≡ q + suc (width es) = omega arith in
    let recounted : (j k : ℕ) → Reaches j (verdict j k (push (more_parts (suc q) ∷ []) s) m2) (push (more_parts (q + suc (width es)) ∷ []) s) m2 after =
    λ j k. subst (λ x. Reaches j (verdict j k (push (more_parts (suc q) ∷ []) s) m2) (push (more_parts x ∷ []) s) m2 after) counted (later j k) in
    let first : (j k : ℕ) → Reaches j (verdict j k (push (expression ∷ []) (push (more_parts (suc q) ∷ []) s)) m1) (push (more_parts (q + suc (width es)) ∷ []) s) m1 after =
    λ j k. chain j j (verdict j k (push (expression ∷ []) (push (more_parts (suc q) ∷ []) s)) m1) accepted (push (more_parts (suc q) ∷ []) s) (push (more_parts (q + suc (width es)) ∷ []) s) m1 m2 after
    (spans (expression ∷ []) m1 m2 (one_expression y m1 m2 h) j k (push (more_parts (suc q) ∷ []) s)) recounted in
    let whole : Reaches i (verdict i n (push (more_parts q ∷ []) s) (record { kind = kinds.Symbol; bytes = codes ","; place = p } ∷ m1)) (push (more_parts (q + suc (width es)) ∷ []) s) (record { kind = kinds.Symbol; bytes = codes ","; place = p } ∷ m1) after =
    reaches_later i (suc i) (verdict i n (push (more_parts q ∷ []) s) (record { kind = kinds.Symbol; bytes = codes ","; place = p } ∷ m1))
    (verdict (suc i) (open_after n record { kind = kinds.Symbol; bytes = codes ","; place = p }) (push (expression ∷ []) (push (more_parts (suc q) ∷ []) s)) m1)
    (push (more_parts (q + suc (width es)) ∷ []) s) (record { kind = kinds.Symbol; bytes = codes ","; place = p } ∷ m1) m1 after (omega arith) (omega arith)
    (⊎_elim (λ stop. inl (stop_along _ (verdict i n (push (more_parts q ∷ []) s) (record { kind = kinds.Symbol; bytes = codes ","; place = p } ∷ m1)) i (suc i) refl (omega arith) stop)) (λ g. inr g)
    (take_item i n (more_parts q) [] (expression ∷ more_parts (suc q) ∷ []) s record { kind = kinds.Symbol; bytes = codes ","; place = p } m1 refl))
    (first (suc i) (open_after n record { kind = kinds.Symbol; bytes = codes ","; place = p })) in
    subst (λ x. Reaches i (verdict i n (push (more_parts q ∷ []) s) x) (push (more_parts (q + suc (width es)) ∷ []) s) x after) (sym e) whole

-- what has to come behind a `(`
abbrev pub RoundForm : Option State → Type 0
RoundForm None = Unit {0}
RoundForm (Some next) = ((s : State) × (next ≡ push (expression ∷ more_parts 1 ∷ []) s)) ⊎ ((a : Arguments) × (s : State) × (next ≡ push (operands a) s))

no_terminal_round : (x : Terminal) (b : Bottom) (rest : List Item) → RoundForm (option_map (λ w. at_bottom b (w ++ rest)) (accepted_if (accepts x (Symbol punctuators.OpenRound))))
no_terminal_round the_atoms b rest = tt
no_terminal_round _ b rest = tt

pub round_next : (stack : List Item) (b : Bottom) → RoundForm (step_from stack b (Symbol punctuators.OpenRound))
round_next [] body = tt
round_next [] outermost = tt
round_next [] after_outer_if = tt
round_next (terminal x ∷ rest) b = no_terminal_round x b rest
round_next (where_clause x ∷ rest) b = no_terminal_round x b rest
round_next (more_condition (token x) ∷ rest) b = no_terminal_round x b rest
round_next (more_condition turns_block ∷ rest) b = tt
round_next (arguments a ∷ rest) b = inr (a, record { stack = rest; bottom = b }, refl)
round_next (expression ∷ rest) b = inl (record { stack = rest; bottom = b }, refl)
round_next (after_brace ∷ rest) b = inl (record { stack = after_item ∷ rest; bottom = b }, refl)
round_next (base ∷ rest) b = inl (record { stack = terminal relation ∷ expression ∷ rest; bottom = b }, refl)
round_next (unit ∷ rest) b = inl (record { stack = terminal relation ∷ expression ∷ rest; bottom = b }, refl)
round_next (condition x ∷ rest) b = inl (record { stack = terminal relation ∷ expression ∷ more_condition x ∷ rest; bottom = b }, refl)
round_next (_ ∷ rest) b = tt

-- only a symbol that is a comma
abbrev pub comma_token : ℕ → PlacedToken
comma_token p = record { kind = kinds.Symbol; bytes = codes ","; place = p }

-- a number begins no expression
pub no_number : (l : Lexeme) (w : List Item) → expression_start l ≡ Some w → accepted_if (accepts number l) ≡ None
no_number Number w e = absurd (cc)
no_number _ w e = refl

-- A comma in front of a bracket that has no more parts, or a second comma where a number has to come: the machine stops.
pub tail_stops : (a : Arguments) (es : ExprsD) (r m after : List PlacedToken) (p : ℕ) → width es ≡ 7 → SpellsMoreExprs es r after → (i n : ℕ) (s : State) →
    (tail : List Item) → operands a ≡ expression ∷ tail → (j : ℕ) × (i ≤ j) × (j + length after ≡ i + length r) × StopsBy (verdict i n (push tail s) r) j
tail_stops a no_exprs r m after p seven h i n s tail e = absurd (omega arith)
tail_stops a (expr y no_exprs) r m after p seven h i n s tail e = absurd (omega arith)
tail_stops one (expr y (expr z es)) r m after p seven (m1, (q, sep), (m2, g, more)) i n s tail e =
    let lengths = parts_run (expr y (expr z es)) r after (m1, (q, sep), (m2, g, more)) 0 s i n in
    let is_tail : tail ≡ terminal close_round ∷ [] = cc in
    let stop : StopsBy (verdict i n (push (terminal close_round ∷ []) s) (comma_token q ∷ m1)) i = reject_item i n (terminal close_round) [] s (comma_token q) m1 refl in
    let there : StopsBy (verdict i n (push tail s) r) i = subst (λ x. StopsBy (verdict i n (push x s) r) i) (sym is_tail) (subst (λ x. StopsBy (verdict i n (push (terminal close_round ∷ []) s) x) i) (sym sep) stop) in
    (lengths.0, lengths.1, lengths.2, stop_along (verdict i n (push tail s) r) (verdict i n (push tail s) r) i lengths.0 refl lengths.1 there)
tail_stops two (expr y (expr z es)) r m after p seven (m1, (q, sep), (m2, g, (m3, (q2, sep2), rest))) i n s tail e =
    let is_tail : tail ≡ terminal comma ∷ expression ∷ terminal close_round ∷ [] = cc in
    let last : (j k : ℕ) → StopsBy (verdict j k (push (terminal close_round ∷ []) s) m2) j =
    λ j k. subst (λ x. StopsBy (verdict j k (push (terminal close_round ∷ []) s) x) j) (sym sep2) (reject_item j k (terminal close_round) [] s (comma_token q2) m3 refl) in
    let lengths : (j k : ℕ) → Reaches j (verdict j k (push (more_parts 0 ∷ []) s) m2) (push (more_parts (0 + width (expr z es)) ∷ []) s) m2 after =
    parts_run (expr z es) m2 after (m3, (q2, sep2), rest) 0 s in
    go is_tail last lengths (take_item i n (terminal comma) (expression ∷ terminal close_round ∷ []) [] s (comma_token q) m1 refl)
    (spans (expression ∷ []) m1 m2 (one_expression y m1 m2 g) (suc i) (open_after n (comma_token q)) (push (terminal close_round ∷ []) s))
  where
    go : tail ≡ terminal comma ∷ expression ∷ terminal close_round ∷ [] → ((j k : ℕ) → StopsBy (verdict j k (push (terminal close_round ∷ []) s) m2) j) →
        ((j k : ℕ) → Reaches j (verdict j k (push (more_parts 0 ∷ []) s) m2) (push (more_parts (0 + width (expr z es)) ∷ []) s) m2 after) →
        StopsBy (verdict i n (push (terminal comma ∷ expression ∷ terminal close_round ∷ []) s) (comma_token q ∷ m1)) i ⊎
        (verdict i n (push (terminal comma ∷ expression ∷ terminal close_round ∷ []) s) (comma_token q ∷ m1) ≡
        verdict (suc i) (open_after n (comma_token q)) (push (expression ∷ []) (push (terminal close_round ∷ []) s)) m1) →
        Reaches (suc i) (verdict (suc i) (open_after n (comma_token q)) (push (expression ∷ []) (push (terminal close_round ∷ []) s)) m1) (push (terminal close_round ∷ []) s) m1 m2 →
        (j : ℕ) × (i ≤ j) × (j + length after ≡ i + length r) × StopsBy (verdict i n (push tail s) r) j
    go is_tail last lengths taken (j, least, same_place, reached) =
        let more = lengths j 0 in
        let whole : verdict i n (push tail s) r ≡ verdict i n (push (terminal comma ∷ expression ∷ terminal close_round ∷ []) s) (comma_token q ∷ m1) =
        ap (λ x. verdict i n (push x s) r) is_tail ∙ ap (verdict i n (push (terminal comma ∷ expression ∷ terminal close_round ∷ []) s)) sep in
        let sizes : length r ≡ suc (length m1) = ap length sep in
        let bound = more.1 in
        let place = more.2 in
        let fits : more.0 + length after ≡ i + length r = omega arith in
        let least_j : i ≤ more.0 = omega arith in
        let in_time : i ≤ more.0 = omega arith in
        let later : j ≤ more.0 = bound in
        let stops : StopsBy (verdict i n (push (terminal comma ∷ expression ∷ terminal close_round ∷ []) s) (comma_token q ∷ m1)) more.0 =
        ⊎_elim (λ stop. stop_along _ (verdict i n (push (terminal comma ∷ expression ∷ terminal close_round ∷ []) s) (comma_token q ∷ m1)) i more.0 refl in_time stop)
        (λ f. ⊎_elim (λ stop. stop_along _ (verdict (suc i) (open_after n (comma_token q)) (push (expression ∷ []) (push (terminal close_round ∷ []) s)) m1) j more.0 f later stop)
        (λ reach. stop_along _ (verdict j reach.0 (push (terminal close_round ∷ []) s) m2) j more.0 (f ∙ reach.1) later (last j reach.0)) reached) taken in
        (more.0, least_j, fits, stop_along (verdict i n (push tail s) r) (verdict i n (push (terminal comma ∷ expression ∷ terminal close_round ∷ []) s) (comma_token q ∷ m1)) more.0 more.0 whole (omega arith) stops)
tail_stops part_number (expr y (expr z es)) r m after p seven (m1, (q, sep), (m2, g, more)) i n s tail e =
    let is_tail : tail ≡ terminal comma ∷ terminal number ∷ terminal close_round ∷ [] = cc in
    go m1 (complete_item NoLimits expression m1 m2 (y, never, g)) is_tail sep (parts_run (expr z es) m2 after more 0 s) (spans (expression ∷ []) m1 m2 (one_expression y m1 m2 g) (suc i) 0 s)
  where
    after_comma : (t : PlacedToken) (u : List PlacedToken) → accepted_if (accepts number (lexeme_of t)) ≡ None →
        StopsBy (verdict i n (push (terminal comma ∷ terminal number ∷ terminal close_round ∷ []) s) (comma_token q ∷ t ∷ u)) (suc i)
    after_comma t u none =
        ⊎_elim (λ stop. stop_along _ (verdict i n (push (terminal comma ∷ terminal number ∷ terminal close_round ∷ []) s) (comma_token q ∷ t ∷ u)) i (suc i) refl (omega arith) stop)
        (λ f. stop_along _ (verdict (suc i) (open_after n (comma_token q)) (push (terminal number ∷ []) (push (terminal close_round ∷ []) s)) (t ∷ u)) (suc i) (suc i) f (omega arith)
        (reject_item (suc i) (open_after n (comma_token q)) (terminal number) [] (push (terminal close_round ∷ []) s) t u none))
        (take_item i n (terminal comma) (terminal number ∷ terminal close_round ∷ []) [] s (comma_token q) (t ∷ u) refl)

    go : (k : List PlacedToken) → Begun NoLimits expression_start k m2 → tail ≡ terminal comma ∷ terminal number ∷ terminal close_round ∷ [] → r ≡ comma_token q ∷ k →
        ((j b : ℕ) → Reaches j (verdict j b (push (more_parts 0 ∷ []) s) m2) (push (more_parts (0 + width (expr z es)) ∷ []) s) m2 after) →
        Reaches (suc i) (verdict (suc i) 0 (push (expression ∷ []) s) k) s k m2 →
        (j : ℕ) × (i ≤ j) × (j + length after ≡ i + length r) × StopsBy (verdict i n (push tail s) r) j
    go [] h is_tail e2 lengths reach = absurd h
    go (t ∷ u) h is_tail e2 lengths reach =
        let more_lengths = lengths reach.0 0 in
        let g1 = goes_some (expression_start (lexeme_of t)) u m2 h in
        let sizes : length r ≡ suc (suc (length u)) = ap length e2 in
        let least = reach.1 in
        let place = reach.2 in
        let later = more_lengths.1 in
        let place2 = more_lengths.2 in
        let fits : more_lengths.0 + length after ≡ i + length r = omega arith in
        let enough : suc i ≤ more_lengths.0 = omega arith in
        let whole : verdict i n (push tail s) r ≡ verdict i n (push (terminal comma ∷ terminal number ∷ terminal close_round ∷ []) s) (comma_token q ∷ t ∷ u) =
        ap (λ x. verdict i n (push x s) r) is_tail ∙ ap (verdict i n (push (terminal comma ∷ terminal number ∷ terminal close_round ∷ []) s)) e2 in
        (more_lengths.0, omega arith, fits, stop_along (verdict i n (push tail s) r) _ (suc i) more_lengths.0 whole enough (after_comma t u (no_number (lexeme_of t) g1.0 g1.1)))
