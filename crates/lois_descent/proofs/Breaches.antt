-- What goes over a limit, by the tokens and by the machine.
use Rattle.std.proofs.Common.{◌≡◌, ◌≢◌, ℕ, suc, ◌+◌, ◌-◌, ◌<◌, ◌≤◌, Bool, true, false, ◌&&◌, inl, inr, ⊎_elim, Option, Some, None, List, [], ◌∷◌, length, take, drop, refl, sym, ap, ap₂, ◌∙◌, subst, arith, codes, eqb-true, eq-eqb, ne_eqb, length-drop, le-ltb}
use Rattle.std.specs.Prelude.{nat_eq, nat_lt, if◌then◌else◌}
use Rattle.std.specs.Prelude.{cond as choose}
use Rattle.lois_lexer.specs.declared.TokenKind.TheVariants as kinds
use Rattle.lois_script.specs.Grammar.{PlacedToken, decimal, SpellsExpr, SpellsMoreExprs}
use Rattle.lois_script.specs.Limits.{opens, closes, open_after, width, IsNestedWithin}
use Rattle.lois_script.specs.Tree.{ExprD, ExprsD, no_exprs, expr}
use Rattle.lois_descent.specs.Lexemes.{lexeme_of}
use Rattle.lois_descent.specs.declared.lexemes.Terminal.TheVariants.{Comma as comma, CloseRound as close_round, Number as number}
use Rattle.lois_descent.specs.Machine.{Arguments, one, two, part_number, Item, terminal, expression, arguments, more_parts, more_items, after_brace, after_item, more_bindings, where_clause, condition, more_condition, unit, base, turns_number, statements, after_if, more_names, Bottom, State, operands, step}
use Rattle.lois_descent.specs.declared.lexemes.Lexeme.TheVariants.{Symbol}
use Rattle.lois_descent.specs.declared.lexemes.Punctuator.TheVariants as punctuators
use Rattle.lois_descent.proofs.Language.{Completes}
use Rattle.lois_descent.specs.Machine.{push, breach, item_breach, over_if, is_comma, no_script, over, Verdict, accepted, refused, at_end, is_end_of, verdict, start}
use Rattle.lois_descent.specs.Refusals.{Limit, nesting, parts, turns, open_behind, GoesOver}
use Rattle.lois_descent.proofs.Complete.{complete_step, complete_end}
use Rattle.lois_descent.proofs.Verdicts.{Turn, stuck, stopped, moved, turn, verdict_end, verdict_next, same_refusal}
use Rattle.lois_descent.proofs.Unbroken.{StopsBy, stop_along, Walked, walk, Reaches, spans, one_expression, chain, parts_run, comma_token, RoundForm, round_next, tail_stops, nesting_stops, item_stops, turns_stop}

-- eight expressions behind a `(`, and a comma
tail_of : (a : Arguments) → (tail : List Item) × (operands a ≡ expression ∷ tail)
tail_of one = (terminal close_round ∷ [], refl)
tail_of two = (terminal comma ∷ expression ∷ terminal close_round ∷ [], refl)
tail_of part_number = (terminal comma ∷ terminal number ∷ terminal close_round ∷ [], refl)

abbrev Ended : ℕ → Verdict → List PlacedToken → List PlacedToken → Type 0
Ended i v r after = (j : ℕ) × (i ≤ j) × (j + length after ≡ i + length r) × StopsBy v j

eighth_stops : (i n : ℕ) (s : State) (w : ℕ) (p : ℕ) (rest : List PlacedToken) → w ≡ 7 → StopsBy (verdict i n (push (more_parts (1 + w) ∷ []) s) (comma_token p ∷ rest)) i
eighth_stops i n s w p rest e =
    let eight : 1 + w ≡ 8 = omega arith in
    item_stops i n (push (more_parts (1 + w) ∷ []) s) (comma_token p) rest parts (ap (λ b. over_if (b && true) parts) (eq-eqb (1 + w) 8 eight))

tuple_stops : (e : ExprD) (es : ExprsD) (r m after rest : List PlacedToken) (p : ℕ) → width es ≡ 7 → SpellsExpr e r m → SpellsMoreExprs es m after → after ≡ comma_token p ∷ rest → (i n : ℕ) (s : State) →
    Ended i (verdict i n (push (expression ∷ more_parts 1 ∷ []) s) r) r after
tuple_stops e es r m after rest p seven h more sep i n s =
    go (chain i i (verdict i n (push (expression ∷ []) (push (more_parts 1 ∷ []) s)) r) accepted (push (more_parts 1 ∷ []) s) (push (more_parts (1 + width es) ∷ []) s) r m after
    (spans (expression ∷ []) r m (one_expression e r m h) i n (push (more_parts 1 ∷ []) s)) (parts_run es m after more 1 s))
  where
    go : Reaches i (verdict i n (push (expression ∷ more_parts 1 ∷ []) s) r) (push (more_parts (1 + width es) ∷ []) s) r after → Ended i (verdict i n (push (expression ∷ more_parts 1 ∷ []) s) r) r after
    go (j, least, lengths, inl stop) = (j, least, lengths, stop)
    go (j, least, lengths, inr (k, v)) = (
      j,
      least,
      lengths,
      stop_along _ (verdict j k (push (more_parts (1 + width es) ∷ []) s) (comma_token p ∷ rest)) j j (v ∙ ap (verdict j k (push (more_parts (1 + width es) ∷ []) s)) sep) (omega arith)
          (eighth_stops j k s (width es) p rest seven),
    )

call_stops : (a : Arguments) (e : ExprD) (es : ExprsD) (r m after : List PlacedToken) → width es ≡ 7 → SpellsExpr e r m → SpellsMoreExprs es m after → (i n : ℕ) (s : State) → Ended i (verdict i n (push (operands a) s) r) r after
call_stops a e es r m after seven h more i n s =
    let t = tail_of a in
    subst (λ w. Ended i (verdict i n (push w s) r) r after) (sym t.1) (go t.0 t.1 (spans (expression ∷ []) r m (one_expression e r m h) i n (push t.0 s)))
  where
    go : (tail : List Item) → operands a ≡ expression ∷ tail → Reaches i (verdict i n (push (expression ∷ tail) s) r) (push tail s) r m → Ended i (verdict i n (push (expression ∷ tail) s) r) r after
    go tail is_tail (j, least, lengths, inl stop) =
        let more_lengths = tail_stops a es m m after 0 seven more j 0 s tail is_tail in
        let later = more_lengths.1 in
        let place = more_lengths.2 in
        (more_lengths.0, omega arith, omega arith, stop_along _ (verdict i n (push (expression ∷ tail) s) r) j more_lengths.0 refl later stop)
    go tail is_tail (j, least, lengths, inr (k, v)) =
        let more_lengths = tail_stops a es m m after 0 seven more j k s tail is_tail in
        let later = more_lengths.1 in
        let place = more_lengths.2 in
        (more_lengths.0, omega arith, omega arith, stop_along _ (verdict j k (push tail s) m) more_lengths.0 more_lengths.0 v (omega arith) more_lengths.3)

round_stops : (e : ExprD) (es : ExprsD) (t : PlacedToken) (r m after rest : List PlacedToken) (p : ℕ) → lexeme_of t ≡ Symbol punctuators.OpenRound → width es ≡ 7 → SpellsExpr e r m → SpellsMoreExprs es m after → after ≡ comma_token p ∷ rest →
    (i n : ℕ) (s : State) → Ended i (verdict i n s (t ∷ r)) (t ∷ r) after
round_stops e es t r m after rest p paren seven h more sep i n s = go (turn i n s t r)
  where
    some_end : (j : ℕ) × (suc i ≤ j) × (j + length after ≡ suc i + length r)
    some_end = let x = tuple_stops e es r m after rest p seven h more sep (suc i) 0 s in (x.0, x.1, x.2)

    form : (next : State) → RoundForm (Some next) → verdict i n s (t ∷ r) ≡ verdict (suc i) (open_after n t) next r → Ended i (verdict i n s (t ∷ r)) (t ∷ r) after
    form next (inl (s1, same_next)) v =
        let x = tuple_stops e es r m after rest p seven h more sep (suc i) (open_after n t) s1 in
        let least = x.1 in
        let place = x.2 in
        (x.0, omega arith, omega arith, stop_along _ (verdict (suc i) (open_after n t) (push (expression ∷ more_parts 1 ∷ []) s1) r) x.0 x.0 (v ∙ ap (λ y. verdict (suc i) (open_after n t) y r) same_next) (omega arith) x.3)
    form next (inr (a, s1, same_next)) v =
        let x = call_stops a e es r m after seven h more (suc i) (open_after n t) s1 in
        let least = x.1 in
        let place = x.2 in
        (x.0, omega arith, omega arith, stop_along _ (verdict (suc i) (open_after n t) (push (operands a) s1) r) x.0 x.0 (v ∙ ap (λ y. verdict (suc i) (open_after n t) y r) same_next) (omega arith) x.3)

    go : Turn i n s t r → Ended i (verdict i n s (t ∷ r)) (t ∷ r) after
    go (stuck q v) = let x = some_end in let least = x.1 in let place = x.2 in (x.0, omega arith, omega arith, (no_script, i, v, omega arith))
    go (stopped next limit q b v) = let x = some_end in let least = x.1 in let place = x.2 in (x.0, omega arith, omega arith, (over limit, i, v, omega arith))
    go (moved next q b v) = form next (subst RoundForm (sym (ap (step s) paren) ∙ q) (round_next s.stack s.bottom)) v

-- the machine stops at a token that goes over a limit, or earlier
pub over_stops : (limit : Limit) (tokens : List PlacedToken) (k : ℕ) → GoesOver limit tokens k → StopsBy (verdict 0 0 start tokens) k
over_stops nesting tokens k (t, after, e, opener, full) =
    ⊎_elim (λ stop. stop)
    (λ w. stop_along (verdict 0 0 start tokens) (verdict k w.open_count w.state (t ∷ after)) k k (w.same_verdict ∙ ap (verdict k w.open_count w.state) e) (omega arith)
    (nesting_stops k w.open_count w.state t after opener (w.counted ∙ full)))
    (walk 0 0 start tokens k k (omega arith) t after e)
over_stops turns tokens k (j, n, next, many, (m, (p, word), (q, digits, num, value))) =
    let there : suc j ≡ k = omega arith in
    ⊎_elim (λ stop. stop_along (verdict 0 0 start tokens) (verdict 0 0 start tokens) j k refl (omega arith) stop)
    (λ w. stop_along (verdict 0 0 start tokens) (verdict j w.open_count w.state (record { kind = kinds.Word; bytes = codes "turns"; place = p } ∷ record { kind = kinds.Number; bytes = digits; place = q } ∷ drop (suc k) tokens)) (suc j) k
    (w.same_verdict ∙ ap (verdict j w.open_count w.state) (word ∙ ap (λ x. record { kind = kinds.Word; bytes = codes "turns"; place = p } ∷ x) num)) (omega arith)
    (turns_stop j w.open_count w.state record { kind = kinds.Word; bytes = codes "turns"; place = p } record { kind = kinds.Number; bytes = digits; place = q } (drop (suc k) tokens) refl (subst (λ x. 1000000 < x) (sym value) many)))
    (walk 0 0 start tokens j j (omega arith) _ m word)
over_stops parts tokens k (j, no_exprs, wide, h, sep) = absurd h.2
over_stops parts tokens k (j, expr e es, wide, (m, (p, paren), (m1, h, more)), (q, sep)) =
    let seven : width es ≡ 7 = omega arith in
    ⊎_elim (λ stop. stop_along (verdict 0 0 start tokens) (verdict 0 0 start tokens) j k refl before stop)
    (λ w. there w (round_stops e es record { kind = kinds.Symbol; bytes = codes "("; place = p } m m1 (drop k tokens) (drop (suc k) tokens) q refl seven h more sep j w.open_count w.state))
    (walk 0 0 start tokens j j (omega arith) _ m paren)
  where
    sizes : (length tokens - k ≡ suc (length tokens - suc k)) × (length tokens - j ≡ suc (length m))
    sizes = (sym (length-drop k tokens) ∙ ap length sep ∙ ap suc (length-drop (suc k) tokens), sym (length-drop j tokens) ∙ ap length paren)

    before : j ≤ k
    before =
        let a = sizes.0 in
        let b = sizes.1 in
        let x = round_stops e es record { kind = kinds.Symbol; bytes = codes "("; place = p } m m1 (drop k tokens) (drop (suc k) tokens) q refl (let seven : width es ≡ 7 = omega arith in seven) h more sep j 0 start in
        let least = x.1 in
        let place = x.2 in
        let after_size = length-drop k tokens in omega arith

    there : (w : Walked 0 0 start tokens j j) → Ended j (verdict j w.open_count w.state (record { kind = kinds.Symbol; bytes = codes "("; place = p } ∷ m)) (record { kind = kinds.Symbol; bytes = codes "("; place = p } ∷ m) (drop k tokens) → StopsBy (verdict 0 0 start tokens) k
    there w (x, least, place, stop) =
        let a = sizes.0 in
        let b = sizes.1 in
        let after_size = length-drop k tokens in
        stop_along (verdict 0 0 start tokens) (verdict j w.open_count w.state (record { kind = kinds.Symbol; bytes = codes "("; place = p } ∷ m)) x k (w.same_verdict ∙ ap (verdict j w.open_count w.state) paren) (omega arith) stop

-- what a refusal for nesting says of the tokens
over_parts : (b : Bool) → over_if b parts ≡ Some nesting → ⊥
over_parts true h = let no : parts ≡ nesting = cc in cc
over_parts false h = cc

over_turns : (b : Bool) → over_if b turns ≡ Some nesting → ⊥
over_turns true h = let no : turns ≡ nesting = cc in cc
over_turns false h = cc

no_nesting : (stack : List Item) (t : PlacedToken) → item_breach stack t ≡ Some nesting → ⊥
no_nesting (more_parts n ∷ rest) t h = over_parts (nat_eq n 8 && is_comma (lexeme_of t)) h
no_nesting (turns_number ∷ rest) t h = over_turns (nat_lt 1000000 (decimal t.bytes)) h
no_nesting _ t h = cc

full : (a b : Bool) (o : Option Limit) → (o ≡ Some nesting → ⊥) → choose (a && b) (Some nesting) o ≡ Some nesting → (a ≡ true) × (b ≡ true)
full true true o h e = (refl, refl)
full true false o h e = absurd (h e)
full false b o h e = absurd (h e)

not_full : (a b : Bool) (o : Option Limit) → choose (a && b) (Some nesting) o ≡ None → a && b ≡ false
not_full true true o e = absurd (cc)
not_full true false o e = refl
not_full false b o e = refl

pub nested_at : (i n : ℕ) (s : State) (ts : List PlacedToken) (k : ℕ) → verdict i n s ts ≡ refused (over nesting) k →
    (d : ℕ) × (k ≡ i + d) × (t : PlacedToken) × (after : List PlacedToken) × (drop d ts ≡ t ∷ after) × (opens t ≡ true) × (open_behind n (take d ts) ≡ 64)
nested_at i n s [] k h = absurd (go (is_end_of s.stack) (sym (verdict_end i n s) ∙ h))
  where
    go : (b : Bool) → at_end i b ≡ refused (over nesting) k → ⊥
    go true e = cc
    go false e = let no : no_script ≡ over nesting = cc in cc
nested_at i n s (t ∷ ts) k h = go (turn i n s t ts) (λ next. nested_at (suc i) (open_after n t) next ts k)
  where
    go : Turn i n s t ts → ((next : State) → verdict (suc i) (open_after n t) next ts ≡ refused (over nesting) k →
        (d : ℕ) × (k ≡ suc i + d) × (u : PlacedToken) × (after : List PlacedToken) × (drop d ts ≡ u ∷ after) × (opens u ≡ true) × (open_behind (open_after n t) (take d ts) ≡ 64)) →
        (d : ℕ) × (k ≡ i + d) × (u : PlacedToken) × (after : List PlacedToken) × (drop d (t ∷ ts) ≡ u ∷ after) × (opens u ≡ true) × (open_behind n (take d (t ∷ ts)) ≡ 64)
    go (stuck q v) later = let both = same_refusal no_script (over nesting) i k (sym v ∙ h) in let no = both.0 in absurd (cc)
    go (stopped next limit q b v) later =
        let both = same_refusal (over limit) (over nesting) i k (sym v ∙ h) in
        let causes = both.0 in
        let same_limit : limit ≡ nesting = cc in
        let place = both.1 in
        let deep = full (opens t) (nat_eq n 64) (item_breach s.stack t) (no_nesting s.stack t) (b ∙ ap Some same_limit) in
        (0, omega arith, t, ts, refl, deep.0, eqb-true n 64 deep.1)
    go (moved next q b v) later =
        let x = later next (sym v ∙ h) in
        let place = x.1 in
        (suc x.0, omega arith, x.2, x.3, x.4, x.5, x.6)

-- what is accepted keeps the limit of brackets
step_within : (n : ℕ) (t : PlacedToken) (a b : Bool) → opens t ≡ a → closes t ≡ b → n ≤ 64 → a && nat_eq n 64 ≡ false → open_after n t ≤ 64
step_within n t a b p q bound e = go a b (nat_eq n 64) refl p q e
  where
    go : (x y z : Bool) → nat_eq n 64 ≡ z → opens t ≡ x → closes t ≡ y → x && z ≡ false → open_after n t ≤ 64
    go true y true f g k l = absurd (cc)
    go true y false f g k l =
        let less : n ≢ 64 = λ same_number. let no : true ≡ false = sym (eq-eqb n 64 same_number) ∙ f in cc in
        let is : open_after n t ≡ suc n = ap (λ c. if c then (suc n) else (if (closes t) then (n - 1) else n)) g in omega arith
    go false true z f g k l = let is : open_after n t ≡ n - 1 = ap₂ (λ (c d : Bool). if c then (suc n) else (if d then (n - 1) else n)) g k in omega arith
    go false false z f g k l = let is : open_after n t ≡ n = ap₂ (λ (c d : Bool). if c then (suc n) else (if d then (n - 1) else n)) g k in omega arith

pub nested_within : (i n : ℕ) (s : State) (ts : List PlacedToken) → n ≤ 64 → verdict i n s ts ≡ accepted → IsNestedWithin n ts
nested_within i n s [] bound h = tt
nested_within i n s (t ∷ ts) bound h = go (turn i n s t ts) (λ next. nested_within (suc i) (open_after n t) next ts)
  where
    go : Turn i n s t ts → ((next : State) → open_after n t ≤ 64 → verdict (suc i) (open_after n t) next ts ≡ accepted → IsNestedWithin (open_after n t) ts) → (open_after n t ≤ 64) × IsNestedWithin (open_after n t) ts
    go (stuck q v) later = let no : refused no_script i ≡ accepted = sym v ∙ h in absurd (cc)
    go (stopped next limit q b v) later = let no : refused (over limit) i ≡ accepted = sym v ∙ h in absurd (cc)
    go (moved next q b v) later =
        let small = step_within n t (opens t) (closes t) refl refl bound (not_full (opens t) (nat_eq n 64) (item_breach s.stack t) b) in (small, later next small (sym v ∙ h))

-- what is spelled within the limits is accepted
keeps : (a : Bool) (o : Option Limit) (n : ℕ) → a && nat_eq n 64 ≡ false → o ≡ None → choose (a && nat_eq n 64) (Some nesting) o ≡ None
keeps a o n e h = ap (λ b. choose b (Some nesting) o) e ∙ h

and_false : (a : Bool) → a && false ≡ false
and_false true = refl
and_false false = refl

item_keeps : (stack : List Item) (b : Bottom) (t : PlacedToken) (r : List PlacedToken) → Completes (Unit {0}) record { stack = stack; bottom = b } (t ∷ r) → item_breach stack t ≡ None
item_keeps (more_parts n ∷ rest) b t r (m, (m1, (no_exprs, wide, bound, (m2, e, (p, close))), more), k) =
    let is : t ∷ r ≡ record { kind = kinds.Symbol; bytes = codes ")"; place = p } ∷ m1 = e ∙ close in
    let not_comma : is_comma (lexeme_of t) ≡ false = ap first_is_comma is in
    ap (λ c. over_if (nat_eq n 8 && c) parts) not_comma ∙ ap (λ c. over_if c parts) (and_false (nat_eq n 8))
  where
    first_is_comma : List PlacedToken → Bool
    first_is_comma [] = false
    first_is_comma (u ∷ us) = is_comma (lexeme_of u)
item_keeps (more_parts n ∷ rest) b t r (m, (m1, (expr x es, wide, bound, h), more), k) =
    let limit = (bound tt).1 in
    let fewer : n ≢ 8 = omega arith in
    ap (λ c. over_if (c && is_comma (lexeme_of t)) parts) (ne_eqb n 8 fewer)
item_keeps (turns_number ∷ rest) b t r (m, (m1, (n, bound, (p, digits, e, value)), more), k) =
    let limit = bound tt in
    let bytes : t.bytes ≡ digits = ap first_of e in
    let few : decimal t.bytes ≤ 1000000 = let both : decimal t.bytes ≡ n = ap decimal bytes ∙ value in omega arith in
    ap (λ c. over_if c turns) (le-ltb 1000000 (decimal t.bytes) few)
  where
    first_of : List PlacedToken → List ℕ
    first_of [] = []
    first_of (u ∷ us) = u.bytes
item_keeps [] b t r h = refl
item_keeps (terminal x ∷ rest) b t r h = refl
item_keeps (expression ∷ rest) b t r h = refl
item_keeps (arguments x ∷ rest) b t r h = refl
item_keeps (more_items ∷ rest) b t r h = refl
item_keeps (after_brace ∷ rest) b t r h = refl
item_keeps (after_item ∷ rest) b t r h = refl
item_keeps (more_bindings ∷ rest) b t r h = refl
item_keeps (where_clause x ∷ rest) b t r h = refl
item_keeps (condition x ∷ rest) b t r h = refl
item_keeps (more_condition x ∷ rest) b t r h = refl
item_keeps (unit ∷ rest) b t r h = refl
item_keeps (base ∷ rest) b t r h = refl
item_keeps (statements ∷ rest) b t r h = refl
item_keeps (after_if ∷ rest) b t r h = refl
item_keeps (more_names ∷ rest) b t r h = refl

shallow : (n : ℕ) (t : PlacedToken) (a : Bool) → opens t ≡ a → open_after n t ≤ 64 → a && nat_eq n 64 ≡ false
shallow n t true e h =
    let is : open_after n t ≡ suc n = ap (λ c. if c then (suc n) else (if (closes t) then (n - 1) else n)) e in
    let less : n ≢ 64 = omega arith in ne_eqb n 64 less
shallow n t false e h = refl

pub spelled_accepted : (i n : ℕ) (s : State) (ts : List PlacedToken) → Completes (Unit {0}) s ts → IsNestedWithin n ts → verdict i n s ts ≡ accepted
spelled_accepted i n s [] h nested = verdict_end i n s ∙ ap (at_end i) (ap is_end_of (complete_end (Unit {0}) s.stack s.bottom h))
spelled_accepted i n s (t ∷ ts) h (small, nested) =
    let next = complete_step (Unit {0}) s t ts h in
    let calm : breach n s.stack t ≡ None = keeps (opens t) (item_breach s.stack t) n (shallow n t (opens t) refl small) (item_keeps s.stack s.bottom t ts h) in
    verdict_next i n s next.0 t ts next.1 calm ∙ spelled_accepted (suc i) (open_after n t) next.0 ts next.2 nested
