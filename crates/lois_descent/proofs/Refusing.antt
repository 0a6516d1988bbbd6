-- What the machine's verdict says of a script and of a refusal; and that there is one of them at most.
use Rattle.std.proofs.Common.{◌≡◌, ℕ, zero, suc, ◌+◌, ◌<◌, ◌≤◌, cond, ◌⊎◌, inl, inr, ⊎_elim, List, [], ◌∷◌, ◌++◌, length, take, drop, append_assoc, refl, sym, ap, ◌∙◌, subst, arith, length-drop, take-append-drop}
use Rattle.std.proofs.lemmas.Bool.{cases_lt}
use Rattle.lois_lexer.specs.declared.TokenKind.{TokenKind}
use Rattle.lois_lexer.specs.declared.TokenKind.TheVariants as kinds
use Rattle.lois_lexer.specs.declared.Token.{Token}
use Rattle.lois_lexer.specs.Tokens.{HasTokens}
use Rattle.lois_lexer.proofs.OneReading.{one_list}
use Rattle.lois_script.specs.Tree.{ScriptD}
use Rattle.lois_script.specs.Grammar.{PlacedToken, SpellsScript, SpellsParameters, Begins}
use Rattle.lois_script.specs.Limits.{opens, IsNestedWithin, StmtsAreWithin, Spells}
use Rattle.lois_descent.specs.Machine.{no_script, over, accepted, refused, verdict, start}
use Rattle.lois_descent.specs.Refusals.{IsNoScriptAt, Limit, nesting, parts, turns, GoesOver, BreaksLimit, Refused, tokens_in}
use Rattle.lois_descent.specs.Refusals.{Refusal}
use Rattle.lois_descent.specs.Refusals.{NoScript, TooNested, WideTuple, TurnsTooMany, NoMemory}
use Rattle.lois_descent.proofs.Language.{Completes}
use Rattle.lois_descent.proofs.Sound.{NoLimits, never}
use Rattle.lois_descent.proofs.Verdicts.{Stops, stops}
use Rattle.lois_descent.proofs.Unbroken.{StopsBy}
use Rattle.lois_descent.proofs.Breaches.{over_stops, nested_at, nested_within, spelled_accepted}
use Rattle.lois_descent.proofs.TokenSteps.{rest_is}

-- the whole script is what the machine starts with
script_completes : (limits : Type 0) (s : ScriptD) (tokens : List PlacedToken) → (limits → StmtsAreWithin s.body) → SpellsScript s tokens → Completes limits start tokens
script_completes limits s tokens n (m1, word, (m2, structure, (m3, end, (m4, parameters, body)))) =
    (m3, (m1, word, (m2, (s.ordered, structure), (m3, end, refl))), (s.parameters, s.body, n, (m4, parameters, body)))

completes_script : (tokens : List PlacedToken) → Completes NoLimits start tokens → (s : ScriptD) × SpellsScript s tokens
completes_script tokens (m, (m1, word, (m2, (ordered, structure), (m3, end, e))), (xs, l, n, (m4, parameters, body))) = (
  record { ordered = ordered; parameters = xs; body = l },
  (m1, word, (m2, structure, (m3, end, (m4, subst (λ b. SpellsParameters xs b m4) (sym e) parameters, body)))),
)

begins_with : (tokens more : List PlacedToken) → Completes NoLimits start (tokens ++ more) → Begins tokens
begins_with tokens more h = let s = completes_script (tokens ++ more) h in (more, s.0, s.1)

begun_completes : (tokens : List PlacedToken) → Begins tokens → (more : List PlacedToken) × Completes NoLimits start (tokens ++ more)
begun_completes tokens (more, s, h) = (more, script_completes NoLimits s (tokens ++ more) never h)

split_take : (k m : ℕ) (ts : List PlacedToken) → k ≤ m → take m ts ≡ take k ts ++ drop k (take m ts)
split_take zero m ts h = refl
split_take (suc k) zero ts h = absurd (omega arith)
split_take (suc k) (suc m) [] h = refl
split_take (suc k) (suc m) (t ∷ ts) h = let less : k ≤ m = omega arith in ap (λ x. t ∷ x) (split_take k m ts less)

-- what begins a script begins it with fewer tokens too
pub begins_prefix : (k m : ℕ) (ts : List PlacedToken) → k ≤ m → Begins (take m ts) → Begins (take k ts)
begins_prefix k m ts h (more, s, g) =
    (drop k (take m ts) ++ more, s, subst (SpellsScript s) (ap (λ x. x ++ more) (split_take k m ts h) ∙ append_assoc (take k ts) (drop k (take m ts)) more) g)

pub script_begins : (k : ℕ) (ts : List PlacedToken) (s : ScriptD) → SpellsScript s ts → Begins (take k ts)
script_begins k ts s h = (drop k ts, s, subst (SpellsScript s) (sym (take-append-drop k ts)) h)

-- the verdict, as a refusal
pub no_script_refused : (ts : List PlacedToken) (k : ℕ) → verdict 0 0 start ts ≡ refused no_script k → Refused ts (NoScript k)
no_script_refused ts k v = (go (stops 0 0 start ts no_script k v), λ limit j below goes_over. let s = over_stops limit ts j goes_over in late s below)
  where
    late : {j : ℕ} → StopsBy (verdict 0 0 start ts) j → j < k → ⊥
    late (c, m, w, bound) below = let both : refused no_script k ≡ refused c m = sym v ∙ w in let same_place : k ≡ m = cc in omega arith

    go : Stops 0 start ts no_script k → IsNoScriptAt ts k
    go h =
        let place : h.taken ≡ k = let p = h.place in omega arith in
        let begun : Begins (take k ts) = subst (λ d. Begins (take d ts)) place (begins_with (take h.taken ts) h.more h.begun) in (
          begun,
          subst (λ d. ((d < length ts) × (Begins (take (suc d) ts) → ⊥)) ⊎ ((d ≡ length ts) × ((s : ScriptD) → SpellsScript s ts → ⊥))) place
              (⊎_elim (λ x. inl (x.0, λ b. let c = begun_completes (take (suc h.taken) ts) b in x.1 c.0 c.1)) (λ x. inr (x.0, λ s g. x.1 (script_completes NoLimits s ts never g))) h.cause),
        )

pub limit_broken : (limit : Limit) (ts : List PlacedToken) (k : ℕ) → verdict 0 0 start ts ≡ refused (over limit) k → GoesOver limit ts k → BreaksLimit limit ts k
limit_broken limit ts k v goes_over = go (stops 0 0 start ts (over limit) k v)
  where
    late : {j : ℕ} → StopsBy (verdict 0 0 start ts) j → j < k → ⊥
    late (c, m, w, bound) below = let both : refused (over limit) k ≡ refused c m = sym v ∙ w in let same_place : k ≡ m = cc in omega arith

    go : Stops 0 start ts (over limit) k → BreaksLimit limit ts k
    go h =
        let place : h.taken ≡ k = let p = h.place in omega arith in
        record {
          begun = subst (λ d. Begins (take (suc d) ts)) place (begins_with (take (suc h.taken) ts) h.cause.1 h.cause.2);
          over = goes_over;
          first = λ other j below before. late (over_stops other ts j before) below;
        }

pub nesting_over : (ts : List PlacedToken) (k : ℕ) → verdict 0 0 start ts ≡ refused (over nesting) k → GoesOver nesting ts k
nesting_over ts k v =
    let h = nested_at 0 0 start ts k v in
    let place : h.0 ≡ k = let p = h.1 in omega arith in
    subst (λ d. GoesOver nesting ts d) place (h.2, h.3, h.4, h.5, h.6)

pub script_accepted : (ts : List PlacedToken) (s : ScriptD) → SpellsScript s ts → StmtsAreWithin s.body → IsNestedWithin 0 ts → verdict 0 0 start ts ≡ accepted
script_accepted ts s h n nested = spelled_accepted 0 0 start ts (script_completes (Unit {0}) s ts (λ k. n) h) nested

pub accepted_nested : (ts : List PlacedToken) → verdict 0 0 start ts ≡ accepted → IsNestedWithin 0 ts
accepted_nested ts v = nested_within 0 0 start ts (omega arith) v

-- a script within the limits is refused in no way
not_over : (limit : Limit) (ts : List PlacedToken) (k : ℕ) → verdict 0 0 start ts ≡ accepted → GoesOver limit ts k → ⊥
not_over limit ts k v g = let s = over_stops limit ts k g in let no : accepted ≡ refused s.0 s.1 = sym v ∙ s.2 in absurd (cc)

not_refused : (ts : List PlacedToken) (s : ScriptD) (e : Refusal) → SpellsScript s ts → verdict 0 0 start ts ≡ accepted → Refused ts e → ⊥
not_refused ts s (NoScript k) h v ((begun, inl (inside, stuck)), unbroken) = stuck (script_begins (suc k) ts s h)
not_refused ts s (NoScript k) h v ((begun, inr (end, none)), unbroken) = none s h
not_refused ts s (TooNested k) h v b = not_over nesting ts k v b.over
not_refused ts s (WideTuple k) h v b = not_over parts ts k v b.over
not_refused ts s (TurnsTooMany k) h v b = not_over turns ts k v b.over
not_refused ts s NoMemory h v b = b

pub never_both : (text : List ℕ) (tokens : List Token) (s : ScriptD) (e : Refusal) → HasTokens text tokens → Spells text s → Refused (tokens_in text tokens) e → ⊥
never_both text tokens s e cut spelled r =
    let one = one_list text spelled.tokens tokens spelled.cut cut in
    let script = subst (λ x. SpellsScript s (tokens_in text x)) one spelled.script in
    let nested = subst (λ x. IsNestedWithin 0 (tokens_in text x)) one spelled.nesting in
    not_refused (tokens_in text tokens) s e script (script_accepted (tokens_in text tokens) s script spelled.forms nested) r

-- a token goes over one limit at most
abbrev kind_sort : TokenKind → ℕ
kind_sort kinds.Number = 3
kind_sort _ = 2

abbrev sort : List PlacedToken → ℕ
sort [] = 0
sort (t ∷ ts) = cond (opens t) 1 (kind_sort t.kind)

abbrev sort_of : Limit → ℕ
sort_of nesting = 1
sort_of parts = 2
sort_of turns = 3

over_sort : (limit : Limit) (ts : List PlacedToken) (k : ℕ) → GoesOver limit ts k → sort (drop k ts) ≡ sort_of limit
over_sort nesting ts k (t, after, e, opener, full) = ap sort e ∙ ap (λ b. cond b 1 (kind_sort t.kind)) opener
over_sort parts ts k (j, es, wide, h, (q, sep)) = ap sort sep
over_sort turns ts k (j, n, next, many, (m, (p, word), (q, digits, num, value))) =
    let there : suc j ≡ k = sym next in
    let here : m ≡ drop k ts = rest_is ts j _ m word ∙ ap (λ x. drop x ts) (let one_more : j + 1 ≡ k = omega arith in one_more) in
    ap sort (sym here ∙ num)

one_limit : (a b : Limit) → sort_of a ≡ sort_of b → a ≡ b
one_limit nesting nesting e = refl
one_limit parts parts e = refl
one_limit turns turns e = refl
one_limit nesting parts e = absurd (cc)
one_limit nesting turns e = absurd (cc)
one_limit parts nesting e = absurd (cc)
one_limit parts turns e = absurd (cc)
one_limit turns nesting e = absurd (cc)
one_limit turns parts e = absurd (cc)

some_token : (ts : List PlacedToken) (k n : ℕ) → sort (drop k ts) ≡ suc n → k < length ts
some_token ts k n e = ⊎_elim (λ h. h) (λ h. absurd (go (drop k ts) (let size = length-drop k ts in let nothing : length (drop k ts) ≡ 0 = omega arith in nothing) e)) (cases_lt k (length ts))
  where
    go : (r : List PlacedToken) → length r ≡ 0 → sort r ≡ suc n → ⊥
    go [] h g = cc
    go (t ∷ r) h g = omega arith

over_inside : (limit : Limit) (ts : List PlacedToken) (k : ℕ) → GoesOver limit ts k → k < length ts
over_inside nesting ts k g = some_token ts k 0 (over_sort nesting ts k g)
over_inside parts ts k g = some_token ts k 1 (over_sort parts ts k g)
over_inside turns ts k g = some_token ts k 2 (over_sort turns ts k g)

-- where the tokens fail, no script goes on
fails_before : (ts : List PlacedToken) (k m : ℕ) → IsNoScriptAt ts k → k < m → m ≤ length ts → Begins (take m ts) → ⊥
fails_before ts k m (begun, inl (inside, stuck)) less bound b = stuck (begins_prefix (suc k) m ts (omega arith) b)
fails_before ts k m (begun, inr (end, none)) less bound b = omega arith

fails_inside : (ts : List PlacedToken) (k : ℕ) → IsNoScriptAt ts k → k ≤ length ts
fails_inside ts k (begun, inl (inside, stuck)) = omega arith
fails_inside ts k (begun, inr (end, none)) = omega arith

one_place : (ts : List PlacedToken) (k m : ℕ) → IsNoScriptAt ts k → IsNoScriptAt ts m → k ≡ m
one_place ts k m f g =
    ⊎_elim (λ less. absurd (fails_before ts k m f less (fails_inside ts m g) g.0))
    (λ most. ⊎_elim (λ less. absurd (fails_before ts m k g less (fails_inside ts k f) f.0)) (λ least. omega arith) (cases_lt m k)) (cases_lt k m)

fails_or_breaks : (ts : List PlacedToken) (k m : ℕ) (limit : Limit) → Refused ts (NoScript k) → BreaksLimit limit ts m → ⊥
fails_or_breaks ts k m limit (f, unbroken) b =
    ⊎_elim (λ less. unbroken limit m less b.over)
    (λ most. fails_before ts k (suc m) f (omega arith) (let inside = over_inside limit ts m b.over in omega arith) b.begun) (cases_lt m k)

one_breach : (ts : List PlacedToken) (k m : ℕ) (a b : Limit) → BreaksLimit a ts k → BreaksLimit b ts m → (a ≡ b) × (k ≡ m)
one_breach ts k m a b f g =
    let place : k ≡ m =
    ⊎_elim (λ less. absurd (g.first a k less f.over)) (λ most. ⊎_elim (λ less. absurd (f.first b m less g.over)) (λ least. omega arith) (cases_lt m k)) (cases_lt k m) in
    (one_limit a b (sym (over_sort a ts k f.over) ∙ ap (λ x. sort (drop x ts)) place ∙ over_sort b ts m g.over), place)

pub one_refusal : (ts : List PlacedToken) (a b : Refusal) → Refused ts a → Refused ts b → a ≡ b
one_refusal ts (NoScript k) (NoScript m) f g = ap NoScript (one_place ts k m f.0 g.0)
one_refusal ts (NoScript k) (TooNested m) f g = absurd (fails_or_breaks ts k m nesting f g)
one_refusal ts (NoScript k) (WideTuple m) f g = absurd (fails_or_breaks ts k m parts f g)
one_refusal ts (NoScript k) (TurnsTooMany m) f g = absurd (fails_or_breaks ts k m turns f g)
one_refusal ts (TooNested k) (NoScript m) f g = absurd (fails_or_breaks ts m k nesting g f)
one_refusal ts (WideTuple k) (NoScript m) f g = absurd (fails_or_breaks ts m k parts g f)
one_refusal ts (TurnsTooMany k) (NoScript m) f g = absurd (fails_or_breaks ts m k turns g f)
one_refusal ts (TooNested k) (TooNested m) f g = ap TooNested (one_breach ts k m nesting nesting f g).1
one_refusal ts (WideTuple k) (WideTuple m) f g = ap WideTuple (one_breach ts k m parts parts f g).1
one_refusal ts (TurnsTooMany k) (TurnsTooMany m) f g = ap TurnsTooMany (one_breach ts k m turns turns f g).1
one_refusal ts (TooNested k) (WideTuple m) f g = let no = (one_breach ts k m nesting parts f g).0 in absurd (cc)
one_refusal ts (TooNested k) (TurnsTooMany m) f g = let no = (one_breach ts k m nesting turns f g).0 in absurd (cc)
one_refusal ts (WideTuple k) (TooNested m) f g = let no = (one_breach ts k m parts nesting f g).0 in absurd (cc)
one_refusal ts (WideTuple k) (TurnsTooMany m) f g = let no = (one_breach ts k m parts turns f g).0 in absurd (cc)
one_refusal ts (TurnsTooMany k) (TooNested m) f g = let no = (one_breach ts k m turns nesting f g).0 in absurd (cc)
one_refusal ts (TurnsTooMany k) (WideTuple m) f g = let no = (one_breach ts k m turns parts f g).0 in absurd (cc)
one_refusal ts NoMemory b f g = absurd f
one_refusal ts (NoScript k) NoMemory f g = absurd g
one_refusal ts (TooNested k) NoMemory f g = absurd g
one_refusal ts (WideTuple k) NoMemory f g = absurd g
one_refusal ts (TurnsTooMany k) NoMemory f g = absurd g
