-- Readers of whole texts that refuse each text exactly where no text that they accept goes on so.
use Rattle.std.proofs.Common.{◌≡◌, ℕ, zero, suc, ◌<◌, ◌≤◌, Bool, true, false, cond, not, ◌||◌, ◌==◌, List, [], ◌∷◌, ◌++◌, length, Option, Result, Ok, Err, refl, sym, ap, subst, ◌∙◌, append_assoc, arith, eq-eqb, length-append}
use Rattle.std.specs.Char.{is_ascii_alphabetic, is_ascii_digit}
use Rattle.std.proofs.lemmas.Bool.{eqb-true, false≢true, not-true, not_from_false, or_right}
use Rattle.lois_lexer.specs.Bytes.{is_word_byte}
use Rattle.lois_reader.specs.Reading.{◌>>=◌, End, first_byte, passes, begins}
use Rattle.lois_reader.specs.Ends.{fixed_end, word_end, word_at, number_end, number_at, many_end}
use Rattle.lois_reader.proofs.Backs.{no_ok, same_ok, got, fixed_back, run_of, word_form, word_back, word_size, number_form, number_back, number_size}
use Rattle.lois_reader.proofs.Fronts.{fixed_front, word_ends, number_ends}
use Rattle.lois_reader.proofs.Outcome.{bind_assoc}

-- ---- whole texts

-- A refused text: the front before the place begins a text that is accepted, and no other byte behind the one there helps.
pub record Refused (k : List ℕ → End) (s : List ℕ) : Type 0 where
  pub front : List ℕ
  pub rest : List ℕ
  pub more : List ℕ
  pub split : s ≡ front ++ rest
  pub left : k s ≡ Err (length rest)
  pub goes_on : k (front ++ more) ≡ Ok []
  pub stays : (b : ℕ) (t u : List ℕ) → rest ≡ b ∷ t → k (front ++ (b ∷ u)) ≡ Err (suc (length u))

pub data Exact (k : List ℕ → End) (s : List ℕ) : Type 0 where
  accepts : k s ≡ Ok [] → Exact k s
  refuses : Refused k s → Exact k s

-- each text of at most n bytes
abbrev pub Upto : ℕ → (List ℕ → End) → Type 0
Upto n k = (s : List ℕ) → length s ≤ n → Exact k s

-- texts that begin with such a byte are refused there
abbrev pub Refuses : (ℕ → Bool) → (List ℕ → End) → Type 0
Refuses p k = (b : ℕ) (s : List ℕ) → p b ≡ true → k (b ∷ s) ≡ Err (suc (length s))

abbrev pub no_byte : ℕ → Bool
no_byte b = false

pub refuses_none : (k : List ℕ → End) → Refuses no_byte k
refuses_none k b s h = absurd (false≢true h)

pub same_reader : (k l : List ℕ → End) → ((s : List ℕ) → k s ≡ l s) → (s : List ℕ) → Exact l s → Exact k s
same_reader k l same s (accepts e) = accepts (same s ∙ e)
same_reader k l same s (refuses h) =
    refuses (record {
      front = h.front;
      rest = h.rest;
      more = h.more;
      split = h.split;
      left = same s ∙ h.left;
      goes_on = same (h.front ++ h.more) ∙ h.goes_on;
      stays = λ b t u e. same (h.front ++ (b ∷ u)) ∙ h.stays b t u e;
    })

-- some text is accepted
pub accepted_text : (k : List ℕ → End) → Exact k [] → (w : List ℕ) × (k w ≡ Ok [])
accepted_text k (accepts e) = ([], e)
accepted_text k (refuses h) = (h.front ++ h.more, h.goes_on)

first_kept : (q : Option ℕ → Bool) (v : List ℕ) (b : ℕ) (t u : List ℕ) → q (first_byte (v ++ (b ∷ t))) ≡ true → q (first_byte (v ++ (b ∷ u))) ≡ true
first_kept q [] b t u h = h
first_kept q (c ∷ v) b t u h = h

-- g reads v and then as f does, where what follows v passes a test of its first byte; f accepts only what passes
pub behind : (g f : List ℕ → End) (q : Option ℕ → Bool) (v r : List ℕ) → ((x : List ℕ) → q (first_byte x) ≡ true → g (v ++ x) ≡ f x) → ((x : List ℕ) → f x ≡ Ok [] → q (first_byte x) ≡ true) → q (first_byte r) ≡ true → Exact f r → Exact g (v ++ r)
behind g f q v r same passed here (accepts e) = accepts (same r here ∙ e)
behind g f q v r same passed here (refuses h) =
    refuses (record {
      front = v ++ h.front;
      rest = h.rest;
      more = h.more;
      split = ap (λ (x : List ℕ). v ++ x) h.split ∙ sym (append_assoc v h.front h.rest);
      left = same r here ∙ h.left;
      goes_on = ap g (append_assoc v h.front h.more) ∙ same (h.front ++ h.more) (passed (h.front ++ h.more) h.goes_on) ∙ h.goes_on;
      stays = λ b t u e. ap g (append_assoc v h.front (b ∷ u)) ∙ same (h.front ++ (b ∷ u)) (first_kept q h.front b t u (subst (λ (x : List ℕ). q (first_byte x) ≡ true) (h.split ∙ ap (λ (x : List ℕ). h.front ++ x) e) here)) ∙ h.stays b t u e;
    })

pub behind_any : (g f : List ℕ → End) (v r : List ℕ) → ((x : List ℕ) → g (v ++ x) ≡ f x) → Exact f r → Exact g (v ++ r)
behind_any g f v r same h = behind g f (λ o. true) v r (λ x p. same x) (λ x e. refl) refl h

-- g reads v, and refuses what follows at once
pub refused_behind : (g : List ℕ → End) (v r w : List ℕ) → g (v ++ r) ≡ Err (length r) → g (v ++ w) ≡ Ok [] → ((b : ℕ) (t u : List ℕ) → r ≡ b ∷ t → g (v ++ (b ∷ u)) ≡ Err (suc (length u))) → Exact g (v ++ r)
refused_behind g v r w e f stays = refuses (record { front = v; rest = r; more = w; split = refl; left = e; goes_on = f; stays = stays })

-- no text that a reader accepts begins with a byte that it refuses
pub passed_first : (p : ℕ → Bool) (k : List ℕ → End) → Refuses p k → (x : List ℕ) → k x ≡ Ok [] → passes p (first_byte x) ≡ false
passed_first p k refused [] e = refl
passed_first p k refused (b ∷ t) e =
    elim (p b) as (λ v. p b ≡ v → p b ≡ false) [
      | true ↦ λ h. absurd (no_ok (sym (refused b t h) ∙ e))
      | false ↦ λ h. h
    ] refl

-- a reader behind v, where what follows passes none of the bytes that the reader there refuses
pub behind_stop : (g f : List ℕ → End) (p : ℕ → Bool) (v r : List ℕ) → ((x : List ℕ) → passes p (first_byte x) ≡ false → g (v ++ x) ≡ f x) → Refuses p f → passes p (first_byte r) ≡ false → Exact f r → Exact g (v ++ r)
behind_stop g f p v r same stops ends h =
    behind g f (λ o. not (passes p o)) v r (λ x q. same x (not-true (passes p (first_byte x)) q))
    (λ x e. not_from_false (passes p (first_byte x)) (passed_first p f stops x e)) (not_from_false (passes p (first_byte r)) ends) h

abbrev pub is_byte : ℕ → ℕ → Bool
is_byte c b = b == c

-- a text that begins with c, or doesn't
by_first : {A : Type 0} (c : ℕ) (s : List ℕ) → ((t : List ℕ) → s ≡ c ∷ t → A) → (begins c s ≡ false → A) → A
by_first c [] found other = other refl
by_first {A} c (b ∷ t) found other =
    elim (b == c) as (λ v. (b == c) ≡ v → A) [
      | true ↦ λ e. found t (ap (λ (x : ℕ). x ∷ t) (eqb-true b c e))
      | false ↦ λ e. other e
    ] refl

-- which reader begins with c, and goes on behind it as the second one does
abbrev pub TakesFirst : ℕ → (List ℕ → End) → (List ℕ → End) → Type 0
TakesFirst c f after = (x : List ℕ) → f (c ∷ x) ≡ after x

abbrev pub RefusesFirst : ℕ → (List ℕ → End) → Type 0
RefusesFirst c g = (t : List ℕ) → g (c ∷ t) ≡ Err (suc (length t))

refuses_byte : (c : ℕ) (g : List ℕ → End) → RefusesFirst c g → Refuses (is_byte c) g
refuses_byte c g refused b t e = subst (λ (x : ℕ). g (x ∷ t) ≡ Err (suc (length t))) (sym (eqb-true b c e)) (refused t)

-- readers that agree on what doesn't begin with c
as_other : (c : ℕ) (h g : List ℕ → End) → ((x : List ℕ) → begins c x ≡ false → h x ≡ g x) → RefusesFirst c g → (s : List ℕ) → begins c s ≡ false → Exact g s → Exact h s
as_other c h g other refused s none =
    behind h g (λ o. not (passes (is_byte c) o)) [] s
    (λ x q. other x (not-true (begins c x) q))
    (λ x e. not_from_false (begins c x) (passed_first (is_byte c) g (refuses_byte c g refused) x e))
    (not_from_false (begins c s) none)

-- The first byte decides: behind c the reader goes on as f does, and other texts it reads as g does, which refuses c.
pub choice_at : (c : ℕ) (h f g : List ℕ → End) → TakesFirst c h f → ((x : List ℕ) → begins c x ≡ false → h x ≡ g x) → RefusesFirst c g → (s : List ℕ) → ((t : List ℕ) → length t < length s → Exact f t) → Exact g s → Exact h s
choice_at c h f g takes other refused s below whole =
    by_first c s
    (λ t is. subst (λ (x : List ℕ). Exact h x) (sym is) (behind_any h f (c ∷ []) t takes (below t (omega (arith, ap length is)))))
    (λ none. as_other c h g other refused s none whole)

-- ---- parts of texts

infixl 10 ◌⨾◌
-- what f leaves is read by g
abbrev pub ◌⨾◌ : (List ℕ → End) → (List ℕ → End) → List ℕ → End
(f ⨾ g) s = f s >>= g

-- A part keeps a reader of what follows exact, if that refuses the bytes that would go on with the part.
pub record IsPart (p : ℕ → Bool) (f : List ℕ → End) : Type 0 where
  pub exact : (n : ℕ) (k : List ℕ → End) → Refuses p k → Upto n k → Upto n (f ⨾ k)
  pub shorter : (s r : List ℕ) → f s ≡ Ok r → length r ≤ length s

-- a part of at least one byte
pub record IsItem (p : ℕ → Bool) (f : List ℕ → End) : Type 0 where
  pub exact : (n : ℕ) (k : List ℕ → End) → Refuses p k → Upto n k → Upto (suc n) (f ⨾ k)
  pub shorter : (s r : List ℕ) → f s ≡ Ok r → length r < length s

pub part_of : {p : ℕ → Bool} {f : List ℕ → End} → IsItem p f → IsPart p f
part_of {p} {f} i = record {
  exact = λ n k stops upto s le. i.exact n k stops upto s (omega arith);
  shorter = λ s r e. let below : length r < length s = i.shorter s r e in omega arith;
}

pub wider_part : {p : ℕ → Bool} {f : List ℕ → End} (q : ℕ → Bool) → ((b : ℕ) → p b ≡ true → q b ≡ true) → IsPart p f → IsPart q f
wider_part q more i = record { exact = λ n k stops. i.exact n k (λ b s h. stops b s (more b h)); shorter = i.shorter }

-- one part behind another
pub part_then : {p q : ℕ → Bool} {f g : List ℕ → End} → IsPart q f → IsPart p g → ((k : List ℕ → End) → Refuses p k → Refuses q (g ⨾ k)) → IsPart p (f ⨾ g)
part_then {p} {q} {f} {g} i j stop = record {
  exact = λ n k stops upto s le. same_reader ((f ⨾ g) ⨾ k) (f ⨾ (g ⨾ k)) (λ x. bind_assoc (f x) g k) s (i.exact n (g ⨾ k) (stop k stops) (j.exact n k stops upto) s le);
  shorter = λ s r e. let m = got (f s) g r e in let first_le : length m.0 ≤ length s = i.shorter s m.0 m.1 in let later : length r ≤ length m.0 = j.shorter m.0 r m.2 in omega arith;
}

pub item_then : {p q : ℕ → Bool} {f g : List ℕ → End} → IsItem q f → IsPart p g → ((k : List ℕ → End) → Refuses p k → Refuses q (g ⨾ k)) → IsItem p (f ⨾ g)
item_then {p} {q} {f} {g} i j stop = record {
  exact = λ n k stops upto s le. same_reader ((f ⨾ g) ⨾ k) (f ⨾ (g ⨾ k)) (λ x. bind_assoc (f x) g k) s (i.exact n (g ⨾ k) (stop k stops) (j.exact n k stops upto) s le);
  shorter = λ s r e. let m = got (f s) g r e in let first_lt : length m.0 < length s = i.shorter s m.0 m.1 in let later : length r ≤ length m.0 = j.shorter m.0 r m.2 in omega arith;
}

-- ---- fixed texts

fixed_here : (c : ℕ) (cs x : List ℕ) → fixed_end (c ∷ cs) (c ∷ x) ≡ fixed_end cs x
fixed_here c cs x = rw (eq-eqb c c refl) refl

fixed_other : (b c : ℕ) (cs t : List ℕ) → (b == c) ≡ false → fixed_end (c ∷ cs) (b ∷ t) ≡ Err (suc (length t))
fixed_other b c cs t e = rw e refl

fixed_refused : (c : ℕ) (cs : List ℕ) (k : List ℕ → End) (s : List ℕ) → Exact k [] → fixed_end (c ∷ cs) s ≡ Err (length s) → ((b : ℕ) (t u : List ℕ) → s ≡ b ∷ t → fixed_end (c ∷ cs) (b ∷ u) ≡ Err (suc (length u))) → Exact (fixed_end (c ∷ cs) ⨾ k) s
fixed_refused c cs k s some e stays =
    let w = accepted_text k some in
    refused_behind (fixed_end (c ∷ cs) ⨾ k) [] s ((c ∷ cs) ++ w.0) (ap (λ r. r >>= k) e)
    (ap (λ r. r >>= k) (fixed_front (c ∷ cs) w.0) ∙ w.1)
    (λ b t u same. ap (λ r. r >>= k) (stays b t u same))

fixed_next : (c : ℕ) (cs : List ℕ) (k : List ℕ → End) (s : List ℕ) → Exact k [] → ((t : List ℕ) → length t < length s → Exact (fixed_end cs ⨾ k) t) → Exact (fixed_end (c ∷ cs) ⨾ k) s
fixed_next c cs k [] some below = fixed_refused c cs k [] some refl (λ b t u e. cc)
fixed_next c cs k (b ∷ t) some below =
    elim (b == c) as (λ v. (b == c) ≡ v → Exact (fixed_end (c ∷ cs) ⨾ k) (b ∷ t)) [
      | true ↦ λ e. subst (λ (x : ℕ). Exact (fixed_end (c ∷ cs) ⨾ k) (x ∷ t)) (sym (eqb-true b c e))
          (behind_any (fixed_end (c ∷ cs) ⨾ k) (fixed_end cs ⨾ k) (c ∷ []) t (λ x. ap (λ r. r >>= k) (fixed_here c cs x)) (below t (omega arith)))
      | false ↦ λ e. fixed_refused c cs k (b ∷ t) some (fixed_other b c cs t e)
          (λ d v u same. let is_d : b ≡ d = cc in fixed_other d c cs u (subst (λ (x : ℕ). (x == c) ≡ false) is_d e))
    ] refl

fixed_upto : (cs : List ℕ) (n : ℕ) (k : List ℕ → End) → Upto n k → Upto n (fixed_end cs ⨾ k)
fixed_upto [] n k upto s le = upto s le
fixed_upto (c ∷ cs) n k upto s le = fixed_next c cs k s (upto [] (omega arith)) (λ t below. fixed_upto cs n k upto t (omega arith))

pub fixed_part : (x : List ℕ) → IsPart no_byte (fixed_end x)
fixed_part x = record {
  exact = λ n k stops upto. fixed_upto x n k upto;
  shorter = λ s r e. omega (arith, ap length (fixed_back x s r e), length-append x r);
}

pub fixed_item : (c : ℕ) (cs : List ℕ) → IsItem no_byte (fixed_end (c ∷ cs))
fixed_item c cs = record {
  exact = λ n k stops upto s le. fixed_next c cs k s (upto [] (omega arith)) (λ t below. fixed_upto cs n k upto t (omega arith));
  shorter = λ s r e. omega (arith, ap length (fixed_back (c ∷ cs) s r e), length-append (c ∷ cs) r);
}

-- a byte that passes p isn't c, which doesn't
pub differs : (p : ℕ → Bool) (b c : ℕ) → p b ≡ true → p c ≡ false → (b == c) ≡ false
differs p b c h none =
    elim (b == c) as (λ v. (b == c) ≡ v → (b == c) ≡ false) [
      | true ↦ λ e. absurd (false≢true (sym none ∙ ap p (sym (eqb-true b c e)) ∙ h))
      | false ↦ λ e. e
    ] refl

pub fixed_refuses : (p : ℕ → Bool) (c : ℕ) (cs : List ℕ) (k : List ℕ → End) → p c ≡ false → Refuses p (fixed_end (c ∷ cs) ⨾ k)
fixed_refuses p c cs k none b s h = rw (differs p b c h none) refl

-- ---- words and numbers

pub word_refused : (b : ℕ) (s : List ℕ) → is_ascii_alphabetic b ≡ false → word_end (b ∷ s) ≡ Err (suc (length s))
unfolding word_end word_at
word_refused b s e = rw e refl

word_nothing : word_end [] ≡ Err 0
unfolding word_end word_at
word_nothing = refl

digit_refused : (b : ℕ) (s : List ℕ) → (b == 48) ≡ false → is_ascii_digit b ≡ false → number_end (b ∷ s) ≡ Err (suc (length s))
unfolding number_end number_at
digit_refused b s e f = rw (e, f) refl

number_nothing : number_end [] ≡ Err 0
unfolding number_end number_at
number_nothing = refl

number_zero : (s : List ℕ) → number_end (48 ∷ s) ≡ Ok s
unfolding number_end number_at
number_zero s = refl

-- a refusal at the front, which a text of one byte more than what follows would mend
refused_front : (f k : List ℕ → End) (p : ℕ → Bool) (a : ℕ) (s : List ℕ) → ((x : List ℕ) → passes p (first_byte x) ≡ false → f (a ∷ x) ≡ Ok x) → Refuses p k → Exact k [] → f s ≡ Err (length s) → ((b : ℕ) (t u : List ℕ) → s ≡ b ∷ t → f (b ∷ u) ≡ Err (suc (length u))) → Exact (f ⨾ k) s
refused_front f k p a s read stops some e stays =
    let w = accepted_text k some in
    refused_behind (f ⨾ k) [] s (a ∷ w.0) (ap (λ r. r >>= k) e)
    (ap (λ r. r >>= k) (read w.0 (passed_first p k stops w.0 w.1)) ∙ w.1)
    (λ b t u same. ap (λ r. r >>= k) (stays b t u same))

-- a front that is read, and what follows it
read_front : (f k : List ℕ → End) (p : ℕ → Bool) (v r : List ℕ) → ((x : List ℕ) → passes p (first_byte x) ≡ false → f (v ++ x) ≡ Ok x) → Refuses p k → passes p (first_byte r) ≡ false → Exact k r → Exact (f ⨾ k) (v ++ r)
read_front f k p v r read stops ends h =
    behind (f ⨾ k) k (λ o. not (passes p o)) v r (λ x q. ap (λ e. e >>= k) (read x (not-true (passes p (first_byte x)) q)))
    (λ x e. not_from_false (passes p (first_byte x)) (passed_first p k stops x e)) (not_from_false (passes p (first_byte r)) ends) h

word_upto : (n : ℕ) (k : List ℕ → End) → Refuses is_word_byte k → Upto n k → Upto (suc n) (word_end ⨾ k)
word_upto n k stops upto [] le = refused_front word_end k is_word_byte 97 [] (λ x ends. word_ends (97 ∷ []) x refl ends) stops (upto [] (omega arith)) word_nothing (λ b t u e. cc)
word_upto n k stops upto (b ∷ s) le =
    elim (is_ascii_alphabetic b) as (λ v. is_ascii_alphabetic b ≡ v → Exact (word_end ⨾ k) (b ∷ s)) [
      | true ↦ λ e. let u = run_of is_word_byte s in
          let short : length u.rest ≤ n = omega (arith, ap length u.split, length-append u.run u.rest) in
          subst (λ (x : List ℕ). Exact (word_end ⨾ k) (b ∷ x)) (sym u.split)
          (read_front word_end k is_word_byte (b ∷ u.run) u.rest (λ x ends. word_ends (b ∷ u.run) x (word_form b u.run e u.all) ends) stops u.ends (upto u.rest short))
      | false ↦ λ e. refused_front word_end k is_word_byte 97 (b ∷ s) (λ x ends. word_ends (97 ∷ []) x refl ends) stops (upto [] (omega arith)) (word_refused b s e)
          (λ d t v same. let is_d : b ≡ d = cc in word_refused d v (subst (λ (x : ℕ). is_ascii_alphabetic x ≡ false) is_d e))
    ] refl

pub word_item : IsItem is_word_byte word_end
word_item = record { exact = word_upto; shorter = λ s r e. let w = word_back s r e in omega (arith, ap length w.1.split, length-append w.0 r, word_size w.0 w.1.form) }

number_upto : (n : ℕ) (k : List ℕ → End) → Refuses is_ascii_digit k → Upto n k → Upto (suc n) (number_end ⨾ k)
number_upto n k stops upto [] le = refused_front number_end k is_ascii_digit 48 [] (λ x ends. number_zero x) stops (upto [] (omega arith)) number_nothing (λ b t u e. cc)
number_upto n k stops upto (b ∷ s) le =
    elim (b == 48) as (λ v. (b == 48) ≡ v → Exact (number_end ⨾ k) (b ∷ s)) [
      | true ↦ λ e. subst (λ (x : ℕ). Exact (number_end ⨾ k) (x ∷ s)) (sym (eqb-true b 48 e)) (behind_any (number_end ⨾ k) k (48 ∷ []) s (λ x. ap (λ r. r >>= k) (number_zero x)) (upto s (omega arith)))
      | false ↦ λ other. elim (is_ascii_digit b) as (λ v. is_ascii_digit b ≡ v → Exact (number_end ⨾ k) (b ∷ s)) [
        | true ↦ λ e. let u = run_of is_ascii_digit s in
            let short : length u.rest ≤ n = omega (arith, ap length u.split, length-append u.run u.rest) in
            subst (λ (x : List ℕ). Exact (number_end ⨾ k) (b ∷ x)) (sym u.split)
            (read_front number_end k is_ascii_digit (b ∷ u.run) u.rest (λ x ends. number_ends (b ∷ u.run) x (number_form b u.run e other u.all) ends) stops u.ends (upto u.rest short))
        | false ↦ λ e. refused_front number_end k is_ascii_digit 48 (b ∷ s) (λ x ends. number_zero x) stops (upto [] (omega arith)) (digit_refused b s other e)
            (λ d t v same. let is_d : b ≡ d = cc in digit_refused d v (subst (λ (x : ℕ). (x == 48) ≡ false) is_d other) (subst (λ (x : ℕ). is_ascii_digit x ≡ false) is_d e))
      ] refl
    ] refl

pub number_item : IsItem is_ascii_digit number_end
number_item = record { exact = number_upto; shorter = λ s r e. let d = number_back s r e in omega (arith, ap length d.1.split, length-append d.0 r, number_size d.0 d.1.form) }

-- ---- choices by the first byte, and loops

pub cond_then : {A B : Type 0} (b : Bool) (x y : Result A ℕ) (f : A → Result B ℕ) → (cond b x y >>= f) ≡ cond b (x >>= f) (y >>= f)
cond_then true x y f = refl
cond_then false x y f = refl

abbrev pub choice : ℕ → (List ℕ → End) → (List ℕ → End) → List ℕ → End
choice c f g s = cond (begins c s) (f s) (g s)

choice_takes : (c : ℕ) (f g after : List ℕ → End) → TakesFirst c f after → TakesFirst c (choice c f g) after
choice_takes c f g after takes x = rw (eq-eqb c c refl) (takes x)

choice_other : (c : ℕ) (f g : List ℕ → End) (x : List ℕ) → begins c x ≡ false → choice c f g x ≡ g x
choice_other c f g x none = rw none refl

choice_size : (c : ℕ) (f g after : List ℕ → End) (s r : List ℕ) → TakesFirst c f after → ((x y : List ℕ) → after x ≡ Ok y → length y ≤ length x) → ((x y : List ℕ) → g x ≡ Ok y → length y < length x) → choice c f g s ≡ Ok r → length r < length s
choice_size c f g after s r takes first_le other_lt e =
    by_first c s
    (λ t is. let le : length r ≤ length t = first_le t r (sym (choice_takes c f g after takes t) ∙ ap (choice c f g) (sym is) ∙ e) in
    omega (arith, ap length is))
    (λ none. other_lt s r (sym (choice_other c f g s none) ∙ e))

pub choice_item : {p : ℕ → Bool} {after g : List ℕ → End} (c : ℕ) (f : List ℕ → End) → TakesFirst c f after → IsPart p after → IsItem p g → RefusesFirst c g → IsItem p (choice c f g)
choice_item {p} {after} {g} c f takes i j refused = record {
  exact = λ n k stops upto s le.
      choice_at c (choice c f g ⨾ k) (after ⨾ k) (g ⨾ k)
      (λ x. ap (λ e. e >>= k) (choice_takes c f g after takes x))
      (λ x none. ap (λ e. e >>= k) (choice_other c f g x none))
      (λ t. ap (λ e. e >>= k) (refused t))
      s (λ t below. i.exact n k stops upto t (omega arith)) (j.exact n k stops upto s le);
  shorter = λ s r e. choice_size c f g after s r takes i.shorter j.shorter e;
}

abbrev pub optional : ℕ → (List ℕ → End) → List ℕ → End
optional c f s = cond (begins c s) (f s) (Ok s)

optional_takes : (c : ℕ) (f after : List ℕ → End) → TakesFirst c f after → TakesFirst c (optional c f) after
optional_takes c f after takes x = rw (eq-eqb c c refl) (takes x)

optional_other : (c : ℕ) (f : List ℕ → End) (x : List ℕ) → begins c x ≡ false → optional c f x ≡ Ok x
optional_other c f x none = rw none refl

optional_size : (c : ℕ) (f after : List ℕ → End) (s r : List ℕ) → TakesFirst c f after → ((x y : List ℕ) → after x ≡ Ok y → length y ≤ length x) → optional c f s ≡ Ok r → length r ≤ length s
optional_size c f after s r takes first_le e =
    by_first c s
    (λ t is. let le : length r ≤ length t = first_le t r (sym (optional_takes c f after takes t) ∙ ap (optional c f) (sym is) ∙ e) in
    omega (arith, ap length is))
    (λ none. omega (arith, ap length (same_ok (sym (optional_other c f s none) ∙ e))))

pub optional_part : {p : ℕ → Bool} {after : List ℕ → End} (c : ℕ) (f : List ℕ → End) → TakesFirst c f after → IsPart p after → p c ≡ true → IsPart p (optional c f)
optional_part {p} {after} c f takes i stop = record {
  exact = λ n k stops upto s le.
      choice_at c (optional c f ⨾ k) (after ⨾ k) k
      (λ x. ap (λ e. e >>= k) (optional_takes c f after takes x))
      (λ x none. ap (λ e. e >>= k) (optional_other c f x none))
      (λ t. stops c t stop)
      s (λ t below. i.exact n k stops upto t (omega arith)) (upto s le);
  shorter = λ s r e. optional_size c f after s r takes i.shorter e;
}

pub bind_same : {A B : Type 0} (x : Result A ℕ) (f g : A → Result B ℕ) → ((a : A) → x ≡ Ok a → f a ≡ g a) → (x >>= f) ≡ (x >>= g)
bind_same (Ok a) f g same = same a refl
bind_same (Err left) f g same = refl

-- items as long as one begins with c
abbrev pub many : ℕ → (List ℕ → End) → List ℕ → End
many c item s = many_end (begins c) item (suc (length s)) s

-- a byte that passes p, or c
abbrev pub or_byte : ℕ → (ℕ → Bool) → ℕ → Bool
or_byte c p b = (b == c) || p b

abbrev Shortens : (List ℕ → End) → Type 0
Shortens item = (s r : List ℕ) → item s ≡ Ok r → length r < length s

many_same : (c : ℕ) (item : List ℕ → End) → Shortens item → (n m : ℕ) (s : List ℕ) → length s < n → length s < m → many_end (begins c) item n s ≡ many_end (begins c) item m s
many_same c item short zero m s a b = absurd (omega arith)
many_same c item short (suc n) zero s a b = absurd (omega arith)
many_same c item short (suc n) (suc m) s a b =
    ap (λ (e : End). cond (begins c s) e (Ok s))
    (bind_same (item s) (many_end (begins c) item n) (many_end (begins c) item m) (λ r e. let lt : length r < length s = short s r e in many_same c item short n m r (omega arith) (omega arith)))

many_takes : (c : ℕ) (item after : List ℕ → End) → Shortens item → TakesFirst c item after → TakesFirst c (many c item) (after ⨾ many c item)
many_takes c item after short takes x =
    let first_byte : many c item (c ∷ x) ≡ (item (c ∷ x) >>= many_end (begins c) item (suc (length x))) = rw (eq-eqb c c refl) refl in
    first_byte
    ∙ bind_same (item (c ∷ x)) (many_end (begins c) item (suc (length x))) (many c item)
    (λ r e. let lt : length r < suc (length x) = short (c ∷ x) r e in many_same c item short (suc (length x)) (suc (length r)) r lt (omega arith))
    ∙ ap (λ (e : End). e >>= many c item) (takes x)

many_other : (c : ℕ) (item : List ℕ → End) (x : List ℕ) → begins c x ≡ false → many c item x ≡ Ok x
many_other c item x none = rw none refl

pub many_refuses : (p : ℕ → Bool) (c : ℕ) (item k : List ℕ → End) → p c ≡ false → Refuses p k → Refuses p (many c item ⨾ k)
many_refuses p c item k none stops b s h = ap (λ e. e >>= k) (many_other c item (b ∷ s) (differs p b c h none)) ∙ stops b s h

or_first : (c : ℕ) (p : ℕ → Bool) → or_byte c p c ≡ true
or_first c p = rw (eq-eqb c c refl) refl

pub or_later : (c : ℕ) (p : ℕ → Bool) (b : ℕ) → p b ≡ true → or_byte c p b ≡ true
or_later c p b h = or_right (b == c) (p b) h

many_step : (p : ℕ → Bool) (c : ℕ) (item after k : List ℕ → End) → Shortens item → TakesFirst c item after → Refuses (or_byte c p) k → (s : List ℕ) → ((t : List ℕ) → length t < length s → Exact (after ⨾ (many c item ⨾ k)) t) → Exact k s → Exact (many c item ⨾ k) s
many_step p c item after k short takes stops s below whole =
    choice_at c (many c item ⨾ k) (after ⨾ (many c item ⨾ k)) k
    (λ x. ap (λ e. e >>= k) (many_takes c item after short takes x) ∙ bind_assoc (after x) (many c item) k)
    (λ x other. ap (λ e. e >>= k) (many_other c item x other))
    (λ t. stops c t (or_first c p))
    s below whole

many_upto : (p : ℕ → Bool) (c : ℕ) (item after : List ℕ → End) → Shortens item → TakesFirst c item after → IsPart p after → p c ≡ false → (n : ℕ) (k : List ℕ → End) → Refuses (or_byte c p) k → Upto n k → Upto n (many c item ⨾ k)
many_upto p c item after short takes i none zero k stops upto s le = many_step p c item after k short takes stops s (λ t lt. absurd (omega arith)) (upto s le)
many_upto p c item after short takes i none (suc m) k stops upto s le =
    many_step p c item after k short takes stops s
    (λ t lt. i.exact m (many c item ⨾ k) (many_refuses p c item k none (λ b x h. stops b x (or_later c p b h)))
    (many_upto p c item after short takes i none m k stops (λ x h. upto x (omega arith))) t (omega arith))
    (upto s le)

many_size : (c : ℕ) (item : List ℕ → End) → Shortens item → (n : ℕ) (s r : List ℕ) → many_end (begins c) item n s ≡ Ok r → length r ≤ length s
many_size c item short zero s r e = absurd (no_ok e)
many_size c item short (suc n) s r e =
    elim (begins c s) as (λ v. begins c s ≡ v → length r ≤ length s) [
      | true ↦ λ h. let m = got (item s) (many_end (begins c) item n) r (rw h at e) in
          let lt : length m.0 < length s = short s m.0 m.1 in
          let le : length r ≤ length m.0 = many_size c item short n m.0 r m.2 in
          omega arith
      | false ↦ λ h. omega (arith, ap length (same_ok (rw h at e)))
    ] refl

pub many_part : {p : ℕ → Bool} {after : List ℕ → End} (c : ℕ) (item : List ℕ → End) → Shortens item → TakesFirst c item after → IsPart p after → p c ≡ false → IsPart (or_byte c p) (many c item)
many_part {p} {after} c item short takes i none = record {
  exact = many_upto p c item after short takes i none;
  shorter = λ s r e. many_size c item short (suc (length s)) s r e;
}
