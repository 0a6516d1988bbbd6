-- What stands in front where the readers of fixed texts, words and numbers read on.
use Rattle.std.proofs.Common.{◌≡◌, ℕ, suc, ◌<◌, Bool, true, false, ◌==◌, List, [], ◌∷◌, ◌++◌, length, Result, Ok, Err, refl, sym, ap, subst, ◌∙◌, arith}
use Rattle.std.specs.Char.{is_ascii_alphabetic, is_ascii_digit}
use Rattle.std.specs.List.{list_all}
use Rattle.std.proofs.lemmas.Bool.{and_from, eqb-true, false≢true}
use Rattle.std.proofs.lemmas.Bool.Decides.{nat_tests}
use Rattle.lois_lexer.specs.Bytes.{is_word_byte}
use Rattle.lois_lexer.specs.Forms.{is_word_form}
use Rattle.lois_reader.specs.Draft.{is_number}
use Rattle.lois_reader.specs.Reading.{◌>>=◌, first_byte, passes}
use Rattle.lois_reader.specs.Ends.{fixed_end, word_at, word_end, number_at, number_end}
use Rattle.lois_reader.proofs.Fronts.{EndsWord, word_front, number_front}

pub no_ok : {A : Type 0} {a : A} {left : ℕ} → (let r : Result A ℕ = Err left in r) ≡ Ok a → ⊥
no_ok e = cc

pub same_ok : {A : Type 0} {a b : A} → (let r : Result A ℕ = Ok a in r) ≡ Ok b → a ≡ b
same_ok e = cc

-- what the first of two readers gave
pub got : {A B : Type 0} (x : Result A ℕ) (f : A → Result B ℕ) (b : B) → (x >>= f) ≡ Ok b → (a : A) × (x ≡ Ok a) × (f a ≡ Ok b)
got (Ok a) f b e = (a, refl, e)
got (Err left) f b e = absurd (no_ok e)

pub fixed_back : (x s r : List ℕ) → fixed_end x s ≡ Ok r → s ≡ x ++ r
fixed_back [] s r e = same_ok e
fixed_back (c ∷ cs) [] r e = absurd (no_ok e)
fixed_back (c ∷ cs) (b ∷ s) r e =
    elim (b == c) as (λ v. (b == c) ≡ v → (b ∷ s) ≡ (c ∷ cs) ++ r) [
      | true ↦ λ h. let is_c : b ≡ c = eqb-true b c h in let later : s ≡ cs ++ r = fixed_back cs s r (rw h at e) in cc
      | false ↦ λ h. absurd (no_ok (rw h at e))
    ] refl

-- the longest run of bytes that pass
pub record Run (p : ℕ → Bool) (s : List ℕ) : Type 0 where
  pub run : List ℕ
  pub rest : List ℕ
  pub split : s ≡ run ++ rest
  pub all : list_all p run ≡ true
  pub ends : passes p (first_byte rest) ≡ false

pub run_of : (p : ℕ → Bool) (s : List ℕ) → Run p s
run_of p [] = record { run = []; rest = []; split = refl; all = refl; ends = refl }
run_of p (b ∷ s) =
    elim (p b) as (λ v. p b ≡ v → Run p (b ∷ s)) [
      | true ↦ λ e. let u = run_of p s in record { run = b ∷ u.run; rest = u.rest; split = ap (λ (x : List ℕ). b ∷ x) u.split; all = and_from (p b) (list_all p u.run) e u.all; ends = u.ends }
      | false ↦ λ e. record { run = []; rest = b ∷ s; split = refl; all = refl; ends = e }
    ] refl

pub record IsWordAt (s w r : List ℕ) : Type 0 where
  pub form : is_word_form w ≡ true
  pub split : s ≡ w ++ r
  pub ends : EndsWord r

pub word_form : (b : ℕ) (v : List ℕ) → is_ascii_alphabetic b ≡ true → list_all is_word_byte v ≡ true → is_word_form (b ∷ v) ≡ true
word_form b v letter all = and_from (is_ascii_alphabetic b) (list_all is_word_byte v) letter all

no_word : (b : ℕ) (s : List ℕ) → is_ascii_alphabetic b ≡ false → word_at (b ∷ s) ≡ Err (suc (length s))
unfolding word_at
no_word b s e = rw e refl

no_word_left : word_at [] ≡ Err 0
unfolding word_at
no_word_left = refl

pub word_at_back : (s : List ℕ) (x : List ℕ × List ℕ) → word_at s ≡ Ok x → IsWordAt s x.0 x.1
word_at_back [] x e = absurd (no_ok (sym no_word_left ∙ e))
word_at_back (b ∷ s) x e =
    elim (is_ascii_alphabetic b) as (λ v. is_ascii_alphabetic b ≡ v → IsWordAt (b ∷ s) x.0 x.1) [
      | true ↦ λ h. let u = run_of is_word_byte s in
          let form : is_word_form (b ∷ u.run) ≡ true = word_form b u.run h u.all in
          let split : (b ∷ s) ≡ (b ∷ u.run) ++ u.rest = ap (λ (y : List ℕ). b ∷ y) u.split in
          let pair : List ℕ × List ℕ = (b ∷ u.run, u.rest) in
          let is : pair ≡ x = same_ok (sym (word_front (b ∷ u.run) u.rest form u.ends) ∙ sym (ap word_at split) ∙ e) in
          subst (λ (y : List ℕ × List ℕ). IsWordAt (b ∷ s) y.0 y.1) is (record { form = form; split = split; ends = u.ends })
      | false ↦ λ h. absurd (no_ok (sym (no_word b s h) ∙ e))
    ] refl

pub word_back : (s r : List ℕ) → word_end s ≡ Ok r → (w : List ℕ) × IsWordAt s w r
unfolding word_end
word_back s r e =
    let g = got (word_at s) (λ x. Ok x.1) r e in
    (g.0.0, subst (λ (y : List ℕ). IsWordAt s g.0.0 y) (same_ok g.2) (word_at_back s g.0 g.1))

pub word_size : (w : List ℕ) → is_word_form w ≡ true → 0 < length w
word_size [] form = absurd (false≢true form)
word_size (b ∷ w) form = omega arith

pub record IsNumberAt (s ds r : List ℕ) : Type 0 where
  pub form : is_number ds ≡ true
  pub split : s ≡ ds ++ r

pub number_form : (b : ℕ) (v : List ℕ) → is_ascii_digit b ≡ true → (b == 48) ≡ false → list_all is_ascii_digit v ≡ true → is_number (b ∷ v) ≡ true
number_form b v digit other all = grind (arith, nat_tests)

no_number : (b : ℕ) (s : List ℕ) → (b == 48) ≡ false → is_ascii_digit b ≡ false → number_at (b ∷ s) ≡ Err (suc (length s))
unfolding number_at
no_number b s e f = rw (e, f) refl

no_number_left : number_at [] ≡ Err 0
unfolding number_at
no_number_left = refl

zero_at : (s : List ℕ) → number_at (48 ∷ s) ≡ Ok (48 ∷ [], s)
unfolding number_at
zero_at s = refl

pub number_at_back : (s : List ℕ) (x : List ℕ × List ℕ) → number_at s ≡ Ok x → IsNumberAt s x.0 x.1
number_at_back [] x e = absurd (no_ok (sym no_number_left ∙ e))
number_at_back (b ∷ s) x e =
    elim (b == 48) as (λ v. (b == 48) ≡ v → IsNumberAt (b ∷ s) x.0 x.1) [
      | true ↦ λ h. let is_zero : b ≡ 48 = eqb-true b 48 h in
          let split : (b ∷ s) ≡ (48 ∷ []) ++ s = ap (λ (y : ℕ). y ∷ s) is_zero in
          let pair : List ℕ × List ℕ = (48 ∷ [], s) in
          let is : pair ≡ x = same_ok (sym (zero_at s) ∙ sym (ap number_at split) ∙ e) in
          subst (λ (y : List ℕ × List ℕ). IsNumberAt (b ∷ s) y.0 y.1) is (record { form = refl; split = split })
      | false ↦ λ other. elim (is_ascii_digit b) as (λ v. is_ascii_digit b ≡ v → IsNumberAt (b ∷ s) x.0 x.1) [
        | true ↦ λ h. let u = run_of is_ascii_digit s in
            let form : is_number (b ∷ u.run) ≡ true = number_form b u.run h other u.all in
            let split : (b ∷ s) ≡ (b ∷ u.run) ++ u.rest = ap (λ (y : List ℕ). b ∷ y) u.split in
            let pair : List ℕ × List ℕ = (b ∷ u.run, u.rest) in
            let is : pair ≡ x = same_ok (sym (number_front (b ∷ u.run) u.rest form u.ends) ∙ sym (ap number_at split) ∙ e) in
            subst (λ (y : List ℕ × List ℕ). IsNumberAt (b ∷ s) y.0 y.1) is (record { form = form; split = split })
        | false ↦ λ h. absurd (no_ok (sym (no_number b s other h) ∙ e))
      ] refl
    ] refl

pub number_back : (s r : List ℕ) → number_end s ≡ Ok r → (ds : List ℕ) × IsNumberAt s ds r
unfolding number_end
number_back s r e =
    let g = got (number_at s) (λ x. Ok x.1) r e in
    (g.0.0, subst (λ (y : List ℕ). IsNumberAt s g.0.0 y) (same_ok g.2) (number_at_back s g.0 g.1))

pub number_size : (ds : List ℕ) → is_number ds ≡ true → 0 < length ds
number_size [] form = absurd (false≢true form)
number_size (d ∷ ds) form = omega arith
