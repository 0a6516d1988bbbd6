-- Loops that gather what they read.
use Rattle.std.proofs.Common.{◌≡◌, ℕ, suc, ◌+◌, ◌<◌, ◌≤◌, Bool, true, false, cond, List, [], ◌∷◌, ◌++◌, length, Result, Ok, Err, refl, sym, ap, ◌∙◌, append_assoc, arith}
use Rattle.std.proofs.lemmas.List.{append-nil}
use Rattle.std.specs.Prelude.{codes}
use Rattle.lois_reader.specs.declared.parse_error.ParseError.{ParseError}
use Rattle.lois_reader.specs.declared.parse_error.ParseError.TheVariants.{Left, NoMemory}
use Rattle.lois_reader.specs.Reading.{◌>>=◌, ErrorIs, End, begins}
use Rattle.lois_reader.specs.Ends.{fixed_end, level_end, term_end}
use Rattle.lois_reader.specs.Values.{list_at, many_at, follows}
use Rattle.lois_reader.specs.TermValues.{level_count, binder_at, levels_from, part_count}
use Rattle.lois_reader.specs.AnswerValues.{names_at}
use Rattle.lois_reader.proofs.Loops.{Comes, one_step}

-- what was read before, and what is still read
abbrev pub with_front : {A : Type 0} → List A → Result (List A × List ℕ) ℕ → Result (List A × List ℕ) ℕ
with_front front read = read >>= λ x. Ok (front ++ x.0, x.1)

abbrev pub Lists : {A : Type 0} → (List ℕ → Bool) → List ℕ → (List ℕ → Result (A × List ℕ) ℕ) → List A → List ℕ → Result (List A × List ℕ) ℕ → Type 0
Lists test between item front = Comes (λ n s. with_front front (list_at test between item n s))

abbrev pub Gathers : {A : Type 0} → (List ℕ → Bool) → (List ℕ → Result (A × List ℕ) ℕ) → List A → List ℕ → Result (List A × List ℕ) ℕ → Type 0
Gathers test item front = Comes (λ n s. with_front front (many_at test item n s))

regroup : {A : Type 0} (front : List A) (a : A) (read : Result (List A × List ℕ) ℕ) → with_front front (read >>= λ y. Ok (a ∷ y.0, y.1)) ≡ with_front (front ++ a ∷ []) read
regroup front a (Ok x) = ap (λ (xs : List _). Ok (xs, x.1)) (sym (append_assoc front (a ∷ []) x.0))
regroup front a (Err left) = refl

module _ {A : Type 0} (test : List ℕ → Bool) (between : List ℕ) (item : List ℕ → Result (A × List ℕ) ℕ) where
  pub list_next : (front : List A) (s : List ℕ) (a : A) (after rest : List ℕ) (total : Result (List A × List ℕ) ℕ) → item s ≡ Ok (a, after) → test after ≡ true → fixed_end between after ≡ Ok rest → length rest < length s → Lists test between item front s total → Lists test between item (front ++ a ∷ []) rest total
  list_next front s a after rest total found here passed shorter h =
      let o = one_step (λ n s. with_front front (list_at test between item n s)) s total h in
      let le : length s ≤ o.0 = o.1 in
      let step : with_front front (list_at test between item (suc o.0) s) ≡ with_front (front ++ a ∷ []) (list_at test between item o.0 rest) = rw (found, here, passed) (regroup front a (list_at test between item o.0 rest)) in
      record { steps = o.0; enough = omega arith; same = sym step ∙ o.2 }

  pub list_last : (front : List A) (s : List ℕ) (a : A) (after : List ℕ) (total : Result (List A × List ℕ) ℕ) → item s ≡ Ok (a, after) → test after ≡ false → Lists test between item front s total → total ≡ Ok (front ++ a ∷ [], after)
  list_last front s a after total found none h =
      let o = one_step (λ n s. with_front front (list_at test between item n s)) s total h in
      let step : with_front front (list_at test between item (suc o.0) s) ≡ Ok (front ++ a ∷ [], after) = rw (found, none) refl in
      sym o.2 ∙ step

  pub item_halts : (e : ParseError) (front : List A) (s : List ℕ) (total : Result (List A × List ℕ) ℕ) → ErrorIs e (item s) → Lists test between item front s total → ErrorIs e total
  item_halts NoMemory front s total failed h = tt
  item_halts (Left left) front s total failed h =
      let o = one_step (λ n s. with_front front (list_at test between item n s)) s total h in
      let step : with_front front (list_at test between item (suc o.0) s) ≡ Err left = rw failed refl in
      sym o.2 ∙ step

  pub between_halts : (e : ParseError) (front : List A) (s : List ℕ) (a : A) (after : List ℕ) (total : Result (List A × List ℕ) ℕ) → item s ≡ Ok (a, after) → test after ≡ true → ErrorIs e (fixed_end between after) → Lists test between item front s total → ErrorIs e total
  between_halts NoMemory front s a after total found here failed h = tt
  between_halts (Left left) front s a after total found here failed h =
      let o = one_step (λ n s. with_front front (list_at test between item n s)) s total h in
      let step : with_front front (list_at test between item (suc o.0) s) ≡ Err left = rw (found, here, failed) refl in
      sym o.2 ∙ step

module _ {A : Type 0} (test : List ℕ → Bool) (item : List ℕ → Result (A × List ℕ) ℕ) where
  pub many_next : (front : List A) (s : List ℕ) (a : A) (rest : List ℕ) (total : Result (List A × List ℕ) ℕ) → test s ≡ true → item s ≡ Ok (a, rest) → length rest < length s → Gathers test item front s total → Gathers test item (front ++ a ∷ []) rest total
  many_next front s a rest total here found shorter h =
      let o = one_step (λ n s. with_front front (many_at test item n s)) s total h in
      let le : length s ≤ o.0 = o.1 in
      let step : with_front front (many_at test item (suc o.0) s) ≡ with_front (front ++ a ∷ []) (many_at test item o.0 rest) = rw (here, found) (regroup front a (many_at test item o.0 rest)) in
      record { steps = o.0; enough = omega arith; same = sym step ∙ o.2 }

  pub many_halts : (e : ParseError) (front : List A) (s : List ℕ) (total : Result (List A × List ℕ) ℕ) → test s ≡ true → ErrorIs e (item s) → Gathers test item front s total → ErrorIs e total
  many_halts NoMemory front s total here failed h = tt
  many_halts (Left left) front s total here failed h =
      let o = one_step (λ n s. with_front front (many_at test item n s)) s total h in
      let step : with_front front (many_at test item (suc o.0) s) ≡ Err left = rw (here, failed) refl in
      sym o.2 ∙ step

-- how many were counted before, and how many are still counted
abbrev pub plus : ℕ → Result ℕ ℕ → Result ℕ ℕ
plus count read = read >>= λ m. Ok (count + m)

abbrev pub LevelsCounted : ℕ → List ℕ → Result ℕ ℕ → Type 0
LevelsCounted count = Comes (λ n s. plus count (level_count n s))

abbrev pub LevelsFollow : ℕ → List ℕ → End → Type 0
LevelsFollow level = Comes (λ n s. levels_from n level s)

-- the parts so far, behind the last of which this is
abbrev pub PartsCounted : ℕ → ℕ → List ℕ → Result ℕ ℕ → Type 0
PartsCounted d count = Comes (λ n s. cond (begins 44 s) (fixed_end (codes ", ") s >>= part_count (term_end d) n >>= (λ m. Ok (count + m))) (Ok count))

abbrev pub NamesFollow : List (List ℕ) → List ℕ → Result (List (List ℕ) × List ℕ) ℕ → Type 0
NamesFollow before = Comes (λ n s. names_at n before s)

-- ---- counts

plus_suc : (count : ℕ) (read : Result ℕ ℕ) → ((read >>= λ m. Ok (suc m)) >>= λ m. Ok (count + m)) ≡ (read >>= λ m. Ok (count + 1 + m))
plus_suc count (Ok m) = ap (λ (n : ℕ). Ok n) (omega arith)
plus_suc count (Err left) = refl

pub levels_counted_next : (count : ℕ) (s t r : List ℕ) (total : Result ℕ ℕ) → follows 36 s ≡ true → fixed_end (codes " ") s ≡ Ok t → level_end t ≡ Ok r → length r < length s → LevelsCounted count s total → LevelsCounted (count + 1) r total
levels_counted_next count s t r total here first second shorter h =
    let o = one_step (λ n s. plus count (level_count n s)) s total h in
    let le : length s ≤ o.0 = o.1 in
    let step : plus count (level_count (suc o.0) s) ≡ plus (count + 1) (level_count o.0 r) = rw (here, first, second) (plus_suc count (level_count o.0 r)) in
    record { steps = o.0; enough = omega arith; same = sym step ∙ o.2 }

pub levels_follow_next : (level next : ℕ) (s t r : List ℕ) (total : End) → next ≡ suc level → follows 36 s ≡ true → fixed_end (codes " ") s ≡ Ok t → binder_at level t ≡ Ok r → length r < length s → LevelsFollow level s total → LevelsFollow next r total
levels_follow_next level next s t r total is_next here first second shorter h =
    let o = one_step (λ n s. levels_from n level s) s total h in
    let le : length s ≤ o.0 = o.1 in
    let step : levels_from (suc o.0) level s ≡ levels_from o.0 (suc level) r = rw (here, first, second) refl in
    record { steps = o.0; enough = omega arith; same = ap (λ (i : ℕ). levels_from o.0 i r) is_next ∙ sym step ∙ o.2 }

one_plus : (b : Bool) (read : Result ℕ ℕ) → cond b (read >>= λ m. Ok (1 + m)) (Ok 1) ≡ cond b (read >>= λ m. Ok (suc m)) (Ok 1)
one_plus false read = refl
one_plus true (Ok m) = ap (λ (n : ℕ). Ok n) (omega arith)
one_plus true (Err left) = refl

cond_plus : (count : ℕ) (b : Bool) (read : Result ℕ ℕ) → ((cond b (read >>= λ m. Ok (suc m)) (Ok 1)) >>= λ m. Ok (count + m)) ≡ cond b (read >>= λ m. Ok (count + 1 + m)) (Ok (count + 1))
cond_plus count true read = plus_suc count read
cond_plus count false read = refl

pub parts_counted_begin : (d : ℕ) (u s : List ℕ) → term_end d u ≡ Ok s → length s < length u → PartsCounted d 1 s (part_count (term_end d) (suc (length u)) u)
parts_counted_begin d u s found shorter =
    let step : part_count (term_end d) (suc (length u)) u ≡ cond (begins 44 s) (fixed_end (codes ", ") s >>= part_count (term_end d) (length u) >>= (λ m. Ok (suc m))) (Ok 1) = rw found refl in
    record { steps = length u; enough = shorter; same = one_plus (begins 44 s) (fixed_end (codes ", ") s >>= part_count (term_end d) (length u)) ∙ sym step }

pub parts_counted_next : (d count : ℕ) (s v r : List ℕ) (total : Result ℕ ℕ) → begins 44 s ≡ true → fixed_end (codes ", ") s ≡ Ok v → term_end d v ≡ Ok r → length r < length s → PartsCounted d count s total → PartsCounted d (count + 1) r total
parts_counted_next d count s v r total here first second shorter h =
    let o = one_step (λ n s. cond (begins 44 s) (fixed_end (codes ", ") s >>= part_count (term_end d) n >>= (λ m. Ok (count + m))) (Ok count)) s total h in
    let le : length s ≤ o.0 = o.1 in
    let whole : cond (begins 44 s) (fixed_end (codes ", ") s >>= part_count (term_end d) (suc o.0) >>= (λ m. Ok (count + m))) (Ok count) ≡ (cond (begins 44 r) (fixed_end (codes ", ") r >>= part_count (term_end d) o.0 >>= (λ m. Ok (suc m))) (Ok 1) >>= λ m. Ok (count + m)) = rw (here, first, second) refl in
    record { steps = o.0; enough = omega arith; same = sym (whole ∙ cond_plus count (begins 44 r) (fixed_end (codes ", ") r >>= part_count (term_end d) o.0)) ∙ o.2 }

pub part_halts : (e : ParseError) (d count : ℕ) (s v : List ℕ) (total : Result ℕ ℕ) → begins 44 s ≡ true → fixed_end (codes ", ") s ≡ Ok v → ErrorIs e (term_end d v) → PartsCounted d count s total → ErrorIs e total
part_halts NoMemory d count s v total here first failed h = tt
part_halts (Left left) d count s v total here first failed h =
    let o = one_step (λ n s. cond (begins 44 s) (fixed_end (codes ", ") s >>= part_count (term_end d) n >>= (λ m. Ok (count + m))) (Ok count)) s total h in
    let whole : cond (begins 44 s) (fixed_end (codes ", ") s >>= part_count (term_end d) (suc o.0) >>= (λ m. Ok (count + m))) (Ok count) ≡ Err left = rw (here, first, failed) refl in
    sym o.2 ∙ whole
