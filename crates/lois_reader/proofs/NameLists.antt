-- The loop that reads the parameters.
use Rattle.std.proofs.Common.{◌≡◌, ℕ, ◌<◌, ◌≤◌, Bool, true, false, not, ◌&&◌, List, [], ◌∷◌, ◌++◌, length, Result, Ok, Err, refl, sym, arith}
use Rattle.std.specs.Prelude.{codes, if◌then◌else◌}
use Rattle.lois_reader.specs.declared.parse_error.ParseError.{ParseError}
use Rattle.lois_reader.specs.declared.parse_error.ParseError.TheVariants.{Left, NoMemory}
use Rattle.lois_reader.specs.Reading.{◌>>=◌, ErrorIs, begins}
use Rattle.lois_reader.specs.Ends.{fixed_end, word_at}
use Rattle.lois_reader.specs.Pieces.{is_among, is_unreserved}
use Rattle.lois_reader.specs.AnswerValues.{names_at}
use Rattle.lois_reader.proofs.Lists.{NamesFollow}
use Rattle.lois_reader.proofs.Loops.{one_step}

-- what is behind a space, in one step
names_here : (before : List (List ℕ)) (s : List ℕ) (total : Result (List (List ℕ) × List ℕ) ℕ) → begins 32 s ≡ true → NamesFollow before s total →
    (n : ℕ) × (length s ≤ n) × ((fixed_end (codes " ") s >>= (λ t. word_at t >>= (λ x. if is_unreserved x.0 && not (is_among before x.0) then names_at n (before ++ x.0 ∷ []) x.1 else Err (length t)))) ≡ total)
names_here before s total here h =
    let o = one_step (λ n s. names_at n before s) s total h in
    (o.0, o.1, rw here at o.2)

pub names_halt : (before : List (List ℕ)) (s t : List ℕ) (h : ParseError) (total : Result (List (List ℕ) × List ℕ) ℕ) → begins 32 s ≡ true → fixed_end (codes " ") s ≡ Ok t → ErrorIs h (word_at t) → NamesFollow before s total → ErrorIs h total
names_halt before s t NoMemory total here behind failed h = tt
names_halt before s t (Left left) total here behind failed h =
    let o = names_here before s total here h in
    let e : (let r : Result (List (List ℕ) × List ℕ) ℕ = Err left in r) ≡ total = rw (behind, failed) at o.2 in
    sym e

pub names_refused : (before : List (List ℕ)) (s t : List ℕ) (x : List ℕ × List ℕ) (total : Result (List (List ℕ) × List ℕ) ℕ) → begins 32 s ≡ true → fixed_end (codes " ") s ≡ Ok t → word_at t ≡ Ok x → (is_unreserved x.0 && not (is_among before x.0)) ≡ false → NamesFollow before s total → total ≡ Err (length t)
names_refused before s t x total here behind found bad h =
    let o = names_here before s total here h in
    let e : (let r : Result (List (List ℕ) × List ℕ) ℕ = Err (length t) in r) ≡ total = rw (behind, found, bad) at o.2 in
    sym e

pub names_more : (before : List (List ℕ)) (s t : List ℕ) (x : List ℕ × List ℕ) (total : Result (List (List ℕ) × List ℕ) ℕ) → begins 32 s ≡ true → fixed_end (codes " ") s ≡ Ok t → word_at t ≡ Ok x → (is_unreserved x.0 && not (is_among before x.0)) ≡ true → length x.1 < length s → NamesFollow before s total → NamesFollow (before ++ x.0 ∷ []) x.1 total
names_more before s t x total here behind found good shorter h =
    let o = names_here before s total here h in
    let le : length s ≤ o.0 = o.1 in
    record { steps = o.0; enough = omega arith; same = rw (behind, found, good) at o.2 }

-- what stands in the way of a name
pub not_free : (free among : Bool) → free ≡ false → (free && not among) ≡ false
not_free free among e = rw e refl

pub not_new : (free among : Bool) → among ≡ true → (free && not among) ≡ false
not_new true among e = rw e refl
not_new false among e = refl

pub free_and_new : (free among : Bool) → free ≡ true → among ≡ false → (free && not among) ≡ true
free_and_new free among e n = rw (e, n) refl

pub names_last : (before : List (List ℕ)) (s : List ℕ) (total : Result (List (List ℕ) × List ℕ) ℕ) → begins 32 s ≡ false → NamesFollow before s total → total ≡ Ok (before, s)
names_last before s total here h =
    let o = one_step (λ n s. names_at n before s) s total h in
    let e : (let r : Result (List (List ℕ) × List ℕ) ℕ = Ok (before, s) in r) ≡ total = rw here at o.2 in
    sym e
