-- Loops that read on as long as something begins.
use Rattle.std.proofs.Common.{◌≡◌, ℕ, suc, ◌<◌, ◌≤◌, Bool, true, false, cond, List, length, Ok, Err, Option, Some, None, ◌-◌, refl, sym, subst, arith}
use Rattle.std.specs.Prelude.{codes}
use Rattle.lois_reader.specs.Reading.{◌>>=◌, ErrorIs, End, begins}
use Rattle.lois_reader.specs.declared.parse_error.ParseError.{ParseError}
use Rattle.lois_reader.specs.declared.parse_error.ParseError.TheVariants.{Left, NoMemory}
use Rattle.lois_reader.specs.Ends.{fixed_end, many_end, term_end, comp_end, binders_end, pieces_end, piece_at, onward, level_end, guard_end}
use Rattle.lois_reader.specs.AnswerEnds.{name_end, choice_number_end, element_end, entry_at, entries_end}
use Rattle.lois_reader.specs.declared.constraint_ends.Connective.{Connective}

-- With enough steps, the total is what reading on here gives.
pub record Comes {R : Type 0} (read : ℕ → List ℕ → R) (s : List ℕ) (total : R) : Type 0 where
  pub steps : ℕ
  pub enough : length s < steps
  pub same : read steps s ≡ total

abbrev pub Parts : ℕ → List ℕ → End → Type 0
Parts d = Comes (many_end (begins 44) (λ q. fixed_end (codes ", ") q >>= term_end d))

abbrev pub Comps : ℕ → List ℕ → End → Type 0
Comps d = Comes (many_end (begins 44) (λ q. fixed_end (codes ", ") q >>= comp_end (term_end d)))

abbrev pub Names : List ℕ → End → Type 0
Names = Comes (many_end (begins 32) name_end)

abbrev pub Choices : List ℕ → End → Type 0
Choices = Comes (many_end (begins 32) choice_number_end)

abbrev pub Elements : List ℕ → End → Type 0
Elements = Comes (many_end (begins 102) element_end)

-- lines inside a case, if the one before wasn't the last
abbrev pub Entries : Bool → List ℕ → End → Type 0
Entries goes_on = Comes (λ n s. cond goes_on (entries_end n s) (Ok s))

abbrev pub Binders : List ℕ → End → Type 0
Binders = Comes binders_end

abbrev pub Pieces : Connective → List ℕ → End → Type 0
Pieces joint = Comes (λ n. pieces_end n joint)

-- a reading with enough steps has one step at least
pub one_step : {R : Type 0} (read : ℕ → List ℕ → R) (s : List ℕ) (total : R) → Comes read s total → (n : ℕ) × (length s ≤ n) × (read (suc n) s ≡ total)
one_step read s total h =
    let below : length s < h.steps = h.enough in
    let e : h.steps ≡ suc (h.steps - 1) = omega arith in
    (h.steps - 1, omega arith, subst (λ (n : ℕ). read n s ≡ total) e h.same)

pub starts : {R : Type 0} (read : ℕ → List ℕ → R) (s : List ℕ) → Comes read s (read (suc (length s)) s)
starts read s = record { steps = suc (length s); enough = omega arith; same = refl }

module _ (test : List ℕ → Bool) (item : List ℕ → End) where
  many_fails_at : (n left : ℕ) (s : List ℕ) (total : End) → test s ≡ true → item s ≡ Err left → many_end test item (suc n) s ≡ total → total ≡ Err left
  many_fails_at n left s total here found same = sym (rw (here, found) at same)

  pub many_fails : (left : ℕ) (s : List ℕ) (total : End) → test s ≡ true → item s ≡ Err left → Comes (many_end test item) s total → total ≡ Err left
  many_fails left s total here found h = let o = one_step (many_end test item) s total h in many_fails_at o.0 left s total here found o.2

  many_ends_at : (n : ℕ) (s : List ℕ) (total : End) → test s ≡ false → many_end test item (suc n) s ≡ total → total ≡ Ok s
  many_ends_at n s total none same = sym (rw none at same)

  pub many_ends : (s : List ℕ) (total : End) → test s ≡ false → Comes (many_end test item) s total → total ≡ Ok s
  many_ends s total none h = let o = one_step (many_end test item) s total h in many_ends_at o.0 s total none o.2

-- a comma that isn't there
pub comma_halts : (e : ParseError) (d : ℕ) (s : List ℕ) (total : End) → begins 44 s ≡ true → ErrorIs e (fixed_end (codes ", ") s) → Parts d s total → ErrorIs e total
comma_halts NoMemory d s total here failed h = tt
comma_halts (Left left) d s total here failed h =
    many_fails (begins 44) (λ q. fixed_end (codes ", ") q >>= term_end d) left s total here (rw failed refl) h
