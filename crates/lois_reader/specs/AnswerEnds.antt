-- Where the lines of results and of traces end.
use Rattle.std.specs.Prelude.{ℕ, zero, suc, Bool, true, false, ◌&&◌, List, [], ◌∷◌, length, Result, Ok, Err, bytes_eq, codes, if◌then◌else◌}
use Rattle.lois_reader.specs.Reading.{◌>>=◌, End, begins}
use Rattle.lois_reader.specs.Ends.{fixed_end, word_at, word_end, number_end, many_end, constraint_end, term_end}

unfoldable pub structure_end : List ℕ → End
structure_end s = if begins 111 s then fixed_end (codes "order\n") s else fixed_end (codes "equality\n") s

abbrev pub name_end : List ℕ → End
name_end s = fixed_end (codes " ") s >>= word_end

unfoldable pub names_end : List ℕ → End
names_end s = many_end (begins 32) name_end (suc (length s)) s

-- behind the version
unfoldable pub head_end : List ℕ → End
head_end s =
    fixed_end (codes "\natoms ") s >>= structure_end >>= fixed_end (codes "parameters") >>= names_end >>= fixed_end (codes "\n")

-- behind `case when `, and behind ` = `
unfoldable pub when_end : List ℕ → End
when_end s = constraint_end s >>= fixed_end (codes "\n")

unfoldable pub body_end : List ℕ → End
body_end s = term_end 64 s >>= fixed_end (codes "\n")

-- behind the first word of a line: `case` begins a case, or names a line
unfoldable pub behind_case : List ℕ → End
behind_case s = fixed_end (codes " ") s >>= (λ r.
    if begins 119 r then fixed_end (codes "when ") r >>= when_end else fixed_end (codes "= ") r >>= body_end)

unfoldable pub assigned_end : List ℕ → End
assigned_end s = fixed_end (codes " = ") s >>= body_end

unfoldable pub behind_word : List ℕ → List ℕ → End
behind_word w s = if bytes_eq w (codes "case") then behind_case s else assigned_end s

-- a line inside a case, and whether it isn't the last one of the text
unfoldable pub entry_at : List ℕ → Result (Bool × List ℕ) ℕ
entry_at s = word_at s >>= (λ x.
    if bytes_eq x.0 (codes "end") && begins 10 x.1 then fixed_end (codes "\n") x.1 >>= (λ r. Ok (false, r))
    else behind_word x.0 x.1 >>= (λ r. Ok (true, r)))

-- the line before any case
unfoldable pub opening_at : List ℕ → Result (Bool × List ℕ) ℕ
opening_at s =
    if begins 99 s then fixed_end (codes "case when ") s >>= when_end >>= (λ r. Ok (true, r))
    else fixed_end (codes "end\n") s >>= (λ r. Ok (false, r))

abbrev pub entries_end : ℕ → List ℕ → End
entries_end zero s = Err (length s)
entries_end (suc n) s = entry_at s >>= λ x. if x.0 then entries_end n x.1 else Ok x.1

unfoldable pub cases_end : List ℕ → End
cases_end s = opening_at s >>= λ x. if x.0 then entries_end (suc (length x.1)) x.1 else Ok x.1

-- the kinds of failure: behind `not a`, behind `not `, all
unfoldable pub not_a_end : List ℕ → End
not_a_end s =
    if begins 110 s then fixed_end (codes "n automaton") s
    else (if begins 116 s then fixed_end (codes "toms") s
    else fixed_end (codes " ") s >>= (λ r. if begins 115 r then fixed_end (codes "set") r else fixed_end (codes "tuple") r))

unfoldable pub not_end : List ℕ → End
not_end s =
    if begins 100 s then fixed_end (codes "deterministic") s
    else (if begins 99 s then fixed_end (codes "complete") s else fixed_end (codes "a") s >>= not_a_end)

unfoldable pub no_end : List ℕ → End
no_end s = if begins 32 s then fixed_end (codes " such part") s else fixed_end (codes "t ") s >>= not_end

unfoldable pub kind_end : List ℕ → End
kind_end s =
    if begins 97 s then fixed_end (codes "assertion failed") s
    else (if begins 116 s then fixed_end (codes "turn limit") s
    else (if begins 100 s then fixed_end (codes "depth limit") s else fixed_end (codes "no") s >>= no_end))

unfoldable pub failure_end : List ℕ → End
failure_end s =
    fixed_end (codes "failed at ") s >>= number_end >>= fixed_end (codes ":") >>= number_end >>= fixed_end (codes ": ") >>= kind_end >>= fixed_end (codes "\n")

abbrev pub choice_number_end : List ℕ → End
choice_number_end s = fixed_end (codes " ") s >>= number_end

unfoldable pub numbers_end : List ℕ → End
numbers_end s = many_end (begins 32) choice_number_end (suc (length s)) s

unfoldable pub choice_end : List ℕ → End
choice_end s = fixed_end (codes "choice") s >>= numbers_end >>= fixed_end (codes "\n")

unfoldable pub element_end : List ℕ → End
element_end s = fixed_end (codes "for ") s >>= word_end >>= assigned_end

unfoldable pub elements_end : List ℕ → End
elements_end s = many_end (begins 102) element_end (suc (length s)) s

unfoldable pub trace_end : List ℕ → End
trace_end s = head_end s >>= failure_end >>= choice_end >>= elements_end >>= fixed_end (codes "end\n")

unfoldable pub results_end : List ℕ → End
results_end s = head_end s >>= cases_end

-- nothing follows
abbrev pub ends_text : List ℕ → End
ends_text [] = Ok []
ends_text (b ∷ s) = Err (suc (length s))

unfoldable pub results_text_end : List ℕ → End
results_text_end s = fixed_end (codes "lois results 1") s >>= results_end >>= ends_text

unfoldable pub version_end : List ℕ → End
version_end s = if begins 50 s then fixed_end (codes "2") s >>= trace_end else fixed_end (codes "1") s >>= results_end

unfoldable pub answer_text_end : List ℕ → End
answer_text_end s = fixed_end (codes "lois results ") s >>= version_end >>= ends_text
