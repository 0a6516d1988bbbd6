-- What terms stand for, or the first side rule that they break.
use Rattle.std.specs.Prelude.{ℕ, zero, suc, ◌+◌, Bool, false, not, nat_le, List, [], ◌∷◌, length, Option, Some, None, Result, Ok, Err, codes, if◌then◌else◌}
use Rattle.lois_base.specs.Data.{TermD, var, tag, tup, coll, terms_of, CompD, comp, no_comps, comps_of}
use Rattle.lois_base.specs.declared.guards.Lit.{Lit}
use Rattle.lois_reader.specs.declared.scope.Scope.{Scope}
use Rattle.lois_reader.specs.Reading.{◌>>=◌, End, begins}
use Rattle.lois_reader.specs.Ends.{fixed_end, word_at, number_at, level_end, term_end}
use Rattle.lois_reader.specs.Values.{given, value_within, operand_at, keyword, follows, list_at, constraint_at}

-- how many binders are written behind `for`
abbrev pub level_count : ℕ → List ℕ → Result ℕ ℕ
level_count zero s = Err (length s)
level_count (suc k) s = if follows 36 s then fixed_end (codes " ") s >>= level_end >>= level_count k >>= (λ m. Ok (suc m)) else Ok 0

unfoldable pub binder_count : List ℕ → Result ℕ ℕ
binder_count s = if follows 102 s then fixed_end (codes " for") s >>= (λ r. level_count (suc (length r)) r) else Ok 0

-- behind the binder n
unfoldable pub binder_at : ℕ → List ℕ → End
binder_at n s = fixed_end (codes "$") s >>= number_at >>= λ x. given (value_within n (suc n) x.0) (length s) >>= λ i. Ok x.1

abbrev pub levels_from : ℕ → ℕ → List ℕ → End
levels_from zero n s = Err (length s)
levels_from (suc k) n s = if follows 36 s then fixed_end (codes " ") s >>= binder_at n >>= levels_from k (suc n) else Ok s

-- behind the binders n, n + 1 and so on
unfoldable pub binders_at : ℕ → List ℕ → End
binders_at n s = if follows 102 s then fixed_end (codes " for") s >>= (λ r. levels_from (suc (length r)) n r) else Ok s

abbrev pub ends_true : Option (List ℕ) → Bool
ends_true None = false
ends_true (Some r) = not (begins 32 r)

-- `true` is the whole constraint
unfoldable pub true_alone : List ℕ → Bool
true_alone s = ends_true (keyword (codes "true") s)

unfoldable pub behind_if : Scope → ℕ → List ℕ → Result (List (List Lit) × List ℕ) ℕ
behind_if scope n s = if true_alone s then Err (length s) else constraint_at scope n s

unfoldable pub guard_at : Scope → ℕ → List ℕ → Result (List (List Lit) × List ℕ) ℕ
guard_at scope n s = if begins 32 s then fixed_end (codes " if ") s >>= behind_if scope n else Ok ([] ∷ [], s)

unfoldable pub tag_at : List ℕ → Result (TermD × List ℕ) ℕ
tag_at s = fixed_end (codes "'") s >>= word_at >>= λ x. if nat_le (length x.0) 64 then Ok (tag x.0, x.1) else Err (length s)

unfoldable pub var_at : Scope → ℕ → List ℕ → Result (TermD × List ℕ) ℕ
var_at scope n s = operand_at scope n s >>= λ x. Ok (var x.0, x.1)

-- how many parts stand behind `(`, where e ends each of them
abbrev pub part_count : (List ℕ → End) → ℕ → List ℕ → Result ℕ ℕ
part_count e zero s = Err (length s)
part_count e (suc k) s = e s >>= λ r. if begins 44 r then fixed_end (codes ", ") r >>= part_count e k >>= (λ m. Ok (suc m)) else Ok 1

-- the parts of a tuple, the comprehensions of a set, each read by t, and what follows the bracket behind them
unfoldable pub parts_at : (List ℕ → Result (TermD × List ℕ) ℕ) → List ℕ → Result (List TermD × List ℕ) ℕ
parts_at t s = list_at (begins 44) (codes ", ") t (suc (length s)) s

unfoldable pub closed_parts_at : (List ℕ → Result (TermD × List ℕ) ℕ) → List ℕ → Result (TermD × List ℕ) ℕ
closed_parts_at t s = parts_at t s >>= λ x. fixed_end (codes ")") x.1 >>= λ r. Ok (tup (terms_of x.0), r)

unfoldable pub tuple_at : (List ℕ → End) → (List ℕ → Result (TermD × List ℕ) ℕ) → List ℕ → Result (TermD × List ℕ) ℕ
tuple_at e t s = fixed_end (codes "(") s >>= λ r. part_count e (suc (length r)) r >>= λ m. if nat_le m 8 then closed_parts_at t r else Err (length s)

-- an item, its binders and its guard, where e ends the item and t reads it inside so many levels
unfoldable pub comp_at : (List ℕ → End) → (ℕ → List ℕ → Result (TermD × List ℕ) ℕ) → Scope → ℕ → List ℕ → Result (CompD × List ℕ) ℕ
comp_at e t scope n s = do
  tail ← e s
  m ← binder_count tail
  item ← t (n + m) s
  after ← binders_at n item.1
  guard ← guard_at scope (n + m) after
  Ok (comp m guard.0 item.0, guard.1)

unfoldable pub comps_at : (List ℕ → Result (CompD × List ℕ) ℕ) → List ℕ → Result (List CompD × List ℕ) ℕ
comps_at c s = list_at (begins 44) (codes ", ") c (suc (length s)) s

unfoldable pub closed_comps_at : (List ℕ → Result (CompD × List ℕ) ℕ) → List ℕ → Result (TermD × List ℕ) ℕ
closed_comps_at c s = comps_at c s >>= λ x. fixed_end (codes "}") x.1 >>= λ r. Ok (coll (comps_of x.0), r)

unfoldable pub set_at : (List ℕ → Result (CompD × List ℕ) ℕ) → List ℕ → Result (TermD × List ℕ) ℕ
set_at c s = fixed_end (codes "{") s >>= λ r. if begins 125 r then fixed_end (codes "}") r >>= (λ q. Ok (coll no_comps, q)) else closed_comps_at c r

-- a term inside n levels, in which at most d brackets are open at one place
unfoldable pub term_at : ℕ → Scope → ℕ → List ℕ → Result (TermD × List ℕ) ℕ
term_at zero scope n s = if begins 39 s then tag_at s else var_at scope n s
term_at (suc d) scope n s =
    if begins 39 s then tag_at s
    else (if begins 40 s then tuple_at (term_end d) (term_at d scope n) s
    else (if begins 123 s then set_at (comp_at (term_end d) (term_at d scope) scope n) s else var_at scope n s))
