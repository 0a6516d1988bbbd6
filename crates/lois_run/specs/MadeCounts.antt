-- What the made script comes to.
use Rattle.std.specs.Prelude.{ℕ, ◌+◌, ◌*◌, min}
use Rattle.lois_run.specs.declared.outcomes.Made.{Made}

-- What the made script of n loops comes to: 37 bytes and 74 for each loop, one case, and a comprehension for each of its tags,
-- of which there are seven.
abbrev pub made_counts : ℕ → Made
made_counts n = record { statements = n; bytes = 37 + 74 * n; cases = 1; comprehensions = min n 7 }
