-- One level in each place of another.
use Rattle.std.specs.Prelude.{ℕ, List, map, nat_eq, if◌then◌else◌}
use Rattle.lois_base.specs.declared.guards.Lit.{Lit}

abbrev pub put_level : ℕ → ℕ → ℕ → ℕ
put_level level other i = if nat_eq i level then other else i

abbrev pub put_lit : ℕ → ℕ → Lit → Lit
put_lit level other l = record { op = l.op; left = put_level level other l.left; right = put_level level other l.right }

abbrev pub put_cube : ℕ → ℕ → List Lit → List Lit
put_cube level other = map (put_lit level other)

abbrev pub put_constraint : ℕ → ℕ → List (List Lit) → List (List Lit)
put_constraint level other = map (put_cube level other)
