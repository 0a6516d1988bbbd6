-- Which of several deciders is asked.
use Rattle.std.specs.Prelude.{◌≡◌, Option, Some, None}
use Rattle.lois_base.specs.declared.deciding.Kind.{Kind}

-- where no kind is named every decider will do
abbrev pub IsWanted : Option Kind → Kind → Type 0
IsWanted None found = Unit {0}
IsWanted (Some kind) found = kind ≡ found

abbrev pub IsUnwanted : Option Kind → Kind → Type 0
IsUnwanted kind found = IsWanted kind found → ⊥
