-- Answers that are kept.
use Rattle.std.specs.Prelude.{ℕ, Option}
use Rattle.std.specs.Global.{Vec}
use Rattle.std.specs.Option.{ForSome, ForNone}
use Rattle.lois_base.specs.Theory.{IsSampleOf}
use Rattle.lois_deciders.specs.Labels.{IsUnmet}
use Rattle.lois_deciders.specs.declared.questions.Question.{Question}

-- a sample of the question's cube, or nothing where no choice of so many atoms meets it
abbrev pub Answers : Question → Option (Vec ℕ) → Type 0
Answers q o =
    ForSome o (λ s. IsSampleOf q.size q.literals.items s.items) × ForNone o (IsUnmet q.size q.literals.items)

abbrev pub IsRightEntry : Question × Option (Vec ℕ) → Type 0
IsRightEntry e = Answers e.0 e.1
