-- The parts of tuples, by their numbers from 1.
use Rattle.std.specs.Prelude.{ℕ, zero, suc, Option}
use Rattle.std.specs.Prelude.{Some, None}
use Rattle.lois_base.specs.Data.{TermD, tup, TermsD, no_terms, term}

abbrev pub part_at : TermsD → ℕ → Option TermD
part_at no_terms i = None
part_at (term t ts) zero = Some t
part_at (term t ts) (suc i) = part_at ts i

-- the part of a tuple with this number, if the term is a tuple that has it
abbrev pub part_of : TermD → ℕ → Option TermD
part_of (tup ts) (suc i) = part_at ts i
part_of _ i = None
