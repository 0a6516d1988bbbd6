-- Terms that levels were put into.
use Rattle.std.specs.Prelude.{◌≡◌, ℕ, ◌+◌}
use Rattle.lois_base.specs.Data.{TermD}
use Rattle.lois_base.specs.Fits.{Fits}
use Rattle.lois_base.specs.Shift.{shift}
use Rattle.lois_base.specs.Tree.{tree}
use Rattle.lois_context.specs.Noted.{IsNotedOf}
use Rattle.lois_context.specs.declared.memo.Raised.{Raised}

-- r is t with `by` levels put in after the first n, and what is noted of it is true
pub record IsRaised (n by : ℕ) (t : TermD) (r : Raised) : Type 0 where
  pub term : tree r.term ≡ shift n by t
  pub fits : Fits (n + by) (tree r.term)
  pub noted : IsNotedOf r.noted r.term
