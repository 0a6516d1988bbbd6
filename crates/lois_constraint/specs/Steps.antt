-- Steps upward.
use Rattle.std.specs.Prelude.{Bool, true, false}
use Rattle.lois_base.specs.declared.guards.Op.{Op}
use Rattle.lois_base.specs.declared.guards.Op.TheVariants.{Eq, Ne, Lt, AtMost}

abbrev pub is_step : Op → Bool
is_step Eq = false
is_step Ne = false
is_step Lt = true
is_step AtMost = true
