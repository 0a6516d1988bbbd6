use Rattle.std.proofs.Common.{ℕ, ◌<◌, get_or}
use Rattle.lois_base.specs.declared.guards.Lit.{Lit}
use Rattle.lois_constraint.specs.Signature.{RecordsLit, MatchesMask}
use Rattle.lois_constraint.proofs.signature.SignatureMask.of.Given as goal

abbrev pub invariant-loop-lit : goal.invariant-loop-lit
invariant-loop-lit l =
    (order : ℕ) → ((k : ℕ) (d : Lit) → k < l.lit-index → RecordsLit order (get_or l.lit-items k d)) → MatchesMask order l.demands.needed l.demands.refused
