-- What is readable, step by step.
use Rattle.std.proofs.Common.{ℕ, List}
use Rattle.lois_base.specs.Data.{TermD}
use Rattle.lois_base.specs.declared.guards.Lit.{Lit}
use Rattle.lois_readable.specs.Readable.{IsReadable}
use Rattle.lois_simplify.specs.Simplification.{IsSimplification}
use Rattle.lois_simplify.proofs.Kept.{kept_trans}

pub readable_from : (u : List (List Lit)) (n : ℕ) (t s r : TermD) → IsSimplification u n t s → IsReadable u n s r → IsReadable u n t r
readable_from u n t s r kept h = record {
  kept = kept_trans u n t s r kept h.kept;
  normal = h.normal;
  guards = h.guards;
  plain = h.plain;
}
