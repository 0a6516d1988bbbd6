-- Constraints at longer choices.
use Rattle.std.proofs.Common.{◌≡◌, ℕ, List, ◌++◌, length, sym, subst}
use Rattle.lois_base.specs.Atom.{Atom}
use Rattle.lois_base.specs.Fits.{ConstraintFits}
use Rattle.lois_base.specs.Truth.{holds}
use Rattle.lois_base.specs.declared.guards.Lit.{Lit}
use Rattle.lois_base.proofs.Truths.{holds_longer}

-- a constraint over n levels holds at a choice that goes on from n atoms as it does there
pub holds_at_start : (n : ℕ) (c e : List Atom) (g : List (List Lit)) → ConstraintFits n g → length c ≡ n → holds (c ++ e) g ≡ holds c g
holds_at_start n c e g f l = holds_longer c e g (subst (λ k. ConstraintFits k g) (sym l) f)
