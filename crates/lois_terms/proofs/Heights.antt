-- How deep terms and lists of comprehensions are written.
use Rattle.std.proofs.Common.{◌≡◌, ℕ, ◌≤◌, max, List, [], ◌∷◌, ◌++◌, arith}
use Rattle.lois_base.specs.Atom.{Atom}
use Rattle.lois_base.specs.Data.{TermD, CompD, depth}
use Rattle.lois_base.specs.ListDepth.{depth_of_comps}
use Rattle.lois_base.specs.Values.{point, IsDeeper}
use Rattle.lois_base.proofs.Depths.{deeper_depth}

-- no value is deeper than its term is written
pub not_deeper : (t : TermD) (n : ℕ) → depth t ≤ n → (c : List Atom) → IsDeeper (point t c) n → ⊥
not_deeper t n within c h = omega (arith, deeper_depth (point t c) n h)

pub depth_append : (ks ls : List CompD) → depth_of_comps (ks ++ ls) ≡ max (depth_of_comps ks) (depth_of_comps ls)
depth_append [] ls = omega arith
depth_append (k ∷ ks) ls = omega (arith, depth_append ks ls)
