-- Values of two terms under a constraint.
use Rattle.std.proofs.Common.{◌≡◌, ℕ, List, length, take, sym, subst, ◌∙◌, arith}
use Rattle.std.specs.Prelude.{IsTrue}
use Rattle.std.proofs.lemmas.Bool.{false≢true}
use Rattle.std.proofs.lemmas.List.{length-map, take_all}
use Rattle.lois_base.specs.Atom.{whole}
use Rattle.lois_base.specs.Data.{TermD}
use Rattle.lois_base.specs.FormulaData.{FormulaD}
use Rattle.lois_base.specs.Truth.{holds, sampled}
use Rattle.lois_base.specs.Values.{point, IsSame}
use Rattle.lois_base.specs.declared.guards.Lit.{Lit}
use Rattle.lois_base.proofs.Members.{same_refl, same_sets}
use Rattle.lois_deciders.specs.Satisfiability.{IsCounterexample}
use Rattle.lois_elim.specs.Bound.{AgreesWith}
use Rattle.lois_relate.specs.Relations.{HoldsWhereSame}
use Rattle.lois_terms.specs.Collections.{IsColl}
use Rattle.lois_same.specs.Members.{IsIncludedUnder, AreSameUnder, AreOtherUnder}

-- a counterexample of what says where the values are the same
pub other_values : (n : ℕ) (u : List (List Lit)) (s t : TermD) (f : FormulaD) (r : List (List Lit)) (p : List ℕ) → HoldsWhereSame n s t f → AgreesWith n f r → IsCounterexample n u r p → AreOtherUnder n u s t p
other_values n u s t f r p same agrees (small, here, not_here) =
    let entire : take n p ≡ p = take_all n p (omega (arith, small.count)) in
    let count : length (sampled p) ≡ n = length-map p whole ∙ small.count in (
      record { count = omega (arith, small.count); admitted = subst (λ z. IsTrue (holds (sampled z) u)) (sym entire) here },
      λ is.
          let there : IsSame (point s (sampled p)) (point t (sampled p)) = subst (λ z. IsSame (point s (sampled z)) (point t (sampled z))) entire is in
          false≢true (sym not_here ∙ (agrees (sampled p) count).1 ((same (sampled p) count).1 there)),
    )

-- terms that are written alike
pub written_alike : (n : ℕ) (u : List (List Lit)) (s t : TermD) → s ≡ t → AreSameUnder n u s t
written_alike n u s t e c count here = subst (λ z. IsSame (point s c) (point z c)) e (same_refl (point s c))

-- sets of which each is included in the other
pub same_under : (n : ℕ) (u : List (List Lit)) (s t : TermD) → IsColl s → IsColl t → IsIncludedUnder n u s t → IsIncludedUnder n u t s → AreSameUnder n u s t
same_under n u s t first second forth back c count here =
    same_sets (point s c) (point t c) first.0 second.0 first.1 second.1 (forth c count here) (back c count here)
