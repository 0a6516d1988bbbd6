-- The laws of specs/Laws.
use Rattle.std.proofs.Common.{◌≡◌, Bool, List, ◌++◌, length, map, refl, sym, subst, ◌↔◌}
use Rattle.std.proofs.lemmas.List.{length-map}
use Rattle.lois_base.specs.Atom.{Atom}
use Rattle.lois_base.specs.Data.{coll}
use Rattle.lois_base.specs.FormulaData.{FormulaD, FormulaFits}
use Rattle.lois_base.specs.FormulaTruth.{FormulaHolds}
use Rattle.lois_base.specs.Laws.{EqualIsEquivalence, IsDenseOrder, TruthRespectsEqual, SameIsEquivalence, SameIsRespected, SetsAreTheirMembers, OnlyItsLevelsCount, OnlyThePatternCounts, mapped, MapsKeepMeaning, SmallNumbersSuffice}
use Rattle.lois_base.specs.Patterns.{AreAlike}
use Rattle.lois_base.specs.AtomMaps.{IsEmbedding}
use Rattle.lois_base.specs.Fits.{Fits}
use Rattle.lois_base.specs.Truth.{sampled}
use Rattle.lois_base.specs.Validity.{AdmitsTerm}
use Rattle.lois_base.specs.FormulaOperators.{AdmitsFormula}
use Rattle.lois_base.specs.Values.{PointValue, point, IsProper, IsSame}
use Rattle.lois_base.proofs.Order.{equal_refl, equal_sym, equal_trans, below_respects, trichotomy, below_asym, below_trans, between, lower, higher, below_not_equal}
use Rattle.lois_base.proofs.Members.{same_refl, same_sym, same_trans, in_same, same_in, same_included, included_same, same_sets, deeper_same}
use Rattle.lois_base.proofs.Truths.{holds_equal, formula_equal, holds_alike, holds_ordered}
use Rattle.lois_base.proofs.Levels.{holds_for, value_for}
use Rattle.lois_base.proofs.Moves.{alike_sym, formula_alike, same_alike, alike_map, alike_maps}
use Rattle.lois_base.proofs.Samples.{ranks, length_ranks, ranks_small, ranks_alike}

pub equality : EqualIsEquivalence
equality = record {
  reflexive = equal_refl;
  symmetric = equal_sym;
  transitive = equal_trans;
  in_below = below_respects;
}

pub order : IsDenseOrder
order = record {
  total = trichotomy;
  strict = λ a b h. (below_not_equal a b h, below_asym a b h);
  transitive = below_trans;
  dense = between;
  no_least = lower;
  no_greatest = higher;
}

pub truth : TruthRespectsEqual
truth = record { constraints = λ g c d h. holds_equal c d h g; formulas = formula_equal }

pub equivalence : SameIsEquivalence
equivalence = record { reflexive = same_refl; symmetric = same_sym; transitive = same_trans }

pub respected : SameIsRespected
respected = record {
  by_elements = in_same;
  by_sets = same_in;
  by_inclusion = included_same;
  by_depth = deeper_same;
}

pub sets : SetsAreTheirMembers
sets ks ls c d = (
  (λ h. (same_included (point (coll ks) c) (point (coll ls) d) h, same_included (point (coll ls) d) (point (coll ks) c) (same_sym (point (coll ks) c) (point (coll ls) d) h))),
  (λ h. same_sets (point (coll ks) c) (point (coll ls) d) ks ls refl refl h.0 h.1),
)

pub levels : OnlyItsLevelsCount
levels = record { truth = λ g c d h. holds_for c d g h; values = value_for }

pub pattern : OnlyThePatternCounts
pattern = record {
  constraints = λ ordered g c d h p a. holds_alike ordered c d h g p a;
  formulas = formula_alike;
  values = same_alike;
}

formulas_kept : (ordered : Bool) (f : Atom → Atom) → IsEmbedding ordered f → (g : FormulaD) (c : List Atom) → FormulaFits (length c) g → AdmitsFormula ordered g → FormulaHolds c g ↔ FormulaHolds (map f c) g
formulas_kept ordered f keeps g c p a =
    let there : AreAlike ordered c (map f c) = alike_map ordered f keeps c in
    let q : FormulaFits (length (map f c)) g = subst (λ n. FormulaFits n g) there.count p in (
      (λ h. formula_alike ordered g c (map f c) there p a h),
      (λ h. formula_alike ordered g (map f c) c (alike_sym ordered c (map f c) there) q a h),
    )

values_kept : (ordered : Bool) (f : Atom → Atom) → IsEmbedding ordered f → (v w : PointValue) → IsProper v → IsProper w → AdmitsTerm ordered v.term_of → AdmitsTerm ordered w.term_of → IsSame v w ↔ IsSame (mapped f v) (mapped f w)
values_kept ordered f keeps v w p q a b =
    let there : AreAlike ordered (v.choice ++ w.choice) (map f v.choice ++ map f w.choice) = alike_maps ordered f keeps v.choice w.choice in
    let home = alike_sym ordered (v.choice ++ w.choice) (map f v.choice ++ map f w.choice) there in
    let left : length v.choice ≡ length (map f v.choice) = sym (length-map v.choice f) in
    let right : length w.choice ≡ length (map f w.choice) = sym (length-map w.choice f) in
    let p' : Fits (length (map f v.choice)) v.term_of = subst (λ n. Fits n v.term_of) left p in
    let q' : Fits (length (map f w.choice)) w.term_of = subst (λ n. Fits n w.term_of) right q in (
      (λ h. same_alike ordered v.term_of w.term_of v.choice w.choice (map f v.choice) (map f w.choice) left there p q a b h),
      (λ h. same_alike ordered v.term_of w.term_of (map f v.choice) (map f w.choice) v.choice w.choice (sym left) home p' q' a b h),
    )

pub maps : MapsKeepMeaning
maps = record {
  constraints = λ ordered f keeps g c p a. holds_alike ordered c (map f c) (alike_map ordered f keeps c) g p a;
  formulas = formulas_kept;
  values = values_kept;
}

pub numbers : SmallNumbersSuffice
numbers = record {
  numbers = λ c. (ranks c, length_ranks c, ranks_small c, ranks_alike c);
  truth = λ c s h g p. holds_ordered c (sampled s) h g p;
}
