-- Formulas on atoms behind others.
use Rattle.std.proofs.Common.{◌≡◌, ℕ, ◌+◌, ◌<◌, Bool, List, ◌++◌, length, get_or, sym, subst, arith}
use Rattle.std.proofs.lemmas.List.{get_or-append-add, get_or-map}
use Rattle.std.specs.Bool.{IsTrue}
use Rattle.std.specs.Prelude.{◌↔◌}
use Rattle.lois_base.specs.Atom.{Atom, whole}
use Rattle.lois_base.specs.Fits.{LitFits}
use Rattle.lois_base.specs.FormulaData.{FormulaD, lit}
use Rattle.lois_base.specs.FormulaTruth.{FormulaHolds}
use Rattle.lois_base.specs.Truth.{atom_at, lit_holds, sampled}
use Rattle.lois_base.specs.Validity.{AdmitsLit}
use Rattle.lois_base.specs.declared.guards.Lit.{Lit}
use Rattle.lois_relate.specs.Built.{IsBoth}
use Rattle.lois_census.specs.Alike.{StandAlike, StandsAt, StandsBeside, StandsBelow, SaysBehind}
use Rattle.lois_census.proofs.Standing.{stands_alike}
use Rattle.lois_base.specs.Patterns.{AreAlike}
use borrow.Author.Count.{below_more}

module _ (ordered : Bool) (n m : ℕ) where
  pub says_both : (P Q R : List Atom → Type 0) (f g r : FormulaD) → SaysBehind ordered n m P f → SaysBehind ordered n m Q g → IsBoth f g r → ((d : List Atom) → length d ≡ m → (P d × Q d) ↔ R d) → SaysBehind ordered n m R r
  says_both P Q R f g r p q both same = record {
    truth = λ e d le ld.
        let parts : FormulaHolds (e ++ d) r ↔ (FormulaHolds (e ++ d) f × FormulaHolds (e ++ d) g) = both.truth (e ++ d) in
        let left : FormulaHolds (e ++ d) f ↔ P d = p.truth e d le ld in
        let right : FormulaHolds (e ++ d) g ↔ Q d = q.truth e d le ld in
        let whole_way : (P d × Q d) ↔ R d = same d ld in (
          λ h. whole_way.0 (left.0 (parts.0 h).0, right.0 (parts.0 h).1),
          λ h. parts.1 (left.1 (whole_way.1 h).0, right.1 (whole_way.1 h).1),
        );
    levels = both.levels (n + m) p.levels q.levels;
    operators = both.operators ordered p.operators q.operators;
  }

  behind : (e d : List Atom) (i : ℕ) → length e ≡ n → atom_at (e ++ d) (n + i) ≡ atom_at d i
  behind e d i le = subst (λ k. atom_at (e ++ d) (k + i) ≡ atom_at d i) le (get_or-append-add e d i (whole 0))

  -- the literal between positions i and j
  pub says_lit : (s : List ℕ) (i j : ℕ) (l : Lit) → i < length s → j < length s → length s ≡ m →
      ((c : List Atom) → IsTrue (lit_holds c l) ↔ StandAlike ordered (whole (get_or s i 0)) (whole (get_or s j 0)) (atom_at c (n + i)) (atom_at c (n + j))) →
      LitFits (n + m) l → AdmitsLit ordered l → SaysBehind ordered n m (StandsAt ordered s i j) (lit l)
  says_lit s i j l li lj count means fits admits = record {
    truth = λ e d le ld.
        subst (λ z. IsTrue (lit_holds (e ++ d) l) ↔ StandAlike ordered (atom_at (sampled s) i) (atom_at (sampled s) j) z (atom_at d j)) (behind e d i le)
        (subst (λ z. IsTrue (lit_holds (e ++ d) l) ↔ StandAlike ordered (atom_at (sampled s) i) (atom_at (sampled s) j) (atom_at (e ++ d) (n + i)) z) (behind e d j le)
        (subst (λ z. IsTrue (lit_holds (e ++ d) l) ↔ StandAlike ordered z (atom_at (sampled s) j) (atom_at (e ++ d) (n + i)) (atom_at (e ++ d) (n + j))) (sym (number i li))
        (subst (λ z. IsTrue (lit_holds (e ++ d) l) ↔ StandAlike ordered (whole (get_or s i 0)) z (atom_at (e ++ d) (n + i)) (atom_at (e ++ d) (n + j))) (sym (number j lj)) (means (e ++ d)))));
    levels = fits;
    operators = admits;
  }
    where
      number : (k : ℕ) → k < length s → atom_at (sampled s) k ≡ whole (get_or s k 0)
      number k l = get_or-map whole s k 0 (whole 0) l

-- ---- position after position
module _ (ordered : Bool) (n : ℕ) (s : List ℕ) where
  pub beside_more : (j i : ℕ) (f l r : FormulaD) → SaysBehind ordered n (length s) (StandsBeside ordered s j i) f → SaysBehind ordered n (length s) (StandsAt ordered s i j) l → IsBoth f l r → SaysBehind ordered n (length s) (StandsBeside ordered s j (i + 1)) r
  beside_more j i f l r so_far one both =
      says_both ordered n (length s) (StandsBeside ordered s j i) (StandsAt ordered s i j) (StandsBeside ordered s j (i + 1)) f l r so_far one both (λ d ld. (
        λ h. below_more (λ k. StandsAt ordered s k j d) i h.0 h.1,
        λ h. (λ k lk. h k (omega arith), h i (omega arith)),
      ))

  pub below_more_of : (j : ℕ) (f l r : FormulaD) → SaysBehind ordered n (length s) (StandsBelow ordered s j) f → SaysBehind ordered n (length s) (StandsBeside ordered s j j) l → IsBoth f l r → SaysBehind ordered n (length s) (StandsBelow ordered s (j + 1)) r
  below_more_of j f l r so_far one both =
      says_both ordered n (length s) (StandsBelow ordered s j) (StandsBeside ordered s j j) (StandsBelow ordered s (j + 1)) f l r so_far one both (λ d ld. (
        λ h. below_more (λ k. StandsBeside ordered s k k d) j h.0 h.1,
        λ h. (λ k lk. h k (omega arith), h j (omega arith)),
      ))

  pub says_alike : (k : ℕ) (f : FormulaD) → k ≡ length s → SaysBehind ordered n (length s) (StandsBelow ordered s k) f → SaysBehind ordered n (length s) (AreAlike ordered (sampled s)) f
  says_alike k f is h = record {
    truth = λ e d le ld.
        let all : SaysBehind ordered n (length s) (StandsBelow ordered s (length s)) f =
        subst (λ z. SaysBehind ordered n (length s) (StandsBelow ordered s z) f) is h in
        let this : FormulaHolds (e ++ d) f ↔ StandsBelow ordered s (length s) d = all.truth e d le ld in
        let way : StandsBelow ordered s (length s) d ↔ AreAlike ordered (sampled s) d = stands_alike ordered s d ld in
        (λ x. way.0 (this.0 x), λ x. this.1 (way.1 x));
    levels = h.levels;
    operators = h.operators;
  }
