-- Two blocks of levels behind others, in either order.
use Rattle.std.proofs.Common.{◌≡◌, ℕ, Bool, ◌+◌, ◌<◌, ◌≤◌, ◌↔◌, List, ◌++◌, length, length-append, take, drop, sym, ap, ◌∙◌, subst, arith}
use Rattle.std.proofs.lemmas.List.{map-append, append_assoc, length-take-le, length-drop, take-append-drop}
use Rattle.std.proofs.lemmas.List.Elements.{All-append, All-weaker}
use Rattle.std.specs.Bool.{IsTrue}
use Rattle.lois_base.specs.Atom.{Atom}
use Rattle.lois_base.specs.Data.{TermD, comp}
use Rattle.lois_base.specs.FormulaData.{FormulaD}
use Rattle.lois_base.specs.FormulaTruth.{FormulaHolds}
use Rattle.lois_base.specs.Truth.{atom_at, holds}
use Rattle.lois_base.specs.Validity.{AdmitsConstraint, AdmitsTerm, AdmitsComp}
use Rattle.lois_base.specs.FormulaOperators.{AdmitsFormula}
use Rattle.lois_base.specs.Values.{SameAt}
use Rattle.lois_base.specs.declared.guards.Lit.{Lit}
use Rattle.lois_base.proofs.Same.{same_at_sym}
use Rattle.lois_elim.specs.Bound.{AgreesWith}
use Rattle.lois_relate.specs.Built.{Defines, IsBoth}
use Rattle.lois_relate.specs.Compared.{IsEquivalentFormula, IsLevelSwap, DefinesPaired, turned_names}
use Rattle.lois_relate.specs.Named.{atoms_named, AreBelow, level_range}
use Rattle.lois_relate.proofs.Names.{chosen_levels, chosen_longer, chosen_entered, chosen_own, levels_below, own_below, below_more, below_entered, length-levels_from}

-- ---- the names
module _ (n m k : ℕ) where
  pub length_turned : length (turned_names n m k) ≡ (n + m) + k
  length_turned =
      omega (arith, length-append (level_range 0 n ++ level_range (n + k) m) (level_range n k), length-append (level_range 0 n) (level_range (n + k) m), length-levels_from n 0, length-levels_from m (n + k), length-levels_from k n)

  below_both : (j : ℕ) (names : List ℕ) → j ≤ (n + k) + m → AreBelow j names → AreBelow ((n + k) + m) names
  below_both j names l h = All-weaker (λ i. i < j) (λ i. i < (n + k) + m) (λ i p. omega arith) names h

  pub turned_below : AreBelow ((n + k) + m) (turned_names n m k)
  turned_below =
      All-append (λ i. i < (n + k) + m) (level_range 0 n ++ level_range (n + k) m) (level_range n k) (All-append (λ i. i < (n + k) + m) (level_range 0 n) (level_range (n + k) m) (below_both n (level_range 0 n) (omega arith) (own_below n)) (levels_below m (n + k))) (below_both (n + k) (level_range n k) (omega arith) (levels_below k n))

  module _ (c d e : List Atom) (cn : length c ≡ n) (dm : length d ≡ m) (ek : length e ≡ k) where
    long : length (c ++ e) ≡ n + k
    long = omega (arith, length-append c e)

    first : atoms_named (level_range 0 n) (c ++ e ++ d) ≡ c
    first =
        let below : AreBelow (n + k) (level_range 0 n) = below_more n k (level_range 0 n) (own_below n) in
        chosen_longer (level_range 0 n) (c ++ e) d (subst (λ j. AreBelow j (level_range 0 n)) (sym long) below) ∙ chosen_longer (level_range 0 n) c e (subst (λ j. AreBelow j (level_range 0 n)) (sym cn) (own_below n)) ∙ chosen_own n c cn

    second : atoms_named (level_range (n + k) m) (c ++ e ++ d) ≡ d
    second = subst (λ j. atoms_named (level_range j m) (c ++ e ++ d) ≡ d) long (chosen_levels m (c ++ e) d dm)

    third : atoms_named (level_range n k) (c ++ e ++ d) ≡ e
    third =
        let below : AreBelow (length (c ++ e)) (level_range n k) = subst (λ j. AreBelow j (level_range n k)) (sym long) (levels_below k n) in
        chosen_longer (level_range n k) (c ++ e) d below ∙ subst (λ j. atoms_named (level_range j k) (c ++ e) ≡ e) cn (chosen_levels k c e ek)

    pub chosen_turned : atoms_named (turned_names n m k) (c ++ e ++ d) ≡ c ++ d ++ e
    chosen_turned =
        let at : ℕ → Atom = λ i. atom_at (c ++ e ++ d) i in
        let two : atoms_named (level_range 0 n ++ level_range (n + k) m) (c ++ e ++ d) ≡ c ++ d = map-append at (level_range 0 n) (level_range (n + k) m) ∙ ap (λ z. z ++ atoms_named (level_range (n + k) m) (c ++ e ++ d)) first ∙ ap (λ z. c ++ z) second in
        map-append at (level_range 0 n ++ level_range (n + k) m) (level_range n k) ∙ ap (λ z. z ++ atoms_named (level_range n k) (c ++ e ++ d)) two ∙ ap (λ z. (c ++ d) ++ z) third

-- ---- a constraint that stands for a formula, under other names
module _ (n : ℕ) (f r : FormulaD) (g : List (List Lit)) (agrees : AgreesWith n f g) (operators : (o : Bool) → AdmitsFormula o f → AdmitsConstraint o g) where
  pub stays : (names : List ℕ) → names ≡ level_range 0 n → ((j : ℕ) → AreBelow j names → Defines j (λ c. IsTrue (holds (atoms_named names c) g)) (λ o. AdmitsConstraint o g) r) → IsEquivalentFormula n f r
  stays names is says =
      let here = says n (subst (AreBelow n) (sym is) (own_below n)) in
      record {
        truth = λ c l.
            let own : atoms_named names c ≡ c = subst (λ z. atoms_named z c ≡ c) (sym is) (chosen_own n c l) in (
              λ h. (agrees c l).0 (subst (λ z. IsTrue (holds z g)) own ((here.truth c l).0 h)),
              λ h. (here.truth c l).1 (subst (λ z. IsTrue (holds z g)) (sym own) ((agrees c l).1 h)),
            );
        levels = here.levels;
        operators = λ o h. here.operators o (operators o h);
      }

module _ (n m k : ℕ) (f r : FormulaD) (g : List (List Lit)) (agrees : AgreesWith ((n + m) + k) f g) (operators : (o : Bool) → AdmitsFormula o f → AdmitsConstraint o g) where
  pub turns : (names : List ℕ) → names ≡ turned_names n m k → ((j : ℕ) → AreBelow j names → Defines j (λ c. IsTrue (holds (atoms_named names c) g)) (λ o. AdmitsConstraint o g) r) → IsLevelSwap n m k f r
  turns names is says =
      let here = says ((n + k) + m) (subst (AreBelow ((n + k) + m)) (sym is) (turned_below n m k)) in
      record {
        truth = λ c d e cn dm ek.
            let new : length (c ++ e ++ d) ≡ (n + k) + m = omega (arith, length-append (c ++ e) d, length-append c e) in
            let old : length (c ++ d ++ e) ≡ (n + m) + k = omega (arith, length-append (c ++ d) e, length-append c d) in
            let is_turned : atoms_named names (c ++ e ++ d) ≡ c ++ d ++ e = subst (λ z. atoms_named z (c ++ e ++ d) ≡ c ++ d ++ e) (sym is) (chosen_turned n m k c d e cn dm ek) in (
              λ h. (agrees (c ++ d ++ e) old).0 (subst (λ z. IsTrue (holds z g)) is_turned ((here.truth (c ++ e ++ d) new).0 h)),
              λ h. (here.truth (c ++ e ++ d) new).1 (subst (λ z. IsTrue (holds z g)) (sym is_turned) ((agrees (c ++ d ++ e) old).1 h)),
            );
        levels = here.levels;
        operators = λ o h. here.operators o (operators o h);
      }

-- ---- pairs of comprehensions
-- c, and behind it the atoms of two blocks: the names of what has its binders first, and of what has them last
module _ (n : ℕ) (names : List ℕ) (below : AreBelow n names) (c : List Atom) (cn : length c ≡ n) where
  longer : (j : ℕ) (own : List ℕ) (x y : List Atom) → length x ≡ j → AreBelow j own → atoms_named own (x ++ y) ≡ atoms_named own x
  longer j own x y l h = chosen_longer own x y (subst (λ i. AreBelow i own) (sym l) h)

  early : (b : ℕ) (x y : List Atom) → length x ≡ b → atoms_named (names ++ level_range n b) (c ++ x ++ y) ≡ atoms_named names c ++ x
  early b x y l =
      let size : length (c ++ x) ≡ n + b = omega (arith, length-append c x) in
      longer (n + b) (names ++ level_range n b) (c ++ x) y size (below_entered n b names below) ∙ chosen_entered names n b c x cn l below

  late : (a b : ℕ) (x y : List Atom) → length x ≡ a → length y ≡ b → atoms_named (names ++ level_range (n + a) b) (c ++ x ++ y) ≡ atoms_named names c ++ y
  late a b x y l p =
      let size : length (c ++ x) ≡ n + a = omega (arith, length-append c x) in
      chosen_entered names (n + a) b (c ++ x) y size p (below_more n a names below) ∙ ap (λ z. z ++ y) (longer n names c x cn below)

module _ (n : ℕ) (sn tn : List ℕ) (sn_below : AreBelow n sn) (tn_below : AreBelow n tn) (k m : ℕ) (h g : List (List Lit)) (s t : TermD) (f r : FormulaD) (says : DefinesPaired n sn (comp k h s) tn (comp m g t) f) where
  pub pair_stays : IsEquivalentFormula ((n + k) + m) f r → DefinesPaired n sn (comp k h s) tn (comp m g t) r
  pair_stays equivalent = record {
    truth = λ c l. (
      λ p. (says.truth c l).0 ((equivalent.truth c l).0 p),
      λ p. (equivalent.truth c l).1 ((says.truth c l).1 p),
    );
    levels = equivalent.levels;
    operators = λ o p. equivalent.operators o (says.operators o p);
  }

  module _ (turned : IsLevelSwap n k m f r) (c d e : List Atom) (cn : length c ≡ n) (dk : length d ≡ k) (em : length e ≡ m) where
    old_length : length (c ++ d ++ e) ≡ (n + k) + m
    old_length = omega (arith, length-append (c ++ d) e, length-append c d)

    old_s : atoms_named (sn ++ level_range n k) (c ++ d ++ e) ≡ atoms_named sn c ++ d
    old_s = early n sn sn_below c cn k d e dk

    old_t : atoms_named (tn ++ level_range (n + k) m) (c ++ d ++ e) ≡ atoms_named tn c ++ e
    old_t = late n tn tn_below c cn k m d e dk em

    new_t : atoms_named (tn ++ level_range n m) (c ++ e ++ d) ≡ atoms_named tn c ++ e
    new_t = early n tn tn_below c cn m e d em

    new_s : atoms_named (sn ++ level_range (n + m) k) (c ++ e ++ d) ≡ atoms_named sn c ++ d
    new_s = late n sn sn_below c cn m k e d em dk

    abbrev Old : List Atom → List Atom → Type 0
    Old x y = IsTrue (holds x h) × IsTrue (holds y g) × SameAt t y s x

    abbrev New : List Atom → List Atom → Type 0
    New y x = IsTrue (holds y g) × IsTrue (holds x h) × SameAt s x t y

    turn_there : FormulaHolds (c ++ e ++ d) r → New (atoms_named (tn ++ level_range n m) (c ++ e ++ d)) (atoms_named (sn ++ level_range (n + m) k) (c ++ e ++ d))
    turn_there p =
        let q : Old (atoms_named (sn ++ level_range n k) (c ++ d ++ e)) (atoms_named (tn ++ level_range (n + k) m) (c ++ d ++ e)) = (says.truth (c ++ d ++ e) old_length).0 ((turned.truth c d e cn dk em).0 p) in
        let u : Old (atoms_named sn c ++ d) (atoms_named tn c ++ e) = subst (λ z. Old (atoms_named sn c ++ d) z) old_t (subst (λ z. Old z (atoms_named (tn ++ level_range (n + k) m) (c ++ d ++ e))) old_s q) in
        let v : New (atoms_named tn c ++ e) (atoms_named sn c ++ d) = (u.1, u.0, same_at_sym t (atoms_named tn c ++ e) s (atoms_named sn c ++ d) u.2) in
        subst (λ z. New z (atoms_named (sn ++ level_range (n + m) k) (c ++ e ++ d))) (sym new_t) (subst (λ z. New (atoms_named tn c ++ e) z) (sym new_s) v)

    turn_back : New (atoms_named (tn ++ level_range n m) (c ++ e ++ d)) (atoms_named (sn ++ level_range (n + m) k) (c ++ e ++ d)) → FormulaHolds (c ++ e ++ d) r
    turn_back q =
        let v : New (atoms_named tn c ++ e) (atoms_named sn c ++ d) = subst (λ z. New (atoms_named tn c ++ e) z) new_s (subst (λ z. New z (atoms_named (sn ++ level_range (n + m) k) (c ++ e ++ d))) new_t q) in
        let u : Old (atoms_named sn c ++ d) (atoms_named tn c ++ e) = (v.1, v.0, same_at_sym s (atoms_named sn c ++ d) t (atoms_named tn c ++ e) v.2) in
        let p : Old (atoms_named (sn ++ level_range n k) (c ++ d ++ e)) (atoms_named (tn ++ level_range (n + k) m) (c ++ d ++ e)) = subst (λ z. Old z (atoms_named (tn ++ level_range (n + k) m) (c ++ d ++ e))) (sym old_s) (subst (λ z. Old (atoms_named sn c ++ d) z) (sym old_t) u) in
        (turned.truth c d e cn dk em).1 ((says.truth (c ++ d ++ e) old_length).1 p)

  -- the same pair, seen from the other comprehension
  pub pair_turns : IsLevelSwap n k m f r → DefinesPaired n tn (comp m g t) sn (comp k h s) r
  pair_turns turned = record {
    truth = λ x l.
        let rest : List Atom = drop n x in
        let first : length (take n x) ≡ n = length-take-le n x (omega arith) in
        let rest_length : length rest ≡ m + k = omega (arith, length-drop n x) in
        let second : length (take m rest) ≡ m = length-take-le m rest (omega arith) in
        let third : length (drop m rest) ≡ k = omega (arith, length-drop m rest) in
        let whole_is : take n x ++ take m rest ++ drop m rest ≡ x = append_assoc (take n x) (take m rest) (drop m rest) ∙ ap (λ z. take n x ++ z) (take-append-drop m rest) ∙ take-append-drop n x in
        subst (λ z. FormulaHolds z r ↔ (IsTrue (holds (atoms_named (tn ++ level_range n m) z) g) × IsTrue (holds (atoms_named (sn ++ level_range (n + m) k) z) h) × SameAt s (atoms_named (sn ++ level_range (n + m) k) z) t (atoms_named (tn ++ level_range n m) z))) whole_is (
          turn_there turned (take n x) (drop m rest) (take m rest) first third second,
          turn_back turned (take n x) (drop m rest) (take m rest) first third second,
        );
    levels = turned.levels;
    operators = λ o p. turned.operators o (says.operators o (p.1, p.0));
  }

-- from the formulas of both guards and of the items
module _ (n k m inner whole : ℕ) (sum : inner ≡ n + k) (total : whole ≡ inner + m) (sn tn left right : List ℕ) (left_is : left ≡ sn ++ level_range n k) (right_is : right ≡ tn ++ level_range inner m) (h g : List (List Lit)) (s t : TermD) (i j b e p : FormulaD) where
  pub pair_says : Defines whole (λ c. IsTrue (holds (atoms_named left c) h)) (λ o. AdmitsConstraint o h) i → Defines whole (λ c. IsTrue (holds (atoms_named right c) g)) (λ o. AdmitsConstraint o g) j → IsBoth i j b → Defines whole (λ c. SameAt t (atoms_named right c) s (atoms_named left c)) (λ o. AdmitsTerm o t × AdmitsTerm o s) e → IsBoth b e p → DefinesPaired n sn (comp k h s) tn (comp m g t) p
  pair_says guard other both same whole_both =
      let size : whole ≡ (n + k) + m = omega arith in
      let names : right ≡ tn ++ level_range (n + k) m = subst (λ q. right ≡ tn ++ level_range q m) sum right_is in
      subst (λ q. At q (sn ++ level_range n k) (tn ++ level_range (n + k) m)) size (subst (λ z. At whole (sn ++ level_range n k) z) names (subst (λ z. At whole z right) left_is (record {
        truth = λ c l. (
          λ x. let y = (whole_both.truth c).0 x in
              let z = (both.truth c).0 y.0 in ((guard.truth c l).0 z.0, (other.truth c l).0 z.1, (same.truth c l).0 y.1),
          λ x. (whole_both.truth c).1 ((both.truth c).1 ((guard.truth c l).1 x.0, (other.truth c l).1 x.1), (same.truth c l).1 x.2),
        );
        levels = whole_both.levels whole (both.levels whole guard.levels other.levels) same.levels;
        operators = λ o x. whole_both.operators o (both.operators o (guard.operators o x.0.0) (other.operators o x.1.0)) (same.operators o (x.1.1, x.0.1));
      })))
    where
      At : ℕ → List ℕ → List ℕ → Type 0
      At q x y = Defines q (λ c. IsTrue (holds (atoms_named x c) h) × IsTrue (holds (atoms_named y c) g) × SameAt t (atoms_named y c) s (atoms_named x c)) (λ o. AdmitsComp o (comp k h s) × AdmitsComp o (comp m g t)) p
