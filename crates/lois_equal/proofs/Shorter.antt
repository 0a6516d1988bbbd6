-- The shorter one of two words, each of which one automaton alone accepts.
use Rattle.std.proofs.Common.{ℕ, suc, ◌≤◌, Bool, true, false, ◌⊎◌, inl, inr, ◌↔◌, List, length, Option, Some, None, refl, sym, subst, arith, true≢false}
use Rattle.std.specs.Prelude.{IfSome, IsNone}
use Rattle.lois_base.specs.Atom.{Atom}
use Rattle.lois_base.specs.Data.{TermD}
use Rattle.lois_base.specs.Truth.{sampled}
use Rattle.lois_base.specs.Values.{PointValue}
use Rattle.lois_base.specs.declared.guards.Lit.{Lit}
use Rattle.lois_automata.specs.Throughout.{HoldsThroughout}
use Rattle.lois_shortest_word.specs.Common.{AcceptBothAt, AcceptNoneInCommon, IsShortestCommonWord}
use Rattle.lois_shortest_word.specs.Words.{first_sampled, values_at}
use Rattle.lois_shortest_word.specs.declared.words.Word.{Word}
use Rattle.lois_shortest_word.proofs.Choices.{first_count}
use Rattle.lois_equal.specs.declared.differing.Difference.{Difference}
use Rattle.lois_equal.specs.declared.differing.Equality.{Equality}
use Rattle.lois_equal.specs.declared.differing.Equality.TheVariants.{Differs}
use Rattle.lois_equal.specs.Differing.{HaveSameLanguage, IsAcceptedByOne, IsDistinguishingWord}
use Rattle.lois_equal.specs.Differences.{IsSameAnswer, IfDiffers, IsLanguageIncluded, IsShortestDifference, IsShorterOf}
use Rattle.lois_equal.specs.Distinguishing.{AcceptsOnlyFirst, TellsApart, HasLetterAt}
use Rattle.lois_equal.proofs.Differences.{all_letters}

-- ---- of an automaton r that accepts, among the words of t, those that s doesn't accept
module _ (n : ℕ) (u : List (List Lit)) (t s r : TermD) (words : HoldsThroughout n u (λ c. (word : List PointValue) → AcceptBothAt t r c word ↔ AcceptsOnlyFirst t s c word)) where
  none_alone : AcceptNoneInCommon n u t r → IsLanguageIncluded n u t s
  none_alone none c l h word alone = none c l h word ((words c l h word).1 alone)

  alone_none : IsLanguageIncluded n u t s → AcceptNoneInCommon n u t r
  alone_none never c l h word both = never c l h word ((words c l h word).0 both)

  pub never_alone : (P : Type 0) → P ↔ AcceptNoneInCommon n u t r → P ↔ IsLanguageIncluded n u t s
  never_alone P is = (λ p. none_alone (is.0 p), λ h. is.1 (alone_none h))

  common_is_alone : (w : Word) → IsShortestCommonWord n u t r w → IsShortestDifference n u t s w
  common_is_alone w is = record {
    count = is.count;
    admitted = is.admitted;
    levels = is.levels;
    accepted = (words (first_sampled n w.sample) (first_count n w.sample is.count) is.admitted (values_at (sampled w.sample) w.letters)).0 is.accepted;
    shortest = λ c l h word alone. is.shortest c l h word ((words c l h word).1 alone);
    used = is.used;
  }

  pub some_alone : (o : Option Word) → IfSome o (IsShortestCommonWord n u t r) → IfSome o (IsShortestDifference n u t s)
  some_alone None is = tt
  some_alone (Some w) is = common_is_alone w is

module _ (n : ℕ) (u : List (List Lit)) (t s : TermD) where
  -- no word that t alone accepts is shorter than k letters
  abbrev HaveAtLeast : TermD → TermD → ℕ → Type 0
  HaveAtLeast t s k = HoldsThroughout n u (λ c. (word : List PointValue) → AcceptsOnlyFirst t s c word → k ≤ length word)

  left_difference : (w : Word) → IsShortestDifference n u t s w → HaveAtLeast s t (length w.letters) → IsDistinguishingWord n u t s (record { sample = w.sample; word = w.letters; left = true })
  left_difference w is bound = record {
    count = is.count;
    admitted = is.admitted;
    levels = is.levels;
    letters = all_letters t (first_sampled n w.sample) (λ l. HasLetterAt t (first_sampled n w.sample) l ⊎ HasLetterAt s (first_sampled n w.sample) l) (λ x h. inl h) (values_at (sampled w.sample) w.letters) is.accepted.0;
    apart = is.accepted;
    shortest = λ c l h word told. elim told [ inl p ↦ is.shortest c l h word p | inr p ↦ bound c l h word p ];
    preferred = λ second. absurd (true≢false second);
    used = is.used;
  }

  right_difference : (w : Word) → IsShortestDifference n u s t w → HaveAtLeast t s (suc (length w.letters)) → IsDistinguishingWord n u t s (record { sample = w.sample; word = w.letters; left = false })
  right_difference w is bound = record {
    count = is.count;
    admitted = is.admitted;
    levels = is.levels;
    letters = all_letters s (first_sampled n w.sample) (λ l. HasLetterAt t (first_sampled n w.sample) l ⊎ HasLetterAt s (first_sampled n w.sample) l) (λ x h. inr h) (values_at (sampled w.sample) w.letters) is.accepted.0;
    apart = is.accepted;
    shortest = λ c l h word told. elim told [ inl p ↦ omega (arith, bound c l h word p) | inr p ↦ is.shortest c l h word p ];
    preferred = λ second c l h word alone. bound c l h word alone;
    used = is.used;
  }

  told_of : (left : Bool) (c : List Atom) (word : List PointValue) → IsAcceptedByOne left t s c word → TellsApart t s c word
  told_of true c word h = inl h
  told_of false c word h = inr h

  -- what is promised of an answer
  abbrev pub IsFound : Equality → Type 0
  IsFound r = (IsSameAnswer r ↔ HaveSameLanguage n u t s) × IfDiffers (IsDistinguishingWord n u t s) r

  differs_found : (d : Difference) → IsDistinguishingWord n u t s d → IsFound (Differs d)
  differs_found d is = (
    (λ h. absurd h, λ never. never (first_sampled n d.sample) (first_count n d.sample is.count) is.admitted (values_at (sampled d.sample) d.word) (told_of d.left (first_sampled n d.sample) (values_at (sampled d.sample) d.word) is.apart)),
    is,
  )

  never_bound : (a b : TermD) (k : ℕ) → IsLanguageIncluded n u a b → HaveAtLeast a b k
  never_bound a b k never c l h word alone = absurd (never c l h word alone)

  longer_bound : (a b : TermD) (w : Word) (k : ℕ) → k ≤ length w.letters → IsShortestDifference n u a b w → HaveAtLeast a b k
  longer_bound a b w k le is c l h word alone = omega (arith, le, is.shortest c l h word alone)

  pub shorter_found : (first second : Option Word) (r : Equality) → (IsNone first → IsLanguageIncluded n u t s) → IfSome first (IsShortestDifference n u t s) → (IsNone second → IsLanguageIncluded n u s t) → IfSome second (IsShortestDifference n u s t) → IsShorterOf first second r → IsFound r
  shorter_found None None r none some none' some' is =
      subst (λ z. IsFound z) (sym is) (
        (λ h. λ c l h word told. elim told [ inl p ↦ none refl c l h word p | inr p ↦ none' refl c l h word p ], λ h. tt),
        tt,
      )
  shorter_found (Some w) None r none some none' some' is =
      subst (λ z. IsFound z) (sym is) (differs_found (record { sample = w.sample; word = w.letters; left = true }) (left_difference w some (never_bound s t (length w.letters) (none' refl))))
  shorter_found None (Some w) r none some none' some' is =
      subst (λ z. IsFound z) (sym is) (differs_found (record { sample = w.sample; word = w.letters; left = false }) (right_difference w some' (never_bound t s (suc (length w.letters)) (none refl))))
  shorter_found (Some v) (Some w) r none some none' some' is = elim is [
    | inl h ↦ subst (λ z. IsFound z) (sym h.1) (differs_found (record { sample = v.sample; word = v.letters; left = true }) (left_difference v some (longer_bound s t w (length v.letters) h.0 some')))
    | inr h ↦ subst (λ z. IsFound z) (sym h.1) (differs_found (record { sample = w.sample; word = w.letters; left = false }) (right_difference w some' (longer_bound t s v (suc (length w.letters)) (omega (arith, h.0)) some)))
  ]

-- the word of a difference
abbrev pub word_of : Difference → Word
word_of d = record { sample = d.sample; letters = d.word }

-- what holds of both words holds of the shorter one
pub shorter_has : (P Q R : Word → Type 0) (first second : Option Word) (r : Equality) → IfSome first P → IfSome second Q → ((w : Word) → P w → R w) → ((w : Word) → Q w → R w) → IsShorterOf first second r → IfDiffers (λ d. R (word_of d)) r
shorter_has P Q R None None r p q one other is = subst (λ z. IfDiffers (λ d. R (word_of d)) z) (sym is) tt
shorter_has P Q R (Some w) None r p q one other is = subst (λ z. IfDiffers (λ d. R (word_of d)) z) (sym is) (one w p)
shorter_has P Q R None (Some w) r p q one other is = subst (λ z. IfDiffers (λ d. R (word_of d)) z) (sym is) (other w q)
shorter_has P Q R (Some v) (Some w) r p q one other is = elim is [
  | inl h ↦ subst (λ z. IfDiffers (λ d. R (word_of d)) z) (sym h.1) (one v p)
  | inr h ↦ subst (λ z. IfDiffers (λ d. R (word_of d)) z) (sym h.1) (other w q)
]

-- what holds of a word's letters, where it says more
pub some_has : (P Q : List TermD → Type 0) → ((ts : List TermD) → P ts → Q ts) → (o : Option Word) → IfSome o (λ w. P w.letters) → IfSome o (λ w. Q w.letters)
some_has P Q one None h = h
some_has P Q one (Some w) h = one w.letters h
