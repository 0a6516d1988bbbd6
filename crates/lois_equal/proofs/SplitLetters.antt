-- Words whose letters are split, letter by letter.
use Rattle.std.proofs.Common.{◌≡◌, ℕ, ◌+◌, ◌<◌, ◌≤◌, List, [], ◌∷◌, ◌++◌, length, get_or, take, map, Option, Some, None, refl, sym, ◌∙◌, ap, subst}
use Rattle.std.proofs.lemmas.List.{length-map, map-append, take_more}
use Rattle.std.proofs.lemmas.List.Elements.{All-nil, All-cons, All-head, All-tail}
use Rattle.std.specs.Bool.{IsTrue}
use Rattle.std.specs.List.{All, AllZip}
use Rattle.std.specs.Prelude.{IfSome, IsNone}
use Rattle.lois_base.specs.Atom.{Atom}
use Rattle.lois_base.specs.Data.{TermD, depth}
use Rattle.lois_base.specs.Fits.{Fits}
use Rattle.lois_base.specs.Tree.{tree}
use Rattle.lois_base.specs.Truth.{holds, sampled}
use Rattle.lois_base.specs.Validity.{AdmitsTerm, HasBoundedWidths, IsStrictTerm}
use Rattle.lois_base.specs.declared.guards.Lit.{Lit}
use Rattle.lois_base.specs.declared.values.Term.{Term}
use Rattle.lois_base.proofs.Lists.{zip_push}
use Rattle.lois_meaning.specs.Kinds.{AreSame}
use Rattle.lois_meaning.proofs.Alike.{are_same_sym, are_same_trans}
use Rattle.lois_shortest_word.specs.Shortened.{IsShortenedWord}
use Rattle.lois_shortest_word.specs.Words.{AcceptsAt, values_at, first_sampled, AreUsedBetween}
use Rattle.lois_shortest_word.specs.declared.words.Word.{Word}
use Rattle.lois_shortest_word.proofs.Readings.{accepts_alike}
use Rattle.lois_equal.specs.Differences.{IsShortestDifference}
use Rattle.lois_equal.specs.SplitWords.{IsSplitWord, IsSplitOrNone, MaySplit, IsSplitLetter}

-- ---- letters
values_split : (c : List Atom) (ts ss : List TermD) → AllZip IsSplitLetter ts ss → AreSame (values_at c ts) (values_at c ss)
values_split c [] [] h = tt
values_split c [] (s ∷ ss) h = absurd h
values_split c (t ∷ ts) [] h = absurd h
values_split c (t ∷ ts) (s ∷ ss) h = (h.0.value c, values_split c ts ss h.1)

depths_split : (ts ss : List TermD) → AllZip IsSplitLetter ts ss → map depth ss ≡ map depth ts
depths_split [] [] h = refl
depths_split [] (s ∷ ss) h = absurd h
depths_split (t ∷ ts) [] h = absurd h
depths_split (t ∷ ts) (s ∷ ss) h =
    ap (λ n. n ∷ map depth ss) h.0.depths ∙ ap (λ ns. depth t ∷ ns) (depths_split ts ss h.1)

-- one more of those that were read
pub letters_read : (i : ℕ) (ts : List Term) (ss rs : List TermD) (x y : Term) → i < length ts → x ≡ get_or ts i x → rs ≡ ss ++ tree y ∷ [] → AllZip IsSplitLetter (map tree (take i ts)) ss → IsSplitLetter (tree x) (tree y) → AllZip IsSplitLetter (map tree (take (i + 1) ts)) rs
letters_read i ts ss rs x y b is grown h g =
    let seen : List TermD = map tree (take i ts) in
    let read : map tree (take (i + 1) ts) ≡ seen ++ tree x ∷ [] = ap (map tree) (take_more ts i x b) ∙ (map-append tree (take i ts) (get_or ts i x ∷ []) ∙ ap (λ (z : Term). seen ++ tree z ∷ []) (sym is)) in
    subst (λ (zs : List TermD). AllZip IsSplitLetter zs rs) (sym read) (subst (λ (zs : List TermD). AllZip IsSplitLetter (seen ++ tree x ∷ []) zs) (sym grown) (zip_push IsSplitLetter seen ss (tree x) (tree y) h g))

-- what each split letter has if the letter had something
all_split : (P Q : TermD → Type 0) → ((t s : TermD) → IsSplitLetter t s → P t → Q s) → (ts ss : List TermD) → AllZip IsSplitLetter ts ss → All P ts → All Q ss
all_split P Q each [] [] h all = All-nil Q
all_split P Q each [] (s ∷ ss) h all = absurd h
all_split P Q each (t ∷ ts) [] h all = absurd h
all_split P Q each (t ∷ ts) (s ∷ ss) h all =
    All-cons Q s ss (each t s h.0 (All-head P t ts all)) (all_split P Q each ts ss h.1 (All-tail P t ts all))

all_strict : (ts ss : List TermD) → AllZip IsSplitLetter ts ss → All IsStrictTerm ss
all_strict [] [] h = All-nil IsStrictTerm
all_strict [] (s ∷ ss) h = absurd h
all_strict (t ∷ ts) [] h = absurd h
all_strict (t ∷ ts) (s ∷ ss) h = All-cons IsStrictTerm s ss h.0.strict (all_strict ts ss h.1)

-- ---- words
-- the split word is made shorter
module _ (n : ℕ) (w v r : Word) (sample : v.sample ≡ w.sample) (letters : AllZip IsSplitLetter w.letters v.letters) where
  pub word_split : IsShortenedWord n v r → AreUsedBetween n (length r.sample) r.letters → IsSplitWord n w r
  word_split short used = record {
    short = record {
      count = short.count;
      first = short.first ∙ ap (first_sampled n) sample;
      levels = short.levels;
      values = are_same_trans (values_at (sampled w.sample) w.letters) (values_at (sampled v.sample) v.letters) (values_at (sampled r.sample) r.letters) (subst (λ (z : List ℕ). AreSame (values_at (sampled w.sample) w.letters) (values_at (sampled z) v.letters)) (sym sample) (values_split (sampled w.sample) w.letters v.letters letters)) short.values;
      depths = short.depths ∙ depths_split w.letters v.letters letters;
      operators = λ o h. short.operators o (all_split (AdmitsTerm o) (AdmitsTerm o) (λ t s is a. is.operators o a) w.letters v.letters letters h);
      widths = λ h. short.widths (all_split HasBoundedWidths HasBoundedWidths (λ t s is b. is.widths b) w.letters v.letters letters h);
      strict = λ _. short.strict (all_strict w.letters v.letters letters);
    };
    used = used;
    strict = short.strict (all_strict w.letters v.letters letters);
  }

  pub levels_split : All (Fits (length w.sample)) w.letters → All (Fits (length v.sample)) v.letters
  levels_split h = subst (λ (z : List ℕ). All (Fits (length z)) v.letters) (sym sample) (all_split (Fits (length w.sample)) (Fits (length w.sample)) (λ t s is f. is.levels (length w.sample) f) w.letters v.letters letters h)

-- a shorter word has as many letters
pub as_many : (n : ℕ) (w r : Word) → IsShortenedWord n w r → length r.letters ≡ length w.letters
as_many n w r short = sym (length-map r.letters depth) ∙ (ap length short.depths ∙ length-map w.letters depth)

-- it's accepted where the word is
pub accepted_split : (t : TermD) (n : ℕ) (w r : Word) → IsShortenedWord n w r → AcceptsAt t (first_sampled n w.sample) (values_at (sampled w.sample) w.letters) → AcceptsAt t (first_sampled n r.sample) (values_at (sampled r.sample) r.letters)
accepted_split t n w r short accepts =
    subst (λ (z : List Atom). AcceptsAt t z (values_at (sampled r.sample) r.letters)) (sym short.first) (accepts.0, accepts.1, accepts_alike accepts.0 (values_at (sampled w.sample) w.letters) (values_at (sampled r.sample) r.letters) short.values accepts.2)

refused_split : (t : TermD) (n : ℕ) (w r : Word) → IsShortenedWord n w r → (AcceptsAt t (first_sampled n w.sample) (values_at (sampled w.sample) w.letters) → ⊥) → AcceptsAt t (first_sampled n r.sample) (values_at (sampled r.sample) r.letters) → ⊥
refused_split t n w r short never accepts =
    let here : AcceptsAt t (first_sampled n w.sample) (values_at (sampled r.sample) r.letters) = subst (λ (z : List Atom). AcceptsAt t z (values_at (sampled r.sample) r.letters)) short.first accepts in
    never (here.0, here.1, accepts_alike here.0 (values_at (sampled r.sample) r.letters) (values_at (sampled w.sample) w.letters) (are_same_sym (values_at (sampled w.sample) w.letters) (values_at (sampled r.sample) r.letters) short.values) here.2)

module _ (n : ℕ) (u : List (List Lit)) (t s : TermD) where
  pub split_difference : (w r : Word) → IsShortestDifference n u t s w → IsSplitWord n w r → IsShortestDifference n u t s r
  split_difference w r is split = record {
    count = split.short.count;
    admitted = subst (λ (z : List Atom). IsTrue (holds z u)) (sym split.short.first) is.admitted;
    levels = split.short.levels;
    accepted = (accepted_split t n w r split.short is.accepted.0, refused_split s n w r split.short is.accepted.1);
    shortest = λ c l h word alone. subst (λ (k : ℕ). k ≤ length word) (sym (as_many n w r split.short)) (is.shortest c l h word alone);
    used = split.used;
  }

  pub may_split : (found : Option Word) → IfSome found (IsShortestDifference n u t s) → IfSome found (MaySplit n)
  may_split None h = tt
  may_split (Some w) h = (h.count, h.levels)

-- ---- a word that may be missing
pub split_none : (n : ℕ) (found o : Option Word) → IsSplitOrNone n found o → IsNone o → IsNone found
split_none n None None is none = refl
split_none n None (Some r) is none = absurd is
split_none n (Some w) None is none = absurd is
split_none n (Some w) (Some r) is none = none

pub split_some : (n : ℕ) (P Q : Word → Type 0) → ((w r : Word) → P w → IsSplitWord n w r → Q r) → (found o : Option Word) → IsSplitOrNone n found o → IfSome found P → IfSome o Q
split_some n P Q each None None is h = tt
split_some n P Q each None (Some r) is h = absurd is
split_some n P Q each (Some w) None is h = absurd is
split_some n P Q each (Some w) (Some r) is h = each w r h is
