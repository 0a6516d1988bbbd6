-- Words without a level that no letter uses.
use Rattle.std.proofs.Common.{◌≡◌, ℕ, zero, suc, ◌<◌, ◌≤◌, ◌⊎◌, inl, inr, List, [], ◌∷◌, length, map, take, refl, sym, ap, ◌∙◌, subst, arith}
use Rattle.std.proofs.lemmas.Bool.{cases_lt}
use Rattle.std.proofs.lemmas.List.{length-map}
use Rattle.std.proofs.lemmas.List.Elements.{All-head, All-tail, All-cons, All-nil, All-map, All-weaker}
use Rattle.std.specs.Bool.{IsTrue}
use Rattle.std.specs.List.{All, remove}
use Rattle.lois_base.specs.Atom.{Atom, whole}
use Rattle.lois_base.specs.Data.{TermD, depth, terms_of}
use Rattle.lois_base.specs.Fits.{Fits}
use Rattle.lois_base.specs.Normal.{OccursInPart}
use Rattle.lois_base.specs.Patterns.{AreAlike}
use Rattle.lois_base.specs.Rename.{rename, rename_parts}
use Rattle.lois_base.specs.Truth.{holds, sampled}
use Rattle.lois_base.specs.Validity.{AdmitsTerm, HasBoundedWidths, IsStrictTerm}
use Rattle.lois_base.specs.declared.guards.Lit.{Lit}
use Rattle.lois_base.proofs.RenamedForm.{admits_renamed, depth_renamed, widths_renamed}
use Rattle.lois_base.proofs.Lists.{parts_renamed}
use Rattle.lois_meaning.specs.Automata.{Automaton, Accepts}
use Rattle.lois_meaning.specs.Kinds.{AreSame}
use Rattle.lois_meaning.proofs.Alike.{are_same_refl, are_same_trans}
use Rattle.lois_shortest_word.specs.Shortened.{lowered, IsWithoutLevel, IsShortenedWord, IsShortenedEverywhere}
use Rattle.lois_shortest_word.specs.Walks.{HaveAtLeast, IsWordOf}
use Rattle.lois_shortest_word.specs.Words.{values_at, first_sampled, AreUsedBetween}
use Rattle.lois_shortest_word.specs.declared.words.Word.{Word}
use Rattle.lois_shortest_word.proofs.Lowered.{lowered_above, length_removed, same_lowered, fits_lowered, part_renamed}
use Rattle.lois_shortest_word.proofs.PutBack.{put_back}
use Rattle.lois_shortest_word.proofs.Readings.{accepts_alike}
use Rattle.lois_shortest_word.proofs.RenamedStrict.{strict_renamed}

first_left : {X : Type 0} (s : List X) (n gone : ℕ) → n ≤ gone → gone < length s → take n (remove s gone) ≡ take n s
first_left [] n gone l below = absurd (omega arith)
first_left (x ∷ s) zero gone l below = refl
first_left (x ∷ s) (suc n) zero l below = absurd (omega arith)
first_left (x ∷ s) (suc n) (suc gone) l below = ap (λ z. x ∷ z) (first_left s n gone (omega arith) (omega arith))

sampled_left : (s : List ℕ) (gone : ℕ) → sampled (remove s gone) ≡ remove (sampled s) gone
sampled_left [] zero = refl
sampled_left [] (suc gone) = refl
sampled_left (x ∷ s) zero = refl
sampled_left (x ∷ s) (suc gone) = ap (λ z. whole x ∷ z) (sampled_left s gone)

-- ---- letters without a level in which it doesn't stand
module _ (s : List Atom) (gone : ℕ) (below : gone < length s) where
  values_left : (ts : List TermD) → (OccursInPart gone (terms_of ts) → ⊥) → AreSame (values_at s ts) (values_at (remove s gone) (map (rename (lowered gone)) ts))
  values_left [] unused = tt
  values_left (t ∷ ts) unused =
      (same_lowered gone t (λ o. unused (inl o)) s below, values_left ts (λ o. unused (inr o)))

-- the same of what fits
module _ (s : List ℕ) (gone : ℕ) (below : gone < length s) where
  fits_left : (ts : List TermD) → (OccursInPart gone (terms_of ts) → ⊥) → All (Fits (length s)) ts → All (Fits (length (remove s gone))) (map (rename (lowered gone)) ts)
  fits_left [] unused h = All-nil (Fits (length (remove s gone)))
  fits_left (t ∷ ts) unused h =
      All-cons (Fits (length (remove s gone))) (rename (lowered gone) t) (map (rename (lowered gone)) ts)
      (fits_lowered gone t (λ o. unused (inl o)) s below (All-head (Fits (length s)) t ts h))
      (fits_left ts (λ o. unused (inr o)) (All-tail (Fits (length s)) t ts h))

depths_lowered : (gone : ℕ) (ts : List TermD) → map depth (map (rename (lowered gone)) ts) ≡ map depth ts
depths_lowered gone [] = refl
depths_lowered gone (t ∷ ts) = rw (depth_renamed (lowered gone) t, depths_lowered gone ts) refl

-- ---- from word to word
pub shortened_none : (n : ℕ) (w : Word) → n ≤ length w.sample → All (Fits (length w.sample)) w.letters → IsShortenedWord n w w
shortened_none n w count levels = record {
  count = count;
  first = refl;
  levels = levels;
  values = are_same_refl (values_at (sampled w.sample) w.letters);
  depths = refl;
  operators = λ o h. h;
  widths = λ h. h;
  strict = λ h. h;
}

pub everywhere_none : (n : ℕ) (w : Word) → IsShortenedEverywhere n w w
everywhere_none n w = λ o d alike. (d, alike, refl, are_same_refl (values_at d w.letters))

module _ (n gone : ℕ) (w v r : Word) (from : n ≤ gone) (below : gone < length v.sample) (unused : OccursInPart gone (terms_of v.letters) → ⊥) (is : IsWithoutLevel gone v r) where
  numbers : sampled r.sample ≡ remove (sampled v.sample) gone
  numbers = ap sampled is.sample ∙ sampled_left v.sample gone

  deep : gone < length (sampled v.sample)
  deep = omega (arith, below, length-map v.sample whole)

  left : (e d : List Atom) → gone < length e → remove e gone ≡ d → AreSame (values_at e v.letters) (values_at d r.letters)
  left e d within is_rest =
      subst (λ z. AreSame (values_at e v.letters) (values_at z r.letters)) is_rest
      (subst (λ z. AreSame (values_at e v.letters) (values_at (remove e gone) z)) (sym is.letters) (values_left e gone within v.letters unused))

  pub shortened_more : IsShortenedWord n w v → IsShortenedWord n w r
  shortened_more was = record {
    count = omega (arith, count);
    first = ap sampled (ap (take n) is.sample ∙ first_left v.sample n gone from below) ∙ was.first;
    levels = subst (λ z. All (Fits (length z)) r.letters) (sym is.sample) (subst (All (Fits (length (remove v.sample gone)))) (sym is.letters) (fits_left v.sample gone below v.letters unused was.levels));
    values = are_same_trans (values_at (sampled w.sample) w.letters) (values_at (sampled v.sample) v.letters) (values_at (sampled r.sample) r.letters) was.values (left (sampled v.sample) (sampled r.sample) deep (sym numbers));
    depths = ap (map depth) is.letters ∙ (depths_lowered gone v.letters ∙ was.depths);
    operators = λ o h. subst (All (AdmitsTerm o)) (sym is.letters) (All-map (AdmitsTerm o) (rename (lowered gone)) v.letters (All-weaker (AdmitsTerm o) (λ t. AdmitsTerm o (rename (lowered gone) t)) (λ t a. admits_renamed (lowered gone) o t a) v.letters (was.operators o h)));
    widths = λ h. subst (All HasBoundedWidths) (sym is.letters) (All-map HasBoundedWidths (rename (lowered gone)) v.letters (All-weaker HasBoundedWidths (λ t. HasBoundedWidths (rename (lowered gone) t)) (λ t a. widths_renamed (lowered gone) t a) v.letters (was.widths h)));
    strict = λ h. subst (All IsStrictTerm) (sym is.letters) (All-map IsStrictTerm (rename (lowered gone)) v.letters (All-weaker IsStrictTerm (λ t. IsStrictTerm (rename (lowered gone) t)) (λ t a. strict_renamed (lowered gone) t a) v.letters (was.strict h)));
  }
    where
      count : suc (length r.sample) ≡ length v.sample
      count = ap (λ z. suc (length z)) is.sample ∙ length_removed v.sample gone below

  pub everywhere_more : IsShortenedEverywhere n w v → IsShortenedEverywhere n w r
  everywhere_more was o d alike =
      let (e, own, is_rest) = put_back o (sampled v.sample) d gone deep (subst (λ z. AreAlike o z d) numbers alike) in
      let (c, before, first, same) = was o e own in
      let within : gone < length e = omega (arith, own.count, deep) in
      let start : take n e ≡ take n d = sym (first_left e n gone from within) ∙ ap (take n) is_rest in
      (c, before, first ∙ start, are_same_trans (values_at c w.letters) (values_at e v.letters) (values_at d r.letters) same (left e d within is_rest))

  -- the levels behind the one that is gone are used as before
  pub used_more : AreUsedBetween (suc gone) (length v.sample) v.letters → AreUsedBetween gone (length r.sample) r.letters
  used_more was i least most =
      let count : suc (length r.sample) ≡ length v.sample = ap (λ z. suc (length z)) is.sample ∙ length_removed v.sample gone below in
      let old : OccursInPart (suc i) (terms_of v.letters) = was (suc i) (omega arith) (omega (arith, count)) in
      let name : lowered gone (suc i) ≡ i = lowered_above gone (suc i) (omega arith) ∙ omega arith in
      subst (λ z. OccursInPart i (terms_of z)) (sym is.letters)
      (subst (OccursInPart i) (sym (parts_renamed (lowered gone) v.letters))
      (subst (λ z. OccursInPart z (rename_parts (lowered gone) (terms_of v.letters))) name (part_renamed (lowered gone) (suc i) (terms_of v.letters) old)))

pub used_here : (level : ℕ) (w : Word) → OccursInPart level (terms_of w.letters) → AreUsedBetween (suc level) (length w.sample) w.letters → AreUsedBetween level (length w.sample) w.letters
used_here level w here was i least most = go (cases_lt level i)
  where
    go : level < i ⊎ i ≤ level → OccursInPart i (terms_of w.letters)
    go (inl l) = was i (omega arith) most
    go (inr l) = subst (λ z. OccursInPart z (terms_of w.letters)) (omega arith) here

-- the word stays one that is accepted, and none is shorter
pub word_shortened : (n : ℕ) (u : List (List Lit)) (m : List Atom → Automaton) (w r : Word) → IsWordOf n u m w → IsShortenedWord n w r → IsWordOf n u m r
word_shortened n u m w r is short = record {
  count = short.count;
  admitted = subst (λ z. IsTrue (holds z u)) (sym short.first) is.admitted;
  levels = short.levels;
  accepted = subst (λ z. Accepts (m z) (values_at (sampled r.sample) r.letters)) (sym short.first)
      (accepts_alike (m (first_sampled n w.sample)) (values_at (sampled w.sample) w.letters) (values_at (sampled r.sample) r.letters) short.values is.accepted);
  shortest = subst (HaveAtLeast n u m) (sym (sym (length-map r.letters depth) ∙ (ap length short.depths ∙ length-map w.letters depth))) is.shortest;
}
