-- Lines of two cases, one by one.
use Rattle.std.proofs.Common.{◌≡◌, ℕ, zero, suc, ◌+◌, ◌<◌, ◌≤◌, List, [], ◌∷◌, ◌++◌, length, map, take, drop, get_or, refl, sym, ap, subst, ◌∙◌, arith, inl, inr}
use Rattle.std.specs.Prelude.{IsTrue, ◌⊎◌, Option, Some, None, IfSome, IsNone, Result, Ok, Err, IfOk, slice_get}
use Rattle.std.proofs.lemmas.List.{take_all, take-append-drop, length-take-le, drop_more, get_or_default}
use Rattle.lois_base.specs.Truth.{holds, sampled}
use Rattle.lois_base.specs.declared.guards.Lit.{Lit}
use Rattle.lois_answers.specs.ResultsData.{LineD}
use Rattle.lois_automata.specs.Throughout.{HoldsThroughout}
use Rattle.lois_context.specs.LineValues.{line_values}
use Rattle.lois_deciders.specs.Satisfaction.{IsConstraintSample}
use Rattle.lois_meaning.specs.Store.{AreSameNamed}
use Rattle.lois_same.specs.Contrasts.{IsLine, LinesContrast, LinesContrastAt, IsDetail}
use Rattle.lois_same.specs.Members.{IsAdmittedSample, IsValueContrast}
use Rattle.lois_same.specs.Rows.{IsOfLine, IsLineContrast, IsLineContrastOrNone, AreSameLines, AreLinesContrast, AreLinesContrastOrNone, line_contrast, names_contrast}
use Rattle.lois_same.specs.declared.contrasts.Detail.{Detail}
use Rattle.lois_same.specs.declared.contrasts.Detail.TheVariants.{Count, Names, Values, Member}
use Rattle.lois_same.specs.declared.lines.LinesContrast.{LinesContrast as Found}
use Rattle.lois_same.specs.declared.values.ValueContrast.{ValueContrast}
use Rattle.lois_same.specs.declared.values.ValueContrast.TheVariants.{Values as OtherValues, Member as MemberOfOne}

-- a sample of the constraint, as long as there are levels
pub admitted_sample : (n : ℕ) (u : List (List Lit)) (s : List ℕ) → IsConstraintSample n u s → IsAdmittedSample n u s
admitted_sample n u s (small, here) = record {
  count = omega (arith, small.count);
  admitted = subst (λ z. IsTrue (holds (sampled z) u)) (sym (take_all n s (omega (arith, small.count)))) here;
}

-- ---- one line
-- different names
pub contrast_of_names : (n : ℕ) (u : List (List Lit)) (i : ℕ) (l m : LineD) (s : List ℕ) (o : Option Found) → IsConstraintSample n u s → (l.name ≡ m.name → ⊥) → o ≡ Some (names_contrast i l.name m.name s) → IsLineContrastOrNone n u i l m o
contrast_of_names n u i l m s o sample apart e =
    subst (IsLineContrastOrNone n u i l m) (sym e) (record { sample = admitted_sample n u s sample; line = refl; detail = (refl, refl, apart) })

-- different values
value_contrast : (n : ℕ) (u : List (List Lit)) (i : ℕ) (l m : LineD) (v : ValueContrast) → l.name ≡ m.name → IsValueContrast n u l.term m.term v → IsLineContrast n u i l m (line_contrast i l.name v)
value_contrast n u i l m (OtherValues s) e h = record { sample = h.0; line = refl; detail = (refl, sym e, h.1) }
value_contrast n u i l m (MemberOfOne s t first) e h = record { sample = h.0; line = refl; detail = (refl, sym e, h.1, h.2) }

pub contrast_of_values : (n : ℕ) (u : List (List Lit)) (i : ℕ) (l m : LineD) (v : ValueContrast) (o : Option Found) → l.name ≡ m.name → IsValueContrast n u l.term m.term v → o ≡ Some (line_contrast i l.name v) → IsLineContrastOrNone n u i l m o
contrast_of_values n u i l m v o same h e = subst (IsLineContrastOrNone n u i l m) (sym e) (value_contrast n u i l m v same h)

-- the line at an index, counted from 0
pub line_at : (ls : List LineD) (i : ℕ) (l : LineD) → i < length ls → l ≡ get_or ls i l → IsLine ls (i + 1) l
line_at ls i l below is = record {
  before = take i ls;
  behind = drop (i + 1) ls;
  among = sym (take-append-drop i ls) ∙ ap (λ z. take i ls ++ z) (drop_more ls i l below ∙ ap (λ z. z ∷ drop (i + 1) ls) (sym is));
  number = ap (λ k. k + 1) (sym (length-take-le i ls (omega (arith, below))));
}

-- so two lines that differ are told at their number
pub lines_at : (n : ℕ) (u : List (List Lit)) (ls ms : List LineD) (i : ℕ) (l m : LineD) (d : Found) → i < length ls → i < length ms → l ≡ get_or ls i l → m ≡ get_or ms i m → IsLineContrast n u (i + 1) l m d → AreLinesContrast n u ls ms d
lines_at n u ls ms i l m d first second is was contrast = record { sample = contrast.sample; detail = at d.detail contrast.line contrast.detail }
  where
    own : (k : ℕ) (e : Detail) → k ≡ i + 1 → LinesContrast n d.sample l m e → LinesContrastAt n d.sample ls ms k e
    own k e same h = (l, m, subst (λ z. IsLine ls z l) (sym same) (line_at ls i l first is), subst (λ z. IsLine ms z m) (sym same) (line_at ms i m second was), h)

    at : (e : Detail) → IsOfLine (i + 1) e → LinesContrast n d.sample l m e → IsDetail n d.sample ls ms e
    at (Count k j) line h = absurd h
    at (Names k a b) line h = own k (Names k a b) line h
    at (Values k a) line h = own k (Values k a) line h
    at (Member k a t left) line h = own k (Member k a t left) line h

-- ---- all lines
images : {X Y : Type 0} (f : X → Y) (ys : List X) (j : ℕ) (x : X) (d : Y) → j < length ys → get_or (map f ys) j d ≡ f (get_or ys j x)
images f [] j x d l = absurd (omega arith)
images f (y ∷ ys) zero x d l = refl
images f (y ∷ ys) (suc j) x d l = images f ys j x d (omega (arith, l))

-- different counts
pub contrast_of_counts : {E : Type 0} (n : ℕ) (u : List (List Lit)) (ls ms : List LineD) (s : List ℕ) (r : Result (Option Found) E) → IsConstraintSample n u s → (length ls ≡ length ms → ⊥) → IfOk r (λ o. IfSome o (λ d. d.sample ≡ s)) → IfOk r (λ o. IfSome o (λ d. d.detail ≡ Count (length ls) (length ms))) → IfOk r (λ o. IsNone o → ⊥) → IfOk r (AreLinesContrastOrNone n u ls ms)
contrast_of_counts n u ls ms s (Ok (Some d)) sample apart first second some = record {
  sample = subst (IsAdmittedSample n u) (sym first) (admitted_sample n u s sample);
  detail = subst (IsDetail n d.sample ls ms) (sym second) (refl, refl, apart);
}
contrast_of_counts n u ls ms s (Ok None) sample apart first second some = absurd (some refl)
contrast_of_counts n u ls ms s (Err e) sample apart first second some = first

less_or_at : (k i : ℕ) → k < i + 1 → (k < i) ⊎ (k ≡ i)
less_or_at zero zero l = inr refl
less_or_at zero (suc i) l = inl (omega arith)
less_or_at (suc k) zero l = absurd (omega (arith, l))
less_or_at (suc k) (suc i) l = elim (less_or_at k i (omega (arith, l))) [ inl h ↦ inl (omega (arith, h)) | inr e ↦ inr (ap suc e) ]

-- the image of what stands at an index
pub image_at : {X Y : Type 0} (f : X → Y) (vs : List Y) (xs : List X) (i : ℕ) (x : X) → map f xs ≡ vs → i < length xs → x ≡ get_or xs i x → (d : Y) → get_or vs i d ≡ f x
image_at f vs xs i x items l is d = subst (λ z. get_or z i d ≡ f x) items (images f xs i x d l ∙ ap f (sym is))

-- what is got at an index stands there; where nothing is got the list ends before it
pub got_at : (ms : List LineD) (i : ℕ) (m : LineD) → Some m ≡ slice_get ms i → (i < length ms) × (m ≡ get_or ms i m)
got_at [] i m e = absurd (cc)
got_at (y ∷ ms) zero m e = (omega arith, cc)
got_at (y ∷ ms) (suc i) m e =
    let rest = got_at ms i m e in
    (omega (arith, rest.0), rest.1)

pub none_at : (ms : List LineD) (i : ℕ) → None ≡ slice_get ms i → length ms ≤ i
none_at [] i e = omega arith
none_at (y ∷ ms) zero e = absurd (cc)
none_at (y ∷ ms) (suc i) e = omega (arith, none_at ms i e)

-- the lines up to the index i are the same, one by one
abbrev pub AreSameUpTo : ℕ → List (List Lit) → List LineD → List LineD → ℕ → Type 0
AreSameUpTo n u ls ms i = (k : ℕ) (l m : LineD) → k < i → AreSameLines n u (get_or ls k l) (get_or ms k m)

pub same_further : (n : ℕ) (u : List (List Lit)) (ls ms : List LineD) (i : ℕ) (l m : LineD) → i < length ls → i < length ms → l ≡ get_or ls i l → m ≡ get_or ms i m → AreSameUpTo n u ls ms i → AreSameLines n u l m → AreSameUpTo n u ls ms (i + 1)
same_further n u ls ms i l m first second is was before same k x y less = by_place (less_or_at k i less)
  where
    by_place : (k < i) ⊎ (k ≡ i) → AreSameLines n u (get_or ls k x) (get_or ms k y)
    by_place (inl below) = before k x y below
    by_place (inr at) =
        let own : l ≡ get_or ls k x = is ∙ (get_or_default ls i l x first ∙ ap (λ j. get_or ls j x) (sym at)) in
        let other : m ≡ get_or ms k y = was ∙ (get_or_default ms i m y second ∙ ap (λ j. get_or ms j y) (sym at)) in
        subst (λ z. AreSameLines n u z (get_or ms k y)) own (subst (AreSameLines n u l) other same)

-- all lines are the same, and there are as many
pub all_same : (n : ℕ) (u : List (List Lit)) (ls ms : List LineD) → length ls ≡ length ms → AreSameUpTo n u ls ms (length ls) → HoldsThroughout n u (λ c. AreSameNamed (line_values c ls) (line_values c ms))
all_same n u [] [] e same c count here = tt
all_same n u [] (m ∷ ms) e same c count here = absurd (omega (arith, e))
all_same n u (l ∷ ls) [] e same c count here = absurd (omega (arith, e))
all_same n u (l ∷ ls) (m ∷ ms) e same c count here =
    let first = same 0 l m (omega arith) in
    (first.0, first.1 c count here, all_same n u ls ms (omega (arith, e)) (λ k x y less. same (suc k) x y (omega (arith, less))) c count here)
