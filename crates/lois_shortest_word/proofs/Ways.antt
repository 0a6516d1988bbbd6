-- The way of a word: from layer to layer.
use Rattle.std.proofs.Common.{◌≡◌, ℕ, zero, suc, ◌+◌, ◌-◌, ◌≤◌, ◌<◌, ◌⊎◌, inl, inr, List, [], ◌∷◌, ◌++◌, length, length-append, take, drop, refl, sym, ap, ◌∙◌, subst, arith}
use Rattle.std.proofs.lemmas.Bool.{cases_lt}
use Rattle.std.proofs.lemmas.List.{append_assoc, map-append}
use Rattle.std.proofs.lemmas.List.Elements.{All-push}
use Rattle.std.specs.Bool.{IsTrue}
use Rattle.std.specs.List.{All}
use Rattle.lois_base.specs.Atom.{Atom}
use Rattle.lois_base.specs.Data.{TermD, CompsD}
use Rattle.lois_base.specs.Fits.{Fits}
use Rattle.lois_base.specs.Tree.{tree}
use Rattle.lois_base.specs.Truth.{holds, sampled}
use Rattle.lois_base.specs.Values.{PointValue, point}
use Rattle.lois_base.specs.declared.guards.Lit.{Lit}
use Rattle.lois_base.proofs.Members.{same_sym}
use Rattle.lois_algebra.specs.Gathered.{IsAmong}
use Rattle.lois_algebra.proofs.Among.{among_in}
use Rattle.lois_terms.specs.Shifted.{IsShifted}
use Rattle.lois_terms.proofs.MoreAtoms.{is_raised}
use Rattle.lois_meaning.specs.Automata.{Automaton, AcceptsFrom, Accepts}
use Rattle.lois_meaning.specs.Kinds.{AreSame}
use Rattle.lois_automata.specs.Projections.{automaton_at}
use Rattle.lois_automata.proofs.Members.{raised_same}
use Rattle.lois_shortest_word.specs.Layers.{AcceptsIn, IsLayer}
use Rattle.lois_shortest_word.specs.SymbolicStates.{IsInitialSymbolicState, HasNoInitialState}
use Rattle.lois_shortest_word.specs.Steps.{IsSymbolicStep, NeverAdvances}
use Rattle.lois_shortest_word.specs.Walks.{IsOnWay, IsWay, HaveAtLeast, IsShiftedLetter, AreShiftedLetters, IsLengthened}
use Rattle.lois_shortest_word.specs.Words.{values_at}
use Rattle.lois_shortest_word.specs.declared.symbolic_states.SymbolicState.{SymbolicState}
use Rattle.lois_shortest_word.specs.declared.steps.SymbolicStep.{SymbolicStep}
use Rattle.lois_shortest_word.proofs.Choices.{cut, length_front, length_back, first_length, other_length, whole_sample}
use Rattle.lois_shortest_word.proofs.Readings.{accepts_alike, same_rest}

-- ---- letters among further levels
moved_values : (n by : ℕ) (ts rs : List TermD) (d f : List Atom) → length d ≡ n → length f ≡ by → AreShiftedLetters n by ts rs → AreSame (values_at d ts) (values_at (d ++ f) rs)
moved_values n by [] [] d f ld lf moved = tt
moved_values n by [] (r ∷ rs) d f ld lf moved = absurd moved
moved_values n by (t ∷ ts) [] d f ld lf moved = absurd moved
moved_values n by (t ∷ ts) (r ∷ rs) d f ld lf moved =
    let raised : IsShifted n by t r = subst (IsShifted n by t) (sym moved.0.raised) (is_raised n by t) in
    (same_sym (point r (d ++ f)) (point t d) (raised_same n by t r raised d f ld lf), moved_values n by ts rs d f ld lf moved.1)

pub moved_push : (n by : ℕ) (ts rs : List TermD) (t r : TermD) → AreShiftedLetters n by ts rs → IsShiftedLetter n by t r → AreShiftedLetters n by (ts ++ t ∷ []) (rs ++ r ∷ [])
moved_push n by [] [] t r moved one = (one, tt)
moved_push n by [] (y ∷ rs) t r moved one = absurd moved
moved_push n by (x ∷ ts) [] t r moved one = absurd moved
moved_push n by (x ∷ ts) (y ∷ rs) t r moved one = (moved.0, moved_push n by ts rs t r moved.1 one)

-- what holds of each moved term
module _ (n by : ℕ) (P Q : TermD → Type 0) (carried : (t r : TermD) → IsShiftedLetter n by t r → P t → Q r) where
  pub moved_all : (ts rs : List TermD) → AreShiftedLetters n by ts rs → All P ts → All Q rs
  moved_all [] [] moved h i d l = absurd (omega arith)
  moved_all [] (r ∷ rs) moved h i d l = absurd moved
  moved_all (t ∷ ts) [] moved h i d l = absurd moved
  moved_all (t ∷ ts) (r ∷ rs) moved h zero d l = carried t r moved.0 (h 0 t (omega arith))
  moved_all (t ∷ ts) (r ∷ rs) moved h (suc i) d l = moved_all ts rs moved.1 (λ j x below. h (suc j) x (omega arith)) i d (omega arith)

moved_length : (n by : ℕ) (ts rs : List TermD) → AreShiftedLetters n by ts rs → length rs ≡ length ts
moved_length n by [] [] moved = refl
moved_length n by [] (r ∷ rs) moved = absurd moved
moved_length n by (t ∷ ts) [] moved = absurd moved
moved_length n by (t ∷ ts) (r ∷ rs) moved = ap suc (moved_length n by ts rs moved.1)

module _ (n by : ℕ) (ts : List TermD) (t : TermD) (rs : List TermD) (long : IsLengthened n by ts t rs) where
  -- what holds of the letters and of the one more
  pub lengthened_all : (P Q : TermD → Type 0) → ((x r : TermD) → IsShiftedLetter n by x r → P x → Q r) → All P ts → Q t → All Q rs
  lengthened_all P Q carried each one =
      subst (All Q) (sym long.2) (All-push Q long.0 t (moved_all n by P Q carried ts long.0 long.1 each) one)

  pub lengthened_count : length rs ≡ length ts + 1
  lengthened_count = omega (arith, ap length long.2, length-append long.0 (t ∷ []), moved_length n by ts long.0 long.1)

  -- the values are the same, and one more
  pub lengthened_accepts : (a : Automaton) (d f : List Atom) (rest : List PointValue) → length d ≡ n → length f ≡ by → Accepts a (values_at d ts ++ point t (d ++ f) ∷ rest) → Accepts a (values_at (d ++ f) rs ++ rest)
  lengthened_accepts a d f rest ld lf h =
      let v = values_at (d ++ f) long.0 in
      let one : Accepts a (v ++ point t (d ++ f) ∷ rest) = accepts_alike a (values_at d ts ++ point t (d ++ f) ∷ rest) (v ++ point t (d ++ f) ∷ rest) (same_rest (values_at d ts) v (point t (d ++ f) ∷ rest) (moved_values n by ts long.0 d f ld lf long.1)) h in
      let split : values_at (d ++ f) rs ≡ v ++ point t (d ++ f) ∷ [] = ap (values_at (d ++ f)) long.2 ∙ map-append (λ z. point z (d ++ f)) long.0 (t ∷ []) in
      subst (λ z. Accepts a (z ++ rest)) (sym split) (subst (Accepts a) (sym (append_assoc v (point t (d ++ f) ∷ []) rest)) one)

-- ---- the way
module _ (s l t i f : CompsD) (n : ℕ) (u : List (List Lit)) where
  pub none_shorter : HaveAtLeast n u (automaton_at s l t i f) 0
  none_shorter c k h word acc = omega arith

  -- an initial state in a layer
  pub way_begins : (k : ℕ) (layer : TermD) (stage : SymbolicState) → IsLayer n (automaton_at s l t i f) k layer → IsInitialSymbolicState n u (IsAmong i) layer stage → IsWay n u (automaton_at s l t i f) k [] stage
  way_begins k layer stage is begun = record {
    stage = begun.stage;
    letter_levels = λ j d below. absurd (omega arith);
    admitted = λ c e lc le h. (begun.begins c e lc le h).0;
    on_way = λ c e lc le h.
        let p = point (tree stage.state) (c ++ e) in
        let x = begun.begins c e lc le h in
        record {
          onward = (is c lc p).0 x.2;
          behind = λ rest from. (p, (among_in i c p).0 x.1, from);
        };
  }

  -- where a layer has no initial state, no word of so many letters is accepted
  pub none_as_short : (k : ℕ) (layer : TermD) → IsLayer n (automaton_at s l t i f) k layer → HasNoInitialState n u (IsAmong i) layer → HaveAtLeast n u (automaton_at s l t i f) k → HaveAtLeast n u (automaton_at s l t i f) (k + 1)
  none_as_short k layer is never least c lc h word acc = go (cases_lt k (length word)) acc
    where
      go : (k < length word) ⊎ (length word ≤ k) → Accepts (automaton_at s l t i f c) word → k + 1 ≤ length word
      go (inl less) acc = omega arith
      go (inr more) (p, j, from) =
          let short : length word ≡ k = omega (arith, least c lc h word (p, j, from), more) in
          absurd (never c lc h p ((among_in i c p).1 j) ((is c lc p).1 (word, short, from)))

  -- a step into the next layer
  module _ (k : ℕ) (layer : TermD) (letters longer : List TermD) (stage : SymbolicState) (r : SymbolicStep) (is : IsLayer n (automaton_at s l t i f) k layer) (way : IsWay n u (automaton_at s l t i f) (suc k) letters stage)
      (taken : IsSymbolicStep n stage (IsAmong t) layer r) (long : IsLengthened (n + stage.more) (r.stage.more - stage.more) letters (tree r.letter) longer) where
    on_way_next : (c e x : List Atom) → length c ≡ n → length e ≡ stage.more → length x ≡ r.stage.more - stage.more → IsTrue (holds ((c ++ e) ++ x) r.stage.admitted) →
        IsTrue (holds c u) × IsOnWay (automaton_at s l t i f c) k longer (point (tree r.stage.state) ((c ++ e) ++ x)) ((c ++ e) ++ x)
    on_way_next c e x lc le lx h =
        let d = c ++ e in
        let ld : length d ≡ n + stage.more = omega (arith, length-append c e) in
        let going = taken.goes c e x lc le lx h in
        let was = way.on_way c e lc le going.admitted in
        let q = point (tree r.stage.state) (d ++ x) in
        let letter = point (tree r.letter) (d ++ x) in
        let step = going.step in (
          way.admitted c e lc le going.admitted,
          record {
            onward = (is c lc q).0 going.inside;
            behind = λ rest from.
                let before : AcceptsFrom (automaton_at s l t i f c) (point (tree stage.state) d) (letter ∷ rest) = (from.0, from.1, (q, (step.0, (among_in t c step.0).0 step.1, step.2), from.2)) in
                lengthened_accepts (n + stage.more) (r.stage.more - stage.more) letters (tree r.letter) longer long (automaton_at s l t i f c) d x rest ld lx (was.behind (letter ∷ rest) before);
          },
        )

    at_next : (c e : List Atom) → length c ≡ n → length e ≡ r.stage.more → IsTrue (holds (c ++ e) r.stage.admitted) →
        IsTrue (holds c u) × IsOnWay (automaton_at s l t i f c) k longer (point (tree r.stage.state) (c ++ e)) (c ++ e)
    at_next c e lc le h =
        let parts = cut c e stage.more in
        subst (λ z. IsTrue (holds c u) × IsOnWay (automaton_at s l t i f c) k longer (point (tree r.stage.state) z) z) (sym parts)
        (on_way_next c (take stage.more e) (drop stage.more e) lc (length_front e stage.more r.stage.more le taken.order) (length_back e stage.more r.stage.more le) (subst (λ z. IsTrue (holds z r.stage.admitted)) parts h))

    pub way_goes : IsWay n u (automaton_at s l t i f) k longer r.stage
    way_goes = record {
      stage = taken.stage;
      letter_levels =
          let at : n + stage.more + (r.stage.more - stage.more) ≡ n + r.stage.more = omega (arith, taken.order) in
          subst (λ z. All (Fits z) longer) at
          (lengthened_all (n + stage.more) (r.stage.more - stage.more) letters (tree r.letter) longer long (Fits (n + stage.more)) (Fits (n + stage.more + (r.stage.more - stage.more))) (λ x y moved h. moved.levels) way.letter_levels (subst (λ z. Fits z (tree r.letter)) (sym at) taken.letter_levels));
      admitted = λ c e lc le h. (at_next c e lc le h).0;
      on_way = λ c e lc le h. (at_next c e lc le h).1;
    }

  -- a layer that is not the first has a step into the next
  pub way_leads : (k : ℕ) (layer : TermD) (letters : List TermD) (stage : SymbolicState) → IsLayer n (automaton_at s l t i f) k layer → IsWay n u (automaton_at s l t i f) (suc k) letters stage → NeverAdvances n stage (IsAmong t) layer → ⊥
  way_leads k layer letters stage is way never = go (way.on_way c e lc le here).onward
    where
      count : length stage.sample ≡ n + stage.more
      count = way.stage.met.0.count

      c : List Atom
      c = sampled (take n stage.sample)

      e : List Atom
      e = sampled (drop n stage.sample)

      lc : length (sampled (take n stage.sample)) ≡ n
      lc = first_length n stage.more stage.sample count

      le : length (sampled (drop n stage.sample)) ≡ stage.more
      le = other_length n stage.more stage.sample count

      here : IsTrue (holds (sampled (take n stage.sample) ++ sampled (drop n stage.sample)) stage.admitted)
      here = subst (λ z. IsTrue (holds z stage.admitted)) (sym (whole_sample n stage.more stage.sample count)) way.stage.met.1

      go : AcceptsIn (automaton_at s l t i f (sampled (take n stage.sample))) (suc k) (point (tree stage.state) (sampled (take n stage.sample) ++ sampled (drop n stage.sample))) → ⊥
      go ([], long, h) = absurd (omega arith)
      go (x ∷ word, long, (z, j, (q, (y, b, triple), reads))) =
          let short : length word ≡ k = omega arith in
          never c e lc le here x q (y, (among_in t c y).1 b, triple) ((is c lc q).1 (word, short, (z, j, reads)))
