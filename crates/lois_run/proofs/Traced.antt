-- From a fault of a script to its trace.
use Rattle.std.proofs.Common.{◌≡◌, ℕ, ◌^◌, ◌<◌, ◌≤◌, ◌==◌, not, List, [], ◌∷◌, length, map, take, sym, ap, ◌∙◌, subst, arith}
use Rattle.std.specs.List.{All, Contains}
use Rattle.std.proofs.lemmas.List.{length-map, length-take, take-map}
use Rattle.std.proofs.lemmas.List.Elements.{All-contains, All-map}
use Rattle.std.proofs.lemmas.List.Sums.{count_by-le-length, suffix_len-le-length}
use Rattle.lois_base.specs.Atom.{Atom, whole}
use Rattle.lois_base.specs.Data.{TermD, depth}
use Rattle.lois_base.specs.Fits.{Fits}
use Rattle.lois_base.specs.Patterns.{AreAlike}
use Rattle.lois_base.specs.Truth.{sampled}
use Rattle.lois_base.specs.Validity.{AdmitsTerm, HasBoundedWidths, IsStrictTerm}
use Rattle.lois_base.specs.Values.{point}
use Rattle.lois_base.specs.declared.limits.TheConstants.{LONGEST_TEXT}
use Rattle.lois_base.proofs.Members.{same_trans}
use Rattle.lois_base.proofs.Validity.{all_that_are}
use Rattle.lois_constraint.proofs.Shifting.{All-of_map}
use Rattle.lois_lexer.specs.declared.Place.{Place}
use Rattle.lois_script.specs.Limits.{Spells}
use Rattle.lois_script.specs.Scope.{IsWellScoped}
use Rattle.lois_script.specs.Tree.{ScriptD}
use Rattle.lois_answers.specs.ResultsData.{LineD}
use Rattle.lois_answers.specs.Sound.{HasTags, IsFreeName, IsSoundLine, AreParameters, IsPlaceNumber}
use Rattle.lois_answers.specs.declared.faults.Trace.{Trace}
use Rattle.lois_meaning.specs.Runs.{ScriptFails}
use Rattle.lois_meaning.specs.Kinds.{AreSame}
use Rattle.lois_meaning.specs.Store.{NamedValues, AreSameNamed}
use Rattle.lois_meaning.specs.declared.faults.Fault.{Fault}
use Rattle.lois_context.specs.LineValues.{line_values}
use Rattle.lois_interp.specs.Interpreted.{parameter_name, FailsBehindEnds}
use Rattle.lois_eval.proofs.FaultsAt.{alike_itself}
use Rattle.lois_interp.specs.Failures.{IsFailureAt, IsFailureOf}
use Rattle.lois_interp.proofs.FreeNames.{are_parameters}
use Rattle.lois_shortest_word.specs.Shortened.{IsShortenedWord, IsShortenedEverywhere}
use Rattle.lois_shortest_word.specs.Words.{values_at, AreUsedBetween}
use Rattle.lois_shortest_word.specs.declared.words.Word.{Word}
use Rattle.lois_ranks.specs.Ranks.{AreRanks}
use Rattle.lois_run.specs.Headline.{NamesFailure}
use Rattle.lois_command.specs.Places.{IsPlaceOf}
use Rattle.lois_run.proofs.PathNames.{path_free, named_free}

-- a line and a column of a text that is no longer than a script may be
place_numbers : (text : List ℕ) (at : ℕ) (p : Place) → length text ≤ LONGEST_TEXT → IsPlaceOf text at p → IsPlaceNumber p.line × IsPlaceNumber p.column
place_numbers text at p fits h =
    let front = take at text in
    let short : length front ≤ 1048576 = omega (arith, length-take at text, fits) in
    let lines = count_by-le-length (λ b. b == 10) front in
    let last = suffix_len-le-length (λ b. not (b == 10)) front in
    ((omega (arith, h.line), omega (arith, h.line, lines, short)), (omega (arith, h.column), omega (arith, h.column, last, short)))

-- lines of the same names whose terms have the same values
renamed : (path : NamedValues) (ls ms : List LineD) (c d : List Atom) → AreSameNamed path (line_values c ls) → map (λ l. l.name) ms ≡ map (λ l. l.name) ls → AreSame (values_at c (map (λ l. l.term) ls)) (values_at d (map (λ l. l.term) ms)) → AreSameNamed path (line_values d ms)
renamed [] [] [] c d h e v = tt
renamed [] [] (m ∷ ms) c d h e v = absurd v
renamed [] (l ∷ ls) ms c d h e v = absurd h
renamed (b ∷ path) [] ms c d h e v = absurd h
renamed (b ∷ path) (l ∷ ls) [] c d h e v = absurd v
renamed (b ∷ path) (l ∷ ls) (m ∷ ms) c d h e v =
    let first : m.name ≡ l.name = cc in
    let rest : map (λ l. l.name) ms ≡ map (λ l. l.name) ls = cc in
    (h.0 ∙ sym first, same_trans b.holds (point l.term c) (point m.term d) h.1 v.0, renamed path ls ms c d h.2 rest v.1)

module _ (text : List ℕ) (s : ScriptD) (spelled : Spells text s) (scoped : IsWellScoped s) (fits : length text ≤ LONGEST_TEXT) (f : Fault) (h : IsFailureOf s f) where
  abbrev n : ℕ
  n = length s.parameters

  abbrev numbers : List Atom
  numbers = sampled f.sample.items

  here : IsFailureAt s f numbers
  here = h.fails_at numbers (alike_itself s.ordered f.sample.items)

  free : All (λ l. IsFreeName l.name) f.elements
  free = named_free numbers here.path f.elements here.named (path_free text s spelled (take n numbers) f.pos.offset f.kind here.path here.failed)

  -- ---- the elements with other terms, which have the same values at the ranks
  module _ (w r : Word) (sample : w.sample ≡ f.sample.items) (letters : w.letters ≡ map (λ l. l.term) f.elements) (short : IsShortenedWord n w r) (everywhere : IsShortenedEverywhere n w r) (ranks : List ℕ) (alike : AreAlike s.ordered (sampled r.sample) (sampled ranks)) (are_ranks : AreRanks s.ordered ranks)
      (ms : List LineD) (names : map (λ l. l.name) ms ≡ map (λ l. l.name) f.elements) (terms : map (λ l. l.term) ms ≡ r.letters) where
    as_many : length ranks ≡ length r.sample
    as_many = omega (arith, alike.count, length-map ranks whole, length-map r.sample whole)

    free_names : All (λ l. IsFreeName l.name) ms
    free_names = All-of_map IsFreeName (λ l. l.name) ms (subst (All IsFreeName) (sym names) (All-map IsFreeName (λ l. l.name) f.elements free))

    all_terms : (P : TermD → Type 0) → All P r.letters → All (λ l. P l.term) ms
    all_terms P h = All-of_map P (λ l. l.term) ms (subst (All P) (sym terms) h)

    all_letters : (P : TermD → Type 0) → All (λ l. P l.term) f.elements → All P w.letters
    all_letters P h = subst (All P) (sym letters) (All-map P (λ l. l.term) f.elements h)

    shallow : All (λ t. depth t ≤ 64) r.letters
    shallow =
        All-of_map (λ k. k ≤ 64) depth r.letters
        (subst (All (λ k. k ≤ 64)) (sym short.depths) (All-map (λ k. k ≤ 64) depth w.letters (all_letters (λ t. depth t ≤ 64) h.brackets)))

    element_sound : All (λ l. HasTags l.term) ms → (l : LineD) → Contains ms l → IsSoundLine s.ordered (length ranks) l
    element_sound tags l there = record {
      name = All-contains (λ l. IsFreeName l.name) ms l free_names there;
      term = record {
        levels = subst (λ k. Fits k l.term) (sym as_many) (All-contains (λ l. Fits (length r.sample) l.term) ms l (all_terms (Fits (length r.sample)) short.levels) there);
        tags = All-contains (λ l. HasTags l.term) ms l tags there;
        widths = All-contains (λ l. HasBoundedWidths l.term) ms l (all_terms HasBoundedWidths (short.widths (all_letters HasBoundedWidths h.widths))) there;
        operators = All-contains (λ l. AdmitsTerm s.ordered l.term) ms l (all_terms (AdmitsTerm s.ordered) (short.operators s.ordered (all_letters (AdmitsTerm s.ordered) h.operators))) there;
        strict = All-contains (λ l. IsStrictTerm l.term) ms l (all_terms IsStrictTerm (short.strict (all_letters IsStrictTerm h.strict))) there;
        brackets = All-contains (λ l. depth l.term ≤ 64) ms l (all_terms (λ t. depth t ≤ 64) shallow) there;
      };
    }

    -- atoms at which the fault is one, and the letters have the values that they have at the ranks
    before : (c : List Atom) × AreAlike s.ordered (sampled w.sample) c × (take n c ≡ take n (sampled ranks)) × AreSame (values_at c w.letters) (values_at (sampled ranks) r.letters)
    before = everywhere s.ordered (sampled ranks) alike

    there : IsFailureAt s f before.0
    there = h.fails_at before.0 (subst (λ k. AreAlike s.ordered (sampled k) before.0) sample before.1)

    named_again : AreSameNamed there.path (line_values (sampled ranks) ms)
    named_again =
        renamed there.path f.elements ms before.0 (sampled ranks) there.named names
        (subst (λ ts. AreSame (values_at before.0 (map (λ l. l.term) f.elements)) (values_at (sampled ranks) ts)) (sym terms)
        (subst (λ ts. AreSame (values_at before.0 ts) (values_at (sampled ranks) r.letters)) letters before.3))

    first_numbers : sampled (take n ranks) ≡ take n before.0
    first_numbers = sym (before.2 ∙ take-map whole n ranks)

    pub traced : (place : Place) (t : Trace) → IsPlaceOf text f.pos.offset place → t.order ≡ s.ordered → t.parameters ≡ map parameter_name s.parameters → t.line ≡ place.line → t.column ≡ place.column → t.kind ≡ f.kind → t.sample ≡ ranks → t.elements ≡ ms → All (λ l. HasTags l.term) ms → All (λ a. a < 2 ^ 64) t.sample → AreUsedBetween n (length r.sample) r.letters → NamesFailure text s t
    traced place t at order parameters line column kind sample_is elements tags small used =
        let places = place_numbers text f.pos.offset place fits at in
        record {
          sound = record {
            parameters = subst AreParameters (sym parameters) (are_parameters text s spelled scoped);
            line = subst IsPlaceNumber (sym line) places.0;
            column = subst IsPlaceNumber (sym column) places.1;
            numbers = small;
            enough = omega (arith, ap length parameters, length-map s.parameters parameter_name, ap length sample_is, short.count, as_many);
            elements = subst (λ o. All (IsSoundLine o (length t.sample)) t.elements) (sym order)
                (subst (λ k. All (IsSoundLine s.ordered (length k)) t.elements) (sym sample_is)
                (subst (All (IsSoundLine s.ordered (length ranks))) (sym elements)
                (all_that_are (IsSoundLine s.ordered (length ranks)) ms (element_sound tags))));
          };
          structure = order;
          parameters = parameters;
          at = f.pos.offset;
          place = record { line = line ∙ at.line; column = column ∙ at.column };
          path = there.path;
          failed = subst (λ k. ScriptFails s (sampled (take n k)) f.pos.offset t.kind there.path) (sym sample_is)
              (subst (λ c. ScriptFails s c f.pos.offset t.kind there.path) (sym first_numbers)
              (subst (λ k. ScriptFails s (take n before.0) f.pos.offset k there.path) (sym kind) there.failed));
          first = subst (λ k. FailsBehindEnds s (sampled (take n k)) f.pos.offset t.kind there.path) (sym sample_is)
              (subst (λ c. FailsBehindEnds s c f.pos.offset t.kind there.path) (sym first_numbers)
              (subst (λ k. FailsBehindEnds s (take n before.0) f.pos.offset k there.path) (sym kind) there.first));
          named = subst (λ k. AreSameNamed there.path (line_values (sampled k) t.elements)) (sym sample_is)
              (subst (λ ls. AreSameNamed there.path (line_values (sampled ranks) ls)) (sym elements) named_again);
          used = subst (λ k. AreUsedBetween n (length k) (map (λ l. l.term) t.elements)) (sym sample_is)
              (subst (λ ls. AreUsedBetween n (length ranks) (map (λ l. l.term) ls)) (sym elements)
              (subst (AreUsedBetween n (length ranks)) (sym terms) (subst (λ k. AreUsedBetween n k r.letters) (sym as_many) used)));
          ranked = subst (AreRanks s.ordered) (sym sample_is) are_ranks;
        }
