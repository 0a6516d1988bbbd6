-- From the contexts in which a script ends to its results, and from a fault to its failure.
use Rattle.std.proofs.Common.{◌≡◌, ℕ, ◌+◌, ◌≤◌, true, List, [], ◌∷◌, ◌++◌, length, take, map, IsTrue, refl, sym, ap, ◌∙◌, subst, arith}
use Rattle.std.specs.List.{All, AllPairs, AllZip, Contains}
use Rattle.std.proofs.lemmas.List.{length-map, length-take}
use Rattle.std.proofs.lemmas.List.Elements.{All-nil, All-cons, All-contains}
use Rattle.lois_base.specs.Atom.{Atom, whole}
use Rattle.lois_base.specs.Data.{depth}
use Rattle.lois_base.specs.Fits.{Fits, ConstraintFits}
use Rattle.lois_base.specs.Normal.{IsNormal}
use Rattle.lois_base.specs.Patterns.{AreAlike}
use Rattle.lois_base.specs.Truth.{holds, sampled}
use Rattle.lois_base.specs.Validity.{AdmitsConstraint, AdmitsTerm, HasBoundedWidths}
use Rattle.lois_base.specs.Values.{point}
use Rattle.lois_base.specs.declared.guards.Lit.{Lit}
use Rattle.lois_base.proofs.Members.{same_sym}
use Rattle.lois_base.proofs.NormalDepths.{normal_depth}
use Rattle.lois_answers.specs.ResultsData.{LineD, CaseD}
use Rattle.lois_answers.specs.Sound.{IsFreeName, IsSoundLine, IsSoundCase, AreParameters, IsSound}
use Rattle.lois_answers.specs.declared.faults.FaultKind.{FaultKind}
use Rattle.lois_answers.specs.declared.results.Results.{Results}
use Rattle.lois_script.specs.Limits.{Spells}
use Rattle.lois_script.specs.Scope.{IsWellScoped}
use Rattle.lois_script.specs.Tree.{ParamD, StmtD, ScriptD}
use Rattle.lois_script.specs.View.{stmts_of}
use Rattle.lois_meaning.specs.Runs.{ListEnds, StmtFails, ListFails, ScriptFails}
use Rattle.lois_meaning.specs.Store.{NamedValues, AreSameNamed, IsShallow, opening_from, opening}
use Rattle.lois_meaning.specs.declared.faults.Fault.{Fault}
use Rattle.lois_simplify.specs.Irredundant.{HasNormalGuards}
use Rattle.lois_simplify.specs.Plain.{IsPlain, HasPlainGuards}
use Rattle.lois_simplify.proofs.Plain.{strict_of_plain}
use Rattle.lois_context.specs.Choices.{IsAdmitted, AdmitsContext, ContextHasBoundedWidths}
use Rattle.lois_context.specs.Counted.{times}
use Rattle.lois_context.specs.Merged.{AreDisjoint, HasSameContents, HasSameContentsAsOne, AreMerged}
use Rattle.lois_context.specs.Kept.{LinesFit}
use Rattle.lois_context.specs.Slots.{SlotD}
use Rattle.lois_context.specs.LineValues.{line_values}
use Rattle.lois_context.specs.declared.contexts.Context.{Context}
use Rattle.lois_eval.specs.WellFormed.{IsWellFormedIn}
use Rattle.lois_interp.specs.Failed.{FailsBehind}
use Rattle.lois_interp.proofs.CaseCount.{few_enough}
use Rattle.lois_interp.specs.Interpreted.{parameter_name, lines_of, IsChoiceOf, PrintsAt, IsRightAt, HoldsSomewhere, IsNormalLine, IsNormalCase, IsPlainCase, AreResultsOf, FailsBehindEnds}
use Rattle.lois_interp.specs.Failures.{IsFailureOf}
use Rattle.lois_interp.specs.Opened.{IsOpening}
use Rattle.lois_interp.specs.Printed.{IsPrintedLine, IsPrinted, IsCaseOf}
use Rattle.lois_interp.specs.Retold.{IsRetoldLine}
use Rattle.lois_interp.specs.Split.{IsSplitFault}
use Rattle.lois_interp.specs.WellScoped.{BlockIsWellScoped}
use Rattle.lois_interp.proofs.Compose.{one_apart}
use Rattle.lois_context.proofs.Counts.{admits_like}
use Rattle.lois_interp.proofs.OneCase.{zip_from, times_alike, one_admits, Picked, pick, same_held, cases_apart}
use Rattle.lois_interp.proofs.FreeNames.{AreFree, script_free, are_parameters}
use Rattle.lois_eval.proofs.FaultsAt.{own_sample, alike_itself}
use Rattle.lois_base.proofs.Validity.{all_that_are}
use Rattle.lois_interp.proofs.ScriptEnds.{AreEndsOf, prints_retold}
use Rattle.lois_interp.proofs.Opened.{opens_at, opening_admits, opening_widths, body_placed}
use Rattle.lois_interp.proofs.SplitElements.{split_all, split_strict, split_named}
use Rattle.lois_interp.proofs.Sequence.{fails_snoc}
use Rattle.lois_interp.proofs.Shallow.{AreShallow, same_shallow, list_shallow}
use Rattle.lois_interp.proofs.Weaker.{IsWeaker, normal_weaker, plain_weaker}

-- ---- lines
pub printed_fit : (n : ℕ) (u : List (List Lit)) (ls ms : List LineD) → AllZip (IsPrintedLine n u) ls ms → LinesFit n ms
printed_fit n u [] [] h = All-nil (λ l. Fits n l.term)
printed_fit n u [] (m ∷ ms) h = absurd h
printed_fit n u (l ∷ ls) [] h = absurd h
printed_fit n u (l ∷ ls) (m ∷ ms) h = All-cons (λ l. Fits n l.term) m ms h.0.levels (printed_fit n u ls ms h.1)

printed_retold : (n : ℕ) (u : List (List Lit)) (ls ms : List LineD) → AllZip (IsPrintedLine n u) ls ms → AllZip (IsRetoldLine n u) ls ms
printed_retold n u [] [] h = tt
printed_retold n u [] (m ∷ ms) h = absurd h
printed_retold n u (l ∷ ls) [] h = absurd h
printed_retold n u (l ∷ ls) (m ∷ ms) h = (record { name = h.0.name; value = h.0.value }, printed_retold n u ls ms h.1)

lines_shallow : (c : List Atom) (ls : List LineD) (printed : NamedValues) → AreSameNamed (line_values c ls) printed → AreShallow printed → All (λ l. IsShallow (point l.term c)) ls
lines_shallow c [] printed same h = All-nil (λ l. IsShallow (point l.term c))
lines_shallow c (l ∷ ls) [] same h = absurd same
lines_shallow c (l ∷ ls) (b ∷ printed) same h =
    All-cons (λ l. IsShallow (point l.term c)) l ls (same_shallow b.holds (point l.term c) (same_sym (point l.term c) b.holds same.1) h.0) (lines_shallow c ls printed same.2 h.1)

lines_free : (c : List Atom) (ls : List LineD) (printed : NamedValues) → AreSameNamed (line_values c ls) printed → AreFree printed → All (λ l. IsFreeName l.name) ls
lines_free c [] printed same h = All-nil (λ l. IsFreeName l.name)
lines_free c (l ∷ ls) [] same h = absurd same
lines_free c (l ∷ ls) (b ∷ printed) same h = All-cons (λ l. IsFreeName l.name) l ls (subst IsFreeName (sym same.0) h.0) (lines_free c ls printed same.2 h.1)

opening_shallow : (ps : List ParamD) (c : List Atom) (i : ℕ) → AreShallow (opening_from ps c i)
opening_shallow [] c i = tt
opening_shallow (p ∷ ps) c i = (λ deep. deep, opening_shallow ps c (i + 1))

-- ---- the contexts
-- a script fails where one of its statements does, behind others
script_fails : (s : ScriptD) (choice : List Atom) (at : ℕ) (kind : FaultKind) (path : NamedValues) → FailsBehindEnds s choice at kind path → ScriptFails s choice at kind path
script_fails s choice at kind path h =
    let start = opening s.parameters choice in
    subst (λ z. ListFails z start at kind path) (sym h.body) (fails_snoc h.before h.one h.behind start h.fails.0 h.fails.1 at kind path h.fails.2 h.fails.3)

module _ (text : List ℕ) (s : ScriptD) (spelled : Spells text s) (scoped : IsWellScoped s) (o : Context) (opened : IsOpening s.parameters o) where
  abbrev n : ℕ
  n = length s.parameters

  module _ (ends : List Context) (are : AreEndsOf s o ends) where
    -- the lines of an end, as they are printed
    module _ (e d : Context) (there : Contains ends e) (p : IsPrinted e d) where
      pub same_admitted : (c : List Atom) → IsAdmitted c d → IsAdmitted c e
      same_admitted c adm = (adm.0 ∙ p.size, subst (λ u. IsTrue (holds c u)) p.«when» adm.1)

      pub prints_there : (c : List Atom) → IsAdmitted c d → PrintsAt s c d.lines
      prints_there c adm =
          let own = same_admitted c adm in
          prints_retold s e.size e.«when» c own.0 own.1 e.lines d.lines (printed_retold e.size e.«when» e.lines d.lines p.lines) (are.prints e there c own)

      shallow_there : (c : List Atom) → IsAdmitted c d → All (λ l. IsShallow (point l.term c)) d.lines
      shallow_there c adm =
          let at = prints_there c adm in
          lines_shallow c d.lines at.printed at.values (list_shallow s.body (opening s.parameters c) at.ends.0 at.printed at.ends.1 (opening_shallow s.parameters c 0)).1

      free_there : All (λ l. IsFreeName l.name) d.lines
      free_there =
          let c = sampled d.sample in
          let at = prints_there c (own_sample d) in
          lines_free c d.lines at.printed at.values (script_free text s spelled (opening s.parameters c) at.ends.0 at.printed at.ends.1)

      brackets_there : (l : LineD) → Contains d.lines l → IsNormal l.term d.«when» d.size → depth l.term ≤ 64
      brackets_there l inside normal =
          let own = own_sample d in
          normal_depth l.term d.«when» d.size 64 d.levels (All-contains (λ l. Fits d.size l.term) d.lines l d.fitting inside) normal (sampled d.sample, record { count = own.0; met = own.1 })
          (λ a m. All-contains (λ l. IsShallow (point l.term a)) d.lines l (shallow_there a (m.count, m.met)) inside)

      pub normal_there : (l : LineD) → Contains d.lines l → IsNormal l.term d.«when» d.size
      normal_there l inside =
          let from = zip_from (IsPrintedLine e.size e.«when») e.lines d.lines p.lines l inside in
          subst (λ k. IsNormal l.term d.«when» k) (sym p.size) (subst (λ u. IsNormal l.term u e.size) (sym p.«when») from.2.normal)

      pub guards_there : (l : LineD) → Contains d.lines l → HasNormalGuards l.term
      guards_there l inside = (zip_from (IsPrintedLine e.size e.«when») e.lines d.lines p.lines l inside).2.guards

      pub plain_there : (l : LineD) → Contains d.lines l → HasPlainGuards l.term d.«when» d.size
      plain_there l inside =
          let from = zip_from (IsPrintedLine e.size e.«when») e.lines d.lines p.lines l inside in
          subst (HasPlainGuards l.term d.«when») (sym p.size) (subst (λ u. HasPlainGuards l.term u e.size) (sym p.«when») from.2.plain)

      module _ (admits : AdmitsContext s.ordered e) (wide : ContextHasBoundedWidths e) where
        pub line_sound : (l : LineD) → Contains d.lines l → IsSoundLine s.ordered n l
        line_sound l inside =
            let from = zip_from (IsPrintedLine e.size e.«when») e.lines d.lines p.lines l inside in
            record {
              name = All-contains (λ l. IsFreeName l.name) d.lines l free_there inside;
              term = record {
                levels = subst (λ k. Fits k l.term) (are.sizes e there) from.2.levels;
                tags = from.2.tags;
                widths = from.2.widths (All-contains (λ l. HasBoundedWidths l.term) e.lines from.0 wide.lines from.1);
                operators = from.2.operators s.ordered (All-contains (λ l. AdmitsTerm s.ordered l.term) e.lines from.0 admits.lines from.1);
                strict = strict_of_plain l.term e.«when» e.size from.2.plain;
                brackets = brackets_there l inside (normal_there l inside);
              };
            }

        pub printed_admits : AdmitsContext s.ordered d
        printed_admits = record {
          «when» = subst (AdmitsConstraint s.ordered) (sym p.«when») admits.«when»;
          store = subst (All (λ x. AdmitsTerm s.ordered x.term)) (sym p.store) (All-nil (λ x. AdmitsTerm s.ordered x.term));
          lines = all_that_are (λ l. AdmitsTerm s.ordered l.term) d.lines (λ l inside. (line_sound l inside).term.operators);
        }

    -- the contexts that are printed, merged, and the cases that they become
    module _ (printed merged : List Context) (prints : AllZip IsPrinted ends printed) (merges : AreMerged printed merged) where
      printed_from : (d : Context) → Contains printed d → (e : Context) × Contains ends e × IsPrinted e d
      printed_from d there = zip_from IsPrinted ends printed prints d there

      merged_from : (m : Context) → Contains merged m → (c : List Atom) → IsAdmitted c m → (d : Context) × Contains printed d × IsAdmitted c d × HasSameContents d m
      merged_from m there c adm = All-contains (λ m. (c : List Atom) → IsAdmitted c m → HasSameContentsAsOne printed c m) merged m merges.like there c adm

      -- the printed context that the sample of a merged one is from
      home : (m : Context) → Contains merged m → (d : Context) × Contains printed d × IsAdmitted (sampled m.sample) d × HasSameContents d m
      home m there = merged_from m there (sampled m.sample) (own_sample m)

      merged_size : (m : Context) → Contains merged m → m.size ≡ n
      merged_size m there =
          let d = home m there in
          let e = printed_from d.0 d.1 in
          ap (λ (z : ℕ × List SlotD × List LineD). z.0) d.3 ∙ (e.2.size ∙ are.sizes e.0 e.1)

      merged_store : (m : Context) → Contains merged m → m.store ≡ []
      merged_store m there =
          let d = home m there in
          let e = printed_from d.0 d.1 in
          ap (λ (z : ℕ × List SlotD × List LineD). z.1) d.3 ∙ e.2.store

      like_lines : (d m : Context) → HasSameContents d m → m.lines ≡ d.lines
      like_lines d m like = ap (λ (z : ℕ × List SlotD × List LineD). z.2) like

      prints_merged : (m : Context) → Contains merged m → (c : List Atom) → IsAdmitted c m → PrintsAt s c m.lines
      prints_merged m there c adm =
          let d = merged_from m there c adm in
          let e = printed_from d.0 d.1 in
          subst (PrintsAt s c) (sym (like_lines d.0 m d.3)) (prints_there e.0 d.0 e.1 e.2 c d.2)

      printed_alike : (c : List Atom) → times c printed ≡ times c ends
      printed_alike c = times_alike IsPrinted (λ c k d is. admits_like c k d is.size is.«when») c ends printed prints

      once : (c : List Atom) → IsChoiceOf s c → times c merged ≡ 1
      once c count =
          let ended : times c ends ≡ 1 = are.choices c ∙ one_admits c o (opening_admits s.parameters o opened c count) in
          merges.choices apart c ∙ (printed_alike c ∙ ended)
        where
          apart : AreDisjoint printed
          apart b =
              let all : times b printed ≡ times b (o ∷ []) = printed_alike b ∙ are.choices b in
              omega (arith, all, one_apart o b)

      sound_printed : (d : Context) → Contains printed d → (l : LineD) → Contains d.lines l → IsSoundLine s.ordered n l
      sound_printed d there =
          let e = printed_from d there in
          line_sound e.0 d e.1 e.2 (All-contains (AdmitsContext s.ordered) ends e.0 are.operators e.1) (All-contains ContextHasBoundedWidths ends e.0 are.widths e.1)

      all_printed_admit : All (AdmitsContext s.ordered) printed
      all_printed_admit = all_that_are (AdmitsContext s.ordered) printed (λ d there.
          let e = printed_from d there in
          printed_admits e.0 d e.1 e.2 (All-contains (AdmitsContext s.ordered) ends e.0 are.operators e.1) (All-contains ContextHasBoundedWidths ends e.0 are.widths e.1))

      -- where a printed context admits a choice, the merged one that holds the same does too
      weaker_merged : (d m : Context) → Contains printed d → Contains merged m → HasSameContents d m → (u : List (List Lit)) → ConstraintFits n u → ((c : List Atom) → holds c u ≡ holds c m.«when») → IsWeaker n d.«when» u
      weaker_merged d m there among like u fits truth =
          let e = printed_from d there in
          let size : d.size ≡ n = e.2.size ∙ are.sizes e.0 e.1 in
          record {
            fits = subst (λ k. ConstraintFits k d.«when») size d.levels;
            weaker_fits = fits;
            implied = λ c count met.
                let kept = All-contains (λ k. (c : List Atom) → IsAdmitted c k → HasSameContentsAsOne merged c k) printed d merges.kept there c (count ∙ sym size, met) in
                let same : kept.0 ≡ m = same_held merged merges.different kept.0 m kept.1 among (sym kept.3 ∙ sym like) in
                truth c ∙ subst (λ k. IsTrue (holds c k.«when»)) same kept.2.1;
          }

      module _ (cases : List CaseD) (zips : AllZip IsCaseOf merged cases) where
        case_from : (c : CaseD) → Contains cases c → (m : Context) × Contains merged m × IsCaseOf m c
        case_from c there = zip_from IsCaseOf merged cases zips c there

        sizes : All (λ m. m.size ≡ n) merged
        sizes = all_that_are (λ m. m.size ≡ n) merged merged_size

        right_at : (c : List Atom) → IsChoiceOf s c → IsRightAt s cases c
        right_at c count =
            let r : Picked c merged cases = pick c n count merged cases zips sizes (once c count) in
            record {
              before = r.before;
              one = r.one;
              behind = r.behind;
              among = r.among;
              here = r.here;
              none_before = r.none_before;
              none_behind = r.none_behind;
              lines = subst (PrintsAt s c) (sym r.lines) (prints_merged r.from r.there c r.admitted);
            }

        case_met : (c : CaseD) → Contains cases c → HoldsSomewhere s c
        case_met c there =
            let m = case_from c there in
            let own = own_sample m.0 in
            (sampled m.0.sample, own.0 ∙ merged_size m.0 m.1, m.2.truth (sampled m.0.sample) ∙ own.1)

        case_fits : (c : CaseD) (m : Context) → Contains merged m → IsCaseOf m c → ConstraintFits n c.«when»
        case_fits c m there is = subst (λ k. ConstraintFits k c.«when») (merged_size m there) is.levels

        case_sound : (c : CaseD) → Contains cases c → IsSoundCase s.ordered n c
        case_sound c there =
            let m = case_from c there in
            let d = home m.0 m.1 in
            let admits : AdmitsContext s.ordered m.0 = All-contains (AdmitsContext s.ordered) merged m.0 (merges.operators s.ordered all_printed_admit) m.1 in
            record {
              levels = case_fits c m.0 m.1 m.2;
              operators = m.2.operators s.ordered admits.«when»;
              strict = m.2.plain.strict;
              lines = subst (All (IsSoundLine s.ordered n)) (sym (m.2.lines ∙ like_lines d.0 m.0 d.3)) (all_that_are (IsSoundLine s.ordered n) d.0.lines (sound_printed d.0 d.1));
            }

        case_normal : (c : CaseD) → Contains cases c → IsNormalCase n c
        case_normal c there =
            let m = case_from c there in
            let d = home m.0 m.1 in
            let e = printed_from d.0 d.1 in
            let weaker : IsWeaker n d.0.«when» c.«when» = weaker_merged d.0 m.0 d.1 m.1 d.3 c.«when» (case_fits c m.0 m.1 m.2) m.2.truth in
            let each : All (IsNormalLine n c.«when») d.0.lines = all_that_are (IsNormalLine n c.«when») d.0.lines (λ l inside. (
              normal_weaker l.term d.0.«when» c.«when» n weaker (sound_printed d.0 d.1 l inside).term.levels
                  (subst (λ k. IsNormal l.term d.0.«when» k) (e.2.size ∙ are.sizes e.0 e.1) (normal_there e.0 d.0 e.1 e.2 l inside)),
              guards_there e.0 d.0 e.1 e.2 l inside,
            )) in
            (m.2.normalised, subst (All (IsNormalLine n c.«when»)) (sym (m.2.lines ∙ like_lines d.0 m.0 d.3)) each)

        case_plain : (c : CaseD) → Contains cases c → IsPlainCase n c
        case_plain c there =
            let m = case_from c there in
            let d = home m.0 m.1 in
            let e = printed_from d.0 d.1 in
            let weaker : IsWeaker n d.0.«when» c.«when» = weaker_merged d.0 m.0 d.1 m.1 d.3 c.«when» (case_fits c m.0 m.1 m.2) m.2.truth in
            let Each : LineD → Type 0 = λ l. HasPlainGuards l.term c.«when» n in
            let each : All Each d.0.lines = all_that_are Each d.0.lines (λ l inside. plain_weaker l.term d.0.«when» c.«when» n weaker (sound_printed d.0 d.1 l inside).term.levels
            (subst (HasPlainGuards l.term d.0.«when») (e.2.size ∙ are.sizes e.0 e.1) (plain_there e.0 d.0 e.1 e.2 l inside))) in
            (subst (IsPlain c.«when» ([] ∷ [])) (merged_size m.0 m.1) m.2.plain, subst (All Each) (sym (m.2.lines ∙ like_lines d.0 m.0 d.3)) each)

        pub interpreted : (r : Results) → r.order ≡ s.ordered → r.parameters ≡ map parameter_name s.parameters → r.cases ≡ cases → AreResultsOf s r
        interpreted r order parameters is = record {
          sound = sound;
          structure = order;
          parameters = parameters;
          met = met;
          choices = choices;
          normal = subst (All (IsNormalCase n)) (sym is) (all_that_are (IsNormalCase n) cases case_normal);
          plain = subst (All (IsPlainCase n)) (sym is) (all_that_are (IsPlainCase n) cases case_plain);
          different = subst (λ k. AllPairs (λ x y. x ≡ y → ⊥) (map lines_of k)) (sym is) (cases_apart n merged cases zips sizes (all_that_are (λ m. m.store ≡ []) merged merged_store) merges.different);
          few = few_enough s r sound parameters met choices;
        }
          where
            sound : IsSound r
            sound = record {
              parameters = subst AreParameters (sym parameters) (are_parameters text s spelled scoped);
              cases = subst (λ k. All (IsSoundCase r.order k) r.cases) (sym (ap length parameters ∙ length-map s.parameters parameter_name)) (subst (λ x. All (IsSoundCase x n) r.cases) (sym order) (subst (All (IsSoundCase s.ordered n)) (sym is) (all_that_are (IsSoundCase s.ordered n) cases case_sound)));
            }

            met : All (HoldsSomewhere s) r.cases
            met = subst (All (HoldsSomewhere s)) (sym is) (all_that_are (HoldsSomewhere s) cases case_met)

            choices : (c : List Atom) → IsChoiceOf s c → IsRightAt s r.cases c
            choices c count = subst (λ k. IsRightAt s k c) (sym is) (right_at c count)

  -- ---- a fault, whose elements are split
  pub failure_of : (l : List StmtD) → s.body ≡ stmts_of l → (f g : Fault) → IsSplitFault f g → FailsBehind s.ordered l o f → IsFailureOf s g
  failure_of l is f g split h =
      let bad = h.within in
      let count : length (take o.size (sampled f.sample.items)) ≡ o.size = (bad.fails_at (sampled f.sample.items) (alike_itself s.ordered f.sample.items)).admitted.0 in
      let levels : LinesFit (length f.sample.items) g.elements = split_all (λ l. Fits (length f.sample.items) l.term) (λ l. Fits (length f.sample.items) l.term) (λ l r is. is.levels (length f.sample.items)) f.elements g.elements split.elements bad.elements.levels in
      let body : s.body ≡ stmts_of (h.before ++ h.one ∷ h.behind) = is ∙ ap stmts_of h.whole in
      record {
        enough = omega (arith, count, opened.size, length-take o.size (sampled f.sample.items), length-map f.sample.items whole, ap length split.sample);
        fails_at = λ c stand.
            let there = bad.fails_at c (subst (λ k. AreAlike s.ordered (sampled k) c) split.sample stand) in
            let FailsBehindThem : NamedValues → Type 0 = λ st. (t lines : NamedValues) × ListEnds (stmts_of h.before) st t lines × StmtFails h.one t f.pos.offset f.kind there.path in
            let here : FailsBehindEnds s (take n c) f.pos.offset f.kind there.path = record {
              before = h.before;
              one = h.one;
              behind = h.behind;
              body = body;
              end_always = λ c size. let e = h.end_always c (opening_admits s.parameters o opened c size) in (e.0, e.1, subst (λ st. ListEnds (stmts_of h.before) st e.0 e.1) (opens_at s.parameters o opened c) e.2);
              fails = subst (λ k. FailsBehindThem (opening s.parameters (take k c))) opened.size (subst FailsBehindThem (opens_at s.parameters o opened (take o.size c)) there.failed);
            } in
            let first : FailsBehindEnds s (take n c) g.pos.offset g.kind there.path =
            subst (λ z. FailsBehindEnds s (take n c) z.offset g.kind there.path) (sym split.pos)
            (subst (λ z. FailsBehindEnds s (take n c) f.pos.offset z there.path) (sym split.kind) here) in
            record {
              path = there.path;
              failed = script_fails s (take n c) g.pos.offset g.kind there.path first;
              first = first;
              named = split_named c there.path f.elements g.elements split.elements there.named;
            };
        levels = subst (λ k. LinesFit (length k) g.elements) (sym split.sample) levels;
        brackets = split_all (λ l. depth l.term ≤ 64) (λ l. depth l.term ≤ 64) (λ l r is most. subst (λ k. k ≤ 64) (sym is.depth) most) f.elements g.elements split.elements bad.elements.brackets;
        operators = split_all (λ l. AdmitsTerm s.ordered l.term) (λ l. AdmitsTerm s.ordered l.term) (λ l r is. is.operators s.ordered) f.elements g.elements split.elements
            (bad.elements.operators s.ordered (subst (λ z. IsWellFormedIn (BlockIsWellScoped z) s.ordered o) body (body_placed s text o spelled scoped opened s.ordered refl)));
        widths = split_all (λ l. HasBoundedWidths l.term) (λ l. HasBoundedWidths l.term) (λ l r is. is.widths) f.elements g.elements split.elements (bad.elements.widths (opening_widths s.parameters o opened));
        strict = split_strict f.elements g.elements split.elements;
      }
