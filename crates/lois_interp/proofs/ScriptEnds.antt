-- The contexts in which a script ends, whatever lines their values are told by and whichever of them are put together.
use Rattle.std.proofs.Common.{◌≡◌, ℕ, ◌&&◌, nat_eq, List, [], ◌∷◌, ◌++◌, length, IsTrue, refl, sym, ap, ◌∙◌, subst, arith}
use Rattle.std.specs.List.{All, AllZip, Contains}
use Rattle.std.proofs.lemmas.List.Elements.{All-contains}
use Rattle.lois_base.specs.Atom.{Atom}
use Rattle.lois_base.specs.Truth.{holds, sampled}
use Rattle.lois_base.specs.Values.{point}
use Rattle.lois_base.specs.declared.guards.Lit.{Lit}
use Rattle.lois_base.proofs.Lists.{all_one}
use Rattle.lois_base.proofs.Members.{same_sym}
use Rattle.lois_answers.specs.ResultsData.{LineD}
use Rattle.lois_script.specs.Limits.{Spells}
use Rattle.lois_script.specs.Scope.{IsWellScoped}
use Rattle.lois_script.specs.Tree.{ScriptD}
use Rattle.lois_meaning.specs.Runs.{ListEnds}
use Rattle.lois_meaning.specs.Store.{AreSameNamed}
use Rattle.lois_meaning.proofs.Stores.{named_refl, named_trans}
use Rattle.lois_context.specs.Choices.{IsAdmitted, AdmitsContext, ContextHasBoundedWidths}
use Rattle.lois_context.specs.Counted.{admits, AdmitAlike}
use Rattle.lois_context.specs.Merged.{AreDisjoint, HasSameContentsAsOne, AreMerged}
use Rattle.lois_context.specs.Slots.{SlotD}
use Rattle.lois_context.specs.LineValues.{line_values}
use Rattle.lois_context.specs.declared.contexts.Context.{Context}
use Rattle.lois_context.proofs.Counts.{admits_like}
use Rattle.lois_eval.specs.WellFormed.{IsWellFormedIn}
use Rattle.lois_eval.proofs.FaultsAt.{own_sample}
use Rattle.lois_interp.specs.Interpreted.{PrintsAt}
use Rattle.lois_interp.specs.Opened.{IsOpening}
use Rattle.lois_interp.specs.Reached.{IsReachedAt, RunsAs}
use Rattle.lois_interp.specs.Retold.{IsRetoldLine, IsRetold, AreRetold, HasConditionLike, AreJoined}
use Rattle.lois_interp.specs.Run.{block_run}
use Rattle.lois_interp.specs.WellScoped.{BlockIsWellScoped}
use Rattle.lois_interp.proofs.Compose.{one_apart}
use Rattle.lois_interp.proofs.Kept.{as_reached}
use Rattle.lois_interp.proofs.Lists.{only_one}
use Rattle.lois_interp.proofs.OneCase.{zip_from, times_alike}
use Rattle.lois_interp.proofs.Opened.{opens_at, opening_widths, body_placed}
use Rattle.lois_interp.proofs.Retold.{conditions_admit, conditions_widths}

-- Each choice that the opening admits is admitted by one of the contexts, with lines that have the values that the script prints there.
pub record AreEndsOf (s : ScriptD) (o : Context) (ks : List Context) : Type 0 where
  pub sizes : (k : Context) → Contains ks k → k.size ≡ length s.parameters
  pub prints : (k : Context) → Contains ks k → (c : List Atom) → IsAdmitted c k → PrintsAt s c k.lines
  pub choices : AdmitAlike (o ∷ []) ks
  pub operators : All (AdmitsContext s.ordered) ks
  pub widths : All ContextHasBoundedWidths ks

-- ---- lines with the same values
pub retold_same : (n : ℕ) (u : List (List Lit)) (c : List Atom) → length c ≡ n → IsTrue (holds c u) → (ls ms : List LineD) → AllZip (IsRetoldLine n u) ls ms → AreSameNamed (line_values c ms) (line_values c ls)
retold_same n u c count met [] [] h = tt
retold_same n u c count met [] (m ∷ ms) h = absurd h
retold_same n u c count met (l ∷ ls) [] h = absurd h
retold_same n u c count met (l ∷ ls) (m ∷ ms) h =
    (h.0.name, same_sym (point l.term c) (point m.term c) (h.0.value c count met), retold_same n u c count met ls ms h.1)

pub prints_retold : (s : ScriptD) (n : ℕ) (u : List (List Lit)) (c : List Atom) → length c ≡ n → IsTrue (holds c u) → (ls ms : List LineD) → AllZip (IsRetoldLine n u) ls ms → PrintsAt s c ls → PrintsAt s c ms
prints_retold s n u c count met ls ms h p = record {
  printed = p.printed;
  ends = p.ends;
  values = named_trans (line_values c ms) (line_values c ls) p.printed (retold_same n u c count met ls ms h) p.values;
}

-- ---- what a run comes to
pub run_ends : (text : List ℕ) (s : ScriptD) → Spells text s → IsWellScoped s → (o : Context) → IsOpening s.parameters o → (ends : List Context) → RunsAs (block_run s.body) o ends → AreEndsOf s o ends
run_ends text s spelled scoped o opened ends runs = record {
  sizes = λ e there. (as_reached (block_run s.body) o ends runs e there).size ∙ opened.size;
  prints = prints;
  choices = runs.choices;
  operators = runs.operators s.ordered (all_one (IsWellFormedIn (BlockIsWellScoped s.body) s.ordered) o (body_placed s text o spelled scoped opened s.ordered refl));
  widths = runs.widths (all_one ContextHasBoundedWidths o (opening_widths s.parameters o opened));
}
  where
    prints : (e : Context) → Contains ends e → (c : List Atom) → IsAdmitted c e → PrintsAt s c e.lines
    prints e there c adm =
        let from = runs.reached e there c adm in
        let reached : IsReachedAt (block_run s.body) o e c = subst (λ k. IsReachedAt (block_run s.body) k e c) (sym (only_one o from.0 from.1)) from.2 in
        let at = reached.ends_there in
        let block = at.run in
        record {
          printed = at.printed;
          ends = (block.0, subst (λ st. ListEnds s.body st block.0 at.printed) (opens_at s.parameters o opened c) block.1);
          values = subst (AreSameNamed (line_values c e.lines)) (at.lines ∙ ap (λ ls. line_values c ls ++ at.printed) opened.lines) (named_refl (line_values c e.lines));
        }

condition_admitted : (c : List Atom) (k d : Context) → HasConditionLike k d → admits c d ≡ admits c k
condition_admitted c k d like = ap (λ n. nat_eq (length c) n && holds c d.«when») like.size ∙ ap (λ b. nat_eq (length c) k.size && b) (like.truth c)

module _ (s : ScriptD) (o : Context) (ks : List Context) (are : AreEndsOf s o ks) where
  -- ---- other lines
  pub retold_ends : (ds : List Context) → AreRetold ks ds → AreEndsOf s o ds
  retold_ends ds told = record {
    sizes = λ d there. let k = from d there in k.2.size ∙ are.sizes k.0 k.1;
    prints = λ d there c adm.
        let k = from d there in
        let count : length c ≡ k.0.size = adm.0 ∙ k.2.size in
        let met : IsTrue (holds c k.0.«when») = subst (λ u. IsTrue (holds c u)) k.2.«when» adm.1 in
        prints_retold s k.0.size k.0.«when» c count met k.0.lines d.lines k.2.lines (are.prints k.0 k.1 c (count, met));
    choices = λ c. times_alike IsRetold (λ c k d is. admits_like c k d is.size is.«when») c ks ds told.each ∙ are.choices c;
    operators = told.operators s.ordered are.operators;
    widths = told.widths are.widths;
  }
    where
      from : (d : Context) → Contains ds d → (k : Context) × Contains ks k × IsRetold k d
      from d there = zip_from IsRetold ks ds told.each d there

  -- ---- contexts that are put together
  pub merged_ends : (ds : List Context) → AreMerged ks ds → AreEndsOf s o ds
  merged_ends ds merges = record {
    sizes = λ d there.
        let k = one d there (sampled d.sample) (own_sample d) in
        ap (λ (z : ℕ × List SlotD × List LineD). z.0) k.3 ∙ are.sizes k.0 k.1;
    prints = λ d there c adm.
        let k = one d there c adm in
        subst (PrintsAt s c) (sym (ap (λ (z : ℕ × List SlotD × List LineD). z.2) k.3)) (are.prints k.0 k.1 c k.2);
    choices = λ c. merges.choices apart c ∙ are.choices c;
    operators = merges.operators s.ordered are.operators;
    widths = merges.widths are.widths;
  }
    where
      one : (d : Context) → Contains ds d → (c : List Atom) → IsAdmitted c d → HasSameContentsAsOne ks c d
      one d there = All-contains (λ d. (c : List Atom) → IsAdmitted c d → HasSameContentsAsOne ks c d) ds d merges.like there

      apart : AreDisjoint ks
      apart c = let all = are.choices c in omega (arith, all, one_apart o c)

  -- ---- conditions that hold at the same choices
  pub shorter_ends : (ds : List Context) → AllZip HasConditionLike ks ds → AreEndsOf s o ds
  shorter_ends ds like = record {
    sizes = λ d there. let k = from d there in k.2.size ∙ are.sizes k.0 k.1;
    prints = λ d there c adm.
        let k = from d there in
        subst (PrintsAt s c) (sym k.2.lines) (are.prints k.0 k.1 c (adm.0 ∙ k.2.size, subst IsTrue (k.2.truth c) adm.1));
    choices = λ c. times_alike HasConditionLike condition_admitted c ks ds like ∙ are.choices c;
    operators = conditions_admit ks ds like s.ordered are.operators;
    widths = conditions_widths ks ds like are.widths;
  }
    where
      from : (d : Context) → Contains ds d → (k : Context) × Contains ks k × HasConditionLike k d
      from d there = zip_from HasConditionLike ks ds like d there

pub joined_ends : (s : ScriptD) (o : Context) (ks ds : List Context) → AreEndsOf s o ks → AreJoined ks ds → AreEndsOf s o ds
joined_ends s o ks ds are joined = shorter_ends s o joined.between (merged_ends s o ks are joined.between joined.merged) ds joined.conditions
