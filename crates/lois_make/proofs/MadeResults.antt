-- The results of the made script.
use Rattle.std.proofs.Common.{◌≡◌, ℕ, List, [], ◌∷◌, ◌++◌, length, refl, ◌∙◌, subst}
use Rattle.std.specs.Prelude.{Bool, false, codes}
use Rattle.std.specs.List.{All}
use Rattle.std.proofs.lemmas.List.{nil_from_length}
use Rattle.std.proofs.lemmas.List.Elements.{All-head, All-tail}
use Rattle.lois_base.specs.Values.{PointValue, point, IsSame}
use Rattle.lois_base.proofs.Members.{same_sym}
use Rattle.lois_answers.specs.ResultsData.{LineD, CaseD}
use Rattle.lois_answers.specs.Sound.{IsSoundTerm, IsSoundLine, IsSoundCase}
use Rattle.lois_answers.specs.declared.results.Results.{Results}
use Rattle.lois_context.specs.LineValues.{line_values}
use Rattle.lois_interp.specs.Interpreted.{HoldsAt, HoldsSomewhere, IsNormalLine, IsNormalCase, IsRightAt, AreResultsOf}
use Rattle.lois_meaning.specs.Kinds.{IsSetOf}
use Rattle.lois_meaning.specs.Store.{named, AreSameNamed}
use Rattle.lois_meaning.proofs.Alike.{set_of_to}
use Rattle.lois_meaning.proofs.Stores.{named_trans}
use Rattle.lois_meaning.proofs.TheLaws.{determined}
use Rattle.lois_make.specs.Laws.{ResultsHaveMadeCounts}
use Rattle.lois_make.specs.MadeTree.{made_tree}
use Rattle.lois_make.specs.MadeValue.{IsMade}
use Rattle.lois_make.proofs.MadeCounts.{normal_has_one_for_each}
use Rattle.lois_make.proofs.MadeEnds.{made_ends}

-- a script without parameters has one choice, so each case holds there
here : (n : ℕ) (c : CaseD) → HoldsSomewhere (made_tree n) c → HoldsAt [] c
here n c (choice, count, holds) = subst (λ z. HoldsAt z c) (nil_from_length choice count) holds

only_case : (n : ℕ) (before : List CaseD) (one : CaseD) (behind : List CaseD) → All (HoldsSomewhere (made_tree n)) (before ++ one ∷ behind) → All (λ c. HoldsAt [] c → ⊥) before → All (λ c. HoldsAt [] c → ⊥) behind → before ++ one ∷ behind ≡ one ∷ []
only_case n [] one [] met none_before none_behind = refl
only_case n [] one (c ∷ cs) met none_before none_behind =
    let met_c = All-head (HoldsSomewhere (made_tree n)) c cs (All-tail (HoldsSomewhere (made_tree n)) one (c ∷ cs) met) in
    absurd (All-head (λ x. HoldsAt [] x → ⊥) c cs none_behind (here n c met_c))
only_case n (c ∷ cs) one behind met none_before none_behind =
    absurd (All-head (λ x. HoldsAt [] x → ⊥) c cs none_before (here n c (All-head (HoldsSomewhere (made_tree n)) c (cs ++ one ∷ behind) met)))

-- lines that print one name
pub record IsOneLine (name : List ℕ) (v : PointValue) (lines : List LineD) : Type 0 where
  pub line : LineD
  pub is : lines ≡ line ∷ []
  pub same_name : line.name ≡ name
  pub value : IsSame (point line.term []) v

one_line : (name : List ℕ) (v : PointValue) (lines : List LineD) → AreSameNamed (line_values [] lines) (named name v ∷ []) → IsOneLine name v lines
one_line name v [] h = absurd h
one_line name v (l ∷ []) h = record { line = l; is = refl; same_name = h.0; value = h.1 }
one_line name v (l ∷ m ∷ ls) h = absurd h.2

sound_line : (r : Results) (n : ℕ) (one : CaseD) (l : LineD) → AreResultsOf (made_tree n) r → r.cases ≡ one ∷ [] → one.lines ≡ l ∷ [] → IsSoundTerm false 0 l.term
sound_line r n one l results cases lines =
    let case_sound = All-head (IsSoundCase r.order (length r.parameters)) one [] (subst (All (IsSoundCase r.order (length r.parameters))) cases results.sound.cases) in
    let line_sound = All-head (IsSoundLine r.order (length r.parameters)) l [] (subst (All (IsSoundLine r.order (length r.parameters))) lines case_sound.lines) in
    subst (λ (k : Bool). IsSoundTerm k 0 l.term) results.structure (subst (λ (ps : List (List ℕ)). IsSoundTerm r.order (length ps) l.term) results.parameters line_sound.term)

normal_line : (r : Results) (n : ℕ) (one : CaseD) (l : LineD) → AreResultsOf (made_tree n) r → r.cases ≡ one ∷ [] → one.lines ≡ l ∷ [] → IsNormalLine 0 one.«when» l
normal_line r n one l results cases lines =
    let case_normal = All-head (IsNormalCase 0) one [] (subst (All (IsNormalCase 0)) cases results.normal) in
    All-head (IsNormalLine 0 one.«when») l [] (subst (All (IsNormalLine 0 one.«when»)) lines case_normal.1)

pub results_have_made_counts : ResultsHaveMadeCounts
results_have_made_counts n r results =
    let right : IsRightAt (made_tree n) r.cases [] = results.choices [] refl in
    let met = subst (All (HoldsSomewhere (made_tree n))) right.among results.met in
    let cases : r.cases ≡ right.one ∷ [] = right.among ∙ only_case n right.before right.one right.behind met right.none_before right.none_behind in
    let made = made_ends n [] in
    let same = (determined.scripts (made_tree n) [] right.lines.printed (named (codes "s") made.pairs ∷ []) right.lines.ends made.ends) in
    let line = one_line (codes "s") made.pairs right.one.lines (named_trans (line_values [] right.one.lines) right.lines.printed (named (codes "s") made.pairs ∷ []) right.lines.values same) in
    let set : IsSetOf (point line.line.term []) (IsMade n) = set_of_to (IsMade n) made.pairs (point line.line.term []) (same_sym (point line.line.term []) made.pairs line.value) made.members in
    let sound = sound_line r n right.one line.line results cases line.is in
    let normal = normal_line r n right.one line.line results cases line.is in
    record {
      one = right.one;
      line = line.line;
      cases = cases;
      lines = line.is;
      name = line.same_name;
      comprehensions = normal_has_one_for_each n line.line.term right.one.«when» sound.levels sound.operators normal.0 set;
    }
