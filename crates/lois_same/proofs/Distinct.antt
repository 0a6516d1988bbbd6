-- Results that differ aren't the same.
use Rattle.std.proofs.Common.{◌≡◌, ℕ, suc, Bool, true, false, List, [], ◌∷◌, ◌++◌, length, take, refl, sym, ap, subst, ◌∙◌, arith}
use Rattle.std.proofs.lemmas.List.{length-map, length-take-le}
use Rattle.lois_base.specs.Atom.{Atom, whole}
use Rattle.lois_base.specs.Values.{PointValue, point, IsSame}
use Rattle.lois_base.proofs.Members.{same_sym, member_in, same_in}
use Rattle.lois_answers.specs.ResultsData.{LineD}
use Rattle.lois_cases.proofs.OneCase.{the_case}
use Rattle.lois_context.specs.LineValues.{line_values}
use Rattle.lois_meaning.specs.Store.{AreSameNamed}
use Rattle.lois_shortest_word.specs.Words.{first_sampled}
use Rattle.lois_same.specs.Same.{HaveSameLinesAt}
use Rattle.lois_same.specs.Contrasts.{IsInOneAlone, LinesContrast, LinesContrastAt, IsDetail}
use Rattle.lois_same.specs.Laws.{ContrastsAreDifferences}
use Rattle.lois_same.specs.declared.contrasts.Detail.{Detail}
use Rattle.lois_same.specs.declared.contrasts.Detail.TheVariants.{Count, Names, Values, Member}

as_many : (c : List Atom) (ls ms : List LineD) → AreSameNamed (line_values c ls) (line_values c ms) → length ls ≡ length ms
as_many c [] [] h = refl
as_many c [] (m ∷ ms) h = absurd h
as_many c (l ∷ ls) [] h = absurd h
as_many c (l ∷ ls) (m ∷ ms) h = ap suc (as_many c ls ms h.2)

-- two lines that stand at one place
same_at : (c : List Atom) (before before' behind behind' : List LineD) (l m : LineD) → length before ≡ length before' → AreSameNamed (line_values c (before ++ l ∷ behind)) (line_values c (before' ++ m ∷ behind')) → (l.name ≡ m.name) × IsSame (point l.term c) (point m.term c)
same_at c [] [] behind behind' l m e h = (h.0, h.1)
same_at c [] (y ∷ before') behind behind' l m e h = absurd (omega (arith, e))
same_at c (x ∷ before) [] behind behind' l m e h = absurd (omega (arith, e))
same_at c (x ∷ before) (y ∷ before') behind behind' l m e h = same_at c before before' behind behind' l m (omega (arith, e)) h.2

not_alone : (first : Bool) (u v w : PointValue) → IsSame v w → IsInOneAlone first u v w → ⊥
not_alone true u v w same (member, alone) = alone (same_in u v w same (member_in u v member))
not_alone false u v w same (member, alone) = alone (same_in u w v (same_sym v w same) (member_in u w member))

lines_differ : (n : ℕ) (s : List ℕ) (l m : LineD) (d : Detail) → LinesContrast n s l m d → l.name ≡ m.name → IsSame (point l.term (first_sampled n s)) (point m.term (first_sampled n s)) → ⊥
lines_differ n s l m (Count k j) h name same = h
lines_differ n s l m (Names i a b) (one, other, apart) name same = apart (sym one ∙ (name ∙ other))
lines_differ n s l m (Values i a) (one, other, apart) name same = apart.0 same
lines_differ n s l m (Member i a t first) (one, other, fits, alone) name same = not_alone first _ _ _ same alone

place_differs : (n : ℕ) (s : List ℕ) (ls ms : List LineD) (i : ℕ) (d : Detail) → LinesContrastAt n s ls ms i d → AreSameNamed (line_values (first_sampled n s) ls) (line_values (first_sampled n s) ms) → ⊥
place_differs n s ls ms i d (l, m, first, second, contrast) same =
    let c = first_sampled n s in
    let parted = subst (λ z. AreSameNamed (line_values c z) (line_values c (second.before ++ m ∷ second.behind))) first.among (subst (λ z. AreSameNamed (line_values c ls) (line_values c z)) second.among same) in
    let one = same_at c first.before second.before first.behind second.behind l m (omega (arith, first.number, second.number)) parted in
    lines_differ n s l m d contrast one.0 one.1

detail_differs : (n : ℕ) (s : List ℕ) (ls ms : List LineD) (d : Detail) → IsDetail n s ls ms d → AreSameNamed (line_values (first_sampled n s) ls) (line_values (first_sampled n s) ms) → ⊥
detail_differs n s ls ms (Count k j) (one, other, apart) same = apart (one ∙ (as_many (first_sampled n s) ls ms same ∙ sym other))
detail_differs n s ls ms (Names i a b) h same = place_differs n s ls ms i (Names i a b) h same
detail_differs n s ls ms (Values i a) h same = place_differs n s ls ms i (Values i a) h same
detail_differs n s ls ms (Member i a t first) h same = place_differs n s ls ms i (Member i a t first) h same

pub contrasts_are_differences : ContrastsAreDifferences
contrasts_are_differences r q d (first, second) is same =
    let n = length r.parameters in
    let c = first_sampled n d.sample in
    let count : length c ≡ n = length-map (take n d.sample) whole ∙ length-take-le n d.sample is.count in
    let one = first c count in
    let other = second c (count ∙ ap length same.parameters) in
    let this = (the_case c r.cases one.0 d.first one.1 is.first one.2 is.first_case is.first_holds).1 in
    let that = (the_case c q.cases other.0 d.second other.1 is.second other.2 is.second_case is.second_holds).1 in
    let lines = same.lines c count one.0 other.0 one.1 other.1 one.2 other.2 in
    detail_differs n d.sample is.first.lines is.second.lines d.detail is.detail (subst (λ z. HaveSameLinesAt c z is.second) this (subst (HaveSameLinesAt c one.1) that lines))
