-- The case that holds at a choice: there is at most one.
use Rattle.std.proofs.Common.{◌≡◌, ℕ, suc, ◌+◌, List, [], ◌∷◌, ◌++◌, length, drop, refl, sym, ap, subst, ◌∙◌, arith}
use Rattle.std.proofs.lemmas.List.{length-append, append_assoc, drop_at}
use Rattle.std.proofs.lemmas.List.Elements.{All-head, All-tail}
use Rattle.lois_base.specs.Atom.{Atom}
use Rattle.lois_base.proofs.Lists.{all_right}
use Rattle.lois_answers.specs.ResultsData.{CaseD}
use Rattle.lois_cases.specs.Cases.{HoldsAt, NoneHoldsAt, IsCase, IsTheCaseAt, BothHoldAt}
use Rattle.lois_cases.specs.Holding.{IsHolding, IsFirstAt}
use Rattle.lois_cases.specs.declared.holding.Holding.TheVariants.{Once, Twice}

-- ---- lists of cases that are parted at two of them
none_here : (c : List Atom) (before behind : List CaseD) (l : CaseD) → NoneHoldsAt c (before ++ l ∷ behind) → HoldsAt c l → ⊥
none_here c before behind l none here =
    All-head (λ k. HoldsAt c k → ⊥) l behind (all_right (λ k. HoldsAt c k → ⊥) before (l ∷ behind) none) here

first_is : (x y : CaseD) (xs ys : List CaseD) → x ∷ xs ≡ y ∷ ys → x ≡ y
first_is x y xs ys e = cc

rest_is : (x y : CaseD) (xs ys : List CaseD) → x ∷ xs ≡ y ∷ ys → xs ≡ ys
rest_is x y xs ys e = cc

-- one that holds is the one before and behind which none does
one_of : (c : List Atom) (before before' behind behind' : List CaseD) (k l : CaseD) → before ++ k ∷ behind ≡ before' ++ l ∷ behind' → NoneHoldsAt c before → NoneHoldsAt c behind → HoldsAt c l → (length before ≡ length before') × (k ≡ l)
one_of c [] [] behind behind' k l e none_before none_behind here = (refl, first_is k l behind behind' e)
one_of c [] (x ∷ before') behind behind' k l e none_before none_behind here =
    absurd (none_here c before' behind' l (subst (NoneHoldsAt c) (rest_is k x behind (before' ++ l ∷ behind') e) none_behind) here)
one_of c (x ∷ before) [] behind behind' k l e none_before none_behind here =
    absurd (All-head (λ z. HoldsAt c z → ⊥) x before none_before (subst (HoldsAt c) (sym (first_is x l (before ++ k ∷ behind) behind' e)) here))
one_of c (x ∷ before) (y ∷ before') behind behind' k l e none_before none_behind here =
    let rest = one_of c before before' behind behind' k l (rest_is x y (before ++ k ∷ behind) (before' ++ l ∷ behind') e) (All-tail (λ z. HoldsAt c z → ⊥) x before none_before) none_behind here in
    (ap suc rest.0, rest.1)

-- ---- the case at a choice
-- a case that holds where exactly one does is that one
pub the_case : (c : List Atom) (cases : List CaseD) (i j : ℕ) (k l : CaseD) → IsTheCaseAt c cases i k → IsCase cases j l → HoldsAt c l → (i ≡ j) × (k ≡ l)
the_case c cases i j k l one other here =
    let same = one_of c one.case.before other.before one.case.behind other.behind k l (sym one.case.among ∙ other.among) one.none_before one.none_behind here in
    (one.case.number ∙ (ap (λ n. n + 1) same.0 ∙ sym other.number), same.1)

-- a choice has one such case
pub one_case : (c : List Atom) (cases : List CaseD) (i j : ℕ) (k l : CaseD) → IsTheCaseAt c cases i k → IsTheCaseAt c cases j l → (i ≡ j) × (k ≡ l)
one_case c cases i j k l one other = the_case c cases i j k l one other.case other.here

-- ---- the first that holds, and the first behind it
behind_first : (before behind : List CaseD) (k : CaseD) (cases : List CaseD) (i : ℕ) → cases ≡ before ++ k ∷ behind → i ≡ length before → drop (i + 1) cases ≡ behind
behind_first before behind k cases i e is =
    ap (drop (i + 1)) (e ∙ sym (append_assoc before (k ∷ []) behind)) ∙ drop_at (before ++ k ∷ []) behind (i + 1) (length-append before (k ∷ []) ∙ ap (λ n. n + 1) (sym is))

pub holds_once : (c : List Atom) (cases : List CaseD) (i : ℕ) → IsFirstAt c cases i → NoneHoldsAt c (drop (i + 1) cases) → IsHolding c cases (Once (i + 1))
holds_once c cases i first none =
    let case : IsCase cases (i + 1) first.here = record { before = first.before; behind = first.behind; among = first.among; number = ap (λ n. n + 1) first.index } in (
      first.here,
      record {
        case = case;
        here = first.holds_here;
        none_before = first.none_before;
        none_behind = subst (NoneHoldsAt c) (behind_first first.before first.behind first.here cases i first.among first.index) none;
      },
    )

-- two cases that stand at their places in a list that is parted twice
pub both_hold : (c : List Atom) (cases before before' behind : List CaseD) (k l : CaseD) (i j : ℕ) → cases ≡ before ++ k ∷ (before' ++ l ∷ behind) → i ≡ length before → j ≡ length before' → HoldsAt c k → HoldsAt c l → BothHoldAt c cases (i + 1) (i + j + 2)
both_hold c cases before before' behind k l i j e first second here there = (
  k,
  l,
  omega arith,
  record { before = before; behind = before' ++ l ∷ behind; among = e; number = ap (λ n. n + 1) first },
  record {
    before = before ++ k ∷ before';
    behind = behind;
    among = e ∙ sym (append_assoc before (k ∷ before') (l ∷ behind));
    number = omega (arith, length-append before (k ∷ before'), first, second);
  },
  here,
  there,
)

pub holds_twice : (c : List Atom) (cases : List CaseD) (i j : ℕ) → IsFirstAt c cases i → IsFirstAt c (drop (i + 1) cases) j → IsHolding c cases (Twice (i + 1) (i + j + 2))
holds_twice c cases i j first second =
    both_hold c cases first.before second.before second.behind first.here second.here i j
    (first.among ∙ ap (λ z. first.before ++ first.here ∷ z) (sym (behind_first first.before first.behind first.here cases i first.among first.index) ∙ second.among)) first.index second.index first.holds_here second.holds_here
