-- The first case of which something isn't true is one case alone.
use Rattle.std.proofs.Common.{◌≡◌, suc, List, [], ◌∷◌, ◌++◌, length, refl, sym, ap, subst}
use Rattle.std.specs.List.{All}
use Rattle.std.proofs.lemmas.List.Elements.{All-head, All-tail}
use Rattle.lois_answers.specs.ResultsData.{CaseD}

module _ (P : CaseD → Type 0) where
  pub all_here : (before after : List CaseD) (here : CaseD) → All P (before ++ here ∷ after) → P here
  all_here [] after here h = All-head P here after h
  all_here (c ∷ before) after here h = all_here before after here (All-tail P c (before ++ here ∷ after) h)

  head_is : (x y : CaseD) (xs ys : List CaseD) → x ∷ xs ≡ y ∷ ys → (x ≡ y) × (xs ≡ ys)
  head_is x y xs ys e = (cc e, cc e)

  pub one_first : (before befores after afters : List CaseD) (here there : CaseD) → before ++ here ∷ after ≡ befores ++ there ∷ afters
      → All P before → All P befores → (P here → ⊥) → (P there → ⊥) → (here ≡ there) × (length before ≡ length befores)
  one_first [] [] after afters here there e h g lacks other = ((head_is here there after afters e).0, refl)
  one_first [] (x ∷ xs) after afters here there e h g lacks other =
      absurd (lacks (subst P (sym (head_is here x after (xs ++ there ∷ afters) e).0) (All-head P x xs g)))
  one_first (x ∷ xs) [] after afters here there e h g lacks other =
      absurd (other (subst P (head_is x there (xs ++ here ∷ after) afters e).0 (All-head P x xs h)))
  one_first (x ∷ xs) (y ∷ ys) after afters here there e h g lacks other =
      let rest = one_first xs ys after afters here there (head_is x y (xs ++ here ∷ after) (ys ++ there ∷ afters) e).1 (All-tail P x xs h) (All-tail P y ys g) lacks other in
      (rest.0, ap suc rest.1)
