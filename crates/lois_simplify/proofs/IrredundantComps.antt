-- The comprehensions of a set made lean one by one.
use Rattle.std.proofs.Common.{◌≡◌, ℕ, Bool, List, [], ◌∷◌, ◌++◌, sym, ◌∙◌, subst, append-nil}
use Rattle.std.specs.List.{All, Contains}
use Rattle.std.proofs.lemmas.List.Elements.{All-nil, All-push, All-weaker, All-contains, All-contains_itself}
use Rattle.lois_base.specs.Data.{CompD}
use Rattle.lois_base.specs.declared.guards.Lit.{Lit}
use Rattle.lois_simplify.specs.Simplification.{IsSimplification, set_of}
use Rattle.lois_simplify.specs.Lean.{IsLeanComp}
use Rattle.lois_simplify.proofs.Kept.{kept_refl, kept_trans, alike_kept, kept-append}

-- the comprehensions found are lean, and stand for those that are done
pub record LeanSoFar (brief : Bool) (u : List (List Lit)) (n : ℕ) (done found : List CompD) : Type 0 where
  pub kept : IsSimplification u n (set_of done) (set_of found)
  pub lean : All (IsLeanComp brief u n) found

module _ (brief : Bool) (u : List (List Lit)) (n : ℕ) where
  pub lean_begin : LeanSoFar brief u n [] []
  lean_begin = record { kept = kept_refl u n (set_of []); lean = All-nil (IsLeanComp brief u n) }

  pub lean_found : (done found pushed now : List CompD) (k r : CompD) → pushed ≡ found ++ r ∷ [] → now ≡ pushed → LeanSoFar brief u n done found → IsSimplification u n (set_of (k ∷ [])) (set_of (r ∷ [])) → IsLeanComp brief u n r → LeanSoFar brief u n (done ++ k ∷ []) now
  lean_found done found pushed now k r p q so_far kept lean =
      subst (LeanSoFar brief u n (done ++ k ∷ [])) (sym (q ∙ p)) (record {
        kept = kept-append u n done found (k ∷ []) (r ∷ []) so_far.kept kept;
        lean = All-push (IsLeanComp brief u n) found r so_far.lean lean;
      })

  pub lean_none : (done found : List CompD) (k : CompD) → LeanSoFar brief u n done found → IsSimplification u n (set_of (k ∷ [])) (set_of []) → LeanSoFar brief u n (done ++ k ∷ []) found
  lean_none done found k so_far kept = record {
    kept = subst (λ z. IsSimplification u n (set_of (done ++ k ∷ [])) (set_of z)) (append-nil found) (kept-append u n done found (k ∷ []) [] so_far.kept kept);
    lean = so_far.lean;
  }

  -- equal ones are cut before and after
  pub lean_kept : (whole several found rest : List CompD) → ((k : CompD) → Contains whole k → Contains several k) → ((k : CompD) → Contains several k → Contains whole k) → LeanSoFar brief u n several found → ((k : CompD) → Contains found k → Contains rest k) → ((k : CompD) → Contains rest k → Contains found k) → IsSimplification u n (set_of whole) (set_of rest)
  lean_kept whole several found rest all only so_far all' only' =
      kept_trans u n (set_of whole) (set_of several) (set_of rest) (alike_kept u n whole several all only)
      (kept_trans u n (set_of several) (set_of found) (set_of rest) so_far.kept (alike_kept u n found rest all' only'))

  pub fewer_lean : (found rest : List CompD) → All (IsLeanComp brief u n) found → ((k : CompD) → Contains rest k → Contains found k) → All (IsLeanComp brief u n) rest
  fewer_lean found rest lean only =
      All-weaker (Contains rest) (IsLeanComp brief u n) (λ k h. All-contains (IsLeanComp brief u n) found k lean (only k h)) rest (All-contains_itself rest)
