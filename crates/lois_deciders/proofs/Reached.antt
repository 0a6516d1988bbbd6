-- What each question keeps, one after another keep.
use Rattle.std.proofs.Common.{◌≡◌, subst}
use Rattle.lois_deciders.specs.Reached.{IsInClosure, at_once, after}

pub reached_keeps : {D : Type 0} (leads Keeps : D → D → Type 0) → ((a : D) → Keeps a a) → ((a b c : D) → Keeps a b → Keeps b c → Keeps a c) → ((a b : D) → leads a b → Keeps a b) → (a b : D) → IsInClosure leads a b → Keeps a b
reached_keeps leads Keeps nothing then one _ _ (at_once a) = nothing a
reached_keeps leads Keeps nothing then one _ _ (after a b c l k) = then a b c (one a b l) (reached_keeps leads Keeps nothing then one b c k)

pub kept_between : {D : Type 0} (Keeps : D → D → Type 0) (a b p q : D) → p ≡ a → q ≡ b → Keeps p q → Keeps a b
kept_between Keeps a b p q from to kept = subst (λ x. Keeps x b) from (subst (Keeps p) to kept)
