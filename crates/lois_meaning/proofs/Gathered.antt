-- What a loop and an `add` leave in a variable is determined up to `IsSame`, and asks of the store before only what `IsSame` keeps.
use Rattle.std.proofs.Common.{◌≡◌, [], ◌∷◌, ◌⊎◌, sym, ◌∙◌, subst, Some}
use mathlib.Core.Logic.{inl, inr}
use Rattle.lois_base.specs.Values.{PointValue, IsSame, IsIn}
use Rattle.lois_base.proofs.Members.{same_sym, same_trans, same_in}
use Rattle.lois_meaning.specs.Runs.{IsSetWith, IsGathered, AreGathered}
use Rattle.lois_meaning.specs.Store.{NamedValue, NamedValues, looked_up, AreSameNamed}
use Rattle.lois_meaning.proofs.Alike.{is_set_same, set_of_same, set_of_shift, set_of_to}

pub set_with_move : (new old v old' v' : PointValue) → IsSame old old' → IsSame v v' → IsSetWith new old v → IsSetWith new old' v'
set_with_move new old v old' v' h k (set, members) = (
  is_set_same old old' h set,
  set_of_shift _ _ new
      (λ w q. elim q [ inl i ↦ inl (same_in w old old' h i) | inr i ↦ inr (same_trans w v v' i k) ])
      (λ w q. elim q [ inl i ↦ inl (same_in w old' old (same_sym old old' h) i) | inr i ↦ inr (same_trans w v' v i (same_sym v v' k)) ])
      members,
)

pub set_with_same : (new old v new' old' v' : PointValue) → IsSame old old' → IsSame v v' → IsSetWith new old v → IsSetWith new' old' v' → IsSame new new'
set_with_same new old v new' old' v' h k a b = set_of_same (λ w. IsIn w old' ⊎ IsSame w v') new new' (set_with_move new old v old' v' h k a).1 b.1

gathered_move : (end stop : NamedValues → Type 0) (b e : NamedValue) (new : PointValue) → b.name ≡ e.name → IsSame b.holds e.holds → ((u : NamedValues) → end u → stop u) → ((u : NamedValues) → stop u → end u) → IsGathered new b end → IsGathered new e stop
gathered_move end stop b e new p s there back (inl (set, members)) =
    inl (
      is_set_same b.holds e.holds s set,
      set_of_shift _ _ new
          (λ x q. elim q [
            | inl i ↦ inl (same_in x b.holds e.holds s i)
            | inr i ↦ inr (i.0, i.1, there i.0 i.2, subst (λ n. looked_up n i.0 ≡ Some i.1) p i.3, i.4)
          ])
          (λ x q. elim q [
            | inl i ↦ inl (same_in x e.holds b.holds (same_sym b.holds e.holds s) i)
            | inr i ↦ inr (i.0, i.1, back i.0 i.2, subst (λ n. looked_up n i.0 ≡ Some i.1) (sym p) i.3, i.4)
          ])
          members,
    )
gathered_move end stop b e new p s there back (inr (never, k)) =
    inr ((λ set. never (is_set_same e.holds b.holds (same_sym b.holds e.holds s) set)), same_trans new b.holds e.holds k s)

pub all_gathered_move : (end stop : NamedValues → Type 0) (s r t : NamedValues) → AreSameNamed s r → ((u : NamedValues) → end u → stop u) → ((u : NamedValues) → stop u → end u) → AreGathered t s end → AreGathered t r stop
all_gathered_move end stop [] [] [] h there back j = j
all_gathered_move end stop (b ∷ s) (e ∷ r) (f ∷ t) h there back j =
    (j.0 ∙ h.0, gathered_move end stop b e f.holds h.0 h.1 there back j.1, all_gathered_move end stop s r t h.2 there back j.2)
all_gathered_move end stop _ _ _ h there back j = absurd (assumption (h, j))

gathered_same : (end : NamedValues → Type 0) (b : NamedValue) (v w : PointValue) → IsGathered v b end → IsGathered w b end → IsSame v w
gathered_same end b v w (inl p) (inl q) = set_of_same _ v w p.1 q.1
gathered_same end b v w (inl p) (inr q) = absurd (q.0 p.0)
gathered_same end b v w (inr p) (inl q) = absurd (p.0 q.0)
gathered_same end b v w (inr p) (inr q) = same_trans v b.holds w p.1 (same_sym w b.holds q.1)

pub all_gathered_same : (end : NamedValues → Type 0) (s t u : NamedValues) → AreGathered t s end → AreGathered u s end → AreSameNamed t u
all_gathered_same end [] [] [] j k = tt
all_gathered_same end (b ∷ s) (e ∷ t) (f ∷ u) j k = (j.0 ∙ sym k.0, gathered_same end b e.holds f.holds j.1 k.1, all_gathered_same end s t u j.2 k.2)
all_gathered_same end _ _ _ j k = absurd (assumption (j, k))

gathered_to : (end : NamedValues → Type 0) (b : NamedValue) (v w : PointValue) → IsSame v w → IsGathered v b end → IsGathered w b end
gathered_to end b v w h (inl p) = inl (p.0, set_of_to _ v w h p.1)
gathered_to end b v w h (inr p) = inr (p.0, same_trans w v b.holds (same_sym v w h) p.1)

pub all_gathered_to : (end : NamedValues → Type 0) (s t u : NamedValues) → AreSameNamed t u → AreGathered t s end → AreGathered u s end
all_gathered_to end [] [] [] h j = tt
all_gathered_to end (b ∷ s) (e ∷ t) (f ∷ u) h j = (sym h.0 ∙ j.0, gathered_to end b e.holds f.holds h.1 j.1, all_gathered_to end s t u h.2 j.2)
all_gathered_to end _ _ _ h j = absurd (assumption (h, j))
