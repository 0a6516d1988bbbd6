-- What is reached at each choice, and at one.
use Rattle.std.proofs.Common.{◌≡◌, ℕ, List, [], ◌∷◌, map, refl, sym, subst}
use Rattle.std.specs.List.{Contains}
use Rattle.lois_base.specs.Atom.{Atom}
use Rattle.lois_base.specs.Truth.{sampled}
use Rattle.lois_context.specs.Choices.{IsAdmitted}
use Rattle.lois_context.specs.Slots.{SlotD, slot_name}
use Rattle.lois_context.specs.declared.contexts.Context.{Context}
use Rattle.lois_eval.proofs.FaultsAt.{own_sample}
use Rattle.lois_interp.specs.Reached.{IsReachedContext, IsReachedAt, RunsAs}
use Rattle.lois_interp.specs.Run.{Run}
use Rattle.lois_interp.specs.Slots.{AreKept}
use Rattle.lois_interp.proofs.Lists.{only_one}

-- kept at some choices
pub kept_weaker : (Assigned : List ℕ → Type 0) (P Q : List Atom → Type 0) (ss es : List SlotD) → ((c : List Atom) → Q c → P c) → AreKept Assigned P ss es → AreKept Assigned Q ss es
kept_weaker Assigned P Q [] es f h = tt
kept_weaker Assigned P Q (s ∷ ss) [] f h = absurd h
kept_weaker Assigned P Q (s ∷ ss) (e ∷ es) f h = (
  h.0,
  λ free. let k = h.1 free in record { from = k.from; term = k.term; members = λ c q. k.members c (f c q) },
  kept_weaker Assigned P Q ss es f h.2,
)

-- kept at one choice after another; the choice a shows that the slots stand side by side
pub kept_each : (Assigned : List ℕ → Type 0) (P : List Atom → Type 0) (ss es : List SlotD) (a : List Atom) → P a → ((c : List Atom) → P c → AreKept Assigned (λ x. x ≡ c) ss es) → AreKept Assigned P ss es
kept_each Assigned P [] es a pa f = tt
kept_each Assigned P (s ∷ ss) [] a pa f = absurd (f a pa)
kept_each Assigned P (s ∷ ss) (e ∷ es) a pa f = (
  (f a pa).0,
  λ free. let k = (f a pa).1 free in record { from = k.from; term = k.term; members = λ c q. ((f c q).1 free).members c refl },
  kept_each Assigned P ss es a pa (λ c q. (f c q).2),
)

pub reached_at : (run : Run) (k d : Context) (c : List Atom) → IsReachedContext run.ends run.assigns k d → map slot_name d.store ≡ run.behind (map slot_name k.store) → IsAdmitted c d → IsReachedAt run k d c
reached_at run k d c h names adm = record {
  size = h.size;
  admitted = h.within c adm;
  slots = kept_weaker run.assigns (λ x. IsAdmitted x d) (λ x. x ≡ c) k.store d.store (λ x e. subst (λ z. IsAdmitted z d) (sym e) adm) h.slots;
  named = names;
  ends_there = h.ends_there c adm;
}

module _ (run : Run) (k : Context) (ds : List Context) (runs : RunsAs run k ds) (d : Context) (there : Contains ds d) where
  -- what is reached from one context
  at_choice : (c : List Atom) → IsAdmitted c d → IsReachedAt run k d c
  at_choice c adm =
      let r = runs.reached d there c adm in
      subst (λ z. IsReachedAt run z d c) (sym (only_one k r.0 r.1)) r.2

  pub as_reached : IsReachedContext run.ends run.assigns k d
  as_reached = record {
    size = (at_choice (sampled d.sample) (own_sample d)).size;
    within = λ c adm. (at_choice c adm).admitted;
    slots = kept_each run.assigns (λ c. IsAdmitted c d) k.store d.store (sampled d.sample) (own_sample d) (λ c adm. (at_choice c adm).slots);
    ends_there = λ c adm. (at_choice c adm).ends_there;
  }

  pub as_named : map slot_name d.store ≡ run.behind (map slot_name k.store)
  as_named = (at_choice (sampled d.sample) (own_sample d)).named
