-- How the walks over the parts of a script make up the walk over the whole.
use Rattle.std.proofs.Common.{◌≡◌, ℕ, suc, ◌+◌, ◌≤◌, ◌<◌, ◌⊎◌, List, [], ◌∷◌, map, take, drop, length, get_or, Option, refl, sym, ap, subst, ◌∙◌, arith, add-one}
use Rattle.std.proofs.Math.Seq.{drop-cons, take-length}
use Rattle.std.proofs.lemmas.List.{take-take, length-take, drop_all}
use Rattle.lois_script.specs.Scope.{ScopeD}
use Rattle.lois_scope.specs.InScope.{MadeD}
use Rattle.lois_scope.specs.Breaks.{BreakD, KeepsLeast}
use Rattle.lois_scope.specs.Walks.{StateD, SeenD, scope_of, IsWithin, IsAlike, Walks, AdvancesScope}
use Rattle.lois_scope.proofs.Kept.{keeps_nothing, keeps_both, keeps_as}
use Rattle.lois_scope.proofs.Alike.{Part, IsSteady, alike_self, alike_turned, alike_trans}

abbrev pub nothing : Part
nothing s rule at = ⊥

abbrev pub stay : ScopeD → ScopeD
stay s = s

-- alike scopes lead to alike scopes
abbrev pub KeepsAlike : (ScopeD → ScopeD) → Type 0
KeepsAlike f = (s t : ScopeD) → IsAlike s t → IsAlike (f s) (f t)

pub walks_nothing : (a : SeenD) → Walks nothing a a
walks_nothing a = record { state = refl; first = keeps_nothing (nothing (scope_of a.state)) a.kept (λ rule at p. p) }

pub walks_both : (P Q : Part) (a b c : SeenD) → Walks P a b → Walks Q b c → Walks (λ s rule at. P s rule at ⊎ Q s rule at) a c
walks_both P Q a b c h g = record {
  state = g.state ∙ h.state;
  first = keeps_both (P (scope_of a.state)) (Q (scope_of a.state)) a.kept b.kept c.kept h.first (subst (λ (s : StateD). KeepsLeast (Q (scope_of s)) b.kept c.kept) h.state g.first);
}

-- the same breaks in a scope that is alike
pub keeps_alike : (P : Part) (steady : IsSteady P) (s t : ScopeD) (a b : Option BreakD) → IsAlike s t → KeepsLeast (P s) a b → KeepsLeast (P t) a b
keeps_alike P steady s t a b h k = keeps_as (P s) (P t) a b (steady s t h) (steady t s (alike_turned s t h)) k

pub leads_walked : (P : Part) (a b : SeenD) → Walks P a b → AdvancesScope P stay a b
leads_walked P a b h = record {
  made = ap (λ (s : StateD). take (length a.state.made) s.made) h.state ∙ take-length a.state.made;
  loops = ap (λ (s : StateD). s.loops) h.state;
  ordered = ap (λ (s : StateD). s.ordered) h.state;
  within = λ w. subst IsWithin (sym h.state) w;
  scope = subst (λ (s : StateD). IsAlike (scope_of s) (scope_of a.state)) (sym h.state) (alike_self (scope_of a.state));
  first = h.first;
}

prefix_trans : (a b c : List MadeD) → take (length a) b ≡ a → take (length b) c ≡ b → take (length a) c ≡ a
prefix_trans a b c h g =
    let l : length a ≤ length b = omega (arith, length-take (length a) b, ap length h) in
    sym (take-take (length a) (length b) c l) ∙ ap (take (length a)) g ∙ h

pub leads_both : (P Q : Part) (f g : ScopeD → ScopeD) → IsSteady Q → KeepsAlike g → (a b c : SeenD) → AdvancesScope P f a b → AdvancesScope Q g b c
    → AdvancesScope (λ s rule at. P s rule at ⊎ Q (f s) rule at) (λ s. g (f s)) a c
leads_both P Q f g steady keeps a b c h k = record {
  made = prefix_trans a.state.made b.state.made c.state.made h.made k.made;
  loops = k.loops ∙ h.loops;
  ordered = k.ordered ∙ h.ordered;
  within = λ w. k.within (h.within w);
  scope = alike_trans (scope_of c.state) (g (scope_of b.state)) (g (f (scope_of a.state))) k.scope (keeps (scope_of b.state) (f (scope_of a.state)) h.scope);
  first = keeps_both (P (scope_of a.state)) (Q (f (scope_of a.state))) a.kept b.kept c.kept h.first
      (keeps_alike Q steady (scope_of b.state) (f (scope_of a.state)) b.kept c.kept h.scope k.first);
}

-- the names that the part added go out of scope
pub walks_cut : (P : Part) (f : ScopeD → ScopeD) (a b c : SeenD) → AdvancesScope P f a b → c.state.made ≡ take (length a.state.made) b.state.made
    → c.state.loops ≡ b.state.loops → c.state.ordered ≡ b.state.ordered → c.kept ≡ b.kept → Walks P a c
walks_cut P f a b c h made loops ordered kept = record {
  state = λ i. record { made = (made ∙ h.made) i; loops = (loops ∙ h.loops) i; ordered = (ordered ∙ h.ordered) i };
  first = subst (KeepsLeast (P (scope_of a.state)) a.kept) (sym kept) h.first;
}

-- A walk over a list, part by part: what is left leads on from here as the whole does from the first place.
module _ {X Y : Type 0} (tree : Y → X) (Whole : List X → Part) where
  abbrev pub LeadsOn : (List X → ScopeD → ScopeD) → List Y → ℕ → SeenD → SeenD → Type 0
  LeadsOn behind_all items i first now =
      (done : SeenD) → AdvancesScope (Whole (map tree (drop i items))) (behind_all (map tree (drop i items))) now done → AdvancesScope (Whole (map tree items)) (behind_all (map tree items)) first done

  -- the same where no part adds a name
  abbrev pub WalksOn : List Y → ℕ → SeenD → SeenD → Type 0
  WalksOn items i first now = (done : SeenD) → Walks (Whole (map tree (drop i items))) now done → Walks (Whole (map tree items)) first done

module _ {X Y : Type 0} (tree : Y → X) (Breaks : X → Part) (behind : X → ScopeD → ScopeD) (Whole : List X → Part) (behind_all : List X → ScopeD → ScopeD)
    (none : Whole [] ≡ nothing) (some : (x : X) (xs : List X) → Whole (x ∷ xs) ≡ (λ s rule at. Breaks x s rule at ⊎ Whole xs (behind x s) rule at))
    (none_behind : behind_all [] ≡ stay) (some_behind : (x : X) (xs : List X) → behind_all (x ∷ xs) ≡ (λ s. behind_all xs (behind x s)))
    (steady : (xs : List X) → IsSteady (Whole xs)) (keeps : (xs : List X) → KeepsAlike (behind_all xs)) where
  joined : (x : X) (xs : List X) (a b c : SeenD) → AdvancesScope (Breaks x) (behind x) a b → AdvancesScope (Whole xs) (behind_all xs) b c → AdvancesScope (Whole (x ∷ xs)) (behind_all (x ∷ xs)) a c
  joined x xs a b c h k =
      rw (some x xs, some_behind x xs) (leads_both (Breaks x) (Whole xs) (behind x) (behind_all xs) (steady xs) (keeps xs) a b c h k)

  pub leads_on : (items : List Y) (i : ℕ) (x : Y) (first now next : SeenD) → i < length items → x ≡ get_or items i x
      → AdvancesScope (Breaks (tree x)) (behind (tree x)) now next → LeadsOn tree Whole behind_all items i first now → LeadsOn tree Whole behind_all items (i + 1) first next
  leads_on items i x first now next l e h on = λ done rest. on done
      (rw (drop-cons items i x l, ← e) (joined (tree x) (map tree (drop (suc i) items)) now next done h (rw (← (add-one i)) rest)))

  pub leads_to_end : (items : List Y) (i : ℕ) (first now : SeenD) → length items ≤ i → LeadsOn tree Whole behind_all items i first now
      → AdvancesScope (Whole (map tree items)) (behind_all (map tree items)) first now
  leads_to_end items i first now l on = on now
      (rw (drop_all i items l, none, none_behind) (leads_walked nothing now now (walks_nothing now)))

module _ {X Y : Type 0} (tree : Y → X) (Breaks : X → Part) (Whole : List X → Part)
    (none : Whole [] ≡ nothing) (some : (x : X) (xs : List X) → Whole (x ∷ xs) ≡ (λ s rule at. Breaks x s rule at ⊎ Whole xs s rule at)) where
  pub walks_on : (items : List Y) (i : ℕ) (x : Y) (first now next : SeenD) → i < length items → x ≡ get_or items i x
      → Walks (Breaks (tree x)) now next → WalksOn tree Whole items i first now → WalksOn tree Whole items (i + 1) first next
  walks_on items i x first now next l e h on = λ done rest. on done
      (rw (drop-cons items i x l, ← e, some (tree x) (map tree (drop (suc i) items)))
      (walks_both (Breaks (tree x)) (Whole (map tree (drop (suc i) items))) now next done h (rw (← (add-one i)) rest)))

  pub walks_to_end : (items : List Y) (i : ℕ) (first now : SeenD) → length items ≤ i → WalksOn tree Whole items i first now → Walks (Whole (map tree items)) first now
  walks_to_end items i first now l on = on now (rw (drop_all i items l, none) (walks_nothing now))
