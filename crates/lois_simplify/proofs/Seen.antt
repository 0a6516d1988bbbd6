-- What a loop has seen of a list, and what it kept of that.
use Rattle.std.proofs.Common.{◌≡◌, inl, inr, List, [], ◌∷◌, ◌++◌, sym, subst}
use Rattle.std.specs.List.{Contains}
use Rattle.std.proofs.lemmas.List.Elements.{Contains-append_left, Contains-push, Contains-push_cases}
use Rattle.lois_simplify.specs.Once.{KeepsOnce}

-- `kept` has what was seen so far, and only what the whole list has
pub record HasSeen {Y : Type 0} (seen whole kept : List Y) : Type 0 where
  pub all : (y : Y) → Contains seen y → Contains kept y
  pub only : (y : Y) → Contains kept y → Contains whole y

module _ {Y : Type 0} (kept after : List Y) (y : Y) where
  pub once_there : Contains kept y → KeepsOnce y kept kept
  once_there h = record { kept = λ z i. i; there = h; only = λ z i. inl i }

  pub once_new : after ≡ kept ++ y ∷ [] → KeepsOnce y kept after
  once_new e = record {
    kept = λ z i. subst (λ r. Contains r z) (sym e) (Contains-append_left kept (y ∷ []) z i);
    there = subst (λ r. Contains r y) (sym e) (Contains-push kept y);
    only = λ z i. Contains-push_cases kept y z (subst (λ r. Contains r z) e i);
  }

  -- one more that was seen
  pub seen_once : (seen whole : List Y) → Contains whole y → KeepsOnce y kept after → HasSeen seen whole kept → HasSeen (seen ++ y ∷ []) whole after
  seen_once seen whole there once so_far = record {
    all = λ z h. elim (Contains-push_cases seen y z h) [ inl i ↦ once.kept z (so_far.all z i) | inr e ↦ subst (Contains after) e once.there ];
    only = λ z h. elim (once.only z h) [ inl i ↦ so_far.only z i | inr e ↦ subst (Contains whole) e there ];
  }
