-- What holds as a loop appends one item after another: whatever follows for the rest completes what was made.
use Rattle.std.proofs.Common.{◌≡◌, List, [], ◌∷◌, ◌++◌, append-nil, append_assoc, sym, subst}

module _ {X : Type 0} where
  -- what the rest of the loop may append
  abbrev pub Completes : (List X → Type 0) → (List X → Type 0) → List X → Type 0
  Completes Rest Whole done = (rest : List X) → Rest rest → Whole (done ++ rest)

  pub completes_more : (Rest Next Whole : List X → Type 0) (done more : List X) (x : X) → more ≡ done ++ x ∷ [] → Completes Rest Whole done → ((rest : List X) → Next rest → Rest (x ∷ rest)) → Completes Next Whole more
  completes_more Rest Next Whole done more x e h one rest r =
      subst (λ z. Whole (z ++ rest)) (sym e) (subst Whole (sym (append_assoc done (x ∷ []) rest)) (h (x ∷ rest) (one rest r)))

  pub completes_end : (Rest Whole : List X → Type 0) (done : List X) → Completes Rest Whole done → Rest [] → Whole done
  completes_end Rest Whole done h r = subst Whole (append-nil done) (h [] r)

  pub completes_begin : (Whole : List X → Type 0) (done : List X) → done ≡ [] → Completes Whole Whole done
  completes_begin Whole done e rest r = subst (λ z. Whole (z ++ rest)) (sym e) r
