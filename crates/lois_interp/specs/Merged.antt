-- Contexts with the same contents, and contexts without the names that were made in a block.
use Rattle.std.specs.Prelude.{◌≡◌, ℕ, List, [], ◌∷◌, take}
use Rattle.lois_context.specs.declared.contexts.Context.{Context}

-- the same size, store and lines
pub record HoldsTheSame (k d : Context) : Type 0 where
  pub size : d.size ≡ k.size
  pub store : d.store ≡ k.store
  pub lines : d.lines ≡ k.lines

-- The first n slots of a context alone.
pub record IsTruncatedContext (n : ℕ) (k d : Context) : Type 0 where
  pub size : d.size ≡ k.size
  pub «when» : d.«when» ≡ k.«when»
  pub store : d.store ≡ take n k.store
  pub lines : d.lines ≡ k.lines

abbrev pub AreTruncatedContexts : ℕ → List Context → List Context → Type 0
AreTruncatedContexts n [] [] = Unit {0}
AreTruncatedContexts n (k ∷ ks) (d ∷ ds) = IsTruncatedContext n k d × AreTruncatedContexts n ks ds
AreTruncatedContexts n _ _ = ⊥
