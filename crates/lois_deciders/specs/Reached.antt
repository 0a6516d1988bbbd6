-- Where one question after another leads, and its laws.
use Rattle.std.specs.Prelude.{◌≡◌, refl}
use Rattle.std.specs.Borrow.{MutBor}
use Rattle.std.proofs.Common.{◌∙◌}

-- one question after another leads from one to the other
pub data IsInClosure {D : Type 0} (leads : D → D → Type 0) : D → D → Type 0 where
  at_once : (a : D) → IsInClosure leads a a
  after : (a b c : D) → leads a b → IsInClosure leads b c → IsInClosure leads a c

module _ {D : Type 0} (leads : D → D → Type 0) where
  reached_then : (a b c : D) → IsInClosure leads a b → IsInClosure leads b c → IsInClosure leads a c
  reached_then _ b c (at_once a) k = k
  reached_then _ _ c (after a d b s h) k = after a d c s (reached_then d b c h k)

  pub still_reached : (a : MutBor D) → IsInClosure leads a.now a.now × (a.ghost_name ≡ a.ghost_name)
  still_reached a = (at_once a.now, refl)

  pub reached_further : (a b c : MutBor D) → IsInClosure leads a.now b.now × (b.ghost_name ≡ a.ghost_name) → IsInClosure leads b.now c.now × (c.ghost_name ≡ b.ghost_name) → IsInClosure leads a.now c.now × (c.ghost_name ≡ a.ghost_name)
  reached_further a b c h k = (reached_then a.now b.now c.now h.0 k.0, k.1 ∙ h.1)
