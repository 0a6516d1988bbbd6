-- Shifted terms and guards mean the same among more atoms.
use Rattle.std.proofs.Common.{◌≡◌, ℕ, ◌-◌, List, ◌++◌, length, length-append, arith}
use Rattle.std.proofs.lemmas.List.{append_assoc}
use Rattle.lois_base.specs.Atom.{Atom}
use Rattle.lois_base.specs.Data.{TermD}
use Rattle.lois_base.specs.Shift.{shift, shift_constraint}
use Rattle.lois_base.specs.declared.guards.Lit.{Lit}
use Rattle.lois_base.proofs.Raised.{raised, same_raised}
use Rattle.lois_terms.specs.Shifted.{IsShifted, IsPlacedGuard, IsPlacedItem}

pub is_raised : (from by : ℕ) (t : TermD) → IsShifted from by t (shift from by t)
is_raised from by t = λ a x d e f. rw (← e, ← f) (same_raised a x t d)

put_in_length : (size at : ℕ) (a x : List Atom) → length a ≡ size → length (a ++ x) ≡ at → length x ≡ at - size
put_in_length size at a x e f = omega (arith, length-append a x)

pub is_placed_guard : (size at : ℕ) (g : List (List Lit)) → IsPlacedGuard size at g (shift_constraint size (at - size) g)
is_placed_guard size at g = λ a x e p q.
    let l : length x ≡ at - size = put_in_length size at a x p q in
    rw (append_assoc a x e, ← l, ← p) (raised a x e g)

pub is_placed_item : (size at : ℕ) (t : TermD) → IsPlacedItem size at t (shift size (at - size) t)
is_placed_item size at t = λ a x e p q.
    let l : length x ≡ at - size = put_in_length size at a x p q in
    rw (append_assoc a x e, ← l, ← p) (same_raised a x t e)
