-- What two steps upward in a row say.
use Rattle.std.proofs.Common.{◌≡◌, Bool, true, false, not, ap, refl}
use Rattle.std.proofs.lemmas.Bool.{not-true}
use Rattle.lois_base.specs.Atom.{Atom, below}
use Rattle.lois_base.specs.Truth.{op_holds}
use Rattle.lois_base.specs.declared.guards.Op.{Op}
use Rattle.lois_base.specs.declared.guards.Op.TheVariants.{Eq, Ne, Lt, AtMost}
use Rattle.lois_base.proofs.Order.{below_asym, below_trans, below_at_most, at_most_below, at_most_trans}
use Rattle.lois_order.specs.Bounds.{is_step, chained, taken_as}

-- what is below is a step
pub below_steps : (o : Op) (a b : Atom) → is_step o ≡ true → below a b ≡ true → op_holds o a b ≡ true
below_steps Eq a b s h = absurd (cc)
below_steps Ne a b s h = absurd (cc)
below_steps Lt a b s h = h
below_steps AtMost a b s h = ap not (below_asym a b h)

-- and a strict step is below
pub strict_below : (o : Op) (a b : Atom) → op_holds (chained o Lt) a b ≡ true → below a b ≡ true
strict_below Eq a b h = h
strict_below Ne a b h = h
strict_below Lt a b h = h
strict_below AtMost a b h = h

below_step : (p : Op) (a m b : Atom) → is_step p ≡ true → below a m ≡ true → op_holds p m b ≡ true → below a b ≡ true
below_step Eq a m b s h k = absurd (cc)
below_step Ne a m b s h k = absurd (cc)
below_step Lt a m b s h k = below_trans a m b h k
below_step AtMost a m b s h k = below_at_most a m b h (not-true (below b m) k)

weak_step : (p : Op) (a m b : Atom) → is_step p ≡ true → op_holds AtMost a m ≡ true → op_holds p m b ≡ true → op_holds p a b ≡ true
weak_step Eq a m b s h k = absurd (cc)
weak_step Ne a m b s h k = absurd (cc)
weak_step Lt a m b s h k = at_most_below a m b (not-true (below m a) h) k
weak_step AtMost a m b s h k = ap not (at_most_trans a m b (not-true (below m a) h) (not-true (below b m) k))

-- two steps, of which the first is strict where it is taken so
pub two_steps : (strict : Bool) (o p : Op) (a m b : Atom) → is_step o ≡ true → is_step p ≡ true → op_holds o a m ≡ true → op_holds p m b ≡ true → (strict ≡ true → below a m ≡ true) → op_holds (chained o (taken_as strict p)) a b ≡ true
two_steps strict Eq p a m b s t h k l = absurd (cc)
two_steps strict Ne p a m b s t h k l = absurd (cc)
two_steps strict Lt p a m b s t h k l = below_step p a m b t h k
two_steps true AtMost p a m b s t h k l = below_step p a m b t (l refl) k
two_steps false AtMost p a m b s t h k l = weak_step p a m b t h k
