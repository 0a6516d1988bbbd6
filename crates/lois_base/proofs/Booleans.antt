-- Facts on tests that several crates use.
use Rattle.std.proofs.Common.{◌≡◌, Bool, true, false, not, ◌&&◌, ◌||◌, refl, sym}
use Rattle.std.proofs.lemmas.Bool.{false≢true}
use Rattle.std.specs.Bool.{IsTrue}

pub and_false : (p : Bool) → (p && false) ≡ false
and_false true = refl
and_false false = refl

pub or_false : (p : Bool) → (p || false) ≡ p
or_false true = refl
or_false false = refl

pub and_true : (p q : Bool) → IsTrue p → IsTrue q → IsTrue (p && q)
and_true true q h k = k
and_true false q h k = h

pub or_second : (p q : Bool) → IsTrue q → IsTrue (p || q)
or_second true q h = refl
or_second false q h = h

pub and_first : (p q : Bool) → (p && q) ≡ true → p ≡ true
and_first true q h = refl
and_first false q h = h

pub and_second : (p q : Bool) → (p && q) ≡ true → q ≡ true
and_second true q h = h
and_second false q h = absurd (false≢true h)

pub and_implied : (p q : Bool) → (p ≡ true → q ≡ true) → p ≡ (p && q)
and_implied true q f = sym (f refl)
and_implied false q f = refl

pub never_both : (p : Bool) → IsTrue (not p) → IsTrue p → ⊥
never_both true h k = false≢true h
never_both false h k = false≢true k

pub true_if_not_false : (p : Bool) → (p ≡ false → ⊥) → p ≡ true
true_if_not_false true h = refl
true_if_not_false false h = absurd (h refl)
