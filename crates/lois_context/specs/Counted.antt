-- How many of some contexts admit a choice.
use Rattle.std.specs.Prelude.{◌≡◌, ℕ, Bool, ◌&&◌, List, length, nat_eq}
use Rattle.std.specs.List.{count_by}
use Rattle.lois_base.specs.Atom.{Atom}
use Rattle.lois_base.specs.Truth.{holds}
use Rattle.lois_context.specs.declared.contexts.Context.{Context}

-- the context has as many levels as the choice has atoms, and its constraint holds there
abbrev pub admits : List Atom → Context → Bool
admits c k = nat_eq (length c) k.size && holds c k.«when»

abbrev pub times : List Atom → List Context → ℕ
times c ks = count_by (admits c) ks

-- Each choice is admitted by as many of the one as of the other. Where `before` is one context, exactly one of `after`
-- admits each choice that it admits, and none admits any other.
abbrev pub AdmitAlike : List Context → List Context → Type 0
AdmitAlike before after = (c : List Atom) → times c after ≡ times c before
