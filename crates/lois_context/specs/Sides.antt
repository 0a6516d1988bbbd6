-- The two sides of a context that is split by a constraint.
use Rattle.std.specs.Prelude.{◌≡◌, Bool, ◌&&◌, List}
use Rattle.std.specs.declared.option.Option.{Option}
use Rattle.std.specs.declared.option.Option.TheVariants.{Some, None}
use Rattle.lois_base.specs.Atom.{Atom}
use Rattle.lois_base.specs.Fits.{ConstraintFits}
use Rattle.lois_base.specs.Truth.{holds}
use Rattle.lois_base.specs.declared.guards.Lit.{Lit}
use Rattle.lois_deciders.specs.Satisfaction.{IsConstraintSample}
use Rattle.lois_deciders.specs.declared.chosen.SampledConstraint.{SampledConstraint}
use Rattle.lois_context.specs.declared.contexts.Context.{Context}

-- The context as it was, where the test holds too.
pub record IsSide (before : Context) (test : List Atom → Bool) (side : Context) : Type 0 where
  pub size : side.size ≡ before.size
  pub «when» : (c : List Atom) → holds c side.«when» ≡ (holds c before.«when» && test c)
  pub store : side.store ≡ before.store
  pub lines : side.lines ≡ before.lines

-- the context where g holds
pub record HasPathCondition (before : Context) (g : List (List Lit)) (side : Context) : Type 0 where
  pub size : side.size ≡ before.size
  pub «when» : side.«when» ≡ g
  pub store : side.store ≡ before.store
  pub lines : side.lines ≡ before.lines

-- what was met over the context's levels
abbrev pub CanHavePathCondition : Context → SampledConstraint → Type 0
CanHavePathCondition before m = ConstraintFits before.size m.constraint × IsConstraintSample before.size m.constraint m.sample

-- there is a side where there is something that was met
abbrev pub HasSamplePathCondition : Context → Option SampledConstraint → Option Context → Type 0
HasSamplePathCondition before None None = Unit {0}
HasSamplePathCondition before (Some m) (Some side) = HasPathCondition before m.constraint side
HasSamplePathCondition before _ _ = ⊥
