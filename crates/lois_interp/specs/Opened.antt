-- The context in which a script begins.
use Rattle.std.specs.Prelude.{◌≡◌, ℕ, ◌+◌, List, [], ◌∷◌, length}
use Rattle.lois_base.specs.Data.{var}
use Rattle.lois_base.specs.declared.guards.Lit.{Lit}
use Rattle.lois_script.specs.Tree.{ParamD}
use Rattle.lois_context.specs.Slots.{SlotD}
use Rattle.lois_context.specs.declared.contexts.Context.{Context}

-- what holds at each choice
abbrev pub always : List (List Lit)
always = [] ∷ []

-- the parameters from number i on hold the levels from i on
abbrev pub opening_slots : List ParamD → ℕ → List SlotD
opening_slots [] i = []
opening_slots (p ∷ ps) i = record { name = p.name; term = var i; from = 0 } ∷ opening_slots ps (i + 1)

pub record IsOpening (ps : List ParamD) (k : Context) : Type 0 where
  pub size : k.size ≡ length ps
  pub «when» : k.«when» ≡ always
  pub store : k.store ≡ opening_slots ps 0
  pub lines : k.lines ≡ []
