-- Sets that get members. What is written in a set already isn't put there again.
use Rattle.std.specs.Prelude.{◌≡◌, List, ◌++◌, Option, Some, None}
use Rattle.std.specs.List.{Contains}
use Rattle.lois_base.specs.Data.{TermD, coll, CompD, comps_of}
use Rattle.lois_base.specs.Tree.{tree}
use Rattle.lois_base.specs.declared.values.Term.{Term}
use Rattle.lois_terms.specs.Collections.{IsColl}
use Rattle.lois_context.specs.Put.{IsWithOnce}
use Rattle.lois_eval.specs.Made.{bare}

-- a set with the item, which may have a comprehension more at its end
abbrev pub IsWithItem : TermD → TermD → TermD → Type 0
IsWithItem set item t = IsWithOnce set (bare item) t

-- the set with the item, or nothing where the term is no set
abbrev pub IsExtended : TermD → TermD → Option Term → Type 0
IsExtended set item None = IsColl set → ⊥
IsExtended set item (Some t) = IsColl set × IsWithItem set item (tree t)

-- the first ones, and behind them those of the added ones that aren't there already
abbrev pub AreBehind : List CompD → List CompD → List CompD → Type 0
AreBehind first added all =
    (more : List CompD) × (all ≡ first ++ more) ×
    ((k : CompD) → Contains more k → Contains added k) ×
    ((k : CompD) → Contains added k → Contains (first ++ more) k)

abbrev pub ArePutBehind : List CompD → List CompD → TermD → Type 0
ArePutBehind first added t = (all : List CompD) × AreBehind first added all × (t ≡ coll (comps_of all))
