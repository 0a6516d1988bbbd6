-- What is noted of a term.
use Rattle.std.specs.Prelude.{◌≤◌, IsTrue}
use Rattle.lois_base.specs.Data.{depth}
use Rattle.lois_base.specs.Tree.{tree}
use Rattle.lois_base.specs.declared.limits.TheConstants.{GREATEST_DEPTH}
use Rattle.lois_base.specs.declared.values.Term.{Term}
use Rattle.lois_terms.specs.Binding.{BindsNothing}
use Rattle.lois_context.specs.declared.content.Noted.{Noted}

-- what is noted is true of the term
abbrev pub IsNotedOf : Noted → Term → Type 0
IsNotedOf n t = (IsTrue n.binds_nothing → BindsNothing (tree t)) × (IsTrue n.is_shallow → depth (tree t) ≤ GREATEST_DEPTH)
