-- The first of the breaks that a walk has met.
use Rattle.std.specs.Prelude.{◌≡◌, ℕ, ◌≤◌, ◌⊎◌, Option, Some, None}
use Rattle.std.specs.Option.{option_map}
use Rattle.lois_script.specs.Scope.{RuleD, unknown, again, outer_assign, print_in_loop, order_in_equality, rule_number}
use Rattle.lois_scope.specs.declared.breaks.Rule.{Rule}
use Rattle.lois_scope.specs.declared.breaks.Rule.TheVariants.{Unknown, Again, OuterAssign, PrintInLoop, OrderInEquality}
use Rattle.lois_scope.specs.declared.breaks.Break.{Break}
use Rattle.lois_scope.specs.declared.breaks.FirstBreak.{FirstBreak}

pub record BreakD : Type 0 where
  pub rule : RuleD
  pub at : ℕ

abbrev pub rule_view : Rule → RuleD
rule_view Unknown = unknown
rule_view Again = again
rule_view OuterAssign = outer_assign
rule_view PrintInLoop = print_in_loop
rule_view OrderInEquality = order_in_equality

abbrev pub break_of : Break → BreakD
break_of b = record { rule = rule_view b.rule; at = b.pos.offset }

abbrev pub kept_of : FirstBreak → Option BreakD
kept_of first = option_map break_of first.found

-- at an earlier place, or at the same one with a rule of no greater number
pub record IsNoLater (a b : BreakD) : Type 0 where
  pub place : a.at ≤ b.at
  pub rule : a.at ≡ b.at → rule_number a.rule ≤ rule_number b.rule

-- a break is kept, and it is no later than this one
abbrev pub KeptBefore : Option BreakD → BreakD → Type 0
KeptBefore None b = ⊥
KeptBefore (Some a) b = IsNoLater a b

-- What is kept is the least of what was kept before and of all these breaks.
pub record KeepsLeast (P : RuleD → ℕ → Type 0) (old new : Option BreakD) : Type 0 where
  pub from : (b : BreakD) → new ≡ Some b → (old ≡ Some b) ⊎ P b.rule b.at
  pub kept : (b : BreakD) → old ≡ Some b → KeptBefore new b
  pub least : (rule : RuleD) (at : ℕ) → P rule at → KeptBefore new (record { rule = rule; at = at })
