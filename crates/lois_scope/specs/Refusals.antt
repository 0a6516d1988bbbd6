-- What a refusal says of a script.
use Rattle.std.specs.Prelude.{◌≡◌, ℕ}
use Rattle.lois_script.specs.Scope.{RuleD, unknown, again, outer_assign, print_in_loop, order_in_equality, BreaksFirst}
use Rattle.lois_script.specs.Tree.{ScriptD}
use Rattle.lois_scope.specs.declared.checking.ScopeError.{ScopeError}
use Rattle.lois_scope.specs.declared.checking.ScopeError.TheVariants.{Unknown, Again, OuterAssign, PrintInLoop, OrderInEquality, NoMemory}

-- the refusal names this rule and this place, or there was no memory
abbrev pub RefusesFor : RuleD → ℕ → ScopeError → Type 0
RefusesFor rule at (Unknown p) = (rule ≡ unknown) × (at ≡ p.offset)
RefusesFor rule at (Again p) = (rule ≡ again) × (at ≡ p.offset)
RefusesFor rule at (OuterAssign p) = (rule ≡ outer_assign) × (at ≡ p.offset)
RefusesFor rule at (PrintInLoop p) = (rule ≡ print_in_loop) × (at ≡ p.offset)
RefusesFor rule at (OrderInEquality p) = (rule ≡ order_in_equality) × (at ≡ p.offset)
RefusesFor rule at NoMemory = Unit {0}

-- the rule that the refusal names is broken first, at its place
abbrev pub IsScopeRefusal : ScriptD → ScopeError → Type 0
IsScopeRefusal script (Unknown p) = BreaksFirst script unknown p.offset
IsScopeRefusal script (Again p) = BreaksFirst script again p.offset
IsScopeRefusal script (OuterAssign p) = BreaksFirst script outer_assign p.offset
IsScopeRefusal script (PrintInLoop p) = BreaksFirst script print_in_loop p.offset
IsScopeRefusal script (OrderInEquality p) = BreaksFirst script order_in_equality p.offset
IsScopeRefusal script NoMemory = Unit {0}
