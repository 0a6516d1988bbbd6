-- The number and the words of each cause of a refusal.
use Rattle.std.specs.Prelude.{ℕ, List, codes}
use Rattle.lois_scope.specs.declared.checking.ScopeError.{ScopeError}
use Rattle.lois_scope.specs.declared.checking.ScopeError.TheVariants.{Unknown, Again, OuterAssign, PrintInLoop, OrderInEquality, NoMemory}

-- counted from 1 as the causes are declared
abbrev pub cause_number : ScopeError → ℕ
cause_number (Unknown at) = 1
cause_number (Again at) = 2
cause_number (OuterAssign at) = 3
cause_number (PrintInLoop at) = 4
cause_number (OrderInEquality at) = 5
cause_number NoMemory = 6

abbrev pub cause_text : ScopeError → List ℕ
cause_text (Unknown at) = codes "unknown name"
cause_text (Again at) = codes "name declared again"
cause_text (OuterAssign at) = codes "assignment to outer variable"
cause_text (PrintInLoop at) = codes "print in a loop"
cause_text (OrderInEquality at) = codes "order in an equality script"
cause_text NoMemory = codes "out of memory"
