-- What is kept where one of several deciders is asked.
use Rattle.std.specs.Prelude.{◌≡◌, ℕ, get_or, map}
use Rattle.std.specs.declared.alloc.Global.{Global}
use Rattle.std.specs.declared.dyn_box.DynBox.{DynBox}
use Rattle.lois_base.specs.declared.deciding.Kind.{Kind}
use Rattle.lois_deciders.specs.QuestionCounts.{IsNoLower}
use Rattle.lois_deciders.specs.declared.chosen.Chosen.{Chosen}

-- The same decider is chosen, and nothing but it may have been asked: the others are as before, each is of the kind that it
-- was, and the chosen one's count of questions is no lower.
pub record HasOnlyAsked {V : Type 0} {At : V → Type 0} (kind_of : DynBox V Global At → Kind) (questions : DynBox V Global At → ℕ) (before after : Chosen V At) : Type 0 where
  pub position : after.position ≡ before.position
  pub kinds : map kind_of after.deciders.items ≡ map kind_of before.deciders.items
  pub others : (i : ℕ) → (i ≡ before.position → ⊥) → (d : DynBox V Global At) → get_or after.deciders.items i d ≡ get_or before.deciders.items i d
  pub count : (d : DynBox V Global At) → IsNoLower (questions (get_or before.deciders.items before.position d)) (questions (get_or after.deciders.items before.position d))
