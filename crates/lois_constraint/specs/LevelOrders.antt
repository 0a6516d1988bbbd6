-- The order of levels as it is held: the bits of one word, or rows.
use Rattle.std.specs.Prelude.{ℕ, ◌+◌, ◌*◌, Bool, ◌&&◌, ◌||◌, ◌==◌, nat_lt}
use Rattle.std.specs.Int.{bit_at}
use Rattle.lois_constraint.specs.Order.{at_most}
use Rattle.lois_constraint.specs.declared.level_order.LevelOrder.{LevelOrder}
use Rattle.lois_constraint.specs.declared.level_order.LevelOrder.TheVariants.{Low, Far}

-- a word has a bit for each two levels below eight
abbrev pub has_bit : ℕ → ℕ → ℕ → Bool
has_bit word a b = bit_at word (8 * a + b) == 1

abbrev pub low_at_most : ℕ → ℕ → ℕ → Bool
low_at_most word a b = a == b || ((nat_lt a 8 && nat_lt b 8) && has_bit word a b)

-- one level is at most another
abbrev pub is_at_most : LevelOrder → ℕ → ℕ → Bool
is_at_most (Low word) a b = low_at_most word a b
is_at_most (Far rows) a b = at_most rows.items a b
