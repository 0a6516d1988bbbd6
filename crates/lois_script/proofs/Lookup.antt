-- What a look-up in a map by names finds.
use Rattle.std.proofs.Common.{◌≡◌, ℕ, Bool, true, false, List, Option, Some, refl, cond, if◌then◌else◌, Bor, bytes_eq}
use Rattle.std.specs.Cmp.Lexicographic.{nat_list_eq_equiv}
use Rattle.std.specs.Option.{option_map}

abbrev pub has : List ℕ → Bor (List ℕ) → Bool
has x k = bytes_eq x k.now

pub turned : (x y : List ℕ) → bytes_eq x y ≡ bytes_eq y x
turned x y = nat_list_eq_equiv.symm x y

-- an entry before the others, seen through a view
pub looked_step : {X Y : Type 0} (f : X → Y) (v : X) (b : Bool) (o : Option Y) (p : Option X) → o ≡ option_map f p → (if b then (Some (f v)) else o) ≡ option_map f (cond b (Some v) p)
looked_step f v true o p e = refl
looked_step f v false o p e = e
