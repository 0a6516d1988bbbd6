-- What holds where a literal doesn't.
use Rattle.std.specs.Prelude.{ℕ, List, [], ◌∷◌, map}
use Rattle.std.specs.List.{flat_map}
use Rattle.lois_base.specs.declared.guards.Lit.{Lit}
use Rattle.lois_base.specs.declared.guards.Op.{Op}
use Rattle.lois_base.specs.declared.guards.Op.TheVariants.{Eq, Ne, Lt, AtMost}

-- `=` and `!=` deny one another, and so do `<` and `<=` turned round
abbrev pub denial_of : Op → ℕ → ℕ → Lit
denial_of Eq x y = record { op = Ne; left = x; right = y }
denial_of Ne x y = record { op = Eq; left = x; right = y }
denial_of Lt x y = record { op = AtMost; left = y; right = x }
denial_of AtMost x y = record { op = Lt; left = y; right = x }

-- the literal that holds exactly where the literal doesn't
abbrev pub denial : Lit → Lit
denial l = denial_of l.op l.left l.right

-- one of these literals holds exactly where the literal doesn't
abbrev pub alternatives : Lit → List Lit
alternatives l = denial l ∷ []

-- one of these cubes holds exactly where the cube of these literals doesn't
abbrev pub denials : List Lit → List (List Lit)
denials = flat_map (λ l. map (λ m. m ∷ []) (alternatives l))
