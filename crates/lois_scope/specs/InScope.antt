-- The names in scope, as the check keeps them: a name that is declared again is there once, as it was made first.
use Rattle.std.specs.Prelude.{ℕ, Bool, List, [], ◌∷◌, ◌++◌, map, if◌then◌else◌, bytes_eq, nat_eq}
use Rattle.std.specs.List.{list_any}
use Rattle.lois_script.specs.Scope.{RoleD, inner, outer, fixed, DeclaredD}
use Rattle.lois_scope.specs.declared.names.Made.{Made}
use Rattle.lois_scope.specs.declared.names.Made.TheVariants.{Variable, Fixed}
use Rattle.lois_scope.specs.declared.names.Role.{Role}
use Rattle.lois_scope.specs.declared.names.Role.TheVariants.{Inner, Outer, Fixed as FixedRole}
use Rattle.lois_scope.specs.declared.names.Names.{Names}

pub record MadeD : Type 0 where
  pub name : List ℕ
  pub made : Made

abbrev pub made_of : Names → List MadeD
made_of names = map (λ e. record { name = e.0.now; made = e.1 }) names.made.entries

abbrev pub role_view : Role → RoleD
role_view Inner = inner
role_view Outer = outer
role_view FixedRole = fixed

-- what a name is inside so many loops
abbrev pub role_inside : ℕ → Made → RoleD
role_inside loops (Variable own) = if (nat_eq own loops) then inner else outer
role_inside loops Fixed = fixed

abbrev pub roles_inside : ℕ → List MadeD → List DeclaredD
roles_inside loops made = map (λ d. record { name = d.name; role = role_inside loops d.made }) made

abbrev pub is_named : List ℕ → MadeD → Bool
is_named x d = bytes_eq d.name x

abbrev pub with_name : List MadeD → List ℕ → Made → List MadeD
with_name made x how = if (list_any (is_named x) made) then made else (made ++ record { name = x; made = how } ∷ [])
