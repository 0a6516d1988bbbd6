-- What a declared name and an entered loop do to the scope.
use Rattle.std.proofs.Common.{◌≡◌, ℕ, suc, Bool, true, false, List, [], ◌∷◌, ◌++◌, map, take, length, Option, Some, None, is_some, refl, sym, ap, subst, ◌∙◌, if◌then◌else◌, nat_eq, bytes_eq, ◌||◌, arith}
use Rattle.std.proofs.Math.Seq.{take-length, take-append_seam}
use Rattle.std.proofs.lemmas.Bool.Decides.{Decides-eqb}
use Rattle.std.proofs.lemmas.List.{map-append}
use Rattle.std.proofs.lemmas.List.Elements.{All-append, All-head, All-tail, All-cons, All-nil}
use Rattle.std.proofs.lemmas.Slice.Eq.{bytes_eq-Decides}
use Rattle.std.specs.List.{All, list_any}
use Rattle.lois_script.specs.Scope.{RoleD, inner, outer, role_of, declare, farther}
use Rattle.lois_scope.specs.InScope.{MadeD, role_inside, roles_inside, is_named, with_name}
use Rattle.lois_scope.specs.Breaks.{KeepsLeast}
use Rattle.lois_scope.specs.Walks.{StateD, SeenD, scope_of, IsMadeWithin, IsWithin, IsAlike, Walks, AdvancesScope}
use Rattle.lois_scope.specs.declared.names.Made.{Made}
use Rattle.lois_scope.specs.declared.names.Made.TheVariants.{Variable, Fixed}
use Rattle.lois_scope.proofs.Alike.{Part, role_of-append, or_role}

-- a name that is there has a role
there : (loops : ℕ) (x : List ℕ) (made : List MadeD) → list_any (is_named x) made ≡ true → is_some (role_of x (roles_inside loops made)) ≡ true
there loops x [] h = cc
there loops x (d ∷ ds) h = by (bytes_eq d.name x) (list_any (is_named x) ds) (role_of x (roles_inside loops ds)) h (there loops x ds)
  where
    by : (b c : Bool) (o : Option RoleD) → (b || c) ≡ true → (c ≡ true → is_some o ≡ true) → is_some (if b then (Some (role_inside loops d.made)) else o) ≡ true
    by true c o h rest = refl
    by false c o h rest = rest h

absorbed : (o d : Option RoleD) → (is_some d ≡ true → is_some o ≡ true) → o ≡ or_role o d
absorbed None None h = refl
absorbed None (Some r) h = cc (h refl)
absorbed (Some q) d h = refl

is_some_if : (b : Bool) (r : RoleD) → is_some (if b then (Some r) else None) ≡ true → b ≡ true
is_some_if true r h = refl
is_some_if false r h = h

-- a name that is in scope already changes nothing when it is declared again
again_alike : (s : StateD) (x : List ℕ) (role : RoleD) → list_any (is_named x) s.made ≡ true → IsAlike (scope_of s) (declare x role (scope_of s))
again_alike s x role h = record {
  names = λ y.
      absorbed (role_of y (roles_inside s.loops s.made)) (role_of y (record { name = x; role = role } ∷ []))
      (λ some. let e = (bytes_eq-Decides x y).0 (is_some_if (bytes_eq x y) role some) in
      subst (λ (z : List ℕ). is_some (role_of z (roles_inside s.loops s.made)) ≡ true) e (there s.loops x s.made h))
      ∙ sym (role_of-append y (roles_inside s.loops s.made) (record { name = x; role = role } ∷ []));
  in_loop = refl;
  ordered = refl;
}

abbrev pub declared_state : StateD → List ℕ → Made → StateD
declared_state s x how = record { made = with_name s.made x how; loops = s.loops; ordered = s.ordered }

pub declared_alike : (s : StateD) (x : List ℕ) (how : Made) → IsAlike (scope_of (declared_state s x how)) (declare x (role_inside s.loops how) (scope_of s))
declared_alike s x how = by (list_any (is_named x) s.made) (again_alike s x (role_inside s.loops how))
  where
    new : StateD
    new = record { made = s.made ++ record { name = x; made = how } ∷ []; loops = s.loops; ordered = s.ordered }

    by : (b : Bool) → (b ≡ true → IsAlike (scope_of s) (declare x (role_inside s.loops how) (scope_of s)))
        → IsAlike (scope_of (record { made = if b then s.made else (s.made ++ record { name = x; made = how } ∷ []); loops = s.loops; ordered = s.ordered })) (declare x (role_inside s.loops how) (scope_of s))
    by true again = again refl
    by false again = record {
      names = λ y. ap (role_of y) (map-append (λ (d : MadeD). record { name = d.name; role = role_inside s.loops d.made }) s.made (record { name = x; made = how } ∷ []));
      in_loop = refl;
      ordered = refl;
    }

pub declared_prefix : (x : List ℕ) (how : Made) (made : List MadeD) → take (length made) (with_name made x how) ≡ made
declared_prefix x how made = by (list_any (is_named x) made)
  where
    by : (b : Bool) → take (length made) (if b then made else (made ++ record { name = x; made = how } ∷ [])) ≡ made
    by true = take-length made
    by false = take-append_seam made (record { name = x; made = how } ∷ [])

pub declared_within : (loops : ℕ) (x : List ℕ) (how : Made) (made : List MadeD) → IsMadeWithin loops how → All (λ d. IsMadeWithin loops d.made) made → All (λ d. IsMadeWithin loops d.made) (with_name made x how)
declared_within loops x how made h w = by (list_any (is_named x) made)
  where
    by : (b : Bool) → All (λ d. IsMadeWithin loops d.made) (if b then made else (made ++ record { name = x; made = how } ∷ []))
    by true = w
    by false = All-append (λ d. IsMadeWithin loops d.made) made (record { name = x; made = how } ∷ []) w (All-cons (λ d. IsMadeWithin loops d.made) (record { name = x; made = how }) [] h (All-nil (λ d. IsMadeWithin loops d.made)))

-- a part was walked, and a name declared behind it
pub walked_and_declared : (P : Part) (x : List ℕ) (how : Made) (a b c : SeenD) → Walks P a b
    → c.state.made ≡ with_name b.state.made x how → c.state.loops ≡ b.state.loops → c.state.ordered ≡ b.state.ordered → c.kept ≡ b.kept
    → IsMadeWithin a.state.loops how → AdvancesScope P (declare x (role_inside a.state.loops how)) a c
walked_and_declared P x how a b c h made loops ordered kept fits =
    let e : c.state ≡ declared_state a.state x how = λ i. record { made = (made ∙ ap (λ (s : StateD). with_name s.made x how) h.state) i; loops = (loops ∙ ap (λ (s : StateD). s.loops) h.state) i; ordered = (ordered ∙ ap (λ (s : StateD). s.ordered) h.state) i } in
    record {
      made = ap (λ (s : StateD). take (length a.state.made) s.made) e ∙ declared_prefix x how a.state.made;
      loops = ap (λ (s : StateD). s.loops) e;
      ordered = ap (λ (s : StateD). s.ordered) e;
      within = λ w. subst IsWithin (sym e) (declared_within a.state.loops x how a.state.made fits w);
      scope = subst (λ (s : StateD). IsAlike (scope_of s) (declare x (role_inside a.state.loops how) (scope_of a.state))) (sym e) (declared_alike a.state x how);
      first = subst (KeepsLeast (P (scope_of a.state)) a.kept) (sym kept) h.first;
    }

pub made_here : (loops : ℕ) → role_inside loops (Variable loops) ≡ inner
made_here loops = ap (λ (b : Bool). if b then inner else outer) ((Decides-eqb loops loops).1 refl)

far_step : (x : List ℕ) (b c : Bool) → (b ≡ true → ⊥) → (if b then inner else outer) ≡ (farther (record { name = x; role = if c then inner else outer })).role
far_step x true c h = absurd (h refl)
far_step x false true h = refl
far_step x false false h = refl

-- inside one more loop, what was made here was made farther out
pub farther_out : (loops : ℕ) (made : List MadeD) → All (λ d. IsMadeWithin loops d.made) made → roles_inside (suc loops) made ≡ map farther (roles_inside loops made)
farther_out loops [] w = refl
farther_out loops (d ∷ ds) w =
    let e = one d.made (All-head (λ d. IsMadeWithin loops d.made) d ds w) in
    let rest = farther_out loops ds (All-tail (λ d. IsMadeWithin loops d.made) d ds w) in
    λ i. record { name = d.name; role = e i } ∷ rest i
  where
    one : (m : Made) → IsMadeWithin loops m → role_inside (suc loops) m ≡ (farther (record { name = d.name; role = role_inside loops m })).role
    one (Variable own) h = far_step d.name (nat_eq own (suc loops)) (nat_eq own loops) (λ e. let l : own ≡ suc loops = (Decides-eqb own (suc loops)).0 e in omega (arith, h))
    one Fixed h = refl
