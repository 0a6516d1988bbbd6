-- What a look-up among the names in scope finds.
use Rattle.std.proofs.Common.{◌≡◌, ℕ, Bool, true, false, List, [], ◌∷◌, ◌++◌, map, Option, Some, None, is_some, refl, sym, ap, ◌∙◌, cond, if◌then◌else◌, Bor, bytes_eq, ◌||◌}
use Rattle.std.proofs.lemmas.List.{map-append}
use Rattle.std.specs.List.{list_any}
use Rattle.std.specs.Map.{lookup}
use Rattle.std.specs.Option.{option_map}
use Rattle.lois_script.specs.Scope.{role_of}
use Rattle.lois_script.proofs.Lookup.{has, turned, looked_step}
use Rattle.lois_scope.specs.InScope.{MadeD, role_inside, roles_inside, is_named, with_name}
use Rattle.lois_scope.specs.declared.names.Made.{Made}

abbrev pub entry : Bor (List ℕ) × Made → MadeD
entry e = record { name = e.0.now; made = e.1 }

role_found : (x : List ℕ) (loops : ℕ) (es : List (Bor (List ℕ) × Made)) → role_of x (roles_inside loops (map entry es)) ≡ option_map (role_inside loops) (lookup (has x) es)
role_found x loops [] = refl
role_found x loops (e ∷ es) =
    rw (turned e.0.now x) (looked_step (role_inside loops) e.1 (bytes_eq x e.0.now) _ (lookup (has x) es) (role_found x loops es))

named_step : {X : Type 0} (v : X) (b c : Bool) (p : Option X) → c ≡ is_some p → (b || c) ≡ is_some (cond b (Some v) p)
named_step v true c p e = refl
named_step v false c p e = e

named : (x : List ℕ) (es : List (Bor (List ℕ) × Made)) → list_any (is_named x) (map entry es) ≡ is_some (lookup (has x) es)
named x [] = refl
named x (e ∷ es) = rw (turned e.0.now x) (named_step e.1 (bytes_eq x e.0.now) _ (lookup (has x) es) (named x es))

pub role_looked : (x q : List ℕ) (loops : ℕ) (es : List (Bor (List ℕ) × Made)) (found : Option Made) → found ≡ lookup (has q) es → q ≡ x → option_map (role_inside loops) found ≡ role_of x (roles_inside loops (map entry es))
role_looked x q loops es found e same =
    ap (option_map (role_inside loops)) (e ∙ ap (λ (y : List ℕ). lookup (has y) es) same) ∙ sym (role_found x loops es)

pub present : (x q : List ℕ) (how : Made) (es : List (Bor (List ℕ) × Made)) → true ≡ is_some (lookup (has q) es) → q ≡ x → map entry es ≡ with_name (map entry es) x how
present x q how es h same =
    rw (named x es, ← same, ← h)

pub absent : (x q : List ℕ) (how : Made) (k : Bor (List ℕ)) (es new : List (Bor (List ℕ) × Made)) → false ≡ is_some (lookup (has q) es) → q ≡ x → k.now ≡ x → new ≡ es ++ (k, how) ∷ [] → map entry new ≡ with_name (map entry es) x how
absent x q how k es new h same at e =
    let b : list_any (is_named x) (map entry es) ≡ false = named x es ∙ ap (λ (y : List ℕ). is_some (lookup (has y) es)) (sym same) ∙ sym h in
    ap (map entry) e ∙ map-append entry es ((k, how) ∷ []) ∙ ap (λ (y : List ℕ). map entry es ++ record { name = y; made = how } ∷ []) at ∙ sym (ap (λ (c : Bool). if c then (map entry es) else (map entry es ++ record { name = x; made = how } ∷ [])) b)

pub none_there : {X : Type 0} (o : Option X) → false ≡ is_some o → o ≡ None
none_there None e = refl
none_there (Some v) e = cc
