-- The number behind `make`, by what `parse` makes of the word.
use Rattle.std.proofs.Common.{rules, ◌≡◌, ◌⊎◌, inl, inr, ℕ, ◌<◌, ◌≤◌, Bool, true, false, true≢false, not, ◌&&◌, List, [], ◌∷◌, length, get_or, Option, Some, None, Result, Ok, Err, codes, nat_eq, refl, arith, subst, bytes_eq, option_map, if◌then◌else◌}
use Rattle.std.specs.Prelude.{IfSome, nat_le, ⊤}
use Rattle.std.specs.List.{list_all, starts_with}
use Rattle.std.specs.Option.{option_or}
use Rattle.std.specs.Char.{is_ascii_digit}
use Rattle.std.specs.Str.Parse.{ParsesUnsigned}
use Rattle.std.proofs.lemmas.Bool.{and_parts, le-leb, leb-true, lt-leb}
use Rattle.std.proofs.lemmas.Str.Parse.{IsNumeralModel, numerals_by_fold, parse_plain}
use Rattle.lois_script.specs.Grammar.{decimal, decimal_behind}
use Rattle.lois_base.specs.declared.deciding.Kind.{Kind}
use Rattle.lois_command.specs.FreeNames.{free_name}
use Rattle.lois_run.specs.Words.{Requests, command_alone, command_of, command_with_number, is_loop_count, number_first, number_last, number_named, option_named, command_with_names, one_name, two_names}
use Rattle.lois_run.specs.declared.words.Command.{Command}
use Rattle.lois_run.specs.declared.words.Command.TheVariants.{Run, Check, Reread, Make, Registers, Census}

own : IsNumeralModel (λ ds. list_all is_ascii_digit ds ≡ true) decimal
own = numerals_by_fold _ (search rules) decimal_behind (search rules)

abbrev pub begins : List ℕ → List ℕ → Bool
begins = starts_with nat_eq

-- a number from 1 to 10,000
abbrev pub within : {E : Type 0} → Result ℕ E → Option ℕ
within (Ok n) = if (nat_le 1 n && nat_le n 10000) then (Some n) else None
within (Err e) = None

unsigned : (bs : List ℕ) → begins bs (codes "+") ≡ false → get_or bs 0 0 ≡ 43 → ⊥
unsigned [] h e = absurd (omega (arith, e))
unsigned (b ∷ bs) h e = true≢false (rw e at h)

some_digit : (bs : List ℕ) → 1 ≤ decimal bs → 0 < length bs
some_digit [] h = absurd (omega (arith, h))
some_digit (b ∷ bs) h = omega arith

number_digits : (bs : List ℕ) → is_loop_count bs ≡ true → list_all is_ascii_digit bs ≡ true
number_digits bs h =
    let upper = and_parts (list_all is_ascii_digit bs && not (begins bs (codes "0")) && nat_le 1 (decimal bs)) (nat_le (decimal bs) 10000) h in
    let lower = and_parts (list_all is_ascii_digit bs && not (begins bs (codes "0"))) (nat_le 1 (decimal bs)) upper.0 in
    (and_parts (list_all is_ascii_digit bs) (not (begins bs (codes "0"))) lower.0).0

number_limits : (bs : List ℕ) → is_loop_count bs ≡ true → (1 ≤ decimal bs) × (decimal bs ≤ 10000)
number_limits bs h =
    let upper = and_parts (list_all is_ascii_digit bs && not (begins bs (codes "0")) && nat_le 1 (decimal bs)) (nat_le (decimal bs) 10000) h in
    let lower = and_parts (list_all is_ascii_digit bs && not (begins bs (codes "0"))) (nat_le 1 (decimal bs)) upper.0 in
    (leb-true 1 (decimal bs) lower.1, leb-true (decimal bs) 10000 upper.1)

module _ {E : Type 0} where
  pub number_read : (bs : List ℕ) (r : Result ℕ E) → ParsesUnsigned 32 10 bs r → begins bs (codes "+") ≡ false → begins bs (codes "0") ≡ false → number_named bs ≡ within r
  number_read bs (Ok n) h plus padded =
      let read = parse_plain own {E = E} 32 bs (Ok n) h (unsigned bs plus) in
      rw (read.0.0, padded, read.1) refl
  number_read bs (Err e) h plus padded = go (is_loop_count bs) refl
    where
      go : (b : Bool) → is_loop_count bs ≡ b → number_named bs ≡ None
      go false f = rw f refl
      go true f =
          let limits = number_limits bs f in
          absurd (parse_plain own {E = E} 32 bs (Err e) h (unsigned bs plus) (number_digits bs f, some_digit bs limits.0, omega (arith, limits.1)))

pub within_limits : {E : Type 0} (r : Result ℕ E) (n : ℕ) → r ≡ Ok n → 1 ≤ n → n ≤ 10000 → within r ≡ Some n
within_limits r n is least most = rw (is, le-leb 1 n least, le-leb n 10000 most) refl

pub beyond_limits : {E : Type 0} (r : Result ℕ E) (n : ℕ) → r ≡ Ok n → (n < 1) ⊎ (10000 < n) → within r ≡ None
beyond_limits r n is (inl below) = rw (is, lt-leb 1 n below) refl
beyond_limits r n is (inr above) = rw (is, le-leb 1 n (omega (arith, above)), lt-leb n 10000 above) refl

-- ---- a number that is asked for is within the limits

abbrev IsLimited : Command → Type 0
IsLimited (Make n kind) = (1 ≤ n) × (n ≤ 10000)
IsLimited _ = ⊤

limited_number : (number : List ℕ) (kind : Option (Option Kind)) → IfSome (command_with_number (number_named number) kind) IsLimited
limited_number number kind = go (is_loop_count number) kind refl
  where
    go : (b : Bool) (kind : Option (Option Kind)) → is_loop_count number ≡ b → IfSome (command_with_number (if b then (Some (decimal number)) else None) kind) IsLimited
    go false kind h = tt
    go true None h = tt
    go true (Some k) h = number_limits number h

limited_either : (a b : Option Command) → IfSome a IsLimited → IfSome b IsLimited → IfSome (option_or a b) IsLimited
limited_either None b h k = k
limited_either (Some c) b h k = h

limited_first : (words : List (List ℕ)) → IfSome (number_first words) IsLimited
limited_first [] = tt
limited_first (number ∷ option) = limited_number number (option_named option)

limited_last : (words : List (List ℕ)) → IfSome (number_last words) IsLimited
limited_last [] = tt
limited_last (o ∷ []) = tt
limited_last (o ∷ number ∷ []) = limited_number number (option_named (o ∷ []))
limited_last (o ∷ k ∷ number ∷ []) = limited_number number (option_named (o ∷ k ∷ []))
limited_last (o ∷ k ∷ number ∷ x ∷ l) = tt

limited_run : (kind : Option (Option Kind)) → IfSome (option_map (λ k. Run k) kind) IsLimited
limited_run None = tt
limited_run (Some k) = tt

limited_alone : (command : Command) → IsLimited command → (words : List (List ℕ)) → IfSome (command_alone command words) IsLimited
limited_alone command h [] = h
limited_alone command h (x ∷ l) = tt

limited_equal : (first second : Option (List ℕ)) → IfSome (command_with_names first second) IsLimited
limited_equal None second = tt
limited_equal (Some n) None = tt
limited_equal (Some n) (Some m) = tt

limited_names : (words : List (List ℕ)) → IfSome (two_names words) IsLimited
limited_names [] = tt
limited_names (a ∷ []) = tt
limited_names (a ∷ b ∷ []) = limited_equal (free_name a) (free_name b)
limited_names (a ∷ b ∷ x ∷ l) = tt

limited_census : (name : Option (List ℕ)) → IfSome (option_map (λ n. Census n) name) IsLimited
limited_census None = tt
limited_census (Some n) = tt

limited_name : (words : List (List ℕ)) → IfSome (one_name words) IsLimited
limited_name [] = tt
limited_name (a ∷ []) = limited_census (free_name a)
limited_name (a ∷ x ∷ l) = tt

limited_if : (b : Bool) (c d : Option Command) → IfSome c IsLimited → IfSome d IsLimited → IfSome (if b then c else d) IsLimited
limited_if true c d h k = h
limited_if false c d h k = k

limited : (words : List (List ℕ)) → IfSome (command_of words) IsLimited
limited [] = tt
limited (w ∷ ws) =
    limited_if (bytes_eq w (codes "run")) _ _ (limited_run (option_named ws))
    (limited_if (bytes_eq w (codes "make")) _ _ (limited_either (number_first ws) (number_last ws) (limited_first ws) (limited_last ws))
    (limited_if (bytes_eq w (codes "check")) _ _ (limited_alone Check tt ws)
    (limited_if (bytes_eq w (codes "reread")) _ _ (limited_alone Reread tt ws)
    (limited_if (bytes_eq w (codes "equal")) _ _ (limited_names ws)
    (limited_if (bytes_eq w (codes "registers")) _ _ (limited_alone Registers tt ws)
    (limited_if (bytes_eq w (codes "census")) _ None (limited_name ws) tt))))))

pub made_limits : (words : List (List ℕ)) (n : ℕ) (kind : Option Kind) → Requests (Make n kind) words → (1 ≤ n) × (n ≤ 10000)
made_limits words n kind asks = subst (λ (o : Option Command). IfSome o IsLimited) asks (limited words)
