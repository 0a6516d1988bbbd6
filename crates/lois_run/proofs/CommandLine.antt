-- What clap makes of the words is what they ask for.
use Rattle.std.proofs.Common.{◌≡◌, ◌⊎◌, inl, inr, ℕ, Bool, true, false, true≢false, not, ◌||◌, List, [], ◌∷◌, ◌++◌, Option, Some, None, option_map, codes, refl, sym, ap, ap₂, ◌∙◌, subst, bytes_eq, nat_eq, if◌then◌else◌, find, fold, map, String, string_bytes, length, zero, suc, ◌+◌, ◌<◌, arith, take, drop, take-append-drop, slice_index_or, append-nil, append_assoc}
use Rattle.std.specs.List.{starts_with}
use Rattle.std.specs.Option.{option_map_or, option_or}
use Rattle.std.proofs.lemmas.Bool.Decides.{nat_tests}
use Rattle.std.proofs.lemmas.Slice.Eq.{bytes_eq-Decides}
use Rattle.clap.specs.Lexer.{long_of, short_of}
use Rattle.clap.specs.Simple.{Shape, built, label_of, names_of}
use Rattle.clap.specs.Walk.{Held, Names, Text, Walk, answers_to, arg_by_index, idle, nothing_held, subcommand_met, walk, walk_from, walked}
use Rattle.clap.specs.Faults.{defaults_fault, fault_of, level_fault, stray_fault, turn_fault, walk_fault}
use Rattle.clap.specs.Kinds.{Kinds, or_else}
use Rattle.clap.specs.declared.error.kind.ErrorKind.TheVariants as kind
use Rattle.clap.specs.Words.{HasKind, HasMatchesOf, IsAmong, is_simple_and_free, kind_of, subcommand_of, subcommand_rows_of}
use Rattle.clap.specs.declared.error.Error.{Error}
use Rattle.clap.specs.declared.error.kind.ErrorKind.TheVariants.{OutOfMemory}
use Rattle.clap.specs.declared.parser.matches.ArgMatches.{ArgMatches}
use Rattle.clap.proofs.FaultLemmas.{stopped_fault}
use Rattle.clap.proofs.OnLiterals.{clap_on_literals}
use Rattle.lois_script.proofs.Lookup.{turned}
use Rattle.lois_command.proofs.ClapWalk.{HasFault, dashed_free, later, level_fails, or_fault, or_later, plain_apart, plain_long, plain_short, stray, stray_at, stray_fails, walk_at, walk_fails}
use Rattle.lois_command.specs.CommandWords.{is_dashed}
use Rattle.lois_run.specs.CommandLine.{is_option, seen_behind, are_expected, program, command_found}
use Rattle.lois_command.specs.FreeNames.{free_name}
use Rattle.lois_run.specs.Words.{command_alone, command_of, command_with_names, command_with_number, kind_chosen, number_first, number_last, number_named, one_name, option_named, two_names}
use Rattle.lois_run.specs.declared.words.Command.{Command}
use Rattle.lois_run.specs.declared.words.Command.TheVariants.{Run, Check, Reread, Registers, Census}

option_split : (w : List ℕ) → is_option w ≡ true → (w ≡ codes "--decider") ⊎ ((v : List ℕ) × (w ≡ codes "--decider=" ++ v))
option_split w h = go (bytes_eq w (codes "--decider")) (starts_with nat_eq w (codes "--decider=")) refl refl h
  where
    go : (a b : Bool) → bytes_eq w (codes "--decider") ≡ a → starts_with nat_eq w (codes "--decider=") ≡ b → (a || b) ≡ true → (w ≡ codes "--decider") ⊎ ((v : List ℕ) × (w ≡ codes "--decider=" ++ v))
    go true b e f h = inl ((bytes_eq-Decides w (codes "--decider")).0 e)
    go false true e f h =
        let front : codes "--decider=" ≡ take 10 w = (bytes_eq-Decides (codes "--decider=") (take 10 w)).0 f in
        inr (drop 10 w, sym (take-append-drop 10 w) ∙ ap (λ (x : List ℕ). x ++ drop 10 w) (sym front))
    go false false e f h = cc h

dashed_next : (seen : Bool) (w : List ℕ) (ws : List (List ℕ)) → is_dashed w ≡ true → are_expected seen (w ∷ ws) ≡ true → (not seen ≡ true) × (is_option w ≡ true) × (are_expected true ws ≡ true)
dashed_next seen w ws d h = go (not seen) (is_option w) refl refl
  where
    go : (a b : Bool) → not seen ≡ a → is_option w ≡ b → (not seen ≡ true) × (is_option w ≡ true) × (are_expected true ws ≡ true)
    go true true e f = (e, f, (rw (d, e, f) at h))
    go true false e f = cc (rw (d, e, f) at h)
    go false b e f = cc (rw (d, e) at h)

plain_next : (seen : Bool) (w : List ℕ) (ws : List (List ℕ)) → is_dashed w ≡ false → are_expected seen (w ∷ ws) ≡ true → are_expected seen ws ≡ true
plain_next seen w ws d h = rw d at h

-- behind the option no word starts with a hyphen
once : (w : List ℕ) (ws : List (List ℕ)) → are_expected true (w ∷ ws) ≡ true → (is_dashed w ≡ false) × (are_expected true ws ≡ true)
once w ws h = go (is_dashed w) refl
  where
    go : (b : Bool) → is_dashed w ≡ b → (is_dashed w ≡ false) × (are_expected true ws ≡ true)
    go true e = cc ((dashed_next true w ws e h).0)
    go false e = (e, plain_next true w ws e h)

-- ---- the program

abbrev top : Shape
top = (built program).top

abbrev subs : List Shape
subs = (built program).subs

abbrev names : Names
names = names_of (built program)

nothing_fails : HasFault (fault_of program [])
unfolding clap_on_literals
nothing_fails = λ e. cc e

first_fails : (w : Text) (ws : List Text) → HasFault (turn_fault top names (walk_from nothing_held) w) → HasFault (fault_of program (w ∷ ws))
first_fails w ws h = level_fails top names (w ∷ ws) _ _ (walk_fails top names (walk_from nothing_held) w ws h)

unknown_option : (w : Text) → (w ≡ codes "--decider") ⊎ ((v : List ℕ) × (w ≡ codes "--decider=" ++ v)) → HasFault (turn_fault top names (walk_from nothing_held) w)
unknown_option w (inl e) = rw e (λ f. cc f)
unknown_option w (inr (v, e)) = rw e (λ f. cc f)

-- the first word names no subcommand
other_fails : (w : Text) (ws : List Text) → subcommand_met names idle w ≡ None → are_expected false (w ∷ ws) ≡ true → HasFault (fault_of program (w ∷ ws))
other_fails w ws none h = first_fails w ws (go (is_dashed w) refl)
  where
    go : (b : Bool) → is_dashed w ≡ b → HasFault (turn_fault top names (walk_from nothing_held) w)
    go true d = unknown_option w (option_split w (dashed_next false w ws d h).1)
    go false d = subst HasFault (sym (stray top names 1 nothing_held w d none refl)) (stray_fails top)

-- the first word names this subcommand
module _ (n : Text) (s : Shape) (met : subcommand_met names idle n ≡ Some n) (found : find (λ x. answers_to n (label_of x)) subs ≡ Some s) (no_help : bytes_eq n (codes "help") ≡ false) where
  first_walked : walked [] names (walk_from nothing_held) n ≡ record (walk_from nothing_held) { stopped = Some (n, []) }
  unfolding walked
  first_walked = rw met refl

  stays : (xs rest : List Text) → fold (walked [] names) (record (walk_from nothing_held) { stopped = Some (n, xs) }) rest ≡ record (walk_from nothing_held) { stopped = Some (n, xs ++ rest) }
  unfolding walked
  stays xs [] = ap (λ (l : List Text). record (walk_from nothing_held) { stopped = Some (n, l) }) (sym (append-nil xs))
  stays xs (x ∷ rest) = stays (xs ++ x ∷ []) rest ∙ ap (λ (l : List Text). record (walk_from nothing_held) { stopped = Some (n, l) }) (append_assoc xs (x ∷ []) rest)

  all_walked : (rest : List Text) → walk [] names nothing_held (n ∷ rest) ≡ record (walk_from nothing_held) { stopped = Some (n, rest) }
  all_walked rest = ap (λ (w : Walk). fold (walked [] names) w rest) first_walked ∙ stays [] rest

  no_walk_fault : (rest : List Text) → walk_fault top names (walk_from nothing_held) (n ∷ rest) ≡ []
  unfolding walk_fault
  no_walk_fault rest =
      let turn : turn_fault top names (walk_from nothing_held) n ≡ [] = rw (met, no_help) refl in
      rw (turn, first_walked) (stopped_fault top names (walk_from nothing_held) (n, []) rest)

  fault_is : (rest : List Text) → fault_of program (n ∷ rest) ≡ or_else (level_fault s [] nothing_held rest false []) []
  unfolding defaults_fault
  fault_is rest = rw (all_walked rest, no_walk_fault rest, found) refl

-- ---- what the words come to

pub data Verdict (ws : List Text) : Type 0 where
  takes : fault_of program ws ≡ [] → command_found (subcommand_of program ws) ≡ command_of ws → Verdict ws
  refuses : HasFault (fault_of program ws) → command_of ws ≡ None → Verdict ws

sub_fails : (n : Text) (s : Shape) (rest : List Text) → fault_of program (n ∷ rest) ≡ or_else (level_fault s [] nothing_held rest false []) [] → HasFault (walk_fault s [] (walk_from nothing_held) rest) → HasFault (fault_of program (n ∷ rest))
sub_fails n s rest is h = subst HasFault (sym is) (or_fault _ _ (level_fails s [] rest false [] h))

-- a subcommand without arguments
module _ (n : Text) (s : Shape) (is : (rest : List Text) → fault_of program (n ∷ rest) ≡ or_else (level_fault s [] nothing_held rest false []) []) (none : s.rules ≡ []) where
  leaf_fails : (o : Text) (more : List Text) → are_expected false (o ∷ more) ≡ true → HasFault (fault_of program (n ∷ o ∷ more))
  leaf_fails o more h = sub_fails n s (o ∷ more) (is (o ∷ more)) (walk_fails s [] (walk_from nothing_held) o more (go (is_dashed o) refl))
    where
      unknown : (is_option o ≡ true) → HasFault (turn_fault s [] (walk_from nothing_held) o)
      unknown e = elim (option_split o e) [
        | inl f ↦ rw (f, none) (λ x. cc x)
        | inr p ↦ rw (p.1, none) (λ x. cc x)
      ]

      go : (b : Bool) → is_dashed o ≡ b → HasFault (turn_fault s [] (walk_from nothing_held) o)
      go true d = unknown (dashed_next false o more d h).1
      go false d = subst HasFault (sym (stray s [] 1 nothing_held o d refl (ap (λ rules. arg_by_index rules 1) none))) (stray_fails s)

-- ---- `run`

abbrev running : Shape
running = slice_index_or subs 0 top

run_is : (rest : List Text) → fault_of program (codes "run" ∷ rest) ≡ or_else (level_fault running [] nothing_held rest false []) []
run_is rest = fault_is (codes "run") running refl refl refl rest

run_fails : (rest : List Text) → HasFault (walk_fault running [] (walk_from nothing_held) rest) → HasFault (fault_of program (codes "run" ∷ rest))
run_fails rest h = sub_fails (codes "run") running rest (run_is rest) h

valued : (v : Text) → walked running.rules [] (walk_from nothing_held) (codes "--decider=" ++ v) ≡ walk_from (walked running.rules [] (walk_from nothing_held) (codes "--decider=" ++ v)).held
unfolding walked
valued v = refl

waiting : Walk
waiting = walked running.rules [] (walk_from nothing_held) (codes "--decider")

separate : (k : Text) → is_dashed k ≡ false → walked running.rules [] waiting k ≡ walk_from (walked running.rules [] waiting k).held
unfolding walked waiting
separate k d = rw (plain_apart k (45 ∷ []) d, plain_long k d, plain_short k d) refl

run_alone : Verdict (codes "run" ∷ [])
unfolding clap_on_literals
run_alone = takes refl refl

run_valued : (v : Text) → Verdict (codes "run" ∷ (codes "--decider=" ++ v) ∷ [])
unfolding clap_on_literals
run_valued v = takes refl refl

run_separate : (k : Text) → is_dashed k ≡ false → Verdict (codes "run" ∷ codes "--decider" ∷ k ∷ [])
unfolding clap_on_literals
run_separate k d = takes (rw (plain_apart k (45 ∷ []) d, plain_long k d, plain_short k d) refl) (rw (plain_apart k (45 ∷ []) d, plain_long k d, plain_short k d) refl)

run_waits : Verdict (codes "run" ∷ codes "--decider" ∷ [])
unfolding clap_on_literals
run_waits = refuses (λ e. cc e) refl

-- behind `run`, a word that starts with no hyphen
run_stray : (o : Text) (more : List Text) → is_dashed o ≡ false → Verdict (codes "run" ∷ o ∷ more)
run_stray o more d = refuses (run_fails (o ∷ more) (stray_at running 1 nothing_held o more refl d)) (none more)
  where
    none : (l : List Text) → command_of (codes "run" ∷ o ∷ l) ≡ None
    none [] = rw (plain_apart o (drop 1 (codes "--decider=plain")) d, plain_apart o (drop 1 (codes "--decider=graph")) d, plain_apart o (drop 1 (codes "--decider=memo")) d) refl
    none (k ∷ []) = rw (plain_apart o (drop 1 (codes "--decider")) d) refl
    none (k ∷ x ∷ l) = refl

-- behind the option and its value, a word that starts with no hyphen
stray_behind : (k x : Text) (l : List Text) → is_dashed k ≡ false → is_dashed x ≡ false → HasFault (walk_fault running [] (walk_from nothing_held) (codes "--decider" ∷ k ∷ x ∷ l))
unfolding walk_fault waiting
stray_behind k x l d f = or_later (turn_fault running [] (walk_from nothing_held) (codes "--decider")) _ (later running waiting _ k (x ∷ l) (separate k d) (stray_at running 1 _ x l refl f))

run_option : (o : Text) (more : List Text) → (o ≡ codes "--decider") ⊎ ((v : List ℕ) × (o ≡ codes "--decider=" ++ v)) → are_expected true more ≡ true → Verdict (codes "run" ∷ o ∷ more)
run_option o more (inl e) h = subst (λ (x : Text). Verdict (codes "run" ∷ x ∷ more)) (sym e) (go more h)
  where
    go : (l : List Text) → are_expected true l ≡ true → Verdict (codes "run" ∷ codes "--decider" ∷ l)
    go [] h = run_waits
    go (k ∷ []) h = run_separate k (once k [] h).0
    go (k ∷ x ∷ l) h =
        let first = once k (x ∷ l) h in
        let second = once x l first.1 in
        refuses (run_fails (codes "--decider" ∷ k ∷ x ∷ l) (stray_behind k x l first.0 second.0)) refl
run_option o more (inr (v, e)) h = subst (λ (x : Text). Verdict (codes "run" ∷ x ∷ more)) (sym e) (go more h)
  where
    none : (k : Text) (l : List Text) → command_of (codes "run" ∷ (codes "--decider=" ++ v) ∷ k ∷ l) ≡ None
    none k [] = refl
    none k (x ∷ l) = refl

    go : (l : List Text) → are_expected true l ≡ true → Verdict (codes "run" ∷ (codes "--decider=" ++ v) ∷ l)
    go [] h = run_valued v
    go (k ∷ l) h = refuses (run_fails ((codes "--decider=" ++ v) ∷ k ∷ l) (later running (walk_from nothing_held) _ (codes "--decider=" ++ v) (k ∷ l) (valued v) (stray_at running 1 _ k l refl (once k l h).0))) (none k l)

run_verdict : (rest : List Text) → are_expected false rest ≡ true → Verdict (codes "run" ∷ rest)
run_verdict [] h = run_alone
run_verdict (o ∷ more) h = go (is_dashed o) refl
  where
    go : (b : Bool) → is_dashed o ≡ b → Verdict (codes "run" ∷ o ∷ more)
    go true d = let next = dashed_next false o more d h in run_option o more (option_split o next.1) next.2
    go false d = run_stray o more d

-- ---- `make`

abbrev making : Shape
making = slice_index_or subs 1 top

make_is : (rest : List Text) → fault_of program (codes "make" ∷ rest) ≡ or_else (level_fault making [] nothing_held rest false []) []
make_is rest = fault_is (codes "make") making refl refl refl rest

make_fails : (rest : List Text) → HasFault (walk_fault making [] (walk_from nothing_held) rest) → HasFault (fault_of program (codes "make" ∷ rest))
make_fails rest h = sub_fails (codes "make") making rest (make_is rest) h

-- the number
counted : (h : Held) (k : Text) → is_dashed k ≡ false → walked making.rules [] (walk_from h) k ≡ walk_at 2 (walked making.rules [] (walk_from h) k).held
unfolding walked
counted h k d = rw (plain_apart k (45 ∷ []) d, plain_long k d, plain_short k d) refl

-- the option in one word
joined : (position : ℕ) (h : Held) (v : Text) → walked making.rules [] (walk_at position h) (codes "--decider=" ++ v) ≡ walk_at position (walked making.rules [] (walk_at position h) (codes "--decider=" ++ v)).held
unfolding walked
joined position h v = refl

-- the option's first word
open_at : ℕ → Held → Walk
open_at position h = walked making.rules [] (walk_at position h) (codes "--decider")

-- the option's second word
closed : (position : ℕ) (h : Held) (k : Text) → is_dashed k ≡ false → walked making.rules [] (open_at position h) k ≡ walk_at position (walked making.rules [] (open_at position h) k).held
unfolding walked open_at
closed position h k d = rw (plain_apart k (45 ∷ []) d, plain_long k d, plain_short k d) refl

-- the number was there, and one more word starts with no hyphen
past_number : (h : Held) (x : Text) (l : List Text) → is_dashed x ≡ false → HasFault (walk_fault making [] (walk_at 2 h) (x ∷ l))
past_number h x l d = stray_at making 2 h x l refl d

past_joined : (h : Held) (v x : Text) (l : List Text) → is_dashed x ≡ false → HasFault (walk_fault making [] (walk_at 2 h) ((codes "--decider=" ++ v) ∷ x ∷ l))
past_joined h v x l d = later making (walk_at 2 h) _ (codes "--decider=" ++ v) (x ∷ l) (joined 2 h v) (past_number _ x l d)

past_separate : (h : Held) (k x : Text) (l : List Text) → is_dashed k ≡ false → is_dashed x ≡ false → HasFault (walk_fault making [] (walk_at 2 h) (codes "--decider" ∷ k ∷ x ∷ l))
unfolding open_at
past_separate h k x l d e = later making (walk_at 2 h) (open_at 2 h) (codes "--decider") (k ∷ x ∷ l) refl (later making (open_at 2 h) _ k (x ∷ l) (closed 2 h k d) (past_number _ x l e))

behind_number : (h : Held) (k : Text) (rest : List Text) → is_dashed k ≡ false → ((after : Held) → HasFault (walk_fault making [] (walk_at 2 after) rest)) → HasFault (walk_fault making [] (walk_from h) (k ∷ rest))
behind_number h k rest d fails = later making (walk_from h) _ k rest (counted h k d) (fails _)

behind_joined : (v k x : Text) (l : List Text) → is_dashed k ≡ false → is_dashed x ≡ false → HasFault (walk_fault making [] (walk_from nothing_held) ((codes "--decider=" ++ v) ∷ k ∷ x ∷ l))
behind_joined v k x l d e = later making (walk_from nothing_held) _ (codes "--decider=" ++ v) (k ∷ x ∷ l) (joined 1 nothing_held v) (behind_number _ k (x ∷ l) d (λ after. past_number after x l e))

behind_separate : (n k x : Text) (l : List Text) → is_dashed n ≡ false → is_dashed k ≡ false → is_dashed x ≡ false → HasFault (walk_fault making [] (walk_from nothing_held) (codes "--decider" ∷ n ∷ k ∷ x ∷ l))
unfolding open_at
behind_separate n k x l c d e = later making (walk_from nothing_held) (open_at 1 nothing_held) (codes "--decider") (n ∷ k ∷ x ∷ l) refl
    (later making (open_at 1 nothing_held) _ n (k ∷ x ∷ l) (closed 1 nothing_held n c) (behind_number _ k (x ∷ l) d (λ after. past_number after x l e)))

-- ---- what `make` asks for

or_none : {X : Type 0} (o : Option X) → option_or o None ≡ o
or_none None = refl
or_none (Some x) = refl

no_option : (number : Option ℕ) → command_with_number number None ≡ None
no_option None = refl
no_option (Some n) = refl

plain_kind : (k : Text) → is_dashed k ≡ false → kind_chosen k ≡ None
plain_kind k d = rw (plain_apart k (drop 1 (codes "--decider=plain")) d, plain_apart k (drop 1 (codes "--decider=graph")) d, plain_apart k (drop 1 (codes "--decider=memo")) d) refl

plain_option : (k : Text) (rest : List Text) → is_dashed k ≡ false → option_named (k ∷ rest) ≡ None
plain_option k [] d = ap (option_map (λ kind. Some kind)) (plain_kind k d)
plain_option k (x ∷ []) d = rw (plain_apart k (drop 1 (codes "--decider")) d) refl
plain_option k (x ∷ y ∷ l) d = refl

plain_last : (k : Text) (rest : List Text) → is_dashed k ≡ false → number_last (k ∷ rest) ≡ None
plain_last k [] d = refl
plain_last k (x ∷ []) d = ap (command_with_number (number_named x)) (plain_option k [] d) ∙ no_option (number_named x)
plain_last k (x ∷ y ∷ []) d = ap (command_with_number (number_named y)) (plain_option k (x ∷ []) d) ∙ no_option (number_named y)
plain_last k (x ∷ y ∷ z ∷ l) d = refl

-- where the number stands first, what stands behind it counts alone
asked_first : (k : Text) (rest : List Text) → is_dashed k ≡ false → command_of (codes "make" ∷ k ∷ rest) ≡ command_with_number (number_named k) (option_named rest)
asked_first k rest d = ap (option_or (command_with_number (number_named k) (option_named rest))) (plain_last k rest d) ∙ or_none (command_with_number (number_named k) (option_named rest))

asked_none : (k : Text) (rest : List Text) → is_dashed k ≡ false → option_named rest ≡ None → command_of (codes "make" ∷ k ∷ rest) ≡ None
asked_none k rest d e = asked_first k rest d ∙ ap (command_with_number (number_named k)) e ∙ no_option (number_named k)

-- ---- what clap makes of the words behind `make`

make_alone : Verdict (codes "make" ∷ [])
unfolding clap_on_literals
make_alone = takes refl refl

make_number : (k : Text) → is_dashed k ≡ false → Verdict (codes "make" ∷ k ∷ [])
unfolding clap_on_literals
make_number k d =
    let found : command_found (subcommand_of program (codes "make" ∷ k ∷ [])) ≡ command_with_number (number_named k) (option_named []) = rw (plain_apart k (45 ∷ []) d, plain_long k d, plain_short k d) refl in
    takes (rw (plain_apart k (45 ∷ []) d, plain_long k d, plain_short k d) refl) (found ∙ sym (asked_first k [] d))

make_joined : (v : Text) → Verdict (codes "make" ∷ (codes "--decider=" ++ v) ∷ [])
unfolding clap_on_literals
make_joined v = takes refl refl

make_waits : Verdict (codes "make" ∷ codes "--decider" ∷ [])
unfolding clap_on_literals
make_waits = refuses (λ e. cc e) refl

make_separate : (k : Text) → is_dashed k ≡ false → Verdict (codes "make" ∷ codes "--decider" ∷ k ∷ [])
unfolding clap_on_literals
make_separate k d =
    let found : command_found (subcommand_of program (codes "make" ∷ codes "--decider" ∷ k ∷ [])) ≡ command_with_number None (option_named (codes "--decider" ∷ k ∷ [])) = rw (plain_apart k (45 ∷ []) d, plain_long k d, plain_short k d) refl in
    takes (rw (plain_apart k (45 ∷ []) d, plain_long k d, plain_short k d) refl) (found ∙ sym (no_option (number_named k)))

number_joined : (k v : Text) → is_dashed k ≡ false → Verdict (codes "make" ∷ k ∷ (codes "--decider=" ++ v) ∷ [])
unfolding clap_on_literals
number_joined k v d =
    let found : command_found (subcommand_of program (codes "make" ∷ k ∷ (codes "--decider=" ++ v) ∷ [])) ≡ command_with_number (number_named k) (option_named ((codes "--decider=" ++ v) ∷ [])) = rw (plain_apart k (45 ∷ []) d, plain_long k d, plain_short k d) refl in
    takes (rw (plain_apart k (45 ∷ []) d, plain_long k d, plain_short k d) refl) (found ∙ sym (asked_first k ((codes "--decider=" ++ v) ∷ []) d))

number_waits : (k : Text) → is_dashed k ≡ false → Verdict (codes "make" ∷ k ∷ codes "--decider" ∷ [])
unfolding clap_on_literals
number_waits k d = refuses (rw (plain_apart k (45 ∷ []) d, plain_long k d, plain_short k d) (λ e. cc e)) (asked_none k (codes "--decider" ∷ []) d refl)

number_separate : (n k : Text) → is_dashed n ≡ false → is_dashed k ≡ false → Verdict (codes "make" ∷ n ∷ codes "--decider" ∷ k ∷ [])
unfolding clap_on_literals
number_separate n k c d =
    let found : command_found (subcommand_of program (codes "make" ∷ n ∷ codes "--decider" ∷ k ∷ [])) ≡ command_with_number (number_named n) (option_named (codes "--decider" ∷ k ∷ [])) = rw (plain_apart n (45 ∷ []) c, plain_long n c, plain_short n c, plain_apart k (45 ∷ []) d, plain_long k d, plain_short k d) refl in
    takes (rw (plain_apart n (45 ∷ []) c, plain_long n c, plain_short n c, plain_apart k (45 ∷ []) d, plain_long k d, plain_short k d) refl) (found ∙ sym (asked_first n (codes "--decider" ∷ k ∷ []) c))

joined_number : (v k : Text) → is_dashed k ≡ false → Verdict (codes "make" ∷ (codes "--decider=" ++ v) ∷ k ∷ [])
unfolding clap_on_literals
joined_number v k d = takes (rw (plain_apart k (45 ∷ []) d, plain_long k d, plain_short k d) refl) (rw (plain_apart k (45 ∷ []) d, plain_long k d, plain_short k d) refl)

separate_number : (k n : Text) → is_dashed k ≡ false → is_dashed n ≡ false → Verdict (codes "make" ∷ codes "--decider" ∷ k ∷ n ∷ [])
unfolding clap_on_literals
separate_number k n d c = takes (rw (plain_apart k (45 ∷ []) d, plain_long k d, plain_short k d, plain_apart n (45 ∷ []) c, plain_long n c, plain_short n c) refl)
    (rw (plain_apart k (45 ∷ []) d, plain_long k d, plain_short k d, plain_apart n (45 ∷ []) c, plain_long n c, plain_short n c) refl)

-- the number first, then the option
number_option : (k o : Text) (more : List Text) → is_dashed k ≡ false → (o ≡ codes "--decider") ⊎ ((v : List ℕ) × (o ≡ codes "--decider=" ++ v)) → are_expected true more ≡ true → Verdict (codes "make" ∷ k ∷ o ∷ more)
number_option k o more d (inl e) h = subst (λ (x : Text). Verdict (codes "make" ∷ k ∷ x ∷ more)) (sym e) (go more h)
  where
    go : (l : List Text) → are_expected true l ≡ true → Verdict (codes "make" ∷ k ∷ codes "--decider" ∷ l)
    go [] h = number_waits k d
    go (n ∷ []) h = number_separate k n d (once n [] h).0
    go (n ∷ x ∷ l) h =
        let first = once n (x ∷ l) h in
        let second = once x l first.1 in
        refuses (make_fails (k ∷ codes "--decider" ∷ n ∷ x ∷ l) (behind_number nothing_held k (codes "--decider" ∷ n ∷ x ∷ l) d (λ after. past_separate after n x l first.0 second.0))) (asked_none k (codes "--decider" ∷ n ∷ x ∷ l) d refl)
number_option k o more d (inr (v, e)) h = subst (λ (x : Text). Verdict (codes "make" ∷ k ∷ x ∷ more)) (sym e) (go more h)
  where
    none : (x : Text) (l : List Text) → option_named ((codes "--decider=" ++ v) ∷ x ∷ l) ≡ None
    none x [] = refl
    none x (y ∷ l) = refl

    go : (l : List Text) → are_expected true l ≡ true → Verdict (codes "make" ∷ k ∷ (codes "--decider=" ++ v) ∷ l)
    go [] h = number_joined k v d
    go (x ∷ l) h = refuses (make_fails (k ∷ (codes "--decider=" ++ v) ∷ x ∷ l) (behind_number nothing_held k ((codes "--decider=" ++ v) ∷ x ∷ l) d (λ after. past_joined after v x l (once x l h).0))) (asked_none k ((codes "--decider=" ++ v) ∷ x ∷ l) d (none x l))

-- the option first
make_option : (o : Text) (more : List Text) → (o ≡ codes "--decider") ⊎ ((v : List ℕ) × (o ≡ codes "--decider=" ++ v)) → are_expected true more ≡ true → Verdict (codes "make" ∷ o ∷ more)
make_option o more (inl e) h = subst (λ (x : Text). Verdict (codes "make" ∷ x ∷ more)) (sym e) (go more h)
  where
    go : (l : List Text) → are_expected true l ≡ true → Verdict (codes "make" ∷ codes "--decider" ∷ l)
    go [] h = make_waits
    go (k ∷ []) h = make_separate k (once k [] h).0
    go (k ∷ n ∷ []) h = let first = once k (n ∷ []) h in separate_number k n first.0 (once n [] first.1).0
    go (k ∷ n ∷ x ∷ l) h =
        let first = once k (n ∷ x ∷ l) h in
        let second = once n (x ∷ l) first.1 in
        let third = once x l second.1 in
        refuses (make_fails (codes "--decider" ∷ k ∷ n ∷ x ∷ l) (behind_separate k n x l first.0 second.0 third.0)) refl
make_option o more (inr (v, e)) h = subst (λ (x : Text). Verdict (codes "make" ∷ x ∷ more)) (sym e) (go more h)
  where
    none : (k x : Text) (l : List Text) → command_of (codes "make" ∷ (codes "--decider=" ++ v) ∷ k ∷ x ∷ l) ≡ None
    none k x [] = no_option (number_named x)
    none k x (y ∷ l) = refl

    go : (l : List Text) → are_expected true l ≡ true → Verdict (codes "make" ∷ (codes "--decider=" ++ v) ∷ l)
    go [] h = make_joined v
    go (k ∷ []) h = joined_number v k (once k [] h).0
    go (k ∷ x ∷ l) h =
        let first = once k (x ∷ l) h in
        let second = once x l first.1 in
        refuses (make_fails ((codes "--decider=" ++ v) ∷ k ∷ x ∷ l) (behind_joined v k x l first.0 second.0)) (none k x l)

-- a second word that starts with no hyphen
make_stray : (k x : Text) (l : List Text) → is_dashed k ≡ false → is_dashed x ≡ false → Verdict (codes "make" ∷ k ∷ x ∷ l)
make_stray k x l d e = refuses (make_fails (k ∷ x ∷ l) (behind_number nothing_held k (x ∷ l) d (λ after. past_number after x l e))) (asked_none k (x ∷ l) d (plain_option x l e))

make_behind : (k : Text) (rest : List Text) → is_dashed k ≡ false → are_expected false rest ≡ true → Verdict (codes "make" ∷ k ∷ rest)
make_behind k [] d h = make_number k d
make_behind k (o ∷ more) d h = go (is_dashed o) refl
  where
    go : (b : Bool) → is_dashed o ≡ b → Verdict (codes "make" ∷ k ∷ o ∷ more)
    go true e = let next = dashed_next false o more e h in number_option k o more d (option_split o next.1) next.2
    go false e = make_stray k o more d e

make_verdict : (rest : List Text) → are_expected false rest ≡ true → Verdict (codes "make" ∷ rest)
make_verdict [] h = make_alone
make_verdict (o ∷ more) h = go (is_dashed o) refl
  where
    go : (b : Bool) → is_dashed o ≡ b → Verdict (codes "make" ∷ o ∷ more)
    go true d = let next = dashed_next false o more d h in make_option o more (option_split o next.1) next.2
    go false d = make_behind o more d (plain_next false o more d h)

-- ---- `check` and `reread`

check_verdict : (rest : List Text) → are_expected false rest ≡ true → Verdict (codes "check" ∷ rest)
unfolding clap_on_literals
check_verdict [] h = takes refl refl
check_verdict (o ∷ more) h =
    refuses (leaf_fails (codes "check") (slice_index_or subs 2 top) (fault_is (codes "check") (slice_index_or subs 2 top) refl refl refl) refl o more h) refl

reread_verdict : (rest : List Text) → are_expected false rest ≡ true → Verdict (codes "reread" ∷ rest)
unfolding clap_on_literals
reread_verdict [] h = takes refl refl
reread_verdict (o ∷ more) h =
    refuses (leaf_fails (codes "reread") (slice_index_or subs 3 top) (fault_is (codes "reread") (slice_index_or subs 3 top) refl refl refl) refl o more h) refl

registers_verdict : (rest : List Text) → are_expected false rest ≡ true → Verdict (codes "registers" ∷ rest)
unfolding clap_on_literals
registers_verdict [] h = takes refl refl
registers_verdict (o ∷ more) h =
    refuses (leaf_fails (codes "registers") (slice_index_or subs 5 top) (fault_is (codes "registers") (slice_index_or subs 5 top) refl refl refl) refl o more h) refl

-- ---- `equal` and `census`, which take names alone

no_second : (first : Option Text) → command_with_names first None ≡ None
no_second None = refl
no_second (Some n) = refl

-- the option, which neither takes
abbrev RefusesOption : Shape → Type 0
RefusesOption s = (position : ℕ) (h : Held) (o : Text) → (o ≡ codes "--decider") ⊎ ((v : List ℕ) × (o ≡ codes "--decider=" ++ v)) → HasFault (turn_fault s [] (walk_at position h) o)

module _ (s : Shape) (unknown : RefusesOption s) where
  option_at : (position : ℕ) (h : Held) (o : Text) (more : List Text) → is_dashed o ≡ true → are_expected false (o ∷ more) ≡ true → HasFault (walk_fault s [] (walk_at position h) (o ∷ more))
  option_at position h o more d x = walk_fails s [] (walk_at position h) o more (unknown position h o (option_split o (dashed_next false o more d x).1))

  -- all names were there, and one more word
  one_more : (position : ℕ) (h : Held) (o : Text) (more : List Text) → arg_by_index s.rules position ≡ None → are_expected false (o ∷ more) ≡ true → HasFault (walk_fault s [] (walk_at position h) (o ∷ more))
  one_more position h o more nowhere x = go (is_dashed o) refl
    where
      go : (b : Bool) → is_dashed o ≡ b → HasFault (walk_fault s [] (walk_at position h) (o ∷ more))
      go true d = option_at position h o more d x
      go false d = stray_at s position h o more nowhere d

abbrev comparing : Shape
comparing = slice_index_or subs 4 top

equal_fails : (rest : List Text) → HasFault (walk_fault comparing [] (walk_from nothing_held) rest) → HasFault (fault_of program (codes "equal" ∷ rest))
equal_fails rest h = sub_fails (codes "equal") comparing rest (fault_is (codes "equal") comparing refl refl refl rest) h

equal_unknown : RefusesOption comparing
equal_unknown position h o (inl e) = rw e (λ f. cc f)
equal_unknown position h o (inr (v, e)) = rw e (λ f. cc f)

first_named : (h : Held) (k : Text) → is_dashed k ≡ false → walked comparing.rules [] (walk_from h) k ≡ walk_at 2 (walked comparing.rules [] (walk_from h) k).held
unfolding walked
first_named h k d = rw (plain_apart k (45 ∷ []) d, plain_long k d, plain_short k d) refl

second_named : (h : Held) (k : Text) → is_dashed k ≡ false → walked comparing.rules [] (walk_at 2 h) k ≡ walk_at 3 (walked comparing.rules [] (walk_at 2 h) k).held
unfolding walked
second_named h k d = rw (plain_apart k (45 ∷ []) d, plain_long k d, plain_short k d) refl

behind_first : (k : Text) (rest : List Text) → is_dashed k ≡ false → ((after : Held) → HasFault (walk_fault comparing [] (walk_at 2 after) rest)) → HasFault (fault_of program (codes "equal" ∷ k ∷ rest))
behind_first k rest d fails = equal_fails (k ∷ rest) (later comparing (walk_from nothing_held) _ k rest (first_named nothing_held k d) (fails _))

behind_second : (k l : Text) (rest : List Text) → is_dashed k ≡ false → is_dashed l ≡ false → ((after : Held) → HasFault (walk_fault comparing [] (walk_at 3 after) rest)) → HasFault (fault_of program (codes "equal" ∷ k ∷ l ∷ rest))
behind_second k l rest d e fails = behind_first k (l ∷ rest) d (λ after. later comparing (walk_at 2 after) _ l rest (second_named after l e) (fails _))

equal_alone : Verdict (codes "equal" ∷ [])
unfolding clap_on_literals
equal_alone = takes refl refl

equal_one : (k : Text) → is_dashed k ≡ false → Verdict (codes "equal" ∷ k ∷ [])
unfolding clap_on_literals
equal_one k d =
    let found : command_found (subcommand_of program (codes "equal" ∷ k ∷ [])) ≡ command_with_names (free_name k) None = rw (plain_apart k (45 ∷ []) d, plain_long k d, plain_short k d) refl in
    takes (rw (plain_apart k (45 ∷ []) d, plain_long k d, plain_short k d) refl) (found ∙ no_second (free_name k))

equal_two : (k l : Text) → is_dashed k ≡ false → is_dashed l ≡ false → Verdict (codes "equal" ∷ k ∷ l ∷ [])
unfolding clap_on_literals
equal_two k l d e = takes (rw (plain_apart k (45 ∷ []) d, plain_long k d, plain_short k d, plain_apart l (45 ∷ []) e, plain_long l e, plain_short l e) refl)
    (rw (plain_apart k (45 ∷ []) d, plain_long k d, plain_short k d, plain_apart l (45 ∷ []) e, plain_long l e, plain_short l e) refl)

-- the first word behind `equal` starts with a hyphen
equal_dashed : (o : Text) (more : List Text) → is_dashed o ≡ true → are_expected false (o ∷ more) ≡ true → Verdict (codes "equal" ∷ o ∷ more)
equal_dashed o more d h = refuses (equal_fails (o ∷ more) (option_at comparing equal_unknown 1 nothing_held o more d h)) (none more)
  where
    none : (l : List Text) → command_of (codes "equal" ∷ o ∷ l) ≡ None
    none [] = refl
    none (k ∷ []) = ap (λ (n : Option Text). command_with_names n (free_name k)) (dashed_free o d)
    none (k ∷ x ∷ l) = refl

equal_behind : (k o : Text) (more : List Text) → is_dashed k ≡ false → are_expected false (o ∷ more) ≡ true → Verdict (codes "equal" ∷ k ∷ o ∷ more)
equal_behind k o more d h = go (is_dashed o) refl
  where
    none : (l : List Text) → is_dashed o ≡ true → command_of (codes "equal" ∷ k ∷ o ∷ l) ≡ None
    none [] e = ap (command_with_names (free_name k)) (dashed_free o e) ∙ no_second (free_name k)
    none (x ∷ l) e = refl

    plain : (l : List Text) → is_dashed o ≡ false → are_expected false l ≡ true → Verdict (codes "equal" ∷ k ∷ o ∷ l)
    plain [] e x = equal_two k o d e
    plain (y ∷ l) e x = refuses (behind_second k o (y ∷ l) d e (λ after. one_more comparing equal_unknown 3 after y l refl x)) refl

    go : (b : Bool) → is_dashed o ≡ b → Verdict (codes "equal" ∷ k ∷ o ∷ more)
    go true e = refuses (behind_first k (o ∷ more) d (λ after. option_at comparing equal_unknown 2 after o more e h)) (none more e)
    go false e = plain more e (plain_next false o more e h)

equal_verdict : (rest : List Text) → are_expected false rest ≡ true → Verdict (codes "equal" ∷ rest)
equal_verdict [] h = equal_alone
equal_verdict (o ∷ more) h = go (is_dashed o) refl
  where
    plain : (l : List Text) → is_dashed o ≡ false → are_expected false l ≡ true → Verdict (codes "equal" ∷ o ∷ l)
    plain [] d x = equal_one o d
    plain (k ∷ l) d x = equal_behind o k l d x

    go : (b : Bool) → is_dashed o ≡ b → Verdict (codes "equal" ∷ o ∷ more)
    go true d = equal_dashed o more d h
    go false d = plain more d (plain_next false o more d h)

abbrev counting : Shape
counting = slice_index_or subs 6 top

census_fails : (rest : List Text) → HasFault (walk_fault counting [] (walk_from nothing_held) rest) → HasFault (fault_of program (codes "census" ∷ rest))
census_fails rest h = sub_fails (codes "census") counting rest (fault_is (codes "census") counting refl refl refl rest) h

census_unknown : RefusesOption counting
census_unknown position h o (inl e) = rw e (λ f. cc f)
census_unknown position h o (inr (v, e)) = rw e (λ f. cc f)

only_named : (h : Held) (k : Text) → is_dashed k ≡ false → walked counting.rules [] (walk_from h) k ≡ walk_at 2 (walked counting.rules [] (walk_from h) k).held
unfolding walked
only_named h k d = rw (plain_apart k (45 ∷ []) d, plain_long k d, plain_short k d) refl

census_alone : Verdict (codes "census" ∷ [])
unfolding clap_on_literals
census_alone = takes refl refl

census_one : (k : Text) → is_dashed k ≡ false → Verdict (codes "census" ∷ k ∷ [])
unfolding clap_on_literals
census_one k d = takes (rw (plain_apart k (45 ∷ []) d, plain_long k d, plain_short k d) refl) (rw (plain_apart k (45 ∷ []) d, plain_long k d, plain_short k d) refl)

census_verdict : (rest : List Text) → are_expected false rest ≡ true → Verdict (codes "census" ∷ rest)
census_verdict [] h = census_alone
census_verdict (o ∷ more) h = go (is_dashed o) refl
  where
    none : (l : List Text) → is_dashed o ≡ true → command_of (codes "census" ∷ o ∷ l) ≡ None
    none [] d = ap (option_map (λ n. Census n)) (dashed_free o d)
    none (x ∷ l) d = refl

    plain : (l : List Text) → is_dashed o ≡ false → are_expected false l ≡ true → Verdict (codes "census" ∷ o ∷ l)
    plain [] d x = census_one o d
    plain (y ∷ l) d x = refuses (census_fails (o ∷ y ∷ l) (later counting (walk_from nothing_held) _ o (y ∷ l) (only_named nothing_held o d) (one_more counting census_unknown 2 _ y l refl x))) refl

    go : (b : Bool) → is_dashed o ≡ b → Verdict (codes "census" ∷ o ∷ more)
    go true d = refuses (census_fails (o ∷ more) (option_at counting census_unknown 1 nothing_held o more d h)) (none more d)
    go false d = plain more d (plain_next false o more d h)

-- what clap makes of words that it is asked about
pub verdict : (ws : List Text) → are_expected false ws ≡ true → Verdict ws
verdict [] h = refuses nothing_fails refl
verdict (w ∷ ws) h = go (bytes_eq w (codes "run")) (bytes_eq w (codes "make")) (bytes_eq w (codes "check")) (bytes_eq w (codes "reread")) refl refl refl refl
  where
    named : (n : Text) → bytes_eq w n ≡ true → Verdict (n ∷ ws) → Verdict (w ∷ ws)
    named n e v = subst (λ (x : Text). Verdict (x ∷ ws)) (sym ((bytes_eq-Decides w n).0 e)) v

    behind : (n : Text) → bytes_eq w n ≡ true → is_dashed n ≡ false → are_expected false ws ≡ true
    behind n e d = plain_next false w ws (ap is_dashed ((bytes_eq-Decides w n).0 e) ∙ d) h

    other : bytes_eq w (codes "run") ≡ false → bytes_eq w (codes "make") ≡ false → bytes_eq w (codes "check") ≡ false → bytes_eq w (codes "reread") ≡ false
        → (q g k : Bool) → bytes_eq w (codes "equal") ≡ q → bytes_eq w (codes "registers") ≡ g → bytes_eq w (codes "census") ≡ k → Verdict (w ∷ ws)
    other e f x i true g k j l m = named (codes "equal") j (equal_verdict ws (behind (codes "equal") j refl))
    other e f x i false true k j l m = named (codes "registers") l (registers_verdict ws (behind (codes "registers") l refl))
    other e f x i false false true j l m = named (codes "census") m (census_verdict ws (behind (codes "census") m refl))
    other e f x i false false false j l m =
        let unmet : subcommand_met names idle w ≡ None = rw (turned (codes "run") w, turned (codes "make") w, turned (codes "check") w, turned (codes "reread") w, turned (codes "equal") w, turned (codes "registers") w, turned (codes "census") w, e, f, x, i, j, l, m) refl in
        let none : command_of (w ∷ ws) ≡ None = rw (e, f, x, i, j, l, m) refl in
        refuses (other_fails w ws unmet h) none

    go : (r m c a : Bool) → bytes_eq w (codes "run") ≡ r → bytes_eq w (codes "make") ≡ m → bytes_eq w (codes "check") ≡ c → bytes_eq w (codes "reread") ≡ a → Verdict (w ∷ ws)
    go true m c a e f g i = named (codes "run") e (run_verdict ws (behind (codes "run") e refl))
    go false true c a e f g i = named (codes "make") f (make_verdict ws (behind (codes "make") f refl))
    go false false true a e f g i = named (codes "check") g (check_verdict ws (behind (codes "check") g refl))
    go false false false true e f g i = named (codes "reread") i (reread_verdict ws (behind (codes "reread") i refl))
    go false false false false e f g i = other e f g i (bytes_eq w (codes "equal")) (bytes_eq w (codes "registers")) (bytes_eq w (codes "census")) refl refl refl

-- ---- words that clap isn't asked about ask for nothing

same : (x y : List ℕ) → bytes_eq x y ≡ true → x ≡ y
same x y e = (bytes_eq-Decides x y).0 e

asked_about : (ws vs : List Text) → ws ≡ vs → are_expected false vs ≡ true → are_expected false ws ≡ false → ⊥
asked_about ws vs e expected never = true≢false (sym expected ∙ sym (ap (are_expected false) e) ∙ never)

option_alone : (o : Text) → are_expected false (o ∷ []) ≡ false → option_named (o ∷ []) ≡ None
option_alone o h = go (bytes_eq o (codes "--decider=plain")) (bytes_eq o (codes "--decider=graph")) (bytes_eq o (codes "--decider=memo")) refl refl refl
  where
    known : (n : Text) → bytes_eq o n ≡ true → are_expected false (n ∷ []) ≡ true → ⊥
    known n e expected = asked_about (o ∷ []) (n ∷ []) (ap (λ (x : Text). x ∷ []) (same o n e)) expected h

    go : (p g m : Bool) → bytes_eq o (codes "--decider=plain") ≡ p → bytes_eq o (codes "--decider=graph") ≡ g → bytes_eq o (codes "--decider=memo") ≡ m → option_named (o ∷ []) ≡ None
    go true g m e f k = absurd (known (codes "--decider=plain") e refl)
    go false true m e f k = absurd (known (codes "--decider=graph") f refl)
    go false false true e f k = absurd (known (codes "--decider=memo") k refl)
    go false false false e f k = rw (e, f, k) refl

option_and_kind : (o k : Text) → are_expected false (o ∷ k ∷ []) ≡ false → option_named (o ∷ k ∷ []) ≡ None
option_and_kind o k h = go (bytes_eq o (codes "--decider")) (bytes_eq k (codes "plain")) (bytes_eq k (codes "graph")) (bytes_eq k (codes "memo")) refl refl refl refl
  where
    known : (n : Text) → bytes_eq o (codes "--decider") ≡ true → bytes_eq k n ≡ true → are_expected false (codes "--decider" ∷ n ∷ []) ≡ true → ⊥
    known n d e expected = asked_about (o ∷ k ∷ []) (codes "--decider" ∷ n ∷ []) (ap₂ (λ (x y : Text). x ∷ y ∷ []) (same o (codes "--decider") d) (same k n e)) expected h

    go : (d p g m : Bool) → bytes_eq o (codes "--decider") ≡ d → bytes_eq k (codes "plain") ≡ p → bytes_eq k (codes "graph") ≡ g → bytes_eq k (codes "memo") ≡ m → option_named (o ∷ k ∷ []) ≡ None
    go false p g m b e f i = rw b refl
    go true true g m b e f i = absurd (known (codes "plain") b e refl)
    go true false true m b e f i = absurd (known (codes "graph") b f refl)
    go true false false true b e f i = absurd (known (codes "memo") b i refl)
    go true false false false b e f i = rw (b, e, f, i) refl

option_unexpected : (ws : List Text) → are_expected false ws ≡ false → option_named ws ≡ None
option_unexpected [] h = cc h
option_unexpected (o ∷ []) h = option_alone o h
option_unexpected (o ∷ k ∷ []) h = option_and_kind o k h
option_unexpected (o ∷ k ∷ x ∷ l) h = refl

dashed_number : (w : Text) → is_dashed w ≡ true → number_named w ≡ None
dashed_number [] d = refl
dashed_number (b ∷ bs) d = let hyphen : b ≡ 45 = grind (arith, nat_tests) in rw hyphen refl

-- a word that starts with no hyphen changes nothing, behind the others
plain_behind : (seen : Bool) (ws : List Text) (n : Text) → is_dashed n ≡ false → are_expected seen (ws ++ n ∷ []) ≡ are_expected seen ws
plain_behind seen [] n d = rw d refl
plain_behind seen (w ∷ ws) n d = go (seen_behind seen w) (λ behind. plain_behind behind ws n d)
  where
    go : (o : Option Bool) → ((behind : Bool) → are_expected behind (ws ++ n ∷ []) ≡ are_expected behind ws)
        → option_map_or (λ behind. are_expected behind (ws ++ n ∷ [])) o false ≡ option_map_or (λ behind. are_expected behind ws) o false
    go None same = refl
    go (Some behind) same = same behind

first_unexpected : (ws : List Text) → are_expected false ws ≡ false → number_first ws ≡ None
first_unexpected [] h = refl
first_unexpected (k ∷ rest) h = go (is_dashed k) refl
  where
    go : (b : Bool) → is_dashed k ≡ b → number_first (k ∷ rest) ≡ None
    go true d = ap (λ (n : Option ℕ). command_with_number n (option_named rest)) (dashed_number k d)
    go false d =
        let behind : are_expected false rest ≡ false = rw d at h in
        ap (command_with_number (number_named k)) (option_unexpected rest behind) ∙ no_option (number_named k)

-- an option and then a number
ends_unexpected : (ws : List Text) (n : Text) → are_expected false (ws ++ n ∷ []) ≡ false → command_with_number (number_named n) (option_named ws) ≡ None
ends_unexpected ws n h = go (is_dashed n) refl
  where
    go : (b : Bool) → is_dashed n ≡ b → command_with_number (number_named n) (option_named ws) ≡ None
    go true d = ap (λ (x : Option ℕ). command_with_number x (option_named ws)) (dashed_number n d)
    go false d = ap (command_with_number (number_named n)) (option_unexpected ws (sym (plain_behind false ws n d) ∙ h)) ∙ no_option (number_named n)

last_unexpected : (ws : List Text) → are_expected false ws ≡ false → number_last ws ≡ None
last_unexpected [] h = refl
last_unexpected (o ∷ []) h = refl
last_unexpected (o ∷ n ∷ []) h = ends_unexpected (o ∷ []) n h
last_unexpected (o ∷ k ∷ n ∷ []) h = ends_unexpected (o ∷ k ∷ []) n h
last_unexpected (o ∷ k ∷ n ∷ x ∷ l) h = refl

alone_unexpected : (command : Command) (ws : List Text) → are_expected false ws ≡ false → command_alone command ws ≡ None
alone_unexpected command [] h = cc h
alone_unexpected command (x ∷ l) h = refl

two_unexpected : (ws : List Text) → are_expected false ws ≡ false → two_names ws ≡ None
two_unexpected [] h = refl
two_unexpected (k ∷ []) h = refl
two_unexpected (k ∷ l ∷ []) h = go (is_dashed k) (is_dashed l) refl refl
  where
    go : (a b : Bool) → is_dashed k ≡ a → is_dashed l ≡ b → two_names (k ∷ l ∷ []) ≡ None
    go true b d e = ap (λ (n : Option Text). command_with_names n (free_name l)) (dashed_free k d)
    go false true d e = ap (command_with_names (free_name k)) (dashed_free l e) ∙ no_second (free_name k)
    go false false d e = cc (rw (d, e) at h)
two_unexpected (k ∷ l ∷ x ∷ more) h = refl

one_unexpected : (ws : List Text) → are_expected false ws ≡ false → one_name ws ≡ None
one_unexpected [] h = refl
one_unexpected (k ∷ []) h = go (is_dashed k) refl
  where
    go : (b : Bool) → is_dashed k ≡ b → one_name (k ∷ []) ≡ None
    go true d = ap (option_map (λ n. Census n)) (dashed_free k d)
    go false d = cc (rw d at h)
one_unexpected (k ∷ x ∷ more) h = refl

pub unexpected : (ws : List Text) → are_expected false ws ≡ false → command_of ws ≡ None
unexpected [] h = refl
unexpected (w ∷ ws) h = go (bytes_eq w (codes "run")) (bytes_eq w (codes "make")) (bytes_eq w (codes "check")) (bytes_eq w (codes "reread")) refl refl refl refl
  where
    behind : (n : Text) → bytes_eq w n ≡ true → is_dashed n ≡ false → are_expected false ws ≡ false
    behind n e d = let plain : is_dashed w ≡ false = ap is_dashed (same w n e) ∙ d in rw plain at h

    other : bytes_eq w (codes "run") ≡ false → bytes_eq w (codes "make") ≡ false → bytes_eq w (codes "check") ≡ false → bytes_eq w (codes "reread") ≡ false
        → (q g k : Bool) → bytes_eq w (codes "equal") ≡ q → bytes_eq w (codes "registers") ≡ g → bytes_eq w (codes "census") ≡ k → command_of (w ∷ ws) ≡ None
    other e f x i true g k j l m = rw (e, f, x, i, j) (two_unexpected ws (behind (codes "equal") j refl))
    other e f x i false true k j l m = rw (e, f, x, i, j, l) (alone_unexpected Registers ws (behind (codes "registers") l refl))
    other e f x i false false true j l m = rw (e, f, x, i, j, l, m) (one_unexpected ws (behind (codes "census") m refl))
    other e f x i false false false j l m = rw (e, f, x, i, j, l, m) refl

    go : (r m c a : Bool) → bytes_eq w (codes "run") ≡ r → bytes_eq w (codes "make") ≡ m → bytes_eq w (codes "check") ≡ c → bytes_eq w (codes "reread") ≡ a → command_of (w ∷ ws) ≡ None
    go true m c a e f g i = rw e (ap (option_map (λ kind. Run kind)) (option_unexpected ws (behind (codes "run") e refl)))
    go false true c a e f g i = let after = behind (codes "make") f refl in rw (e, f) (ap₂ option_or (first_unexpected ws after) (last_unexpected ws after))
    go false false true a e f g i = rw (e, f, g) (alone_unexpected Check ws (behind (codes "check") g refl))
    go false false false true e f g i = rw (e, f, g, i) (alone_unexpected Reread ws (behind (codes "reread") i refl))
    go false false false false e f g i = other e f g i (bytes_eq w (codes "equal")) (bytes_eq w (codes "registers")) (bytes_eq w (codes "census")) refl refl refl

-- ---- the walk over the words that clap is asked about

module _ {Z : Type 0} where
  expected_next : (words : List (String Z)) (i : ℕ) (word : String Z) (seen behind : Bool) → i < length words → word ≡ slice_index_or words i word → seen_behind seen (string_bytes word) ≡ Some behind
      → are_expected seen (drop i (map string_bytes words)) ≡ are_expected behind (drop (suc i) (map string_bytes words))
  expected_next [] i word seen behind l at is = absurd (omega (arith, l))
  expected_next (x ∷ xs) zero word seen behind l at is =
      let first : seen_behind seen (string_bytes x) ≡ Some behind = subst (λ (y : String Z). seen_behind seen (string_bytes y) ≡ Some behind) at is in
      ap (λ o. option_map_or (λ b. are_expected b (map string_bytes xs)) o false) first
  expected_next (x ∷ xs) (suc i) word seen behind l at is = expected_next xs i word seen behind (omega (arith, l)) at is

  pub expected_step : (words : List (String Z)) (i : ℕ) (word : String Z) (seen behind : Bool) → i < length words → word ≡ slice_index_or words i word → seen_behind seen (string_bytes word) ≡ Some behind
      → are_expected seen (drop i (map string_bytes words)) ≡ are_expected behind (drop (i + 1) (map string_bytes words))
  expected_step words i word seen behind l at is =
      let next : i + 1 ≡ suc i = omega arith in
      expected_next words i word seen behind l at is ∙ ap (λ (k : ℕ). are_expected behind (drop k (map string_bytes words))) (sym next)

  pub expected_stop : (words : List (String Z)) (i : ℕ) (word : String Z) (seen : Bool) → i < length words → word ≡ slice_index_or words i word → seen_behind seen (string_bytes word) ≡ None
      → are_expected seen (drop i (map string_bytes words)) ≡ false
  expected_stop [] i word seen l at is = absurd (omega (arith, l))
  expected_stop (x ∷ xs) zero word seen l at is =
      let first : seen_behind seen (string_bytes x) ≡ None = subst (λ (y : String Z). seen_behind seen (string_bytes y) ≡ None) at is in
      ap (λ o. option_map_or (λ b. are_expected b (map string_bytes xs)) o false) first
  expected_stop (x ∷ xs) (suc i) word seen l at is = expected_stop xs i word seen (omega (arith, l)) at is

-- ---- what is answered

simple : is_simple_and_free program ≡ true
simple = refl

pub found_is_asked : (ws : List Text) (m : ArgMatches) → are_expected false ws ≡ true → HasMatchesOf program ws m → (is_simple_and_free program ≡ true → fault_of program ws ≡ []) → command_found (subcommand_rows_of m) ≡ command_of ws
found_is_asked ws m h matches none = go (verdict ws h)
  where
    go : Verdict ws → command_found (subcommand_rows_of m) ≡ command_of ws
    go (takes f is) = ap command_found (matches refl).1 ∙ is
    go (refuses fault is) = absurd (fault (none simple))

pub refused_is_none : (ws : List Text) (e : Error) → are_expected false ws ≡ true → (is_simple_and_free program ≡ true → HasKind (fault_of program ws) e) → (kind_of e ≡ OutOfMemory → ⊥) → command_of ws ≡ None
refused_is_none ws e h kinds memory = go (verdict ws h) (kinds simple)
  where
    go : Verdict ws → HasKind (fault_of program ws) e → command_of ws ≡ None
    go (takes f is) (inl m) = absurd (memory m)
    go (takes f is) (inr among) = absurd (subst (IsAmong (kind_of e)) f among)
    go (refuses fault is) k = is
