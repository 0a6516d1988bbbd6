-- What clap makes of the words is what they ask.
use Rattle.std.proofs.Common.{◌≡◌, inl, inr, Bool, true, false, List, [], ◌∷◌, ◌++◌, Option, Some, None, codes, refl, sym, ap, ◌∙◌, subst, bytes_eq, find, fold, slice_index_or, append-nil, append_assoc, arith}
use Rattle.std.proofs.lemmas.Bool.Decides.{nat_tests}
use Rattle.std.proofs.lemmas.Slice.Eq.{bytes_eq-Decides}
use Rattle.clap.specs.Simple.{Shape, built, label_of, names_of}
use Rattle.clap.specs.Walk.{Held, Names, Text, Walk, answers_to, idle, nothing_held, subcommand_met, walk, walk_from, walked}
use Rattle.clap.specs.Faults.{defaults_fault, fault_of, level_fault, turn_fault, walk_fault}
use Rattle.clap.specs.Kinds.{or_else}
use Rattle.clap.specs.Words.{HasKind, HasMatchesOf, IsAmong, is_simple_and_free, kind_of, subcommand_of, subcommand_rows_of}
use Rattle.clap.specs.declared.error.Error.{Error}
use Rattle.clap.specs.declared.error.kind.ErrorKind.TheVariants.{OutOfMemory}
use Rattle.clap.specs.declared.parser.matches.ArgMatches.{ArgMatches}
use Rattle.clap.proofs.FaultLemmas.{stopped_fault}
use Rattle.clap.proofs.OnLiterals.{clap_on_literals}
use Rattle.lois_command.proofs.ClapWalk.{HasFault, dashed_free, later, level_fails, or_fault, plain_apart, plain_long, plain_short, stray, stray_at, stray_fails, walk_at, walk_fails}
use Rattle.lois_command.specs.CommandWords.{are_plain, is_dashed}
use Rattle.lois_command.specs.FreeNames.{free_name}
use Rattle.lois_script.proofs.Lookup.{turned}
use Rattle.lois_questions.specs.CommandLine.{program, question_found}
use Rattle.lois_questions.specs.Words.{no_name, one_graph, one_name, question_of, question_with_graph, question_with_name, question_with_names, two_names}

plain_next : (w : Text) (ws : List Text) → are_plain (w ∷ ws) ≡ true → (is_dashed w ≡ false) × (are_plain ws ≡ true)
plain_next w ws h = go (is_dashed w) refl
  where
    go : (b : Bool) → is_dashed w ≡ b → (is_dashed w ≡ false) × (are_plain ws ≡ true)
    go true d = cc (rw d at h)
    go false d = (d, (rw d at h))

-- ---- the program

abbrev top : Shape
top = (built program).top

abbrev subs : List Shape
subs = (built program).subs

abbrev names : Names
names = names_of (built program)

nothing_fails : HasFault (fault_of program [])
unfolding clap_on_literals
nothing_fails = λ e. cc e

-- the first word names no subcommand
other_fails : (w : Text) (ws : List Text) → subcommand_met names idle w ≡ None → is_dashed w ≡ false → HasFault (fault_of program (w ∷ ws))
other_fails w ws none d =
    level_fails top names (w ∷ ws) _ _ (walk_fails top names (walk_from nothing_held) w ws (subst HasFault (sym (stray top names 1 nothing_held w d none refl)) (stray_fails top)))

-- the first word names this subcommand
module _ (n : Text) (s : Shape) (met : subcommand_met names idle n ≡ Some n) (found : find (λ x. answers_to n (label_of x)) subs ≡ Some s) (no_help : bytes_eq n (codes "help") ≡ false) where
  first_walked : walked [] names (walk_from nothing_held) n ≡ record (walk_from nothing_held) { stopped = Some (n, []) }
  unfolding walked
  first_walked = rw met refl

  stays : (xs rest : List Text) → fold (walked [] names) (record (walk_from nothing_held) { stopped = Some (n, xs) }) rest ≡ record (walk_from nothing_held) { stopped = Some (n, xs ++ rest) }
  unfolding walked
  stays xs [] = ap (λ (l : List Text). record (walk_from nothing_held) { stopped = Some (n, l) }) (sym (append-nil xs))
  stays xs (x ∷ rest) = stays (xs ++ x ∷ []) rest ∙ ap (λ (l : List Text). record (walk_from nothing_held) { stopped = Some (n, l) }) (append_assoc xs (x ∷ []) rest)

  all_walked : (rest : List Text) → walk [] names nothing_held (n ∷ rest) ≡ record (walk_from nothing_held) { stopped = Some (n, rest) }
  all_walked rest = ap (λ (w : Walk). fold (walked [] names) w rest) first_walked ∙ stays [] rest

  no_walk_fault : (rest : List Text) → walk_fault top names (walk_from nothing_held) (n ∷ rest) ≡ []
  unfolding walk_fault
  no_walk_fault rest =
      let turn : turn_fault top names (walk_from nothing_held) n ≡ [] = rw (met, no_help) refl in
      rw (turn, first_walked) (stopped_fault top names (walk_from nothing_held) (n, []) rest)

  fault_is : (rest : List Text) → fault_of program (n ∷ rest) ≡ or_else (level_fault s [] nothing_held rest false []) []
  unfolding defaults_fault
  fault_is rest = rw (all_walked rest, no_walk_fault rest, found) refl

  sub_fails : (rest : List Text) → HasFault (walk_fault s [] (walk_from nothing_held) rest) → HasFault (fault_of program (n ∷ rest))
  sub_fails rest h = subst HasFault (sym (fault_is rest)) (or_fault _ _ (level_fails s [] rest false [] h))

-- ---- what the words come to

data Verdict (ws : List Text) : Type 0 where
  takes : fault_of program ws ≡ [] → question_found (subcommand_of program ws) ≡ question_of ws → Verdict ws
  refuses : HasFault (fault_of program ws) → question_of ws ≡ None → Verdict ws

-- ---- `word`

abbrev asking : Shape
asking = slice_index_or subs 0 top

word_fails : (rest : List Text) → HasFault (walk_fault asking [] (walk_from nothing_held) rest) → HasFault (fault_of program (codes "word" ∷ rest))
word_fails = sub_fails (codes "word") asking refl refl refl

only_named : (h : Held) (k : Text) → is_dashed k ≡ false → walked asking.rules [] (walk_from h) k ≡ walk_at 2 (walked asking.rules [] (walk_from h) k).held
unfolding walked
only_named h k d = rw (plain_apart k (45 ∷ []) d, plain_long k d, plain_short k d) refl

word_alone : Verdict (codes "word" ∷ [])
unfolding clap_on_literals
word_alone = takes refl refl

word_one : (k : Text) → is_dashed k ≡ false → Verdict (codes "word" ∷ k ∷ [])
unfolding clap_on_literals
word_one k d = takes (rw (plain_apart k (45 ∷ []) d, plain_long k d, plain_short k d) refl) (rw (plain_apart k (45 ∷ []) d, plain_long k d, plain_short k d) refl)

word_verdict : (rest : List Text) → are_plain rest ≡ true → Verdict (codes "word" ∷ rest)
word_verdict [] h = word_alone
word_verdict (k ∷ []) h = word_one k (plain_next k [] h).0
word_verdict (k ∷ x ∷ more) h =
    let first = plain_next k (x ∷ more) h in
    let second = plain_next x more first.1 in
    refuses (word_fails (k ∷ x ∷ more) (later asking (walk_from nothing_held) _ k (x ∷ more) (only_named nothing_held k first.0) (stray_at asking 2 _ x more refl second.0))) refl

-- ---- `within`

abbrev comparing : Shape
comparing = slice_index_or subs 1 top

within_fails : (rest : List Text) → HasFault (walk_fault comparing [] (walk_from nothing_held) rest) → HasFault (fault_of program (codes "within" ∷ rest))
within_fails = sub_fails (codes "within") comparing refl refl refl

first_named : (h : Held) (k : Text) → is_dashed k ≡ false → walked comparing.rules [] (walk_from h) k ≡ walk_at 2 (walked comparing.rules [] (walk_from h) k).held
unfolding walked
first_named h k d = rw (plain_apart k (45 ∷ []) d, plain_long k d, plain_short k d) refl

second_named : (h : Held) (k : Text) → is_dashed k ≡ false → walked comparing.rules [] (walk_at 2 h) k ≡ walk_at 3 (walked comparing.rules [] (walk_at 2 h) k).held
unfolding walked
second_named h k d = rw (plain_apart k (45 ∷ []) d, plain_long k d, plain_short k d) refl

no_second : (first : Option Text) → question_with_names first None ≡ None
no_second None = refl
no_second (Some n) = refl

within_alone : Verdict (codes "within" ∷ [])
unfolding clap_on_literals
within_alone = takes refl refl

within_one : (k : Text) → is_dashed k ≡ false → Verdict (codes "within" ∷ k ∷ [])
unfolding clap_on_literals
within_one k d =
    let found : question_found (subcommand_of program (codes "within" ∷ k ∷ [])) ≡ question_with_names (free_name k) None = rw (plain_apart k (45 ∷ []) d, plain_long k d, plain_short k d) refl in
    takes (rw (plain_apart k (45 ∷ []) d, plain_long k d, plain_short k d) refl) (found ∙ no_second (free_name k))

within_two : (k l : Text) → is_dashed k ≡ false → is_dashed l ≡ false → Verdict (codes "within" ∷ k ∷ l ∷ [])
unfolding clap_on_literals
within_two k l d e = takes (rw (plain_apart k (45 ∷ []) d, plain_long k d, plain_short k d, plain_apart l (45 ∷ []) e, plain_long l e, plain_short l e) refl)
    (rw (plain_apart k (45 ∷ []) d, plain_long k d, plain_short k d, plain_apart l (45 ∷ []) e, plain_long l e, plain_short l e) refl)

within_verdict : (rest : List Text) → are_plain rest ≡ true → Verdict (codes "within" ∷ rest)
within_verdict [] h = within_alone
within_verdict (k ∷ []) h = within_one k (plain_next k [] h).0
within_verdict (k ∷ l ∷ []) h = let first = plain_next k (l ∷ []) h in within_two k l first.0 (plain_next l [] first.1).0
within_verdict (k ∷ l ∷ x ∷ more) h =
    let first = plain_next k (l ∷ x ∷ more) h in
    let second = plain_next l (x ∷ more) first.1 in
    let third = plain_next x more second.1 in
    refuses (within_fails (k ∷ l ∷ x ∷ more) (later comparing (walk_from nothing_held) _ k (l ∷ x ∷ more) (first_named nothing_held k first.0)
    (later comparing (walk_at 2 _) _ l (x ∷ more) (second_named _ l second.0) (stray_at comparing 3 _ x more refl third.0)))) refl

-- ---- `same`

abbrev bare : Shape
bare = slice_index_or subs 2 top

same_fails : (rest : List Text) → HasFault (walk_fault bare [] (walk_from nothing_held) rest) → HasFault (fault_of program (codes "same" ∷ rest))
same_fails = sub_fails (codes "same") bare refl refl refl

same_alone : Verdict (codes "same" ∷ [])
unfolding clap_on_literals
same_alone = takes refl refl

same_verdict : (rest : List Text) → are_plain rest ≡ true → Verdict (codes "same" ∷ rest)
same_verdict [] h = same_alone
same_verdict (x ∷ more) h = refuses (same_fails (x ∷ more) (stray_at bare 1 nothing_held x more refl (plain_next x more h).0)) refl

-- ---- `picture`

abbrev drawing : Shape
drawing = slice_index_or subs 3 top

picture_fails : (rest : List Text) → HasFault (walk_fault drawing [] (walk_from nothing_held) rest) → HasFault (fault_of program (codes "picture" ∷ rest))
picture_fails = sub_fails (codes "picture") drawing refl refl refl

graph_named : (h : Held) (k : Text) → is_dashed k ≡ false → walked drawing.rules [] (walk_from h) k ≡ walk_at 2 (walked drawing.rules [] (walk_from h) k).held
unfolding walked
graph_named h k d = rw (plain_apart k (45 ∷ []) d, plain_long k d, plain_short k d) refl

picture_alone : Verdict (codes "picture" ∷ [])
unfolding clap_on_literals
picture_alone = takes refl refl

picture_one : (k : Text) → is_dashed k ≡ false → Verdict (codes "picture" ∷ k ∷ [])
unfolding clap_on_literals
picture_one k d = takes (rw (plain_apart k (45 ∷ []) d, plain_long k d, plain_short k d) refl) (rw (plain_apart k (45 ∷ []) d, plain_long k d, plain_short k d) refl)

picture_verdict : (rest : List Text) → are_plain rest ≡ true → Verdict (codes "picture" ∷ rest)
picture_verdict [] h = picture_alone
picture_verdict (k ∷ []) h = picture_one k (plain_next k [] h).0
picture_verdict (k ∷ x ∷ more) h =
    let first = plain_next k (x ∷ more) h in
    refuses (picture_fails (k ∷ x ∷ more) (later drawing (walk_from nothing_held) _ k (x ∷ more) (graph_named nothing_held k first.0)
    (stray_at drawing 2 _ x more refl (plain_next x more first.1).0))) refl

-- what clap makes of words that it is asked about
verdict : (ws : List Text) → are_plain ws ≡ true → Verdict ws
verdict [] h = refuses nothing_fails refl
verdict (w ∷ ws) h = go (bytes_eq w (codes "word")) (bytes_eq w (codes "within")) (bytes_eq w (codes "same")) (bytes_eq w (codes "picture")) refl refl refl refl
  where
    named : (n : Text) → bytes_eq w n ≡ true → Verdict (n ∷ ws) → Verdict (w ∷ ws)
    named n e v = subst (λ (x : Text). Verdict (x ∷ ws)) (sym ((bytes_eq-Decides w n).0 e)) v

    go : (a b x y : Bool) → bytes_eq w (codes "word") ≡ a → bytes_eq w (codes "within") ≡ b → bytes_eq w (codes "same") ≡ x → bytes_eq w (codes "picture") ≡ y → Verdict (w ∷ ws)
    go true b x y e f s p = named (codes "word") e (word_verdict ws (plain_next w ws h).1)
    go false true x y e f s p = named (codes "within") f (within_verdict ws (plain_next w ws h).1)
    go false false true y e f s p = named (codes "same") s (same_verdict ws (plain_next w ws h).1)
    go false false false true e f s p = named (codes "picture") p (picture_verdict ws (plain_next w ws h).1)
    go false false false false e f s p =
        let unmet : subcommand_met names idle w ≡ None = rw (turned (codes "word") w, turned (codes "within") w, turned (codes "same") w, turned (codes "picture") w, e, f, s, p) refl in
        refuses (other_fails w ws unmet (plain_next w ws h).0) (rw (e, f, s, p) refl)

-- ---- words that clap isn't asked about ask nothing

dashed_first : (w : Text) (ws : List Text) → is_dashed w ≡ true → question_of (w ∷ ws) ≡ None
dashed_first [] ws d = cc d
dashed_first (b ∷ bs) ws d = let hyphen : b ≡ 45 = grind (arith, nat_tests) in rw hyphen refl

one_unexpected : (ws : List Text) → are_plain ws ≡ false → one_name ws ≡ None
one_unexpected [] h = refl
one_unexpected (k ∷ []) h = go (is_dashed k) refl
  where
    go : (b : Bool) → is_dashed k ≡ b → one_name (k ∷ []) ≡ None
    go true d = ap question_with_name (dashed_free k d)
    go false d = cc (rw d at h)
one_unexpected (k ∷ x ∷ more) h = refl

two_unexpected : (ws : List Text) → are_plain ws ≡ false → two_names ws ≡ None
two_unexpected [] h = refl
two_unexpected (k ∷ []) h = refl
two_unexpected (k ∷ l ∷ []) h = go (is_dashed k) (is_dashed l) refl refl
  where
    go : (a b : Bool) → is_dashed k ≡ a → is_dashed l ≡ b → two_names (k ∷ l ∷ []) ≡ None
    go true b d e = ap (λ (n : Option Text). question_with_names n (free_name l)) (dashed_free k d)
    go false true d e = ap (question_with_names (free_name k)) (dashed_free l e) ∙ no_second (free_name k)
    go false false d e = cc (rw (d, e) at h)
two_unexpected (k ∷ l ∷ x ∷ more) h = refl

none_unexpected : (ws : List Text) → are_plain ws ≡ false → no_name ws ≡ None
none_unexpected [] h = cc h
none_unexpected (k ∷ ws) h = refl

graph_unexpected : (ws : List Text) → are_plain ws ≡ false → one_graph ws ≡ None
graph_unexpected [] h = refl
graph_unexpected (k ∷ []) h = go (is_dashed k) refl
  where
    go : (b : Bool) → is_dashed k ≡ b → one_graph (k ∷ []) ≡ None
    go true d = ap question_with_graph (dashed_free k d)
    go false d = cc (rw d at h)
graph_unexpected (k ∷ x ∷ more) h = refl

pub unexpected : (ws : List Text) → are_plain ws ≡ false → question_of ws ≡ None
unexpected [] h = refl
unexpected (w ∷ ws) h = first (is_dashed w) refl
  where
    go : are_plain ws ≡ false → (a b x y : Bool) → bytes_eq w (codes "word") ≡ a → bytes_eq w (codes "within") ≡ b → bytes_eq w (codes "same") ≡ x → bytes_eq w (codes "picture") ≡ y → question_of (w ∷ ws) ≡ None
    go h true b x y e f s p = rw e (one_unexpected ws h)
    go h false true x y e f s p = rw (e, f) (two_unexpected ws h)
    go h false false true y e f s p = rw (e, f, s) (none_unexpected ws h)
    go h false false false true e f s p = rw (e, f, s, p) (graph_unexpected ws h)
    go h false false false false e f s p = rw (e, f, s, p) refl

    first : (d : Bool) → is_dashed w ≡ d → question_of (w ∷ ws) ≡ None
    first true d = dashed_first w ws d
    first false d = go (rw d at h) (bytes_eq w (codes "word")) (bytes_eq w (codes "within")) (bytes_eq w (codes "same")) (bytes_eq w (codes "picture")) refl refl refl refl

-- ---- what is answered

simple : is_simple_and_free program ≡ true
simple = refl

pub found_is_asked : (ws : List Text) (m : ArgMatches) → are_plain ws ≡ true → HasMatchesOf program ws m → (is_simple_and_free program ≡ true → fault_of program ws ≡ []) → question_found (subcommand_rows_of m) ≡ question_of ws
found_is_asked ws m h matches none = go (verdict ws h)
  where
    go : Verdict ws → question_found (subcommand_rows_of m) ≡ question_of ws
    go (takes f is) = ap question_found (matches refl).1 ∙ is
    go (refuses fault is) = absurd (fault (none simple))

pub refused_is_none : (ws : List Text) (e : Error) → are_plain ws ≡ true → (is_simple_and_free program ≡ true → HasKind (fault_of program ws) e) → (kind_of e ≡ OutOfMemory → ⊥) → question_of ws ≡ None
refused_is_none ws e h kinds memory = go (verdict ws h) (kinds simple)
  where
    go : Verdict ws → HasKind (fault_of program ws) e → question_of ws ≡ None
    go (takes f is) (inl m) = absurd (memory m)
    go (takes f is) (inr among) = absurd (subst (IsAmong (kind_of e)) f among)
    go (refuses fault is) k = is
