-- The small expressions and scripts mean what is said of them.
use Rattle.std.proofs.Common.{◌≡◌, IsFalse, ℕ, zero, suc, ◌+◌, ◌<◌, ◌≤◌, map, All, bytes_eq, Bool, true, false, List, [], ◌∷◌, ◌++◌, length, take, ◌⊎◌, refl, sym, ap, ◌∙◌, subst, Some, arith, append-nil, get_or, true≢false}
use mathlib.Core.Logic.{inl, inr}
use Rattle.std.specs.List.{IsDistinct}
use Rattle.std.proofs.lemmas.List.Elements.{All-nil, All-cons}
use Rattle.lois_base.specs.Atom.{Atom, equal}
use Rattle.lois_base.specs.Data.{TermD, tup, term, no_terms}
use Rattle.lois_base.specs.Truth.{atom_at}
use Rattle.lois_base.specs.Values.{PointValue, point, IsProper, IsExtension, IsMember, IsSame, IsIn, SameAt, DeeperAt}
use Rattle.lois_base.proofs.Members.{same_refl, same_sym, same_trans, member_in, same_in}
use Rattle.lois_base.proofs.Order.{equal_refl}
use Rattle.lois_base.proofs.Choices.{no_atoms}
use Rattle.lois_meaning.specs.Automata.{IsTriple, JoinsStates, HasStep, Accepts}
use Rattle.lois_meaning.specs.Examples.{nested, nested_term, DepthIsExact, OpensStores, parameter_name, assert_alike, name_a, name_b, name_p, name_q, name_s, name_x, name_y, the, only_item, empty_set, all_atoms, atom_value, tag_value, AtomsAreAll, EachAtomIsAll, ParametersAreAtoms, add_alone, add_each_alone, CopiesArePrivate, IdleLoopsEnd, MakesTurns, TurnsAreExact, two_prints, PrintsTwoLines, AddsToSetsAlone, PathsNameElements, one_atom_machine, AcceptsOneAtom}
use Rattle.lois_meaning.specs.Expressions.{Given, Makes, Reaches, Gives, HasTruth, IsTruthOf}
use Rattle.lois_meaning.specs.Faults.{Fails}
use Rattle.lois_meaning.specs.Kinds.{IsAtomAt, IsSetTerm, IsAtomValue, IsTagValue, HasParts, IsSet, IsSetOf, AreSame}
use Rattle.lois_meaning.specs.Runs.{Ending, BlockEnds, TurnsEnd, IsGathered, AreGathered, StmtEnds, ListEnds, StmtFails, ScriptEnds}
use Rattle.lois_meaning.specs.Store.{named, NamedValues, looked_up, stored, AreSameNamed, IsShallow, depth_limit, opening_from}
use Rattle.lois_meaning.specs.ProperStores.{name_of}
use Rattle.lois_script.specs.Tree.{ExprD, atoms, listed, no_exprs, binding, no_bindings, bind, CondD, truth, same, for, while, assert, StmtsD, no_stmts, stmt, ParamD}
use Rattle.lois_answers.specs.declared.faults.FaultKind.TheVariants.{Assertion, TurnLimit}
use Rattle.lois_answers.specs.declared.faults.FaultKind.{FaultKind}
use Rattle.lois_meaning.proofs.Alike.{is_atom_same, atoms_same, atom_equal, set_of_shift, is_tag_same, parts_same, parts_both, tag_one}
use Rattle.lois_meaning.proofs.Determined.{given_same, truth_same}
use Rattle.lois_meaning.proofs.NotBoth.{gives_fails, operand_set}
use Rattle.lois_meaning.proofs.Runs.{list_same, stmt_fails}
use Rattle.lois_meaning.proofs.Stores.{named_refl, looked_up_same, some_same, found_stored}

holds_always : (c : List Atom) (e : List Atom) → IsExtension c (length e) ([] ∷ []) e
holds_always c e = record { count = refl; guard = refl }

-- atoms are nowhere deep
flat : (t : TermD) (c d : List Atom) (a : Atom) (n : ℕ) → IsAtomAt t c a → DeeperAt t d n → ⊥
flat (TermD.var i) c d a n h k = k
flat _ c d a n h k = absurd h

atom_shallow : (v : PointValue) (a : Atom) → IsAtomValue v a → IsShallow v
atom_shallow v a h k = flat v.term_of v.choice v.choice a depth_limit h k

member_atom : (u : PointValue) → IsMember u all_atoms → (a : Atom) × IsAtomValue u a
member_atom u (inl (e, x, p, q)) =
    (atom_at u.choice 0, subst (λ t. IsAtomAt t u.choice (atom_at u.choice 0)) (sym p) (equal_refl (atom_at u.choice 0)))
member_atom u (inr h) = absurd h

atom_member : (a : Atom) → IsMember (atom_value a) all_atoms
atom_member a = inl (a ∷ [], holds_always [] (a ∷ []), refl, refl)

in_atoms : (w : PointValue) → IsIn w all_atoms → (a : Atom) × IsAtomValue w a
in_atoms w (u, m, s) =
    let found : (a : Atom) × IsAtomValue u a = member_atom u m in
    (found.0, is_atom_same u w found.0 (same_sym w u s) found.1)

atoms_in : (w : PointValue) → (a : Atom) × IsAtomValue w a → IsIn w all_atoms
atoms_in w (a, h) = (atom_value a, atom_member a, atoms_same w (atom_value a) a h (equal_refl a))

atoms_give : (p : ℕ) (s : NamedValues) → Gives (atoms p) s all_atoms
atoms_give p s = ((tt, λ w. (in_atoms w, atoms_in w)), λ deep. elim deep [ inl q ↦ q.2 | inr q ↦ q ])

pub atoms_are_all : AtomsAreAll
atoms_are_all = record {
  given = atoms_give;
  alone = λ p s v g. given_same (atoms p) s v all_atoms g (atoms_give p s);
  members = λ w. (in_atoms w, atoms_in w);
}

-- a member of what `atoms` gives
given_atom : (p : ℕ) (s : NamedValues) (v m : PointValue) → Gives (atoms p) s v → IsMember m v → (a : Atom) × IsAtomValue m a
given_atom p s v m g is = (g.0.1 m).0 (member_in m v is)

held : (p : ℕ) (x : List ℕ) (m : PointValue) (s : NamedValues) → IsShallow m → looked_up x s ≡ Some m → Gives (ExprD.var p x) s m
held p x m s fine e = ((m, e, same_refl m), fine)

bound : (x : List ℕ) (m : PointValue) (a : Atom) (s : NamedValues) → IsAtomValue m a → Gives (the x) (stored x m s) m
bound x m a s h = held 0 x m (stored x m s) (atom_shallow m a h) (found_stored x m s)

pub each_atom_is_all : EachAtomIsAll
each_atom_is_all x s = (
  (
    (all_atoms, atoms_give 0 s, tt, λ m is. tt),
    (λ t r. (true, refl)),
    (λ t r y. item t r),
    (tt, λ w. (to w, from w)),
  ),
  (atoms_give 0 s).1,
)
  where
    item : (t : NamedValues) → Reaches (bind (binding 0 x (atoms 0)) no_bindings) s t → (u : PointValue) × Given (Makes (the x)) t u
    item t (v, m, g, is, e) =
        let a : (a : Atom) × IsAtomValue m a = given_atom 0 s v m g is in
        (m, subst (λ n. Gives (the x) n m) e (bound x m a.0 s a.1))

    to : (w : PointValue) → IsIn w all_atoms → (t : NamedValues) × (u : PointValue) × Reaches (bind (binding 0 x (atoms 0)) no_bindings) s t × HasTruth truth t true × Given (Makes (the x)) t u × IsSame w u
    to w (m, is, k) =
        let a : (a : Atom) × IsAtomValue m a = member_atom m is in
        (stored x m s, m, (all_atoms, m, atoms_give 0 s, is, refl), refl, bound x m a.0 s a.1, k)

    from : (w : PointValue) → (t : NamedValues) × (u : PointValue) × Reaches (bind (binding 0 x (atoms 0)) no_bindings) s t × HasTruth truth t true × Given (Makes (the x)) t u × IsSame w u → IsIn w all_atoms
    from w (t, u, (v, m, g, is, e), y, h, k) =
        let a : (a : Atom) × IsAtomValue m a = given_atom 0 s v m g is in
        let one : IsSame u m = given_same (the x) t u m h (subst (λ n. Gives (the x) n m) e (bound x m a.0 s a.1)) in
        atoms_in w (a.0, is_atom_same m w a.0 (same_sym w m (same_trans w u m k one)) a.1)

truth_of_equal : (b : Bool) (P : Type 0) → (P → b ≡ true) → (b ≡ true → P) → IsTruthOf b P
truth_of_equal true P there back = back refl
truth_of_equal false P there back = λ p. absurd (true≢false (sym (there p)))

pub parameters_are_atoms : ParametersAreAtoms
parameters_are_atoms c d =
    let a = point (TermD.var 0) (c ∷ d ∷ []) in let b = point (TermD.var 1) (c ∷ d ∷ []) in
    (a, b, ((a, refl, same_refl a), (λ e. e)), ((b, refl, same_refl b), (λ e. e)), truth_of_equal (equal c d) _ (λ h. h) (λ h. h))

-- { m }
abbrev singleton : PointValue → PointValue
singleton m = point (only_item m.term_of) m.choice

singleton_is : (m : PointValue) → IsSetOf (singleton m) (λ w. IsSame w m)
singleton_is m = (tt, λ w. (to w, from w))
  where
    to : (w : PointValue) → IsIn w (singleton m) → IsSame w m
    to w (u, inl (e, x, p, q), s) =
        let here : u.choice ≡ m.choice = q ∙ (ap (λ z. m.choice ++ z) (no_atoms e x.count) ∙ append-nil m.choice) in
        subst (λ z. SameAt w.term_of w.choice m.term_of z) here (subst (λ z. SameAt w.term_of w.choice z u.choice) p s)
    to w (u, inr h, s) = absurd h

    from : (w : PointValue) → IsSame w m → IsIn w (singleton m)
    from w s = (
      point m.term_of (m.choice ++ []),
      inl ([], holds_always m.choice [], refl, refl),
      subst (λ z. SameAt w.term_of w.choice m.term_of z) (sym (append-nil m.choice)) s,
    )

singleton_shallow : (m : PointValue) (a : Atom) → IsAtomValue m a → IsShallow (singleton m)
singleton_shallow m a h (inl (e, x, deep)) = flat m.term_of m.choice (m.choice ++ e) a 63 h deep
singleton_shallow m a h (inr q) = q

not_deeper : (k n : ℕ) (c : List Atom) → k < n → DeeperAt (nested_term k) c n → ⊥
not_deeper k zero c l deep = absurd (omega (arith, l))
not_deeper zero (suc n) c l deep = deep
not_deeper (suc k) (suc n) c l (inl (e, x, deep)) = not_deeper k n (c ++ e) (omega (arith, l)) deep
not_deeper (suc k) (suc n) c l (inr q) = q

deeper : (k n : ℕ) (c : List Atom) → n ≤ k → DeeperAt (nested_term k) c n
deeper zero zero c l = tt
deeper (suc k) zero c l = tt
deeper zero (suc n) c l = absurd (omega (arith, l))
deeper (suc k) (suc n) c l = inl ([], holds_always c [], deeper k n (c ++ []) (omega (arith, l)))

nested_makes : (k : ℕ) (s : NamedValues) → k ≤ depth_limit → Makes (nested k) s (point (nested_term k) [])
nested_makes zero s l = ([], refl, (tt, λ w. ((λ i. i.1), (λ q. absurd q))))
nested_makes (suc k) s l =
    let inner : PointValue = point (nested_term k) [] in (
      inner ∷ [],
      (inner, [], refl, (nested_makes k s (omega (arith, l)), λ deep. not_deeper k depth_limit [] (omega (arith, l)) deep), refl),
      set_of_shift (λ w. IsSame w inner) _ (singleton inner) (λ w q. inl q) (λ w q. elim q [ inl h ↦ h | inr h ↦ absurd h ]) (singleton_is inner),
    )

pub depth_is_exact : DepthIsExact
depth_is_exact = record {
  given = λ k s l. (nested_makes k s (omega (arith, l)), λ deep. not_deeper k depth_limit [] l deep);
  fails = λ p k s e. inr (refl, refl, point (nested_term (suc k)) [], nested_makes (suc k) s (omega (arith, e)), deeper (suc k) depth_limit [] (omega (arith, e)));
}

opening_names : (ps : List ParamD) (c : List Atom) (i : ℕ) → map parameter_name ps ≡ map name_of (opening_from ps c i)
opening_names [] c i = refl
opening_names (p ∷ ps) c i = ap (λ z. p.name ∷ z) (opening_names ps c (i + 1))

opening_proper : (ps : List ParamD) (c : List Atom) (i : ℕ) → i + length ps ≤ length c → All (λ b. IsProper b.holds) (opening_from ps c i)
opening_proper [] c i l = All-nil (λ b. IsProper b.holds)
opening_proper (p ∷ ps) c i l =
    All-cons (λ b. IsProper b.holds) (named p.name (point (TermD.var i) c)) (opening_from ps c (i + 1)) (omega (arith, l)) (opening_proper ps c (i + 1) (omega (arith, l)))

pub opens_stores : OpensStores
opens_stores ps c h e = record {
  distinct = subst (λ z. IsDistinct bytes_eq z) (opening_names ps c 0) h;
  proper = opening_proper ps c 0 (omega (arith, e));
}

abbrev during : PointValue → NamedValues
during m = named name_s empty_set ∷ named name_x m ∷ []

abbrev after : PointValue → NamedValues
after m = named name_s (singleton m) ∷ named name_x m ∷ []

body_ends : (m : PointValue) → IsMember m all_atoms → ListEnds add_alone (during m) (after m) []
body_ends m is = (
  after m,
  [],
  [],
  refl,
  (
    empty_set,
    m,
    singleton m,
    refl,
    held 0 name_x m (during m) fine refl,
    (tt, set_of_shift (λ w. IsSame w m) _ (singleton m) (λ w s. inr s) (λ w q. elim q [ inl i ↦ absurd i.1 | inr s ↦ s ]) (singleton_is m)),
    small,
    named_refl (after m),
    refl,
  ),
  (
    after m,
    [],
    [],
    refl,
    (
      (
        singleton m,
        singleton m,
        held 0 name_s (singleton m) (after m) small refl,
        (
          (
            m ∷ [],
            (m, [], refl, held 0 name_x m (after m) fine refl, refl),
            set_of_shift (λ w. IsSame w m) _ (singleton m) (λ w s. inl s) (λ w q. elim q [ inl s ↦ s | inr i ↦ absurd i ]) (singleton_is m),
          ),
          small,
        ),
        same_refl (singleton m),
      ),
      named_refl (after m),
      refl,
    ),
    (named_refl (after m), refl),
  ),
)
  where
    atom : (a : Atom) × IsAtomValue m a
    atom = member_atom m is

    fine : IsShallow m
    fine = atom_shallow m atom.0 atom.1

    small : IsShallow (singleton m)
    small = singleton_shallow m atom.0 atom.1

-- what the loop's bodies end in
abbrev AtEnd : NamedValues → Type 0
AtEnd t = (m : PointValue) × (ls : NamedValues) × IsMember m all_atoms × HasTruth truth (during m) true × ListEnds add_alone (during m) t ls

private_ends : StmtEnds add_each_alone (named name_s empty_set ∷ []) (named name_s all_atoms ∷ []) []
private_ends = (
  all_atoms,
  atoms_give 0 (named name_s empty_set ∷ []),
  tt,
  (λ m is. (true, refl)),
  (λ m is y. (after m, [], body_ends m is)),
  (refl, inl (tt, (tt, λ w. (to w, from w))), tt),
  refl,
)
  where
    to : (w : PointValue) → IsIn w all_atoms → IsIn w empty_set ⊎ ((t : NamedValues) × (v : PointValue) × AtEnd t × (looked_up name_s t ≡ Some v) × IsIn w v)
    to w (m, is, s) = inr (after m, singleton m, (m, [], is, refl, body_ends m is), refl, ((singleton_is m).1 w).1 s)

    from : (w : PointValue) → IsIn w empty_set ⊎ ((t : NamedValues) × (v : PointValue) × AtEnd t × (looked_up name_s t ≡ Some v) × IsIn w v) → IsIn w all_atoms
    from w (inl i) = absurd i.1
    from w (inr (t, v, (m, ls, is, y, e), here, i)) =
        let one : AreSameNamed t (after m) × AreSameNamed ls [] = list_same add_alone (during m) t (after m) ls [] e (body_ends m is) in
        let found : (z : PointValue) × (looked_up name_s (after m) ≡ Some z) × IsSame v z = looked_up_same name_s t (after m) v one.0 here in
        let which : singleton m ≡ found.0 = some_same (singleton m) found.0 found.1 in
        let inside : IsIn w (singleton m) = subst (λ z. IsIn w z) (sym which) (same_in w v found.0 found.2 i) in
        (m, is, ((singleton_is m).1 w).0 inside)

pub copies_are_private : CopiesArePrivate
copies_are_private = record {
  ends = private_ends;
  fails_nowhere = λ at k path bad.
      stmt_fails add_each_alone (named name_s empty_set ∷ []) (named name_s all_atoms ∷ []) [] at k path private_ends bad;
}

set_or_not : (t : TermD) → IsSetTerm t ⊎ (IsSetTerm t → ⊥)
set_or_not (TermD.coll cs) = inl tt
set_or_not _ = inr (λ h. h)

idle_gathered : (end : NamedValues → Type 0) (s : NamedValues) → ((t : NamedValues) → end t → ⊥) → AreGathered s s end
idle_gathered end [] none = tt
idle_gathered end (b ∷ s) none = (refl, one (set_or_not b.holds.term_of), idle_gathered end s none)
  where
    one : IsSet b.holds ⊎ (IsSet b.holds → ⊥) → IsGathered b.holds b end
    one (inl h) = inl (h, (h, λ w. ((λ i. inl i), (λ q. elim q [ inl i ↦ i | inr i ↦ absurd (none i.0 i.2) ]))))
    one (inr h) = inr (h, same_refl b.holds)

idle_ends : (x : List ℕ) (e : ExprD) (c : CondD) (body : StmtsD) (s : NamedValues) (v : PointValue) → Gives e s v → IsSet v →
    ((m : PointValue) → IsMember m v → HasTruth c (stored x m s) false) → StmtEnds (for (binding 0 x e) c body) s s []
idle_ends x e c body s v g set idle = (
  v,
  g,
  set,
  (λ m is. (false, idle m is)),
  (λ m is y. absurd (true≢false (truth_same c (stored x m s) true false y (idle m is)))),
  idle_gathered _ s (λ t q. true≢false (truth_same c (stored x q.0 s) true false q.3 (idle q.0 q.2))),
  refl,
)

nothing_gives : (p : ℕ) (s : NamedValues) → Gives (listed p no_exprs) s empty_set
nothing_gives p s = (([], refl, (tt, λ w. ((λ i. i.1), (λ q. absurd q)))), λ deep. deep)

pub idle_loops_end : IdleLoopsEnd
idle_loops_end = record {
  ends = idle_ends;
  fails_nowhere = λ x e c body s v g set idle at k path bad.
      stmt_fails (for (binding 0 x e) c body) s s [] at k path (idle_ends x e c body s v g set idle) bad;
  over_nothing = λ x c body s. idle_ends x (listed 0 no_exprs) c body s empty_set (nothing_gives 0 s) tt (λ m is. absurd is);
}

-- the first n turns of more
first_turns : (decides : NamedValues → Bool → Type 0) (body : Ending) (n k : ℕ) (s t lines : NamedValues) → n < k → TurnsEnd decides body k s t lines →
    (u ls : NamedValues) × TurnsEnd decides body n s u ls × decides u true
first_turns decides body n zero s t lines l turns = absurd (omega (arith, l))
first_turns decides body zero (suc k) s t lines l (u, first, more, e, y, b, rest) = (s, [], (named_refl s, refl), y)
first_turns decides body (suc n) (suc k) s t lines l (u, first, more, e, y, b, rest) =
    let found : (w ls : NamedValues) × TurnsEnd decides body n u w ls × decides w true = first_turns decides body n k u t more (omega (arith, l)) rest in
    (found.0, first ++ found.1, (u, first, found.1, refl, y, b, found.2), found.3)

too_few : (p n k : ℕ) (c : CondD) (body : StmtsD) (s t lines : NamedValues) → MakesTurns k c body s t lines → n < k → StmtFails (while p c n body) s p TurnLimit []
too_few p n k c body s t lines (turns, last) l =
    let found : (u ls : NamedValues) × TurnsEnd (HasTruth c) (BlockEnds (ListEnds body)) n s u ls × HasTruth c u true = first_turns (HasTruth c) (BlockEnds (ListEnds body)) n k s t lines l turns in
    (n, found.0, found.1, omega arith, found.2, inr (inr (refl, found.3, refl, refl, refl)))

empty_turns : (n : ℕ) (s : NamedValues) → TurnsEnd (HasTruth truth) (BlockEnds (ListEnds no_stmts)) n s s []
empty_turns zero s = (named_refl s, refl)
empty_turns (suc n) s = (s, [], [], refl, refl, (s, (named_refl s, refl), whole s), empty_turns n s)
  where
    whole : (s : NamedValues) → AreSameNamed s (take (length s) s)
    whole [] = tt
    whole (b ∷ s) = (refl, same_refl b.holds, whole s)

pub turns_are_exact : TurnsAreExact
turns_are_exact = record {
  enough = λ p n k c body s t lines m l. (k, l, m.0, m.1);
  enough_fails_nowhere = λ p n k c body s t lines m l at f path bad.
      stmt_fails (while p c n body) s t lines at f path (k, l, m.0, m.1) bad;
  too_few = too_few;
  too_few_ends_nowhere = λ p n k c body s t lines m l u more e.
      stmt_fails (while p c n body) s u more p TurnLimit [] e (too_few p n k c body s t lines m l);
  endless = λ p n s. (n, s, [], omega arith, empty_turns n s, inr (inr (refl, refl, refl, refl, refl)));
}

abbrev one_name : NamedValues
one_name = named name_a (tag_value name_p) ∷ []

abbrev both_names : NamedValues
both_names = named name_a (tag_value name_p) ∷ named name_b empty_set ∷ []

two_lines : ScriptEnds two_prints [] (named name_b empty_set ∷ named name_a (tag_value name_p) ∷ [])
two_lines = (
  both_names,
  (
    one_name,
    [],
    named name_b empty_set ∷ named name_a (tag_value name_p) ∷ [],
    refl,
    (tag_value name_p, (refl, λ deep. deep), named_refl one_name, refl),
    (
      both_names,
      [],
      named name_b empty_set ∷ named name_a (tag_value name_p) ∷ [],
      refl,
      (empty_set, nothing_gives 0 one_name, named_refl both_names, refl),
      (
        both_names,
        named name_b empty_set ∷ [],
        named name_a (tag_value name_p) ∷ [],
        refl,
        (empty_set, empty_set, refl, same_refl empty_set, named_refl both_names, refl),
        (
          both_names,
          named name_a (tag_value name_p) ∷ [],
          [],
          refl,
          (tag_value name_p, tag_value name_p, refl, same_refl (tag_value name_p), named_refl both_names, refl),
          (named_refl both_names, refl),
        ),
      ),
    ),
  ),
)

pub prints_two_lines : PrintsTwoLines
prints_two_lines = record {
  ends = two_lines;
  alone = λ lines e. (list_same two_prints.body [] e.0 two_lines.0 lines _ e.1 two_lines.1).1;
}

pub adds_to_sets_alone : AddsToSetsAlone
adds_to_sets_alone e p x s path at old here never (z, inl bad) = bad
adds_to_sets_alone e p x s path at old here never (z, inr (inl (q, other, v, found, g, bad))) = absurd (cc (bad.0))
adds_to_sets_alone e p x s path at old here never (z, inr (inr (q, y, other, v, new, found, g, added, deep))) =
    absurd (never (subst IsSet (some_same other old (sym found ∙ here)) added.0))

path_fails : (p : ℕ) (c d : Atom) → IsFalse (equal c d) → StmtFails (assert_alike p) [] p Assertion (named name_x (atom_value c) ∷ named name_y (atom_value d) ∷ [])
path_fails p c d h =
    inr (inr (inr (
      all_atoms,
      atom_value c,
      named name_y (atom_value d) ∷ [],
      atoms_give 0 [],
      atom_member c,
      refl,
      inl (inr (inr (inr (
        all_atoms,
        atom_value d,
        [],
        atoms_give 0 (named name_x (atom_value c) ∷ []),
        atom_member d,
        refl,
        inl (inr (
          (
            atom_value c,
            atom_value d,
            held 0 name_x (atom_value c) (named name_x (atom_value c) ∷ named name_y (atom_value d) ∷ []) (λ e. e) refl,
            held 0 name_y (atom_value d) (named name_x (atom_value c) ∷ named name_y (atom_value d) ∷ []) (λ e. e) refl,
            λ s. true≢false (sym s ∙ h),
          ),
          refl,
          refl,
          refl,
        )),
        refl,
      )))),
      refl,
    )))

atoms_never : (p : ℕ) (s : NamedValues) (at : ℕ) (k : FaultKind) → Fails (atoms p) s at k → ⊥
atoms_never p s at k bad = gives_fails (atoms p) s all_atoms at k (atoms_give p s) bad

-- an atom that isn't equal gives no value that is the same
differs : (v w v' w' : PointValue) (c d : Atom) → IsSame v v' → IsSame w w' → IsAtomValue v' c → IsAtomValue w' d → (IsSame v w → ⊥) → IsFalse (equal c d)
differs v w v' w' c d p q h k never = go (equal c d) refl
  where
    go : (b : Bool) → equal c d ≡ b → b ≡ false
    go false e = refl
    go true e =
        let i : IsAtomValue w' c = atom_equal w' c d e k in
        absurd (never (same_trans v v' w p (same_trans v' w' w (atoms_same v' w' c h i) (same_sym w w' q))))

path_alone : (p at : ℕ) (k : FaultKind) (path : NamedValues) → StmtFails (assert_alike p) [] at k path →
    (at ≡ p) × (k ≡ Assertion) × (v w : PointValue) × (c d : Atom) × (path ≡ named name_x v ∷ named name_y w ∷ []) × IsAtomValue v c × IsAtomValue w d × IsFalse (equal c d)
path_alone p at k path (inl bad) = absurd (atoms_never 0 [] at k bad.0)
path_alone p at k path (inr (inl bad)) = absurd (operand_set (atoms 0) [] all_atoms at k (atoms_give 0 []) tt bad.0)
path_alone p at k path (inr (inr (inl (v, m, g, is, bad, e)))) = absurd bad
path_alone p at k path (inr (inr (inr (v, m, inner, g, is, y, inr bad, e)))) = absurd bad.3
path_alone p at k path (inr (inr (inr (v, m, inner, g, is, y, inl bad, e)))) = outer bad
  where
    x : (a : Atom) × IsAtomValue m a
    x = given_atom 0 [] v m g is

    outer : StmtFails (for (binding 0 name_y (atoms 0)) truth (stmt (assert p (same (the name_x) (the name_y))) no_stmts)) (named name_x m ∷ []) at k inner →
        (at ≡ p) × (k ≡ Assertion) × (v w : PointValue) × (c d : Atom) × (path ≡ named name_x v ∷ named name_y w ∷ []) × IsAtomValue v c × IsAtomValue w d × IsFalse (equal c d)
    outer (inl bad) = absurd (atoms_never 0 (named name_x m ∷ []) at k bad.0)
    outer (inr (inl bad)) = absurd (operand_set (atoms 0) (named name_x m ∷ []) all_atoms at k (atoms_give 0 (named name_x m ∷ [])) tt bad.0)
    outer (inr (inr (inl (w, n, h, it, bad, f)))) = absurd bad
    outer (inr (inr (inr (w, n, none, h, it, z, inr bad, f)))) = absurd bad.3
    outer (inr (inr (inr (w, n, none, h, it, z, inl bad, f)))) = last bad
      where
        other : (a : Atom) × IsAtomValue n a
        other = given_atom 0 (named name_x m ∷ []) w n h it

        gives_m : Gives (the name_x) (named name_x m ∷ named name_y n ∷ []) m
        gives_m = held 0 name_x m (named name_x m ∷ named name_y n ∷ []) (atom_shallow m x.0 x.1) refl

        gives_n : Gives (the name_y) (named name_x m ∷ named name_y n ∷ []) n
        gives_n = held 0 name_y n (named name_x m ∷ named name_y n ∷ []) (atom_shallow n other.0 other.1) refl

        last : StmtFails (assert p (same (the name_x) (the name_y))) (named name_x m ∷ named name_y n ∷ []) at k none →
            (at ≡ p) × (k ≡ Assertion) × (v w : PointValue) × (c d : Atom) × (path ≡ named name_x v ∷ named name_y w ∷ []) × IsAtomValue v c × IsAtomValue w d × IsFalse (equal c d)
        last (inl (inl bad, i)) = absurd (gives_fails (the name_x) (named name_x m ∷ named name_y n ∷ []) m at k gives_m bad)
        last (inl (inr (v, g, bad), i)) = absurd (gives_fails (the name_y) (named name_x m ∷ named name_y n ∷ []) n at k gives_n bad)
        last (inr ((a, b, ga, gb, never), i, j, l)) = (
          i,
          j,
          m,
          n,
          x.0,
          other.0,
          e ∙ (ap (λ r. named name_x m ∷ r) (f ∙ ap (λ r. named name_y n ∷ r) l)),
          x.1,
          other.1,
          differs a b m n x.0 other.0
              (given_same (the name_x) (named name_x m ∷ named name_y n ∷ []) a m ga gives_m)
              (given_same (the name_y) (named name_x m ∷ named name_y n ∷ []) b n gb gives_n) x.1 other.1 never,
        )

pub paths_name_elements : PathsNameElements
paths_name_elements = record { fails = path_fails; alone = path_alone }

item_is : (t : TermD) (w : PointValue) → IsIn w (point (only_item t) []) → (c : List Atom) × IsSame w (point t c)
item_is t w (u, inl (e, x, p, q), s) = (u.choice, subst (λ z. SameAt w.term_of w.choice z u.choice) p s)
item_is t w (u, inr h, s) = absurd h

tag_in : (n : List ℕ) (w : PointValue) → IsIn w (point (only_item (TermD.tag n)) []) → IsTagValue w n
tag_in n w i =
    let found : (c : List Atom) × IsSame w (point (TermD.tag n) c) = item_is (TermD.tag n) w i in
    is_tag_same (point (TermD.tag n) found.0) w n (same_sym w (point (TermD.tag n) found.0) found.1) refl

p_or_q : name_p ≡ name_q → ⊥
p_or_q e =
    let h : ◌≡◌ {A = ℕ} 112 113 = ap (λ (l : List ℕ). get_or l 0 0) e in
    absurd (omega (arith, h))

not_both : (w : PointValue) → IsTagValue w name_p → IsTagValue w name_q → ⊥
not_both w h k = p_or_q (tag_one w.term_of name_p name_q h k)

abbrev step_term : TermD
step_term = tup (term (TermD.tag name_p) (term (TermD.var 0) (term (TermD.tag name_q) no_terms)))

abbrev step_parts : List Atom → List PointValue
step_parts c = point (TermD.tag name_p) c ∷ point (TermD.var 0) c ∷ point (TermD.tag name_q) c ∷ []

-- what is in the set of steps
step_in : (x : PointValue) → IsIn x one_atom_machine.steps → (c : List Atom) × IsSame (point step_term c) x
step_in x (u, inl (e, k, p, q), s) = (u.choice, same_sym x (point step_term u.choice) (subst (λ z. SameAt x.term_of x.choice z u.choice) p s))
step_in x (u, inr h, s) = absurd h

triple_of : (x a b c : PointValue) (ws : List PointValue) → HasParts x ws → AreSame (a ∷ b ∷ c ∷ []) ws → IsTriple x a b c
triple_of x a b c (a' ∷ b' ∷ c' ∷ []) parts h = (a', b', c', parts, h.0, h.1.0, h.1.1.0)
triple_of x a b c [] parts h = absurd h
triple_of x a b c (a' ∷ []) parts h = absurd h.1
triple_of x a b c (a' ∷ b' ∷ []) parts h = absurd h.1.1
triple_of x a b c (a' ∷ b' ∷ c' ∷ d ∷ ws) parts h = absurd h.1.1.1

joins : (x : PointValue) → IsIn x one_atom_machine.steps → JoinsStates x one_atom_machine
joins x i =
    let step : (c : List Atom) × IsSame (point step_term c) x = step_in x i in
    let found : (ws : List PointValue) × HasParts x ws × AreSame (step_parts step.0) ws = parts_same (point step_term step.0) x (step_parts step.0) step.1 refl in (
      point (TermD.tag name_p) step.0,
      point (TermD.var 0) step.0,
      point (TermD.tag name_q) step.0,
      triple_of x (point (TermD.tag name_p) step.0) (point (TermD.var 0) step.0) (point (TermD.tag name_q) step.0) found.0 found.1 found.2,
      (tag_value name_p, inl ([], holds_always [] [], refl, refl), refl),
      atoms_in (point (TermD.var 0) step.0) (atom_at step.0 0, equal_refl (atom_at step.0 0)),
      (tag_value name_q, inr (inl ([], holds_always [] [], refl, refl)), refl),
    )

-- each step goes from 'p to 'q
step_tags : (p l q : PointValue) → HasStep one_atom_machine p l q → IsTagValue p name_p × IsTagValue q name_q
step_tags p l q (x, i, (a, b, c, parts, sa, sb, sc)) =
    let step : (c : List Atom) × IsSame (point step_term c) x = step_in x i in
    let both : AreSame (step_parts step.0) (a ∷ b ∷ c ∷ []) = parts_both (point step_term step.0) x (step_parts step.0) (a ∷ b ∷ c ∷ []) step.1 refl parts in (
      is_tag_same a p name_p (same_sym p a sa) (is_tag_same (point (TermD.tag name_p) step.0) a name_p both.0 refl),
      is_tag_same c q name_q (same_sym q c sc) (is_tag_same (point (TermD.tag name_q) step.0) c name_q both.1.1.0 refl),
    )

accepts_one : (l : PointValue) (a : Atom) → IsAtomValue l a → Accepts one_atom_machine (l ∷ [])
accepts_one l a h = (
  tag_value name_p,
  (tag_value name_p, inl ([], holds_always [] [], refl, refl), refl),
  (
    tag_value name_q,
    (tag_value name_q, inl ([], holds_always [] [], refl, refl), refl),
    (
      tag_value name_q,
      (
        point step_term (a ∷ []),
        member_in (point step_term (a ∷ [])) one_atom_machine.steps (inl (a ∷ [], holds_always [] (a ∷ []), refl, refl)),
        (
          point (TermD.tag name_p) (a ∷ []),
          point (TermD.var 0) (a ∷ []),
          point (TermD.tag name_q) (a ∷ []),
          refl,
          refl,
          atoms_same l (atom_value a) a h (equal_refl a),
          refl,
        ),
      ),
      refl,
    ),
  ),
)

pub accepts_one_atom : AcceptsOneAtom
accepts_one_atom = record {
  automaton = record {
    five = refl;
    states_set = tt;
    letters_set = tt;
    steps_set = tt;
    initial_set = tt;
    final_set = tt;
    steps_join = joins;
    initial_states = λ x i. (i.0, elim i.1 [ inl m ↦ inl m | inr m ↦ absurd m ], i.2);
    final_states = λ x i. (i.0, inr i.1, i.2);
  };
  one = accepts_one;
  none = λ h. not_both h.2.0 (is_tag_same h.0 h.2.0 name_p h.2.2 (tag_in name_p h.0 h.1)) (tag_in name_q h.2.0 h.2.1);
  longer = λ l m word h. longer l m word h;
}
  where
    longer : (l m : PointValue) (word : List PointValue) → Accepts one_atom_machine (l ∷ m ∷ word) → ⊥
    longer l m word (p, i, (q, j, (r, first, (r', second, rest)))) = not_both r (step_tags r m r' second).0 (step_tags p l r first).1
