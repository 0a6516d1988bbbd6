-- From stores that are the same a run ends in stores that are the same, with the same lines.
use Rattle.std.proofs.Common.{◌≡◌, ℕ, zero, suc, true, false, List, [], ◌∷◌, length, take, sym, ap, subst, Some}
use mathlib.Core.Logic.{inl, inr}
use Rattle.lois_base.specs.Values.{PointValue, IsSame}
use Rattle.lois_base.proofs.Members.{same_refl, same_sym, same_trans}
use Rattle.lois_meaning.specs.Expressions.{HasTruth}
use Rattle.lois_meaning.specs.Runs.{Ending, BlockEnds, TurnsEnd, StmtEnds, ListEnds}
use Rattle.lois_meaning.specs.Store.{named, NamedValues, looked_up, stored, AreSameNamed}
use Rattle.lois_script.specs.Tree.{binding, CondD, StmtD, «let», assign, add, for, if, while, assert, print, StmtsD, no_stmts, stmt}
use Rattle.lois_meaning.proofs.Gathered.{set_with_move, all_gathered_move, all_gathered_to}
use Rattle.lois_meaning.proofs.Moves.{truth_from, gives_from}
use Rattle.lois_meaning.proofs.Stores.{named_refl, named_sym, named_trans, looked_up_same, stored_in, length_same, split_same, none_same}

-- a relation of runs that asks of its first store only what `IsSame` keeps
abbrev pub From : Ending → Type 0
From ends = (s r t lines : NamedValues) → AreSameNamed s r → ends s t lines → ends r t lines

-- and of its last store and its lines
abbrev pub To : Ending → Type 0
To ends = (s t u lines more : NamedValues) → AreSameNamed t u → AreSameNamed lines more → ends s t lines → ends s u more

pub block_from : (ends : Ending) → From ends → From (BlockEnds ends)
block_from ends from s r t lines h (u, e, k) =
    (u, from s r u lines h e, subst (λ n. AreSameNamed t (take n u)) (length_same s r h) k)

pub turns_from : (c : CondD) (body : Ending) (k : ℕ) → From body → From (TurnsEnd (HasTruth c) body k)
turns_from c body zero from s r t lines h (e, l) = (named_trans t s r e h, l)
turns_from c body (suc k) from s r t lines h (u, first, more, l, y, b, rest) =
    (u, first, more, l, truth_from c s r true h y, from s r u first h b, rest)

mutual
  pub stmt_from : (a : StmtD) → From (StmtEnds a)
  stmt_from («let» p x e) s r t lines h (v, g, k, l) = (v, gives_from e s r v h g, named_trans t (stored x v s) (stored x v r) k (stored_in x v s r h), l)
  stmt_from (assign p x e) s r t lines h (v, g, k, l) = (v, gives_from e s r v h g, named_trans t (stored x v s) (stored x v r) k (stored_in x v s r h), l)
  stmt_from (add e p x) s r t lines h (old, v, new, here, g, added, fine, k, l) =
      let found : (w : PointValue) × (looked_up x r ≡ Some w) × IsSame old w = looked_up_same x s r old h here in (
        found.0,
        v,
        new,
        found.1,
        gives_from e s r v h g,
        set_with_move new old v found.0 v found.2 (same_refl v) added,
        fine,
        named_trans t (stored x new s) (stored x new r) k (stored_in x new s r h),
        l,
      )
  stmt_from (for (binding p x e) c body) s r t lines h (v, g, set, decided, ends, gathered, l) = (
    v,
    gives_from e s r v h g,
    set,
    (λ m is. ((decided m is).0, truth_from c (stored x m s) (stored x m r) (decided m is).0 (stored_in x m s r h) (decided m is).1)),
    (λ m is y. let end : (u ls : NamedValues) × ListEnds body (stored x m s) u ls = ends m is (truth_from c (stored x m r) (stored x m s) true (stored_in x m r s (named_sym s r h)) y) in
        (end.0, end.1, list_from body (stored x m s) (stored x m r) end.0 end.1 (stored_in x m s r h) end.2)),
    all_gathered_move _ _ s r t h
        (λ u q. (q.0, q.1, q.2, truth_from c (stored x q.0 s) (stored x q.0 r) true (stored_in x q.0 s r h) q.3, list_from body (stored x q.0 s) (stored x q.0 r) u q.1 (stored_in x q.0 s r h) q.4))
        (λ u q. (q.0, q.1, q.2, truth_from c (stored x q.0 r) (stored x q.0 s) true (stored_in x q.0 r s (named_sym s r h)) q.3, list_from body (stored x q.0 r) (stored x q.0 s) u q.1 (stored_in x q.0 r s (named_sym s r h)) q.4))
        gathered,
    l,
  )
  stmt_from (if c a b) s r t lines h (inl (y, k)) = inl (truth_from c s r true h y, block_from (ListEnds a) (list_from a) s r t lines h k)
  stmt_from (if c a b) s r t lines h (inr (y, k)) = inr (truth_from c s r false h y, block_from (ListEnds b) (list_from b) s r t lines h k)
  stmt_from (while p c n body) s r t lines h (k, le, turns, last) =
      (k, le, turns_from c (BlockEnds (ListEnds body)) k (block_from (ListEnds body) (list_from body)) s r t lines h turns, last)
  stmt_from (assert p c) s r t lines h (y, k, l) = (truth_from c s r true h y, named_trans t s r k h, l)
  stmt_from (print p q x) s r t lines h (v, w, here, k, e, l) =
      let found : (z : PointValue) × (looked_up x r ≡ Some z) × IsSame v z = looked_up_same x s r v h here in
      (found.0, w, found.1, same_trans w v found.0 k found.2, named_trans t s r e h, l)

  pub list_from : (b : StmtsD) → From (ListEnds b)
  list_from no_stmts s r t lines h (k, l) = (named_trans t s r k h, l)
  list_from (stmt a rest) s r t lines h (u, first, more, l, e, k) = (u, first, more, l, stmt_from a s r u first h e, k)

no_lines : (l m : NamedValues) → l ≡ [] → AreSameNamed l m → m ≡ []
no_lines l m e k = none_same m (subst (λ x. AreSameNamed x m) e k)

back_to : (t u s : NamedValues) → AreSameNamed t u → AreSameNamed t s → AreSameNamed u s
back_to t u s h k = named_trans u t s (named_sym t u h) k

one_line : (x : List ℕ) (w : PointValue) (l : NamedValues) → AreSameNamed (named x w ∷ []) l → (z : PointValue) × (l ≡ named x z ∷ []) × IsSame w z
one_line x w (f ∷ []) h = (f.holds, ap (λ n. named n f.holds ∷ []) (sym h.0), h.1)
one_line x w [] h = absurd h
one_line x w (f ∷ g ∷ l) h = absurd h.2

pub block_to : (ends : Ending) → To ends → To (BlockEnds ends)
block_to ends to s t u l m h k (x, e, same) = (x, to s x x l m (named_refl x) k e, back_to t u (take (length s) x) h same)

pub turns_to : (c : CondD) (body : Ending) (k : ℕ) → To body → To (TurnsEnd (HasTruth c) body k)
turns_to c body zero to s t u l m h k (e, none) = (back_to t u s h e, no_lines l m none k)
turns_to c body (suc n) to s t u l m h k (x, first, more, e, y, b, rest) =
    let parts = split_same first more m (subst (λ z. AreSameNamed z m) e k) in
    (x, parts.0, parts.1, parts.2, y, to s x x first parts.0 (named_refl x) parts.3 b, turns_to c body n to x t u more parts.1 h parts.4 rest)

mutual
  pub stmt_to : (a : StmtD) → To (StmtEnds a)
  stmt_to («let» p x e) s t u l m h k (v, g, same, none) = (v, g, back_to t u (stored x v s) h same, no_lines l m none k)
  stmt_to (assign p x e) s t u l m h k (v, g, same, none) = (v, g, back_to t u (stored x v s) h same, no_lines l m none k)
  stmt_to (add e p x) s t u l m h k (old, v, new, here, g, added, fine, same, none) =
      (old, v, new, here, g, added, fine, back_to t u (stored x new s) h same, no_lines l m none k)
  stmt_to (for (binding p x e) c body) s t u l m h k (v, g, set, decided, ends, gathered, none) =
      (v, g, set, decided, ends, all_gathered_to _ s t u h gathered, no_lines l m none k)
  stmt_to (if c a b) s t u l m h k (inl (y, e)) = inl (y, block_to (ListEnds a) (list_to a) s t u l m h k e)
  stmt_to (if c a b) s t u l m h k (inr (y, e)) = inr (y, block_to (ListEnds b) (list_to b) s t u l m h k e)
  stmt_to (while p c n body) s t u l m h k (i, le, turns, last) =
      (i, le, turns_to c (BlockEnds (ListEnds body)) i (block_to (ListEnds body) (list_to body)) s t u l m h k turns, truth_from c t u false h last)
  stmt_to (assert p c) s t u l m h k (y, same, none) = (y, back_to t u s h same, no_lines l m none k)
  stmt_to (print p q x) s t u l m h k (v, w, here, same, e, line) =
      let one = one_line x w m (subst (λ z. AreSameNamed z m) line k) in
      (v, one.0, here, same_trans one.0 w v (same_sym w one.0 one.2) same, back_to t u s h e, one.1)

  pub list_to : (b : StmtsD) → To (ListEnds b)
  list_to no_stmts s t u l m h k (e, none) = (back_to t u s h e, no_lines l m none k)
  list_to (stmt a rest) s t u l m h k (x, first, more, e, y, b) =
      let parts = split_same first more m (subst (λ z. AreSameNamed z m) e k) in
      (x, parts.0, parts.1, parts.2, stmt_to a s x x first parts.0 (named_refl x) parts.3 y, list_to rest x t u more parts.1 h parts.4 b)
