-- A run from a store whose values are nowhere too deep ends in such a store, and prints such values.
use Rattle.std.proofs.Common.{◌≡◌, ℕ, zero, suc, inl, inr, Bool, true, false, List, [], ◌∷◌, ◌++◌, length, take, Some, refl, sym, subst, if◌then◌else◌, bytes_eq}
use Rattle.lois_base.specs.Atom.{Atom}
use Rattle.lois_base.specs.Data.{TermD, var, tag, tup, coll, comp, CompsD, no_comps, more}
use Rattle.lois_base.specs.Values.{PointValue, point, MemberAt, IsMemberOf, IsMember, IsIn, IsSame, DeeperAt, SomeMemberDeeperAt, IsDeeper}
use Rattle.lois_base.proofs.Depths.{deeper_less}
use Rattle.lois_base.proofs.Members.{same_refl, same_sym, deeper_same}
use Rattle.lois_script.specs.Tree.{binding, StmtD, «let», assign, add, for, if, while, assert, print, StmtsD, no_stmts, stmt}
use Rattle.lois_meaning.specs.Expressions.{HasTruth}
use Rattle.lois_meaning.specs.Kinds.{IsSet, IsSetTerm}
use Rattle.lois_meaning.specs.Runs.{Ending, IsGathered, AreGathered, IsEndOf, BlockEnds, TurnsEnd, StmtEnds, ListEnds}
use Rattle.lois_meaning.specs.Store.{NamedValues, named, looked_up, stored, AreSameNamed, IsShallow}
use Rattle.lois_meaning.proofs.Stores.{named_sym, some_same}

-- ---- sets and their members
member_deeper : (ks : CompsD) (c : List Atom) (n : ℕ) → SomeMemberDeeperAt ks c n → (w : PointValue) × MemberAt w.term_of w.choice ks c × IsDeeper w n
member_deeper no_comps c n h = absurd h
member_deeper (more (comp m g t) ks) c n (inl (e, ext, d)) = (point t (c ++ e), inl (e, ext, refl, refl), d)
member_deeper (more (comp m g t) ks) c n (inr h) = let r = member_deeper ks c n h in (r.0, inr r.1, r.2)

deeper_member : (ks : CompsD) (c : List Atom) (n : ℕ) (w : PointValue) → MemberAt w.term_of w.choice ks c → IsDeeper w n → SomeMemberDeeperAt ks c n
deeper_member no_comps c n w m d = absurd m
deeper_member (more (comp b g t) ks) c n w (inl (e, ext, term_is, choice_is)) d =
    inl (e, ext, subst (λ x. DeeperAt t x n) choice_is (subst (λ z. DeeperAt z w.choice n) term_is d))
deeper_member (more (comp b g t) ks) c n w (inr m) d = inr (deeper_member ks c n w m d)

some_deep : (t : TermD) (c : List Atom) (n : ℕ) → IsSetTerm t → DeeperAt t c (suc n) → (w : PointValue) × IsMemberOf w.term_of w.choice t c × IsDeeper w n
some_deep (coll ks) c n set d = member_deeper ks c n d
some_deep (var i) c n set d = absurd set
some_deep (tag i) c n set d = absurd set
some_deep (tup ts) c n set d = absurd set

deep_set : (t : TermD) (c : List Atom) (n : ℕ) (w : PointValue) → IsMemberOf w.term_of w.choice t c → IsDeeper w n → DeeperAt t c (suc n)
deep_set (coll ks) c n w m d = deeper_member ks c n w m d
deep_set (var i) c n w m d = absurd m
deep_set (tag i) c n w m d = absurd m
deep_set (tup ts) c n w m d = absurd m

-- what is in a set is less deep than the set
in_deep : (w v : PointValue) (n : ℕ) → IsIn w v → IsDeeper w n → IsDeeper v (suc n)
in_deep w v n (u, m, same) d = deep_set v.term_of v.choice n u m (deeper_same w u n same d)

-- a set is shallow if all that is in it is in shallow sets
set_shallow : (v : PointValue) → IsSet v → ((w : PointValue) → IsMember w v → (u : PointValue) × IsShallow u × IsIn w u) → IsShallow v
set_shallow v set each deep =
    let r = some_deep v.term_of v.choice 63 set deep in
    let home = each r.0 r.1 in
    home.1 (in_deep r.0 home.0 63 home.2 r.2)

member_shallow : (m v : PointValue) → IsMember m v → IsShallow v → IsShallow m
member_shallow m v is shallow deep = shallow (deep_set v.term_of v.choice 63 m is (deeper_less m 63 deep))

pub same_shallow : (v w : PointValue) → IsSame v w → IsShallow v → IsShallow w
same_shallow v w same h deep = h (deeper_same w v 64 (same_sym v w same) deep)

-- ---- stores
abbrev pub AreShallow : NamedValues → Type 0
AreShallow [] = Unit {0}
AreShallow (b ∷ s) = IsShallow b.holds × AreShallow s

pub shallow_same : (s t : NamedValues) → AreSameNamed s t → AreShallow s → AreShallow t
shallow_same [] [] same h = tt
shallow_same (b ∷ s) (e ∷ t) same h = (same_shallow b.holds e.holds same.1 h.0, shallow_same s t same.2 h.1)
shallow_same [] (e ∷ t) same h = absurd same
shallow_same (b ∷ s) [] same h = absurd same

shallow_stored : (x : List ℕ) (v : PointValue) (s : NamedValues) → IsShallow v → AreShallow s → AreShallow (stored x v s)
shallow_stored x v [] own h = (own, tt)
shallow_stored x v (b ∷ s) own h = go (bytes_eq b.name x) (shallow_stored x v s own h.1)
  where
    go : (p : Bool) → AreShallow (stored x v s) → AreShallow (if p then (named x v ∷ s) else (b ∷ stored x v s))
    go true later = (own, h.1)
    go false later = (h.0, later)

shallow_take : (n : ℕ) (s : NamedValues) → AreShallow s → AreShallow (take n s)
shallow_take zero s h = tt
shallow_take (suc n) [] h = tt
shallow_take (suc n) (b ∷ s) h = (h.0, shallow_take n s h.1)

shallow_held : (x : List ℕ) (s : NamedValues) (v : PointValue) → looked_up x s ≡ Some v → AreShallow s → IsShallow v
shallow_held x [] v e h = absurd (cc)
shallow_held x (b ∷ s) v e h = go (bytes_eq b.name x) e (λ k. shallow_held x s v k h.1)
  where
    go : (p : Bool) → (if p then Some b.holds else looked_up x s) ≡ Some v → (looked_up x s ≡ Some v → IsShallow v) → IsShallow v
    go true k later = subst IsShallow (some_same b.holds v k) h.0
    go false k later = later k

shallow_append : (s t : NamedValues) → AreShallow s → AreShallow t → AreShallow (s ++ t)
shallow_append [] t h k = k
shallow_append (b ∷ s) t h k = (h.0, shallow_append s t h.1 k)

-- ---- a loop's sets
gathered_shallow : (t s : NamedValues) (AtEnd : NamedValues → Type 0) → ((u : NamedValues) → AtEnd u → AreShallow u) → AreGathered t s AtEnd → AreShallow s → AreShallow t
gathered_shallow [] [] AtEnd ends g h = tt
gathered_shallow (e ∷ t) (b ∷ s) AtEnd ends g h = (one g.1, gathered_shallow t s AtEnd ends g.2 h.1)
  where
    one : IsGathered e.holds b AtEnd → IsShallow e.holds
    one (inl (set, (is, members))) = set_shallow e.holds is (λ w m. elim ((members w).0 (w, m, same_refl w)) [
      | inl old ↦ (b.holds, h.0, old)
      | inr (u, v, at, held, there) ↦ (v, shallow_held b.name u v held (ends u at), there)
    ])
    one (inr (none, same)) = same_shallow b.holds e.holds (same_sym e.holds b.holds same) h.0
gathered_shallow [] (b ∷ s) AtEnd ends g h = absurd g
gathered_shallow (e ∷ t) [] AtEnd ends g h = absurd g

-- ---- runs
abbrev Stays : Ending → Type 0
Stays ends = (s t lines : NamedValues) → ends s t lines → AreShallow s → AreShallow t × AreShallow lines

no_lines : (lines : NamedValues) → lines ≡ [] → AreShallow lines
no_lines lines e = subst AreShallow (sym e) tt

block_shallow : (ends : Ending) → Stays ends → Stays (BlockEnds ends)
block_shallow ends stays s t lines (u, e, same) h =
    let r = stays s u lines e h in (shallow_same (take (length s) u) t (named_sym t (take (length s) u) same) (shallow_take (length s) u r.0), r.1)

turns_shallow : (decides : NamedValues → Bool → Type 0) (body : Ending) (k : ℕ) → Stays body → Stays (TurnsEnd decides body k)
turns_shallow decides body zero stays s t lines (same, none) h = (shallow_same s t (named_sym t s same) h, no_lines lines none)
turns_shallow decides body (suc k) stays s t lines (u, first, rest, e, truth, one, turns) h =
    let a = stays s u first one h in
    let b = turns_shallow decides body k stays u t rest turns a.0 in
    (b.0, subst AreShallow (sym e) (shallow_append first rest a.1 b.1))

mutual
  stmt_shallow : (a : StmtD) → Stays (StmtEnds a)
  stmt_shallow («let» p x e) s t lines (v, gives, same, none) h = (shallow_same (stored x v s) t (named_sym t (stored x v s) same) (shallow_stored x v s gives.1 h), no_lines lines none)
  stmt_shallow (assign p x e) s t lines (v, gives, same, none) h = (shallow_same (stored x v s) t (named_sym t (stored x v s) same) (shallow_stored x v s gives.1 h), no_lines lines none)
  stmt_shallow (add e p x) s t lines (old, v, new, held, gives, with_it, shallow, same, none) h = (shallow_same (stored x new s) t (named_sym t (stored x new s) same) (shallow_stored x new s shallow h), no_lines lines none)
  stmt_shallow (for (binding p x e) c body) s t lines (v, gives, set, decided, ends, gathered, none) h = (
    gathered_shallow t s (λ u. IsEndOf u (HasTruth c) (ListEnds body) x v s) (λ u (m, ls, member, truth, run). (list_shallow body (stored x m s) u ls run (shallow_stored x m s (member_shallow m v member gives.1) h)).0) gathered h,
    no_lines lines none,
  )
  stmt_shallow ((if) c yes_block no_block) s t lines (inl (truth, ends)) h = block_shallow (ListEnds yes_block) (list_shallow yes_block) s t lines ends h
  stmt_shallow ((if) c yes_block no_block) s t lines (inr (truth, ends)) h = block_shallow (ListEnds no_block) (list_shallow no_block) s t lines ends h
  stmt_shallow (while p c n body) s t lines (k, le, turns, truth) h = turns_shallow (HasTruth c) (BlockEnds (ListEnds body)) k (block_shallow (ListEnds body) (list_shallow body)) s t lines turns h
  stmt_shallow (assert p c) s t lines (truth, same, none) h = (shallow_same s t (named_sym t s same) h, no_lines lines none)
  stmt_shallow (print p q x) s t lines (v, w, held, is, same, printed) h =
      (shallow_same s t (named_sym t s same) h, subst AreShallow (sym printed) (same_shallow v w (same_sym w v is) (shallow_held x s v held h), tt))

  pub list_shallow : (b : StmtsD) → Stays (ListEnds b)
  list_shallow no_stmts s t lines (same, none) h = (shallow_same s t (named_sym t s same) h, no_lines lines none)
  list_shallow (stmt a rest) s t lines (u, first, later, e, one, others) h =
      let p = stmt_shallow a s u first one h in
      let q = list_shallow rest u t later others p.0 in
      (q.0, subst AreShallow (sym e) (shallow_append first later p.1 q.1))
