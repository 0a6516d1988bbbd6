-- Which words the operations' automata accept.
use Rattle.std.proofs.Common.{List, [], ◌∷◌, ◌++◌, length, refl, subst, append-nil}
use Rattle.lois_base.specs.Atom.{Atom}
use Rattle.lois_base.specs.Data.{tup, TermsD, no_terms, term}
use Rattle.lois_base.specs.Shift.{shift, shift_parts}
use Rattle.lois_base.specs.Values.{PointValue, point, IsSame, IsIn, SameAt}
use Rattle.lois_base.proofs.Members.{same_refl, same_sym, same_trans, in_same, same_in}
use Rattle.lois_base.proofs.Raised.{same_raised}
use Rattle.lois_meaning.specs.Automata.{Automaton, IsPair, IsTriple, JoinsStates, IsAutomatonOf, HasStep, Reads, AcceptsFrom, Accepts, IsReachable, IsDeterministic, IsComplete, HaveSameWords, IsClassOf, IsMinimalOf, IsProductOf}
use Rattle.lois_meaning.specs.Kinds.{part_values, HasParts, AreSame}
use Rattle.lois_meaning.specs.Operations.{TuplesExist, AcceptsByReach, ProductsAcceptBoth, AreLetters, ComplementsAcceptOthers, ClassesExist, MinimalIsMinimal}
use Rattle.lois_meaning.proofs.Alike.{set_of_same, set_of_shift, set_of_to, parts_same, parts_both, tuples_same, parts_parts, are_same_sym, are_same_trans}

-- the value of v at its choice with more atoms after it, and of w with more before
after : (v : PointValue) (d : List Atom) → IsSame v (point (shift (length v.choice) (length d) v.term_of) (v.choice ++ d))
after v d =
    let h : SameAt (shift (length v.choice) (length d) v.term_of) (v.choice ++ (d ++ [])) v.term_of (v.choice ++ []) = same_raised v.choice d v.term_of [] in
    let k : SameAt (shift (length v.choice) (length d) v.term_of) (v.choice ++ d) v.term_of v.choice =
    subst (λ z. SameAt (shift (length v.choice) (length d) v.term_of) (v.choice ++ z) v.term_of v.choice) (append-nil d)
    (subst (λ z. SameAt (shift (length v.choice) (length d) v.term_of) (v.choice ++ (d ++ [])) v.term_of z) (append-nil v.choice) h) in
    same_sym (point (shift (length v.choice) (length d) v.term_of) (v.choice ++ d)) v k

tuple_of : (vs : List PointValue) → (ts : TermsD) × (c : List Atom) × AreSame vs (part_values ts c)
tuple_of [] = (no_terms, [], tt)
tuple_of (v ∷ vs) =
    let rest : (ts : TermsD) × (c : List Atom) × AreSame vs (part_values ts c) = tuple_of vs in
    let ts : TermsD = rest.0 in let c = rest.1 in
    let raised : AreSame (part_values (shift_parts 0 (length v.choice) ts) (v.choice ++ c)) (part_values ts c) =
    parts_parts (shift_parts 0 (length v.choice) ts) (v.choice ++ c) ts c (same_raised [] v.choice (tup ts) c) in (
      term (shift (length v.choice) (length c) v.term_of) (shift_parts 0 (length v.choice) ts),
      v.choice ++ c,
      (after v c, are_same_trans vs (part_values ts c) (part_values (shift_parts 0 (length v.choice) ts) (v.choice ++ c)) rest.2 (are_same_sym (part_values (shift_parts 0 (length v.choice) ts) (v.choice ++ c)) (part_values ts c) raised)),
    )

pub tuples_exist : TuplesExist
tuples_exist vs =
    let t : (ts : TermsD) × (c : List Atom) × AreSame vs (part_values ts c) = tuple_of vs in
    (point (tup t.0) t.1, part_values t.0 t.1, refl, t.2)

pub pair_exists : (p q : PointValue) → (x : PointValue) × IsPair x p q
pair_exists p q =
    let t : (x : PointValue) × (ws : List PointValue) × HasParts x ws × AreSame (p ∷ q ∷ []) ws = tuples_exist (p ∷ q ∷ []) in
    (t.0, go t.0 t.1 t.2 t.3)
  where
    go : (x : PointValue) (ws : List PointValue) → HasParts x ws → AreSame (p ∷ q ∷ []) ws → IsPair x p q
    go x (a ∷ b ∷ []) h s = (a, b, h, s.0, s.1.0)
    go x [] h s = absurd s
    go x (a ∷ []) h s = absurd s.1
    go x (a ∷ b ∷ c ∷ ws) h s = absurd s.1.1

pub triple_exists : (p q r : PointValue) → (x : PointValue) × IsTriple x p q r
triple_exists p q r =
    let t : (x : PointValue) × (ws : List PointValue) × HasParts x ws × AreSame (p ∷ q ∷ r ∷ []) ws = tuples_exist (p ∷ q ∷ r ∷ []) in
    (t.0, go t.0 t.1 t.2 t.3)
  where
    go : (x : PointValue) (ws : List PointValue) → HasParts x ws → AreSame (p ∷ q ∷ r ∷ []) ws → IsTriple x p q r
    go x (a ∷ b ∷ c ∷ []) h s = (a, b, c, h, s.0, s.1.0, s.1.1.0)
    go x [] h s = absurd s
    go x (a ∷ []) h s = absurd s.1
    go x (a ∷ b ∷ []) h s = absurd s.1.1
    go x (a ∷ b ∷ c ∷ d ∷ ws) h s = absurd s.1.1.1

-- between what is the same as something else
via : (u a b v : PointValue) → IsSame u a → IsSame a b → IsSame v b → IsSame u v
via u a b v h k l = same_trans u a v h (same_trans a b v k (same_sym v b l))

-- pairs that are the same have parts that are, and back
pub pair_both : (x y p q p' q' : PointValue) → IsSame x y → IsPair x p q → IsPair y p' q' → IsSame p p' × IsSame q q'
pair_both x y p q p' q' s (a, b, h, i, j) (a', b', h', i', j') =
    let both : AreSame (a ∷ b ∷ []) (a' ∷ b' ∷ []) = parts_both x y (a ∷ b ∷ []) (a' ∷ b' ∷ []) s h h' in
    (via p a a' p' i both.0 i', via q b b' q' j both.1.0 j')

pub pair_same : (x y p q p' q' : PointValue) → IsSame p p' → IsSame q q' → IsPair x p q → IsPair y p' q' → IsSame x y
pair_same x y p q p' q' s t (a, b, h, i, j) (a', b', h', i', j') =
    tuples_same x y (a ∷ b ∷ []) (a' ∷ b' ∷ []) h h' (via a p p' a' (same_sym p a i) s (same_sym p' a' i'), (via b q q' b' (same_sym q b j) t (same_sym q' b' j'), tt))

pub triple_both : (x p q r p' q' r' : PointValue) → IsTriple x p q r → IsTriple x p' q' r' → IsSame p p' × IsSame q q' × IsSame r r'
triple_both x p q r p' q' r' (a, b, c, h, i, j, k) (a', b', c', h', i', j', k') =
    let both : AreSame (a ∷ b ∷ c ∷ []) (a' ∷ b' ∷ c' ∷ []) = parts_both x x (a ∷ b ∷ c ∷ []) (a' ∷ b' ∷ c' ∷ []) (same_refl x) h h' in
    (via p a a' p' i both.0 i', via q b b' q' j both.1.0 j', via r c c' r' k both.1.1.0 k')

pub step_move : (a : Automaton) (p l q p' l' q' : PointValue) → IsSame p p' → IsSame l l' → IsSame q q' → HasStep a p l q → HasStep a p' l' q'
step_move a p l q p' l' q' s t u (x, i, (d, e, f, h, j, k, m)) =
    (x, i, (d, e, f, h, same_trans p' p d (same_sym p p' s) j, same_trans l' l e (same_sym l l' t) k, same_trans q' q f (same_sym q q' u) m))

pub reads_move : (a : Automaton) (word : List PointValue) (p p' q : PointValue) → IsSame p p' → Reads a word p q → Reads a word p' q
reads_move a [] p p' q s h = same_trans p' p q (same_sym p p' s) h
reads_move a (l ∷ word) p p' q s (r, step, rest) = (r, step_move a p l r p' l r s (same_refl l) (same_refl r) step, rest)

-- a path goes on
pub reads_on : (a : Automaton) (word more : List PointValue) (p q r : PointValue) → Reads a word p q → Reads a more q r → Reads a (word ++ more) p r
reads_on a [] more p q r h k = reads_move a more q p r (same_sym p q h) k
reads_on a (l ∷ word) more p q r (s, step, rest) k = (s, step, reads_on a word more s q r rest k)

pub accepts_by_reach : AcceptsByReach
accepts_by_reach a = (
  (λ h. (h.1.2.0, (h.1.0, h.0, h.1.1, h.1.2.2), h.1.2.1)),
  (λ h. (h.1.1, (h.1.0, h.1.2, (h.0, h.2, h.1.3)))),
)

pub pair_to : (y z p q : PointValue) → IsSame y z → IsPair y p q → IsPair z p q
pair_to y z p q h (a, b, k, i, j) =
    let moved : (ws : List PointValue) × HasParts z ws × AreSame (a ∷ b ∷ []) ws = parts_same y z (a ∷ b ∷ []) h k in
    go moved.0 moved.1 moved.2
  where
    go : (ws : List PointValue) → HasParts z ws → AreSame (a ∷ b ∷ []) ws → IsPair z p q
    go (c ∷ d ∷ []) k s = (c, d, k, same_trans p a c i s.0, same_trans q b d j s.1.0)
    go [] k s = absurd s
    go (c ∷ []) k s = absurd s.1
    go (c ∷ d ∷ e ∷ ws) k s = absurd s.1.1

-- the step of the product from a pair
product_step : (m a b : Automaton) (s l s' p q : PointValue) → IsProductOf m a b → IsPair s p q → HasStep m s l s' →
    (p' q' : PointValue) × HasStep a p l p' × HasStep b q l q' × IsPair s' p' q'
product_step m a b s l s' p q product pair (x, i, triple) =
    let found = (product.steps.1 x).0 i in
    go found.0 found.1 found.2 found.3 found.4 found.5 found.6 found.7 found.8 found.9 found.10 found.11
  where
    go : (p1 l1 p2 q1 q2 s1 s2 : PointValue) → HasStep a p1 l1 p2 → HasStep b q1 l1 q2 → IsPair s1 p1 q1 → IsPair s2 p2 q2 → IsTriple x s1 l1 s2 →
        (p' q' : PointValue) × HasStep a p l p' × HasStep b q l q' × IsPair s' p' q'
    go p1 l1 p2 q1 q2 s1 s2 one two from to other =
        let both : IsSame s s1 × IsSame l l1 × IsSame s' s2 = triple_both x s l s' s1 l1 s2 triple other in
        let parts : IsSame p p1 × IsSame q q1 = pair_both s s1 p q p1 q1 both.0 pair from in (
          p2,
          q2,
          step_move a p1 l1 p2 p l p2 (same_sym p p1 parts.0) (same_sym l l1 both.1) (same_refl p2) one,
          step_move b q1 l1 q2 q l q2 (same_sym q q1 parts.1) (same_sym l l1 both.1) (same_refl q2) two,
          pair_to s2 s' p2 q2 (same_sym s' s2 both.2) to,
        )

product_reads : (m a b : Automaton) (word : List PointValue) (s t p q p' q' : PointValue) → IsProductOf m a b → IsPair s p q → IsPair t p' q' → Reads m word s t → Reads a word p p' × Reads b word q q'
product_reads m a b [] s t p q p' q' product from to h = pair_both s t p q p' q' h from to
product_reads m a b (l ∷ word) s t p q p' q' product from to (r, step, rest) =
    let next : (p1 q1 : PointValue) × HasStep a p l p1 × HasStep b q l q1 × IsPair r p1 q1 = product_step m a b s l r p q product from step in
    let later : Reads a word next.0 p' × Reads b word next.1 q' = product_reads m a b word r t next.0 next.1 p' q' product next.4 to rest in
    ((next.0, next.2, later.0), (next.1, next.3, later.1))

reads_product : (m a b : Automaton) (word : List PointValue) (s t p q p' q' : PointValue) → IsProductOf m a b → IsPair s p q → IsPair t p' q' → Reads a word p p' → Reads b word q q' → Reads m word s t
reads_product m a b [] s t p q p' q' product from to h k = pair_same s t p q p' q' h k from to
reads_product m a b (l ∷ word) s t p q p' q' product from to (p1, one, rest) (q1, two, more) =
    let next : (x : PointValue) × IsPair x p1 q1 = pair_exists p1 q1 in
    let step : (x : PointValue) × IsTriple x s l next.0 = triple_exists s l next.0 in (
      next.0,
      (step.0, (product.steps.1 step.0).1 (p, l, p1, q, q1, s, next.0, one, two, from, next.1, step.1), step.1),
      reads_product m a b word next.0 t p1 q1 p' q' product next.1 to rest more,
    )

pub products_accept_both : ProductsAcceptBoth
products_accept_both m a b word product = (there, back)
  where
    there : Accepts m word → Accepts a word × Accepts b word
    there (s, i, (t, j, reads)) =
        let first = (product.initial.1 s).0 i in
        let last = (product.final.1 t).0 j in
        let both : Reads a word first.0 last.0 × Reads b word first.1 last.1 = product_reads m a b word s t first.0 first.1 last.0 last.1 product first.4 last.4 reads in
        ((first.0, first.2, (last.0, last.2, both.0)), (first.1, first.3, (last.1, last.3, both.1)))

    back : Accepts a word × Accepts b word → Accepts m word
    back ((p, i, (p', i', h)), (q, j, (q', j', k))) =
        let s : (x : PointValue) × IsPair x p q = pair_exists p q in
        let t : (x : PointValue) × IsPair x p' q' = pair_exists p' q' in
        (s.0, (product.initial.1 s.0).1 (p, q, i, j, s.1), (t.0, (product.final.1 t.0).1 (p', q', i', j', t.1), reads_product m a b word s.0 t.0 p q p' q' product s.1 t.1 h k))

-- paths are those of the steps alone
steps_reads : (a b : Automaton) (word : List PointValue) (p q : PointValue) → IsSame a.steps b.steps → Reads a word p q → Reads b word p q
steps_reads a b [] p q s h = h
steps_reads a b (l ∷ word) p q s (r, (x, i, t), rest) = (r, (x, same_in x a.steps b.steps s i, t), steps_reads a b word r q s rest)

-- a deterministic automaton has one path for a word
one_path : (a : Automaton) (word : List PointValue) (p q q' : PointValue) → IsDeterministic a → Reads a word p q → Reads a word p q' → IsSame q q'
one_path a [] p q q' one h k = same_trans q p q' (same_sym p q h) k
one_path a (l ∷ word) p q q' one (r, step, rest) (r', step', rest') =
    one_path a word r q q' one rest (reads_move a word r' r q' (one.1 p l r' r step' step) rest')

-- a complete automaton has one for each word over the letters
some_path : (v : PointValue) (a : Automaton) (word : List PointValue) (p : PointValue) → IsAutomatonOf v a → IsComplete a → IsIn p a.states → AreLetters a word → (q : PointValue) × IsIn q a.states × Reads a word p q
some_path v a [] p is whole i letters = (p, i, same_refl p)
some_path v a (l ∷ word) p is whole i letters =
    let step : (q : PointValue) × HasStep a p l q = whole p l i letters.0 in
    let rest : (q : PointValue) × IsIn q a.states × Reads a word step.0 q = some_path v a word step.0 is whole (target step.0 step.1) letters.1 in
    (rest.0, rest.1, (step.0, step.1, rest.2))
  where
    target : (q : PointValue) → HasStep a p l q → IsIn q a.states
    target q (x, i, t) =
        let j : JoinsStates x a = is.steps_join x i in
        let both : IsSame p j.0 × IsSame l j.1 × IsSame q j.2 = triple_both x p l q j.0 j.1 j.2 t j.3 in
        in_same j.2 q a.states (same_sym q j.2 both.2) j.6

pub letters_of : (v : PointValue) (a : Automaton) (word : List PointValue) (p q : PointValue) → IsAutomatonOf v a → Reads a word p q → AreLetters a word
letters_of v a [] p q is h = tt
letters_of v a (l ∷ word) p q is (r, (x, i, t), rest) =
    let j : JoinsStates x a = is.steps_join x i in
    let both : IsSame p j.0 × IsSame l j.1 × IsSame r j.2 = triple_both x p l r j.0 j.1 j.2 t j.3 in
    (in_same j.1 l a.letters (same_sym l j.1 both.1) j.5, letters_of v a word r q is rest)

pub complements_accept_others : ComplementsAcceptOthers
complements_accept_others v m a word is one whole comp = (there, back)
  where
    there : Accepts m word → AreLetters a word × (Accepts a word → ⊥)
    there (p, i, (q, j, reads)) =
        let path : Reads a word p q = steps_reads m a word p q comp.steps reads in (
          letters_of v a word p q is path,
          λ acc. ((comp.final.1 q).0 j).1
              (let first : IsSame acc.0 p = same_trans acc.0 one.0.0 p (same_sym one.0.0 acc.0 (one.0.2 acc.0 acc.1)) (one.0.2 p (same_in p m.initial a.initial comp.initial i)) in
              in_same acc.2.0 q a.final (one_path a word p acc.2.0 q one (reads_move a word acc.0 p acc.2.0 first acc.2.2) path) acc.2.1),
        )

    back : AreLetters a word × (Accepts a word → ⊥) → Accepts m word
    back (letters, never) =
        let p : PointValue = one.0.0 in
        let path : (q : PointValue) × IsIn q a.states × Reads a word p q = some_path v a word p is whole (is.initial_states p one.0.1) letters in (
          p,
          same_in p a.initial m.initial (same_sym m.initial a.initial comp.initial) one.0.1,
          (
            path.0,
            (comp.final.1 path.0).1 (path.1, λ f. never (p, one.0.1, (path.0, f, path.2))),
            steps_reads a m word p path.0 (same_sym m.steps a.steps comp.steps) path.2,
          ),
        )

pub words_sym : (a : Automaton) (p q : PointValue) → HaveSameWords a p q → HaveSameWords a q p
words_sym a p q h word = ((h word).1, (h word).0)

words_refl : (a : Automaton) (p : PointValue) → HaveSameWords a p p
words_refl a p word = ((λ h. h), (λ h. h))

words_trans : (a : Automaton) (p q r : PointValue) → HaveSameWords a p q → HaveSameWords a q r → HaveSameWords a p r
words_trans a p q r h k word = ((λ x. (k word).0 ((h word).0 x)), (λ x. (h word).1 ((k word).1 x)))

same_words : (a : Automaton) (p q : PointValue) → IsSame p q → HaveSameWords a p q
same_words a p q s word =
    ((λ h. (h.0, h.1, reads_move a word p q h.0 s h.2)), (λ h. (h.0, h.1, reads_move a word q p h.0 (same_sym p q s) h.2)))

-- a class of two states: they accept the same words
class_words : (a : Automaton) (c q q' : PointValue) → IsReachable a q' → IsClassOf a c q → IsClassOf a c q' → HaveSameWords a q' q
class_words a c q q' reach one two = ((one.1 q').0 ((two.1 q').1 (reach, words_refl a q'))).1

-- the class of one is the class of each that accepts the same words
class_of : (a : Automaton) (c q q' : PointValue) → HaveSameWords a q q' → IsClassOf a c q → IsClassOf a c q'
class_of a c q q' h one =
    set_of_shift _ _ c (λ p r. (r.0, words_trans a p q q' r.1 h)) (λ p r. (r.0, words_trans a p q' q r.1 (words_sym a q q' h))) one

class_to : (a : Automaton) (c d q : PointValue) → IsSame c d → IsClassOf a c q → IsClassOf a d q
class_to a c d q s h = set_of_to _ c d s h

pub reach_step : (a : Automaton) (q l r : PointValue) → IsReachable a q → HasStep a q l r → IsReachable a r
reach_step a q l r (p, word, i, reads) step = (p, word ++ (l ∷ []), i, reads_on a word (l ∷ []) p q r reads (r, step, same_refl r))

-- from a class the words of its states are accepted
class_accepts : (m a : Automaton) (word : List PointValue) (c q : PointValue) → IsMinimalOf m a → IsReachable a q → IsClassOf a c q → AcceptsFrom m c word → AcceptsFrom a q word
class_accepts m a [] c q minimal reach class (f, i, s) =
    let found = (minimal.final.1 f).0 i in
    let same : HaveSameWords a found.0 q = class_words a c q found.0 found.1 class (class_to a f c found.0 (same_sym c f s) found.3) in
    (same []).0 (found.0, found.2, same_refl found.0)
class_accepts m a (l ∷ word) c q minimal reach class (f, i, (d, (x, j, triple), rest)) =
    let found = (minimal.steps.1 x).0 j in
    let q1 : PointValue = found.0 in let l1 : PointValue = found.1 in let r1 : PointValue = found.2 in
    let c1 : PointValue = found.3 in let d1 : PointValue = found.4 in
    let both : IsSame c c1 × IsSame l l1 × IsSame d d1 = triple_both x c l d c1 l1 d1 triple found.9 in
    let same : HaveSameWords a q1 q = class_words a c q q1 found.5 class (class_to a c1 c q1 (same_sym c c1 both.0) found.7) in
    let later : AcceptsFrom a r1 word = class_accepts m a word d r1 minimal (reach_step a q1 l1 r1 found.5 found.6) (class_to a d1 d r1 (same_sym d d1 both.2) found.8) (f, i, rest) in
    (same (l ∷ word)).0 (later.0, later.1, (r1, step_move a q1 l1 r1 q1 l r1 (same_refl q1) (same_sym l l1 both.1) (same_refl r1) found.6, later.2))

-- a path of the original is one of the classes
class_reads : (m a : Automaton) (word : List PointValue) (c d p q : PointValue) → IsMinimalOf m a → ClassesExist a → IsReachable a p → IsClassOf a c p → IsClassOf a d q → Reads a word p q → Reads m word c d
class_reads m a [] c d p q minimal exist reach from to h =
    set_of_same _ c d (class_of a c p q (same_words a p q h) from) to
class_reads m a (l ∷ word) c d p q minimal exist reach from to (r, step, rest) =
    let next : IsReachable a r = reach_step a p l r reach step in
    let class : (x : PointValue) × IsClassOf a x r = exist r next in
    let triple : (x : PointValue) × IsTriple x c l class.0 = triple_exists c l class.0 in (
      class.0,
      (triple.0, (minimal.steps.1 triple.0).1 (p, l, r, c, class.0, reach, step, from, class.1, triple.1), triple.1),
      class_reads m a word class.0 d r q minimal exist next class.1 to rest,
    )

accepts_class : (m a : Automaton) (word : List PointValue) (c q : PointValue) → IsMinimalOf m a → ClassesExist a → IsReachable a q → IsClassOf a c q → AcceptsFrom a q word → AcceptsFrom m c word
accepts_class m a word c q minimal exist reach class (f, i, reads) =
    let last : IsReachable a f = (reach.0, reach.1 ++ word, reach.2, reads_on a reach.1 word reach.0 q f reach.3 reads) in
    let d : (x : PointValue) × IsClassOf a x f = exist f last in
    (d.0, (minimal.final.1 d.0).1 (f, last, i, d.1), class_reads m a word c d.0 q f minimal exist reach class d.1 reads)

started : (a : Automaton) (q : PointValue) → IsIn q a.initial → IsReachable a q
started a q i = (q, [], i, same_refl q)

pub minimal_is_minimal : MinimalIsMinimal
minimal_is_minimal = record {
  words = λ m a word minimal exist. (
    (λ h. let first = (minimal.initial.1 h.0).0 h.1 in
        (first.0, first.1, class_accepts m a word h.0 first.0 minimal (started a first.0 first.1) first.2 h.2)),
    (λ h. let c : (x : PointValue) × IsClassOf a x h.0 = exist h.0 (started a h.0 h.1) in
        (c.0, (minimal.initial.1 c.0).1 (h.0, h.1, c.1), accepts_class m a word c.0 h.0 minimal exist (started a h.0 h.1) c.1 h.2)),
  );
  reached = λ m a x minimal exist i.
      let found = (minimal.states.1 x).0 i in
      let reach : IsReachable a found.0 = found.1 in
      let c : (y : PointValue) × IsClassOf a y reach.0 = exist reach.0 (started a reach.0 reach.2) in
      (c.0, reach.1, (minimal.initial.1 c.0).1 (reach.0, reach.2, c.1), class_reads m a reach.1 c.0 x reach.0 found.0 minimal exist (started a reach.0 reach.2) c.1 found.2 reach.3);
  apart = λ m a x y minimal exist i j same.
      let one = (minimal.states.1 x).0 i in
      let two = (minimal.states.1 y).0 j in
      let words : HaveSameWords a one.0 two.0 = λ word. (
        (λ h. class_accepts m a word y two.0 minimal two.1 two.2 ((same word).0 (accepts_class m a word x one.0 minimal exist one.1 one.2 h))),
        (λ h. class_accepts m a word x one.0 minimal one.1 one.2 ((same word).1 (accepts_class m a word y two.0 minimal exist two.1 two.2 h))),
      ) in
      set_of_same _ x y (class_of a x one.0 two.0 words one.2) two.2;
}
