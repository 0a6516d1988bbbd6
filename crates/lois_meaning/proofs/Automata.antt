-- What `IsSame` does to automata and to the operations.
use Rattle.std.proofs.Common.{◌≡◌, List, [], ◌∷◌, ◌⊎◌, refl, sym, subst}
use mathlib.Core.Logic.{inl, inr}
use Rattle.lois_base.specs.Values.{PointValue, IsMember, IsSame, IsIn}
use Rattle.lois_base.proofs.Members.{same_refl, same_sym, same_trans, same_in, same_included}
use Rattle.lois_meaning.specs.Automata.{Automaton, IsPair, IsTriple, JoinsStates, IsAutomatonOf, HasStep, Reads, AcceptsFrom, Accepts, IsReachable, IsDeterministic, IsComplete, HaveSameWords, IsClassOf, IsMinimalOf, IsProductOf, IsComplementOf}
use Rattle.lois_meaning.specs.Expressions.{IsValidOperand, IsResultOf}
use Rattle.lois_meaning.specs.Faults.{IsNoAutomaton, IsNotCompleteDeterministic, IsInvalidOperand}
use Rattle.lois_meaning.specs.Kinds.{HasParts, AreSame}
use Rattle.lois_answers.specs.declared.faults.FaultKind.{FaultKind}
use Rattle.lois_script.specs.declared.syntax.Operation.{Operation}
use Rattle.lois_script.specs.declared.syntax.Operation.TheVariants.{Union, Inter, Minus, Flatten, Reach, Product, Complement, Minimise}
use Rattle.lois_meaning.proofs.Alike.{is_set_same, set_of_same, set_of_move, set_of_shift, set_of_to, parts_same, parts_both, tuples_same}

-- five sets that are the same one by one
pub record SameMachine (a b : Automaton) : Type 0 where
  pub states : IsSame a.states b.states
  pub letters : IsSame a.letters b.letters
  pub steps : IsSame a.steps b.steps
  pub initial : IsSame a.initial b.initial
  pub final : IsSame a.final b.final

pub machine_sym : (a b : Automaton) → SameMachine a b → SameMachine b a
machine_sym a b h = record {
  states = same_sym a.states b.states h.states;
  letters = same_sym a.letters b.letters h.letters;
  steps = same_sym a.steps b.steps h.steps;
  initial = same_sym a.initial b.initial h.initial;
  final = same_sym a.final b.final h.final;
}

pub triple_same : (x a b c a' b' c' : PointValue) → IsSame a a' → IsSame b b' → IsSame c c' → IsTriple x a b c → IsTriple x a' b' c'
triple_same x a b c a' b' c' p q r (d, e, f, parts, s, t, u) =
    (d, e, f, parts, same_trans a' a d (same_sym a a' p) s, same_trans b' b e (same_sym b b' q) t, same_trans c' c f (same_sym c c' r) u)

pub step_same : (a b : Automaton) (p l q p' l' q' : PointValue) → SameMachine a b → IsSame p p' → IsSame l l' → IsSame q q' → HasStep a p l q → HasStep b p' l' q'
step_same a b p l q p' l' q' h i j k (x, is, t) = (x, same_in x a.steps b.steps h.steps is, triple_same x p l q p' l' q' i j k t)

pub reads_same : (a b : Automaton) (word : List PointValue) (p q p' q' : PointValue) → SameMachine a b → IsSame p p' → IsSame q q' → Reads a word p q → Reads b word p' q'
reads_same a b [] p q p' q' h i j r = same_trans p' p q' (same_sym p p' i) (same_trans p q q' r j)
reads_same a b (l ∷ word) p q p' q' h i j (r, s, rest) =
    (r, step_same a b p l r p' l r h i (same_refl l) (same_refl r) s, reads_same a b word r q r q' h (same_refl r) j rest)

pub accepts_from_same : (a b : Automaton) (word : List PointValue) (p p' : PointValue) → SameMachine a b → IsSame p p' → AcceptsFrom a p word → AcceptsFrom b p' word
accepts_from_same a b word p p' h i (q, is, r) = (q, same_in q a.final b.final h.final is, reads_same a b word p q p' q h i (same_refl q) r)

pub reachable_same : (a b : Automaton) (p p' : PointValue) → SameMachine a b → IsSame p p' → IsReachable a p → IsReachable b p'
reachable_same a b p p' h i (s, word, is, r) = (s, word, same_in s a.initial b.initial h.initial is, reads_same a b word s p s p' h (same_refl s) i r)

words_same : (a b : Automaton) (p q p' q' : PointValue) → SameMachine a b → IsSame p p' → IsSame q q' → HaveSameWords a p q → HaveSameWords b p' q'
words_same a b p q p' q' h i j s word =
    let back = machine_sym a b h in (
      (λ x. accepts_from_same a b word q q' h j ((s word).0 (accepts_from_same b a word p' p back (same_sym p p' i) x))),
      (λ x. accepts_from_same a b word p p' h i ((s word).1 (accepts_from_same b a word q' q back (same_sym q q' j) x))),
    )

class_same : (a b : Automaton) (q q' x x' : PointValue) → SameMachine a b → IsSame q q' → IsSame x x' → IsClassOf a x q → IsClassOf b x' q'
class_same a b q q' x x' h i j c =
    let back = machine_sym a b h in
    set_of_move _ _ x x' j
    (λ p r. (reachable_same a b p p h (same_refl p) r.0, words_same a b p q p q' h (same_refl p) i r.1))
    (λ p r. (reachable_same b a p p back (same_refl p) r.0, words_same b a p q' p q back (same_refl p) (same_sym q q' i) r.1)) c

pub automaton_both : (v w : PointValue) (a b : Automaton) → IsSame v w → IsAutomatonOf v a → IsAutomatonOf w b → SameMachine a b
automaton_both v w a b s h k =
    let five = parts_both v w _ _ s h.five k.five in
    record { states = five.0; letters = five.1.0; steps = five.1.1.0; initial = five.1.1.1.0; final = five.1.1.1.1.0 }

five_of : (v w : PointValue) (a : Automaton) → IsSame v w → IsAutomatonOf v a → (b : Automaton) × HasParts w (b.states ∷ b.letters ∷ b.steps ∷ b.initial ∷ b.final ∷ []) × SameMachine a b
five_of v w a s h =
    let found : (ws : List PointValue) × HasParts w ws × AreSame (a.states ∷ a.letters ∷ a.steps ∷ a.initial ∷ a.final ∷ []) ws = parts_same v w _ s h.five in
    go found.0 found.1 found.2
  where
    go : (ws : List PointValue) → HasParts w ws → AreSame (a.states ∷ a.letters ∷ a.steps ∷ a.initial ∷ a.final ∷ []) ws → (b : Automaton) × HasParts w (b.states ∷ b.letters ∷ b.steps ∷ b.initial ∷ b.final ∷ []) × SameMachine a b
    go [] p e = elim e [ ]
    go (x ∷ []) p e = elim e.1 [ ]
    go (x ∷ y ∷ []) p e = elim e.1.1 [ ]
    go (x ∷ y ∷ z ∷ []) p e = elim e.1.1.1 [ ]
    go (x ∷ y ∷ z ∷ i ∷ []) p e = elim e.1.1.1.1 [ ]
    go (x ∷ y ∷ z ∷ i ∷ f ∷ []) p e = (
      record { states = x; letters = y; steps = z; initial = i; final = f },
      p,
      record { states = e.0; letters = e.1.0; steps = e.1.1.0; initial = e.1.1.1.0; final = e.1.1.1.1.0 },
    )
    go (x ∷ y ∷ z ∷ i ∷ f ∷ g ∷ more) p e = elim e.1.1.1.1.1 [ ]

step_moves : (a b : Automaton) (x : PointValue) → SameMachine a b → JoinsStates x a → JoinsStates x b
step_moves a b x h (p, l, q, t, i, j, k) = (p, l, q, t, same_in p a.states b.states h.states i, same_in l a.letters b.letters h.letters j, same_in q a.states b.states h.states k)

pub automaton_to : (v w : PointValue) (a : Automaton) → IsSame v w → IsAutomatonOf v a → (b : Automaton) × IsAutomatonOf w b × SameMachine a b
automaton_to v w a s h =
    let to : (b : Automaton) × HasParts w (b.states ∷ b.letters ∷ b.steps ∷ b.initial ∷ b.final ∷ []) × SameMachine a b = five_of v w a s h in
    let b : Automaton = to.0 in
    let m : SameMachine a b = to.2 in
    let r : SameMachine b a = machine_sym a b m in (
      b,
      record {
        five = to.1;
        states_set = is_set_same a.states b.states m.states h.states_set;
        letters_set = is_set_same a.letters b.letters m.letters h.letters_set;
        steps_set = is_set_same a.steps b.steps m.steps h.steps_set;
        initial_set = is_set_same a.initial b.initial m.initial h.initial_set;
        final_set = is_set_same a.final b.final m.final h.final_set;
        steps_join = λ x is. step_moves a b x m (h.steps_join x (same_in x b.steps a.steps r.steps is));
        initial_states = λ x is. same_in x a.states b.states m.states (h.initial_states x (same_in x b.initial a.initial r.initial is));
        final_states = λ x is. same_in x a.states b.states m.states (h.final_states x (same_in x b.final a.final r.final is));
      },
      m,
    )

pub automaton_move : (v w : PointValue) (a : Automaton) → IsSame v w → IsAutomatonOf v a → (b : Automaton) × IsAutomatonOf w b
automaton_move v w a s h = let to : (b : Automaton) × IsAutomatonOf w b × SameMachine a b = automaton_to v w a s h in (to.0, to.1)

pub automaton_same : (v w : PointValue) (a b : Automaton) → IsSame v w → IsAutomatonOf v a → IsAutomatonOf w b → (word : List PointValue) → Accepts a word → Accepts b word
automaton_same v w a b s h k word (p, is, acc) =
    let m = automaton_both v w a b s h k in
    (p, same_in p a.initial b.initial m.initial is, accepts_from_same a b word p p m (same_refl p) acc)

product_to : (a b m n : Automaton) → SameMachine m n → IsProductOf m a b → IsProductOf n a b
product_to a b m n h p = record {
  states = set_of_to _ m.states n.states h.states p.states;
  letters = set_of_to _ m.letters n.letters h.letters p.letters;
  steps = set_of_to _ m.steps n.steps h.steps p.steps;
  initial = set_of_to _ m.initial n.initial h.initial p.initial;
  final = set_of_to _ m.final n.final h.final p.final;
}

complement_to : (a m n : Automaton) → SameMachine m n → IsComplementOf m a → IsComplementOf n a
complement_to a m n h p = record {
  states = same_trans n.states m.states a.states (same_sym m.states n.states h.states) p.states;
  letters = same_trans n.letters m.letters a.letters (same_sym m.letters n.letters h.letters) p.letters;
  steps = same_trans n.steps m.steps a.steps (same_sym m.steps n.steps h.steps) p.steps;
  initial = same_trans n.initial m.initial a.initial (same_sym m.initial n.initial h.initial) p.initial;
  final = set_of_to _ m.final n.final h.final p.final;
}

minimal_to : (a m n : Automaton) → SameMachine m n → IsMinimalOf m a → IsMinimalOf n a
minimal_to a m n h p = record {
  states = set_of_to _ m.states n.states h.states p.states;
  letters = same_trans n.letters m.letters a.letters (same_sym m.letters n.letters h.letters) p.letters;
  steps = set_of_to _ m.steps n.steps h.steps p.steps;
  initial = set_of_to _ m.initial n.initial h.initial p.initial;
  final = set_of_to _ m.final n.final h.final p.final;
}

-- what an operation makes is any value that is the same
pub made_move : (op : Operation) (us : List PointValue) (v w : PointValue) → IsSame v w → IsResultOf v op us → IsResultOf w op us
made_move Union (a ∷ b ∷ []) v w s h = set_of_to _ v w s h
made_move Inter (a ∷ b ∷ []) v w s h = set_of_to _ v w s h
made_move Minus (a ∷ b ∷ []) v w s h = set_of_to _ v w s h
made_move Flatten (a ∷ []) v w s h = set_of_to _ v w s h
made_move Reach (a ∷ []) v w s (m, au, set) = (m, au, set_of_to _ v w s set)
made_move Product (a ∷ b ∷ []) v w s (m, n, r, au, bu, vu, p) =
    let to : (x : Automaton) × IsAutomatonOf w x × SameMachine r x = automaton_to v w r s vu in
    (m, n, to.0, au, bu, to.1, product_to m n r to.0 to.2 p)
made_move Complement (a ∷ []) v w s (m, r, au, vu, p) =
    let to : (x : Automaton) × IsAutomatonOf w x × SameMachine r x = automaton_to v w r s vu in
    (m, to.0, au, to.1, complement_to m r to.0 to.2 p)
made_move Minimise (a ∷ []) v w s (m, r, au, vu, p) =
    let to : (x : Automaton) × IsAutomatonOf w x × SameMachine r x = automaton_to v w r s vu in
    (m, to.0, au, to.1, minimal_to m r to.0 to.2 p)
made_move _ _ v w s h = elim h [ ]

one_of : (a : PointValue) (vs : List PointValue) → AreSame (a ∷ []) vs → (c : PointValue) × (vs ≡ c ∷ []) × IsSame a c
one_of a [] s = elim s [ ]
one_of a (c ∷ []) s = (c, refl, s.0)
one_of a (c ∷ d ∷ vs) s = elim s.1 [ ]

two_of : (a b : PointValue) (vs : List PointValue) → AreSame (a ∷ b ∷ []) vs → (c d : PointValue) × (vs ≡ c ∷ d ∷ []) × IsSame a c × IsSame b d
two_of a b [] s = elim s [ ]
two_of a b (c ∷ []) s = elim s.1 [ ]
two_of a b (c ∷ d ∷ []) s = (c, d, refl, s.0, s.1.0)
two_of a b (c ∷ d ∷ e ∷ vs) s = elim s.1.1 [ ]

minimal_from : (m n r : Automaton) → SameMachine m n → IsMinimalOf r m → IsMinimalOf r n
minimal_from m n r h p =
    let k : SameMachine n m = machine_sym m n h in
    record {
      states = set_of_shift _ _ r.states
          (λ x q. (q.0, reachable_same m n q.0 q.0 h (same_refl q.0) q.1, class_same m n q.0 q.0 x x h (same_refl q.0) (same_refl x) q.2))
          (λ x q. (q.0, reachable_same n m q.0 q.0 k (same_refl q.0) q.1, class_same n m q.0 q.0 x x k (same_refl q.0) (same_refl x) q.2)) p.states;
      letters = same_trans r.letters m.letters n.letters p.letters h.letters;
      steps = set_of_shift _ _ r.steps (λ x q. step_to m n x h q) (λ x q. step_to n m x k q) p.steps;
      initial = set_of_shift _ _ r.initial
          (λ x q. (q.0, same_in q.0 m.initial n.initial h.initial q.1, class_same m n q.0 q.0 x x h (same_refl q.0) (same_refl x) q.2))
          (λ x q. (q.0, same_in q.0 n.initial m.initial k.initial q.1, class_same n m q.0 q.0 x x k (same_refl q.0) (same_refl x) q.2)) p.initial;
      final = set_of_shift _ _ r.final
          (λ x q. (q.0, reachable_same m n q.0 q.0 h (same_refl q.0) q.1, same_in q.0 m.final n.final h.final q.2, class_same m n q.0 q.0 x x h (same_refl q.0) (same_refl x) q.3))
          (λ x q. (q.0, reachable_same n m q.0 q.0 k (same_refl q.0) q.1, same_in q.0 n.final m.final k.final q.2, class_same n m q.0 q.0 x x k (same_refl q.0) (same_refl x) q.3)) p.final;
    }
  where
    step_to : (m n : Automaton) (x : PointValue) → SameMachine m n → (q l r c d : PointValue) × IsReachable m q × HasStep m q l r × IsClassOf m c q × IsClassOf m d r × IsTriple x c l d → (q l r c d : PointValue) × IsReachable n q × HasStep n q l r × IsClassOf n c q × IsClassOf n d r × IsTriple x c l d
    step_to m n x h (q, l, r, c, d, i, st, cq, cr, t) =
        (q, l, r, c, d, reachable_same m n q q h (same_refl q) i, step_same m n q l r q l r h (same_refl q) (same_refl l) (same_refl r) st, class_same m n q q c c h (same_refl q) (same_refl c) cq, class_same m n r r d d h (same_refl r) (same_refl d) cr, t)

complement_from : (m n r : Automaton) → SameMachine m n → IsComplementOf r m → IsComplementOf r n
complement_from m n r h p = record {
  states = same_trans r.states m.states n.states p.states h.states;
  letters = same_trans r.letters m.letters n.letters p.letters h.letters;
  steps = same_trans r.steps m.steps n.steps p.steps h.steps;
  initial = same_trans r.initial m.initial n.initial p.initial h.initial;
  final = set_of_shift _ _ r.final
      (λ x q. (same_in x m.states n.states h.states q.0, λ i. q.1 (same_in x n.final m.final (same_sym m.final n.final h.final) i)))
      (λ x q. (same_in x n.states m.states (same_sym m.states n.states h.states) q.0, λ i. q.1 (same_in x m.final n.final h.final i))) p.final;
}

product_from : (m n m' n' r : Automaton) → SameMachine m m' → SameMachine n n' → IsProductOf r m n → IsProductOf r m' n'
product_from m n m' n' r h k p =
    let h' : SameMachine m' m = machine_sym m m' h in
    let k' : SameMachine n' n = machine_sym n n' k in
    record {
      states = set_of_shift _ _ r.states
          (λ x q. (q.0, q.1, same_in q.0 m.states m'.states h.states q.2, same_in q.1 n.states n'.states k.states q.3, q.4))
          (λ x q. (q.0, q.1, same_in q.0 m'.states m.states h'.states q.2, same_in q.1 n'.states n.states k'.states q.3, q.4)) p.states;
      letters = set_of_shift _ _ r.letters
          (λ x q. (same_in x m.letters m'.letters h.letters q.0, same_in x n.letters n'.letters k.letters q.1))
          (λ x q. (same_in x m'.letters m.letters h'.letters q.0, same_in x n'.letters n.letters k'.letters q.1)) p.letters;
      steps = set_of_shift _ _ r.steps (λ x q. step_to m n m' n' x h k q) (λ x q. step_to m' n' m n x h' k' q) p.steps;
      initial = set_of_shift _ _ r.initial
          (λ x q. (q.0, q.1, same_in q.0 m.initial m'.initial h.initial q.2, same_in q.1 n.initial n'.initial k.initial q.3, q.4))
          (λ x q. (q.0, q.1, same_in q.0 m'.initial m.initial h'.initial q.2, same_in q.1 n'.initial n.initial k'.initial q.3, q.4)) p.initial;
      final = set_of_shift _ _ r.final
          (λ x q. (q.0, q.1, same_in q.0 m.final m'.final h.final q.2, same_in q.1 n.final n'.final k.final q.3, q.4))
          (λ x q. (q.0, q.1, same_in q.0 m'.final m.final h'.final q.2, same_in q.1 n'.final n.final k'.final q.3, q.4)) p.final;
    }
  where
    step_to : (m n m' n' : Automaton) (x : PointValue) → SameMachine m m' → SameMachine n n' → (p l p' q q' s s' : PointValue) × HasStep m p l p' × HasStep n q l q' × IsPair s p q × IsPair s' p' q' × IsTriple x s l s' → (p l p' q q' s s' : PointValue) × HasStep m' p l p' × HasStep n' q l q' × IsPair s p q × IsPair s' p' q' × IsTriple x s l s'
    step_to m n m' n' x h k (p, l, p', q, q', s, s', a, b, c, d, e) =
        (p, l, p', q, q', s, s', step_same m m' p l p' p l p' h (same_refl p) (same_refl l) (same_refl p') a, step_same n n' q l q' q l q' k (same_refl q) (same_refl l) (same_refl q') b, c, d, e)

-- an operation makes the same of operands that are the same
made_shift : (op : Operation) (us vs : List PointValue) (v : PointValue) → AreSame us vs → IsResultOf v op us → IsResultOf v op vs
made_shift Union (a ∷ b ∷ []) vs v s h =
    let t : (c d : PointValue) × (vs ≡ c ∷ d ∷ []) × IsSame a c × IsSame b d = two_of a b vs s in
    subst (λ l. IsResultOf v Union l) (sym t.2) (set_of_shift _ _ v
    (λ x q. elim q [ inl i ↦ inl (same_in x a t.0 t.3 i) | inr i ↦ inr (same_in x b t.1 t.4 i) ])
    (λ x q. elim q [ inl i ↦ inl (same_in x t.0 a (same_sym a t.0 t.3) i) | inr i ↦ inr (same_in x t.1 b (same_sym b t.1 t.4) i) ]) h)
made_shift Inter (a ∷ b ∷ []) vs v s h =
    let t : (c d : PointValue) × (vs ≡ c ∷ d ∷ []) × IsSame a c × IsSame b d = two_of a b vs s in
    subst (λ l. IsResultOf v Inter l) (sym t.2) (set_of_shift _ _ v
    (λ x q. (same_in x a t.0 t.3 q.0, same_in x b t.1 t.4 q.1))
    (λ x q. (same_in x t.0 a (same_sym a t.0 t.3) q.0, same_in x t.1 b (same_sym b t.1 t.4) q.1)) h)
made_shift Minus (a ∷ b ∷ []) vs v s h =
    let t : (c d : PointValue) × (vs ≡ c ∷ d ∷ []) × IsSame a c × IsSame b d = two_of a b vs s in
    subst (λ l. IsResultOf v Minus l) (sym t.2) (set_of_shift _ _ v
    (λ x q. (same_in x a t.0 t.3 q.0, λ i. q.1 (same_in x t.1 b (same_sym b t.1 t.4) i)))
    (λ x q. (same_in x t.0 a (same_sym a t.0 t.3) q.0, λ i. q.1 (same_in x b t.1 t.4 i))) h)
made_shift Flatten (a ∷ []) vs v s h =
    let t : (c : PointValue) × (vs ≡ c ∷ []) × IsSame a c = one_of a vs s in
    subst (λ l. IsResultOf v Flatten l) (sym t.1) (set_of_shift _ _ v (λ x q. inner a t.0 x t.2 q) (λ x q. inner t.0 a x (same_sym a t.0 t.2) q) h)
  where
    inner : (a c x : PointValue) → IsSame a c → (u : PointValue) × IsMember u a × IsIn x u → (u : PointValue) × IsMember u c × IsIn x u
    inner a c x s (u, is, i) =
        let y : (y : PointValue) × IsMember y c × IsSame u y = same_included a c s u is in
        (y.0, y.1, same_in x u y.0 y.2 i)
made_shift Reach (a ∷ []) vs v s (m, au, set) =
    let t : (c : PointValue) × (vs ≡ c ∷ []) × IsSame a c = one_of a vs s in
    let to : (x : Automaton) × IsAutomatonOf t.0 x × SameMachine m x = automaton_to a t.0 m t.2 au in
    subst (λ l. IsResultOf v Reach l) (sym t.1) (
      to.0,
      to.1,
      set_of_shift _ _ v
          (λ x q. reachable_same m to.0 x x to.2 (same_refl x) q) (λ x q. reachable_same to.0 m x x (machine_sym m to.0 to.2) (same_refl x) q) set,
    )
made_shift Product (a ∷ b ∷ []) vs v s (m, n, r, au, bu, vu, p) =
    let t : (c d : PointValue) × (vs ≡ c ∷ d ∷ []) × IsSame a c × IsSame b d = two_of a b vs s in
    let x : (x : Automaton) × IsAutomatonOf t.0 x × SameMachine m x = automaton_to a t.0 m t.3 au in
    let y : (y : Automaton) × IsAutomatonOf t.1 y × SameMachine n y = automaton_to b t.1 n t.4 bu in
    subst (λ l. IsResultOf v Product l) (sym t.2) (x.0, y.0, r, x.1, y.1, vu, product_from m n x.0 y.0 r x.2 y.2 p)
made_shift Complement (a ∷ []) vs v s (m, r, au, vu, p) =
    let t : (c : PointValue) × (vs ≡ c ∷ []) × IsSame a c = one_of a vs s in
    let x : (x : Automaton) × IsAutomatonOf t.0 x × SameMachine m x = automaton_to a t.0 m t.2 au in
    subst (λ l. IsResultOf v Complement l) (sym t.1) (x.0, r, x.1, vu, complement_from m x.0 r x.2 p)
made_shift Minimise (a ∷ []) vs v s (m, r, au, vu, p) =
    let t : (c : PointValue) × (vs ≡ c ∷ []) × IsSame a c = one_of a vs s in
    let x : (x : Automaton) × IsAutomatonOf t.0 x × SameMachine m x = automaton_to a t.0 m t.2 au in
    subst (λ l. IsResultOf v Minimise l) (sym t.1) (x.0, r, x.1, vu, minimal_from m x.0 r x.2 p)
made_shift _ _ vs v s h = elim h [ ]

-- automata whose sets are the same are the same
five_same : (v w : PointValue) (a b : Automaton) → IsAutomatonOf v a → IsAutomatonOf w b → SameMachine a b → IsSame v w
five_same v w a b h k m = tuples_same v w _ _ h.five k.five (m.states, (m.letters, (m.steps, (m.initial, (m.final, tt)))))

made_one : (op : Operation) (us : List PointValue) (v w : PointValue) → IsResultOf v op us → IsResultOf w op us → IsSame v w
made_one Union (a ∷ b ∷ []) v w h k = set_of_same _ v w h k
made_one Inter (a ∷ b ∷ []) v w h k = set_of_same _ v w h k
made_one Minus (a ∷ b ∷ []) v w h k = set_of_same _ v w h k
made_one Flatten (a ∷ []) v w h k = set_of_same _ v w h k
made_one Reach (a ∷ []) v w (m, au, h) (n, bu, k) =
    let both = automaton_both a a n m (same_refl a) bu au in
    set_of_same (IsReachable m) v w h (set_of_shift _ _ w (λ x q. reachable_same n m x x both (same_refl x) q) (λ x q. reachable_same m n x x (machine_sym n m both) (same_refl x) q) k)
made_one Product (a ∷ b ∷ []) v w (m, n, r, au, bu, vu, h) (m', n', r', cu, du, wu, k) =
    let p : IsProductOf r' m n = product_from m' n' m n r' (automaton_both a a m' m (same_refl a) cu au) (automaton_both b b n' n (same_refl b) du bu) k in
    five_same v w r r' vu wu (record {
      states = set_of_same _ r.states r'.states h.states p.states;
      letters = set_of_same _ r.letters r'.letters h.letters p.letters;
      steps = set_of_same _ r.steps r'.steps h.steps p.steps;
      initial = set_of_same _ r.initial r'.initial h.initial p.initial;
      final = set_of_same _ r.final r'.final h.final p.final;
    })
made_one Complement (a ∷ []) v w (m, r, au, vu, h) (n, r', bu, wu, k) =
    let p : IsComplementOf r' m = complement_from n m r' (automaton_both a a n m (same_refl a) bu au) k in
    five_same v w r r' vu wu (record {
      states = same_trans r.states m.states r'.states h.states (same_sym r'.states m.states p.states);
      letters = same_trans r.letters m.letters r'.letters h.letters (same_sym r'.letters m.letters p.letters);
      steps = same_trans r.steps m.steps r'.steps h.steps (same_sym r'.steps m.steps p.steps);
      initial = same_trans r.initial m.initial r'.initial h.initial (same_sym r'.initial m.initial p.initial);
      final = set_of_same _ r.final r'.final h.final p.final;
    })
made_one Minimise (a ∷ []) v w (m, r, au, vu, h) (n, r', bu, wu, k) =
    let p : IsMinimalOf r' m = minimal_from n m r' (automaton_both a a n m (same_refl a) bu au) k in
    five_same v w r r' vu wu (record {
      states = set_of_same _ r.states r'.states h.states p.states;
      letters = same_trans r.letters m.letters r'.letters h.letters (same_sym r'.letters m.letters p.letters);
      steps = set_of_same _ r.steps r'.steps h.steps p.steps;
      initial = set_of_same _ r.initial r'.initial h.initial p.initial;
      final = set_of_same _ r.final r'.final h.final p.final;
    })
made_one _ _ v w h k = elim h [ ]

-- at operands that are the same an operation makes values that are the same
pub made_same : (op : Operation) (us vs : List PointValue) (v w : PointValue) → AreSame us vs → IsResultOf v op us → IsResultOf w op vs → IsSame v w
made_same op us vs v w s h k = made_one op vs v w (made_shift op us vs v s h) k

deterministic_same : (a b : Automaton) → SameMachine a b → IsDeterministic a → IsDeterministic b
deterministic_same a b h ((p, is, only), next) =
    let k : SameMachine b a = machine_sym a b h in (
      (p, same_in p a.initial b.initial h.initial is, λ q i. only q (same_in q b.initial a.initial k.initial i)),
      λ p l q r s t. next p l q r (step_same b a p l q p l q k (same_refl p) (same_refl l) (same_refl q) s) (step_same b a p l r p l r k (same_refl p) (same_refl l) (same_refl r) t),
    )

complete_same : (a b : Automaton) → SameMachine a b → IsComplete a → IsComplete b
complete_same a b h c p l i j =
    let k : SameMachine b a = machine_sym a b h in
    let s : (q : PointValue) × HasStep a p l q = c p l (same_in p b.states a.states k.states i) (same_in l b.letters a.letters k.letters j) in
    (s.0, step_same a b p l s.0 p l s.0 h (same_refl p) (same_refl l) (same_refl s.0) s.1)

whole_fit : (v w : PointValue) (k : FaultKind) → IsSame v w → (a : Automaton) × IsAutomatonOf v a × IsDeterministic a × IsComplete a → IsNoAutomaton w k ⊎ IsNotCompleteDeterministic w k → ⊥
whole_fit v w k s (a, au, det, full) (inl u) = u.1 (automaton_move v w a s au)
whole_fit v w k s (a, au, det, full) (inr (inl (q, b, bu, never))) = never (deterministic_same a b (automaton_both v w a b s au bu) det)
whole_fit v w k s (a, au, det, full) (inr (inr (q, b, bu, det', never))) = never (complete_same a b (automaton_both v w a b s au bu) full)

-- an operand that suits its operation breaks no row, nor does one that is the same
pub suits_fit : (op : Operation) (v w : PointValue) (k : FaultKind) → IsSame v w → IsValidOperand v op → IsInvalidOperand op w k → ⊥
suits_fit Union v w k s h u = u.1 (is_set_same v w s h)
suits_fit Inter v w k s h u = u.1 (is_set_same v w s h)
suits_fit Minus v w k s h u = u.1 (is_set_same v w s h)
suits_fit Flatten v w k s h (inl u) = u.1 (is_set_same v w s h.0)
suits_fit Flatten v w k s h (inr (q, x, is, never)) =
    let y : (y : PointValue) × IsMember y v × IsSame x y = same_included w v (same_sym v w s) x is in
    never (is_set_same y.0 x (same_sym x y.0 y.2) (h.1 y.0 y.1))
suits_fit Reach v w k s (a, au) u = u.1 (automaton_move v w a s au)
suits_fit Product v w k s (a, au) u = u.1 (automaton_move v w a s au)
suits_fit Complement v w k s h u = whole_fit v w k s h u
suits_fit Minimise v w k s h u = whole_fit v w k s h u
