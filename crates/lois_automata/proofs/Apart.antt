-- Comprehensions whose items rule out that their members go together.
use Rattle.std.proofs.Common.{◌≡◌, ℕ, List, ◌++◌, [], subst, sym}
use Rattle.std.proofs.lemmas.Bool.{false≢true}
use Rattle.lois_base.specs.Atom.{Atom}
use Rattle.lois_base.specs.Data.{TermD, CompD, comp, CompsD}
use Rattle.lois_base.specs.Values.{PointValue, point, IsSame}
use Rattle.lois_base.specs.declared.guards.Lit.{Lit}
use Rattle.lois_base.proofs.Members.{same_sym, same_trans}
use Rattle.lois_algebra.specs.Gathered.{IsCompMember}
use Rattle.lois_meaning.specs.Automata.{IsPair, IsTriple}
use Rattle.lois_meaning.proofs.Operations.{pair_to}
use Rattle.lois_relate.specs.Apart.{AreNeverSame}
use Rattle.lois_meaning.proofs.Tuples.{triple_to}
use Rattle.lois_automata.specs.Adding.{AddsOfTwo, IsMadeOfTwo, IsStepOf}
use Rattle.lois_automata.specs.Projections.{AllAgree, pair_of, triple_of}
use Rattle.lois_automata.specs.Verdicts.{HoldsUnless}
use Rattle.lois_automata.proofs.Adding.{adds_nothing}
use Rattle.lois_automata.proofs.Written.{pair_here, pair_term, triple_here, triple_term}

-- ---- what one comprehension makes
module _ (m : ℕ) (g : List (List Lit)) (t : TermD) (c : List Atom) (x : PointValue) where
  pub makes_no_pair : ((a b : TermD) → t ≡ pair_of a b → ⊥) → IsCompMember (comp m g t) c x → (k v : PointValue) → IsPair x k v → ⊥
  makes_no_pair never (e, ext, same) k v p =
      let f = pair_term t (c ++ e) k v (pair_to x (point t (c ++ e)) k v (same_sym (point t (c ++ e)) x same) p) in
      never f.0 f.1 f.2

  pub makes_key : (a b : TermD) → t ≡ pair_of a b → IsCompMember (comp m g t) c x → (k v : PointValue) → IsPair x k v → (d : List Atom) × IsSame k (point a d)
  makes_key a b is (e, ext, same) k v p =
      let d = c ++ e in
      let here : IsPair (point t d) k v = pair_to x (point t d) k v (same_sym (point t d) x same) p in
      (d, (pair_here a b d k v (subst (λ z. IsPair (point z d) k v) is here)).0)

  pub makes_no_step : ((p l q : TermD) → t ≡ triple_of p l q → ⊥) → IsCompMember (comp m g t) c x → (P L Q : PointValue) → IsTriple x P L Q → ⊥
  makes_no_step never (e, ext, same) P L Q i =
      let f = triple_term t (c ++ e) P L Q (triple_to x (point t (c ++ e)) P L Q (same_sym (point t (c ++ e)) x same) i) in
      never f.0 f.1 f.2 f.3

  pub makes_letter : (p l q : TermD) → t ≡ triple_of p l q → IsCompMember (comp m g t) c x → (P L Q : PointValue) → IsTriple x P L Q → (d : List Atom) × IsSame L (point l d)
  makes_letter p l q is (e, ext, same) P L Q i =
      let d = c ++ e in
      let here : IsTriple (point t d) P L Q = triple_to x (point t d) P L Q (same_sym (point t d) x same) i in
      (d, (triple_here p l q d P L Q (subst (λ z. IsTriple (point z d) P L Q) is here)).1)

-- ---- what two of them do
module _ (m : ℕ) (g : List (List Lit)) (t : TermD) (n : ℕ) (h : List (List Lit)) (s : TermD) where
  pub first_keyless : ((a b : TermD) → t ≡ pair_of a b → ⊥) → (c : List Atom) → AllAgree (IsCompMember (comp m g t) c) (IsCompMember (comp n h s) c)
  first_keyless never c = λ x y k v v' i j p p'. absurd (makes_no_pair m g t c x never i k v p)

  pub second_keyless : ((a b : TermD) → s ≡ pair_of a b → ⊥) → (c : List Atom) → AllAgree (IsCompMember (comp m g t) c) (IsCompMember (comp n h s) c)
  second_keyless never c = λ x y k v v' i j p p'. absurd (makes_no_pair n h s c y never j k v' p')

  pub keys_apart : (a b a' b' : TermD) → t ≡ pair_of a b → s ≡ pair_of a' b' → AreNeverSame a a' → (c : List Atom) → AllAgree (IsCompMember (comp m g t) c) (IsCompMember (comp n h s) c)
  keys_apart a b a' b' is is' apart c = λ x y k v v' i j p p'.
      let one = makes_key m g t c x a b is i k v p in
      let two = makes_key n h s c y a' b' is' j k v' p' in
      absurd (apart one.0 two.0 (same_trans (point a one.0) k (point a' two.0) (same_sym k (point a one.0) one.1) two.1))

  pub first_stepless : ((p l q : TermD) → t ≡ triple_of p l q → ⊥) → (c : List Atom) (w : PointValue) → IsMadeOfTwo IsStepOf (IsCompMember (comp m g t) c) (IsCompMember (comp n h s) c) w → ⊥
  first_stepless never c w (x, y, i, j, (P, L, P', Q, Q', S, S', one, two, i', j', made)) = makes_no_step m g t c x never i P L P' one

  pub second_stepless : ((p l q : TermD) → s ≡ triple_of p l q → ⊥) → (c : List Atom) (w : PointValue) → IsMadeOfTwo IsStepOf (IsCompMember (comp m g t) c) (IsCompMember (comp n h s) c) w → ⊥
  second_stepless never c w (x, y, i, j, (P, L, P', Q, Q', S, S', one, two, i', j', made)) = makes_no_step n h s c y never j Q L Q' two

  pub letters_apart : (p l q p' l' q' : TermD) → t ≡ triple_of p l q → s ≡ triple_of p' l' q' → AreNeverSame l l' → (c : List Atom) (w : PointValue) → IsMadeOfTwo IsStepOf (IsCompMember (comp m g t) c) (IsCompMember (comp n h s) c) w → ⊥
  letters_apart p l q p' l' q' is is' apart c w (x, y, i, j, (P, L, P', Q, Q', S, S', one, two, i', j', made)) =
      let first = makes_letter m g t c x p l q is i P L P' one in
      let second = makes_letter n h s c y p' l' q' is' j Q L Q' two in
      apart first.0 second.0 (same_trans (point l first.0) L (point l' second.0) (same_sym L (point l first.0) first.1) second.1)

-- ---- what follows
pub differs_nowhere : (n : ℕ) (P : List Atom → Type 0) (r : List (List Lit)) → r ≡ [] → ((c : List Atom) → P c) → HoldsUnless n P r
differs_nowhere n P r empty each =
    subst (HoldsUnless n P) (sym empty) (λ c l. (λ h p. false≢true h, λ h. each c))

pub no_steps_added : (n : ℕ) (k q : CompD) (before : CompsD) → ((c : List Atom) (w : PointValue) → IsMadeOfTwo IsStepOf (IsCompMember k c) (IsCompMember q c) w → ⊥) → AddsOfTwo IsStepOf n k q before before
no_steps_added n k q before never = adds_nothing n _ _ _ _ before (λ c l w. never c w)
