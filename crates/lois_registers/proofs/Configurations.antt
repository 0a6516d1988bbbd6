-- Configurations as values: they have the same values exactly where their states are equal and their contents are alike.
use Rattle.std.proofs.Common.{◌≡◌, ℕ, zero, suc, ◌+◌, Bool, true, false, List, [], ◌∷◌, Option, Some, None, map, refl, sym, subst, ◌∙◌}
use Rattle.std.specs.Prelude.{codes, slice_index_or, nat_eq, if◌then◌else◌}
use Rattle.std.specs.Bool.{IsTrue}
use Rattle.std.specs.List.{AllZip, list_any}
use Rattle.std.proofs.lemmas.List.Elements.{All-weaker}
use Rattle.lois_base.specs.Atom.{Atom, equal}
use Rattle.lois_base.specs.Data.{TermD, var, tag, tup, coll, terms_of}
use Rattle.lois_base.specs.Truth.{atom_at}
use Rattle.lois_base.specs.Values.{PointValue, point, IsSame}
use Rattle.lois_base.specs.declared.guards.Lit.{Lit}
use Rattle.lois_base.proofs.Members.{same_refl}
use Rattle.lois_base.proofs.Order.{equal_refl, equal_sym}
use Rattle.lois_base.proofs.Truths.{op_respects}
use Rattle.lois_meaning.specs.Kinds.{IsAtomAt, IsTagTerm, IsTagValue, HasParts, AreSame, part_values}
use Rattle.lois_meaning.proofs.Alike.{is_atom_same, is_tag_same, atoms_same, tags_same, atom_equal, parts_same, parts_both, tuples_same, atom_one, tag_one}
use Rattle.lois_registers.specs.Placed.{content_term, configuration_term}
use Rattle.lois_registers.specs.declared.automata.RegStep.{RegStep}
use Rattle.lois_registers.specs.Runs.{Configuration, LiteralHolds, stored_from, IsStep}
use Rattle.lois_registers.specs.Translation.{IsContent, IsValueOf}
use Rattle.lois_registers.proofs.Contents.{at_level, filled}

abbrev pub configured : List ℕ → List (Option Atom) → Configuration
configured state os = record { state = state; contents = os }

-- a configuration at a placement, as it is written
content_is : (o : Option ℕ) (e : List Atom) → IsContent (point (content_term o) e) (at_level e o)
content_is None e = refl
content_is (Some i) e = equal_refl (atom_at e i)

contents_are : (os : List (Option ℕ)) (e : List Atom) → AllZip IsContent (part_values (terms_of (map content_term os)) e) (filled e os)
contents_are [] e = tt
contents_are (o ∷ os) e = (content_is o e, contents_are os e)

pub value_is : (state : List ℕ) (os : List (Option ℕ)) (e : List Atom) → IsValueOf (point (configuration_term state os) e) (configured state (filled e os))
value_is state os e = (point (tag state) e, part_values (terms_of (map content_term os)) e, refl, refl, contents_are os e)

-- contents that are alike
abbrev pub IsLike : Option Atom → Option Atom → Type 0
IsLike None None = Unit {0}
IsLike (Some a) (Some b) = IsTrue (equal a b)
IsLike _ _ = ⊥

abbrev pub AreLike : List (Option Atom) → List (Option Atom) → Type 0
AreLike = AllZip IsLike

pub record IsAlike (p q : Configuration) : Type 0 where
  pub state : p.state ≡ q.state
  pub contents : AreLike p.contents q.contents

like_refl : (o : Option Atom) → IsLike o o
like_refl None = tt
like_refl (Some a) = equal_refl a

pub are_like_refl : (os : List (Option Atom)) → AreLike os os
are_like_refl [] = tt
are_like_refl (o ∷ os) = (like_refl o, are_like_refl os)

-- contents as values
content_move : (v w : PointValue) (o : Option Atom) → IsSame v w → IsContent v o → IsContent w o
content_move v w None s h = is_tag_same v w (codes "none") s h
content_move v w (Some a) s h = is_atom_same v w a s h

content_same : (v w : PointValue) (o u : Option Atom) → IsLike o u → IsContent v o → IsContent w u → IsSame v w
content_same v w None None l h k = tags_same v w (codes "none") h k
content_same v w (Some a) (Some b) l h k = atoms_same v w a h (atom_equal w a b l k)
content_same v w None (Some b) l h k = absurd l
content_same v w (Some a) None l h k = absurd l

no_kind : (t : TermD) (c : List Atom) (name : List ℕ) (a : Atom) → IsTagTerm t name → IsAtomAt t c a → ⊥
no_kind (tag n) c name a h k = k
no_kind (var i) c name a h k = h
no_kind (tup ts) c name a h k = h
no_kind (coll ks) c name a h k = h

content_like : (v : PointValue) (o u : Option Atom) → IsContent v o → IsContent v u → IsLike o u
content_like v None None h k = tt
content_like v (Some a) (Some b) h k = atom_one v.term_of v.choice a b h k
content_like v None (Some b) h k = no_kind v.term_of v.choice (codes "none") b h k
content_like v (Some a) None h k = no_kind v.term_of v.choice (codes "none") a k h

contents_move : (vs ws : List PointValue) (os : List (Option Atom)) → AreSame vs ws → AllZip IsContent vs os → AllZip IsContent ws os
contents_move [] [] [] s h = tt
contents_move (v ∷ vs) (w ∷ ws) (o ∷ os) s h = (content_move v w o s.0 h.0, contents_move vs ws os s.1 h.1)
contents_move [] (w ∷ ws) os s h = absurd s
contents_move (v ∷ vs) [] os s h = absurd s
contents_move [] [] (o ∷ os) s h = absurd h
contents_move (v ∷ vs) (w ∷ ws) [] s h = absurd h

contents_same : (vs ws : List PointValue) (os us : List (Option Atom)) → AreLike os us → AllZip IsContent vs os → AllZip IsContent ws us → AreSame vs ws
contents_same [] [] os us l h k = tt
contents_same (v ∷ vs) (w ∷ ws) (o ∷ os) (u ∷ us) l h k = (content_same v w o u l.0 h.0 k.0, contents_same vs ws os us l.1 h.1 k.1)
contents_same (v ∷ vs) ws [] us l h k = absurd h
contents_same vs (w ∷ ws) os [] l h k = absurd k
contents_same [] (w ∷ ws) (o ∷ os) (u ∷ us) l h k = absurd h
contents_same (v ∷ vs) [] (o ∷ os) (u ∷ us) l h k = absurd k
contents_same [] (w ∷ ws) [] (u ∷ us) l h k = absurd l
contents_same (v ∷ vs) [] (o ∷ os) [] l h k = absurd l

contents_like : (vs : List PointValue) (os us : List (Option Atom)) → AllZip IsContent vs os → AllZip IsContent vs us → AreLike os us
contents_like [] [] [] h k = tt
contents_like (v ∷ vs) (o ∷ os) (u ∷ us) h k = (content_like v o u h.0 k.0, contents_like vs os us h.1 k.1)
contents_like [] (o ∷ os) us h k = absurd h
contents_like [] [] (u ∷ us) h k = absurd k
contents_like (v ∷ vs) [] us h k = absurd h
contents_like (v ∷ vs) (o ∷ os) [] h k = absurd k

-- configurations as values
pub value_move : (v w : PointValue) (p : Configuration) → IsSame v w → IsValueOf v p → IsValueOf w p
value_move v w p s (t, us, h, k, l) =
    let moved : (ws : List PointValue) × HasParts w ws × AreSame (t ∷ us) ws = parts_same v w (t ∷ us) s h in
    go moved.0 moved.1 moved.2
  where
    go : (ws : List PointValue) → HasParts w ws → AreSame (t ∷ us) ws → IsValueOf w p
    go [] h2 s2 = absurd s2
    go (x ∷ xs) h2 s2 = (x, xs, h2, is_tag_same t x p.state s2.0 k, contents_move us xs p.contents s2.1 l)

pub values_same : (v w : PointValue) (p q : Configuration) → IsAlike p q → IsValueOf v p → IsValueOf w q → IsSame v w
values_same v w p q a (t, us, h, k, l) (t', us', h', k', l') =
    tuples_same v w (t ∷ us) (t' ∷ us') h h' (tags_same t t' p.state k (subst (IsTagValue t') (sym a.state) k'), contents_same us us' p.contents q.contents a.contents l l')

pub value_alike : (v : PointValue) (p q : Configuration) → IsValueOf v p → IsValueOf v q → IsAlike p q
value_alike v p q (t, us, h, k, l) (t', us', h', k', l') =
    let both : AreSame (t ∷ us) (t' ∷ us') = parts_both v v (t ∷ us) (t' ∷ us') (same_refl v) h h' in
    let own : IsTagValue t' p.state = is_tag_same t t' p.state both.0 k in
    record {
      state = tag_one t'.term_of p.state q.state own k';
      contents = contents_like us' p.contents q.contents (contents_move us us' p.contents both.1 l) l';
    }

pub value_to : (v : PointValue) (p q : Configuration) → IsAlike p q → IsValueOf v p → IsValueOf v q
value_to v p q a (t, us, h, k, l) = (t, us, h, subst (IsTagValue t) a.state k, contents_to us p.contents q.contents a.contents l)
  where
    content_to : (x : PointValue) (o u : Option Atom) → IsLike o u → IsContent x o → IsContent x u
    content_to x None None l h = h
    content_to x (Some a) (Some b) l h = atom_equal x b a (equal_sym a b l) h
    content_to x None (Some b) l h = absurd l
    content_to x (Some a) None l h = absurd l

    contents_to : (xs : List PointValue) (os us : List (Option Atom)) → AreLike os us → AllZip IsContent xs os → AllZip IsContent xs us
    contents_to [] [] [] l h = tt
    contents_to (x ∷ xs) (o ∷ os) (u ∷ us) l h = (content_to x o u l.0 h.0, contents_to xs os us l.1 h.1)
    contents_to [] (o ∷ os) us l h = absurd h
    contents_to (x ∷ xs) [] us l h = absurd h
    contents_to [] [] (u ∷ us) l h = absurd l
    contents_to (x ∷ xs) (o ∷ os) [] l h = absurd l

-- steps from what is alike
like_at : (os us : List (Option Atom)) (i : ℕ) → AreLike os us → IsLike (slice_index_or os i None) (slice_index_or us i None)
like_at [] [] i h = tt
like_at (o ∷ os) (u ∷ us) zero h = h.0
like_at (o ∷ os) (u ∷ us) (suc i) h = like_at os us i h.1
like_at [] (u ∷ us) i h = absurd h
like_at (o ∷ os) [] i h = absurd h

like_some : (o u : Option Atom) (a : Atom) → IsLike o u → o ≡ Some a → (b : Atom) × (u ≡ Some b) × IsTrue (equal a b)
like_some (Some c) (Some b) a h e = let i : c ≡ a = cc in (b, refl, subst (λ z. IsTrue (equal z b)) i h)
like_some None u a h e = absurd (cc)
like_some (Some c) None a h e = absurd h

literal_like : (os us : List (Option Atom)) (l : Lit) → AreLike os us → LiteralHolds os l → LiteralHolds us l
literal_like os us l h (a, b, i, j, t) =
    let x : (c : Atom) × (slice_index_or us l.left None ≡ Some c) × IsTrue (equal a c) = like_some (slice_index_or os l.left None) (slice_index_or us l.left None) a (like_at os us l.left h) i in
    let y : (c : Atom) × (slice_index_or us l.right None ≡ Some c) × IsTrue (equal b c) = like_some (slice_index_or os l.right None) (slice_index_or us l.right None) b (like_at os us l.right h) j in
    (x.0, y.0, x.1, y.1, subst IsTrue (op_respects l.op a x.0 b y.0 x.2 y.2) t)

stored_like : (i : ℕ) (stores : List ℕ) (x y : Atom) (os us : List (Option Atom)) → IsTrue (equal x y) → AreLike os us → AreLike (stored_from i stores x os) (stored_from i stores y us)
stored_like i stores x y [] [] e h = tt
stored_like i stores x y (o ∷ os) (u ∷ us) e h = (go (list_any (nat_eq i) stores), stored_like (i + 1) stores x y os us e h.1)
  where
    go : (b : Bool) → IsLike (if b then Some x else o) (if b then Some y else u)
    go true = e
    go false = h.0
stored_like i stores x y [] (u ∷ us) e h = absurd h
stored_like i stores x y (o ∷ os) [] e h = absurd h

pub step_like : (s : RegStep) (p p' q : Configuration) (x y : Atom) → IsAlike p p' → IsTrue (equal x y) → IsStep s p x q → (q' : Configuration) × IsStep s p' y q' × IsAlike q q'
step_like s p p' q x y a e h =
    let operands : AreLike (Some x ∷ p.contents) (Some y ∷ p'.contents) = (e, a.contents) in (
      configured s.to (stored_from 1 s.stored y p'.contents),
      record {
        from = sym a.state ∙ h.from;
        guard = All-weaker (LiteralHolds (Some x ∷ p.contents)) (LiteralHolds (Some y ∷ p'.contents)) (λ l k. literal_like (Some x ∷ p.contents) (Some y ∷ p'.contents) l operands k) s.guard h.guard;
        to = refl;
        contents = refl;
      },
      record {
        state = h.to;
        contents = subst (λ z. AreLike z (stored_from 1 s.stored y p'.contents)) (sym h.contents) (stored_like 1 s.stored x y p.contents p'.contents e a.contents);
      },
    )
