-- Steps that are total: some step leads from each state by each letter.
use Rattle.std.proofs.Common.{◌≡◌, ℕ, inl, inr, List, length}
use Rattle.lois_base.specs.Atom.{Atom}
use Rattle.lois_base.specs.Data.{TermD}
use Rattle.lois_base.specs.Values.{PointValue, point, IsIn, IsSame}
use Rattle.lois_base.proofs.Members.{same_refl, in_same}
use Rattle.lois_algebra.specs.Sets.{IsUnion}
use Rattle.lois_meaning.specs.Automata.{IsPair, IsTriple}
use Rattle.lois_meaning.proofs.Automata.{triple_same}
use Rattle.lois_meaning.proofs.Operations.{pair_exists, pair_both}
use Rattle.lois_automata.specs.Built.{ArePairs}
use Rattle.lois_automata.specs.Projections.{HasStepIn, AreProjected}
use Rattle.lois_automata.specs.declared.projections.Projection.TheVariants.{Outgoing}
use Rattle.lois_equal.specs.Completed.{AreTotal, LeadToSink, IsSinkStep}

pub step_to : (steps p l q p' l' q' : PointValue) → IsSame p p' → IsSame l l' → IsSame q q' → HasStepIn steps p l q → HasStepIn steps p' l' q'
step_to steps p l q p' l' q' s t u (x, i, triple) = (x, i, triple_same x p l q p' l' q' s t u triple)

module _ (n : ℕ) (states letters steps sink wanted there others r : TermD) (c : List Atom) (k : length c ≡ n) (pairs : ArePairs n states letters wanted) (shaped : AreProjected n Outgoing steps there)
    (led : LeadToSink (point wanted c) (point there c) (point sink c) (point others c)) (all : IsUnion steps others r) where
  -- a pair of a state and a letter is one of those of steps where some step leads from the state by the letter
  has_step : (x p l : PointValue) → IsPair x p l → IsIn x (point there c) → (q : PointValue) × HasStepIn (point steps c) p l q
  has_step x p l pair i = go ((shaped c k x).0 i)
    where
      go : ((p' l' q : PointValue) × HasStepIn (point steps c) p' l' q × IsPair x p' l') → (q : PointValue) × HasStepIn (point steps c) p l q
      go (p', l', q, step, pair') =
          let parts = pair_both x x p' l' p l (same_refl x) pair' pair in
          (q, step_to (point steps c) p' l' q p l q parts.0 parts.1 (same_refl q) step)

  there_if : (x p l q : PointValue) → IsPair x p l → HasStepIn (point steps c) p l q → IsIn x (point there c)
  there_if x p l q pair step = (shaped c k x).1 (p, l, q, step, pair)

  way_out : (w x p l : PointValue) → IsIn x (point wanted c) → (IsIn x (point there c) → ⊥) → IsPair x p l → IsTriple w p l (point sink c) → IsSinkStep (point states c) (point letters c) (point steps c) (point sink c) w
  way_out w x p l i never pair triple = go ((pairs c k x).0 i)
    where
      go : ((p' l' : PointValue) × IsIn p' (point states c) × IsIn l' (point letters c) × IsPair x p' l') → IsSinkStep (point states c) (point letters c) (point steps c) (point sink c) w
      go (p', l', ip, il, pair') =
          let parts = pair_both x x p' l' p l (same_refl x) pair' pair in
          (p, l, in_same p' p (point states c) parts.0 ip, in_same l' l (point letters c) parts.1 il, λ q step. never (there_if x p l q pair step), triple)

  pub are_total : AreTotal (point states c) (point letters c) (point steps c) (point sink c) (point r c)
  are_total = record {
    members = λ w. (
      λ i. elim ((all c w).0 i) [
        | inl j ↦ inl j
        | inr j ↦ inr (out w ((led.members w).0 j))
      ],
      λ h. (all c w).1 (elim h [
        | inl j ↦ inl j
        | inr j ↦ inr (back w j)
      ]),
    );
    each = λ p l i j. some p l i j (pair_exists p l);
  }
    where
      out : (w : PointValue) → ((x p l : PointValue) × IsIn x (point wanted c) × (IsIn x (point there c) → ⊥) × IsPair x p l × IsTriple w p l (point sink c)) → IsSinkStep (point states c) (point letters c) (point steps c) (point sink c) w
      out w (x, p, l, i, never, pair, triple) = way_out w x p l i never pair triple

      back : (w : PointValue) → IsSinkStep (point states c) (point letters c) (point steps c) (point sink c) w → IsIn w (point others c)
      back w (p, l, i, j, never, triple) =
          let x : (x : PointValue) × IsPair x p l = pair_exists p l in
          (led.members w).1 (x.0, p, l, (pairs c k x.0).1 (p, l, i, j, x.1), λ h. let step = has_step x.0 p l x.1 h in never step.0 step.1, x.1, triple)

      some : (p l : PointValue) → IsIn p (point states c) → IsIn l (point letters c) → ((x : PointValue) × IsPair x p l) → (q : PointValue) × HasStepIn (point r c) p l q
      some p l i j (x, pair) = elim (led.each x p l ((pairs c k x).1 (p, l, i, j, pair)) pair) [
        | inl h ↦ kept (has_step x p l pair h)
        | inr h ↦ (point sink c, (h.0, (all c h.0).1 (inr h.1), h.2))
      ]
        where
          kept : (q : PointValue) × HasStepIn (point steps c) p l q → (q : PointValue) × HasStepIn (point r c) p l q
          kept (q, (y, h, triple)) = (q, (y, (all c y).1 (inl h), triple))
