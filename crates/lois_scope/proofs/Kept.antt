-- Laws of keeping the least break.
use Rattle.std.proofs.Common.{◌≡◌, ℕ, ◌⊎◌, inl, inr, Option, Some, None, refl, sym, subst, arith}
use Rattle.lois_script.specs.Scope.{RuleD}
use Rattle.lois_scope.specs.Breaks.{BreakD, IsNoLater, KeptBefore, KeepsLeast}

abbrev pub Broken : Type 1
Broken = RuleD → ℕ → Type 0

pub no_later_self : (a : BreakD) → IsNoLater a a
no_later_self a = record { place = omega arith; rule = λ e. omega arith }

pub no_later_trans : (a b c : BreakD) → IsNoLater a b → IsNoLater b c → IsNoLater a c
no_later_trans a b c h g =
    record { place = omega (arith, h.place, g.place); rule = λ e. let l : a.at ≡ b.at = omega (arith, h.place, g.place) in let r : b.at ≡ c.at = omega (arith, h.place, g.place) in omega (arith, h.rule l, g.rule r) }

pub kept_self : (o : Option BreakD) (b : BreakD) → o ≡ Some b → KeptBefore o b
kept_self o b e = subst (λ k. KeptBefore k b) (sym e) (no_later_self b)

-- what is kept still is, or something no later
pub kept_on : (mid new : Option BreakD) (b : BreakD) → ((a : BreakD) → mid ≡ Some a → KeptBefore new a) → KeptBefore mid b → KeptBefore new b
kept_on None new b on h = absurd h
kept_on (Some a) None b on h = absurd (on a refl)
kept_on (Some a) (Some d) b on h = no_later_trans d a b (on a refl) h

pub keeps_nothing : (P : Broken) (o : Option BreakD) → ((rule : RuleD) (at : ℕ) → P rule at → ⊥) → KeepsLeast P o o
keeps_nothing P o none = record { from = λ b e. inl e; kept = λ b e. kept_self o b e; least = λ rule at p. absurd (none rule at p) }

pub keeps_both : (P Q : Broken) (a b c : Option BreakD) → KeepsLeast P a b → KeepsLeast Q b c → KeepsLeast (λ rule at. P rule at ⊎ Q rule at) a c
keeps_both P Q a b c h g = record {
  from = λ d e. elim (g.from d e) as (λ x. (a ≡ Some d) ⊎ (P d.rule d.at ⊎ Q d.rule d.at)) [
    | inl k ↦ elim (h.from d k) as (λ x. (a ≡ Some d) ⊎ (P d.rule d.at ⊎ Q d.rule d.at)) [ inl o ↦ inl o | inr p ↦ inr (inl p) ]
    | inr q ↦ inr (inr q)
  ];
  kept = λ d e. kept_on b c d g.kept (h.kept d e);
  least = λ rule at p. elim p as (λ x. KeptBefore c (record { rule = rule; at = at })) [
    | inl y ↦ kept_on b c (record { rule = rule; at = at }) g.kept (h.least rule at y)
    | inr q ↦ g.least rule at q
  ];
}

pub keeps_as : (P Q : Broken) (a b : Option BreakD) → ((rule : RuleD) (at : ℕ) → P rule at → Q rule at) → ((rule : RuleD) (at : ℕ) → Q rule at → P rule at) → KeepsLeast P a b → KeepsLeast Q a b
keeps_as P Q a b to back h = record {
  from = λ d e. elim (h.from d e) as (λ x. (a ≡ Some d) ⊎ Q d.rule d.at) [ inl o ↦ inl o | inr p ↦ inr (to d.rule d.at p) ];
  kept = h.kept;
  least = λ rule at q. h.least rule at (back rule at q);
}
