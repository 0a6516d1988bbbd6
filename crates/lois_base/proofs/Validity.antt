-- Which levels and operators come from where.
use Rattle.std.proofs.Common.{◌≡◌, ℕ, ◌+◌, ◌<◌, true, List, ◌++◌, refl, subst, inl, inr, arith}
use Rattle.std.proofs.lemmas.List.Elements.{All-contains, Contains-get_or, Contains-append_left, Contains-append_right}
use Rattle.std.specs.List.{All, Contains}
use Rattle.lois_base.specs.Data.{TermD, var, tag, tup, coll, TermsD, no_terms, term, comp, CompsD, no_comps, more}
use Rattle.lois_base.specs.Fits.{ConstraintFits}
use Rattle.lois_base.specs.FormulaData.{FormulaD, lit, all, any, neg, exists, forall, FormulasD, no_formulas, formula}
use Rattle.lois_base.specs.Normal.{LitUses, GuardUses}
use Rattle.lois_base.specs.Validity.{is_admitted, AdmitsLit, AdmitsCube, AdmitsConstraint, AdmitsTerm, AdmitsParts, AdmitsItems}
use Rattle.lois_base.specs.FormulaOperators.{AdmitsFormula, AdmitsFormulas}
use Rattle.lois_base.specs.UsedLevels.{UsesOnly}
use Rattle.lois_base.specs.declared.guards.Lit.{Lit}
use Rattle.lois_base.specs.declared.guards.Op.{Op}
use Rattle.lois_base.specs.declared.guards.Op.TheVariants.{Eq, Ne, Lt, AtMost}

module _ {X : Type 0} (P : X → Type 0) where
  pub all_that_are : (xs : List X) → ((x : X) → Contains xs x → P x) → All P xs
  all_that_are xs each = λ k d lt. each _ (Contains-get_or xs k d lt)

-- a literal of a cube of g uses a level
pub uses_at : (i : ℕ) (g : List (List Lit)) (q : List Lit) (l : Lit) → Contains g q → Contains q l → LitUses i l → GuardUses i g
uses_at i g q l cube literal u = (cube.0, q, cube.1, cube.2, (literal.0, l, literal.1, literal.2, u))

-- what holds of both levels of each literal holds of each level that is used
at_used : (P : ℕ → Type 0) (i : ℕ) (g : List (List Lit)) → All (All (λ l. P l.left × P l.right)) g → GuardUses i g → P i
at_used P i g each u =
    let cube = All-contains (All (λ l. P l.left × P l.right)) g u.1 each (u.0, u.2, u.3) in
    let both : P u.4.1.left × P u.4.1.right =
    All-contains (λ l. P l.left × P l.right) u.1 u.4.1 cube (u.4.0, u.4.2, u.4.3) in
    elim u.4.4 [ inl e ↦ subst P e both.0 | inr e ↦ subst P e both.1 ]

-- what holds of each level that is used holds of both levels of each literal
pub used_at : (P : ℕ → Type 0) (g : List (List Lit)) → ((i : ℕ) → GuardUses i g → P i) → All (All (λ l. P l.left × P l.right)) g
used_at P g each =
    all_that_are (All (λ l. P l.left × P l.right)) g (λ q cube. all_that_are (λ l. P l.left × P l.right) q (λ l literal. (each l.left (uses_at l.left g q l cube literal (inl refl)), each l.right (uses_at l.right g q l cube literal (inr refl)))))

-- a constraint uses only what h uses exactly where h uses each level that it uses
pub uses_only : (h g : List (List Lit)) → ((i : ℕ) → GuardUses i g → GuardUses i h) → UsesOnly h g
uses_only h g within = used_at (λ i. GuardUses i h) g within

pub uses_only-is : (h g : List (List Lit)) → UsesOnly h g → (i : ℕ) → GuardUses i g → GuardUses i h
uses_only-is h g only i u = at_used (λ j. GuardUses j h) i g only u

pub uses_only-refl : (g : List (List Lit)) → UsesOnly g g
uses_only-refl g = uses_only g g (λ i u. u)

pub uses-append_left : (i : ℕ) (g h : List (List Lit)) → GuardUses i g → GuardUses i (g ++ h)
uses-append_left i g h u =
    let c = Contains-append_left g h u.1 (u.0, u.2, u.3) in (c.0, u.1, c.1, c.2, u.4)

pub uses-append_right : (i : ℕ) (g h : List (List Lit)) → GuardUses i h → GuardUses i (g ++ h)
uses-append_right i g h u =
    let c = Contains-append_right g h u.1 (u.0, u.2, u.3) in (c.0, u.1, c.1, c.2, u.4)

-- what uses only the levels of one uses only those of both
pub uses_only-append_left : (g h r : List (List Lit)) → UsesOnly g r → UsesOnly (g ++ h) r
uses_only-append_left g h r only =
    uses_only (g ++ h) r (λ i u. uses-append_left i g h (uses_only-is g r only i u))

pub uses_only-append_right : (g h r : List (List Lit)) → UsesOnly h r → UsesOnly (g ++ h) r
uses_only-append_right g h r only =
    uses_only (g ++ h) r (λ i u. uses-append_right i g h (uses_only-is h r only i u))

-- a level that is used is below the bound of all levels
pub level_fits : (n : ℕ) (g : List (List Lit)) → ConstraintFits n g → (i : ℕ) → GuardUses i g → i < n
level_fits n g fits i u = at_used (λ j. j < n) i g fits u

-- what fits, fits where there are more levels
pub fits_longer : (n m : ℕ) (g : List (List Lit)) → ConstraintFits n g → ConstraintFits (n + m) g
fits_longer n m g fits = used_at (λ j. j < n + m) g (λ i u. omega (arith, level_fits n g fits i u))

-- with an order each operator is admitted
ordered_admits : (o : Op) → is_admitted true o ≡ true
ordered_admits Eq = refl
ordered_admits Ne = refl
ordered_admits Lt = refl
ordered_admits AtMost = refl

pub cube_admitted : (q : List Lit) → AdmitsCube true q
cube_admitted q = all_that_are (AdmitsLit true) q (λ l _. ordered_admits l.op)

pub constraint_admitted : (g : List (List Lit)) → AdmitsConstraint true g
constraint_admitted g = all_that_are (AdmitsCube true) g (λ q _. cube_admitted q)

mutual
  pub formula_admitted : (f : FormulaD) → AdmitsFormula true f
  formula_admitted (lit l) = ordered_admits l.op
  formula_admitted (all fs) = formulas_admitted fs
  formula_admitted (any fs) = formulas_admitted fs
  formula_admitted (neg f) = formula_admitted f
  formula_admitted (exists f) = formula_admitted f
  formula_admitted (forall f) = formula_admitted f

  formulas_admitted : (fs : FormulasD) → AdmitsFormulas true fs
  formulas_admitted no_formulas = tt
  formulas_admitted (formula f fs) = (formula_admitted f, formulas_admitted fs)

mutual
  pub term_admitted : (t : TermD) → AdmitsTerm true t
  term_admitted (var i) = tt
  term_admitted (tag n) = tt
  term_admitted (tup ts) = parts_admitted ts
  term_admitted (coll ks) = items_admitted ks

  parts_admitted : (ts : TermsD) → AdmitsParts true ts
  parts_admitted no_terms = tt
  parts_admitted (term t ts) = (term_admitted t, parts_admitted ts)

  pub items_admitted : (ks : CompsD) → AdmitsItems true ks
  items_admitted no_comps = tt
  items_admitted (more (comp m g t) ks) = ((constraint_admitted g, term_admitted t), items_admitted ks)
