-- The codes by which contracts tell terms apart.
use Rattle.std.specs.Prelude.{◌≡◌, ℕ, zero, suc, List, [], refl}
use Rattle.std.proofs.Common.{ap}
use Rattle.std.specs.Coded.{Coded, code_by, coded_ℕ, coded_list, coded×}
use Rattle.lois_base.specs.declared.guards.Lit.{Lit}
use Rattle.lois_base.specs.declared.guards.Op.{Op}
use Rattle.lois_base.specs.declared.guards.Op.TheVariants.{Eq, Ne, Lt, AtMost}
use Rattle.lois_base.specs.Data.{TermD, var, tag, tup, coll, TermsD, no_terms, term, CompD, comp, CompsD, no_comps, more}
use Rattle.lois_base.specs.Pairs.{Pairs, leaf, pair, pairs_code}

abbrev op_number : Op → ℕ
op_number Eq = 0
op_number Ne = 1
op_number Lt = 2
op_number AtMost = 3

abbrev op_at : ℕ → Op
op_at zero = Eq
op_at (suc zero) = Ne
op_at (suc (suc zero)) = Lt
op_at (suc (suc (suc n))) = AtMost

pub op_at-number : (o : Op) → op_at (op_number o) ≡ o
op_at-number Eq = refl
op_at-number Ne = refl
op_at-number Lt = refl
op_at-number AtMost = refl

abbrev pub op_code : Coded Op
op_code = code_by ℕ coded_ℕ op_number op_at op_at-number

abbrev pub lit_code : Coded Lit
lit_code =
    code_by (Op × (ℕ × ℕ)) (coded× op_code (coded× coded_ℕ coded_ℕ)) (λ l. (l.op, (l.left, l.right))) (λ p. record { op = p.0; left = p.1.0; right = p.1.1 }) (λ _. refl)

-- what a leaf holds: a number, a name, a guard
abbrev Leaf : Type 0
Leaf = ℕ × (List ℕ × List (List Lit))

abbrev leaf_code : Coded Leaf
leaf_code = coded× coded_ℕ (coded× (coded_list coded_ℕ) (coded_list (coded_list lit_code)))

abbrev none : Pairs Leaf
none = leaf (0, ([], []))

abbrev of_leaf : ℕ → List ℕ → TermD
of_leaf zero t = tag t
of_leaf (suc i) t = var i

abbrev mutual
  to_pairs : TermD → Pairs Leaf
  to_pairs (var i) = leaf (suc i, ([], []))
  to_pairs (tag t) = leaf (0, (t, []))
  to_pairs (tup ts) = pair none (parts_to_pairs ts)
  to_pairs (coll cs) = pair (pair none none) (items_to_pairs cs)

  parts_to_pairs : TermsD → Pairs Leaf
  parts_to_pairs no_terms = none
  parts_to_pairs (term t ts) = pair (to_pairs t) (parts_to_pairs ts)

  comp_to_pairs : CompD → Pairs Leaf
  comp_to_pairs (comp m g t) = pair (leaf (m, ([], g))) (to_pairs t)

  items_to_pairs : CompsD → Pairs Leaf
  items_to_pairs no_comps = none
  items_to_pairs (more c cs) = pair (comp_to_pairs c) (items_to_pairs cs)

abbrev mutual
  of_pairs : Pairs Leaf → TermD
  of_pairs (leaf a) = of_leaf a.0 a.1.0
  of_pairs (pair (leaf a) z) = tup (parts_of_pairs z)
  of_pairs (pair (pair x y) z) = coll (items_of_pairs z)

  parts_of_pairs : Pairs Leaf → TermsD
  parts_of_pairs (leaf a) = no_terms
  parts_of_pairs (pair t ts) = term (of_pairs t) (parts_of_pairs ts)

  comp_of_pairs : Pairs Leaf → CompD
  comp_of_pairs (leaf a) = comp 0 [] (var 0)
  comp_of_pairs (pair (pair x y) z) = comp 0 [] (var 0)
  comp_of_pairs (pair (leaf a) z) = comp a.0 a.1.1 (of_pairs z)

  items_of_pairs : Pairs Leaf → CompsD
  items_of_pairs (leaf a) = no_comps
  items_of_pairs (pair c cs) = more (comp_of_pairs c) (items_of_pairs cs)

mutual
  pub of_pairs-to : (t : TermD) → of_pairs (to_pairs t) ≡ t
  of_pairs-to (var i) = refl
  of_pairs-to (tag t) = refl
  of_pairs-to (tup ts) = ap tup (parts_of_pairs-to ts)
  of_pairs-to (coll cs) = ap coll (items_of_pairs-to cs)

  pub parts_of_pairs-to : (ts : TermsD) → parts_of_pairs (parts_to_pairs ts) ≡ ts
  parts_of_pairs-to no_terms = refl
  parts_of_pairs-to (term t ts) = rw (of_pairs-to t, parts_of_pairs-to ts)

  pub comp_of_pairs-to : (c : CompD) → comp_of_pairs (comp_to_pairs c) ≡ c
  comp_of_pairs-to (comp m g t) = ap (comp m g) (of_pairs-to t)

  pub items_of_pairs-to : (cs : CompsD) → items_of_pairs (items_to_pairs cs) ≡ cs
  items_of_pairs-to no_comps = refl
  items_of_pairs-to (more c cs) = rw (comp_of_pairs-to c, items_of_pairs-to cs)

abbrev pub term_code : Coded TermD
term_code = code_by (Pairs Leaf) (pairs_code (0, ([], [])) leaf_code) to_pairs of_pairs of_pairs-to

abbrev pub comp_code : Coded CompD
comp_code =
    code_by (Pairs Leaf) (pairs_code (0, ([], [])) leaf_code) comp_to_pairs comp_of_pairs comp_of_pairs-to

abbrev pub terms_code : Coded (List TermD)
terms_code = coded_list term_code

abbrev pub comps_code : Coded (List CompD)
comps_code = coded_list comp_code
