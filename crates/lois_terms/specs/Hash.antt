-- Hashes of terms as they are written: one number of 64 bits, folded from all that stands in them. A hash is a function of the term,
-- and no more is asked of it: terms whose hashes differ differ.
use Rattle.std.specs.Prelude.{ℕ, ◌+◌, ◌*◌, ◌^◌, ◌%◌, List, bit_xor}
use Rattle.std.specs.List.{fold}
use Rattle.lois_base.specs.Data.{TermD, var, tag, tup, coll, TermsD, no_terms, term, CompD, comp, CompsD, no_comps, more}
use Rattle.lois_base.specs.declared.guards.Lit.{Lit}
use Rattle.lois_base.specs.declared.guards.Op.{Op}
use Rattle.lois_base.specs.declared.guards.Op.TheVariants.{Eq, Ne, Lt, AtMost}

-- a hash with one number more, as products and sums of 64 bits wrap
unfoldable pub mixed : ℕ → ℕ → ℕ
mixed h x = (h * 0x9E3779B97F4A7C15 % 2 ^ 64 + x) % 2 ^ 64

abbrev pub op_number : Op → ℕ
op_number Eq = 0
op_number Ne = 1
op_number Lt = 2
op_number AtMost = 3

abbrev pub lit_hash : ℕ → Lit → ℕ
lit_hash h l = mixed (mixed (mixed h (op_number l.op)) l.left) l.right

abbrev pub cube_hash : ℕ → List Lit → ℕ
cube_hash h = fold lit_hash (mixed h 5)

abbrev pub guard_hash : ℕ → List (List Lit) → ℕ
guard_hash h = fold cube_hash (mixed h 4)

abbrev pub name_hash : ℕ → List ℕ → ℕ
name_hash h = fold mixed (mixed h 1)

abbrev mutual
  pub term_hash : ℕ → TermD → ℕ
  term_hash h (var i) = mixed h i
  term_hash h (tag t) = name_hash h t
  term_hash h (tup ts) = mixed (parts_hash (mixed h 2) ts) 6
  term_hash h (coll ks) = mixed (items_hash (mixed h 3) ks) 7

  pub parts_hash : ℕ → TermsD → ℕ
  parts_hash h no_terms = h
  parts_hash h (term t ts) = parts_hash (term_hash h t) ts

  pub comp_hash : ℕ → CompD → ℕ
  comp_hash h (comp m g t) = term_hash (guard_hash (mixed h m) g) t

  pub items_hash : ℕ → CompsD → ℕ
  items_hash h no_comps = h
  items_hash h (more k ks) = items_hash (comp_hash h k) ks

-- the hash by which comprehensions that are written alike are found
abbrev pub written_hash : CompD → ℕ
written_hash = comp_hash 0

-- a state of 64 bits after further bytes, by a round of FNV-1a for each
abbrev pub byte_round : ℕ → ℕ → ℕ
byte_round s b = (bit_xor s b * 0x100000001B3) % 2 ^ 64

abbrev pub after_bytes : ℕ → List ℕ → ℕ
after_bytes = fold byte_round
