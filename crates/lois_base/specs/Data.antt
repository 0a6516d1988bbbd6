-- Terms as contracts see them.
use Rattle.std.specs.Prelude.{ℕ, List, [], ◌∷◌, suc, max}
use Rattle.lois_base.specs.declared.guards.Lit.{Lit}

mutual
  pub data TermD : Type 0 where
    var : ℕ → TermD
    tag : List ℕ → TermD
    tup : TermsD → TermD
    coll : CompsD → TermD

  pub data TermsD : Type 0 where
    no_terms : TermsD
    term : TermD → TermsD → TermsD

  -- a comprehension: its binders, its guard and its item
  pub data CompD : Type 0 where
    comp : ℕ → List (List Lit) → TermD → CompD

  pub data CompsD : Type 0 where
    no_comps : CompsD
    more : CompD → CompsD → CompsD

abbrev pub terms_of : List TermD → TermsD
terms_of [] = no_terms
terms_of (t ∷ ts) = term t (terms_of ts)

abbrev pub comps_of : List CompD → CompsD
comps_of [] = no_comps
comps_of (c ∷ cs) = more c (comps_of cs)

-- how deeply terms are nested
abbrev mutual
  pub depth : TermD → ℕ
  depth (var i) = 0
  depth (tag t) = 0
  depth (tup ts) = suc (depth_of_parts ts)
  depth (coll cs) = suc (depth_of_items cs)

  pub depth_of_parts : TermsD → ℕ
  depth_of_parts no_terms = 0
  depth_of_parts (term t ts) = max (depth t) (depth_of_parts ts)

  pub depth_of_comp : CompD → ℕ
  depth_of_comp (comp m g t) = depth t

  pub depth_of_items : CompsD → ℕ
  depth_of_items no_comps = 0
  depth_of_items (more c cs) = max (depth_of_comp c) (depth_of_items cs)
