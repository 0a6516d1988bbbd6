-- Truth and sameness of values depend on nothing but how the atoms of the choices stand to one another.
use Rattle.std.proofs.Common.{◌≡◌, ℕ, suc, ◌+◌, ◌<◌, inl, inr, Bool, List, [], ◌∷◌, ◌++◌, map, length, length-append, get_or, refl, sym, ap, ◌∙◌, subst, arith}
use Rattle.std.proofs.lemmas.List.{get_or-map, length-map, map-append, get_or_append_left, get_or-append-add}
use Rattle.std.specs.Bool.{IsTrue}
use Rattle.lois_base.specs.Atom.{Atom, whole}
use Rattle.lois_base.specs.Data.{TermD, var, tag, tup, coll, TermsD, no_terms, term, CompD, comp, CompsD, no_comps, more}
use Rattle.lois_base.specs.Fits.{LitFits, ConstraintFits, Fits, PartsFit, CompFits, ItemsFit}
use Rattle.lois_base.specs.FormulaData.{FormulaD, lit, all, any, neg, exists, forall, FormulasD, no_formulas, formula, FormulaFits, FormulasFit}
use Rattle.lois_base.specs.FormulaTruth.{FormulaHolds, AllHold, AnyHolds}
use Rattle.lois_base.specs.Patterns.{AreAlike}
use Rattle.lois_base.specs.AtomMaps.{IsEmbedding}
use Rattle.lois_base.specs.Truth.{atom_at, holds}
use Rattle.lois_base.specs.Validity.{AdmitsLit, AdmitsConstraint, AdmitsTerm, AdmitsParts, AdmitsComp, AdmitsItems}
use Rattle.lois_base.specs.FormulaOperators.{AdmitsFormula, AdmitsFormulas}
use Rattle.lois_base.specs.Values.{point, IsSame, IsExtension, MemberAt, SameAt, SamePartsAt, AllInAt, EachInAt, InAt, SomeIsAt, OneIsAt}
use Rattle.lois_base.specs.declared.guards.Lit.{Lit}
use Rattle.lois_base.specs.declared.guards.Op.TheVariants.{Eq}
use Rattle.lois_base.proofs.Truths.{LitAgrees, holds_agree}
use Rattle.lois_base.proofs.Twins.{Twins, twins, Has, Within, IsPattern, add, swapped, pattern_swap, within_back, IsCarried, carried_more, carried_swap, carried_longer, carried_push, extend, zipped, has_zipped, pattern_zipped}

module _ (ordered : Bool) (ps : List Twins) (pattern : IsPattern ordered ps) where
  lit_carried : (n : ℕ) (c d : List Atom) → IsCarried ps n c d → (l : Lit) → LitFits n l → AdmitsLit ordered l → LitAgrees c d l
  lit_carried n c d h l fits admits =
      pattern.alike (twins (atom_at c l.left) (atom_at d l.left)) (twins (atom_at c l.right) (atom_at d l.right)) (h.atoms l.left fits.0) (h.atoms l.right fits.1) l.op admits

  holds_carried : (n : ℕ) (c d : List Atom) → IsCarried ps n c d → (g : List (List Lit)) → ConstraintFits n g → AdmitsConstraint ordered g → holds c g ≡ holds d g
  holds_carried n c d h g fits admits =
      holds_agree c d g (λ i k p j l q. lit_carried n c d h (get_or (get_or g i k) j l) (fits i k p j l q) (admits i k p j l q))

  guard_carried : (n m : ℕ) (c d e f : List Atom) (g : List (List Lit)) → IsCarried ps n c d → IsCarried ps m e f → ConstraintFits (n + m) g → AdmitsConstraint ordered g → holds (c ++ e) g ≡ holds (d ++ f) g
  guard_carried n m c d e f g h k fits admits =
      holds_carried (n + m) (c ++ e) (d ++ f) (carried_longer ps n m c d e f h k) g fits admits

-- the member of a set at another choice, with more pairs
pub record Partner (ordered : Bool) (ps : List Twins) (w : TermD) (y : List Atom) (ss : CompsD) (d : List Atom) : Type 0 where
  pub pairs : List Twins
  pub pattern : IsPattern ordered pairs
  pub within : Within ps pairs
  pub size : ℕ
  pub image : List Atom
  pub member : MemberAt w image ss d
  pub carried : IsCarried pairs size y image
  pub fits : Fits size w
  pub admits : AdmitsTerm ordered w

partner_first : (ordered : Bool) (ps : List Twins) (w : TermD) (y : List Atom) (m : ℕ) (g : List (List Lit)) (t : TermD) (ss : CompsD) (n : ℕ) (d d' e : List Atom) → IsPattern ordered ps → IsCarried ps n d d' → CompFits n (comp m g t) → AdmitsComp ordered (comp m g t) → IsExtension d m g e → w ≡ t → y ≡ d ++ e → Partner ordered ps w y (more (comp m g t) ss) d'
partner_first ordered ps w y m g t ss n d d' e pattern h p a x is_t is_y =
    let long = extend ordered ps pattern e in
    let old : IsCarried long.pairs n d d' = carried_more ps long.pairs n d d' long.within h in
    let new : IsCarried long.pairs m e long.image = subst (λ z. IsCarried long.pairs z e long.image) x.count long.carried in
    let truth : holds (d ++ e) g ≡ holds (d' ++ long.image) g = guard_carried ordered long.pairs long.pattern n m d d' e long.image g old new p.1 a.0 in
    record {
      pairs = long.pairs;
      pattern = long.pattern;
      within = long.within;
      size = n + m;
      image = d' ++ long.image;
      member = inl (long.image, record { count = new.right; guard = subst IsTrue truth x.guard }, is_t, refl);
      carried = subst (λ z. IsCarried long.pairs (n + m) z (d' ++ long.image)) (sym is_y) (carried_longer long.pairs n m d d' e long.image old new);
      fits = subst (λ z. Fits (n + m) z) (sym is_t) p.2;
      admits = subst (λ z. AdmitsTerm ordered z) (sym is_t) a.1;
    }

pub partner : (ss : CompsD) (ordered : Bool) (ps : List Twins) → IsPattern ordered ps → (n : ℕ) (d d' : List Atom) → IsCarried ps n d d' → ItemsFit n ss → AdmitsItems ordered ss → (w : TermD) (y : List Atom) → MemberAt w y ss d → Partner ordered ps w y ss d'
partner no_comps ordered ps pattern n d d' h p a w y m = absurd m
partner (more (comp b g t) ss) ordered ps pattern n d d' h p a w y (inl m) =
    partner_first ordered ps w y b g t ss n d d' m.0 pattern h p.0 a.0 m.1 m.2 m.3
partner (more k ss) ordered ps pattern n d d' h p a w y (inr m) =
    let i = partner ss ordered ps pattern n d d' h p.1 a.1 w y m in
    record {
      pairs = i.pairs;
      pattern = i.pattern;
      within = i.within;
      size = i.size;
      image = i.image;
      member = inr i.member;
      carried = i.carried;
      fits = i.fits;
      admits = i.admits;
    }

module _ (ordered : Bool) where
  mutual
    pub same_carried : (t : TermD) (ps : List Twins) → IsPattern ordered ps → (n : ℕ) (c c' : List Atom) → IsCarried ps n c c' → Fits n t → AdmitsTerm ordered t → (s : TermD) (k : ℕ) (d d' : List Atom) → IsCarried ps k d d' → Fits k s → AdmitsTerm ordered s → SameAt t c s d → SameAt t c' s d'
    same_carried (var i) ps pattern n c c' h p a (var j) k d d' h' p' a' s =
        sym (pattern.alike (twins (atom_at c i) (atom_at c' i)) (twins (atom_at d j) (atom_at d' j)) (h.atoms i p) (h'.atoms j p') Eq refl) ∙ s
    same_carried (tag name) ps pattern n c c' h p a (tag other) k d d' h' p' a' s = s
    same_carried (tup ts) ps pattern n c c' h p a (tup ss) k d d' h' p' a' s = parts_carried ts ps pattern n c c' h p a ss k d d' h' p' a' s
    same_carried (coll cs) ps pattern n c c' h p a (coll ss) k d d' h' p' a' s = (
      all_carried cs ps pattern n c c' h p a ss k d d' h' p' a' s.0,
      λ w x' m.
          let i = partner ss ordered (swapped ps) (pattern_swap ordered ps pattern) k d' d (carried_swap ps k d d' h') p' a' w x' m in
          let qs : List Twins = swapped i.pairs in
          some_carried cs qs (pattern_swap ordered i.pairs i.pattern) n c c' (carried_more ps qs n c c' (within_back ps i.pairs i.within) h) p a w i.size i.image x' (carried_swap i.pairs i.size x' i.image i.carried) i.fits i.admits (s.1 w i.image i.member),
    )
    same_carried _ ps pattern n c c' h p a _ k d d' h' p' a' s = absurd s

    parts_carried : (ts : TermsD) (ps : List Twins) → IsPattern ordered ps → (n : ℕ) (c c' : List Atom) → IsCarried ps n c c' → PartsFit n ts → AdmitsParts ordered ts → (ss : TermsD) (k : ℕ) (d d' : List Atom) → IsCarried ps k d d' → PartsFit k ss → AdmitsParts ordered ss → SamePartsAt ts c ss d → SamePartsAt ts c' ss d'
    parts_carried no_terms ps pattern n c c' h p a no_terms k d d' h' p' a' s = tt
    parts_carried (term t ts) ps pattern n c c' h p a (term u us) k d d' h' p' a' s =
        (same_carried t ps pattern n c c' h p.0 a.0 u k d d' h' p'.0 a'.0 s.0, parts_carried ts ps pattern n c c' h p.1 a.1 us k d d' h' p'.1 a'.1 s.1)
    parts_carried _ ps pattern n c c' h p a _ k d d' h' p' a' s = absurd s

    all_carried : (ks : CompsD) (ps : List Twins) → IsPattern ordered ps → (n : ℕ) (c c' : List Atom) → IsCarried ps n c c' → ItemsFit n ks → AdmitsItems ordered ks → (ss : CompsD) (k : ℕ) (d d' : List Atom) → IsCarried ps k d d' → ItemsFit k ss → AdmitsItems ordered ss → AllInAt ks c ss d → AllInAt ks c' ss d'
    all_carried no_comps ps pattern n c c' h p a ss k d d' h' p' a' s = tt
    all_carried (more x ks) ps pattern n c c' h p a ss k d d' h' p' a' s =
        (each_carried x ps pattern n c c' h p.0 a.0 ss k d d' h' p' a' s.0, all_carried ks ps pattern n c c' h p.1 a.1 ss k d d' h' p' a' s.1)

    each_carried : (x : CompD) (ps : List Twins) → IsPattern ordered ps → (n : ℕ) (c c' : List Atom) → IsCarried ps n c c' → CompFits n x → AdmitsComp ordered x → (ss : CompsD) (k : ℕ) (d d' : List Atom) → IsCarried ps k d d' → ItemsFit k ss → AdmitsItems ordered ss → EachInAt x c ss d → EachInAt x c' ss d'
    each_carried (comp m g t) ps pattern n c c' h p a ss k d d' h' p' a' s = λ e' x'.
        let back = extend ordered (swapped ps) (pattern_swap ordered ps pattern) e' in
        let qs : List Twins = swapped back.pairs in
        let e : List Atom = back.image in
        let good : IsPattern ordered qs = pattern_swap ordered back.pairs back.pattern in
        let wider : Within ps qs = within_back ps back.pairs back.within in
        let old : IsCarried qs n c c' = carried_more ps qs n c c' wider h in
        let new : IsCarried qs m e e' = carried_swap back.pairs m e' e (subst (λ z. IsCarried back.pairs z e' e) x'.count back.carried) in
        let truth : holds (c ++ e) g ≡ holds (c' ++ e') g = guard_carried ordered qs good n m c c' e e' g old new p.1 a.0 in
        let i : InAt t (c ++ e) ss d = s e (record { count = new.left; guard = subst IsTrue (sym truth) x'.guard }) in
        let j = partner ss ordered qs good k d d' (carried_more ps qs k d d' wider h') p' a' i.0 i.1 i.2 in
        (i.0, j.image, j.member, same_carried t j.pairs j.pattern (n + m) (c ++ e) (c' ++ e') (carried_more qs j.pairs (n + m) (c ++ e) (c' ++ e') j.within (carried_longer qs n m c c' e e' old new)) p.2 a.1 i.0 j.size i.1 j.image j.carried j.fits j.admits i.3)

    some_carried : (ks : CompsD) (ps : List Twins) → IsPattern ordered ps → (n : ℕ) (c c' : List Atom) → IsCarried ps n c c' → ItemsFit n ks → AdmitsItems ordered ks → (w : TermD) (k : ℕ) (x x' : List Atom) → IsCarried ps k x x' → Fits k w → AdmitsTerm ordered w → SomeIsAt ks c w x → SomeIsAt ks c' w x'
    some_carried no_comps ps pattern n c c' h p a w k x x' h' p' a' s = s
    some_carried (more y ks) ps pattern n c c' h p a w k x x' h' p' a' (inl s) = inl (one_carried y ps pattern n c c' h p.0 a.0 w k x x' h' p' a' s)
    some_carried (more y ks) ps pattern n c c' h p a w k x x' h' p' a' (inr s) = inr (some_carried ks ps pattern n c c' h p.1 a.1 w k x x' h' p' a' s)

    one_carried : (y : CompD) (ps : List Twins) → IsPattern ordered ps → (n : ℕ) (c c' : List Atom) → IsCarried ps n c c' → CompFits n y → AdmitsComp ordered y → (w : TermD) (k : ℕ) (x x' : List Atom) → IsCarried ps k x x' → Fits k w → AdmitsTerm ordered w → OneIsAt y c w x → OneIsAt y c' w x'
    one_carried (comp m g t) ps pattern n c c' h p a w k x x' h' p' a' (e, ext, s) =
        let long = extend ordered ps pattern e in
        let qs : List Twins = long.pairs in
        let old : IsCarried qs n c c' = carried_more ps qs n c c' long.within h in
        let new : IsCarried qs m e long.image = subst (λ z. IsCarried qs z e long.image) ext.count long.carried in
        let truth : holds (c ++ e) g ≡ holds (c' ++ long.image) g = guard_carried ordered qs long.pattern n m c c' e long.image g old new p.1 a.0 in
        (long.image, record { count = new.right; guard = subst IsTrue truth ext.guard }, same_carried t qs long.pattern (n + m) (c ++ e) (c' ++ long.image) (carried_longer qs n m c c' e long.image old new) p.2 a.1 w k x x' (carried_more ps qs k x x' long.within h') p' a' s)

  mutual
    pub formula_carried : (g : FormulaD) (ps : List Twins) → IsPattern ordered ps → (n : ℕ) (c d : List Atom) → IsCarried ps n c d → FormulaFits n g → AdmitsFormula ordered g → FormulaHolds c g → FormulaHolds d g
    formula_carried (lit l) ps pattern n c d h p a x = subst IsTrue (lit_carried ordered ps pattern n c d h l p a) x
    formula_carried (all gs) ps pattern n c d h p a x = all_hold_carried gs ps pattern n c d h p a x
    formula_carried (any gs) ps pattern n c d h p a x = any_holds_carried gs ps pattern n c d h p a x
    formula_carried (neg g) ps pattern n c d h p a x = λ y.
        x (formula_carried g (swapped ps) (pattern_swap ordered ps pattern) n d c (carried_swap ps n c d h) p a y)
    formula_carried (exists g) ps pattern n c d h p a (u, x) =
        let v = add ordered ps pattern u in
        (v.0, formula_carried g (twins u v.0 ∷ ps) v.1 (suc n) (c ++ u ∷ []) (d ++ v.0 ∷ []) (carried_push ps n c d u v.0 h) p a x)
    formula_carried (forall g) ps pattern n c d h p a x = λ v.
        let u = add ordered (swapped ps) (pattern_swap ordered ps pattern) v in
        let new : IsCarried (twins v u.0 ∷ swapped ps) (suc n) (d ++ v ∷ []) (c ++ u.0 ∷ []) = carried_push (swapped ps) n d c v u.0 (carried_swap ps n c d h) in
        formula_carried g (swapped (twins v u.0 ∷ swapped ps)) (pattern_swap ordered (twins v u.0 ∷ swapped ps) u.1) (suc n) (c ++ u.0 ∷ []) (d ++ v ∷ []) (carried_swap (twins v u.0 ∷ swapped ps) (suc n) (d ++ v ∷ []) (c ++ u.0 ∷ []) new) p a (x u.0)

    all_hold_carried : (gs : FormulasD) (ps : List Twins) → IsPattern ordered ps → (n : ℕ) (c d : List Atom) → IsCarried ps n c d → FormulasFit n gs → AdmitsFormulas ordered gs → AllHold c gs → AllHold d gs
    all_hold_carried no_formulas ps pattern n c d h p a x = tt
    all_hold_carried (formula g gs) ps pattern n c d h p a x =
        (formula_carried g ps pattern n c d h p.0 a.0 x.0, all_hold_carried gs ps pattern n c d h p.1 a.1 x.1)

    any_holds_carried : (gs : FormulasD) (ps : List Twins) → IsPattern ordered ps → (n : ℕ) (c d : List Atom) → IsCarried ps n c d → FormulasFit n gs → AdmitsFormulas ordered gs → AnyHolds c gs → AnyHolds d gs
    any_holds_carried no_formulas ps pattern n c d h p a x = x
    any_holds_carried (formula g gs) ps pattern n c d h p a (inl x) = inl (formula_carried g ps pattern n c d h p.0 a.0 x)
    any_holds_carried (formula g gs) ps pattern n c d h p a (inr x) = inr (any_holds_carried gs ps pattern n c d h p.1 a.1 x)

-- ---- choices that stand alike
module _ (ordered : Bool) where
  pub alike_sym : (c d : List Atom) → AreAlike ordered c d → AreAlike ordered d c
  alike_sym c d h =
      record { count = sym h.count; agree = λ op k i j l m. sym (h.agree op k i j (omega (arith, h.count)) (omega (arith, h.count))) }

  pub formula_alike : (g : FormulaD) (c d : List Atom) → AreAlike ordered c d → FormulaFits (length c) g → AdmitsFormula ordered g → FormulaHolds c g → FormulaHolds d g
  formula_alike g c d h p a x =
      let all_of : IsCarried (zipped c d) (length c) c d = record { left = refl; right = sym h.count; atoms = λ i l. has_zipped c d i l (omega (arith, h.count)) } in
      formula_carried ordered g (zipped c d) (pattern_zipped ordered c d h) (length c) c d all_of p a x

  carried_left : (c d c' d' : List Atom) → length c ≡ length c' → length d ≡ length d' → IsCarried (zipped (c ++ d) (c' ++ d')) (length c) c c'
  carried_left c d c' d' h k = record { left = refl; right = sym h; atoms = each }
    where
      each : (i : ℕ) → i < length c → Has (zipped (c ++ d) (c' ++ d')) (twins (atom_at c i) (atom_at c' i))
      each i l =
          let m : i < length c' = omega (arith, h) in
          let both = has_zipped (c ++ d) (c' ++ d') i (omega (arith, length-append c d)) (omega (arith, length-append c' d')) in
          subst (λ z. Has (zipped (c ++ d) (c' ++ d')) (twins z (atom_at c' i))) (get_or_append_left c d (whole 0) i l) (subst (λ z. Has (zipped (c ++ d) (c' ++ d')) (twins (atom_at (c ++ d) i) z)) (get_or_append_left c' d' (whole 0) i m) both)

  carried_right : (c d c' d' : List Atom) → length c ≡ length c' → length d ≡ length d' → IsCarried (zipped (c ++ d) (c' ++ d')) (length d) d d'
  carried_right c d c' d' h k = record { left = refl; right = sym k; atoms = each }
    where
      each : (i : ℕ) → i < length d → Has (zipped (c ++ d) (c' ++ d')) (twins (atom_at d i) (atom_at d' i))
      each i l =
          let both = has_zipped (c ++ d) (c' ++ d') (length c + i) (omega (arith, length-append c d)) (omega (arith, length-append c' d', h, k)) in
          let there : atom_at (c' ++ d') (length c + i) ≡ atom_at d' i = ap (λ z. get_or (c' ++ d') (z + i) (whole 0)) h ∙ get_or-append-add c' d' i (whole 0) in
          subst (λ z. Has (zipped (c ++ d) (c' ++ d')) (twins z (atom_at d' i))) (get_or-append-add c d i (whole 0)) (subst (λ z. Has (zipped (c ++ d) (c' ++ d')) (twins (atom_at (c ++ d) (length c + i)) z)) there both)

  pub same_alike : (t s : TermD) (c d c' d' : List Atom) → length c ≡ length c' → AreAlike ordered (c ++ d) (c' ++ d') → Fits (length c) t → Fits (length d) s → AdmitsTerm ordered t → AdmitsTerm ordered s → SameAt t c s d → SameAt t c' s d'
  same_alike t s c d c' d' h k p q a b x =
      let rest : length d ≡ length d' = omega (arith, k.count, length-append c d, length-append c' d') in
      same_carried ordered t (zipped (c ++ d) (c' ++ d')) (pattern_zipped ordered (c ++ d) (c' ++ d') k) (length c) c c' (carried_left c d c' d' h rest) p a s (length d) d d' (carried_right c d c' d' h rest) q b x

-- ---- maps of atoms
module _ (ordered : Bool) (f : Atom → Atom) (keeps : IsEmbedding ordered f) where
  pub alike_map : (c : List Atom) → AreAlike ordered c (map f c)
  alike_map c = record {
    count = sym (length-map c f);
    agree = λ op k i j l m. rw (get_or-map f c i (whole 0) (whole 0) l, get_or-map f c j (whole 0) (whole 0) m) (sym (keeps op k (atom_at c i) (atom_at c j)));
  }

  pub alike_maps : (c d : List Atom) → AreAlike ordered (c ++ d) (map f c ++ map f d)
  alike_maps c d = subst (λ z. AreAlike ordered (c ++ d) z) (map-append f c d) (alike_map (c ++ d))

-- the value of a term at two choices whose atoms are partners
pub record Twinned (ordered : Bool) (ps : List Twins) (t : TermD) (c d : List Atom) : Type 0 where
  pub size : ℕ
  pub carried : IsCarried ps size c d
  pub fits : Fits size t
  pub admits : AdmitsTerm ordered t

module _ (ordered : Bool) where
  pub twinned_more : (ps qs : List Twins) (t : TermD) (c d : List Atom) → Within ps qs → Twinned ordered ps t c d → Twinned ordered qs t c d
  twinned_more ps qs t c d w h =
      record { size = h.size; carried = carried_more ps qs h.size c d w h.carried; fits = h.fits; admits = h.admits }

  pub same_twinned : (ps : List Twins) → IsPattern ordered ps → (t : TermD) (c c' : List Atom) → Twinned ordered ps t c c' → (s : TermD) (d d' : List Atom) → Twinned ordered ps s d d' → IsSame (point t c) (point s d) → IsSame (point t c') (point s d')
  same_twinned ps pattern t c c' h s d d' k same =
      same_carried ordered t ps pattern h.size c c' h.carried h.fits h.admits s k.size d d' k.carried k.fits k.admits same
