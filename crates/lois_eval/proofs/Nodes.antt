-- What each form of expressions makes, from what is known of its parts.
use Rattle.std.proofs.Common.{◌≡◌, ℕ, zero, suc, ◌+◌, ◌<◌, ◌≤◌, ◌^◌, Bool, inl, inr, ◌↔◌, List, [], ◌∷◌, ◌++◌, length, map, Some, None, refl, sym, ap, subst, ◌∙◌, arith}
use Rattle.std.proofs.lemmas.List.{append-nil}
use Rattle.lois_base.specs.Atom.{Atom}
use Rattle.lois_base.specs.Data.{TermD, var as t_var, tag as t_tag, tup, coll, TermsD, no_terms, term, terms_of, comps_of}
use Rattle.lois_base.specs.Fits.{LitFits, CubeFits, Fits, PartsFit, ItemsFit}
use Rattle.lois_base.specs.Truth.{atom_at}
use Rattle.lois_base.specs.Validity.{AdmitsLit, AdmitsCube, AdmitsTerm, AdmitsParts, AdmitsItems, PartsHaveBoundedWidths, HasBoundedWidths, ItemsHaveBoundedWidths, count_of_parts}
use Rattle.lois_base.specs.Values.{PointValue, point, IsIn, IsSame, MemberAt}
use Rattle.lois_base.proofs.Members.{same_refl}
use Rattle.lois_base.proofs.Order.{equal_refl}
use Rattle.lois_algebra.specs.Sets.{HasAllAtoms, IsAtom}
use Rattle.lois_meaning.specs.Expressions.{Makes, Gives, IsPartOf, IsValidOperand}
use Rattle.lois_meaning.specs.Faults.{Breaks, Fails, HasNoPart, IsInvalidOperand, IsUnfitAmong}
use Rattle.lois_meaning.specs.declared.faults.Fault.{Fault}
use Rattle.lois_answers.specs.declared.faults.FaultKind.{FaultKind}
use Rattle.lois_script.specs.declared.syntax.Operation.{Operation}
use Rattle.lois_algebra.specs.Parts.{part_at, part_of}
use Rattle.lois_meaning.specs.Kinds.{IsAtomAt, IsAtomValue, IsOneOf, part_values}
use Rattle.lois_script.specs.Tree.{ExprD, atoms, var, tuple, listed, part, apply, ExprsD, no_exprs, expr, pos}
use Rattle.lois_meaning.proofs.Alike.{are_same_refl}
use Rattle.lois_context.specs.ItemCounts.{comps_in}
use Rattle.lois_context.specs.Choices.{IsAdmitted, AdmitsContext}
use Rattle.lois_context.specs.declared.contexts.Context.{Context}
use Rattle.lois_terms.specs.Collections.{IsColl as IsSetTerm}
use Rattle.lois_eval.specs.Evaluated.{IsTermOf, AreTermsOf}
use Rattle.lois_eval.specs.Checks.{IsDepthFault}
use Rattle.lois_eval.specs.Operands.{IsAppliedThroughout, IsAtFirstUnfit, IsUnfitFault}
use Rattle.lois_eval.specs.Throughout.{StandFor, IsFaultOf}
use Rattle.lois_eval.specs.Made.{bare, IsHeldBy, missing_part, IsPartFault}
use Rattle.lois_eval.specs.WellFormed.{IsWellFormedIn, IsWellFormed}
use Rattle.lois_eval.proofs.FaultsAt.{admitted_alike}
use Rattle.lois_eval.proofs.Names.{held_value, held_has}
use Rattle.lois_eval.proofs.TermKinds.{set_at, atom_term}
use Rattle.std.proofs.lemmas.List.Elements.{All-nil, All-cons, All-weaker}

atom_value : (w : PointValue) → IsAtom w ↔ ((a : Atom) × IsAtomValue w a)
atom_value w = (λ (i, e). (atom_at w.choice i, subst (λ t. IsAtomAt t w.choice (atom_at w.choice i)) (sym e) (equal_refl (atom_at w.choice i))), λ (a, h). atom_term w.term_of w.choice a h)

-- of operands with the values of these terms one is unfit, and those to its left are valid
unfit_among : (o : Bool) (k : Context) (op : Operation) (es : ExprsD) (ts : TermsD) (f : Fault) (c : List Atom) → IsAdmitted c k → StandFor o c f → IsAtFirstUnfit o k op es ts f → IsUnfitAmong (λ v. IsValidOperand v op) (IsInvalidOperand op) es (part_values ts c) f.pos.offset f.kind
unfit_among o k op (expr e es) (term t ts) f c a stand (inl (place, bad)) = inl (place, bad c stand)
unfit_among o k op (expr e es) (term t ts) f c a stand (inr (valid, rest)) = inr (valid c a, unfit_among o k op es ts f c a stand rest)
unfit_among o k op (expr e es) no_terms f c a stand h = absurd h
unfit_among o k op no_exprs ts f c a stand h = absurd h

module _ (k : Context) where
  pub atoms_made : (p : ℕ) (t : TermD) → HasAllAtoms k.size t → IsSetTerm t → Fits k.size t → ((o : Bool) → AdmitsTerm o t) → HasBoundedWidths t → IsTermOf k (Makes (atoms p)) (IsWellFormed (atoms p)) t
  atoms_made p t members set fits admits widths = record {
    value = λ c a. (set_at t c set, λ w. (λ h. (atom_value w).0 ((members c a.0 w).0 h), λ h. (members c a.0 w).1 ((atom_value w).1 h)));
    levels = fits;
    operators = λ o h. admits o;
    widths = λ h. widths;
  }

  pub held_made : (p : ℕ) (x : List ℕ) (t : TermD) → IsHeldBy x k.store t → IsTermOf k (Makes (var p x)) (IsWellFormed (var p x)) t
  held_made p x t held = record {
    value = λ c a. (point t c, held_value x k.store t c held, same_refl (point t c));
    levels = held_has (Fits k.size) x k.store t (All-weaker (λ s. Fits k.size s.term × (s.from ≤ comps_in s.term)) (λ s. Fits k.size s.term) (λ s h. h.0) k.store k.slots) held;
    operators = λ o h. held_has (AdmitsTerm o) x k.store t h.operators.store held;
    widths = λ h. held_has HasBoundedWidths x k.store t h.store held;
  }

  parts_count : (ts : List TermD) → count_of_parts (terms_of ts) ≡ length ts
  parts_count [] = refl
  parts_count (t ∷ ts) = ap suc (parts_count ts)

  pub tuple_made : (p : ℕ) (es : ExprsD) (o : Bool) (ts : List TermD) → IsWellFormedIn (IsWellFormed (tuple p es)) o k → AreTermsOf k es (IsWellFormed (tuple p es)) ts → IsTermOf k (Makes (tuple p es)) (IsWellFormed (tuple p es)) (tup (terms_of ts))
  tuple_made p es o ts placed all = record {
    value = λ c a. (part_values (terms_of ts) c, part_values (terms_of ts) c, all.values c a, refl, are_same_refl (part_values (terms_of ts) c));
    levels = all.levels;
    operators = all.operators;
    widths = λ h. (omega (arith, placed.names.0, parts_count ts, all.count), omega (arith, placed.names.1, parts_count ts, all.count), all.widths h);
  }

  bare_member : (ts : List TermD) (c : List Atom) (w : PointValue) → IsIn w (point (coll (comps_of (map bare ts))) c) ↔ IsOneOf w (part_values (terms_of ts) c)
  bare_member ts c w = (λ (u, m, same). to ts u m same, λ h. from ts h)
    where
      plain : (t : TermD) (u : PointValue) (e : List Atom) → length e ≡ 0 → u.term_of ≡ t → u.choice ≡ c ++ e → IsSame w u → IsSame w (point t c)
      plain t u [] l p q same = subst (λ z. IsSame w z) (ap (λ y. point y u.choice) p ∙ ap (point t) (q ∙ append-nil c)) same
      plain t u (a ∷ e) l p q same = absurd (omega (arith, l))

      to : (ts : List TermD) (u : PointValue) → MemberAt u.term_of u.choice (comps_of (map bare ts)) c → IsSame w u → IsOneOf w (part_values (terms_of ts) c)
      to [] u m same = absurd m
      to (t ∷ ts) u (inl (e, is, p, q)) same = inl (plain t u e is.count p q same)
      to (t ∷ ts) u (inr m) same = inr (to ts u m same)

      from : (ts : List TermD) → IsOneOf w (part_values (terms_of ts) c) → IsIn w (point (coll (comps_of (map bare ts))) c)
      from [] h = absurd h
      from (t ∷ ts) (inl same) = (point t c, inl ([], record { count = refl; guard = refl }, refl, sym (append-nil c)), same)
      from (t ∷ ts) (inr h) = let r = from ts h in (r.0, inr r.1, r.2)

  bare_fits : (n : ℕ) (ts : List TermD) → PartsFit n (terms_of ts) → n < 2 ^ 64 → ItemsFit n (comps_of (map bare ts))
  bare_fits n [] h l = tt
  bare_fits n (t ∷ ts) h l =
      let e : n ≡ n + 0 = omega arith in
      ((omega arith, All-cons (CubeFits (n + 0)) [] [] (All-nil (LitFits (n + 0))) (All-nil (CubeFits (n + 0))), subst (λ z. Fits z t) e h.0), bare_fits n ts h.1 l)

  bare_admits : (o : Bool) (ts : List TermD) → AdmitsParts o (terms_of ts) → AdmitsItems o (comps_of (map bare ts))
  bare_admits o [] h = tt
  bare_admits o (t ∷ ts) h = ((All-cons (AdmitsCube o) [] [] (All-nil (AdmitsLit o)) (All-nil (AdmitsCube o)), h.0), bare_admits o ts h.1)

  bare_widths : (ts : List TermD) → PartsHaveBoundedWidths (terms_of ts) → ItemsHaveBoundedWidths (comps_of (map bare ts))
  bare_widths [] h = tt
  bare_widths (t ∷ ts) h = (h.0, bare_widths ts h.1)

  pub listed_made : (p : ℕ) (es : ExprsD) (ts : List TermD) (t : TermD) → k.size < 2 ^ 64 → AreTermsOf k es (IsWellFormed (listed p es)) ts → t ≡ coll (comps_of (map bare ts)) → IsTermOf k (Makes (listed p es)) (IsWellFormed (listed p es)) t
  listed_made p es ts t room all is = subst (IsTermOf k (Makes (listed p es)) (IsWellFormed (listed p es))) (sym is) (record {
    value = λ c a. (part_values (terms_of ts) c, all.values c a, (tt, λ w. bare_member ts c w));
    levels = bare_fits k.size ts all.levels room;
    operators = λ o h. bare_admits o ts (all.operators o h);
    widths = λ h. bare_widths ts (all.widths h);
  })

  -- ---- parts of tuples
  part_kept : (P : TermD → Type 0) (Each : TermsD → Type 0) → ((t : TermD) (ts : TermsD) → Each (term t ts) → P t × Each ts) → (ts : TermsD) (i : ℕ) (t : TermD) → Each ts → part_at ts i ≡ Some t → P t
  part_kept P Each split no_terms i t h e = absurd (cc)
  part_kept P Each split (term s ts) zero t h e = let is : s ≡ t = cc in subst P is (split s ts h).0
  part_kept P Each split (term s ts) (suc i) t h e = part_kept P Each split ts i t (split s ts h).1 e

  is_part : (ts : TermsD) (i : ℕ) (t : TermD) (c : List Atom) → part_at ts i ≡ Some t → IsPartOf (point t c) (part_values ts c) (suc i)
  is_part no_terms i t c e = absurd (cc)
  is_part (term s ts) zero t c e = let is : s ≡ t = cc in subst (λ z. IsSame (point t c) (point z c)) (sym is) (same_refl (point t c))
  is_part (term s ts) (suc i) t c e = is_part ts i t c e

  pub part_made : (p : ℕ) (e : ExprD) (n : ℕ) (u t : TermD) → IsTermOf k (Gives e) (IsWellFormed e) u → part_of u n ≡ Some t → IsTermOf k (Makes (part p e n)) (IsWellFormed (part p e n)) t
  part_made p e n (tup ts) t whole is = of_tuple n is
    where
      of_tuple : (n : ℕ) → part_of (tup ts) n ≡ Some t → IsTermOf k (Makes (part p e n)) (IsWellFormed (part p e n)) t
      of_tuple zero is = absurd (cc)
      of_tuple (suc i) is = record {
        value = λ c a. (point (tup ts) c, part_values ts c, whole.value c a, refl, is_part ts i t c is);
        levels = part_kept (Fits k.size) (PartsFit k.size) (λ t ts h. h) ts i t whole.levels is;
        operators = λ o h. part_kept (AdmitsTerm o) (AdmitsParts o) (λ t ts h. h) ts i t (whole.operators o (record { names = h.names; operators = h.operators })) is;
        widths = λ h. part_kept HasBoundedWidths PartsHaveBoundedWidths (λ t ts h. h) ts i t (whole.widths h).2 is;
      }
  part_made p e n (t_var i) t whole is = absurd (cc)
  part_made p e n (t_tag x) t whole is = absurd (cc)
  part_made p e n (coll ks) t whole is = absurd (cc)

  -- ---- the depth
  pub too_deep_fails : (o : Bool) (e : ExprD) (t : TermD) (f : Fault) → AdmitsContext o k → IsTermOf k (Makes e) (IsWellFormed e) t → IsDepthFault o k t (pos e) f → IsFaultOf o k (Fails e) f
  too_deep_fails o e t f admits made h = record {
    admitted = λ c stand. admitted_alike o k f.sample.items c admits stand h.fault.admitted;
    failure = λ c stand. inr (h.fault.place, h.kind, point t c, made.value c (admitted_alike o k f.sample.items c admits stand h.fault.admitted), h.deep c stand);
    elements = h.fault.elements;
  }

  -- ---- operations
  pub apply_made : (p : ℕ) (op : Operation) (es : ExprsD) (ts : List TermD) (t : TermD) → AreTermsOf k es (IsWellFormed (apply p op es)) ts → IsAppliedThroughout k op ts t → Fits k.size t →
      ((o : Bool) → AdmitsContext o k → AdmitsParts o (terms_of ts) → AdmitsTerm o t) → (PartsHaveBoundedWidths (terms_of ts) → HasBoundedWidths t) → IsTermOf k (Makes (apply p op es)) (IsWellFormed (apply p op es)) t
  apply_made p op es ts t all applied fits admits widths = record {
    value = λ c a. (part_values (terms_of ts) c, all.values c a, (applied c a).0, (applied c a).1);
    levels = fits;
    operators = λ o h. admits o h.operators (all.operators o h);
    widths = λ h. widths (all.widths h);
  }

  pub apply_fails : (o : Bool) (p : ℕ) (op : Operation) (es : ExprsD) (ts : List TermD) (f : Fault) → AdmitsContext o k → AreTermsOf k es (IsWellFormed (apply p op es)) ts → IsUnfitFault o k op es (terms_of ts) f → IsFaultOf o k (Breaks (apply p op es)) f
  apply_fails o p op es ts f admits all h = record {
    admitted = λ c stand. admitted_alike o k f.sample.items c admits stand h.admitted;
    failure = λ c stand.
        let a = admitted_alike o k f.sample.items c admits stand h.admitted in
        inr (part_values (terms_of ts) c, all.values c a, unfit_among o k op es (terms_of ts) f c a stand h.first);
    elements = h.elements;
  }

-- the same of an expression that is this one
pub made_as : (k : Context) (e f : ExprD) (t : TermD) → e ≡ f → IsTermOf k (Makes f) (IsWellFormed f) t → IsTermOf k (Makes e) (IsWellFormed e) t
made_as k e f t is h = subst (λ z. IsTermOf k (Makes z) (IsWellFormed z) t) (sym is) h

pub breaks_as : (o : Bool) (k : Context) (e f : ExprD) (x : Fault) → e ≡ f → IsFaultOf o k (Breaks f) x → IsFaultOf o k (Breaks e) x
breaks_as o k e f x is h = subst (λ z. IsFaultOf o k (Breaks z) x) (sym is) h

-- a term that hasn't got a part
no_part_at : (t : TermD) (n : ℕ) (c : List Atom) (kind : FaultKind) → kind ≡ missing_part t → part_of t n ≡ None → HasNoPart n (point t c) kind
no_part_at (t_var i) n c kind e h = inl (e, λ us p. p)
no_part_at (t_tag x) n c kind e h = inl (e, λ us p. p)
no_part_at (coll ks) n c kind e h = inl (e, λ us p. p)
no_part_at (tup ts) zero c kind e h = inr (e, part_values ts c, refl, inl refl)
no_part_at (tup ts) (suc i) c kind e h = inr (e, part_values ts c, refl, inr (beyond ts i h))
  where
    beyond : (ts : TermsD) (i : ℕ) → part_at ts i ≡ None → length (part_values ts c) < suc i
    beyond no_terms i h = omega arith
    beyond (term t ts) zero h = absurd (cc)
    beyond (term t ts) (suc i) h = omega (arith, beyond ts i h)

pub part_fails : (o : Bool) (k : Context) (p : ℕ) (e : ExprD) (n : ℕ) (u : TermD) (f : Fault) → AdmitsContext o k → IsTermOf k (Gives e) (IsWellFormed e) u → IsPartFault k u n (pos e) f → IsFaultOf o k (Breaks (part p e n)) f
part_fails o k p e n u f admits whole h = record {
  admitted = λ c stand. admitted_alike o k f.sample.items c admits stand h.fault.admitted;
  failure = λ c stand. inr (h.fault.place, point u c, whole.value c (admitted_alike o k f.sample.items c admits stand h.fault.admitted), no_part_at u n c f.kind h.kind h.no_part);
  elements = h.fault.elements;
}
