-- The context in which a script begins.
use Rattle.std.proofs.Common.{◌≡◌, ℕ, suc, ◌+◌, ◌<◌, ◌≤◌, inl, inr, Bool, false, List, [], ◌∷◌, ◌++◌, length, get_or, take, map, bytes_eq, refl, sym, ap, ◌∙◌, subst, arith}
use Rattle.std.specs.List.{All, AllByRecursion, Contains, IsDistinct}
use Rattle.std.proofs.lemmas.List.{append-nil, append_assoc, map-append}
use Rattle.std.proofs.lemmas.List.Elements.{All-nil, All-cons, All-contains, Contains-append_left, Contains-push}
use Rattle.lois_base.specs.Atom.{Atom}
use Rattle.lois_base.specs.Data.{var}
use Rattle.lois_base.specs.Fits.{LitFits, CubeFits, ConstraintFits}
use Rattle.lois_base.specs.Truth.{holds}
use Rattle.lois_base.specs.Validity.{AdmitsLit, AdmitsCube, AdmitsTerm, HasBoundedWidths}
use Rattle.lois_script.specs.Limits.{Spells}
use Rattle.lois_script.specs.Scope.{RuleD, again, fixed, ScopeD, declare, ParametersBreak, opening_scope, with_parameters, IsWellScoped}
use Rattle.lois_base.proofs.Viewed.{one_more}
use Rattle.lois_script.specs.Tree.{ParamD, ScriptD}
use Rattle.lois_script.specs.View.{param_tree}
use Rattle.lois_script.specs.declared.script.Param.{Param}
use Rattle.lois_meaning.specs.Store.{opening_from, opening}
use Rattle.lois_context.specs.Choices.{IsAdmitted, AdmitsContext, ContextHasBoundedWidths}
use Rattle.lois_context.specs.Kept.{IsSlot, AreSlots}
use Rattle.lois_context.specs.Slots.{SlotD, slot_name, store_at}
use Rattle.lois_context.specs.declared.contexts.Context.{Context}
use Rattle.lois_eval.specs.WellFormed.{IsUnnamed, IsWellFormedIn}
use Rattle.lois_interp.specs.Interpreted.{parameter_name}
use Rattle.lois_interp.specs.Opened.{always, opening_slots, IsOpening}
use Rattle.lois_interp.specs.WellScoped.{declared_name, BlockIsWellScoped}
use Rattle.lois_interp.proofs.Spelled.{spelled_formed}
use Rattle.lois_interp.proofs.WellFormed.{unnamed_in}

-- ---- slots
pub slots_more : (ps : List ParamD) (p : ParamD) (i : ℕ) → opening_slots (ps ++ p ∷ []) i ≡ opening_slots ps i ++ record { name = p.name; term = var (i + length ps); from = 0 } ∷ []
slots_more [] p i =
    let same : i ≡ i + 0 = omega arith in
    ap (λ j. record { name = p.name; term = var j; from = 0 } ∷ []) same
slots_more (q ∷ ps) p i =
    let same : i + 1 + length ps ≡ i + suc (length ps) = omega arith in
    ap (λ l. record { name = q.name; term = var i; from = 0 } ∷ l) (slots_more ps p (i + 1) ∙ ap (λ j. opening_slots ps (i + 1) ++ record { name = p.name; term = var j; from = 0 } ∷ []) same)

pub slots_counted : (ps : List ParamD) (i : ℕ) → length (opening_slots ps i) ≡ length ps
slots_counted [] i = refl
slots_counted (p ∷ ps) i = ap suc (slots_counted ps (i + 1))

-- the slots of the parameters before an index, and one more
pub opened_more : (items : List Param) (i : ℕ) (p : Param) (before after : List SlotD) (name : List ℕ) (level : ℕ) → i < length items → p ≡ get_or items i p → name ≡ p.name → level ≡ length before → after ≡ before ++ record { name = name; term = var level; from = 0 } ∷ [] → before ≡ opening_slots (map param_tree (take i items)) 0 → after ≡ opening_slots (map param_tree (take (i + 1) items)) 0
opened_more items i p before after name level l is named counted pushed so_far =
    let done = map param_tree (take i items) in
    let from : length done ≡ 0 + length done = omega arith in
    let at : level ≡ 0 + length done = counted ∙ (ap length so_far ∙ (slots_counted done 0 ∙ from)) in
    pushed ∙ (ap (λ z. before ++ record { name = z; term = var level; from = 0 } ∷ []) named ∙ (ap (λ z. before ++ record { name = p.name; term = var z; from = 0 } ∷ []) at ∙ (ap (λ z. z ++ record { name = p.name; term = var (0 + length done); from = 0 } ∷ []) so_far ∙
    (sym (slots_more done (param_tree p) 0) ∙ ap (λ z. opening_slots z 0) (sym (one_more param_tree items i p l is))))))

pub slots_named : (ps : List ParamD) (i : ℕ) → map slot_name (opening_slots ps i) ≡ map parameter_name ps
slots_named [] i = refl
slots_named (p ∷ ps) i = ap (λ l. p.name ∷ l) (slots_named ps (i + 1))

pub slots_fit : (ps : List ParamD) (i n : ℕ) → i + length ps ≤ n → AreSlots n (opening_slots ps i)
slots_fit [] i n l = All-nil (IsSlot n)
slots_fit (p ∷ ps) i n l = All-cons (IsSlot n) _ (opening_slots ps (i + 1)) (omega (arith, l), omega arith) (slots_fit ps (i + 1) n (omega (arith, l)))

slots_admit : (ordered : Bool) (ps : List ParamD) (i : ℕ) → All (λ s. AdmitsTerm ordered s.term) (opening_slots ps i)
slots_admit ordered [] i = All-nil (λ s. AdmitsTerm ordered s.term)
slots_admit ordered (p ∷ ps) i = All-cons (λ s. AdmitsTerm ordered s.term) _ (opening_slots ps (i + 1)) tt (slots_admit ordered ps (i + 1))

slots_wide : (ps : List ParamD) (i : ℕ) → All (λ s. HasBoundedWidths s.term) (opening_slots ps i)
slots_wide [] i = All-nil (λ s. HasBoundedWidths s.term)
slots_wide (p ∷ ps) i = All-cons (λ s. HasBoundedWidths s.term) _ (opening_slots ps (i + 1)) tt (slots_wide ps (i + 1))

slots_at : (c : List Atom) (ps : List ParamD) (i : ℕ) → store_at c (opening_slots ps i) ≡ opening_from ps c i
slots_at c [] i = refl
slots_at c (p ∷ ps) i = ap (λ l. record { name = p.name; holds = record { term_of = var i; choice = c } } ∷ l) (slots_at c ps (i + 1))

-- ---- names

declared_more : (x : List ℕ) (s : ScopeD) → map declared_name (declare x fixed s).names ≡ map declared_name s.names ++ x ∷ []
declared_more x s = map-append declared_name s.names (record { name = x; role = fixed } ∷ [])

scope_named : (ps : List ParamD) (s : ScopeD) → map declared_name (with_parameters ps s).names ≡ map declared_name s.names ++ map parameter_name ps
scope_named [] s = sym (append-nil (map declared_name s.names))
scope_named (p ∷ ps) s =
    scope_named ps (declare p.name fixed s) ∙ (ap (λ l. l ++ map parameter_name ps) (declared_more p.name s) ∙ append_assoc (map declared_name s.names) (p.name ∷ []) (map parameter_name ps))

scope_ordered : (ps : List ParamD) (s : ScopeD) → (with_parameters ps s).ordered ≡ s.ordered
scope_ordered [] s = refl
scope_ordered (p ∷ ps) s = scope_ordered ps (declare p.name fixed s)

abbrev AreUnbroken : List ParamD → ScopeD → Type 0
AreUnbroken ps s = (rule : RuleD) (at : ℕ) → ParametersBreak ps s rule at → ⊥

-- a name in scope is none of the parameters that are declared behind it
apart_from : (ps : List ParamD) (s : ScopeD) (x : List ℕ) → AreUnbroken ps s → Contains (map declared_name s.names) x → AllByRecursion (λ y. bytes_eq x y ≡ false) (map parameter_name ps)
apart_from [] s x h there = tt
apart_from (p ∷ ps) s x h there =
    let new : IsUnnamed p.name (map declared_name s.names) = unnamed_in p.name s.names (λ role is. h again p.place (inl (refl, refl, role, is))) in
    let more : Contains (map declared_name (declare p.name fixed s).names) x = subst (λ l. Contains l x) (sym (declared_more p.name s)) (Contains-append_left (map declared_name s.names) (p.name ∷ []) x there) in
    (All-contains (λ y. bytes_eq y p.name ≡ false) (map declared_name s.names) x new there, apart_from ps (declare p.name fixed s) x (λ rule at bad. h rule at (inr bad)) more)

distinct_from : (ps : List ParamD) (s : ScopeD) → AreUnbroken ps s → IsDistinct bytes_eq (map parameter_name ps)
unfolding IsDistinct
distinct_from [] s h = tt
distinct_from (p ∷ ps) s h =
    let later : AreUnbroken ps (declare p.name fixed s) = λ rule at bad. h rule at (inr bad) in
    let there : Contains (map declared_name (declare p.name fixed s).names) p.name = subst (λ l. Contains l p.name) (sym (declared_more p.name s)) (Contains-push (map declared_name s.names) p.name) in
    (apart_from ps (declare p.name fixed s) p.name later there, distinct_from ps (declare p.name fixed s) later)

pub parameters_distinct : (s : ScriptD) → IsWellScoped s → IsDistinct bytes_eq (map parameter_name s.parameters)
parameters_distinct s scoped = distinct_from s.parameters (opening_scope s.ordered) (λ rule at bad. scoped rule at (inl bad))

-- ---- constraints without literals
always_has : (P : List _ → Type 0) → P [] → All P always
always_has P h = All-cons P [] [] h (All-nil P)

pub always_fits : (n : ℕ) → ConstraintFits n always
always_fits n = always_has (CubeFits n) (All-nil (LitFits n))

-- ---- no slots
pub no_slots : (n : ℕ) → AreSlots n []
no_slots n = All-nil (IsSlot n)

-- ---- the context
module _ (ps : List ParamD) (k : Context) (o : IsOpening ps k) where
  pub opens_at : (c : List Atom) → store_at c k.store ≡ opening ps c
  opens_at c = ap (store_at c) o.store ∙ slots_at c ps 0

  pub opening_admits : (c : List Atom) → length c ≡ length ps → IsAdmitted c k
  opening_admits c l = (l ∙ sym o.size, ap (holds c) o.«when»)

  pub opening_operators : (ordered : Bool) → AdmitsContext ordered k
  opening_operators ordered = record {
    «when» = subst (All (AdmitsCube ordered)) (sym o.«when») (always_has (AdmitsCube ordered) (All-nil (AdmitsLit ordered)));
    store = subst (All (λ s. AdmitsTerm ordered s.term)) (sym o.store) (slots_admit ordered ps 0);
    lines = subst (All (λ l. AdmitsTerm ordered l.term)) (sym o.lines) (All-nil (λ l. AdmitsTerm ordered l.term));
  }

  pub opening_widths : ContextHasBoundedWidths k
  opening_widths = record {
    store = subst (All (λ s. HasBoundedWidths s.term)) (sym o.store) (slots_wide ps 0);
    lines = subst (All (λ l. HasBoundedWidths l.term)) (sym o.lines) (All-nil (λ l. HasBoundedWidths l.term));
  }

pub body_placed : (s : ScriptD) (text : List ℕ) (k : Context) → Spells text s → IsWellScoped s → IsOpening s.parameters k → (ordered : Bool) → s.ordered ≡ ordered → IsWellFormedIn (BlockIsWellScoped s.body) ordered k
body_placed s text k spelled scoped o ordered is = record {
  names = record {
    scope = with_parameters s.parameters (opening_scope s.ordered);
    named = scope_named s.parameters (opening_scope s.ordered) ∙ (sym (slots_named s.parameters 0) ∙ ap (map slot_name) (sym o.store));
    order = scope_ordered s.parameters (opening_scope s.ordered) ∙ is;
    unbroken = λ rule at bad. scoped rule at (inr bad);
    form = spelled_formed text s spelled;
  };
  operators = opening_operators s.parameters k o ordered;
}
