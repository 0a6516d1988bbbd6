-- The first break of a script, from what a walk over it keeps.
use Rattle.std.proofs.Common.{◌≡◌, ℕ, ◌≤◌, ◌⊎◌, inl, inr, Option, Some, None, MatchOption, [], refl, sym, subst, arith}
use Rattle.std.specs.Option.{option_map}
use Rattle.lois_script.specs.Scope.{RuleD, unknown, again, outer_assign, print_in_loop, order_in_equality, ScopeD, with_parameters, ParametersBreak, StmtsBreak, ScriptBreaks, IsWellScoped, BreaksFirst, rule_number}
use Rattle.lois_script.specs.Tree.{ScriptD}
use Rattle.lois_scope.specs.Breaks.{BreakD, rule_view, break_of, KeepsLeast}
use Rattle.lois_scope.specs.Refusals.{RefusesFor}
use Rattle.lois_scope.specs.Walks.{StateD, SeenD, scope_of, Walks, AdvancesScope}
use Rattle.lois_scope.specs.declared.breaks.Break.{Break}
use Rattle.lois_scope.specs.declared.checking.ScopeError.{ScopeError}
use Rattle.lois_scope.proofs.Alike.{stmts_steady}
use Rattle.lois_scope.proofs.Walked.{stay, leads_both, leads_walked}

pub walked_script : (script : ScriptD) (a m k : SeenD) → a.state.made ≡ [] → a.state.loops ≡ 0 → a.state.ordered ≡ script.ordered → a.kept ≡ None
    → AdvancesScope (ParametersBreak script.parameters) (with_parameters script.parameters) a m → Walks (StmtsBreak script.body) m k → KeepsLeast (ScriptBreaks script) None k.kept
walked_script script a m k made loops ordered kept h g =
    let start : StateD = record { made = []; loops = 0; ordered = script.ordered } in
    let here : a.state ≡ start = λ i. record { made = made i; loops = loops i; ordered = ordered i } in
    let both = leads_both (ParametersBreak script.parameters) (StmtsBreak script.body) (with_parameters script.parameters) stay (stmts_steady script.body) (λ s t l. l) a m k h (leads_walked (StmtsBreak script.body) m k g) in
    let Whole : ScopeD → RuleD → ℕ → Type 0 = λ s rule at. ParametersBreak script.parameters s rule at ⊎ StmtsBreak script.body (with_parameters script.parameters s) rule at in
    let opened : KeepsLeast (Whole (scope_of start)) a.kept k.kept = subst (λ (s : StateD). KeepsLeast (Whole (scope_of s)) a.kept k.kept) here both.first in
    subst (λ o. KeepsLeast (Whole (scope_of start)) o k.kept) kept opened

none_some : {X : Type 0} (x : X) → None ≡ Some x → ⊥
none_some x e = cc

broken_there : (script : ScriptD) (b : BreakD) → (None ≡ Some b) ⊎ ScriptBreaks script b.rule b.at → ScriptBreaks script b.rule b.at
broken_there script b (inl e) = absurd (none_some b e)
broken_there script b (inr h) = h

pub least_first : (script : ScriptD) (kept : Option BreakD) → KeepsLeast (ScriptBreaks script) None kept → MatchOption kept (IsWellScoped script) (λ b. BreaksFirst script b.rule b.at)
least_first script None h = λ rule at broken. h.least rule at broken
least_first script (Some b) h = record {
  broken = broken_there script b (h.from b refl);
  earliest = λ other before broken. (h.least other before broken).place;
  lowest = λ other broken. (h.least other b.at broken).rule refl;
}

pub found_first : (script : ScriptD) (o : Option Break) → MatchOption (option_map break_of o) (IsWellScoped script) (λ b. BreaksFirst script b.rule b.at)
    → MatchOption o (IsWellScoped script) (λ b. BreaksFirst script (rule_view b.rule) b.pos.offset)
found_first script None h = h
found_first script (Some b) h = h

number_tells : (r q : RuleD) → rule_number r ≡ rule_number q → r ≡ q
number_tells unknown unknown e = refl
number_tells unknown again e = absurd (omega arith)
number_tells unknown outer_assign e = absurd (omega arith)
number_tells unknown print_in_loop e = absurd (omega arith)
number_tells unknown order_in_equality e = absurd (omega arith)
number_tells again unknown e = absurd (omega arith)
number_tells again again e = refl
number_tells again outer_assign e = absurd (omega arith)
number_tells again print_in_loop e = absurd (omega arith)
number_tells again order_in_equality e = absurd (omega arith)
number_tells outer_assign unknown e = absurd (omega arith)
number_tells outer_assign again e = absurd (omega arith)
number_tells outer_assign outer_assign e = refl
number_tells outer_assign print_in_loop e = absurd (omega arith)
number_tells outer_assign order_in_equality e = absurd (omega arith)
number_tells print_in_loop unknown e = absurd (omega arith)
number_tells print_in_loop again e = absurd (omega arith)
number_tells print_in_loop outer_assign e = absurd (omega arith)
number_tells print_in_loop print_in_loop e = refl
number_tells print_in_loop order_in_equality e = absurd (omega arith)
number_tells order_in_equality unknown e = absurd (omega arith)
number_tells order_in_equality again e = absurd (omega arith)
number_tells order_in_equality outer_assign e = absurd (omega arith)
number_tells order_in_equality print_in_loop e = absurd (omega arith)
number_tells order_in_equality order_in_equality e = refl

-- at most one rule is broken first, at one place
pub same_first : (script : ScriptD) (r q : RuleD) (a b : ℕ) → BreaksFirst script r a → BreaksFirst script q b → (r ≡ q) × (a ≡ b)
same_first script r q a b h g =
    let place : a ≡ b = omega (arith, h.earliest q b g.broken, g.earliest r a h.broken) in
    let l : rule_number r ≤ rule_number q = h.lowest q (subst (ScriptBreaks script q) (sym place) g.broken) in
    let m : rule_number q ≤ rule_number r = g.lowest r (subst (ScriptBreaks script r) place h.broken) in
    (number_tells r q (omega (arith, l, m)), place)

pub refused_for : (script : ScriptD) (r q : RuleD) (a b : ℕ) (error : ScopeError) → BreaksFirst script r a → BreaksFirst script q b → RefusesFor r a error → RefusesFor q b error
refused_for script r q a b error h g told =
    let e = same_first script r q a b h g in
    subst (λ (x : RuleD). RefusesFor x b error) e.0 (subst (λ (x : ℕ). RefusesFor r x error) e.1 told)
