-- The made script is well scoped.
use Rattle.std.proofs.Common.{◌≡◌, ℕ, zero, suc, ◌+◌, ◌*◌, Bool, true, false, List, [], ◌∷◌, sym, ap, true≢false}
use mathlib.Core.Logic.{inl, inr}
use Rattle.std.specs.Prelude.{codes, Some, None, is_some}
use Rattle.lois_script.specs.Scope.{RuleD, RoleD, ScopeD, StmtBreaks, StmtsBreak}
use Rattle.lois_script.specs.Scope.RoleD.{inner, outer, fixed}
use Rattle.lois_script.specs.Tree.{print, StmtsD, no_stmts, stmt}
use Rattle.lois_make.specs.MadeTree.{made_tag, made_loop_tree, made_loops_before}
use Rattle.lois_make.specs.Laws.{MadeIsWellScoped}

known : (r : RoleD) → Some r ≡ None → ⊥
known r e = true≢false (ap is_some e)

new : (r : RoleD) → None ≡ Some r → ⊥
new r e = true≢false (ap is_some (sym e))

-- the scope of the loops: the set alone
abbrev opened : ScopeD
opened = record { names = record { name = codes "s"; role = inner } ∷ []; in_loop = false; ordered = false }

is_outer : RoleD → Bool
is_outer outer = true
is_outer _ = false

outer_is_not_fixed : Some outer ≡ Some fixed → ⊥
unfolding is_outer
outer_is_not_fixed e = true≢false (ap (λ o. elim o as (λ x. Bool) [ None ↦ false | Some r ↦ is_outer r ]) e)

loop_scoped : (at place : ℕ) (name : List ℕ) (rule : RuleD) → StmtBreaks (made_loop_tree at name) opened rule place → ⊥
loop_scoped at place name rule (inl (inl (r, a, role, e))) = new role e
loop_scoped at place name rule (inl (inr q)) = q
loop_scoped at place name rule (inr (inl q)) = q
loop_scoped at place name rule (inr (inr (inr q))) = q
loop_scoped at place name rule (inr (inr (inl (inl (inl (r, a, role, e)))))) = new role e
loop_scoped at place name rule (inr (inr (inl (inl (inr q))))) = q
loop_scoped at place name rule (inr (inr (inl (inr (inl q))))) = q
loop_scoped at place name rule (inr (inr (inl (inr (inr (inr q)))))) = q
loop_scoped at place name rule (inr (inr (inl (inr (inr (inl (inl (inl (r, a, e))))))))) = known fixed e
loop_scoped at place name rule (inr (inr (inl (inr (inr (inl (inl (inr (r, a, e))))))))) = known fixed e
loop_scoped at place name rule (inr (inr (inl (inr (inr (inl (inr (inr q)))))))) = q
loop_scoped at place name rule (inr (inr (inl (inr (inr (inl (inr (inl (inr q))))))))) = q
loop_scoped at place name rule (inr (inr (inl (inr (inr (inl (inr (inl (inl (inr (inl (r, a, e)))))))))))) = known outer e
loop_scoped at place name rule (inr (inr (inl (inr (inr (inl (inr (inl (inl (inr (inr (r, a, e)))))))))))) = outer_is_not_fixed e
loop_scoped at place name rule (inr (inr (inl (inr (inr (inl (inr (inl (inl (inl (inl q))))))))))) = q
loop_scoped at place name rule (inr (inr (inl (inr (inr (inl (inr (inl (inl (inl (inr (inl (r, a, e))))))))))))) = known fixed e
loop_scoped at place name rule (inr (inr (inl (inr (inr (inl (inr (inl (inl (inl (inr (inr (inl (r, a, e)))))))))))))) = known fixed e
loop_scoped at place name rule (inr (inr (inl (inr (inr (inl (inr (inl (inl (inl (inr (inr (inr q))))))))))))) = q

loops_scoped : (n : ℕ) (rest : StmtsD) (rule : RuleD) (place : ℕ) → (StmtsBreak rest opened rule place → ⊥) → StmtsBreak (made_loops_before n rest) opened rule place → ⊥
loops_scoped zero rest rule place fine h = fine h
loops_scoped (suc n) rest rule place fine h =
    loops_scoped n (stmt (made_loop_tree (28 + 74 * n) (made_tag n)) rest) rule place
    (λ k. elim k [ inl first ↦ loop_scoped (28 + 74 * n) place (made_tag n) rule first | inr more ↦ fine more ]) h

print_scoped : (n place : ℕ) (rule : RuleD) → StmtsBreak (stmt (print (28 + 74 * n) (28 + 74 * n + 6) (codes "s")) no_stmts) opened rule place → ⊥
print_scoped n place rule (inl (inl (r, a, e))) = true≢false (sym e)
print_scoped n place rule (inl (inr (r, a, e))) = known inner e
print_scoped n place rule (inr q) = q

pub made_is_well_scoped : MadeIsWellScoped
made_is_well_scoped n rule place (inl q) = q
made_is_well_scoped n rule place (inr (inl (inl (r, a, role, e)))) = new role e
made_is_well_scoped n rule place (inr (inl (inr q))) = q
made_is_well_scoped n rule place (inr (inr h)) = loops_scoped n _ rule place (print_scoped n place rule) h
