-- The tree that the made script spells. Its places are those of the tokens.
use Rattle.std.specs.Prelude.{ℕ, zero, suc, ◌+◌, ◌*◌, ◌%◌, false, List, [], ◌∷◌, ◌++◌, codes}
use Rattle.lois_script.specs.Tree.{atoms, var, tag, tuple, listed, no_exprs, expr, binding, truth, differ, StmtD, «let», add, for, if, print, StmtsD, no_stmts, stmt, ScriptD}

-- the tag of the loop of number i
abbrev pub made_tag : ℕ → List ℕ
made_tag i = codes "k" ++ (48 + i % 7) ∷ []

-- the loop of this tag, whose line begins at a place
abbrev pub made_loop_tree : ℕ → List ℕ → StmtD
made_loop_tree at name =
    let pair = tuple (at + 50) (expr (tag (at + 51) name) (expr (var (at + 56) (codes "x")) (expr (var (at + 59) (codes "y")) no_exprs))) in
    let test = if (differ (var (at + 37) (codes "x")) (var (at + 42) (codes "y"))) (stmt (add pair (at + 65) (codes "s")) no_stmts) no_stmts in
    let inner = for (binding (at + 21) (codes "y") (atoms (at + 26))) truth (stmt test no_stmts) in
    for (binding (at + 4) (codes "x") (atoms (at + 9))) truth (stmt inner no_stmts)

-- the first n loops, and what follows them
abbrev pub made_loops_before : ℕ → StmtsD → StmtsD
made_loops_before zero rest = rest
made_loops_before (suc n) rest = made_loops_before n (stmt (made_loop_tree (28 + 74 * n) (made_tag n)) rest)

abbrev pub made_tree : ℕ → ScriptD
made_tree n =
    let printed = stmt (print (28 + 74 * n) (28 + 74 * n + 6) (codes "s")) no_stmts in
    record {
      ordered = false;
      parameters = [];
      body = stmt («let» 20 (codes "s") (listed 24 no_exprs)) (made_loops_before n printed);
    }
