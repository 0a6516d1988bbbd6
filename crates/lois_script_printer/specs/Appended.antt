-- What a step of the printing appends: no public clause cites it.
use Rattle.std.specs.Prelude.{◌≡◌, ℕ, zero, suc, List, [], ◌∷◌, ◌++◌}
use Rattle.lois_lexer.specs.Laws.{Written}
use Rattle.lois_script.specs.Tree.{ParamD}
use Rattle.lois_script_printer.specs.Printed.{Writing, nothing, ◌▸◌, name, written_more_names, text}

-- the bytes after are those before and what is written, so that both say the same with any rest behind
pub record Appends (before : List ℕ) (w : Writing) (after : List ℕ) : Type 0 where
  pub same : (rest : List Written) → before ++ text (w rest) ≡ after ++ text rest

-- nothing stands before the first part of a list
abbrev pub between : ℕ → Writing → Writing
between zero separator = nothing
between (suc i) separator = separator

-- names with commas between them
abbrev pub written_names : List ParamD → Writing
written_names [] = nothing
written_names (x ∷ rest) = name x.name ▸ written_more_names rest
