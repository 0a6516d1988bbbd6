-- The three laws.
use Rattle.lois_meaning.specs.Laws.{RunsAlike, IsDetermined, NeverBoth}
use Rattle.lois_meaning.specs.Store.{opening}
use Rattle.lois_meaning.proofs.Determined.{given_same, truth_same}
use Rattle.lois_meaning.proofs.Ends.{list_from, list_to}
use Rattle.lois_meaning.proofs.Failures.{fails_move, cond_fails_move}
use Rattle.lois_meaning.proofs.Moves.{gives_from, gives_to, truth_from}
use Rattle.lois_meaning.proofs.NotBoth.{gives_fails, truth_fails}
use Rattle.lois_meaning.proofs.Runs.{list_same, list_fails, list_fails_move}

pub runs_alike : RunsAlike
runs_alike = record {
  values = λ e s t v w h k g. gives_to e t v w k (gives_from e s t v h g);
  truths = truth_from;
  faults = fails_move;
  cond_faults = cond_fails_move;
  ends = λ l s s' t t' lines lines' h k m e. list_to l s' t t' lines lines' k m (list_from l s s' t lines h e);
  failures = list_fails_move;
}

pub determined : IsDetermined
determined = record {
  values = given_same;
  truths = truth_same;
  ends = λ l s t u lines more a b. list_same l s t u lines more a b;
  scripts = λ script choice lines more a b.
      (list_same script.body (opening script.parameters choice) a.0 b.0 lines more a.1 b.1).1;
}

pub never_both : NeverBoth
never_both = record {
  values = gives_fails;
  truths = truth_fails;
  ends = list_fails;
  scripts = λ script choice lines at k path e bad. list_fails script.body (opening script.parameters choice) e.0 lines at k path e.1 bad;
}
