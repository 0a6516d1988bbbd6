use Rattle.std.proofs.Common.{◌^◌, ◌<◌, length, arith}
use Rattle.lois_reader.specs.Refusal.{IsResultsOf}
use Rattle.lois_reader.proofs.Verdict.{results_hold, results_those, results_none, results_place, accepted_value}
use Rattle.lois_reader.proofs.reading.read_results.Goals as goal

pub returns-in-Ok : goal.returns-in-Ok
returns-in-Ok c =
    let text = c.args.text.now in
    let short : length text < 2 ^ 64 = omega arith in
    let held = results_hold text c.in-Ok.results short c.in-Ok.ensures in
    record {
      sound = held.0;
      text = held.1;
      exact = λ other holds. results_those text c.in-Ok.results other short c.in-Ok.ensures holds;
      accepts = λ other holds. tt;
      none = tt;
      place = tt;
      inside = tt;
    }

pub returns-in-Err : goal.returns-in-Err
returns-in-Err c =
    let text = c.args.text.now in
    let short : length text < 2 ^ 64 = omega arith in
    let none = results_none text c.in-Err.halt c.error_of.result short c.in-Err.ensures c.error_of.ensures.error in
    record {
      sound = tt;
      text = tt;
      exact = λ other holds. tt;
      accepts = λ other holds. accepted_value (IsResultsOf text) c.error_of.result none other holds;
      none = none;
      place = results_place text c.in-Err.halt c.error_of.result short c.in-Err.ensures c.error_of.ensures.error;
      inside = c.error_of.ensures.inside;
    }
