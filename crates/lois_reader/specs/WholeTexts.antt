-- What reading a whole text gives, and which error a parse error becomes.
use Rattle.std.specs.Prelude.{◌≡◌, ℕ, ◌-◌, List, Result}
use Rattle.lois_reader.specs.declared.ResultError.{ResultError}
use Rattle.lois_reader.specs.declared.ResultError.TheVariants.{NotResults, NoMemory}
use Rattle.lois_answers.specs.declared.faults.Answer.{Answer}
use Rattle.lois_answers.specs.declared.results.Results.{Results}
use Rattle.lois_reader.specs.declared.parse_error.ParseError.{ParseError}
use Rattle.lois_reader.specs.declared.parse_error.ParseError.TheVariants as halts
use Rattle.lois_reader.specs.Reading.{◌>>=◌}
use Rattle.lois_reader.specs.AnswerEnds.{results_text_end, answer_text_end}
use Rattle.lois_reader.specs.AnswerValues.{results_text_at, answer_text_at}

-- What reading gives: the shape is read first, and then what the text stands for.
abbrev pub results_reading : List ℕ → Result Results ℕ
results_reading text = results_text_end text >>= λ end. results_text_at text

abbrev pub answer_reading : List ℕ → Result Answer ℕ
answer_reading text = answer_text_end text >>= λ end. answer_text_at text

-- the error that a parse error becomes, in a text of this length
abbrev pub IsErrorOfHalt : ℕ → ParseError → ResultError → Type 0
IsErrorOfHalt len halts.NoMemory e = e ≡ NoMemory
IsErrorOfHalt len (halts.Left left) e = e ≡ NotResults (len - left)
