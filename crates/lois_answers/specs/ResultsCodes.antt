-- Lines and cases as numbers.
use Rattle.std.specs.Prelude.{List, ℕ}
use Rattle.std.proofs.Common.{refl}
use Rattle.std.specs.Coded.{Coded, code_by, coded_ℕ, coded_list, coded×}
use Rattle.lois_base.specs.Codes.{lit_code, term_code}
use Rattle.lois_base.specs.Data.{TermD}
use Rattle.lois_base.specs.declared.guards.Lit.{Lit}
use Rattle.lois_answers.specs.ResultsData.{LineD, CaseD}

abbrev pub line_code : Coded LineD
line_code =
    code_by (List ℕ × TermD) (coded× (coded_list coded_ℕ) term_code) (λ l. (l.name, l.term)) (λ p. record { name = p.0; term = p.1 }) (λ _. refl)

abbrev pub lines_code : Coded (List LineD)
lines_code = coded_list line_code

abbrev pub case_code : Coded CaseD
case_code =
    code_by (List (List Lit) × List LineD) (coded× (coded_list (coded_list lit_code)) lines_code) (λ c. (c.«when», c.lines)) (λ p. record { «when» = p.0; lines = p.1 }) (λ _. refl)

abbrev pub cases_code : Coded (List CaseD)
cases_code = coded_list case_code
