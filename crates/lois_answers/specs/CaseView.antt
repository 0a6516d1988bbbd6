-- What a case says, as data.
use Rattle.lois_answers.specs.ResultsData.{CaseD}
use Rattle.lois_answers.specs.declared.results.Case.{Case}

abbrev pub case_of : Case → CaseD
case_of c = record { «when» = c.when; lines = c.lines }
