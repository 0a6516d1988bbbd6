use Rattle.lois_lexer.proofs.OneReading.{one_list, one_refusal, never_both, tokens_of_cut, refused_inside}
use Rattle.lois_lexer.proofs.lexing.one_reading.Goals as goal

pub returns-clause-list : goal.returns-clause-list
returns-clause-list c = one_list

pub returns-clause-refusal : goal.returns-clause-refusal
returns-clause-refusal c = one_refusal

pub returns-clause-never_both : goal.returns-clause-never_both
returns-clause-never_both c = let k = tokens_of_cut in let k2 = refused_inside in never_both
