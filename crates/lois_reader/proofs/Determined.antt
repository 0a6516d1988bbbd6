-- Values with the same text are the same, since reading the text gives them back.
use Rattle.std.proofs.Common.{ℕ, ◌^◌, ◌<◌, List, length, sym, ap, subst, ◌∙◌}
use Rattle.lois_reader.specs.Laws.{ResultsAreTold, AnswersAreTold}
use Rattle.lois_reader.specs.WholeTexts.{results_reading, answer_reading}
use Rattle.lois_reader.proofs.Backs.{same_ok}
use Rattle.lois_reader.proofs.ResultsBack.{results_back}
use Rattle.lois_reader.proofs.TraceBack.{answer_back}

pub results_are_told : ResultsAreTold
results_are_told r s sound sound_too same =
    same_ok (sym (results_back r sound) ∙ ap results_reading same ∙ results_back s sound_too)

pub answers_are_told : AnswersAreTold
answers_are_told a b sound sound_too short same =
    same_ok (sym (answer_back a sound short) ∙ ap answer_reading same
    ∙ answer_back b sound_too (subst (λ (t : List ℕ). length t < 2 ^ 64) same short))
