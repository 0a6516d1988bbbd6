use Rattle.std.proofs.Common.{length, sym, ap, ◌∙◌}
use Rattle.lois_same.proofs.SameCases.{sound_cases}
use Rattle.lois_same.proofs.comparing.find_contrast_over.Goals as goal

pub compare_cases-requires-clause-first : goal.compare_cases-requires-clause-first
compare_cases-requires-clause-first g c =
    sound_cases _ _ _ _ c.args.first.now.cases (sym c.requires.atoms) (sym c.len-size.ensures) c.requires.first.cases

pub compare_cases-requires-clause-second : goal.compare_cases-requires-clause-second
compare_cases-requires-clause-second g c =
    sound_cases _ _ _ _ c.args.second.now.cases (sym c.requires.structure ∙ sym c.requires.atoms) (ap length (sym c.requires.parameters) ∙ sym c.len-size.ensures) c.requires.second.cases
