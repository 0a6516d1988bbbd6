use Rattle.std.proofs.Common.{arith}
use Rattle.lois_census.proofs.Numbering.{none_of}
use Rattle.lois_picture.proofs.Cases.{all_fit}
use Rattle.lois_picture.proofs.pictures.draw.Goals as goal

pub find_case-requires : goal.find_case-requires
find_case-requires g c =
    let r = c.args.results.now in
    all_fit r.order r.parameters r.cases (none_of r.parameters (omega arith)) c.requires.sound.cases
