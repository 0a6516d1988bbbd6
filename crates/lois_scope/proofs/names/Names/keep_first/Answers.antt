use Rattle.std.proofs.Common.{◌∙◌, ap, sym, map}
use Rattle.std.proofs.lemmas.List.{take-map}
use Rattle.lois_scope.proofs.Lookup.{entry}
use Rattle.lois_scope.proofs.names.Names.keep_first.Goals as goal

pub returns : goal.returns
returns c = record { kept = ap (map entry) c.truncate.ensures.entries ∙ sym (take-map entry c.args.count c.args.self.now.made.entries) }
