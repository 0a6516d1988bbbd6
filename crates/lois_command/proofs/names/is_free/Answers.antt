use Rattle.std.proofs.Common.{ap, ◌∙◌}
use Rattle.lois_command.specs.FreeNames.{is_free}
use Rattle.lois_command.proofs.FreeNames.{formed, unformed}
use Rattle.lois_command.proofs.names.is_free.Goals as goal

pub returns-then-is_name : goal.returns-then-is_name
returns-then-is_name c =
    formed c.as_bytes-bytes.result.now c.is_name.result c.is_reserved.result c.is_name.ensures c.is_reserved.ensures c.if-is_name.true ∙ ap is_free c.as_bytes-bytes.ensures.value

pub returns-else-is_name : goal.returns-else-is_name
returns-else-is_name c =
    c.if-is_name.false ∙ (unformed c.as_bytes-bytes.result.now c.is_name.result c.is_name.ensures c.if-is_name.false ∙ ap is_free c.as_bytes-bytes.ensures.value)
