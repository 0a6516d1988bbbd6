use Rattle.std.proofs.Common.{◌<◌, length, arith}
use Rattle.lois_lexer.specs.declared.TokenKind.TheVariants.{Word}
use Rattle.lois_script.specs.View.{params_list}
use Rattle.lois_script_printer.proofs.Appending.{◌then◌, last, on_ok_as, parameters_is}
use Rattle.lois_script_printer.proofs.script.put_parameters.Goals as goal

pub returns : goal.returns
returns c =
    let more : 0 < length (params_list c.args.parameters.now) = omega (arith, c.if-len-eq0.false, c.len.ensures.counted) in
    on_ok_as c.put_line_end.result _ _ (parameters_is (params_list c.args.parameters.now) more)
    (last _ _ c.put_line_end.result (c.in_ok-put.ensures Word then c.in_ok-put_names.ensures) c.put_line_end.ensures)
