use Rattle.std.proofs.Common.{[], ◌∷◌, sym}
use Rattle.std.specs.Prelude.{codes}
use Rattle.lois_printer.proofs.Written.{enclosed_on_ok}
use Rattle.lois_equal.proofs.texts.append_acceptor_name.Goals as goal

pub returns : goal.returns
returns c =
    enclosed_on_ok c.append-3.result c.args.text.now.items c.append.new.text.items c.append-2.new.text.items c.append-3.new.text.items (codes "accepted by ") c.bytes.result.now c.args.name.now (10 ∷ []) c.in_ok-append.ensures c.in_ok-append-2.ensures c.append-3.ensures (sym c.bytes.ensures.same)
