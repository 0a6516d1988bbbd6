use Rattle.std.proofs.Common.{◌++◌, ap, sym, subst, ◌∙◌, codes}
use Rattle.std.specs.Fmt.{decimal}
use Rattle.lois_base.specs.Names.{IsName}
use Rattle.lois_picture.proofs.NumberNames.{is_number_name}
use Rattle.lois_picture.proofs.texts.name_number.Goals as goal

pub from_bytes-requires : goal.from_bytes-requires
from_bytes-requires c =
    subst IsName (sym (c.deref.ensures.value ∙ (c.in_ok-append_number.ensures ∙ ap (λ z. z ++ decimal c.args.number) (c.in_ok-append.ensures ∙ ap (λ z. z ++ codes "x") c.new-bytes.ensures.items)))) (is_number_name c.args.number c.ranges.number.fits)
