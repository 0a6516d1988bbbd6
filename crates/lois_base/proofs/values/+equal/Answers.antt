use Rattle.std.proofs.Common.{ap}
use Rattle.lois_base.specs.Data.{tup, coll, terms_of, comps_of}
use Rattle.lois_base.proofs.Parts.{tuples_same, sets_same}
use Rattle.lois_base.proofs.values.+equal.Goals as goal

pub Term::is_equal-returns-in-Tup-Tup : goal.Term::is_equal-returns-in-Tup-Tup
Term::is_equal-returns-in-Tup-Tup t c =
    rw (c.in-Tup-Tup.is-0, c.in-Tup-Tup.is-1) (
      λ h. ap (λ ts. tup (terms_of ts)) (c.is_equal.ensures.0 h),
      λ e. c.is_equal.ensures.1 (tuples_same c.in-Tup-Tup.parts c.in-Tup-Tup.partners e),
    )

pub Term::is_equal-returns-in-Coll-Coll : goal.Term::is_equal-returns-in-Coll-Coll
Term::is_equal-returns-in-Coll-Coll t c =
    rw (c.in-Coll-Coll.is-0, c.in-Coll-Coll.is-1) (
      λ h. ap (λ cs. coll (comps_of cs)) (c.is_equal-in-Coll-Coll.ensures.0 h),
      λ e. c.is_equal-in-Coll-Coll.ensures.1 (sets_same c.in-Coll-Coll.comps c.in-Coll-Coll.partners e),
    )
