-- How much was read at most.
use Rattle.std.proofs.Common.{ℕ, ◌+◌, ◌≤◌, List, [], length, refl, subst, inl, Option, Some, None, arith, append-nil}
use Rattle.std.specs.Prelude.{IfErr, Result, Ok, Err}
use Rattle.std.specs.Io.KnownBytes.{Consumes}
use Rattle.lois_outside.specs.Calls.{TakesPieces, no_take, one_more_take}
use Rattle.lois_outside.specs.Reading.{TookAtMost, TookExactly, ReadsToEnd}
use Rattle.lois_command.specs.Calls.{GaveUnder}
use Rattle.lois_command.specs.Sources.{TakeRelation}

module _ {S : Type 0} (left : S → Option (List ℕ)) (takes : TakeRelation S) (limit : ℕ) where
  nothing_taken : (most : ℕ) (at : Option (List ℕ)) → TookAtMost most at at
  nothing_taken most None = ([], tt, omega arith)
  nothing_taken most (Some xs) = ([], refl, omega arith)

  pub gave_nothing : (most : ℕ) (at : S) → GaveUnder left takes limit most at at
  gave_nothing most at = record { bytes = []; calls = inl no_take; few = omega arith; taken = nothing_taken most (left at) }

  to_end : (from to : S) (bytes : List ℕ) → ReadsToEnd takes (limit + 1) from bytes to → TakesPieces takes (limit + 1) from bytes to
  to_end from to bytes (mid, asked, calls, room, some, last) =
      subst (λ bs. TakesPieces takes (limit + 1) from bs to) (append-nil bytes) (one_more_take bytes [] asked mid to calls room last)

  pub gave_text : (most : ℕ) (from to : S) (bytes : List ℕ) → ReadsToEnd takes (limit + 1) from bytes to → length bytes ≤ most → Consumes (left from) (left to) bytes → GaveUnder left takes limit most from to
  gave_text most from to bytes calls few took = record { bytes = bytes; calls = inl (to_end from to bytes calls); few = few; taken = (bytes, took, few) }

  pub more : (few most : ℕ) (a b : Option (List ℕ)) → few ≤ most → TookAtMost few a b → TookAtMost most a b
  more few most a b le (bytes, took, count) = (bytes, took, omega (arith, le, count))

  pub exactly : (n : ℕ) (a b : Option (List ℕ)) → TookExactly n a b → TookAtMost n a b
  exactly n a b (bytes, took, count) = (bytes, took, omega (arith, count))

  pub given : (from to : S) (text : List ℕ) → ReadsToEnd takes (limit + 1) from text to → length text ≤ limit → TookAtMost limit (left from) (left to) → GaveUnder left takes limit (limit + 1) from to
  given from to text calls few took = record { bytes = text; calls = inl (to_end from to text calls); few = omega (arith, few); taken = more limit (limit + 1) (left from) (left to) (omega arith) took }

  pub whatever_error : {X E : Type 0} (most : ℕ) (from to : S) (r : Result X E) → GaveUnder left takes limit most from to → IfErr r (λ e. GaveUnder left takes limit most from to)
  whatever_error most from to (Ok x) h = tt
  whatever_error most from to (Err e) h = h
