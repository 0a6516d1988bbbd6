-- What holds before each call of a loop that reads, and of one that writes.
use Rattle.std.proofs.Common.{◌≡◌, ℕ, ◌+◌, ◌<◌, ◌≤◌, List, [], ◌++◌, length, take, drop, refl, sym, ap, ◌∙◌, subst, arith, append_assoc, length-append, take-append-drop, Some}
use Rattle.std.proofs.Math.Seq.{take-append_seam}
use Rattle.std.specs.Prelude.{Err, Ok, OnErr, Option, Result}
use Rattle.std.proofs.KnownBytes.{Appends-kept, Appends-nil, Appends-trans, Consumes-nil, Consumes-trans}
use Rattle.std.specs.Io.KnownBytes.{Appends, Consumes, Keeps}
use Rattle.lois_outside.specs.Calls.{TakesPieces, no_take, one_more_take}
use Rattle.lois_outside.specs.Writing.{Writes, no_put, one_more_put, AppendsProperPrefix}

-- the source gave these bytes since the loop began
pub record HasRead {S : Type 0} (left : S → Option (List ℕ)) (faults : S → ℕ) (takes : S → ℕ → Option (List ℕ) → S → Type 0) (most : ℕ) (from : S) (bytes : List ℕ) (to : S) : Type 0 where
  pub fits : length bytes ≤ most
  pub consumed : Consumes (left from) (left to) bytes
  pub count : faults from ≤ faults to
  pub calls : TakesPieces takes most from bytes to

-- the sink took all of the bytes but the rest since the loop began
pub record HasWritten {K : Type 0} (held : K → Option (List ℕ)) (faults : K → ℕ) (puts : K → List ℕ → Option ℕ → K → Type 0) (from : K) (bytes rest : List ℕ) (to : K) : Type 0 where
  pub done : List ℕ
  pub split : bytes ≡ done ++ rest
  pub appended : Appends (held from) (held to) done
  pub count : faults from ≤ faults to
  pub calls : Writes puts from bytes rest to

module _ {S : Type 0} (left : S → Option (List ℕ)) (faults : S → ℕ) (takes : S → ℕ → Option (List ℕ) → S → Type 0) (most : ℕ) (from : S) where
  pub HasRead-nothing : HasRead left faults takes most from [] from
  HasRead-nothing = record { fits = omega arith; consumed = Consumes-nil _; count = omega arith; calls = no_take }

  -- one more call gave the piece, of at most the bytes that it asked for
  pub HasRead-more : (bytes piece : List ℕ) (asked : ℕ) (mid to : S) → HasRead left faults takes most from bytes mid
      → length bytes + asked ≤ most → length piece ≤ asked → Consumes (left mid) (left to) piece → faults mid ≤ faults to
      → takes mid asked (Some piece) to → HasRead left faults takes most from (bytes ++ piece) to
  HasRead-more bytes piece asked mid to before room within gone risen call =
      record {
        fits = omega (arith, length-append bytes piece);
        consumed = Consumes-trans _ _ _ _ _ before.consumed gone;
        count = omega (arith, before.count, risen);
        calls = one_more_take bytes piece asked mid to before.calls room call;
      }

module _ {K : Type 0} (held : K → Option (List ℕ)) (faults : K → ℕ) (puts : K → List ℕ → Option ℕ → K → Type 0) (from : K) (bytes : List ℕ) where
  pub HasWritten-nothing : HasWritten held faults puts from bytes bytes from
  HasWritten-nothing = record { done = []; split = refl; appended = Appends-nil _; count = omega arith; calls = no_put }

  -- one more call took this many bytes of the rest
  pub HasWritten-more : (rest : List ℕ) (taken : ℕ) (mid to : K) → HasWritten held faults puts from bytes rest mid
      → Appends (held mid) (held to) (take taken rest) → faults mid ≤ faults to → puts mid rest (Some taken) to
      → HasWritten held faults puts from bytes (drop taken rest) to
  HasWritten-more rest taken mid to before grown risen call =
      record {
        done = before.done ++ take taken rest;
        split = before.split ∙ ap (λ l. before.done ++ l) (sym (take-append-drop taken rest)) ∙ sym (append_assoc before.done _ _);
        appended = Appends-trans _ _ _ _ _ before.appended grown;
        count = omega (arith, before.count, risen);
        calls = one_more_put rest taken mid to before.calls call;
      }

  -- a call failed while bytes were left, so the sink holds a first part of them that isn't all
  pub HasWritten-failed : (rest : List ℕ) (mid to : K) → HasWritten held faults puts from bytes rest mid
      → 0 < length rest → Keeps (held mid) (held to) → AppendsProperPrefix (held from) (held to) bytes
  HasWritten-failed rest mid to before some kept =
      let done = before.done in
      let whole : length bytes ≡ length done + length rest = ap length before.split ∙ length-append done rest in
      let first : take (length done) bytes ≡ done = ap (take (length done)) before.split ∙ take-append_seam done rest in
      (length done, omega (arith, whole), subst (Appends (held from) (held to)) (sym first) (Appends-kept _ _ _ _ before.appended kept))

-- what holds, holds of an error
pub on_err : {X E P : Type 0} (r : Result X E) → P → OnErr r P
on_err (Ok x) p = tt
on_err (Err e) p = p
