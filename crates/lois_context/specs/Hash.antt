-- The hash of a context: one number of 64 bits, folded from its size, from the terms of its store and from its lines.
-- A hash is a function of what the context holds, and no more is asked of it: contexts whose hashes differ differ.
use Rattle.std.specs.Prelude.{ℕ, List}
use Rattle.std.specs.List.{fold}
use Rattle.lois_answers.specs.ResultsData.{LineD}
use Rattle.lois_base.specs.Data.{TermD, coll, CompD}
use Rattle.lois_terms.specs.Hash.{mixed, name_hash, term_hash, written_hash}
use Rattle.lois_context.specs.Entered.{items_listed}
use Rattle.lois_context.specs.Slots.{SlotD}
use Rattle.lois_context.specs.declared.contexts.Context.{Context}

-- the hash with those of comprehensions
abbrev pub comps_hash : ℕ → List CompD → ℕ
comps_hash = fold (λ h k. mixed h (written_hash k))

abbrev pub content_hash : ℕ → TermD → ℕ
content_hash h (coll ks) = comps_hash h (items_listed ks)
content_hash h t = term_hash h t

abbrev pub store_hash : ℕ → List SlotD → ℕ
store_hash = fold (λ h s. content_hash h s.term)

abbrev pub lines_hash : ℕ → List LineD → ℕ
lines_hash = fold (λ h l. term_hash (name_hash h l.name) l.term)

abbrev pub hash_of_contents : ℕ × List SlotD × List LineD → ℕ
hash_of_contents (n, s, l) = lines_hash (store_hash n s) l

abbrev pub context_hash : Context → ℕ
context_hash k = hash_of_contents (k.size, k.store, k.lines)
