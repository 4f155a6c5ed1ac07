-- Of a file without a last byte of 1 the list is what it was. Assumes nothing.
use Prim.Native.Nat.{ℕ}
use mathlib.Core.Path.{◌≡◌, sym, ap, ap₂}
use mathlib.Core.Bool.{cond}
use mathlib.Core.List.{List, map, Memᴰ}
use lib.Dec.{eqb, ltb}
use Rattle.layout.specs.Parts.{entry_at}
use Rattle.layout.specs.Recordings.{unless_refused}
use Rattle.layout.specs.Before.{AllOfFirst}
use Rattle.layout.proofs.Before.{said_as_before}
use Rattle.listing.specs.Leaks.{recording_pairs, tally_for, own_for, is_leak, leak_pairs, leak_of, leaks, touching, formerly_held_back, beside}
use Rattle.listing.specs.Words.{text_of, list_text, refused_line}
use Rattle.listing.specs.Listing.{no_list, list_from, list_of, output_of}
use Rattle.listing.proofs.Turns.{kept, passed, filter_same_in}
use Rattle.listing.proofs.Editions.{by_first}
use Rattle.listing.proofs.Demand.{in_pairs, a_pair, any_leaks, leaks_any}
use Rattle.editions.specs.Before.{leak_pairs_before, leaks_before, list_before, output_before, BeforeExactlyIf, ListedAsBefore}

pub before_exactly_if : BeforeExactlyIf
unfolding leak_pairs_before
before_exactly_if file i j = (
  (λ m. let r = passed (λ p. ltb 0 (tally_for file p).overlapping) (recording_pairs file) m in (in_pairs file r.0, any_leaks file i j r.1)),
  (λ h. kept (λ p. ltb 0 (tally_for file p).overlapping) (recording_pairs file) (a_pair file i j h.0) (leaks_any file i j h.1)),
)

module _ (file : List ℕ) (none : AllOfFirst file) where
  leak_as_before : (p : ℕ × ℕ) → Memᴰ p (recording_pairs file) → ltb 0 (tally_for file p).overlapping ≡ is_leak file p
  leak_as_before p m = sym (by_first (entry_at file p.0).last (own_for file p.0) (tally_for file p) (none p.0 (in_pairs file m).recording))

  leaks_as_before : leaks_before file ≡ leaks file
  unfolding leaks_before leak_pairs_before leaks leak_pairs
  leaks_as_before = ap (map (leak_of file)) (filter_same_in (λ p. ltb 0 (tally_for file p).overlapping) (is_leak file) (recording_pairs file) leak_as_before)

pub listed_as_before : ListedAsBefore
unfolding list_before list_of output_before output_of list_text unless_refused
listed_as_before file room none = (
  ap₂ (λ v ls. cond (eqb v.number 0) (list_from ls (beside file) room) (no_list room v)) (said_as_before file none) (leaks_as_before file none),
  ap₂ (λ v ls. cond (eqb v.number 0) (text_of ls (touching file) (formerly_held_back file)) (refused_line v)) (said_as_before file none) (leaks_as_before file none),
)
