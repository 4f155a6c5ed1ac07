-- The list that was put, or was not, is what is answered: the list in the room, or refusal 7. Assumes nothing.
use Prim.Native.Nat.{ℕ, ◌*◌, ◌<◌, ◌≤◌}
use mathlib.Core.Path.{◌≡◌, refl, sym, ◌∙◌}
use mathlib.Core.List.{List, []}
use native.Mathlib.Omega.{arith}
use borrow.Author.Tests.{lt-ltb, le-ltb}
use lib.ListN.{length}
use Rattle.text.specs.Room.{Put}
use Rattle.text.proofs.Room.{put_front_all, put_front_none}
use Rattle.listing.specs.declared.Listed.{Listed}
use Rattle.listing.specs.Leaks.{Leak, Beside}
use Rattle.listing.specs.Words.{text_of}
use Rattle.listing.specs.Listing.{no_list, too_short, list_from}
use Rattle.writing.specs.Triples.{held, held_in, WrittenAs, NoSecondWritten}

-- ---- all leaks that are found are held, where the numbers are there
pub held_all : (found : List ℕ) (k : ℕ) → k ≤ 4096 → 3 * k ≤ length found → held_in found k ≡ k
unfolding held_in
held_all found k h f = omega (arith, h, f)

-- likewise where the triples are
pub triples_held : (found : List (List ℕ)) (k : ℕ) → k ≤ 4096 → k ≤ length found → held found k ≡ k
triples_held found k h f = omega (arith, h, f)

-- ---- the list and the refusal
module _ (ls : List Leak) (b : Beside) (room : List ℕ) {after : List ℕ} where
  pub written_not : {r : Listed} {next : ℕ} → Put room 0 (text_of ls b.touching b.formerly_held_back) after next → (length (text_of ls b.touching b.formerly_held_back) ≤ length room → ⊥) → r ≡ (no_list [] too_short).result → WrittenAs ls b room r after
  unfolding list_from
  written_not {r} {next} p n e =
      let h : length room < length (text_of ls b.touching b.formerly_held_back) = omega (arith, n) in
      let l = lt-ltb (length room) (length (text_of ls b.touching b.formerly_held_back)) h in
      record { result_is = e ∙ rw l refl; after_is = put_front_none p n ∙ rw l refl }

  pub written_all : {next count : ℕ} → Put room 0 (text_of ls b.touching b.formerly_held_back) after next → length (text_of ls b.touching b.formerly_held_back) ≤ length room → count ≡ length ls → WrittenAs ls b room (record { number = 0; place = 0; length = next; leaks = count; touching = b.touching; tested = b.tested; formerly_held_back = b.formerly_held_back }) after
  unfolding list_from
  written_all {next} {count} p h e =
      let l = le-ltb (length room) (length (text_of ls b.touching b.formerly_held_back)) h in
      let size : next ≡ length (text_of ls b.touching b.formerly_held_back) = put_front_all p h in
      record { result_is = rw (l, size, e) refl; after_is = p.after_is ∙ rw l refl }

pub no_second_written : NoSecondWritten
no_second_written ls c room r s a b p q = (p.result_is ∙ sym q.result_is, p.after_is ∙ sym q.after_is)
