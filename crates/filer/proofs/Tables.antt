-- The entries one behind the other. Assumes nothing.
use Prim.Native.Nat.{ℕ, suc, ◌+◌, ◌*◌, ◌%◌, ◌≤◌, ◌<◌}
use mathlib.Core.Path.{◌≡◌, refl, sym, ap, ap₂, subst, ◌∙◌}
use mathlib.Core.List.{List, []}
use native.Mathlib.Omega.{arith}
use lib.ListN.{length, get_or}
use Rattle.text.specs.Room.{Put}
use Rattle.text.proofs.Room.{put_as}
use Rattle.filing.specs.Given.{Given, given_of, entry_by, recordings, id_at, count_at, set_at, last_at, sum_to, sum_of, entry_of}
use Rattle.filing.specs.File.{entry_bytes, joined, table_bytes}
use Rattle.filing.proofs.Fit.{sum_up}
use Rattle.filing.proofs.Joined.{joined_none, joined_next, joined_more}
use Rattle.storing.specs.Stored.{stored}

module _ (g : Given) where
  -- the bytes of the entry of recording i
  abbrev pub bytes_of : ℕ → List ℕ
  bytes_of i = entry_bytes (entry_of g i)

  twelve : (i : ℕ) → length (bytes_of i) ≡ 12
  unfolding entry_bytes
  twelve i = refl

  pub no_entries : (room : List ℕ) (at : ℕ) → Put room at (joined bytes_of 0) room at
  no_entries room at = joined_none bytes_of 12 twelve room at

  -- where the next entry stands
  pub next_at : (room : List ℕ) (at i : ℕ) {mid : List ℕ} {to : ℕ} → Put room at (joined bytes_of i) mid to → at + 12 * i ≤ length room → (to ≡ at + 12 * i) × (length mid ≡ length room)
  next_at room at i p h = joined_next bytes_of 12 twelve room at i p h

  pub entry_bytes_lem : (i first : ℕ) → first ≡ 24 * sum_to g i → entry_bytes (entry_by (id_at g i) first (count_at g i) (set_at g i) (last_at g i)) ≡ bytes_of i
  unfolding entry_of
  entry_bytes_lem i first e = ap (λ f. entry_bytes (entry_by (id_at g i) f (count_at g i) (set_at g i) (last_at g i))) e

  -- it is put whole: its set and its last byte are bytes
  pub one_more : (room : List ℕ) (at i first set last : ℕ) {mid after : List ℕ} {to next : ℕ} → at + (12 * i + 12) ≤ length room → first ≡ 24 * sum_to g i → set ≡ set_at g i → set_at g i < 256 → last ≡ last_at g i → last_at g i < 256 →
      Put room at (joined bytes_of i) mid to → Put mid to (entry_bytes (stored (entry_by (id_at g i) first (count_at g i) set last))) after next → Put room at (joined bytes_of (i + 1)) after next
  one_more room at i first set last h f s sh l lh p q =
      joined_more bytes_of 12 twelve room at i p (put_as (ap₂ (λ s l. entry_bytes (entry_by (id_at g i) first (count_at g i) s l)) (low s sh) (low l lh) ∙ entry_bytes_lem i first f) q) h
    where
      low : {n m : ℕ} → n ≡ m → m < 256 → n % 256 ≡ m
      low e h = omega (arith, e, h)

  pub all_entries : (room : List ℕ) (at i : ℕ) {after : List ℕ} {to : ℕ} → i ≡ recordings g → Put room at (joined bytes_of i) after to → Put room at (table_bytes g) after to
  unfolding table_bytes
  all_entries room at i {after} {to} e p = subst (λ n. Put room at (joined bytes_of n) after to) e p

-- the next place lies below the table's
pub next_first : (counts : List ℕ) (n i first : ℕ) → i < n → first ≡ 24 * sum_of counts i → 24 * sum_of counts n ≤ 65536 → (first + 24 * get_or counts i 0 ≤ 65536) × (first + 24 * get_or counts i 0 ≡ 24 * sum_of counts (i + 1))
unfolding sum_of
next_first counts n i first l e h =
    let up = sum_up (given_of [] counts [] [] []) n (suc i) (omega (arith, l)) in
    let q : i + 1 ≡ suc i = omega arith in
    (omega (arith, up, e, h), omega (arith, e) ∙ ap (λ k. 24 * sum_of counts k) (sym q))
