-- Reading in a part of some bytes is reading the bytes at its place. Assumes nothing.
use Prim.Native.Nat.{ℕ, ◌+◌, ◌<◌, ◌≤◌}
use mathlib.Core.Path.{◌≡◌, ap, ◌∙◌}
use mathlib.Core.List.{List}
use native.Mathlib.Omega.{arith}
use native.Mathlib.Nat.{add_assoc}
use lib.ListN.{take, drop}
use lib.Seq.{get_or-take, get_or-drop}
use Rattle.layout.specs.Bytes.{byte_at, u16_at, u32_at, signed, i32_at}
use Rattle.layout.specs.Parts.{entry_from, triangle_from}

module _ (bytes : List ℕ) (a n : ℕ) where
  pub byte_part : (x : ℕ) → x < n → byte_at (take n (drop a bytes)) x ≡ byte_at bytes (a + x)
  byte_part x h = get_or-take n (drop a bytes) x 0 h ∙ get_or-drop a bytes x 0

  two_part : (x : ℕ) → x + 2 ≤ n → u16_at (take n (drop a bytes)) x ≡ u16_at bytes (a + x)
  unfolding u16_at
  two_part x h = rw (byte_part x (omega arith), byte_part (x + 1) (omega arith)) (simp add_assoc)

  pub four_part : (x : ℕ) → x + 4 ≤ n → u32_at (take n (drop a bytes)) x ≡ u32_at bytes (a + x)
  unfolding u32_at
  four_part x h =
      rw (byte_part x (omega arith), byte_part (x + 1) (omega arith), byte_part (x + 2) (omega arith), byte_part (x + 3) (omega arith))
      (simp add_assoc)

  pub number_part : (x : ℕ) → x + 4 ≤ n → i32_at (take n (drop a bytes)) x ≡ i32_at bytes (a + x)
  unfolding i32_at
  number_part x h = ap signed (four_part x h)

  pub entry_part : (x : ℕ) → x + 12 ≤ n → entry_from (take n (drop a bytes)) x ≡ entry_from bytes (a + x)
  unfolding entry_from
  entry_part x h =
      rw (four_part x (omega arith), four_part (x + 4) (omega arith), two_part (x + 8) (omega arith), byte_part (x + 10) (omega arith), byte_part (x + 11) (omega arith))
      (simp add_assoc)

  pub triangle_part : (x : ℕ) → x + 24 ≤ n → triangle_from (take n (drop a bytes)) x ≡ triangle_from bytes (a + x)
  unfolding triangle_from
  triangle_part x h =
      rw (number_part x (omega arith), number_part (x + 4) (omega arith), number_part (x + 8) (omega arith), number_part (x + 12) (omega arith), number_part (x + 16) (omega arith), number_part (x + 20) (omega arith))
      (simp add_assoc)
