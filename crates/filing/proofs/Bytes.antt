-- A number that is stored and read again is the same number, and what is read and stored again is the same bytes. Assumes nothing.
use Prim.Native.Nat.{ℕ, suc, ◌+◌, ◌-◌, ◌*◌, ◌/◌, ◌%◌, ◌<◌, ◌≤◌}
use mathlib.Core.Path.{◌≡◌, refl, sym, ap, ap₂, ◌∙◌}
use mathlib.Core.Bool.{Bool, true, false, cond}
use mathlib.Core.List.{List, [], ◌∷◌, ◌++◌}
use native.Mathlib.Omega.{arith}
use lib.Dec.{ltb}
use lib.IntN.{ℤ, pos, negsuc, nat_abs, ◌-ℤ◌}
use lib.ListN.{length, take, drop}
use lib.Seq.{drop-cons, drop-drop, take-add}
use borrow.Author.Tests.{lt-ltb, le-ltb}
use mir.Val.{SFits}
use mir.Syntax.{w32}
use Rattle.layout.specs.Bytes.{Bytes, two, four, byte_at, u16_at, u32_at, signed, i32_at}
use Rattle.layout.specs.Parts.{entry_from}
use Rattle.layout.specs.declared.Entry.{Entry}
use Rattle.filing.specs.File.{in_two, in_four, bits_of, entry_bytes}

-- ---- stored, then read
pub two_back : (v : ℕ) → v < 65536 → two (v % 256) (v / 256 % 256) ≡ v
two_back v h = omega arith

-- by 256 and again by 256
div_256 : (v : ℕ) → v / 65536 ≡ v / 256 / 256
div_256 v = omega arith

div_65536 : (v : ℕ) → v / 16777216 ≡ v / 65536 / 256
div_65536 v = omega arith

step : (v : ℕ) → v % 256 + v / 256 * 256 ≡ v
step v = omega arith

pub four_back : (v : ℕ) → v < 4294967296 → four (v % 256) (v / 256 % 256) (v / 65536 % 256) (v / 16777216 % 256) ≡ v
four_back v h =
    let s0 = step v in
    let s1 = step (v / 256) in
    let s2 = step (v / 65536) in
    let t : v / 16777216 % 256 ≡ v / 16777216 = top v h in
    sum (v % 256) (v / 256 % 256) (v / 65536 % 256) (v / 16777216 % 256) (v / 256) (v / 65536) (v / 16777216) v s0 (ap (λ q. v / 256 % 256 + q * 256) (div_256 v) ∙ s1) (ap (λ q. v / 65536 % 256 + q * 256) (div_65536 v) ∙ s2) t
  where
    top : (v : ℕ) → v < 4294967296 → v / 16777216 % 256 ≡ v / 16777216
    top v h = let q : v / 16777216 < 256 = omega arith in omega (arith, q)

    sum : (r0 r1 r2 r3 q1 q2 q3 v : ℕ) → r0 + q1 * 256 ≡ v → r1 + q2 * 256 ≡ q1 → r2 + q3 * 256 ≡ q2 → r3 ≡ q3 → four r0 r1 r2 r3 ≡ v
    sum r0 r1 r2 r3 q1 q2 q3 v a b c d = omega arith

-- an i32 by its bits
pub signed_bits : (z : ℤ) → SFits w32 z → signed (bits_of z) ≡ z
unfolding signed
signed_bits (pos n) f = let h : n < 2147483648 = f.sfits in rw (lt-ltb n 2147483648 h) refl
signed_bits (negsuc n) f =
    let h : n < 2147483648 = f.sfits in
    rw (le-ltb (4294967296 - suc n) 2147483648 (omega arith), lt-ltb (4294967296 - suc n) 4294967296 (omega arith))
    (ap negsuc (back n h))
  where
    back : (n : ℕ) → n < 2147483648 → 4294967296 - suc (4294967296 - suc n) ≡ n
    back n h = omega arith

pub bits_signed : (v : ℕ) → v < 4294967296 → bits_of (signed v) ≡ v
unfolding signed
bits_signed v h = go (ltb v 2147483648) refl
  where
    go : (b : Bool) → ltb v 2147483648 ≡ b → bits_of (cond b (pos v) (pos v -ℤ pos 4294967296)) ≡ v
    go true e = refl
    go false e = rw (lt-ltb v 4294967296 h) (omega (arith, h))

pub bits_small : (z : ℤ) → SFits w32 z → bits_of z < 4294967296
bits_small (pos n) f = let h : n < 2147483648 = f.sfits in omega (arith, h)
bits_small (negsuc n) f = omega arith

-- a number within the range of a coordinate is an i32
pub in_i32 : (z : ℤ) → nat_abs z ≤ 1000000 → SFits w32 z
in_i32 (pos n) h = record { sfits = omega arith }
in_i32 (negsuc n) h = record { sfits = omega arith }

-- an entry that fits its twelve bytes
pub entry_back : (e : Entry) → e.id < 4294967296 → e.first < 4294967296 → e.count < 65536 → entry_from (entry_bytes e) 0 ≡ e
unfolding entry_from entry_bytes u32_at u16_at
entry_back e i f c = rw (four_back e.id i, four_back e.first f, two_back e.count c) refl

-- ---- read, then stored
-- the lowest byte, and what is above it
low : (a q : ℕ) → a < 256 → (a + q * 256) % 256 ≡ a
low a q h = omega arith

high : (a q : ℕ) → a < 256 → (a + q * 256) / 256 ≡ q
high a q h = omega arith

small : (a : ℕ) → a < 256 → a % 256 ≡ a
small a h = omega arith

two_again : (a b : ℕ) → a < 256 → b < 256 → in_two (two a b) ≡ a ∷ b ∷ []
two_again a b p q = rw (low a b p, high a b p, small b q) refl

four_again : (a b c d : ℕ) → a < 256 → b < 256 → c < 256 → d < 256 → in_four (four a b c d) ≡ a ∷ b ∷ c ∷ d ∷ []
four_again a b c d p q r s =
    let v = four a b c d in
    let e : v ≡ a + (b + (c + d * 256) * 256) * 256 = omega arith in
    let h1 : v / 256 ≡ b + (c + d * 256) * 256 = ap (λ x. x / 256) e ∙ high a (b + (c + d * 256) * 256) p in
    let h2 : v / 65536 ≡ c + d * 256 = div_256 v ∙ (ap (λ x. x / 256) h1 ∙ high b (c + d * 256) q) in
    let h3 : v / 16777216 ≡ d = div_65536 v ∙ (ap (λ x. x / 256) h2 ∙ high c d r) in
    rw (h1, h2, h3, low b (c + d * 256) q, low c d r, small d s)
    (ap (λ x. x ∷ b ∷ c ∷ d ∷ []) (ap (λ x. x % 256) e ∙ low a (b + (c + d * 256) * 256) p))

module _ (file : List ℕ) (bytes : Bytes file) where
  pub u32_small : (at : ℕ) → u32_at file at < 4294967296
  unfolding u32_at
  u32_small at = omega (arith, bytes at, bytes (at + 1), bytes (at + 2), bytes (at + 3))

  -- the next bytes of the file
  at_front : (at : ℕ) → at < length file → drop at file ≡ byte_at file at ∷ drop (at + 1) file
  at_front at h = let q : suc at ≡ at + 1 = omega arith in drop-cons file at 0 h ∙ ap (λ n. byte_at file at ∷ drop n file) q

  take_two : (at : ℕ) → at + 2 ≤ length file → take 2 (drop at file) ≡ byte_at file at ∷ byte_at file (at + 1) ∷ []
  take_two at h = let q : at + 1 + 1 ≡ at + 2 = omega arith in rw (at_front at (omega arith), at_front (at + 1) (omega arith)) refl

  take_four : (at : ℕ) → at + 4 ≤ length file → take 4 (drop at file) ≡ byte_at file at ∷ byte_at file (at + 1) ∷ byte_at file (at + 2) ∷ byte_at file (at + 3) ∷ []
  take_four at h =
      let q2 : at + 1 + 1 ≡ at + 2 = omega arith in
      let q3 : at + 2 + 1 ≡ at + 3 = omega arith in
      rw (at_front at (omega arith), at_front (at + 1) (omega arith), q2, at_front (at + 2) (omega arith), q3, at_front (at + 3) (omega arith)) refl

  pub two_kept : (at : ℕ) → at + 2 ≤ length file → in_two (u16_at file at) ≡ take 2 (drop at file)
  unfolding u16_at
  two_kept at h = two_again (byte_at file at) (byte_at file (at + 1)) (bytes at) (bytes (at + 1)) ∙ sym (take_two at h)

  pub four_kept : (at : ℕ) → at + 4 ≤ length file → in_four (u32_at file at) ≡ take 4 (drop at file)
  unfolding u32_at
  four_kept at h = four_again (byte_at file at) (byte_at file (at + 1)) (byte_at file (at + 2)) (byte_at file (at + 3)) (bytes at) (bytes (at + 1)) (bytes (at + 2)) (bytes (at + 3)) ∙ sym (take_four at h)

  pub bits_kept : (at : ℕ) → bits_of (i32_at file at) ≡ u32_at file at
  unfolding i32_at
  bits_kept at = bits_signed (u32_at file at) (u32_small at)

  -- a run of bytes in pieces
  piece : (w at a : ℕ) → take w (drop a (drop at file)) ≡ take w (drop (at + a) file)
  piece w at a = ap (take w) (drop-drop a at file)

  eight : (at : ℕ) → at + 8 ≤ length file → in_four (u32_at file at) ++ in_four (u32_at file (at + 4)) ≡ take 8 (drop at file)
  eight at h = ap₂ ◌++◌ (four_kept at (omega arith)) (four_kept (at + 4) (omega arith) ∙ sym (piece 4 at 4)) ∙ sym (take-add 4 4 (drop at file))

  -- the bytes of an entry, and of three numbers
  pub entry_kept : (at : ℕ) → at + 12 ≤ length file → entry_bytes (entry_from file at) ≡ take 12 (drop at file)
  unfolding entry_bytes entry_from
  entry_kept at h =
      let q : at + 10 + 1 ≡ at + 11 = omega arith in
      let pair : byte_at file (at + 10) ∷ byte_at file (at + 11) ∷ [] ≡ take 2 (drop (at + 10) file) = ap (λ n. byte_at file (at + 10) ∷ byte_at file n ∷ []) (sym q) ∙ sym (take_two (at + 10) (omega arith)) in
      let ten = ap₂ ◌++◌ (eight at (omega arith)) (two_kept (at + 8) (omega arith) ∙ sym (piece 2 at 8)) ∙ sym (take-add 8 2 (drop at file)) in
      ap₂ ◌++◌ ten (pair ∙ sym (piece 2 at 10)) ∙ sym (take-add 10 2 (drop at file))

  pub three_kept : (at : ℕ) → at + 12 ≤ length file → in_four (u32_at file at) ++ in_four (u32_at file (at + 4)) ++ in_four (u32_at file (at + 8)) ≡ take 12 (drop at file)
  three_kept at h = ap₂ ◌++◌ (eight at (omega arith)) (four_kept (at + 8) (omega arith) ∙ sym (piece 4 at 8)) ∙ sym (take-add 8 4 (drop at file))
