-- Four stores, one behind the other, are a run of four. Assumes nothing.
use Prim.Native.Nat.{ℕ, ◌+◌, ◌-◌, ◌*◌, ◌/◌, ◌<◌, ◌≤◌}
use mathlib.Core.Path.{◌≡◌, refl, sym, ap, subst, ◌∙◌}
use mathlib.Core.List.{List}
use native.Mathlib.Omega.{arith}
use lib.IntN.{ℤ, pos, negsuc}
use lib.ListN.{length, get_or}
use mir.Val.{of_z}
use mir.Syntax.{w32}
use borrow.Rule.Slice.PartMut.{put_mid}
use Rattle.std.specs.Int.{to_le_bytes, cast_unsigned}
use Rattle.text.specs.Room.{Put}
use Rattle.filing.specs.File.{in_four, bits_of, joined, number_bytes}
use Rattle.filing.proofs.Joined.{joined_length, joined_next, joined_more}
use Rattle.text.proofs.Room.{Put-nothing, put_part}

-- four bytes of a number, the lowest first, are std's
pub in_le_bytes : (v : ℕ) → to_le_bytes w32 v ≡ in_four v
in_le_bytes v = refl

pub bits_are : (z : ℤ) → cast_unsigned w32 z ≡ bits_of z
bits_are (pos n) = refl
bits_are (negsuc n) = refl

-- the bytes of number j of a list
abbrev pub bytes_of : List ℤ → ℕ → List ℕ
bytes_of numbers j = in_four (bits_of (get_or numbers j (pos 0)))

pub one_more : {room mid part : List ℕ} {to : ℕ} (numbers : List ℤ) (z : ℤ) (j : ℕ) → j < length numbers → 4 * length numbers ≤ length room → to ≡ 4 * j → Put room 0 (joined (bytes_of numbers) j) mid to → z ≡ get_or numbers j (pos 0) → part ≡ to_le_bytes w32 (cast_unsigned w32 z) → Put room 0 (joined (bytes_of numbers) (j + 1)) (put_mid to (to + 4 - to) mid part) (to + 4)
one_more {room} {mid} {part} {to} numbers z j l h t p e b =
    let n = joined_next (bytes_of numbers) 4 (λ k. refl) room 0 j p (omega (arith, l, h)) in
    joined_more (bytes_of numbers) 4 (λ k. refl) room 0 j p (put_part mid (bytes_of numbers j) to (omega (arith, n.1, t, l, h), refl) (b ∙ (in_le_bytes _ ∙ ap in_four (bits_are z ∙ ap bits_of e)))) (omega (arith, l, h))

pub all_Put : {room after : List ℕ} {to : ℕ} (numbers : List ℤ) (j : ℕ) → j ≡ length numbers → Put room 0 (joined (bytes_of numbers) j) after to → Put room 0 (number_bytes numbers) after to
unfolding number_bytes
all_Put {room} {after} {to} numbers j e p = subst (λ k. Put room 0 (joined (bytes_of numbers) k) after to) e p

pub no_numbers : (room : List ℕ) (numbers : List ℤ) → length room / 4 < length numbers → Put room 0 (number_bytes numbers) room 0
unfolding number_bytes
no_numbers room numbers h = Put-nothing room (joined (bytes_of numbers) (length numbers)) 0 (4 * length numbers) (sym (joined_length (bytes_of numbers) 4 (λ k. refl) (length numbers))) (omega (arith, h))
