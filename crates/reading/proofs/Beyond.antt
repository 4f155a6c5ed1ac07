-- Where no byte is there, all numbers are 0. Assumes nothing.
use Prim.Native.Nat.{ℕ, ◌+◌, ◌≤◌}
use mathlib.Core.Path.{◌≡◌, refl, sym}
use mathlib.Core.List.{List}
use native.Mathlib.Omega.{arith}
use lib.ListN.{length, get_or-eq_default}
use Rattle.layout.specs.Bytes.{u16_at, u32_at, byte_at}
use Rattle.layout.specs.Parts.{entry_from}
use Rattle.layout.specs.declared.Entry.{Entry}

pub none_there : (bytes : List ℕ) (at : ℕ) → length bytes ≤ at → 0 ≡ u32_at bytes at
unfolding u32_at
none_there bytes at h = sym (rw (get_or-eq_default bytes 0 {n = at} h, get_or-eq_default bytes 0 {n = at + 1} (omega arith), get_or-eq_default bytes 0 {n = at + 2} (omega arith), get_or-eq_default bytes 0 {n = at + 3} (omega arith)) refl)

pub no_entry : (bytes : List ℕ) (at : ℕ) → length bytes ≤ at → ◌≡◌ {A = Entry} (record { id = 0; first = 0; count = 0; set = 0; last = 0 }) (entry_from bytes at)
unfolding entry_from u16_at
no_entry bytes at h = rw (← none_there bytes at h, ← none_there bytes (at + 4) (omega (arith, h)), none (at + 8) (omega (arith, h)), none (at + 8 + 1) (omega (arith, h)), none (at + 10) (omega (arith, h)), none (at + 11) (omega (arith, h))) refl
  where
    none : (k : ℕ) → length bytes ≤ k → byte_at bytes k ≡ 0
    none k g = get_or-eq_default bytes 0 {n = k} g
