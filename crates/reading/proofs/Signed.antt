-- An i32 by its 32 bits is what the rules read of them. Assumes nothing.
use Prim.Native.Nat.{ℕ, ◌<◌}
use mathlib.Core.Path.{◌≡◌, refl}
use mathlib.Core.Bool.{Bool, true, false}
use lib.Dec.{ltb}
use borrow.Author.Tests.{lt-ltb}
use mir.Syntax.{w32}
use mir.Val.{to_z}
use Rattle.layout.specs.Bytes.{signed}

pub signed_is : (v : ℕ) → v < 4294967296 → to_z w32 v ≡ signed v
unfolding signed
signed_is v l = go (ltb v 2147483648) refl
  where
    go : (b : Bool) → ltb v 2147483648 ≡ b → to_z w32 v ≡ signed v
    go true h = rw h refl
    go false h = rw (h, lt-ltb v 4294967296 l) refl
