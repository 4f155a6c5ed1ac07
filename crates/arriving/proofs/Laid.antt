-- As much of some bytes as there is space for, laid from a place on, is what they leave of the buffer. Assumes nothing.
use Prim.Native.Nat.{ℕ, ◌+◌, ◌-◌, ◌<◌, ◌≤◌}
use mathlib.Core.Path.{◌≡◌, refl, ap, sym, ◌∙◌}
use mathlib.Core.Bool.{Bool, true, false}
use mathlib.Core.List.{List, ◌++◌, append_assoc, append-nil}
use native.Mathlib.Omega.{arith}
use lib.Dec.{leb}
use lib.ListN.{length, take, drop, drop_of_length-le}
use lib.Seq.{take_all, length-take-le}
use borrow.Author.Tests.{leb-true, leb-false}
use Rattle.text.specs.Room.{laid}
use Rattle.text.proofs.Room.{laid_whole}
use Rattle.arrival.specs.Calls.{put_at}
use Rattle.arrival.proofs.Put.{put_whole, put_full}

module _ (buffer bytes : List ℕ) (at : ℕ) (h : at ≤ length buffer) where
  fitting : at + length bytes ≤ length buffer → laid buffer at bytes ≡ put_at buffer at bytes
  fitting g = laid_whole buffer bytes at g ∙ (append_assoc (take at buffer) bytes (drop (at + length bytes) buffer) ∙ sym (put_whole buffer at bytes g))

  cut : length buffer < at + length bytes → laid buffer at (take (length buffer - at) bytes) ≡ put_at buffer at bytes
  cut g =
      let n = length-take-le (length buffer - at) bytes (omega (arith, g)) in
      laid_whole buffer (take (length buffer - at) bytes) at (omega (arith, n, h))
      ∙ (ap (λ r. take at buffer ++ take (length buffer - at) bytes ++ r) (drop_of_length-le buffer {i = at + length (take (length buffer - at) bytes)} (omega (arith, n, h)))
      ∙ (append-nil (take at buffer ++ take (length buffer - at) bytes) ∙ sym (put_full buffer at bytes h (omega (arith, g)))))

  pub laid_as_put : laid buffer at (take (length buffer - at) bytes) ≡ put_at buffer at bytes
  laid_as_put = go (leb (at + length bytes) (length buffer)) refl
    where
      go : (b : Bool) → leb (at + length bytes) (length buffer) ≡ b → laid buffer at (take (length buffer - at) bytes) ≡ put_at buffer at bytes
      go true e =
          let g = leb-true (at + length bytes) (length buffer) e in
          ap (laid buffer at) (take_all (length buffer - at) bytes (omega (arith, g, h))) ∙ fitting g
      go false e = cut (leb-false (at + length bytes) (length buffer) e)
