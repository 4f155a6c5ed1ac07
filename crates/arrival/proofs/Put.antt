-- Bytes that are put into a buffer from a place on: as much of them as there is space for stands there, and the rest of the buffer is kept; pieces that are put one behind the other are put as one. Assumes nothing.
use Prim.Native.Nat.{ℕ, ◌+◌, ◌-◌, ◌<◌, ◌≤◌}
use mathlib.Core.Path.{◌≡◌, refl, ap, sym, ◌∙◌}
use mathlib.Core.Bool.{Bool, true, false}
use mathlib.Core.List.{List, [], ◌++◌, append_assoc}
use native.Mathlib.Omega.{arith}
use native.Mathlib.Nat.{zero-add}
use lib.Dec.{leb}
use lib.ListN.{length, take, drop, length-append, length-take, length-drop, drop_of_length-le}
use lib.Seq.{length-take-le, take_all, take-length, take-append_seam, take-append-le, take-append-add, take-take, drop-drop, take_at, drop_at}
use borrow.Author.Tests.{leb-true, leb-false}
use Rattle.arrival.specs.Calls.{put_at, counted}

module _ (buffer : List ℕ) (at : ℕ) (bytes : List ℕ) where
  -- bytes that fill the buffer: as much of their front as there is space for, whatever would lie behind them
  filled : (rest : List ℕ) → at ≤ length buffer → length buffer ≤ at + length bytes → take (length buffer) (take at buffer ++ (bytes ++ rest)) ≡ take at buffer ++ take (length buffer - at) bytes
  filled rest h g =
      let t = length-take-le at buffer h in
      let n : length buffer ≡ length (take at buffer) + (length buffer - at) = omega (arith, t, h) in
      ap (λ m. take m (take at buffer ++ (bytes ++ rest))) n
      ∙ (take-append-add (take at buffer) (bytes ++ rest) (length buffer - at)
      ∙ ap (λ r. take at buffer ++ r) (take-append-le (length buffer - at) bytes rest (omega (arith, g))))

  pub put_full : at ≤ length buffer → length buffer ≤ at + length bytes → put_at buffer at bytes ≡ take at buffer ++ take (length buffer - at) bytes
  unfolding put_at
  put_full h g = filled _ h g

  all_length : length (take at buffer ++ (bytes ++ drop (at + length bytes) buffer)) ≡ length (take at buffer) + (length bytes + (length buffer - (at + length bytes)))
  all_length = length-append (take at buffer) (bytes ++ drop (at + length bytes) buffer) ∙ ap (λ n. length (take at buffer) + n) (length-append bytes (drop (at + length bytes) buffer) ∙ ap (λ n. length bytes + n) (length-drop (at + length bytes) buffer))

  -- bytes for which there is space
  pub put_whole : at + length bytes ≤ length buffer → put_at buffer at bytes ≡ take at buffer ++ (bytes ++ drop (at + length bytes) buffer)
  unfolding put_at
  put_whole h =
      let l = all_length in
      let t = length-take-le at buffer (omega (arith, h)) in
      take_all (length buffer) (take at buffer ++ (bytes ++ drop (at + length bytes) buffer)) (omega (arith, l, t, h))

  -- from a place that is not in the buffer nothing is put
  pub put_past : length buffer ≤ at → put_at buffer at bytes ≡ buffer
  unfolding put_at
  put_past h = ap (λ b. take (length buffer) (b ++ (bytes ++ drop (at + length bytes) buffer))) (take_all at buffer h) ∙ take-append_seam buffer (bytes ++ drop (at + length bytes) buffer)

  -- the buffer keeps its length
  pub put_length : length (put_at buffer at bytes) ≡ length buffer
  unfolding put_at
  put_length =
      let l = all_length in
      let t = length-take at buffer in
      length-take-le (length buffer) (take at buffer ++ (bytes ++ drop (at + length bytes) buffer)) (omega (arith, l, t))

  -- what lies before the place stays
  pub put_before : take at (put_at buffer at bytes) ≡ take at buffer
  put_before = go (leb at (length buffer)) refl
    where
      front : at ≤ length buffer → (rest : List ℕ) → take at (take at buffer ++ rest) ≡ take at buffer
      front h rest = take_at (take at buffer) rest at (length-take-le at buffer h)

      fits : (b : Bool) → leb (at + length bytes) (length buffer) ≡ b → at ≤ length buffer → take at (put_at buffer at bytes) ≡ take at buffer
      fits true e h = ap (take at) (put_whole (leb-true (at + length bytes) (length buffer) e)) ∙ front h (bytes ++ drop (at + length bytes) buffer)
      fits false e h = let g = leb-false (at + length bytes) (length buffer) e in ap (take at) (put_full h (omega (arith, g))) ∙ front h (take (length buffer - at) bytes)

      go : (b : Bool) → leb at (length buffer) ≡ b → take at (put_at buffer at bytes) ≡ take at buffer
      go true e = fits (leb (at + length bytes) (length buffer)) refl (leb-true at (length buffer) e)
      go false e = let g = leb-false at (length buffer) e in ap (take at) (put_past (omega (arith, g)))

  -- and so does what lies behind the bytes
  pub put_beyond : drop (at + length bytes) (put_at buffer at bytes) ≡ drop (at + length bytes) buffer
  put_beyond = go (leb (at + length bytes) (length buffer)) refl
    where
      go : (b : Bool) → leb (at + length bytes) (length buffer) ≡ b → drop (at + length bytes) (put_at buffer at bytes) ≡ drop (at + length bytes) buffer
      go true e =
          let h = leb-true (at + length bytes) (length buffer) e in
          let t = length-take-le at buffer (omega (arith, h)) in
          ap (drop (at + length bytes)) (put_whole h ∙ sym (append_assoc (take at buffer) bytes (drop (at + length bytes) buffer)))
          ∙ drop_at (take at buffer ++ bytes) (drop (at + length bytes) buffer) (at + length bytes) (length-append (take at buffer) bytes ∙ ap (λ n. n + length bytes) t)
      go false e =
          let g = leb-false (at + length bytes) (length buffer) e in
          let l = put_length in
          drop_of_length-le (put_at buffer at bytes) {i = at + length bytes} (omega (arith, g, l)) ∙ sym (drop_of_length-le buffer {i = at + length bytes} (omega (arith, g)))

-- ---- from the front
module _ (lent file : List ℕ) where
  pub put_front : put_at lent 0 file ≡ take (length lent) (file ++ drop (length file) lent)
  unfolding put_at
  put_front = ap (λ n. take (length lent) (file ++ drop n lent)) (zero-add (length file))

  -- a file for which there is space stands at the front
  pub front_is : length file ≤ length lent → take (length file) (put_at lent 0 file) ≡ file
  front_is h = ap (take (length file)) put_front ∙ (take-take (length file) (length lent) (file ++ drop (length file) lent) h ∙ take-append_seam file (drop (length file) lent))

  -- one that passes the buffer's end fills it
  front_full : length lent ≤ length file → put_at lent 0 file ≡ take (length lent) file
  front_full h = put_front ∙ take-append-le (length lent) file (drop (length file) lent) h

pub put_nothing : (lent : List ℕ) → put_at lent 0 [] ≡ lent
put_nothing lent = put_front lent [] ∙ take-length lent

-- pieces one behind the other, in a buffer of 65,536 bytes
module _ (lent file bytes : List ℕ) (size : length lent ≡ 65536) where
  -- what a buffer with this length, this front and this rest becomes
  put_on : (buffer : List ℕ) → length buffer ≡ length lent → take (length file) buffer ≡ file → drop (length file + length bytes) buffer ≡ drop (length file + length bytes) lent → put_at buffer (length file) bytes ≡ take (length lent) (file ++ (bytes ++ drop (length file + length bytes) lent))
  unfolding put_at
  put_on buffer l f r = rw (l, f, r) refl

  rest_is : drop (length file + length bytes) (put_at lent 0 file) ≡ drop (length file + length bytes) lent
  rest_is =
      sym (drop-drop (length bytes) (length file) (put_at lent 0 file))
      ∙ (ap (drop (length bytes)) (ap (λ n. drop n (put_at lent 0 file)) (sym (zero-add (length file))) ∙ (put_beyond lent 0 file ∙ ap (λ n. drop n lent) (zero-add (length file)))) ∙ drop-drop (length bytes) (length file) lent)

  together : length file ≤ length lent → put_at (put_at lent 0 file) (length file) bytes ≡ put_at lent 0 (file ++ bytes)
  together h =
      put_on (put_at lent 0 file) (put_length lent 0 file) (front_is lent file h) rest_is
      ∙ (ap (take (length lent)) (sym (append_assoc file bytes (drop (length file + length bytes) lent)) ∙ ap (λ n. file ++ bytes ++ drop n lent) (sym (length-append file bytes))) ∙ sym (put_front lent (file ++ bytes)))

  pub put_next : put_at (put_at lent 0 file) (counted (length file)) bytes ≡ put_at lent 0 (file ++ bytes)
  put_next = go (leb (length file) (length lent)) refl
    where
      n : length file ≤ length lent → counted (length file) ≡ length file
      n h = omega (arith, h, size)

      m : length lent < length file → counted (length file) ≡ 65537
      m h = omega (arith, h, size)

      go : (b : Bool) → leb (length file) (length lent) ≡ b → put_at (put_at lent 0 file) (counted (length file)) bytes ≡ put_at lent 0 (file ++ bytes)
      go true e = let h = leb-true (length file) (length lent) e in ap (λ k. put_at (put_at lent 0 file) k bytes) (n h) ∙ together h
      go false e =
          let h = leb-false (length file) (length lent) e in
          let l = put_length lent 0 file in
          let k = m h in
          let j = length-append file bytes in
          put_past (put_at lent 0 file) (counted (length file)) bytes (omega (arith, l, k, size))
          ∙ (front_full lent file (omega (arith, h))
          ∙ (sym (take-append-le (length lent) file bytes (omega (arith, h))) ∙ sym (front_full lent (file ++ bytes) (omega (arith, h, j)))))
