-- Things of the same width, one after the other: how long they are together, where each stands, and when they are the front of some bytes. Assumes nothing.
use Prim.Native.Nat.{ℕ, zero, suc, ◌+◌, ◌*◌, ◌<◌, ◌≤◌}
use mathlib.Core.Path.{◌≡◌, refl, sym, ap, ap₂, subst, ◌∙◌}
use mathlib.Core.Logic.{⊎_elim}
use mathlib.Core.List.{List, ◌++◌, append_assoc}
use native.Mathlib.Omega.{arith}
use native.Mathlib.Nat.{eq-or-lt_of_le, mul-suc}
use lib.ListN.{length, take, drop, length-append}
use lib.Seq.{take-add, take_at, drop_at}
use Rattle.text.specs.Room.{Put}
use Rattle.text.proofs.Room.{Put-none, put_next, Put-length, put_two}
use Rattle.filing.specs.File.{joined}

module _ (bytes : ℕ → List ℕ) (w : ℕ) where
  pub joined_length : ((i : ℕ) → length (bytes i) ≡ w) → (m : ℕ) → length (joined bytes m) ≡ w * m
  unfolding joined
  joined_length h zero = omega arith
  joined_length h (suc m) = length-append (joined bytes m) (bytes m) ∙ (ap₂ ◌+◌ (joined_length h m) (h m) ∙ sym (mul-suc w m))

  -- thing i stands at w times i, whatever follows
  pub joined_at : ((i : ℕ) → length (bytes i) ≡ w) → (m i : ℕ) (rest : List ℕ) → i < m → take w (drop (w * i) (joined bytes m ++ rest)) ≡ bytes i
  unfolding joined
  joined_at h zero i rest l = absurd (omega arith)
  joined_at h (suc m) i rest l = ⊎_elim here (there (joined_at h m i (bytes m ++ rest))) (eq-or-lt_of_le le)
    where
      le : i ≤ m
      le = omega (arith, l)

      seam : (joined bytes m ++ bytes m) ++ rest ≡ joined bytes m ++ (bytes m ++ rest)
      seam = append_assoc (joined bytes m) (bytes m) rest

      here : i ≡ m → take w (drop (w * i) ((joined bytes m ++ bytes m) ++ rest)) ≡ bytes i
      here e = rw e (ap (λ l. take w (drop (w * m) l)) seam ∙ (ap (take w) (drop_at (joined bytes m) (bytes m ++ rest) (w * m) (joined_length h m)) ∙ take_at (bytes m) rest w (h m)))

      there : (i < m → take w (drop (w * i) (joined bytes m ++ (bytes m ++ rest))) ≡ bytes i) → i < m → take w (drop (w * i) ((joined bytes m ++ bytes m) ++ rest)) ≡ bytes i
      there before k = ap (λ l. take w (drop (w * i) l)) seam ∙ before k

  -- things that each are the bytes of a file at their place are the file's front together
  pub joined_front : (file : List ℕ) (m : ℕ) → ((i : ℕ) → i < m → bytes i ≡ take w (drop (w * i) file)) → joined bytes m ≡ take (w * m) file
  unfolding joined
  joined_front file zero h = let z : w * 0 ≡ 0 = omega arith in rw z refl
  joined_front file (suc m) h =
      ap₂ ◌++◌ (joined_front file m (λ i l. h i (omega (arith, l)))) (h m (omega arith)) ∙ (sym (take-add (w * m) w file) ∙ ap (λ n. take n file) (sym (mul-suc w m)))

-- ---- put into a room one after the other, from a place on
module _ (bytes : ℕ → List ℕ) (w : ℕ) (wide : (i : ℕ) → length (bytes i) ≡ w) (room : List ℕ) (at : ℕ) where
  pub joined_none : Put room at (joined bytes 0) room at
  unfolding joined
  joined_none = Put-none room at

  -- the place behind the first j, in a room that has kept its length
  pub joined_next : (j : ℕ) {after : List ℕ} {to : ℕ} → Put room at (joined bytes j) after to → at + w * j ≤ length room → (to ≡ at + w * j) × (length after ≡ length room)
  joined_next j p h = let n = joined_length bytes w wide j in let e = put_next p (rw n h) in (e ∙ ap (λ k. at + k) n, Put-length p)

  -- and one more
  pub joined_more : (j : ℕ) {mid after : List ℕ} {to next : ℕ} → Put room at (joined bytes j) mid to → Put mid to (bytes j) after next → at + (w * j + w) ≤ length room → Put room at (joined bytes (j + 1)) after next
  unfolding joined
  joined_more j {after = after} {next = next} p q h =
      let e : j + 1 ≡ suc j = omega arith in
      subst (λ k. Put room at (joined bytes k) after next) (sym e) (put_two p q (rw (joined_length bytes w wide j, wide j) h))
