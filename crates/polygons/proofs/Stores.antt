-- Stores one behind the other put what they store; a text that is put over one store puts what it would without it; and behind a text there is as much room as there was for what follows it. Assumes nothing.
use Prim.Native.Nat.{ℕ, suc, ◌+◌, ◌<◌, ◌≤◌}
use mathlib.Core.Path.{◌≡◌, refl, sym, ap, ◌∙◌}
use mathlib.Core.List.{List, [], ◌∷◌, ◌++◌}
use native.Mathlib.Omega.{arith}
use lib.ListN.{length, set, length-append, length-set}
use lib.Seq.{sets, set-set}
use Rattle.text.specs.Room.{Put}
use Rattle.text.proofs.Room.{laid-sets, put_all, put_next, put_two, Put-length}

pub one-Put : (l : List ℕ) (at a : ℕ) → at + 1 ≤ length l → Put l at (a ∷ []) (set l at a) (at + 1)
one-Put l at a h = put_all l (a ∷ []) at 1 refl h refl

-- ---- over a store
over_store : (text l : List ℕ) (at a : ℕ) → 0 < length text → sets (set l at a) at text ≡ sets l at text
over_store [] l at a h = absurd (omega (arith, h))
over_store (b ∷ text) l at a h = ap (λ r. sets r (suc at) text) (set-set l at a b)

pub Put-over : (room : List ℕ) (a : ℕ) {text after : List ℕ} {at next : ℕ} → Put (set room at a) at text after next → at + length text ≤ length room → 0 < length text → Put room at text after next
Put-over room a {text} {after} {at} {next} p h some =
    let n = length-set room at a in
    let g : at + length text ≤ length (set room at a) = omega (arith, h, n) in
    record {
      after_is = p.after_is ∙ (laid-sets (set room at a) text at g ∙ (over_store text room at a some ∙ sym (laid-sets room text at h)));
      next_is = put_next p g ∙ (put_all room text at (length text) refl h refl).next_is;
    }

-- ---- one text behind another
module _ (xs ys : List ℕ) where
  -- where both fit, the first does
  pub first_fits : (at : ℕ) {n : ℕ} → at + length (xs ++ ys) ≤ n → at + length xs ≤ n
  first_fits at h = let e = length-append xs ys in omega (arith, e, h)

  module _ {room mid : List ℕ} {at p : ℕ} (put : Put room at xs mid p) (fits : at + length (xs ++ ys) ≤ length room) where
    -- behind the first there is room for the second
    pub next_fits : p + length ys ≤ length mid
    next_fits = let e = length-append xs ys in let n = put_next put (omega (arith, e, fits)) in let l = Put-length put in omega (arith, e, fits, n, l)

    -- and put there it is put behind the first
    pub put_then : {after : List ℕ} {q : ℕ} → Put mid p ys after q → Put room at (xs ++ ys) after q
    put_then next = let e = length-append xs ys in put_two put next (omega (arith, e, fits))
