-- Two results of writing are the same if a test says so, which can be computed. Assumes nothing.
use Prim.Native.Nat.{ℕ}
use mathlib.Core.Path.{◌≡◌, refl}
use mathlib.Core.Bool.{Bool, ◌&&◌}
use lib.Dec.{T, eqb, eqb→eq}
use lib.Ieee.Fits.{and_l, and_r}
use Rattle.text.specs.declared.Written.{Written}

unfoldable pub same_written : Written → Written → Bool
same_written a b = eqb a.number b.number && (eqb a.place b.place && eqb a.length b.length)

written_from : ℕ → ℕ → ℕ → Written
written_from number place length = record { number = number; place = place; length = length }

fields : {n n' p p' l l' : ℕ} → n ≡ n' → p ≡ p' → l ≡ l' → written_from n p l ≡ written_from n' p' l'
fields n p l = rw (n, p, l) refl

pub same_written_lem : (a b : Written) → T (same_written a b) → a ≡ b
unfolding same_written written_from
same_written_lem a b t =
    let rest = and_r (eqb a.number b.number) (eqb a.place b.place && eqb a.length b.length) t in
    fields (eqb→eq a.number b.number (and_l (eqb a.number b.number) (eqb a.place b.place && eqb a.length b.length) t))
    (eqb→eq a.place b.place (and_l (eqb a.place b.place) (eqb a.length b.length) rest))
    (eqb→eq a.length b.length (and_r (eqb a.place b.place) (eqb a.length b.length) rest))
