-- A slice as arrays of n elements: array i is the n elements from n * i on. Assumes nothing.
use Prim.Native.Nat.{ℕ, zero, suc, ◌+◌, ◌-◌, ◌*◌, ◌<◌, ◌≤◌}
use mathlib.Core.Path.{◌≡◌, refl, ap, ◌∙◌}
use mathlib.Core.List.{List, [], ◌∷◌, ◌++◌}
use native.Mathlib.Omega.{arith}
use lib.ListN.{length, take, drop, get_or}
use Rattle.std.proofs.Common.{length-drop}
use Rattle.std.proofs.Math.Seq.{take-length}
use Rattle.std.proofs.lemmas.List.{drop-drop, drop-take, take-take}
use Rattle.std.specs.Simd.{first_chunks}

pub length_chunks : {A : Type 0} (n m : ℕ) (xs : List A) → length (first_chunks n m xs) ≡ m
length_chunks n zero xs = refl
length_chunks n (suc m) xs = ap (λ (k : ℕ). suc k) (length_chunks n m (drop n xs))

-- the first of them
pub take_chunks : {A : Type 0} (n m k : ℕ) (xs : List A) → k ≤ m → take k (first_chunks n m xs) ≡ first_chunks n k xs
take_chunks n m zero xs h = refl
take_chunks n zero (suc k) xs h = absurd (omega (arith, h))
take_chunks n (suc m) (suc k) xs h = ap (take n xs ∷◌) (take_chunks n m k (drop n xs) (omega (arith, h)))

pub chunk_is : {A : Type 0} (n m i : ℕ) (xs d : List A) → i < m → get_or (first_chunks n m xs) i d ≡ take n (drop (n * i) xs)
chunk_is n zero i xs d h = absurd (omega (arith, h))
chunk_is n (suc m) zero xs d h = let z : n * 0 ≡ 0 = omega arith in rw z refl
chunk_is n (suc m) (suc i) xs d h = let e : n * suc i ≡ n + n * i = omega arith in chunk_is n m i (drop n xs) d (omega (arith, h)) ∙ (ap (take n) (drop-drop (n * i) n xs) ∙ rw e refl)

-- what stands from a place on
pub rest_is : {A : Type 0} (n : ℕ) (xs : List A) → take (length xs - n) (drop n xs) ≡ drop n xs
rest_is n xs = rw (← length-drop n xs) (take-length (drop n xs))

-- one array more
pub last_chunk : {A : Type 0} (n m : ℕ) (xs : List A) → first_chunks n (suc m) xs ≡ first_chunks n m xs ++ (take n (drop (n * m) xs) ∷ [])
last_chunk n zero xs = let z : n * 0 ≡ 0 = omega arith in rw z refl
last_chunk n (suc m) xs = let e : n * suc m ≡ n + n * m = omega arith in ap (take n xs ∷◌) (last_chunk n m (drop n xs) ∙ rw (drop-drop (n * m) n xs, e) refl)

-- a part of the front
pub part_of_front : {A : Type 0} (n a t : ℕ) (xs : List A) → a + n ≤ t → take n (drop a (take t xs)) ≡ take n (drop a xs)
part_of_front n a t xs h = let e : t ≡ a + (t - a) = omega arith in ap (λ m. take n (drop a (take m xs))) e ∙ (ap (take n) (drop-take a (t - a) xs) ∙ take-take n (t - a) (drop a xs) (omega arith))
