-- Numbers cut into threes are the triples one behind the other. Assumes nothing.
use Prim.Native.Nat.{ℕ, zero, suc, ◌+◌, ◌*◌, ◌<◌, ◌≤◌}
use mathlib.Core.Path.{◌≡◌, refl, ap, ap₂, ◌∙◌}
use mathlib.Core.List.{List, [], ◌∷◌, ◌++◌, map}
use native.Mathlib.Omega.{arith}
use lib.ListN.{length, get_or, take, drop}
use lib.Seq.{get_or-take}
use Rattle.std.proofs.lemmas.List.{drop-drop, get_or-drop}
use Rattle.std.specs.Simd.{first_chunks}
use Rattle.listing.specs.Leaks.{Leak}
use Rattle.listing.proofs.Turns.{map-append}
use Rattle.std.specs.Prelude.{min, ◌/◌}
use Rattle.writing.specs.Triples.{leak_at, leaks_in, leak_of, held, held_in}

-- one chunk more stands behind those before
chunks_suc : (k : ℕ) (xs : List ℕ) → first_chunks 3 (suc k) xs ≡ first_chunks 3 k xs ++ (take 3 (drop (3 * k) xs) ∷ [])
chunks_suc zero xs = refl
chunks_suc (suc k) xs = let n : 3 + 3 * k ≡ 3 * suc k = omega arith in
    ap (λ cs. take 3 xs ∷ cs) (chunks_suc k (drop 3 xs) ∙ ap (λ ys. first_chunks 3 k (drop 3 xs) ++ (take 3 ys ∷ [])) (drop-drop (3 * k) 3 xs ∙ ap (λ m. drop m xs) n))

pub chunks_take : (n k : ℕ) (xs : List ℕ) → n ≤ k → take n (first_chunks 3 k xs) ≡ first_chunks 3 n xs
chunks_take zero k xs h = refl
chunks_take (suc n) zero xs h = absurd (omega (arith, h))
chunks_take (suc n) (suc k) xs h = ap (λ cs. take 3 xs ∷ cs) (chunks_take n k (drop 3 xs) (omega (arith, h)))

-- a chunk as a leak is the triple
chunk_leak : (k : ℕ) (xs : List ℕ) → leak_of (take 3 (drop (3 * k) xs)) ≡ leak_at xs k
chunk_leak k xs = rw (number 0 (omega arith), number 1 (omega arith), number 2 (omega arith)) (ap (λ i. named (get_or xs i 0)) (omega arith))
  where
    named : ℕ → Leak
    named test = record { test = test; train = get_or xs (3 * k + 1) 0; pairs = get_or xs (3 * k + 2) 0 }

    number : (j : ℕ) → j < 3 → get_or (take 3 (drop (3 * k) xs)) j 0 ≡ get_or xs (3 * k + j) 0
    number j h = get_or-take 3 (drop (3 * k) xs) j 0 h ∙ get_or-drop (3 * k) xs j 0

pub chunks_leaks : (k : ℕ) (xs : List ℕ) → map leak_of (first_chunks 3 k xs) ≡ leaks_in xs k
unfolding leaks_in
chunks_leaks zero xs = refl
chunks_leaks (suc k) xs =
    ap (map leak_of) (chunks_suc k xs)
    ∙ (map-append leak_of (first_chunks 3 k xs) (take 3 (drop (3 * k) xs) ∷ []) ∙ ap₂ (λ ls l. ls ++ (l ∷ [])) (chunks_leaks k xs) (chunk_leak k xs))

-- of k leaks those that there are numbers for are those that there are triples for
pub chunks_held : (xs : List ℕ) (k : ℕ) → map leak_of (take (held (first_chunks 3 (length xs / 3) xs) k) (first_chunks 3 (length xs / 3) xs)) ≡ leaks_in xs (held_in xs k)
unfolding held_in
chunks_held xs k =
    ap (λ n. map leak_of (take (min k (min n 4096)) (first_chunks 3 (length xs / 3) xs))) (how_many (length xs / 3) xs)
    ∙ (ap (map leak_of) (chunks_take (min k (min (length xs / 3) 4096)) (length xs / 3) xs (omega arith)) ∙ chunks_leaks (min k (min (length xs / 3) 4096)) xs)
  where
    how_many : (k : ℕ) (xs : List ℕ) → length (first_chunks 3 k xs) ≡ k
    how_many zero xs = refl
    how_many (suc k) xs = ap suc (how_many k (drop 3 xs))
