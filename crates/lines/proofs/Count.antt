-- The edges that cross a line are its pluses times its minuses, over any list of vertices; so none or two of a triangle's. Assumes nothing.
use mathlib.Core.Path.{◌≡◌, refl, ap, ap₂, ◌∙◌}
use mathlib.Core.Logic.{◌⊎◌, inl, inr}
use mathlib.Core.Bool.{Bool, true, false, not, cond}
use mathlib.Core.List.{List, [], ◌∷◌, map}
use Prim.Native.Nat.{ℕ, zero, suc, ◌+◌, ◌*◌}
use native.Mathlib.Omega.{arith}
use native.Mathlib.Nat.{suc-mul, mul-suc}
use lib.ListN.{length}
use Rattle.floats.specs.Lists.{count, differ}
use Rattle.floats.proofs.Lists.{count-append, each, same_by_three}
use Rattle.lines.specs.Lines.{three, start, finish}
use Rattle.lines.specs.Crossings.{crosses, edges_of, splits, crossers}
use Rattle.lines.specs.Round.{edges_across}

-- the edges from a vertex to these
spokes : {A : Type 0} (p : A → Bool) (v : A) (vs : List A) → count (splits p) (map (λ w. (v, w)) vs) ≡ cond (p v) (count (λ w. not (p w)) vs) (count p vs)
unfolding count
spokes p v [] = go (p v)
  where
    go : (b : Bool) → zero ≡ cond b zero zero
    go true = refl
    go false = refl
spokes p v (w ∷ vs) = go (p v) (p w) (spokes p v vs)
  where
    go : (b c : Bool) → count (splits p) (map (λ w. (v, w)) vs) ≡ cond b (count (λ w. not (p w)) vs) (count p vs) →
        cond (differ b c) (suc (count (splits p) (map (λ w. (v, w)) vs))) (count (splits p) (map (λ w. (v, w)) vs))
        ≡ cond b (cond (not c) (suc (count (λ w. not (p w)) vs)) (count (λ w. not (p w)) vs)) (cond c (suc (count p vs)) (count p vs))
    go true true h = h
    go true false h = ap suc h
    go false true h = ap suc h
    go false false h = h

pub product : {A : Type 0} (p : A → Bool) (vs : List A) → crossers p vs ≡ count p vs * count (λ v. not (p v)) vs
unfolding crossers count edges_of
product p [] = refl
product p (v ∷ vs) =
    count-append (splits p) (map (λ w. (v, w)) vs) (edges_of vs)
    ∙ (ap₂ ◌+◌ (spokes p v vs) (product p vs) ∙ go (p v) (count p vs) (count (λ v. not (p v)) vs))
  where
    go : (b : Bool) (m n : ℕ) → cond b n m + m * n ≡ cond b (suc m) m * cond (not b) (suc n) n
    go true m n = omega (arith, suc-mul m n)
    go false m n = omega (arith, mul-suc m n)

-- pluses and minuses are all vertices
total : {A : Type 0} (p : A → Bool) (vs : List A) → count p vs + count (λ v. not (p v)) vs ≡ length vs
unfolding count
total p [] = refl
total p (v ∷ vs) = go (p v) (count p vs) (count (λ v. not (p v)) vs) (total p vs)
  where
    go : (b : Bool) (m n : ℕ) → m + n ≡ length vs → cond b (suc m) m + cond (not b) (suc n) n ≡ suc (length vs)
    go true m n h = omega arith
    go false m n h = omega arith

-- a line and three vertices
pub none_or_two : {A : Type 0} (p : A → Bool) (vs : List A) → length vs ≡ 3 → (crossers p vs ≡ 0) ⊎ (crossers p vs ≡ 2)
none_or_two p vs h = go (count p vs) (count (λ v. not (p v)) vs) (total p vs ∙ h) (product p vs)
  where
    go : (m n : ℕ) → m + n ≡ 3 → crossers p vs ≡ m * n → (crossers p vs ≡ 0) ⊎ (crossers p vs ≡ 2)
    go zero n h k = inl (omega (arith, k))
    go (suc zero) n h k = inr (omega (arith, k))
    go (suc (suc zero)) n h k = inr (omega (arith, k))
    go (suc (suc (suc zero))) n h k = inl (omega (arith, k))
    go (suc (suc (suc (suc m)))) n h k = absurd (omega arith)

-- U's edges run round, 0 to 1, 1 to 2, 2 to 0: they cross a line as often as the edges between its vertices
pub round : (u : ℕ → ℕ → Bool) (a : ℕ) → count (λ e. crosses (u (start e)) (u (finish e)) a) three ≡ edges_across u a
unfolding crossers count edges_of
round u a = same_by_three ends pairs (unfold each in tt) (u 0 a) (u 1 a) (u 2 a)
  where
    one : Bool → ℕ → ℕ
    one b n = cond b (suc n) n

    ends : Bool → Bool → Bool → ℕ
    ends x y z = one (differ x y) (one (differ y z) (one (differ z x) 0))

    pairs : Bool → Bool → Bool → ℕ
    pairs x y z = one (differ x y) (one (differ x z) (one (differ y z) 0))

-- each line is crossed by none or two edges of U
pub across : (u : ℕ → ℕ → Bool) (a : ℕ) → (edges_across u a ≡ 0) ⊎ (edges_across u a ≡ 2)
across u a = none_or_two (λ i. u i a) three refl
