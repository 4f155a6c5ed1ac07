-- The code's way to a triangle's number. Numbers that are counted from the lower end of the range are out of it exactly where the numbers themselves are, and have the same differences, so the same cross; and this is exact in 64 bits: differences
-- stay within 4,000,000, products within 16·10^12. Assumes nothing.
use Prim.Native.Nat.{ℕ, zero, suc, ◌+◌, ◌-◌, ◌<◌, ◌≤◌}
use mathlib.Core.Path.{◌≡◌, refl, sym, ap, ap₂, ◌∙◌}
use mathlib.Core.Bool.{Bool, true, false, ◌||◌, false≢true}
use mathlib.Core.List.{List, [], ◌∷◌}
use lib.ListN.{get_or}
use Rattle.std.specs.List.{list_any}
use native.Mathlib.Omega.{arith}
use lib.Dec.{lit<, eqb, ltb}
use lib.IntN.{ℤ, pos, negsuc, neg_ℤ, nat_abs, ◌+ℤ◌, ◌-ℤ◌, ◌*ℤ◌, +ℤ_assoc, +ℤ_comm, +ℤ_invr, +ℤ_idl, neg_ℤ-+ℤ}
use borrow.Author.Tests.{ltb-true, ltb-false, lt-ltb, le-ltb}
use mir.Val.{SFits, of_z, to_z}
use mir.ValLaws.{to_z-of_z, to_z_pos}
use mir.Syntax.{w64}
use Rattle.floats.specs.Lists.{any}
use Rattle.floats.specs.Whole.{is_nought}
use Rattle.layout.specs.Bytes.{signed}
use Rattle.layout.specs.Parts.{triangle_of}
use Rattle.layout.specs.Rules.{is_far, is_out_of_range, twice_area, is_flat, triangle_rule}
use Rattle.layout.specs.Code.{from_bottom, is_above_top}
use Rattle.layout.proofs.Size.{minus_le, times_le, holds, zero_bits}

-- ---- in 64 bits
-- what the machine reads of a difference of two numbers, and of a product of two differences
abbrev apart : ℕ → ℕ → ℤ
apart a b = to_z w64 (of_z w64 (to_z w64 a -ℤ to_z w64 b))

abbrev product : ℕ → ℕ → ℕ → ℕ → ℤ
product a b c d = to_z w64 (of_z w64 (apart a b *ℤ apart c d))

abbrev In : ℕ → Type 0
In v = v ≤ 2000000

wide_is : (v : ℕ) → In v → to_z w64 v ≡ pos v
wide_is v h = to_z_pos w64 v (omega arith)

difference : (a b : ℕ) → In a → In b → nat_abs (pos a -ℤ pos b) ≤ 4000000
difference a b p q = minus_le (pos a) (pos b) 2000000 2000000 p q

pub apart_fits : (a b : ℕ) → In a → In b → SFits w64 (to_z w64 a -ℤ to_z w64 b)
apart_fits a b p q = rw (wide_is a p, wide_is b q) (holds (pos a -ℤ pos b) 4000000 (difference a b p q) (lit< tt))

apart_is : (a b : ℕ) → In a → In b → apart a b ≡ pos a -ℤ pos b
apart_is a b p q = to_z-of_z w64 _ (apart_fits a b p q) ∙ ap₂ ◌-ℤ◌ (wide_is a p) (wide_is b q)

times : (a b c d : ℕ) → In a → In b → In c → In d → nat_abs ((pos a -ℤ pos b) *ℤ (pos c -ℤ pos d)) ≤ 16000000000000
times a b c d p q r s = times_le (pos a -ℤ pos b) (pos c -ℤ pos d) 4000000 4000000 (difference a b p q) (difference c d r s)

pub product_fits : (a b c d : ℕ) → In a → In b → In c → In d → SFits w64 (apart a b *ℤ apart c d)
product_fits a b c d p q r s = rw (apart_is a b p q, apart_is c d r s) (holds ((pos a -ℤ pos b) *ℤ (pos c -ℤ pos d)) 16000000000000 (times a b c d p q r s) (lit< tt))

product_is : (a b c d : ℕ) → In a → In b → In c → In d → product a b c d ≡ (pos a -ℤ pos b) *ℤ (pos c -ℤ pos d)
product_is a b c d p q r s = to_z-of_z w64 _ (product_fits a b c d p q r s) ∙ ap₂ ◌*ℤ◌ (apart_is a b p q) (apart_is c d r s)

module _ (x0 y0 x1 y1 x2 y2 : ℕ) (a0 : In x0) (b0 : In y0) (a1 : In x1) (b1 : In y1) (a2 : In x2) (b2 : In y2) where
  first : ℤ
  first = (pos x1 -ℤ pos x0) *ℤ (pos y2 -ℤ pos y0)

  second : ℤ
  second = (pos y1 -ℤ pos y0) *ℤ (pos x2 -ℤ pos x0)

  pub cross_fits : SFits w64 (product x1 x0 y2 y0 -ℤ product y1 y0 x2 x0)
  cross_fits = rw (product_is x1 x0 y2 y0 a1 a0 b2 b0, product_is y1 y0 x2 x0 b1 b0 a2 a0)
      (unfold first second in holds (first -ℤ second) 32000000000000 (minus_le first second 16000000000000 16000000000000 (times x1 x0 y2 y0 a1 a0 b2 b0) (times y1 y0 x2 x0 b1 b0 a2 a0)) (lit< tt))

  pub cross_nought : eqb (of_z w64 (product x1 x0 y2 y0 -ℤ product y1 y0 x2 x0)) 0 ≡ is_flat (triangle_of (pos x0) (pos y0) (pos x1) (pos y1) (pos x2) (pos y2))
  unfolding is_flat twice_area
  cross_nought = zero_bits _ cross_fits ∙ ap₂ (λ p q. is_nought (p -ℤ q)) (product_is x1 x0 y2 y0 a1 a0 b2 b0) (product_is y1 y0 x2 x0 b1 b0 a2 a0)

-- ---- counted from the lower end
same_test : (a b c d : ℕ) → (a < b → c < d) → (c < d → a < b) → ltb a b ≡ ltb c d
same_test a b c d to from = go (ltb a b) refl (ltb c d) refl
  where
    go : (p : Bool) → ltb a b ≡ p → (q : Bool) → ltb c d ≡ q → p ≡ q
    go true h true k = refl
    go true h false k = let m = to (ltb-true a b h) in let n = ltb-false c d k in absurd (omega arith)
    go false h true k = let m = from (ltb-true c d k) in let n = ltb-false a b h in absurd (omega arith)
    go false h false k = refl

-- below 2^31; below zero and below the range; below zero and in range
data Where (v : ℕ) : Type 0 where
  plain : v < 2147483648 → Where v
  below : 2147483648 ≤ v → v < 4293967296 → Where v
  under : 4293967296 ≤ v → Where v

where_is : (v : ℕ) → Where v
where_is v = go (ltb v 2147483648) (ltb v 4293967296) refl refl
  where
    go : (a b : Bool) → ltb v 2147483648 ≡ a → ltb v 4293967296 ≡ b → Where v
    go true b p q = plain (ltb-true v 2147483648 p)
    go false true p q = below (ltb-false v 2147483648 p) (ltb-true v 4293967296 q)
    go false false p q = under (ltb-false v 4293967296 q)

plain_is : (v : ℕ) → v < 2147483648 → (from_bottom v ≡ v + 1000000) × (signed v ≡ pos v)
unfolding from_bottom signed
plain_is v h = (rw (lt-ltb v 4293967296 (omega arith)) refl, rw (lt-ltb v 2147483648 h) refl)

minus_is : (v : ℕ) → 2147483648 ≤ v → v < 4294967296 → signed v ≡ negsuc (4294967296 - suc v)
unfolding signed
minus_is v h l = rw (le-ltb v 2147483648 h, lt-ltb v 4294967296 l) refl

above : (v : ℕ) → v < 4293967296 → from_bottom v ≡ v + 1000000
unfolding from_bottom
above v h = rw (lt-ltb v 4293967296 h) refl

beneath : (v : ℕ) → 4293967296 ≤ v → from_bottom v ≡ v - 4293967296
unfolding from_bottom
beneath v h = rw (le-ltb v 4293967296 h) refl

-- out of range from there exactly if out of range
pub far_is : (v : ℕ) → v < 4294967296 → ltb 2000000 (from_bottom v) ≡ is_far (signed v)
far_is v l = go (where_is v)
  where
    go : Where v → ltb 2000000 (from_bottom v) ≡ is_far (signed v)
    go (plain h) = let p = plain_is v h in rw (p.0, p.1) (same_test 2000000 (v + 1000000) 1000000 v (λ m. omega arith) (λ m. omega arith))
    go (below h k) = rw (above v k, minus_is v h l) (lt-ltb 2000000 (v + 1000000) (omega arith) ∙ sym (lt-ltb 1000000 (suc (4294967296 - suc v)) (omega arith)))
    go (under h) = rw (beneath v h, minus_is v (omega arith) l) (le-ltb 2000000 (v - 4293967296) (omega arith) ∙ sym (le-ltb 1000000 (suc (4294967296 - suc v)) (omega arith)))

-- and then 1,000,000 more than the number itself
up_is : (v : ℕ) → v < 4294967296 → from_bottom v ≤ 2000000 → pos (from_bottom v) ≡ signed v +ℤ pos 1000000
up_is v l n = go (where_is v)
  where
    go : Where v → pos (from_bottom v) ≡ signed v +ℤ pos 1000000
    go (plain h) = let p = plain_is v h in rw (p.0, p.1) refl
    go (below h k) = let q = above v k in absurd (omega arith)
    go (under h) =
        let q : v - 4293967296 ≡ 1000000 - suc (4294967296 - suc v) = omega arith in
        rw (beneath v h, minus_is v (omega arith) l, le-ltb 1000000 (suc (4294967296 - suc v)) (omega arith)) (ap pos q)

cancel : (a b c : ℤ) → (a +ℤ c) -ℤ (b +ℤ c) ≡ a -ℤ b
cancel a b c =
    ap ((a +ℤ c) +ℤ◌) (neg_ℤ-+ℤ b c ∙ +ℤ_comm (neg_ℤ b) (neg_ℤ c))
    ∙ (+ℤ_assoc a c (neg_ℤ c +ℤ neg_ℤ b)
    ∙ ap (a +ℤ◌) (sym (+ℤ_assoc c (neg_ℤ c) (neg_ℤ b)) ∙ (ap (◌+ℤ neg_ℤ b) (+ℤ_invr c) ∙ +ℤ_idl (neg_ℤ b))))

-- so differences are the same
apart_same : (v w : ℕ) → v < 4294967296 → w < 4294967296 → In (from_bottom v) → In (from_bottom w) → pos (from_bottom v) -ℤ pos (from_bottom w) ≡ signed v -ℤ signed w
apart_same v w a b p q = ap₂ ◌-ℤ◌ (up_is v a p) (up_is w b q) ∙ cancel (signed v) (signed w) (pos 1000000)

-- ---- of six numbers as stored
pub neither : (a b : Bool) → (a || b) ≡ false → (a ≡ false) × (b ≡ false)
neither true b h = absurd (false≢true (sym h))
neither false b h = (refl, h)

pub all_in : (a b c d e f : ℕ) → is_above_top (a ∷ b ∷ c ∷ d ∷ e ∷ f ∷ []) ≡ false → In a × In b × In c × In d × In e × In f
unfolding any
all_in a b c d e f h =
    let p = neither (ltb 2000000 a) _ h in
    let q = neither (ltb 2000000 b) _ p.1 in
    let r = neither (ltb 2000000 c) _ q.1 in
    let s = neither (ltb 2000000 d) _ r.1 in
    let t = neither (ltb 2000000 e) _ s.1 in
    let u = neither (ltb 2000000 f) _ t.1 in
    (ltb-false _ _ p.0, ltb-false _ _ q.0, ltb-false _ _ r.0, ltb-false _ _ s.0, ltb-false _ _ t.0, ltb-false _ _ u.0)

module _ (x0 y0 x1 y1 x2 y2 : ℕ) (l0 : x0 < 4294967296) (m0 : y0 < 4294967296) (l1 : x1 < 4294967296) (m1 : y1 < 4294967296) (l2 : x2 < 4294967296) (m2 : y2 < 4294967296) where
  range_is : is_above_top (from_bottom x0 ∷ from_bottom y0 ∷ from_bottom x1 ∷ from_bottom y1 ∷ from_bottom x2 ∷ from_bottom y2 ∷ []) ≡ is_out_of_range (triangle_of (signed x0) (signed y0) (signed x1) (signed y1) (signed x2) (signed y2))
  unfolding is_out_of_range any
  range_is = rw (far_is x0 l0, far_is y0 m0, far_is x1 l1, far_is y1 m1, far_is x2 l2, far_is y2 m2) refl

  flat_is : In (from_bottom x0) → In (from_bottom y0) → In (from_bottom x1) → In (from_bottom y1) → In (from_bottom x2) → In (from_bottom y2)
      → is_flat (triangle_of (pos (from_bottom x0)) (pos (from_bottom y0)) (pos (from_bottom x1)) (pos (from_bottom y1)) (pos (from_bottom x2)) (pos (from_bottom y2))) ≡ is_flat (triangle_of (signed x0) (signed y0) (signed x1) (signed y1) (signed x2) (signed y2))
  unfolding is_flat twice_area
  flat_is a0 b0 a1 b1 a2 b2 = rw (apart_same x1 x0 l1 l0 a1 a0, apart_same y2 y0 m2 m0 b2 b0, apart_same y1 y0 m1 m0 b1 b0, apart_same x2 x0 l2 l0 a2 a0) refl

  -- the numbers that the code has counted, and what it is told of them
  module _ {a b c d e f : ℕ} (p : a ≡ from_bottom x0) (q : b ≡ from_bottom y0) (r : c ≡ from_bottom x1) (s : d ≡ from_bottom y1) (t : e ≡ from_bottom x2) (u : f ≡ from_bottom y2) {out : Bool} (o : out ≡ is_above_top (a ∷ b ∷ c ∷ d ∷ e ∷ f ∷ [])) where
    told_range : out ≡ is_out_of_range (triangle_of (signed x0) (signed y0) (signed x1) (signed y1) (signed x2) (signed y2))
    told_range = o ∙ (rw (p, q, r, s, t, u) refl ∙ range_is)

    told_flat : out ≡ false → {zero : Bool} → zero ≡ is_flat (triangle_of (pos a) (pos b) (pos c) (pos d) (pos e) (pos f)) → zero ≡ is_flat (triangle_of (signed x0) (signed y0) (signed x1) (signed y1) (signed x2) (signed y2))
    told_flat h z =
        let n = all_in (from_bottom x0) (from_bottom y0) (from_bottom x1) (from_bottom y1) (from_bottom x2) (from_bottom y2) (range_is ∙ (sym told_range ∙ h)) in
        z ∙ (rw (p, q, r, s, t, u) refl ∙ flat_is n.0 n.1 n.2 n.3 n.4 n.5)

    pub says_17 : out ≡ true → 17 ≡ triangle_rule (triangle_of (signed x0) (signed y0) (signed x1) (signed y1) (signed x2) (signed y2))
    unfolding triangle_rule
    says_17 h = sym (rw (sym told_range ∙ h) refl)

    pub says_18 : out ≡ false → {zero : Bool} → zero ≡ is_flat (triangle_of (pos a) (pos b) (pos c) (pos d) (pos e) (pos f)) → zero ≡ true → 18 ≡ triangle_rule (triangle_of (signed x0) (signed y0) (signed x1) (signed y1) (signed x2) (signed y2))
    unfolding triangle_rule
    says_18 h z k = sym (rw (sym told_range ∙ h, sym (told_flat h z) ∙ k) refl)

    pub says_0 : out ≡ false → {zero : Bool} → zero ≡ is_flat (triangle_of (pos a) (pos b) (pos c) (pos d) (pos e) (pos f)) → zero ≡ false → 0 ≡ triangle_rule (triangle_of (signed x0) (signed y0) (signed x1) (signed y1) (signed x2) (signed y2))
    unfolding triangle_rule
    says_0 h z k = sym (rw (sym told_range ∙ h, sym (told_flat h z) ∙ k) refl)

-- `any` of the rules is that of the library
pub any_is : {A : Type 0} (f : A → Bool) (xs : List A) → any f xs ≡ list_any f xs
unfolding any
any_is f [] = refl
any_is f (x ∷ xs) = ap (f x ||◌) (any_is f xs)

-- where none of these is above the top, each is in range, one beyond the end too
pub within : (numbers : List ℕ) → is_above_top numbers ≡ false → (k : ℕ) → get_or numbers k 0 ≤ 2000000
within [] h k = omega arith
within (n ∷ ns) h zero = ltb-false _ _ (neither (ltb 2000000 n) _ h).0
within (n ∷ ns) h (suc k) = within ns (neither (ltb 2000000 n) _ h).1 k
