-- What a tally counts is how many decisions overlap, how many touch, and how many pairs have boxes that share a point; its area is the sum of their areas, and it says whether one is refused; and the decisions of two recordings are those of all their triangle pairs, in order. Assumes nothing.
use Prim.Native.Nat.{ℕ, zero, suc, ◌+◌, ◌*◌, ◌<◌}
use mathlib.Core.Path.{◌≡◌, refl, sym, ap, ap₂, subst, ◌∙◌}
use mathlib.Core.Bool.{Bool, true, false, ◌||◌, cond, or-false}
use mathlib.Core.List.Memᴰ.{head as here}
use mathlib.Core.List.Memᴰ.{tail as there}
use mathlib.Core.List.{List, [], ◌∷◌, ◌++◌, map, append-nil, Memᴰ}
use native.Mathlib.Omega.{arith}
use native.Mathlib.Nat.{add-zero, zero-mul, suc-mul, mul-le-mul_right}
use native.Mathlib.Numerals.{add-one}
use lib.Dec.{ltb}
use borrow.Author.Tests.{ltb-true, ltb-false}
use lib.Ieee.{Float, binary64, add}
use lib.ListN.{length, get_or, length-append, length-map, get_or-append}
use lib.Seq.{get_or-append-add}
use Rattle.floats.specs.Lists.{count, once, any}
use Rattle.floats.specs.Finite.{nought}
use Rattle.triangles.specs.declared.Decision.{Decision}
use Rattle.triangles.specs.declared.Decision.TheVariants.{Refused, Overlapping, Touching, Apart}
use Rattle.boxes.specs.Near.{is_near}
use Rattle.triangles.specs.Decision.{decision_of, overlaps, touches, is_refused, with_area}
use Rattle.layout.specs.declared.Entry.{Entry}
use Rattle.listing.specs.declared.Tally.{Tally}
use Rattle.listing.specs.Turns.{up_to, each, folded}
use Rattle.listing.specs.Pairs.{values_at, decision_at, near_at, triangle_pairs, decisions, tallied, none_yet, tally_of}
use Rattle.listing.specs.Demand.{area_in}
use Rattle.listing.proofs.Turns.{below, reached, mapped, unmapped, in_each, of_each, each_append, map-map, map_at}

-- ---- the counts
pub count_map : {A B : Type 0} (p : B → Bool) (f : A → B) (xs : List A) → count p (map f xs) ≡ count (λ x. p (f x)) xs
unfolding count
count_map p f [] = refl
count_map p f (x ∷ xs) = ap (λ n. cond (p (f x)) (suc n) n) (count_map p f xs)

module _ (p : List Float → Bool) (of : Tally → ℕ) (adds : (t : Tally) (l : List Float) → of (tallied t l) ≡ of t + once (p l)) where
  counts : (t : Tally) (ls : List (List Float)) → of (folded tallied t ls) ≡ of t + count p ls
  unfolding folded count
  counts t [] = omega arith
  counts t (l ∷ ls) = counts (tallied t l) ls ∙ (ap (λ n. n + count p ls) (adds t l) ∙ go (p l))
    where
      go : (b : Bool) → (of t + once b) + count p ls ≡ of t + cond b (suc (count p ls)) (count p ls)
      go true = omega arith
      go false = omega arith

  -- from none on, pair by pair
  counted_from : of none_yet ≡ 0 → (file : List ℕ) (e f : Entry) → of (tally_of file e f) ≡ count (λ q. p (values_at file e f q.0 q.1)) (triangle_pairs e f)
  unfolding tally_of
  counted_from z file e f =
      let values : ℕ × ℕ → List Float = λ q. values_at file e f q.0 q.1 in
      let c = counts none_yet (map values (triangle_pairs e f)) in
      let m = count_map p values (triangle_pairs e f) in
      omega (arith, c, m, z)

pub tally_overlapping : (file : List ℕ) (e f : Entry) → (tally_of file e f).overlapping ≡ count overlaps (decisions file e f)
unfolding decisions decision_at
tally_overlapping file e f = counted_from (λ l. overlaps (decision_of l)) (λ t. t.overlapping) (λ t l. refl) refl file e f ∙ sym (count_map overlaps (λ q. decision_at file e f q.0 q.1) (triangle_pairs e f))

pub tally_touching : (file : List ℕ) (e f : Entry) → (tally_of file e f).touching ≡ count touches (decisions file e f)
unfolding decisions decision_at
tally_touching file e f = counted_from (λ l. touches (decision_of l)) (λ t. t.touching) (λ t l. refl) refl file e f ∙ sym (count_map touches (λ q. decision_at file e f q.0 q.1) (triangle_pairs e f))

pub tally_tested : (file : List ℕ) (e f : Entry) → (tally_of file e f).tested ≡ count (λ q. near_at file e f q.0 q.1) (triangle_pairs e f)
unfolding near_at
tally_tested = counted_from is_near (λ t. t.tested) (λ t l. refl) refl

-- ---- the areas, and what is refused
map_decided : (file : List ℕ) (e f : Entry) → map decision_of (map (λ q. values_at file e f q.0 q.1) (triangle_pairs e f)) ≡ decisions file e f
unfolding decisions decision_at
map_decided file e f = map-map decision_of (λ q. values_at file e f q.0 q.1) (triangle_pairs e f)

areas : (t : Tally) (ls : List (List Float)) → (folded tallied t ls).area ≡ folded (add binary64) t.area (each area_in (map decision_of ls))
unfolding folded each
areas t [] = refl
areas t (l ∷ ls) = areas (tallied t l) ls ∙ go (decision_of l) (each area_in (map decision_of ls))
  where
    go : (d : Decision) (rest : List Float) → folded (add binary64) (with_area t.area d) rest ≡ folded (add binary64) t.area (area_in d ++ rest)
    go (Refused k) rest = refl
    go (Overlapping a) rest = refl
    go Touching rest = refl
    go Apart rest = refl

pub tally_area : (file : List ℕ) (e f : Entry) → (tally_of file e f).area ≡ folded (add binary64) nought (each area_in (decisions file e f))
unfolding tally_of
tally_area file e f = areas none_yet (map (λ q. values_at file e f q.0 q.1) (triangle_pairs e f)) ∙ ap (λ ds. folded (add binary64) nought (each area_in ds)) (map_decided file e f)

refusals : (t : Tally) (ls : List (List Float)) → (folded tallied t ls).refused ≡ (t.refused || any is_refused (map decision_of ls))
unfolding folded any
refusals t [] = sym (or-false t.refused)
refusals t (l ∷ ls) = refusals (tallied t l) ls ∙ go t.refused
  where
    go : (b : Bool) → ((b || is_refused (decision_of l)) || any is_refused (map decision_of ls)) ≡ (b || (is_refused (decision_of l) || any is_refused (map decision_of ls)))
    go true = refl
    go false = refl

pub tally_refused : (file : List ℕ) (e f : Entry) → (tally_of file e f).refused ≡ any is_refused (decisions file e f)
unfolding tally_of
tally_refused file e f = refusals none_yet (map (λ q. values_at file e f q.0 q.1) (triangle_pairs e f)) ∙ ap (any is_refused) (map_decided file e f)

-- where no decision overlaps, none has an area and none is refused
pub none_added : (ds : List Decision) → count overlaps ds ≡ 0 → (each area_in ds ≡ []) × (any is_refused ds ≡ false)
unfolding count each any
none_added [] h = (refl, refl)
none_added (Refused k ∷ ds) h = absurd (omega (arith, h))
none_added (Overlapping a ∷ ds) h = absurd (omega (arith, h))
none_added (Touching ∷ ds) h = none_added ds h
none_added (Apart ∷ ds) h = none_added ds h

-- one that passes the test is counted, and where one is counted one passes
pub counted_one : {A : Type 0} (p : A → Bool) (xs : List A) {x : A} → Memᴰ x xs → p x ≡ true → 0 < count p xs
unfolding count
counted_one p [] m h = elim m [ ]
counted_one p (y ∷ xs) (here e) h = rw (ap p (sym e) ∙ h) (omega arith)
counted_one p (y ∷ xs) (there m) h = go (p y) (counted_one p xs m h)
  where
    go : (b : Bool) → 0 < count p xs → 0 < cond b (suc (count p xs)) (count p xs)
    go true h = omega arith
    go false h = h

pub one_counted : {A : Type 0} (p : A → Bool) (xs : List A) → 0 < count p xs → (x : A) × Memᴰ x xs × (p x ≡ true)
unfolding count
one_counted p [] h = absurd (omega (arith, h))
one_counted {A} p (y ∷ xs) h = go (p y) refl h (one_counted p xs)
  where
    go : (b : Bool) → p y ≡ b → 0 < cond b (suc (count p xs)) (count p xs) → (0 < count p xs → (x : A) × Memᴰ x xs × (p x ≡ true)) → (x : A) × Memᴰ x (y ∷ xs) × (p x ≡ true)
    go true e h f = (y, here refl, e)
    go false e h f = let r = f h in (r.0, there r.1, r.2)

-- ---- the triangle pairs, and their decisions
module _ (e f : Entry) where
  row : ℕ → List (ℕ × ℕ)
  row a = map (λ b. (a, b)) (up_to f.count)

  pub pair_in : (a b : ℕ) → a < e.count → b < f.count → Memᴰ (a, b) (triangle_pairs e f)
  unfolding triangle_pairs row
  pair_in a b h k = in_each row (up_to e.count) (reached e.count a h) (mapped (λ b. (a, b)) (up_to f.count) (reached f.count b k))

  pub pair_of : {p : ℕ × ℕ} → Memᴰ p (triangle_pairs e f) → (p.0 < e.count) × (p.1 < f.count)
  unfolding triangle_pairs row
  pair_of {p} m =
      let r = of_each row (up_to e.count) m in
      let s = unmapped (λ b. (r.0, b)) (up_to f.count) r.2 in
      (subst (λ q. q.0 < e.count) (sym s.2) (below e.count r.1), subst (λ q. q.1 < f.count) (sym s.2) (below f.count s.1))

module _ (file : List ℕ) (e f : Entry) where
  pub decision_in : (a b : ℕ) → a < e.count → b < f.count → Memᴰ (decision_at file e f a b) (decisions file e f)
  unfolding decisions
  decision_in a b h k = mapped (λ p. decision_at file e f p.0 p.1) (triangle_pairs e f) (pair_in e f a b h k)

  pub decision_of_lem : {d : Decision} → Memᴰ d (decisions file e f) → (a : ℕ) × (b : ℕ) × (a < e.count) × (b < f.count) × (d ≡ decision_at file e f a b)
  unfolding decisions
  decision_of_lem m =
      let s = unmapped (λ p. decision_at file e f p.0 p.1) (triangle_pairs e f) m in
      let r = pair_of e f s.1 in
      (s.0.0, s.0.1, r.0, r.1, s.2)

-- ---- how many, and in which order
pub length-up_to : (n : ℕ) → length (up_to n) ≡ n
unfolding up_to
length-up_to zero = refl
length-up_to (suc n) = length-append (up_to n) (n ∷ []) ∙ (ap (λ k. k + 1) (length-up_to n) ∙ add-one n)

pub up_to_at : (n i d : ℕ) → i < n → get_or (up_to n) i d ≡ i
unfolding up_to
up_to_at zero i d h = absurd (omega (arith, h))
up_to_at (suc n) i d h = go (up_to_at n i d) (ltb i n) refl
  where
    last : i ≡ n → get_or (up_to n ++ (n ∷ [])) i d ≡ i
    last e = ap (λ k. get_or (up_to n ++ (n ∷ [])) k d) (e ∙ (sym (length-up_to n) ∙ sym (add-zero (length (up_to n))))) ∙ (get_or-append-add (up_to n) (n ∷ []) 0 d ∙ sym e)

    go : (i < n → get_or (up_to n) i d ≡ i) → (b : Bool) → ltb i n ≡ b → get_or (up_to n ++ (n ∷ [])) i d ≡ i
    go f true e = get_or-append (up_to n) (n ∷ []) d i (subst (λ k. i < k) (sym (length-up_to n)) (ltb-true i n e)) ∙ f (ltb-true i n e)
    go f false e = last (omega (arith, h, ltb-false i n e))

module _ {B : Type 0} (rows : ℕ → List B) (n : ℕ) (even : (a : ℕ) → length (rows a) ≡ n) where
  each_last : (m : ℕ) → each rows (up_to (suc m)) ≡ each rows (up_to m) ++ rows m
  unfolding up_to each
  each_last m = each_append rows (up_to m) (m ∷ []) ∙ ap (λ r. each rows (up_to m) ++ r) (append-nil (rows m))

  pub rows_length : (m : ℕ) → length (each rows (up_to m)) ≡ m * n
  rows_length zero = unfold up_to each in sym (zero-mul n)
  rows_length (suc m) = ap length (each_last m) ∙ (length-append (each rows (up_to m)) (rows m) ∙ (ap₂ ◌+◌ (rows_length m) (even m) ∙ sym (suc-mul m n)))

  pub within : (a m b : ℕ) → a < m → b < n → a * n + b < m * n
  within a m b h k = let s = mul-le-mul_right n h in let t = suc-mul a n in omega (arith, s, t, k)

  pub rows_at : (m a b : ℕ) (d : B) → a < m → b < n → get_or (each rows (up_to m)) (a * n + b) d ≡ get_or (rows a) b d
  rows_at zero a b d h k = absurd (omega (arith, h))
  rows_at (suc m) a b d h k = ap (λ r. get_or r (a * n + b) d) (each_last m) ∙ go (rows_at m a b d) (ltb a m) refl
    where
      last : a ≡ m → get_or (each rows (up_to m) ++ rows m) (a * n + b) d ≡ get_or (rows a) b d
      last e = ap (λ i. get_or (each rows (up_to m) ++ rows m) (i + b) d) (ap (λ i. i * n) e ∙ sym (rows_length m)) ∙ (get_or-append-add (each rows (up_to m)) (rows m) b d ∙ ap (λ i. get_or (rows i) b d) (sym e))

      go : (a < m → b < n → get_or (each rows (up_to m)) (a * n + b) d ≡ get_or (rows a) b d) → (t : Bool) → ltb a m ≡ t → get_or (each rows (up_to m) ++ rows m) (a * n + b) d ≡ get_or (rows a) b d
      go f true e = get_or-append (each rows (up_to m)) (rows m) d (a * n + b) (subst (λ i. a * n + b < i) (sym (rows_length m)) (within a m b (ltb-true a m e) k)) ∙ f (ltb-true a m e) k
      go f false e = last (omega (arith, h, ltb-false a m e))

module _ (e f : Entry) where
  even_rows : (a : ℕ) → length (row e f a) ≡ f.count
  unfolding row
  even_rows a = length-map (up_to f.count) (λ b. (a, b)) ∙ length-up_to f.count

  pub pairs_length : length (triangle_pairs e f) ≡ e.count * f.count
  unfolding triangle_pairs row
  pairs_length = rows_length (row e f) f.count even_rows e.count

  row_at : (a b : ℕ) → b < f.count → get_or (row e f a) b (0, 0) ≡ (a, b)
  unfolding row
  row_at a b h = map_at (λ b. (a, b)) (up_to f.count) b (0, 0) 0 (subst (λ n. b < n) (sym (length-up_to f.count)) h) ∙ ap (λ c. (a, c)) (up_to_at f.count b 0 h)

  pub pair_at : (a b : ℕ) → a < e.count → b < f.count → get_or (triangle_pairs e f) (a * f.count + b) (0, 0) ≡ (a, b)
  unfolding triangle_pairs row
  pair_at a b h k = rows_at (row e f) f.count even_rows e.count a b (0, 0) h k ∙ row_at a b k

module _ (file : List ℕ) (e f : Entry) where
  pub how_many_lem : length (decisions file e f) ≡ e.count * f.count
  unfolding decisions
  how_many_lem = length-map (triangle_pairs e f) (λ p. decision_at file e f p.0 p.1) ∙ pairs_length e f

  pub in_turn_lem : (a b : ℕ) → a < e.count → b < f.count → get_or (decisions file e f) (a * f.count + b) Apart ≡ decision_at file e f a b
  unfolding decisions
  in_turn_lem a b h k =
      map_at (λ p. decision_at file e f p.0 p.1) (triangle_pairs e f) (a * f.count + b) Apart (0, 0) (subst (λ n. a * f.count + b < n) (sym (pairs_length e f)) (inside e.count f.count a b h k))
      ∙ ap (λ p. decision_at file e f p.0 p.1) (pair_at e f a b h k)
    where
      inside : (m n a b : ℕ) → a < m → b < n → a * n + b < m * n
      inside m n a b h k = let s = mul-le-mul_right n h in let t = suc-mul a n in omega (arith, s, t, k)
