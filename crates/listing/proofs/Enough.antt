-- The list of a good file has at most 1,024 leak lines of at most 50 bytes, a first line and two closing lines, so 65,536 bytes are always enough. Assumes nothing.
use Prim.Native.Nat.{ℕ, suc, ◌+◌, ◌-◌, ◌*◌, ◌<◌, ◌≤◌}
use mathlib.Core.Path.{◌≡◌, refl, sym, ap, subst}
use mathlib.Core.Bool.{Bool, true, false, cond, false≢true}
use mathlib.Core.List.Memᴰ.{head as here}
use mathlib.Core.List.Memᴰ.{tail as there}
use mathlib.Core.List.{List, [], ◌∷◌, ◌++◌, map, Memᴰ}
use native.Mathlib.Omega.{arith}
use native.Mathlib.Nat.{zero-mul, suc-mul, mul-le-mul, mul-le-mul_right}
use lib.Dec.{T, leb, leb→le}
use lib.ListN.{length, length-append, length-map}
use Rattle.floats.specs.Lists.{all, filter, count}
use Rattle.floats.proofs.Lists.{all_at}
use Rattle.text.specs.Decimal.{decimal}
use Rattle.text.proofs.Laws.{width_most}
use Rattle.triangles.specs.Decision.{overlaps}
use Rattle.layout.specs.Bytes.{u16_at, u32_at, Bytes}
use Rattle.layout.specs.Parts.{count_of, entry_from, entry_place, entry_at}
use Rattle.layout.specs.Layout.{Layout}
use Rattle.listing.specs.Turns.{up_to, each}
use Rattle.sets.specs.Sets.{is_test, is_training, is_retired}
use Rattle.sets.proofs.Sets.{all_roles}
use Rattle.listing.specs.Pairs.{decisions}
use Rattle.listing.specs.Leaks.{Leak, tests, trainings, recording_pairs, tally_for, is_leak, leak_pairs, leak_of, leaks, is_touching, touching_pairs, touching, formerly, formerly_held_back}
use Rattle.listing.specs.Words.{leaks_word, touching_word, formerly_word, first_line, leak_line, leak_lines, touching_line, formerly_line, all_but_last, text_of, list_text}
use Rattle.listing.specs.Enough.{AlwaysEnough}
use Rattle.listing.proofs.Turns.{reached, unmapped}
use Rattle.listing.proofs.Tallied.{how_many_lem, length-up_to}
use Rattle.listing.proofs.Demand.{counted, as_many_lem}
use Rattle.listing.proofs.Read.{count_length}

-- ---- how long lists are
-- where nothing passes both tests, those that pass one and those that pass the other are together no more than all
filter_two : {A : Type 0} (p q : A → Bool) → ((x : A) → p x ≡ true → q x ≡ true → ⊥) → (xs : List A) → length (filter p xs) + length (filter q xs) ≤ length xs
unfolding filter
filter_two p q never [] = omega arith
filter_two p q never (x ∷ xs) = go (p x) refl (q x) refl (filter_two p q never xs)
  where
    go : (a : Bool) → p x ≡ a → (b : Bool) → q x ≡ b → length (filter p xs) + length (filter q xs) ≤ length xs → length (cond a (x ∷ filter p xs) (filter p xs)) + length (cond b (x ∷ filter q xs) (filter q xs)) ≤ suc (length xs)
    go true e true f h = absurd (never x e f)
    go true e false f h = omega (arith, h)
    go false e true f h = omega (arith, h)
    go false e false f h = omega (arith, h)

-- those that pass a test are no more than all
filter_most : {A : Type 0} (p : A → Bool) (xs : List A) → length (filter p xs) ≤ length xs
filter_most p xs = let h = filter_two p (λ x. false) (λ x e f. false≢true f) xs in omega (arith, h)

-- and so are those that are counted
pub count_most : {A : Type 0} (p : A → Bool) (xs : List A) → count p xs ≤ length xs
unfolding count
count_most p [] = omega arith
count_most p (x ∷ xs) = go (p x) (count_most p xs)
  where
    go : (b : Bool) → count p xs ≤ length xs → cond b (suc (count p xs)) (count p xs) ≤ suc (length xs)
    go true h = omega (arith, h)
    go false h = omega (arith, h)

-- where each gives at most n, all give at most n times as many as there are
each_most : {A B : Type 0} (f : A → List B) (n : ℕ) (xs : List A) → ((x : A) → Memᴰ x xs → length (f x) ≤ n) → length (each f xs) ≤ length xs * n
unfolding each
each_most f n [] h = let z = zero-mul n in omega (arith, z)
each_most f n (x ∷ xs) h =
    let a = length-append (f x) (each f xs) in
    let b = h x (here refl) in
    let c = each_most f n xs (λ y m. h y (there m)) in
    let d = suc-mul (length xs) n in
    omega (arith, a, b, c, d)

-- ---- how many digits
-- a number below ten thousand million has at most ten
pub ten_digits : (n : ℕ) → n < 10000000000 → length (decimal n) ≤ 10
ten_digits n h = width_most 9 n h

-- ---- how many lines
-- two numbers that are together 64 make at most 32 times 32
squares : T (all (λ r. leb ((64 - r) * r) 1024) (up_to 65))
unfolding all up_to
squares = tt

-- and so do two that are together less
product_most : (t r : ℕ) → t + r ≤ 64 → t * r ≤ 1024
product_most t r h =
    let a : t ≤ 64 - r = omega (arith, h) in
    let b = mul-le-mul_right r a in
    let c = leb→le ((64 - r) * r) 1024 (all_at (λ r. leb ((64 - r) * r) 1024) (up_to 65) squares (reached 65 r (omega (arith, h)))) in
    omega (arith, b, c)

module _ (file : List ℕ) where
  -- no recording is both, so test and training recordings are together no more than all
  sets_most : length (tests file) + length (trainings file) ≤ count_of file
  unfolding tests trainings
  sets_most = subst (λ n. length (tests file) + length (trainings file) ≤ n) (length-up_to (count_of file)) (filter_two (λ i. is_test (entry_at file i).set) (λ i. is_training (entry_at file i).set) not_both (up_to (count_of file)))
    where
      not_both : (i : ℕ) → is_test (entry_at file i).set ≡ true → is_training (entry_at file i).set ≡ true → ⊥
      not_both i = (all_roles (entry_at file i).set).not_both

  -- each test recording with each training recording
  pairs_most : length (recording_pairs file) ≤ length (tests file) * length (trainings file)
  unfolding recording_pairs
  pairs_most = each_most (λ i. map (λ j. (i, j)) (trainings file)) (length (trainings file)) (tests file) (λ i m. let e = length-map {B = ℕ × ℕ} (trainings file) (λ j. (i, j)) in omega (arith, e))

  -- 1,024 pairs of recordings at most
  compared_most : Layout file → length (recording_pairs file) ≤ 1024
  compared_most good =
      let c = good.at_most64 in
      let s = sets_most in
      let p = product_most (length (tests file)) (length (trainings file)) (omega (arith, c, s)) in
      omega (arith, p, pairs_most)

  -- no more lines than that, and no more that only touch
  pub leaks_most : Layout file → length (leaks file) ≤ 1024
  unfolding leak_pairs
  leaks_most good = let f = filter_most (is_leak file) (recording_pairs file) in omega (arith, f, compared_most good, as_many_lem file)

  pub touching_most : Layout file → touching file ≤ 1024
  unfolding touching touching_pairs
  touching_most good = let f = filter_most (is_touching file) (recording_pairs file) in omega (arith, f, compared_most good)

  -- and no more recordings that were formerly held back than there are
  pub formerly_most : formerly_held_back file ≤ count_of file
  unfolding formerly_held_back formerly
  formerly_most = let f = filter_most (λ k. is_retired (entry_at file k).set) (up_to (count_of file)) in let n = length-up_to (count_of file) in omega (arith, f, n)

-- ---- how long a line is: twenty bytes and three numbers
three_numbers : (t r n : ℕ) → t < 4294967296 → r < 4294967296 → n < 4294967296 → length (leak_line (record { test = t; train = r; pairs = n })) ≤ 50
unfolding leak_line
three_numbers t r n a b c =
    let e : length (leak_line (record { test = t; train = r; pairs = n })) ≡ 20 + length (decimal t) + length (decimal r) + length (decimal n) = simp length-append (omega arith) in
    omega (arith, e, ten_digits t (omega (arith, a)), ten_digits r (omega (arith, b)), ten_digits n (omega (arith, c)))

module _ (file : List ℕ) (bytes : Bytes file) where
  -- numbers of four and of two bytes, and with them ids and counts
  four_bytes : (at : ℕ) → u32_at file at < 4294967296
  unfolding u32_at
  four_bytes at = let a = bytes at in let b = bytes (at + 1) in let c = bytes (at + 2) in let d = bytes (at + 3) in omega (arith, a, b, c, d)

  two_bytes : (at : ℕ) → u16_at file at ≤ 65535
  unfolding u16_at
  two_bytes at = let a = bytes at in let b = bytes (at + 1) in omega (arith, a, b)

  id_below : (i : ℕ) → (entry_at file i).id < 4294967296
  unfolding entry_at entry_from
  id_below i = four_bytes (entry_place file i)

  count_below : (i : ℕ) → (entry_at file i).count ≤ 65535
  unfolding entry_at entry_from
  count_below i = two_bytes (entry_place file i + 8)

  -- no more triangle pairs overlap than there are
  pairs_below : (p : ℕ × ℕ) → (tally_for file p).overlapping < 4294967296
  pairs_below p =
      let e = entry_at file p.0 in
      let f = entry_at file p.1 in
      let a = counted file p.0 p.1 in
      let b = count_most overlaps (decisions file e f) in
      let c = how_many_lem file e f in
      let d : e.count * f.count ≤ 4294836225 = mul-le-mul (count_below p.0) (count_below p.1) in
      omega (arith, a, b, c, d)

  -- every leak line has at most 50 bytes
  line_most : (l : Leak) → Memᴰ l (leaks file) → length (leak_line l) ≤ 50
  unfolding leaks leak_of
  line_most l m =
      let r = unmapped (leak_of file) (leak_pairs file) m in
      let p = r.0 in
      let e = r.2 in
      three_numbers l.test l.train l.pairs
      (subst (λ n. n < 4294967296) (sym (ap (λ k. k.test) e)) (id_below p.0))
      (subst (λ n. n < 4294967296) (sym (ap (λ k. k.train) e)) (id_below p.1))
      (subst (λ n. n < 4294967296) (sym (ap (λ k. k.pairs) e)) (pairs_below p))

-- ---- the whole list: at most 17 + 1,024 × 50 + 20 + 30 bytes
pub always_enough : AlwaysEnough
unfolding list_text text_of all_but_last leak_lines
always_enough file bytes good =
    let k = length (leaks file) in
    let t = touching file in
    let h = formerly_held_back file in
    let most = leaks_most file good in
    let lines = each_most leak_line 50 (leaks file) (line_most file bytes) in
    let first = count_length leaks_word k in
    let touch = count_length touching_word t in
    let last = count_length formerly_word h in
    let digits = ten_digits k (omega (arith, most)) in
    let more = ten_digits t (let m = touching_most file good in omega (arith, m)) in
    let final = ten_digits h (let m = formerly_most file in let c = good.at_most64 in omega (arith, m, c)) in
    let front = length-append (first_line k) (leak_lines (leaks file)) in
    let body = length-append (first_line k ++ leak_lines (leaks file)) (touching_line t) in
    let whole = length-append (first_line k ++ leak_lines (leaks file) ++ touching_line t) (formerly_line h) in
    omega (arith, most, lines, first, touch, last, digits, more, final, front, body, whole)
