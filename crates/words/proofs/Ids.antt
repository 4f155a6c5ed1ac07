-- A word is taken for an id exactly if it is one. Assumes nothing.
use Prim.Native.Nat.{ℕ, ◌+◌, ◌-◌, ◌*◌, ◌<◌, ◌≤◌}
use mathlib.Core.Path.{◌≡◌, refl, sym, ap, subst, ◌∙◌}
use mathlib.Core.Bool.{Bool, true, false, ◌&&◌, cond, false≢true}
use mathlib.Core.List.{List, [], ◌∷◌}
use native.Mathlib.Omega.{arith}
use native.Mathlib.Numerals.{add-one}
use lib.Dec.{eqb, ltb}
use lib.Pointwise.{pointwise}
use native.Mathlib.Nat.{zero-add}
use lib.ListN.{length, get_or, take, drop}
use lib.Seq.{drop-cons, drop-length}
use borrow.Author.Tests.{eq-eqb, ne_eqb, eqb-true, lt-ltb, le-ltb, ltb-true, ltb-false}
use Rattle.text.specs.Decimal.{decimal, read_on, read}
use Rattle.text.specs.Room.{Put}
use Rattle.text.proofs.Laws.{width_most}
use Rattle.text.proofs.Room.{whole_or_nothing}
use Rattle.text.proofs.Decimal.{decimals}
use Rattle.std.proofs.Common.{Option, Some, None, IsSome}
use Rattle.std.proofs.lemmas.Option.{none-some, same_Some}
use Rattle.words.specs.Id.{Id, IsId, same, in_range, one_more, number_in, no_id, told, NoSecondTold, id_of, asked, IdsRead, WordsWorked}

-- ---- the same text
pub same_itself : (xs : List ℕ) → same xs xs ≡ true
unfolding same
same_itself [] = refl
same_itself (x ∷ xs) = rw (eq-eqb x x refl, same_itself xs) refl

both : (a b : Bool) → a && b ≡ true → (a ≡ true) × (b ≡ true)
both true b h = (refl, h)
both false b h = absurd (false≢true h)

pub same_is : (xs ys : List ℕ) → same xs ys ≡ true → xs ≡ ys
unfolding same
same_is [] [] h = refl
same_is [] (y ∷ ys) h = absurd (false≢true h)
same_is (x ∷ xs) [] h = absurd (false≢true h)
same_is (x ∷ xs) (y ∷ ys) h =
    let p = both (eqb x y) (same xs ys) h in
    ap (λ t. t ∷ xs) (eqb-true x y p.0) ∙ ap (λ t. y ∷ t) (same_is xs ys p.1)

-- .. as the code compares them
pub pointwise_is : (xs ys : List ℕ) → pointwise eqb xs ys ≡ same xs ys
unfolding same
pointwise_is [] [] = refl
pointwise_is [] (y ∷ ys) = refl
pointwise_is (x ∷ xs) [] = refl
pointwise_is (x ∷ xs) (y ∷ ys) = ap (λ t. eqb x y && t) (pointwise_is xs ys)

-- ---- what is taken for an id
taken : (word : List ℕ) → ltb (read word) 4294967296 && same (decimal (read word)) word ≡ true → id_of word ≡ record { there = true; id = read word }
unfolding id_of
taken word h = rw h refl

not_taken : (word : List ℕ) → ltb (read word) 4294967296 && same (decimal (read word)) word ≡ false → id_of word ≡ no_id
unfolding id_of
not_taken word h = rw h refl

-- a word that is an id reads back as that, and passes both tests
passes : (word : List ℕ) (n : ℕ) → IsId word n → (read word ≡ n) × (ltb (read word) 4294967296 && same (decimal (read word)) word ≡ true)
passes word n i =
    let e : read word ≡ n = ap read i.written ∙ (decimals n).reads_back in
    let s : same (decimal (read word)) word ≡ true = ap (λ m. same (decimal m) word) e ∙ (ap (same (decimal n)) i.written ∙ same_itself (decimal n)) in
    let l : ltb (read word) 4294967296 ≡ true = lt-ltb (read word) 4294967296 (subst (λ m. m < 4294967296) (sym e) i.in_range) in
    (e, rw (l, s) refl)

pub ids_read : IdsRead
ids_read word = record {
  there = (λ h. go (ltb (read word) 4294967296 && same (decimal (read word)) word) refl h, λ p. ap (λ (i : Id). i.there) (taken word (passes word p.0 p.1).1));
  that = λ n i. ap (λ (j : Id). j.id) (taken word (passes word n i).1) ∙ (passes word n i).0;
}
  where
    go : (b : Bool) → ltb (read word) 4294967296 && same (decimal (read word)) word ≡ b → (id_of word).there ≡ true → (n : ℕ) × IsId word n
    go true e h =
        let p = both (ltb (read word) 4294967296) (same (decimal (read word)) word) e in
        (read word, record { in_range = ltb-true (read word) 4294967296 p.0; written = sym (same_is (decimal (read word)) word p.1) })
    go false e h = absurd (false≢true (sym (ap (λ (i : Id). i.there) (not_taken word e)) ∙ h))

-- ---- the loop
drop_all : (i : ℕ) (xs : List ℕ) → i ≡ length xs → drop i xs ≡ []
drop_all i xs e = ap (λ n. drop n xs) e ∙ drop-length xs

-- more digits make no number smaller
grows : (n : ℕ) (xs : List ℕ) → n ≤ read_on n xs
unfolding read_on
grows n [] = omega arith
grows n (x ∷ xs) = let h = grows (10 * n + (x - 48)) xs in omega (arith, h)

read_turn : (n i : ℕ) (word : List ℕ) → i < length word → read_on n (drop i word) ≡ read_on (10 * n + (get_or word i 0 - 48)) (drop (i + 1) word)
unfolding read_on
read_turn n i word h = rw (drop-cons word i 0 h, add-one) refl

read_all : (n i : ℕ) (word : List ℕ) → i ≡ length word → read_on n (drop i word) ≡ n
unfolding read_on
read_all n i word h = ap (read_on n) (drop_all i word h)

-- a number that is there is below 2^32, and one that is not is not
module _ {n m : ℕ} where
  pub is_there : in_range n ≡ Some m → (n ≡ m) × (n < 4294967296)
  is_there e = go (ltb n 4294967296) refl e
    where
      go : (t : Bool) → ltb n 4294967296 ≡ t → cond t (Some n) None ≡ Some m → (n ≡ m) × (n < 4294967296)
      go true l e = (same_Some n m e, ltb-true n 4294967296 l)
      go false l e = absurd (none-some m e)

not_there : {n : ℕ} → in_range n ≡ None → 4294967296 ≤ n
not_there {n} e = go (ltb n 4294967296) refl e
  where
    go : (t : Bool) → ltb n 4294967296 ≡ t → cond t (Some n) None ≡ None → 4294967296 ≤ n
    go true l e = absurd (none-some n (sym e))
    go false l e = ltb-false n 4294967296 l

pub digit_read : (word : List ℕ) (n i b m : ℕ) → i < length word → b ≡ get_or word i 0 → read_on n (drop i word) ≡ read word → one_more n b ≡ Some m → (read_on m (drop (i + 1) word) ≡ read word) × (m < 4294967296)
digit_read word n i b m h d e o = let r = is_there o in (ap (λ k. read_on k (drop (i + 1) word)) (sym (is_there o).0 ∙ ap (λ x. 10 * n + (x - 48)) d) ∙ (sym (read_turn n i word h) ∙ e), omega (arith, r.0, r.1))

pub beyond : (word : List ℕ) (n i b : ℕ) → i < length word → b ≡ get_or word i 0 → read_on n (drop i word) ≡ read word → one_more n b ≡ None → None ≡ number_in word
unfolding number_in
beyond word n i b h d e o =
    let large = not_there o in
    let turn = sym (ap (λ x. read_on (10 * n + (x - 48)) (drop (i + 1) word)) d ∙ (sym (read_turn n i word h) ∙ e)) in
    let more = grows (10 * n + (b - 48)) (drop (i + 1) word) in
    sym (rw (le-ltb (read word) 4294967296 (omega (arith, large, turn, more))) refl)

pub all_read : (word : List ℕ) (n i : ℕ) → i ≡ length word → n < 4294967296 → read_on n (drop i word) ≡ read word → Some n ≡ number_in word
unfolding number_in
all_read word n i h l e = let r : read word ≡ n = sym e ∙ read_all n i word h in rw (r, lt-ltb n 4294967296 l) refl

-- ---- the answers
pub no_second_told : NoSecondTold
no_second_told None None e = refl
no_second_told None (Some n) e = absurd (false≢true (ap (λ (i : Id). i.there) e))
no_second_told (Some m) None e = absurd (false≢true (sym (ap (λ (i : Id). i.there) e)))
no_second_told (Some m) (Some n) e = ap Some (ap (λ (i : Id). i.id) e)

module _ (word : List ℕ) where
  pub no_number : number_in word ≡ None → told None ≡ id_of word
  unfolding number_in
  no_number e = let l = not_there e in sym (not_taken word (rw (le-ltb (read word) 4294967296 l) refl))

  pub is_id : {n : ℕ} → number_in word ≡ Some n → same (decimal n) word ≡ true → told (Some n) ≡ id_of word
  unfolding number_in
  is_id {n} e s =
      let r = is_there e in
      let t : same (decimal (read word)) word ≡ true = ap (λ m. same (decimal m) word) r.0 ∙ s in
      sym (taken word (rw (lt-ltb (read word) 4294967296 r.1, t) refl) ∙ ap (λ m. record { there = true; id = m }) r.0)

  pub is_none : {n : ℕ} → number_in word ≡ Some n → same (decimal n) word ≡ false → told None ≡ id_of word
  unfolding number_in
  is_none {n} e s =
      let r = is_there e in
      let t : same (decimal (read word)) word ≡ false = ap (λ m. same (decimal m) word) r.0 ∙ s in
      sym (not_taken word (rw (lt-ltb (read word) 4294967296 r.1, t) refl))

  pub below : {n : ℕ} → number_in word ≡ Some n → n < 4294967296
  unfolding number_in
  below {n} e = let r = is_there e in omega (arith, r.0, r.1)

-- a decimal in a room of ten bytes is its front
pub decimal_front : {room after : List ℕ} {n k : ℕ} → Put room 0 (decimal n) after k → n < 4294967296 → 10 ≤ length room → take k after ≡ decimal n
decimal_front {room} {after} {n} {k} p h l =
    let w = width_most 9 n (omega (arith, h)) in
    let f = (whole_or_nothing p).whole (omega (arith, w, l)) in
    ap (λ m. take m after) (f.1 ∙ zero-add (length (decimal n))) ∙ f.0

-- .. and fits
pub decimal_fits : {n : ℕ} (o : Option ℕ) → n < 4294967296 → (length (decimal n) ≤ 10 → IsSome o) → o ≡ None → ⊥
decimal_fits {n} o h f e =
    let w = width_most 9 n (omega (arith, h)) in
    false≢true (subst IsSome e (f (omega (arith, w))))

pub words_worked : WordsWorked
unfolding id_of
words_worked = record {
  nought = refl;
  seven = refl;
  greatest = refl;
  too_great = refl;
  wrapped = refl;
  zero_before = refl;
  two_zeros = refl;
  plus = refl;
  minus_zero = refl;
  space_behind = refl;
  space_before = refl;
  letter = refl;
  empty = refl;
}

-- ---- what a command is asked for
pub asked_one : (count : ℕ) (word : List ℕ) → count ≡ 2 → {r : Id} → r ≡ id_of word → r ≡ asked count word
unfolding asked
asked_one count word e q = q ∙ sym (rw (eq-eqb count 2 e) refl)

pub asked_other : (count : ℕ) (word : List ℕ) → (count ≡ 2 → ⊥) → no_id ≡ asked count word
unfolding asked
asked_other count word n = sym (rw (ne_eqb count 2 n) refl)
