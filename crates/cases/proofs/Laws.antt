-- A word ends before its stop, and a room is filled byte by byte to its end. Assumes nothing.
use Prim.Native.Nat.{ℕ, zero, suc, ◌+◌, ◌-◌, ◌*◌, ◌/◌, ◌%◌, ◌<◌, ◌≤◌, min}
use mathlib.Core.Path.{◌≡◌, refl, sym, ap, ap₂, ◌∙◌}
use mathlib.Core.List.{List, [], ◌∷◌, ◌++◌}
use native.Mathlib.Omega.{arith}
use native.Mathlib.Numerals.{add-one}
use lib.ListN.{length, get_or, set, take, drop, length-drop}
use lib.Dec.{eqb, leb, ltb}
use mathlib.Core.Bool.{Bool, true, false, not, cond}
use lib.Seq.{sets, drop-nil, sets-eq, take_all}
use borrow.Author.Tests.{leb-true, leb-false, ltb-false}
use Rattle.std.proofs.Common.{Option, Some, None, unwrap_or, position}
use Rattle.std.specs.List.{position_or_len}
use Rattle.cases.specs.Digits.{byte_of, bytes_from, fitting, filled, glyph, digits_from, spelt, lettered}
use Rattle.cases.specs.Words.{before, until, longer, lines_of}

-- beyond the end nothing is left
gone : (n : ℕ) (text : List ℕ) → length text ≤ n → ◌≡◌ {A = List ℕ} (drop n text) []
gone n [] h = drop-nil n
gone zero (b ∷ text) h = absurd (omega arith)
gone (suc n) (b ∷ text) h = gone n text (omega arith)

-- from beyond the end on nothing is left either
pub drop_min : (n : ℕ) (text : List ℕ) → take (length text - min n (length text)) (drop (min n (length text)) text) ≡ drop n text
drop_min n text = go (leb n (length text)) refl
  where
    all : (k : ℕ) → take (length text - k) (drop k text) ≡ drop k text
    all k = let d = length-drop k text in take_all (length text - k) (drop k text) (omega (arith, d))

    go : (t : Bool) → leb n (length text) ≡ t → take (length text - min n (length text)) (drop (min n (length text)) text) ≡ drop n text
    go true e = let h = leb-true n (length text) e in let m : min n (length text) ≡ n = omega (arith, h) in rw m (all n)
    go false e = let h = leb-false n (length text) e in let m : min n (length text) ≡ length text = omega (arith, h) in rw m (all (length text) ∙ (gone (length text) text (omega arith) ∙ sym (gone n text (omega (arith, h)))))

-- ---- what stands before the first byte of a kind
before_first : (stop : ℕ) (text : List ℕ) → take (position_or_len (λ b. eqb b stop) text) text ≡ before stop text
unfolding before
before_first stop [] = refl
before_first stop (b ∷ rest) = go (before_first stop rest) (eqb b stop)
  where
    go : take (position_or_len (λ b. eqb b stop) rest) rest ≡ before stop rest → (t : Bool) → take (cond (not t) (1 + position_or_len (λ b. eqb b stop) rest) 0) (b ∷ rest) ≡ cond t [] (b ∷ before stop rest)
    go h true = refl
    go h false = let q : 1 + position_or_len (λ b. eqb b stop) rest ≡ suc (position_or_len (λ b. eqb b stop) rest) = omega arith in rw q (ap (λ t. b ∷ t) h)

before_is : (stop : ℕ) (text : List ℕ) → take (unwrap_or (position (λ b. eqb b stop) text) (length text)) text ≡ before stop text
before_is stop text = go (ltb (position_or_len (λ b. eqb b stop) text) (length text)) refl
  where
    go : (t : Bool) → ltb (position_or_len (λ b. eqb b stop) text) (length text) ≡ t → take (unwrap_or (cond t (Some (position_or_len (λ b. eqb b stop) text)) None) (length text)) text ≡ before stop text
    go true e = before_first stop text
    go false e = take_all (length text) text (omega arith) ∙ (sym (take_all _ text (ltb-false _ _ e)) ∙ before_first stop text)

before_length : (stop : ℕ) (text : List ℕ) → length (before stop text) ≤ length text
unfolding before
before_length stop [] = omega arith
before_length stop (b ∷ rest) = go (before_length stop rest) (eqb b stop)
  where
    go : length (before stop rest) ≤ length rest → (t : Bool) → length (cond t [] (b ∷ before stop rest)) ≤ suc (length rest)
    go h true = omega arith
    go h false = omega (arith, h)

-- a word ends where its stop was found, or with the text
module _ (text : List ℕ) (from stop : ℕ) {rest : List ℕ} (r : rest ≡ drop from text) {o : Option ℕ} (e : o ≡ position (λ b. eqb b stop) rest) where
  until_is : {word : List ℕ} → word ≡ take (unwrap_or o (length rest)) rest → (word ≡ until text from stop) × (length word ≤ length text - from)
  until_is {word} w =
      let is : word ≡ until text from stop = w ∙ (ap (λ o. take (unwrap_or o (length rest)) rest) e ∙ (before_is stop rest ∙ ap (before stop) r)) in
      let l = before_length stop (drop from text) in
      let d = length-drop from text in
      (is, rw is (omega (arith, l, d)))

  pub found : {n : ℕ} → o ≡ Some n → (take n rest ≡ until text from stop) × (length (take n rest) ≤ length text - from)
  found {n} s = until_is (ap (λ o. take (unwrap_or o (length rest)) rest) (sym s))

  pub not_found : o ≡ None → (rest ≡ until text from stop) × (length rest ≤ length text - from)
  not_found s = until_is (sym (take_all _ rest (omega arith)) ∙ ap (λ o. take (unwrap_or o (length rest)) rest) (sym s))

-- ---- the lines of a text: the first one, and those behind it
pub first_line : (text : List ℕ) → 0 < length text → lines_of text ≡ before 10 text ∷ lines_of (drop (suc (length (before 10 text))) text)
unfolding lines_of before
first_line [] h = absurd (omega (arith, h))
first_line (b ∷ []) h = go (eqb b 10)
  where
    go : (t : Bool) → cond t ([] ∷ []) ((b ∷ []) ∷ []) ≡ cond t [] (b ∷ []) ∷ lines_of (drop (suc (length (cond t [] (b ∷ [])))) (b ∷ []))
    go true = refl
    go false = refl
first_line (b ∷ c ∷ rest) h = go (first_line (c ∷ rest) (omega arith)) (eqb b 10)
  where
    go : lines_of (c ∷ rest) ≡ before 10 (c ∷ rest) ∷ lines_of (drop (suc (length (before 10 (c ∷ rest)))) (c ∷ rest)) → (t : Bool) → cond t ([] ∷ lines_of (c ∷ rest)) (longer b (lines_of (c ∷ rest))) ≡ cond t [] (b ∷ before 10 (c ∷ rest)) ∷ lines_of (drop (suc (length (cond t [] (b ∷ before 10 (c ∷ rest))))) (b ∷ c ∷ rest))
    go h true = refl
    go h false = ap (longer b) h

pub no_line : (text : List ℕ) → length text ≡ 0 → lines_of text ≡ []
unfolding lines_of
no_line [] h = refl
no_line (b ∷ rest) h = absurd (omega (arith, h))

pub next_line : (text : List ℕ) → (length text ≡ 0 → ⊥) → {line rest : List ℕ} → line ≡ until text 0 10 → rest ≡ drop (length line + 1) text → lines_of text ≡ line ∷ lines_of rest
next_line text h {line} {rest} l r =
    let n : length line + 1 ≡ suc (length (before 10 text)) = ap (λ k. k + 1) (ap length l) ∙ add-one (length (before 10 text)) in
    first_line text (omega (arith, h)) ∙ ap₂ (λ l r. l ∷ lines_of r) (sym l) (sym (r ∙ ap (λ k. drop k text) n))

-- ---- a room that is filled from the front
bytes_length : (text : List ℕ) (m k : ℕ) → length (bytes_from text m k) ≡ m
unfolding bytes_from
bytes_length text zero k = refl
bytes_length text (suc m) k = ap suc (bytes_length text m (k + 1))

pub fill_turn : (text room : List ℕ) (n k b : ℕ) → k < n → b ≡ byte_of text k → sets room k (bytes_from text (n - k) k) ≡ sets (set room k b) (k + 1) (bytes_from text (n - (k + 1)) (k + 1))
unfolding bytes_from
fill_turn text room n k b h e = let q : n - k ≡ suc (n - (k + 1)) = omega arith in rw q (turn (n - (k + 1)))
  where
    turn : (m : ℕ) → sets room k (bytes_from text (suc m) k) ≡ sets (set room k b) (k + 1) (bytes_from text m (k + 1))
    turn m = rw (e, add-one k) refl

pub fill_start : (text room : List ℕ) (n : ℕ) → sets room 0 (bytes_from text (n - 0) 0) ≡ sets room 0 (bytes_from text n 0)
fill_start text room n = let z : n - 0 ≡ n = omega arith in rw z refl

pub fill_end : (text room₀ room : List ℕ) (n k : ℕ) → n ≡ fitting text room₀ → n ≤ length room₀ → n ≤ k → sets room k (bytes_from text (n - k) k) ≡ sets room₀ 0 (bytes_from text n 0) → room ≡ filled text room₀
unfolding bytes_from filled
fill_end text room₀ room n k e h z p = sym (none (n - k) k (omega arith)) ∙ (p ∙ (sets-eq (bytes_from text n 0) room₀ 0 fits ∙ whole))
  where
    none : (m i : ℕ) → m ≡ 0 → sets room i (bytes_from text m i) ≡ room
    none m i q = rw q refl

    fits : 0 + length (bytes_from text n 0) ≤ length room₀
    fits = let q = bytes_length text n 0 in omega (arith, q, h)

    whole : take 0 room₀ ++ bytes_from text n 0 ++ drop (0 + length (bytes_from text n 0)) room₀ ≡ filled text room₀
    whole = let q : 0 + length (bytes_from text n 0) ≡ n = (let r = bytes_length text n 0 in omega (arith, r)) in rw (q, e) refl

-- ---- the same with the digits of bytes
digits_length : (bytes : List ℕ) (m k : ℕ) → length (digits_from bytes m k) ≡ 2 * m
unfolding digits_from
digits_length bytes zero k = refl
digits_length bytes (suc m) k = let l = digits_length bytes m (k + 1) in omega (arith, l)

pub spell_start : (bytes room : List ℕ) (n : ℕ) → sets room (2 * 0) (digits_from bytes (n - 0) 0) ≡ sets room 0 (digits_from bytes n 0)
spell_start bytes room n = let z : n - 0 ≡ n = omega arith in rw z refl

pub spell_turn : (bytes room : List ℕ) (n k a b : ℕ) → k < n → a ≡ glyph (get_or bytes k 0 / 16) → b ≡ glyph (get_or bytes k 0 % 16) → sets room (2 * k) (digits_from bytes (n - k) k) ≡ sets (set (set room (2 * k) a) (2 * k + 1) b) (2 * (k + 1)) (digits_from bytes (n - (k + 1)) (k + 1))
unfolding digits_from
spell_turn bytes room n k a b h d e = let q : n - k ≡ suc (n - (k + 1)) = omega arith in rw q (turn (n - (k + 1)))
  where
    turn : (m : ℕ) → sets room (2 * k) (digits_from bytes (suc m) k) ≡ sets (set (set room (2 * k) a) (2 * k + 1) b) (2 * (k + 1)) (digits_from bytes m (k + 1))
    turn m = let p : 2 * k + 1 ≡ suc (2 * k) = omega arith in let r : 2 * (k + 1) ≡ suc (suc (2 * k)) = omega arith in rw (d, e, p, r) refl

pub spell_end : (bytes room₀ room : List ℕ) (n k : ℕ) → n ≡ spelt bytes room₀ → 2 * n ≤ length room₀ → n ≤ k → sets room (2 * k) (digits_from bytes (n - k) k) ≡ sets room₀ 0 (digits_from bytes n 0) → room ≡ lettered bytes room₀
unfolding digits_from lettered
spell_end bytes room₀ room n k e h z p = sym (none (n - k) (omega arith)) ∙ (p ∙ (sets-eq (digits_from bytes n 0) room₀ 0 fits ∙ whole))
  where
    none : (m : ℕ) → m ≡ 0 → sets room (2 * k) (digits_from bytes m k) ≡ room
    none m q = rw q refl

    fits : 0 + length (digits_from bytes n 0) ≤ length room₀
    fits = let q = digits_length bytes n 0 in omega (arith, q, h)

    whole : take 0 room₀ ++ digits_from bytes n 0 ++ drop (0 + length (digits_from bytes n 0)) room₀ ≡ lettered bytes room₀
    whole = let q : 0 + length (digits_from bytes n 0) ≡ 2 * n = (let r = digits_length bytes n 0 in omega (arith, r)) in rw (q, e) refl
