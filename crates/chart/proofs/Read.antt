-- Numbers, points and polygons are read back from the front of whatever they stand before, and the text of triangles as a whole. Assumes nothing.
use Prim.Native.Nat.{ℕ, zero, suc, ◌+◌, ◌-◌, ◌*◌, ◌/◌, ◌%◌, ◌<◌, ◌≤◌}
use mathlib.Core.Path.{◌≡◌, refl, sym, ap, ◌∙◌}
use mathlib.Core.Logic.{inl, inr}
use mathlib.Core.Bool.{Bool, true, false, cond}
use mathlib.Core.List.Memᴰ.{head as here}
use mathlib.Core.List.Memᴰ.{tail as there}
use mathlib.Core.List.{List, [], ◌∷◌, ◌++◌, map, append_assoc}
use native.Mathlib.Omega.{arith}
use lib.Dec.{eqb}
use borrow.Author.Tests.{ne_eqb, eqb-true}
use lib.IntN.{ℤ, pos, negsuc}
use lib.ListN.{length, get_or, length-append}
use Rattle.floats.specs.Numbers.{Point}
use Rattle.layout.specs.Parts.{Triangle}
use Rattle.text.specs.Decimal.{digit, is_digit, decimal, read_on, read}
use Rattle.text.proofs.Decimal.{AllDigits, is_digit_lem, decimals}
use Rattle.chart.specs.Numbers.{minus, point, size_text, metres}
use Rattle.chart.specs.Words.{collection_word, collection_end, polygon_word, polygon_end, comma, space, point_text, polygon_text, others, members, collection_text, triangle_text, text_of}
use Rattle.chart.specs.Read.{Front, nothing, found, and_then, past, read_whole, read_decimals, read_size, read_metres, below, read_point, Ring, read_polygon, read_others, read_text, MetresReadBack, ring_of, ring_text, TextsReadBack, NoTwoAlike}

-- what follows something that was found
step : {A B : Type 0} {front : Front A} {a : A} {rest : List ℕ} (next : A → List ℕ → Front B) → front ≡ found a rest → and_then front next ≡ next a rest
step next e = ap (λ f. and_then f next) e

-- ---- numbers
up_to_point : (before : ℕ) (xs rest : List ℕ) → AllDigits xs → read_whole before (xs ++ (point ∷ rest)) ≡ found (read_on before xs) rest
unfolding read_whole read_on
up_to_point before [] rest d = refl
up_to_point before (x ∷ xs) rest d = let h = d x (here refl) in rw (is_digit_lem x h.0 h.1) (up_to_point (10 * before + (x - 48)) xs rest (λ b m. d b (there m)))

two_decimals : (m a b : ℕ) (rest : List ℕ) → a < 10 → b < 10 → read_decimals m (digit a ∷ digit b ∷ rest) ≡ found (100 * m + 10 * a + b) rest
two_decimals m a b rest h k =
    rw (is_digit_lem (48 + a) (omega arith) (omega (arith, h)), is_digit_lem (48 + b) (omega arith) (omega (arith, k))) (ap (λ n. found n rest) (sum m a b))
  where
    sum : (m a b : ℕ) → 100 * m + 10 * (48 + a - 48) + (48 + b - 48) ≡ 100 * m + 10 * a + b
    sum m a b = omega arith

size_apart : (n : ℕ) (rest : List ℕ) → size_text n ++ rest ≡ decimal (n / 100) ++ (point ∷ digit (n / 10 % 10) ∷ digit (n % 10) ∷ rest)
unfolding size_text
size_apart n rest = append_assoc (decimal (n / 100)) (point ∷ digit (n / 10 % 10) ∷ digit (n % 10) ∷ []) rest

-- whole metres and decimals behind them
whole_and_decimals : (before : ℕ) (xs : List ℕ) (a b : ℕ) (rest : List ℕ) → AllDigits xs → a < 10 → b < 10 → and_then (read_whole before (xs ++ (point ∷ digit a ∷ digit b ∷ rest))) read_decimals ≡ found (100 * read_on before xs + 10 * a + b) rest
whole_and_decimals before xs a b rest d h k = step read_decimals (up_to_point before xs (digit a ∷ digit b ∷ rest) d) ∙ two_decimals (read_on before xs) a b rest h k

-- digits that begin with a zero only if that is all of them
size_of : (xs : List ℕ) (a b : ℕ) (rest : List ℕ) → AllDigits xs → 0 < length xs → (get_or xs 0 0 ≡ 48 → length xs ≡ 1) → a < 10 → b < 10 → read_size (xs ++ (point ∷ digit a ∷ digit b ∷ rest)) ≡ found (100 * read xs + 10 * a + b) rest
unfolding read_size read_on
size_of [] a b rest d some alone h k = absurd (omega (arith, some))
size_of (x ∷ xs) a b rest d some alone h k = go (eqb x 48) refl
  where
    g : (48 ≤ x) × (x ≤ 57)
    g = d x (here refl)

    nil : (ys : List ℕ) → suc (length ys) ≡ 1 → ys ≡ []
    nil [] e = refl
    nil (y ∷ ys) e = absurd (omega (arith, e))

    none_before : (n : ℕ) → 10 * 0 + n ≡ n
    none_before n = omega arith

    go : (t : Bool) → eqb x 48 ≡ t → cond (is_digit x) (cond (eqb x 48) (past (point ∷ []) (xs ++ (point ∷ digit a ∷ digit b ∷ rest)) (read_decimals 0)) (and_then (read_whole (x - 48) (xs ++ (point ∷ digit a ∷ digit b ∷ rest))) read_decimals)) nothing ≡ found (100 * read_on 0 (x ∷ xs) + 10 * a + b) rest
    go true e =
        let z = eqb-true x 48 e in
        let n = nil xs (alone z) in
        rw (is_digit_lem x g.0 g.1, e, n, z) (unfold past in two_decimals 0 a b rest h k)
    go false e =
        rw (is_digit_lem x g.0 g.1, e)
        (whole_and_decimals (x - 48) xs a b rest (λ b m. d b (there m)) h k ∙ ap (λ m. found (100 * read_on m xs + 10 * a + b) rest) (sym (none_before (x - 48))))

size_back : (n : ℕ) (rest : List ℕ) → read_size (size_text n ++ rest) ≡ found n rest
size_back n rest =
    let d = decimals (n / 100) in
    ap read_size (size_apart n rest)
    ∙ (size_of (decimal (n / 100)) (n / 10 % 10) (n % 10) rest d.digits d.some d.no_leading_zero (omega arith) (omega arith)
    ∙ ap (λ k. found k rest) (again n (read (decimal (n / 100))) d.reads_back))
  where
    again : (n m : ℕ) → m ≡ n / 100 → 100 * m + 10 * (n / 10 % 10) + n % 10 ≡ n
    again n m h = omega (arith, h)

-- a text that begins with a digit has no sign
no_sign : (xs ys : List ℕ) → AllDigits xs → 0 < length xs → read_metres (xs ++ ys) ≡ and_then (read_size (xs ++ ys)) (λ n rest. found (pos n) rest)
unfolding read_metres
no_sign [] ys d h = absurd (omega (arith, h))
no_sign (x ∷ xs) ys d h = let g = (d x (here refl)).0 in rw (ne_eqb x 45 (λ e. omega (arith, e, g))) refl

metres_back : (z : ℤ) (rest : List ℕ) → read_metres (metres z ++ rest) ≡ found z rest
unfolding metres
metres_back (pos n) rest =
    let d = decimals (n / 100) in
    ap read_metres (size_apart n rest)
    ∙ (no_sign (decimal (n / 100)) (point ∷ digit (n / 10 % 10) ∷ digit (n % 10) ∷ rest) d.digits d.some
    ∙ (ap (λ t. and_then (read_size t) (λ n rest. found (pos n) rest)) (sym (size_apart n rest)) ∙ step (λ n rest. found (pos n) rest) (size_back n rest)))
metres_back (negsuc n) rest = unfold read_metres in step below (size_back (suc n) rest)

pub metres_read_back : MetresReadBack
unfolding metres size_text
metres_read_back (pos n) = record {
  reads_back = metres_back (pos n);
  sign = [];
  whole = decimal (n / 100);
  tenths = n / 10 % 10;
  hundredths = n % 10;
  parts = refl;
  signed = inr (refl, refl);
  in_decimal = decimals (n / 100);
  two_digits = (omega arith, omega arith, omega arith);
}
metres_read_back (negsuc n) = record {
  reads_back = metres_back (negsuc n);
  sign = minus ∷ [];
  whole = decimal (suc n / 100);
  tenths = suc n / 10 % 10;
  hundredths = suc n % 10;
  parts = refl;
  signed = inl (refl, refl);
  in_decimal = decimals (suc n / 100);
  two_digits = (omega arith, omega arith, omega arith);
}

-- ---- points
point_back : (p : Point ℤ) (rest : List ℕ) → read_point (point_text p ++ rest) ≡ found p rest
unfolding read_point point_text past
point_back p rest =
    ap read_point (append_assoc (metres p.x) (space ++ metres p.y) rest)
    ∙ (step _ (metres_back p.x (space ++ (metres p.y ++ rest))) ∙ step _ (metres_back p.y rest))

-- ---- polygons
module _ (p q r s : Point ℤ) (rest : List ℕ) where
  fourth : List ℕ
  fourth = point_text s ++ (polygon_end ++ rest)

  third : List ℕ
  third = point_text r ++ (comma ++ fourth)

  second : List ℕ
  second = point_text q ++ (comma ++ third)

  polygon_apart : polygon_text p q r s ++ rest ≡ polygon_word ++ (point_text p ++ (comma ++ second))
  unfolding polygon_text fourth third second
  polygon_apart = simp append_assoc refl

  polygon_back : read_polygon (polygon_text p q r s ++ rest) ≡ found (record { p = p; q = q; r = r; s = s }) rest
  unfolding read_polygon past
  polygon_back =
      ap read_polygon polygon_apart
      ∙ (step _ (point_back p (comma ++ second)) ∙ (unfold second in step _ (point_back q (comma ++ third)) ∙ (unfold third in step _ (point_back r (comma ++ fourth)) ∙ (unfold fourth in step _ (point_back s (polygon_end ++ rest))))))

-- ---- a collection
triangle_back : (t : Triangle) (rest : List ℕ) → read_polygon (triangle_text t ++ rest) ≡ found (ring_of t) rest
unfolding triangle_text
triangle_back t rest = polygon_back t.v0 t.v1 t.v2 t.v0 rest

others_back : (most : ℕ) (ts : List Triangle) (rest : List ℕ) → length ts ≤ most → read_others most (others (map triangle_text ts) ++ (collection_end ++ rest)) ≡ found (map ring_of ts) rest
unfolding read_others others past
others_back zero [] rest h = refl
others_back (suc most) [] rest h = refl
others_back zero (t ∷ ts) rest h = absurd (omega (arith, h))
others_back (suc most) (t ∷ ts) rest h =
    step _ (ap read_polygon (append_assoc (triangle_text t) (others (map triangle_text ts)) (collection_end ++ rest)) ∙ triangle_back t (others (map triangle_text ts) ++ (collection_end ++ rest)))
    ∙ step _ (others_back most ts rest (omega (arith, h)))

-- each of the others has a byte at least
others-length : (texts : List (List ℕ)) → length texts ≤ length (others texts)
unfolding others
others-length [] = omega arith
others-length (text ∷ texts) = let a = length-append text (others texts) in let b = others-length texts in omega (arith, a, b)

mapped_length : {A B : Type 0} (f : A → B) (xs : List A) → length (map f xs) ≡ length xs
mapped_length f [] = refl
mapped_length f (x ∷ xs) = ap suc (mapped_length f xs)

-- a collection of so many polygons behind the first at most
read_within : ℕ → List ℕ → Front (List Ring)
read_within most text = past collection_word text (λ rest. and_then (read_polygon rest) (λ ring rest. and_then (read_others most rest) (λ rings rest. found (ring ∷ rings) rest)))

module _ (t : Triangle) (ts : List Triangle) where
  whole_apart : text_of (t ∷ ts) ≡ collection_word ++ (triangle_text t ++ (others (map triangle_text ts) ++ (collection_end ++ [])))
  unfolding text_of collection_text members
  whole_apart = ap (λ x. collection_word ++ x) (append_assoc (triangle_text t) (others (map triangle_text ts)) collection_end)

  enough : length ts ≤ length (text_of (t ∷ ts))
  enough =
      let a = ap length whole_apart in
      let b = length-append (triangle_text t) (others (map triangle_text ts) ++ (collection_end ++ [])) in
      let c = length-append (others (map triangle_text ts)) (collection_end ++ []) in
      let d = others-length (map triangle_text ts) in
      let e = mapped_length triangle_text ts in
      omega (arith, a, b, c, d, e)

  whole_back : read_text (text_of (t ∷ ts)) ≡ found (map ring_of (t ∷ ts)) []
  unfolding read_text read_within past
  whole_back =
      ap (read_within (length (text_of (t ∷ ts)))) whole_apart
      ∙ (step _ (triangle_back t (others (map triangle_text ts) ++ (collection_end ++ []))) ∙ step _ (others_back (length (text_of (t ∷ ts))) ts [] enough))

pub texts_read_back : TextsReadBack
texts_read_back = record { points = point_back; polygons = λ r rest. polygon_back r.p r.q r.r r.s rest; whole = whole_back }

-- ---- no two alike
-- what was found, or else this, and the text behind it
found_or : {A : Type 0} → A → Front A → A
found_or other nothing = other
found_or other (found a rest) = a

behind : {A : Type 0} → Front A → List ℕ
behind nothing = []
behind (found a rest) = rest

pub found_same : {A : Type 0} {a b : A} {r s : List ℕ} → found a r ≡ found b s → (a ≡ b) × (r ≡ s)
unfolding found_or behind
found_same {A} {a} {b} {r} {s} e = (ap (found_or a) e, ap behind e)

numbers_apart : (y z : ℤ) (r s : List ℕ) → metres y ++ r ≡ metres z ++ s → (y ≡ z) × (r ≡ s)
numbers_apart y z r s e = found_same (sym (metres_back y r) ∙ (ap read_metres e ∙ metres_back z s))

polygons_apart : (u v : Ring) (r s : List ℕ) → ring_text u ++ r ≡ ring_text v ++ s → (u ≡ v) × (r ≡ s)
polygons_apart u v r s e = found_same (sym (polygon_back u.p u.q u.r u.s r) ∙ (ap read_polygon e ∙ polygon_back v.p v.q v.r v.s s))

-- the triangle of a ring
abbrev corners_of : Ring → Triangle
corners_of r = record { v0 = r.p; v1 = r.q; v2 = r.r }

corners_back : (ts : List Triangle) → map corners_of (map ring_of ts) ≡ ts
corners_back [] = refl
corners_back (t ∷ ts) = ap (λ us. t ∷ us) (corners_back ts)

triangles_apart : (t u : Triangle) (ts us : List Triangle) → text_of (t ∷ ts) ≡ text_of (u ∷ us) → t ∷ ts ≡ u ∷ us
triangles_apart t u ts us e =
    sym (corners_back (t ∷ ts)) ∙ (ap (map corners_of) (found_same (sym (whole_back t ts) ∙ (ap read_text e ∙ whole_back u us))).0 ∙ corners_back (u ∷ us))

pub no_two_alike : NoTwoAlike
no_two_alike = record { numbers = numbers_apart; polygons = polygons_apart; triangles = triangles_apart }
