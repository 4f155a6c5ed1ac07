-- 02, No. 6, read back: whoever takes the pieces of the viewer's language from the front of a text, one after the other, has the numbers, the points, the polygons and last the triangles that it was made of. Definitions and statements.
use Rattle.std.specs.Prelude.{ℕ, zero, suc, ◌+◌, ◌-◌, ◌*◌, ◌/◌, ◌<◌, ◌≡◌, ◌⊎◌, true, false, ◌&&◌, cond, List, [], ◌∷◌, ◌++◌, map, eqb, ℤ, pos, negsuc, nat_abs, length}
use Rattle.floats.specs.Numbers.{Point}
use Rattle.floats.specs.Whole.{is_negative}
use Rattle.layout.specs.Parts.{Triangle}
use Rattle.text.specs.Decimal.{digit, is_digit, InDecimal}
use Rattle.chart.specs.Numbers.{minus, point, metres}
use Rattle.chart.specs.Words.{collection_word, collection_end, polygon_word, polygon_end, comma, space, point_text, polygon_text, collection_text, text_of}

-- what was found at the front of a text, with the text behind it; or nothing, where something else stands there
pub data Front (A : Type 0) : Type 0 where
  nothing : Front A
  found : A → List ℕ → Front A

-- and then what follows it
abbrev pub and_then : {A B : Type 0} → Front A → (A → List ℕ → Front B) → Front B
and_then nothing next = nothing
and_then (found a rest) next = next a rest

-- a word, and then what follows it
unfoldable pub past : {A : Type 0} → List ℕ → List ℕ → (List ℕ → Front A) → Front A
past [] text next = next text
past (w ∷ word) [] next = nothing
past (w ∷ word) (b ∷ text) next = let rest = past word text next in cond (eqb w b) rest nothing

-- ---- numbers
-- whole metres up to the point, `before` being what was read of them
unfoldable pub read_whole : ℕ → List ℕ → Front ℕ
read_whole before [] = nothing
read_whole before (b ∷ text) = let more = read_whole (10 * before + (b - 48)) text in cond (is_digit b) more (cond (eqb b point) (found before text) nothing)

-- two decimals behind so many metres
abbrev pub read_decimals : ℕ → List ℕ → Front ℕ
read_decimals m [] = nothing
read_decimals m (a ∷ []) = nothing
read_decimals m (a ∷ b ∷ text) = cond (is_digit a && is_digit b) (found (100 * m + 10 * (a - 48) + (b - 48)) text) nothing

-- whole metres begin with a digit, and with a zero only if that is all of them
unfoldable pub read_size : List ℕ → Front ℕ
unfolding read_whole past
read_size [] = nothing
read_size (b ∷ text) = cond (is_digit b) (cond (eqb b 48) (past (point ∷ []) text (read_decimals 0)) (and_then (read_whole (b - 48) text) read_decimals)) nothing

-- a number below zero; there is none of the size 0
abbrev pub below : ℕ → List ℕ → Front ℤ
below zero rest = nothing
below (suc n) rest = found (negsuc n) rest

-- a number of centimetres, with its sign
unfoldable pub read_metres : List ℕ → Front ℤ
unfolding read_size
read_metres [] = nothing
read_metres (b ∷ text) = cond (eqb b minus) (and_then (read_size text) below) (and_then (read_size (b ∷ text)) (λ n rest. found (pos n) rest))

-- ---- points, polygons, a collection
unfoldable pub read_point : List ℕ → Front (Point ℤ)
unfolding read_metres past
read_point text = and_then (read_metres text) (λ x rest. past space rest (λ rest. and_then (read_metres rest) (λ y rest. found (record { x = x; y = y }) rest)))

-- the four points of a polygon's ring
pub record Ring : Type 0 where
  pub p : Point ℤ
  pub q : Point ℤ
  pub r : Point ℤ
  pub s : Point ℤ

unfoldable pub read_polygon : List ℕ → Front Ring
unfolding read_point past
read_polygon text =
    past polygon_word text (λ rest. and_then (read_point rest) (λ p rest.
    past comma rest (λ rest. and_then (read_point rest) (λ q rest.
    past comma rest (λ rest. and_then (read_point rest) (λ r rest.
    past comma rest (λ rest. and_then (read_point rest) (λ s rest.
    past polygon_end rest (λ rest. found (record { p = p; q = q; r = r; s = s }) rest)))))))))

-- the polygons behind the first, each behind a comma and a space, up to the collection's end; so many at most
unfoldable pub read_others : ℕ → List ℕ → Front (List Ring)
unfolding read_polygon past
read_others zero text = past collection_end text (λ rest. found [] rest)
read_others (suc most) [] = nothing
read_others (suc most) (b ∷ text) =
    cond (eqb b 41) (past collection_end (b ∷ text) (λ rest. found [] rest))
    (past comma (b ∷ text) (λ rest. and_then (read_polygon rest) (λ ring rest. and_then (read_others most rest) (λ rings rest. found (ring ∷ rings) rest))))

-- a collection of one polygon or more
unfoldable pub read_text : List ℕ → Front (List Ring)
unfolding read_polygon read_others past
read_text text = past collection_word text (λ rest. and_then (read_polygon rest) (λ ring rest. and_then (read_others (length text) rest) (λ rings rest. found (ring ∷ rings) rest)))

-- ---- what holds of them
-- a number's text reads back as the number of centimetres, whatever follows it. It is a minus sign, exactly if the number is below zero; the whole metres in decimal; the point; and two digits
pub record InMetres (z : ℤ) (text : List ℕ) : Type 0 where
  pub reads_back : (rest : List ℕ) → read_metres (text ++ rest) ≡ found z rest
  pub sign : List ℕ
  pub whole : List ℕ
  pub tenths : ℕ
  pub hundredths : ℕ
  pub parts : text ≡ sign ++ (whole ++ (point ∷ digit tenths ∷ digit hundredths ∷ []))
  pub signed : ((is_negative z ≡ true) × (sign ≡ minus ∷ [])) ⊎ ((is_negative z ≡ false) × (sign ≡ []))
  pub in_decimal : InDecimal (nat_abs z / 100) whole
  pub two_digits : (tenths < 10) × (hundredths < 10) × (100 * (nat_abs z / 100) + 10 * tenths + hundredths ≡ nat_abs z)

abbrev pub MetresReadBack : Type 0
MetresReadBack = (z : ℤ) → InMetres z (metres z)

-- the ring of a triangle: its vertices, closed by the first; and the text of any ring
abbrev pub ring_of : Triangle → Ring
ring_of t = record { p = t.v0; q = t.v1; r = t.v2; s = t.v0 }

abbrev pub ring_text : Ring → List ℕ
ring_text r = polygon_text r.p r.q r.r r.s

-- so do points and polygons, and the text of one triangle or more reads back as their rings, with nothing behind it
pub record TextsReadBack : Type 0 where
  pub points : (p : Point ℤ) (rest : List ℕ) → read_point (point_text p ++ rest) ≡ found p rest
  pub polygons : (r : Ring) (rest : List ℕ) → read_polygon (ring_text r ++ rest) ≡ found r rest
  pub whole : (t : Triangle) (ts : List Triangle) → read_text (text_of (t ∷ ts)) ≡ found (map ring_of (t ∷ ts)) []

-- and nothing else reads as any of them: what was read is the text of what was found, and what follows it
pub record ReadsNothingElse : Type 0 where
  pub numbers : (text : List ℕ) (z : ℤ) (rest : List ℕ) → read_metres text ≡ found z rest → text ≡ metres z ++ rest
  pub points : (text : List ℕ) (p : Point ℤ) (rest : List ℕ) → read_point text ≡ found p rest → text ≡ point_text p ++ rest
  pub polygons : (text : List ℕ) (r : Ring) (rest : List ℕ) → read_polygon text ≡ found r rest → text ≡ ring_text r ++ rest
  pub whole : (text : List ℕ) (rings : List Ring) (rest : List ℕ) → read_text text ≡ found rings rest → text ≡ collection_text (map ring_text rings) ++ rest

-- so no two texts are the same: of numbers and of polygons, whatever follows them, and of triangles
pub record NoTwoAlike : Type 0 where
  pub numbers : (y z : ℤ) (r s : List ℕ) → metres y ++ r ≡ metres z ++ s → (y ≡ z) × (r ≡ s)
  pub polygons : (u v : Ring) (r s : List ℕ) → ring_text u ++ r ≡ ring_text v ++ s → (u ≡ v) × (r ≡ s)
  pub triangles : (t u : Triangle) (ts us : List Triangle) → text_of (t ∷ ts) ≡ text_of (u ∷ us) → t ∷ ts ≡ u ∷ us
