-- What reads as a number, a point, a polygon or a collection is the text of what was found, and what follows it. Assumes nothing.
use Prim.Native.Nat.{ℕ, zero, suc, ◌+◌, ◌-◌, ◌*◌, ◌/◌, ◌%◌, ◌<◌, ◌≤◌}
use mathlib.Core.Path.{◌≡◌, refl, sym, ap, ap₂, subst, ◌∙◌}
use mathlib.Core.Bool.{Bool, true, false, ◌&&◌, cond, false≢true}
use mathlib.Core.List.Memᴰ
use mathlib.Core.List.Memᴰ.{head as here}
use mathlib.Core.List.Memᴰ.{tail as there}
use mathlib.Core.List.{List, [], ◌∷◌, ◌++◌, map, append_assoc, Memᴰ}
use native.Mathlib.Omega.{arith}
use lib.Dec.{eqb, leb}
use borrow.Author.Tests.{eqb-true, eqb-false, leb-true}
use lib.IntN.{ℤ, pos}
use lib.ListN.{length}
use Rattle.floats.specs.Numbers.{Point}
use Rattle.text.specs.Decimal.{digit, is_digit, decimal, read_on}
use Rattle.text.proofs.Decimal.{AllDigits}
use Rattle.text.proofs.Laws.{under_ten, tens_and_last}
use Rattle.chart.specs.Numbers.{minus, point, size_text, metres}
use Rattle.chart.specs.Words.{collection_word, collection_end, polygon_word, polygon_end, comma, space, point_text, polygon_text, others, members, collection_text}
use Rattle.chart.specs.Read.{Front, nothing, found, and_then, past, read_whole, read_decimals, read_size, below, read_metres, read_point, Ring, read_polygon, read_others, read_text, ring_text, ReadsNothingElse}
use Rattle.chart.proofs.Read.{found_same}

-- ---- what was found came of what stands there
is_found : {A : Type 0} → Front A → Bool
is_found nothing = false
is_found (found a rest) = true

never : {A : Type 0} {a : A} {rest : List ℕ} → nothing ≡ found a rest → ⊥
unfolding is_found
never e = false≢true (ap is_found e)

-- something, and then something behind it
came_of : {A B : Type 0} (front : Front A) (next : A → List ℕ → Front B) {b : B} {rest : List ℕ} → and_then front next ≡ found b rest → (a : A) × (mid : List ℕ) × (front ≡ found a mid) × (next a mid ≡ found b rest)
came_of nothing next e = absurd (never e)
came_of (found a mid) next e = (a, mid, refl, e)

-- a word, and then something behind it
past_word : {A : Type 0} (word text : List ℕ) (next : List ℕ → Front A) {a : A} {rest : List ℕ} → past word text next ≡ found a rest → (mid : List ℕ) × (text ≡ word ++ mid) × (next mid ≡ found a rest)
unfolding past
past_word [] text next e = (text, refl, e)
past_word (w ∷ word) [] next e = absurd (never e)
past_word (w ∷ word) (b ∷ text) next {a} {rest} e = go (eqb w b) refl (λ f. past_word word text next f) e
  where
    go : (t : Bool) → eqb w b ≡ t → (past word text next ≡ found a rest → (mid : List ℕ) × (text ≡ word ++ mid) × (next mid ≡ found a rest)) → cond t (past word text next) nothing ≡ found a rest → (mid : List ℕ) × (b ∷ text ≡ w ∷ (word ++ mid)) × (next mid ≡ found a rest)
    go true q more f = let p = more f in (p.0, ap₂ (λ x xs. x ∷ xs) (sym (eqb-true w b q)) p.1, p.2)
    go false q more f = absurd (never f)

-- ---- numbers
both : (a b : Bool) → a && b ≡ true → (a ≡ true) × (b ≡ true)
both true b h = (refl, h)
both false b h = absurd (false≢true h)

digit_between : (b : ℕ) → is_digit b ≡ true → (48 ≤ b) × (b ≤ 57)
digit_between b h = let p = both (leb 48 b) (leb b 57) h in (leb-true 48 b p.0, leb-true b 57 p.1)

-- what was read up to the point
up_to_point : (before : ℕ) (text : List ℕ) {m : ℕ} {rest : List ℕ} → read_whole before text ≡ found m rest → (xs : List ℕ) × AllDigits xs × (text ≡ xs ++ (point ∷ rest)) × (read_on before xs ≡ m)
unfolding read_whole read_on
up_to_point before [] e = absurd (never e)
up_to_point before (b ∷ text) {m} {rest} e = go (is_digit b) refl (eqb b point) refl (λ f. up_to_point (10 * before + (b - 48)) text f) e
  where
    go : (t : Bool) → is_digit b ≡ t → (u : Bool) → eqb b point ≡ u → (read_whole (10 * before + (b - 48)) text ≡ found m rest → (xs : List ℕ) × AllDigits xs × (text ≡ xs ++ (point ∷ rest)) × (read_on (10 * before + (b - 48)) xs ≡ m)) → cond t (read_whole (10 * before + (b - 48)) text) (cond u (found before text) nothing) ≡ found m rest → (xs : List ℕ) × AllDigits xs × (b ∷ text ≡ xs ++ (point ∷ rest)) × (read_on before xs ≡ m)
    go true d u q more f =
        let p = more f in
        (b ∷ p.0, (λ c m. first c m p.1), ap (λ t. b ∷ t) p.2, p.3)
      where
        first : (c : ℕ) {xs : List ℕ} → Memᴰ c (b ∷ xs) → AllDigits xs → (48 ≤ c) × (c ≤ 57)
        first c (here h) a = subst (λ k. (48 ≤ k) × (k ≤ 57)) (sym h) (digit_between b d)
        first c (there h) a = a c h
    go false d true q more f = let s = found_same f in ([], (λ c m. absurd (Memᴰ.not-nil m)), ap₂ (λ x xs. x ∷ xs) (eqb-true b point q) s.1, s.0)
    go false d false q more f = absurd (never f)

-- digits behind a number that is not zero are the decimal of what they make of it
digits_on : (n : ℕ) (xs : List ℕ) → 1 ≤ n → AllDigits xs → decimal (read_on n xs) ≡ decimal n ++ xs
unfolding read_on
digits_on n [] h d = sym (end (decimal n))
  where
    end : (t : List ℕ) → t ++ [] ≡ t
    end [] = refl
    end (x ∷ t) = ap (λ s. x ∷ s) (end t)
digits_on n (x ∷ xs) h d =
    let g = d x (here refl) in
    let m = 10 * n + (x - 48) in
    digits_on m xs (omega (arith, h)) (λ b e. d b (there e))
    ∙ (ap (λ t. t ++ xs) (tens_and_last m (omega (arith, h)) ∙ ap₂ (λ a b. decimal a ++ (b ∷ [])) (tens n x g.0 g.1) (last n x g.0 g.1)) ∙ append_assoc (decimal n) (x ∷ []) xs)
  where
    tens : (n x : ℕ) → 48 ≤ x → x ≤ 57 → (10 * n + (x - 48)) / 10 ≡ n
    tens n x a b = omega (arith, a, b)

    last : (n x : ℕ) → 48 ≤ x → x ≤ 57 → 48 + (10 * n + (x - 48)) % 10 ≡ x
    last n x a b = omega (arith, a, b)

-- two decimals
two_decimals : (m : ℕ) (text : List ℕ) {n : ℕ} {rest : List ℕ} → read_decimals m text ≡ found n rest → (a : ℕ) × (b : ℕ) × (a < 10) × (b < 10) × (text ≡ digit a ∷ digit b ∷ rest) × (100 * m + 10 * a + b ≡ n)
two_decimals m [] e = absurd (never e)
two_decimals m (a ∷ []) e = absurd (never e)
two_decimals m (a ∷ b ∷ text) {n} {rest} e = go (is_digit a && is_digit b) refl e
  where
    again : (x : ℕ) → 48 ≤ x → x ≡ 48 + (x - 48)
    again x h = omega (arith, h)

    go : (t : Bool) → is_digit a && is_digit b ≡ t → cond t (found (100 * m + 10 * (a - 48) + (b - 48)) text) nothing ≡ found n rest → (c : ℕ) × (d : ℕ) × (c < 10) × (d < 10) × (a ∷ b ∷ text ≡ digit c ∷ digit d ∷ rest) × (100 * m + 10 * c + d ≡ n)
    go true q f =
        let p = both (is_digit a) (is_digit b) q in
        let x = digit_between a p.0 in
        let y = digit_between b p.1 in
        let s = found_same f in
        (a - 48, b - 48, omega (arith, x.1), omega (arith, y.1), ap₂ (λ u v. u ∷ v) (again a x.0) (ap₂ (λ u v. u ∷ v) (again b y.0) s.1), s.0)
    go false q f = absurd (never f)

-- whole metres and two decimals are so many centimetres
size_from : (m a b n : ℕ) (rest : List ℕ) → a < 10 → b < 10 → 100 * m + 10 * a + b ≡ n → decimal m ++ (point ∷ digit a ∷ digit b ∷ rest) ≡ size_text n ++ rest
unfolding size_text
size_from m a b n rest h k e =
    subst3 (metre m a b n h k e) (tenth m a b n h k e) (hundredth m a b n h k e) ∙ sym (append_assoc (decimal (n / 100)) (point ∷ digit (n / 10 % 10) ∷ digit (n % 10) ∷ []) rest)
  where
    subst3 : {m' a' b' : ℕ} → m ≡ m' → a ≡ a' → b ≡ b' → decimal m ++ (point ∷ digit a ∷ digit b ∷ rest) ≡ decimal m' ++ (point ∷ digit a' ∷ digit b' ∷ rest)
    subst3 p q r = rw (p, q, r) refl

    metre : (m a b n : ℕ) → a < 10 → b < 10 → 100 * m + 10 * a + b ≡ n → m ≡ n / 100
    metre m a b n h k e = omega (arith, h, k, e)

    tenth : (m a b n : ℕ) → a < 10 → b < 10 → 100 * m + 10 * a + b ≡ n → a ≡ n / 10 % 10
    tenth m a b n h k e = omega (arith, h, k, e)

    hundredth : (m a b n : ℕ) → a < 10 → b < 10 → 100 * m + 10 * a + b ≡ n → b ≡ n % 10
    hundredth m a b n h k e = omega (arith, h, k, e)

size_exact : (text : List ℕ) {n : ℕ} {rest : List ℕ} → read_size text ≡ found n rest → text ≡ size_text n ++ rest
unfolding read_size
size_exact [] e = absurd (never e)
size_exact (x ∷ text) {n} {rest} e = go (is_digit x) refl (eqb x 48) refl e
  where
    one : (x : ℕ) → 48 ≤ x → x ≤ 57 → (x ≡ 48 → ⊥) → 1 ≤ x - 48
    one x a b c = omega (arith, a, b, c)

    byte : (x : ℕ) → 48 ≤ x → 48 + (x - 48) ≡ x
    byte x a = omega (arith, a)

    go : (t : Bool) → is_digit x ≡ t → (u : Bool) → eqb x 48 ≡ u → cond t (cond u (past (point ∷ []) text (read_decimals 0)) (and_then (read_whole (x - 48) text) read_decimals)) nothing ≡ found n rest → x ∷ text ≡ size_text n ++ rest
    go false d u q f = absurd (never f)
    go true d true q f =
        let p = past_word (point ∷ []) text (read_decimals 0) f in
        let c = two_decimals 0 p.0 p.2 in
        ap₂ (λ y ys. y ∷ ys) (eqb-true x 48 q) (p.1 ∙ ap (λ t. point ∷ t) c.4) ∙ (ap (λ t. t ++ (point ∷ digit c.0 ∷ digit c.1 ∷ rest)) (sym (under_ten 0 (omega arith))) ∙ size_from 0 c.0 c.1 n rest c.2 c.3 c.5)
    go true d false q f =
        let g = digit_between x d in
        let a = came_of (read_whole (x - 48) text) read_decimals f in
        let w = up_to_point (x - 48) text a.2 in
        let c = two_decimals a.0 a.1 a.3 in
        let first : decimal a.0 ≡ x ∷ w.0 = ap decimal (sym w.3) ∙ (digits_on (x - 48) w.0 (one x g.0 g.1 (eqb-false x 48 q)) w.1 ∙ (ap (λ t. t ++ w.0) (under_ten (x - 48) (omega (arith, g.1))) ∙ ap (λ y. y ∷ w.0) (byte x g.0))) in
        ap (λ t. x ∷ t) (w.2 ∙ ap (λ t. w.0 ++ (point ∷ t)) c.4) ∙ (ap (λ t. t ++ (point ∷ digit c.0 ∷ digit c.1 ∷ rest)) (sym first) ∙ size_from a.0 c.0 c.1 n rest c.2 c.3 c.5)

metres_exact : (text : List ℕ) (z : ℤ) (rest : List ℕ) → read_metres text ≡ found z rest → text ≡ metres z ++ rest
unfolding read_metres metres
metres_exact [] z rest e = absurd (never e)
metres_exact (b ∷ text) z rest e = go (eqb b minus) refl e
  where
    under : (n : ℕ) (mid : List ℕ) → below n mid ≡ found z rest → minus ∷ (size_text n ++ mid) ≡ metres z ++ rest
    under zero mid f = absurd (never f)
    under (suc n) mid f = let s = found_same f in ap (λ t. minus ∷ (size_text (suc n) ++ t)) s.1 ∙ ap (λ k. metres k ++ rest) s.0

    go : (t : Bool) → eqb b minus ≡ t → cond t (and_then (read_size text) below) (and_then (read_size (b ∷ text)) (λ n rest. found (pos n) rest)) ≡ found z rest → b ∷ text ≡ metres z ++ rest
    go true q f =
        let a = came_of (read_size text) below f in
        ap₂ (λ y ys. y ∷ ys) (eqb-true b minus q) (size_exact text a.2) ∙ under a.0 a.1 a.3
    go false q f =
        let a = came_of (read_size (b ∷ text)) (λ n rest. found (pos n) rest) f in
        let s = found_same a.3 in
        size_exact (b ∷ text) a.2 ∙ (ap (λ t. size_text a.0 ++ t) s.1 ∙ ap (λ k. metres k ++ rest) s.0)

-- ---- points
point_exact : (text : List ℕ) (p : Point ℤ) (rest : List ℕ) → read_point text ≡ found p rest → text ≡ point_text p ++ rest
unfolding read_point point_text
point_exact text p rest e =
    let x = came_of (read_metres text) _ e in
    let w = past_word space x.1 _ x.3 in
    let y = came_of (read_metres w.0) _ w.2 in
    let s = found_same y.3 in
    metres_exact text x.0 x.1 x.2
    ∙ (ap (λ t. metres x.0 ++ t) (w.1 ∙ ap (λ t. space ++ t) (metres_exact w.0 y.0 y.1 y.2 ∙ ap (λ t. metres y.0 ++ t) s.1))
    ∙ (sym (append_assoc (metres x.0) (space ++ metres y.0) rest) ∙ ap (λ q. (metres q.x ++ (space ++ metres q.y)) ++ rest) s.0))

-- a point, and then something behind it
after_point : {B : Type 0} (text : List ℕ) (next : Point ℤ → List ℕ → Front B) {b : B} {rest : List ℕ} → and_then (read_point text) next ≡ found b rest → (p : Point ℤ) × (mid : List ℕ) × (text ≡ point_text p ++ mid) × (next p mid ≡ found b rest)
after_point text next e = let a = came_of (read_point text) next e in (a.0, a.1, point_exact text a.0 a.1 a.2, a.3)

-- ---- polygons
joined : (p q r s : Point ℤ) (rest : List ℕ) → polygon_word ++ (point_text p ++ (comma ++ (point_text q ++ (comma ++ (point_text r ++ (comma ++ (point_text s ++ (polygon_end ++ rest)))))))) ≡ polygon_text p q r s ++ rest
unfolding polygon_text
joined p q r s rest = sym (simp append_assoc refl)

-- the next point, behind a comma and a space
next_point : {B : Type 0} (text : List ℕ) (next : Point ℤ → List ℕ → Front B) {b : B} {rest : List ℕ} → past comma text (λ t. and_then (read_point t) next) ≡ found b rest → (p : Point ℤ) × (mid : List ℕ) × (text ≡ comma ++ (point_text p ++ mid)) × (next p mid ≡ found b rest)
next_point text next e =
    let w = past_word comma text (λ t. and_then (read_point t) next) e in
    let a = after_point w.0 next w.2 in
    (a.0, a.1, w.1 ∙ ap (λ t. comma ++ t) a.2, a.3)

polygon_exact : (text : List ℕ) (ring : Ring) (rest : List ℕ) → read_polygon text ≡ found ring rest → text ≡ ring_text ring ++ rest
unfolding read_polygon
polygon_exact text ring rest e = from (past_word polygon_word text _ e)
  where
    ended : (p q r s : Point ℤ) (text : List ℕ) → past polygon_end text (λ rest. found (record { p = p; q = q; r = r; s = s }) rest) ≡ found ring rest → (text ≡ polygon_end ++ rest) × (ring_text (record { p = p; q = q; r = r; s = s }) ++ rest ≡ ring_text ring ++ rest)
    ended p q r s text f =
        let w = past_word polygon_end text (λ rest. found (record { p = p; q = q; r = r; s = s }) rest) f in
        let same = found_same w.2 in
        (w.1 ∙ ap (λ t. polygon_end ++ t) same.1, ap (λ u. ring_text u ++ rest) same.0)

    from : (mid : List ℕ) × (text ≡ polygon_word ++ mid) × (and_then (read_point mid) (λ p rest. past comma rest (λ rest. and_then (read_point rest) (λ q rest. past comma rest (λ rest. and_then (read_point rest) (λ r rest. past comma rest (λ rest. and_then (read_point rest) (λ s rest. past polygon_end rest (λ rest. found (record { p = p; q = q; r = r; s = s }) rest)))))))) ≡ found ring rest) → text ≡ ring_text ring ++ rest
    from (mid, w, f) =
        let p = after_point mid _ f in
        let q = next_point p.1 _ p.3 in
        let r = next_point q.1 _ q.3 in
        let s = next_point r.1 _ r.3 in
        let end = ended p.0 q.0 r.0 s.0 s.1 s.3 in
        w
        ∙ (ap (λ t. polygon_word ++ t) (p.2 ∙ ap (λ t. point_text p.0 ++ t) (q.2 ∙ ap (λ t. comma ++ (point_text q.0 ++ t)) (r.2 ∙ ap (λ t. comma ++ (point_text r.0 ++ t)) (s.2 ∙ ap (λ t. comma ++ (point_text s.0 ++ t)) end.0))))
        ∙ (joined p.0 q.0 r.0 s.0 rest ∙ end.1))

-- ---- a collection
last_exact : (text : List ℕ) (rings : List Ring) (rest : List ℕ) → past collection_end text (λ rest. found [] rest) ≡ found rings rest → text ≡ others (map ring_text rings) ++ (collection_end ++ rest)
unfolding others
last_exact text rings rest e =
    let end = past_word collection_end text (λ rest. found [] rest) e in
    let same = found_same end.2 in
    end.1 ∙ (ap (λ t. collection_end ++ t) same.1 ∙ ap (λ rs. others (map ring_text rs) ++ (collection_end ++ rest)) same.0)

others_exact : (most : ℕ) (text : List ℕ) (rings : List Ring) (rest : List ℕ) → read_others most text ≡ found rings rest → text ≡ others (map ring_text rings) ++ (collection_end ++ rest)
unfolding read_others others
others_exact zero text rings rest e = last_exact text rings rest e
others_exact (suc most) [] rings rest e = absurd (never e)
others_exact (suc most) (b ∷ text) rings rest e = go (eqb b 41) refl (λ t rs m f. others_exact most t rs m f) e
  where
    go : (t : Bool) → eqb b 41 ≡ t → ((text : List ℕ) (rings : List Ring) (rest : List ℕ) → read_others most text ≡ found rings rest → text ≡ others (map ring_text rings) ++ (collection_end ++ rest)) → cond t (past collection_end (b ∷ text) (λ rest. found [] rest)) (past comma (b ∷ text) (λ rest. and_then (read_polygon rest) (λ ring rest. and_then (read_others most rest) (λ rings rest. found (ring ∷ rings) rest)))) ≡ found rings rest → b ∷ text ≡ others (map ring_text rings) ++ (collection_end ++ rest)
    go true q more f = last_exact (b ∷ text) rings rest f
    go false q more f =
        let w = past_word comma (b ∷ text) _ f in
        let a = came_of (read_polygon w.0) _ w.2 in
        let m = came_of (read_others most a.1) _ a.3 in
        let same = found_same m.3 in
        let tail = more a.1 m.0 m.1 m.2 ∙ ap (λ t. others (map ring_text m.0) ++ (collection_end ++ t)) same.1 in
        w.1
        ∙ (ap (λ t. comma ++ t) (polygon_exact w.0 a.0 a.1 a.2 ∙ (ap (λ t. ring_text a.0 ++ t) tail ∙ sym (append_assoc (ring_text a.0) (others (map ring_text m.0)) (collection_end ++ rest))))
        ∙ ap (λ rs. others (map ring_text rs) ++ (collection_end ++ rest)) same.0)

whole_exact : (text : List ℕ) (rings : List Ring) (rest : List ℕ) → read_text text ≡ found rings rest → text ≡ collection_text (map ring_text rings) ++ rest
unfolding read_text collection_text members
whole_exact text rings rest e =
    let w = past_word collection_word text _ e in
    let a = came_of (read_polygon w.0) _ w.2 in
    let m = came_of (read_others (length text) a.1) _ a.3 in
    let same = found_same m.3 in
    let tail = others_exact (length text) a.1 m.0 m.1 m.2 ∙ ap (λ t. others (map ring_text m.0) ++ (collection_end ++ t)) same.1 in
    w.1
    ∙ (ap (λ t. collection_word ++ t) (polygon_exact w.0 a.0 a.1 a.2 ∙ (ap (λ t. ring_text a.0 ++ t) tail ∙ together (ring_text a.0) (others (map ring_text m.0))))
    ∙ ap (λ rs. collection_text (map ring_text rs) ++ rest) same.0)
  where
    together : (x y : List ℕ) → x ++ (y ++ (collection_end ++ rest)) ≡ ((x ++ y) ++ collection_end) ++ rest
    together x y = sym (append_assoc (x ++ y) collection_end rest ∙ append_assoc x y (collection_end ++ rest))

pub reads_nothing_else : ReadsNothingElse
reads_nothing_else = record { numbers = metres_exact; points = point_exact; polygons = polygon_exact; whole = whole_exact }
