-- Turns of the loops that count: one more pair that is near, one more row; and what is passed over, which adds nothing. Assumes nothing.
use Prim.Native.Nat.{ℕ, zero, suc, ◌+◌, ◌-◌, ◌<◌, ◌≤◌}
use mathlib.Core.Path.{◌≡◌, refl, sym, ap, ap₂, subst, ◌∙◌}
use mathlib.Core.Bool.{Bool, true, false}
use mathlib.Core.List.Memᴰ
use mathlib.Core.List.Memᴰ.{head as here}
use mathlib.Core.List.Memᴰ.{tail as there}
use mathlib.Core.List.{List, [], ◌∷◌, ◌++◌, map, Memᴰ}
use mathlib.Core.Logic.{⊎_elim}
use native.Mathlib.Omega.{arith}
use native.Mathlib.Nat.{add-zero}
use native.Mathlib.Numerals.{add-one}
use lib.ListN.{length}
use lib.Ieee.{Float}
use Rattle.floats.specs.Finite.{finite}
use Rattle.triangles.specs.declared.Decision.{Decision}
use Rattle.triangles.specs.Decision.{by_rules}
use Rattle.shapes.specs.declared.Shape.{Shape}
use Rattle.shapes.specs.Shapes.{six_of}
use Rattle.boxes.specs.declared.Box.{Box}
use Rattle.boxes.specs.Boxes.{share_point}
use Rattle.boxes.specs.Shared.{FiniteBox}
use Rattle.boxes.specs.Near.{is_near, TwelveFinite}
use Rattle.boxes.proofs.Points.{box_finite}
use Rattle.boxed.specs.Tables.{box_among, around_from, near_from, FiniteFrom}
use Rattle.boxed.proofs.Rows.{none_of_either, none_of_them, passes_over}
use Rattle.routine.specs.Code.{rules_by}
use Rattle.routine.proofs.Decisions.{rules_of_made}
use Rattle.listing.specs.declared.Tally.{Tally}
use Rattle.listing.specs.Turns.{up_to, each, folded}
use Rattle.listing.specs.Pairs.{none_yet, tallied}
use Rattle.listing.proofs.Turns.{map-append, folded-append, each_append, each_one}
use Rattle.listing.proofs.Never.{by_boxes}
use Rattle.leaklist.specs.Code.{shape_in, ReadyAt, AllReady, ReadyFrom, values_in, row_in, tallied_near, tally_in}

one_more : (n : ℕ) → up_to (n + 1) ≡ up_to n ++ (n ∷ [])
one_more n = ap up_to (add-one n) ∙ (unfold up_to in refl)

-- a tally by what it has
abbrev tally_by : ℕ → ℕ → ℕ → Bool → Float → Tally
tally_by n t k r s = record { overlapping = n; touching = t; tested = k; refused = r; area = s }

pub tally_same : {a b c d e f : ℕ} {g h : Bool} {s v : Float} → a ≡ d → b ≡ e → c ≡ f → g ≡ h → s ≡ v → tally_by a b c g s ≡ tally_by d e f h v
tally_same p q r o u = rw (p, q, r, o, u) refl

-- ---- one pair
-- a near one is what the triangle rules decide; a far one adds nothing
adds_near : (l : List Float) → TwelveFinite l → is_near l ≡ true → (t : Tally) → tallied t l ≡ tallied_near t (by_rules l)
adds_near l g h t = rw ((by_boxes l g).ruled h, h) refl

-- ---- some of the table's triangles, where all are ready
pub ready_from : {table : List Shape} {bounds : List Box} (j n : ℕ) → AllReady table bounds → j + n ≤ length table → ReadyFrom table bounds j n
ready_from j n all fits b h = all (j + b) (omega (arith, h, fits))

-- ---- two triangles of the table
module _ (table : List Shape) (bounds : List Box) where
  given_in : (i j : ℕ) → ReadyAt table bounds i → ReadyAt table bounds j → TwelveFinite (values_in table i j)
  given_in i j p q = record { twelve = refl; all_finite = λ v m. ⊎_elim (p.all_finite v) (q.all_finite v) (Memᴰ.append_cases (six_of (shape_in table i)) m) }

  near_in : (i j : ℕ) → ReadyAt table bounds i → ReadyAt table bounds j → is_near (values_in table i j) ≡ share_point (box_among bounds i) (box_among bounds j)
  unfolding is_near
  near_in i j p q = sym (ap₂ share_point p.framed q.framed)

  far_in : (i j : ℕ) → ReadyAt table bounds i → ReadyAt table bounds j → share_point (box_among bounds i) (box_among bounds j) ≡ false → (t : Tally) → tallied t (values_in table i j) ≡ t
  far_in i j p q h = (by_boxes (values_in table i j) (given_in i j p q)).adds (near_in i j p q ∙ h)

  counted_in : (i j : ℕ) → ReadyAt table bounds i → ReadyAt table bounds j → share_point (box_among bounds i) (box_among bounds j) ≡ true → (t : Tally) → tallied t (values_in table i j) ≡ tallied_near t (rules_by (shape_in table i) (shape_in table j))
  counted_in i j p q h t = adds_near (values_in table i j) (given_in i j p q) (near_in i j p q ∙ h) t ∙ ap (tallied_near t) (sym (rules_of_made (shape_in table i) (shape_in table j) (p.made, q.made)))

  finite_in : (k : ℕ) → ReadyAt table bounds k → FiniteBox (box_among bounds k)
  finite_in k p = subst FiniteBox (sym p.framed) (box_finite (record { x0 = s.v0.x; y0 = s.v0.y; x1 = s.v1.x; y1 = s.v1.y; x2 = s.v2.x; y2 = s.v2.y }) fine)
    where
      s : Shape
      s = shape_in table k

      fine : (v : Float) → Memᴰ v (s.v0.x ∷ s.v1.x ∷ s.v2.x ∷ s.v0.y ∷ s.v1.y ∷ s.v2.y ∷ []) → finite v ≡ true
      fine v (here e) = p.all_finite v (here e)
      fine v (there (here e)) = p.all_finite v (there (there (here e)))
      fine v (there (there (here e))) = p.all_finite v (there (there (there (there (here e)))))
      fine v (there (there (there (here e)))) = p.all_finite v (there (here e))
      fine v (there (there (there (there (here e))))) = p.all_finite v (there (there (there (here e))))
      fine v (there (there (there (there (there (here e)))))) = p.all_finite v (there (there (there (there (there (here e))))))
      fine v (there (there (there (there (there (there x24)))))) = elim x24 [ ]

  -- ---- a row: one more pair, or some that are passed over
  row_snoc : (i j b : ℕ) → row_in table i j (b + 1) ≡ row_in table i j b ++ (values_in table i (j + b) ∷ [])
  unfolding row_in
  row_snoc i j b = ap (map (λ c. values_in table i (j + c))) (one_more b) ∙ map-append (λ c. values_in table i (j + c)) (up_to b) (b ∷ [])

  folded_one : (t : Tally) (l : List Float) → folded tallied t (l ∷ []) ≡ tallied t l
  unfolding folded
  folded_one t l = refl

  row_more : (t : Tally) (i j b : ℕ) → folded tallied t (row_in table i j (b + 1)) ≡ tallied (folded tallied t (row_in table i j b)) (values_in table i (j + b))
  row_more t i j b = ap (folded tallied t) (row_snoc i j b) ∙ (folded-append tallied t (row_in table i j b) (values_in table i (j + b) ∷ []) ∙ folded_one (folded tallied t (row_in table i j b)) (values_in table i (j + b)))

  row_skip : (t : Tally) (i j b k : ℕ) → ((c : ℕ) → b ≤ c → c < b + k → (s : Tally) → tallied s (values_in table i (j + c)) ≡ s) → folded tallied t (row_in table i j (b + k)) ≡ folded tallied t (row_in table i j b)
  row_skip t i j b zero none = ap (λ m. folded tallied t (row_in table i j m)) (add-zero b)
  row_skip t i j b (suc k) none =
      ap (λ m. folded tallied t (row_in table i j m)) (next b k)
      ∙ (row_more t i j (b + k) ∙ (none (b + k) (omega arith) (omega arith) (folded tallied t (row_in table i j (b + k))) ∙ row_skip t i j b k (λ c l h. none c l (omega (arith, h)))))
    where
      next : (b k : ℕ) → b + suc k ≡ b + k + 1
      next b k = omega arith

  row_empty : (t : Tally) (i j : ℕ) → t ≡ folded tallied t (row_in table i j 0)
  unfolding row_in up_to folded
  row_empty t i j = refl

  module _ (i j n : ℕ) (first : ReadyAt table bounds i) (each-ready : ReadyFrom table bounds j n) where
    -- from k on to the next that is near
    pub row_on : (t : Tally) (k : ℕ) {s : Tally} {b : Box} {k' : ℕ} → j ≤ k → k ≤ j + n → b ≡ box_among bounds i → s ≡ folded tallied t (row_in table i j (k - j)) → k' ≡ near_from (box_among bounds) b (j + n - k) k →
        (k ≤ k') × (k' ≤ j + n) × (s ≡ folded tallied t (row_in table i j (k' - j))) × (k' < j + n → share_point (box_among bounds i) (box_among bounds k') ≡ true)
    row_on t k {s} {b} {k'} low high hb hs hk =
        let p = passes_over (box_among bounds) (box_among bounds i) (j + n - k) k in
        let e : k' ≡ near_from (box_among bounds) (box_among bounds i) (j + n - k) k = hk ∙ ap (λ x. near_from (box_among bounds) x (j + n - k) k) hb in
        let least = p.least in
        let most = p.most in
        let le : k ≤ k' = omega (arith, e, least) in
        let ge : k' ≤ j + n = omega (arith, e, most, high) in
        let parts : k' - j ≡ k - j + (k' - k) = omega (arith, low, le) in
        let same = row_skip t i j (k - j) (k' - k) (λ c l h. far_in i (j + c) first (each-ready c (omega (arith, l, h, low, ge, le))) (p.none (j + c) (omega (arith, l, low)) (omega (arith, h, low, e, le)))) in
        (le, ge, hs ∙ (sym same ∙ ap (λ m. folded tallied t (row_in table i j m)) (sym parts)), λ h. subst (λ m. share_point (box_among bounds i) (box_among bounds m) ≡ true) (sym e) (p.one (omega (arith, e, h, high))))

    -- the one at k counted
    pub row_turn : (t : Tally) (k : ℕ) {s r : Tally} {u v : Shape} {d : Decision} → j ≤ k → k < j + n → u ≡ shape_in table i → v ≡ shape_in table k → share_point (box_among bounds i) (box_among bounds k) ≡ true → d ≡ rules_by u v → s ≡ folded tallied t (row_in table i j (k - j)) → r ≡ tallied_near s d → r ≡ folded tallied t (row_in table i j (k + 1 - j))
    row_turn t k {s} {r} {u} {v} {d} low high hu hv near hd hs hr =
        let at : j + (k - j) ≡ k = omega (arith, low) in
        let behind : k - j + 1 ≡ k + 1 - j = omega (arith, low) in
        let ready = subst (ReadyAt table bounds) at (each-ready (k - j) (omega (arith, low, high))) in
        hr
        ∙ (ap₂ tallied_near hs (hd ∙ ap₂ rules_by hu hv)
        ∙ (sym (counted_in i k first ready near (folded tallied t (row_in table i j (k - j))))
        ∙ (ap (λ m. tallied (folded tallied t (row_in table i j (k - j))) (values_in table i m)) (sym at)
        ∙ (sym (row_more t i j (k - j)) ∙ ap (λ m. folded tallied t (row_in table i j m)) behind))))

    -- nothing counted yet
    pub row_start : (t : Tally) → t ≡ folded tallied t (row_in table i j (j - j))
    row_start t = let z : 0 ≡ j - j = omega arith in row_empty t i j ∙ ap (λ m. folded tallied t (row_in table i j m)) z

    -- where none of n is near, none is counted
    row_far : ((c : ℕ) → c < n → share_point (box_among bounds i) (box_among bounds (j + c)) ≡ false) → (t : Tally) → folded tallied t (row_in table i j n) ≡ t
    row_far none t =
        ap (λ m. folded tallied t (row_in table i j m)) (from_none n)
        ∙ (row_skip t i j 0 n (λ c l h. far_in i (j + c) first (each-ready c (omega (arith, h))) (none c (omega (arith, h)))) ∙ sym (row_empty t i j))
      where
        from_none : (n : ℕ) → n ≡ 0 + n
        from_none n = omega arith

  -- ---- rows
  tally_more : (i j n a : ℕ) → tally_in table i (a + 1) j n ≡ folded tallied (tally_in table i a j n) (row_in table (i + a) j n)
  unfolding tally_in
  tally_more i j n a =
      ap (folded tallied none_yet) (ap (each rows) (one_more a) ∙ (each_append rows (up_to a) (a ∷ []) ∙ ap (λ r. each rows (up_to a) ++ r) (each_one rows a)))
      ∙ folded-append tallied none_yet (each rows (up_to a)) (row_in table (i + a) j n)
    where
      rows : ℕ → List (List Float)
      rows c = row_in table (i + c) j n

  tally_skip : (i j n a k : ℕ) → ((c : ℕ) → a ≤ c → c < a + k → (t : Tally) → folded tallied t (row_in table (i + c) j n) ≡ t) → tally_in table i (a + k) j n ≡ tally_in table i a j n
  tally_skip i j n a zero none = ap (λ m. tally_in table i m j n) (add-zero a)
  tally_skip i j n a (suc k) none =
      ap (λ m. tally_in table i m j n) (next a k)
      ∙ (tally_more i j n (a + k) ∙ (none (a + k) (omega arith) (omega arith) (tally_in table i (a + k) j n) ∙ tally_skip i j n a k (λ c l h. none c l (omega (arith, h)))))
    where
      next : (a k : ℕ) → a + suc k ≡ a + k + 1
      next a k = omega arith

  tally_empty : (i j n : ℕ) → none_yet ≡ tally_in table i 0 j n
  unfolding tally_in up_to each folded
  tally_empty i j n = refl

  finite_from : (j n : ℕ) → ReadyFrom table bounds j n → FiniteFrom (box_among bounds) j n
  finite_from j n ready c h = finite_in (j + c) (ready c h)

  module _ (i m j n : ℕ) (tests-ready : ReadyFrom table bounds i m) (each-ready : ReadyFrom table bounds j n) where
    pub tally_on : (k : ℕ) {s : Tally} {whole : Box} {k' : ℕ} → i ≤ k → k ≤ i + m → whole ≡ around_from (box_among bounds) j n → s ≡ tally_in table i (k - i) j n → k' ≡ near_from (box_among bounds) whole (i + m - k) k → (k ≤ k') × (k' ≤ i + m) × (s ≡ tally_in table i (k' - i) j n)
    tally_on k {s} {whole} {k'} low high hw hs hk =
        let p = passes_over (box_among bounds) (around_from (box_among bounds) j n) (i + m - k) k in
        let e : k' ≡ near_from (box_among bounds) (around_from (box_among bounds) j n) (i + m - k) k = hk ∙ ap (λ x. near_from (box_among bounds) x (i + m - k) k) hw in
        let least = p.least in
        let most = p.most in
        let le : k ≤ k' = omega (arith, e, least) in
        let ge : k' ≤ i + m = omega (arith, e, most, high) in
        let parts : k' - i ≡ k - i + (k' - k) = omega (arith, low, le) in
        let same = tally_skip i j n (k - i) (k' - k) (λ c l h. let r = tests-ready c (omega (arith, l, h, low, ge, le)) in row_far (i + c) j n r each-ready (none_of_them (box_among bounds) (box_among bounds (i + c)) j n (finite_in (i + c) r) (finite_from j n each-ready) (p.none (i + c) (omega (arith, l, low)) (omega (arith, h, low, e, le))))) in
        (le, ge, hs ∙ (sym same ∙ ap (λ a. tally_in table i a j n) (sym parts)))

    pub tally_turn : (k : ℕ) {s r : Tally} → i ≤ k → s ≡ tally_in table i (k - i) j n → r ≡ folded tallied s (row_in table k j n) → r ≡ tally_in table i (k + 1 - i) j n
    tally_turn k low hs hr =
        let at : i + (k - i) ≡ k = omega (arith, low) in
        let behind : k - i + 1 ≡ k + 1 - i = omega (arith, low) in
        hr ∙ (ap₂ (λ t a. folded tallied t (row_in table a j n)) hs (sym at) ∙ (sym (tally_more i j n (k - i)) ∙ ap (λ a. tally_in table i a j n) behind))

    pub tally_start : none_yet ≡ tally_in table i (i - i) j n
    tally_start = let z : 0 ≡ i - i = omega arith in tally_empty i j n ∙ ap (λ a. tally_in table i a j n) z

    -- where the boxes around the ones and around the others share no point, nothing is counted
    pub tally_far : share_point (around_from (box_among bounds) i m) (around_from (box_among bounds) j n) ≡ false → tally_in table i m j n ≡ none_yet
    tally_far h =
        ap (λ a. tally_in table i a j n) (from_none m)
        ∙ (tally_skip i j n 0 m (λ a l g. let r = tests-ready a (omega (arith, g)) in row_far (i + a) j n r each-ready (λ c k. none_of_either (box_among bounds) i m j n (finite_from i m tests-ready) (finite_from j n each-ready) h a c (omega (arith, g)) k)) ∙ sym (tally_empty i j n))
      where
        from_none : (m : ℕ) → m ≡ 0 + m
        from_none m = omega arith
