-- Boxes of a table one after the other: the box around several holds each of them, and what is passed over on the way to the next near one shares no point. Assumes nothing.
use Prim.Native.Nat.{ℕ, zero, suc, ◌+◌, ◌-◌, ◌*◌, ◌<◌, ◌≤◌, min}
use mathlib.Core.Path.{◌≡◌, refl, sym, ap, ap₂, subst, ◌∙◌}
use mathlib.Core.Bool.{Bool, true, false}
use mathlib.Core.List.{List}
use native.Mathlib.Omega.{arith}
use native.Mathlib.Nat.{add-zero}
use native.Mathlib.Numerals.{add-one}
use lib.Dec.{ltb}
use borrow.Author.Tests.{ltb-true, ltb-false, lt-ltb, le-ltb}
use lib.Ieee.{Float, nan, inf, fin, lt}
use Rattle.boxes.specs.declared.Box.{Box}
use Rattle.boxes.specs.Boxes.{around, share_point}
use Rattle.boxes.specs.Shared.{FiniteBox, Within}
use Rattle.boxes.proofs.Held.{Within-self, Within-through, around_finite, around_first, around_second, none_within, no_point_turned}
use Rattle.boxed.specs.Tables.{no_box, box_from, boxes_of, box_in, around_from, near_from, Passed, PassesOver, HoldsAll, NoneOfEither, NoneOfThem}

-- ---- box k
pub box_there : (table : List Float) (k : ℕ) → k < boxes_of table → box_in table k ≡ box_from table (4 * k)
unfolding box_in
box_there table k h = rw (lt-ltb k (boxes_of table) h) refl

pub box_beyond : (table : List Float) (k : ℕ) → boxes_of table ≤ k → box_in table k ≡ no_box
unfolding box_in
box_beyond table k h = rw (le-ltb k (boxes_of table) h) refl

-- nothing lies before or behind what has no ends
none_before : (x : Float) → lt x nan ≡ false
unfolding lt
none_before nan = refl
none_before (inf s) = refl
none_before (fin s m e) = refl

none_behind : (x : Float) → lt nan x ≡ false
unfolding lt
none_behind x = refl

pub no_box_shares : (b : Box) → share_point b no_box ≡ true
no_box_shares b = rw (none_before b.right, none_behind b.left, none_before b.top, none_behind b.bottom) refl

-- ---- the box around several
pub over_none : (at : ℕ → Box) (j : ℕ) → at j ≡ around_from at j 0
unfolding around_from
over_none at j = refl

pub over_turn : (at : ℕ → Box) (j b : ℕ) {s r t : Box} → s ≡ around_from at j b → t ≡ at (j + b) → r ≡ around s t → r ≡ around_from at j (b + 1)
over_turn at j b hs ht hr = hr ∙ (ap₂ around hs ht ∙ (last ∙ ap (around_from at j) (sym (add-one b))))
  where
    last : around (around_from at j b) (at (j + b)) ≡ around_from at j (suc b)
    last = unfold around_from in refl

over_finite : (at : ℕ → Box) (j n : ℕ) → FiniteBox (at j) → ((c : ℕ) → c < n → FiniteBox (at (j + c))) → FiniteBox (around_from at j n)
unfolding around_from
over_finite at j zero first each = first
over_finite at j (suc n) first each = around_finite (around_from at j n) (at (j + n)) (over_finite at j n first (λ c h. each c (omega (arith, h)))) (each n (omega arith))

over_holds : (at : ℕ → Box) (j n : ℕ) → FiniteBox (at j) → ((c : ℕ) → c < n → FiniteBox (at (j + c))) → (c : ℕ) → c < n → Within (at (j + c)) (around_from at j n)
unfolding around_from
over_holds at j zero first each c h = absurd (omega (arith, h))
over_holds at j (suc n) first each c h = go (over_holds at j n first fewer c) (ltb c n) refl
  where
    fewer : (c : ℕ) → c < n → FiniteBox (at (j + c))
    fewer c h = each c (omega (arith, h))

    before : Box
    before = around_from at j n

    next : Box
    next = at (j + n)

    go : (c < n → Within (at (j + c)) before) → (b : Bool) → ltb c n ≡ b → Within (at (j + c)) (around before next)
    go f true e =
        let l = ltb-true c n e in
        Within-through (at (j + c)) before (around before next) (fewer c l) (over_finite at j n first fewer) (around_finite before next (over_finite at j n first fewer) (each n (omega arith))) (f l) (around_first before next)
    go f false e = let same : c ≡ n = omega (arith, h, ltb-false c n e) in subst (λ m. Within (at (j + m)) (around before next)) (sym same) (around_second before next)

pub holds_all : HoldsAll
holds_all at j n each c h =
    let first : FiniteBox (at j) = subst (λ m. FiniteBox (at m)) (add-zero j) (each 0 (omega (arith, h))) in
    (over_finite at j n first each, over_holds at j n first each c h)

pub none_of_either : NoneOfEither
none_of_either at i m j n fi fj h a b ha hb =
    let u = holds_all at i m fi a ha in
    let v = holds_all at j n fj b hb in
    none_within (at (i + a)) (around_from at i m) (at (j + b)) (around_from at j n) (fi a ha) u.0 (fj b hb) v.0 u.1 v.1 h

pub none_of_them : NoneOfThem
none_of_them at c j n fc fj h b l =
    let w = holds_all at j n fj b l in
    no_point_turned (at (j + b)) c (none_within (at (j + b)) (around_from at j n) c c (fj b l) w.0 fc fc w.1 (Within-self c) h)

-- ---- the next that is near
module _ (at : ℕ → Box) (b : Box) where
  pub next_here : (n k : ℕ) → share_point b (at k) ≡ true → k ≡ near_from at b n k
  unfolding near_from
  next_here zero k h = refl
  next_here (suc n) k h = sym (rw h refl)

  next_on : (n k : ℕ) → share_point b (at k) ≡ false → near_from at b (suc n) k ≡ near_from at b n (k + 1)
  unfolding near_from
  next_on n k h = rw h refl

  passed : (n k : ℕ) → Passed at b n k
  passed zero k = record {
    least = unfold near_from in omega arith;
    most = unfold near_from in omega arith;
    none = λ c h l. let g : c < k = (unfold near_from in l) in absurd (omega (arith, h, g));
    one = λ l. let g : k < k + 0 = (unfold near_from in l) in absurd (omega (arith, g));
  }
  passed (suc n) k = go (share_point b (at k)) refl (passed n (k + 1))
    where
      go : (s : Bool) → share_point b (at k) ≡ s → Passed at b n (k + 1) → Passed at b (suc n) k
      go true e rest = let z = next_here (suc n) k e in record {
        least = omega (arith, z);
        most = omega (arith, z);
        none = λ c h l. absurd (omega (arith, h, l, z));
        one = λ l. subst (λ m. share_point b (at m) ≡ true) z e;
      }
      go false e rest =
          let z = next_on n k e in
          let least = rest.least in
          let most = rest.most in
          record {
            least = omega (arith, z, least);
            most = omega (arith, z, most);
            none = λ c h l. further c h (subst (λ m. c < m) z l) (ltb k c) refl;
            one = λ l. subst (λ m. share_point b (at m) ≡ true) (sym z) (rest.one (omega (arith, z, l)));
          }
        where
          further : (c : ℕ) → k ≤ c → c < near_from at b n (k + 1) → (t : Bool) → ltb k c ≡ t → share_point b (at c) ≡ false
          further c h l true d = let g = ltb-true k c d in rest.none c (omega (arith, g)) l
          further c h l false d = let g = ltb-false k c d in let same : c ≡ k = omega (arith, h, g) in ap (λ m. share_point b (at m)) same ∙ e

  -- ---- as the code comes to it
  pub next_turn : (to k : ℕ) {s : Bool} {r : ℕ} → k < to → s ≡ share_point b (at k) → s ≡ false → r ≡ near_from at b (to - k) k → r ≡ near_from at b (to - (k + 1)) (k + 1)
  next_turn to k h hs f e =
      let less : to - k ≡ suc (to - (k + 1)) = omega (arith, h) in
      e ∙ (ap (λ n. near_from at b n k) less ∙ next_on (to - (k + 1)) k (sym hs ∙ f))

  pub next_found : (to k : ℕ) {s : Bool} {r : ℕ} → s ≡ share_point b (at k) → s ≡ true → r ≡ near_from at b (to - k) k → k ≡ r
  next_found to k hs f e = next_here (to - k) k (sym hs ∙ f) ∙ sym e

  -- where every box from m on is near, the search ends there at the latest
  pub next_none : (to m k : ℕ) {r end : ℕ} → ((k : ℕ) → m ≤ k → share_point b (at k) ≡ true) → end ≡ min to m → end ≤ k → r ≡ near_from at b (to - k) k → k ≡ r
  unfolding near_from
  next_none to m k {r} {end} beyond he h e = go (ltb k to) refl ∙ sym e
    where
      go : (y : Bool) → ltb k to ≡ y → k ≡ near_from at b (to - k) k
      go false q = let g = ltb-false k to q in let z : to - k ≡ 0 = omega (arith, g) in ap (λ n. near_from at b n k) (sym z)
      go true q = let l = ltb-true k to q in next_here (to - k) k (beyond k (omega (arith, l, h, he)))

pub passes_over : PassesOver
passes_over at b n k = passed at b n k
