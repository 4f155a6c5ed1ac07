-- A box that is put into a table is found there, and all others are as they were. Assumes nothing.
use Prim.Native.Nat.{ℕ, ◌+◌, ◌*◌, ◌/◌, ◌<◌, ◌≤◌}
use mathlib.Core.Path.{◌≡◌, refl, sym, ap, ◌∙◌}
use mathlib.Core.List.{List}
use native.Mathlib.Omega.{arith}
use borrow.Author.Tests.{lt-ltb}
use lib.ListN.{length, get_or, set, length-set}
use lib.Seq.{get_or-set_same, get_or-set_other}
use lib.Ieee.{Float, nan}
use Rattle.boxes.specs.declared.Box.{Box}
use Rattle.boxed.specs.Tables.{box_from, boxes_of, box_in, table_with}
use Rattle.boxed.proofs.Rows.{box_there}

box_by : Float → Float → Float → Float → Box
box_by l r b t = record { left = l; right = r; bottom = b; top = t }

box_same : {l r b t l' r' b' t' : Float} → l ≡ l' → r ≡ r' → b ≡ b' → t ≡ t' → box_by l r b t ≡ box_by l' r' b' t'
box_same p q r s = rw (p, q, r, s) refl

module _ (table : List Float) (k : ℕ) (b : Box) (h : k < boxes_of table) where
  fits : 4 * k + 4 ≤ length table
  fits = omega (arith, h)

  t1 : List Float
  t1 = set table (4 * k) b.left

  t2 : List Float
  t2 = set t1 (4 * k + 1) b.right

  t3 : List Float
  t3 = set t2 (4 * k + 2) b.bottom

  t4 : List Float
  t4 = set t3 (4 * k + 3) b.top

  len1 : length t1 ≡ length table
  unfolding t1
  len1 = length-set table (4 * k) b.left

  len2 : length t2 ≡ length table
  unfolding t2
  len2 = length-set t1 (4 * k + 1) b.right ∙ len1

  len3 : length t3 ≡ length table
  unfolding t3
  len3 = length-set t2 (4 * k + 2) b.bottom ∙ len2

  len4 : length t4 ≡ length table
  unfolding t4
  len4 = length-set t3 (4 * k + 3) b.top ∙ len3

  with_is : table_with table k b ≡ t4
  unfolding table_with t1 t2 t3 t4
  with_is = rw (lt-ltb k (boxes_of table) h) refl

  -- a value at another place
  other : (p : ℕ) → (p ≡ 4 * k → ⊥) → (p ≡ 4 * k + 1 → ⊥) → (p ≡ 4 * k + 2 → ⊥) → (p ≡ 4 * k + 3 → ⊥) → get_or t4 p nan ≡ get_or table p nan
  unfolding t1 t2 t3 t4
  other p a c d e =
      get_or-set_other t3 (4 * k + 3) p b.top nan e
      ∙ (get_or-set_other t2 (4 * k + 2) p b.bottom nan d ∙ (get_or-set_other t1 (4 * k + 1) p b.right nan c ∙ get_or-set_other table (4 * k) p b.left nan a))

  found : box_from t4 (4 * k) ≡ b
  unfolding t1 t2 t3 t4 box_by
  found =
      let f = fits in
      let l1 = len1 in
      let l2 = len2 in
      let l3 = len3 in
      box_same
      (get_or-set_other t3 (4 * k + 3) (4 * k) b.top nan (λ e. omega (arith, e)) ∙ (get_or-set_other t2 (4 * k + 2) (4 * k) b.bottom nan (λ e. omega (arith, e)) ∙ (get_or-set_other t1 (4 * k + 1) (4 * k) b.right nan (λ e. omega (arith, e)) ∙ get_or-set_same table (4 * k) b.left nan (omega (arith, f)))))
      (get_or-set_other t3 (4 * k + 3) (4 * k + 1) b.top nan (λ e. omega (arith, e)) ∙ (get_or-set_other t2 (4 * k + 2) (4 * k + 1) b.bottom nan (λ e. omega (arith, e)) ∙ get_or-set_same t1 (4 * k + 1) b.right nan (omega (arith, f, l1))))
      (get_or-set_other t3 (4 * k + 3) (4 * k + 2) b.top nan (λ e. omega (arith, e)) ∙ get_or-set_same t2 (4 * k + 2) b.bottom nan (omega (arith, f, l2)))
      (get_or-set_same t3 (4 * k + 3) b.top nan (omega (arith, f, l3)))

  kept : (m : ℕ) → (m ≡ k → ⊥) → box_from t4 (4 * m) ≡ box_from table (4 * m)
  unfolding box_by
  kept m n =
      box_same (other (4 * m) (λ e. n (omega (arith, e))) (λ e. omega (arith, e)) (λ e. omega (arith, e)) (λ e. omega (arith, e)))
      (other (4 * m + 1) (λ e. omega (arith, e)) (λ e. n (omega (arith, e))) (λ e. omega (arith, e)) (λ e. omega (arith, e)))
      (other (4 * m + 2) (λ e. omega (arith, e)) (λ e. omega (arith, e)) (λ e. n (omega (arith, e))) (λ e. omega (arith, e)))
      (other (4 * m + 3) (λ e. omega (arith, e)) (λ e. omega (arith, e)) (λ e. omega (arith, e)) (λ e. n (omega (arith, e))))

  pub put_length : length (table_with table k b) ≡ length table
  put_length = ap length with_is ∙ len4

  same_boxes : boxes_of (table_with table k b) ≡ boxes_of table
  same_boxes = ap (λ n. n / 4) put_length

  -- box k is what was put
  pub put_found : box_in (table_with table k b) k ≡ b
  put_found = let s = same_boxes in box_there (table_with table k b) k (omega (arith, s, h)) ∙ (ap (λ t. box_from t (4 * k)) with_is ∙ found)

  -- and any other of the table is as it was
  pub put_kept : (m : ℕ) → m < boxes_of table → (m ≡ k → ⊥) → box_in (table_with table k b) m ≡ box_in table m
  put_kept m l n = let s = same_boxes in box_there (table_with table k b) m (omega (arith, s, l)) ∙ (ap (λ t. box_from t (4 * m)) with_is ∙ (kept m n ∙ sym (box_there table m l)))
