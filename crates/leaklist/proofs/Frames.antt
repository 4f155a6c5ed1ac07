-- A table of boxes that is filled one after the other: what was put stays. Assumes nothing.
use Prim.Native.Nat.{ℕ, ◌+◌, ◌*◌, ◌/◌, ◌<◌}
use mathlib.Core.Path.{◌≡◌, ap, ◌∙◌}
use mathlib.Core.List.{List}
use native.Mathlib.Omega.{arith}
use lib.ListN.{length, set}
use lib.Seq.{get_or-set_same, get_or-set_other}
use Rattle.std.proofs.Common.{below_more}
use Rattle.boxes.specs.declared.Box.{Box}
use Rattle.boxed.specs.Tables.{no_box, box_among, around_from}
use Rattle.layout.specs.declared.Entry.{Entry}
use Rattle.layout.specs.Parts.{table_place, entry_from, entry_at}
use Rattle.shapes.specs.declared.Shape.{Shape}
use Rattle.leaklist.specs.Code.{shape_in, box_of_shape, Framed, Owned}
use Rattle.leaklist.proofs.Gathered.{entry_is}

-- the first n are these, and one more is
one_more : (these : ℕ → Box) (n : ℕ) (bounds : List Box) {b : Box} → n < length bounds → ((k : ℕ) → k < n → box_among bounds k ≡ these k) → b ≡ these n → (k : ℕ) → k < n + 1 → box_among (set bounds n b) k ≡ these k
one_more these n bounds {b} room before e =
    below_more (λ k. box_among (set bounds n b) k ≡ these k) n
    (λ k h. get_or-set_other bounds n k b no_box (λ q. omega (arith, h, q)) ∙ before k h)
    (get_or-set_same bounds n b no_box room ∙ e)

-- ---- as the code comes to it
pub frame_turn : (table : List Shape) (bounds : List Box) (k : ℕ) {s : Shape} {b : Box} → k < length bounds → s ≡ shape_in table k → b ≡ box_of_shape s → Framed table k bounds → Framed table (k + 1) (set bounds k b)
frame_turn table bounds k room hs hb h = one_more (λ k. box_of_shape (shape_in table k)) k bounds room h (hb ∙ ap box_of_shape hs)

pub own_turn : (file : List ℕ) (bounds own : List Box) (k at : ℕ) {e : Entry} {b : Box} → k < length own → at ≡ table_place file → e ≡ entry_from file (at + 12 * k) → b ≡ around_from (box_among bounds) (e.first / 24) e.count → Owned file bounds k own → Owned file bounds (k + 1) (set own k b)
own_turn file bounds own k at room ht he hb h =
    one_more (λ k. around_from (box_among bounds) ((entry_at file k).first / 24) (entry_at file k).count) k own room h (hb ∙ ap (λ x. around_from (box_among bounds) (x.first / 24) x.count) (entry_is file k at ht he))
