-- Boxes in a flat table, four values each, or in an array, for the many pairs of a file: what stands there, the box around several, and which is the next that shares a point with a box. Definitions and statements.
use Rattle.std.specs.Prelude.{ℕ, zero, suc, ◌+◌, ◌*◌, ◌/◌, ◌<◌, ◌≤◌, ◌≡◌, true, false, cond, List, Option, IfSome, ltb, length, get_or, set, max, unwrap_or, Float}
use Rattle.std.specs.Float.{nan}
use Rattle.floats.specs.OneAnswer.{NoSecond}
use Rattle.boxes.specs.declared.Box.{Box}
use Rattle.boxes.specs.Boxes.{around, share_point}
use Rattle.boxes.specs.Shared.{FiniteBox, Within}

-- a box without ends: nothing lies before it or behind it
abbrev pub no_box : Box
no_box = record { left = nan; right = nan; bottom = nan; top = nan }

-- the box whose values begin at a place
abbrev pub box_from : List Float → ℕ → Box
box_from table at = record { left = get_or table at nan; right = get_or table (at + 1) nan; bottom = get_or table (at + 2) nan; top = get_or table (at + 3) nan }

-- how many boxes a table has, and box k; beyond the last that without ends
abbrev pub boxes_of : List Float → ℕ
boxes_of table = length table / 4

unfoldable pub box_in : List Float → ℕ → Box
box_in table k = cond (ltb k (boxes_of table)) (box_from table (4 * k)) no_box

-- the table with box k put there, where there is one
unfoldable pub table_with : List Float → ℕ → Box → List Float
table_with table k b = cond (ltb k (boxes_of table)) (set (set (set (set table (4 * k) b.left) (4 * k + 1) b.right) (4 * k + 2) b.bottom) (4 * k + 3) b.top) table

-- box k of an array of boxes; beyond the last that without ends
abbrev pub box_among : List Box → ℕ → Box
box_among bounds k = get_or bounds k no_box

-- ---- boxes by their numbers, wherever they stand
-- the box around n boxes from box j on: the first, widened by each in turn
unfoldable pub around_from : (ℕ → Box) → ℕ → ℕ → Box
around_from at j zero = at j
around_from at j (suc n) = around (around_from at j n) (at (j + n))

-- of n boxes from box k on the first that shares a point with b, or where they end
unfoldable pub near_from : (ℕ → Box) → Box → ℕ → ℕ → ℕ
near_from at b zero k = k
near_from at b (suc n) k = let rest = near_from at b n (k + 1) in cond (share_point b (at k)) k rest

-- what is answered of a search from one box on before another, a box before that other or none, is told by where it ends
abbrev pub NoSecondNear : Type 0
NoSecondNear = (from to n : ℕ) → NoSecond (Option ℕ) (λ r. (unwrap_or r (max from to) ≡ n) × IfSome r (λ k. k < to))

-- both of a flat table
abbrev pub box_over : List Float → ℕ → ℕ → Box
box_over table j n = around_from (box_in table) j n

abbrev pub next_near : List Float → Box → ℕ → ℕ → ℕ
next_near table b n k = near_from (box_in table) b n k

-- ---- what these are good for
-- none that is passed over shares a point with b, and the one that is found does
pub record Passed (at : ℕ → Box) (b : Box) (n k : ℕ) : Type 0 where
  pub least : k ≤ near_from at b n k
  pub most : near_from at b n k ≤ k + n
  pub none : (c : ℕ) → k ≤ c → c < near_from at b n k → share_point b (at c) ≡ false
  pub one : near_from at b n k < k + n → share_point b (at (near_from at b n k)) ≡ true

abbrev pub PassesOver : Type 0
PassesOver = (at : ℕ → Box) (b : Box) (n k : ℕ) → Passed at b n k

-- n boxes from box j on are finite
abbrev pub FiniteFrom : (ℕ → Box) → ℕ → ℕ → Type 0
FiniteFrom at j n = (c : ℕ) → c < n → FiniteBox (at (j + c))

-- every one of some finite boxes lies in the box around them
abbrev pub HoldsAll : Type 0
HoldsAll = (at : ℕ → Box) (j n : ℕ) → FiniteFrom at j n → (c : ℕ) → c < n → FiniteBox (around_from at j n) × Within (at (j + c)) (around_from at j n)

-- so where the boxes around the ones and around the others share no point, none of the ones shares one with any of the others
abbrev pub NoneOfEither : Type 0
NoneOfEither = (at : ℕ → Box) (i m j n : ℕ) → FiniteFrom at i m → FiniteFrom at j n → share_point (around_from at i m) (around_from at j n) ≡ false → (a b : ℕ) → a < m → b < n → share_point (at (i + a)) (at (j + b)) ≡ false

-- and where one box shares no point with the box around others, it shares one with none of them
abbrev pub NoneOfThem : Type 0
NoneOfThem = (at : ℕ → Box) (c : Box) (j n : ℕ) → FiniteBox c → FiniteFrom at j n → share_point (around_from at j n) c ≡ false → (b : ℕ) → b < n → share_point c (at (j + b)) ≡ false
