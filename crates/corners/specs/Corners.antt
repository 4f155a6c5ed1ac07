-- 02, No. 4: the ring's corners, asked for one at a time by their place in the ring, and what is told of each. Definitions only.
use Rattle.std.specs.Prelude.{cond, List, ℕ, eqb, ltb, get_or, Float}
use Rattle.floats.specs.Finite.{nought}
use Rattle.ring.specs.Places.{vertex}
use Rattle.triangles.specs.declared.Kind.{Kind}
use Rattle.triangles.specs.declared.Kind.TheVariants.{Vertex, Reference, Crossing}
use Rattle.triangles.specs.declared.Corner.{Corner}
use Rattle.triangles.specs.Pair.{ring_of}
use Rattle.triangles.specs.Positions.{Placed, placed_at}
use Rattle.triangles.specs.Answers.{whole_of}
use Rattle.triangles.specs.Decision.{answer_to}
use Rattle.corners.specs.declared.Told.{Told}

-- ---- what is told of a corner
-- the values of a corner: its kind, and where it stands
abbrev pub valued : Placed → Corner
valued c = record { kind = c.kind; x = c.position.x.value; y = c.position.y.value }

-- one that is no crossing, in numbers: its edge, line and t are zero
abbrev pub plain : ℕ → ℕ → Float → Float → Told
plain kind which x y = record { number = 0; kind = kind; which = which; edge = 0; line = 0; t = nought; x = x; y = y }

-- kind 0 is a vertex of U and kind 1 a corner of V, which of them; kind 2 is a crossing, with its edge, its line and its t, and its which is zero
abbrev pub told_by : Kind → Float → Float → Told
told_by (Vertex i) x y = plain 0 i x y
told_by (Reference k) x y = plain 1 k x y
told_by (Crossing e a t) x y = record { number = 0; kind = 2; which = 0; edge = e; line = a; t = t; x = x; y = y }

abbrev pub told : Corner → Told
told c = told_by c.kind c.x c.y

-- a refusal: its number, and zeros
abbrev pub no_corner : ℕ → Told
no_corner k = record { number = k; kind = 0; which = 0; edge = 0; line = 0; t = nought; x = nought; y = nought }

-- a place that is not below n
abbrev pub no_such_corner : Told
no_such_corner = no_corner 6

-- ---- a corner asked for
-- the corner at a place of the ring
unfoldable pub corner_at : List Float → ℕ → Corner
unfolding ring_of placed_at
corner_at values place = valued (placed_at values (get_or (ring_of values) place (vertex 0)))

-- the refusals of 01, of the input alone since no room is lent; then that of a place that is not below n; then the corner at that place
unfoldable pub told_at : List Float → ℕ → Told
unfolding whole_of corner_at
told_at values place =
    let a = answer_to values in
    cond (eqb a.number 0) (cond (ltb place a.n) (told (corner_at values place)) no_such_corner) (no_corner a.number)
