-- A recording's text reads back as the triangles that are stored for it, each at its place. Assumes nothing.
use Prim.Native.Nat.{ℕ, zero, suc, ◌+◌, ◌*◌, ◌<◌}
use mathlib.Core.Path.{◌≡◌, refl, ap, ◌∙◌}
use mathlib.Core.List.{List, [], map}
use native.Mathlib.Omega.{arith}
use lib.ListN.{length, get_or}
use Rattle.layout.specs.Parts.{Triangle, entry_at, triangle_from}
use Rattle.chart.specs.Words.{text_of}
use Rattle.chart.specs.Recorded.{triangles_from, triangles_in, recording_text}
use Rattle.chart.specs.Read.{found, ring_of, read_text}
use Rattle.chart.specs.Stored.{AllStored}
use Rattle.chart.proofs.Read.{texts_read_back}

many_from : (bytes : List ℕ) (at n : ℕ) → length (triangles_from bytes at n) ≡ n
unfolding triangles_from
many_from bytes at zero = refl
many_from bytes at (suc n) = ap suc (many_from bytes (at + 24) n)

each_from : (bytes : List ℕ) (other : Triangle) (n at j : ℕ) → j < n → get_or (triangles_from bytes at n) j other ≡ triangle_from bytes (at + 24 * j)
unfolding triangles_from
each_from bytes other zero at j h = absurd (omega (arith, h))
each_from bytes other (suc n) at zero h = ap (triangle_from bytes) (here at)
  where
    here : (at : ℕ) → at ≡ at + 24 * 0
    here at = omega arith
each_from bytes other (suc n) at (suc j) h = each_from bytes other n (at + 24) j (omega (arith, h)) ∙ ap (triangle_from bytes) (next at j)
  where
    next : (at j : ℕ) → at + 24 + 24 * j ≡ at + 24 * suc j
    next at j = omega arith

back_from : (bytes : List ℕ) (at n : ℕ) → 0 < n → read_text (text_of (triangles_from bytes at n)) ≡ found (map ring_of (triangles_from bytes at n)) []
unfolding triangles_from
back_from bytes at zero h = absurd (omega (arith, h))
back_from bytes at (suc n) h = texts_read_back.whole (triangle_from bytes at) (triangles_from bytes (at + 24) n)

pub all_stored : AllStored
unfolding triangles_in recording_text
all_stored file k good h =
    let e = entry_at file k in
    record {
      many = many_from file e.first e.count;
      each = λ other j l. each_from file other e.count e.first j l;
      reads_back = back_from file e.first e.count (good.some_triangles k h);
    }
