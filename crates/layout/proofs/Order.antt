-- The list of rows holds exactly the rows that there are, in their order. Assumes nothing.
use Prim.Native.Nat.{ℕ, ◌+◌, ◌*◌, ◌<◌, ◌≤◌}
use mathlib.Core.Path.{◌≡◌, refl, sym, subst}
use mathlib.Core.Logic.{◌⊎◌, inl, inr, ⊎_elim}
use mathlib.Core.List.Memᴰ
use mathlib.Core.List.Memᴰ.{head as here}
use mathlib.Core.List.Memᴰ.{tail as there}
use mathlib.Core.List.{List, [], ◌∷◌, ◌++◌, Memᴰ, append-nil}
use native.Mathlib.Omega.{arith}
use Rattle.floats.specs.Turns.{in_turn}
use Rattle.floats.proofs.Turns.{turn_listed, turn_members, Sorted, turn_Sorted, turn_stage, late}
use Rattle.layout.specs.Parts.{table_place, count_of, triangles_of}
use Rattle.layout.specs.Verdict.{Row, bad_length, other_length, bad_trailer, bad_entry, id_again, wrong_end, out_of_range, flat, rows}
use Rattle.layout.specs.Rows.{stage_of, turn_of}
use Rattle.layout.proofs.Tests.{Exists}

-- ---- the rows of a file
module _ (file : List ℕ) where
  entries : List Row
  entries = in_turn bad_entry id_again (count_of file) 0

  triangles : List Row
  triangles = in_turn out_of_range flat (triangles_of file) 0

  is_rows : rows file ≡ bad_length ∷ other_length ∷ bad_trailer ∷ (entries ++ (wrong_end ∷ triangles))
  unfolding rows entries triangles
  is_rows = refl

  of_entries : {row : Row} → Memᴰ row entries → Memᴰ row (rows file)
  of_entries m = rw is_rows (there (there (there (Memᴰ.append_left (wrong_end ∷ triangles) m))))

  of_tail : {row : Row} → Memᴰ row (wrong_end ∷ triangles) → Memᴰ row (rows file)
  of_tail m = rw is_rows (there (there (there (Memᴰ.append_right entries m))))

  before_table : (k : ℕ) → 24 * k + 24 ≤ table_place file → k < triangles_of file
  unfolding triangles_of
  before_table k h = omega arith

  after_all : (k : ℕ) → k < triangles_of file → 24 * k + 24 ≤ table_place file
  unfolding triangles_of
  after_all k h = omega arith

  entry_in : (i : ℕ) → i < count_of file → Memᴰ (bad_entry i) entries × Memᴰ (id_again i) entries
  unfolding entries
  entry_in i h = turn_listed bad_entry id_again (count_of file) 0 i (omega arith) (omega arith)

  triangle_in : (k : ℕ) → k < triangles_of file → Memᴰ (out_of_range k) triangles × Memᴰ (flat k) triangles
  unfolding triangles
  triangle_in k h = turn_listed out_of_range flat (triangles_of file) 0 k (omega arith) (omega arith)

  -- every row that there is stands in the list
  pub listed : (row : Row) → Exists file row → Memᴰ row (rows file)
  listed bad_length h = rw is_rows (here refl)
  listed other_length h = rw is_rows (there (here refl))
  listed bad_trailer h = rw is_rows (there (there (here refl)))
  listed (bad_entry i) h = of_entries (entry_in i h).0
  listed (id_again i) h = of_entries (entry_in i h).1
  listed wrong_end h = of_tail (here refl)
  listed (out_of_range k) h = of_tail (there (triangle_in k (before_table k h)).0)
  listed (flat k) h = of_tail (there (triangle_in k (before_table k h)).1)

  -- and no other
  in_entries : (row : Row) → Memᴰ row entries → Exists file row
  unfolding entries
  in_entries = turn_members bad_entry id_again (count_of file) 0 (Exists file) (λ j p q. (omega arith, omega arith))

  in_triangles : (row : Row) → Memᴰ row triangles → Exists file row
  unfolding triangles
  in_triangles = turn_members out_of_range flat (triangles_of file) 0 (Exists file) (λ j p q. let l = after_all j (omega arith) in (l, l))

  pub exists : (row : Row) → Memᴰ row (rows file) → Exists file row
  exists row m = first (Memᴰ.cases_cons (subst (Memᴰ row) is_rows m))
    where
      there_is : (at : Row) → Exists file at → row ≡ at → Exists file row
      there_is at h q = subst (Exists file) (sym q) h

      fifth : (row ≡ wrong_end) ⊎ Memᴰ row triangles → Exists file row
      fifth (inl q) = there_is wrong_end tt q
      fifth (inr k) = in_triangles row k

      fourth : Memᴰ row entries ⊎ Memᴰ row (wrong_end ∷ triangles) → Exists file row
      fourth (inl k) = in_entries row k
      fourth (inr k) = fifth (Memᴰ.cases_cons k)

      third : (row ≡ bad_trailer) ⊎ Memᴰ row (entries ++ (wrong_end ∷ triangles)) → Exists file row
      third (inl q) = there_is bad_trailer tt q
      third (inr k) = fourth (Memᴰ.append_cases entries k)

      second : (row ≡ other_length) ⊎ Memᴰ row (bad_trailer ∷ (entries ++ (wrong_end ∷ triangles))) → Exists file row
      second (inl q) = there_is other_length tt q
      second (inr k) = third (Memᴰ.cases_cons k)

      first : (row ≡ bad_length) ⊎ Memᴰ row (other_length ∷ bad_trailer ∷ (entries ++ (wrong_end ∷ triangles))) → Exists file row
      first (inl q) = there_is bad_length tt q
      first (inr k) = second (Memᴰ.cases_cons k)

  -- in their order
  triangle_stage : (e : Row) → Memᴰ e triangles → stage_of e ≡ 5
  unfolding triangles
  triangle_stage = turn_stage stage_of turn_of out_of_range flat 5 (λ i. (refl, refl)) (λ i. (refl, refl)) (triangles_of file) 0

  entry_stage : (e : Row) → Memᴰ e entries → stage_of e ≡ 3
  unfolding entries
  entry_stage = turn_stage stage_of turn_of bad_entry id_again 3 (λ i. (refl, refl)) (λ i. (refl, refl)) (count_of file) 0

  tail_late : (e : Row) → Memᴰ e (wrong_end ∷ triangles) → 3 < stage_of e
  tail_late e k = ⊎_elim (λ (q : e ≡ wrong_end). subst (λ r. 3 < stage_of r) (sym q) (omega arith)) (λ w. let q = triangle_stage e w in omega arith) (Memᴰ.cases_cons k)

  rest_late : (e : Row) → Memᴰ e (entries ++ (wrong_end ∷ triangles)) → 2 < stage_of e
  rest_late e k = ⊎_elim (λ w. let q = entry_stage e w in omega arith) (λ w. let q = tail_late e w in omega arith) (Memᴰ.append_cases entries k)

  tail_Sorted : Sorted stage_of turn_of (wrong_end ∷ triangles)
  unfolding triangles
  tail_Sorted = ((λ e k. let q = triangle_stage e k in inl (omega arith)), end)
    where
      end : Sorted stage_of turn_of triangles
      end = subst (Sorted stage_of turn_of) (append-nil triangles) (turn_Sorted stage_of turn_of out_of_range flat 5 (λ i. (refl, refl)) (λ i. (refl, refl)) (triangles_of file) 0 [] (λ e k. absurd (Memᴰ.not-nil k)) tt)

  pub sorted : Sorted stage_of turn_of (rows file)
  sorted = rw is_rows (
    (λ e k. inl (late stage_of turn_of e other_length 0 (omega arith) k (λ k1. late stage_of turn_of e bad_trailer 0 (omega arith) k1 (λ k2. let q = rest_late e k2 in omega arith)))),
    (
      (λ e k. inl (late stage_of turn_of e bad_trailer 1 (omega arith) k (λ k2. let q = rest_late e k2 in omega arith))),
      (
        (λ e k. inl (rest_late e k)),
        (unfold entries in turn_Sorted stage_of turn_of bad_entry id_again 3 (λ i. (refl, refl)) (λ i. (refl, refl)) (count_of file) 0 (wrong_end ∷ triangles) tail_late tail_Sorted),
      ),
    ),
  )
