-- A corner that is asked for: by an answer that keeps the promise it is refused, or its place is beyond the ring, or it is the ring's corner at that place. Assumes nothing.
use mathlib.Core.Path.{◌≡◌, refl, sym, ap, subst, ◌∙◌}
use mathlib.Core.Logic.{inl}
use mathlib.Core.List.{List, [], ◌∷◌}
use Prim.Native.Nat.{ℕ, ◌<◌, ◌≤◌}
use native.Mathlib.Omega.{arith}
use lib.Ieee.{Float}
use lib.ListN.{length}
use borrow.Author.Tests.{eq-eqb, ne_eqb, lt-ltb, le-ltb}
use Rattle.triangles.specs.declared.Answer.{Answer}
use Rattle.triangles.specs.declared.Corner.{Corner}
use Rattle.triangles.specs.Promise.{PairPromise}
use Rattle.triangles.specs.Decision.{enough}
use Rattle.corners.specs.declared.Told.{Told}
use Rattle.corners.specs.Corners.{told, no_corner, corner_at, told_at}
use Rattle.corners.specs.Promise.{CornerPromise}
use Rattle.front.specs.Front.{number}
use Rattle.front.specs.declared.Refusal.{Refusal}
use Rattle.front.specs.declared.Refusal.TheVariants.{Lengths, NotFinite, FlatV, Overflow, FlatU}
use Rattle.front.specs.declared.Start.{Start}
use Rattle.routine.specs.declared.finding.Found.{Found}
use Rattle.std.specs.Array.{IsWholeChunk}
use Rattle.routine.specs.Code.{Starts, outcome_refused, found_in, signs_from}
use Rattle.routine.proofs.Edges.{signs_are}
use Rattle.routine.proofs.Crossings.{params}
use Rattle.routine.proofs.Entry.{lengths_kept}
use Rattle.routine.proofs.Kept.{Keeps}
use Rattle.routine.proofs.Laid.{spot_at}

-- ---- by an answer in a room of twelve values
module _ (l : List Float) (place : ℕ) {a : Answer} {after : List Float} (h : PairPromise l enough a after) where
  corner_refused : (a.number ≡ 0 → ⊥) → told_at l place ≡ no_corner a.number
  unfolding told_at
  corner_refused z = rw (sym h.result_is, ne_eqb a.number 0 z) refl

  corner_beyond : a.number ≡ 0 → a.n ≤ place → told_at l place ≡ no_corner 6
  unfolding told_at
  corner_beyond z b = rw (sym h.result_is, eq-eqb a.number 0 z, le-ltb place a.n b) refl

  corner_told : a.number ≡ 0 → place < a.n → told_at l place ≡ told (corner_at l place)
  unfolding told_at
  corner_told z b = rw (sym h.result_is, eq-eqb a.number 0 z, lt-ltb place a.n b) refl

-- ---- as the code comes to it
pub corner_short : (l : List Float) (place : ℕ) {r : Told} {k : ℕ} → (length l ≡ 12 → ⊥) → k ≡ 1 → r ≡ no_corner k → CornerPromise l place r
corner_short l place n hk e = record { result_is = e ∙ (ap no_corner hk ∙ sym (corner_refused l place (lengths_kept l enough refl (inl n)) (λ z. omega (arith, z)))) }

numbered : (k : Refusal) → number k ≡ 0 → ⊥
numbered Lengths h = omega (arith, h)
numbered NotFinite h = omega (arith, h)
numbered FlatV h = omega (arith, h)
numbered Overflow h = omega (arith, h)
numbered FlatU h = omega (arith, h)

-- why nothing can be told
pub found_refused : (l : List Float) (place : ℕ) (w : Refusal) {r : Told} {k : ℕ} → Keeps l enough (outcome_refused (number w)) → k ≡ number w → r ≡ no_corner k → CornerPromise l place r
found_refused l place w h hk e = record { result_is = e ∙ (ap no_corner hk ∙ sym (corner_refused l place h.promise (numbered w))) }

-- where there is no ring there is no such corner
pub found_none : (l : List Float) (place : ℕ) {r : Told} → Keeps l enough (outcome_refused 0) → r ≡ no_corner 6 → CornerPromise l place r
found_none l place h e = record { result_is = e ∙ sym (corner_beyond l place h.promise refl (omega arith)) }

module _ (l : List Float) (place : ℕ) (f : Found) (h : Keeps l enough (found_in f)) where
  pub found_beyond : {r : Told} → f.answer.n ≤ place → r ≡ no_corner 6 → CornerPromise l place r
  found_beyond b e = record { result_is = e ∙ sym (corner_beyond l place h.promise f.answered b) }

  pub found_told : {t : List Float} {s : Start} {r : Told} → IsWholeChunk l t 12 → Starts t s → place < f.answer.n → {c : Corner} → c ≡ (spot_at t (s.p ∷ s.q ∷ s.r ∷ []) (signs_from (s.p ∷ s.q ∷ s.r ∷ [])) f.places place).corner → r ≡ told c → CornerPromise l place r
  found_told {t} {s} ht named b hc e =
      let own = subst (λ v. Starts v s) ht.same named in
      record {
        result_is =
            e ∙ (ap told (hc
            ∙ (ap (λ v. (spot_at v (s.p ∷ s.q ∷ s.r ∷ []) (signs_from (s.p ∷ s.q ∷ s.r ∷ [])) f.places place).corner) ht.same
            ∙ (rw (own.2, own.3, own.4) (ap (λ ss. (spot_at l (params l) ss f.places place).corner) (sym (signs_are l)))
            ∙ h.place f.answered place b)))
            ∙ sym (corner_told l place h.promise f.answered b));
      }
