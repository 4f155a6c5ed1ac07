-- The files worked by hand come out so: one computed test over the list, and what it says of each. Assumes nothing.
use Prim.Native.Nat.{ℕ}
use mathlib.Core.Path.{◌≡◌, refl, ap₂}
use mathlib.Core.Bool.{Bool, ◌&&◌, or-true}
use mathlib.Core.List.{List, Memᴰ}
use lib.Dec.{T, eqb, ltb, eqb→eq}
use lib.ListN.{length}
use borrow.Author.Tests.{lt-ltb}
use lib.Ieee.Fits.{and_l, and_r}
use Rattle.floats.specs.Lists.{all}
use Rattle.floats.proofs.Lists.{all_at, same_list, same_list_lem}
use Rattle.layout.specs.Verdict.{test, place_of, first_of, rows, number_at, verdict}
use Rattle.layout.specs.Parts.{triangle_at}
use Rattle.layout.specs.Recordings.{recording_of, part_of}
use Rattle.layout.specs.Worked.{Case, Shown, cases, SecondTriangle, TooLong}
use Rattle.layout.specs.declared.Verdict.{Verdict}
use Rattle.layout.specs.declared.Recording.{Recording}

same_verdict : Verdict → Verdict → Bool
same_verdict a b = eqb a.number b.number && eqb a.place b.place

same_recording : Recording → Recording → Bool
same_recording a b =
    eqb a.number b.number
    && (eqb a.place b.place && (eqb a.id b.id && (eqb a.first b.first && (eqb a.count b.count && (eqb a.set b.set && eqb a.last b.last)))))

same_bytes : List ℕ → List ℕ → Bool
unfolding same_list
same_bytes = same_list eqb

right : Case → Bool
unfolding same_verdict same_recording same_bytes verdict recording_of part_of
right c = same_verdict (verdict c.file) c.file_says && (same_recording (recording_of c.file c.k) c.recording_says && same_bytes (part_of c.file c.k) c.part)

all_right : T (all right cases)
unfolding all right
all_right = tt

same_verdict_lem : (a b : Verdict) → T (same_verdict a b) → a ≡ b
unfolding same_verdict
same_verdict_lem a b t = ap₂ number_at
    (eqb→eq a.number b.number (and_l (eqb a.number b.number) (eqb a.place b.place) t))
    (eqb→eq a.place b.place (and_r (eqb a.number b.number) (eqb a.place b.place) t))

recording_from : ℕ → ℕ → ℕ → ℕ → ℕ → ℕ → ℕ → Recording
recording_from number place id first count set last = record { number = number; place = place; id = id; first = first; count = count; set = set; last = last }

fields : {n n' p p' i i' f f' c c' s s' l l' : ℕ} → n ≡ n' → p ≡ p' → i ≡ i' → f ≡ f' → c ≡ c' → s ≡ s' → l ≡ l' → recording_from n p i f c s l ≡ recording_from n' p' i' f' c' s' l'
fields n p i f c s l = rw (n, p, i, f, c, s, l) refl

same_recording_lem : (a b : Recording) → T (same_recording a b) → a ≡ b
unfolding same_recording recording_from
same_recording_lem a b t0 =
    let B0 = eqb a.number b.number in
    let B1 = eqb a.place b.place in
    let B2 = eqb a.id b.id in
    let B3 = eqb a.first b.first in
    let B4 = eqb a.count b.count in
    let B5 = eqb a.set b.set in
    let B6 = eqb a.last b.last in
    let t1 = and_r B0 (B1 && (B2 && (B3 && (B4 && (B5 && B6))))) t0 in
    let t2 = and_r B1 (B2 && (B3 && (B4 && (B5 && B6)))) t1 in
    let t3 = and_r B2 (B3 && (B4 && (B5 && B6))) t2 in
    let t4 = and_r B3 (B4 && (B5 && B6)) t3 in
    let t5 = and_r B4 (B5 && B6) t4 in
    fields
    (eqb→eq a.number b.number (and_l B0 (B1 && (B2 && (B3 && (B4 && (B5 && B6))))) t0))
    (eqb→eq a.place b.place (and_l B1 (B2 && (B3 && (B4 && (B5 && B6)))) t1))
    (eqb→eq a.id b.id (and_l B2 (B3 && (B4 && (B5 && B6))) t2))
    (eqb→eq a.first b.first (and_l B3 (B4 && (B5 && B6)) t3))
    (eqb→eq a.count b.count (and_l B4 (B5 && B6) t4))
    (eqb→eq a.set b.set (and_l B5 B6 t5))
    (eqb→eq a.last b.last (and_r B5 B6 t5))

shown : (c : Case) → T (right c) → Shown c
unfolding right same_bytes
shown c t =
    let F = same_verdict (verdict c.file) c.file_says in
    let R = same_recording (recording_of c.file c.k) c.recording_says in
    let P = same_bytes (part_of c.file c.k) c.part in
    let s = and_r F (R && P) t in
    record {
      file_says = same_verdict_lem (verdict c.file) c.file_says (and_l F (R && P) t);
      recording_says = same_recording_lem (recording_of c.file c.k) c.recording_says (and_l R P s);
      part = same_list_lem eqb eqb→eq (part_of c.file c.k) c.part (and_r R P s);
    }

pub worked : (c : Case) → Memᴰ c cases → Shown c
worked c m = shown c (all_at right cases all_right m)

pub second_triangle : SecondTriangle
unfolding triangle_at
second_triangle = refl

-- the first row holds
pub too_long_lem : TooLong
unfolding verdict rows first_of test place_of
too_long_lem file h = rw (lt-ltb 65536 (length file) h, or-true (ltb (length file) 12)) refl
