-- The lists worked by hand come out so: a computed test over each part of them, and what it says of each. Assumes nothing.
use Prim.Native.Nat.{ℕ}
use mathlib.Core.Bool.{Bool, ◌&&◌}
use mathlib.Core.Logic.{⊎_elim}
use mathlib.Core.List.Memᴰ
use mathlib.Core.List.{List, ◌++◌, Memᴰ}
use lib.Dec.{T, eqb, eqb→eq}
use lib.Ieee.{add, sub, mul, div, neg, lt, le, eq, of_int, of_bits}
use lib.Ieee.Fits.{and_l, and_r}
use Rattle.floats.specs.Lists.{all}
use Rattle.floats.proofs.Lists.{all_at, same_list, same_list_lem}
use Rattle.listing.specs.Listing.{ListAndRoom, list_of, output_of}
use Rattle.worked.specs.Lists.{Case, Shown, points_of, rooms, counts, boxes, olds, slivers, cases}

same_bytes : List ℕ → List ℕ → Bool
unfolding same_list
same_bytes = same_list eqb

whole : Case → ListAndRoom
unfolding list_of
whole c = list_of c.file (points_of c.room)

-- a whole answer and what is written, against what is to be shown of a case
fits : Case → ListAndRoom → List ℕ → Bool
unfolding same_bytes
fits c w output =
    eqb w.result.number c.number
    && (eqb w.result.place c.place
    && (eqb w.result.length c.length
    && (eqb w.result.leaks c.leaks
    && (eqb w.result.touching c.touching
    && (eqb w.result.tested c.tested
    && (eqb w.result.formerly_held_back c.formerly
    && (same_bytes w.room (c.front ++ points_of c.points) && same_bytes output c.output)))))))

right : Case → Bool
unfolding fits whole output_of
right c = fits c (whole c) (output_of c.file)

rooms-right : T (all right rooms)
unfolding all right add sub mul div neg lt le eq of_int of_bits
rooms-right = tt

counts-right : T (all right counts)
unfolding all right add sub mul div neg lt le eq of_int of_bits
counts-right = tt

boxes-right : T (all right boxes)
unfolding all right add sub mul div neg lt le eq of_int of_bits
boxes-right = tt

olds-right : T (all right olds)
unfolding all right add sub mul div neg lt le eq of_int of_bits
olds-right = tt

slivers-right : T (all right slivers)
unfolding all right add sub mul div neg lt le eq of_int of_bits
slivers-right = tt

shown : (c : Case) → T (right c) → Shown c
unfolding right fits same_bytes whole
shown c t0 =
    let w = list_of c.file (points_of c.room) in
    let B0 = eqb w.result.number c.number in
    let B1 = eqb w.result.place c.place in
    let B2 = eqb w.result.length c.length in
    let B3 = eqb w.result.leaks c.leaks in
    let B4 = eqb w.result.touching c.touching in
    let B5 = eqb w.result.tested c.tested in
    let B6 = eqb w.result.formerly_held_back c.formerly in
    let B7 = same_bytes w.room (c.front ++ points_of c.points) in
    let B8 = same_bytes (output_of c.file) c.output in
    let t1 = and_r B0 (B1 && (B2 && (B3 && (B4 && (B5 && (B6 && (B7 && B8))))))) t0 in
    let t2 = and_r B1 (B2 && (B3 && (B4 && (B5 && (B6 && (B7 && B8)))))) t1 in
    let t3 = and_r B2 (B3 && (B4 && (B5 && (B6 && (B7 && B8))))) t2 in
    let t4 = and_r B3 (B4 && (B5 && (B6 && (B7 && B8)))) t3 in
    let t5 = and_r B4 (B5 && (B6 && (B7 && B8))) t4 in
    let t6 = and_r B5 (B6 && (B7 && B8)) t5 in
    let t7 = and_r B6 (B7 && B8) t6 in
    record {
      number = eqb→eq w.result.number c.number (and_l B0 (B1 && (B2 && (B3 && (B4 && (B5 && (B6 && (B7 && B8))))))) t0);
      place = eqb→eq w.result.place c.place (and_l B1 (B2 && (B3 && (B4 && (B5 && (B6 && (B7 && B8)))))) t1);
      length = eqb→eq w.result.length c.length (and_l B2 (B3 && (B4 && (B5 && (B6 && (B7 && B8))))) t2);
      leaks = eqb→eq w.result.leaks c.leaks (and_l B3 (B4 && (B5 && (B6 && (B7 && B8)))) t3);
      touching = eqb→eq w.result.touching c.touching (and_l B4 (B5 && (B6 && (B7 && B8))) t4);
      tested = eqb→eq w.result.tested c.tested (and_l B5 (B6 && (B7 && B8)) t5);
      formerly = eqb→eq w.result.formerly_held_back c.formerly (and_l B6 (B7 && B8) t6);
      room = same_list_lem eqb eqb→eq w.room (c.front ++ points_of c.points) (and_l B7 B8 t7);
      output = same_list_lem eqb eqb→eq (output_of c.file) c.output (and_r B7 B8 t7);
    }

pub worked : (c : Case) → Memᴰ c cases → Shown c
worked c m = ⊎_elim (λ r. shown c (all_at right rooms rooms-right r)) others (Memᴰ.append_cases rooms m)
  where
    latest : Memᴰ c (olds ++ slivers) → Shown c
    latest r = ⊎_elim (λ o. shown c (all_at right olds olds-right o)) (λ s. shown c (all_at right slivers slivers-right s)) (Memᴰ.append_cases olds r)

    last : Memᴰ c (boxes ++ (olds ++ slivers)) → Shown c
    last r = ⊎_elim (λ b. shown c (all_at right boxes boxes-right b)) latest (Memᴰ.append_cases boxes r)

    others : Memᴰ c (counts ++ (boxes ++ (olds ++ slivers))) → Shown c
    others r = ⊎_elim (λ k. shown c (all_at right counts counts-right k)) last (Memᴰ.append_cases counts r)
