-- Lists that are not refused have a file that fits the room, and its three pieces, put one behind the other, are the file. Assumes nothing.
use Prim.Native.Nat.{ℕ, ◌+◌, ◌*◌, ◌≤◌}
use mathlib.Core.Path.{◌≡◌, sym, ap, ◌∙◌}
use mathlib.Core.List.{List, [], ◌∷◌}
use native.Mathlib.Omega.{arith}
use native.Mathlib.Nat.{zero-add}
use lib.ListN.{length}
use Rattle.text.specs.Room.{Put}
use Rattle.text.specs.declared.Written.{Written}
use Rattle.text.proofs.Room.{put_as, put_next, Put-length, put_three}
use Rattle.filing.specs.Given.{Given, recordings, triangles, sum_to}
use Rattle.filing.specs.File.{number_bytes, triangle_bytes, table_bytes, trailer_bytes, file_of}
use Rattle.filing.specs.Refusals.{refusal}
use Rattle.filing.specs.Promise.{WritePromise}
use Rattle.filing.specs.Fit.{Fit}
use Rattle.filing.proofs.Read.{table_length, numbers-length, trailer_length, file_length_lem}
use Rattle.filing.proofs.Returned.{is_refused, is_written}
use Rattle.storing.specs.Stored.{three_bytes}

-- an answer by its length, and a refusal by its number
length_is : ℕ → Written
length_is n = record { number = 0; place = 0; length = n }

number_is : ℕ → Written
number_is n = record { number = n; place = 0; length = 0 }

module _ (g : Given) (room : List ℕ) where
  module _ (fit : Fit g (length room)) where
    table_at : 4 * length g.numbers ≡ 24 * triangles g
    table_at = let w = fit.whole in omega (arith, w)

    in_room : 4 * length g.numbers + 12 * recordings g + 12 ≤ length room
    in_room = let m = fit.in_room in let t = table_at in omega (arith, m, t)

    bytes_of : length (number_bytes g.numbers) ≡ 4 * length g.numbers
    unfolding triangle_bytes
    bytes_of = numbers-length g

    -- what the table asks, behind the numbers
    pub table_small : 24 * sum_to g (recordings g) ≤ 65536
    table_small = let s = fit.sum in let m = fit.at_most65536 in omega (arith, s, m)

    pub table_fits : {mid : List ℕ} {p : ℕ} → Put room 0 (number_bytes g.numbers) mid p → p + 12 * recordings g + 12 ≤ length mid
    table_fits a =
        let r = in_room in
        let n = bytes_of in
        let e = put_next a (omega (arith, r, n)) in
        let k = Put-length a in
        omega (arith, r, n, e, k)

    -- and the trailer behind it
    pub trailer_fits : {mid after : List ℕ} {p q : ℕ} → Put room 0 (number_bytes g.numbers) mid p → Put mid p (table_bytes g) after q → q + 12 ≤ length after
    trailer_fits a b =
        let f = table_fits a in
        let n = table_length g in
        let e = put_next b (omega (arith, f, n)) in
        let k = Put-length b in
        omega (arith, f, n, e, k)

    -- the file
    abbrev trailer_numbers : ℕ → List ℕ
    trailer_numbers table = table ∷ recordings g ∷ (table + 12 * recordings g + 12) ∷ []

    trailer_is : three_bytes (trailer_numbers (4 * length g.numbers)) ≡ trailer_bytes g
    unfolding trailer_bytes
    trailer_is = ap (λ t. three_bytes (trailer_numbers t)) table_at

    pub whole_file : {m1 m2 after : List ℕ} {p q r : ℕ} → Put room 0 (number_bytes g.numbers) m1 p → Put m1 p (table_bytes g) m2 q → Put m2 q (three_bytes (trailer_numbers (4 * length g.numbers))) after r → Put room 0 (file_of g) after r
    unfolding file_of triangle_bytes
    whole_file a b c =
        let n = bytes_of in
        let t = table_length g in
        let l = trailer_length g in
        let r = in_room in
        put_three a b (put_as trailer_is c) (omega (arith, n, t, l, r))

    -- ---- what is answered
    pub answered : {after : List ℕ} {r : ℕ} → refusal g (length room) ≡ 0 → Put room 0 (file_of g) after r → WritePromise g room (record { number = 0; place = 0; length = r }) after
    unfolding length_is
    answered {after} {r} h p =
        let w = is_written g room h in
        let n = file_length_lem g (length room) fit in
        let f = fit.in_room in
        let e : r ≡ length (file_of g) = put_next p (omega (arith, n, f)) ∙ zero-add _ in
        record { result_is = ap length_is e ∙ sym (ap (λ x. x.result) w); after_is = p.after_is ∙ sym (ap (λ x. x.room) w) }

  pub refused : {x : ℕ} → x ≡ refusal g (length room) → (x ≡ 0 → ⊥) → WritePromise g room (record { number = x; place = 0; length = 0 }) room
  unfolding number_is
  refused {x} e z =
      let w = is_refused g room (λ q. z (e ∙ q)) in
      record { result_is = ap number_is e ∙ sym (ap (λ x. x.result) w); after_is = sym (ap (λ x. x.room) w) }
