-- What is said by the end's answer is what is to be said of the file that arrived, and of the whole input. Assumes nothing.
use Prim.Native.Nat.{ℕ, ◌<◌, ◌≤◌, min}
use mathlib.Core.Path.{◌≡◌, refl, sym, ap, ap₂, subst, ◌∙◌}
use mathlib.Core.Bool.{Bool, true, false, cond, false≢true}
use mathlib.Core.List.{List, []}
use native.Mathlib.Omega.{arith}
use native.Mathlib.Nat.{zero-add}
use lib.Dec.{eqb, leb}
use lib.ListN.{length, take, length-append}
use lib.Seq.{take-length, take_all, take_at, take-append_seam}
use borrow.Author.Tests.{leb-true, leb-false, eqb-true, eqb-false, eq-eqb, ne_eqb}
use Rattle.text.proofs.Room.{no_second_put, whole_or_nothing, Put-none}
use Rattle.layout.specs.declared.Verdict.{Verdict}
use Rattle.layout.specs.Verdict.{number_at}
use Rattle.layout.proofs.Worked.{too_long_lem}
use Rattle.layout.proofs.Returned.{file_first_lem}
use Rattle.listing.specs.Words.{refused_line}
use Rattle.arrival.specs.declared.State.{State}
use Rattle.arrival.specs.declared.Arrival.{Arrival}
use Rattle.arrival.specs.Promise.{EndPromise}
use Rattle.arrival.specs.Calls.{the_end, Outcome, put_at, called}
use Rattle.arrival.specs.Runs.{run_of}
use Rattle.arrival.specs.Whole.{at_first, file_of, end_of}
use Rattle.arrival.proofs.Put.{front_is}
use Rattle.arrival.proofs.Runs.{Came, delivered, cut_anywhere}
use Rattle.arrival.proofs.Returned.{end_writes_nothing}
use Rattle.arrival.proofs.Further.{same_size}
use Rattle.input.specs.declared.Got.{Got}
use Rattle.input.specs.declared.Piece.{Piece}
use Rattle.input.specs.declared.Piece.TheVariants.{Failed, Ended, More}
use Rattle.input.specs.Reading.{is_read, Gathered}
use Rattle.input.specs.Answer.{AtFront, NoSecondFront, said_by, output_for, ByRefusal, said_of, Delivered, Deliverable, Replied}

-- the text stands at the front
stands : {text room after : List ℕ} {n : ℕ} → AtFront text room n after → take n after ≡ text
stands {text} {room} {after} {n} p =
    let h = p.fits in
    let w = (whole_or_nothing p.put).whole (omega (arith, h)) in
    ap (λ k. take k after) (w.1 ∙ zero-add (length text)) ∙ w.0

-- no second length and no second room
pub no_second_front : NoSecondFront
no_second_front text room a b m n p q = let u = no_second_put ℕ room 0 text a b m n p.put q.put in (u.1, u.0)

-- both kinds of input can be delivered
pub deliverable : Deliverable
deliverable = record {
  short = λ input rest h. record { bytes = take-append_seam input rest ∙ (sym (take-length input) ∙ ap (λ n. take n input) (least (length input) h)); count = omega arith; ended = λ _. below (length input) h };
  long = λ buffer rest k l h. record { bytes = take_all 65537 buffer (omega (arith, l)) ∙ sym (take_at buffer rest 65536 l); count = let e = length-append buffer rest in omega (arith, e, l, h); ended = λ e. absurd (more_ends k e) };
}
  where
    more_ends : (k : ℕ) → More k ≡ Ended → ⊥
    more_ends k e = let z : ◌≡◌ {A = ℕ} 0 1 = cc in omega (arith, z)

    least : (n : ℕ) → n ≤ 65536 → n ≡ min n 65536
    least n h = omega (arith, h)

    below : (n : ℕ) → n ≤ 65536 → n ≡ min n 65537
    below n h = omega (arith, h)

-- ---- what is said by the end's answer, and by how the reading ended
module _ (line : Verdict → List ℕ) (says : List ℕ → List ℕ) (buffer room : List ℕ) where
  pub of_refused : (a : Arrival) → (a.number ≡ 0 → ⊥) → {after : List ℕ} {n : ℕ} → AtFront (line (number_at a.number a.place)) room n after → AtFront (said_by line says a buffer) room n after
  of_refused a h p = rw (ne_eqb a.number 0 h) p

  pub of_good : (a : Arrival) → a.number ≡ 0 → {after : List ℕ} {n : ℕ} → AtFront (says (take a.arrived buffer)) room n after → AtFront (said_by line says a buffer) room n after
  of_good a z p = rw (eq-eqb a.number 0 z) p

  pub of_read : (g : Got) → is_read g.last ≡ true → {a : Arrival} → EndPromise (record { arrived = g.arrived; ended = 0 }) buffer a → {after : List ℕ} {n : ℕ} → AtFront (said_by line says a buffer) room n after → AtFront (output_for line says g buffer) room n after
  of_read g ok e {after} {n} p = rw ok (subst (λ a. AtFront (said_by line says a buffer) room n after) e.result_is p)

  pub of_failed : (g : Got) → is_read g.last ≡ false → AtFront (output_for line says g buffer) room 0 room
  of_failed g failed = rw failed (record { put = Put-none room 0; fits = omega arith })

-- ---- and that is what is to be said of the file
module _ (line : Verdict → List ℕ) (says : List ℕ → List ℕ) (refusals : ByRefusal line says) (lent buffer : List ℕ) (g : Got) (gathered : Gathered lent g buffer) where
  -- the end that the program asks for is that of the run
  end_is : called (record { arrived = g.arrived; ended = 0 }) the_end buffer ≡ end_of gathered.so_far.calls lent
  end_is = sym (ap₂ (λ s b. called s the_end b) gathered.so_far.state gathered.so_far.buffer_is)

  -- and it leaves the buffer
  end_buffer : (end_of gathered.so_far.calls lent).buffer ≡ buffer
  end_buffer = sym (ap (λ (o : Outcome). o.buffer) end_is) ∙ end_writes_nothing (record { arrived = g.arrived; ended = 0 }) buffer

  said_of_file : length lent ≡ 65536 → said_by line says (called (record { arrived = g.arrived; ended = 0 }) the_end buffer).answer buffer ≡ says (file_of gathered.so_far.calls)
  said_of_file size =
      ap₂ (λ (o : Outcome) b. said_by line says o.answer b) end_is (sym end_buffer)
      ∙ go (eqb (end_of gathered.so_far.calls lent).answer.number 0) refl
    where
      go : (b : Bool) → eqb (end_of gathered.so_far.calls lent).answer.number 0 ≡ b → said_by line says (end_of gathered.so_far.calls lent).answer (end_of gathered.so_far.calls lent).buffer ≡ says (file_of gathered.so_far.calls)
      go true e = let w = cut_anywhere gathered.so_far.calls lent size gathered.so_far.pieces in
          rw e (w.asked (eqb-true (end_of gathered.so_far.calls lent).answer.number 0 e) (List ℕ) says)
      go false e = let w = cut_anywhere gathered.so_far.calls lent size gathered.so_far.pieces in
          rw e (ap line w.verdict_is ∙ sym (refusals (file_of gathered.so_far.calls) (λ z. eqb-false (end_of gathered.so_far.calls lent).answer.number 0 e (ap (λ (v : Verdict). v.number) w.verdict_is ∙ z))))

  -- or nothing
  output_is : output_for line says g buffer ≡ cond (is_read g.last) (says (file_of gathered.so_far.calls)) []
  output_is = go (is_read g.last) refl
    where
      go : (b : Bool) → is_read g.last ≡ b → output_for line says g buffer ≡ cond (is_read g.last) (says (file_of gathered.so_far.calls)) []
      go true e = rw e (said_of_file (gathered.size e))
      go false e = rw e refl

  -- more has arrived than a file may have, and then the input is too long as well, or all of the input is at the buffer's front
  of_input : is_read g.last ≡ true → (input : List ℕ) → Delivered g buffer input → says (file_of gathered.so_far.calls) ≡ says input
  of_input ok input d = go (leb (length (file_of gathered.so_far.calls)) 65536) refl
    where
      came : Came lent (file_of gathered.so_far.calls) (run_of gathered.so_far.calls at_first lent)
      came = delivered lent (gathered.size ok) gathered.so_far.calls gathered.so_far.pieces

      count : g.arrived ≡ min (length (file_of gathered.so_far.calls)) 65537
      count = ap (λ (s : State). s.arrived) (sym gathered.so_far.state ∙ came.state)

      put : buffer ≡ put_at lent 0 (file_of gathered.so_far.calls)
      put = sym gathered.so_far.buffer_is ∙ came.buffer

      long : (file : List ℕ) → 65536 < length file → says file ≡ line (number_at 11 0)
      long file h =
          let t = too_long_lem file h in
          let z = ap (λ (v : Verdict). v.number) t in
          refusals file (λ e. omega (arith, z, e)) ∙ ap line t

      all : (last : Piece) → g.last ≡ last → length (file_of gathered.so_far.calls) ≤ 65536 → g.arrived ≡ min (length input) 65537
      all Failed e h = absurd (false≢true (sym (ap is_read e) ∙ ok))
      all Ended e h = d.ended e
      all (More k) e h = let a = gathered.too_many k e in absurd (omega (arith, a, count, h))

      go : (b : Bool) → leb (length (file_of gathered.so_far.calls)) 65536 ≡ b → says (file_of gathered.so_far.calls) ≡ says input
      go true e =
          let h = leb-true (length (file_of gathered.so_far.calls)) 65536 e in
          let a = all g.last refl h in
          let m : g.arrived ≡ length (file_of gathered.so_far.calls) = omega (arith, count, h) in
          let i : min g.arrived 65536 ≡ length input = omega (arith, a, m, h) in
          let l = gathered.size ok in
          ap says (sym (front_is lent (file_of gathered.so_far.calls) (omega (arith, h, l))) ∙ (ap₂ take (sym m) (sym put) ∙ (d.bytes ∙ (ap (λ k. take k input) i ∙ take-length input))))
      go false e =
          let h = leb-false (length (file_of gathered.so_far.calls)) 65536 e in
          let c = d.count in
          long (file_of gathered.so_far.calls) h ∙ sym (long input (omega (arith, count, h, c)))

  pub replied : length buffer ≡ 65536 → {room after : List ℕ} {n : ℕ} → AtFront (output_for line says g buffer) room n after → Replied says lent room (record { got = g; n = n }) buffer after
  replied size {room} {after} {n} p =
      let q = subst (λ t. AtFront t room n after) output_is p in
      record { size = sym (same_size gathered.so_far) ∙ size; gathered = gathered; said = q; whole = λ ok input d. stands q ∙ (rw ok refl ∙ of_input ok input d) }

-- in a buffer of another length nothing is read, and nothing is said
module _ (line : Verdict → List ℕ) (says : List ℕ → List ℕ) (room : List ℕ) where
  pub of_other_length : {lent buffer after : List ℕ} {g : Got} {n : ℕ} → Gathered lent g buffer → (length lent ≡ 65536 → ⊥) → AtFront (output_for line says g buffer) room n after → AtFront [] room n after
  of_other_length {lent} {buffer} {after} {g} {n} gathered other p = subst (λ t. AtFront t room n after) (go (is_read g.last) refl) p
    where
      go : (b : Bool) → is_read g.last ≡ b → output_for line says g buffer ≡ []
      go true e = absurd (other (gathered.size e))
      go false e = rw e refl

-- what a command says of a refused file is its line
pub of_any_refused : (answers : List ℕ → List ℕ) → ByRefusal refused_line (said_of answers)
of_any_refused answers file h = file_first_lem (List ℕ) file refused_line (answers file) h
