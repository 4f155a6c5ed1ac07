-- What a call answers and leaves, fact by fact, by the three kinds of states and buffers. Assumes nothing.
use Prim.Native.Nat.{ℕ, ◌+◌, ◌-◌, ◌<◌, ◌≤◌}
use mathlib.Core.Path.{◌≡◌, refl, ap, sym, subst, ◌∙◌}
use mathlib.Core.Bool.{Bool, true, false, cond}
use mathlib.Core.Logic.{◌⊎◌, inl, inr, ◌↔◌}
use mathlib.Core.List.{List, ◌++◌}
use native.Mathlib.Omega.{arith}
use lib.Dec.{leb, ltb}
use lib.ListN.{length, take, drop, drop_of_length-le}
use lib.Seq.{length-take-le, take-append_seam, drop_at}
use borrow.Author.Tests.{leb-true, leb-false, lt-ltb, le-ltb}
use Rattle.layout.specs.Verdict.{Row, bad_length, other_length, bad_trailer, bad_entry, id_again, wrong_end, out_of_range, flat, number_of, place_of, number_at, good, verdict}
use Rattle.layout.specs.Recordings.{recording_of, part_of}
use Rattle.layout.proofs.Returned.{returned_one}
use Rattle.layout.specs.declared.Verdict.{Verdict}
use Rattle.arrival.specs.declared.State.{State}
use Rattle.arrival.specs.Calls.{Said, piece, the_end, Outcome, counted, put_at, taken, judged, ended_by, answered, refused_by, called}
use Rattle.arrival.specs.Promise.{NoSecondCall, EndWritesNothing, CallDemand, PieceDemand, EndDemand, CallsReturned}
use Rattle.arrival.proofs.Put.{put_length, put_past, put_whole, put_full, put_before, put_beyond}
use Rattle.arrival.proofs.Refusals.{Kind, other_buffer, after_end, goes_on, kind, called_other, called-ended, called_open}

pub no_second_call : NoSecondCall
no_second_call s said buffer r t a b p q = (p.result_is ∙ sym q.result_is, p.after_is ∙ sym q.after_is)

pub end_writes_nothing : EndWritesNothing
unfolding answered ended_by
end_writes_nothing s buffer = go (kind s buffer)
  where
    go : Kind s buffer → (called s the_end buffer).buffer ≡ buffer
    go (other_buffer h) = ap (λ o. o.buffer) (called_other s buffer the_end h)
    go (after_end l h) = ap (λ o. o.buffer) (called-ended s buffer the_end l h)
    go (goes_on l h) = ap (λ o. o.buffer) (called_open s buffer the_end l h)

-- ---- of a piece
module _ (s : State) (bytes buffer : List ℕ) where
  piece_refused : (number : ℕ) → (number ≡ 22) ⊎ (number ≡ 23) → (number ≡ 0 → ⊥) → PieceDemand s bytes buffer (refused_by number s buffer).answer buffer
  piece_refused number e n = record {
    numbers = inr e;
    no_place = refl;
    count = λ z. absurd (n z);
    whole = λ z _. absurd (n z);
    front = λ z _. absurd (n z);
  }

  piece_taken : length buffer ≡ 65536 → PieceDemand s bytes buffer (taken s bytes buffer).answer (taken s bytes buffer).buffer
  unfolding taken
  piece_taken l = record {
    numbers = inl refl;
    no_place = refl;
    count = λ _. (refl, refl);
    whole = λ _ h.
        let a = length-take-le s.arrived buffer (omega (arith, h, l)) in
        ap (λ b. take (length bytes) (drop s.arrived b)) (put_whole buffer s.arrived bytes (omega (arith, h, l)))
        ∙ (ap (take (length bytes)) (drop_at (take s.arrived buffer) (bytes ++ drop (s.arrived + length bytes) buffer) s.arrived a) ∙ take-append_seam bytes (drop (s.arrived + length bytes) buffer));
    front = λ _ h. filled (leb s.arrived 65536) refl h;
  }
    where
      filled : (b : Bool) → leb s.arrived 65536 ≡ b → 65536 < s.arrived + length bytes → drop s.arrived (put_at buffer s.arrived bytes) ≡ take (65536 - s.arrived) bytes
      filled true e h =
          let g = leb-true s.arrived 65536 e in
          ap (drop s.arrived) (put_full buffer s.arrived bytes (omega (arith, g, l)) (omega (arith, h, l)))
          ∙ (drop_at (take s.arrived buffer) (take (length buffer - s.arrived) bytes) s.arrived (length-take-le s.arrived buffer (omega (arith, g, l))) ∙ ap (λ n. take (n - s.arrived) bytes) l)
      filled false e h =
          let g = leb-false s.arrived 65536 e in
          let z : 65536 - s.arrived ≡ 0 = omega (arith, g) in
          ap (drop s.arrived) (put_past buffer s.arrived bytes (omega (arith, g, l)))
          ∙ (drop_of_length-le buffer {i = s.arrived} (omega (arith, g, l)) ∙ sym (ap (λ n. take n bytes) z))

  piece_demand : PieceDemand s bytes buffer (called s (piece bytes) buffer).answer (called s (piece bytes) buffer).buffer
  unfolding answered
  piece_demand = go (kind s buffer)
    where
      of : {o : Outcome} → called s (piece bytes) buffer ≡ o → PieceDemand s bytes buffer o.answer o.buffer → PieceDemand s bytes buffer (called s (piece bytes) buffer).answer (called s (piece bytes) buffer).buffer
      of e d = subst (λ o. PieceDemand s bytes buffer o.answer o.buffer) (sym e) d

      go : Kind s buffer → PieceDemand s bytes buffer (called s (piece bytes) buffer).answer (called s (piece bytes) buffer).buffer
      go (other_buffer h) = of (called_other s buffer (piece bytes) h) (piece_refused 23 (inr refl) (λ z. omega (arith, z)))
      go (after_end l h) = of (called-ended s buffer (piece bytes) l h) (piece_refused 22 (inl refl) (λ z. omega (arith, z)))
      go (goes_on l h) = of (called_open s buffer (piece bytes) l h) (piece_taken l)

-- ---- of an end
module _ (arrived : ℕ) (buffer : List ℕ) where
  pub judged_file : arrived ≤ 65536 → judged arrived buffer ≡ verdict (take arrived buffer)
  unfolding judged
  judged_file h = rw (le-ltb 65536 arrived h) refl

  pub judged_long : 65536 < arrived → judged arrived buffer ≡ number_at 11 0
  unfolding judged
  judged_long h = rw (lt-ltb 65536 arrived h) refl

module _ (s : State) (buffer : List ℕ) where
  pub end_is : length buffer ≡ 65536 → s.ended ≡ 0 → called s the_end buffer ≡ ended_by s buffer
  unfolding answered
  end_is l h = called_open s buffer the_end l h

  end_demand : EndDemand s buffer (called s the_end buffer).answer
  unfolding ended_by
  end_demand = record {
    judged = λ l h g. (ap (λ o. number_at o.answer.number o.answer.place) (end_is l h) ∙ judged_file s.arrived buffer g, ap (λ o. o.answer.arrived) (end_is l h) ∙ within g);
    too_long = λ l h g. (ap (λ o. number_at o.answer.number o.answer.place) (end_is l h) ∙ judged_long s.arrived buffer g, ap (λ o. o.answer.arrived) (end_is l h) ∙ above g);
    ended = λ l h. ap (λ o. o.answer.ended) (end_is l h);
  }
    where
      within : s.arrived ≤ 65536 → counted s.arrived ≡ s.arrived
      within g = omega (arith, g)

      above : 65536 < s.arrived → counted s.arrived ≡ 65537
      above g = omega (arith, g)

-- ---- the numbers that are said of a file are none of 22 and 23
row_below : (row : Row) → number_of row ≤ 18
row_below bad_length = omega arith
row_below other_length = omega arith
row_below bad_trailer = omega arith
row_below (bad_entry i) = omega arith
row_below (id_again i) = omega arith
row_below wrong_end = omega arith
row_below (out_of_range k) = omega arith
row_below (flat k) = omega arith

verdict_below : (file : List ℕ) → (verdict file).number ≤ 18
verdict_below file = go (returned_one file 0 (verdict file) (recording_of file 0) (part_of file 0) refl refl refl).nothing_else
  where
    go : (verdict file ≡ good) ⊎ ((row : Row) × (verdict file ≡ number_at (number_of row) (place_of file row))) → (verdict file).number ≤ 18
    go (inl e) = let n = ap (λ (v : Verdict). v.number) e in omega (arith, n)
    go (inr r) = let n = ap (λ (v : Verdict). v.number) r.1 in let m = row_below r.0 in omega (arith, n, m)

judged_below : (arrived : ℕ) (buffer : List ℕ) → (judged arrived buffer).number ≤ 18
unfolding judged
judged_below arrived buffer = go (ltb 65536 arrived)
  where
    go : (b : Bool) → (cond b (number_at 11 0) (verdict (take arrived buffer))).number ≤ 18
    go true = omega arith
    go false = verdict_below (take arrived buffer)

-- ---- of any call
module _ (s : State) (buffer : List ℕ) where
  -- with a refusal all is as it was
  refused_demand : (said : Said) (number : ℕ) → (number ≡ 23) ↔ (length buffer ≡ 65536 → ⊥) → (number ≡ 22) ↔ ((length buffer ≡ 65536) × (s.ended ≡ 0 → ⊥)) → CallDemand s said buffer (refused_by number s buffer).answer buffer
  refused_demand said number p q = record {
    other_buffer = p;
    after_end = q;
    nothing_changed = λ _. (refl, refl, refl);
    same_length = refl;
    before = refl;
    beyond = refl;
  }

  -- an answer with the buffer that it leaves
  open_demand : (said : Said) (o : Outcome) → length buffer ≡ 65536 → s.ended ≡ 0 → o.answer.number ≤ 18 → length o.buffer ≡ length buffer → take s.arrived o.buffer ≡ take s.arrived buffer → drop o.answer.arrived o.buffer ≡ drop o.answer.arrived buffer → CallDemand s said buffer o.answer o.buffer
  open_demand said o l h n same before beyond = record {
    other_buffer = (λ e. absurd (omega (arith, e, n)), λ g. absurd (g l));
    after_end = (λ e. absurd (omega (arith, e, n)), λ g. absurd (g.1 h));
    nothing_changed = λ e. absurd (neither e);
    same_length = same;
    before = before;
    beyond = beyond;
  }
    where
      neither : (o.answer.number ≡ 22) ⊎ (o.answer.number ≡ 23) → ⊥
      neither (inl e) = omega (arith, e, n)
      neither (inr e) = omega (arith, e, n)

  -- bytes beyond what has arrived: where all has, there are none
  put_kept : (bytes : List ℕ) → length buffer ≡ 65536 → drop (counted (s.arrived + length bytes)) (put_at buffer s.arrived bytes) ≡ drop (counted (s.arrived + length bytes)) buffer
  put_kept bytes l = go (leb (s.arrived + length bytes) 65537) refl
    where
      less : s.arrived + length bytes ≤ 65537 → counted (s.arrived + length bytes) ≡ s.arrived + length bytes
      less h = omega (arith, h)

      go : (b : Bool) → leb (s.arrived + length bytes) 65537 ≡ b → drop (counted (s.arrived + length bytes)) (put_at buffer s.arrived bytes) ≡ drop (counted (s.arrived + length bytes)) buffer
      go true e =
          let n = less (leb-true (s.arrived + length bytes) 65537 e) in
          ap (λ k. drop k (put_at buffer s.arrived bytes)) n ∙ (put_beyond buffer s.arrived bytes ∙ ap (λ k. drop k buffer) (sym n))
      go false e =
          let h = leb-false (s.arrived + length bytes) 65537 e in
          let m = put_length buffer s.arrived bytes in
          drop_of_length-le (put_at buffer s.arrived bytes) {i = counted (s.arrived + length bytes)} (omega (arith, h, m, l)) ∙ sym (drop_of_length-le buffer {i = counted (s.arrived + length bytes)} (omega (arith, h, l)))

  answered_demand : (said : Said) → length buffer ≡ 65536 → s.ended ≡ 0 → CallDemand s said buffer (answered s said buffer).answer (answered s said buffer).buffer
  unfolding answered taken ended_by
  answered_demand (piece bytes) l h = open_demand (piece bytes) (answered s (piece bytes) buffer) l h (omega arith) (put_length buffer s.arrived bytes) (put_before buffer s.arrived bytes) (put_kept bytes l)
  answered_demand the_end l h = open_demand the_end (answered s the_end buffer) l h (judged_below s.arrived buffer) refl refl refl

  call_demand : (said : Said) → CallDemand s said buffer (called s said buffer).answer (called s said buffer).buffer
  call_demand said = go (kind s buffer)
    where
      of : {o : Outcome} → called s said buffer ≡ o → CallDemand s said buffer o.answer o.buffer → CallDemand s said buffer (called s said buffer).answer (called s said buffer).buffer
      of e d = subst (λ o. CallDemand s said buffer o.answer o.buffer) (sym e) d

      go : Kind s buffer → CallDemand s said buffer (called s said buffer).answer (called s said buffer).buffer
      go (other_buffer h) = of (called_other s buffer said h) (refused_demand said 23 (λ _. h, λ _. refl) (λ e. absurd (omega (arith, e)), λ g. absurd (h g.0)))
      go (after_end l h) = of (called-ended s buffer said l h) (refused_demand said 22 (λ e. absurd (omega (arith, e)), λ g. absurd (g l)) (λ _. (l, h), λ _. refl))
      go (goes_on l h) = of (called_open s buffer said l h) (answered_demand said l h)

pub calls_returned : CallsReturned
calls_returned = record {
  call = λ s said buffer result after p. subst (λ r. CallDemand s said buffer r after) (sym p.result_is) (subst (CallDemand s said buffer (called s said buffer).answer) (sym p.after_is) (call_demand s buffer said));
  piece = λ s bytes buffer result after p. subst (λ r. PieceDemand s bytes buffer r after) (sym p.result_is) (subst (PieceDemand s bytes buffer (called s (piece bytes) buffer).answer) (sym p.after_is) (piece_demand s bytes buffer));
  end = λ s buffer result p. subst (EndDemand s buffer) (sym p.result_is) (end_demand s buffer);
}
