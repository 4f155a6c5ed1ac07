-- Pieces that are put one behind the other are put as one, so a run of pieces leaves what the whole file would, and its end says what is said of the whole file. Assumes nothing.
use Prim.Native.Nat.{ℕ, ◌+◌}
use mathlib.Core.Path.{◌≡◌, refl, ap, ap₂, sym, subst, ◌∙◌}
use mathlib.Core.Bool.{Bool, true, false}
use mathlib.Core.Logic.{◌⊎◌, inl, inr}
use mathlib.Core.List.Memᴰ
use mathlib.Core.List.{List, [], ◌∷◌, ◌++◌, map, append_assoc, append-nil, Memᴰ}
use native.Mathlib.Omega.{arith}
use lib.Dec.{eqb, leb}
use lib.ListN.{length, take, drop, length-append}
use borrow.Author.Tests.{eqb-true, eqb-false, leb-true, leb-false}
use Rattle.layout.specs.Verdict.{number_at, verdict}
use Rattle.layout.specs.declared.Verdict.{Verdict}
use Rattle.layout.specs.Recordings.{unless_refused}
use Rattle.layout.proofs.Worked.{too_long_lem}
use Rattle.layout.proofs.Returned.{not_refused, file_first_lem}
use Rattle.arrival.specs.declared.State.{State}
use Rattle.arrival.specs.Calls.{Said, piece, the_end, Outcome, counted, put_at, taken, judged, ended_by, answered, refused_by, called}
use Rattle.arrival.specs.Runs.{Lent, same, other, Call, lent_by, left_by, state_in, Run, run_of, EachCall}
use Rattle.arrival.specs.Whole.{at_first, Delivers, Delivery, bytes_in, file_of, piece_call, joined, Deliveries, end_of, by_end, AsWhole, CutAnywhere, OtherwiseCut}
use Rattle.arrival.proofs.Put.{put_length, put_front, put_nothing, front_is, put_next}
use Rattle.arrival.proofs.Refusals.{called_other, called_open}
use Rattle.arrival.proofs.Returned.{judged_file, judged_long, end_is}

-- ---- a run by its first call
-- the run behind a call with this outcome
abbrev pub behind : Outcome → Lent → List Call → List ℕ → Run
behind o lent calls buffer = let rest = run_of calls (state_in o.answer) (left_by lent o.buffer buffer) in record { outcomes = o ∷ rest.outcomes; state = rest.state; buffer = rest.buffer }

pub run_first : (c : Call) (calls : List Call) (s : State) (buffer : List ℕ) (o : Outcome) → called s c.said (lent_by c.lent buffer) ≡ o → run_of (c ∷ calls) s buffer ≡ behind o c.lent calls buffer
unfolding run_of
run_first c calls s buffer o e = ap (λ w. behind w c.lent calls buffer) e

pub each_call : EachCall
unfolding run_of
each_call [] c later s lent = refl
each_call (d ∷ before) c later s lent =
    let o = called s d.said (lent_by d.lent lent) in
    ap (λ (r : Run). record { outcomes = o ∷ r.outcomes; state = r.state; buffer = r.buffer }) (each_call before c later (state_in o.answer) (left_by d.lent o.buffer lent))

-- ---- a delivery: so much of the file has arrived, and the buffer is that of the file's front put as one
abbrev pub after_file : List ℕ → State
after_file file = record { arrived = counted (length file); ended = 0 }

-- each outcome says nothing, or 23
abbrev Quiet : List Outcome → Type 0
Quiet outcomes = (o : Outcome) → Memᴰ o outcomes → (o.answer.number ≡ 0) ⊎ (o.answer.number ≡ 23)

pub record Came (lent file : List ℕ) (run : Run) : Type 0 where
  pub state : run.state ≡ after_file file
  pub buffer : run.buffer ≡ put_at lent 0 file
  pub quiet : Quiet run.outcomes

-- what is so of the first outcome and of all others
pub each : {P : Outcome → Type 0} {o : Outcome} {rest : List Outcome} → P o → ((w : Outcome) → Memᴰ w rest → P w) → (w : Outcome) → Memᴰ w (o ∷ rest) → P w
each {P} {o} {rest} first others w m = go (Memᴰ.cases_cons m)
  where
    go : (w ≡ o) ⊎ Memᴰ w rest → P w
    go (inl e) = subst P (sym e) first
    go (inr d) = others w d

-- a piece behind so much of the file
abbrev pub with_piece : List ℕ → List ℕ → Outcome
with_piece lent file = record { answer = record { number = 0; place = 0; arrived = counted (length file); ended = 0 }; buffer = put_at lent 0 file }

-- the end of a file, and what the file's verdict is
abbrev pub with_end : List ℕ → List ℕ → Outcome
with_end lent file = let v = verdict file in record { answer = record { number = v.number; place = v.place; arrived = counted (length file); ended = 1 }; buffer = put_at lent 0 file }

module _ (lent : List ℕ) (size : length lent ≡ 65536) where
  full_size : (file : List ℕ) → length (put_at lent 0 file) ≡ 65536
  full_size file = put_length lent 0 file ∙ size

  pub next_piece : (file bytes : List ℕ) → called (after_file file) (piece bytes) (put_at lent 0 file) ≡ with_piece lent (file ++ bytes)
  unfolding answered taken
  next_piece file bytes =
      called_open (after_file file) (put_at lent 0 file) (piece bytes) (full_size file) refl
      ∙ ap₂ (λ n b. record { answer = record { number = 0; place = 0; arrived = n; ended = 0 }; buffer = b }) (more (length-append file bytes)) (put_next lent file bytes size)
    where
      more : length (file ++ bytes) ≡ length file + length bytes → counted (counted (length file) + length bytes) ≡ counted (length (file ++ bytes))
      more e = omega (arith, e)

  -- one call more, before calls of which it is known
  next_call : (l : Lent) (said : Said) (calls : List Call) (file : List ℕ) → Delivers l said → ((f : List ℕ) → Came lent (f ++ file_of calls) (run_of calls (after_file f) (put_at lent 0 f))) → Came lent (file ++ (bytes_in l said ++ file_of calls)) (run_of (record { said = said; lent = l } ∷ calls) (after_file file) (put_at lent 0 file))
  next_call same (piece bytes) calls file d known =
      let w = known (file ++ bytes) in
      let e = run_first (record { said = piece bytes; lent = same }) calls (after_file file) (put_at lent 0 file) (with_piece lent (file ++ bytes)) (next_piece file bytes) in
      subst (Came lent (file ++ (bytes ++ file_of calls))) (sym e)
      (subst (λ f. Came lent f (behind (with_piece lent (file ++ bytes)) same calls (put_at lent 0 file))) (append_assoc file bytes (file_of calls))
      (record { state = w.state; buffer = w.buffer; quiet = each {P = λ o. (o.answer.number ≡ 0) ⊎ (o.answer.number ≡ 23)} (inl refl) w.quiet }))
  next_call same the_end calls file d known = absurd d
  next_call (other its) said calls file d known =
      let w = known file in
      let e = run_first (record { said = said; lent = other its }) calls (after_file file) (put_at lent 0 file) (refused_by 23 (after_file file) its) (called_other (after_file file) its said d) in
      subst (Came lent (file ++ file_of calls)) (sym e)
      (record { state = w.state; buffer = w.buffer; quiet = each {P = λ o. (o.answer.number ≡ 0) ⊎ (o.answer.number ≡ 23)} (inr refl) w.quiet })

  came : (calls : List Call) → Delivery calls → (file : List ℕ) → Came lent (file ++ file_of calls) (run_of calls (after_file file) (put_at lent 0 file))
  unfolding run_of file_of
  came [] d file = rw (append-nil file) (record { state = refl; buffer = refl; quiet = λ o m. absurd (Memᴰ.not-nil m) })
  came (c ∷ calls) d file = next_call c.lent c.said calls file d.0 (came calls d.1)

  -- from the first state on
  pub delivered : (calls : List Call) → Delivery calls → Came lent (file_of calls) (run_of calls at_first lent)
  delivered calls d = subst (λ b. Came lent (file_of calls) (run_of calls at_first b)) (put_nothing lent) (came calls d [])

  -- ---- the end of a delivery: what is said of the file that has arrived is what is said of the whole file
  judged_whole : (file : List ℕ) → judged (counted (length file)) (put_at lent 0 file) ≡ verdict file
  judged_whole file = go (leb (length file) 65536) refl
    where
      go : (b : Bool) → leb (length file) 65536 ≡ b → judged (counted (length file)) (put_at lent 0 file) ≡ verdict file
      go true e =
          let h = leb-true (length file) 65536 e in
          let n : counted (length file) ≡ length file = omega (arith, h) in
          judged_file (counted (length file)) (put_at lent 0 file) (omega (arith, h))
          ∙ ap verdict (ap (λ k. take k (put_at lent 0 file)) n ∙ front_is lent file (omega (arith, h, size)))
      go false e =
          let h = leb-false (length file) 65536 e in
          judged_long (counted (length file)) (put_at lent 0 file) (omega (arith, h)) ∙ sym (too_long_lem file h)

  pub end_after : (file : List ℕ) → called (after_file file) the_end (put_at lent 0 file) ≡ with_end lent file
  unfolding ended_by
  end_after file =
      end_is (after_file file) (put_at lent 0 file) (full_size file) refl
      ∙ ap₂ (λ (v : Verdict) n. record { answer = record { number = v.number; place = v.place; arrived = n; ended = 1 }; buffer = put_at lent 0 file }) (judged_whole file) twice
    where
      twice : counted (counted (length file)) ≡ counted (length file)
      twice = omega arith

  module _ (calls : List Call) (d : Delivery calls) where
    pub end_of_lem : end_of calls lent ≡ with_end lent (file_of calls)
    end_of_lem =
        let w = delivered calls d in
        ap₂ (λ s b. called s the_end b) w.state w.buffer ∙ end_after (file_of calls)

    pub as_whole : AsWhole calls lent
    as_whole = record {
      verdict_is = verdict_is;
      too_long = λ h. ap (λ (v : Verdict). v.number) (verdict_is ∙ too_long_lem (file_of calls) h);
      never_before = (delivered calls d).quiet;
      arrived = arrived;
      ended = ap (λ o. o.answer.ended) end_of_lem;
      buffer = buffer ∙ (put_front lent (file_of calls) ∙ ap (λ n. take n (file_of calls ++ drop (length (file_of calls)) lent)) size);
      asked = λ z A ask. ap ask (front z);
      asked_or_refused = λ A refused_by answer. by_end_lem A refused_by answer (eqb (end_of calls lent).answer.number 0) refl;
    }
      where
        verdict_is : number_at (end_of calls lent).answer.number (end_of calls lent).answer.place ≡ verdict (file_of calls)
        verdict_is = ap (λ o. number_at o.answer.number o.answer.place) end_of_lem

        arrived : (end_of calls lent).answer.arrived ≡ counted (length (file_of calls))
        arrived = ap (λ o. o.answer.arrived) end_of_lem

        buffer : (end_of calls lent).buffer ≡ put_at lent 0 (file_of calls)
        buffer = ap (λ o. o.buffer) end_of_lem

        front : (end_of calls lent).answer.number ≡ 0 → take (end_of calls lent).answer.arrived (end_of calls lent).buffer ≡ file_of calls
        front z = go (leb (length (file_of calls)) 65536) refl
          where
            go : (b : Bool) → leb (length (file_of calls)) 65536 ≡ b → take (end_of calls lent).answer.arrived (end_of calls lent).buffer ≡ file_of calls
            go true e =
                let h = leb-true (length (file_of calls)) 65536 e in
                let n : counted (length (file_of calls)) ≡ length (file_of calls) = omega (arith, h) in
                ap₂ take (arrived ∙ n) buffer ∙ front_is lent (file_of calls) (omega (arith, h, size))
            go false e =
                let h = leb-false (length (file_of calls)) 65536 e in
                let n = ap (λ (v : Verdict). v.number) (verdict_is ∙ too_long_lem (file_of calls) h) in
                absurd (omega (arith, n, z))

        by_end_lem : (A : Type 0) (refused_by : Verdict → A) (answer : List ℕ → A) (b : Bool) → eqb (end_of calls lent).answer.number 0 ≡ b → by_end calls lent refused_by answer ≡ unless_refused (file_of calls) refused_by (answer (file_of calls))
        by_end_lem A refused_by answer true e =
            let z = eqb-true (end_of calls lent).answer.number 0 e in
            rw e (ap answer (front z) ∙ sym (not_refused (file_of calls) refused_by (answer (file_of calls)) (sym (ap (λ (v : Verdict). v.number) verdict_is) ∙ z)))
        by_end_lem A refused_by answer false e =
            let h = eqb-false (end_of calls lent).answer.number 0 e in
            rw e (ap refused_by verdict_is ∙ sym (file_first_lem A (file_of calls) refused_by (answer (file_of calls)) (λ z. h (ap (λ (v : Verdict). v.number) verdict_is ∙ z))))

pub cut_anywhere : CutAnywhere
cut_anywhere calls lent size d = as_whole lent size calls d

pub otherwise_cut : OtherwiseCut
otherwise_cut calls others lent size d e equal = end_of_lem lent size calls d ∙ (ap (with_end lent) equal ∙ sym (end_of_lem lent size others e))

-- ---- which runs are deliveries
pieces_deliver : (pieces : List (List ℕ)) → Delivery (map piece_call pieces) × (file_of (map piece_call pieces) ≡ joined pieces)
unfolding file_of
pieces_deliver [] = (tt, refl)
pieces_deliver (bytes ∷ pieces) = let r = pieces_deliver pieces in ((tt, r.0), ap (λ f. bytes ++ f) r.1)

refused_between : (said : Said) (its : List ℕ) → (length its ≡ 65536 → ⊥) → (before later : List Call) → Delivery (before ++ later) → let c : Call = record { said = said; lent = other its } in Delivery (before ++ (c ∷ later)) × (file_of (before ++ (c ∷ later)) ≡ file_of (before ++ later))
unfolding file_of
refused_between said its h [] later d = ((h, d), refl)
refused_between said its h (b ∷ before) later d = let r = refused_between said its h before later d.1 in ((d.0, r.0), ap (λ f. bytes_in b.lent b.said ++ f) r.1)

pub deliveries : Deliveries
deliveries = record { pieces = pieces_deliver; between = refused_between }
