-- Whatever is called, the buffer keeps what had arrived and what lies beyond, and what has arrived only grows; once the end was said nothing changes any more. Assumes nothing.
use Prim.Native.Nat.{ℕ, ◌+◌, ◌-◌, ◌≤◌}
use mathlib.Core.Path.{◌≡◌, refl, ap, sym, subst, ◌∙◌}
use mathlib.Core.Bool.{Bool, true, false}
use mathlib.Core.Logic.{◌⊎◌, inl, inr}
use mathlib.Core.List.Memᴰ
use mathlib.Core.List.{List, [], ◌∷◌, Memᴰ}
use native.Mathlib.Omega.{arith}
use native.Mathlib.Nat.{add-zero}
use lib.Dec.{eqb, leb}
use lib.ListN.{length, take, drop, drop_of_length-le}
use lib.Seq.{take_all, take-take, drop-drop}
use borrow.Author.Tests.{eqb-true, eqb-false, leb-true, leb-false}
use Rattle.arrival.specs.declared.State.{State}
use Rattle.arrival.specs.Calls.{Said, piece, the_end, Outcome, counted, taken, ended_by, answered, refused_by, called}
use Rattle.arrival.specs.Runs.{Lent, same, other, Call, lent_by, left_by, state_in, Run, run_of}
use Rattle.arrival.specs.Whole.{Kept, AllKept, OverOnceEnded}
use Rattle.arrival.proofs.Refusals.{Kind, other_buffer, after_end, goes_on, kind, called_other, called-ended, called_open}
use Rattle.arrival.proofs.Returned.{calls_returned}
use Rattle.arrival.proofs.Runs.{run_first, each}

-- from one state and buffer to another
record Goes (s : State) (b : List ℕ) (t : State) (c : List ℕ) : Type 0 where
  same_length : length c ≡ length b
  before : take s.arrived c ≡ take s.arrived b
  beyond : drop t.arrived c ≡ drop t.arrived b
  -- what has arrived grows; a count above 65,537 that no call made may shrink, but not below what fills a buffer
  grows : (s.arrived ≤ t.arrived) ⊎ (65536 ≤ t.arrived)

stays : (s : State) (b : List ℕ) → Goes s b s b
stays s b = record { same_length = refl; before = refl; beyond = refl; grows = inl (omega arith) }

-- beyond a later place
drop_later : (b c : List ℕ) (m n : ℕ) → m ≤ n → drop m c ≡ drop m b → drop n c ≡ drop n b
drop_later b c m n h e =
    let k : m + (n - m) ≡ n = omega (arith, h) in
    ap (λ i. drop i c) (sym k) ∙ (sym (drop-drop (n - m) m c) ∙ (ap (drop (n - m)) e ∙ (drop-drop (n - m) m b ∙ ap (λ i. drop i b) k)))

-- before an earlier place
take_earlier : (b c : List ℕ) (m n : ℕ) → m ≤ n → take n c ≡ take n b → take m c ≡ take m b
take_earlier b c m n h e = sym (take-take m n c h) ∙ (ap (take m) e ∙ take-take m n b h)

module _ {s t u : State} {b c d : List ℕ} (size : length b ≡ 65536) (f : Goes s b t c) (g : Goes t c u d) where
  both : Goes s b u d
  both = record { same_length = g.same_length ∙ f.same_length; before = before f.grows; beyond = g.beyond ∙ beyond g.grows; grows = grows f.grows g.grows }
    where
      before : (s.arrived ≤ t.arrived) ⊎ (65536 ≤ t.arrived) → take s.arrived d ≡ take s.arrived b
      before (inl h) = take_earlier c d s.arrived t.arrived h g.before ∙ f.before
      before (inr h) =
          let l = f.same_length in
          let m = g.same_length in
          ap (take s.arrived) (sym (take_all t.arrived d (omega (arith, h, l, m, size))) ∙ (g.before ∙ take_all t.arrived c (omega (arith, h, l, size)))) ∙ f.before

      beyond : (t.arrived ≤ u.arrived) ⊎ (65536 ≤ u.arrived) → drop u.arrived c ≡ drop u.arrived b
      beyond (inl h) = drop_later b c t.arrived u.arrived h f.beyond
      beyond (inr h) = let l = f.same_length in drop_of_length-le c {i = u.arrived} (omega (arith, h, l, size)) ∙ sym (drop_of_length-le b {i = u.arrived} (omega (arith, h, size)))

      grows : (s.arrived ≤ t.arrived) ⊎ (65536 ≤ t.arrived) → (t.arrived ≤ u.arrived) ⊎ (65536 ≤ u.arrived) → (s.arrived ≤ u.arrived) ⊎ (65536 ≤ u.arrived)
      grows (inl h) (inl k) = inl (omega (arith, h, k))
      grows (inr h) (inl k) = inr (omega (arith, h, k))
      grows h (inr k) = inr k

-- ---- a call
grown : (a m : ℕ) → (a ≤ counted (a + m)) ⊎ (65536 ≤ counted (a + m))
grown a m = go (leb a 65537) refl
  where
    go : (w : Bool) → leb a 65537 ≡ w → (a ≤ counted (a + m)) ⊎ (65536 ≤ counted (a + m))
    go true e = let h = leb-true a 65537 e in inl (omega (arith, h))
    go false e = let h = leb-false a 65537 e in inr (omega (arith, h))

answered_grows : (s : State) (said : Said) (b : List ℕ) → (s.arrived ≤ (answered s said b).answer.arrived) ⊎ (65536 ≤ (answered s said b).answer.arrived)
unfolding answered taken ended_by
answered_grows s (piece bytes) b = grown s.arrived (length bytes)
answered_grows s the_end b = subst (λ n. (s.arrived ≤ counted n) ⊎ (65536 ≤ counted n)) (add-zero s.arrived) (grown s.arrived 0)

module _ (s : State) (said : Said) (b : List ℕ) where
  call_grows : (s.arrived ≤ (called s said b).answer.arrived) ⊎ (65536 ≤ (called s said b).answer.arrived)
  call_grows = go (kind s b)
    where
      go : Kind s b → (s.arrived ≤ (called s said b).answer.arrived) ⊎ (65536 ≤ (called s said b).answer.arrived)
      go (other_buffer h) = let n = ap (λ o. o.answer.arrived) (called_other s b said h) in inl (omega (arith, n))
      go (after_end l h) = let n = ap (λ o. o.answer.arrived) (called-ended s b said l h) in inl (omega (arith, n))
      go (goes_on l h) = subst (λ o. (s.arrived ≤ o.answer.arrived) ⊎ (65536 ≤ o.answer.arrived)) (sym (called_open s b said l h)) (answered_grows s said b)

  call_Goes : Goes s b (state_in (called s said b).answer) (called s said b).buffer
  call_Goes =
      let k = calls_returned.call s said b (called s said b).answer (called s said b).buffer (record { result_is = refl; after_is = refl }) in
      record { same_length = k.same_length; before = k.before; beyond = k.beyond; grows = call_grows }

-- with another buffer the run's own stays
lent_goes : (l : Lent) (s : State) (said : Said) (b : List ℕ) → Goes s b (state_in (called s said (lent_by l b)).answer) (left_by l (called s said (lent_by l b)).buffer b)
lent_goes same s said b = call_Goes s said b
lent_goes (other its) s said b = record { same_length = refl; before = refl; beyond = refl; grows = call_grows s said its }

-- ---- a run
run_Goes : (calls : List Call) (s : State) (b : List ℕ) → length b ≡ 65536 → Goes s b (run_of calls s b).state (run_of calls s b).buffer
unfolding run_of
run_Goes [] s b size = stays s b
run_Goes (c ∷ calls) s b size =
    let f = lent_goes c.lent s c.said b in
    let t = state_in (called s c.said (lent_by c.lent b)).answer in
    let m = left_by c.lent (called s c.said (lent_by c.lent b)).buffer b in
    both size f (run_Goes calls t m (f.same_length ∙ size))

-- a buffer of another length stays as it is
other_left : (l : Lent) (s : State) (said : Said) (b : List ℕ) → (length b ≡ 65536 → ⊥) → left_by l (called s said (lent_by l b)).buffer b ≡ b
other_left same s said b h = ap (λ o. o.buffer) (called_other s b said h)
other_left (other its) s said b h = refl

other_stays : (calls : List Call) (s : State) (b : List ℕ) → (length b ≡ 65536 → ⊥) → (run_of calls s b).buffer ≡ b
unfolding run_of
other_stays [] s b h = refl
other_stays (c ∷ calls) s b h =
    let t = state_in (called s c.said (lent_by c.lent b)).answer in
    ap (λ w. (run_of calls t w).buffer) (other_left c.lent s c.said b h) ∙ other_stays calls t b h

pub all_kept : AllKept
all_kept calls s lent = go (eqb (length lent) 65536) refl
  where
    go : (w : Bool) → eqb (length lent) 65536 ≡ w → Kept calls s lent
    go true e = let g = run_Goes calls s lent (eqb-true (length lent) 65536 e) in record { same_length = g.same_length; before = g.before; beyond = g.beyond }
    go false e =
        let g = other_stays calls s lent (eqb-false (length lent) 65536 e) in
        record { same_length = ap length g; before = ap (take s.arrived) g; beyond = ap (drop (run_of calls s lent).state.arrived) g }

-- ---- once the end was said
module _ (s : State) (ended : s.ended ≡ 0 → ⊥) where
  -- by 23 or by 22
  ended_call : (said : Said) (b : List ℕ) → ((number : ℕ) × (called s said b ≡ refused_by number s b) × ((number ≡ 22) ⊎ (number ≡ 23)))
  ended_call said b = go (kind s b)
    where
      go : Kind s b → ((number : ℕ) × (called s said b ≡ refused_by number s b) × ((number ≡ 22) ⊎ (number ≡ 23)))
      go (other_buffer h) = (23, called_other s b said h, inr refl)
      go (after_end l h) = (22, called-ended s b said l h, inl refl)
      go (goes_on l h) = absurd (ended h)

  left_as_was : (l : Lent) (b : List ℕ) → left_by l (lent_by l b) b ≡ b
  left_as_was same b = refl
  left_as_was (other its) b = refl

  -- a run in which nothing changes
  record Still (lent : List ℕ) (run : Run) : Type 0 where
    state : run.state ≡ s
    buffer : run.buffer ≡ lent
    refused : (o : Outcome) → Memᴰ o run.outcomes → (o.answer.number ≡ 22) ⊎ (o.answer.number ≡ 23)

  still : (calls : List Call) (lent : List ℕ) → Still lent (run_of calls s lent)
  unfolding run_of
  still [] lent = record { state = refl; buffer = refl; refused = λ o m. absurd (Memᴰ.not-nil m) }
  still (c ∷ calls) lent =
      let k = ended_call c.said (lent_by c.lent lent) in
      let rest = subst (λ b. Still lent (run_of calls s b)) (sym (left_as_was c.lent lent)) (still calls lent) in
      subst (Still lent) (sym (run_first c calls s lent (refused_by k.0 s (lent_by c.lent lent)) k.1))
      (record { state = rest.state; buffer = rest.buffer; refused = each {P = λ o. (o.answer.number ≡ 22) ⊎ (o.answer.number ≡ 23)} k.2 rest.refused })

pub over_once_ended : OverOnceEnded
over_once_ended calls s lent ended = let k = still s ended calls lent in record { state = k.state; buffer = k.buffer; refused = k.refused }
