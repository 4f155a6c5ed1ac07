-- A delivery that goes on with a piece is a delivery. Assumes nothing.
use Prim.Native.Nat.{ℕ, ◌+◌}
use mathlib.Core.Path.{◌≡◌, refl, ap, ap₂, sym, ◌∙◌}
use mathlib.Core.List.{List, [], ◌∷◌, ◌++◌}
use lib.ListN.{length}
use Rattle.arrival.specs.declared.Arrival.{Arrival}
use Rattle.arrival.specs.Calls.{piece, Outcome, counted, taken, answered, called}
use Rattle.arrival.specs.Runs.{Call, state_in, Run, run_of}
use Rattle.arrival.specs.Whole.{at_first, Delivery, piece_call, SoFar}
use Rattle.arrival.specs.Promise.{CallPromise}
use Rattle.arrival.proofs.Refusals.{called_open}
use Rattle.arrival.proofs.Runs.{each_call}
use Rattle.arrival.proofs.Kept.{all_kept}

Delivery-on : (calls : List Call) (bytes : List ℕ) → Delivery calls → Delivery (calls ++ (piece_call bytes ∷ []))
Delivery-on [] bytes d = (tt, tt)
Delivery-on (c ∷ calls) bytes d = (d.0, Delivery-on calls bytes d.1)

-- ---- a delivery so far
-- before the first piece
pub none_so_far : (lent : List ℕ) → SoFar lent 0 lent
unfolding run_of
none_so_far lent = record { calls = []; pieces = tt; state = refl; buffer_is = refl }

-- the buffer has kept its length
pub same_size : {lent buffer : List ℕ} {arrived : ℕ} → SoFar lent arrived buffer → length buffer ≡ length lent
same_size {lent} {buffer} {arrived} f = ap length (sym f.buffer_is) ∙ (all_kept f.calls at_first lent).same_length

module _ {lent buffer bytes after : List ℕ} {arrived : ℕ} {r : Arrival} (size : length lent ≡ 65536) (f : SoFar lent arrived buffer) (p : CallPromise (record { arrived = arrived; ended = 0 }) (piece bytes) buffer r after) where
  outcome_is : called (record { arrived = arrived; ended = 0 }) (piece bytes) buffer ≡ taken (record { arrived = arrived; ended = 0 }) bytes buffer
  unfolding answered
  outcome_is = called_open (record { arrived = arrived; ended = 0 }) buffer (piece bytes) (same_size f ∙ size) refl

  -- what a piece is counted as
  pub counted_on : r.arrived ≡ counted (arrived + length bytes)
  unfolding taken
  counted_on = ap (λ (a : Arrival). a.arrived) (p.result_is ∙ ap (λ (o : Outcome). o.answer) outcome_is)

  ended_not : r.ended ≡ 0
  unfolding taken
  ended_not = ap (λ (a : Arrival). a.ended) (p.result_is ∙ ap (λ (o : Outcome). o.answer) outcome_is)

  -- and the run behind it
  pub one_more : SoFar lent r.arrived after
  unfolding run_of
  one_more =
      let on = each_call f.calls (piece_call bytes) [] at_first lent in
      let o : called (run_of f.calls at_first lent).state (piece bytes) (run_of f.calls at_first lent).buffer ≡ called (record { arrived = arrived; ended = 0 }) (piece bytes) buffer = ap₂ (λ s b. called s (piece bytes) b) f.state f.buffer_is in
      record {
        calls = f.calls ++ (piece_call bytes ∷ []);
        pieces = Delivery-on f.calls bytes f.pieces;
        state = ap (λ (run : Run). run.state) on ∙ (ap (λ (w : Outcome). state_in w.answer) o ∙ (ap state_in (sym p.result_is) ∙ ap (λ n. record { arrived = r.arrived; ended = n }) ended_not));
        buffer_is = ap (λ (run : Run). run.buffer) on ∙ (ap (λ (w : Outcome). w.buffer) o ∙ sym p.after_is);
      }
