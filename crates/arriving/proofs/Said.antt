-- What is returned is what the call is to answer: refused by its number, or answered. Assumes nothing.
use Prim.Native.Nat.{ℕ, ◌+◌}
use mathlib.Core.Path.{◌≡◌, refl, ap, ap₂, sym, ◌∙◌}
use mathlib.Core.List.{List}
use native.Mathlib.Nat.{add-zero}
use lib.ListN.{length}
use Rattle.layout.specs.declared.Verdict.{Verdict}
use Rattle.arrival.specs.declared.State.{State}
use Rattle.arrival.specs.declared.Arrival.{Arrival}
use Rattle.arrival.specs.Calls.{Said, piece, the_end, Outcome, refusal_of, state_again, counted, put_at, taken, judged, ended_by, answered, called}
use Rattle.arrival.specs.Promise.{CallPromise, EndPromise}
use Rattle.arriving.specs.declared.CallRefusal.{CallRefusal}
use Rattle.arriving.specs.declared.CallRefusal.TheVariants.{AfterEnd, OtherLength}
use Rattle.arriving.specs.CallRefusal.{number_of}

module _ (s : State) (buffer : List ℕ) where
  pub refused_call : (said : Said) (why : CallRefusal) → number_of why ≡ refusal_of s.ended (length buffer) → {r : Arrival} → r ≡ state_again (number_of why) s → CallPromise s said buffer r buffer
  unfolding called
  refused_call said AfterEnd is p = record { result_is = p ∙ sym (rw (← is) refl); after_is = sym (rw (← is) refl) }
  refused_call said OtherLength is p = record { result_is = p ∙ sym (rw (← is) refl); after_is = sym (rw (← is) refl) }

  module _ (is : 0 ≡ refusal_of s.ended (length buffer)) where
    open_call : (said : Said) → called s said buffer ≡ answered s said buffer
    unfolding called
    open_call said = rw (← is) refl

    pub piece_taken : (bytes : List ℕ) → {count : ℕ} → count ≡ counted (s.arrived + length bytes) → {after : List ℕ} → after ≡ put_at buffer s.arrived bytes → CallPromise s (piece bytes) buffer (record { number = 0; place = 0; arrived = count; ended = 0 }) after
    unfolding answered taken
    piece_taken bytes c a = record { result_is = ap (λ n. record { number = 0; place = 0; arrived = n; ended = 0 }) c ∙ sym (ap (λ (o : Outcome). o.answer) (open_call (piece bytes))); after_is = a ∙ sym (ap (λ (o : Outcome). o.buffer) (open_call (piece bytes))) }

    pub end_said : {v : Verdict} → v ≡ judged s.arrived buffer → {count : ℕ} → count ≡ counted (s.arrived + 0) → EndPromise s buffer (record { number = v.number; place = v.place; arrived = count; ended = 1 })
    unfolding answered ended_by
    end_said {v} e {count} c =
        record {
          result_is = ap₂ (λ (w : Verdict) n. record { number = w.number; place = w.place; arrived = n; ended = 1 }) e (c ∙ ap counted (add-zero s.arrived)) ∙ sym (ap (λ (o : Outcome). o.answer) (open_call the_end));
          after_is = sym (ap (λ (o : Outcome). o.buffer) (open_call the_end));
        }
