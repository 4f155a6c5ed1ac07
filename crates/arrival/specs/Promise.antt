-- What a piece and an end promise of their answer and of the lent buffer, for all states, bytes and buffers; and what was returned, fact by fact, read off the promise. Statements only.
use Rattle.std.specs.Prelude.{ℕ, ◌+◌, ◌-◌, ◌<◌, ◌≤◌, ◌≡◌, ◌⊎◌, ◌↔◌, List, length, take, drop}
use Rattle.layout.specs.Verdict.{number_at, verdict}
use Rattle.arrival.specs.Calls.{Said, piece, the_end, counted, called}
use Rattle.arrival.specs.Runs.{state_in}
use Rattle.arrival.specs.declared.State.{State}
use Rattle.arrival.specs.declared.Arrival.{Arrival}

-- of a call that may write to the buffer, and of one that may not
pub record CallPromise (s : State) (said : Said) (buffer : List ℕ) (result : Arrival) (after : List ℕ) : Type 0 where
  pub result_is : result ≡ (called s said buffer).answer
  pub after_is : after ≡ (called s said buffer).buffer

abbrev pub EndPromise : State → List ℕ → Arrival → Type 0
EndPromise s buffer result = CallPromise s the_end buffer result buffer

-- no second answer and no second buffer meets it
abbrev pub NoSecondCall : Type 0
NoSecondCall = (s : State) (said : Said) (buffer : List ℕ) (r t : Arrival) (a b : List ℕ) → CallPromise s said buffer r a → CallPromise s said buffer t b → (r ≡ t) × (a ≡ b)

-- it can be met with the buffer as it was, by an end
abbrev pub EndWritesNothing : Type 0
EndWritesNothing = (s : State) (buffer : List ℕ) → (called s the_end buffer).buffer ≡ buffer

-- ---- of any call
pub record CallDemand (s : State) (said : Said) (buffer : List ℕ) (result : Arrival) (after : List ℕ) : Type 0 where
  -- 23 exactly if the buffer has another length than 65,536, whatever else; 22 exactly if it has that length and the end was said
  pub other_buffer : (result.number ≡ 23) ↔ (length buffer ≡ 65536 → ⊥)
  pub after_end : (result.number ≡ 22) ↔ ((length buffer ≡ 65536) × (s.ended ≡ 0 → ⊥))
  -- they change nothing
  pub nothing_changed : (result.number ≡ 22) ⊎ (result.number ≡ 23) → (result.place ≡ 0) × (state_in result ≡ s) × (after ≡ buffer)
  -- the buffer keeps its length, the bytes that had arrived, and those beyond what has arrived now
  pub same_length : length after ≡ length buffer
  pub before : take s.arrived after ≡ take s.arrived buffer
  pub beyond : drop result.arrived after ≡ drop result.arrived buffer

-- ---- of a piece
pub record PieceDemand (s : State) (bytes buffer : List ℕ) (result : Arrival) (after : List ℕ) : Type 0 where
  -- nothing is said of the file before its end
  pub numbers : (result.number ≡ 0) ⊎ ((result.number ≡ 22) ⊎ (result.number ≡ 23))
  pub no_place : result.place ≡ 0
  -- its bytes are counted, and the end is not said by it
  pub count : result.number ≡ 0 → (result.arrived ≡ counted (s.arrived + length bytes)) × (result.ended ≡ 0)
  -- where there is space for it, it stands behind what had arrived; where not, as much of its front as there is space for
  pub whole : result.number ≡ 0 → s.arrived + length bytes ≤ 65536 → take (length bytes) (drop s.arrived after) ≡ bytes
  pub front : result.number ≡ 0 → 65536 < s.arrived + length bytes → drop s.arrived after ≡ take (65536 - s.arrived) bytes

-- ---- of an end
pub record EndDemand (s : State) (buffer : List ℕ) (result : Arrival) : Type 0 where
  -- what is said of the bytes that have arrived, and 11 at 0 if these are more than a file may have
  pub judged : length buffer ≡ 65536 → s.ended ≡ 0 → s.arrived ≤ 65536 → (number_at result.number result.place ≡ verdict (take s.arrived buffer)) × (result.arrived ≡ s.arrived)
  pub too_long : length buffer ≡ 65536 → s.ended ≡ 0 → 65536 < s.arrived → (number_at result.number result.place ≡ number_at 11 0) × (result.arrived ≡ 65537)
  -- and the end was said, whatever was said of the file
  pub ended : length buffer ≡ 65536 → s.ended ≡ 0 → result.ended ≡ 1

pub record CallsReturned : Type 0 where
  pub call : (s : State) (said : Said) (buffer : List ℕ) (result : Arrival) (after : List ℕ) → CallPromise s said buffer result after → CallDemand s said buffer result after
  pub piece : (s : State) (bytes buffer : List ℕ) (result : Arrival) (after : List ℕ) → CallPromise s (piece bytes) buffer result after → PieceDemand s bytes buffer result after
  pub end : (s : State) (buffer : List ℕ) (result : Arrival) → EndPromise s buffer result → EndDemand s buffer result
