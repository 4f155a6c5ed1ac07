-- 02, No. 9: a file arrives in pieces. What one call answers, and the buffer afterwards, whatever the state and the buffer that are handed in. Definitions only.
use Rattle.std.specs.Prelude.{ℕ, ◌+◌, min, Bool, not, cond, List, ◌++◌, eqb, ltb, length, take, drop}
use Rattle.layout.specs.Verdict.{number_at, verdict}
use Rattle.layout.specs.declared.Verdict.{Verdict}
use Rattle.arrival.specs.declared.State.{State}
use Rattle.arrival.specs.declared.Arrival.{Arrival}

-- what the sender says: a piece of the file, which may have no bytes, or that the file ends
pub data Said : Type 0 where
  piece : List ℕ → Said
  the_end : Said

-- what a call answers, and the lent buffer afterwards
pub record Outcome : Type 0 where
  pub answer : Arrival
  pub buffer : List ℕ

-- ---- refusals
-- the lent buffer has another length than 65,536
abbrev pub is_other_length : ℕ → Bool
is_other_length size = not (eqb size 65536)

-- the end was said: by any number but 0
abbrev pub is_ended : ℕ → Bool
is_ended ended = not (eqb ended 0)

-- by whether the end was said, and by the buffer's length: 23 is tested first, then 22; 0 where neither is said
unfoldable pub refusal_of : ℕ → ℕ → ℕ
refusal_of ended size = cond (is_other_length size) 23 (cond (is_ended ended) 22 0)

-- they change nothing: the state comes back as it was handed in, and the buffer is as it was
abbrev pub state_again : ℕ → State → Arrival
state_again number s = record { number = number; place = 0; arrived = s.arrived; ended = s.ended }

abbrev pub refused_by : ℕ → State → List ℕ → Outcome
refused_by number s buffer = record { answer = state_again number s; buffer = buffer }

-- ---- a piece
-- so many bytes have arrived; 65,537 stands for more than a file may have
abbrev pub counted : ℕ → ℕ
counted n = min n 65537

-- the buffer with bytes in it from a place on: what lies before them and behind them stays, and what would lie past the buffer is dropped
unfoldable pub put_at : List ℕ → ℕ → List ℕ → List ℕ
put_at buffer at bytes = take (length buffer) (take at buffer ++ (bytes ++ drop (at + length bytes) buffer))

-- it goes behind what has arrived, and nothing is said against it
unfoldable pub taken : State → List ℕ → List ℕ → Outcome
unfolding put_at
taken s bytes buffer = record { answer = record { number = 0; place = 0; arrived = counted (s.arrived + length bytes); ended = 0 }; buffer = put_at buffer s.arrived bytes }

-- ---- the end
-- what is said of the file: that of the bytes that have arrived, or 11 at 0 if these are more than a file may have
unfoldable pub judged : ℕ → List ℕ → Verdict
unfolding verdict
judged arrived buffer = cond (ltb 65536 arrived) (number_at 11 0) (verdict (take arrived buffer))

-- it is answered, and the buffer stays as it is
unfoldable pub ended_by : State → List ℕ → Outcome
unfolding judged
ended_by s buffer = let v = judged s.arrived buffer in record { answer = record { number = v.number; place = v.place; arrived = counted s.arrived; ended = 1 }; buffer = buffer }

-- ---- a call
unfoldable pub answered : State → Said → List ℕ → Outcome
unfolding taken ended_by
answered s (piece bytes) buffer = taken s bytes buffer
answered s the_end buffer = ended_by s buffer

unfoldable pub called : State → Said → List ℕ → Outcome
unfolding refusal_of answered
called s said buffer = let number = refusal_of s.ended (length buffer) in cond (eqb number 0) (answered s said buffer) (refused_by number s buffer)
