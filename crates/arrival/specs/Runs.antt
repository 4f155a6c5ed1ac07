-- 02, No. 9: a run is a list of calls, pieces and ends in any order, with any buffers, from any state on. What each call answers, the state and the buffer afterwards. Definitions and a statement.
use Rattle.std.specs.Prelude.{ℕ, ◌≡◌, List, [], ◌∷◌, ◌++◌}
use Rattle.arrival.specs.Calls.{Said, Outcome, called}
use Rattle.arrival.specs.declared.State.{State}
use Rattle.arrival.specs.declared.Arrival.{Arrival}

-- the buffer that a call is lent: that of the run, as the calls before left it, or some other one
pub data Lent : Type 0 where
  same : Lent
  other : List ℕ → Lent

pub record Call : Type 0 where
  pub said : Said
  pub lent : Lent

abbrev pub lent_by : Lent → List ℕ → List ℕ
lent_by same buffer = buffer
lent_by (other its) buffer = its

-- the run's buffer behind a call that left the buffer it was lent so; another one is none of the run's
abbrev pub left_by : Lent → List ℕ → List ℕ → List ℕ
left_by same after buffer = after
left_by (other its) after buffer = buffer

-- the state that is handed in next
abbrev pub state_in : Arrival → State
state_in a = record { arrived = a.arrived; ended = a.ended }

pub record Run : Type 0 where
  pub outcomes : List Outcome
  pub state : State
  pub buffer : List ℕ

unfoldable pub run_of : List Call → State → List ℕ → Run
unfolding called
run_of [] s buffer = record { outcomes = []; state = s; buffer = buffer }
run_of (c ∷ calls) s buffer =
    let o = called s c.said (lent_by c.lent buffer) in
    let rest = run_of calls (state_in o.answer) (left_by c.lent o.buffer buffer) in
    record { outcomes = o ∷ rest.outcomes; state = rest.state; buffer = rest.buffer }

-- each call of a run is answered, and leaves the buffer that it was lent, as by itself in the state that the calls before it led to; and the calls behind it go on from the state that it answers
abbrev pub EachCall : Type 0
EachCall = (before : List Call) (c : Call) (later : List Call) (s : State) (lent : List ℕ) →
    let run = run_of before s lent in
    let o = called run.state c.said (lent_by c.lent run.buffer) in
    let rest = run_of later (state_in o.answer) (left_by c.lent o.buffer run.buffer) in
    run_of (before ++ (c ∷ later)) s lent ≡ record { outcomes = run.outcomes ++ (o ∷ rest.outcomes); state = rest.state; buffer = rest.buffer }
