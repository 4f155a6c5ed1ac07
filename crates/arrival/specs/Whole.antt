-- 02, No. 9: cut anywhere, a file is answered as if it had been handed over whole; and what a run leaves as it was. Definitions and statements.
use Rattle.std.specs.Prelude.{ℕ, ◌<◌, ◌≡◌, ◌⊎◌, cond, eqb, length, take, drop}
use mathlib.Core.List.{List, [], ◌∷◌, ◌++◌, map, Memᴰ}
use Rattle.layout.specs.Verdict.{number_at, verdict}
use Rattle.layout.specs.Recordings.{unless_refused}
use Rattle.layout.specs.declared.Verdict.{Verdict}
use Rattle.arrival.specs.Calls.{Said, piece, the_end, Outcome, counted, called}
use Rattle.arrival.specs.Runs.{Lent, same, other, Call, run_of}
use Rattle.arrival.specs.declared.State.{State}

-- ---- a delivery
-- the state at first
abbrev pub at_first : State
at_first = record { arrived = 0; ended = 0 }

-- before the end there are pieces for the run's buffer; calls with a buffer of another length may stand between them
abbrev pub Delivers : Lent → Said → Type 0
Delivers same (piece bytes) = Unit {0}
Delivers same the_end = ⊥
Delivers (other its) said = length its ≡ 65536 → ⊥

abbrev pub Delivery : List Call → Type 0
Delivery [] = Unit {0}
Delivery (c ∷ calls) = Delivers c.lent c.said × Delivery calls

-- the bytes that a call brings: those of a piece for the run's buffer
abbrev pub bytes_in : Lent → Said → List ℕ
bytes_in same (piece bytes) = bytes
bytes_in same the_end = []
bytes_in (other its) said = []

-- the file: these bytes, one after the other
unfoldable pub file_of : List Call → List ℕ
file_of [] = []
file_of (c ∷ calls) = bytes_in c.lent c.said ++ file_of calls

-- any pieces, empty ones among them, are a delivery of the bytes that they have one after the other
abbrev pub piece_call : List ℕ → Call
piece_call bytes = record { said = piece bytes; lent = same }

abbrev pub joined : List (List ℕ) → List ℕ
joined [] = []
joined (bytes ∷ pieces) = bytes ++ joined pieces

pub record Deliveries : Type 0 where
  pub pieces : (pieces : List (List ℕ)) → Delivery (map piece_call pieces) × (file_of (map piece_call pieces) ≡ joined pieces)
  -- and a call with a buffer of another length may stand anywhere in one, and brings nothing
  pub between : (said : Said) (its : List ℕ) → (length its ≡ 65536 → ⊥) → (before later : List Call) → Delivery (before ++ later) → let c : Call = record { said = said; lent = other its } in Delivery (before ++ (c ∷ later)) × (file_of (before ++ (c ∷ later)) ≡ file_of (before ++ later))

-- some delivery has led to this count and this buffer, before its end
pub record SoFar (lent : List ℕ) (arrived : ℕ) (buffer : List ℕ) : Type 0 where
  pub calls : List Call
  pub pieces : Delivery calls
  pub state : (run_of calls at_first lent).state ≡ record { arrived = arrived; ended = 0 }
  pub buffer_is : (run_of calls at_first lent).buffer ≡ buffer

-- what the end answers behind these calls
abbrev pub end_of : List Call → List ℕ → Outcome
end_of calls lent = let run = run_of calls at_first lent in called run.state the_end run.buffer

-- what is answered by who goes by that: of the buffer's front, or by the refusal
abbrev pub by_end : {A : Type 0} → List Call → List ℕ → (Verdict → A) → (List ℕ → A) → A
by_end calls lent refused_by answer = let o = end_of calls lent in let a = o.answer in cond (eqb a.number 0) (answer (take a.arrived o.buffer)) (refused_by (number_at a.number a.place))

-- ---- cut anywhere, into any number of pieces, empty ones among them
pub record AsWhole (calls : List Call) (lent : List ℕ) : Type 1 where
  -- refusal and place are those of the whole file
  pub verdict_is : number_at (end_of calls lent).answer.number (end_of calls lent).answer.place ≡ verdict (file_of calls)
  -- a total above 65,536 is 11 at the end, and before it no call says anything of the file
  pub too_long : 65536 < length (file_of calls) → (end_of calls lent).answer.number ≡ 11
  pub never_before : (o : Outcome) → Memᴰ o (run_of calls at_first lent).outcomes → (o.answer.number ≡ 0) ⊎ (o.answer.number ≡ 23)
  -- the count, and that the end was said
  pub arrived : (end_of calls lent).answer.arrived ≡ counted (length (file_of calls))
  pub ended : (end_of calls lent).answer.ended ≡ 1
  -- the buffer has the file's first 65,536 bytes, and behind the file what was lent
  pub buffer : (end_of calls lent).buffer ≡ take 65536 (file_of calls ++ drop (length (file_of calls)) lent)
  -- so after an end that says nothing against the file, its front is the file, for whatever is asked of it then
  pub asked : (end_of calls lent).answer.number ≡ 0 → (A : Type 0) (ask : List ℕ → A) → ask (take (end_of calls lent).answer.arrived (end_of calls lent).buffer) ≡ ask (file_of calls)
  -- and whatever is asked of a file is answered alike, if who asks goes by the end: asks then, or takes its refusal for the answer
  pub asked_or_refused : (A : Type 0) (refused_by : Verdict → A) (answer : List ℕ → A) → by_end calls lent refused_by answer ≡ unless_refused (file_of calls) refused_by (answer (file_of calls))

abbrev pub CutAnywhere : Type 1
CutAnywhere = (calls : List Call) (lent : List ℕ) → length lent ≡ 65536 → Delivery calls → AsWhole calls lent

-- the same file in other pieces, one alone among them: the same end, in every field and every byte of the buffer
abbrev pub OtherwiseCut : Type 0
OtherwiseCut = (calls others : List Call) (lent : List ℕ) → length lent ≡ 65536 → Delivery calls → Delivery others → file_of calls ≡ file_of others → end_of calls lent ≡ end_of others lent

-- ---- what a run leaves as it was, whatever is called in it and from whatever state it begins
pub record Kept (calls : List Call) (s : State) (lent : List ℕ) : Type 0 where
  pub same_length : length (run_of calls s lent).buffer ≡ length lent
  -- bytes beyond what has arrived
  pub beyond : drop (run_of calls s lent).state.arrived (run_of calls s lent).buffer ≡ drop (run_of calls s lent).state.arrived lent
  -- and those that had arrived before it
  pub before : take s.arrived (run_of calls s lent).buffer ≡ take s.arrived lent

abbrev pub AllKept : Type 0
AllKept = (calls : List Call) (s : State) (lent : List ℕ) → Kept calls s lent

-- once the end was said, all is as it was, and every call is refused
pub record Over (calls : List Call) (s : State) (lent : List ℕ) : Type 0 where
  pub state : (run_of calls s lent).state ≡ s
  pub buffer : (run_of calls s lent).buffer ≡ lent
  pub refused : (o : Outcome) → Memᴰ o (run_of calls s lent).outcomes → (o.answer.number ≡ 22) ⊎ (o.answer.number ≡ 23)

abbrev pub OverOnceEnded : Type 0
OverOnceEnded = (calls : List Call) (s : State) (lent : List ℕ) → (s.ended ≡ 0 → ⊥) → Over calls s lent
