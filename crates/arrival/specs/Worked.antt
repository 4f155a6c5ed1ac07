-- Runs worked by hand, whatever the lent buffer of 65,536 bytes holds: 01's example in pieces, files that are refused, states that no call made, and the last bytes of the buffer. Definitions and statements.
use Rattle.std.specs.Prelude.{ℕ, ◌≡◌, List, [], ◌∷◌, ◌++◌, map, length, take, drop}
use Rattle.layout.specs.Worked.{v, u, seven, nine, trailer, on_a_line, example}
use Rattle.arrival.specs.Calls.{Said, piece, the_end, Outcome, called}
use Rattle.arrival.specs.Runs.{same, other, Call, run_of}
use Rattle.arrival.specs.Whole.{at_first}
use Rattle.arrival.specs.declared.State.{State}
use Rattle.arrival.specs.declared.Arrival.{Arrival}

-- ---- calls, states and answers
abbrev pub brings : List ℕ → Call
brings bytes = record { said = piece bytes; lent = same }

abbrev pub ends : Call
ends = record { said = the_end; lent = same }

-- a call with another buffer
abbrev pub elsewhere : Said → List ℕ → Call
elsewhere said its = record { said = said; lent = other its }

abbrev pub state_of : ℕ → ℕ → State
state_of arrived ended = record { arrived = arrived; ended = ended }

abbrev pub answer : ℕ → ℕ → ℕ → ℕ → Arrival
answer number place arrived ended = record { number = number; place = place; arrived = arrived; ended = ended }

-- what the calls of a run answer
abbrev pub answers_of : List Call → State → List ℕ → List Arrival
answers_of calls s lent = map (λ (o : Outcome). o.answer) (run_of calls s lent).outcomes

-- ---- the example's 84 bytes in three pieces, one of them empty, and what comes behind its end
abbrev pub night : List Call
night =
    brings v
    ∷ brings []
    ∷ elsewhere the_end []
    ∷ elsewhere (piece (1 ∷ [])) (1 ∷ 2 ∷ 3 ∷ [])
    ∷ brings (u ++ (seven ++ (nine ++ trailer 48 2 84)))
    ∷ ends
    ∷ ends
    ∷ brings []
    ∷ brings (1 ∷ [])
    ∷ elsewhere the_end []
    ∷ []

abbrev pub night_says : List Arrival
night_says =
    answer 0 0 24 0
    ∷ answer 0 0 24 0
    ∷ answer 23 0 24 0
    ∷ answer 23 0 24 0
    ∷ answer 0 0 84 0
    ∷ answer 0 0 84 1
    ∷ answer 22 0 84 1
    ∷ answer 22 0 84 1
    ∷ answer 22 0 84 1
    ∷ answer 23 0 84 1
    ∷ []

pub record Shown (lent : List ℕ) : Type 0 where
  pub in_pieces : answers_of night at_first lent ≡ night_says
  -- the buffer has the file, and behind it what was lent
  pub front : take 84 (run_of night at_first lent).buffer ≡ example
  pub behind : drop 84 (run_of night at_first lent).buffer ≡ drop 84 lent
  -- cut off after 60 bytes: 12, and the rest is not taken any more
  pub cut_off : answers_of (brings v ∷ brings (u ++ seven) ∷ ends ∷ brings (nine ++ trailer 48 2 84) ∷ []) at_first lent ≡ answer 0 0 24 0 ∷ answer 0 0 60 0 ∷ answer 12 0 60 1 ∷ answer 22 0 60 1 ∷ []
  -- a triangle without an area at 24: its place is that in the file, not in a piece
  pub placed : answers_of (brings v ∷ brings (on_a_line ++ (seven ++ (nine ++ trailer 48 2 84))) ∷ ends ∷ []) at_first lent ≡ answer 0 0 24 0 ∷ answer 0 0 84 0 ∷ answer 18 24 84 1 ∷ []
  -- nothing has come, or no more than an empty piece
  pub nothing : answers_of (ends ∷ []) at_first lent ≡ answer 11 0 0 1 ∷ []
  pub empty_only : answers_of (brings [] ∷ ends ∷ []) at_first lent ≡ answer 0 0 0 0 ∷ answer 11 0 0 1 ∷ []
  -- ended is any number but 0, and comes back as it is
  pub other_ends : answers_of (brings [] ∷ ends ∷ []) (state_of 3 256) lent ≡ answer 22 0 3 256 ∷ answer 22 0 3 256 ∷ []
  -- two bytes more fill the buffer; one too many is dropped; and then every one
  pub filled : called (state_of 65534 0) (piece (7 ∷ 8 ∷ [])) lent ≡ record { answer = answer 0 0 65536 0; buffer = take 65534 lent ++ (7 ∷ 8 ∷ []) }
  pub one_past : called (state_of 65535 0) (piece (7 ∷ 8 ∷ [])) lent ≡ record { answer = answer 0 0 65537 0; buffer = take 65535 lent ++ (7 ∷ []) }
  pub all_past : called (state_of 65536 0) (piece (7 ∷ 8 ∷ [])) lent ≡ record { answer = answer 0 0 65537 0; buffer = lent }
  pub too_many : answers_of (brings [] ∷ ends ∷ []) (state_of 65537 0) lent ≡ answer 0 0 65537 0 ∷ answer 11 0 65537 1 ∷ []
  -- more than any call counts
  pub forged : answers_of (brings (7 ∷ []) ∷ ends ∷ []) (state_of 4294967295 0) lent ≡ answer 0 0 65537 0 ∷ answer 11 0 65537 1 ∷ []
  pub forged_end : called (state_of 4294967295 0) the_end lent ≡ record { answer = answer 11 0 65537 1; buffer = lent }

abbrev pub AllShown : Type 0
AllShown = (lent : List ℕ) → length lent ≡ 65536 → Shown lent

-- a buffer of another length, whatever else
abbrev pub WrongBuffer : Type 0
WrongBuffer = ((called (state_of 5 0) the_end []).answer ≡ answer 23 0 5 0) × (called (state_of 5 7) (piece []) (1 ∷ 2 ∷ []) ≡ record { answer = answer 23 0 5 7; buffer = 1 ∷ 2 ∷ [] })
