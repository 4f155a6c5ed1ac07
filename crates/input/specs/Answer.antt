-- 01, "The leak list", and 02: what a program writes, of the bytes that arrived. What is to be said of a file's bytes is `says`; of one that is refused that is a `line` by its number and place. Definitions and statements.
use Rattle.std.specs.Prelude.{ℕ, ◌<◌, ◌≤◌, min, ◌≡◌, true, cond, List, [], ◌++◌, eqb, ℤ, length, take}
use Rattle.text.specs.Room.{Put}
use Rattle.layout.specs.Verdict.{number_at, verdict}
use Rattle.layout.specs.declared.Verdict.{Verdict}
use Rattle.layout.specs.Recordings.{unless_refused}
use Rattle.listing.specs.Words.{refused_line}
use Rattle.arrival.specs.declared.Arrival.{Arrival}
use Rattle.arrival.specs.Calls.{the_end, counted, called}
use Rattle.arrival.specs.Whole.{file_of}
use Rattle.input.specs.declared.Got.{Got}
use Rattle.input.specs.declared.Piece.{Piece}
use Rattle.input.specs.declared.Piece.TheVariants.{Ended, More}
use Rattle.input.specs.declared.Reply.{Reply}
use Rattle.input.specs.Reading.{Moved, piece_of, is_read, Gathered}

-- of a read of at most so many bytes: some answer that read may give, as it is to be taken
abbrev pub Took : ℕ → Piece → Type 0
Took most t = (got : ℤ) × Moved most got × (t ≡ piece_of most got)

-- a text is put at the front of a room that has room for it; so it stands there whole, n is its length, and the rest stays (`PutsWhole`)
pub record AtFront (text room : List ℕ) (n : ℕ) (after : List ℕ) : Type 0 where
  pub put : Put room 0 text after n
  pub fits : length text ≤ length room

-- no second length and no second room meets it
abbrev pub NoSecondFront : Type 0
NoSecondFront = (text room a b : List ℕ) (m n : ℕ) → AtFront text room m a → AtFront text room n b → (m ≡ n) × (a ≡ b)

-- ---- what is said, by what was read
module _ (line : Verdict → List ℕ) (says : List ℕ → List ℕ) where
  -- by what the end answered: the line of its refusal, or what is to be said of the file at the buffer's front
  abbrev pub said_by : Arrival → List ℕ → List ℕ
  said_by a buffer = cond (eqb a.number 0) (says (take a.arrived buffer)) (line (number_at a.number a.place))

  -- the end is said where the reading has not failed; else nothing is said
  abbrev pub output_for : Got → List ℕ → List ℕ
  output_for g buffer = cond (is_read g.last) (said_by (called (record { arrived = g.arrived; ended = 0 }) the_end buffer).answer buffer) []

  -- what is to be said of a refused file is its line
  abbrev pub ByRefusal : Type 0
  ByRefusal = (file : List ℕ) → ((verdict file).number ≡ 0 → ⊥) → says file ≡ line (verdict file)

-- what a command says of any file: of a good one its answer, of any other the line of its refusal
abbrev pub said_of : (List ℕ → List ℕ) → List ℕ → List ℕ
said_of answers file = unless_refused file refused_line (answers file)

-- ---- the input
-- what is trusted of the reads, and of the lines that call them: the bytes in the buffer are the input's, from its first on, as many as the count tells, or as the buffer has; the input has as many; and where a read says that it has ended, there are no more
pub record Delivered (got : Got) (buffer input : List ℕ) : Type 0 where
  pub bytes : take got.arrived buffer ≡ take (min got.arrived 65536) input
  pub count : got.arrived ≤ length input
  pub ended : got.last ≡ Ended → got.arrived ≡ counted (length input)

-- it can be met: of an input that ends within the buffer, and of one that is longer
pub record Deliverable : Type 0 where
  pub short : (input rest : List ℕ) → length input ≤ 65536 → Delivered (record { arrived = length input; last = Ended }) (input ++ rest) input
  pub long : (buffer rest : List ℕ) (k : ℕ) → length buffer ≡ 65536 → 0 < length rest → Delivered (record { arrived = 65537; last = More k }) buffer (buffer ++ rest)

-- what is promised of the reply to an input: its reading left what a run of pieces leaves, in a buffer that can be lent for one; what is to be said of the file that these pieces make up stands at the front of the room, or nothing if a read failed; and if the input was delivered, that is what is to be said of the whole of it
pub record Replied (says : List ℕ → List ℕ) (lent room : List ℕ) (r : Reply) (buffer after : List ℕ) : Type 0 where
  pub size : length lent ≡ 65536
  pub gathered : Gathered lent r.got buffer
  pub said : AtFront (cond (is_read r.got.last) (says (file_of gathered.so_far.calls)) []) room r.n after
  pub whole : is_read r.got.last ≡ true → (input : List ℕ) → Delivered r.got buffer input → take r.n after ≡ says input
