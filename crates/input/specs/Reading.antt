-- 01, "The leak list", and 02, No. 9: how a program reads a file on standard input, as it arrives. Definitions and statements.
use Rattle.std.specs.Prelude.{ℕ, ◌<◌, ◌≤◌, min, ◌≡◌, Bool, true, false, cond, List, eqb, length, ℤ, pos, negsuc}
use Rattle.arrival.specs.Whole.{SoFar}
use Rattle.input.specs.declared.Got.{Got}
use Rattle.input.specs.declared.Piece.{Piece}
use Rattle.input.specs.declared.Piece.TheVariants.{Failed, Ended, More}

-- what a read of at most n bytes may answer, as a number: −1, or how many bytes it moved, at most n
abbrev pub Moved : ℕ → ℤ → Type 0
Moved n (pos k) = k ≤ n
Moved n (negsuc k) = k ≡ 0

-- a read that did not fail: no bytes are the end of the input
abbrev pub came : ℕ → Piece
came k = cond (eqb k 0) Ended (More k)

-- the answer of a read of at most so many bytes: a negative number is a failure, any other says how many bytes came
abbrev pub piece_of : ℕ → ℤ → Piece
piece_of most (negsuc k) = Failed
piece_of most (pos k) = came (min k most)

-- what was read may be answered, unless the last read failed
abbrev pub is_read : Piece → Bool
is_read Failed = false
is_read Ended = true
is_read (More k) = true

-- where a read brought bytes, there are some, and no more than were asked for
abbrev pub MoreWithin : Type 0
MoreWithin = (most : ℕ) (got : ℤ) (k : ℕ) → piece_of most got ≡ More k → (0 < k) × (k ≤ most)

-- what is promised of the reading of a file: the count and the buffer are those of some run of pieces from the first state on (that these are what the reads brought is trusted: `Delivered`); the buffer has the length that it must have, unless the reading failed; and it stopped where a read failed, where the input ended, or where more had arrived than a file may have
pub record Gathered (lent : List ℕ) (got : Got) (buffer : List ℕ) : Type 0 where
  pub so_far : SoFar lent got.arrived buffer
  pub size : is_read got.last ≡ true → length lent ≡ 65536
  pub too_many : (k : ℕ) → got.last ≡ More k → 65536 < got.arrived
