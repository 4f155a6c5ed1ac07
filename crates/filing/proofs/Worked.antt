-- The lists worked by hand come out so: one computed test over them, and what it says of each. Assumes nothing.
use Prim.Native.Nat.{ℕ}
use mathlib.Core.Path.{refl}
use mathlib.Core.Bool.{Bool, ◌&&◌}
use mathlib.Core.List.{List, Memᴰ}
use lib.Dec.{T, eqb, eqb→eq}
use lib.ListN.{replicate}
use lib.Ieee.Fits.{and_l, and_r}
use Rattle.floats.specs.Lists.{all}
use Rattle.floats.proofs.Lists.{all_at, same_list, same_list_lem}
use Rattle.text.proofs.Saying.{same_written, same_written_lem}
use Rattle.filing.specs.Written.{written}
use Rattle.layout.specs.Recordings.{recording_of}
use Rattle.filing.specs.Taken.{listed, taken_from}
use Rattle.filing.specs.Worked.{Case, Shown, again, cases, TakenFromExample, TakenFromSecond}

same_bytes : List ℕ → List ℕ → Bool
unfolding same_list
same_bytes = same_list eqb

right : Case → Bool
unfolding same_written same_bytes written
right c = same_written (written c.given (replicate c.room 46)).result c.says && same_bytes (written c.given (replicate c.room 46)).room c.after

all_right : T (all right cases)
unfolding all right listed again
all_right = tt

-- each comes out as it was worked
pub worked : (c : Case) → Memᴰ c cases → Shown c
unfolding right same_bytes
worked c m =
    let t = all_at right cases all_right m in
    let w = written c.given (replicate c.room 46) in
    let A = same_written w.result c.says in
    let B = same_bytes w.room c.after in
    record { says = same_written_lem w.result c.says (and_l A B t); after = same_list_lem eqb eqb→eq w.room c.after (and_r A B t) }

pub taken_from_example : TakenFromExample
unfolding taken_from recording_of
taken_from_example = refl

pub taken_from_second : TakenFromSecond
unfolding taken_from recording_of
taken_from_second = refl
