-- 02, No. 7: what is returned and written when the list is asked for of an old file, and of the same file with every 2 stored as 0. Statements only.
use Rattle.std.specs.Prelude.{ℕ, ◌≡◌, List, ◌++◌, take}
use Rattle.layout.specs.Layout.{Layout}
use Rattle.listing.specs.declared.Listed.{Listed}
use Rattle.listing.specs.Words.{formerly_line}
use Rattle.listing.specs.Promise.{ListPromise}
use Rattle.moving.specs.Moved.{moved}

pub record SameAnswer (old new : Listed) (old_room new_room : List ℕ) : Type 0 where
  -- the same counts, but for the last one, which is 0 of the new file
  pub same_leaks : new.leaks ≡ old.leaks
  pub same_touching : new.touching ≡ old.touching
  pub same_tested : new.tested ≡ old.tested
  pub none_any_more : new.formerly_held_back ≡ 0
  -- the same text, but for its last line, which has the last count
  pub same_text : (front : List ℕ) × (take old.length old_room ≡ front ++ formerly_line old.formerly_held_back) × (take new.length new_room ≡ front ++ formerly_line 0)

-- asked for in any two rooms that hold them
abbrev pub SameAnswers : Type 0
SameAnswers = (file room other : List ℕ) (old new : Listed) (old_room new_room : List ℕ) → Layout file → ListPromise file room old old_room → ListPromise (moved file) other new new_room → old.number ≡ 0 → new.number ≡ 0 → SameAnswer old new old_room new_room
