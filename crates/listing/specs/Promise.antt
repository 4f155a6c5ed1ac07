-- What the writer of the list promises of its result and of the lent room, for all bytes and all rooms, and demands 1 and 2 of the list, read off the promise. Statements only.
use Rattle.std.specs.Prelude.{ℕ, ◌<◌, ◌≤◌, ◌≡◌, ◌⊎◌, ◌↔◌, List, length, take, drop}
use Rattle.layout.specs.Verdict.{verdict}
use Rattle.layout.specs.Layout.{Layout}
use Rattle.listing.specs.declared.Listed.{Listed}
use Rattle.listing.specs.Leaks.{leaks, touching, tested, formerly_held_back}
use Rattle.listing.specs.Words.{list_text, refused_line}
use Rattle.listing.specs.Listing.{list_of, output_of}
use Rattle.listing.specs.Demand.{ListDemand2}

pub record ListPromise (file room : List ℕ) (result : Listed) (after : List ℕ) : Type 0 where
  pub result_is : result ≡ (list_of file room).result
  pub after_is : after ≡ (list_of file room).room

-- no second result and no second room meets it
abbrev pub NoSecondList : Type 0
NoSecondList = (file room : List ℕ) (r s : Listed) (a b : List ℕ) → ListPromise file room r a → ListPromise file room s b → (r ≡ s) × (a ≡ b)

pub record ListDemand1 (file room : List ℕ) (result : Listed) (after : List ℕ) : Type 0 where
  -- a refused file answers with its own number and place, whatever the room
  pub file_first : ((verdict file).number ≡ 0 → ⊥) → (result.number ≡ (verdict file).number) × (result.place ≡ (verdict file).place)
  -- 7 exactly if the file is good and the room shorter than the whole list; an answer exactly if the file is good and the list fits
  pub too_short : (result.number ≡ 7) ↔ (Layout file × (length room < length (list_text file)))
  pub answered : (result.number ≡ 0) ↔ (Layout file × (length (list_text file) ≤ length room))
  pub no_place : (result.number ≡ 0) ⊎ (result.number ≡ 7) → result.place ≡ 0
  -- the numbers are 7 and 11 to 18, and with a refusal come zeros and the room as it was
  pub numbers : (result.number ≡ 0 → ⊥) → (result.number ≡ 7) ⊎ ((11 ≤ result.number) × (result.number ≤ 18))
  pub zeros : (result.number ≡ 0 → ⊥) → (result.length ≡ 0) × (result.leaks ≡ 0) × (result.touching ≡ 0) × (result.tested ≡ 0) × (result.formerly_held_back ≡ 0) × (after ≡ room)
  -- refused or not: the room keeps its length, and what lies behind the list
  pub same_length : length after ≡ length room
  pub rest : drop result.length after ≡ drop result.length room

abbrev pub ListReturnedOne : Type 0
ListReturnedOne = (file room : List ℕ) (result : Listed) (after : List ℕ) → ListPromise file room result after → ListDemand1 file room result after

-- of an answer: the front of the room is the list, of which all of demand 2 holds
pub record Written (file : List ℕ) (result : Listed) (after : List ℕ) : Type 0 where
  pub length_is : result.length ≡ length (list_text file)
  pub leaks_is : result.leaks ≡ length (leaks file)
  pub touching_is : result.touching ≡ touching file
  pub tested_is : result.tested ≡ tested file
  pub formerly_is : result.formerly_held_back ≡ formerly_held_back file
  pub text : take result.length after ≡ list_text file
  pub demand : ListDemand2 file

abbrev pub ListReturnedTwo : Type 0
ListReturnedTwo = (file room : List ℕ) (result : Listed) (after : List ℕ) → ListPromise file room result after → result.number ≡ 0 → Written file result after

-- what the program is promised to write: of a good file the list, of any other the line with its refusal
pub record Output (file : List ℕ) : Type 0 where
  pub good : Layout file → output_of file ≡ list_text file
  pub refused : (Layout file → ⊥) → output_of file ≡ refused_line (verdict file)

abbrev pub Outputs : Type 0
Outputs = (file : List ℕ) → Output file
