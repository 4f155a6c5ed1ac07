-- The runs worked by hand, call by call. Assumes nothing.
use Prim.Native.Nat.{ℕ, ◌+◌, ◌-◌, ◌<◌, ◌≤◌}
use mathlib.Core.Path.{◌≡◌, refl, ap, subst, ◌∙◌}
use mathlib.Core.List.Memᴰ.{head as here}
use mathlib.Core.List.Memᴰ.{tail as there}
use mathlib.Core.List.{List, [], ◌∷◌, ◌++◌, map}
use native.Mathlib.Omega.{arith}
use lib.ListN.{length, take, drop}
use Rattle.layout.specs.Verdict.{number_at, verdict}
use Rattle.layout.specs.declared.Verdict.{Verdict}
use Rattle.layout.specs.Worked.{v, u, seven, nine, trailer, pair_of, on_a_line, example, answered_file}
use Rattle.layout.proofs.Worked.{worked}
use Rattle.arrival.specs.declared.State.{State}
use Rattle.arrival.specs.declared.Arrival.{Arrival}
use Rattle.arrival.specs.Calls.{Said, piece, the_end, Outcome, counted, put_at, taken, ended_by, answered, refused_by, called}
use Rattle.arrival.specs.Runs.{same, Call, lent_by, left_by, state_in, run_of}
use Rattle.arrival.specs.Whole.{at_first}
use Rattle.arrival.specs.Worked.{brings, ends, elsewhere, state_of, answer, answers_of, night, night_says, AllShown, WrongBuffer}
use Rattle.arrival.proofs.Put.{put_length, put_nothing, put_past, put_full, put_beyond, front_is}
use Rattle.arrival.proofs.Refusals.{called_other, called-ended, called_open}
use Rattle.arrival.proofs.Returned.{judged_long, end_is}
use Rattle.arrival.proofs.Runs.{run_first, after_file, with_piece, with_end, next_piece, end_after}

pub wrong_buffer : WrongBuffer
unfolding called
wrong_buffer = (refl, refl)

-- ---- what the calls of a run answer, and the buffer that they leave, by the first of them and the rest
record Says (calls : List Call) (s : State) (buffer : List ℕ) (answers : List Arrival) (after : List ℕ) : Type 0 where
  answers_are : answers_of calls s buffer ≡ answers
  after_is : (run_of calls s buffer).buffer ≡ after

none : (s : State) (buffer : List ℕ) → Says [] s buffer [] buffer
unfolding run_of
none s buffer = record { answers_are = refl; after_is = refl }

by_first : (c : Call) (calls : List Call) (s : State) (buffer : List ℕ) (o : Outcome) → called s c.said (lent_by c.lent buffer) ≡ o → {answers : List Arrival} {after : List ℕ} → Says calls (state_in o.answer) (left_by c.lent o.buffer buffer) answers after → Says (c ∷ calls) s buffer (o.answer ∷ answers) after
by_first c calls s buffer o e r =
    let f = run_first c calls s buffer o e in
    record { answers_are = ap (λ run. map (λ (w : Outcome). w.answer) run.outcomes) f ∙ ap (λ a. o.answer ∷ a) r.answers_are; after_is = ap (λ run. run.buffer) f ∙ r.after_is }

-- with another buffer
elsewhere_then : (said : Said) (its : List ℕ) (calls : List Call) (s : State) (buffer : List ℕ) → (length its ≡ 65536 → ⊥) → {answers : List Arrival} {after : List ℕ} → Says calls s buffer answers after → Says (elsewhere said its ∷ calls) s buffer (answer 23 0 s.arrived s.ended ∷ answers) after
elsewhere_then said its calls s buffer h r = by_first (elsewhere said its) calls s buffer (refused_by 23 s its) (called_other s its said h) r

-- behind the end
over_then : (said : Said) (calls : List Call) (s : State) (buffer : List ℕ) → length buffer ≡ 65536 → (s.ended ≡ 0 → ⊥) → {answers : List Arrival} {after : List ℕ} → Says calls s buffer answers after → Says (record { said = said; lent = same } ∷ calls) s buffer (answer 22 0 s.arrived s.ended ∷ answers) after
over_then said calls s buffer l h r = by_first (record { said = said; lent = same }) calls s buffer (refused_by 22 s buffer) (called-ended s buffer said l h) r

module _ (lent : List ℕ) (size : length lent ≡ 65536) where
  -- a piece, and the end, of a file of which so much has come
  piece_then : (file bytes : List ℕ) (calls : List Call) {answers : List Arrival} {after : List ℕ} → Says calls (after_file (file ++ bytes)) (put_at lent 0 (file ++ bytes)) answers after → Says (brings bytes ∷ calls) (after_file file) (put_at lent 0 file) (answer 0 0 (counted (length (file ++ bytes))) 0 ∷ answers) after
  piece_then file bytes calls r = by_first (brings bytes) calls (after_file file) (put_at lent 0 file) (with_piece lent (file ++ bytes)) (next_piece lent size file bytes) r

  end_then : (file : List ℕ) (w : Verdict) → verdict file ≡ w → (calls : List Call) {answers : List Arrival} {after : List ℕ} → Says calls (state_of (counted (length file)) 1) (put_at lent 0 file) answers after → Says (ends ∷ calls) (after_file file) (put_at lent 0 file) (answer w.number w.place (counted (length file)) 1 ∷ answers) after
  end_then file w e calls {answers} {after} r =
      subst (λ (x : Verdict). Says (ends ∷ calls) (after_file file) (put_at lent 0 file) (answer x.number x.place (counted (length file)) 1 ∷ answers) after) e
      (by_first ends calls (after_file file) (put_at lent 0 file) (with_end lent file) (end_after lent size file) r)

  put_size : (file : List ℕ) → length (put_at lent 0 file) ≡ 65536
  put_size file = put_length lent 0 file ∙ size

  -- from the first state on, before anything has been put
  from_first : (calls : List Call) {answers : List Arrival} {after : List ℕ} → Says calls (after_file []) (put_at lent 0 []) answers after → Says calls at_first lent answers after
  from_first calls {answers} {after} r = subst (λ b. Says calls at_first b answers after) (put_nothing lent) r

  -- ---- the example
  good_example : verdict example ≡ number_at 0 0
  good_example = (worked (answered_file example 0 7 0 1 0 v) (there (here refl))).file_says

  night_says_lem : Says night at_first lent night_says (put_at lent 0 example)
  night_says_lem = from_first night
      (piece_then [] v _
      (piece_then v [] _
      (elsewhere_then the_end [] _ (after_file v) (put_at lent 0 v) (λ e. omega (arith, e))
      (elsewhere_then (piece (1 ∷ [])) (1 ∷ 2 ∷ 3 ∷ []) _ (after_file v) (put_at lent 0 v) (λ e. omega (arith, e))
      (piece_then v (u ++ (seven ++ (nine ++ trailer 48 2 84))) _
      (end_then example (number_at 0 0) good_example _
      (over_then the_end _ (state_of 84 1) (put_at lent 0 example) (put_size example) (λ e. omega (arith, e))
      (over_then (piece []) _ (state_of 84 1) (put_at lent 0 example) (put_size example) (λ e. omega (arith, e))
      (over_then (piece (1 ∷ [])) _ (state_of 84 1) (put_at lent 0 example) (put_size example) (λ e. omega (arith, e))
      (elsewhere_then the_end [] _ (state_of 84 1) (put_at lent 0 example) (λ e. omega (arith, e)) (none (state_of 84 1) (put_at lent 0 example))))))))))))

  -- ---- files that are refused
  cut_verdict : verdict (v ++ (u ++ seven)) ≡ number_at 12 0
  unfolding verdict
  cut_verdict = refl

  placed_verdict : verdict (pair_of v on_a_line seven nine) ≡ number_at 18 24
  unfolding verdict
  placed_verdict = refl

  empty_verdict : verdict [] ≡ number_at 11 0
  unfolding verdict
  empty_verdict = refl

  cut_says : answers_of (brings v ∷ brings (u ++ seven) ∷ ends ∷ brings (nine ++ trailer 48 2 84) ∷ []) at_first lent ≡ answer 0 0 24 0 ∷ answer 0 0 60 0 ∷ answer 12 0 60 1 ∷ answer 22 0 60 1 ∷ []
  cut_says =
      let file = v ++ (u ++ seven) in
      (from_first _ (piece_then [] v _ (piece_then v (u ++ seven) _ (end_then file (number_at 12 0) cut_verdict _ (over_then (piece (nine ++ trailer 48 2 84)) _ (state_of 60 1) (put_at lent 0 file) (put_size file) (λ e. omega (arith, e)) (none (state_of 60 1) (put_at lent 0 file))))))).answers_are

  placed_says : answers_of (brings v ∷ brings (on_a_line ++ (seven ++ (nine ++ trailer 48 2 84))) ∷ ends ∷ []) at_first lent ≡ answer 0 0 24 0 ∷ answer 0 0 84 0 ∷ answer 18 24 84 1 ∷ []
  placed_says =
      let file = pair_of v on_a_line seven nine in
      (from_first _ (piece_then [] v _ (piece_then v (on_a_line ++ (seven ++ (nine ++ trailer 48 2 84))) _ (end_then file (number_at 18 24) placed_verdict _ (none (state_of 84 1) (put_at lent 0 file)))))).answers_are

  empty_Says : Says (ends ∷ []) (after_file []) (put_at lent 0 []) (answer 11 0 0 1 ∷ []) (put_at lent 0 [])
  empty_Says = end_then [] (number_at 11 0) empty_verdict [] (none (state_of 0 1) (put_at lent 0 []))

  -- ---- states that no call made, and the buffer's last bytes
  takes : (a : ℕ) (bytes : List ℕ) → called (state_of a 0) (piece bytes) lent ≡ record { answer = answer 0 0 (counted (a + length bytes)) 0; buffer = put_at lent a bytes }
  unfolding answered taken
  takes a bytes = called_open (state_of a 0) lent (piece bytes) size refl

  full : (a : ℕ) (bytes : List ℕ) → a ≤ 65536 → 65536 ≤ a + length bytes → put_at lent a bytes ≡ take a lent ++ take (65536 - a) bytes
  full a bytes h g = put_full lent a bytes (omega (arith, h, size)) (omega (arith, g, size)) ∙ ap (λ n. take a lent ++ take (n - a) bytes) size

  past : (a : ℕ) (bytes : List ℕ) → 65536 ≤ a → called (state_of a 0) (piece bytes) lent ≡ record { answer = answer 0 0 (counted (a + length bytes)) 0; buffer = lent }
  past a bytes h = takes a bytes ∙ ap (λ b. record { answer = answer 0 0 (counted (a + length bytes)) 0; buffer = b }) (put_past lent a bytes (omega (arith, h, size)))

  end_past : (a : ℕ) → 65536 < a → called (state_of a 0) the_end lent ≡ record { answer = answer 11 0 (counted a) 1; buffer = lent }
  unfolding ended_by
  end_past a h = end_is (state_of a 0) lent size refl ∙ ap (λ (w : Verdict). record { answer = answer w.number w.place (counted a) 1; buffer = lent }) (judged_long a lent h)

  -- a piece and the end, of more than a file may have
  past_says : (a : ℕ) (bytes : List ℕ) → 65537 ≤ a → answers_of (brings bytes ∷ ends ∷ []) (state_of a 0) lent ≡ answer 0 0 (counted (a + length bytes)) 0 ∷ answer 11 0 (counted (counted (a + length bytes))) 1 ∷ []
  past_says a bytes h =
      (by_first (brings bytes) (ends ∷ []) (state_of a 0) lent _ (past a bytes (omega (arith, h)))
      (by_first ends [] (state_of (counted (a + length bytes)) 0) lent _ (end_past (counted (a + length bytes)) (omega (arith, h))) (none (state_of (counted (counted (a + length bytes))) 1) lent))).answers_are

pub all_shown : AllShown
all_shown lent size = record {
  in_pieces = (night_says_lem lent size).answers_are;
  front = ap (take 84) (night_says_lem lent size).after_is ∙ front_is lent example (omega (arith, size));
  behind = ap (drop 84) (night_says_lem lent size).after_is ∙ put_beyond lent 0 example;
  cut_off = cut_says lent size;
  placed = placed_says lent size;
  nothing = (from_first lent size _ (empty_Says lent size)).answers_are;
  empty_only = (from_first lent size _ (piece_then lent size [] [] _ (empty_Says lent size))).answers_are;
  other_ends = (over_then (piece []) _ (state_of 3 256) lent size (λ e. omega (arith, e)) (over_then the_end _ (state_of 3 256) lent size (λ e. omega (arith, e)) (none (state_of 3 256) lent))).answers_are;
  filled = takes lent size 65534 (7 ∷ 8 ∷ []) ∙ ap (λ b. record { answer = answer 0 0 65536 0; buffer = b }) (full lent size 65534 (7 ∷ 8 ∷ []) (omega arith) (omega arith));
  one_past = takes lent size 65535 (7 ∷ 8 ∷ []) ∙ ap (λ b. record { answer = answer 0 0 65537 0; buffer = b }) (full lent size 65535 (7 ∷ 8 ∷ []) (omega arith) (omega arith));
  all_past = past lent size 65536 (7 ∷ 8 ∷ []) (omega arith);
  too_many = past_says lent size 65537 [] (omega arith);
  forged = past_says lent size 4294967295 (7 ∷ []) (omega arith);
  forged_end = end_past lent size 4294967295 (omega arith);
}
