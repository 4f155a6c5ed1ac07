-- A table of refusals that is searched from its front finds the first row that applies, whatever the rows are, if the list has exactly the rows that there are, in their order. Assumes nothing.
use Prim.Native.Nat.{ℕ, zero, suc, ◌+◌, ◌*◌, ◌/◌, ◌<◌, ◌≤◌}
use mathlib.Core.Path.{◌≡◌, refl, sym, ap, subst, ◌∙◌}
use mathlib.Core.Logic.{◌⊎◌, inl, inr, ⊎_elim, ◌↔◌}
use mathlib.Core.Bool.{Bool, true, false, cond, false≢true}
use mathlib.Core.List.Memᴰ
use mathlib.Core.List.Memᴰ.{head as here}
use mathlib.Core.List.Memᴰ.{tail as there}
use mathlib.Core.List.{List, [], ◌∷◌, ◌++◌, Memᴰ}
use native.Mathlib.Omega.{arith}
use native.Mathlib.Nat.{eq-or-lt_of_le}
use lib.Dec.{T, eqb, ltb}
use borrow.Author.Tests.{eq-eqb, ne_eqb, ltb-true, ltb-false}
use Rattle.floats.specs.Turns.{in_turn, EarlierBy, FirstBy}
use Rattle.floats.proofs.First.{NoneOf, Leads}

-- ---- rows in turn
module _ {Row : Type 0} (first second : ℕ → Row) where
  pub turn_listed : (m i j : ℕ) → i ≤ j → j < i + m → Memᴰ (first j) (in_turn first second m i) × Memᴰ (second j) (in_turn first second m i)
  unfolding in_turn
  turn_listed zero i j p q = absurd (omega arith)
  turn_listed (suc m) i j p q = ⊎_elim
      (λ (e : i ≡ j). (here (ap first (sym e)), there (here (ap second (sym e)))))
      (λ (l : i < j). let w = turn_listed m (i + 1) j (omega arith) (omega arith) in (there (there w.0), there (there w.1)))
      (eq-or-lt_of_le p)

  pub turn_members : (m i : ℕ) (P : Row → Type 0) → ((j : ℕ) → i ≤ j → j < i + m → P (first j) × P (second j)) → (row : Row) → Memᴰ row (in_turn first second m i) → P row
  unfolding in_turn
  turn_members zero i P h row m = absurd (Memᴰ.not-nil m)
  turn_members (suc n) i P h row m = go (Memᴰ.cases_cons m) (turn_members n (i + 1) P (λ j p q. h j (omega arith) (omega arith)) row)
    where
      go : (row ≡ first i) ⊎ Memᴰ row (second i ∷ in_turn first second n (i + 1)) → (Memᴰ row (in_turn first second n (i + 1)) → P row) → P row
      go (inl q) rest = subst P (sym q) (h i (omega arith) (omega arith)).0
      go (inr k) rest = ⊎_elim (λ q. subst P (sym q) (h i (omega arith) (omega arith)).1) rest (Memᴰ.cases_cons k)

-- which of a thing's two rows has a turn
unfoldable pub in_pair : {Row : Type 0} → (ℕ → Row) → (ℕ → Row) → ℕ → Row
in_pair first second t = cond (eqb (2 * (t / 2)) t) (first (t / 2)) (second (t / 2))

pub pair_first : {Row : Type 0} (first second : ℕ → Row) (i : ℕ) → in_pair first second (2 * i) ≡ first i
unfolding in_pair
pair_first first second i = let q : 2 * i / 2 ≡ i = omega arith in rw (q, eq-eqb (2 * i) (2 * i) refl) refl

pub pair_second : {Row : Type 0} (first second : ℕ → Row) (i : ℕ) → in_pair first second (2 * i + 1) ≡ second i
unfolding in_pair
pair_second first second i = let q : (2 * i + 1) / 2 ≡ i = omega arith in rw (q, ne_eqb (2 * i) (2 * i + 1) (λ e. omega arith)) refl

lt_trichotomy : (m n : ℕ) → (m < n) ⊎ ((m ≡ n) ⊎ (n < m))
lt_trichotomy m n = go (ltb m n) refl
  where
    go : (b : Bool) → ltb m n ≡ b → (m < n) ⊎ ((m ≡ n) ⊎ (n < m))
    go true e = inl (ltb-true m n e)
    go false e = ⊎_elim (λ (q : n ≡ m). inr (inl (sym q))) (λ l. inr (inr l)) (eq-or-lt_of_le (ltb-false m n e))

-- ---- rows in their order
module _ {Row : Type 0} (stage_of turn_of : Row → ℕ) where
  abbrev Earlier : Row → Row → Type 0
  Earlier a b = EarlierBy stage_of turn_of a b

  -- a row comes after a stage and a turn
  abbrev After : ℕ → ℕ → Row → Type 0
  After stage turn row = (stage < stage_of row) ⊎ ((stage ≡ stage_of row) × (turn < turn_of row))

  -- each row comes before all that stand behind it
  abbrev pub Sorted : List Row → Type 0
  Sorted [] = T true
  Sorted (row ∷ behind) = ((e : Row) → Memᴰ e behind → EarlierBy stage_of turn_of row e) × Sorted behind

  -- things in turn: their stage, and the turns of both rows
  module _ (first second : ℕ → Row) (stage : ℕ) (f : (i : ℕ) → (stage_of (first i) ≡ stage) × (turn_of (first i) ≡ 2 * i)) (s : (i : ℕ) → (stage_of (second i) ≡ stage) × (turn_of (second i) ≡ 2 * i + 1)) where
    turn_After : (m i t : ℕ) → t < 2 * i → (row : Row) → Memᴰ row (in_turn first second m i) → After stage t row
    turn_After m i t l = turn_members first second m i (After stage t) (λ j p q. (inr (sym (f j).0, omega (arith, (f j).1)), inr (sym (s j).0, omega (arith, (s j).1))))

    later : (m i t : ℕ) (rest : List Row) → ((e : Row) → Memᴰ e rest → stage < stage_of e) → t < 2 * i → (row : Row) → Memᴰ row (in_turn first second m i ++ rest) → After stage t row
    later m i t rest h l row k = ⊎_elim (turn_After m i t l row) (λ w. inl (h row w)) (Memᴰ.append_cases (in_turn first second m i) k)

    as_before : (a row : Row) (t : ℕ) → stage_of a ≡ stage → turn_of a ≡ t → After stage t row → Earlier a row
    as_before a row t p q w = subst (λ x. After x (turn_of a) row) (sym p) (subst (λ x. After stage x row) (sym q) w)

    pub turn_Sorted : (m i : ℕ) (rest : List Row) → ((e : Row) → Memᴰ e rest → stage < stage_of e) → Sorted rest → Sorted (in_turn first second m i ++ rest)
    unfolding in_turn
    turn_Sorted zero i rest h srt = srt
    turn_Sorted (suc m) i rest h srt =
        let behind = later m (i + 1) (2 * i + 1) rest h (omega arith) in
        let ours : Earlier (first i) (second i) = as_before (first i) (second i) (2 * i) (f i).0 (f i).1 (inr (sym (s i).0, omega (arith, (s i).1))) in (
          (λ e k. ⊎_elim
              (λ (q : e ≡ second i). subst (Earlier (first i)) (sym q) ours)
              (λ w. as_before (first i) e (2 * i) (f i).0 (f i).1 (later m (i + 1) (2 * i) rest h (omega arith) e w))
              (Memᴰ.cases_cons k)),
          (
            (λ e k. as_before (second i) e (2 * i + 1) (s i).0 (s i).1 (behind e k)),
            turn_Sorted m (i + 1) rest h srt,
          ),
        )

    pub turn_stage : (m i : ℕ) (row : Row) → Memᴰ row (in_turn first second m i) → stage_of row ≡ stage
    turn_stage m i = turn_members first second m i (λ row. stage_of row ≡ stage) (λ j p q. ((f j).0, (s j).0))

  -- a row that stands at the front of a list or behind it comes after a stage
  pub late : (e a : Row) (m : ℕ) {behind : List Row} → m < stage_of a → Memᴰ e (a ∷ behind) → (Memᴰ e behind → m < stage_of e) → m < stage_of e
  late e a m h k rest = ⊎_elim (λ (q : e ≡ a). subst (λ r. m < stage_of r) (sym q) h) rest (Memᴰ.cases_cons k)

  -- what stands behind a row of a sorted list comes after it
  behind : (before : List Row) (row : Row) (after : List Row) → Sorted (before ++ (row ∷ after)) → (e : Row) → Memᴰ e after → Earlier row e
  behind [] row after s e k = s.0 e k
  behind (x ∷ xs) row after s e k = behind xs row after s.1 e k

  not_both : (a b : Row) → Earlier a b → Earlier b a → ⊥
  not_both a b (inl l) (inl m) = omega arith
  not_both a b (inl l) (inr m) = let q = m.0 in omega arith
  not_both a b (inr l) (inl m) = let q = l.0 in omega arith
  not_both a b (inr l) (inr m) = let p = l.1 in let q = m.1 in omega arith

  -- of two rows, which are known by their stages and turns, one comes first, or they are the same
  one_first : ((a b : Row) → stage_of a ≡ stage_of b → turn_of a ≡ turn_of b → a ≡ b) → (a b : Row) → Earlier a b ⊎ ((a ≡ b) ⊎ Earlier b a)
  one_first known a b = stages (lt_trichotomy (stage_of a) (stage_of b))
    where
      turns : stage_of a ≡ stage_of b → (turn_of a < turn_of b) ⊎ ((turn_of a ≡ turn_of b) ⊎ (turn_of b < turn_of a)) → Earlier a b ⊎ ((a ≡ b) ⊎ Earlier b a)
      turns q (inl l) = inl (inr (q, l))
      turns q (inr (inl e)) = inr (inl (known a b q e))
      turns q (inr (inr l)) = inr (inr (inr (sym q, l)))

      stages : (stage_of a < stage_of b) ⊎ ((stage_of a ≡ stage_of b) ⊎ (stage_of b < stage_of a)) → Earlier a b ⊎ ((a ≡ b) ⊎ Earlier b a)
      stages (inl l) = inl (inl l)
      stages (inr (inl q)) = turns q (lt_trichotomy (turn_of a) (turn_of b))
      stages (inr (inr l)) = inr (inr (inl l))

  pub only_first : ((a b : Row) → stage_of a ≡ stage_of b → turn_of a ≡ turn_of b → a ≡ b) → {Applies : Row → Type 0} (a b : Row) → FirstBy stage_of turn_of Applies a → FirstBy stage_of turn_of Applies b → a ≡ b
  only_first known a b p q = ⊎_elim (λ l. absurd (q.none_before a l p.applies)) (λ w. ⊎_elim (λ e. e) (λ l. absurd (p.none_before b l q.applies)) w) (one_first known a b)

  -- ---- a list of rows that has exactly those that there are, in their order; a row applies if there is one and its test holds
  module _ {Exists Applies : Row → Type 0} (test : Row → Bool) (rows : List Row) (told : (row : Row) → (Exists row × (test row ≡ true)) ↔ Applies row) (listed : (row : Row) → Exists row → Memᴰ row rows) where
    fails : (row : Row) → test row ≡ false → Applies row → ⊥
    fails row e a = false≢true (sym e ∙ ((told row).1 a).1)

    pub no_row : NoneOf test rows → (row : Row) → Applies row → ⊥
    no_row n row a = fails row (n row (listed row ((told row).1 a).0)) a

    pub first_row : ((row : Row) → Memᴰ row rows → Exists row) → Sorted rows → (r : Leads test rows) → FirstBy stage_of turn_of Applies r.one
    first_row exists sorted r = record { applies = (told r.one).0 (exists r.one (rw r.split (mid r.before)), r.holding); none_before = earlier }
      where
        mid : (before : List Row) → Memᴰ r.one (before ++ (r.one ∷ r.after))
        mid [] = here refl
        mid (x ∷ xs) = there (mid xs)

        place : (e : Row) → Earlier e r.one → Applies e → Memᴰ e r.before ⊎ Memᴰ e (r.one ∷ r.after) → ⊥
        place e b a (inl k) = fails e (r.none e k) a
        place e b a (inr k) = ⊎_elim
            (λ (q : e ≡ r.one). let same = subst (λ x. Earlier x r.one) q b in not_both r.one r.one same same)
            (λ w. not_both e r.one b (behind r.before r.one r.after (subst Sorted r.split sorted) e w))
            (Memᴰ.cases_cons k)

        earlier : (e : Row) → Earlier e r.one → Applies e → ⊥
        earlier e b a = place e b a (Memᴰ.append_cases r.before (subst (Memᴰ e) r.split (listed e ((told e).1 a).0)))
