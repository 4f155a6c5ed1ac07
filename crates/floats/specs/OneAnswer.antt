-- 01, "How much a promise has to say": a promise is met by one answer only. Statements only.
use Rattle.std.specs.Prelude.{◌≡◌}

-- no second answer meets the promise
abbrev pub NoSecond : (A : Type 0) → (A → Type 0) → Type 0
NoSecond A Promised = (a b : A) → Promised a → Promised b → a ≡ b

-- whatever is answered, a number, a struct, an enum or a list: a promise that says what the answer equals, `it`, is met by no second one, alone or with more said of it beside
pub record EquationsFix : Type 1 where
  pub alone : (A : Type 0) (it : A) → NoSecond A (λ a. a ≡ it)
  pub with_more : (A : Type 0) (it : A) (More : A → Type 0) → NoSecond A (λ a. (a ≡ it) × More a)
  -- and of a result and lent memory afterwards, where it says what both equal
  pub both : (A B : Type 0) (it : A) (left : B) (More : A → B → Type 0) → NoSecond (A × B) (λ p. (p.0 ≡ it) × (p.1 ≡ left) × More p.0 p.1)
