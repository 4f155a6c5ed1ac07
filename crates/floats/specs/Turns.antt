-- Tables of refusals, with rows of any kind: rows of several things in turn, the order of rows, and when a row is the first that applies. Definitions and statements.
use Rattle.std.specs.Prelude.{ℕ, zero, suc, ◌+◌, ◌<◌, ◌≡◌, ◌⊎◌, List, [], ◌∷◌}

-- of m things from number i on, each in turn: its first row, then its second
unfoldable pub in_turn : {Row : Type 0} → (ℕ → Row) → (ℕ → Row) → ℕ → ℕ → List Row
in_turn first second zero i = []
in_turn first second (suc m) i = first i ∷ second i ∷ in_turn first second m (i + 1)

module _ {Row : Type 0} (stage_of turn_of : Row → ℕ) where
  -- the order of rows: by stages, and within a stage by turns
  abbrev pub EarlierBy : Row → Row → Type 0
  EarlierBy a b = (stage_of a < stage_of b) ⊎ ((stage_of a ≡ stage_of b) × (turn_of a < turn_of b))

  -- the row applies and no earlier row does
  pub record FirstBy (Applies : Row → Type 0) (row : Row) : Type 0 where
    pub applies : Applies row
    pub none_before : (earlier : Row) → EarlierBy earlier row → Applies earlier → ⊥
