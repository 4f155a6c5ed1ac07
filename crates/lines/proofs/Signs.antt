-- No vertex is minus on all lines, whatever their number; and the tables of corners and edges say the same from either side. Assumes nothing.
use mathlib.Core.Path.{◌≡◌, refl, sym, ap, ◌∙◌}
use mathlib.Core.Bool.{Bool, true, false, not, ◌&&◌, ◌||◌, or_assoc}
use mathlib.Core.List.{List, [], ◌∷◌, ◌++◌}
use lib.Dec.{T, eqb}
use Rattle.floats.specs.Lists.{all, any}
use Rattle.lines.specs.Lines.{three, corner_on, lower_line, upper_line, start, finish}
use Rattle.lines.specs.Parameters.{last_unseen}

any_append : {A : Type 0} (f : A → Bool) (xs ys : List A) → any f (xs ++ ys) ≡ (any f xs || any f ys)
unfolding any
any_append f [] ys = refl
any_append f (x ∷ xs) ys = ap (λ b. f x || b) (any_append f xs ys) ∙ sym (or_assoc (f x) (any f xs) (any f ys))

-- of any signs, with the last plus unseen where all others are minus, one is plus
pub some_plus : (others : List Bool) (last : Bool) → any (λ s. s) (last_unseen others last) ≡ true
unfolding last_unseen any
some_plus others last = any_append (λ s. s) others ((not (any (λ s. s) others) || last) ∷ []) ∙ go (any (λ s. s) others) last
  where
    go : (b l : Bool) → (b || ((not b || l) || false)) ≡ true
    go true l = refl
    go false l = refl

-- a plus that is seen stays a plus, and where another is plus the last is its own
pub last_seen : (others : List Bool) (last : Bool) → any (λ s. s) others ≡ true → last_unseen others last ≡ others ++ (last ∷ [])
unfolding last_unseen
last_seen others last h = rw h refl

-- the corner on a corner's two lines is that corner, and its lower line is the lower; U's edges run round
pub tables : T (all (λ k. eqb (corner_on (lower_line k) (upper_line k)) k && eqb (corner_on (upper_line k) (lower_line k)) k) three) × T (all (λ e. eqb (start e) e) three) × T (eqb (finish 0) 1 && eqb (finish 1) 2 && eqb (finish 2) 0)
unfolding all
tables = (tt, tt, tt)
