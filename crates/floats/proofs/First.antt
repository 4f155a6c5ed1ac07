-- The first of a list that passes a test, if one does, and the value of a function that goes along the list and stops there. Assumes nothing.
use mathlib.Core.Path.{◌≡◌, refl, ap, ◌∙◌}
use mathlib.Core.Logic.{◌⊎◌, inl, inr, ⊎_elim}
use mathlib.Core.Bool.{Bool, true, false, cond}
use mathlib.Core.List.Memᴰ
use mathlib.Core.List.Memᴰ.{head as here}
use mathlib.Core.List.Memᴰ.{tail as there}
use mathlib.Core.List.{List, [], ◌∷◌, ◌++◌, Memᴰ}

module _ {A : Type 0} (f : A → Bool) where
  abbrev pub NoneOf : List A → Type 0
  NoneOf list = (x : A) → Memᴰ x list → f x ≡ false

  -- one passes, and none before it
  pub record Leads (list : List A) : Type 0 where
    pub before : List A
    pub one : A
    pub after : List A
    pub split : list ≡ before ++ (one ∷ after)
    pub holding : f one ≡ true
    pub none : NoneOf before

  none_more : (x : A) (list : List A) → f x ≡ false → NoneOf list → NoneOf (x ∷ list)
  none_more x list e n y m = ⊎_elim (λ (q : y ≡ x). ap f q ∙ e) (n y) (Memᴰ.cases_cons m)

  pub search_first : (list : List A) → NoneOf list ⊎ Leads list
  search_first [] = inl (λ x m. absurd (Memᴰ.not-nil m))
  search_first (x ∷ list) = go (f x) refl (search_first list)
    where
      go : (b : Bool) → f x ≡ b → NoneOf list ⊎ Leads list → NoneOf (x ∷ list) ⊎ Leads (x ∷ list)
      go true e rest = inr (record { before = []; one = x; after = list; split = refl; holding = e; none = λ y m. absurd (Memᴰ.not-nil m) })
      go false e (inl n) = inl (none_more x list e n)
      go false e (inr l) = inr (record { before = x ∷ l.before; one = l.one; after = l.after; split = ap (x ∷◌) l.split; holding = l.holding; none = none_more x l.before e l.none })

  module _ {B : Type 0} (value : A → B) (end : B) (first : List A → B) (nil : first [] ≡ end) (cons : (x : A) (list : List A) → first (x ∷ list) ≡ cond (f x) (value x) (first list)) where
    pub none_found : (list : List A) → NoneOf list → first list ≡ end
    none_found [] n = nil
    none_found (x ∷ list) n = cons x list ∙ rw (n x (here refl)) (none_found list (λ y m. n y (there m)))

    past : (before rest : List A) → NoneOf before → first (before ++ rest) ≡ first rest
    past [] rest n = refl
    past (x ∷ before) rest n = cons x (before ++ rest) ∙ rw (n x (here refl)) (past before rest (λ y m. n y (there m)))

    pub found : {list : List A} (l : Leads list) → first list ≡ value l.one
    found l = ap first l.split ∙ (past l.before (l.one ∷ l.after) l.none ∙ (cons l.one l.after ∙ rw l.holding refl))
