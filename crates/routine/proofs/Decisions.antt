-- An answer that keeps the promise, in a room of noughts, gives the definition's decision, where the pair is not far; where it is, that is apart. Two shapes that were made ready give what the triangle rules decide. Assumes nothing.
use mathlib.Core.Path.{◌≡◌, refl, sym, ap, subst, ◌∙◌}
use mathlib.Core.Logic.{inl}
use mathlib.Core.Bool.{Bool, true, false, cond}
use mathlib.Core.List.{List}
use native.Mathlib.Omega.{arith}
use Prim.Native.Nat.{ℕ}
use lib.ListN.{length}
use lib.Ieee.{Float}
use Rattle.triangles.specs.declared.Answer.{Answer}
use Rattle.triangles.specs.declared.Decision.{Decision}
use Rattle.triangles.specs.declared.Decision.TheVariants.{Refused, Apart}
use Rattle.triangles.specs.Answers.{refusal}
use Rattle.triangles.specs.Promise.{PairPromise}
use Rattle.triangles.specs.declared.Said.{Said}
use Rattle.triangles.specs.Decision.{enough, decided, by_rules, said, Decided, SaidOf}
use Rattle.triangles.proofs.Decided.{boxes_first, Decided-as}
use Rattle.front.specs.declared.Refusal.{Refusal}
use Rattle.front.specs.declared.Refusal.TheVariants.{Lengths, NotFinite, FlatV, Overflow, FlatU}
use Rattle.front.specs.Front.{far_by, beyond_by, number}
use Rattle.front.proofs.Boxes.{is_far, not_far}
use Rattle.shapes.specs.declared.Shape.{Shape}
use Rattle.shapes.specs.Shapes.{twelve}
use Rattle.front.specs.declared.Start.{Start}
use Rattle.routine.specs.Code.{Outcome, outcome_refused, settled_by, found_by, start_by, rules_by, RulesOfMade}
use Rattle.routine.proofs.Entry.{lengths_kept}
use Rattle.routine.proofs.Kept.{found_Keeps}
use Rattle.routine.proofs.Shapes.{shapes_give}

ruled : (l : List Float) {a : Answer} {after : List Float} {r : Decision} → PairPromise l enough a after → r ≡ decided a → r ≡ by_rules l
unfolding by_rules
ruled l h e = e ∙ ap decided h.result_is

-- ---- of a list of values, by the code's test for far pairs
module _ (l : List Float) {b : Bool} (hb : b ≡ far_by l) where
  pub decision_far : b ≡ true → Decided l Apart
  decision_far h = Decided-as l (sym ((boxes_first l).far ((is_far l).0 (sym hb ∙ h))))

  pub decision_is : b ≡ false → {a : Answer} {after : List Float} {r : Decision} → PairPromise l enough a after → r ≡ decided a → Decided l r
  decision_is h p e = Decided-as l (ruled l p e ∙ sym ((boxes_first l).near (not_far l (sym hb ∙ h))))

  -- a list of another length
  pub decision_short : b ≡ false → (length l ≡ 12 → ⊥) → {k : ℕ} → k ≡ 1 → Decided l (Refused k)
  unfolding decided
  decision_short h n e = subst (λ k. Decided l (Refused k)) (sym e) (decision_is h (lengths_kept l enough refl (inl n)) refl)

-- in numbers
pub said_is : (l : List Float) {d : Decision} {r : Said} → Decided l d → r ≡ said d → SaidOf l r
said_is l h e = record { result_is = e ∙ ap said h.result_is }

-- a refusal
pub refused_is : (w : Refusal) {k : ℕ} → k ≡ number w → Refused k ≡ decided (refusal (number w))
unfolding decided
refused_is Lengths h = ap Refused h
refused_is NotFinite h = ap Refused h
refused_is FlatV h = ap Refused h
refused_is Overflow h = ap Refused h
refused_is FlatU h = ap Refused h

-- ---- of two shapes
module _ (u v : Shape) where
  abbrev s : Start
  s = start_by u v

  abbrev settled : Outcome
  settled = settled_by (twelve u v) s.d s.e s.p s.q s.r

  rules_found : decided (found_by (twelve u v) s.d s.e s.p s.q s.r).answer ≡ rules_by u v
  unfolding found_by rules_by decided
  rules_found = go (beyond_by s.d s.e s.p s.q s.r)
    where
      go : (b : Bool) → decided (cond b (outcome_refused 0) settled).answer ≡ cond b Apart (decided settled.answer)
      go true = refl
      go false = refl

  rules_apart : beyond_by s.d s.e s.p s.q s.r ≡ true → Apart ≡ rules_by u v
  unfolding rules_by
  rules_apart h = sym (ap (λ b. cond b Apart (decided settled.answer)) h)

  rules_settled : beyond_by s.d s.e s.p s.q s.r ≡ false → decided settled.answer ≡ rules_by u v
  unfolding rules_by
  rules_settled h = sym (ap (λ b. cond b Apart (decided settled.answer)) h)

-- as the code comes to it
pub decides_by : (u v : Shape) {s : Start} {result : Decision} → s ≡ start_by u v → beyond_by s.d s.e s.p s.q s.r ≡ false → result ≡ decided (settled_by (twelve u v) s.d s.e s.p s.q s.r).answer → result ≡ rules_by u v
decides_by u v hs n h = h ∙ (ap (λ s. decided (settled_by (twelve u v) s.d s.e s.p s.q s.r).answer) hs ∙ rules_settled u v (subst (λ s. beyond_by s.d s.e s.p s.q s.r ≡ false) hs n))

-- where all of U lies beyond a line, before anything else
pub decides_apart : (u v : Shape) {s : Start} → s ≡ start_by u v → beyond_by s.d s.e s.p s.q s.r ≡ true → Apart ≡ rules_by u v
decides_apart u v hs h = rules_apart u v (subst (λ s. beyond_by s.d s.e s.p s.q s.r ≡ true) hs h)

-- ---- and of two that were made ready
pub rules_of_made : RulesOfMade
rules_of_made u v made = sym (rules_found u v) ∙ ruled (twelve u v) (found_Keeps (twelve u v) enough refl (omega arith) _ _ _ _ _ (shapes_give u v made)).promise refl
