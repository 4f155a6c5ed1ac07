-- What is said of the pairs worked by hand is so: a computed test over each part of them, and what it says of each. Assumes nothing.
use mathlib.Core.Bool.{Bool, beq, ◌&&◌}
use mathlib.Core.Path.{◌≡◌}
use mathlib.Core.Logic.{⊎_elim}
use mathlib.Core.List.Memᴰ
use mathlib.Core.List.{Memᴰ}
use lib.Dec.{T, eqb, eqb→eq}
use lib.Ieee.{add, sub, mul, div, neg, lt, le, eq, of_int, of_bits}
use lib.Ieee.Fits.{and_l, and_r}
use Rattle.floats.specs.Lists.{all}
use Rattle.floats.proofs.Lists.{all_at, same_bool}
use Rattle.floats.proofs.Same.{same_float, same_float_lem}
use Rattle.triangles.specs.declared.Said.{Said}
use Rattle.triangles.specs.Decision.{said, by_rules, decision_of, overlaps, touches}
use Rattle.worked.specs.Decisions.{Case, Shown, known, boxed, cases}

same : Said → Said → Bool
unfolding same_float
same a b = eqb a.number b.number && (eqb a.kind b.kind && same_float a.area b.area)

-- whether the list takes it so
taken : Case → Bool
unfolding decision_of
taken c = beq (overlaps (decision_of c.values)) c.overlaps && beq (touches (decision_of c.values)) c.touches

right : Case → Bool
unfolding same decision_of by_rules taken
right c = same (said (decision_of c.values)) c.says && (same (said (by_rules c.values)) c.rules && taken c)

known-right : T (all right known)
unfolding all right add sub mul div neg lt le eq of_int of_bits
known-right = tt

boxed-right : T (all right boxed)
unfolding all right add sub mul div neg lt le eq of_int of_bits
boxed-right = tt

-- what two that are the same have in common
module _ (a b : Said) (t : T (same a b)) where
  rest : T (eqb a.kind b.kind && same_float a.area b.area)
  unfolding same
  rest = and_r (eqb a.number b.number) (eqb a.kind b.kind && same_float a.area b.area) t

  same_number : a.number ≡ b.number
  unfolding same
  same_number = eqb→eq a.number b.number (and_l (eqb a.number b.number) (eqb a.kind b.kind && same_float a.area b.area) t)

  same_kind : a.kind ≡ b.kind
  same_kind = eqb→eq a.kind b.kind (and_l (eqb a.kind b.kind) (same_float a.area b.area) rest)

  same_area : a.area ≡ b.area
  same_area = same_float_lem a.area b.area (and_r (eqb a.kind b.kind) (same_float a.area b.area) rest)

shown : (c : Case) → T (right c) → Shown c
unfolding right taken
shown c all =
    let d = decision_of c.values in
    let a = said d in
    let r = said (by_rules c.values) in
    let t = and_l (same a c.says) (same r c.rules && taken c) all in
    let both = and_r (same a c.says) (same r c.rules && taken c) all in
    let u = and_l (same r c.rules) (taken c) both in
    let k = and_r (same r c.rules) (taken c) both in
    record {
      number = same_number a c.says t;
      kind = same_kind a c.says t;
      area = same_area a c.says t;
      rules_number = same_number r c.rules u;
      rules_kind = same_kind r c.rules u;
      rules_area = same_area r c.rules u;
      overlaps = same_bool (overlaps d) c.overlaps (and_l (beq (overlaps d) c.overlaps) (beq (touches d) c.touches) k);
      touches = same_bool (touches d) c.touches (and_r (beq (overlaps d) c.overlaps) (beq (touches d) c.touches) k);
    }

pub worked : (c : Case) → Memᴰ c cases → Shown c
worked c m = ⊎_elim (λ r. shown c (all_at right known known-right r)) (λ r. shown c (all_at right boxed boxed-right r)) (Memᴰ.append_cases known m)
