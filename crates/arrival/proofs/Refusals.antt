-- A call is refused with 23, or with 22, or it is answered, by the buffer's length and the state. Assumes nothing.
use Prim.Native.Nat.{ℕ}
use mathlib.Core.Path.{◌≡◌, refl}
use mathlib.Core.Bool.{Bool, true, false}
use mathlib.Core.List.{List}
use lib.Dec.{eqb}
use lib.ListN.{length}
use borrow.Author.Tests.{eqb-true, eqb-false, eq-eqb, ne_eqb}
use Rattle.arrival.specs.declared.State.{State}
use Rattle.arrival.specs.Calls.{Said, refusal_of, refused_by, answered, called}

module _ (ended size : ℕ) where
  pub other_refusal : (size ≡ 65536 → ⊥) → refusal_of ended size ≡ 23
  unfolding refusal_of
  other_refusal h = rw (ne_eqb size 65536 h) refl

  pub ended_refusal : size ≡ 65536 → (ended ≡ 0 → ⊥) → refusal_of ended size ≡ 22
  unfolding refusal_of
  ended_refusal l h = rw (eq-eqb size 65536 l, ne_eqb ended 0 h) refl

  pub no_refusal : size ≡ 65536 → ended ≡ 0 → refusal_of ended size ≡ 0
  unfolding refusal_of
  no_refusal l h = rw (eq-eqb size 65536 l, eq-eqb ended 0 h) refl

module _ (s : State) (buffer : List ℕ) where
  -- what there is of buffers and states
  pub data Kind : Type 0 where
    other_buffer : (length buffer ≡ 65536 → ⊥) → Kind
    after_end : length buffer ≡ 65536 → (s.ended ≡ 0 → ⊥) → Kind
    goes_on : length buffer ≡ 65536 → s.ended ≡ 0 → Kind

  pub kind : Kind
  kind = go (eqb (length buffer) 65536) refl (eqb s.ended 0) refl
    where
      go : (b : Bool) → eqb (length buffer) 65536 ≡ b → (e : Bool) → eqb s.ended 0 ≡ e → Kind
      go false p e q = other_buffer (eqb-false (length buffer) 65536 p)
      go true p false q = after_end (eqb-true (length buffer) 65536 p) (eqb-false s.ended 0 q)
      go true p true q = goes_on (eqb-true (length buffer) 65536 p) (eqb-true s.ended 0 q)

  module _ (said : Said) where
    pub called_other : (length buffer ≡ 65536 → ⊥) → called s said buffer ≡ refused_by 23 s buffer
    unfolding called
    called_other h = rw (other_refusal s.ended (length buffer) h) refl

    pub called-ended : length buffer ≡ 65536 → (s.ended ≡ 0 → ⊥) → called s said buffer ≡ refused_by 22 s buffer
    unfolding called
    called-ended l h = rw (ended_refusal s.ended (length buffer) l h) refl

    pub called_open : length buffer ≡ 65536 → s.ended ≡ 0 → called s said buffer ≡ answered s said buffer
    unfolding called
    called_open l h = rw (no_refusal s.ended (length buffer) l h) refl
