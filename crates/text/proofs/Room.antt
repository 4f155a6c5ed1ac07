-- What is put into a room stands there whole or not at all, the rest is kept, and texts that are put one behind the other are put as one. Assumes nothing.
use Prim.Native.Nat.{ℕ, suc, ◌+◌, ◌-◌, ◌<◌, ◌≤◌}
use mathlib.Core.Path.{◌≡◌, refl, ap, ap₂, sym, subst, ◌∙◌}
use mathlib.Core.Bool.{Bool, true, false, false≢true}
use mathlib.Core.List.{List, [], ◌∷◌, ◌++◌, append_assoc}
use native.Mathlib.Omega.{arith}
use native.Mathlib.Nat.{add-zero}
use lib.Dec.{leb}
use borrow.Author.Tests.{leb-true, leb-false, le-leb, lt-leb}
use lib.ListN.{length, get_or, take, drop, set, length-append, length-drop, get_or-append}
use lib.Seq.{sets, sets-eq, length-sets, length-take-le, take-append_seam, take_at, drop_at, drop-drop, get_or-take, get_or-append-add}
use borrow.Rule.Slice.PartMut.{put_mid}
use Rattle.text.specs.Room.{Measured, laid, behind, Put, WholeOrNothing, NoSecondPut, NoSecondPlace, PutsWhole}
use Rattle.std.specs.Prelude.{◌↔◌, Option, None, Some, IsSome, unwrap_or}

pub no_second_put : NoSecondPut
no_second_put A room at text a b m n p q = (p.after_is ∙ sym q.after_is, p.next_is ∙ sym q.next_is)

pub no_second_place : NoSecondPlace
no_second_place A room at text a b m n p s q t = (p.after_is ∙ sym q.after_is, go m n (p.next_is ∙ sym q.next_is) s t)
  where
    go : (m n : Option ℕ) → unwrap_or m at ≡ unwrap_or n at → (IsSome m ↔ (at + length text ≤ length room)) → (IsSome n ↔ (at + length text ≤ length room)) → m ≡ n
    go None None e s t = refl
    go None (Some y) e s t = absurd (false≢true (s.1 (t.0 refl)))
    go (Some x) None e s t = absurd (false≢true (t.1 (s.0 refl)))
    go (Some x) (Some y) e s t = ap Some e

module _ {A : Type 0} (room text : List A) (at : ℕ) where
  -- ---- a text that fits: a run of stores, and the place behind it
  pub laid_whole : at + length text ≤ length room → laid room at text ≡ take at room ++ text ++ drop (at + length text) room
  unfolding laid
  laid_whole h = rw (le-leb (at + length text) (length room) h) refl

  front_length : at + length text ≤ length room → length (take at room) ≡ at
  front_length h = length-take-le at room (omega (arith, h))

  pub laid-sets : at + length text ≤ length room → laid room at text ≡ sets room at text
  laid-sets h = laid_whole h ∙ sym (sets-eq text room at h)

  pub behind_whole : at + length text ≤ length room → behind room at text ≡ at + length text
  unfolding behind
  behind_whole h = rw (le-leb (at + length text) (length room) h) refl

  -- ---- a text that does not fit
  laid_not : length room < at + length text → laid room at text ≡ room
  unfolding laid
  laid_not h = rw (lt-leb (at + length text) (length room) h) refl

  behind_not : length room < at + length text → behind room at text ≡ at
  unfolding behind
  behind_not h = rw (lt-leb (at + length text) (length room) h) refl

  -- ---- measured, and then put: not at all, or by a run of stores
  pub Put-nothing : (size : ℕ) → Measured text size → length room < at + size → Put room at text room at
  Put-nothing size m h =
      let short : length room < at + length text = subst (λ n. length room < at + n) m h in
      record { after_is = sym (laid_not short); next_is = sym (behind_not short) }

  pub put_all : (size : ℕ) → Measured text size → at + size ≤ length room → {after : List A} → after ≡ sets room at text → Put room at text after (at + size)
  put_all size m h p =
      let fit : at + length text ≤ length room = subst (λ n. at + n ≤ length room) m h in
      record { after_is = p ∙ sym (laid-sets fit); next_is = ap (λ n. at + n) m ∙ sym (behind_whole fit) }

  -- not at all, or over the part of the room from the place to another
  pub put_not : {next : ℕ} → (at + length text ≤ length room → ⊥) → next ≡ at → Put room at text room next
  put_not h e = let short : length room < at + length text = omega (arith, h) in record { after_is = sym (laid_not short); next_is = e ∙ sym (behind_not short) }

  pub put_part : {next : ℕ} {part : List A} → (at + length text ≤ length room) × (next ≡ at + length text) → part ≡ text → Put room at text (put_mid at (next - at) room part) next
  put_part {next} {part} h e =
      let size : at + (next - at) ≡ at + length text = omega (arith, h.1) in
      record {
        after_is = ap₂ (λ xs ys. take at room ++ (xs ++ ys)) e (drop-drop (next - at) at room ∙ ap (λ n. drop n room) size)
            ∙ (sym (append_assoc (take at room) text (drop (at + length text) room)) ∙ sym (laid_whole h.0));
        next_is = h.1 ∙ sym (behind_whole h.0);
      }

  -- that part is as long as the text
  pub part_length : {next : ℕ} → (at + length text ≤ length room) × (next ≡ at + length text) → length (take (next - at) (drop at room)) ≡ length text
  part_length {next} h = let n = length-drop at room in
      length-take-le (next - at) (drop at room) (omega (arith, h.0, h.1, n)) ∙ size
    where
      size : next - at ≡ length text
      size = omega (arith, h.1)

  -- ---- what stands there afterwards
  stands : WholeOrNothing room at text (laid room at text) (behind room at text)
  stands = go (leb (at + length text) (length room)) refl
    where
      parts : at + length text ≤ length room → laid room at text ≡ take at room ++ (text ++ drop (at + length text) room)
      parts h = laid_whole h ∙ append_assoc (take at room) text (drop (at + length text) room)

      there : at + length text ≤ length room → take (length text) (drop at (laid room at text)) ≡ text
      there h = ap (λ r. take (length text) (drop at r)) (parts h) ∙ (ap (take (length text)) (drop_at (take at room) (text ++ drop (at + length text) room) at (front_length h)) ∙ take-append_seam text (drop (at + length text) room))

      kept : at + length text ≤ length room → drop (at + length text) (laid room at text) ≡ drop (at + length text) room
      kept h = ap (drop (at + length text)) (laid_whole h) ∙ drop_at (take at room ++ text) (drop (at + length text) room) (at + length text) (length-append (take at room) text ∙ ap (λ n. n + length text) (front_length h))

      go : (b : Bool) → leb (at + length text) (length room) ≡ b → WholeOrNothing room at text (laid room at text) (behind room at text)
      go true e = let h = leb-true (at + length text) (length room) e in
          record {
            whole = λ g. (there h, behind_whole h);
            nothing = λ g. absurd (omega (arith, g, h));
            same_length = ap length (laid-sets h) ∙ length-sets room at text;
            front = ap (take at) (parts h) ∙ take_at (take at room) (text ++ drop (at + length text) room) at (front_length h);
            rest = ap (λ n. drop n (laid room at text)) (behind_whole h) ∙ (kept h ∙ ap (λ n. drop n room) (sym (behind_whole h)));
          }
      go false e = let h = leb-false (at + length text) (length room) e in
          record {
            whole = λ g. absurd (omega (arith, g, h));
            nothing = λ g. (laid_not h, behind_not h);
            same_length = ap length (laid_not h);
            front = ap (take at) (laid_not h);
            rest = ap (drop (behind room at text)) (laid_not h);
          }

pub laid-length : {A : Type 0} (room text : List A) (at : ℕ) → length (laid room at text) ≡ length room
laid-length room text at = (stands room text at).same_length

pub whole_or_nothing : {A : Type 0} {room : List A} {at : ℕ} {text after : List A} {next : ℕ} → Put room at text after next → WholeOrNothing room at text after next
whole_or_nothing {A} {room} {at} {text} {after} {next} p =
    subst (λ r. WholeOrNothing room at text r next) (sym p.after_is) (subst (WholeOrNothing room at text (laid room at text)) (sym p.next_is) (stands room text at))

pub puts_whole : PutsWhole
puts_whole A room at text after next p = whole_or_nothing p

-- ---- the same value by value
module _ {A : Type 0} (room text : List A) (at : ℕ) (d : A) (h : at + length text ≤ length room) where
  pub laid_before : (k : ℕ) → k < at → get_or (laid room at text) k d ≡ get_or room k d
  laid_before k l =
      ap (λ r. get_or r k d) (laid_whole room text at h)
      ∙ (get_or-append (take at room ++ text) (drop (at + length text) room) d k (omega (arith, l, length-append (take at room) text, front_length room text at h))
      ∙ (get_or-append (take at room) text d k (omega (arith, l, front_length room text at h)) ∙ get_or-take at room k d l))

  pub laid_inside : (k : ℕ) → k < length text → get_or (laid room at text) (at + k) d ≡ get_or text k d
  laid_inside k l =
      ap (λ r. get_or r (at + k) d) (laid_whole room text at h)
      ∙ (get_or-append (take at room ++ text) (drop (at + length text) room) d (at + k) (omega (arith, l, length-append (take at room) text, front_length room text at h))
      ∙ (ap (λ n. get_or (take at room ++ text) (n + k) d) (sym (front_length room text at h)) ∙ get_or-append-add (take at room) text k d))

module _ {A : Type 0} where
  -- ---- one after the other
  -- two runs of stores
  sets-append : (vs ws l : List A) (i : ℕ) → sets (sets l i vs) (i + length vs) ws ≡ sets l i (vs ++ ws)
  sets-append [] ws l i = rw add-zero
  sets-append (a ∷ vs) ws l i = let e : i + suc (length vs) ≡ suc i + length vs = omega arith in rw e (sets-append vs ws (set l i a) (suc i))

  -- behind a text that fits is the next place
  pub put_next : {room text after : List A} {at next : ℕ} → Put room at text after next → at + length text ≤ length room → next ≡ at + length text
  put_next {room} {text} {after} {at} p h = p.next_is ∙ behind_whole room text at h

  pub Put-length : {room text after : List A} {at next : ℕ} → Put room at text after next → length after ≡ length room
  Put-length p = (whole_or_nothing p).same_length

  -- two texts, put one behind the other where both fit, are put as one
  pub put_two : {room mid after xs ys : List A} {at p q : ℕ} → Put room at xs mid p → Put mid p ys after q → at + (length xs + length ys) ≤ length room → Put room at (xs ++ ys) after q
  put_two {room} {mid} {after} {xs} {ys} {at} {p} {q} a b h =
      let f : at + length xs ≤ length room = omega (arith, h) in
      let stored : mid ≡ sets room at xs = a.after_is ∙ laid-sets room xs at f in
      let next : p ≡ at + length xs = put_next a f in
      let same = Put-length a in
      let g : p + length ys ≤ length mid = omega (arith, h, next, same) in
      subst (Put room at (xs ++ ys) after) (sum (length xs) (length ys) next (put_next b g))
      (put_all room (xs ++ ys) at (length xs + length ys) (sym (length-append xs ys)) h
      (b.after_is ∙ (laid-sets mid ys p g ∙ (ap₂ (λ l i. sets l i ys) stored next ∙ sets-append xs ys room at))))
    where
      sum : (m n : ℕ) → p ≡ at + m → q ≡ p + n → at + (m + n) ≡ q
      sum m n e f = omega (arith, e, f)

  -- likewise where the second answers with a place or none: there is one, as both fit
  pub put_behind : {room mid after xs ys : List A} {at next : ℕ} (answer : Option ℕ) → Put room at xs mid next → Put mid next ys after (unwrap_or answer next) → (IsSome answer ↔ (next + length ys ≤ length mid)) → at + length (xs ++ ys) ≤ length room → Put room at (xs ++ ys) after (unwrap_or answer at) × IsSome answer
  put_behind {room} {mid} {after} {xs} {ys} {at} {next} answer a b f h = go answer (f.1 second) b
    where
      size : length (xs ++ ys) ≡ length xs + length ys
      size = length-append xs ys

      second : next + length ys ≤ length mid
      second = let n = put_next a (omega (arith, h, size)) in let l = Put-length a in omega (arith, h, size, n, l)

      go : (answer : Option ℕ) → IsSome answer → Put mid next ys after (unwrap_or answer next) → Put room at (xs ++ ys) after (unwrap_or answer at) × IsSome answer
      go None s p = absurd (false≢true s)
      go (Some q) s p = (put_two a p (omega (arith, h, size)), refl)

  -- and so are three, and four
  pub put_three : {room m1 m2 after xs ys zs : List A} {at p q r : ℕ} → Put room at xs m1 p → Put m1 p ys m2 q → Put m2 q zs after r → at + (length xs + length ys + length zs) ≤ length room → Put room at (xs ++ ys ++ zs) after r
  put_three {xs = xs} {ys = ys} a b c h = let n = length-append xs ys in put_two (put_two a b (omega (arith, h))) c (omega (arith, h, n))

  pub put_four : {room m1 m2 m3 after xs ys zs ws : List A} {at p q r s : ℕ} → Put room at xs m1 p → Put m1 p ys m2 q → Put m2 q zs m3 r → Put m3 r ws after s → at + (length xs + length ys + length zs + length ws) ≤ length room → Put room at (xs ++ ys ++ zs ++ ws) after s
  put_four {xs = xs} {ys = ys} a b c d h = let n = length-append xs ys in put_three (put_two a b (omega (arith, h))) c d (omega (arith, h, n))

  -- nothing is put by doing nothing
  pub Put-none : (room : List A) (at : ℕ) → Put room at [] room at
  Put-none room at = go (leb (at + 0) (length room)) refl
    where
      none : at ≡ at + 0
      none = omega arith

      go : (b : Bool) → leb (at + 0) (length room) ≡ b → Put room at [] room at
      go true e = subst (Put room at [] room) (sym none) (put_all room [] at 0 refl (leb-true (at + 0) (length room) e) refl)
      go false e = Put-nothing room [] at 0 refl (leb-false (at + 0) (length room) e)

  -- at the front of the room
  pub put_front : (room text : List A) → length text ≤ length room → Put room 0 text (laid room 0 text) (length text)
  put_front room text h = record { after_is = refl; next_is = sum (length text) (behind_whole room text 0 (omega (arith, h))) }
    where
      sum : (n : ℕ) {m : ℕ} → m ≡ 0 + n → n ≡ m
      sum n e = omega (arith, e)

  -- and what was put there is as long as the text, or not there at all
  pub put_front_all : {room text after : List A} {next : ℕ} → Put room 0 text after next → length text ≤ length room → next ≡ length text
  put_front_all {room} {text} p h = let n = put_next p (omega (arith, h)) in omega (arith, n)

  pub put_front_none : {room text after : List A} {next : ℕ} → Put room 0 text after next → (length text ≤ length room → ⊥) → after ≡ room
  put_front_none {room} {text} p h = ((whole_or_nothing p).nothing (omega (arith, h))).0

  -- of a text that is the same
  pub put_as : {room text text' after : List A} {at next : ℕ} → text ≡ text' → Put room at text after next → Put room at text' after next
  put_as {room} {text} {text'} {after} {at} {next} e p = subst (λ t. Put room at t after next) e p

  pub fits_as : {text text' : List A} (room : List A) (at : ℕ) (answer : Option ℕ) → text ≡ text' → (IsSome answer ↔ (at + length text ≤ length room)) → IsSome answer ↔ (at + length text' ≤ length room)
  fits_as room at answer e f = subst (λ t. IsSome answer ↔ (at + length t ≤ length room)) e f
