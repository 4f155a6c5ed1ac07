-- The lines of triples: how long they are, and how one more is put behind those before. Assumes nothing.
use Prim.Native.Nat.{ℕ, suc, ◌+◌, ◌<◌, ◌≤◌}
use mathlib.Core.Path.{◌≡◌, refl, sym, ap, ap₂, ◌∙◌}
use mathlib.Core.List.{List, [], ◌∷◌, ◌++◌, map}
use native.Mathlib.Omega.{arith}
use lib.ListN.{length, get_or, take, drop, take-append-drop, length-append}
use Rattle.std.proofs.lemmas.List.{take_more}
use Rattle.text.specs.Room.{Measured, Put}
use Rattle.std.specs.Prelude.{Option, IsSome, unwrap_or, ◌↔◌}
use Rattle.text.proofs.Room.{Put-none, put_as, put_two, put_three, put_behind}
use Rattle.listing.specs.Turns.{each}
use Rattle.listing.specs.Leaks.{Leak}
use Rattle.listing.specs.Words.{first_line, leak_line, leak_lines, touching_line, formerly_line, all_but_last, text_of}
use Rattle.listing.proofs.Turns.{each_append, each_one, map-append}
use Rattle.writing.specs.Triples.{leak_of}

-- the lines of triples
abbrev pub lines : List (List ℕ) → List ℕ
lines triples = leak_lines (map leak_of triples)

pub lines_none : lines [] ≡ []
unfolding leak_lines each
lines_none = refl

lines-append : (xs ys : List (List ℕ)) → lines (xs ++ ys) ≡ lines xs ++ lines ys
unfolding leak_lines
lines-append xs ys = ap (each leak_line) (map-append leak_of xs ys) ∙ each_append leak_line (map leak_of xs) (map leak_of ys)

lines_one : (x : List ℕ) → lines (x ∷ []) ≡ leak_line (leak_of x)
unfolding leak_lines
lines_one x = each_one leak_line (leak_of x)

-- ---- the whole list
pub text_is : (ls : List Leak) (k t h : ℕ) → k ≡ length ls → first_line k ++ leak_lines ls ++ touching_line t ++ formerly_line h ≡ text_of ls t h
unfolding text_of all_but_last
text_is ls k t h e = ap (λ k. first_line k ++ leak_lines ls ++ touching_line t ++ formerly_line h) e

pub how_many : (xs : List (List ℕ)) → length xs ≡ length (map leak_of xs)
how_many [] = refl
how_many (x ∷ xs) = ap suc (how_many xs)

-- is measured by the measures of its parts
parts_Measured : (ls : List Leak) (k t h : ℕ) {a b c d : ℕ} → Measured (first_line k) a → Measured (leak_lines ls) b → Measured (touching_line t) c → Measured (formerly_line h) d → Measured (first_line k ++ leak_lines ls ++ touching_line t ++ formerly_line h) (a + b + c + d)
parts_Measured ls k t h p q r s =
    let lines = length-append (first_line k) (leak_lines ls) in
    let body = length-append (first_line k ++ leak_lines ls) (touching_line t) in
    let whole = length-append (first_line k ++ leak_lines ls ++ touching_line t) (formerly_line h) in
    omega (arith, p, q, r, s, lines, body, whole)

pub text_Measured : (ls : List Leak) (k t h : ℕ) {a b c d : ℕ} → k ≡ length ls → Measured (first_line k) a → Measured (leak_lines ls) b → Measured (touching_line t) c → Measured (formerly_line h) d → Measured (text_of ls t h) (a + b + c + d)
text_Measured ls k t h e p q r s = parts_Measured ls k t h p q r s ∙ ap length (text_is ls k t h e)

-- and put part by part, where all fit; behind the last is the answer
pub Put-list : (ls : List Leak) (k t h : ℕ) → k ≡ length ls → {room m1 m2 m3 after : List ℕ} {p q r a b c d : ℕ} (answer : Option ℕ)
    → Measured (first_line k) a → Measured (leak_lines ls) b → Measured (touching_line t) c → Measured (formerly_line h) d → a + b + c + d ≤ length room
    → Put room 0 (first_line k) m1 p → Put m1 p (leak_lines ls) m2 q → Put m2 q (touching_line t) m3 r → Put m3 r (formerly_line h) after (unwrap_or answer r)
    → (IsSome answer ↔ (r + length (formerly_line h) ≤ length m3)) → Put room 0 (text_of ls t h) after (unwrap_or answer 0) × IsSome answer
Put-list ls k t h e answer ma mb mc md fit p1 p2 p3 p4 f =
    let whole = parts_Measured ls k t h ma mb mc md in
    let all = put_behind answer (put_three p1 p2 p3 (omega (arith, fit, ma, mb, mc))) p4 f (omega (arith, fit, whole)) in
    (put_as (text_is ls k t h e) all.0, all.1)

-- ---- one more line
module _ (xs : List (List ℕ)) (i : ℕ) (h : i < length xs) where
  lines_more : lines (take (i + 1) xs) ≡ lines (take i xs) ++ leak_line (leak_of (get_or xs i []))
  lines_more = ap lines (take_more xs i [] h) ∙ (lines-append (take i xs) (get_or xs i [] ∷ []) ∙ ap (λ l. lines (take i xs) ++ l) (lines_one (get_or xs i [])))

  pub lines_turn : {sum more : ℕ} → Measured (lines (take i xs)) sum → Measured (leak_line (leak_of (get_or xs i []))) more → Measured (lines (take (i + 1) xs)) (sum + more)
  lines_turn p q = ap₂ ◌+◌ p q ∙ (sym (length-append (lines (take i xs)) (leak_line (leak_of (get_or xs i [])))) ∙ sym (ap length lines_more))

  -- the lines with one more fit, as all do
  pub more_fit : (at most : ℕ) → at + length (lines xs) ≤ most → at + (length (lines (take i xs)) + length (leak_line (leak_of (get_or xs i [])))) ≤ most
  more_fit at most f =
      let all = ap length (sym (ap lines (take-append-drop (i + 1) xs)) ∙ lines-append (take (i + 1) xs) (drop (i + 1) xs)) in
      let two = length-append (lines (take (i + 1) xs)) (lines (drop (i + 1) xs)) in
      let more = lines_turn refl refl in
      omega (arith, f, all, two, more)

  pub Put-line_more : {room mid after : List ℕ} {at p q : ℕ} → at + length (lines xs) ≤ length room → Put room at (lines (take i xs)) mid p → Put mid p (leak_line (leak_of (get_or xs i []))) after q → Put room at (lines (take (i + 1) xs)) after q
  Put-line_more {room} {at = at} f a b = put_as (sym lines_more) (put_two a b (more_fit at (length room) f))

-- no line put yet
pub Put-no_line : (room : List ℕ) (at : ℕ) → Put room at (lines []) room at
Put-no_line room at = put_as (sym lines_none) (Put-none room at)
