-- The polygons of stored triangles, one behind the other: how long they are, and that behind some there is room for the rest. Assumes nothing.
use Prim.Native.Nat.{ℕ, ◌+◌, ◌<◌, ◌≤◌}
use mathlib.Core.Path.{◌≡◌, sym, ap, subst, ◌∙◌}
use mathlib.Core.List.{List, [], ◌∷◌, ◌++◌, append_assoc}
use native.Mathlib.Omega.{arith}
use lib.ListN.{length, get_or, drop, length-append}
use Rattle.std.specs.Option.{IsSome, unwrap_or}
use Rattle.std.proofs.Common.{Option, Some, None}
use Rattle.std.proofs.lemmas.Bool.{false≢true}
use Rattle.std.proofs.lemmas.List.{at_drop_more, at_drop_all}
use Rattle.text.specs.Room.{Measured, Put}
use Rattle.text.proofs.Room.{put_as}
use Rattle.polygons.proofs.Stores.{next_fits, put_then}
use Rattle.chart.specs.Words.{comma, others, members, collection_word, collection_end, collection_text}
use Rattle.showing.specs.Code.{text_at, texts_of}

-- what is there behind a text that was put
pub was_put : {room text mid : List ℕ} {at p : ℕ} (o : Option ℕ) → o ≡ Some p → Put room at text mid (unwrap_or o at) → Put room at text mid p
was_put {room} {text} {mid} {at} o e put = subst (Put room at text mid) (ap (λ x. unwrap_or x at) e) put

module _ (triangles : List (List ℕ)) (i : ℕ) where
  -- of those that are left the first, and what is left behind it
  pub others_next : i < length triangles → others (texts_of (drop i triangles)) ≡ comma ++ (text_at (get_or triangles i []) ++ others (texts_of (drop (i + 1) triangles)))
  unfolding others
  others_next h = at_drop_more (λ ts. others (texts_of ts)) triangles i [] h

  pub others_done : length triangles ≤ i → others (texts_of (drop i triangles)) ≡ []
  unfolding others
  others_done h = at_drop_all (λ ts. others (texts_of ts)) triangles i h

  pub others_length : i < length triangles → {l : ℕ} → Measured (text_at (get_or triangles i [])) l → length (others (texts_of (drop i triangles))) ≡ 2 + l + length (others (texts_of (drop (i + 1) triangles)))
  others_length h {l} m =
      let e = ap length (others_next h) in
      let a = length-append (text_at (get_or triangles i [])) (others (texts_of (drop (i + 1) triangles))) in
      omega (arith, e, a, m)

-- where something was put the place for nothing is not asked
pub put_anyway : {room text mid : List ℕ} {at : ℕ} (a b : ℕ) (o : Option ℕ) → IsSome o → Put room at text mid (unwrap_or o a) → Put room at text mid (unwrap_or o b)
put_anyway a b None some put = absurd (false≢true some)
put_anyway a b (Some p) some put = put

-- ---- the whole: the first, the others, and what stands around them
module _ {triangles : List (List ℕ)} {first : List ℕ} {rest : List (List ℕ)} (split : triangles ≡ first ∷ rest) where
  abbrev behind_word : List ℕ
  behind_word = text_at first ++ (others (texts_of rest) ++ collection_end)

  pub whole_is : collection_word ++ behind_word ≡ collection_text (texts_of triangles)
  unfolding collection_text members
  whole_is = sym (ap (λ ts. collection_text (texts_of ts)) split ∙ ap (λ t. collection_word ++ t) (append_assoc (text_at first) (others (texts_of rest)) collection_end))

  pub whole_length : {l m : ℕ} → Measured (text_at first) l → Measured (others (texts_of rest)) m → Measured (collection_text (texts_of triangles)) (21 + l + m)
  whole_length {l} {m} h k =
      let e = ap length whole_is in
      let a = length-append (text_at first) (others (texts_of rest) ++ collection_end) in
      let b = length-append (others (texts_of rest)) collection_end in
      omega (arith, e, a, b, h, k)

  module _ {room mid : List ℕ} {p : ℕ} (fits : length (collection_text (texts_of triangles)) ≤ length room) (word : Put room 0 collection_word mid p) where
    whole_fits : 0 + length (collection_word ++ behind_word) ≤ length room
    whole_fits = let e = ap length whole_is in omega (arith, e, fits)

    pub for_first : p + length behind_word ≤ length mid
    for_first = next_fits collection_word behind_word word whole_fits

    module _ {mid' : List ℕ} {p' : ℕ} (one : Put mid p (text_at first) mid' p') where
      pub for_rest : p' + length (others (texts_of rest) ++ collection_end) ≤ length mid'
      for_rest = next_fits (text_at first) _ one for_first

      module _ {mid'' : List ℕ} {p'' : ℕ} (two : Put mid' p' (others (texts_of rest)) mid'' p'') where
        pub for_end : p'' + 1 ≤ length mid''
        for_end = next_fits _ collection_end two for_rest

        pub all_put : {after : List ℕ} {q : ℕ} → Put mid'' p'' collection_end after q → Put room 0 (collection_text (texts_of triangles)) after q
        all_put end = put_as whole_is (put_then collection_word _ word whole_fits (put_then (text_at first) _ one for_first (put_then _ collection_end two for_rest end)))
