-- One more leak, stored behind those before it. Assumes nothing.
use Prim.Native.Nat.{ℕ, ◌+◌, ◌<◌}
use mathlib.Core.Path.{◌≡◌, sym, ap, ◌∙◌}
use mathlib.Core.Bool.{Bool, true, cond}
use mathlib.Core.List.{List, [], ◌∷◌, ◌++◌, map}
use lib.ListN.{length, set, take}
use Rattle.std.proofs.lemmas.List.{take_more_set}
use lib.Ieee.{Float}
use Rattle.layout.specs.declared.Entry.{Entry}
use Rattle.listing.specs.declared.Tally.{Tally}
use Rattle.listing.specs.Pairs.{leak}
use Rattle.listing.specs.Leaks.{Leak}
use Rattle.listing.proofs.Turns.{map-append}
use Rattle.writing.specs.Triples.{leak_of}
use Rattle.leaklist.specs.Code.{leaks_of, leak_on}

leak_by : ℕ → ℕ → ℕ → Leak
leak_by t r n = record { test = t; train = r; pairs = n }

pub added : (l : List (List ℕ)) (k : ℕ) (e : Entry) (own : Float) (train : ℕ) (t : Tally) {b : Bool} → b ≡ leak e.last own t → b ≡ true → k < length l → leaks_of (set l k (e.id ∷ train ∷ t.overlapping ∷ [])) (k + 1) ≡ leaks_of l k ++ leak_on e own train t
unfolding leak_by
added l k e own train t q h fits =
    ap (map leak_of) (take_more_set l k (e.id ∷ train ∷ t.overlapping ∷ []) fits)
    ∙ (map-append leak_of (take k l) ((e.id ∷ train ∷ t.overlapping ∷ []) ∷ []) ∙ ap (λ x. leaks_of l k ++ x) (sym (ap (λ c. cond c (leak_by e.id train t.overlapping ∷ []) []) (sym q ∙ h))))
