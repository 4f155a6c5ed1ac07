-- Two files of the same bytes but for last bytes: sets, ids and triangles are the same, so all is the same but which recordings leak. Assumes nothing.
use Prim.Native.Nat.{ℕ, ◌<◌}
use mathlib.Core.Path.{◌≡◌, refl, sym, ap, ap₂, subst, ◌∙◌}
use mathlib.Core.Bool.{Bool, true}
use mathlib.Core.List.{List, map, Memᴰ}
use native.Mathlib.Omega.{arith}
use lib.ListN.{length}
use Rattle.floats.specs.Lists.{filter}
use Rattle.sets.specs.Sets.{is_test, is_training, is_retired}
use Rattle.layout.specs.Parts.{count_of, entry_from, entry_at}
use Rattle.layout.specs.Layout.{Layout}
use Rattle.layout.specs.Before.{AllOfFirst}
use Rattle.listing.specs.Turns.{up_to, each}
use Rattle.listing.specs.Pairs.{leak_by_first}
use Rattle.listing.specs.Leaks.{Leak, tests, trainings, recording_pairs, tally_for, own_for, is_leak, leak_pairs, leak_of, leaks, formerly, formerly_held_back}
use Rattle.listing.proofs.Turns.{below, kept, passed, mapped, unmapped, filter_same_in}
use Rattle.listing.proofs.Editions.{by_first}
use Rattle.listing.proofs.Demand.{in_pairs, also_by_first_lem}
use Rattle.alike.specs.Alike.{AlikeBut, KeptAlike}
use Rattle.alike.proofs.Alike.{all_kept_alike}
use Rattle.alike.proofs.Bytes.{all_alike_but}
use Rattle.editions.specs.Lasts.{SameButLasts, AllSameBesideLeaks}

module _ (file other : List ℕ) (l : Layout file) (s : SameButLasts file other) where
  common : AlikeBut 11 file other
  common = all_alike_but 11 (omega arith) (omega arith) file other l s

  both : KeptAlike file other
  both = all_kept_alike file other l common.alike

  -- ---- sets stay, so the same recordings are compared and were formerly held back
  set_is : (k : ℕ) → k < count_of file → (entry_at other k).set ≡ (entry_at file k).set
  unfolding entry_at entry_from
  set_is k h = common.other_byte k 10 h (omega arith) (λ z. omega (arith, z))

  those_stay : (p : ℕ → Bool) → filter (λ k. p (entry_at other k).set) (up_to (count_of other)) ≡ filter (λ k. p (entry_at file k).set) (up_to (count_of file))
  those_stay p =
      ap (λ n. filter (λ k. p (entry_at other k).set) (up_to n)) common.alike.as_many
      ∙ filter_same_in (λ k. p (entry_at other k).set) (λ k. p (entry_at file k).set) (up_to (count_of file)) (λ k m. ap p (set_is k (below (count_of file) m)))

  pairs_stay : recording_pairs other ≡ recording_pairs file
  unfolding recording_pairs tests trainings
  pairs_stay = ap₂ (λ ts rs. each (λ i. map (λ j. (i, j)) rs) ts) (those_stay is_test) (those_stay is_training)

  formerly_stays : formerly_held_back other ≡ formerly_held_back file
  unfolding formerly_held_back formerly
  formerly_stays = ap length (those_stay is_retired)

  -- ---- ids and N
  line_is : (p : ℕ × ℕ) → Memᴰ p (recording_pairs file) → leak_of other p ≡ leak_of file p
  unfolding leak_of
  line_is p m = let c = in_pairs file m in rw (common.alike.id p.0 c.recording, common.alike.id p.1 c.other, both.tally p.0 p.1 c.recording c.other) refl

  -- ---- leaks by edition 1
  first_leaks : AllOfFirst other → (p : ℕ × ℕ) → Memᴰ p (leak_pairs file) → Memᴰ p (leak_pairs other)
  unfolding leak_pairs
  first_leaks none p m =
      let compared = (passed (is_leak file) (recording_pairs file) m).0 in
      let c = in_pairs file compared in
      let h : leak_by_first (tally_for other p) ≡ true = ap leak_by_first (both.tally p.0 p.1 c.recording c.other) ∙ also_by_first_lem file p m in
      kept (is_leak other) (recording_pairs other) (subst (Memᴰ p) (sym pairs_stay) compared)
      (by_first (entry_at other p.0).last (own_for other p.0) (tally_for other p) (none p.0 (let n = common.alike.as_many in let r = c.recording in omega (arith, n, r))) ∙ h)

  first_lines : AllOfFirst other → (x : Leak) → Memᴰ x (leaks file) → Memᴰ x (leaks other)
  unfolding leaks leak_pairs
  first_lines none x m =
      let w = unmapped (leak_of file) (leak_pairs file) m in
      let compared = (passed (is_leak file) (recording_pairs file) w.1).0 in
      subst (λ y. Memᴰ y (leaks other)) (line_is w.0 compared ∙ sym w.2) (mapped (leak_of other) (leak_pairs other) (first_leaks none w.0 w.1))

pub all_same_beside_leaks : AllSameBesideLeaks
all_same_beside_leaks file other l s = record {
  as_many = (common file other l s).alike.as_many;
  compared = pairs_stay file other l s;
  line = line_is file other l s;
  tally = (both file other l s).tally;
  own = (both file other l s).own;
  touching_same = (both file other l s).touching_same (pairs_stay file other l s);
  tested_same = (both file other l s).tested_same (pairs_stay file other l s);
  formerly_same = formerly_stays file other l s;
  fewer = first_leaks file other l s;
  lines = first_lines file other l s;
}
