-- What is handed back of recording k: of a refused file its refusal, else by what entry k is, if it is there. Assumes nothing.
use Prim.Native.Nat.{ℕ}
use mathlib.Core.Path.{◌≡◌, refl, ap, ◌∙◌}
use mathlib.Core.Bool.{Bool, true, false, cond}
use mathlib.Core.List.{List, []}
use lib.Dec.{ltb}
use borrow.Author.Tests.{eq-eqb, ne_eqb}
use Rattle.std.specs.Prelude.{Option, Some, None, Result, Ok, Err}
use Rattle.std.specs.Option.{ok_or}
use Rattle.layout.specs.Parts.{count_of, entry_at}
use Rattle.layout.specs.Verdict.{verdict}
use Rattle.layout.specs.Told.{said}
use Rattle.layout.specs.Recordings.{unless_refused, no_recording, recording_by, no_such, bytes_of, recording_of, part_of}
use Rattle.layout.specs.declared.Entry.{Entry}
use Rattle.layout.specs.declared.Recording.{Recording}
use Rattle.layout.specs.declared.Refused.{Refused}
use Rattle.layout.specs.declared.Verdict.{Verdict}
use Rattle.layout.proofs.Told.{above}
use Rattle.footprint.specs.Contents.{entry_in}
use Rattle.recordings.specs.declared.Missing.{Missing}
use Rattle.recordings.specs.declared.Missing.TheVariants.{NoSuch}

module _ (file : List ℕ) (k : ℕ) where
  module _ (r : Refused) (h : said r ≡ verdict file) where
    not_good : (verdict file).number ≡ 0 → ⊥
    not_good z = above r.why (ap (λ (v : Verdict). v.number) h ∙ z)

    pub refused_recording : no_recording (said r) ≡ recording_of file k
    unfolding recording_of unless_refused
    refused_recording = rw (ne_eqb (verdict file).number 0 not_good) (ap no_recording h)

    pub refused_part : [] ≡ part_of file k
    unfolding part_of unless_refused
    refused_part = rw (ne_eqb (verdict file).number 0 not_good) refl

  module _ (z : (verdict file).number ≡ 0) where
    answered : Option Entry → Recording
    answered (Some e) = recording_by e
    answered None = no_recording no_such

    handed : Option Entry → List ℕ
    handed (Some e) = bytes_of file e
    handed None = []

    recording_is : answered (entry_in file k) ≡ recording_of file k
    unfolding recording_of unless_refused entry_in answered
    recording_is = rw (eq-eqb (verdict file).number 0 z) (go (ltb k (count_of file)))
      where
        go : (b : Bool) → answered (cond b (Some (entry_at file k)) None) ≡ cond b (recording_by (entry_at file k)) (no_recording no_such)
        go true = refl
        go false = refl

    part_is : handed (entry_in file k) ≡ part_of file k
    unfolding part_of unless_refused entry_in handed
    part_is = rw (eq-eqb (verdict file).number 0 z) (go (ltb k (count_of file)))
      where
        go : (b : Bool) → handed (cond b (Some (entry_at file k)) None) ≡ cond b (bytes_of file (entry_at file k)) []
        go true = refl
        go false = refl

    pub entry_recording : {e : Entry} → Some e ≡ entry_in file k → recording_by e ≡ recording_of file k
    unfolding answered
    entry_recording h = ap answered h ∙ recording_is

    pub entry_part : {e : Entry} → Some e ≡ entry_in file k → bytes_of file e ≡ part_of file k
    unfolding handed
    entry_part h = ap handed h ∙ part_is

    pub no_entry_recording : None ≡ entry_in file k → no_recording no_such ≡ recording_of file k
    unfolding answered
    no_entry_recording h = ap answered h ∙ recording_is

    pub no_entry_part : None ≡ entry_in file k → [] ≡ part_of file k
    unfolding handed
    no_entry_part h = ap handed h ∙ part_is

-- where there is no entry, the refusal is that there is no such recording
pub no_such_is : {m : Missing} (o : Option Entry) → o ≡ None → ◌≡◌ {A = Result Entry Missing} (Err m) (ok_or o NoSuch) → m ≡ NoSuch
no_such_is o n h = ap missing h ∙ ap (λ x. missing (ok_or x NoSuch)) n
  where
    missing : Result Entry Missing → Missing
    missing (Ok e) = NoSuch
    missing (Err m) = m
