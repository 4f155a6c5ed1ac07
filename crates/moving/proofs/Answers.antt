-- What is returned of both files, by what is promised of each. Assumes nothing.
use mathlib.Core.Path.{sym, ap, ◌∙◌}
use mathlib.Core.List.{◌++◌}
use lib.ListN.{length}
use Rattle.listing.specs.Leaks.{leaks, touching}
use Rattle.listing.specs.Words.{all_but_last, formerly_line}
use Rattle.listing.proofs.Returned.{returned_two}
use Rattle.moving.specs.Moved.{moved}
use Rattle.moving.specs.Answers.{SameAnswers}
use Rattle.moving.proofs.Moved.{all_moved_over}

pub same_answers : SameAnswers
same_answers file room other old new old_room new_room l p q a b =
    let m = all_moved_over file l in
    let o = returned_two file room old old_room p a in
    let n = returned_two (moved file) other new new_room q b in
    record {
      same_leaks = n.leaks_is ∙ (ap length m.same_leaks ∙ sym o.leaks_is);
      same_touching = n.touching_is ∙ (m.same_touching ∙ sym o.touching_is);
      same_tested = n.tested_is ∙ (m.same_tested ∙ sym o.tested_is);
      none_any_more = n.formerly_is ∙ m.none_any_more;
      same_text = (
        all_but_last (leaks file) (touching file),
        o.text ∙ (m.old_list ∙ ap (λ k. all_but_last (leaks file) (touching file) ++ formerly_line k) (sym o.formerly_is)),
        n.text ∙ m.new_list,
      );
    }
