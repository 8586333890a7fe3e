-- By the answer of `mark`.
use Rattle.binding.proofs.Sums.{number_given, sums_given, number_refused, sums_kept}
use Rattle.binding.proofs.desk.handset_mark.Goals as goal

pub returns-in-Ok : goal.returns-in-Ok
returns-in-Ok c =
    let a = c.args in
    let m = c.in-Ok.ensures.value in
    record {
      value = number_given a.image.now a.sheet.now a.key.now a.sums.now _ _ _ m _ c.give.ensures.value;
      sums_after = sums_given a.image.now a.sheet.now a.key.now a.sums.now _ _ _ m _ c.give.ensures.sums_after;
    }

pub returns-in-Err : goal.returns-in-Err
returns-in-Err c =
    let a = c.args in
    let m = c.in-Err.ensures.value in
    record {
      value = number_refused a.image.now a.sheet.now a.key.now a.sums.now _ m _ (rw c.number.ensures at c.refused_by.ensures);
      sums_after = sums_kept a.image.now a.sheet.now a.key.now a.sums.now _ m;
    }
