-- One cell after the other; the tens and what they leave are the digits of the number.
use Prim.Native.Nat.{ℕ, ◌+◌, ◌*◌, ◌/◌, ◌%◌}
use mathlib.Core.Path.{◌≡◌, sym, ap, ◌∙◌}
use mathlib.Core.List.{[], ◌∷◌}
use native.Mathlib.Omega.{arith}
use borrow.Author.Tests.{ltb-true, ltb-false}
use Rattle.laws.specs.Choice.{when◌then◌else◌, ◌=?◌, ◌<?◌}
use Rattle.laws.specs.Digits.{digit0}
use Rattle.laws.proofs.Cases.{by_test, if_true, if_false, if_eq, if_ne}
use Rattle.texts.specs.Texts.{blank}
use Rattle.picture.specs.Rows.{line_number}
use Rattle.texts.proofs.Writing.{put_then}
use Rattle.picture.proofs.title.put_marks.Goals as goal

-- a line's number from its tens and what they leave
number_cells : (n t u : ℕ) → t ≡ n / 10 → u ≡ n % 10 → line_number n ≡ (when t =? 0 then blank else digit0 + t) ∷ (digit0 + u) ∷ []
unfolding line_number
number_cells n t u p q =
    rw (p, q)
    (ap (λ (h : ℕ). h ∷ (digit0 + n % 10) ∷ [])
    (by_test (n <? 10)
    (λ e. let z = ltb-true n 10 e in if_true _ _ e ∙ sym (if_eq (n / 10) 0 _ _ (omega arith)))
    (λ e. let z = ltb-false n 10 e in if_false _ _ e ∙ sym (if_ne (n / 10) 0 _ _ (λ y. omega arith)))))

pub returns : goal.returns
returns c = let n = c.args.cursor + 1 in
    let h = c.first_digit-hundreds in
    let t = c.first_digit-tens in
    let tens : 10 * h.result.digit + t.result.digit ≡ n / 10 = omega (arith, c.ranges.cursor, h.ensures, t.ensures) in
    let ones : t.result.rest ≡ n % 10 = omega (arith, c.ranges.cursor, h.ensures, t.ensures) in
    rw (number_cells n (10 * h.result.digit + t.result.digit) t.result.rest tens ones)
    (put_then c.put-high.ensures (put_then (rw c.tens_char.ensures at c.put-low.ensures) (put_then c.put-last.ensures c.put.ensures))).is
