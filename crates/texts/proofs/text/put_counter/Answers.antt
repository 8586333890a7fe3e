-- Blanks, a '-' below 0, then the digits.
use Rattle.texts.proofs.Texting.{count_below, count_above}
use Rattle.texts.proofs.text.put_counter.Goals as goal

pub returns-then-x-lt32768 : goal.returns-then-x-lt32768
returns-then-x-lt32768 c = count_below _ _ _ _ c.if-x-lt32768.true c.digit_count-n.ensures.0 c.saturating_sub.ensures c.repeat-sign.ensures c.put-first.ensures c.put_decimal.ensures

pub returns : goal.returns
returns c = count_above _ _ _ _ c.if-x-lt32768.false c.digit_count-n-2.ensures.0 c.saturating_sub-2.ensures c.repeat-first.ensures c.put_decimal-2.ensures
