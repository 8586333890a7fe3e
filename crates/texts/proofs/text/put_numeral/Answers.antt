-- The sign, then the digits.
use Rattle.texts.proofs.Texting.{numeral_plain, numeral_signed}
use Rattle.texts.proofs.text.put_numeral.Goals as goal

pub returns-then-n-eq0 : goal.returns-then-n-eq0
returns-then-n-eq0 c = numeral_plain c.args.n _ c.if-n-eq0.true c.put_digits.ensures

pub returns : goal.returns
returns c = numeral_signed c.args.n _ _ _ c.if-n-eq0.false c.cell_at.ensures c.sign_char.ensures c.put-first.ensures c.put_digits-2.ensures
