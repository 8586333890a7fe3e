-- What is shown, then what is done: all of the bytes.
use mathlib.Core.Path.{sym, ◌∙◌}
use native.Mathlib.Omega.{arith}
use Rattle.laws.proofs.Cases.{if_eq, if_ne}
use Rattle.laws.proofs.Overwriting.{over_all}
use Rattle.session_bytes.specs.Layout.{shown_bytes, doing_bytes, session_bytes, session_written}
use Rattle.session_bytes.proofs.Layouts.{joined, length_shown, length_session}
use Rattle.session_bytes.proofs.Sized.{sized}
use Rattle.session_bytes.proofs.ReadBack.{read_back}
use Rattle.session_bytes.proofs.write.write_session.Goals as goal

pub returns-in-Some : goal.returns-in-Some
unfolding session_bytes session_written
returns-in-Some c =
    let s = c.args.session in
    let z = sized s _ c.well_formed.1.0 in
    let w = c.in-Some.ensures.cases in
    let n = length_session s z.seven z.thirty_two z.eight in
    let all = joined _ 0 84 (shown_bytes s) (doing_bytes s) c.write_shown.ensures c.write_doing.ensures (omega (arith, length_shown s z.seven)) in
    record {
      bytes_after = rw w.same at all ∙ over_all _ (session_bytes s) (n ∙ sym w.long) ∙ sym (if_eq _ 230 _ _ w.long);
      session_value = read_back s z;
    }

pub returns-in_default : goal.returns-in_default
unfolding session_written
returns-in_default c = record { bytes_after = sym (if_ne _ 230 _ _ c.in_default.ensures.cases); session_value = read_back _ (sized _ _ c.well_formed.1.0) }
