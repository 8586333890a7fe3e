-- Open and then the events, put together; the journal's clause is the theorem over lists.
use Rattle.journal.proofs.Playing.{sat_whole}
use Rattle.journal.proofs.sit.sit.Goals as goal

pub returns : goal.returns
returns c = let o = c.open in
    let told = sat_whole c.args.image.now c.args.events.now c.args.sheet.now _ _ _ _ o.ensures.value o.ensures.sheet_after _ _ c.play.ensures.value c.play.ensures.sheet_after in
    record { value = told.0; sheet_after = told.1.0; holds_journal = told.1.1 }
