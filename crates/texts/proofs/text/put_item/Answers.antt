-- The item, then blanks.
use Rattle.texts.proofs.Texting.{item_padded}
use Rattle.texts.proofs.text.put_item.Goals as goal

pub returns : goal.returns
returns c = item_padded _ _ c.item_bytes-text.ensures c.saturating_sub.ensures c.put_all-end.ensures c.repeat.ensures
