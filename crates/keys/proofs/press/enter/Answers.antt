-- Each return is the case of the definition that the tests on its path choose.
use Rattle.laws.specs.Choice.{when◌then◌else◌}
use Rattle.std.proofs.lemmas.Bool.{false_from_ne_true}
use Rattle.keys.specs.Keys.{enter_key}
use Rattle.keys.proofs.press.enter.Goals as goal

pub returns-then-p : goal.returns-then-p
unfolding enter_key when◌then◌else◌
returns-then-p c = simp (c.new.ensures, ← c.profile_of-p.ensures, c.if-p.true)

pub returns-in-Some : goal.returns-in-Some
unfolding enter_key when◌then◌else◌
returns-in-Some c = let h = c.in-Some.ensures in simp (c.new-in-Some.ensures, c.cap.ensures, ← c.profile_of-p.ensures, c.if-p.false, h.0, h.1)

pub returns-in-None : goal.returns-in-None
unfolding enter_key when◌then◌else◌
returns-in-None c = simp (c.new-in-None.ensures, ← c.profile_of-p.ensures, c.if-p.false, false_from_ne_true _ c.in-None.ensures, ← c.stores.ensures, c.if-stores.true)

pub returns-in-None-2 : goal.returns-in-None-2
unfolding enter_key when◌then◌else◌
returns-in-None-2 c = simp (c.new-in-None-2.ensures, ← c.profile_of-p.ensures, c.if-p.false, false_from_ne_true _ c.in-None.ensures, ← c.stores.ensures, c.if-stores.false)
