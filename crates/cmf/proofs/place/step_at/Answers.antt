-- Where the options have room, and a password too, the tests of the definition are settled; any other head is read whole.
use native.Mathlib.Omega.{arith}
use mathlib.Core.Path.{◌∙◌, sym, ap}
use Rattle.laws.proofs.Cases.{via}
use Rattle.laws.proofs.Rooms.{room_le}
use Rattle.cmf.specs.declared.head.Head.{Head}
use Rattle.cmf.proofs.Turning.{head_short, head_protected}
use Rattle.cmf.proofs.place.step_at.Goals as goal
use Rattle.cmf.proofs.place.step_at.Goals.{then-tag-lt16-via-then-tag-lt16, then-tag-lt16-via-else-tag-lt16+then-is_protected}

pub bounds-image-p : goal.bounds-image-p
bounds-image-p c = omega (arith, room_le _ _ _ (via c.room.ensures c.if-room.true))

pub is_protected-requires : goal.is_protected-requires
is_protected-requires c = room_le _ _ _ (via c.room.ensures c.if-room.true)

pub read-requires : goal.read-requires
read-requires c = room_le _ _ _ (via c.room.ensures c.if-room.true)

pub returns-then-tag-lt16 : goal.returns-then-tag-lt16
returns-then-tag-lt16 c =
    let im = c.args.image.now in
    let p = c.args.p in
    let b = room_le _ _ _ (via c.room.ensures c.if-room.true) in
    elim c.then-tag-lt16.branch [
      | then-tag-lt16-via-then-tag-lt16 w ↦ let e = head_short im p b w.if-tag-lt16.true in (c.read.ensures.0 ∙ sym (ap (λ (h : Head). h.last) e), c.read.ensures.1 ∙ sym (ap (λ (h : Head). h.next.0) e))
      | then-tag-lt16-via-else-tag-lt16+then-is_protected w ↦ let q = w.is_protected.ensures w.if-is_protected.true in let e = head_protected im p b q.0 q.1 q.2 in (c.read.ensures.0 ∙ sym (ap (λ (h : Head). h.last) e), c.read.ensures.1 ∙ sym (ap (λ (h : Head). h.next.0) e))
    ]
