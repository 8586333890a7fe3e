-- Event, refused or not, over variables.
use Prim.Native.Nat.{ℕ}
use mathlib.Core.Path.{◌≡◌, sym}
use mathlib.Core.List.{List}
use lib.ListN.{length}
use borrow.Author.Tests.{leb-true}
use native.Mathlib.Omega.{arith}
use Prim.Native.Nat.{◌≤◌}
use Rattle.laws.specs.Choice.{◌≤?◌}
use Rattle.laws.proofs.Cases.{if_eq, if_ne}
use Rattle.session.specs.Events.{second}
use Rattle.session.specs.Step.{step_of, sheet_of}
use Rattle.session.specs.declared.session.Session.{Session}
use Rattle.handset.specs.Refusals.{◌before◌, ◌unless◌, session_refusal}
use Rattle.handset.specs.Event.{event_refusal, refused_with, event_step, event_sheet}
use Rattle.handset.proofs.Ordering.{Granted, none_before, none_unless, session_granted}

-- the refusal of an Event, from that of image, sheet and session
pub refusal_from : (im : List ℕ) (extent : ℕ) (s : Session) (e u k : ℕ) → u ≡ session_refusal im extent s → k ≡ (u before (13 unless (e ≤? second))) → k ≡ event_refusal im extent s e
unfolding event_refusal
refusal_from im extent s e u k p q = rw p at q

module _ (im sheet : List ℕ) (s : Session) (e k : ℕ) (q : k ≡ event_refusal im (length sheet) s e) where
  -- a refused Event hands the session back and leaves the sheet
  pub refused_step : (k ≡ 0 → ⊥) → refused_with s k ≡ event_step im sheet s e
  unfolding event_step
  refused_step h = sym (rw (← q) (if_ne k 0 _ _ h))

  pub refused_sheet : (k ≡ 0 → ⊥) → sheet ≡ event_sheet im sheet s e
  unfolding event_sheet
  refused_sheet h = sym (rw (← q) (if_ne k 0 _ _ h))

  -- any other is the step of the session's mode
  pub stepped : k ≡ 0 → step_of im sheet s e ≡ event_step im sheet s e
  unfolding event_step
  stepped h = sym (rw (← q) (if_eq k 0 _ _ h))

  pub stepped_sheet : k ≡ 0 → sheet_of im sheet s e ≡ event_sheet im sheet s e
  unfolding event_sheet
  stepped_sheet h = sym (rw (← q) (if_eq k 0 _ _ h))

-- what an Event that is not refused has tested
pub record EventGranted (im : List ℕ) (extent : ℕ) (s : Session) (e : ℕ) : Type 0 where
  pub granted : Granted im extent s
  pub known : e ≤ 16

pub event_granted : (im : List ℕ) (extent : ℕ) (s : Session) (e : ℕ) → event_refusal im extent s e ≡ 0 → EventGranted im extent s e
unfolding event_refusal
event_granted im extent s e h =
    let a = none_before _ _ h in
    record { granted = session_granted im extent s a.0; known = leb-true e 16 (none_unless 13 _ (λ z. omega arith) a.1) }
