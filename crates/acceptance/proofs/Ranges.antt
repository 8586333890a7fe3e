-- The numbers that an image is refused with are 2 to 11.
use Prim.Native.Nat.{ℕ, ◌≤◌}
use mathlib.Core.List.{List}
use lib.Dec.{lit≤}
use Rattle.field.specs.declared.record.Field.{Field}
use Rattle.acceptance.specs.Faults.{Structure, TitleFault, HeadFault, ComponentFault, PrologFault, Applies, Refused}

prolog_range : {im : List ℕ} {k : ℕ} → PrologFault im k → (2 ≤ k) × (k ≤ 11)
prolog_range (PrologFault.short x) = (lit≤ tt, lit≤ tt)
prolog_range (PrologFault.long x) = (lit≤ tt, lit≤ tt)
prolog_range (PrologFault.id_c x) = (lit≤ tt, lit≤ tt)
prolog_range (PrologFault.id_m x) = (lit≤ tt, lit≤ tt)
prolog_range (PrologFault.id_f x) = (lit≤ tt, lit≤ tt)
prolog_range (PrologFault.major x) = (lit≤ tt, lit≤ tt)
prolog_range (PrologFault.minor x) = (lit≤ tt, lit≤ tt)
prolog_range (PrologFault.mark_low x) = (lit≤ tt, lit≤ tt)
prolog_range (PrologFault.mark_high x) = (lit≤ tt, lit≤ tt)

title_range : {im : List ℕ} {left t k : ℕ} → TitleFault im left t k → (2 ≤ k) × (k ≤ 11)
title_range (TitleFault.cut x) = (lit≤ tt, lit≤ tt)
title_range (TitleFault.deep x) = (lit≤ tt, lit≤ tt)

head_range : {im : List ℕ} {lines n before at p k : ℕ} → HeadFault im lines n before at p k → (2 ≤ k) × (k ≤ 11)
head_range (HeadFault.cut x) = (lit≤ tt, lit≤ tt)
head_range (HeadFault.wrong x) = (lit≤ tt, lit≤ tt)
head_range (HeadFault.misplaced x) = (lit≤ tt, lit≤ tt)
head_range (HeadFault.padding h x) = (lit≤ tt, lit≤ tt)
head_range (HeadFault.unmarked z x) = (lit≤ tt, lit≤ tt)
head_range (HeadFault.marked z x) = (lit≤ tt, lit≤ tt)
head_range (HeadFault.previous z f x) = (lit≤ tt, lit≤ tt)
head_range (HeadFault.hundredth x) = (lit≤ tt, lit≤ tt)
head_range (HeadFault.many x) = (lit≤ tt, lit≤ tt)
head_range (HeadFault.password w x) = (lit≤ tt, lit≤ tt)

part_range : {im : List ℕ} {extent : ℕ} {fs : List Field} {at p k : ℕ} → ComponentFault im extent fs at p k → (2 ≤ k) × (k ≤ 11)
part_range (ComponentFault.cut x) = (lit≤ tt, lit≤ tt)
part_range (ComponentFault.wrong x) = (lit≤ tt, lit≤ tt)
part_range (ComponentFault.padding h x) = (lit≤ tt, lit≤ tt)
part_range (ComponentFault.many f x) = (lit≤ tt, lit≤ tt)
part_range (ComponentFault.settings f x) = (lit≤ tt, lit≤ tt)
part_range (ComponentFault.long f x) = (lit≤ tt, lit≤ tt)
part_range (ComponentFault.outside f x) = (lit≤ tt, lit≤ tt)
part_range (ComponentFault.shared f x) = (lit≤ tt, lit≤ tt)

applies_range : (im : List ℕ) (extent : ℕ) (fs : List Field) (lines : ℕ) (x : Structure) (k : ℕ) → Applies im extent fs lines x k → (2 ≤ k) × (k ≤ 11)
unfolding Applies
applies_range im extent fs lines (Structure.title left t) k f = title_range f
applies_range im extent fs lines (Structure.head n before at p) k f = head_range f
applies_range im extent fs lines (Structure.component at p) k f = part_range f

pub refused_range : {im : List ℕ} {extent k : ℕ} → Refused im extent k → (2 ≤ k) × (k ≤ 11)
refused_range {im} {extent} {k} (Refused.prolog l) = prolog_range l.applies
refused_range {im} {extent} {k} (Refused.structure x fs lines p c kept l) = applies_range im extent fs lines x k l.applies
