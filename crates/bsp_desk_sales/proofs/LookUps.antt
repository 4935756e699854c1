-- How a transaction ends where a call after some look-ups ends in a fault.
use Rattle.std.proofs.Common.{◌≡◌, Some, Result, Ok, Err, refl}
use Rattle.bsp_book.specs.Calls.{FallsBack, Faults, LeavesLast, LooksUp, Meaning}
use Rattle.bsp_book.specs.declared.fault.BookFault.{BookFault}
use Rattle.bsp_book.specs.declared.fault.BookFault.TheVariants.{NoRoom, Failed}
use Rattle.bsp_rows.specs.Rows.{Rows}
use Rattle.bsp_desk_sales.specs.Serves.{EndsOnFault}

-- ---- one result is no other

is_answered : {T : Type 0} (x : T) (e : BookFault) → (let answered : Result T BookFault = Ok x in answered ≡ Err e) → ⊥
is_answered x e h = absurd (cc h)

is_full : {T : Type 0} → (let full : Result T BookFault = Err NoRoom in full ≡ Err Failed) → ⊥
is_full h = absurd (cc h)

is_failed : {T : Type 0} → (let failed : Result T BookFault = Err Failed in failed ≡ Err NoRoom) → ⊥
is_failed h = absurd (cc h)

module _ {B : Type 0} {m : Meaning B Rows} {old new : B} where
  -- a look-up ends in the fault
  pub look_up_faulted : {T U V : Type 0} {see : T → V} {answer : Rows → V} (e : BookFault) → LooksUp m old new {T = T} (Err e) see answer → Faults m old new (FallsBack m old new) (LeavesLast m old new) {T = U} (Err e)
  look_up_faulted NoRoom look = record {
    trust = look.fault.trust;
    full = λ is now last h. look.fault.full refl now (Some last) h;
    failed = look.fault.failed;
    left = λ is. absurd (is_full is);
    dead = λ failed. absurd (is_full (look.fault.dead failed).0);
  }
  look_up_faulted Failed look = record {
    trust = look.fault.trust;
    full = λ is. absurd (is_failed is);
    failed = look.fault.failed;
    left = λ is works now last h. look.fault.left refl works now (Some last) h;
    dead = λ failed. (refl, (look.fault.dead failed).1);
  }

  -- a call ends in the fault that one in it ended in
  pub call_faulted : {T U : Type 0} (e : BookFault) → Faults m old new (FallsBack m old new) (LeavesLast m old new) {T = T} (Err e) → Faults m old new (FallsBack m old new) (LeavesLast m old new) {T = U} (Err e)
  call_faulted NoRoom fault = record {
    trust = fault.trust;
    full = λ is. fault.full refl;
    failed = fault.failed;
    left = λ is. absurd (is_full is);
    dead = λ failed. absurd (is_full (fault.dead failed).0);
  }
  call_faulted Failed fault = record {
    trust = fault.trust;
    full = λ is. absurd (is_failed is);
    failed = fault.failed;
    left = λ is. fault.left refl;
    dead = λ failed. (refl, (fault.dead failed).1);
  }

  -- a call that does not end in a fault
  pub call_answered : {T U : Type 0} {back stop : Type 0} {x : T} (y : U) → Faults m old new back stop (Ok x) → Faults m old new (FallsBack m old new) (LeavesLast m old new) (Ok y)
  call_answered {x = x} y fault = record {
    trust = fault.trust;
    full = λ is. absurd (is_answered y NoRoom is);
    failed = fault.failed;
    left = λ is. absurd (is_answered y Failed is);
    dead = λ failed. absurd (is_answered x Failed (fault.dead failed).0);
  }

  -- over sound rows
  pub over_sound : {T : Type 0} {result : Result T BookFault} → Faults m old new (FallsBack m old new) (LeavesLast m old new) result → EndsOnFault m old new result
  over_sound fault = record {
    trust = fault.trust;
    full = λ is trust now last sound h. fault.full is now last h;
    failed = fault.failed;
    left = λ is works trust now last sound h. fault.left is works now last h;
    dead = fault.dead;
  }

-- what comes after a look-up ends as it would without it
pub after_look_up : {B : Type 0} {m : Meaning B Rows} {old mid new : B} {T U V : Type 0} {x : T} {see : T → V} {answer : Rows → V} {result : Result U BookFault} → LooksUp m old mid (Ok x) see answer →
    Faults m mid new (FallsBack m mid new) (LeavesLast m mid new) result → Faults m old new (FallsBack m old new) (LeavesLast m old new) result
after_look_up {x = x} look ends = record {
  trust = λ t. look.fault.trust (ends.trust t);
  full = λ is now last h. ends.full is now last (look.ok now (Some last) h);
  failed = ends.failed;
  left = λ is works now last h. ends.left is look.fault.failed now last (look.ok now (Some last) h);
  dead = λ failed. absurd (is_answered x Failed (look.fault.dead failed).0);
}
