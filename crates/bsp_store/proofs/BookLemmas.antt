-- What a call makes of a book that is kept, by what it makes of the book in memory.
use Rattle.std.proofs.Common.{◌≡◌, false, true, refl, sym, ap, ◌∙◌, subst, Result, Ok, Err, OnOk, Option, Some, IfOk}
use Rattle.bsp_rows.specs.Rows.{Rows}
use Rattle.bsp_book.specs.Calls.{Answers, FallsBack, Faults, GoesBack, LeavesBegun, LeavesLast, LooksUp, Makes, Meaning, is_failed}
use Rattle.bsp_book.specs.declared.fault.BookFault.{BookFault}
use Rattle.bsp_store_open.specs.Formed.{AreFormed}
use Rattle.bsp_store.specs.Meanings.{IsKeptBook, is_over, meaning}
use Rattle.bsp_store.specs.declared.book.KeptBook.{KeptBook}
use Rattle.bsp_store.specs.declared.book.State.TheVariants.{Works}

module _ {L C : Type 0} (m : Meaning L Rows) (keeps : C → Rows → Type 0) (leaves : C → Rows → Rows → Type 0) (never : (list : L) → m.has_failed list ≡ false) where
  abbrev kept : Meaning (KeptBook L C) Rows
  kept = meaning m keeps leaves

  module _ (book : KeptBook L C) {was : L} (found : (was ≡ book.list) × (book.state ≡ Works)) (list : L) {T : Type 0} (r : Result T BookFault) where
    works : book.state ≡ Works
    works = found.1

    -- the book with another book in memory
    abbrev next : KeptBook L C
    next = record book { list = list }

    fell_back : Faults m book.list list (FallsBack m book.list list) (LeavesLast m book.list list) r → Faults kept book next (FallsBack kept book next) (LeavesLast kept book next) r
    fell_back fault = record {
      trust = λ t. tt;
      full = λ e now last holds. record { works = works; listed = fault.full e now last holds.listed; formed = holds.was_formed; was_formed = holds.was_formed; kept = holds.kept };
      failed = ap is_over works ∙ (sym (never list) ∙ fault.failed);
      left = λ e was. absurd (let yes : is_failed r ≡ true = subst (λ q. is_failed q ≡ true) (sym e) refl in let no = sym (never list) ∙ fault.failed in cc (yes, no));
      dead = λ was. absurd (let none : is_over book.state ≡ false = ap is_over works in cc (was, none));
    }

    went_back : Faults m book.list list (GoesBack m book.list list) (LeavesBegun m book.list list) r → Faults kept book next (GoesBack kept book next) (LeavesBegun kept book next) r
    went_back fault = record {
      trust = λ t. tt;
      full = λ e now begun holds. record { works = works; listed = fault.full e now begun holds.listed; formed = holds.was_formed; was_formed = holds.was_formed; kept = holds.kept };
      failed = ap is_over works ∙ (sym (never list) ∙ fault.failed);
      left = λ e was. absurd (let yes : is_failed r ≡ true = subst (λ q. is_failed q ≡ true) (sym e) refl in let no = sym (never list) ∙ fault.failed in cc (yes, no));
      dead = λ was. absurd (let none : is_over book.state ≡ false = ap is_over works in cc (was, none));
    }

    -- a look-up
    pub looked : ((it : L) → m.trusts it) → {V : Type 0} (see : T → V) (answer : Rows → V) → LooksUp m was list r see answer → LooksUp kept book next r see answer
    looked right see answer call = let looks = subst (λ before. LooksUp m before list r see answer) found.0 call in record { found = on_found r looks.found; ok = on_ok r looks.ok; fault = went_back looks.fault }
      where
        on_found : (q : Result T BookFault) → IfOk q (λ found. m.trusts list → (now : Rows) (begun : Option Rows) → m.holds book.list now begun → see found ≡ answer now) → IfOk q (λ found. kept.trusts next → (now : Rows) (begun : Option Rows) → IsKeptBook m keeps book now begun → see found ≡ answer now)
        on_found (Ok x) found = λ t now begun holds. found (right list) now begun holds.listed
        on_found (Err e) found = tt

        on_ok : (q : Result T BookFault) → OnOk q ((now : Rows) (begun : Option Rows) → m.holds book.list now begun → m.holds list now begun) → OnOk q ((now : Rows) (begun : Option Rows) → IsKeptBook m keeps book now begun → IsKeptBook m keeps next now begun)
        on_ok (Ok x) ok = λ now begun holds. record { works = works; listed = ok now begun holds.listed; formed = holds.formed; was_formed = holds.was_formed; kept = holds.kept }
        on_ok (Err e) ok = tt

    -- a write, after which the rows are formed
    pub written : (P : Rows → Type 0) (f : Rows → Rows) → ((now : Rows) → P now → AreFormed now → AreFormed (f now)) → Makes m was list r P f → Makes kept book next r P f
    written P f so call = let makes = subst (λ before. Makes m before list r P f) found.0 call in record { ok = on_ok r makes.ok; fault = fell_back makes.fault }
      where
        on_ok : (q : Result T BookFault) → OnOk q ((now last : Rows) → P now → m.holds book.list now (Some last) → m.holds list (f now) (Some last)) → OnOk q ((now last : Rows) → P now → IsKeptBook m keeps book now (Some last) → IsKeptBook m keeps next (f now) (Some last))
        on_ok (Ok x) ok = λ now last may holds. record { works = works; listed = ok now last may holds.listed; formed = so now may holds.formed; was_formed = holds.was_formed; kept = holds.kept }
        on_ok (Err e) ok = tt

    -- a request that is answered, after which the plan in memory is formed
    pub answered : ((it : L) → m.trusts it) → (answer : Rows → T) (f : Rows → Rows) → ((now last : Rows) → m.holds list (f now) (Some last) → AreFormed now → AreFormed (f now)) → Answers m was list r answer f → Answers kept book next r answer f
    answered right answer f so call = let answers = subst (λ before. Answers m before list r answer f) found.0 call in record { found = on_found r answers.found; ok = on_ok r answers.ok; fault = fell_back answers.fault }
      where
        on_found : (q : Result T BookFault) → IfOk q (λ found. m.trusts list → (now last : Rows) → m.holds book.list now (Some last) → found ≡ answer now) → IfOk q (λ found. kept.trusts next → (now last : Rows) → IsKeptBook m keeps book now (Some last) → found ≡ answer now)
        on_found (Ok x) found = λ t now last holds. found (right list) now last holds.listed
        on_found (Err e) found = tt

        on_ok : (q : Result T BookFault) → OnOk q ((now last : Rows) → m.holds book.list now (Some last) → m.holds list (f now) (Some last)) → OnOk q ((now last : Rows) → IsKeptBook m keeps book now (Some last) → IsKeptBook m keeps next (f now) (Some last))
        on_ok (Ok x) ok = λ now last holds. let after = ok now last holds.listed in record { works = works; listed = after; formed = so now last after holds.formed; was_formed = holds.was_formed; kept = holds.kept }
        on_ok (Err e) ok = tt
