-- An opening from the store that was opened again for it.
use Rattle.bsp_store_base.proofs.Std.{◌∙◌, ◌≡◌, Err, false, false≢true, IsErrAnd, Ok, Result, subst, sym}
use Rattle.bsp_store_base.proofs.Sqlite.{Ghosts, Held}
use Rattle.bsp_store_open.specs.Faults.{is_refusal}
use Rattle.bsp_store_open.specs.Opening.{LeavesCommitted}
use Rattle.bsp_store_open.specs.declared.fault.OpenFault.{OpenFault}
use Rattle.bsp_store.specs.Adopting.{IsMadeOf}
use Rattle.bsp_store.specs.Meanings.{SqlBook}
use Rattle.bsp_store.specs.Openings.{IsOpening}
use Rattle.bsp_store.proofs.StopLemmas.{finds_book}
use Rattle.bsp_store.proofs.WholeLemmas.{whole_left}

module _ {S : Type 0} (g : Ghosts S) (before : Held S) where
  pub opening_of : (r : Result (SqlBook S) (OpenFault × S)) → IsMadeOf g before r → IsOpening g before r
  opening_of r made = record { adopts = made.adopts; refused = made.refused; left = made.left; stops = finds_book g before r made.adopts made.refused }

  -- the store was not opened again
  pub not_again : (r : Result (SqlBook S) (OpenFault × S)) (e : OpenFault × S) → IsErrAnd r (λ f. f ≡ e) → is_refusal e.0 ≡ false → LeavesCommitted g before e.1 → IsOpening g before r
  not_again (Ok book) e is fine left = absurd is
  not_again (Err f) e is fine left =
      subst (λ (q : OpenFault × S). IsOpening g before (Err q)) (sym is)
      (opening_of (Err e) (record { adopts = tt; refused = λ refused. absurd (false≢true (sym fine ∙ refused)); left = whole_left g before e.1 left }))
