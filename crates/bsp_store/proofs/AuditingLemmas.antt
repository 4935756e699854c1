-- From the rows that an audit finds to what the store keeps.
use Rattle.std.proofs.Common.{◌≡◌, ℕ, length, None, Result, Ok, Err, IfOk, sym, ap, subst, ◌∙◌}
use Rattle.bsp_store_base.specs.Std.{entries, IfErr, IsAntisymmetric, IsTotalOrder, MatchResult, Ordering, true}
use Rattle.std.specs.BTreeMap.{BTreeMap, IsOrdered as AreKeysOrdered}
use Rattle.bsp_store_base.proofs.Sqlite.{Ghosts, Held, IsQuiet}
use Rattle.bsp_store_base.proofs.Entries.{as_map, Rows, same_entries}
use Rattle.bsp_book.specs.Listed.{Holds as ListHolds}
use Rattle.bsp_book.specs.declared.list.ListBook.{ListBook}
use Rattle.bsp_store_open.specs.Contents.{KeepsBook}
use Rattle.bsp_store_open.specs.Faults.{is_refusal}
use Rattle.bsp_store_open.specs.Opening.{IsOrdered, IsRead, Reopens}
use Rattle.bsp_store_open.specs.declared.fault.OpenFault.{OpenFault}
use Rattle.bsp_store_open.specs.declared.fault.OpenFault.TheVariants.{NoRoom}
use Rattle.bsp_store_open.proofs.OpeningLemmas.{still_clean}
use Rattle.bsp_store_save.specs.Kept.{Spares}
use Rattle.bsp_store.specs.Auditing.{HasNone, IsAudited, IsFound, IsSummaryOf, WasRefused, fault_in}
use Rattle.bsp_store.specs.declared.audit.AuditFault.{AuditFault}
use Rattle.bsp_store.specs.declared.audit.Summary.{Summary}

-- as many entries as a map has keys
pub entry_count : {K V : Type 0} {R : K → K → Ordering} (o : IsTotalOrder R) (exact : IsAntisymmetric R) (m : BTreeMap K V) (count : ℕ) → count ≡ length m.entries → AreKeysOrdered R m → count ≡ length (entries (as_map R m))
entry_count o exact m count is ordered = is ∙ ap length (sym (same_entries o exact m ordered))

pub summary_is : (rows others : Rows) (s : Summary) → rows ≡ others → IsSummaryOf others s → IsSummaryOf rows s
summary_is rows others s is it = subst (λ r. IsSummaryOf r s) (sym is) it

module _ {S : Type 0} (g : Ghosts S) where
  -- a book in memory that was read
  pub found_rows : {X : Type 0} (IsOf : Rows → X → Type 0) (old new : Held S) (list : ListBook) (rows : Rows) (x : X) → IsRead g old new list rows → ((r : Rows) → ListHolds list r None → IsOf r x) → IsFound IsOf g old new x
  found_rows IsOf old new list rows x read is = record { rows = rows; sound = read.sound; is_of = is rows read.listed; earlier = read.earlier; kept = read.found }

  -- what was found at fault, whatever is asked since
  none_later : (fault : OpenFault) (old mid new : Held S) → HasNone g fault old mid → Spares g mid new → HasNone g fault old new
  none_later fault old mid new none spares = record { ours = λ clean. none.ours (spares.earlier clean); older = λ clean. none.older (spares.earlier clean); others = λ clean. none.others (spares.earlier clean) }

  pub refused_later : (e : AuditFault) (fault : OpenFault) (old mid new : Held S) → fault_in e ≡ fault → (is_refusal fault ≡ true → HasNone g fault old mid) → Spares g mid new
      → is_refusal (fault_in e) ≡ true → HasNone g (fault_in e) old new
  refused_later e fault old mid new is none spares refused =
      subst (λ f. HasNone g f old new) (sym is) (none_later fault old mid new (none (subst (λ f. is_refusal f ≡ true) is refused)) spares)

  -- a connection was audited that was opened again, and was then given up
  module _ (before now later : Held S) (again : Reopens g before now) (left : S) (quiet : IsQuiet g.view g.faults g.recovers g.is_shielded later.store left) where
    pub passed : {X : Type 0} (IsOf : Rows → X → Type 0) (r : Result X AuditFault) → IfOk r (λ x. IsOrdered g now → IsFound IsOf g now later x) → IfOk r (IsAudited IsOf g before left)
    passed IsOf (Ok x) finds =
        let it = finds again.ordered in
        record {
          rows = it.rows;
          sound = it.sound;
          is_of = it.is_of;
          kept = λ clean. let is = still_clean g later left quiet clean in subst (KeepsBook it.rows) (again.trees (it.earlier is)) (it.kept is);
        }
    passed IsOf (Err e) finds = tt

    pub refused : {X : Type 0} (r : Result X AuditFault) → IfErr r (λ e. is_refusal (fault_in e) ≡ true → HasNone g (fault_in e) now later)
        → IfErr r (λ e. is_refusal (fault_in e) ≡ true → WasRefused g (fault_in e) before left)
    refused (Ok s) none = tt
    refused (Err e) none = λ is clean. (now, again, (later, still_clean g later left quiet clean, none is))

-- what is answered of a book that was read
module _ {X : Type 0} (Is : ListBook → X → Type 0) where
  abbrev IsAnswered : Result ListBook OpenFault → Result X OpenFault → Type 0
  IsAnswered read r = MatchResult read (λ list. MatchResult r (Is list) (λ fault. fault ≡ NoRoom)) (λ fault. r ≡ Err fault)

  pub answered_ok : (read : Result ListBook OpenFault) (r : Result X OpenFault) → IsAnswered read r → (P : ListBook → Type 0) → IfOk read P → (Q : X → Type 0) → ((list : ListBook) (x : X) → P list → Is list x → Q x)
      → IfOk r Q
  answered_ok (Ok list) (Ok x) is P it Q so = so list x it is
  answered_ok (Ok list) (Err f) is P it Q so = tt
  answered_ok (Err e) (Ok x) is P it Q so = absurd (cc is)
  answered_ok (Err e) (Err f) is P it Q so = tt

  pub answered_err : (read : Result ListBook OpenFault) (r : Result X OpenFault) → IsAnswered read r → (Q : OpenFault → Type 0) → IfErr read (λ f. is_refusal f ≡ true → Q f) → IfErr r (λ f. is_refusal f ≡ true → Q f)
  answered_err (Ok list) (Ok x) is Q it = tt
  answered_err (Ok list) (Err f) is Q it = λ refused. absurd (cc (refused, ap is_refusal is))
  answered_err (Err e) r is Q it = subst (λ q. IfErr q (λ f. is_refusal f ≡ true → Q f)) (sym is) it
