-- Sums fit the program's numbers.
use Rattle.std.proofs.Common.{◌≡◌, ℕ, ◌+◌, ◌-◌, ◌^◌, Bool, true, false, Option, Some, None, IfSome, refl, subst, arith}
use Rattle.std.proofs.lemmas.Option.{none-some}
use Rattle.bsp_hot_records.specs.declared.code.DocumentCode.{DocumentCode}
use Rattle.bsp_hot_records.specs.declared.code.DocumentCode.TheVariants.{Tktt, Rfnd, Canx, Adma, Acma}
use Rattle.bsp_hot_records.specs.declared.totals.Sums.{Sums}
use Rattle.bsp_hot_check.specs.declared.model.CodeSums.{CodeSums}
use Rattle.bsp_hot_records.specs.declared.model.Heading.{Heading}
use Rattle.bsp_hot_records.specs.declared.model.Part.{Part}
use Rattle.bsp_hot_records.specs.declared.model.Part.TheVariants as part_is
use Rattle.bsp_hot_records.specs.declared.model.PartOf.{PartOf}
use Rattle.bsp_hot_records.specs.declared.model.Record.{Record}
use Rattle.bsp_hot_records.specs.declared.model.Record.TheVariants as record_is
use Rattle.bsp_hot_check.specs.declared.model.Progress.{Progress}
use Rattle.bsp_hot_check.specs.declared.model.Place.{Place}
use Rattle.bsp_hot_check.specs.declared.model.Place.TheVariants.{Headed, Between, Opened, Begun, InDocument, Totalled, Closed, Ended}
use Rattle.bsp_hot_check.specs.declared.model.Standing.{Standing}
use Rattle.bsp_hot_records.specs.Sums.{no_sums, one_document, AreSmall}
use Rattle.bsp_hot_records.proofs.SizeLemmas.{no_small, one_small, small_add, small_more, one_longer}
use Rattle.bsp_hot_records.specs.Judged.{IsSmallPart, IsSmallRecord}
use Rattle.bsp_hot_check.specs.Standings.{key_of, sums_at, add_at, moved, counted, allowed, judged_sums, progress_behind, part_step, step, AreSmallSums, IsSmall, IsSmallNext}

-- the sums of one code are small where those of all are
pub small_at : (n : ℕ) (sums : CodeSums) (c : DocumentCode) → AreSmallSums n sums → AreSmall n (sums_at sums c)
small_at n sums Tktt h = h.tktt
small_at n sums Rfnd h = h.rfnd
small_at n sums Canx h = h.canx
small_at n sums Adma h = h.adma
small_at n sums Acma h = h.acma

-- ---- with one more record

longer : (n : ℕ) (sums : CodeSums) → AreSmallSums n sums → AreSmallSums (n + 1) sums
longer n sums h = record {
  tktt = one_longer n sums.tktt h.tktt;
  rfnd = one_longer n sums.rfnd h.rfnd;
  canx = one_longer n sums.canx h.canx;
  adma = one_longer n sums.adma h.adma;
  acma = one_longer n sums.acma h.acma;
}

pub small_add_at : (n : ℕ) (sums : CodeSums) (c : DocumentCode) (t : Sums) → AreSmallSums n sums → AreSmall 1 t → AreSmallSums (n + 1) (add_at sums c t)
small_add_at n sums Tktt t h one = record { tktt = small_add n 1 sums.tktt t h.tktt one; rfnd = one_longer n sums.rfnd h.rfnd; canx = one_longer n sums.canx h.canx; adma = one_longer n sums.adma h.adma; acma = one_longer n sums.acma h.acma }
small_add_at n sums Rfnd t h one = record { tktt = one_longer n sums.tktt h.tktt; rfnd = small_add n 1 sums.rfnd t h.rfnd one; canx = one_longer n sums.canx h.canx; adma = one_longer n sums.adma h.adma; acma = one_longer n sums.acma h.acma }
small_add_at n sums Canx t h one = record { tktt = one_longer n sums.tktt h.tktt; rfnd = one_longer n sums.rfnd h.rfnd; canx = small_add n 1 sums.canx t h.canx one; adma = one_longer n sums.adma h.adma; acma = one_longer n sums.acma h.acma }
small_add_at n sums Adma t h one = record { tktt = one_longer n sums.tktt h.tktt; rfnd = one_longer n sums.rfnd h.rfnd; canx = one_longer n sums.canx h.canx; adma = small_add n 1 sums.adma t h.adma one; acma = one_longer n sums.acma h.acma }
small_add_at n sums Acma t h one = record { tktt = one_longer n sums.tktt h.tktt; rfnd = one_longer n sums.rfnd h.rfnd; canx = one_longer n sums.canx h.canx; adma = one_longer n sums.adma h.adma; acma = small_add n 1 sums.acma t h.acma one }

pub small_part : (x : Part) → IsSmallPart x → AreSmall 1 (judged_sums x)
small_part (part_is.Amounts taxed) h = no_small 1
small_part (part_is.Commission amount) h = record { documents = omega arith; cash = omega arith; credit = omega arith; commission = omega arith; tax = omega arith }
small_part (part_is.CommissionTax amount) h = record { documents = omega arith; cash = omega arith; credit = omega arith; commission = omega arith; tax = omega arith }
small_part (part_is.Related other) h = no_small 1
small_part (part_is.Cash amount) h = record { documents = omega arith; cash = omega arith; credit = omega arith; commission = omega arith; tax = omega arith }
small_part (part_is.Credit amount) h = record { documents = omega arith; cash = omega arith; credit = omega arith; commission = omega arith; tax = omega arith }
small_part part_is.Exchange h = no_small 1

-- with room for many more
pub part_room : (x : Part) → IsSmallPart x → AreSmall (2 ^ 63 - 1) (judged_sums x)
part_room x h = small_more 1 (2 ^ 63 - 1) (judged_sums x) (omega arith) (small_part x h)

small_moved : (at : Standing) (p : Place) → IsSmall at → IsSmall (moved at p)
small_moved at p h = record {
  offices = omega (arith, h.offices);
  transactions = omega (arith, h.transactions);
  file = one_longer at.records at.file h.file;
  codes = longer at.records at.office.codes h.codes;
  all = one_longer at.records at.office.all h.all;
}

small_counted : (at : Standing) (x : Progress) (s : Sums) → IsSmall at → AreSmall 1 s → IsSmall (counted at x s)
small_counted at x s h one = record {
  offices = omega (arith, h.offices);
  transactions = omega (arith, h.transactions);
  file = small_add at.records 1 at.file s h.file one;
  codes = small_add_at at.records at.office.codes x.code s h.codes one;
  all = small_add at.records 1 at.office.all s h.all one;
}

by_allowed : (test : Bool) (at x next : Standing) → allowed test x ≡ Some next → IsSmallNext at x → IsSmallNext at next
by_allowed true at x next e g = let k : x ≡ next = cc in subst (IsSmallNext at) k g
by_allowed false at x next e g = absurd (none-some next e)

small_next_part : (at next : Standing) (place : Place) (heading : Option Heading) (y : PartOf) → IsSmall at → IsSmallPart y.part → part_step at place heading y ≡ Some next → IsSmallNext at next
small_next_part at next (InDocument x) (Some heading) y h one e =
    by_allowed _ at (counted at (progress_behind heading.form x y.part) (judged_sums y.part)) next e (record { records = refl; small = small_counted at (progress_behind heading.form x y.part) (judged_sums y.part) h (small_part y.part one) })
small_next_part at next _ _ y h one e = absurd (none-some next e)

small_next : (at next : Standing) (r : Record) → IsSmall at → IsSmallRecord r → step at r ≡ Some next → IsSmallNext at next
unfolding step
small_next at next (record_is.FileHeader heading) h one e =
    let m = small_moved at Headed h in
    by_allowed _ at _ next e (record { records = refl; small = record { offices = m.offices; transactions = m.transactions; file = m.file; codes = m.codes; all = m.all } })
small_next at next (record_is.PeriodHeader period) h one e = by_allowed _ at _ next e (record { records = refl; small = small_moved at Between h })
small_next at next (record_is.OfficeHeader o) h one e =
    let m = small_moved at Opened h in
    by_allowed _ at _ next e (record { records = refl; small = record { offices = m.offices; transactions = m.transactions; file = m.file; codes = m.codes; all = m.all } })
small_next at next (record_is.TransactionHeader t) h one e =
    let m = small_moved at Begun h in
    by_allowed _ at _ next e (record { records = refl; small = record { offices = m.offices; transactions = omega (arith, h.transactions); file = m.file; codes = m.codes; all = m.all } })
small_next at next (record_is.Document d) h one e =
    let known : IsSmall (record at { office = record at.office { latest = Some (key_of d) } }) = record { offices = h.offices; transactions = h.transactions; file = h.file; codes = h.codes; all = h.all } in
    by_allowed _ at _ next e (record { records = refl; small = small_counted _ _ one_document known one_small })
small_next at next (record_is.PartOf y) h one e = small_next_part at next at.place at.heading y h one e
small_next at next (record_is.CodeTotals t) h one e = by_allowed _ at _ next e (record { records = refl; small = small_moved at (Totalled t.code) h })
small_next at next (record_is.OfficeTotals t) h one e =
    let m = small_moved at Between h in
    let n = at.records + 1 in
    let codes : AreSmallSums n (record { tktt = no_sums; rfnd = no_sums; canx = no_sums; adma = no_sums; acma = no_sums }) =
    record { tktt = no_small n; rfnd = no_small n; canx = no_small n; adma = no_small n; acma = no_small n } in
    by_allowed _ at _ next e (record { records = refl; small = record { offices = omega (arith, h.offices); transactions = m.transactions; file = m.file; codes = codes; all = no_small n } })
small_next at next (record_is.PeriodTotals t) h one e = by_allowed _ at _ next e (record { records = refl; small = small_moved at Closed h })
small_next at next (record_is.FileTotals t) h one e = by_allowed _ at _ next e (record { records = refl; small = small_moved at Ended h })

by_answer : (at : Standing) (r : Record) (o : Option Standing) → IsSmall at → IsSmallRecord r → step at r ≡ o → IfSome o (IsSmallNext at)
by_answer at r None h one e = tt
by_answer at r (Some next) h one e = small_next at next r h one e

-- what a record brings
pub all_small : (at : Standing) (r : Record) → IsSmall at → IsSmallRecord r → IfSome (step at r) (IsSmallNext at)
all_small at r h one = by_answer at r (step at r) h one refl
