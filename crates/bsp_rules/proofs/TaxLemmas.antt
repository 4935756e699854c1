-- Lemmas on the tax on commission.
use Rattle.std.proofs.Common.{◌≡◌, ℕ, ℤ, pos, negsuc, suc, neg_ℤ, ◌+◌, ◌*◌, ◌/◌, Bool, true, false, cond, List, [], ◌∷◌, Option, Some, None, refl, ap, ◌∙◌, arith}
use Rattle.bsp_fields.specs.CivilDay.{CivilDay}
use Rattle.bsp_fields.specs.Days.{day_number}
use Rattle.bsp_calendar.specs.DayOrder.{is_before, is_up_to}
use Rattle.bsp_calendar.specs.Published.{Published, is_taxed}
use Rattle.bsp_calendar.specs.declared.entries.Period.{Period}
use Rattle.bsp_calendar.proofs.DayLemmas.{before_true, below_weaker, up_to_from, up_to_itself, up_to_trans, up_to_true}
use Rattle.bsp_calendar.proofs.GrowsLemmas.{untaxed_zero}
use Rattle.bsp_ret_records.specs.declared.codes.TransactionCode.{TransactionCode}
use Rattle.bsp_ret_records.specs.declared.codes.TransactionCode.TheVariants.{Tktt, Rfnd, Canx}
use Rattle.bsp_ret_records.specs.declared.transactions.Transaction.{Transaction}
use Rattle.bsp_rules.specs.declared.facts.RelatedDocument.{RelatedDocument}
use Rattle.bsp_rules.specs.Amounts.{commission_amount}
use Rattle.bsp_rules.specs.Commission.{commission_on}
use Rattle.bsp_rules.specs.Tax.{UntaxedInForm1, earlier_of, earliest, hundredths_for, tax_on, ticket_issued}

-- ---- the day whose tax is taken is not after the date of issue

pub up_to_later : (a b c : CivilDay) → is_up_to a b ≡ true → is_up_to b c ≡ true → is_up_to a c ≡ true
up_to_later a b c h k =
    up_to_from (day_number a) (day_number c) (up_to_trans _ _ _ (up_to_true (day_number a) (day_number b) h) (up_to_true (day_number b) (day_number c) k))

earlier_up_to : (day : CivilDay) (other : Option CivilDay) → is_up_to (earlier_of day other) day ≡ true
earlier_up_to day None = up_to_itself (day_number day)
earlier_up_to day (Some other) = by (is_before other day) refl where
  by : (b : Bool) → is_before other day ≡ b → is_up_to (cond b other day) day ≡ true
  by true is = up_to_from (day_number other) (day_number day) (below_weaker _ _ (before_true (day_number other) (day_number day) is))
  by false is = up_to_itself (day_number day)

pub earliest_up_to : (related : List (Option RelatedDocument)) (issued : CivilDay) → is_up_to (earliest issued related) issued ≡ true
earliest_up_to [] issued = up_to_itself (day_number issued)
earliest_up_to (place ∷ places) issued =
    let first = earlier_of issued (ticket_issued place) in
    up_to_later (earliest first places) first issued (earliest_up_to places first) (earlier_up_to issued (ticket_issued place))

-- ---- no tax

no_part : (n : ℕ) → (0 * n + 5_000) / 10_000 ≡ 0
no_part n = omega arith

nothing_taken : (b : ℤ) → commission_on 0 b ≡ pos 0
unfolding commission_on
nothing_taken (pos n) = ap (λ (x : ℕ). pos x) (no_part n)
nothing_taken (negsuc n) = ap (λ (x : ℕ). neg_ℤ (pos x)) (no_part (suc n))

none_taken : (t : Transaction) (related : List (Option RelatedDocument)) (p : Published) (q : Period) → is_taxed p q ≡ false → is_up_to t.issued q.last ≡ true
    → (code : TransactionCode) → hundredths_for (record t { code = code }) related p ≡ 0
unfolding hundredths_for
none_taken t related p q form up Tktt = untaxed_zero p q t.issued form up
none_taken t related p q form up Rfnd =
    untaxed_zero p q (earliest t.issued related) form (up_to_later (earliest t.issued related) t.issued q.last (earliest_up_to related t.issued) up)
none_taken t related p q form up Canx = refl

pub untaxed : UntaxedInForm1
untaxed t related p q form up =
    let none = none_taken t related p q form up t.code in
    (none, ap (λ (h : ℕ). tax_on h t) none ∙ nothing_taken (commission_amount t.amounts))
