use Rattle.std.proofs.Common.{◌≡◌, true, IsSome, sym, subst, ap, ◌∙◌}
use Rattle.std.specs.FinMap.{get}
use Rattle.std.specs.Ordering.{nat_cmp}
use Rattle.bsp_fields.specs.CivilDay.{CivilDay}
use Rattle.bsp_calendar.specs.DayOrder.{is_up_to}
use Rattle.bsp_memos.specs.Memos.{is_memo}
use Rattle.bsp_memos.specs.declared.fields.MemoFields.{MemoFields}
use Rattle.bsp_rows.specs.Audit.{as_map}
use Rattle.bsp_rows.proofs.rules.SoundMemoDemandMemoKeyMemo.is_met.Goals as goal

pub returns : goal.returns
returns c =
    let same = c.fields-fields.ensures.value in
    let plan = c.args.self.now.plan.now in (
      (λ h. record {
        keyed = c.is_keyed.ensures.0 c.if-not-is_keyed.false;
        fit = subst (λ (m : MemoFields). is_memo m ≡ true) same c.fields-fields.ensures.fit;
        registered = subst (λ (m : MemoFields). IsSome (get (as_map nat_cmp c.args.self.now.agents.now) m.agent)) same (c.is_registered.ensures.0 c.if-not-is_registered.false);
        issued = ap (λ (m : MemoFields). is_up_to m.issued plan.day) (sym same) ∙ (ap (λ (d : CivilDay). is_up_to c.fields-fields.result.now.issued d) (sym c.day.ensures) ∙ (sym c.is_up_to.ensures ∙ c.if-not-is_up_to.false));
        billed = c.is_billing_sound.ensures.0 h;
      }),
      (λ s. c.is_billing_sound.ensures.1 s.billed),
    )
