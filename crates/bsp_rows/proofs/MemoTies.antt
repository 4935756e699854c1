-- What the audit finds of memos, and sound memos.
use Rattle.std.proofs.Common.{◌≡◌, ℕ, ◌≤◌, ◌==◌, List, map, count_by, Some, sym, ap, subst, ◌∙◌, nat_cmp}
use Rattle.std.specs.Ordering.{eq_by_cmp}
use Rattle.std.specs.Cmp.{IsTotalOrder, nat_cmp_total, on_total, then_total}
use Rattle.std.specs.BTreeMap.{BTreeMap, IsOrdered, values}
use Rattle.std.specs.FinMap.{FinMap, IsAntisymmetric, entries, get, nat_cmp-IsAntisymmetric}
use Rattle.std.proofs.lemmas.Bool.{and_parts, and_from, eqb-true, eq-eqb}
use Rattle.std.proofs.lemmas.Bool.Decides.{same_from_decides}
use Rattle.bsp_maps.proofs.Orderings.{then_equal}
use Rattle.bsp_calendar.specs.Published.{Published}
use Rattle.bsp_rules.specs.Verdicts.{limit_of}
use Rattle.bsp_memos.specs.declared.fields.MemoFields.{MemoFields}
use Rattle.bsp_rows.specs.Audit.{AreMemosAudited, as_map, parties_cmp, parties_of}
use Rattle.bsp_rows.specs.Rows.{memo_cmp, memo_key}
use Rattle.bsp_rows.specs.Sound.{AreSoundMemos, is_issued_to}
use Rattle.bsp_rows.specs.declared.keys.MemoKey.{MemoKey}
use Rattle.bsp_rows.specs.declared.limits.PartiesKey.{PartiesKey}
use Rattle.bsp_rows.proofs.CountTies.{count_alike, count_mapped, key_decides}
use Rattle.bsp_rows.proofs.DemandLemmas.{at_entry, same_entries}
use Rattle.bsp_rows.proofs.KeyOrders.{memo_total, memo_exact}

parties_total : IsTotalOrder parties_cmp
parties_total = then_total (on_total (λ (k : PartiesKey). k.airline) nat_cmp_total) (on_total (λ (k : PartiesKey). k.agent) nat_cmp_total)

parties_exact : IsAntisymmetric parties_cmp
parties_exact x y e =
    let both = then_equal (nat_cmp x.airline y.airline) (nat_cmp x.agent y.agent) e in
    let l = nat_cmp-IsAntisymmetric x.airline y.airline both.0 in
    let a = nat_cmp-IsAntisymmetric x.agent y.agent both.1 in
    λ i. record { airline = l i; agent = a i }

parties_alike : (k : PartiesKey) (e : MemoKey × MemoFields) → memo_key e.1 ≡ e.0 → eq_by_cmp parties_cmp k (parties_of e.1) ≡ is_issued_to k.agent k.airline e
parties_alike k e keyed =
    let airline : e.1.airline ≡ e.0.airline = ap (λ (x : MemoKey). x.airline) keyed in
    same_from_decides _ _ (key_decides parties_total parties_exact k (parties_of e.1)) (
      (λ h.
          let both = and_parts (e.1.agent == k.agent) (e.0.airline == k.airline) h in
          let a = eqb-true e.1.agent k.agent both.0 in
          let l = airline ∙ eqb-true e.0.airline k.airline both.1 in
          (λ n. record { airline = sym l n; agent = sym a n })),
      (λ same. and_from (e.1.agent == k.agent) (e.0.airline == k.airline) (eq-eqb e.1.agent k.agent (sym (ap (λ (x : PartiesKey). x.agent) same))) (eq-eqb e.0.airline k.airline (sym airline ∙ sym (ap (λ (x : PartiesKey). x.airline) same)))),
    )

module _ (p : Published) (agents : BTreeMap ℕ (List ℕ)) (m : BTreeMap MemoKey MemoFields) (ordered : IsOrdered memo_cmp m) where
  abbrev memos : FinMap memo_cmp MemoFields
  memos = as_map memo_cmp m

  memos_counted : ((k : MemoKey) (v : MemoFields) → get memos k ≡ Some v → memo_key v ≡ k) → (k : PartiesKey) → count_by (eq_by_cmp parties_cmp k) (map parties_of (values m)) ≡ count_by (is_issued_to k.agent k.airline) (entries memos)
  memos_counted keyed k =
      count_mapped (eq_by_cmp parties_cmp k) parties_of (values m)
      ∙ (count_mapped (λ (v : MemoFields). eq_by_cmp parties_cmp k (parties_of v)) (λ (e : MemoKey × MemoFields). e.1) m.entries
      ∙ (count_alike (λ (e : MemoKey × MemoFields). eq_by_cmp parties_cmp k (parties_of e.1)) (is_issued_to k.agent k.airline) m.entries (λ e in'. parties_alike k e (keyed e.0 e.1 (at_entry memo_total memo_exact m ordered e.0 e.1 in')))
      ∙ ap (count_by (is_issued_to k.agent k.airline)) (sym (same_entries memo_total memo_exact m ordered))))

  pub memos_sound : AreMemosAudited p agents m → AreSoundMemos p (as_map nat_cmp agents) memos
  memos_sound a = record {
    each = a.each;
    limit = λ agent airline. subst (λ (n : ℕ). n ≤ limit_of p.terms) (memos_counted (λ k v h. (a.each k v h).keyed) (record { airline = airline; agent = agent })) (a.limit (record { airline = airline; agent = agent }));
  }

  pub memos_audited : AreSoundMemos p (as_map nat_cmp agents) memos → AreMemosAudited p agents m
  memos_audited s = record {
    each = s.each;
    limit = λ k. subst (λ (n : ℕ). n ≤ limit_of p.terms) (sym (memos_counted (λ q v h. (s.each q v h).keyed) k)) (s.limit k.agent k.airline);
  }
