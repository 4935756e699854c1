-- What is accepted stays, its repetition is held, and its number has one owner.
use Rattle.std.proofs.Common.{◌≡◌, ℕ, ◌≢◌, true, List, [], ◌∷◌, Option, Some, None, is_some, option_map, refl, sym, ap, subst, ◌∙◌, inl, inr}
use Rattle.std.specs.Result.{result_ok}
use Rattle.std.specs.FinMap.{FinMap, get}
use Rattle.std.proofs.lemmas.List.Elements.{All-contains}
use Rattle.bsp_rows.specs.Decimal.{fixed_digits}
use Rattle.bsp_rows.specs.Transaction.{Transaction}
use Rattle.bsp_rows.specs.GroupValues.{is_group_values}
use Rattle.bsp_rows.specs.FactsOf.{facts_in}
use Rattle.bsp_rows.specs.RulesRows.{IsHeld, held_period, is_canx}
use Rattle.bsp_rows.specs.Meanings.{IsReporterOf}
use Rattle.bsp_rows.specs.Item.{Item}
use Rattle.bsp_rows.specs.Reporter.{Reporter}
use Rattle.bsp_rows.specs.Reporter.TheVariants.{Office, Agent}
use Rattle.bsp_rows.specs.Verdict.{Verdict}
use Rattle.bsp_rows.specs.Verdict.TheVariants as verdict
use Rattle.bsp_rows.proofs.MeaningLemmas.{agent_is_reporters, held_is_found}
use Rattle.bsp_rows.proofs.SameContentLemmas.{held_is}
use Rattle.bsp_rows.specs.declared.keys.ItemKey.{ItemKey}
use Rattle.bsp_rows.specs.declared.keys.RangeKey.{RangeKey}
use Rattle.bsp_rows.specs.Changes.{IsAcceptance, after_accepted, facts_at, sale_key}
use Rattle.bsp_rows.specs.Rows.{Rows, agent_items, agent_token, item_cmp, key_of}
use Rattle.bsp_rows.specs.Sound.{HasNumber, Sound}
use Rattle.bsp_rows.proofs.KeptLemmas.{accepted_free}
use Rattle.bsp_rows.proofs.KeyOrders.{item_exact, item_total}
use Rattle.bsp_rows.proofs.MapLemmas.{get_written, same_Some}
use Rattle.bsp_rows.proofs.RowLemmas.{among_items, item_among}
use Rattle.bsp_rows.proofs.TakenLemmas.{ends, fate, left, mid_at, taken}
use Rattle.bsp_office_spec.specs.Laws.{FilesAreTaken, HasAccepted, IsAcceptedIn, IsHeldIn, NumbersHaveOneOwner, RepeatsAreHeld}
use Rattle.bsp_office_spec.specs.Ledger.{Ledger, agent_of, ledger_of, new_item, own_verdict, own_verdicts}
use Rattle.bsp_office_spec.specs.Step.{AreGroups, bearer, joined, office_verdict, office_verdict_for, office_verdicts, reporter, rows_filed, rows_judged}
use Rattle.bsp_office_spec.proofs.ChangeLemmas.{office_file_keeps, office_judged_keeps, own_file_keeps, own_judged_keeps, part_verdict}
use Rattle.bsp_office_spec.proofs.Invariant.{IsKept, sound_is_kept}
use Rattle.bsp_office_spec.proofs.Runs.{run_keeps}
use Rattle.bsp_office_spec.proofs.SeenLemmas.{judged_own}
use Rattle.bsp_office_spec.proofs.StepLemmas.{reads_back, same_digits}

-- ---- what is accepted stays

not_mapped : {A B : Type 0} (f : A → B) (found : Option A) → option_map f found ≡ None → found ≡ None
not_mapped f None h = refl
not_mapped f (Some x) h = absurd (cc h)

pub free_before : (who : Reporter) (rows : Rows) (item : Item) → Sound rows → IsAcceptance who rows item → get rows.items (key_of item) ≡ None
free_before who rows item s a =
    not_mapped (left (ends (is_canx item) (sale_key item) (key_of item))) (get rows.items (key_of item))
    (sym (mid_at rows (sale_key item) (key_of item) (is_canx item)) ∙ accepted_free who rows item s a)

stays : (who : Reporter) (rows : Rows) (item : Item) (agent : ℕ) (t : Transaction) (period : ℕ) → Sound rows → IsAcceptance who rows item → HasAccepted rows agent t period → HasAccepted (after_accepted item rows) agent t period
stays who rows item agent t period s a h = record {
  key = h.key;
  own = h.own;
  item = fate item h.key h.item;
  there = (taken rows item (free_before who rows item s a)).kept h.key h.item h.there;
  content = h.content;
  period_is = h.period_is;
}

-- sound rows in which an agent has it
pub record Has (agent : ℕ) (t : Transaction) (period : ℕ) (rows : Rows) : Type 0 where
  pub sound : Sound rows
  pub has : HasAccepted rows agent t period

-- rows with the same items
pub as_before : (agent : ℕ) (t : Transaction) (period : ℕ) (rows new : Rows) → new.items ≡ rows.items → HasAccepted rows agent t period → HasAccepted new agent t period
as_before agent t period rows new same h = record { key = h.key; own = h.own; item = h.item; there = ap (λ (m : FinMap item_cmp Item). get m h.key) same ∙ h.there; content = h.content; period_is = h.period_is }

pub has_is_kept : (agent : ℕ) (t : Transaction) (period : ℕ) → IsKept (Has agent t period)
has_is_kept agent t period = record {
  sound = λ rows h. h.sound;
  accepted = λ who rows item h a. record { sound = sound_is_kept.accepted who rows item h.sound a; has = stays who rows item agent t period h.sound a h.has };
  planned = λ rows r h. record { sound = sound_is_kept.planned rows r h.sound; has = as_before agent t period rows _ refl h.has };
  closed = λ rows code plan terms h c o k. record { sound = sound_is_kept.closed rows code plan terms h.sound c o k; has = as_before agent t period rows _ refl h.has };
  issued = λ rows c d b kind amount reason h r f k l. record { sound = sound_is_kept.issued rows c d b kind amount reason h.sound r f k l; has = as_before agent t period rows _ refl h.has };
  acted = λ rows memo action h k. record { sound = sound_is_kept.acted rows memo action h.sound k; has = as_before agent t period rows _ refl h.has };
  allotted = λ rows b range h k o m. record { sound = sound_is_kept.allotted rows b range h.sound k o m; has = as_before agent t period rows _ refl h.has };
  withdrawn = λ rows b range h k u. record { sound = sound_is_kept.withdrawn rows b range h.sound k u; has = as_before agent t period rows _ refl h.has };
  agent = λ rows b token h. record { sound = sound_is_kept.agent rows b token h.sound; has = as_before agent t period rows _ refl h.has };
  airline = λ rows c token h. record { sound = sound_is_kept.airline rows c token h.sound; has = as_before agent t period rows _ refl h.has };
}

-- ---- its repetition is held

-- two items of an agent with one transaction are one
one_item : (rows : Rows) (k l : ItemKey) (i j : Item) → Sound rows → get rows.items k ≡ Some i → get rows.items l ≡ Some j → k.agent ≡ l.agent → i.transaction ≡ j.transaction → i ≡ j
one_item rows k l i j s at there own same =
    let keyed = (s.items.each k i at).right.keyed in
    let beside = (s.items.each l j there).right.keyed in
    let agents : i.agent ≡ j.agent = ap (λ (x : ItemKey). x.agent) keyed ∙ (own ∙ sym (ap (λ (x : ItemKey). x.agent) beside)) in
    let keys : key_of i ≡ key_of j = λ n. key_of (record i { agent = agents n; transaction = same n }) in
    same_Some i j (sym at ∙ (ap (get rows.items) (sym keyed ∙ (keys ∙ beside)) ∙ there))

held_as : (rows : Rows) (agent : ℕ) (t : Transaction) (period : ℕ) → Sound rows → HasAccepted rows agent t period → (found : Option ℕ) → IsHeld t (agent_items agent rows) found → found ≡ Some period
held_as rows agent t period s h None none = absurd (All-contains (λ i. i.transaction ≢ t) (agent_items agent rows) h.item none (among_items rows agent h.key h.item h.there h.own) h.content)
held_as rows agent t period s h (Some p) (j, among, content, is) =
    let (k, there, own) = item_among rows agent j among in
    let same : j ≡ h.item = one_item rows k h.key j h.item s there h.there (own ∙ sym h.own) (content ∙ sym h.content) in
    ap (λ (n : ℕ). Some n) (sym is ∙ (ap (λ (x : Item). x.period) same ∙ h.period_is))

found_at : (rows : Rows) (agent : ℕ) (t : Transaction) → ((facts_at agent t rows).held ≡ held_period t (agent_items agent rows)) × ((facts_at agent t rows).registered ≡ is_some (agent_token agent rows))
unfolding facts_in
found_at rows agent t = (refl, refl)

held_by : (who : Reporter) (rows : Rows) (agent : ℕ) (t : Transaction) (period : ℕ) → Sound rows → HasAccepted rows agent t period → IsReporterOf who t → own_verdict who (ledger_of agent rows) t ≡ verdict.Held period
held_by who rows agent t period s h reports =
    let f = facts_at agent t rows in
    let found = found_at rows agent t in
    let known : f.registered ≡ true = found.1 ∙ (ap (λ (a : ℕ). is_some (agent_token a rows)) (sym h.own) ∙ (s.items.each h.key h.item h.there).registered) in
    let right = (agent_is_reporters who t f).1 (known, reports) in
    let held : f.held ≡ Some period = found.0 ∙ held_as rows agent t period s h (held_period t (agent_items agent rows)) (held_is t (agent_items agent rows)) in
    part_verdict who agent rows t ∙ (held_is_found who t f rows.published period).1 (right, held)

-- it bears the agent, as the eight digits of its code
pub bears : (rows : Rows) (agent : ℕ) (t : Transaction) (period : ℕ) → Sound rows → HasAccepted rows agent t period → agent_of t.agent ≡ Some agent
bears rows agent t period s h =
    let right = (s.items.each h.key h.item h.there).right in
    let own : h.item.agent ≡ agent = ap (λ (k : ItemKey). k.agent) right.keyed ∙ h.own in
    ap (λ (u : Transaction). agent_of u.agent) (sym h.content) ∙ (ap result_ok right.bears ∙ ap (λ (n : ℕ). Some n) own)

-- ---- in a file

module _ (agent : ℕ) (t : Transaction) (period : ℕ) where
  abbrev kept : IsKept (Has agent t period)
  kept = has_is_kept agent t period

  -- whose digits read back
  reads : (rows : Rows) → Has agent t period rows → agent_of (fixed_digits 8 agent) ≡ Some agent
  reads rows h = reads_back t.agent agent (bears rows agent t period h.sound h.has)

  office_held_one : (rows : Rows) → Has agent t period rows → office_verdict rows t ≡ verdict.Held period
  office_held_one rows h =
      ap (λ r. office_verdict_for r rows t) (bears rows agent t period h.sound h.has) ∙ held_by Office rows agent t period h.sound h.has tt

  own_held_one : (rows : Rows) → Has agent t period rows → own_verdict (Agent agent) (ledger_of agent rows) t ≡ verdict.Held period
  own_held_one rows h = held_by (Agent agent) rows agent t period h.sound h.has (sym (same_digits t.agent agent (bears rows agent t period h.sound h.has)))

  pub office_held : (ts : List Transaction) (rows : Rows) → Has agent t period rows → AreGroups ts → IsHeldIn t period ts (office_verdicts rows ts)
  office_held [] rows h groups = tt
  office_held (u ∷ us) rows h groups = (
    (λ same. ap (office_verdict rows) same ∙ office_held_one rows h),
    office_held us (rows_judged bearer u (office_verdict rows u) rows) (office_judged_keeps (Has agent t period) kept u rows h groups.0 (office_verdict rows u) refl) groups.1,
  )

  pub own_held : (ts : List Transaction) (rows : Rows) → Has agent t period rows → AreGroups ts → IsHeldIn t period ts (own_verdicts agent (ledger_of agent rows) ts)
  own_held [] rows h groups = tt
  own_held (u ∷ us) rows h groups =
      let v : Verdict = own_verdict (Agent agent) (ledger_of agent rows) u in
      let next : Rows = rows_judged (reporter (Some agent)) u v rows in (
        (λ same. ap (own_verdict (Agent agent) (ledger_of agent rows)) same ∙ own_held_one rows h),
        subst (λ (l : Ledger). IsHeldIn t period us (own_verdicts agent l us)) (judged_own agent u v rows)
            (own_held us next (own_judged_keeps (Has agent t period) kept agent u rows (reads rows h) h groups.0 v refl) groups.1),
      )

  -- ---- what a file has accepted

  joins : (rows : Rows) → HasAccepted (after_accepted (new_item agent (ledger_of agent rows) t period) rows) agent t period
  joins rows = record {
    key = key_of (new_item agent (ledger_of agent rows) t period);
    own = refl;
    item = new_item agent (ledger_of agent rows) t period;
    there = get_written item_total item_exact _ (key_of (new_item agent (ledger_of agent rows) t period)) (new_item agent (ledger_of agent rows) t period);
    content = refl;
    period_is = refl;
  }

  -- after the office's file has it accepted at a place
  pub office_joins : (u : Transaction) (rows : Rows) → Sound rows → is_group_values u ≡ true → agent_of t.agent ≡ Some agent → u ≡ t → office_verdict rows u ≡ verdict.Accepted period → Has agent t period (rows_judged bearer u (office_verdict rows u) rows)
  office_joins u rows s group own same accepted = record {
    sound = office_judged_keeps Sound sound_is_kept u rows s group (office_verdict rows u) refl;
    has = subst (λ (x : Verdict). HasAccepted (rows_judged bearer u x rows) agent t period) (sym accepted)
        (subst (λ (x : Transaction). HasAccepted (joined (agent_of x.agent) x period rows) agent t period) (sym same)
        (subst (λ (r : Option ℕ). HasAccepted (joined r t period rows) agent t period) (sym own) (joins rows)));
  }

  -- and after its agent's file has
  pub own_joins : (u : Transaction) (rows : Rows) → Sound rows → is_group_values u ≡ true → agent_of t.agent ≡ Some agent → u ≡ t →
      let v = own_verdict (Agent agent) (ledger_of agent rows) u in
      v ≡ verdict.Accepted period → Has agent t period (rows_judged (reporter (Some agent)) u v rows)
  own_joins u rows s group own same accepted = record {
    sound = own_judged_keeps Sound sound_is_kept agent u rows (reads_back t.agent agent own) s group (own_verdict (Agent agent) (ledger_of agent rows) u) refl;
    has = subst (λ (x : Verdict). HasAccepted (rows_judged (reporter (Some agent)) u x rows) agent t period) (sym accepted)
        (subst (λ (x : Transaction). HasAccepted (joined (Some agent) x period rows) agent t period) (sym same) (joins rows));
  }

  office_taken : (ts : List Transaction) (rows : Rows) → Sound rows → AreGroups ts → agent_of t.agent ≡ Some agent → IsAcceptedIn t period ts (office_verdicts rows ts) → HasAccepted (rows_filed bearer ts (office_verdicts rows ts) rows) agent t period
  office_taken [] rows s groups own h = elim h [ ]
  office_taken (u ∷ us) rows s groups own (inl (same, accepted)) =
      let v : Verdict = office_verdict rows u in
      let next : Rows = rows_judged bearer u v rows in
      (office_file_keeps (Has agent t period) kept us next (office_joins u rows s groups.0 own same accepted) groups.1).has
  office_taken (u ∷ us) rows s groups own (inr later) =
      office_taken us (rows_judged bearer u (office_verdict rows u) rows) (office_judged_keeps Sound sound_is_kept u rows s groups.0 (office_verdict rows u) refl) groups.1 own later

  own_taken : (ts : List Transaction) (rows : Rows) → Sound rows → AreGroups ts → agent_of t.agent ≡ Some agent → IsAcceptedIn t period ts (own_verdicts agent (ledger_of agent rows) ts) → HasAccepted (rows_filed (reporter (Some agent)) ts (own_verdicts agent (ledger_of agent rows) ts) rows) agent t period
  own_taken [] rows s groups own h = elim h [ ]
  own_taken (u ∷ us) rows s groups own (inl (same, accepted)) =
      let v : Verdict = own_verdict (Agent agent) (ledger_of agent rows) u in
      let next : Rows = rows_judged (reporter (Some agent)) u v rows in
      let back = reads_back t.agent agent own in
      subst (λ (l : Ledger). HasAccepted (rows_filed (reporter (Some agent)) us (own_verdicts agent l us) next) agent t period) (judged_own agent u v rows)
      (own_file_keeps (Has agent t period) kept agent us next back (own_joins u rows s groups.0 own same accepted) groups.1).has
  own_taken (u ∷ us) rows s groups own (inr later) =
      let v : Verdict = own_verdict (Agent agent) (ledger_of agent rows) u in
      let next : Rows = rows_judged (reporter (Some agent)) u v rows in
      let move : ledger_of agent next ≡ _ = judged_own agent u v rows in
      subst (λ (l : Ledger). HasAccepted (rows_filed (reporter (Some agent)) us (own_verdicts agent l us) next) agent t period) move
      (own_taken us next (own_judged_keeps Sound sound_is_kept agent u rows (reads_back t.agent agent own) s groups.0 v refl) groups.1 own
      (subst (λ (l : Ledger). IsAcceptedIn t period us (own_verdicts agent l us)) (sym move) later))

pub files_are_taken : FilesAreTaken
files_are_taken rows agent t period ts s groups own = (office_taken agent t period ts rows s groups own, own_taken agent t period ts rows s groups own)

pub repeats_are_held : RepeatsAreHeld
repeats_are_held office rows exchanges new agent t period ts run fits s h groups =
    let at_end = run_keeps (Has agent t period) (has_is_kept agent t period) office rows exchanges new run fits (record { sound = s; has = h }) in
    (at_end.has, office_held agent t period ts new at_end groups, own_held agent t period ts new at_end groups)

-- ---- one owner

pub one_owner : NumbersHaveOneOwner
one_owner rows k l i j s at there same =
    let mine = (s.items.each k i at).in_stock in
    let beside = (s.items.each l j there).in_stock in
    let one : mine.key ≡ beside.key = s.ranges.apart.once mine.key beside.key l.number (subst (λ (n : ℕ). HasNumber rows.ranges mine.key n) same mine.has) beside.has in
    sym mine.own ∙ (ap (λ (r : RangeKey). r.agent) one ∙ beside.own)
