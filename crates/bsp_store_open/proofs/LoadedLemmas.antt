-- From one table to the next, as they are put into memory.
use Rattle.bsp_store_base.proofs.Std.{◌∙◌, ◌≡◌, AllByRecursion, ap, Bool, empty, entries, false, false≢true, FinMap, get, is_some, IsPermutation, List, map, nat_cmp, None, none-some, Option, refl, Some, subst, subst₂, sym, true, ℕ}
use Rattle.sqlite_trees.specs.Tree.{Trees}
use Rattle.bsp_store_base.proofs.Entries.{item_cmp, no_rows, Rows, Sound}
use Rattle.bsp_store_load.specs.MemoryRowsTables.{IsDerived, rows_of}
use Rattle.bsp_store_load.specs.Tables.{Tables}
use Rattle.bsp_store_base.proofs.Base.{agent_part, airline_part, columns_of, commission_tax_part, Content, content_with, form, IsFormed, item_part, item_tax_part, KeepsRows, meta_part, Part, period_part, rate_part, second_part, second_row, seconds_of, stock_part, tally_part, tally_tax_part, tax_row, terms_part, ticket_cmp, width_of}
use Rattle.bsp_store_load.specs.Beside.{IsJoined, IsStoredItem, kept_tax, taxes_of}
use Rattle.bsp_store_load.specs.Contents.{IsContentOf, content_now}
use Rattle.bsp_store_load.specs.ItemTax.{ItemTax}
use Rattle.bsp_store_load.specs.Loading.{HasRows}
use Rattle.bsp_store_load.specs.ReportedDocument.{ReportedDocument}
use Rattle.bsp_store_load.proofs.BesideLemmas.{seconds_checked, seconds_fit, tax_rows, taxes_formed}
use Rattle.bsp_store_load.proofs.BesideLoaders.{seconds_loader, taxes_loader}
use Rattle.bsp_store_load.proofs.Building.{content_of, formed_plan}
use Rattle.bsp_store_load.proofs.CallerLoaders.{agents_loader, ranges_loader}
use Rattle.bsp_store_load.proofs.JoinLemmas.{items_joined, items_may}
use Rattle.bsp_store_load.proofs.Loaders.{Leaves, Loads, others, rows_here, whole_here}
use Rattle.bsp_store_load.proofs.SaleLoaders.{items_loader, memos_loader}
use Rattle.bsp_store_load.proofs.TaxedLemmas.{LeavesTaxed, LoadsTaxed, all_are_left, none_is_left, plainly, still, were_taxes_of}
use Rattle.bsp_store_load.proofs.TableLemmas.{items_right, memos_fit, memos_may}
use Rattle.bsp_store_open.specs.Loaded.{AreCallersLoaded, AreItemsLoaded, AreRight, AreSalesLoaded, AreSecondsRead, AreTaxesRead, HasNoCallers, HasNoSales, IsAllLoaded, IsBeside, IsPlanned, KeepsNone, NoFormed, NoRight, OtherTallies}
use Rattle.bsp_store_load.specs.Stored.{AreRowsOfPlan, IsFormedPlan}
use Rattle.bsp_store_load.specs.Published.{Published}
use Rattle.bsp_store_load.specs.SoundPlan.{IsSoundPlan}
use Rattle.bsp_store_load.specs.declared.plan_rows.PlanRows.{PlanRows}
use Rattle.bsp_store_load.proofs.TallyLemmas.{content_is}
use Rattle.bsp_store_open.specs.Opening.{ArePlanRows, IsDamage, IsOfVersion, Reports, ShowsNoBook}
use Rattle.bsp_store_open.specs.declared.fault.OpenFault.{OpenFault}
use Rattle.bsp_store_open.specs.declared.fault.OpenFault.TheVariants.{Damaged}
use Rattle.bsp_store_open.proofs.OpeningLemmas.{not_other}

-- all rows were put, or one was left
pub none_left : {X : Type 0} (o : Option X) (b : Bool) → b ≡ is_some o → b ≡ false → o ≡ None
none_left None b is none = refl
none_left (Some x) b is none = absurd (false≢true (sym none ∙ is))

pub one_left : {X : Type 0} (o : Option X) (b : Bool) → b ≡ is_some o → b ≡ true → (x : X) × (o ≡ Some x)
one_left None b is some = absurd (false≢true (sym is ∙ some))
one_left (Some x) b is some = (x, refl)

-- ---- agents and ranges

module _ (trees : Trees) (zero one two : Rows) (none : HasNoCallers zero) where
  module _ (agents : Loads agents_loader trees zero one None) where
    agents_only : one ≡ record zero { agents = one.agents }
    agents_only = others agents_loader trees zero one None agents

    no_ranges : one.ranges ≡ empty
    no_ranges = ap (λ (r : Rows). r.ranges) agents_only ∙ none.ranges

    pub callers_loaded : Loads ranges_loader trees one two None → AreCallersLoaded trees zero two
    callers_loaded ranges =
        let ranges_only : two ≡ record one { ranges = two.ranges } = others ranges_loader trees one two None ranges in
        let same_agents : two.agents ≡ one.agents = ap (λ (r : Rows). r.agents) ranges_only in
        let put_ranges : Rows → Rows = λ r. record r { ranges = two.ranges } in
        let whole : two ≡ record zero { agents = one.agents; ranges = two.ranges } = ranges_only ∙ ap put_ranges agents_only in
        record {
          others = whole ∙ (λ i. record zero { agents = sym same_agents i; ranges = two.ranges });
          agents = subst (λ m. IsPermutation (map (columns_of (width_of agent_part.tree)) (trees agent_part.tree)) (map agents_loader.row_of (entries m))) (sym same_agents) (rows_here agents_loader trees zero one None agents none.agents refl);
          ranges = rows_here ranges_loader trees one two None ranges no_ranges refl;
          whole = λ c formed keeps.
              let with_ranges : Rows → Rows = λ r. record r { ranges = c.ranges } in
              (whole_here ranges_loader trees one two None ranges no_ranges c formed keeps formed.ranges).1
              ∙ ap with_ranges (whole_here agents_loader trees zero one None agents none.agents c formed keeps formed.agents).1;
        }

    pub no_ranges_loaded : Leaves ranges_loader trees one two → NoFormed trees
    no_ranges_loaded ranges c formed keeps = none-some _ (sym (whole_here ranges_loader trees one two (Some ranges.0) ranges.1 no_ranges c formed keeps formed.ranges).0)

  pub no_agents_loaded : Leaves agents_loader trees zero one → NoFormed trees
  no_agents_loaded agents c formed keeps = none-some _ (sym (whole_here agents_loader trees zero one (Some agents.0) agents.1 none.agents c formed keeps formed.agents).0)

-- ---- what the tables beside that of items keep

module _ (trees : Trees) (zero one : FinMap item_cmp ItemTax) (none : zero ≡ empty) where
  pub taxes_read : Loads taxes_loader trees zero one None → AreTaxesRead trees one
  taxes_read taxes = record {
    rows = rows_here taxes_loader trees zero one None taxes none refl;
    whole = λ c formed keeps. (whole_here taxes_loader trees zero one None taxes none c formed keeps (taxes_formed c.item_taxes formed.item_taxes)).1;
  }

  pub no_taxes_read : Leaves taxes_loader trees zero one → NoFormed trees
  no_taxes_read taxes c formed keeps = none-some _ (sym (whole_here taxes_loader trees zero one (Some taxes.0) taxes.1 none c formed keeps (taxes_formed c.item_taxes formed.item_taxes)).0)

module _ (trees : Trees) (zero one : FinMap ticket_cmp ReportedDocument) (none : zero ≡ empty) where
  pub seconds_read : Loads seconds_loader trees zero one None → AreSecondsRead trees one
  seconds_read seconds = record {
    rows = rows_here seconds_loader trees zero one None seconds none refl;
    whole = λ c formed right keeps. (whole_here seconds_loader trees zero one None seconds none c formed keeps right.fit).1;
  }

  pub no_seconds_read : Leaves seconds_loader trees zero one → NoRight trees
  no_seconds_read seconds c formed right keeps = none-some _ (sym (whole_here seconds_loader trees zero one (Some seconds.0) seconds.1 none c formed keeps right.fit).0)

-- ---- items

module _ (trees : Trees) (zero one : Rows) (none : HasNoSales zero) (taxes : FinMap item_cmp ItemTax) (seconds : FinMap ticket_cmp ReportedDocument) (read : AreTaxesRead trees taxes) (documents : AreSecondsRead trees seconds) where
  -- the items of a content that the trees keep have what the maps have
  items_fit : (c : Content) → IsFormed c → AreRight c → KeepsRows form c trees → AllByRecursion (IsStoredItem taxes seconds) (entries c.items)
  items_fit c formed right keeps =
      let own_taxes : taxes ≡ taxes_of c.items = read.whole c formed keeps ∙ ap taxes_of right.taxed in
      let own_seconds : seconds ≡ seconds_of c.items = documents.whole c formed right keeps ∙ right.related in
      items_may taxes seconds (entries c.items) formed.items right.items
      (subst (λ m. AllByRecursion (IsJoined m seconds) (entries c.items)) (sym own_taxes) (subst (λ m. AllByRecursion (IsJoined (taxes_of c.items) m) (entries c.items)) (sym own_seconds) right.joined))

  no_items_loaded : Leaves (items_loader taxes seconds) trees zero one → NoRight trees
  no_items_loaded items c formed right keeps = none-some _ (sym (whole_here (items_loader taxes seconds) trees zero one (Some items.0) items.1 none.items c formed keeps (items_fit c formed right keeps)).0)

  -- the same as the taxes are taken out of those that are left
  module _ (left : FinMap item_cmp ItemTax) where
    all_left : kept_tax taxes zero.items ≡ get taxes
    all_left = all_are_left taxes zero.items none.items

    module _ (loads : LoadsTaxed seconds trees (zero, kept_tax taxes zero.items) (one, kept_tax left one.items) None) where
      kept : kept_tax left one.items ≡ get taxes
      kept = still taxes seconds trees (zero, kept_tax taxes zero.items) (one, kept_tax left one.items) None all_left loads

      plain : Loads (items_loader taxes seconds) trees zero one None
      plain = plainly taxes seconds trees (zero, kept_tax taxes zero.items) (one, kept_tax left one.items) None all_left loads

      items_whole : (c : Content) → IsFormed c → AreRight c → KeepsRows form c trees → one ≡ record zero { items = c.items }
      items_whole c formed right keeps = (whole_here (items_loader taxes seconds) trees zero one None plain none.items c formed keeps (items_fit c formed right keeps)).1

      pub taxed_loaded : IsBeside left seconds one.items → AreItemsLoaded trees zero one
      taxed_loaded beside = record {
        others = others (items_loader taxes seconds) trees zero one None plain;
        items = rows_here (items_loader taxes seconds) trees zero one None plain none.items refl;
        taxes = subst (IsPermutation _) (ap (λ m. map tax_row (entries m)) (were_taxes_of taxes left one.items kept beside.none_left) ∙ tax_rows one.items) read.rows;
        seconds = subst (IsPermutation _) (ap (λ m. map second_row (entries m)) beside.seconds_are) documents.rows;
        whole = items_whole;
      }

      -- maps that are not those of the items in memory
      pub others_left : (IsBeside left seconds one.items → ⊥) → NoRight trees
      others_left other c formed right keeps =
          let same : c.items ≡ one.items = sym (ap (λ (r : Rows). r.items) (items_whole c formed right keeps)) in
          other (record {
            none_left = none_is_left taxes left one.items kept (read.whole c formed keeps ∙ ap taxes_of (right.taxed ∙ same));
            seconds_are = documents.whole c formed right keeps ∙ right.related ∙ ap seconds_of same;
          })

    pub no_items_taxed : LeavesTaxed seconds trees (zero, kept_tax taxes zero.items) (one, kept_tax left one.items) → NoRight trees
    no_items_taxed row = no_items_loaded (row.0, plainly taxes seconds trees (zero, kept_tax taxes zero.items) (one, kept_tax left one.items) (Some row.0) all_left row.1)

-- ---- items and memos

module _ (trees : Trees) (zero one two : Rows) (none : HasNoSales zero) (items : AreItemsLoaded trees zero one) where
  no_memos : one.memos ≡ empty
  no_memos = ap (λ (r : Rows). r.memos) items.others ∙ none.memos

  pub sales_loaded : Loads memos_loader trees one two None → AreSalesLoaded trees zero two
  sales_loaded memos =
      let memos_only : two ≡ record one { memos = two.memos } = others memos_loader trees one two None memos in
      let same_items : two.items ≡ one.items = ap (λ (r : Rows). r.items) memos_only in
      let put_memos : Rows → Rows = λ r. record r { memos = two.memos } in
      let whole : two ≡ record zero { items = one.items; memos = two.memos } = memos_only ∙ ap put_memos items.others in
      record {
        others = whole ∙ (λ i. record zero { items = sym same_items i; memos = two.memos });
        items = subst (λ m. HasRows item_part (content_with (record one { items = m }) empty) trees) (sym same_items) items.items;
        taxes = subst (λ m. HasRows item_tax_part (content_with (record one { items = m }) empty) trees) (sym same_items) items.taxes;
        seconds = subst (λ m. HasRows second_part (content_with (record one { items = m }) empty) trees) (sym same_items) items.seconds;
        memos = rows_here memos_loader trees one two None memos no_memos refl;
        whole = λ c formed right keeps.
            let with_memos : Rows → Rows = λ r. record r { memos = c.memos } in
            (whole_here memos_loader trees one two None memos no_memos c formed keeps (memos_may (entries c.memos) formed.memos right.memos)).1 ∙ ap with_memos (items.whole c formed right keeps);
      }

  pub no_memos_loaded : Leaves memos_loader trees one two → NoRight trees
  no_memos_loaded memos c formed right keeps = none-some _ (sym (whole_here memos_loader trees one two (Some memos.0) memos.1 no_memos c formed keeps (memos_may (entries c.memos) formed.memos right.memos)).0)

-- ---- the plan

-- rows of the plan's tables are those of the plan of a book that the trees keep
plan_rows_of : (trees : Trees) (stored : PlanRows) → ArePlanRows trees stored → (book : Rows) (c : Content) → IsContentOf book c → IsFormed c → KeepsRows form c trees → AreRowsOfPlan book.published book.airlines stored
plan_rows_of trees stored are book c of formed keeps = record {
  meta = are.meta.in_order c formed keeps ∙ ap meta_part.rows of.same;
  terms = are.terms.in_order c formed keeps ∙ ap terms_part.rows of.same;
  airlines = are.airlines.in_order c formed keeps ∙ ap airline_part.rows of.same;
  rates = are.rates.in_order c formed keeps ∙ ap rate_part.rows of.same;
  periods = are.periods.in_order c formed keeps ∙ ap period_part.rows of.same;
  commission_taxes = are.commission_taxes.in_order c formed keeps ∙ ap commission_tax_part.rows of.same;
}

-- ---- all tables

module _ (trees : Trees) (zero : Rows) (planned : IsPlanned trees zero) where
  pub callers_none : HasNoCallers zero
  callers_none = record {
    agents = ap (λ (r : Rows). r.agents) planned.alone;
    ranges = ap (λ (r : Rows). r.ranges) planned.alone;
  }

  -- the trees keep no book
  pub shows_none : (fault : OpenFault) → IsDamage KeepsNone fault trees → ShowsNoBook fault trees
  shows_none fault damage = record {
    none = damage.1;
    meta = planned.stored.meta.items;
    all = planned.are.meta.in_any_order;
    reports = subst (λ f. Reports f planned.stored.meta.items) (sym damage.0) (not_other planned.stored.meta.items planned.version);
  }

  module _ (agents ranges : Rows) (read : Loads agents_loader trees zero agents None × Loads ranges_loader trees agents ranges None) where
    callers : AreCallersLoaded trees zero ranges
    callers = callers_loaded trees zero agents ranges callers_none read.0 read.1

    pub sales_none : HasNoSales ranges
    sales_none = record {
      items = ap (λ (r : Rows). r.items) callers.others ∙ ap (λ (r : Rows). r.items) planned.alone;
      memos = ap (λ (r : Rows). r.memos) callers.others ∙ ap (λ (r : Rows). r.memos) planned.alone;
    }

    module _ (book : Rows) (c : Content) (sound : Sound book) (of : IsContentOf book c) (formed : IsFormed c) (keeps : KeepsRows form c trees) where
      right : AreRight c
      right =
          let own : IsFormed (content_with book c.tallies) = subst IsFormed of.same formed in
          let items = items_right book sound in
          let it : AreRight (content_with book c.tallies) = record {
            items = items;
            memos = memos_fit book sound;
            taxed = refl;
            related = refl;
            joined = items_joined book sound;
            fit = seconds_fit (entries (seconds_of book.items)) own.seconds (seconds_checked book.items items);
          } in
          subst AreRight (sym of.same) it

      plan_is : zero ≡ record no_rows { published = book.published; airlines = book.airlines }
      plan_is = planned.only book.published book.airlines sound.plan (formed_plan book c of formed) (plan_rows_of trees planned.stored planned.are book c of formed keeps)

      pub book_is : (two : Rows) → AreSalesLoaded trees ranges two → two ≡ book
      book_is two sales =
          let with_callers : Rows → Rows = λ r. record r { agents = c.agents; ranges = c.ranges } in
          let with_sales : Rows → Rows = λ r. record r { items = c.items; memos = c.memos } in
          let rows_in : Content → Rows = λ d. record { published = book.published; agents = d.agents; airlines = book.airlines; ranges = d.ranges; items = d.items; memos = d.memos } in
          sales.whole c formed right keeps ∙ ap with_sales (callers.whole c formed keeps ∙ ap with_callers plan_is) ∙ ap rows_in of.same

    -- the items or the memos are those of no book
    pub none_kept : NoRight trees → KeepsNone trees
    none_kept none book c sound of formed keeps = none c formed (right book c sound of formed keeps) keeps

    module _ (items : Rows) (tables : Tables) (sold : (HasNoSales ranges → AreItemsLoaded trees ranges items) × Loads memos_loader trees items (rows_of tables) None) where
      sales : AreSalesLoaded trees ranges (rows_of tables)
      sales = sales_loaded trees ranges items (rows_of tables) sales_none (sold.0 sales_none) sold.1

      -- the rows are those of a book that the trees keep, and the content too
      pub other_sums : IsDerived tables → OtherTallies (content_now tables) trees → KeepsNone trees
      other_sums derived other book c sound of formed keeps = other c formed keeps (content_of tables book c derived (book_is book c sound of formed keeps (rows_of tables) sales) of)

      plan_rows_are : AreRowsOfPlan (rows_of tables).published (rows_of tables).airlines planned.stored
      plan_rows_are =
          let same_plan = ap (λ (r : Rows). r.published) sales.others ∙ ap (λ (r : Rows). r.published) callers.others in
          let same_airlines = ap (λ (r : Rows). r.airlines) sales.others ∙ ap (λ (r : Rows). r.airlines) callers.others in
          subst₂ (λ p m. AreRowsOfPlan p m planned.stored) (sym same_plan) (sym same_airlines) planned.of

      pub all_loaded : HasRows tally_part (content_now tables) trees × HasRows tally_tax_part (content_now tables) trees → IsAllLoaded trees tables
      all_loaded sums =
          let plan = plan_rows_are in
          let are = planned.are in
          let meta : HasRows meta_part (content_now tables) trees = subst (IsPermutation _) plan.meta are.meta.in_any_order in
          let terms : HasRows terms_part (content_now tables) trees = subst (IsPermutation _) plan.terms are.terms.in_any_order in
          let airlines : HasRows airline_part (content_now tables) trees = subst (IsPermutation _) plan.airlines are.airlines.in_any_order in
          let rates : HasRows rate_part (content_now tables) trees = subst (IsPermutation _) plan.rates are.rates.in_any_order in
          let periods : HasRows period_part (content_now tables) trees = subst (IsPermutation _) plan.periods are.periods.in_any_order in
          let published : HasRows commission_tax_part (content_now tables) trees = subst (IsPermutation _) plan.commission_taxes are.commission_taxes.in_any_order in
          let agents_are : HasRows agent_part (content_now tables) trees = rw (ap (λ (r : Rows). r.agents) sales.others) callers.agents in
          let ranges_are : HasRows stock_part (content_now tables) trees = rw (ap (λ (r : Rows). r.ranges) sales.others) callers.ranges in
          record {
            rows = (meta, (terms, (airlines, (rates, (periods, (agents_are, (ranges_are, (sales.items, (sales.memos, (sums.0, (published, (sales.taxes, (sums.1, (sales.seconds, tt))))))))))))));
            only = λ book c sound of formed keeps. book_is book c sound of formed keeps (rows_of tables) sales;
            stored = planned.stored;
            are = are;
            version = planned.version;
          }

-- a commit in memory keeps what was loaded
pub still_loaded : (trees : Trees) (a b : Tables) → IsDerived a → IsDerived b → rows_of b ≡ rows_of a → IsAllLoaded trees a → IsAllLoaded trees b
still_loaded trees a b was derived same loaded =
    let content : content_now a ≡ content_now b = content_of b (rows_of a) (content_now a) derived same (content_is (rows_of a) _ was.totals) in
    record {
      rows = subst (λ c. AllByRecursion (λ (p : Part Content). HasRows p c trees) form.parts) content loaded.rows;
      only = λ book c sound of formed keeps. same ∙ loaded.only book c sound of formed keeps;
      stored = loaded.stored;
      are = loaded.are;
      version = loaded.version;
    }

-- ---- what is refused

-- rows that are those of no plan
pub no_plan : (trees : Trees) (stored : PlanRows) → ArePlanRows trees stored → IsOfVersion stored.meta.items → ((p : Published) (tokens : FinMap nat_cmp (List ℕ)) → IsSoundPlan p → IsFormedPlan p tokens → AreRowsOfPlan p tokens stored → ⊥) → ShowsNoBook Damaged trees
no_plan trees stored are version none = record {
  none = λ book c sound of formed keeps. none book.published book.airlines sound.plan (formed_plan book c of formed) (plan_rows_of trees stored are book c of formed keeps);
  meta = stored.meta.items;
  all = are.meta.in_any_order;
  reports = not_other stored.meta.items version;
}

-- tables whose rows are not sound
pub not_sound : (fault : OpenFault) (trees : Trees) (tables : Tables) → IsAllLoaded trees tables → (fault ≡ Damaged) × ¬ Sound (rows_of tables) → ShowsNoBook fault trees
not_sound fault trees tables loaded unsound = record {
  none = λ book c sound of formed keeps. unsound.1 (subst Sound (sym (loaded.only book c sound of formed keeps)) sound);
  meta = loaded.stored.meta.items;
  all = loaded.are.meta.in_any_order;
  reports = subst (λ f. Reports f loaded.stored.meta.items) (sym unsound.0) (not_other loaded.stored.meta.items loaded.version);
}
