-- Items that are put into memory as their taxes are taken out of those that are left.
use Rattle.bsp_store_base.proofs.Std.{[], ◌↔◌, ◌∙◌, ◌∷◌, ◌≡◌, ap, Bool, cond, empty, entries, Equal-is, Err, false, find, FinMap, from_entries, get, get-empty, get-from_entries, get-insert, get-remove, get_tied, IfOk, IfSome_then, insert, length, List, map, None, none-some, Ok, Option, option_map, option_xor, refl, remove, Result, same_map, Some, sym, tied_itself, true}
use Rattle.std.specs.Ordering.{eq_by_cmp, is_eq}
use Rattle.bsp_store_base.proofs.Sqlite.{Row, Trees}
use Rattle.bsp_store_base.proofs.Entries.{Item, item_cmp, item_exact, item_total, ItemKey, key_of, no_length, ReportedDocument, Rows, with_item}
use Rattle.bsp_store_base.proofs.Base.{item_part, item_row, tax_with, ticket_cmp}
use Rattle.bsp_store_columns.specs.declared.taxes.ItemTax.{ItemTax}
use Rattle.bsp_store_load.specs.Beside.{IsAwaited, IsRelatedItem, IsStoredItem, LacksItem, Taxed, kept_tax, taxes_of}
use Rattle.bsp_store_load.specs.Loading.{IsLoaded, LeavesRow, MayAll, after_all}
use Rattle.bsp_store_load.proofs.BesideLemmas.{get-taxes_of}
use Rattle.bsp_store_load.proofs.Loaders.{Loads}
use Rattle.bsp_store_load.proofs.SaleLoaders.{items_loader}

pub xor_none : {A : Type 0} (o : Option A) → option_xor o None ≡ o
xor_none None = refl
xor_none (Some x) = refl

-- ---- an item that is put, and its tax that is taken out

one_moves : (b : Bool) (tax : Option ItemTax) (found : Option Item) (item : Item) → (b ≡ true → tax ≡ Some (tax_with item)) → (b ≡ true → found ≡ None)
    → option_xor (cond b None tax) (option_map tax_with (cond b (Some item) found)) ≡ option_xor tax (option_map tax_with found)
one_moves true tax found item own none = sym (ap (λ o. option_xor o (option_map tax_with found)) (own refl) ∙ ap (λ o. option_xor (Some (tax_with item)) (option_map tax_with o)) (none refl))
one_moves false tax found item own none = refl

module _ (left : FinMap item_cmp ItemTax) (items : FinMap item_cmp Item) (k : ItemKey) (item : Item) (own : get left k ≡ Some (tax_with item)) (none : get items k ≡ None) where
  moves : (q : ItemKey) → kept_tax (remove left k) (insert items k item) q ≡ kept_tax left items q
  moves q =
      ap (λ o. option_xor o (option_map tax_with (get (insert items k item) q))) (get-remove item_total left k q)
      ∙ ap (λ o. option_xor (cond (eq_by_cmp item_cmp q k) None (get left q)) (option_map tax_with o)) (get-insert item_total items k item q)
      ∙ one_moves (eq_by_cmp item_cmp q k) (get left q) (get items q) item
      (λ e. sym (get_tied item_total left q k ((Equal-is (item_cmp q k)).0 e)) ∙ own)
      (λ e. sym (get_tied item_total items q k ((Equal-is (item_cmp q k)).0 e)) ∙ none)

  -- the tax that is kept at each key is as before
  pub still_kept : kept_tax (remove left k) (insert items k item) ≡ kept_tax left items
  still_kept = λ i q. moves q i

-- ---- where none is in memory yet, and where none is left

pub all_are_left : (left : FinMap item_cmp ItemTax) (items : FinMap item_cmp Item) → items ≡ empty → kept_tax left items ≡ get left
all_are_left left items none =
    let at : (q : ItemKey) → kept_tax left items q ≡ get left q = λ q.
    ap (λ m. option_xor (get left q) (option_map tax_with (get m q))) none ∙ ap (λ o. option_xor (get left q) (option_map tax_with o)) (get-empty item_cmp q) ∙ xor_none (get left q) in
    λ i q. at q i

not_twice : (tax : Option ItemTax) (found : Option Item) → option_xor tax (option_map tax_with found) ≡ option_map tax_with found → tax ≡ None
not_twice None found is = refl
not_twice (Some t) None is = absurd (none-some t (sym is))
not_twice (Some t) (Some i) is = absurd (none-some (tax_with i) is)

module _ (taxes left : FinMap item_cmp ItemTax) (items : FinMap item_cmp Item) (kept : kept_tax left items ≡ get taxes) where
  -- the taxes were those of the items in memory
  pub were_taxes_of : left ≡ empty → taxes ≡ taxes_of items
  were_taxes_of none = same_map item_total item_exact taxes (taxes_of items) (λ q.
      sym (ap (λ f. f q) kept)
      ∙ ap (λ m. option_xor (get m q) (option_map tax_with (get items q))) none
      ∙ ap (λ o. option_xor o (option_map tax_with (get items q))) (get-empty item_cmp q)
      ∙ sym (get-taxes_of items q))

  pub none_is_left : taxes ≡ taxes_of items → left ≡ empty
  none_is_left are = same_map item_total item_exact left empty (λ q.
      not_twice (get left q) (get items q) (ap (λ f. f q) kept ∙ ap (λ m. get m q) are ∙ get-taxes_of items q) ∙ sym (get-empty item_cmp q))

no_pairs : (es : List (ItemKey × ItemTax)) → from_entries {R = item_cmp} es ≡ empty → es ≡ []
no_pairs [] is = refl
no_pairs (e ∷ es) is =
    let some : get (from_entries {R = item_cmp} (e ∷ es)) e.0 ≡ Some e.1 = get-from_entries item_total (e ∷ es) e.0 ∙ ap (λ r. cond (is_eq r) (Some e.1) (find item_cmp e.0 es)) (tied_itself item_total e.0) in
    absurd (none-some e.1 (sym (ap (λ m. get m e.0) is ∙ get-empty item_cmp e.0) ∙ some))

-- a map in memory that has no entry
pub is_none_left : (es : List (ItemKey × ItemTax)) → (length es ≡ 0) ↔ (from_entries {R = item_cmp} es ≡ empty)
is_none_left es = (λ none. ap (from_entries {R = item_cmp}) (no_length es none), λ is. ap length (no_pairs es is))

-- ---- an item whose tax is left

module _ (left : FinMap item_cmp ItemTax) (rows : Rows) (e : ItemKey × Item) where
  with_none : get rows.items e.0 ≡ None → kept_tax left rows.items e.0 ≡ get left e.0
  with_none none = ap (λ o. option_xor (get left e.0) (option_map tax_with o)) none ∙ xor_none (get left e.0)

  pub awaited : LacksItem e (rows, kept_tax left rows.items) → IsAwaited left rows e
  awaited new = record { none = new.none; tax = sym (with_none new.none) ∙ new.taxed }

  pub lacks_item : key_of e.1 ≡ e.0 → IsAwaited left rows e → LacksItem e (rows, kept_tax left rows.items)
  lacks_item keyed it = record { keyed = keyed; none = it.none; taxed = with_none it.none ∙ it.tax }

  pub is_stored : (seconds : FinMap ticket_cmp ReportedDocument) → IsRelatedItem seconds e → LacksItem e (rows, kept_tax left rows.items) → IsStoredItem left seconds e
  is_stored seconds fits new = record { formed = fits.formed; right = fits.right; joined = record { tax = (awaited new).tax; second = fits.second } }

  -- it is put, and its tax is taken out
  pub now_put : (others : FinMap item_cmp ItemTax) (now : Rows) → key_of e.1 ≡ e.0 → IsAwaited left rows e → now ≡ with_item e.1 rows → others ≡ remove left e.0
      → ◌≡◌ {A = Taxed} (now, kept_tax others now.items) (with_item e.1 rows, kept_tax left rows.items)
  now_put others now keyed it put out =
      let kept : kept_tax others now.items ≡ kept_tax left rows.items =
      (λ i. kept_tax (out i) (put i).items) ∙ ap (λ k. kept_tax (remove left e.0) (insert rows.items k e.1)) keyed ∙ still_kept left rows.items e.0 e.1 it.tax it.none in
      λ i. (put i, kept i)

-- ---- what is known of the rows in memory alone

abbrev pub put_taxed : ItemKey × Item → Taxed → Taxed
put_taxed e w = (with_item e.1 w.0, w.1)

-- what a call for the table ensures, with these second related documents
abbrev pub LoadsTaxed : FinMap ticket_cmp ReportedDocument → Trees → Taxed → Taxed → Option Row → Type 0
LoadsTaxed seconds = IsLoaded item_part item_row put_taxed (IsRelatedItem seconds) LacksItem (λ w. map item_row (entries w.0.items))

abbrev pub LeavesTaxed : FinMap ticket_cmp ReportedDocument → Trees → Taxed → Taxed → Type 0
LeavesTaxed seconds = LeavesRow item_part item_row put_taxed (IsRelatedItem seconds) LacksItem (λ w. map item_row (entries w.0.items))

abbrev pub put_plain : ItemKey × Item → Rows → Rows
put_plain e = with_item e.1

taxes_stay : (es : List (ItemKey × Item)) (w : Taxed) → (after_all put_taxed es w).1 ≡ w.1
taxes_stay [] w = refl
taxes_stay (e ∷ es) w = taxes_stay es (put_taxed e w)

rows_after : (es : List (ItemKey × Item)) (w : Taxed) → (after_all put_taxed es w).0 ≡ after_all put_plain es w.0
rows_after [] w = refl
rows_after (e ∷ es) w = rows_after es (put_taxed e w)

module _ (taxes : FinMap item_cmp ItemTax) (seconds : FinMap ticket_cmp ReportedDocument) where
  abbrev MayTaxed : ItemKey × Item → Taxed → Type 0
  MayTaxed e w = IsRelatedItem seconds e × LacksItem e w

  abbrev MayPlain : ItemKey × Item → Rows → Type 0
  MayPlain e rows = IsStoredItem taxes seconds e × ((key_of e.1 ≡ e.0) × (get rows.items e.0 ≡ None))

  may_one : (e : ItemKey × Item) (w : Taxed) → w.1 ≡ get taxes → MayPlain e w.0 → MayTaxed e w
  may_one e w is may = (
    record { formed = may.0.formed; right = may.0.right; second = may.0.joined.second },
    record { keyed = may.1.0; none = may.1.1; taxed = ap (λ f. f e.0) is ∙ may.0.joined.tax },
  )

  may_all : (es : List (ItemKey × Item)) (w : Taxed) → w.1 ≡ get taxes → MayAll put_plain MayPlain es w.0 → MayAll put_taxed MayTaxed es w
  may_all [] w is may = tt
  may_all (e ∷ es) w is may = (may_one e w is may.0, may_all es (put_taxed e w) is may.1)

  module _ (trees : Trees) (old new : Taxed) (left : Option Row) (kept : old.1 ≡ get taxes) (loaded : LoadsTaxed seconds trees old new left) where
    -- the tax that is kept at each key has not changed
    pub still : new.1 ≡ get taxes
    still = ap (λ (w : Taxed). w.1) loaded.made.1 ∙ taxes_stay loaded.made.0 old ∙ kept

    pub plainly : Loads (items_loader taxes seconds) trees old.0 new.0 left
    plainly = record {
      before = loaded.before;
      after = loaded.after;
      are = loaded.are;
      put = loaded.put;
      made = (loaded.made.0, ap (λ (w : Taxed). w.0) loaded.made.1 ∙ rows_after loaded.made.0 old);
      refused = IfSome_then left loaded.refused (λ r none e may is. none e (may_one e new still may) is);
      entries = λ es may is.
          let it = loaded.entries es (may_all es old kept may) is in
          (it.0, ap (λ (w : Taxed). w.0) it.1 ∙ rows_after es old);
    }

-- ---- what is known of a call that may fail

module _ {X E : Type 0} (P Q R Z : X → Type 0) where
  pub if_all : (r : Result X E) → IfOk r P → IfOk r Q → IfOk r R → ((x : X) → P x → Q x → R x → Z x) → IfOk r Z
  if_all (Ok x) p q r so = so x p q r
  if_all (Err e) p q r so = tt
