use Rattle.bsp_store_base.proofs.Std.{◌∙◌, ◌≡◌, ap, false≢true, FinMap, get, None, none-some, Option, Some, SomeIff, subst, sym}
use Rattle.bsp_store_base.proofs.Entries.{HasNumberKey, Item, item_cmp, ItemKey, key_of, ReportedDocument, same_Some, second_of}
use Rattle.bsp_store_base.proofs.Base.{item_row, tax_with, ticket_cmp}
use Rattle.bsp_store_base.proofs.Sqlite.{Row}
use Rattle.bsp_store_base.proofs.Back.{bare_formed, bare_whole, item_back}
use Rattle.bsp_store_columns.specs.BareItems.{bare_of, IsBareItem, IsWholeItem, item_of}
use Rattle.bsp_store_columns.specs.declared.tables.item.BareItem.{BareItem}
use Rattle.bsp_store_columns.specs.declared.taxes.ItemTax.{ItemTax}
use Rattle.bsp_store_load.specs.Beside.{IsStoredItem, second_at}
use Rattle.bsp_store_load.proofs.items.StoredItems.read.Goals as goal

module _ {taxes : FinMap item_cmp ItemTax} {seconds : FinMap ticket_cmp ReportedDocument} {e : ItemKey × Item} (fits : IsStoredItem taxes seconds e) where
  bare_read : (found : Option BareItem) → (IsBareItem (bare_of e) → IsWholeItem (bare_of e) → found ≡ Some (bare_of e)) → found ≡ Some (bare_of e)
  bare_read found back = back (bare_formed e.0 e.1 fits.formed fits.right) (bare_whole e.0 e.1 fits.formed fits.right)

  bare_is : (found : Option BareItem) → (IsBareItem (bare_of e) → IsWholeItem (bare_of e) → found ≡ Some (bare_of e)) → (bare : BareItem) → found ≡ Some bare → bare ≡ bare_of e
  bare_is found back bare was = same_Some bare (bare_of e) (sym was ∙ bare_read found back)

  tax_read : (bare : BareItem) → bare ≡ bare_of e → (found : Option ItemTax) → found ≡ get taxes bare.key → found ≡ Some (tax_with e.1)
  tax_read bare same found at = at ∙ ap (λ (b : BareItem). get taxes b.key) same ∙ fits.joined.tax

  item_read : (bare : BareItem) → bare ≡ bare_of e → (tax : ItemTax) → tax ≡ tax_with e.1 → (second : Option ReportedDocument) → second ≡ second_at seconds bare.key
      → (item : Item) → item ≡ item_of bare tax second → item ≡ e.1
  item_read bare same tax own second at item is =
      let document : second ≡ second_of e.1.transaction = at ∙ ap (λ (b : BareItem). second_at seconds b.key) same ∙ sym fits.joined.second in
      is ∙ (λ j. item_of (same j) (own j) (document j)) ∙ item_back e.0 e.1 fits.formed fits.right

  own_read : (found : Option ItemKey) (item : Item) → item ≡ e.1 → SomeIff found (HasNumberKey item) (key_of item) → found ≡ Some e.0
  own_read None item same iff = absurd (iff (subst HasNumberKey (sym same) fits.right.numbered))
  own_read (Some key) item same iff = ap (λ k. Some k) (iff.1 ∙ ap key_of same ∙ fits.right.keyed)

pub returns-in_err-bare-clause-entry : goal.returns-in_err-bare-clause-entry
returns-in_err-bare-clause-entry c = λ e fits is.
    absurd (none-some _ (sym c.in_err-bare.was ∙ bare_read fits c.read_entry.result (λ formed whole. c.read_entry.ensures.back (bare_of e) formed whole is)))

pub returns-in_err-tax-clause-entry : goal.returns-in_err-tax-clause-entry
returns-in_err-tax-clause-entry c = λ e fits is.
    let bare = bare_is fits c.read_entry.result (λ formed whole. c.read_entry.ensures.back (bare_of e) formed whole is) c.in_ok-bare.bare c.in_ok-bare.was in
    absurd (none-some _ (sym c.in_err-tax.was ∙ tax_read fits c.in_ok-bare.bare bare c.tax_at.result c.tax_at.ensures))

pub returns-in_err-key-clause-entry : goal.returns-in_err-key-clause-entry
returns-in_err-key-clause-entry c = λ e fits is.
    let bare = bare_is fits c.read_entry.result (λ formed whole. c.read_entry.ensures.back (bare_of e) formed whole is) c.in_ok-bare.bare c.in_ok-bare.was in
    let tax = same_Some c.in_ok-tax.tax (tax_with e.1) (sym c.in_ok-tax.was ∙ tax_read fits c.in_ok-bare.bare bare c.tax_at.result c.tax_at.ensures) in
    let item = item_read fits c.in_ok-bare.bare bare c.in_ok-tax.tax tax c.second_at.result c.second_at.ensures c.item-item.result c.item-item.ensures in
    absurd (none-some _ (sym c.in_err-key.was ∙ own_read fits c.of.result c.item-item.result item c.of.ensures))

pub returns-then-not-is_same-clause-entry : goal.returns-then-not-is_same-clause-entry
returns-then-not-is_same-clause-entry c = λ e fits is.
    let bare = bare_is fits c.read_entry.result (λ formed whole. c.read_entry.ensures.back (bare_of e) formed whole is) c.in_ok-bare.bare c.in_ok-bare.was in
    let tax = same_Some c.in_ok-tax.tax (tax_with e.1) (sym c.in_ok-tax.was ∙ tax_read fits c.in_ok-bare.bare bare c.tax_at.result c.tax_at.ensures) in
    let item = item_read fits c.in_ok-bare.bare bare c.in_ok-tax.tax tax c.second_at.result c.second_at.ensures c.item-item.result c.item-item.ensures in
    let key = same_Some c.in_ok-key.key e.0 (sym c.in_ok-key.was ∙ own_read fits c.of.result c.item-item.result item c.of.ensures) in
    absurd (false≢true (sym c.if-not-is_same.true ∙ c.is_same.ensures.1 (key ∙ ap (λ (b : BareItem). b.key) (sym bare))))

pub returns-clause-entry : goal.returns-clause-entry
returns-clause-entry c = λ e fits is.
    let bare = bare_is fits c.read_entry.result (λ formed whole. c.read_entry.ensures.back (bare_of e) formed whole is) c.in_ok-bare.bare c.in_ok-bare.was in
    let tax = same_Some c.in_ok-tax.tax (tax_with e.1) (sym c.in_ok-tax.was ∙ tax_read fits c.in_ok-bare.bare bare c.tax_at.result c.tax_at.ensures) in
    let item = item_read fits c.in_ok-bare.bare bare c.in_ok-tax.tax tax c.second_at.result c.second_at.ensures c.item-item.result c.item-item.ensures in
    let key = same_Some c.in_ok-key.key e.0 (sym c.in_ok-key.was ∙ own_read fits c.of.result c.item-item.result item c.of.ensures) in
    λ i. Some (key i, item i)
