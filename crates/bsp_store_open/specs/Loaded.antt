-- What is known of rows in memory, as the tables of a store are put into them.
use Rattle.std.specs.Prelude.{◌≡◌, IsPermutation, List, map, true, ℕ}
use Rattle.bsp_store_base.specs.Std.{AllByRecursion, empty, entries, FinMap, nat_cmp}
use Rattle.sqlite_trees.specs.Tree.{Trees}
use Rattle.bsp_store_load.specs.Memos.{is_memo}
use Rattle.bsp_store_load.specs.Published.{Published}
use Rattle.bsp_store_load.specs.SoundPlan.{IsSoundPlan}
use Rattle.bsp_store_load.specs.Item.{Item}
use Rattle.bsp_store_load.specs.ReportedDocument.{ReportedDocument}
use Rattle.bsp_store_base.specs.Entries.{IsRight, item_cmp, memo_key, no_rows, Rows, Sound}
use Rattle.bsp_store_load.specs.MemoryRowsTables.{rows_of}
use Rattle.bsp_store_load.specs.Tables.{Tables}
use Rattle.bsp_store_load.specs.Beside.{IsJoined, IsSecond, taxes_of}
use Rattle.bsp_store_base.specs.Base.{agent_part, columns_of, Content, content_with, form, IsFormed, item_part, item_tax_part, KeepsRows, memo_part, Part, second_part, second_row, seconds_of, stock_part, tax_row, ticket_cmp, width_of}
use Rattle.bsp_store_load.specs.ItemTax.{ItemTax}
use Rattle.bsp_store_load.specs.Contents.{IsContentOf, content_now}
use Rattle.bsp_store_load.specs.Loading.{HasRows}
use Rattle.bsp_store_load.specs.Stored.{AreRowsOfPlan, IsFormedPlan}
use Rattle.bsp_store_load.specs.declared.plan_rows.PlanRows.{PlanRows}
use Rattle.bsp_store_open.specs.Opening.{ArePlanRows, IsOfVersion}

-- ---- the plan

-- the trees have the rows of a plan and of airlines, and in memory are that plan and the tokens of the airlines alone
pub record IsPlanned (trees : Trees) (rows : Rows) : Type 0 where
  pub stored : PlanRows
  pub are : ArePlanRows trees stored
  pub version : IsOfVersion stored.meta.items
  pub of : AreRowsOfPlan rows.published rows.airlines stored
  pub alone : rows ≡ record no_rows { published = rows.published; airlines = rows.airlines }
  pub only : (p : Published) (tokens : FinMap nat_cmp (List ℕ)) → IsSoundPlan p → IsFormedPlan p tokens → AreRowsOfPlan p tokens stored → rows ≡ record no_rows { published = p; airlines = tokens }

-- ---- agents and ranges

pub record HasNoCallers (rows : Rows) : Type 0 where
  pub agents : rows.agents ≡ empty
  pub ranges : rows.ranges ≡ empty

-- rows in memory have the rows of a table, whatever the tallies are
abbrev pub Has : Part Content → Rows → Trees → Type 0
Has part rows = HasRows part (content_with rows empty)

-- the rows of agents and of ranges are in memory, and nothing else has changed
pub record AreCallersLoaded (trees : Trees) (old new : Rows) : Type 0 where
  pub others : new ≡ record old { agents = new.agents; ranges = new.ranges }
  pub agents : Has agent_part new trees
  pub ranges : Has stock_part new trees
  pub whole : (c : Content) → IsFormed c → KeepsRows form c trees → new ≡ record old { agents = c.agents; ranges = c.ranges }

-- the trees keep no formed content
abbrev pub NoFormed : Trees → Type 0
NoFormed trees = (c : Content) → IsFormed c → KeepsRows form c trees → ⊥

-- ---- items and memos

pub record HasNoSales (rows : Rows) : Type 0 where
  pub items : rows.items ≡ empty
  pub memos : rows.memos ≡ empty

-- each item is by its key what it says, and so is each memo; and what the tables beside that of items keep is that of the
-- items
pub record AreRight (c : Content) : Type 0 where
  pub items : AllByRecursion (λ e. IsRight e.0 e.1) (entries c.items)
  pub memos : AllByRecursion (λ e. (memo_key e.1 ≡ e.0) × (is_memo e.1 ≡ true)) (entries c.memos)
  pub taxed : c.item_taxes ≡ c.items
  pub related : c.seconds ≡ seconds_of c.items
  pub joined : AllByRecursion (IsJoined (taxes_of c.items) (seconds_of c.items)) (entries c.items)
  pub fit : AllByRecursion IsSecond (entries c.seconds)

-- the trees keep no formed content that is right
abbrev pub NoRight : Trees → Type 0
NoRight trees = (c : Content) → IsFormed c → AreRight c → KeepsRows form c trees → ⊥

-- the trees have the taxes of items in a map, and those of a content that they keep are in it
pub record AreTaxesRead (trees : Trees) (taxes : FinMap item_cmp ItemTax) : Type 0 where
  pub rows : IsPermutation (map (columns_of (width_of item_tax_part.tree)) (trees item_tax_part.tree)) (map tax_row (entries taxes))
  pub whole : (c : Content) → IsFormed c → KeepsRows form c trees → taxes ≡ taxes_of c.item_taxes

-- and the second related documents of tickets
pub record AreSecondsRead (trees : Trees) (seconds : FinMap ticket_cmp ReportedDocument) : Type 0 where
  pub rows : IsPermutation (map (columns_of (width_of second_part.tree)) (trees second_part.tree)) (map second_row (entries seconds))
  pub whole : (c : Content) → IsFormed c → AreRight c → KeepsRows form c trees → seconds ≡ c.seconds

-- no tax is left that is none of the items in memory, and the second related documents are theirs
pub record IsBeside (left : FinMap item_cmp ItemTax) (seconds : FinMap ticket_cmp ReportedDocument) (items : FinMap item_cmp Item) : Type 0 where
  pub none_left : left ≡ empty
  pub seconds_are : seconds ≡ seconds_of items

-- the rows of items, of their taxes and of their second related documents are in memory, and nothing else has changed
pub record AreItemsLoaded (trees : Trees) (old new : Rows) : Type 0 where
  pub others : new ≡ record old { items = new.items }
  pub items : Has item_part new trees
  pub taxes : Has item_tax_part new trees
  pub seconds : Has second_part new trees
  pub whole : (c : Content) → IsFormed c → AreRight c → KeepsRows form c trees → new ≡ record old { items = c.items }

pub record AreSalesLoaded (trees : Trees) (old new : Rows) : Type 0 where
  pub others : new ≡ record old { items = new.items; memos = new.memos }
  pub items : Has item_part new trees
  pub taxes : Has item_tax_part new trees
  pub seconds : Has second_part new trees
  pub memos : Has memo_part new trees
  pub whole : (c : Content) → IsFormed c → AreRight c → KeepsRows form c trees → new ≡ record old { items = c.items; memos = c.memos }

-- ---- all

-- the trees keep no formed content that is this one
abbrev pub OtherTallies : Content → Trees → Type 0
OtherTallies now trees = (c : Content) → IsFormed c → KeepsRows form c trees → c ≡ now → ⊥

-- the trees keep no sound rows whose values the program's types have
abbrev pub KeepsNone : Trees → Type 0
KeepsNone trees = (book : Rows) (c : Content) → Sound book → IsContentOf book c → IsFormed c → KeepsRows form c trees → ⊥

-- the trees have the rows of the tables in memory, and those of a book whose rows the trees keep are in memory
pub record IsAllLoaded (trees : Trees) (tables : Tables) : Type 0 where
  pub rows : AllByRecursion (λ (p : Part Content). HasRows p (content_now tables) trees) form.parts
  pub only : (book : Rows) (c : Content) → Sound book → IsContentOf book c → IsFormed c → KeepsRows form c trees → rows_of tables ≡ book
  pub stored : PlanRows
  pub are : ArePlanRows trees stored
  pub version : IsOfVersion stored.meta.items
