-- The tables of the book's store.
use Rattle.std.specs.Prelude.{[], ◌++◌, ◌+◌, ◌==◌, ◌∷◌, ◌≡◌, ◌⊎◌, Bool, codes, false, if◌then◌else◌, length, List, map, None, true, ℕ}
use Rattle.std.specs.Borrow.{Bor}
use Rattle.bsp_store_base.specs.Sqlite.{Binary, Column, Index, Null, Schema, Table, plain}
use Rattle.bsp_store_base.specs.declared.schema.TheConstants.{AGENT, AIRLINE, COMMISSION_TAX, ITEM, ITEM_TAX, MEMO, META, PERIOD, RATE, SECOND_RELATED, STOCK, TALLY, TALLY_TAX, TERMS}
use Rattle.sqlite_schema.specs.declared.schema.Action.TheVariants.{NoAction}
use Rattle.sqlite_schema.specs.declared.schema.Reference.{Reference}
use Rattle.sqlite_schema.specs.declared.schema.Kind.{Kind}

-- a column of a STRICT table, which is NOT NULL or may be NULL
abbrev pub strict_column : List ℕ → Kind → Bool → Column
strict_column name kind not_null =
    record { name = name; kind = kind; is_strict = true; not_null = not_null; default = Null; collation = Binary }

-- FOREIGN KEY over one column to the code of a table, with NO ACTION
abbrev pub refers : ℕ → List ℕ → Reference
refers place parent = record {
  columns = place ∷ [];
  parent = parent;
  parent_columns = codes "code" ∷ [];
  on_delete = NoAction;
  on_update = NoAction;
  is_deferred = false;
}

-- a STRICT table with these foreign keys and the PRIMARY KEY over these places, with no CHECK and no INTEGER PRIMARY KEY
abbrev pub strict : List ℕ → ℕ → List Column → List Reference → List ℕ → Table
strict name tree columns references key = record {
  name = name;
  tree = tree;
  columns = columns;
  key = None;
  primary = key;
  uniques = key ∷ [];
  orders = plain ∷ [];
  checks = [];
  references = references;
  computed = [];
  stamps = record { places = []; terms = []; formats = [] };
  is_counted = false;
}

-- the table of a form of the sources
abbrev pub of_form : Bor (List ℕ) × ℕ × Bor (List (Bor (List ℕ) × Kind × Bool)) × Bor (List (ℕ × Bor (List ℕ))) × Bor (List ℕ) → Table
of_form f = strict f.0.now f.1 (map (λ c. strict_column c.0.now c.1 c.2) f.2.now) (map (λ r. refers r.0 r.1.now) f.3.now) f.4.now

-- and of one that is a constant
abbrev pub described : record { now : List ℕ } × ℕ × record { now : List (record { now : List ℕ } × Kind × Bool) } × record { now : List (ℕ × record { now : List ℕ }) } × record { now : List ℕ } → Table
described f = strict f.0.now f.1 (map (λ c. strict_column c.0.now c.1 c.2) f.2.now) (map (λ r. refers r.0 r.1.now) f.3.now) f.4.now

-- an index that keeps keys apart
abbrev pub key_index : List ℕ → ℕ → ℕ → List ℕ → Index
key_index name tree table key = record { name = name; tree = tree; table = table; columns = key; order = plain; is_unique = true }

-- the version of the tables, the business day, and how many periods are closed, in one row whose id is 1
abbrev pub meta_table : Table
meta_table = described META

-- the published terms, in one row whose id is 1
abbrev pub terms_table : Table
terms_table = described TERMS

-- the airlines: of a published one its place in the order of publication, of a registered one its token
abbrev pub airline_table : Table
airline_table = described AIRLINE

-- the rates of commission of the airlines
abbrev pub rate_table : Table
rate_table = described RATE

-- the published periods
abbrev pub period_table : Table
period_table = described PERIOD

-- the registered agents with their tokens
abbrev pub agent_table : Table
agent_table = described AGENT

-- the ranges of numbers that agents hold
abbrev pub stock_table : Table
stock_table = described STOCK

-- the accepted transactions
abbrev pub item_table : Table
item_table = described ITEM

-- the memos
abbrev pub memo_table : Table
memo_table = described MEMO

-- the tallies
abbrev pub tally_table : Table
tally_table = described TALLY

-- the published taxes on commission
abbrev pub commission_tax_table : Table
commission_tax_table = described COMMISSION_TAX

-- the tax on the commission of each item
abbrev pub item_tax_table : Table
item_tax_table = described ITEM_TAX

-- the tax of each tally
abbrev pub tally_tax_table : Table
tally_tax_table = described TALLY_TAX

-- the second related documents of the tickets that have two
abbrev pub second_related_table : Table
second_related_table = described SECOND_RELATED

-- the tables in the order of their trees
abbrev pub our_tables : List Table
our_tables =
    meta_table ∷ terms_table ∷ airline_table ∷ rate_table ∷ period_table ∷ agent_table ∷ stock_table ∷ item_table ∷ memo_table ∷ tally_table
    ∷ commission_tax_table ∷ item_tax_table ∷ tally_tax_table ∷ second_related_table ∷ []

-- how many columns the table of a tree has, and 0 where it is the tree of none of these tables
abbrev pub columns_at : List Table → ℕ → ℕ
columns_at [] tree = 0
columns_at (t ∷ ts) tree = if t.tree == tree then length t.columns else columns_at ts tree

-- how many columns the table of a tree has
abbrev pub width_of : ℕ → ℕ
width_of tree = columns_at our_tables tree

-- the table is one of these
abbrev pub IsOneOf : List Table → Table → Type 0
IsOneOf [] table = ⊥
IsOneOf (t ∷ ts) table = (table ≡ t) ⊎ IsOneOf ts table

-- the automatic index for the PRIMARY KEY of a table, whose tree is the one after the table's
abbrev pub index_of : Table → Index
index_of t = key_index (codes "sqlite_autoindex_" ++ t.name ++ codes "_1") (t.tree + 1) t.tree t.primary

-- the index of each key
abbrev pub our_indexes : List Index
our_indexes = map index_of our_tables

-- a schema with no view
abbrev pub schema_of : List Table → List Index → Schema
schema_of tables indexes = record { tables = tables; indexes = indexes; views = [] }

-- the schema of the book's store
abbrev pub our_schema : Schema
our_schema = schema_of our_tables our_indexes

-- the schema of a store with nothing in it
abbrev pub no_schema : Schema
no_schema = schema_of [] []
