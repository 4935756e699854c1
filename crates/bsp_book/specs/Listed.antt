-- What a `ListBook` contains.
use Rattle.std.specs.Prelude.{◌≡◌, false, Option, unwrap_or, is_some, ⊤}
use Rattle.bsp_rows.specs.Rows.{Rows}
use Rattle.bsp_rows.specs.Sound.{AreApart}
use Rattle.bsp_memory_rows.specs.Tables.{IsDerived, WasDerived, committed_rows, rows_of}
use Rattle.bsp_memory_rows.specs.declared.tables.Tables.{Tables}
use Rattle.bsp_book.specs.Calls.{Meaning}
use Rattle.bsp_book.specs.declared.list.ListBook.{ListBook}

-- the rows now and at `begin`, and beside them what follows from them
pub record Holds (book : ListBook) (now : Rows) (begun : Option Rows) : Type 0 where
  pub rows : now ≡ rows_of book.tables
  pub committed : unwrap_or begun now ≡ committed_rows book.tables
  pub is_open : book.is_open ≡ is_some begun
  -- each range has a number, and no number is in two: the index of last numbers rests on it
  pub apart : AreApart now.ranges
  pub was_apart : AreApart (unwrap_or begun now).ranges
  pub derived : IsDerived book.tables
  pub was_derived : WasDerived book.tables

-- nothing is read wrong, and no call answers `Failed`
abbrev pub meaning : Meaning ListBook Rows
meaning = record {
  trusts = λ book. ⊤;
  holds = Holds;
  leaves = λ book a b. ⊤;
  has_failed = λ book. false;
}

-- what was written since the last commit is undone, and no transaction is open
pub record IsUndone (old new : ListBook) : Type 0 where
  pub rows : rows_of new.tables ≡ committed_rows old.tables
  pub committed : committed_rows new.tables ≡ committed_rows old.tables
  pub shut : new.is_open ≡ false
  pub derived : WasDerived old.tables → IsDerived new.tables
  pub was_derived : WasDerived old.tables → WasDerived new.tables

-- tables in which nothing is written since the last commit, whose ranges are apart
pub record AreCommitted (tables : Tables) : Type 0 where
  pub same : committed_rows tables ≡ rows_of tables
  pub apart : AreApart (rows_of tables).ranges
  pub derived : IsDerived tables
  pub was_derived : WasDerived tables
