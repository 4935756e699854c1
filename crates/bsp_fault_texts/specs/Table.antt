-- The table of all codes. Its texts are those of the constants in src.
use Rattle.std.specs.Prelude.{ℕ, List, ◌++◌, Option, map}
use Rattle.std.specs.Borrow.{Bor}
use Rattle.std.specs.List.{find}
use Rattle.std.specs.Str.{bytes_eq}
use Rattle.bsp_fault_texts.specs.declared.books.TheConstants.{BOOKS}
use Rattle.bsp_fault_texts.specs.declared.entry.Entry.{Entry}
use Rattle.bsp_fault_texts.specs.declared.files.TheConstants.{F01_TO_F03, F04_TO_F05, F06_TO_F10}
use Rattle.bsp_fault_texts.specs.declared.memos.TheConstants.{M01_TO_M04, M05_TO_M08}
use Rattle.bsp_fault_texts.specs.declared.plans.TheConstants.{P01_TO_P02, P03_TO_P05, P06_TO_P09}
use Rattle.bsp_fault_texts.specs.declared.reports.TheConstants.{DOCUMENTS, HOT_FILES, PERIODS}
use Rattle.bsp_fault_texts.specs.declared.requests.TheConstants.{HEADS, N01_TO_N03, N04, N05_TO_N06}
use Rattle.bsp_fault_texts.specs.declared.stocks.TheConstants.{STOCKS}
use Rattle.bsp_fault_texts.specs.declared.verdicts.TheConstants.{E01_TO_E06, E07_TO_E09, E10_TO_E12}

-- what is said of a code
pub record Said : Type 0 where
  pub code : List ℕ
  pub status : List ℕ
  pub meaning : List ℕ
  pub remedy : List ℕ
  pub causes : List (List ℕ)

abbrev pub texts_of : List (Bor (List ℕ)) → List (List ℕ)
texts_of = map (λ text. text.now)

-- by an entry, and by a row of the sources
abbrev pub said_by : Entry → Said
said_by e = record { code = e.code.now; status = e.status.now; meaning = e.meaning.now; remedy = e.remedy.now; causes = texts_of e.causes.now }

abbrev pub said_in : Bor (List ℕ) × Bor (List ℕ) × Bor (List ℕ) × Bor (List ℕ) × Bor (List (Bor (List ℕ))) → Said
said_in row = record { code = row.0.now; status = row.1.now; meaning = row.2.now; remedy = row.3.now; causes = texts_of row.4.now }

-- by a row as a constant has it
abbrev pub Text : Type 0
Text = record { now : List ℕ }

abbrev pub said_at : Text × Text × Text × Text × record { now : List Text } → Said
said_at row = record { code = row.0.now; status = row.1.now; meaning = row.2.now; remedy = row.3.now; causes = map (λ text. text.now) row.4.now }

-- in the order of docs/CODES.md
unfoldable pub table : List Said
table =
    map
    said_at
    (N01_TO_N03 ++ (N04 ++ (N05_TO_N06 ++ (HEADS ++ (F01_TO_F03 ++ (F04_TO_F05 ++ (F06_TO_F10 ++ (E01_TO_E06 ++ (E07_TO_E09 ++ (E10_TO_E12 ++ (P01_TO_P02 ++ (P03_TO_P05 ++ (P06_TO_P09 ++ (STOCKS ++ (M01_TO_M04 ++ (M05_TO_M08 ++ (DOCUMENTS ++ (PERIODS ++ (HOT_FILES ++ BOOKS)))))))))))))))))))

-- what is said of the code, if it is one
abbrev pub entry_named : List ℕ → Option Said
entry_named code = find (λ s. bytes_eq s.code code) table
