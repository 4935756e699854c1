-- The tables of versions 1 and 2, which are the first of ours.
use Rattle.std.specs.Prelude.{ℕ, ◌+◌, List, ◌++◌, codes, take}
use Rattle.bsp_store_base.specs.Sqlite.{Index, Schema, Table}
use Rattle.bsp_store_base.specs.Schema.{key_index, our_indexes, our_tables, schema_of}
use Rattle.bsp_store_open.specs.declared.old_versions.OldVersion.{OldVersion}
use Rattle.bsp_store_open.specs.declared.old_versions.OldVersion.TheVariants.{First, Second}

-- the number that `meta` has
abbrev pub old_number : OldVersion → ℕ
old_number First = 1
old_number Second = 2

-- how many tables there are
abbrev pub table_count : OldVersion → ℕ
table_count First = 10
table_count Second = 13

abbrev pub old_tables : OldVersion → List Table
old_tables version = take (table_count version) our_tables

abbrev pub old_indexes : OldVersion → List Index
old_indexes version = take (table_count version) our_indexes

-- the schema of a store of this version
abbrev pub old_schema : OldVersion → Schema
old_schema version = schema_of (old_tables version) (old_indexes version)

-- the automatic index for the PRIMARY KEY of a table
abbrev pub index_of : Table → Index
index_of t = key_index (codes "sqlite_autoindex_" ++ (t.name ++ codes "_1")) (t.tree + 1) t.tree t.primary
