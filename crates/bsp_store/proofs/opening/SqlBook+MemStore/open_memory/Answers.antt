use Rattle.std.proofs.Common.{◌≡◌, false}
use Rattle.bsp_store_open.specs.Faults.{is_refusal}
use Rattle.bsp_store.proofs.AdoptingLemmas.{err_without, ok_without}
use Rattle.bsp_store.proofs.opening.SqlBook+MemStore.open_memory.Goals as goal

pub new_book-requires : goal.new_book-requires
new_book-requires c = record { bare = c.in_ok-conn.ensures.empty.2; outside = c.in_ok-conn.ensures.fresh.autocommit }

pub returns-clause-empty : goal.returns-clause-empty
returns-clause-empty c = ok_without c.new_book.result c.without_store.result c.without_store.ensures _ _ c.new_book.ensures.ok (λ book holds. holds)

pub returns-clause-refused : goal.returns-clause-refused
returns-clause-refused c =
    err_without c.new_book.result c.without_store.result c.without_store.ensures (λ e. is_refusal e.0 ≡ false) (λ e. is_refusal e.0 ≡ false) (λ fault. is_refusal fault ≡ false) c.new_book.ensures.refused
    c.new_book.ensures.refused (λ e no again. no)
