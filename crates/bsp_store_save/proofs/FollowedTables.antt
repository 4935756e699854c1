-- The tables whose rows are found by keys, as they follow from the maps in memory.
use Rattle.bsp_store_base.proofs.Std.{◌∙◌, ◌≡◌, ap, Bool, cond, false, FinMap, get, is_some, List, nat_cmp, Option, option_flatten, Ordering, refl, sym, true, ℕ}
use Rattle.bsp_maps.specs.Present.{present}
use Rattle.bsp_maps.proofs.PresentLemmas.{get-present}
use Rattle.bsp_store_base.proofs.Entries.{Item, item_cmp, item_exact, item_total, ItemKey, memo_cmp, MemoFields, MemoKey, range_cmp, range_total, RangeKey, ReportedDocument, Tally, tally_cmp, TallyKey}
use Rattle.bsp_store_base.proofs.Base.{airline_entries, entry_of, get-seconds_of, IsMapTable, MapTable, place_of, sale_at, second_in, seconds_of, seconds_of-written, ticket, ticket_cmp, with_second, with_value}
use Rattle.bsp_store_rows.specs.Tables.{agents_map, memos_map, ranges_map, tallies_map, airlines_map}
use Rattle.bsp_store_rows.proofs.Tables.{agents_lawful, memos_lawful, ranges_lawful, tallies_lawful, airlines_lawful}
use Rattle.bsp_store_base.specs.ItemTables.{item_taxes_map, items_map, seconds_map, tally_taxes_map}
use Rattle.bsp_store_base.proofs.ItemTables.{item_taxes_lawful, items_lawful, seconds_lawful, tally_taxes_lawful}
use Rattle.bsp_store_load.specs.AirlineEntry.{AirlineEntry}
use Rattle.bsp_store_load.specs.Contents.{used_at, used_tallies}
use Rattle.bsp_store_load.proofs.AirlineLemmas.{get-airline_entries}
use Rattle.bsp_store_load.proofs.TallyLemmas.{get-used}
use Rattle.bsp_store_save.specs.Seconds.{gives_second, has_second}
use Rattle.bsp_store_save.proofs.EachLemmas.{same_present}
use Rattle.bsp_store_save.proofs.Followed.{Followed, pointwise}

module _ {K V W : Type 0} {R : K → K → Ordering} (t : MapTable K W R) (l : IsMapTable t) where
  -- a table that has at each key what follows from the value there
  abbrev pub keyed : (of : FinMap R V → FinMap R W) (row : K → Option V → Option W) → ((m : FinMap R V) (q : K) → get (of m) q ≡ row q (get m q)) → Followed K V (FinMap R W) R
  keyed of row sees = record {
    total = l.total;
    exact = l.exact;
    of = of;
    step = λ k v m. with_value k (row k v) m;
    steps = pointwise l.total l.exact of row sees;
    holds = λ k m. is_some (get m k);
    rows = λ k v. is_some (row k v);
    sees = λ m k. ap is_some (sees m k);
    field = t.of;
    put = t.with;
    same = l.same;
    seen = l.seen;
    twice = l.twice;
  }

module _ {K V : Type 0} {R : K → K → Ordering} (t : MapTable K V R) (l : IsMapTable t) where
  abbrev pub as_it_is : Followed K V (FinMap R V) R
  as_it_is = keyed t l (λ m. m) (λ k v. v) (λ m q. refl)

-- ---- callers and ranges

abbrev pub agents_table : Followed ℕ (List ℕ) (FinMap nat_cmp (List ℕ)) nat_cmp
agents_table = as_it_is agents_map agents_lawful

-- the tokens of airlines, where these are published
abbrev pub airlines_table : List ℕ → Followed ℕ (List ℕ) (FinMap nat_cmp AirlineEntry) nat_cmp
airlines_table published = keyed airlines_map airlines_lawful (airline_entries published) (λ k v. entry_of (place_of k published) v) (λ m q. get-airline_entries m published q)

pub range_seen : (m : FinMap range_cmp (Option ℕ)) (q : RangeKey) → get (present m) q ≡ option_flatten (get m q)
range_seen m q = get-present range_total m q ∙ same_present (get m q)

-- a range that was withdrawn has no row
abbrev pub ranges_table : Followed RangeKey (Option ℕ) (FinMap range_cmp ℕ) range_cmp
ranges_table = keyed ranges_map ranges_lawful present (λ k v. option_flatten v) range_seen

-- ---- items

abbrev pub items_table : Followed ItemKey Item (FinMap item_cmp Item) item_cmp
items_table = as_it_is items_map items_lawful

abbrev pub item_taxes_table : Followed ItemKey Item (FinMap item_cmp Item) item_cmp
item_taxes_table = as_it_is item_taxes_map item_taxes_lawful

-- the key of a ticket's item is that of its ticket
its_sale : (k : ItemKey) → k.is_canx ≡ false → sale_at (ticket k) ≡ k
its_sale k is = λ i. record { agent = k.agent; number = k.number; is_canx = sym is i }

pub second_seen : (m : FinMap item_cmp Item) (k : ItemKey) (b : Bool) → k.is_canx ≡ b → cond b false (is_some (get (seconds_of m) (ticket k))) ≡ cond b false (is_some (second_in (get m k)))
second_seen m k true is = refl
second_seen m k false is = ap is_some (get-seconds_of m (ticket k)) ∙ ap (λ q. is_some (second_in (get m q))) (its_sale k is)

-- the second related documents of items
abbrev pub seconds_table : Followed ItemKey Item (FinMap ticket_cmp ReportedDocument) item_cmp
seconds_table = record {
  total = item_total;
  exact = item_exact;
  of = seconds_of;
  step = with_second;
  steps = seconds_of-written;
  holds = has_second;
  rows = gives_second;
  sees = λ m k. second_seen m k k.is_canx refl;
  field = seconds_map.of;
  put = seconds_map.with;
  same = seconds_lawful.same;
  seen = seconds_lawful.seen;
  twice = seconds_lawful.twice;
}

-- ---- memos and tallies

abbrev pub memos_table : Followed MemoKey MemoFields (FinMap memo_cmp MemoFields) memo_cmp
memos_table = as_it_is memos_map memos_lawful

-- a tally to which no row adds has none
abbrev pub tallies_table : Followed TallyKey Tally (FinMap tally_cmp Tally) tally_cmp
tallies_table = keyed tallies_map tallies_lawful used_tallies (λ k v. used_at v) get-used

abbrev pub tally_taxes_table : Followed TallyKey Tally (FinMap tally_cmp Tally) tally_cmp
tally_taxes_table = keyed tally_taxes_map tally_taxes_lawful used_tallies (λ k v. used_at v) get-used
