-- The second related documents of items: what is at a ticket, and what one item more or less makes of them.
use Rattle.bsp_store_base.proofs.Std.{[], ◌∙◌, ◌∷◌, ◌≡◌, ap, ap₂, below_all, Bool, bool_cmp, cond, cons_option, entries, entries-from_sorted, entries_sorted, eq_by_cmp, Equal, Equal-is, false, filter_map, find, FinMap, get, get-entries, get-from_sorted, Greater, is_eq, is_lt, is_sorted, IsAntisymmetric, Less, List, nat_cmp, nat_cmp-IsAntisymmetric, None, Option, Ordering, ordering_then, refl, same_map, Some, subst, sym, T, true}
use Rattle.sqlite_value.proofs.OrderLemmas.{then-Equal}
use Rattle.bsp_store_base.proofs.Entries.{both, first, item_cmp, item_total, none_behind, second, second_of, then_equal}
use Rattle.bsp_store_base.specs.Entries.{Item, ItemKey, ReportedDocument, TicketKey}
use Rattle.bsp_store_base.specs.Seconds.{sale_at, second_entry, second_in, second_pair, seconds_of, ticket, ticket_cmp, ticket_total, with_second}
use Rattle.bsp_store_base.specs.Synced.{with_value}
use Rattle.bsp_store_base.proofs.Syncing.{get-with_value}

-- ---- the order of tickets

pub ticket_exact : IsAntisymmetric ticket_cmp
ticket_exact x y e =
    let parts = then_equal (nat_cmp x.agent y.agent) (nat_cmp x.number y.number) e in
    let a = nat_cmp-IsAntisymmetric x.agent y.agent parts.0 in
    let n = nat_cmp-IsAntisymmetric x.number y.number parts.1 in
    λ i. record { agent = a i; number = n i }

-- it is that of items which are no CANX
sales_alike : (x y : ItemKey) → x.is_canx ≡ false → y.is_canx ≡ false → item_cmp x y ≡ ticket_cmp (ticket x) (ticket y)
sales_alike x y p q =
    ap₂ (λ a b. ordering_then (nat_cmp x.agent y.agent) (ordering_then (nat_cmp x.number y.number) (bool_cmp a b))) p q
    ∙ ap (ordering_then (nat_cmp x.agent y.agent)) (then-Equal (nat_cmp x.number y.number))

-- no sale has the key of a CANX
apart : (r s : Ordering) → is_eq (ordering_then r (ordering_then s Less)) ≡ false
apart Less s = refl
apart Equal Less = refl
apart Equal Equal = refl
apart Equal Greater = refl
apart Greater s = refl

no_canx : (t : TicketKey) (k : ItemKey) → k.is_canx ≡ true → eq_by_cmp item_cmp (sale_at t) k ≡ false
no_canx t k is =
    ap (λ b. is_eq (ordering_then (nat_cmp t.agent k.agent) (ordering_then (nat_cmp t.number k.number) (bool_cmp false b)))) is
    ∙ apart (nat_cmp t.agent k.agent) (nat_cmp t.number k.number)

second_cond : (b : Bool) (v w : Option Item) → second_in (cond b v w) ≡ cond b (second_in v) (second_in w)
second_cond true v w = refl
second_cond false v w = refl

-- ---- the second documents of sorted entries

below_seconds : (x : ItemKey) → x.is_canx ≡ false → (es : List (ItemKey × Item)) → T (below_all item_cmp x es) → T (below_all ticket_cmp (ticket x) (filter_map second_entry es))
below_seconds x sale [] up = tt
below_seconds x sale (e ∷ es) up = go (below_seconds x sale es (second (is_lt (item_cmp x e.0)) (below_all item_cmp x es) up)) e.0.is_canx refl (second_of e.1.transaction)
  where
    go : T (below_all ticket_cmp (ticket x) (filter_map second_entry es)) → (b : Bool) → e.0.is_canx ≡ b → (d : Option ReportedDocument) → T (below_all ticket_cmp (ticket x) (cons_option (second_pair b (ticket e.0) d) (filter_map second_entry es)))
    go rest true is d = rest
    go rest false is None = rest
    go rest false is (Some d) =
        both (is_lt (ticket_cmp (ticket x) (ticket e.0))) (below_all ticket_cmp (ticket x) (filter_map second_entry es))
        (subst (λ r. T (is_lt r)) (sales_alike x e.0 sale is) (first (is_lt (item_cmp x e.0)) (below_all item_cmp x es) up)) rest

sorted_seconds : (es : List (ItemKey × Item)) → T (is_sorted item_cmp es) → T (is_sorted ticket_cmp (filter_map second_entry es))
sorted_seconds [] up = tt
sorted_seconds (e ∷ es) up = go (sorted_seconds es (second (below_all item_cmp e.0 es) (is_sorted item_cmp es) up)) e.0.is_canx refl (second_of e.1.transaction)
  where
    go : T (is_sorted ticket_cmp (filter_map second_entry es)) → (b : Bool) → e.0.is_canx ≡ b → (d : Option ReportedDocument) → T (is_sorted ticket_cmp (cons_option (second_pair b (ticket e.0) d) (filter_map second_entry es)))
    go rest true is d = rest
    go rest false is None = rest
    go rest false is (Some d) =
        both (below_all ticket_cmp (ticket e.0) (filter_map second_entry es)) (is_sorted ticket_cmp (filter_map second_entry es))
        (below_seconds e.0 is es (first (below_all item_cmp e.0 es) (is_sorted item_cmp es) up)) rest

module _ (t : TicketKey) (e : ItemKey × Item) (es : List (ItemKey × Item)) (up : T (below_all item_cmp e.0 es))
    (rest : find ticket_cmp t (filter_map second_entry es) ≡ second_in (find item_cmp (sale_at t) es)) where
  -- a sale that has no second document
  without : (tie : Bool) → eq_by_cmp item_cmp (sale_at t) e.0 ≡ tie → second_of e.1.transaction ≡ None
      → find ticket_cmp t (filter_map second_entry es) ≡ second_in (cond tie (Some e.1) (find item_cmp (sale_at t) es))
  without true tie none = rest ∙ ap second_in (none_behind item_cmp item_total (sale_at t) e.0 es ((Equal-is (item_cmp (sale_at t) e.0)).0 tie) up) ∙ sym none
  without false tie none = rest

  one_step : (b : Bool) → e.0.is_canx ≡ b → (o : Option ReportedDocument) → second_of e.1.transaction ≡ o
      → find ticket_cmp t (cons_option (second_pair b (ticket e.0) o) (filter_map second_entry es)) ≡ second_in (cond (eq_by_cmp item_cmp (sale_at t) e.0) (Some e.1) (find item_cmp (sale_at t) es))
  one_step true canx o is = rest ∙ ap (λ b. second_in (cond b (Some e.1) (find item_cmp (sale_at t) es))) (sym (no_canx t e.0 canx))
  one_step false sale None is = without (eq_by_cmp item_cmp (sale_at t) e.0) refl is
  one_step false sale (Some d) is =
      ap (λ r. cond (is_eq r) (Some d) (find ticket_cmp t (filter_map second_entry es))) (sym (sales_alike (sale_at t) e.0 refl sale))
      ∙ ap₂ (cond (eq_by_cmp item_cmp (sale_at t) e.0)) (sym is) rest ∙ sym (second_cond (eq_by_cmp item_cmp (sale_at t) e.0) (Some e.1) (find item_cmp (sale_at t) es))

find_second : (t : TicketKey) (es : List (ItemKey × Item)) → T (is_sorted item_cmp es) → find ticket_cmp t (filter_map second_entry es) ≡ second_in (find item_cmp (sale_at t) es)
find_second t [] up = refl
find_second t (e ∷ es) up =
    one_step t e es (first (below_all item_cmp e.0 es) (is_sorted item_cmp es) up) (find_second t es (second (below_all item_cmp e.0 es) (is_sorted item_cmp es) up))
    e.0.is_canx refl (second_of e.1.transaction) refl

-- ---- those of a map

pub entries-seconds_of : (m : FinMap item_cmp Item) → entries (seconds_of m) ≡ filter_map second_entry (entries m)
unfolding seconds_of
entries-seconds_of m = entries-from_sorted ticket_cmp (filter_map second_entry (entries m)) (sorted_seconds (entries m) (entries_sorted m))

-- that of the item under the ticket
pub get-seconds_of : (m : FinMap item_cmp Item) (t : TicketKey) → get (seconds_of m) t ≡ second_in (get m (sale_at t))
unfolding seconds_of
get-seconds_of m t =
    get-from_sorted ticket_cmp (filter_map second_entry (entries m)) t (sorted_seconds (entries m) (entries_sorted m))
    ∙ find_second t (entries m) (entries_sorted m) ∙ ap second_in (sym (get-entries m (sale_at t)))

-- ---- one item more or less

module _ (m : FinMap item_cmp Item) (k : ItemKey) (v : Option Item) where
  at : (t : TicketKey) → get (seconds_of (with_value k v m)) t ≡ cond (eq_by_cmp item_cmp (sale_at t) k) (second_in v) (get (seconds_of m) t)
  at t =
      get-seconds_of (with_value k v m) t ∙ ap second_in (get-with_value item_total k v m (sale_at t))
      ∙ second_cond (eq_by_cmp item_cmp (sale_at t) k) v (get m (sale_at t))
      ∙ ap (cond (eq_by_cmp item_cmp (sale_at t) k) (second_in v)) (sym (get-seconds_of m t))

  of_canx : k.is_canx ≡ true → seconds_of (with_value k v m) ≡ seconds_of m
  of_canx is = same_map ticket_total ticket_exact _ _ (λ t. at t ∙ ap (λ b. cond b (second_in v) (get (seconds_of m) t)) (no_canx t k is))

  of_sale : k.is_canx ≡ false → seconds_of (with_value k v m) ≡ with_value (ticket k) (second_in v) (seconds_of m)
  of_sale is = same_map ticket_total ticket_exact _ _ (λ t.
      at t ∙ ap (λ r. cond (is_eq r) (second_in v) (get (seconds_of m) t)) (sales_alike (sale_at t) k refl is)
      ∙ sym (get-with_value ticket_total (ticket k) (second_in v) (seconds_of m) t))

  written : (b : Bool) → k.is_canx ≡ b → seconds_of (with_value k v m) ≡ cond b (seconds_of m) (with_value (ticket k) (second_in v) (seconds_of m))
  written true is = of_canx is
  written false is = of_sale is

  pub seconds_of-written : seconds_of (with_value k v m) ≡ with_second k v (seconds_of m)
  seconds_of-written = written k.is_canx refl
