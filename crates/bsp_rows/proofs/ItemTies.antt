-- What the audit finds of items, and sound items.
use Rattle.std.proofs.Common.{◌≡◌, ℕ, ◌+◌, ◌≤◌, ◌==◌, ◌⊎◌, arith, Bool, true, false, not, ◌&&◌, ◌||◌, List, [], ◌∷◌, map, count_by, Option, Some, None, is_some, Ok, refl, sym, ap, subst, ◌∙◌, slice_index_or, nat_cmp, inl, inr}
use Rattle.std.specs.Prelude.{nat_lt}
use Rattle.std.specs.List.{Contains, filter_map, list_any}
use Rattle.std.specs.Ordering.{eq_by_cmp}
use Rattle.std.specs.Cmp.{IsTotalOrder, nat_cmp_total, on_total, then_total}
use Rattle.std.specs.Cmp.Lexicographic.{slice_cmp, nat_list_cmp_total}
use Rattle.std.specs.BTreeMap.{BTreeMap, IsOrdered, values}
use Rattle.std.specs.FinMap.{FinMap, IsAntisymmetric, entries, get, nat_cmp-IsAntisymmetric, slice_cmp-IsAntisymmetric}
use Rattle.std.proofs.lemmas.Bool.{and_parts, and_from, or_cases, or_left, or_right, both_ways, eqb-true, eq-eqb, false_from_ne_true, ltb-true}
use Rattle.std.proofs.lemmas.Bool.Decides.{same_from_decides}
use Rattle.std.proofs.lemmas.Slice.Eq.{bytes_eq-Decides}
use Rattle.bsp_fields.specs.Codes.{code_reading}
use Rattle.bsp_fields.specs.Decimal.{number_of}
use Rattle.bsp_maps.proofs.Orderings.{then_equal}
use Rattle.bsp_calendar.specs.Published.{Published}
use Rattle.bsp_calendar.proofs.ListLemmas.{contains_cases, contains_none}
use Rattle.bsp_ret_records.specs.Values.{is_before}
use Rattle.bsp_ret_records.specs.declared.transactions.ReportedDocument.{ReportedDocument}
use Rattle.bsp_rules.specs.Rows.{is_canx, is_living_relation, is_ticket, names, names_number, has_number}
use Rattle.bsp_rules.specs.Verdicts.{limit_of}
use Rattle.bsp_rules.specs.SameContent.{same_code}
use Rattle.bsp_ret_records.specs.declared.codes.TransactionCode.TheVariants.{Tktt}
use Rattle.bsp_rules.specs.declared.rows.Item.{Item}
use Rattle.bsp_statement.specs.Tallies.{is_item_under}
use Rattle.bsp_rows.specs.Audit.{AreItemsAudited, AreWithin, EachItem, IsTiedItem, as_map, is_living_sale, relation_by, relation_cmp, relation_in, relations_of}
use Rattle.bsp_rows.specs.Rows.{canx_of, item_cmp, range_cmp}
use Rattle.bsp_rows.specs.Sound.{AreSoundItems, AreSoundRanges, HasTicket, IsRight, is_counted, ticket_key}
use Rattle.bsp_rows.specs.Tallies.{item_tally_key, key_tally, tally_cmp}
use Rattle.bsp_rows.specs.declared.keys.ItemKey.{ItemKey}
use Rattle.bsp_rows.specs.declared.keys.RangeKey.{RangeKey}
use Rattle.bsp_rows.specs.declared.keys.TallyKey.{TallyKey}
use Rattle.bsp_rows.specs.declared.limits.RelationKey.{RelationKey}
use Rattle.bsp_rows.proofs.CountLemmas.{count_under}
use Rattle.bsp_rows.proofs.CountTies.{count_alike, count_append, count_filter_map, count_mapped, count_two, few_entries, key_decides, none_counted, one_passes, passes_if_there}
use Rattle.bsp_rows.proofs.DemandLemmas.{at_entry, entry_at, same_entries}
use Rattle.bsp_rows.proofs.GroupLemmas.{IsNamedIn, group_fits, in_places, named_in, reads_code, second_behind}
use Rattle.bsp_rows.proofs.ItemLemmas.{named}
use Rattle.bsp_rows.proofs.KeyOrders.{item_total, item_exact, tally_total, tally_exact}
use Rattle.bsp_rows.proofs.MapLemmas.{same_Some, same_key}
use Rattle.bsp_fields.proofs.DocumentLemmas.{one_number}
use Rattle.bsp_rows.proofs.RangeTies.{in_last_range, in_stock}

-- ---- the keys of relations

relation_total : IsTotalOrder relation_cmp
relation_total = then_total (on_total (λ (k : RelationKey). k.agent) nat_cmp_total) (on_total (λ (k : RelationKey). k.number) nat_list_cmp_total)

relation_exact : IsAntisymmetric relation_cmp
relation_exact x y e =
    let both = then_equal (nat_cmp x.agent y.agent) (slice_cmp nat_cmp x.number y.number) e in
    let a = nat_cmp-IsAntisymmetric x.agent y.agent both.0 in
    let n = slice_cmp-IsAntisymmetric nat_cmp-IsAntisymmetric x.number y.number both.1 in
    λ i. record { agent = a i; number = n i }

-- ---- a living relation and its keys

any_step : {A : Type 0} (p : A → Bool) (y : A) (ys : List A) (x : A) → p x ≡ true → (Contains ys x → list_any p ys ≡ true) → Contains (y ∷ ys) x → list_any p (y ∷ ys) ≡ true
any_step p y ys x passes rest in' =
    elim (contains_cases y ys x in') [
      | inl here ↦ or_left (p y) (list_any p ys) (ap p here ∙ passes)
      | inr there ↦ or_right (p y) (list_any p ys) (rest there)
    ]

pub any_true : {A : Type 0} (p : A → Bool) (xs : List A) (x : A) → Contains xs x → p x ≡ true → list_any p xs ≡ true
any_true p [] x in' passes = contains_none x in'
any_true p (y ∷ ys) x in' passes = any_step p y ys x passes (λ there. any_true p ys x there passes) in'

name_of : (i : Item) (d : ReportedDocument) → Contains i.transaction.related (Some d) → names d.number i.transaction ≡ true
name_of i d in' = any_true (names_number d.number) i.transaction.related (Some d) in' ((bytes_eq-Decides d.number d.number).1 refl)

-- a living TKTT or RFND that relates to the number of the key in a place
record IsRelation (i : Item) (q : RelationKey) (place : ℕ) : Type 0 where
  agent : i.agent ≡ q.agent
  sale : is_living_sale i ≡ true
  named : IsNamedIn i.transaction.related q.number place

relation_at : (i : Item) (number : List ℕ) (place : ℕ) → is_living_sale i ≡ true → IsNamedIn i.transaction.related number place → relation_in place i ≡ Some (record { agent = i.agent; number = number })
relation_at i number place sale n =
    ap (λ b. relation_by b i.agent (slice_index_or i.transaction.related place None)) sale
    ∙ (ap (λ (o : Option ReportedDocument). relation_by true i.agent o) n.there
    ∙ (λ j. Some (record { agent = i.agent; number = n.same j })))

relation_there : (k : ItemKey) (i : Item) (q : RelationKey) → IsRight k i → i.agent ≡ q.agent → is_living_relation q.number i ≡ true → (relation_in 0 i ≡ Some q) ⊎ (relation_in 1 i ≡ Some q)
relation_there k i q right own h =
    let both = and_parts (is_living_sale i) (names q.number i.transaction) h in
    let key : ◌≡◌ {A = RelationKey} (record { agent = i.agent; number = q.number }) q = λ j. record { agent = own j; number = q.number } in
    let some : Some (record { agent = i.agent; number = q.number }) ≡ Some q = ap (λ (x : RelationKey). Some x) key in
    elim (named_in (is_some i.transaction.exchange) i.transaction.related q.number (group_fits i.transaction right.group).0 both.1) [
      | inl first ↦ inl (relation_at i q.number 0 both.0 first ∙ some)
      | inr second ↦ inr (relation_at i q.number 1 both.0 second ∙ some)
    ]

relation_by_parts : (i : Item) (q : RelationKey) (place : ℕ) (sale : Bool) (o : Option ReportedDocument) → is_living_sale i ≡ sale → slice_index_or i.transaction.related place None ≡ o → relation_by sale i.agent o ≡ Some q → IsRelation i q place
relation_by_parts i q place false o s p h = absurd (cc h)
relation_by_parts i q place true None s p h = absurd (cc h)
relation_by_parts i q place true (Some d) s p h =
    let same : ◌≡◌ {A = RelationKey} (record { agent = i.agent; number = d.number }) q = same_Some _ q h in
    record {
      agent = ap (λ (x : RelationKey). x.agent) same;
      sale = s;
      named = record { document = d; there = p; same = ap (λ (x : RelationKey). x.number) same };
    }

relation_back : (place : ℕ) (i : Item) (q : RelationKey) → relation_in place i ≡ Some q → IsRelation i q place
relation_back place i q h = relation_by_parts i q place (is_living_sale i) (slice_index_or i.transaction.related place None) refl refl h

relation_lives : (place : ℕ) (i : Item) (q : RelationKey) → IsRelation i q place → is_living_relation q.number i ≡ true
relation_lives place i q r =
    let n = r.named in
    let name = name_of i n.document (in_places i.transaction.related place n.document n.there) in
    and_from (is_living_sale i) (names q.number i.transaction) r.sale (subst (λ (x : List ℕ). names x i.transaction ≡ true) n.same name)

-- one item does not relate to a number in both places, since both documents are of its airline
abbrev AreOwn : Item → Type 0
AreOwn i = (d : ReportedDocument) → Contains i.transaction.related (Some d) → d.airline ≡ i.transaction.document.airline

not_behind : (d e : ReportedDocument) → d.airline ≡ e.airline → d.number ≡ e.number → is_before d e ≡ true → ⊥
not_behind d e airline number h = elim (or_cases (nat_lt d.airline e.airline) ((d.airline == e.airline) && nat_lt (number_of d.number) (number_of e.number)) h) [
  | inl lower ↦ (let less = ltb-true d.airline e.airline lower in omega (arith, less, airline))
  | inr same ↦ (
      let less = ltb-true (number_of d.number) (number_of e.number) (and_parts (d.airline == e.airline) (nat_lt (number_of d.number) (number_of e.number)) same).1 in
      let equal : number_of d.number ≡ number_of e.number = ap number_of number in
      omega (arith, less, equal))
]

not_twice : (k : ItemKey) (i : Item) (q : RelationKey) → IsRight k i → AreOwn i → IsRelation i q 0 → IsRelation i q 1 → ⊥
not_twice k i q right own a b =
    let d = a.named.document in
    let e = b.named.document in
    let airline : d.airline ≡ e.airline = own d (in_places i.transaction.related 0 d a.named.there) ∙ sym (own e (in_places i.transaction.related 1 e b.named.there)) in
    not_behind d e airline (a.named.same ∙ sym b.named.same) (second_behind (is_some i.transaction.exchange) i.transaction.related d e (group_fits i.transaction right.group).0 a.named.there b.named.there)

-- ---- the key of a tally

pub tally_test : (k : TallyKey) (i : Item) → eq_by_cmp tally_cmp k (item_tally_key i) ≡ is_item_under (key_tally k) i
tally_test k i = same_from_decides _ _ (key_decides tally_total tally_exact k (item_tally_key i)) (
  (λ h.
      let outer = and_parts (i.agent == k.agent) ((i.transaction.document.airline == k.airline) && (i.period == k.period)) h in
      let inner = and_parts (i.transaction.document.airline == k.airline) (i.period == k.period) outer.1 in
      let a = eqb-true i.agent k.agent outer.0 in
      let l = eqb-true i.transaction.document.airline k.airline inner.0 in
      let p = eqb-true i.period k.period inner.1 in
      (λ n. record { agent = sym a n; airline = sym l n; period = sym p n })),
  (λ e. and_from (i.agent == k.agent) ((i.transaction.document.airline == k.airline) && (i.period == k.period)) (eq-eqb i.agent k.agent (sym (ap (λ (x : TallyKey). x.agent) e)))
      (and_from (i.transaction.document.airline == k.airline) (i.period == k.period) (eq-eqb i.transaction.document.airline k.airline (sym (ap (λ (x : TallyKey). x.airline) e))) (eq-eqb i.period k.period (sym (ap (λ (x : TallyKey). x.period) e))))),
)

-- ---- counts of keys

module _ (m : BTreeMap ItemKey Item) (ordered : IsOrdered item_cmp m) where
  abbrev items : FinMap item_cmp Item
  items = as_map item_cmp m

  abbrev Rights : Type 0
  Rights = (k : ItemKey) (i : Item) → get items k ≡ Some i → IsRight k i

  abbrev in_place : ℕ → RelationKey → ItemKey × Item → Bool
  in_place place q e = passes_if_there (eq_by_cmp relation_cmp q) (relation_in place e.1)

  -- in either place, and in both
  abbrev at_key : RelationKey → ItemKey × Item → Bool
  at_key q e = in_place 0 q e || in_place 1 q e

  abbrev at_key_twice : RelationKey → ItemKey × Item → Bool
  at_key_twice q e = in_place 0 q e && in_place 1 q e

  place_counted : (place : ℕ) (q : RelationKey) → count_by (eq_by_cmp relation_cmp q) (filter_map (relation_in place) (values m)) ≡ count_by (in_place place q) m.entries
  place_counted place q =
      count_filter_map (eq_by_cmp relation_cmp q) (relation_in place) (values m)
      ∙ count_mapped (λ (i : Item). passes_if_there (eq_by_cmp relation_cmp q) (relation_in place i)) (λ (e : ItemKey × Item). e.1) m.entries

  relations_counted : (q : RelationKey) → count_by (eq_by_cmp relation_cmp q) (relations_of (values m)) ≡ count_by (at_key q) m.entries + count_by (at_key_twice q) m.entries
  relations_counted q =
      count_append (eq_by_cmp relation_cmp q) (filter_map (relation_in 0) (values m)) (filter_map (relation_in 1) (values m))
      ∙ ((λ n. place_counted 0 q n + place_counted 1 q n)
      ∙ count_two (in_place 0 q) (in_place 1 q) m.entries)

  in_place_passes : (place : ℕ) (q : RelationKey) (e : ItemKey × Item) → relation_in place e.1 ≡ Some q → in_place place q e ≡ true
  in_place_passes place q e h = ap (passes_if_there (eq_by_cmp relation_cmp q)) h ∙ (key_decides relation_total relation_exact q q).1 refl

  passes_at : (q : RelationKey) (e : ItemKey × Item) → (relation_in 0 e.1 ≡ Some q) ⊎ (relation_in 1 e.1 ≡ Some q) → at_key q e ≡ true
  passes_at q e h = elim h [
    | inl first ↦ or_left (in_place 0 q e) (in_place 1 q e) (in_place_passes 0 q e first)
    | inr second ↦ or_right (in_place 0 q e) (in_place 1 q e) (in_place_passes 1 q e second)
  ]

  passing_is : (q : RelationKey) (o : Option RelationKey) → passes_if_there (eq_by_cmp relation_cmp q) o ≡ true → o ≡ Some q
  passing_is q None h = absurd (cc h)
  passing_is q (Some x) h = ap (λ (y : RelationKey). Some y) (sym (same_key relation_exact q x h))

  relation_passing : (place : ℕ) (q : RelationKey) (e : ItemKey × Item) → in_place place q e ≡ true → IsRelation e.1 q place
  relation_passing place q e h = relation_back place e.1 q (passing_is q (relation_in place e.1) h)

  -- what passes at a key is of its agent, and relates to its number
  passing : (q : RelationKey) (e : ItemKey × Item) → at_key q e ≡ true → (e.1.agent ≡ q.agent) × (is_living_relation q.number e.1 ≡ true)
  passing q e h = elim (or_cases (in_place 0 q e) (in_place 1 q e) h) [
    | inl first ↦ (let r = relation_passing 0 q e first in (r.agent, relation_lives 0 e.1 q r))
    | inr second ↦ (let r = relation_passing 1 q e second in (r.agent, relation_lives 1 e.1 q r))
  ]

  -- at most one living relation to a number
  pub once : Rights → AreWithin relation_cmp 1 (relations_of (values m)) →
      (k l : ItemKey) (i j : Item) (number : List ℕ) → get items k ≡ Some i → get items l ≡ Some j → k.agent ≡ l.agent → is_living_relation number i ≡ true → is_living_relation number j ≡ true → k ≡ l
  once rights within k l i j number hk hl same ri rj =
      let q : RelationKey = record { agent = i.agent; number = number } in
      let own : i.agent ≡ k.agent = ap (λ (x : ItemKey). x.agent) (rights k i hk).keyed in
      let other : j.agent ≡ l.agent = ap (λ (x : ItemKey). x.agent) (rights l j hl).keyed in
      let agents : j.agent ≡ i.agent = other ∙ (sym same ∙ sym own) in
      let counted = relations_counted q in
      let most = within q in
      let few : count_by (at_key q) m.entries ≤ 1 = omega (arith, counted, most) in
      let first = passes_at q (k, i) (relation_there k i q (rights k i hk) refl ri) in
      let second = passes_at q (l, j) (relation_there l j q (rights l j hl) agents rj) in
      ap (λ (e : ItemKey × Item). e.0) (one_passes (at_key q) m.entries few (k, i) (l, j) (entry_at item_total item_exact m ordered k i hk) (entry_at item_total item_exact m ordered l j hl) first second)

  none_twice : Rights → ((k : ItemKey) (i : Item) → get items k ≡ Some i → AreOwn i) → (q : RelationKey) → count_by (at_key_twice q) m.entries ≡ 0
  none_twice rights own q = none_counted (at_key_twice q) m.entries (λ e in'. false_from_ne_true (at_key_twice q e) (λ passes.
      let h = at_entry item_total item_exact m ordered e.0 e.1 in' in
      let both = and_parts (in_place 0 q e) (in_place 1 q e) passes in
      not_twice e.0 e.1 q (rights e.0 e.1 h) (own e.0 e.1 h) (relation_passing 0 q e both.0) (relation_passing 1 q e both.1)))

  alone_at : Rights → ((k l : ItemKey) (i j : Item) (number : List ℕ) → get items k ≡ Some i → get items l ≡ Some j → k.agent ≡ l.agent → is_living_relation number i ≡ true → is_living_relation number j ≡ true → k ≡ l) → (q : RelationKey) → count_by (at_key q) m.entries ≤ 1
  alone_at rights alone q = few_entries item_total item_exact m ordered (at_key q) (λ a b ia ib pa pb.
      let hk = at_entry item_total item_exact m ordered a.0 a.1 ia in
      let hl = at_entry item_total item_exact m ordered b.0 b.1 ib in
      let ra = passing q a pa in
      let rb = passing q b pb in
      let own : a.1.agent ≡ a.0.agent = ap (λ (x : ItemKey). x.agent) (rights a.0 a.1 hk).keyed in
      let other : b.1.agent ≡ b.0.agent = ap (λ (x : ItemKey). x.agent) (rights b.0 b.1 hl).keyed in
      let keys : a.0 ≡ b.0 = alone a.0 b.0 a.1 b.1 q.number hk hl (sym own ∙ (ra.0 ∙ (sym rb.0 ∙ other))) ra.1 rb.1 in
      let value : a.1 ≡ b.1 = same_Some a.1 b.1 (sym hk ∙ (ap (get items) keys ∙ hl)) in
      (λ n. (keys n, value n)))

  pub within_once : Rights → ((k : ItemKey) (i : Item) → get items k ≡ Some i → AreOwn i) →
      ((k l : ItemKey) (i j : Item) (number : List ℕ) → get items k ≡ Some i → get items l ≡ Some j → k.agent ≡ l.agent → is_living_relation number i ≡ true → is_living_relation number j ≡ true → k ≡ l) → AreWithin relation_cmp 1 (relations_of (values m))
  within_once rights own alone q =
      let counted = relations_counted q in
      let one = alone_at rights alone q in
      let none = none_twice rights own q in
      omega (arith, counted, one, none)

  -- ---- the documents limit

  documents_counted : Rights → (k : TallyKey) → count_by (eq_by_cmp tally_cmp k) (map item_tally_key (values m)) ≡ count_by (is_counted k.agent k.airline k.period) (entries items)
  documents_counted rights k =
      count_mapped (eq_by_cmp tally_cmp k) item_tally_key (values m)
      ∙ (count_alike (λ (i : Item). eq_by_cmp tally_cmp k (item_tally_key i)) (is_item_under (key_tally k)) (values m) (λ i in'. tally_test k i)
      ∙ (count_under k m.entries (λ e in'. sym (ap (λ (x : ItemKey). x.agent) (rights e.0 e.1 (at_entry item_total item_exact m ordered e.0 e.1 in')).keyed))
      ∙ ap (count_by (is_counted k.agent k.airline k.period)) (sym (same_entries item_total item_exact m ordered))))

  pub documents : (limit : ℕ) → Rights → AreWithin tally_cmp limit (map item_tally_key (values m)) → (agent airline period : ℕ) → count_by (is_counted agent airline period) (entries items) ≤ limit
  documents limit rights within agent airline period =
      let k : TallyKey = record { agent = agent; airline = airline; period = period } in
      subst (λ (n : ℕ). n ≤ limit) (documents_counted rights k) (within k)

  pub within_documents : (limit : ℕ) → Rights → ((agent airline period : ℕ) → count_by (is_counted agent airline period) (entries items) ≤ limit) → AreWithin tally_cmp limit (map item_tally_key (values m))
  within_documents limit rights few k = subst (λ (n : ℕ). n ≤ limit) (sym (documents_counted rights k)) (few k.agent k.airline k.period)

  -- ---- relations to tickets that live

  canx_at : (k l : ItemKey) (j : Item) (d : ReportedDocument) → IsRight l j → k.agent ≡ l.agent → is_canx j ≡ true → d.number ≡ j.transaction.document.number → l ≡ canx_of (ticket_key k.agent d)
  canx_at k l j d right same canx number =
      let agents : j.agent ≡ k.agent = ap (λ (x : ItemKey). x.agent) right.keyed ∙ sym same in
      sym right.keyed ∙ (λ n. record { agent = agents n; number = number_of (sym number n); is_canx = canx n })

  pub lives : Rights → EachItem items (IsTiedItem items) → (k l : ItemKey) (i j : Item) → get items k ≡ Some i → get items l ≡ Some j → k.agent ≡ l.agent → is_canx j ≡ true → is_living_relation j.transaction.document.number i ≡ true → ⊥
  lives rights tied k l i j hk hl same canx h =
      let both = and_parts (is_living_sale i) (names j.transaction.document.number i.transaction) h in
      let (d, in', number) = named j.transaction.document.number i.transaction both.1 in
      let f = (tied k i hk).related d in' in
      let at : l ≡ canx_of (ticket_key k.agent d) = canx_at k l j d (rights l j hl) same canx number in
      let cancelled : get items (canx_of (ticket_key k.agent d)) ≡ Some j = sym (ap (get items) at) ∙ hl in
      let ended = (tied (ticket_key k.agent d) f.found.ticket f.found.there).marked ∙ ap (λ (o : Option Item). not (is_some o)) cancelled in
      both_ways f.found.ticket.lives ended (f.unended both.0)

  ticket_number : (d : ReportedDocument) (ticket : Item) → is_ticket d ticket ≡ true → ticket.transaction.document.number ≡ d.number
  ticket_number d ticket is = (bytes_eq-Decides _ _).0 (and_parts (same_code ticket.transaction.code Tktt && (ticket.transaction.document.airline == d.airline)) (has_number d.number ticket) is).1

  unended_by : Rights → (k : ItemKey) (i : Item) (d : ReportedDocument) (h : HasTicket items k.agent i.transaction.document.airline d) →
      ((l : ItemKey) (j : Item) → get items l ≡ Some j → k.agent ≡ l.agent → is_canx j ≡ true → is_living_relation j.transaction.document.number i ≡ false) →
      h.ticket.lives ≡ (false || not (is_some (get items (canx_of (ticket_key k.agent d))))) → is_living_relation d.number i ≡ true → (found : Option Item) → get items (canx_of (ticket_key k.agent d)) ≡ found → h.ticket.lives ≡ true
  unended_by rights k i d h free marked living None is = marked ∙ ap (λ (o : Option Item). not (is_some o)) is
  unended_by rights k i d h free marked living (Some j) is =
      let right = rights (canx_of (ticket_key k.agent d)) j is in
      let own = rights (ticket_key k.agent d) h.ticket h.there in
      let text : j.transaction.document.number ≡ h.ticket.transaction.document.number = one_number _ _ _ _ _ _ right.numbered own.numbered (ap (λ (x : ItemKey). x.number) right.keyed ∙ sym (ap (λ (x : ItemKey). x.number) own.keyed)) in
      let number : j.transaction.document.number ≡ d.number = text ∙ ticket_number d h.ticket h.is in
      absurd (both_ways _ (free (canx_of (ticket_key k.agent d)) j is refl (ap (λ (x : ItemKey). x.is_canx) right.keyed)) (subst (λ (n : List ℕ). is_living_relation n i ≡ true) (sym number) living))

-- ---- all rules on items

module _ (p : Published) (agents : BTreeMap ℕ (List ℕ)) (ranges : BTreeMap RangeKey ℕ) (m : BTreeMap ItemKey Item) (ordered : IsOrdered item_cmp m)
    (stock : AreSoundRanges (as_map nat_cmp agents) (as_map range_cmp ranges)) where
  pub items_sound : AreItemsAudited p agents ranges m → AreSoundItems p (as_map nat_cmp agents) (as_map range_cmp ranges) (as_map item_cmp m)
  items_sound a =
      let rights = λ (k : ItemKey) (i : Item) (h : get (as_map item_cmp m) k ≡ Some i). (a.each k i h).right.right in
      record {
        each = λ k i h.
            let r = (a.each k i h).right in
            let t = (a.each k i h).tied in
            record {
              right = r.right;
              registered = r.registered;
              in_stock = in_stock (as_map nat_cmp agents) (as_map range_cmp ranges) stock k.agent k.number r.in_stock;
              in_time = r.in_time;
              tied = record { lives = t.marked; cancelled = t.cancelled; related = λ d in'. (t.related d in').found };
              taxed = (a.each k i h).taxed;
            };
        related_once = once m ordered rights a.once;
        related_lives = λ k l i j hk hl same canx. false_from_ne_true _ (lives m ordered rights (λ k i h. (a.each k i h).tied) k l i j hk hl same canx);
        documents = documents m ordered (limit_of p.terms) rights a.documents;
      }

  pub items_audited : AreSoundItems p (as_map nat_cmp agents) (as_map range_cmp ranges) (as_map item_cmp m) → AreItemsAudited p agents ranges m
  items_audited s =
      let rights = λ (k : ItemKey) (i : Item) (h : get (as_map item_cmp m) k ≡ Some i). (s.each k i h).right in
      record {
        each = λ k i h. record {
          right = record {
            right = rights k i h;
            registered = (s.each k i h).registered;
            in_stock = in_last_range (as_map nat_cmp agents) (as_map range_cmp ranges) stock k.agent k.number (s.each k i h).in_stock;
            in_time = (s.each k i h).in_time;
          };
          tied = record {
            marked = (s.each k i h).tied.lives;
            cancelled = (s.each k i h).tied.cancelled;
            related = λ d in'.
                let t = (s.each k i h).tied.related d in' in
                let ticket = s.each (ticket_key k.agent d) t.ticket t.there in
                let same = ticket_number m ordered d t.ticket t.is in
                record {
                  digits = subst (λ (text : List ℕ). code_reading 10 text ≡ Ok (number_of text)) same (reads_code t.ticket.transaction.document.number t.ticket.transaction.document.check_digit (number_of t.ticket.transaction.document.number) ticket.right.numbered);
                  found = t;
                  unended = λ living. unended_by m ordered rights k i d t (λ l j at own canx. s.related_lives k l i j h at own canx) ticket.tied.lives (and_from (is_living_sale i) (names d.number i.transaction) living (name_of i d in')) (get (as_map item_cmp m) (canx_of (ticket_key k.agent d))) refl;
                };
          };
          taxed = (s.each k i h).taxed;
        };
        once = within_once m ordered rights (λ k i h d in'. ((s.each k i h).tied.related d in').own) s.related_once;
        documents = within_documents m ordered (limit_of p.terms) rights s.documents;
      }
