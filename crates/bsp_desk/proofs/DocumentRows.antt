-- The item of a number is found by its key.
use Rattle.std.proofs.Common.{◌≡◌, ℕ, ◌==◌, ◌&&◌, ◌||◌, not, Bool, true, false, cond, List, [], ◌∷◌, map, Option, Some, None, Ok, refl, sym, ap, subst, ◌∙◌}
use Rattle.std.specs.Cmp.{tied_itself}
use Rattle.std.specs.FinMap.{entries, get, get-entries, values}
use Rattle.std.specs.FinMap.Entries.{find as find_key}
use Rattle.std.specs.List.{Contains, filter, find}
use Rattle.std.specs.Ordering.{eq_by_cmp, is_eq}
use Rattle.std.specs.declared.cmp.Ordering.{Ordering}
use Rattle.std.proofs.lemmas.Bool.{and_from, and_parts, eqb-true, false≢true, or_left, or_right}
use Rattle.std.proofs.lemmas.Slice.Eq.{bytes_eq-Decides}
use Rattle.bsp_rows.proofs.ListLemmas.{contains_head, contains_tail, filter_contains, filter_holds, find_contains}
use Rattle.bsp_rows.specs.Codes.{document_reading}
use Rattle.bsp_rows.specs.Decimal.{number_of}
use Rattle.bsp_messages.specs.Values.{document_in}
use Rattle.bsp_messages.specs.declared.answer.Answer.{Answer as Message}
use Rattle.bsp_messages.specs.declared.answer.Answer.TheVariants as message
use Rattle.bsp_messages.specs.declared.answer.DocumentShown.{DocumentShown}
use Rattle.bsp_messages.specs.declared.answer.DocumentState.{DocumentState}
use Rattle.bsp_messages.specs.declared.answer.DocumentState.TheVariants.{Cancelled}
use Rattle.bsp_messages.specs.declared.refusal.RequestRefusal.TheVariants.{NoDocument}
use Rattle.bsp_rows.proofs.KeyOrders.{item_exact, item_total}
use Rattle.bsp_rows.proofs.MapLemmas.{entry_get, same_key}
use Rattle.bsp_rows.proofs.DocumentLemmas.{one_number, read_number}
use Rattle.bsp_rows.proofs.PartLemmas.{kept_entries}
use Rattle.bsp_rows.specs.Part.{agent_part}
use Rattle.bsp_rows.specs.Rows.{Rows, agent_items, item_cmp, key_of}
use Rattle.bsp_rows.specs.Sound.{IsRight, Sound}
use Rattle.bsp_rows.specs.declared.keys.ItemKey.{ItemKey}
use Rattle.bsp_rules.specs.Rows.{has_number, is_canx, is_living_relation, names}
use Rattle.bsp_book.specs.Lookups.{items_with_number}
use Rattle.bsp_book.specs.Numbers.{bears}
use Rattle.bsp_rules.specs.declared.rows.Item.{Item}
use Rattle.bsp_desk_sales.specs.Ledger.{document_answer, document_shown, first_of, item_of_number, ledger_answer, ledger_of, state_by, state_of}
use Rattle.bsp_desk_sales.specs.Requests.AgentRequest.{AskDocument}
use Rattle.bsp_desk_sales.specs.Texts.{Says}
use Rattle.bsp_desk.specs.Documents.{is_canx_of, is_sale_of}
use Rattle.bsp_desk.proofs.OwnRows.{part_items}

-- the first value that passes is the one at a key, where the entries that pass are those of the key
found_at : {K X : Type 0} (R : K → K → Ordering) (k : K) (test : X → Bool) (es : List (K × X)) → ((e : K × X) → Contains es e → eq_by_cmp R k e.0 ≡ test e.1) → find test (map (λ e. e.1) es) ≡ find_key R k es
found_at R k test [] same = refl
found_at {K} {X} R k test (e ∷ es) same =
    ap (λ b. cond b (Some e.1) (find test (map (λ (x : K × X). x.1) es))) (sym (same e (contains_head e es)))
    ∙ ap (λ (rest : Option X). cond (eq_by_cmp R k e.0) (Some e.1) rest) (found_at R k test es (λ x h. same x (contains_tail e es x h)))

alike : (a b : Bool) → (a ≡ true → b ≡ true) → (b ≡ true → a ≡ true) → a ≡ b
alike true b h g = sym (h refl)
alike false true h g = g refl
alike false false h g = refl

-- a test that passes at one of true and false
pub record Marks (mark : Bool → Bool) (c : Bool) : Type 0 where
  pub passes : (b : Bool) → mark b ≡ true → b ≡ c
  pub at : mark c ≡ true

not_true : (b : Bool) → not b ≡ true → b ≡ false
not_true true h = absurd (cc h)
not_true false h = refl

sale_marks : Marks not false
sale_marks = record { passes = not_true; at = refl }

canx_marks : Marks (λ b. b) true
canx_marks = record { passes = λ b h. h; at = refl }

module _ (agent number check : ℕ) (digits : List ℕ) (reads : document_reading digits check ≡ Ok number) (mark : Bool → Bool) (c : Bool) (marks : Marks mark c) where
  abbrev key : ItemKey
  key = record { agent = agent; number = number; is_canx = c }

  abbrev test : Item → Bool
  test i = has_number digits i && mark (is_canx i)

  module _ (k : ItemKey) (i : Item) (right : IsRight k i) (own : k.agent ≡ agent) where
    to_test : eq_by_cmp item_cmp key k ≡ true → test i ≡ true
    to_test h =
        let same : key ≡ key_of i = same_key item_exact key k h ∙ sym right.keyed in
        let numbers : number_of i.transaction.document.number ≡ number_of digits = sym (ap (λ (x : ItemKey). x.number) same) ∙ sym (read_number digits check number reads) in
        let texts : i.transaction.document.number ≡ digits = one_number i.transaction.document.number digits i.transaction.document.check_digit check _ number right.numbered reads numbers in
        and_from (has_number digits i) (mark (is_canx i)) ((bytes_eq-Decides i.transaction.document.number digits).1 texts) (sym (ap mark (ap (λ (x : ItemKey). x.is_canx) same)) ∙ marks.at)

    to_key : test i ≡ true → eq_by_cmp item_cmp key k ≡ true
    to_key h =
        let both = and_parts (has_number digits i) (mark (is_canx i)) h in
        let numbers : number_of i.transaction.document.number ≡ number = ap number_of ((bytes_eq-Decides i.transaction.document.number digits).0 both.0) ∙ read_number digits check number reads in
        let agents : i.agent ≡ agent = ap (λ (x : ItemKey). x.agent) right.keyed ∙ own in
        let codes : is_canx i ≡ c = marks.passes (is_canx i) both.1 in
        let same : k ≡ key = sym right.keyed ∙ (λ j. record { agent = agents j; number = numbers j; is_canx = codes j }) in
        ap (λ (x : ItemKey). eq_by_cmp item_cmp key x) same ∙ ap is_eq (tied_itself item_total key)

  pub at_key : (rows : Rows) → Sound rows → find test (agent_items agent rows) ≡ get (agent_part agent rows).items key
  at_key rows sound =
      found_at item_cmp key test (filter (λ e. e.0.agent == agent) (entries rows.items)) (λ e within.
      let own = eqb-true e.0.agent agent (filter_holds (λ (x : ItemKey × Item). x.0.agent == agent) (entries rows.items) e within) in
      let there : get rows.items e.0 ≡ Some e.1 = entry_get item_total item_exact rows.items e.0 e.1 (filter_contains (λ (x : ItemKey × Item). x.0.agent == agent) (entries rows.items) e within) in
      let right = (sound.items.each e.0 e.1 there).right in
      alike _ _ (to_test e.0 e.1 right own) (to_key e.0 e.1 right own))
      ∙ (ap (find_key item_cmp key) (sym (kept_entries item_total item_exact (λ (x : ItemKey × Item). x.0.agent == agent) rows.items))
      ∙ sym (get-entries (agent_part agent rows).items key))

abbrev pub shown_as : Item → DocumentState → DocumentShown
shown_as item state = record { item = item; state = state }

-- what is looked for among the elements that pass a wider test is what is looked for among all
find_within : {X : Type 0} (p q : X → Bool) → ((x : X) → p x ≡ true → q x ≡ true) → (xs : List X) → find p (filter q xs) ≡ find p xs
find_within p q within [] = refl
find_within {X} p q within (x ∷ xs) = at (q x) refl (p x) refl (find_within p q within xs) where
  at : (b : Bool) → q x ≡ b → (c : Bool) → p x ≡ c → find p (filter q xs) ≡ find p xs → find p (cond b (x ∷ filter q xs) (filter q xs)) ≡ cond c (Some x) (find p xs)
  at true e c f rest = ap (λ d. cond d (Some x) (find p (filter q xs))) f ∙ ap (λ (o : Option X). cond c (Some x) o) rest
  at false e true f rest = absurd (false≢true (sym e ∙ within x f))
  at false e false f rest = rest

module _ (digits : List ℕ) where
  sale_bears : (i : Item) → is_sale_of digits i ≡ true → bears digits i ≡ true
  sale_bears i h = or_left (has_number digits i) (names digits i.transaction) (and_parts (has_number digits i) (not (is_canx i)) h).0

  canx_bears : (i : Item) → is_canx_of digits i ≡ true → bears digits i ≡ true
  canx_bears i h = or_left (has_number digits i) (names digits i.transaction) (and_parts (has_number digits i) (is_canx i) h).0

  relation_bears : (i : Item) → is_living_relation digits i ≡ true → bears digits i ≡ true
  relation_bears i h = or_right (has_number digits i) (names digits i.transaction) (and_parts (i.lives && not (is_canx i)) (names digits i.transaction) h).1

  -- the item that is found has the number
  numbered : (items : List Item) (item : Item) (sale : Option Item) → sale ≡ find (is_sale_of digits) items → Some item ≡ first_of sale (find (is_canx_of digits) items) → item.transaction.document.number ≡ digits
  numbered items item (Some i) is found =
      let at = find_contains (is_sale_of digits) items item (sym is ∙ sym found) in
      (bytes_eq-Decides item.transaction.document.number digits).0 (and_parts (has_number digits item) (not (is_canx item)) at.1).0
  numbered items item None is found =
      let at = find_contains (is_canx_of digits) items item (sym found) in
      (bytes_eq-Decides item.transaction.document.number digits).0 (and_parts (has_number digits item) (is_canx item) at.1).0

  -- its state is by the living relation to its number, which bears the number
  same_state : (items : List Item) (item : Item) → item.transaction.document.number ≡ digits → state_of (filter (bears digits) items) item ≡ state_of items item
  same_state items item is =
      let related : find (is_living_relation item.transaction.document.number) (filter (bears digits) items) ≡ find (is_living_relation item.transaction.document.number) items =
      find_within (is_living_relation item.transaction.document.number) (bears digits) (λ i h. relation_bears i (ap (λ (n : List ℕ). is_living_relation n i) (sym is) ∙ h)) items in
      ap (λ (o : Option Item). cond (is_canx item || not item.lives) Cancelled (state_by o)) related

module _ (rows : Rows) (sound : Sound rows) (agent number check : ℕ) (digits : List ℕ) (reads : document_reading digits check ≡ Ok number) (text : List ℕ) (read : Some number ≡ document_in text) (items : List Item) (are : items ≡ items_with_number agent digits rows) where
  of_number : first_of (find (is_sale_of digits) items) (find (is_canx_of digits) items) ≡ item_of_number agent number (agent_part agent rows).items
  of_number = λ i. first_of
      ((ap (find (is_sale_of digits)) are ∙ (find_within (is_sale_of digits) (bears digits) (sale_bears digits) (agent_items agent rows) ∙ at_key agent number check digits reads not false sale_marks rows sound)) i)
      ((ap (find (is_canx_of digits)) are ∙ (find_within (is_canx_of digits) (bears digits) (canx_bears digits) (agent_items agent rows) ∙ at_key agent number check digits reads (λ b. b) true canx_marks rows sound)) i)

  document_by : (found : Option Item) (m : Message) → found ≡ first_of (find (is_sale_of digits) items) (find (is_canx_of digits) items) → Says (document_shown (agent_items agent rows) found) m → Says (ledger_answer agent (ledger_of agent rows) (AskDocument text)) m
  document_by found m is says =
      let l = ledger_of agent rows in
      subst (λ (n : Option ℕ). Says (document_answer agent l n) m) read
      (subst (λ (o : Option Item). Says (document_shown (values l.own.items) o) m) (is ∙ of_number)
      (subst (λ (xs : List Item). Says (document_shown xs found) m) (part_items agent rows) says))

  pub document_says : (item : Item) → Some item ≡ first_of (find (is_sale_of digits) items) (find (is_canx_of digits) items) → (shown : DocumentShown) → shown ≡ record { item = item; state = state_of items item } → Says (ledger_answer agent (ledger_of agent rows) (AskDocument text)) (message.Document shown)
  document_says item is shown same =
      let state = ap (λ (xs : List Item). state_of xs item) are ∙ same_state digits (agent_items agent rows) item (numbered digits items item (find (is_sale_of digits) items) refl is) in
      document_by (Some item) (message.Document shown) is (ap (λ (d : DocumentShown). message.Document d) (same ∙ ap (λ (s : DocumentState). shown_as item s) state))

  pub no_document : ◌≡◌ {A = Option Item} None (first_of (find (is_sale_of digits) items) (find (is_canx_of digits) items)) → Says (ledger_answer agent (ledger_of agent rows) (AskDocument text)) (message.Refused NoDocument)
  no_document is = document_by None (message.Refused NoDocument) is refl
