-- Sums with one more part, item or office.
use Rattle.std.proofs.Common.{◌≡◌, true, false, List, [], ◌∷◌, ◌++◌, map, filter, refl, sym, ap, ◌∙◌, append-nil}
use Rattle.std.proofs.lemmas.List.{map-append}
use Rattle.std.proofs.lemmas.List.Elements.{filter-append}
use Rattle.bsp_hot_records.specs.declared.code.DocumentCode.{DocumentCode}
use Rattle.bsp_hot_records.specs.declared.code.DocumentCode.TheVariants.{Tktt, Rfnd, Canx, Adma, Acma}
use Rattle.bsp_hot_records.specs.declared.totals.Sums.{Sums}
use Rattle.bsp_hot_check.specs.declared.model.CodeSums.{CodeSums}
use Rattle.bsp_hot_records.specs.Records.{Part}
use Rattle.bsp_hot_records.specs.Sums.{one_document, add, sum_of, is_code}
use Rattle.bsp_hot_records.proofs.SumLemmas.{plus_assoc, none_right, sum_of_snoc}
use Rattle.bsp_hot_check.specs.Hot.{Item, Office, part_sums, document_sums, item_sums, items_sums, code_sums, file_sums}
use Rattle.bsp_hot_check.specs.Standings.{add_at}

map_snoc : {A : Type 0} (f : A → Sums) (xs : List A) (x : A) → sum_of (map f (xs ++ x ∷ [])) ≡ add (sum_of (map f xs)) (f x)
map_snoc f xs x = ap sum_of (map-append f xs (x ∷ [])) ∙ sum_of_snoc (map f xs) (f x)

pub document_sums_none : document_sums [] ≡ one_document
document_sums_none = none_right one_document

pub document_sums_snoc : (parts : List Part) (x : Part) → document_sums (parts ++ x ∷ []) ≡ add (document_sums parts) (part_sums x)
document_sums_snoc parts x =
    ap (add one_document) (map_snoc part_sums parts x) ∙ sym (plus_assoc one_document (sum_of (map part_sums parts)) (part_sums x))

pub items_sums_snoc : (items : List Item) (it : Item) → items_sums (items ++ it ∷ []) ≡ add (items_sums items) (item_sums it)
items_sums_snoc items it = map_snoc item_sums items it

pub file_sums_snoc : (offices : List Office) (o : Office) → file_sums (offices ++ o ∷ []) ≡ add (file_sums offices) (items_sums o.items)
file_sums_snoc offices o = map_snoc (λ (x : Office). items_sums x.items) offices o

-- ---- by code

pub code_sums_more : (c : DocumentCode) (items : List Item) (it : Item) → is_code c it.code ≡ true → code_sums c (items ++ it ∷ []) ≡ add (code_sums c items) (item_sums it)
code_sums_more c items it h =
    let joined = filter-append (λ (x : Item). is_code c x.code) items (it ∷ []) in
    let one : filter (λ (x : Item). is_code c x.code) (it ∷ []) ≡ it ∷ [] = rw h refl in
    ap items_sums (joined ∙ ap (λ (xs : List Item). filter (λ (x : Item). is_code c x.code) items ++ xs) one)
    ∙ items_sums_snoc (filter (λ (x : Item). is_code c x.code) items) it

code_sums_same : (c : DocumentCode) (items : List Item) (it : Item) → is_code c it.code ≡ false → code_sums c (items ++ it ∷ []) ≡ code_sums c items
code_sums_same c items it h =
    let joined = filter-append (λ (x : Item). is_code c x.code) items (it ∷ []) in
    let one : filter (λ (x : Item). is_code c x.code) (it ∷ []) ≡ [] = rw h refl in
    ap items_sums (joined ∙ ap (λ (xs : List Item). filter (λ (x : Item). is_code c x.code) items ++ xs) one ∙ append-nil (filter (λ (x : Item). is_code c x.code) items))

abbrev pub codes_of : List Item → CodeSums
codes_of items = record {
  tktt = code_sums Tktt items;
  rfnd = code_sums Rfnd items;
  canx = code_sums Canx items;
  adma = code_sums Adma items;
  acma = code_sums Acma items;
}

five : (a b c d e a2 b2 c2 d2 e2 : Sums) → a ≡ a2 → b ≡ b2 → c ≡ c2 → d ≡ d2 → e ≡ e2
    → ◌≡◌ {A = CodeSums} (record { tktt = a; rfnd = b; canx = c; adma = d; acma = e }) (record { tktt = a2; rfnd = b2; canx = c2; adma = d2; acma = e2 })
five a b c d e a2 b2 c2 d2 e2 p q r s t = rw (p, q, r, s, t) refl

codes_snoc_by : (items : List Item) (it : Item) (c : DocumentCode) → it.code ≡ c → codes_of (items ++ it ∷ []) ≡ add_at (codes_of items) c (item_sums it)
codes_snoc_by items it Tktt k =
    five _ _ _ _ _ _ _ _ _ _ (code_sums_more Tktt items it (rw k refl)) (code_sums_same Rfnd items it (rw k refl)) (code_sums_same Canx items it (rw k refl))
    (code_sums_same Adma items it (rw k refl)) (code_sums_same Acma items it (rw k refl))
codes_snoc_by items it Rfnd k =
    five _ _ _ _ _ _ _ _ _ _ (code_sums_same Tktt items it (rw k refl)) (code_sums_more Rfnd items it (rw k refl)) (code_sums_same Canx items it (rw k refl))
    (code_sums_same Adma items it (rw k refl)) (code_sums_same Acma items it (rw k refl))
codes_snoc_by items it Canx k =
    five _ _ _ _ _ _ _ _ _ _ (code_sums_same Tktt items it (rw k refl)) (code_sums_same Rfnd items it (rw k refl)) (code_sums_more Canx items it (rw k refl))
    (code_sums_same Adma items it (rw k refl)) (code_sums_same Acma items it (rw k refl))
codes_snoc_by items it Adma k =
    five _ _ _ _ _ _ _ _ _ _ (code_sums_same Tktt items it (rw k refl)) (code_sums_same Rfnd items it (rw k refl)) (code_sums_same Canx items it (rw k refl))
    (code_sums_more Adma items it (rw k refl)) (code_sums_same Acma items it (rw k refl))
codes_snoc_by items it Acma k =
    five _ _ _ _ _ _ _ _ _ _ (code_sums_same Tktt items it (rw k refl)) (code_sums_same Rfnd items it (rw k refl)) (code_sums_same Canx items it (rw k refl))
    (code_sums_same Adma items it (rw k refl)) (code_sums_more Acma items it (rw k refl))

-- the sums of the codes with one more item
pub codes_snoc : (items : List Item) (it : Item) → codes_of (items ++ it ∷ []) ≡ add_at (codes_of items) it.code (item_sums it)
codes_snoc items it = codes_snoc_by items it it.code refl

-- and with one more part of the item that came last
pub add_at_more : (sums : CodeSums) (c : DocumentCode) (x y : Sums) → add_at (add_at sums c x) c y ≡ add_at sums c (add x y)
add_at_more sums Tktt x y = rw (plus_assoc sums.tktt x y) refl
add_at_more sums Rfnd x y = rw (plus_assoc sums.rfnd x y) refl
add_at_more sums Canx x y = rw (plus_assoc sums.canx x y) refl
add_at_more sums Adma x y = rw (plus_assoc sums.adma x y) refl
add_at_more sums Acma x y = rw (plus_assoc sums.acma x y) refl
