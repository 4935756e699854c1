-- The numbers of a transaction, place by place.
use Rattle.std.proofs.Common.{◌≡◌, ℕ, Bool, true, false, ◌||◌, List, [], ◌∷◌, Option, Some, None, option_map, refl, sym, ap, ◌∙◌}
use Rattle.std.specs.List.{filter_map, list_any}
use Rattle.std.specs.Str.{bytes_eq}
use Rattle.std.proofs.lemmas.Bool.Decides.{Decides-like, same_from_decides}
use Rattle.std.proofs.lemmas.Slice.Eq.{bytes_eq-Decides}
use Rattle.bsp_ret_records.specs.declared.transactions.ReportedDocument.{ReportedDocument}
use Rattle.bsp_ret_records.specs.declared.transactions.Transaction.{Transaction}
use Rattle.bsp_rules.specs.declared.rows.Item.{Item}
use Rattle.bsp_rules.specs.Rows.{names, names_number}
use Rattle.bsp_rules.specs.Selected.{in_place, is_among, numbers_of, shares}

-- the two ways through an or
pub or_first : (x y r : Bool) → x ≡ true → (x || y) ≡ r → x ≡ r
or_first x y r t e = t ∙ (sym (ap (λ b. b || y) t) ∙ e)

pub or_second : (x y r : Bool) → x ≡ false → (x || y) ≡ r → y ≡ r
or_second x y r f e = sym (ap (λ b. b || y) f) ∙ e

pub bytes_swapped : (xs ys : List ℕ) → bytes_eq xs ys ≡ bytes_eq ys xs
bytes_swapped xs ys = same_from_decides _ _ (bytes_eq-Decides xs ys) (Decides-like _ sym sym (bytes_eq-Decides ys xs))

-- a number that related places name is among their numbers
pub named_among : (number : List ℕ) (places : List (Option ReportedDocument)) →
    list_any (names_number number) places ≡ is_among number (filter_map (λ place. option_map (λ d. d.number) place) places)
named_among number [] = refl
named_among number (None ∷ places) = named_among number places
named_among number (Some d ∷ places) =
    ap (λ b. b || list_any (names_number number) places) (bytes_swapped d.number number) ∙ ap (λ b. bytes_eq number d.number || b) (named_among number places)

pub borne_among : (t : Transaction) (number : List ℕ) → (bytes_eq t.document.number number || names number t) ≡ is_among number (numbers_of t)
borne_among t number =
    ap (λ b. b || names number t) (bytes_swapped t.document.number number) ∙ ap (λ b. bytes_eq number t.document.number || b) (named_among number t.related)

any_places : (test : List ℕ → Bool) (places : List (Option ReportedDocument)) →
    list_any (in_place test) places ≡ list_any test (filter_map (λ place. option_map (λ (d : ReportedDocument). d.number) place) places)
any_places test [] = refl
any_places test (None ∷ places) = any_places test places
any_places test (Some d ∷ places) = ap (λ b. test d.number || b) (any_places test places)

pub shares_placed : (numbers : List (List ℕ)) (i : Item) →
    (is_among i.transaction.document.number numbers || list_any (in_place (λ number. is_among number numbers)) i.transaction.related) ≡ shares numbers i
shares_placed numbers i = ap (λ b. is_among i.transaction.document.number numbers || b) (any_places (λ number. is_among number numbers) i.transaction.related)
