-- Lemmas on the table of all codes.
use Rattle.std.proofs.Common.{◌≡◌, ℕ, ◌+◌, ◌<◌, length, get_or, drop, Bool, true, false, List, [], ◌∷◌, ◌++◌, Option, Some, None, option_map, is_some, map, cond, ◌||◌, ap, ◌∙◌, sym, refl}
use Rattle.std.specs.List.{find, flat_map, list_any}
use Rattle.std.specs.Option.{option_or}
use Rattle.std.specs.Str.{bytes_eq}
use Rattle.std.proofs.lemmas.List.{drop_more}
use Rattle.std.proofs.lemmas.List.Concat.{flat_map-append}
use Rattle.std.proofs.lemmas.List.Folds.{find-append, flat_map-map}
use Rattle.bsp_fault_texts.specs.Codes.{all_codes, is_code}
use Rattle.bsp_fault_texts.specs.Table.{Said, entry_named, table}

-- the codes of the table
pub codes_are : map (λ (s : Said). s.code) table ≡ all_codes
unfolding table all_codes
codes_are = refl

found_any : {A : Type 0} (p : A → Bool) (xs : List A) → is_some (find p xs) ≡ list_any p xs
found_any p [] = refl
found_any p (x ∷ xs) = elim (p x) as (λ b. is_some (cond b (Some x) (find p xs)) ≡ (b || list_any p xs)) [ true ↦ refl | false ↦ found_any p xs ]

any_map : {A B : Type 0} (p : B → Bool) (f : A → B) (xs : List A) → list_any (λ x. p (f x)) xs ≡ list_any p (map f xs)
any_map p f [] = refl
any_map p f (x ∷ xs) = ap (λ b. p (f x) || b) (any_map p f xs)

-- a text has an entry if it is a code
pub known : {A : Type 0} (said : A → Said) (r : Option A) (code : List ℕ) → option_map said r ≡ entry_named code → is_some r ≡ is_code code
known {A} said r code is =
    of_map r
    ∙ ap is_some is
    ∙ found_any (λ (s : Said). bytes_eq s.code code) table
    ∙ any_map (λ (c : List ℕ). bytes_eq c code) (λ (s : Said). s.code) table
    ∙ ap (list_any (λ (c : List ℕ). bytes_eq c code)) codes_are
  where
    of_map : (x : Option A) → is_some x ≡ is_some (option_map said x)
    of_map None = refl
    of_map (Some a) = refl

-- what is found in the part at a place, if nothing is in those before it
module _ {A P S : Type 0} (p : S → Bool) (said : A → S) (part : P → List S) (parts : List P) (i : ℕ) (d : P) (r : Option A) (within : i < length parts) (found : option_map said r ≡ find p (part (get_or parts i d)))
    (before : find p (flat_map part (drop i parts)) ≡ find p (flat_map part parts)) where
  here_or_behind : find p (flat_map part parts) ≡ option_or (option_map said r) (find p (flat_map part (drop (i + 1) parts)))
  here_or_behind =
      sym before
      ∙ ap (λ (l : List P). find p (flat_map part l)) (drop_more parts i d within)
      ∙ find-append p (part (get_or parts i d)) (flat_map part (drop (i + 1) parts))
      ∙ ap (λ (o : Option S). option_or o (find p (flat_map part (drop (i + 1) parts)))) (sym found)

  pub found_here : (a : A) → r ≡ Some a → option_map said (Some a) ≡ find p (flat_map part parts)
  found_here a is = sym (here_or_behind ∙ ap (λ (o : Option A). option_or (option_map said o) (find p (flat_map part (drop (i + 1) parts)))) is)

  pub found_behind : r ≡ None → find p (flat_map part (drop (i + 1) parts)) ≡ find p (flat_map part parts)
  found_behind is = sym (here_or_behind ∙ ap (λ (o : Option A). option_or (option_map said o) (find p (flat_map part (drop (i + 1) parts)))) is)

-- lines of rows that make a list
pub lines_of_parts : {A P S : Type 0} (line : S → List ℕ) (said : A → S) (part : P → List A) (parts : List P) → flat_map (λ p. flat_map (λ row. line (said row)) (part p)) parts ≡ flat_map line (flat_map (λ p. map said (part p)) parts)
lines_of_parts line said part [] = refl
lines_of_parts line said part (p ∷ ps) =
    ap (λ (rest : List ℕ). flat_map (λ row. line (said row)) (part p) ++ rest) (lines_of_parts line said part ps)
    ∙ ap (λ (first : List ℕ). first ++ flat_map line (flat_map (λ q. map said (part q)) ps)) (sym (flat_map-map line said (part p)))
    ∙ sym (flat_map-append line (map said (part p)) (flat_map (λ q. map said (part q)) ps))
