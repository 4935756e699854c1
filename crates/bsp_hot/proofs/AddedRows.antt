-- Rows that a loop adds.
use Rattle.std.proofs.Common.{◌≡◌, ℕ, ◌+◌, ◌<◌, ◌≤◌, Bool, true, false, cond, List, [], ◌∷◌, ◌++◌, map, take, length, get_or, refl, sym, ap, subst, ◌∙◌, append_assoc}
use Rattle.std.specs.List.{All, filter}
use Rattle.std.proofs.lemmas.List.{append-nil, map-append, take_all}
use Rattle.std.proofs.lemmas.List.Elements.{All-push, filter_more}
use Rattle.bsp_hot.specs.declared.rows.Row.{Row}
use Rattle.bsp_hot.specs.Rows.{Entry}
use Rattle.bsp_hot.specs.Sorting.{entry_of, IsRow}

-- these are rows, of the entries of the old ones and of further entries
pub record Added (old : List Row) (more : List Entry) (rows : List Row) : Type 0 where
  pub are : All IsRow rows
  pub entries : map entry_of rows ≡ map entry_of old ++ more

pub none_added : (old rows : List Row) → rows ≡ old → All IsRow old → Added old [] rows
none_added old rows same are = record {
  are = subst (All IsRow) (sym same) are;
  entries = ap (map entry_of) same ∙ sym (append-nil (map entry_of old));
}

module _ {X : Type 0} (passes : X → Bool) (entry : X → Entry) (xs : List X) (i : ℕ) (x : X) (below : i < length xs) (is : x ≡ get_or xs i x) where
  next : (b : Bool) → passes x ≡ b → filter passes (take (i + 1) xs) ≡ filter passes (take i xs) ++ cond b (x ∷ []) []
  next b test =
      filter_more passes xs i x below
      ∙ ap (λ (y : X). filter passes (take i xs) ++ cond (passes y) (y ∷ []) []) (sym is)
      ∙ ap (λ (t : Bool). filter passes (take i xs) ++ cond t (x ∷ []) []) test

  pub row_added : (old rows new : List Row) (row : Row) → passes x ≡ true → IsRow row → entry_of row ≡ entry x → new ≡ rows ++ row ∷ [] → Added old (map entry (filter passes (take i xs))) rows → Added old (map entry (filter passes (take (i + 1) xs))) new
  row_added old rows new row test is_row of added h =
      let before = map entry (filter passes (take i xs)) in
      record {
        are = subst (All IsRow) (sym added) (All-push IsRow rows row h.are is_row);
        entries = ap (map entry_of) added
            ∙ map-append entry_of rows (row ∷ [])
            ∙ ap (λ (es : List Entry). es ++ entry_of row ∷ []) h.entries
            ∙ append_assoc (map entry_of old) before (entry_of row ∷ [])
            ∙ ap (λ (e : Entry). map entry_of old ++ (before ++ e ∷ [])) of
            ∙ ap (λ (es : List Entry). map entry_of old ++ es) (sym (map-append entry (filter passes (take i xs)) (x ∷ [])) ∙ ap (map entry) (sym (next true test)));
      }

  pub row_left_out : (old rows : List Row) → passes x ≡ false → Added old (map entry (filter passes (take i xs))) rows → Added old (map entry (filter passes (take (i + 1) xs))) rows
  row_left_out old rows test h =
      let same : filter passes (take (i + 1) xs) ≡ filter passes (take i xs) = next false test ∙ append-nil (filter passes (take i xs)) in
      subst (λ (ys : List X). Added old (map entry ys) rows) (sym same) h

pub all_added : {X : Type 0} (passes : X → Bool) (entry : X → Entry) (xs : List X) (i : ℕ) (old rows : List Row) → length xs ≤ i → Added old (map entry (filter passes (take i xs))) rows → Added old (map entry (filter passes xs)) rows
all_added {X} passes entry xs i old rows past h = subst (λ (ys : List X). Added old (map entry (filter passes ys)) rows) (take_all i xs past) h
