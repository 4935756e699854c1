-- The last line of a statement, and that of a HOT file.
use Rattle.std.proofs.Common.{◌≡◌, ℕ, suc, ◌+◌, Bool, List, [], ◌∷◌, ◌++◌, length, refl, sym, ap, subst, ◌∙◌, arith, append-nil, append_assoc}
use Rattle.std.specs.Prelude.{codes}
use Rattle.std.specs.List.{flat_map}
use Rattle.bsp_rows.specs.Decimal.{fixed_digits}
use Rattle.bsp_rows.specs.Posting.{Posting}
use Rattle.bsp_rows.specs.Writing.{text_of}
use Rattle.bsp_hot.specs.Files.{hot_text}
use Rattle.bsp_hot.specs.Lines.{line_of, lines_from}
use Rattle.bsp_hot_check.specs.FileForm.{FileForm}
use Rattle.bsp_hot_check.specs.Hot.{File, all_but_last, file_sums, offices_records, records_of}
use Rattle.bsp_hot_check.specs.Records.{Record, file_header, file_totals, period_header, period_totals}
use Rattle.bsp_hot_check.specs.Sums.{with_net}
use Rattle.bsp_statement.specs.Sums.{figures_of}
use Rattle.bsp_statement.specs.Texts.{airline_line, columns, figures_line, heading, left, right, statement_text}
use Rattle.bsp_office_spec.specs.Printed.{HasLastLine}

-- ---- ends of lines

record EndsLine (text : List ℕ) : Type 0 where
  start : List ℕ
  text_is : text ≡ start ++ codes "\n"

ends : (xs : List ℕ) → EndsLine (xs ++ codes "\n")
ends xs = record { start = xs; text_is = refl }

behind : (xs ys : List ℕ) → EndsLine ys → EndsLine (xs ++ ys)
behind xs ys e = record { start = xs ++ e.start; text_is = ap (λ (t : List ℕ). xs ++ t) e.text_is ∙ sym (append_assoc xs e.start (codes "\n")) }

with_lines : {X : Type 0} (f : X → List ℕ) → ((x : X) → EndsLine (f x)) → (front : List ℕ) → EndsLine front → (xs : List X) → EndsLine (front ++ flat_map f xs)
with_lines f each front e [] = subst EndsLine (sym (append-nil front)) e
with_lines f each front e (x ∷ xs) = subst EndsLine (append_assoc front (f x) (flat_map f xs)) (with_lines f each (front ++ f x) (behind front (f x) (each x)) xs)

last_line : (front line : List ℕ) → EndsLine front → HasLastLine (front ++ line) line
last_line front line e = record { before = e.start; text_is = ap (λ (t : List ℕ). t ++ line) e.text_is }

last_behind : (xs text line : List ℕ) → HasLastLine text line → HasLastLine (xs ++ text) line
last_behind xs text line h = record {
  before = xs ++ h.before;
  text_is = ap (λ (t : List ℕ). xs ++ t) h.text_is
      ∙ (sym (append_assoc xs (h.before ++ codes "\n") line)
      ∙ ap (λ (t : List ℕ). t ++ line) (sym (append_assoc xs h.before (codes "\n"))));
}

-- ---- a statement

columns_end : (name count : List ℕ) (amounts : List (List ℕ)) → EndsLine (columns name count amounts)
unfolding columns
columns_end name count amounts =
    behind (left 3 name) (right 8 count ++ (flat_map (right 16) amounts ++ codes "\n"))
    (behind (right 8 count) (flat_map (right 16) amounts ++ codes "\n") (ends (flat_map (right 16) amounts)))

pub statement_total : (taxed : Bool) (agent : ℕ) (first_line airlines : List ℕ) (rows : List Posting) → HasLastLine (statement_text taxed agent first_line airlines rows) (figures_line taxed (codes "TOT") (figures_of rows))
statement_total taxed agent first_line airlines rows =
    let line = figures_line taxed (codes "TOT") (figures_of rows) in
    let some = flat_map (airline_line taxed rows) airlines in
    let front = with_lines (airline_line taxed rows) (λ airline. columns_end _ _ _) (heading taxed) (columns_end _ _ _) airlines in
    let all = subst (λ (t : List ℕ). HasLastLine t line) (append_assoc (heading taxed) some line) (last_line (heading taxed ++ some) line front) in
    last_behind (codes "STATEMENT ") _ line (last_behind (fixed_digits 8 agent) _ line (last_behind (codes " ") _ line (last_behind first_line _ line all)))

-- ---- a HOT file

text_push : (form : FileForm) (n : ℕ) (rs : List Record) (r : Record) → text_of (lines_from form n (rs ++ r ∷ [])) ≡ text_of (lines_from form n rs) ++ (line_of form (n + length rs) r ++ codes "\n")
text_push form n [] r = append-nil (line_of form n r ++ codes "\n") ∙ ap (λ (k : ℕ). line_of form k r ++ codes "\n") (omega arith)
text_push form n (s ∷ rs) r =
    let line = line_of form n s ++ codes "\n" in
    let last : ℕ → List ℕ = λ k. line_of form k r ++ codes "\n" in
    ap (λ (t : List ℕ). line ++ t) (text_push form (suc n) rs r)
    ∙ (sym (append_assoc line (text_of (lines_from form (suc n) rs)) (last (suc n + length rs)))
    ∙ ap (λ (k : ℕ). (line ++ text_of (lines_from form (suc n) rs)) ++ last k) (omega arith))

records_end : (form : FileForm) (n : ℕ) (front : List ℕ) → EndsLine front → (rs : List Record) → EndsLine (front ++ text_of (lines_from form n rs))
records_end form n front e [] = subst EndsLine (sym (append-nil front)) e
records_end form n front e (r ∷ rs) =
    let line = line_of form n r ++ codes "\n" in
    subst EndsLine (append_assoc front line (text_of (lines_from form (suc n) rs))) (records_end form (suc n) (front ++ line) (behind front line (ends (line_of form n r))) rs)

some_end : (form : FileForm) (r : Record) (rs : List Record) → EndsLine (text_of (lines_from form 1 (r ∷ rs)))
some_end form r rs = records_end form 2 (line_of form 1 r ++ codes "\n") (ends (line_of form 1 r)) rs

pub file_last : (form : FileForm) (f : File) → let n = length (all_but_last f) + 1 in HasLastLine (hot_text form (records_of f)) (line_of form n (file_totals f.heading.airline n (with_net (file_sums f.offices))) ++ codes "\n")
file_last form f =
    let rs = all_but_last f in
    let behind_first = period_header f.heading.period f.days ∷ (offices_records f.heading 1 f.offices ++ period_totals f.heading.period (length f.offices) (with_net (file_sums f.offices)) ∷ []) in
    let r : Record = file_totals f.heading.airline (length rs + 1) (with_net (file_sums f.offices)) in
    let text = text_push form 1 rs r ∙ ap (λ (k : ℕ). text_of (lines_from form 1 rs) ++ (line_of form k r ++ codes "\n")) (omega arith) in
    let line = line_of form (length rs + 1) r ++ codes "\n" in
    subst (λ (t : List ℕ). HasLastLine t line) (sym text) (last_line (text_of (lines_from form 1 rs)) line (some_end form (file_header f.heading) behind_first))
