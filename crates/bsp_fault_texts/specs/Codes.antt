-- Which texts are codes.
use Rattle.std.specs.Prelude.{ℕ, ◌+◌, ◌/◌, ◌%◌, Bool, List, [], ◌∷◌, ◌++◌, map}
use Rattle.std.specs.List.{list_any, range_with_len}
use Rattle.std.specs.Str.{bytes_eq}

-- a letter and two digits
abbrev pub code_text : ℕ → ℕ → List ℕ
code_text letter number = letter ∷ ((48 + number / 10) ∷ ((48 + number % 10) ∷ []))

-- the codes of a letter, from 01 to the most
abbrev pub codes_of : ℕ → ℕ → List (List ℕ)
codes_of letter most = map (code_text letter) (range_with_len 1 most)

-- of a request (N), its head (T), RET files, verdicts (E), the plan, stock (K), memos, documents, reports (S), HOT files and the book
unfoldable pub all_codes : List (List ℕ)
all_codes =
    codes_of 78 6
    ++ (codes_of 84 5
    ++ (codes_of 70 10
    ++ (codes_of 69 12 ++ (codes_of 80 9 ++ (codes_of 75 5 ++ (codes_of 77 8 ++ (codes_of 68 1 ++ (codes_of 83 2 ++ (codes_of 72 4 ++ codes_of 66 4)))))))))

-- the text is one of them
abbrev pub is_code : List ℕ → Bool
is_code text = list_any (λ code. bytes_eq code text) all_codes
