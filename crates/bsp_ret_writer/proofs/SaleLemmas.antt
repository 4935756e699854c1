-- Lemmas on records 2 that are written.
use Rattle.std.proofs.Common.{◌≡◌, ℕ, ◌<◌, ◌^◌, true, List, [], ◌∷◌, length, map, take, drop, refl, sym, ap, ◌∙◌, subst, Ok, Some}
use Rattle.std.specs.Prelude.{codes}
use Rattle.std.specs.List.{concat, list_all}
use Rattle.std.specs.Str.{all_ascii_digits}
use Rattle.bsp_fields.specs.CivilDay.{CivilDay}
use Rattle.bsp_fields.specs.Days.{record_text, record_reading}
use Rattle.bsp_fields.specs.Decimal.{fixed_digits}
use Rattle.bsp_fields.proofs.DecimalLemmas.{length-fixed_digits, digits-fixed_digits}
use Rattle.bsp_fields.proofs.DayTextLemmas.{record_reading-text}
use Rattle.bsp_ret_records.specs.declared.codes.TransactionCode.{TransactionCode}
use Rattle.bsp_ret_records.specs.declared.codes.TransactionCode.TheVariants.{Tktt, Rfnd, Canx}
use Rattle.bsp_ret_records.specs.declared.transactions.Transaction.{Transaction}
use Rattle.bsp_fields.specs.Columns.{columns, identifier, is_wide, is_printable, is_space}
use Rattle.bsp_fields.specs.Fields.{is_record_day}
use Rattle.bsp_ret_records.specs.Records.{transaction_number, agent_and_document, agent as agent_of, document as document_of, issued as issued_of, passenger as passenger_of, code_of, sale_fits}
use Rattle.bsp_ret.specs.Ret.{IsRecord}
use Rattle.bsp_ret_records.specs.Values.{IsDocument}
use Rattle.bsp_ret_writer.specs.GroupValues.{is_document}
use Rattle.bsp_ret_records.specs.Texts.{code_text}
use Rattle.bsp_ret_writer.specs.Writing.{sale_line, spaces}
use Rattle.bsp_fields.proofs.FieldLemmas.{field_at, fields_at, wide_fields}
use Rattle.bsp_fields.proofs.CharacterLemmas.{printable-digits, list_all-replicate, digits-concat}
use Rattle.bsp_fields.proofs.TextLemmas.{spells-digits}
use Rattle.bsp_ret_writer.proofs.DocumentLemmas.{document_reads, document_facts}
use Rattle.bsp_ret_writer.specs.Stored.{IsStored}

-- the columns of a record 2
pub record SaleColumns (line number code agent airline digits check day passenger rest : List ℕ) : Type 0 where
  pub wide : is_wide line ≡ true
  pub name : identifier line ≡ 50
  pub number_at : transaction_number line ≡ number
  pub code_at : columns 8 11 line ≡ code
  pub digits_at : agent_and_document line ≡ concat (agent ∷ airline ∷ digits ∷ check ∷ [])
  pub agent_at : agent_of line ≡ agent
  pub document_at : document_of line ≡ concat (airline ∷ digits ∷ check ∷ [])
  pub day_at : issued_of line ≡ day
  pub passenger_at : passenger_of line ≡ passenger
  pub rest_at : columns 89 136 line ≡ rest

widths_are : (name number code agent airline digits check day passenger rest : List ℕ) → length name ≡ 1 → length number ≡ 6 → length code ≡ 4 → length agent ≡ 8 → length airline ≡ 3 → length digits ≡ 10 → length check ≡ 1 → length day ≡ 6 → length passenger ≡ 49 → length rest ≡ 48 → map length (name ∷ number ∷ code ∷ agent ∷ airline ∷ digits ∷ check ∷ day ∷ passenger ∷ rest ∷ []) ≡ 1 ∷ 6 ∷ 4 ∷ 8 ∷ 3 ∷ 10 ∷ 1 ∷ 6 ∷ 49 ∷ 48 ∷ []
widths_are name number code agent airline digits check day passenger rest a b d e f g h i j k =
    rw (a, b, d, e, f, g, h, i, j, k) refl

-- the digits of a record 2, and its other characters
record SaleCharacters (number code agent airline digits check day passenger rest : List ℕ) : Type 0 where
  number_is : all_ascii_digits number ≡ true
  code_is : list_all is_printable code ≡ true
  agent_is : all_ascii_digits agent ≡ true
  airline_is : all_ascii_digits airline ≡ true
  digits_are : all_ascii_digits digits ≡ true
  check_is : all_ascii_digits check ≡ true
  day_is : all_ascii_digits day ≡ true
  passenger_is : list_all is_printable passenger ≡ true
  rest_is : list_all is_space rest ≡ true
  rest_printable : list_all is_printable rest ≡ true

printable_are : (number code agent airline digits check day passenger rest : List ℕ) → SaleCharacters number code agent airline digits check day passenger rest → list_all (list_all is_printable) (codes "2" ∷ number ∷ code ∷ agent ∷ airline ∷ digits ∷ check ∷ day ∷ passenger ∷ rest ∷ []) ≡ true
printable_are number code agent airline digits check day passenger rest are =
    rw (
      printable-digits number are.number_is,
      are.code_is,
      printable-digits agent are.agent_is,
      printable-digits airline are.airline_is,
      printable-digits digits are.digits_are,
      printable-digits check are.check_is,
      printable-digits day are.day_is,
      are.passenger_is,
      are.rest_printable,
    ) refl

sale_columns : (number code agent airline digits check day passenger rest : List ℕ) → map length (codes "2" ∷ number ∷ code ∷ agent ∷ airline ∷ digits ∷ check ∷ day ∷ passenger ∷ rest ∷ []) ≡ 1 ∷ 6 ∷ 4 ∷ 8 ∷ 3 ∷ 10 ∷ 1 ∷ 6 ∷ 49 ∷ 48 ∷ [] → SaleCharacters number code agent airline digits check day passenger rest → SaleColumns (concat (codes "2" ∷ number ∷ code ∷ agent ∷ airline ∷ digits ∷ check ∷ day ∷ passenger ∷ rest ∷ [])) number code agent airline digits check day passenger rest
sale_columns number code agent airline digits check day passenger rest wide are =
    let widths : List ℕ = 1 ∷ 6 ∷ 4 ∷ 8 ∷ 3 ∷ 10 ∷ 1 ∷ 6 ∷ 49 ∷ 48 ∷ [] in
    let fields : List (List ℕ) = codes "2" ∷ number ∷ code ∷ agent ∷ airline ∷ digits ∷ check ∷ day ∷ passenger ∷ rest ∷ [] in
    let four : List (List ℕ) = agent ∷ airline ∷ digits ∷ check ∷ [] in
    let four_widths : List ℕ = 8 ∷ 3 ∷ 10 ∷ 1 ∷ [] in
    let four_wide : map length four ≡ four_widths = ap (λ (ws : List ℕ). take 4 (drop 3 ws)) wide in
    let digits_at : columns 12 33 (concat fields) ≡ concat four = fields_at 3 4 widths fields wide in
    record {
      wide = wide_fields widths fields wide refl (printable_are number code agent airline digits check day passenger rest are);
      name = refl;
      number_at = field_at 1 widths fields wide;
      code_at = field_at 2 widths fields wide;
      digits_at = digits_at;
      agent_at = ap (columns 1 8) digits_at ∙ field_at 0 four_widths four four_wide;
      document_at = ap (columns 9 22) digits_at ∙ fields_at 1 3 four_widths four four_wide;
      day_at = field_at 7 widths fields wide;
      passenger_at = field_at 8 widths fields wide;
      rest_at = field_at 9 widths fields wide;
    }

code_of-text : (line : List ℕ) (code : TransactionCode) → columns 8 11 line ≡ code_text code → code_of line ≡ Some code
unfolding code_of
code_of-text line Tktt h = rw h refl
code_of-text line Rfnd h = rw h refl
code_of-text line Canx h = rw h refl

length-code_text : (code : TransactionCode) → length (code_text code) ≡ 4
length-code_text Tktt = refl
length-code_text Rfnd = refl
length-code_text Canx = refl

printable-code_text : (code : TransactionCode) → list_all is_printable (code_text code) ≡ true
printable-code_text Tktt = refl
printable-code_text Rfnd = refl
printable-code_text Canx = refl

length-record_text : (d : CivilDay) → length (record_text d) ≡ 6
length-record_text d = refl

digits-record_text : (d : CivilDay) → all_ascii_digits (record_text d) ≡ true
digits-record_text d =
    let all : list_all all_ascii_digits (fixed_digits 2 d.year ∷ fixed_digits 2 d.month ∷ fixed_digits 2 d.day ∷ []) ≡ true = rw (digits-fixed_digits 2 d.year, digits-fixed_digits 2 d.month, digits-fixed_digits 2 d.day) refl in
    digits-concat (fixed_digits 2 d.year ∷ fixed_digits 2 d.month ∷ fixed_digits 2 d.day ∷ []) all

sale_fits-columns : (line number code agent airline digits check day passenger rest : List ℕ) (kind : TransactionCode) (d : CivilDay) → SaleColumns line number code agent airline digits check day passenger rest → SaleCharacters number code agent airline digits check day passenger rest → code_of line ≡ Some kind → record_reading day ≡ Ok d → sale_fits line ≡ true
unfolding sale_fits
sale_fits-columns line number code agent airline digits check day passenger rest kind d c are is reads =
    let all : list_all all_ascii_digits (agent ∷ airline ∷ digits ∷ check ∷ []) ≡ true = rw (are.agent_is, are.airline_is, are.digits_are, are.check_is) refl in
    let read : is_record_day (issued_of line) ≡ true = rw (c.day_at, reads) refl in
    rw (is, c.digits_at, digits-concat (agent ∷ airline ∷ digits ∷ check ∷ []) all, read, c.rest_at, are.rest_is) refl

-- what makes a record 2 of a transaction's values
pub record SaleFits (t : Transaction) : Type 0 where
  pub agent : all_ascii_digits t.agent ≡ true
  pub document : is_document t.document ≡ true
  pub passenger : list_all is_printable t.passenger ≡ true

sale_characters : (n : ℕ) (t : Transaction) → SaleFits t → SaleCharacters (fixed_digits 6 n) (code_text t.code) t.agent (fixed_digits 3 t.document.airline) t.document.number (fixed_digits 1 t.document.check_digit) (record_text t.issued) t.passenger (spaces 48)
sale_characters n t fits = record {
  number_is = digits-fixed_digits 6 n;
  code_is = printable-code_text t.code;
  agent_is = fits.agent;
  airline_is = digits-fixed_digits 3 t.document.airline;
  digits_are = (document_facts t.document fits.document).digits;
  check_is = digits-fixed_digits 1 t.document.check_digit;
  day_is = digits-record_text t.issued;
  passenger_is = fits.passenger;
  rest_is = list_all-replicate is_space 48 32 refl;
  rest_printable = list_all-replicate is_printable 48 32 refl;
}

pub sale_line-columns : (n : ℕ) (t : Transaction) → IsStored t → SaleFits t → SaleColumns (sale_line n t) (fixed_digits 6 n) (code_text t.code) t.agent (fixed_digits 3 t.document.airline) t.document.number (fixed_digits 1 t.document.check_digit) (record_text t.issued) t.passenger (spaces 48)
unfolding sale_line
sale_line-columns n t stored fits =
    sale_columns (fixed_digits 6 n) (code_text t.code) t.agent (fixed_digits 3 t.document.airline) t.document.number (fixed_digits 1 t.document.check_digit) (record_text t.issued) t.passenger (spaces 48)
    (widths_are (codes "2") (fixed_digits 6 n) (code_text t.code) t.agent (fixed_digits 3 t.document.airline) t.document.number (fixed_digits 1 t.document.check_digit) (record_text t.issued) t.passenger (spaces 48) refl (length-fixed_digits 6 n) (length-code_text t.code) stored.agent (length-fixed_digits 3 t.document.airline) stored.document.number (length-fixed_digits 1 t.document.check_digit) (length-record_text t.issued) stored.passenger refl)
    (sale_characters n t fits)

-- the code of a record 2 that is written
pub sale_line-code : (n : ℕ) (t : Transaction) → IsStored t → SaleFits t → code_of (sale_line n t) ≡ Some t.code
sale_line-code n t stored fits = code_of-text (sale_line n t) t.code ((sale_line-columns n t stored fits).code_at)

-- a record 2 that is written is one
pub sale_line-stands : (n : ℕ) (t : Transaction) → IsStored t → SaleFits t → n < 10 ^ 6 → IsRecord 50 n sale_fits (sale_line n t)
sale_line-stands n t stored fits few =
    let c = sale_line-columns n t stored fits in
    record {
      wide = c.wide;
      name = c.name;
      number = rw c.number_at (spells-digits 6 n few);
      fields = sale_fits-columns (sale_line n t) (fixed_digits 6 n) (code_text t.code) t.agent (fixed_digits 3 t.document.airline) t.document.number (fixed_digits 1 t.document.check_digit) (record_text t.issued) t.passenger (spaces 48) t.code t.issued c (sale_characters n t fits) (sale_line-code n t stored fits) (record_reading-text t.issued stored.issued);
    }

-- and its document and its day read back
pub sale_line-document : (n : ℕ) (t : Transaction) → IsStored t → SaleFits t → IsDocument (document_of (sale_line n t)) t.document
sale_line-document n t stored fits =
    let Reads : List ℕ → Type 0 = λ text. IsDocument text t.document in
    subst Reads (sym ((sale_line-columns n t stored fits).document_at)) (document_reads t.document stored.document fits.document)

pub sale_line-issued : (n : ℕ) (t : Transaction) → IsStored t → SaleFits t → record_reading (issued_of (sale_line n t)) ≡ Ok t.issued
sale_line-issued n t stored fits =
    rw ((sale_line-columns n t stored fits).day_at) (record_reading-text t.issued stored.issued)
