-- Lemmas on documents that are written in records 2 and 3.
use Rattle.std.proofs.Common.{◌≡◌, ℕ, ◌<◌, ◌≤◌, ◌^◌, true, List, [], ◌∷◌, length, map, refl, sym, ap, ◌∙◌, subst, arith}
use Rattle.std.specs.Prelude.{codes, nat_le}
use Rattle.std.specs.List.{concat, list_all}
use Rattle.std.specs.Str.{all_ascii_digits}
use Rattle.std.proofs.lemmas.Bool.{and_parts, leb-true}
use Rattle.bsp_fields.specs.Decimal.{fixed_digits, number_of}
use Rattle.bsp_fields.specs.Codes.{code_reading}
use Rattle.bsp_fields.proofs.DecimalLemmas.{length-fixed_digits, digits-fixed_digits, number_of-fixed_digits}
use Rattle.bsp_fields.proofs.CodeLemmas.{code_reading-fixed_digits}
use Rattle.bsp_ret_records.specs.declared.transactions.ReportedDocument.{ReportedDocument}
use Rattle.bsp_fields.specs.Columns.{columns, identifier, is_wide, is_printable, is_space}
use Rattle.bsp_ret_records.specs.Records.{transaction_number, related_document, related_order, related_fits}
use Rattle.bsp_ret.specs.Ret.{IsRecord}
use Rattle.bsp_ret_records.specs.Values.{IsDocument, IsRelated, is_before}
use Rattle.bsp_ret_records.proofs.OrderLemmas.{HasNumber, order_rises}
use Rattle.bsp_ret_writer.specs.GroupValues.{is_document}
use Rattle.bsp_ret_writer.specs.Writing.{document_fields, related_line, spaces}
use Rattle.bsp_fields.proofs.FieldLemmas.{field_at, fields_at, wide_fields}
use Rattle.bsp_fields.proofs.CharacterLemmas.{printable-digits, list_all-replicate, digits-concat}
use Rattle.bsp_fields.proofs.TextLemmas.{spells-digits}
use Rattle.bsp_ret_writer.specs.Stored.{IsStoredDocument}

-- what the test of a document says
pub record DocumentFacts (d : ReportedDocument) : Type 0 where
  pub digits : all_ascii_digits d.number ≡ true
  pub check_digit : d.check_digit ≤ 9

pub document_facts : (d : ReportedDocument) → is_document d ≡ true → DocumentFacts d
unfolding is_document
document_facts d h =
    let parts = and_parts (all_ascii_digits d.number) (nat_le d.check_digit 9) h in
    record { digits = parts.0; check_digit = leb-true d.check_digit 9 parts.1 }

pub document_digits : (d : ReportedDocument) → is_document d ≡ true → all_ascii_digits d.number ≡ true
document_digits d h = (document_facts d h).digits

pub has_number : (d : ReportedDocument) → IsStoredDocument d → is_document d ≡ true → HasNumber d
has_number d stored fits = record { ten = stored.number; digits = document_digits d fits }

-- the fourteen characters of a document that is written read back
pub document_reads : (d : ReportedDocument) → IsStoredDocument d → is_document d ≡ true → IsDocument (concat (document_fields d)) d
document_reads d stored fits =
    let text = concat (document_fields d) in
    let widths : List ℕ = 3 ∷ 10 ∷ 1 ∷ [] in
    let wide : map length (document_fields d) ≡ widths = rw (length-fixed_digits 3 d.airline, stored.number, length-fixed_digits 1 d.check_digit) refl in
    let airline : columns 1 3 text ≡ fixed_digits 3 d.airline = field_at 0 widths (document_fields d) wide in
    let number : columns 4 13 text ≡ d.number = field_at 1 widths (document_fields d) wide in
    let check : columns 14 14 text ≡ fixed_digits 1 d.check_digit = field_at 2 widths (document_fields d) wide in
    record {
      airline = ap (code_reading 3) airline ∙ code_reading-fixed_digits 3 d.airline stored.airline;
      number = sym number;
      check_digit = ap number_of check ∙ number_of-fixed_digits 1 d.check_digit (omega (arith, (document_facts d fits).check_digit));
    }

-- ---- record 3

-- the columns of a record 3
record RelatedColumns (line number airline digits check rest : List ℕ) : Type 0 where
  wide : is_wide line ≡ true
  name : identifier line ≡ 51
  number_at : transaction_number line ≡ number
  document_at : related_document line ≡ concat (airline ∷ digits ∷ check ∷ [])
  rest_at : columns 22 136 line ≡ rest

widths_are : (name number airline digits check rest : List ℕ) → length name ≡ 1 → length number ≡ 6 → length airline ≡ 3 → length digits ≡ 10 → length check ≡ 1 → length rest ≡ 115 → map length (name ∷ number ∷ airline ∷ digits ∷ check ∷ rest ∷ []) ≡ 1 ∷ 6 ∷ 3 ∷ 10 ∷ 1 ∷ 115 ∷ []
widths_are name number airline digits check rest a b d e f g = rw (a, b, d, e, f, g) refl

printable_are : (number airline digits check rest : List ℕ) → all_ascii_digits number ≡ true → all_ascii_digits airline ≡ true → all_ascii_digits digits ≡ true → all_ascii_digits check ≡ true → list_all is_printable rest ≡ true → list_all (list_all is_printable) (codes "3" ∷ number ∷ airline ∷ digits ∷ check ∷ rest ∷ []) ≡ true
printable_are number airline digits check rest a b d e f =
    rw (printable-digits number a, printable-digits airline b, printable-digits digits d, printable-digits check e, f) refl

related_columns : (number airline digits check rest : List ℕ) → map length (codes "3" ∷ number ∷ airline ∷ digits ∷ check ∷ rest ∷ []) ≡ 1 ∷ 6 ∷ 3 ∷ 10 ∷ 1 ∷ 115 ∷ [] → list_all (list_all is_printable) (codes "3" ∷ number ∷ airline ∷ digits ∷ check ∷ rest ∷ []) ≡ true → RelatedColumns (concat (codes "3" ∷ number ∷ airline ∷ digits ∷ check ∷ rest ∷ [])) number airline digits check rest
related_columns number airline digits check rest wide printable =
    let widths : List ℕ = 1 ∷ 6 ∷ 3 ∷ 10 ∷ 1 ∷ 115 ∷ [] in
    let fields : List (List ℕ) = codes "3" ∷ number ∷ airline ∷ digits ∷ check ∷ rest ∷ [] in
    record {
      wide = wide_fields widths fields wide refl printable;
      name = refl;
      number_at = field_at 1 widths fields wide;
      document_at = fields_at 2 3 widths fields wide;
      rest_at = field_at 5 widths fields wide;
    }

related_line-columns : (n : ℕ) (d : ReportedDocument) → IsStoredDocument d → is_document d ≡ true → RelatedColumns (related_line n d) (fixed_digits 6 n) (fixed_digits 3 d.airline) d.number (fixed_digits 1 d.check_digit) (spaces 115)
unfolding related_line
related_line-columns n d stored fits =
    related_columns (fixed_digits 6 n) (fixed_digits 3 d.airline) d.number (fixed_digits 1 d.check_digit) (spaces 115)
    (widths_are (codes "3") (fixed_digits 6 n) (fixed_digits 3 d.airline) d.number (fixed_digits 1 d.check_digit) (spaces 115) refl (length-fixed_digits 6 n) (length-fixed_digits 3 d.airline) stored.number (length-fixed_digits 1 d.check_digit) refl)
    (printable_are (fixed_digits 6 n) (fixed_digits 3 d.airline) d.number (fixed_digits 1 d.check_digit) (spaces 115) (digits-fixed_digits 6 n) (digits-fixed_digits 3 d.airline) ((document_facts d fits).digits) (digits-fixed_digits 1 d.check_digit) (list_all-replicate is_printable 115 32 refl))

related_fits-columns : (line number airline digits check rest : List ℕ) → RelatedColumns line number airline digits check rest → all_ascii_digits airline ≡ true → all_ascii_digits digits ≡ true → all_ascii_digits check ≡ true → list_all is_space rest ≡ true → related_fits line ≡ true
unfolding related_fits
related_fits-columns line number airline digits check rest c a b d blank =
    let all : list_all all_ascii_digits (airline ∷ digits ∷ check ∷ []) ≡ true = rw (a, b, d) refl in
    rw (c.document_at, digits-concat (airline ∷ digits ∷ check ∷ []) all, c.rest_at, blank) refl

-- a record 3 that is written is one
pub related_line-stands : (n : ℕ) (d : ReportedDocument) → IsStoredDocument d → is_document d ≡ true → n < 10 ^ 6 → IsRecord 51 n related_fits (related_line n d)
related_line-stands n d stored fits few =
    let c = related_line-columns n d stored fits in
    record {
      wide = c.wide;
      name = c.name;
      number = rw c.number_at (spells-digits 6 n few);
      fields = related_fits-columns (related_line n d) (fixed_digits 6 n) (fixed_digits 3 d.airline) d.number (fixed_digits 1 d.check_digit) (spaces 115) c (digits-fixed_digits 3 d.airline) ((document_facts d fits).digits) (digits-fixed_digits 1 d.check_digit) (list_all-replicate is_space 115 32 refl);
    }

-- and reads back
pub related_line-reads : (n : ℕ) (d : ReportedDocument) → IsStoredDocument d → is_document d ≡ true → IsRelated (related_line n d) d
related_line-reads n d stored fits =
    let Reads : List ℕ → Type 0 = λ text. IsDocument text d in
    subst Reads (sym ((related_line-columns n d stored fits).document_at)) (document_reads d stored fits)

-- of two that are written, the second is behind the first where its document is
pub related_line-rises : (n : ℕ) (d e : ReportedDocument) → IsStoredDocument d → IsStoredDocument e → is_document d ≡ true → is_document e ≡ true → is_before d e ≡ true → related_order (related_line n d) < related_order (related_line n e)
related_line-rises n d e stored also_stored fits also_fits before =
    order_rises (related_document (related_line n d)) (related_document (related_line n e)) d e (related_line-reads n d stored fits) (related_line-reads n e also_stored also_fits) (has_number d stored fits) (has_number e also_stored also_fits) before
