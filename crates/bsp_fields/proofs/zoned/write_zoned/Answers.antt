use Rattle.std.proofs.Common.{◌≡◌, ◌∙◌, sym, ◌%◌, ap, refl, unsigned_abs, w64}
use Rattle.std.specs.Int.{is_negative}
use Rattle.std.proofs.lemmas.Int.{to_z-of_z}
use Rattle.bsp_fields.specs.Decimal.{fixed_digits}
use Rattle.bsp_fields.specs.Zoned.{ending}
use Rattle.bsp_fields.proofs.ZonedLemmas.{set-fixed_digits, reading-spelling, spelling-only, IsSpelling-spelling}
use Rattle.bsp_fields.proofs.zoned.write_zoned.Goals as goal

pub returns-clause-text : goal.returns-clause-text
returns-clause-text g c =
    let same = to_z-of_z w64 c.args.value c.ranges.value in
    let size_is : c.unsigned_abs-size.result ≡ unsigned_abs c.args.value = rw same at c.unsigned_abs-size.ensures.value in
    let text_is : c.write_digits-text.result ≡ fixed_digits g.row.N (unsigned_abs c.args.value) = c.write_digits-text.ensures ∙ ap (fixed_digits g.row.N) size_is in
    let end_is : c.write_ending.result ≡ ending (is_negative c.args.value) (unsigned_abs c.args.value % 10) = c.write_ending.ensures ∙ rw (same, size_is) refl in
    rw (text_is, end_is) (set-fixed_digits g.row.N (unsigned_abs c.args.value) (ending (is_negative c.args.value) (unsigned_abs c.args.value % 10)) c.requires.some)

pub returns-clause-reads_back : goal.returns-clause-reads_back
returns-clause-reads_back g c =
    rw (returns-clause-text g c) (reading-spelling g.row.N c.args.value c.requires.some c.requires.size)

pub returns-clause-one_spelling : goal.returns-clause-one_spelling
returns-clause-one_spelling g c = λ text. (
  λ s. spelling-only g.row.N c.args.value text c.requires.some s ∙ sym (returns-clause-text g c),
  λ same. rw (same, returns-clause-text g c) (IsSpelling-spelling g.row.N c.args.value c.requires.some c.requires.size),
)
