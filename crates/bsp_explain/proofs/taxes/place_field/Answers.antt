use Rattle.std.proofs.Common.{◌≡◌, ℕ, ◌+◌, true, false, ◌∙◌, List, [], refl, sym, Option, None}
use Rattle.std.specs.Prelude.{IfSome, IfNone}
use Rattle.std.specs.List.{list_all}
use Rattle.bsp_fields.specs.Columns.{is_space}
use Rattle.bsp_explain.specs.declared.field.Field.{Field}
use Rattle.bsp_explain.specs.Fields.{all_fit, first_unfit, IsAtFault}
use Rattle.bsp_explain.specs.TaxFields.{place_first, place_at, is_after_unused, code_before, unused_place_fields, used_place_fields, place_fields}
use Rattle.bsp_explain.proofs.TaxLemmas.{blank_place, blank_fits}
use Rattle.bsp_explain.proofs.taxes.place_field.Goals as goal

-- what holds of fields, holds of fields that are the same
first_of : (line : List ℕ) (r : Option Field) (fields others : List Field) → others ≡ fields → r ≡ first_unfit line fields → r ≡ first_unfit line others
first_of line r fields others is h = rw is h

none_of : (line : List ℕ) (r : Option Field) (fields others : List Field) → others ≡ fields → IfNone r (all_fit line fields ≡ true) → IfNone r (all_fit line others ≡ true)
none_of line r fields others is h = rw is h

some_of : (line : List ℕ) (r : Option Field) (fields others : List Field) → others ≡ fields → IfSome r (λ f. IsAtFault line f × (all_fit line fields ≡ false)) → IfSome r (λ f. IsAtFault line f × (all_fit line others ≡ false))
some_of line r fields others is h = rw is h

place_blank : (start : ℕ) (line : List ℕ) (index : ℕ) → list_all is_space (place_at start line index) ≡ true → place_fields start line index ≡ []
unfolding place_fields
place_blank start line index blank = rw blank refl

place_unused : (start : ℕ) (line : List ℕ) (index : ℕ) → list_all is_space (place_at start line index) ≡ false → is_after_unused start line index ≡ true → place_fields start line index ≡ unused_place_fields (place_first start index) (index + 1)
unfolding place_fields
place_unused start line index used after = rw (used, after) refl

place_used : (start : ℕ) (line : List ℕ) (index : ℕ) → list_all is_space (place_at start line index) ≡ false → is_after_unused start line index ≡ false → place_fields start line index ≡ used_place_fields (place_first start index) (index + 1) (code_before start line index)
unfolding place_fields
place_used start line index used after = rw (used, after) refl

pub returns-then-all_spaces-clause-first : goal.returns-then-all_spaces-clause-first
returns-then-all_spaces-clause-first c =
    let line = c.args.line.now in
    let blank = sym (rw c.place_at.ensures.place at c.all_spaces.ensures) ∙ c.if-all_spaces.true in
    first_of line None [] _ (place_blank c.args.start line c.args.index blank) (sym (blank_place line).0)

pub returns-then-all_spaces-clause-none : goal.returns-then-all_spaces-clause-none
returns-then-all_spaces-clause-none c =
    blank_fits c.args.start c.args.line.now c.args.index (sym (rw c.place_at.ensures.place at c.all_spaces.ensures) ∙ c.if-all_spaces.true)

pub returns-then-is_after_unused-clause-first : goal.returns-then-is_after_unused-clause-first
returns-then-is_after_unused-clause-first c =
    let line = c.args.line.now in
    let used = sym (rw c.place_at.ensures.place at c.all_spaces.ensures) ∙ c.if-all_spaces.false in
    let after = sym c.is_after_unused.ensures ∙ c.if-is_after_unused.true in
    first_of line c.unused_field.result _ _ (place_unused c.args.start line c.args.index used after) c.unused_field.ensures.first

pub returns-then-is_after_unused-clause-none : goal.returns-then-is_after_unused-clause-none
returns-then-is_after_unused-clause-none c =
    let line = c.args.line.now in
    let used = sym (rw c.place_at.ensures.place at c.all_spaces.ensures) ∙ c.if-all_spaces.false in
    let after = sym c.is_after_unused.ensures ∙ c.if-is_after_unused.true in
    none_of line c.unused_field.result _ _ (place_unused c.args.start line c.args.index used after) c.unused_field.ensures.none

pub returns-then-is_after_unused-clause-some : goal.returns-then-is_after_unused-clause-some
returns-then-is_after_unused-clause-some c =
    let line = c.args.line.now in
    let used = sym (rw c.place_at.ensures.place at c.all_spaces.ensures) ∙ c.if-all_spaces.false in
    let after = sym c.is_after_unused.ensures ∙ c.if-is_after_unused.true in
    some_of line c.unused_field.result _ _ (place_unused c.args.start line c.args.index used after) c.unused_field.ensures.some

pub returns-else-is_after_unused-clause-first : goal.returns-else-is_after_unused-clause-first
returns-else-is_after_unused-clause-first c =
    let line = c.args.line.now in
    let used = sym (rw c.place_at.ensures.place at c.all_spaces.ensures) ∙ c.if-all_spaces.false in
    let after = sym c.is_after_unused.ensures ∙ c.if-is_after_unused.false in
    first_of line c.used_field.result _ _ (place_used c.args.start line c.args.index used after) (rw c.code_before.ensures at c.used_field.ensures.first)

pub returns-else-is_after_unused-clause-none : goal.returns-else-is_after_unused-clause-none
returns-else-is_after_unused-clause-none c =
    let line = c.args.line.now in
    let used = sym (rw c.place_at.ensures.place at c.all_spaces.ensures) ∙ c.if-all_spaces.false in
    let after = sym c.is_after_unused.ensures ∙ c.if-is_after_unused.false in
    none_of line c.used_field.result _ _ (place_used c.args.start line c.args.index used after) (rw c.code_before.ensures at c.used_field.ensures.none)

pub returns-else-is_after_unused-clause-some : goal.returns-else-is_after_unused-clause-some
returns-else-is_after_unused-clause-some c =
    let line = c.args.line.now in
    let used = sym (rw c.place_at.ensures.place at c.all_spaces.ensures) ∙ c.if-all_spaces.false in
    let after = sym c.is_after_unused.ensures ∙ c.if-is_after_unused.false in
    some_of line c.used_field.result _ _ (place_used c.args.start line c.args.index used after) (rw c.code_before.ensures at c.used_field.ensures.some)
