use Rattle.std.proofs.Common.{◌≡◌, ◌<◌, ◌∙◌, List, ◌∷◌, ℕ, true, length, sym, subst}
use Rattle.std.specs.List.{list_all}
use Rattle.bsp_fields.specs.Columns.{is_wide}
use Rattle.bsp_fields.proofs.RestLemmas.{some_bytes}
use Rattle.bsp_ret_records.specs.Values.{IsSale}
use Rattle.bsp_ret.proofs.GroupLemmas.{no_other}
use Rattle.bsp_ret.proofs.file.Group.sale.Goals as goal

pub first_record-requires : goal.first_record-requires
first_record-requires c =
    let HasSome : List (List ℕ) → Type 0 = λ ls. 0 < length ls in
    some_bytes c.self.inside.text.now (subst HasSome (sym c.self.view_is) c.requires.some)

pub unreachable-requires : goal.unreachable-requires
unreachable-requires c =
    let AllWide : List (List ℕ) → Type 0 = λ ls. list_all is_wide ls ≡ true in
    no_other c.self.inside.text.now c.in_default.ensures.none (subst AllWide (sym c.self.view_is) c.requires.wide)

pub sale_values-requires : goal.sale_values-requires
sale_values-requires c =
    c.requires.fits c.in-Some.line.now _ (sym c.self.view_is ∙ c.in-Some.ensures.first.cut)

first_is : (ls : List (List ℕ)) (line first : List ℕ) (rest more : List (List ℕ)) → ls ≡ line ∷ rest → ls ≡ first ∷ more → line ≡ first
first_is ls line first rest more a b = cc (a, b)

pub returns-clause-sale : goal.returns-clause-sale
returns-clause-sale c = λ first more split.
    let same = first_is c.args.self.now c.in-Some.line.now first _ more (sym c.self.view_is ∙ c.in-Some.ensures.first.cut) split in
    let Says : List ℕ → Type 0 = λ line. IsSale line c.sale_values.result in
    subst Says same c.sale_values.ensures
