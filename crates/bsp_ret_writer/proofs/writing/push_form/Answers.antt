use Rattle.std.proofs.Common.{◌≡◌, List, ℕ, [], ◌∷◌, ◌++◌, refl, subst}
use Rattle.std.specs.Prelude.{OnOk}
use Rattle.std.specs.List.{concat}
use Rattle.bsp_ret_writer.specs.Writing.{form_line, spaces}
use Rattle.bsp_ret_writer.proofs.writing.push_form.Goals as goal

pub returns : goal.returns
unfolding form_line
returns c =
    let P : List ℕ → Type 0 = λ line. OnOk c.push_line.result (c.push_line.new.out.items ≡ c.args.out.now.items ++ line ++ 10 ∷ []) in
    let same : concat (c.as_slice.result.now ∷ c.write_digits-number.result ∷ c.args.form.now ∷ c.write_amount-amount.result ∷ c.args.vendor.now ∷ spaces 114 ∷ []) ≡ form_line c.args.number c.args.form.now c.args.amount c.args.vendor.now = rw (c.as_slice.ensures, c.write_digits-number.ensures, c.write_amount-amount.ensures.text) refl in
    subst P same c.push_line.ensures
