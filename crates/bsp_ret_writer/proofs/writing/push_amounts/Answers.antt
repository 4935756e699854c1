use Rattle.std.proofs.Common.{◌≡◌, List, ℕ, [], ◌∷◌, ◌++◌, refl, subst, arith}
use Rattle.std.specs.Prelude.{OnOk}
use Rattle.std.specs.List.{concat}
use Rattle.bsp_ret_writer.specs.Writing.{amounts_line, spaces}
use Rattle.bsp_ret_writer.proofs.WritingLemmas.{six_elements}
use Rattle.bsp_ret_writer.proofs.writing.push_amounts.Goals as goal

pub returns : goal.returns
unfolding amounts_line
returns c =
    let P : List ℕ → Type 0 = λ line. OnOk c.push_line.result (c.push_line.new.out.items ≡ c.args.out.now.items ++ line ++ 10 ∷ []) in
    let taxes = six_elements c.args.amounts.now.taxes c.index-amounts-0.result c.index-amounts-1.result c.index-amounts-2.result c.index-amounts-3.result c.index-amounts-4.result c.index-amounts-5.result (omega arith) c.index-amounts-0.is c.index-amounts-1.is c.index-amounts-2.is c.index-amounts-3.is c.index-amounts-4.is c.index-amounts-5.is in
    let same : concat (c.as_slice.result.now ∷ c.write_digits-number.result ∷ c.write_amount-fare.result ∷ c.write_tax.result ∷ c.write_tax-2.result ∷ c.write_tax-3.result ∷ c.write_tax-4.result ∷ c.write_tax-5.result ∷ c.write_tax-6.result ∷ c.write_digits-rate.result ∷ c.write_amount-commission.result ∷ spaces 24 ∷ []) ≡ amounts_line c.args.number c.args.amounts.now =
    rw (
      c.as_slice.ensures,
      c.write_digits-number.ensures,
      c.write_amount-fare.ensures.text,
      c.write_tax.ensures,
      c.write_tax-2.ensures,
      c.write_tax-3.ensures,
      c.write_tax-4.ensures,
      c.write_tax-5.ensures,
      c.write_tax-6.ensures,
      c.write_digits-rate.ensures,
      c.write_amount-commission.ensures.text,
      taxes,
    ) refl in
    subst P same c.push_line.ensures
