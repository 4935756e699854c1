use Rattle.std.proofs.Common.{◌≡◌, List, ℕ, [], ◌∷◌, refl}
use Rattle.bsp_hot_check.specs.Records.{part, commission_tax}
use Rattle.bsp_hot.specs.Lines.{record_fields}
use Rattle.bsp_hot.proofs.OutputLemmas.{adds_record}
use Rattle.bsp_hot.proofs.output.Output.push_commission_tax.Goals as goal

pub returns : goal.returns
returns c =
    let written = part c.args.transaction (commission_tax (record { hundredths = c.args.hundredths; amount = c.args.tax })) in
    let fields : List (List ℕ) = c.write_digits-transaction.result ∷ c.write_digits-hundredths.result ∷ c.write_amount-tax.result ∷ [] in
    let are : fields ≡ record_fields c.args.self.now.form written = rw (c.write_digits-transaction.ensures, c.write_digits-hundredths.ensures, c.write_amount-tax.ensures.text) refl in
    adds_record c.push_record.result c.args.self.now c.push_record.new.self written fields are c.push_record.ensures
