-- What a report says of a group: its record 2 and the sum of its forms.
use Rattle.std.specs.Prelude.{◌≡◌, ℕ, suc, List, [], ◌∷◌}
use Rattle.bsp_ret_records.specs.declared.transactions.PaidSale.{PaidSale}
use Rattle.bsp_ret_records.specs.Values.{IsSale}
use Rattle.bsp_ret.specs.Table.{total_paid}
use Rattle.bsp_ret.specs.Ret.{IsGroup}

-- the lines are the group of transaction n, with this record 2 and this sum
pub record HasSale (n : ℕ) (lines : List (List ℕ)) (p : PaidSale) : Type 0 where
  pub is : IsGroup n lines
  pub sale : IsSale is.group.sale p.sale
  pub paid : p.paid ≡ total_paid lines

-- the groups have these records 2 and these sums of their forms, from number n on
abbrev pub HaveSales : ℕ → List (List (List ℕ)) → List PaidSale → Type 0
HaveSales n [] [] = Unit {0}
HaveSales n (group ∷ groups) (p ∷ sales) = HasSale n group p × HaveSales (suc n) groups sales
HaveSales n [] (p ∷ sales) = ⊥
HaveSales n (group ∷ groups) [] = ⊥
