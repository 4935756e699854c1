-- The records of a group, from its lines.
use Rattle.std.specs.Prelude.{◌≡◌, ◌==◌, ℕ, List, [], ◌∷◌, Option, Some, None, IfSome, if◌then◌else◌}
use Rattle.std.specs.Option.{option_copied}
use Rattle.bsp_ret_records.specs.declared.codes.FormOfPayment.{FormOfPayment}
use Rattle.bsp_ret_records.specs.declared.codes.FormOfPayment.TheVariants.{Cash, Credit, Exchange}
use Rattle.bsp_ret.specs.declared.records.Records.{Records}
use Rattle.bsp_fields.specs.Columns.{identifier}
use Rattle.bsp_ret_records.specs.Records.{IsFit, sale_fits, related_fits, amounts_fit, form_of, form_fits}
use Rattle.bsp_ret.specs.Ret.{Group, IsGroup}

-- what slices point to
abbrev pub records_of : Records → Group
records_of r = record {
  sale = r.sale.now;
  related = option_copied r.related;
  second = option_copied r.second;
  amounts = option_copied r.amounts;
  cash = option_copied r.cash;
  credit = option_copied r.credit;
  exchange = option_copied r.exchange;
}

-- a record 2 alone
abbrev pub sale_alone : List ℕ → Group
sale_alone line = record { sale = line; related = None; second = None; amounts = None; cash = None; credit = None; exchange = None }

-- a record 3, behind another or not
abbrev pub with_related : Option (List ℕ) → Group → List ℕ → Group
with_related None g line = record g { related = Some line }
with_related (Some first) g line = record g { second = Some line }

abbrev pub with_form : Option FormOfPayment → Group → List ℕ → Group
with_form (Some Cash) g line = record g { cash = Some line }
with_form (Some Credit) g line = record g { credit = Some line }
with_form (Some Exchange) g line = record g { exchange = Some line }
with_form None g line = g

-- a further record, by its kind
unfoldable pub with_record : Group → List ℕ → Group
with_record g line =
    if identifier line == 51 then with_related g.related g line
    else (if identifier line == 53 then record g { amounts = Some line } else with_form (form_of line) g line)

unfoldable pub with_records : Group → List (List ℕ) → Group
with_records g [] = g
with_records g (line ∷ lines) = with_records (with_record g line) lines

-- the lines are the group of transaction n, of these records
pub record HasRecords (n : ℕ) (lines : List (List ℕ)) (g : Group) : Type 0 where
  pub is : IsGroup n lines
  pub group_is : is.group ≡ g

-- the fields of each record fit
pub record AreFit (g : Group) : Type 0 where
  pub sale : IsFit sale_fits g.sale
  pub related : IfSome g.related (IsFit related_fits)
  pub second : IfSome g.second (IsFit related_fits)
  pub amounts : IfSome g.amounts (IsFit amounts_fit)
  pub cash : IfSome g.cash (IsFit form_fits)
  pub credit : IfSome g.credit (IsFit form_fits)
  pub exchange : IfSome g.exchange (IsFit form_fits)
