-- RET files: a header, the groups of the transactions, and a trailer.
use Rattle.std.specs.Prelude.{◌≡◌, ◌<◌, nat_le, is_some, ℕ, ℤ, suc, Bool, true, List, [], ◌∷◌, ◌++◌, length, Option, Some, None, IfSome, IsSome, Ok, ◌⊎◌}
use Rattle.std.specs.Option.{option_to_list, IsSomeAnd}
use Rattle.std.specs.List.{flat_map, count_by, list_all}
use Rattle.bsp_fields.specs.Zoned.{zoned_reading}
use Rattle.bsp_ret_records.specs.declared.codes.Profile.TheVariants.{P001}
use Rattle.bsp_ret_records.specs.declared.codes.TransactionCode.{TransactionCode}
use Rattle.bsp_ret_records.specs.declared.codes.TransactionCode.TheVariants.{Tktt, Rfnd, Canx}
use Rattle.bsp_ret_records.specs.declared.codes.FormOfPayment.{FormOfPayment}
use Rattle.bsp_ret_records.specs.declared.codes.FormOfPayment.TheVariants.{Cash, Credit, Exchange}
use Rattle.bsp_fields.specs.Columns.{identifier, is_wide}
use Rattle.bsp_fields.specs.Fields.{spells}
use Rattle.bsp_ret_records.specs.Records.{transaction_number, record_count, transaction_count, total, is_header, is_production, header_fits, profile_of, code_of, sale_fits, related_order, related_fits, amounts_fit, form_of, form_fits, trailer_fits}
use Rattle.bsp_ret.specs.Table.{is_related, total_paid}

-- a transaction's records; of the forms each stands once at most
pub record Group : Type 0 where
  pub sale : List ℕ
  pub related : Option (List ℕ)
  pub second : Option (List ℕ)
  pub amounts : Option (List ℕ)
  pub cash : Option (List ℕ)
  pub credit : Option (List ℕ)
  pub exchange : Option (List ℕ)

-- a file, each group as the list of its lines
pub record File : Type 0 where
  pub header : List ℕ
  pub groups : List (List (List ℕ))
  pub trailer : List ℕ

abbrev pub forms_of : Group → List (List ℕ)
forms_of g = option_to_list g.cash ++ (option_to_list g.credit ++ option_to_list g.exchange)

-- the lines of a group, in their order
abbrev pub lines_of : Group → List (List ℕ)
lines_of g =
    g.sale ∷ (option_to_list g.related ++ (option_to_list g.second ++ (option_to_list g.amounts ++ forms_of g)))

abbrev pub flatten : List (List (List ℕ)) → List (List ℕ)
flatten groups = flat_map (λ group. group) groups

-- the lines of a file, in their order
abbrev pub file_lines : File → List (List ℕ)
file_lines file = file.header ∷ (flatten file.groups ++ file.trailer ∷ [])

pub record IsHeader (line : List ℕ) : Type 0 where
  pub wide : is_wide line ≡ true
  pub begins : is_header line ≡ true
  pub production : is_production line ≡ true
  pub fields : header_fits line ≡ true

-- a record of transaction n
pub record IsRecord (letter n : ℕ) (fits : List ℕ → Bool) (line : List ℕ) : Type 0 where
  pub wide : is_wide line ≡ true
  pub name : identifier line ≡ letter
  pub number : spells n (transaction_number line) ≡ true
  pub fields : fits line ≡ true

pub record IsForm (n : ℕ) (kind : FormOfPayment) (line : List ℕ) : Type 0 where
  pub stands : IsRecord 56 n form_fits line
  pub form : form_of line ≡ Some kind

-- record 5 and one to three records 8
pub record IsPaid (n : ℕ) (g : Group) : Type 0 where
  pub amounts : IsSomeAnd g.amounts (IsRecord 53 n amounts_fit)
  pub cash : IfSome g.cash (IsForm n Cash)
  pub credit : IfSome g.credit (IsForm n Credit)
  pub exchange : IfSome g.exchange (IsForm n Exchange)
  pub some : IsSome g.cash ⊎ (IsSome g.credit ⊎ IsSome g.exchange)

-- no record 3, one, or two of which the second has the greater airline and number
abbrev pub AreRelated : ℕ → Option (List ℕ) → Option (List ℕ) → Type 0
AreRelated n None None = Unit {0}
AreRelated n (Some line) None = IsRecord 51 n related_fits line
AreRelated n (Some line) (Some second) =
    IsRecord 51 n related_fits line × IsRecord 51 n related_fits second × (related_order line < related_order second)
AreRelated n None (Some second) = ⊥

-- what stands behind a record 2, by its code: a TKTT has one record 3 or two exactly where it has an EX, an RFND has one record 3 and no EX, a CANX has nothing
abbrev pub HasBody : ℕ → Group → Option TransactionCode → Type 0
HasBody n g None = ⊥
HasBody n g (Some Tktt) = AreRelated n g.related g.second × (is_some g.related ≡ is_some g.exchange) × IsPaid n g
HasBody n g (Some Rfnd) =
    IsSomeAnd g.related (IsRecord 51 n related_fits) × (g.second ≡ None) × (g.exchange ≡ None) × IsPaid n g
HasBody n g (Some Canx) = (g.related ≡ None) × (g.second ≡ None) × (g.amounts ≡ None) × (forms_of g ≡ [])

-- these lines are the records of transaction n
pub record IsGroup (n : ℕ) (lines : List (List ℕ)) : Type 0 where
  pub group : Group
  pub lines_are : lines ≡ lines_of group
  pub sale : IsRecord 50 n sale_fits group.sale
  pub body : HasBody n group (code_of group.sale)

-- transactions n, n + 1 and so on
abbrev pub AreGroups : ℕ → List (List (List ℕ)) → Type 0
AreGroups n [] = Unit {0}
AreGroups n (g ∷ gs) = IsGroup n g × AreGroups (suc n) gs

-- one record 3 at most
abbrev pub has_one_related : List (List ℕ) → Bool
has_one_related group = nat_le (count_by is_related group) 1

-- a trailer that tells this many records, transactions and this sum
pub record IsTrailer (records transactions : ℕ) (sum : ℤ) (line : List ℕ) : Type 0 where
  pub wide : is_wide line ≡ true
  pub name : identifier line ≡ 90
  pub fields : trailer_fits line ≡ true
  pub records_are : spells records (record_count line) ≡ true
  pub transactions_are : spells transactions (transaction_count line) ≡ true
  pub sum_is : zoned_reading 15 (total line) ≡ Ok sum

-- the lines are a header, for each transaction in order the lines of its group, and a trailer with the counts and the sum of all forms; in profile 001 no group has a second record 3
pub record Ret (lines : List (List ℕ)) (file : File) : Type 0 where
  pub lines_are : lines ≡ file_lines file
  pub header : IsHeader file.header
  pub groups : AreGroups 1 file.groups
  pub related : profile_of file.header ≡ Some P001 → list_all has_one_related file.groups ≡ true
  pub trailer : IsTrailer (length lines) (length file.groups) (total_paid (flatten file.groups)) file.trailer

-- some lines stand in Ret with the file
abbrev pub HasLines : File → Type 0
HasLines file = (lines : List (List ℕ)) × Ret lines file
