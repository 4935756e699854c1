-- What documents add up to.
use Rattle.std.specs.Prelude.{ℕ, ℤ, pos, ◌≤◌, ◌+◌, ◌*◌, ◌^◌, ◌==◌, ◌+ℤ◌, ◌-ℤ◌, unsigned_abs, Bool, ◌&&◌, List, [], ◌∷◌}
use Rattle.std.specs.Ordering.{int_eq}
use Rattle.bsp_hot_records.specs.declared.code.DocumentCode.{DocumentCode}
use Rattle.bsp_hot_records.specs.declared.code.DocumentCode.TheVariants.{Tktt, Rfnd, Canx, Adma, Acma}
use Rattle.bsp_hot_records.specs.declared.totals.Sums.{Sums}
use Rattle.bsp_hot_records.specs.declared.totals.Totals.{Totals}

-- of nothing, and of one document without records behind BKS24
abbrev pub no_sums : Sums
no_sums = record { documents = 0; cash = pos 0; credit = pos 0; commission = pos 0; tax = pos 0 }

abbrev pub one_document : Sums
one_document = record { documents = 1; cash = pos 0; credit = pos 0; commission = pos 0; tax = pos 0 }

unfoldable pub add : Sums → Sums → Sums
add s t = record {
  documents = s.documents + t.documents;
  cash = s.cash +ℤ t.cash;
  credit = s.credit +ℤ t.credit;
  commission = s.commission +ℤ t.commission;
  tax = s.tax +ℤ t.tax;
}

abbrev pub sum_of : List Sums → Sums
sum_of [] = no_sums
sum_of (s ∷ more) = add s (sum_of more)

-- cash less commission and tax on commission
abbrev pub net_of : Sums → ℤ
net_of s = s.cash -ℤ s.commission -ℤ s.tax

abbrev pub with_net : Sums → Totals
with_net s = record { sums = s; net = net_of s }

unfoldable pub is_same : Sums → Sums → Bool
is_same s t =
    (s.documents == t.documents) && int_eq s.cash t.cash && int_eq s.credit t.credit && int_eq s.commission t.commission
    && int_eq s.tax t.tax

-- the totals are those of the sums
unfoldable pub has_totals : Sums → Totals → Bool
has_totals s t = is_same t.sums s && int_eq t.net (net_of s)

-- sums of this many records, each of which adds one document or an amount of eleven digits at most
pub record AreSmall (n : ℕ) (s : Sums) : Type 0 where
  pub documents : s.documents ≤ n
  pub cash : unsigned_abs s.cash ≤ n * 10 ^ 11
  pub credit : unsigned_abs s.credit ≤ n * 10 ^ 11
  pub commission : unsigned_abs s.commission ≤ n * 10 ^ 11
  pub tax : unsigned_abs s.tax ≤ n * 10 ^ 11

-- ---- codes

-- the place of a code in their order
abbrev pub rank : DocumentCode → ℕ
rank Tktt = 0
rank Rfnd = 1
rank Canx = 2
rank Adma = 3
rank Acma = 4

abbrev pub is_code : DocumentCode → DocumentCode → Bool
is_code c d = rank c == rank d

abbrev pub all_codes : List DocumentCode
all_codes = Tktt ∷ Rfnd ∷ Canx ∷ Adma ∷ Acma ∷ []
