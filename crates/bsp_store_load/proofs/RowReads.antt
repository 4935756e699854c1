-- A row that reads as an entry, and what is found at the entry's key.
use Rattle.bsp_store_base.proofs.Std.{◌∙◌, ◌≡◌, ap, Bool, false, is_some, None, Option, refl, Some, sym, true}
use Rattle.bsp_store_base.proofs.Sqlite.{Row}
use Rattle.bsp_rows.proofs.MapLemmas.{same_Some}

module _ {E : Type 0} (row_of : E → Row) (row : Row) (read : Option E) (e : E) (some : read ≡ Some e) where
  -- it does not read as nothing
  pub not_none : read ≡ None → ⊥
  not_none none = cc (some, none)

  pub own_is : (own : E) → read ≡ Some own → own ≡ e
  own_is own is = same_Some own e (sym is ∙ some)

-- nothing is found
pub found_none : {V : Type 0} (found : Option V) (b : Bool) → b ≡ is_some found → b ≡ false → found ≡ None
found_none None b is none = refl
found_none (Some v) b is none = absurd (cc (is, none))

pub none_found : {V : Type 0} (found : Option V) (b : Bool) → b ≡ is_some found → b ≡ true → found ≡ None → ⊥
none_found found b is there none = let empty : is_some found ≡ false = ap is_some none in cc (is, there, empty)
