-- The second document of an item, written under its ticket.
use Rattle.bsp_store_base.proofs.Std.{◌≡◌, ap, Bool, cond, false, get, is_some, None, Option, refl, Some, subst, sym, true, unwrap_or}
use Rattle.bsp_store_base.proofs.Sqlite.{Ghosts, Held}
use Rattle.bsp_store_base.proofs.Entries.{Item, ItemKey, ReportedDocument}
use Rattle.bsp_store_base.proofs.Base.{Changes, Content, second_in, ticket, ticket_of, with_second, with_value}
use Rattle.bsp_store_columns.specs.declared.tickets.TicketKey.{TicketKey}
use Rattle.bsp_store_save.specs.Seconds.{has_second}

-- the content with this at a ticket
abbrev with_document : TicketKey → Option ReportedDocument → Content → Content
with_document t document c = record c { seconds = with_value t document c.seconds }

abbrev has_document : TicketKey → Bool → Content → Type 0
has_document t there c = is_some (get c.seconds t) ≡ there

module _ (k : ItemKey) (v : Option Item) (there : Bool) where
  abbrev HasSecond : Content → Type 0
  HasSecond c = has_second k c.seconds ≡ there

  abbrev second_set : Content → Content
  second_set c = record c { seconds = with_second k v c.seconds }

  module _ {S : Type 0} (g : Ghosts S) (old new : Held S) (t : TicketKey) (document : Option ReportedDocument) (is : document ≡ second_in v) (made : Changes g old new (has_document t there) (with_document t document)) where
    under_ticket : (b : Bool) → k.is_canx ≡ b → cond b None (Some (ticket k)) ≡ Some t
        → Changes g old new (λ c. cond b false (is_some (get c.seconds (ticket k))) ≡ there) (λ c. record c { seconds = cond b c.seconds (with_value (ticket k) (second_in v) c.seconds) })
    under_ticket true canx e = absurd (cc e)
    under_ticket false sale e =
        let its : ticket k ≡ t = ap (λ o. unwrap_or o (ticket k)) e in
        subst (λ d. Changes g old new (has_document (ticket k) there) (with_document (ticket k) d)) is
        (subst (λ q. Changes g old new (has_document q there) (with_document q document)) (sym its) made)

    pub second_put : ticket_of k ≡ Some t → Changes g old new HasSecond second_set
    second_put e = under_ticket k.is_canx refl e

  -- a CANX has no ticket, and no row
  canx_kept : (b : Bool) → k.is_canx ≡ b → cond b None (Some (ticket k)) ≡ None → (c : Content) → record c { seconds = cond b c.seconds (with_value (ticket k) (second_in v) c.seconds) } ≡ c
  canx_kept true canx e c = refl
  canx_kept false sale e c = absurd (cc e)

  pub none_put : ticket_of k ≡ None → (c : Content) → HasSecond c → second_set c ≡ c
  none_put e c has = canx_kept k.is_canx refl e c
