-- What is read on a connection.
use Rattle.std.specs.Prelude.{◌≡◌, ◌≢◌, ℕ, ◌+◌, ◌<◌, ◌≤◌, ◌⊎◌, Bool, false, List, [], length, take, drop, Some, None, Ok}
use Rattle.std.specs.List.{FoldsTo}
use Rattle.httparse.specs.Grammar.{RequestHead}
use Rattle.bsp_routes.specs.Fields.{token_of}
use Rattle.bsp_routes.specs.Head.{IsHead, Refuses, head_limit, headers_of, judgement}
use Rattle.bsp_routes.specs.Scan.{head_len}
use Rattle.bsp_routes.specs.declared.fault.HeadFault.TheVariants.{HeadTooLarge}
use Rattle.bsp_routes.specs.declared.fault.Refused.{Refused}
use Rattle.bsp_routes.specs.declared.parts.Wanted.{Wanted}
use Rattle.bsp_connection.specs.Exchanges.{Exchange, Meaning, RequestText, does, inquiry, interim, used}

abbrev pub message_limit : ℕ
message_limit = 65536

-- ---- heads

-- the head at the front of what is unread
pub record HasHead (unread : List ℕ) (len : ℕ) (h : RequestHead) (wanted : Wanted) : Type 0 where
  pub ends : head_len unread ≡ Some len
  pub short : len ≤ head_limit
  pub head : IsHead (take len unread) h
  pub judged : judgement h ≡ Ok wanted

-- the head is refused: it does not end within the limit, or for what it says
pub record HasRefusal (unread : List ℕ) (refused : Refused) : Type 0 where
  pub why :
      ((refused ≡ record { fault = HeadTooLarge; bare = false }) × (head_limit ≤ length unread) × (head_len (take head_limit unread) ≡ None))
      ⊎ ((len : ℕ) × (head_len unread ≡ Some len) × (len ≤ head_limit) × Refuses (take len unread) refused)

-- the request of a head, before its body comes
abbrev pub head_text : RequestHead → RequestText
head_text h = record { method = h.method; target = h.target; token = token_of (headers_of h); body = [] }

-- a message is begun, the input does not have all of it, and for it this text is written and the desk was asked this
abbrev pub IsBegun : List ℕ → List ℕ → List Exchange → Type 0
IsBegun unread text early =
    ((unread ≢ []) × (length unread < head_limit) × (head_len unread ≡ None) × (text ≡ []) × (early ≡ []))
    ⊎ ((len : ℕ) × (h : RequestHead) × (wanted : Wanted) × HasHead unread len h wanted × (length unread < len + wanted.body) × (text ≡ interim wanted.expects) × (early ≡ inquiry wanted.expects (head_text h)))

module _ {D : Type 0} (m : Meaning D) where
  -- a whole message at the front of what is unread, and the rest behind it
  pub record HasMessage (unread : List ℕ) (request : RequestText) (wanted : Wanted) (rest : List ℕ) : Type 0 where
    pub len : ℕ
    pub head : RequestHead
    pub has : HasHead unread len head wanted
    pub is_used : Bool
    pub use_is : m.uses head.method head.target is_used
    pub whole : len + wanted.body ≤ length unread
    pub request_is : request ≡ record {
      method = head.method;
      target = head.target;
      token = token_of (headers_of head);
      body = used is_used (take wanted.body (drop len unread));
    }
    pub rest_is : rest ≡ drop (len + wanted.body) unread

  -- the exchanges, one after the other, lead from one desk to the other
  abbrev pub IsRun : D → List Exchange → D → Type 0
  IsRun = FoldsTo (does m)
