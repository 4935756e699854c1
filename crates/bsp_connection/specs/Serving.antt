-- What serving a connection does.
use Rattle.std.specs.Prelude.{◌≡◌, ◌≢◌, ◌⊎◌, ℕ, true, false, List, [], ◌++◌, Option, Result, Ok, Err}
use Rattle.std.specs.Io.KnownBytes.{Appends, Keeps}
use Rattle.httparse.specs.Grammar.{RequestHead}
use Rattle.bsp_routes.specs.declared.parts.Wanted.{Wanted}
use Rattle.bsp_connection.specs.Exchanges.{Exchange, Meaning, inquiry, interim}
use Rattle.bsp_connection.specs.Conversations.{HasHead, IsBegun, IsRun, head_text}
use Rattle.bsp_connection.specs.Messages.{AreTaken, Item, Left, asked, left, texts}
use Rattle.bsp_connection.specs.Ends.{IsInputEnd}
use Rattle.bsp_connection.specs.declared.serving.End.{End}
use Rattle.bsp_connection.specs.declared.serving.End.TheVariants.{Clean, Cut, Closed}
use Rattle.bsp_connection.specs.declared.serving.ServeFault.{ServeFault}
use Rattle.bsp_connection.specs.declared.serving.ServeFault.TheVariants.{Read, Write, Memory}
use Rattle.bsp_connection.specs.declared.serving.Served.{Served}

-- how an input ends after its messages, and for one that is begun the text that was put out and what the desk was asked
abbrev pub EndsBy : Left → End → List ℕ → List Exchange → Type 0
EndsBy p Clean text early = (p.closed ≡ false) × (p.unread ≡ []) × (text ≡ []) × (early ≡ [])
EndsBy p Cut text early = (p.closed ≡ false) × IsBegun p.unread text early
EndsBy p Closed text early = (p.closed ≡ true) × (text ≡ []) × (early ≡ [])

-- no message is begun, or one for whose head there is this text and this exchange
abbrev pub MayHaveBegun : Left → List ℕ → List Exchange → Type 0
MayHaveBegun p text early =
    ((text ≡ []) × (early ≡ []))
    ⊎ ((p.closed ≡ false) × ((len : ℕ) × (h : RequestHead) × (wanted : Wanted) × HasHead p.unread len h wanted × (text ≡ interim wanted.expects) × (early ≡ inquiry wanted.expects (head_text h))))

module _ {D : Type 0} (m : Meaning D) where
  -- messages at the front of an input were answered, and what was put out and asked for one that is begun is the end
  pub record Answered (input : List ℕ) (old : D) (exchanges : List Exchange) (output : List ℕ) (new : D) (last : Left) (text : List ℕ) (early : List Exchange) : Type 0 where
    pub items : List Item
    pub taken : AreTaken m (left 0 input false) items last
    pub run : IsRun m old exchanges new
    pub asked_are : exchanges ≡ asked items ++ early
    pub output_is : output ≡ texts items ++ text

  -- over the whole input: what the desk was asked and replied, the output, the desk in the end, how it ended and how many messages were answered
  pub record Conversation (input : List ℕ) (old : D) (exchanges : List Exchange) (output : List ℕ) (new : D) (end : End) (messages : ℕ) : Type 0 where
    pub last : Left
    pub text : List ℕ
    pub early : List Exchange
    pub answered : Answered input old exchanges output new last text early
    pub ends : EndsBy last end text early
    pub messages_are : messages ≡ last.count

  -- over a first part of it, as far as the output goes, which has a byte
  pub record Reaches (input : List ℕ) (old : D) (exchanges : List Exchange) (output : List ℕ) (new : D) : Type 0 where
    pub last : Left
    pub text : List ℕ
    pub early : List Exchange
    pub answered : Answered input old exchanges output new last text early
    pub may_have_begun : MayHaveBegun last text early
    pub some : output ≢ []

  -- what was read is got, and more is whatever comes behind it: what the desk was asked does not depend on more
  abbrev pub Serves : List ℕ → D → D → Option (List ℕ) → Option (List ℕ) → Result Served ServeFault → Type 0
  Serves got old new before after (Ok served) =
      (output : List ℕ) × (xs : List Exchange) × Appends before after output × IsRun m old xs new
      × ((more : List ℕ) → (IsInputEnd served.end → more ≡ []) → Conversation (got ++ more) old xs output new served.end served.messages)
  -- as where the input ends there
  Serves got old new before after (Err Read) =
      (output : List ℕ) × (xs : List Exchange) × Appends before after output × IsRun m old xs new
      × ((end : End) × IsInputEnd end × ((messages : ℕ) × Conversation got old xs output new end messages))
  -- a first part of the output was written
  Serves got old new before after (Err Write) =
      (output : List ℕ) × (xs : List Exchange) × (first : List ℕ) × (others : List ℕ) × (output ≡ first ++ others) × Appends before after first × IsRun m old xs new
      × ((more : List ℕ) → Reaches (got ++ more) old xs output new)
  Serves got old new before after (Err Memory) = (got ≡ []) × Keeps before after × (new ≡ old)
