-- One step of serving a connection.
use Rattle.std.proofs.Common.{◌≡◌, inl, inr, ℕ, ◌+◌, ◌*◌, ◌-◌, ◌<◌, ◌≤◌, true, false, List, [], ◌++◌, length, Option, Some, None, Result, Ok, Err, sym, ap, ◌∙◌, subst, append-nil, length-append, arith}
use Rattle.std.proofs.lemmas.Bool.{false≢true}
use Rattle.bsp_connection.proofs.TalkLemmas.{talk_fed, talk_moved, talk_same, talk_sent}
use Rattle.bsp_connection.specs.Outputs.{Put}
use Rattle.bsp_connection.specs.Exchanges.{Meaning, Reading}
use Rattle.bsp_connection.specs.Progress.{IsAtRest, IsFurther, IsOn, most_to_come, to_come}
use Rattle.bsp_connection.specs.Steps.{Goes, IsOpen, WasRead, WasStep}
use Rattle.bsp_connection.specs.Talks.{HasTaken, IsLike, IsSame, IsSent, Moves, Talks}
use Rattle.bsp_connection.specs.declared.connection.Begun.{Begun}
use Rattle.bsp_connection.specs.declared.connection.Connection.{Connection}
use Rattle.bsp_connection.specs.declared.serving.End.{End}
use Rattle.bsp_connection.specs.declared.serving.End.TheVariants.{Clean, Cut, Closed}
use Rattle.bsp_connection.specs.declared.serving.ServeFault.{ServeFault}
use Rattle.bsp_connection.specs.declared.serving.ServeFault.TheVariants.{Read, Write, Memory}

-- ---- less is to come

counted_less : (n k t u : ℕ) → n < 65536 → k ≡ n + 1 → t ≤ 4210689 → (65536 - k) * 4300000 + t < (65536 - n) * 4300000 + u
counted_less n k t u few is small = omega (arith, few, is, small)

same_less : (n k t u : ℕ) → k ≡ n → t < u → (65536 - k) * 4300000 + t < (65536 - n) * 4300000 + u
same_less n k t u is less = omega (arith, is, less)

same_most : (n k t u : ℕ) → k ≡ n → t ≤ u → (65536 - k) * 4300000 + t ≤ (65536 - n) * 4300000 + u
same_most n k t u is less = omega (arith, is, less)

module _ {F : Type 0} where
  none_to_come : (o : Option (Begun F)) (received : List ℕ) → o ≡ None → to_come o received ≤ 4210689
  none_to_come o received none = subst (λ (p : Option (Begun F)). to_come p received ≤ 4210689) (sym none) (omega arith)

  less_by_piece : (o : Option (Begun F)) (received piece : List ℕ) → IsAtRest o received → 0 < length piece → to_come o (received ++ piece) < to_come o received
  less_by_piece None received piece rest some = omega (arith, length-append received piece, rest, some)
  less_by_piece (Some b) received piece rest some = let sized = rest.0 in let more = rest.1 in omega (arith, length-append received piece, sized, more, some)

module _ {F B : Type 0} where
  pub less_with_more : (old new : Connection F B) → old.count < 65536 → IsFurther old new → new.has_more ≡ true → most_to_come new < most_to_come old
  less_with_more old new few f more = elim f.further [
    | inl next ↦ counted_less old.count new.count (to_come new.begun new.received.items) (to_come old.begun old.received.items) few next.0 (none_to_come new.begun new.received.items next.1)
    | inr on ↦ same_less old.count new.count (to_come new.begun new.received.items) (to_come old.begun old.received.items) on.0 (on.1 more)
  ]

  pub most_at_rest : (old new : Connection F B) → old.count < 65536 → IsFurther old new → new.has_more ≡ false → most_to_come new ≤ most_to_come old
  most_at_rest old new few f rest = elim f.further [
    | inl next ↦ let less = counted_less old.count new.count (to_come new.begun new.received.items) (to_come old.begun old.received.items) few next.0 (none_to_come new.begun new.received.items next.1) in omega (arith, less)
    | inr on ↦ same_most old.count new.count (to_come new.begun new.received.items) (to_come old.begun old.received.items) on.0 (on.2 rest)
  ]

  pub less_by_read : (old new : Connection F B) (piece : List ℕ) → IsAtRest old.begun old.received.items → 0 < length piece → new.received.items ≡ old.received.items ++ piece → IsLike old new → most_to_come new < most_to_come old
  less_by_read old new piece rest some is l =
      same_less old.count new.count (to_come new.begun new.received.items) (to_come old.begun old.received.items) l.count
      (subst (λ (o : Option (Begun F)). to_come o new.received.items < to_come old.begun old.received.items) (sym l.begun)
      (subst (λ (x : List ℕ). to_come old.begun x < to_come old.begun old.received.items) (sym is) (less_by_piece old.begun old.received.items piece rest some)))

  same_to_come : (old new : Connection F B) → IsLike old new → new.received.items ≡ old.received.items → most_to_come new ≡ most_to_come old
  same_to_come old new l is =
      ap (λ (n : ℕ). (65536 - n) * 4300000 + to_come new.begun new.received.items) l.count ∙ ap (λ (o : Option (Begun F)). (65536 - old.count) * 4300000 + to_come o new.received.items) l.begun ∙ ap (λ (x : List ℕ). (65536 - old.count) * 4300000 + to_come old.begun x) is

  pub like_less : (old mid new : Connection F B) → IsLike mid new → new.received.items ≡ mid.received.items → most_to_come mid < most_to_come old → most_to_come new < most_to_come old
  like_less old mid new l is less = subst (λ (n : ℕ). n < most_to_come old) (sym (same_to_come mid new l is)) less

  pub like_most : (old mid new : Connection F B) → IsLike mid new → new.received.items ≡ mid.received.items → most_to_come mid ≤ most_to_come old → most_to_come new ≤ most_to_come old
  like_most old mid new l is less = subst (λ (n : ℕ). n ≤ most_to_come old) (sym (same_to_come mid new l is)) less

  pub still_further : (old new : Connection F B) → IsOn old new → new.closed ≡ false → IsFurther old new
  still_further old new on still = elim on [ inl shut ↦ absurd (false≢true (sym still ∙ shut)) | inr further ↦ further ]

  pub like_rest : (old new : Connection F B) → IsLike old new → new.received.items ≡ old.received.items → IsAtRest old.begun old.received.items → IsAtRest new.begun new.received.items
  like_rest old new l is rest = subst (λ (o : Option (Begun F)). IsAtRest o new.received.items) (sym l.begun) (subst (λ (x : List ℕ). IsAtRest old.begun x) (sym is) rest)

  -- the same of a connection like another
  pub like_on : (old mid new : Connection F B) → IsLike mid new → new.received.items ≡ mid.received.items → new.has_more ≡ mid.has_more → IsOn old mid → IsOn old new
  like_on old mid new l is more on = elim on [
    | inl shut ↦ inl (l.closed ∙ shut)
    | inr f ↦
        let same : to_come new.begun new.received.items ≡ to_come mid.begun mid.received.items
        = ap (λ (o : Option (Begun F)). to_come o new.received.items) l.begun ∙ ap (λ (x : List ℕ). to_come mid.begun x) is in
        inr (
        record {
          rest = λ none. like_rest mid new l is (f.rest (sym more ∙ none));
          further = elim f.further [
            | inl next ↦ inl (l.count ∙ next.0, l.begun ∙ next.1)
            | inr on ↦ inr (
              l.count ∙ on.0,
              λ some. subst (λ (n : ℕ). n < to_come old.begun old.received.items) (sym same) (on.1 (sym more ∙ some)),
              λ none. subst (λ (n : ℕ). n ≤ to_come old.begun old.received.items) (sym same) (on.2 (sym more ∙ none)),
            )
          ];
        }
        )
  ]

-- ---- what was read, asked and written

module _ {D F B : Type 0} (m : Meaning D) (r : Reading F B) where
  pub goes_unsent : (old mid new : Connection F B) (d e : D) → Moves m r old mid d e → IsSame mid new → Goes m r [] [] old new d e
  goes_unsent old mid new d e moves same g s xs t =
      let k = talk_moved m r old mid d e g s xs moves t in
      let n = talk_same m r mid new g s (xs ++ k.0) same k.2 in
      (k.0, k.1, subst (λ (l : List ℕ). Talks m r l (xs ++ k.0) (s ++ []) new) (sym (append-nil g)) (subst (λ (l : List ℕ). Talks m r g (xs ++ k.0) l new) (sym (append-nil s)) n))

  pub goes_sent : (old mid new : Connection F B) (d e : D) (text : List ℕ) → Moves m r old mid d e → IsSent mid text new → Goes m r [] text old new d e
  goes_sent old mid new d e text moves sent g s xs t =
      let k = talk_moved m r old mid d e g s xs moves t in
      let n = talk_sent m r mid new g s text (xs ++ k.0) sent k.2 in
      (k.0, k.1, subst (λ (l : List ℕ). Talks m r l (xs ++ k.0) (s ++ text) new) (sym (append-nil g)) n)

  goes_read : (old mid new : Connection F B) (d e : D) (got text : List ℕ) → Goes m r [] text old mid d e → HasTaken mid got new → Goes m r got text old new d e
  goes_read old mid new d e got text goes took g s xs t =
      let k = goes g s xs t in
      let n = subst (λ (l : List ℕ). Talks m r l (xs ++ k.0) (s ++ text) mid) (append-nil g) k.2 in
      (k.0, k.1, talk_fed m r mid new g (s ++ text) got (xs ++ k.0) took n)

  -- a step that reads
  pub step_read : (old mid new : Connection F B) (d e : D) (got text : List ℕ) (result : Result (Option End) ServeFault) → Goes m r [] text old mid d e → IsOpen m r mid → mid.has_more ≡ false → most_to_come mid ≤ most_to_come old → IsAtRest mid.begun mid.received.items
      → WasRead got mid new result → WasStep m r got text old new d e result
  step_read old mid new d e got text (Ok None) goes is_open none most rest read = elim read.0 [
    | inl dropped ↦ absurd (false≢true (sym is_open.2 ∙ dropped.0))
    | inr came ↦ (
      goes_read old mid new d e got text goes read.0,
      (ap (λ (o : Put). o.bytes) came.3 ∙ is_open.0, ap (λ (o : Put). o.apart) came.3 ∙ is_open.1, came.2.closed ∙ is_open.2),
      (let less = less_by_read mid new got rest read.1 came.0 came.2 in omega (arith, less, most)),
    )
  ]
  step_read old mid new d e got text (Ok (Some Closed)) goes is_open none most rest read = absurd read.2
  step_read old mid new d e got text (Ok (Some Clean)) goes is_open none most rest read =
      subst (λ (l : List ℕ). WasStep m r l text old new d e (Ok (Some Clean))) (sym read.0) (subst (λ (c : Connection F B). WasStep m r [] text old c d e (Ok (Some Clean))) (sym read.1) (goes, is_open, read.2))
  step_read old mid new d e got text (Ok (Some Cut)) goes is_open none most rest read =
      subst (λ (l : List ℕ). WasStep m r l text old new d e (Ok (Some Cut))) (sym read.0) (subst (λ (c : Connection F B). WasStep m r [] text old c d e (Ok (Some Cut))) (sym read.1) (goes, is_open, none, read.2))
  step_read old mid new d e got text (Err Read) goes is_open none most rest read =
      subst (λ (l : List ℕ). WasStep m r l text old new d e (Err Read)) (sym read.0) (subst (λ (c : Connection F B). WasStep m r [] text old c d e (Err Read)) (sym read.1) (goes, is_open, none))
  step_read old mid new d e got text (Err Write) goes is_open none most rest read = absurd read
  step_read old mid new d e got text (Err Memory) goes is_open none most rest read = absurd read
