-- From the spans of a head to the head.
use Rattle.std.proofs.Common.{◌≡◌, ◌≢◌, ℕ, ◌≤◌, List, [], length, take, drop, map, Result, sym, ap, ◌∙◌, subst, arith, append-nil}
use Rattle.std.proofs.Math.Seq.{drop-length}
use Rattle.std.proofs.lemmas.List.{length-map, length-take}
use Rattle.httparse.specs.Grammar.{RequestHead, ReadsRequest, print_request, NeverHasRequest}
use Rattle.httparse.specs.Spans.{header_bytes, name_and_value, span_bytes, IsRequestAt}
use Rattle.httparse.specs.declared.spans.HeaderSpan.{HeaderSpan}
use Rattle.httparse.specs.declared.spans.RequestSpans.{RequestSpans}
use Rattle.httparse.proofs.GrammarLemmas.{request_unique}
use Rattle.bsp_routes.specs.Head.{IsHead, judgement}
use Rattle.bsp_routes.specs.Judging.{judge}
use Rattle.bsp_routes.specs.declared.fault.HeadFault.{HeadFault}
use Rattle.bsp_routes.specs.declared.parts.Wanted.{Wanted}

-- a head that stops before the end of the text is not the text
pub not_whole : (text : List ℕ) (len : ℕ) (h : RequestHead) → ReadsRequest text h (drop len text) → len ≡ length (print_request h) → len ≢ length text → (k : RequestHead) → ReadsRequest text k [] → ⊥
not_whole text len h reads len_is other k whole =
    let same = request_unique text h k _ [] reads whole in
    let printed : text ≡ print_request k = whole.1 ∙ append-nil (print_request k) in
    other (len_is ∙ ap (λ (r : RequestHead). length (print_request r)) same.0 ∙ ap length (sym printed))

pub never_now : (text : List ℕ) → NeverHasRequest text → (h : RequestHead) → ReadsRequest text h [] → ⊥
never_now text never h reads = never [] h [] (reads.0, append-nil text ∙ reads.1)

module _ (text : List ℕ) (headers : List HeaderSpan) (r : RequestSpans) (h : RequestHead) (at : IsRequestAt text headers r h) where
  -- a head that goes to the end of the text, with room for few fields
  pub is_head : r.len ≡ length text → length text ≤ 16384 → length headers ≤ 64 → IsHead text h
  is_head whole short few =
      let count : length (take r.headers headers) ≡ length h.fields = sym (length-map (take r.headers headers) (header_bytes text)) ∙ ap length at.fields ∙ length-map h.fields name_and_value in
      record {
        reads = subst (ReadsRequest text h) (ap (λ (n : ℕ). drop n text) whole ∙ drop-length text) at.reads;
        few = omega (arith, count, length-take r.headers headers);
        short = short;
      }

  -- what its fields are judged to be
  pub judged : (method : List ℕ) (result : Result Wanted HeadFault) → method ≡ span_bytes text r.method → result ≡ judge r.version method (map (header_bytes text) (take r.headers headers)) → judgement h ≡ result
  judged method result method_is is =
      sym (is
      ∙ ap (λ (n : ℕ). judge n method (map (header_bytes text) (take r.headers headers))) at.version
      ∙ ap (λ (m : List ℕ). judge h.minor m (map (header_bytes text) (take r.headers headers))) (method_is ∙ at.method)
      ∙ ap (judge h.minor h.method) at.fields)
