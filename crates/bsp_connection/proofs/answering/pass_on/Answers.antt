use Rattle.std.proofs.Common.{◌≡◌, ◌<◌, ◌≤◌, ℕ, ◌+◌, ◌-◌, List, ◌++◌, take, drop, min, refl, sym, ap, ◌∙◌, subst, arith}
use Rattle.std.proofs.lemmas.Bool.{ne_eqb}
use Rattle.bsp_connection.proofs.StepLemmas.{part_of}
use Rattle.bsp_connection.specs.Begun.{HasBody}
use Rattle.bsp_connection.proofs.answering.pass_on.Goals as goal

no_less : (n : ℕ) → 0 < n → n ≡ 0 → ⊥
no_less n some none = omega (arith, some, none)

pub returns-clause-passed : goal.returns-clause-passed
returns-clause-passed g c =
    let b = c.args.begun.now in
    let received : List ℕ = c.args.c.now.received.items in
    let count : ℕ = c.min-count.result in
    let p = part_of received b.head b.left count c.requires.within (c.min-count.ensures ∙ ap (λ (n : ℕ). min b.left (n - b.head)) c.len.ensures) in
    let piece : c.up_to-piece.result.now ≡ take count (drop b.head received) = c.up_to-piece.ensures.value ∙ ap (λ (l : List ℕ). take count l) c.from.ensures ∙ ap (λ (l : List ℕ). take count (drop b.head l)) c.bytes.ensures in
    record {
      piece = take count (drop b.head received);
      rest = drop (b.head + count) received;
      behind = p.behind;
      received = c.cut_out.ensures.items;
      within = subst (λ (n : ℕ). n ≤ b.left) (sym p.size) p.within;
      now_is = ap (λ (n : ℕ). record { head = b.head; parts = b.parts; found = b.found; left = b.left - n }) (sym p.size);
      begun = refl;
      is_used = c.in_ok-pass.ensures.kept;
      body = λ bytes has. subst (λ (l : List ℕ). HasBody g.S.Service.reads b.found c.pass.new.body (bytes ++ l)) piece (c.in_ok-pass.ensures.taken bytes has);
      waits = p.waits;
      rests = λ more. ne_eqb (b.left - count) 0 (λ none. no_less (b.left - count) more none);
      out = refl;
      count = refl;
      closed = refl;
      number = refl;
      room = c.cut_out.ensures.room;
    }
