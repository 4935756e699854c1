use Rattle.std.proofs.Common.{◌≡◌, ◌-◌, ◌+ℤ◌, ◌∙◌, ℤ, pos, length, refl, sym, ap}
use Rattle.std.proofs.Math.IntN.{+ℤ_idr}
use Rattle.bsp_ret.specs.Table.{paid}
use Rattle.bsp_ret.proofs.SaidLemmas.{paid_by, paid_said}
use Rattle.bsp_ret.proofs.NoteLemmas.{added_sum, one_next, lines_more, lines_none, places_more, places_begun, places_headed, places_ended}
use Rattle.bsp_ret.proofs.notes.Notes.add.Goals as goal

no_more : (x y : ℤ) → y ≡ pos 0 → x ≡ x +ℤ y
no_more x y none = sym (ap (λ (z : ℤ). x +ℤ z) none ∙ +ℤ_idr x)

pub returns-in-Header-clause-draft : goal.returns-in-Header-clause-draft
returns-in-Header-clause-draft c =
    let next = one_next c.args.bytes.now c.args.self.now.judged c.args.line.now c.args.after.now c.requires.places.within c.requires.begins in
    let said = sym c.requires.says ∙ c.in-Header.is in
    rw (c.in-Header.is, said, next.line_is, lines_none c.args.bytes.now (length c.args.bytes.now - length c.args.after.now)) refl

pub returns-in-Header-clause-places : goal.returns-in-Header-clause-places
returns-in-Header-clause-places c =
    let next = one_next c.args.bytes.now c.args.self.now.judged c.args.line.now c.args.after.now c.requires.places.within c.requires.begins in
    places_headed _ c.args.self.now c.args.closed.now.items c.args.bytes.now c.args.line.now c.args.after.now _ c.requires.places next

pub returns-in_ok-close-in-Sale-clause-draft : goal.returns-in_ok-close-in-Sale-clause-draft
returns-in_ok-close-in-Sale-clause-draft c =
    let next = one_next c.args.bytes.now c.args.self.now.judged c.args.line.now c.args.after.now c.requires.places.within c.requires.begins in
    let said = sym c.requires.says ∙ c.in-Sale.is in
    let closed = c.in_ok-close-in-Sale.ensures.groups c.args.bytes.now c.args.self.now.judged c.requires.places.within c.requires.places.latest in
    rw (c.in-Sale.is, said, closed, next.single) refl

pub returns-in_ok-close-in-Sale-clause-places : goal.returns-in_ok-close-in-Sale-clause-places
returns-in_ok-close-in-Sale-clause-places c =
    let next = one_next c.args.bytes.now c.args.self.now.judged c.args.line.now c.args.after.now c.requires.places.within c.requires.begins in
    let said = sym c.requires.says ∙ c.in-Sale.is in
    let are = c.in_ok-close-in-Sale.ensures.places c.args.bytes.now c.args.self.now.judged c.requires.places.latest c.requires.places.groups in
    places_begun _ c.args.self.now c.args.closed.now.items c.close.new.closed.items c.args.bytes.now c.args.line.now c.args.after.now _ c.requires.places are next (paid_said c.args.line.now ∙ ap paid_by said)

pub returns-in-Form-clause-draft : goal.returns-in-Form-clause-draft
returns-in-Form-clause-draft c =
    let has = c.requires.places in
    let next = one_next c.args.bytes.now c.args.self.now.judged c.args.line.now c.args.after.now has.within c.requires.begins in
    let said = sym c.requires.says ∙ c.in-Form.is in
    rw (c.in-Form.is, said, lines_more c.args.bytes.now c.args.line.now c.args.after.now c.args.self.now.latest c.args.self.now.judged _ has.latest.ordered (has.open_end refl) has.whole next) refl

pub returns-in-Form-clause-places : goal.returns-in-Form-clause-places
returns-in-Form-clause-places c =
    let next = one_next c.args.bytes.now c.args.self.now.judged c.args.line.now c.args.after.now c.requires.places.within c.requires.begins in
    let said = sym c.requires.says ∙ c.in-Form.is in
    let pays : paid c.args.line.now ≡ c.get.result = paid_said c.args.line.now ∙ ap paid_by said ∙ sym c.get.ensures.value in
    let sum = added_sum c.args.self.now.latest.paid c.get.result c.requires.small c.get.ensures.bound in
    places_more _ c.args.self.now c.args.closed.now.items c.args.bytes.now c.args.line.now c.args.after.now _ _ c.requires.places next (sum ∙ ap (λ (x : ℤ). c.args.self.now.latest.paid +ℤ x) (sym pays))

pub returns-in-Related-clause-draft : goal.returns-in-Related-clause-draft
returns-in-Related-clause-draft c =
    let has = c.requires.places in
    let next = one_next c.args.bytes.now c.args.self.now.judged c.args.line.now c.args.after.now has.within c.requires.begins in
    let said = sym c.requires.says ∙ c.in-Related.is in
    rw (c.in-Related.is, said, lines_more c.args.bytes.now c.args.line.now c.args.after.now c.args.self.now.latest c.args.self.now.judged _ has.latest.ordered (has.open_end refl) has.whole next) refl

pub returns-in-Related-clause-places : goal.returns-in-Related-clause-places
returns-in-Related-clause-places c =
    let next = one_next c.args.bytes.now c.args.self.now.judged c.args.line.now c.args.after.now c.requires.places.within c.requires.begins in
    let said = sym c.requires.says ∙ c.in-Related.is in
    places_more _ c.args.self.now c.args.closed.now.items c.args.bytes.now c.args.line.now c.args.after.now _ _ c.requires.places next (no_more _ _ (paid_said c.args.line.now ∙ ap paid_by said))

pub returns-in-Amounts-clause-draft : goal.returns-in-Amounts-clause-draft
returns-in-Amounts-clause-draft c =
    let has = c.requires.places in
    let next = one_next c.args.bytes.now c.args.self.now.judged c.args.line.now c.args.after.now has.within c.requires.begins in
    let said = sym c.requires.says ∙ c.in-Amounts.is in
    rw (c.in-Amounts.is, said, lines_more c.args.bytes.now c.args.line.now c.args.after.now c.args.self.now.latest c.args.self.now.judged _ has.latest.ordered (has.open_end refl) has.whole next) refl

pub returns-in-Amounts-clause-places : goal.returns-in-Amounts-clause-places
returns-in-Amounts-clause-places c =
    let next = one_next c.args.bytes.now c.args.self.now.judged c.args.line.now c.args.after.now c.requires.places.within c.requires.begins in
    let said = sym c.requires.says ∙ c.in-Amounts.is in
    places_more _ c.args.self.now c.args.closed.now.items c.args.bytes.now c.args.line.now c.args.after.now _ _ c.requires.places next (no_more _ _ (paid_said c.args.line.now ∙ ap paid_by said))

pub returns-in-Trailer-clause-draft : goal.returns-in-Trailer-clause-draft
returns-in-Trailer-clause-draft c =
    let next = one_next c.args.bytes.now c.args.self.now.judged c.args.line.now c.args.after.now c.requires.places.within c.requires.begins in
    let said = sym c.requires.says ∙ c.in-Trailer.is in
    rw (c.in-Trailer.is, said, next.line_is) refl

pub returns-in-Trailer-clause-places : goal.returns-in-Trailer-clause-places
returns-in-Trailer-clause-places c =
    let next = one_next c.args.bytes.now c.args.self.now.judged c.args.line.now c.args.after.now c.requires.places.within c.requires.begins in
    rw c.in-Trailer.is (places_ended c.args.self.now c.args.closed.now.items c.args.bytes.now c.args.line.now c.args.after.now _ c.requires.places next)
