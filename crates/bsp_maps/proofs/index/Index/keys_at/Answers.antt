use Rattle.std.proofs.Common.{◌≡◌, cond, List, [], ◌∷◌, ◌++◌, map, true, false, Ordering, Less, Equal, Greater, refl, sym, ap, subst, ◌∙◌, Option}
use Rattle.std.specs.List.{filter, filter_map}
use Rattle.std.specs.Ordering.{eq_by_cmp, is_eq, is_ne}
use Rattle.std.specs.FinMap.{entries}
use Rattle.std.specs.BTreeMap.{BTreeMap}
use Rattle.std.specs.List.Sorted.{IsStrictlySortedBy}
use Rattle.std.specs.Map.{keys_of}
use Rattle.std.specs.Map.Iter.{deref_pair}
use Rattle.std.proofs.lemmas.List.{append-nil}
use Rattle.std.proofs.lemmas.Map.Iter.{rest_more, rest_all}
use Rattle.bsp_maps.specs.Undo.{content}
use Rattle.bsp_maps.specs.Windows.{entries_in}
use Rattle.bsp_maps.proofs.WindowLemmas.{front}
use Rattle.bsp_maps.proofs.ContentLemmas.{of_content}
use Rattle.bsp_maps.proofs.PresentLemmas.{entries-present}
use Rattle.bsp_maps.proofs.WindowLemmas.{from_low}
use Rattle.bsp_maps.specs.Indexes.{entry_cmp}
use Rattle.bsp_maps.proofs.EntryLemmas.{entry_total}
use Rattle.bsp_maps.proofs.IndexLemmas.{here, here_keys, keys_more, keys_none, place_lowest, place_together}
use Rattle.bsp_maps.proofs.index.Index.keys_at.Goals.{in-None, in-Some+then-is_ne}
use Rattle.bsp_maps.proofs.index.Index.keys_at.Goals as goal

apart : (r : Ordering) → is_ne r ≡ true → is_eq r ≡ false
apart Less h = refl
apart Equal h = absurd (cc)
apart Greater h = refl

alike : (r : Ordering) → is_ne r ≡ false → is_eq r ≡ true
alike Less h = absurd (cc)
alike Equal h = refl
alike Greater h = absurd (cc)

pub loop-entry-preserved-in-Continue-1 : goal.loop-entry-preserved-in-Continue-1
loop-entry-preserved-in-Continue-1 g c =
    keys_more (λ e. eq_by_cmp g.P.Ord.cmp c.args.place e.0) c.loop-entry.found.items c.push.new.self.items (c.in-Some.entry.now, c.in-Some.value.now) c.loop-entry.entry-iterator c.next.new.self _
    c.in-Some.ensures.steps (alike (g.P.Ord.cmp c.args.place c.in-Some.entry.now.0) (sym (c.is_ne.ensures ∙ ap is_ne c.cmp.ensures) ∙ c.if-is_ne.false)) (sym c.is_some.ensures ∙ c.if-is_some.true) c.in_ok-push.ensures.items c.loop-entry.invariant

pub loop-entry-preserved : goal.loop-entry-preserved
loop-entry-preserved g c =
    keys_none (λ e. eq_by_cmp g.P.Ord.cmp c.args.place e.0) c.loop-entry.found.items (c.in-Some.entry.now, c.in-Some.value.now) c.loop-entry.entry-iterator c.next.new.self _
    c.in-Some.ensures.steps (alike (g.P.Ord.cmp c.args.place c.in-Some.entry.now.0) (sym (c.is_ne.ensures ∙ ap is_ne c.cmp.ensures) ∙ c.if-is_ne.false)) (sym c.is_some.ensures ∙ c.if-is_some.false) c.loop-entry.invariant

pub returns : goal.returns
returns g c =
    let RP = g.P.Ord.cmp in
    let RK = g.K.Ord.cmp in
    let total = entry_total g.met.P.Ord.total g.met.K.Ord.total in
    let place = c.args.place in
    let index = c.args.self.now.entries in
    let has = λ (e : g.row.P.Denot × g.row.K.Denot). eq_by_cmp RP place e.0 in
    let sorted = subst (λ (m : BTreeMap (g.row.P.Denot × g.row.K.Denot) (Option (Unit {0}))). IsStrictlySortedBy (entry_cmp RP RK) (keys_of m.entries)) c.map.ensures c.range-entry-items.ensures.ordered in
    let none : front has c.loop-entry.entry-iterator ≡ [] = elim c.match-next.branch [
      | in-None w ↦ ap (front has) (rest_all deref_pair c.loop-entry.entry-iterator c.next.new.self c.next.result w.in-None.is c.next.ensures.steps)
      | in-Some+then-is_ne w ↦
          ap (front has) (rest_more deref_pair c.loop-entry.entry-iterator c.next.new.self c.next.result (w.in-Some.entry, w.in-Some.value) w.in-Some.is c.next.ensures.steps)
          ∙ ap (λ b. cond b ((w.in-Some.entry.now, w.in-Some.value.now) ∷ front has c.next.new.self) []) (apart (RP place w.in-Some.entry.now.0) (sym (w.is_ne.ensures ∙ ap is_ne w.cmp.ensures) ∙ w.if-is_ne.true))
    ] in
    sym (append-nil c.loop-entry.found.items) ∙ ap (λ r. c.loop-entry.found.items ++ filter_map here r) (sym none) ∙ c.loop-entry.invariant
    ∙ ap (filter_map here) (from_low (entry_cmp RP RK) has (place, c.args.least) (place_lowest RP RK place c.args.least c.requires) (place_together RP RK g.met.P.Ord.total place c.args.least) index.map.entries sorted)
    ∙ ap (λ es. filter_map here (entries_in has es)) (of_content total index index.map refl sorted)
    ∙ here_keys RP RK has (entries (content (entry_cmp RP RK) index))
    ∙ ap (λ (es : List ((g.row.P.Denot × g.row.K.Denot) × Unit {0})). map (λ e. e.0.1) (filter (λ e. has e.0) es)) (sym (entries-present total (content (entry_cmp RP RK) index)))

pub loop-entry-init : goal.loop-entry-init
loop-entry-init g c = rw (c.new-found.ensures.items, c.into_iter-entry-iterator.ensures.into_iter_gives, c.range-entry-items.ensures.between tt, c.map.ensures) refl
