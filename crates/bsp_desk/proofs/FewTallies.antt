-- An agent has at most one tally in a period for each airline, and there are 1,000 codes of airlines.
use Rattle.std.proofs.Common.{◌≡◌, ℕ, ◌<◌, ◌≤◌, ◌==◌, ◌&&◌, true, false, List, length, map, get_or, sym, ap, ◌∙◌, arith}
use Rattle.std.specs.List.{Contains, filter}
use Rattle.std.proofs.lemmas.Bool.{and_from, and_parts, eqb-true, eq-eqb}
use Rattle.std.proofs.lemmas.Bool.Decides.{Decides-eqb}
use Rattle.std.proofs.lemmas.List.{get_or-map, length-map}
use Rattle.std.proofs.lemmas.List.Elements.{Contains-get_or}
use Rattle.std.proofs.lemmas.Map.Made.{IsDistinct-from_AllPairs}
use Rattle.std.proofs.lemmas.Map.Steps.{length-le_from_distinct_below}
use Rattle.std.proofs.lemmas.Map.Views.{Contains-from_any}
use Rattle.bsp_rows.proofs.ListLemmas.{filter_holds}
use Rattle.bsp_statement.specs.Sides.{AreOnce}
use Rattle.bsp_statement.specs.Tallies.{no_tally, same_key}
use Rattle.bsp_statement.specs.declared.tally.Tally.{Tally}
use Rattle.bsp_rows.proofs.AskedTallies.{asked_tallies}
use Rattle.bsp_rows.proofs.RowLemmas.{contains_map}
use Rattle.bsp_rows.specs.Rows.{Rows}
use Rattle.bsp_rows.specs.Tallies.{is_tally_asked, rising_keys, tallies_of, tally_of}
use Rattle.bsp_rows.specs.declared.keys.TallyKey.{TallyKey}
use Rattle.bsp_rows.specs.declared.questions.Tallies.TheVariants.{OfAgentIn}

pub few_codes : (codes : List ℕ) → AreOnce codes → ((c : ℕ) → Contains codes c → c < 1000) → length codes ≤ 1000
few_codes codes once below = length-le_from_distinct_below codes 1000 (IsDistinct-from_AllPairs Decides-eqb codes once) (λ q found. below q (Contains-from_any (λ (x y : ℕ). eqb-true x y) q codes found))

module _ (agent code : ℕ) (rows : Rows) where
  abbrev found : List Tally
  found = tallies_of (OfAgentIn agent code) rows

  pub record IsOfPeriod (t : Tally) : Type 0 where
    pub own : t.agent ≡ agent
    pub within : t.period ≡ code

  each_of_period : (t : Tally) → Contains found t → IsOfPeriod t
  each_of_period t among =
      let (k, there, is) = contains_map (λ (k : TallyKey). tally_of k rows) (filter (is_tally_asked (OfAgentIn agent code)) (rising_keys rows)) t among in
      let asked = and_parts (k.agent == agent) (k.period == code) (filter_holds (is_tally_asked (OfAgentIn agent code)) (rising_keys rows) k there) in
      record {
        own = ap (λ (s : Tally). s.agent) (sym is) ∙ eqb-true k.agent agent asked.0;
        within = ap (λ (s : Tally). s.period) (sym is) ∙ eqb-true k.period code asked.1;
      }

  same_tally : (s t : Tally) → IsOfPeriod s → IsOfPeriod t → s.airline ≡ t.airline → same_key s t ≡ true
  same_tally s t first second airlines =
      and_from (s.agent == t.agent) ((s.airline == t.airline) && (s.period == t.period))
      (eq-eqb s.agent t.agent (first.own ∙ sym second.own))
      (and_from (s.airline == t.airline) (s.period == t.period) (eq-eqb s.airline t.airline airlines) (eq-eqb s.period t.period (first.within ∙ sym second.within)))

  -- no airline is there twice
  pub airlines_once : AreOnce (map (λ t. t.airline) found)
  airlines_once = λ i j d less below same.
      let e = no_tally 0 0 0 in
      let size = length-map found (λ (t : Tally). t.airline) in
      let later : j < length found = omega (arith, below, size) in
      let earlier : i < length found = omega (arith, less, later) in
      let s = get_or found i e in
      let t = get_or found j e in
      let airlines = sym (get_or-map (λ (x : Tally). x.airline) found i e d earlier) ∙ (same ∙ get_or-map (λ (x : Tally). x.airline) found j e d later) in
      let alike : same_key s t ≡ true = same_tally s t (each_of_period s (Contains-get_or found i e earlier)) (each_of_period t (Contains-get_or found j e later)) airlines in
      let apart : same_key s t ≡ false = (asked_tallies (OfAgentIn agent code) rows).once i j e less later in
      absurd (cc (sym alike ∙ apart))
