-- Reports over the postings of tallies are reports over the postings of the rows.
use Rattle.std.proofs.Common.{◌≡◌, ℕ, ◌==◌, refl, ap, subst, ◌∙◌, sym, Bool, true, ◌&&◌, List, [], ◌∷◌, ◌++◌, map}
use Rattle.std.specs.Prelude.{codes}
use Rattle.bsp_fields.specs.Decimal.{fixed_digits}
use Rattle.std.specs.List.{flat_map, Contains}
use Rattle.std.proofs.lemmas.Bool.{and_parts, eqb-true}
use Rattle.bsp_rules.specs.declared.rows.Item.{Item}
use Rattle.bsp_statement.specs.declared.tally.Tally.{Tally}
use Rattle.bsp_memos.specs.declared.fields.MemoFields.{MemoFields}
use Rattle.bsp_statement.specs.declared.posting.Posting.{Posting}
use Rattle.bsp_statement.specs.declared.figures.Figures.{Figures}
use Rattle.bsp_statement.specs.declared.nets.AgentNet.{AgentNet}
use Rattle.bsp_statement.specs.declared.nets.AirlineNet.{AirlineNet}
use Rattle.bsp_statement.specs.declared.nets.Settlement.{Settlement}
use Rattle.bsp_statement.specs.Postings.{postings, is_of_agent, is_of_airline, of_agent}
use Rattle.bsp_statement.specs.Sums.{figures_of, AreCodes}
use Rattle.bsp_statement.proofs.NetLemmas.{agent_net_is}
use Rattle.bsp_statement.specs.Nets.{agent_net, net_of_postings}
use Rattle.bsp_statement.specs.Tallies.{is_under, tally_posting, tally_postings, AreTallies}
use Rattle.bsp_statement.specs.Texts.{figures_line, airline_line, heading}
use Rattle.bsp_statement.specs.Reports.{IsStatement, IsSettlement}
use Rattle.bsp_statement.proofs.TallyFigures.{own_figures, to_rows, to_tallies}
use Rattle.bsp_statement.proofs.ListLemmas.{filter_all, filter_filter}

pub flat_map_agree : {X Y : Type 0} (f g : X → List Y) → ((x : X) → f x ≡ g x) → (xs : List X) → flat_map f xs ≡ flat_map g xs
flat_map_agree f g same [] = refl
flat_map_agree f g same (x ∷ xs) = ap (λ front. front ++ flat_map f xs) (same x) ∙ ap (λ rest. g x ++ rest) (flat_map_agree f g same xs)

pub map_agree : {X Y : Type 0} (f g : X → Y) → ((x : X) → f x ≡ g x) → (xs : List X) → map f xs ≡ map g xs
map_agree f g same [] = refl
map_agree f g same (x ∷ xs) = ap (λ front. front ∷ map f xs) (same x) ∙ ap (λ rest. g x ∷ rest) (map_agree f g same xs)

same_agent : (t : Tally) (p : Posting) → is_under t p ≡ true → p.agent ≡ t.agent
same_agent t p below = eqb-true p.agent t.agent ((and_parts (p.agent == t.agent) (p.airline == t.airline) below).0)

same_airline : (t : Tally) (p : Posting) → is_under t p ≡ true → p.airline ≡ t.airline
same_airline t p below = eqb-true p.airline t.airline ((and_parts (p.agent == t.agent) (p.airline == t.airline) below).1)

of_agent_agrees : (agent : ℕ) (t : Tally) (p : Posting) → is_under t p ≡ true → is_of_agent agent p ≡ is_of_agent agent (tally_posting t)
of_agent_agrees agent t p below = ap (λ (a : ℕ). a == agent) (same_agent t p below)

of_airline_agrees : (airline : ℕ) (t : Tally) (p : Posting) → is_under t p ≡ true → is_of_airline airline p ≡ is_of_airline airline (tally_posting t)
of_airline_agrees airline t p below = ap (λ (a : ℕ). a == airline) (same_airline t p below)

both_agree : (agent airline : ℕ) (t : Tally) (p : Posting) → is_under t p ≡ true → (is_of_agent agent p && is_of_airline airline p) ≡ (is_of_agent agent (tally_posting t) && is_of_airline airline (tally_posting t))
both_agree agent airline t p below =
    ap (λ (b : Bool). b && is_of_airline airline p) (of_agent_agrees agent t p below) ∙ ap (λ (b : Bool). is_of_agent agent (tally_posting t) && b) (of_airline_agrees airline t p below)

abbrev pub line_of : Bool → ℕ → Figures → List ℕ
line_of taxed airline f = figures_line taxed (fixed_digits 3 airline) f

abbrev airline_line_of : Bool → ℕ → List Posting → List ℕ
airline_line_of taxed airline ps = figures_line taxed (fixed_digits 3 airline) (figures_of ps)

abbrev pub text_with : Bool → ℕ → List ℕ → List ℕ → Figures → List ℕ
text_with taxed agent of_period lines f = codes "STATEMENT " ++ (fixed_digits 8 agent ++ (codes " " ++ (of_period ++ (heading taxed ++ (lines ++ figures_line taxed (codes "TOT") f)))))

abbrev pub agent_net_with : ℕ → Figures → AgentNet
agent_net_with code f = record { agent = code; net = f.net }

abbrev pub airline_net_with : ℕ → Figures → AirlineNet
airline_net_with code f = record { airline = code; net = f.net }

module _ (items : List Item) (memos : List MemoFields) (tallies : List Tally) (are : AreTallies items memos tallies) (period : ℕ) where
  line_agrees : (taxed : Bool) (agent airline : ℕ) → airline_line taxed (of_agent agent (tally_postings period tallies)) airline ≡ airline_line taxed (of_agent agent (postings period items memos)) airline
  line_agrees taxed agent airline =
      let both = λ (p : Posting). is_of_agent agent p && is_of_airline airline p in
      ap (λ (ps : List Posting). airline_line_of taxed airline ps) (filter_filter (is_of_agent agent) (is_of_airline airline) (tally_postings period tallies))
      ∙ ap (λ (f : Figures). line_of taxed airline f) (own_figures items memos tallies are period both (both_agree agent airline))
      ∙ sym (ap (λ (ps : List Posting). airline_line_of taxed airline ps) (filter_filter (is_of_agent agent) (is_of_airline airline) (postings period items memos)))

  pub statement_over_rows : (taxed : Bool) (agent : ℕ) (of_period text : List ℕ) → IsStatement taxed agent of_period (of_agent agent (tally_postings period tallies)) text → IsStatement taxed agent of_period (of_agent agent (postings period items memos)) text
  statement_over_rows taxed agent of_period text is = record {
    airlines = is.airlines;
    are = record {
      rising = is.are.rising;
      members = λ code. (
        (λ has. to_rows items memos tallies are period (is_of_agent agent) (of_agent_agrees agent) (λ p. p.airline) same_airline code ((is.are.members code).0 has)),
        (λ has. (is.are.members code).1 (to_tallies items memos tallies are period (is_of_agent agent) (of_agent_agrees agent) (λ p. p.airline) same_airline code has)),
      );
    };
    text_is = is.text_is
        ∙ ap (λ (lines : List ℕ). text_with taxed agent of_period lines (figures_of (of_agent agent (tally_postings period tallies)))) (flat_map_agree _ _ (line_agrees taxed agent) is.airlines)
        ∙ ap (λ (f : Figures). text_with taxed agent of_period (flat_map (airline_line taxed (of_agent agent (postings period items memos))) is.airlines) f) (own_figures items memos tallies are period (is_of_agent agent) (of_agent_agrees agent));
  }

  all_agree : (t : Tally) (p : Posting) → is_under t p ≡ true → true ≡ true
  all_agree t p below = refl

  codes_over_rows : (code_of : Posting → ℕ) → ((t : Tally) (p : Posting) → is_under t p ≡ true → code_of p ≡ code_of (tally_posting t)) → (cs : List ℕ) → AreCodes cs (map code_of (tally_postings period tallies)) → AreCodes cs (map code_of (postings period items memos))
  codes_over_rows code_of same cs is = record {
    rising = is.rising;
    members = λ code. (
      (λ has. subst (λ (ps : List Posting). Contains (map code_of ps) code) (filter_all (postings period items memos))
          (to_rows items memos tallies are period (λ p. true) all_agree code_of same code
          (subst (λ (ps : List Posting). Contains (map code_of ps) code) (sym (filter_all (tally_postings period tallies))) ((is.members code).0 has)))),
      (λ has. (is.members code).1 (subst (λ (ps : List Posting). Contains (map code_of ps) code) (filter_all (tally_postings period tallies))
          (to_tallies items memos tallies are period (λ p. true) all_agree code_of same code
          (subst (λ (ps : List Posting). Contains (map code_of ps) code) (sym (filter_all (postings period items memos))) has)))),
    );
  }

  pub settlement_over_rows : (of_period : List ℕ) (s : Settlement) → IsSettlement of_period (tally_postings period tallies) s → IsSettlement of_period (postings period items memos) s
  settlement_over_rows of_period s is = record {
    agent_codes = is.agent_codes;
    airline_codes = is.airline_codes;
    agents_are = codes_over_rows (λ p. p.agent) same_agent is.agent_codes is.agents_are;
    airlines_are = codes_over_rows (λ p. p.airline) same_airline is.airline_codes is.airlines_are;
    agents = is.agents ∙ map_agree _ _ (λ code. ap (λ (f : Figures). agent_net_with code f) (own_figures items memos tallies are period (is_of_agent code) (of_agent_agrees code))) is.agent_codes;
    airlines = is.airlines ∙ map_agree _ _ (λ code. ap (λ (f : Figures). airline_net_with code f) (own_figures items memos tallies are period (is_of_airline code) (of_airline_agrees code))) is.airline_codes;
    total = is.total
        ∙ ap (λ (ps : List Posting). net_of_postings ps) (sym (filter_all (tally_postings period tallies)))
        ∙ ap (λ (f : Figures). f.net) (own_figures items memos tallies are period (λ p. true) all_agree)
        ∙ ap (λ (ps : List Posting). net_of_postings ps) (filter_all (postings period items memos));
    text_is = is.text_is;
  }

  -- what tallies give an agent is its net
  pub agent_net_of_tallies : (agent : ℕ) → net_of_postings (of_agent agent (tally_postings period tallies)) ≡ agent_net agent period items memos
  agent_net_of_tallies agent = ap (λ (f : Figures). f.net) (own_figures items memos tallies are period (is_of_agent agent) (of_agent_agrees agent)) ∙ agent_net_is agent period items memos
