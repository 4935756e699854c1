-- The transactions of a file that are judged so far.
use Rattle.std.proofs.Common.{◌≡◌, ℕ, suc, ◌+◌, ◌<◌, List, [], ◌∷◌, ◌++◌, length, take, get_or, Some, refl, sym, ap, subst, ◌∙◌, arith, length-take}
use Rattle.std.proofs.lemmas.List.{take_more}
use Rattle.bsp_book.specs.Calls.{Meaning}
use Rattle.bsp_ret.specs.Content.{HasContent}
use Rattle.bsp_ret.proofs.SameContent.{one_content}
use Rattle.bsp_rows.specs.Transaction.{Transaction}
use Rattle.bsp_rows.specs.Writing.{HaveContents}
use Rattle.bsp_rows.proofs.WrittenFile.{contents_more}
use Rattle.bsp_rules.specs.declared.verdict.Reporter.{Reporter}
use Rattle.bsp_rules.specs.declared.verdict.Reporter.TheVariants.{Office, Agent}
use Rattle.bsp_rules.specs.declared.verdict.Verdict.{Verdict}
use Rattle.bsp_rows.specs.Rows.{Rows}
use Rattle.bsp_rows.specs.Sound.{Sound}
use Rattle.bsp_desk_sales.specs.Serves.{FallsBackSound, LeavesLastSound}
use Rattle.bsp_office_spec.specs.Ledger.{Ledger, ledger_filed, ledger_judged, ledger_of, own_verdict, own_verdicts}
use Rattle.bsp_office_spec.specs.Step.{Owner, bearer, office_verdict, office_verdicts, rows_filed, rows_judged}
use Rattle.bsp_office_spec.proofs.SeenLemmas.{filed_own}
use Rattle.bsp_desk_sales.specs.Judged.{AreJudged, HasJudged, IsJudged, owner_of, rows_next, verdict_of, verdicts_of}

-- groups have one list of values
pub one_list : (n : ℕ) (groups : List (List (List ℕ))) (ts us : List Transaction) → HaveContents n groups ts → HaveContents n groups us → ts ≡ us
one_list n [] [] [] h k = refl
one_list n (g ∷ gs) (t ∷ ts) (u ∷ us) h k =
    let first = one_content n g t u h.0 k.0 in
    let rest = one_list (suc n) gs ts us h.1 k.1 in
    λ i. first i ∷ rest i
one_list n [] (t ∷ ts) us h k = absurd h
one_list n [] [] (u ∷ us) h k = absurd k
one_list n (g ∷ gs) [] us h k = absurd h
one_list n (g ∷ gs) (t ∷ ts) [] h k = absurd k

-- ---- one verdict more

office_more : (ts : List Transaction) (rows : Rows) (t : Transaction) → office_verdicts rows (ts ++ t ∷ []) ≡ office_verdicts rows ts ++ office_verdict (rows_filed bearer ts (office_verdicts rows ts) rows) t ∷ []
office_more [] rows t = refl
office_more (u ∷ us) rows t = ap (λ vs. office_verdict rows u ∷ vs) (office_more us (rows_judged bearer u (office_verdict rows u) rows) t)

own_more : (agent : ℕ) (ts : List Transaction) (l : Ledger) (t : Transaction) → own_verdicts agent l (ts ++ t ∷ []) ≡ own_verdicts agent l ts ++ own_verdict (Agent agent) (ledger_filed agent ts l) t ∷ []
own_more agent [] l t = refl
own_more agent (u ∷ us) l t = ap (λ vs. own_verdict (Agent agent) l u ∷ vs) (own_more agent us (ledger_judged agent u (own_verdict (Agent agent) l u) l) t)

verdicts_more : (who : Reporter) (ts : List Transaction) (rows : Rows) (t : Transaction) → verdicts_of who rows (ts ++ t ∷ []) ≡ verdicts_of who rows ts ++ verdict_of who (rows_filed (owner_of who) ts (verdicts_of who rows ts) rows) t ∷ []
verdicts_more Office ts rows t = office_more ts rows t
verdicts_more (Agent agent) ts rows t =
    own_more agent ts (ledger_of agent rows) t
    ∙ ap (λ (l : Ledger). own_verdicts agent (ledger_of agent rows) ts ++ own_verdict (Agent agent) l t ∷ []) (sym (filed_own agent ts rows))

-- ---- there are as many verdicts as transactions

office_count : (ts : List Transaction) (rows : Rows) → length (office_verdicts rows ts) ≡ length ts
office_count [] rows = refl
office_count (u ∷ us) rows = ap suc (office_count us (rows_judged bearer u (office_verdict rows u) rows))

own_count : (agent : ℕ) (ts : List Transaction) (l : Ledger) → length (own_verdicts agent l ts) ≡ length ts
own_count agent [] l = refl
own_count agent (u ∷ us) l = ap suc (own_count agent us (ledger_judged agent u (own_verdict (Agent agent) l u) l))

verdict_count : (who : Reporter) (ts : List Transaction) (rows : Rows) → length (verdicts_of who rows ts) ≡ length ts
verdict_count Office ts rows = office_count ts rows
verdict_count (Agent agent) ts rows = own_count agent ts (ledger_of agent rows)

filed_more : (owner : Owner) (ts : List Transaction) (vs : List Verdict) (rows : Rows) (t : Transaction) (v : Verdict) → length vs ≡ length ts → rows_filed owner (ts ++ t ∷ []) (vs ++ v ∷ []) rows ≡ rows_judged owner t v (rows_filed owner ts vs rows)
filed_more owner [] [] rows t v h = refl
filed_more owner (u ∷ us) (w ∷ ws) rows t v h = filed_more owner us ws (rows_judged owner u w rows) t v (omega (arith, h))
filed_more owner [] (w ∷ ws) rows t v h = absurd (omega (arith, h))
filed_more owner (u ∷ us) [] rows t v h = absurd (omega (arith, h))

-- ---- one transaction more

module _ {B : Type 0} (m : Meaning B Rows) (mid new : B) (who : Reporter) where
  one_more : (ts : List Transaction) (now last : Rows) (verdicts more : List Verdict) (t : Transaction) (v : Verdict) → HasJudged m mid who ts now last verdicts → more ≡ verdicts ++ v ∷ [] →
      let rows = rows_filed (owner_of who) ts verdicts now in
      IsJudged who t rows v → m.holds new (rows_next who t rows) (Some last) → HasJudged m new who (ts ++ t ∷ []) now last more
  one_more ts now last verdicts more t v was is judged holds =
      let rows = rows_filed (owner_of who) ts verdicts now in
      let count : length verdicts ≡ length ts = ap length was.are ∙ verdict_count who ts now in
      let next : rows_filed (owner_of who) (ts ++ t ∷ []) more now ≡ rows_next who t rows =
      ap (λ vs. rows_filed (owner_of who) (ts ++ t ∷ []) vs now) is
      ∙ (filed_more (owner_of who) ts verdicts now t v count ∙ ap (λ w. rows_judged (owner_of who) t w rows) judged.is) in
      let S : Rows → Type 0 = λ r. m.holds new r (Some last) in
      record {
        are = is ∙ ((λ i. was.are i ++ judged.is i ∷ []) ∙ (ap (λ vs. verdicts_of who now ts ++ verdict_of who (rows_filed (owner_of who) ts vs now) t ∷ []) was.are ∙ sym (verdicts_more who ts now t)));
        sound = subst Sound (sym next) judged.sound;
        holds = subst S (sym next) holds;
      }

module _ {B : Type 0} (m : Meaning B Rows) (old mid new : B) (who : Reporter) where
  pub more_judged : (groups : List (List (List ℕ))) (index : ℕ) (verdicts more : List Verdict) (t : Transaction) (v : Verdict) → index < length groups →
      AreJudged m old mid who (take index groups) verdicts → HasContent (index + 1) (get_or groups index []) t → (m.trusts new → m.trusts mid) →
      (m.trusts new → (now last : Rows) → Sound now → m.holds mid now (Some last) → IsJudged who t now v × m.holds new (rows_next who t now) (Some last)) →
      more ≡ verdicts ++ v ∷ [] → AreJudged m old new who (take (index + 1) groups) more
  more_judged groups index verdicts more t v below are has back one is =
      let ts = are.transactions in
      let few : length (take index groups) ≡ index = length-take index groups ∙ omega (arith, below) in
      let at : index + 1 ≡ 1 + length (take index groups) = omega (arith, few) in
      let Groups : List (List (List ℕ)) → Type 0 = λ gs. HaveContents 1 gs (ts ++ t ∷ []) in
      let Has : ℕ → Type 0 = λ k. HasContent k (get_or groups index []) t in
      record {
        transactions = ts ++ t ∷ [];
        contents = subst Groups (sym (take_more groups index [] below)) (contents_more 1 (take index groups) ts (get_or groups index []) t are.contents (subst Has at has));
        judged = λ trust now last s h.
            let was = are.judged (back trust) now last s h in
            let next = one trust (rows_filed (owner_of who) ts verdicts now) last was.sound was.holds in
            one_more m mid new who ts now last verdicts more t v was is next.0 next.1;
      }

  -- ---- where the next one ends the transaction

  pub fell_back : (groups : List (List (List ℕ))) (verdicts : List Verdict) → AreJudged m old mid who groups verdicts → (m.trusts new → m.trusts mid) → FallsBackSound m mid new → FallsBackSound m old new
  fell_back groups verdicts are back falls = λ trust now last s h. let was = are.judged (back trust) now last s h in falls trust (rows_filed (owner_of who) are.transactions verdicts now) last was.sound was.holds

  pub left_last : (groups : List (List (List ℕ))) (verdicts : List Verdict) → AreJudged m old mid who groups verdicts → (m.trusts new → m.trusts mid) → LeavesLastSound m mid new → LeavesLastSound m old new
  left_last groups verdicts are back leaves = λ trust now last s h. let was = are.judged (back trust) now last s h in leaves trust (rows_filed (owner_of who) are.transactions verdicts now) last was.sound was.holds

-- no transaction is judged yet
pub none_judged : {B : Type 0} (m : Meaning B Rows) (old : B) (who : Reporter) (verdicts : List Verdict) → verdicts ≡ [] → AreJudged m old old who [] verdicts
none_judged m old who verdicts none = record {
  transactions = [];
  contents = tt;
  judged = λ trust now last s h. record {
    are = none ∙ empty who now;
    sound = s;
    holds = h;
  };
}
  where
    empty : (w : Reporter) (now : Rows) → [] ≡ verdicts_of w now []
    empty Office now = refl
    empty (Agent agent) now = refl
