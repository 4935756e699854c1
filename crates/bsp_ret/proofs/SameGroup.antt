-- Lines are those of one group.
use Rattle.std.proofs.Common.{◌≡◌, ℕ, true, false, List, [], ◌∷◌, ◌++◌, refl, sym, ap, ◌∙◌, Option, None, Some}
use Rattle.std.specs.Prelude.{◌==◌, IfSome}
use Rattle.std.specs.Option.{option_to_list}
use Rattle.std.specs.List.{find}
use Rattle.std.proofs.Common.{filter}
use Rattle.std.proofs.lemmas.List.{append-nil}
use Rattle.bsp_ret_records.specs.declared.codes.FormOfPayment.{FormOfPayment}
use Rattle.bsp_ret_records.specs.declared.codes.FormOfPayment.TheVariants.{Cash, Credit, Exchange}
use Rattle.bsp_ret.specs.declared.model.LastRecord.{LastRecord}
use Rattle.bsp_ret.specs.declared.model.LastRecord.TheVariants.{Related, Amounts, Form}
use Rattle.bsp_ret.specs.Said.{record_in}
use Rattle.bsp_ret_records.specs.Records.{related_fits, amounts_fit}
use Rattle.bsp_ret.specs.Table.{kind}
use Rattle.bsp_ret.specs.Ret.{Group, AreRelated, IsRecord, IsForm, lines_of}
use Rattle.bsp_ret.proofs.BodyLemmas.{BodyFacts, first_related, second_related}

-- the place that a kind of record has behind record 2
abbrev place_of : LastRecord → ℕ
place_of Related = 1
place_of Amounts = 2
place_of (Form Cash) = 3
place_of (Form Credit) = 4
place_of (Form Exchange) = 5
place_of _ = 0

abbrev place : List ℕ → ℕ
place line = place_of (kind (record_in line))

related_place : (n : ℕ) (line : List ℕ) → IsRecord 51 n related_fits line → place line ≡ 1
unfolding record_in
related_place n line is = rw is.name refl

amounts_place : (n : ℕ) (line : List ℕ) → IsRecord 53 n amounts_fit line → place line ≡ 2
unfolding record_in
amounts_place n line is = rw is.name refl

form_place : (n : ℕ) (kind : FormOfPayment) (line : List ℕ) → IsForm n kind line → place line ≡ place_of (Form kind)
unfolding record_in
form_place n kind line is = rw (is.stands.name, is.form) refl

-- an optional line, if it is there, has this place
abbrev At : ℕ → Option (List ℕ) → Type 0
At k o = IfSome o (λ line. place line ≡ k)

at_from : {P : List ℕ → Type 0} (k : ℕ) (o : Option (List ℕ)) → ((line : List ℕ) → P line → place line ≡ k) → IfSome o P → At k o
at_from k None from h = tt
at_from k (Some line) from h = from line h

-- the first line at a place
abbrev first_at : ℕ → List (List ℕ) → Option (List ℕ)
first_at k lines = find (λ line. place line == k) lines

past : (j k : ℕ) (o : Option (List ℕ)) (rest : List (List ℕ)) → At k o → (k == j) ≡ false → first_at j (option_to_list o ++ rest) ≡ first_at j rest
past j k None rest at other = refl
past j k (Some line) rest at other = rw (at, other) refl

here : (k : ℕ) (o : Option (List ℕ)) (rest : List (List ℕ)) → At k o → (k == k) ≡ true → first_at k rest ≡ None → first_at k (option_to_list o ++ rest) ≡ o
here k None rest at same none = none
here k (Some line) rest at same none = rw (at, same) refl

-- the lines at a place
abbrev all_at : ℕ → List (List ℕ) → List (List ℕ)
all_at k lines = filter (λ line. place line == k) lines

passed : (j k : ℕ) (o : Option (List ℕ)) (rest : List (List ℕ)) → At k o → (k == j) ≡ false → all_at j (option_to_list o ++ rest) ≡ all_at j rest
passed j k None rest at other = refl
passed j k (Some line) rest at other = rw (at, other) refl

taken : (k : ℕ) (o : Option (List ℕ)) (rest : List (List ℕ)) → At k o → (k == k) ≡ true → all_at k (option_to_list o ++ rest) ≡ option_to_list o ++ all_at k rest
taken k None rest at same = refl
taken k (Some line) rest at same = rw (at, same) refl

-- the lines behind a record 2
abbrev behind : Option (List ℕ) → Option (List ℕ) → Option (List ℕ) → Option (List ℕ) → Option (List ℕ) → Option (List ℕ) → List (List ℕ)
behind a s b d e f =
    option_to_list a ++ (option_to_list s ++ (option_to_list b ++ (option_to_list d ++ (option_to_list e ++ (option_to_list f ++ [])))))

record Places (a s b d e f : Option (List ℕ)) : Type 0 where
  one : At 1 a
  second : At 1 s
  two : At 2 b
  three : At 3 d
  four : At 4 e
  five : At 5 f

-- each optional line is the first at its place, and the records 3 are all at theirs
record Found (lines : List (List ℕ)) (a s b d e f : Option (List ℕ)) : Type 0 where
  one : all_at 1 lines ≡ option_to_list a ++ (option_to_list s ++ [])
  two : first_at 2 lines ≡ b
  three : first_at 3 lines ≡ d
  four : first_at 4 lines ≡ e
  five : first_at 5 lines ≡ f

found : (a s b d e f : Option (List ℕ)) → Places a s b d e f → Found (behind a s b d e f) a s b d e f
found a s b d e f at =
    let only = option_to_list f ++ [] in
    let last = option_to_list e ++ only in
    let forms = option_to_list d ++ last in
    let others = option_to_list b ++ forms in
    let seconds = option_to_list s ++ others in
    let none : all_at 1 others ≡ [] = passed 1 2 b forms at.two refl ∙ (passed 1 3 d last at.three refl ∙ (passed 1 4 e only at.four refl ∙ passed 1 5 f [] at.five refl)) in
    record {
      one = taken 1 a seconds at.one refl ∙ ap (λ rest. option_to_list a ++ rest) (taken 1 s others at.second refl ∙ ap (λ rest. option_to_list s ++ rest) none);
      two = past 2 1 a seconds at.one refl ∙ (past 2 1 s others at.second refl ∙ here 2 b forms at.two refl (past 2 3 d last at.three refl ∙ (past 2 4 e only at.four refl ∙ past 2 5 f [] at.five refl)));
      three = past 3 1 a seconds at.one refl ∙ (past 3 1 s others at.second refl ∙ (past 3 2 b forms at.two refl ∙ here 3 d last at.three refl (past 3 4 e only at.four refl ∙ past 3 5 f [] at.five refl)));
      four = past 4 1 a seconds at.one refl ∙ (past 4 1 s others at.second refl ∙ (past 4 2 b forms at.two refl ∙ (past 4 3 d last at.three refl ∙ here 4 e only at.four refl (past 4 5 f [] at.five refl))));
      five = past 5 1 a seconds at.one refl ∙ (past 5 1 s others at.second refl ∙ (past 5 2 b forms at.two refl ∙ (past 5 3 d last at.three refl ∙ (past 5 4 e only at.four refl ∙ here 5 f [] at.five refl refl))));
    }

group_found : (n : ℕ) (g : Group) → BodyFacts n g → Found (behind g.related g.second g.amounts g.cash g.credit g.exchange) g.related g.second g.amounts g.cash g.credit g.exchange
group_found n g facts =
    found g.related g.second g.amounts g.cash g.credit g.exchange
    (record {
      one = at_from 1 g.related (related_place n) (first_related n g.related g.second facts.related);
      second = at_from 1 g.second (related_place n) (second_related n g.related g.second facts.related);
      two = at_from 2 g.amounts (amounts_place n) facts.amounts;
      three = at_from 3 g.cash (form_place n Cash) facts.cash;
      four = at_from 4 g.credit (form_place n Credit) facts.credit;
      five = at_from 5 g.exchange (form_place n Exchange) facts.exchange;
    })

-- records 3 from the list of them
pair_of : (n : ℕ) (a s b t : Option (List ℕ)) → AreRelated n a s → AreRelated n b t → option_to_list a ++ (option_to_list s ++ []) ≡ option_to_list b ++ (option_to_list t ++ []) → (a ≡ b) × (s ≡ t)
pair_of n None None None None are others same = (refl, refl)
pair_of n (Some a) None (Some b) None are others same = (cc same, refl)
pair_of n (Some a) (Some s) (Some b) (Some t) are others same = (cc same, cc same)
pair_of n None None (Some b) None are others same = absurd (cc same)
pair_of n None None (Some b) (Some t) are others same = absurd (cc same)
pair_of n (Some a) None None None are others same = absurd (cc same)
pair_of n (Some a) None (Some b) (Some t) are others same = absurd (cc same)
pair_of n (Some a) (Some s) None None are others same = absurd (cc same)
pair_of n (Some a) (Some s) (Some b) None are others same = absurd (cc same)
pair_of n None (Some s) b t are others same = absurd are
pair_of n a s None (Some t) are others same = absurd others

lines_behind : (g : Group) → lines_of g ≡ g.sale ∷ behind g.related g.second g.amounts g.cash g.credit g.exchange
lines_behind g = rw (append-nil (option_to_list g.exchange)) refl

same_head : {A : Type 0} (x y : A) (xs ys : List A) → x ∷ xs ≡ y ∷ ys → x ≡ y
same_head x y xs ys h = cc

same_tail : {A : Type 0} (x y : A) (xs ys : List A) → x ∷ xs ≡ y ∷ ys → xs ≡ ys
same_tail x y xs ys h = cc

group_from : List ℕ → Option (List ℕ) → Option (List ℕ) → Option (List ℕ) → Option (List ℕ) → Option (List ℕ) → Option (List ℕ) → Group
group_from sale related second amounts cash credit exchange =
    record { sale = sale; related = related; second = second; amounts = amounts; cash = cash; credit = credit; exchange = exchange }

group_is : (g : Group) → g ≡ group_from g.sale g.related g.second g.amounts g.cash g.credit g.exchange
unfolding group_from
group_is g = refl

-- two groups with the same lines are one
pub same_group : (n : ℕ) (g h : Group) → BodyFacts n g → BodyFacts n h → lines_of g ≡ lines_of h → g ≡ h
same_group n g h first second same =
    let tail_g = behind g.related g.second g.amounts g.cash g.credit g.exchange in
    let tail_h = behind h.related h.second h.amounts h.cash h.credit h.exchange in
    let all : g.sale ∷ tail_g ≡ h.sale ∷ tail_h = sym (lines_behind g) ∙ same ∙ lines_behind h in
    let tails : tail_g ≡ tail_h = same_tail g.sale h.sale tail_g tail_h all in
    let sale : g.sale ≡ h.sale = same_head g.sale h.sale tail_g tail_h all in
    let a = group_found n g first in
    let b = group_found n h second in
    let pair = pair_of n g.related g.second h.related h.second first.related second.related (sym a.one ∙ ap (all_at 1) tails ∙ b.one) in
    let amounts : g.amounts ≡ h.amounts = sym a.two ∙ ap (first_at 2) tails ∙ b.two in
    let cash : g.cash ≡ h.cash = sym a.three ∙ ap (first_at 3) tails ∙ b.three in
    let credit : g.credit ≡ h.credit = sym a.four ∙ ap (first_at 4) tails ∙ b.four in
    let exchange : g.exchange ≡ h.exchange = sym a.five ∙ ap (first_at 5) tails ∙ b.five in
    let same_parts : group_from g.sale g.related g.second g.amounts g.cash g.credit g.exchange ≡ group_from h.sale h.related h.second h.amounts h.cash h.credit h.exchange = rw (sale, pair.0, pair.1, amounts, cash, credit, exchange) refl in
    group_is g ∙ same_parts ∙ sym (group_is h)
