-- Which keys are in a window, and that they are next to each other.
use Rattle.std.proofs.Common.{◌≡◌, ℕ, ◌<◌, ◌≤◌, ◌==◌, ◌&&◌, Bool, true, false, List, refl, sym, ap, ◌∙◌, arith, Ordering, Less, Equal, Greater, nat_cmp}
use Rattle.std.specs.Prelude.{nat_le}
use Rattle.std.specs.Ordering.{bool_cmp, ordering_then, is_le}
use Rattle.std.specs.Cmp.{IsTotalOrder, ranked, nat_cmp_total, tied_itself, alike_right}
use Rattle.std.specs.Cmp.Lexicographic.{slice_cmp, nat_list_cmp_total}
use Rattle.std.specs.FinMap.{nat_cmp-IsAntisymmetric, slice_cmp-IsAntisymmetric}
use Rattle.std.specs.Str.{bytes_eq}
use Rattle.std.proofs.lemmas.Slice.Eq.{bytes_eq-Decides}
use Rattle.bsp_rows.specs.Range.{Range}
use Rattle.bsp_rows.specs.RulesRows.{contains}
use Rattle.bsp_rows.specs.declared.keys.ItemKey.{ItemKey}
use Rattle.bsp_rows.specs.declared.keys.MemoKey.{MemoKey}
use Rattle.bsp_rows.specs.declared.keys.RangeKey.{RangeKey}
use Rattle.bsp_rows.specs.declared.keys.TallyKey.{TallyKey}
use Rattle.bsp_rows.specs.Rows.{item_cmp, memo_cmp, range_cmp}
use Rattle.bsp_rows.specs.Tallies.{tally_cmp}
use Rattle.bsp_memory_tables.specs.Numbers.{number_cmp, is_of_number}
use Rattle.bsp_memory_tables.specs.declared.keys.NumberKey.{NumberKey}

-- ---- orders of one number

pub first_le : (a b : Ordering) → is_le (ordering_then a b) ≡ true → is_le a ≡ true
first_le Less b h = refl
first_le Equal b h = refl
first_le Greater b h = h

first_less : (a b : Ordering) → ordering_then a b ≡ Less → is_le a ≡ true
first_less Less b h = refl
first_less Equal b h = refl
first_less Greater b h = absurd (cc)

both_le : (a b : Ordering) → is_le a ≡ true → is_le b ≡ true → is_le (ordering_then a b) ≡ true
both_le Less b h k = refl
both_le Equal b h k = k
both_le Greater b h k = h

second_le : (a b : Ordering) → a ≡ Equal → is_le (ordering_then a b) ≡ true → is_le b ≡ true
second_le Equal b e h = h
second_le Less b e h = absurd (cc)
second_le Greater b e h = absurd (cc)

second_less : (a b : Ordering) → a ≡ Equal → ordering_then a b ≡ Less → b ≡ Less
second_less Equal b e h = h
second_less Less b e h = absurd (cc)
second_less Greater b e h = absurd (cc)

up_to : (x y : ℕ) (r : Ordering) → r ≡ nat_cmp x y → is_le r ≡ true → x ≤ y
up_to x y Less e h = let k : x < y = ranked x y Less e in omega arith
up_to x y Equal e h = let k : x ≡ y = ranked x y Equal e in omega arith
up_to x y Greater e h = absurd (cc)

pub is_up_to : (x y : ℕ) (r : Ordering) → r ≡ nat_cmp x y → x ≤ y → is_le r ≡ true
is_up_to x y Less e h = refl
is_up_to x y Equal e h = refl
is_up_to x y Greater e h = let k : y < x = ranked x y Greater e in absurd (omega arith)

-- below or at it, and what is behind a tie of the numbers
rising : (x y : ℕ) (s r : Ordering) → r ≡ nat_cmp x y → x ≤ y → is_le s ≡ true → is_le (ordering_then r s) ≡ true
rising x y s r e h k = both_le r s (is_up_to x y r e h) k

pub false_first : (b : Bool) → is_le (bool_cmp false b) ≡ true
false_first false = refl
false_first true = refl

between : (a b c : ℕ) → a ≤ b → b ≤ c → (c == a) ≡ true → (b == a) ≡ true
between a b c p q h = grind arith

same_up_to : (a b : ℕ) → (b == a) ≡ true → a ≤ b
same_up_to a b h = grind arith

pub ties : (a b : ℕ) → (b == a) ≡ true → nat_cmp a b ≡ Equal
ties a b h = let e : b ≡ a = grind arith in ap (nat_cmp a) e ∙ tied_itself nat_cmp_total a

tie_too : (a b c : ℕ) → (b == a) ≡ true → (c == a) ≡ true → nat_cmp b c ≡ Equal
tie_too a b c h k = let e : c ≡ b = grind arith in ap (nat_cmp b) e ∙ tied_itself nat_cmp_total b

-- the first part of a key that is between two
first_between : (a b c : ℕ) (s t : Ordering) → is_le (ordering_then (nat_cmp a b) s) ≡ true → ordering_then (nat_cmp b c) t ≡ Less → (c == a) ≡ true → (b == a) ≡ true
first_between a b c s t from less is = between a b c (up_to a b (nat_cmp a b) refl (first_le (nat_cmp a b) s from)) (up_to b c (nat_cmp b c) refl (first_less (nat_cmp b c) t less)) is

-- a key of the same first part, whose other parts are not below the least
from_first : (a b : ℕ) (s : Ordering) → (b == a) ≡ true → is_le s ≡ true → is_le (ordering_then (nat_cmp a b) s) ≡ true
from_first a b s is = rising a b s (nat_cmp a b) refl (same_up_to a b is)

pub from_least : (n : ℕ) (s : Ordering) → is_le s ≡ true → is_le (ordering_then (nat_cmp 0 n) s) ≡ true
from_least n s = rising 0 n s (nat_cmp 0 n) refl (omega arith)

pub least : (n : ℕ) → is_le (nat_cmp 0 n) ≡ true
least n = is_up_to 0 n (nat_cmp 0 n) refl (omega arith)

pub and_first : (a b : Bool) → (a && b) ≡ true → a ≡ true
and_first true b h = refl
and_first false b h = h

pub and_second : (a b : Bool) → (a && b) ≡ true → b ≡ true
and_second true b h = h
and_second false b h = absurd (cc)

and_both : (a b : Bool) → a ≡ true → b ≡ true → (a && b) ≡ true
and_both true b h k = k
and_both false b h k = h

-- ---- the items of an agent

abbrev pub first_item : ℕ → ItemKey
first_item agent = record { agent = agent; number = 0; is_canx = false }

pub items_from : (agent : ℕ) (k : ItemKey) → (k.agent == agent) ≡ true → is_le (item_cmp (first_item agent) k) ≡ true
items_from agent k is = from_first agent k.agent _ is (from_least k.number _ (false_first k.is_canx))

pub items_together : (agent : ℕ) (x y : ItemKey) → is_le (item_cmp (first_item agent) x) ≡ true → item_cmp x y ≡ Less → (y.agent == agent) ≡ true → (x.agent == agent) ≡ true
items_together agent x y = first_between agent x.agent y.agent _ _

-- ---- those of them that have a number of a range

abbrev pub first_within : ℕ → Range → ItemKey
first_within agent range = record { agent = agent; number = range.first; is_canx = false }

abbrev pub is_within : ℕ → Range → ItemKey → Bool
is_within agent range k = (k.agent == agent) && contains k.number range

at_least : (a n b : ℕ) → (nat_le a n && nat_le n b) ≡ true → a ≤ n
at_least a n b h = let k : nat_le a n ≡ true = and_first (nat_le a n) (nat_le n b) h in grind arith

at_most : (a n b : ℕ) → (nat_le a n && nat_le n b) ≡ true → n ≤ b
at_most a n b h = let k : nat_le n b ≡ true = and_second (nat_le a n) (nat_le n b) h in grind arith

is_between : (a n b : ℕ) → a ≤ n → n ≤ b → (nat_le a n && nat_le n b) ≡ true
is_between a n b h k = and_both (nat_le a n) (nat_le n b) (grind arith) (grind arith)

chain : (a b c : ℕ) → a ≤ b → b ≤ c → a ≤ c
chain a b c h k = omega arith

pub within_from : (agent : ℕ) (range : Range) (k : ItemKey) → is_within agent range k ≡ true → is_le (item_cmp (first_within agent range) k) ≡ true
within_from agent range k is =
    from_first agent k.agent _ (and_first (k.agent == agent) (contains k.number range) is)
    (rising range.first k.number _ (nat_cmp range.first k.number) refl (at_least range.first k.number range.last (and_second (k.agent == agent) (contains k.number range) is)) (false_first k.is_canx))

pub within_together : (agent : ℕ) (range : Range) (x y : ItemKey) → is_le (item_cmp (first_within agent range) x) ≡ true → item_cmp x y ≡ Less → is_within agent range y ≡ true → is_within agent range x ≡ true
within_together agent range x y from less is =
    let ya = and_first (y.agent == agent) (contains y.number range) is in
    let yn = and_second (y.agent == agent) (contains y.number range) is in
    let xa = first_between agent x.agent y.agent _ _ from less ya in
    let low : range.first ≤ x.number = up_to range.first x.number (nat_cmp range.first x.number) refl (first_le (nat_cmp range.first x.number) _ (second_le (nat_cmp agent x.agent) _ (ties agent x.agent xa) from)) in
    let high : x.number ≤ y.number = up_to x.number y.number (nat_cmp x.number y.number) refl (first_less (nat_cmp x.number y.number) _ (second_less (nat_cmp x.agent y.agent) _ (tie_too agent x.agent y.agent xa ya) less)) in
    and_both (x.agent == agent) (contains x.number range) xa (is_between range.first x.number range.last low (chain x.number y.number range.last high (at_most range.first y.number range.last yn)))

-- ---- the ranges of an agent

abbrev pub first_range : ℕ → RangeKey
first_range agent = record { agent = agent; first = 0 }

pub ranges_from : (agent : ℕ) (k : RangeKey) → (k.agent == agent) ≡ true → is_le (range_cmp (first_range agent) k) ≡ true
ranges_from agent k is = from_first agent k.agent _ is (least k.first)

pub ranges_together : (agent : ℕ) (x y : RangeKey) → is_le (range_cmp (first_range agent) x) ≡ true → range_cmp x y ≡ Less → (y.agent == agent) ≡ true → (x.agent == agent) ≡ true
ranges_together agent x y = first_between agent x.agent y.agent _ _

-- ---- the memos of an airline

abbrev pub first_memo : ℕ → MemoKey
first_memo airline = record { airline = airline; document = 0 }

pub memos_from : (airline : ℕ) (k : MemoKey) → (k.airline == airline) ≡ true → is_le (memo_cmp (first_memo airline) k) ≡ true
memos_from airline k is = from_first airline k.airline _ is (least k.document)

pub memos_together : (airline : ℕ) (x y : MemoKey) → is_le (memo_cmp (first_memo airline) x) ≡ true → memo_cmp x y ≡ Less → (y.airline == airline) ≡ true → (x.airline == airline) ≡ true
memos_together airline x y = first_between airline x.airline y.airline _ _

-- ---- the tallies of an agent

abbrev pub first_tally : ℕ → TallyKey
first_tally agent = record { agent = agent; airline = 0; period = 0 }

pub tallies_from : (agent : ℕ) (k : TallyKey) → (k.agent == agent) ≡ true → is_le (tally_cmp (first_tally agent) k) ≡ true
tallies_from agent k is = from_first agent k.agent _ is (from_least k.airline _ (least k.period))

pub tallies_together : (agent : ℕ) (x y : TallyKey) → is_le (tally_cmp (first_tally agent) x) ≡ true → tally_cmp x y ≡ Less → (y.agent == agent) ≡ true → (x.agent == agent) ≡ true
tallies_together agent x y = first_between agent x.agent y.agent _ _

-- ---- the items of an agent at a number as it was reported

pinched : (a : Ordering) → is_le a ≡ true → (a ≡ Less → Equal ≡ Less) → a ≡ Equal
pinched Less h k = absurd (cc (k refl))
pinched Equal h k = refl
pinched Greater h k = absurd (cc)

-- what lies between two that tie ties with them
between_tied : {K : Type 0} {R : K → K → Ordering} → IsTotalOrder R → (g x y : K) → is_le (R g x) ≡ true → is_le (R x y) ≡ true → R g y ≡ Equal → R g x ≡ Equal
between_tied {R = R} o g x y from to tie = pinched (R g x) from (λ less. sym tie ∙ below (R x y) refl less to) where
  below : (r : Ordering) → R x y ≡ r → R g x ≡ Less → is_le r ≡ true → R g y ≡ Less
  below Less e less h = o.trans g x y less e
  below Equal e less h = sym (alike_right o x y g e) ∙ less
  below Greater e less h = absurd (cc)

number_same : (n m : List ℕ) → bytes_eq n m ≡ true → m ≡ n
number_same n m h = sym ((bytes_eq-Decides n m).0 h)

number_between : (g x y : List ℕ) (s t : Ordering) → is_le (ordering_then (slice_cmp nat_cmp g x) s) ≡ true → ordering_then (slice_cmp nat_cmp x y) t ≡ Less → bytes_eq y g ≡ true → bytes_eq x g ≡ true
number_between g x y s t from less is =
    let same : g ≡ y = number_same y g is in
    let tie : slice_cmp nat_cmp g y ≡ Equal = ap (slice_cmp nat_cmp g) (sym same) ∙ tied_itself nat_list_cmp_total g in
    let e : slice_cmp nat_cmp g x ≡ Equal = between_tied nat_list_cmp_total g x y (first_le (slice_cmp nat_cmp g x) s from) (first_less (slice_cmp nat_cmp x y) t less) tie in
    (bytes_eq-Decides x g).1 (sym (slice_cmp-IsAntisymmetric nat_cmp-IsAntisymmetric g x e))

abbrev pub first_at : ℕ → List ℕ → NumberKey
first_at agent number = record { agent = agent; number = number; item = 0; is_canx = false }

pub numbers_from : (agent : ℕ) (number : List ℕ) (k : NumberKey) → is_of_number agent number k ≡ true → is_le (number_cmp (first_at agent number) k) ≡ true
numbers_from agent number k is =
    let ka : (k.agent == agent) ≡ true = and_first (k.agent == agent) (bytes_eq k.number number) is in
    let kn : bytes_eq k.number number ≡ true = and_second (k.agent == agent) (bytes_eq k.number number) is in
    let tie : slice_cmp nat_cmp number k.number ≡ Equal = ap (slice_cmp nat_cmp number) (sym (number_same k.number number kn)) ∙ tied_itself nat_list_cmp_total number in
    from_first agent k.agent _ ka (both_le (slice_cmp nat_cmp number k.number) _ (ap is_le tie) (from_least k.item _ (false_first k.is_canx)))

pub numbers_together : (agent : ℕ) (number : List ℕ) (x y : NumberKey) → is_le (number_cmp (first_at agent number) x) ≡ true → number_cmp x y ≡ Less → is_of_number agent number y ≡ true → is_of_number agent number x ≡ true
numbers_together agent number x y from less is =
    let ya : (y.agent == agent) ≡ true = and_first (y.agent == agent) (bytes_eq y.number number) is in
    let yn : bytes_eq y.number number ≡ true = and_second (y.agent == agent) (bytes_eq y.number number) is in
    let xa : (x.agent == agent) ≡ true = first_between agent x.agent y.agent _ _ from less ya in
    and_both (x.agent == agent) (bytes_eq x.number number) xa (number_between number x.number y.number _ _
    (second_le (nat_cmp agent x.agent) _ (ties agent x.agent xa) from)
    (second_less (nat_cmp x.agent y.agent) _ (tie_too agent x.agent y.agent xa ya) less) yn)
