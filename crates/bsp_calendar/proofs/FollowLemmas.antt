-- Lemmas for the walk over periods that follow one another.
use Rattle.std.proofs.Common.{◌≡◌, ℕ, ◌+◌, ◌<◌, ◌≤◌, ◌&&◌, Bool, true, false, List, [], ◌∷◌, length, get_or, drop, refl, ◌∙◌}
use Rattle.std.specs.Prelude.{Option, Some, None}
use Rattle.std.proofs.lemmas.List.{at_drop_more, at_drop_all}
use Rattle.std.proofs.lemmas.Bool.{and_left}
use Rattle.bsp_fields.specs.CivilDay.{CivilDay}
use Rattle.bsp_calendar.specs.DayOrder.{is_next_day}
use Rattle.bsp_calendar.specs.Requests.{follow_one_another}
use Rattle.bsp_calendar.specs.declared.entries.Period.{Period}

-- periods that follow one another, the first after a day
abbrev pub follow_after : Option CivilDay → List Period → Bool
follow_after None qs = follow_one_another qs
follow_after (Some day) [] = true
follow_after (Some day) (q ∷ qs) = is_next_day day q.first && follow_one_another (q ∷ qs)

pub follow_cons : (q : Period) (qs : List Period) → follow_one_another (q ∷ qs) ≡ follow_after (Some q.last) qs
follow_cons q [] = refl
follow_cons q (r ∷ rs) = refl

follow_first : (o : Option CivilDay) (q : Period) (qs : List Period) → ((day : CivilDay) → o ≡ Some day → is_next_day day q.first ≡ true) → follow_after o (q ∷ qs) ≡ follow_after (Some q.last) qs
follow_first None q qs h = follow_cons q qs
follow_first (Some day) q qs h = rw (h day refl) (follow_cons q qs)

-- one more period that begins on the day after
pub follow_more : (o : Option CivilDay) (qs : List Period) (i : ℕ) (q : Period) → i < length qs → q ≡ get_or qs i q → ((day : CivilDay) → o ≡ Some day → is_next_day day q.first ≡ true) → follow_after o (drop i qs) ≡ follow_after (Some q.last) (drop (i + 1) qs)
follow_more o qs i q l at h = at_drop_more (follow_after o) qs i q l ∙ (rw (← at) (follow_first o q (drop (i + 1) qs) h))

-- one that does not
pub follow_not : (day : CivilDay) (qs : List Period) (i : ℕ) (q : Period) → i < length qs → q ≡ get_or qs i q → is_next_day day q.first ≡ false → follow_after (Some day) (drop i qs) ≡ false
follow_not day qs i q l at h =
    at_drop_more (follow_after (Some day)) qs i q l ∙ (rw (← at) (and_left (is_next_day day q.first) (follow_one_another (q ∷ drop (i + 1) qs)) h))

pub follow_end : (o : Option CivilDay) → follow_after o [] ≡ true
follow_end None = refl
follow_end (Some day) = refl

pub follow_all : (o : Option CivilDay) (qs : List Period) (i : ℕ) → length qs ≤ i → follow_after o (drop i qs) ≡ true
follow_all o qs i past = at_drop_all (follow_after o) qs i past ∙ follow_end o
