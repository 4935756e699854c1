-- The values that a route of a form takes from a path of the form.
use Rattle.std.proofs.Common.{◌≡◌, ℕ, suc, ◌+◌, ◌-◌, ◌<◌, ◌≤◌, List, [], ◌∷◌, ◌++◌, length, drop, take, get_or, map, Bool, true, false, cond, refl, sym, ap, ◌∙◌, arith, ◌==◌, ltb, leb, ◌&&◌, append-nil, length-append}
use Rattle.std.proofs.lemmas.Bool.Decides.{nat_tests}
use Rattle.std.proofs.lemmas.Bool.{false≢true}
use Rattle.std.proofs.lemmas.List.Prefix.{front_rest}
use Rattle.matchit.specs.Seek.{segment}
use Rattle.matchit.specs.Params.{walk, wild_from, wild_stop, part_of, after_token}
use Rattle.bsp_routes.specs.Targets.{IsValue}
use Rattle.bsp_routes.specs.Resources.{Form, Fits}
use Rattle.bsp_routes.specs.Resources.Form.{Fixed, After, Between, Two}
use Rattle.bsp_routes.specs.Matches.{front, others, values_in}
use Rattle.bsp_routes.proofs.Shapes.{is_slash_first, both, is_47}
use Rattle.bsp_routes.proofs.Segments.{segment_slash}
use Rattle.bsp_routes.proofs.Leads.{value_then, first_of_both}
use Rattle.bsp_routes.proofs.Forms.{tokens, plain_text}

-- where a parameter behind a word is
wild_word : (w t : List ℕ) (len token at : ℕ) → plain_text w ≡ true → at + length w ≤ len
    → ((wild_from (w ++ 256 ∷ t) len token at).0 ≡ token + length w) × ((wild_from (w ++ 256 ∷ t) len token at).1 ≡ at + length w)
wild_word [] t len token at p l = (omega arith, omega arith)
wild_word (x ∷ w) t len token at p l =
    let parts = both (ltb x 256) (plain_text w) p in
    let inside : ltb at len ≡ true = grind (arith, nat_tests) in
    let ih = wild_word w t len (token + 1) (at + 1) parts.1 (omega (arith, l)) in
    rw (parts.0, inside) (omega (arith, ih.0), omega (arith, ih.1))

choice_last : (x y z : Bool) (u v : ℕ) → z ≡ false → cond (x && y && z) u v ≡ v
choice_last false y z u v e = refl
choice_last true false z u v e = refl
choice_last true true z u v e = rw e refl

choice_all : (x y z : Bool) (u v : ℕ) → x ≡ true → y ≡ true → z ≡ true → cond (x && y && z) u v ≡ u
choice_all x y z u v e f g = rw (e, f, g) refl

-- a parameter that ends the pattern takes the rest of the path
stop_end : (pattern path : List ℕ) (token at : ℕ) → length pattern ≡ token + 1 → wild_stop pattern token path at ≡ length path
stop_end pattern path token at e =
    let last : ltb (token + 1) (length pattern) ≡ false = grind (arith, nat_tests) in
    choice_last (ltb token (length pattern)) (get_or pattern token 0 == 256) (ltb (token + 1) (length pattern)) _ _ last

get_after : (w t : List ℕ) (x : ℕ) → get_or (w ++ x ∷ t) (length w) 0 ≡ x
get_after [] t x = refl
get_after (y ∷ w) t x = get_after w t x

drop_through : (w t : List ℕ) (x : ℕ) → drop (suc (length w)) (w ++ x ∷ t) ≡ t
drop_through [] t x = refl
drop_through (y ∷ w) t x = drop_through w t x

drop_after : (w t : List ℕ) (x : ℕ) → drop (length w + 1) (w ++ x ∷ t) ≡ t
drop_after w t x = let n : length w + 1 ≡ suc (length w) = omega arith in ap (λ m. drop m (w ++ x ∷ t)) n ∙ drop_through w t x

segment_first : (t : List ℕ) → is_slash_first t ≡ true → segment t ≡ 47 ∷ []
segment_first [] e = absurd (false≢true e)
segment_first (x ∷ t) e = rw e (ap (λ y. y ∷ []) (is_47 x e))

some_length : (t : List ℕ) → is_slash_first t ≡ true → 0 < length t
some_length [] e = absurd (false≢true e)
some_length (x ∷ t) e = omega arith

-- a parameter before a slash takes the path up to the next slash
stop_slash : (w t a r path : List ℕ) → is_slash_first t ≡ true → is_slash_first r ≡ true → IsValue a → path ≡ w ++ (a ++ r)
    → wild_stop (w ++ 256 ∷ t) (length w) path (length w) ≡ length w + length a
stop_slash w t a r path st sr i e =
    let more = some_length t st in
    let lp : length (w ++ 256 ∷ t) ≡ length w + (length t + 1) = omega (arith, length-append w (256 ∷ t)) in
    let in_pattern : ltb (length w) (length (w ++ 256 ∷ t)) ≡ true = grind (arith, nat_tests) in
    let not_last : ltb (length w + 1) (length (w ++ 256 ∷ t)) ≡ true = grind (arith, nat_tests) in
    let is_param : (get_or (w ++ 256 ∷ t) (length w) 0 == 256) ≡ true = rw (get_after w t 256) refl in
    let rest : drop (length w) path ≡ a ++ r = front_rest path w (a ++ r) e in
    let facts = value_then a r i.1 sr in
    let here : segment (drop (length w) path) ≡ a ++ 47 ∷ [] = ap segment rest ∙ segment_slash (a ++ r) facts.0 ∙ ap (λ x. x ++ 47 ∷ []) facts.1 in
    let there : segment (drop (length w + 1) (w ++ 256 ∷ t)) ≡ 47 ∷ [] = ap segment (drop_after w t 256) ∙ segment_first t st in
    let size : length (segment (drop (length w) path)) ≡ length a + 1 = ap length here ∙ length-append a (47 ∷ []) in
    let one : length (segment (drop (length w + 1) (w ++ 256 ∷ t))) ≡ 1 = ap length there in
    choice_all (ltb (length w) (length (w ++ 256 ∷ t))) (get_or (w ++ 256 ∷ t) (length w) 0 == 256) (ltb (length w + 1) (length (w ++ 256 ∷ t))) _ _ in_pattern is_param not_last
    ∙ omega (arith, size, one)

take_front : (v r : List ℕ) → take (length v) (v ++ r) ≡ v
take_front [] r = refl
take_front (b ∷ v) r = ap (λ x. b ∷ x) (take_front v r)

part_is : (path u v r : List ℕ) (at : ℕ) → length u ≡ at → path ≡ u ++ (v ++ r) → part_of path at (at + length v) ≡ v
part_is path u v r at n e =
    let l : length path ≡ length u + (length v + length r) = ap length e ∙ length-append u (v ++ r) ∙ ap (λ x. length u + x) (length-append v r) in
    let starts : leb at (at + length v) ≡ true = grind (arith, nat_tests) in
    let ends : leb (at + length v) (length path) ≡ true = grind (arith, nat_tests) in
    let size : (at + length v) - at ≡ length v = omega arith in
    let rest : drop at path ≡ v ++ r = ap (λ m. drop m path) (sym n) ∙ front_rest path u (v ++ r) e in
    rw (starts, ends, size, rest) (take_front v r)

-- the values from a place on
abbrev pub values_from : List ℕ → List ℕ → List ℕ → List (ℕ × ℕ) → ℕ → ℕ → List (List ℕ)
values_from pattern text path names token at = map (λ (pair : List ℕ × List ℕ). pair.1) (walk pattern text path names token at)

step : (pattern text path : List ℕ) (name : ℕ × ℕ) (names : List (ℕ × ℕ)) (token at next start : ℕ) (v : List ℕ)
    → (wild_from (drop token pattern) (length path) token at).0 ≡ next → (wild_from (drop token pattern) (length path) token at).1 ≡ start
    → wild_stop pattern next path start ≡ start + length v → part_of path start (start + length v) ≡ v
    → values_from pattern text path (name ∷ names) token at ≡ v ∷ values_from pattern text path names (after_token next) (start + length v)
step pattern text path name names token at next start v e f s p = rw (e, f, s, p) refl

-- a value before a slash comes first
before_slash : (w t a r path text : List ℕ) (name : ℕ × ℕ) (names : List (ℕ × ℕ)) → plain_text w ≡ true → is_slash_first t ≡ true → is_slash_first r ≡ true → IsValue a → path ≡ w ++ (a ++ r)
    → values_from (w ++ 256 ∷ t) text path (name ∷ names) 0 0 ≡ a ∷ values_from (w ++ 256 ∷ t) text path names (after_token (length w)) (length w + length a)
before_slash w t a r path text name names p st sr i e =
    let l : length path ≡ length w + length (a ++ r) = ap length e ∙ length-append w (a ++ r) in
    let found = wild_word w t (length path) 0 0 p (omega (arith, l)) in
    step (w ++ 256 ∷ t) text path name names 0 0 (length w) (length w) a (omega (arith, found.0)) (omega (arith, found.1)) (stop_slash w t a r path st sr i e) (part_is path w a r (length w) refl e)

-- how many values a form has, and which
abbrev pub count : Form → ℕ
count (Fixed w) = 0
count (After w) = 1
count (Between w z) = 1
count (Two w z) = 2

abbrev pub given : Form → List ℕ → List ℕ → List (List ℕ)
given (Fixed w) a b = []
given (After w) a b = a ∷ []
given (Between w z) a b = a ∷ []
given (Two w z) a b = a ∷ (b ∷ [])

-- words of bytes, of no great length, and a slash behind the first value
abbrev pub sound_form : Form → Bool
sound_form (Fixed w) = true
sound_form (After w) = plain_text w
sound_form (Between w z) = plain_text w && is_slash_first z
sound_form (Two w z) = plain_text w && (is_slash_first z && (plain_text z && ltb (length w) 18446744073709551615))

no_names : (names : List (ℕ × ℕ)) → length names ≡ 0 → names ≡ []
no_names [] n = refl
no_names (x ∷ names) n = absurd (omega (arith, n))

last_value : (w a path text : List ℕ) (names : List (ℕ × ℕ)) → plain_text w ≡ true → length names ≡ 1 → path ≡ w ++ a → values_in (w ++ 256 ∷ []) text names path ≡ a ∷ []
last_value w a path text [] p n e = absurd (omega (arith, n))
last_value w a path text (x ∷ (y ∷ names)) p n e = absurd (omega (arith, n))
last_value w a path text (x ∷ []) p n e =
    let l : length path ≡ length w + length a = ap length e ∙ length-append w a in
    let found = wild_word w [] (length path) 0 0 p (omega (arith, l)) in
    let stop = stop_end (w ++ 256 ∷ []) path (length w) (length w) (length-append w (256 ∷ [])) ∙ l in
    step (w ++ 256 ∷ []) text path x [] 0 0 (length w) (length w) a (omega (arith, found.0)) (omega (arith, found.1)) stop (part_is path w a [] (length w) refl (e ∙ ap (λ r. w ++ r) (sym (append-nil a))))

inner_value : (w z a path text : List ℕ) (names : List (ℕ × ℕ)) → plain_text w ≡ true → is_slash_first z ≡ true → length names ≡ 1 → IsValue a → path ≡ w ++ (a ++ z) → values_in (w ++ 256 ∷ (z ++ [])) text names path ≡ a ∷ []
inner_value w z a path text [] p s n i e = absurd (omega (arith, n))
inner_value w z a path text (x ∷ (y ∷ names)) p s n i e = absurd (omega (arith, n))
inner_value w z a path text (x ∷ []) p s n i e = before_slash w (z ++ []) a z path text x [] p (first_of_both z [] s) s i e

second : (w z a b path text : List ℕ) (name : ℕ × ℕ) → plain_text z ≡ true → ltb (length w) 18446744073709551615 ≡ true → path ≡ w ++ (a ++ (z ++ b))
    → values_from (w ++ 256 ∷ (z ++ 256 ∷ [])) text path (name ∷ []) (after_token (length w)) (length w + length a) ≡ b ∷ []
second w z a b path text name p short e =
    let bound : length w < 18446744073709551615 = grind (arith, nat_tests) in
    let token : after_token (length w) ≡ length w + 1 = omega (arith, bound) in
    let l : length path ≡ length w + (length a + (length z + length b)) = ap length e ∙ length-append w (a ++ (z ++ b)) ∙ ap (λ x. length w + x) (length-append a (z ++ b) ∙ ap (λ x. length a + x) (length-append z b)) in
    let rest : drop (length w + 1) (w ++ 256 ∷ (z ++ 256 ∷ [])) ≡ z ++ 256 ∷ [] = drop_after w (z ++ 256 ∷ []) 256 in
    let found = wild_word z [] (length path) (length w + 1) (length w + length a) p (omega (arith, l)) in
    let next = ap (λ t. (wild_from t (length path) (length w + 1) (length w + length a)).0) rest ∙ found.0 in
    let start = ap (λ t. (wild_from t (length path) (length w + 1) (length w + length a)).1) rest ∙ found.1 in
    let size : length (w ++ 256 ∷ (z ++ 256 ∷ [])) ≡ (length w + 1) + length z + 1 = length-append w (256 ∷ (z ++ 256 ∷ [])) ∙ omega (arith, length-append z (256 ∷ [])) in
    let stop : wild_stop (w ++ 256 ∷ (z ++ 256 ∷ [])) ((length w + 1) + length z) path (length w + length a + length z) ≡ length w + length a + length z + length b =
    stop_end (w ++ 256 ∷ (z ++ 256 ∷ [])) path ((length w + 1) + length z) (length w + length a + length z) size ∙ omega (arith, l) in
    let before : length (w ++ (a ++ z)) ≡ length w + length a + length z = length-append w (a ++ z) ∙ omega (arith, length-append a z) in
    let cut : path ≡ (w ++ (a ++ z)) ++ (b ++ []) = e ∙ regrouped w a z b in
    ap (λ t. values_from (w ++ 256 ∷ (z ++ 256 ∷ [])) text path (name ∷ []) t (length w + length a)) token
    ∙ step (w ++ 256 ∷ (z ++ 256 ∷ [])) text path name [] (length w + 1) (length w + length a) ((length w + 1) + length z) (length w + length a + length z) b next start stop
    (part_is path (w ++ (a ++ z)) b [] (length w + length a + length z) before cut)
  where
    regrouped : (w a z b : List ℕ) → w ++ (a ++ (z ++ b)) ≡ (w ++ (a ++ z)) ++ (b ++ [])
    regrouped [] [] z b = ap (λ r. z ++ r) (sym (append-nil b))
    regrouped [] (x ∷ a) z b = ap (λ r. x ∷ r) (regrouped [] a z b)
    regrouped (x ∷ w) a z b = ap (λ r. x ∷ r) (regrouped w a z b)

both_values : (w z a b path text : List ℕ) (names : List (ℕ × ℕ)) → plain_text w ≡ true → is_slash_first z ≡ true → plain_text z ≡ true → ltb (length w) 18446744073709551615 ≡ true
    → length names ≡ 2 → IsValue a → path ≡ w ++ (a ++ (z ++ b)) → values_in (w ++ 256 ∷ (z ++ 256 ∷ [])) text names path ≡ a ∷ (b ∷ [])
both_values w z a b path text [] p s q short n i e = absurd (omega (arith, n))
both_values w z a b path text (x ∷ []) p s q short n i e = absurd (omega (arith, n))
both_values w z a b path text (x ∷ (y ∷ (u ∷ names))) p s q short n i e = absurd (omega (arith, n))
both_values w z a b path text (x ∷ (y ∷ [])) p s q short n i e =
    before_slash w (z ++ 256 ∷ []) a (z ++ b) path text x (y ∷ []) p (first_of_both z (256 ∷ []) s) (first_of_both z b s) i e
    ∙ ap (λ r. a ∷ r) (second w z a b path text y q short e)

-- a route of the form takes the values of the form
pub values_given : (f : Form) (a b path text : List ℕ) (names : List (ℕ × ℕ)) → sound_form f ≡ true → length names ≡ count f → Fits f a b path → values_in (tokens f) text names path ≡ given f a b
values_given (Fixed w) a b path text names s n f = ap (λ (r : List (ℕ × ℕ)). values_in (w ++ []) text r path) (no_names names n)
values_given (After w) a b path text names s n f = last_value w a path text names s n f.0
values_given (Between w z) a b path text names s n f =
    let parts = both (plain_text w) (is_slash_first z) s in
    inner_value w z a path text names parts.0 parts.1 n f.1 f.0
values_given (Two w z) a b path text names s n f =
    let first = both (plain_text w) (is_slash_first z && (plain_text z && ltb (length w) 18446744073709551615)) s in
    let more = both (is_slash_first z) (plain_text z && ltb (length w) 18446744073709551615) first.1 in
    let last = both (plain_text z) (ltb (length w) 18446744073709551615) more.1 in
    both_values w z a b path text names first.0 more.0 last.0 last.1 n f.1 f.0

pub first_given : (f : Form) (a b path : List ℕ) → Fits f a b path → (front (given f a b) ≡ a) × (front (others (given f a b)) ≡ b)
first_given (Fixed w) a b path f = (sym f.1, sym f.2)
first_given (After w) a b path f = (refl, sym f.2)
first_given (Between w z) a b path f = (refl, sym f.2)
first_given (Two w z) a b path f = (refl, refl)

abbrev names_of : Form → List (ℕ × ℕ)
names_of (Fixed w) = []
names_of (After w) = (0, 0) ∷ []
names_of (Between w z) = (0, 0) ∷ []
names_of (Two w z) = (0, 0) ∷ ((0, 0) ∷ [])

names_count : (f : Form) → length (names_of f) ≡ count f
names_count (Fixed w) = refl
names_count (After w) = refl
names_count (Between w z) = refl
names_count (Two w z) = refl

-- a path has its form with one pair of values
pub one_fit : (f : Form) (a b c d path : List ℕ) → sound_form f ≡ true → Fits f a b path → Fits f c d path → (a ≡ c) × (b ≡ d)
one_fit f a b c d path s g h =
    let same : given f a b ≡ given f c d = sym (values_given f a b path [] (names_of f) s (names_count f) g) ∙ values_given f c d path [] (names_of f) s (names_count f) h in
    let first = first_given f a b path g in
    let other = first_given f c d path h in
    (sym first.0 ∙ ap front same ∙ other.0, sym first.1 ∙ ap (λ r. front (others r)) same ∙ other.1)
