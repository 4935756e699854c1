-- What the router finds at a path, and what it does not find.
use Rattle.std.proofs.Common.{◌≡◌, ◌≢◌, ℕ, ◌<◌, ◌≤◌, List, [], ◌∷◌, ◌++◌, length, get_or, Option, Some, None, true, sym, ap, ◌∙◌, subst, arith, All, ◌⊎◌, inl, inr, IfSome}
use Rattle.std.proofs.lemmas.List.Elements.{All-head, All-tail, All-nil, All-cons}
use Rattle.std.proofs.lemmas.Str.{IsUtf8-from_ascii}
use Rattle.std.specs.Str.{IsAscii, IsUtf8}
use Rattle.std.proofs.lemmas.Bool.{cases_lt}
use Rattle.std.proofs.lemmas.List.{get_or_past}
use Rattle.std.specs.Option.{option_map}
use Rattle.matchit.specs.Seek.{first}
use Rattle.matchit.specs.Level.{IsText}
use Rattle.matchit.specs.Router.{RouteOf}
use Rattle.bsp_routes.specs.declared.resource.Resource.{Resource}
use Rattle.bsp_routes.specs.declared.found.Found.{Found}
use Rattle.bsp_routes.specs.Rows.{ResourceRows, routes}
use Rattle.bsp_routes.specs.Resources.{form, Form, Fits, IsPathOf}
use Rattle.bsp_routes.specs.Resources.Form.{Fixed, After, Between, Two}
use Rattle.bsp_routes.specs.Targets.{IsClean}
use Rattle.bsp_routes.specs.Matches.{front, others, values_in, IsMatch, IsFoundAt}
use Rattle.bsp_routes.proofs.Shapes.{In, both}
use Rattle.bsp_routes.proofs.Readings.{sound, render, params}
use Rattle.bsp_routes.proofs.Forms.{tokens, fits_from, plain_form}
use Rattle.bsp_routes.proofs.Leads.{leads}
use Rattle.bsp_routes.proofs.Walks.{sound_form, count, given, values_given, first_given, one_fit}
use Rattle.bsp_routes.proofs.Computed.{AreOf, routes_are_of, routes_shaped, all_serve, all_end, all_sound, kept}

abbrev Clean : ℕ → Type 0
Clean b = (b ≤ 126) × (b ≢ 63) × (b ≢ 37)

text_of_clean : (t : List ℕ) → IsClean t → IsText t
text_of_clean [] c = tt
text_of_clean (b ∷ t) c =
    let h = All-head Clean b t c in
    ((omega (arith, h.0)), text_of_clean t (All-tail Clean b t c))

ascii : (t : List ℕ) → IsClean t → IsAscii t
ascii t c = λ k. by k (cases_lt k (length t))
  where
    by : (k : ℕ) → (k < length t) ⊎ (length t ≤ k) → get_or t k 0 < 128
    by k (inl l) = omega (arith, (c k 0 l).0)
    by k (inr l) = subst (λ (n : ℕ). n < 128) (sym (get_or_past t k 0 l)) (omega arith)

pub utf8_of_clean : (t : List ℕ) → IsClean t → IsUtf8 t
utf8_of_clean t c = IsUtf8-from_ascii t (ascii t c)

clean_front : (u v : List ℕ) → IsClean (u ++ v) → IsClean u
clean_front [] v c = All-nil Clean
clean_front (b ∷ u) v c = All-cons Clean b u (All-head Clean b (u ++ v) c) (clean_front u v (All-tail Clean b (u ++ v) c))

clean_rest : (u v : List ℕ) → IsClean (u ++ v) → IsClean v
clean_rest [] v c = c
clean_rest (b ∷ u) v c = clean_rest u v (All-tail Clean b (u ++ v) c)

-- the values of a clean path are texts
texts_given : (f : Form) (a b path : List ℕ) → IsClean path → Fits f a b path → All IsUtf8 (given f a b)
texts_given (Fixed w) a b path c f = All-nil IsUtf8
texts_given (After w) a b path c f = All-cons IsUtf8 a [] (utf8_of_clean a (clean_rest w a (subst IsClean f.0 c))) (All-nil IsUtf8)
texts_given (Between w z) a b path c f = All-cons IsUtf8 a [] (utf8_of_clean a (clean_front a z (clean_rest w (a ++ z) (subst IsClean f.0 c)))) (All-nil IsUtf8)
texts_given (Two w z) a b path c f =
    let behind = clean_rest w (a ++ (z ++ b)) (subst IsClean f.0 c) in
    let last = clean_rest z b (clean_rest a (z ++ b) behind) in
    All-cons IsUtf8 a (b ∷ []) (utf8_of_clean a (clean_front a (z ++ b) behind)) (All-cons IsUtf8 b [] (utf8_of_clean b last) (All-nil IsUtf8))

row_of : (rs : ResourceRows) (t : List ℕ) (r : RouteOf Resource) → AreOf rs → In t r rs → t ≡ tokens (form r.value)
row_of [] t r a i = absurd i
row_of ((u, q) ∷ rs) t r a (inl h) = sym h.0 ∙ a.0 ∙ ap (λ (x : RouteOf Resource). tokens (form x.value)) h.1
row_of ((u, q) ∷ rs) t r a (inr h) = row_of rs t r a.1 h

-- a route that is found has the form of the path
fits_found : (path : List ℕ) (r : RouteOf Resource) → IsClean path → first routes path ≡ Some r → (a : List ℕ) × (b : List ℕ) × Fits (form r.value) a b path
fits_found path r c e =
    let reading = sound path 0 routes r routes_shaped (text_of_clean path c) e in
    let t = row_of routes reading.tokens r routes_are_of reading.at in
    let is = subst (λ (x : List ℕ). path ≡ render x reading.values) t reading.is in
    let count = subst (λ (x : List ℕ). length reading.values ≡ params x) t reading.count in
    let plain = (both (plain_form (form r.value)) (sound_form (form r.value)) (all_sound r.value)).0 in
    (front reading.values, front (others reading.values), fits_from (form r.value) reading.values path plain is count reading.valued)

sound_of : (resource : Resource) → sound_form (form resource) ≡ true
sound_of resource = (both (plain_form (form resource)) (sound_form (form resource)) (all_sound resource)).1

found_end : (resource : Resource) (a b path : List ℕ) → IsClean path → Fits (form resource) a b path → option_map kept (first routes path) ≡ Some (resource, (tokens (form resource), count (form resource)))
found_end resource a b path c f =
    ap (option_map kept) (leads (form resource) a b path routes routes_shaped (all_serve resource) (text_of_clean path c) f) ∙ all_end resource

-- a path of a resource is not missed
pub not_missed : (resource : Resource) (a b path : List ℕ) → IsPathOf resource a b path → first routes path ≡ None → ⊥
not_missed resource a b path p e =
    let h : option_map kept None ≡ Some (resource, (tokens (form resource), count (form resource))) = ap (option_map kept) (sym e) ∙ found_end resource a b path p.0 p.1 in
    absurd cc

-- a path is one resource's
pub one_resource : (p q : Resource) (a b c d path : List ℕ) → IsPathOf p a b path → IsPathOf q c d path → p ≡ q
one_resource p q a b c d path h g =
    let same : Some (p, (tokens (form p), count (form p))) ≡ Some (q, (tokens (form q), count (form q))) = sym (found_end p a b path h.0 h.1) ∙ found_end q c d path g.0 g.1 in
    let parts : (p, (tokens (form p), count (form p))) ≡ (q, (tokens (form q), count (form q))) = cc in
    ap (λ (x : Resource × (List ℕ × ℕ)). x.0) parts

-- with one pair of values
pub one_path : (p : Resource) (a b c d path : List ℕ) → IsPathOf p a b path → IsPathOf p c d path → (a ≡ c) × (b ≡ d)
one_path p a b c d path h g = one_fit (form p) a b c d path (sound_of p) h.1 g.1

route_parts : (path : List ℕ) (r : RouteOf Resource) (a b : List ℕ) → IsClean path → first routes path ≡ Some r → Fits (form r.value) a b path
    → (r.pattern ≡ tokens (form r.value)) × (length r.names ≡ count (form r.value))
route_parts path r a b c e f =
    let same : Some (kept r) ≡ Some (r.value, (tokens (form r.value), count (form r.value))) = ap (option_map kept) (sym e) ∙ found_end r.value a b path c f in
    let parts : kept r ≡ (r.value, (tokens (form r.value), count (form r.value))) = cc in
    (ap (λ (x : Resource × (List ℕ × ℕ)). x.1.0) parts, ap (λ (x : Resource × (List ℕ × ℕ)). x.1.1) parts)

-- what is found has the path's values
found_at : (path : List ℕ) (found : Found) → IsClean path → IsMatch routes path (Some found) → IsFoundAt path found
found_at path found c m =
    let route = m.0 in
    let fits = fits_found path m.0 c m.1 in
    let f = form route.value in
    let parts = route_parts path m.0 fits.0 fits.1 c m.1 fits.2 in
    let values : values_in route.pattern route.text route.names path ≡ given (form route.value) fits.0 fits.1 =
    ap (λ t. values_in t route.text route.names path) parts.0 ∙ values_given (form route.value) fits.0 fits.1 path route.text route.names (sound_of route.value) parts.1 fits.2 in
    let texts = subst (All IsUtf8) (sym values) (texts_given (form route.value) fits.0 fits.1 path c fits.2) in
    let two = m.3 texts in
    let first = first_given (form route.value) fits.0 fits.1 path fits.2 in
    let a : found.first.now ≡ fits.0 = two.0 ∙ ap front values ∙ first.0 in
    let b : found.second.now ≡ fits.1 = two.1 ∙ ap (λ r. front (others r)) values ∙ first.1 in
    (c, rw (m.2, a, b) fits.2)

pub all_found : (target : List ℕ) (result : Option Found) → IsClean target → IsMatch routes target result → IfSome result (IsFoundAt target)
all_found target None c m = tt
all_found target (Some found) c m = found_at target found c m
