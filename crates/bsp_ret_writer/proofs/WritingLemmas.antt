-- Lemmas on what is written to a text, piece by piece.
use Rattle.std.proofs.Common.{◌≡◌, ℕ, ◌<◌, ◌+◌, List, [], ◌∷◌, ◌++◌, length, map, take, get_or, refl, sym, ap, ◌∙◌, arith, append_assoc}
use Rattle.std.specs.List.{concat}
use Rattle.std.proofs.lemmas.List.{take_at, drop_at, drop_all, append-nil, map_more}
use Rattle.bsp_ret_writer.specs.Writing.{text_of}
use borrow.Rule.Slice.PartMut.{put_mid}

-- eleven characters written behind two
pub written_behind : (front rest text : List ℕ) → length front ≡ 2 → length rest ≡ 11 → put_mid 2 11 (front ++ rest) text ≡ front ++ text
written_behind front rest text two eleven =
    rw (take_at front rest 2 two, drop_at front rest 2 two, drop_all 11 rest (omega arith), append-nil text) refl

concat_push : (fields : List (List ℕ)) (field : List ℕ) → concat (fields ++ field ∷ []) ≡ concat fields ++ field
concat_push [] field = append-nil field
concat_push (first ∷ fields) field =
    ap (λ rest. first ++ rest) (concat_push fields field) ∙ sym (append_assoc first (concat fields) field)

-- one more field behind those that are written
pub concat_more : {A : Type 0} (f : A → List ℕ) (front : List ℕ) (items : List A) (i : ℕ) (d : A) → i < length items → (front ++ concat (map f (take i items))) ++ f (get_or items i d) ≡ front ++ concat (map f (take (i + 1) items))
concat_more f front items i d inside =
    let more : concat (map f (take (i + 1) items)) ≡ concat (map f (take i items)) ++ f (get_or items i d) = ap concat (map_more f items i d inside) ∙ concat_push (map f (take i items)) (f (get_or items i d)) in
    append_assoc front (concat (map f (take i items))) (f (get_or items i d)) ∙ ap (λ rest. front ++ rest) (sym more)

-- six elements, one by one
pub six_elements : {A : Type 0} (items : List A) (a b d e f g : A) → length items ≡ 6 → a ≡ get_or items 0 a → b ≡ get_or items 1 b → d ≡ get_or items 2 d → e ≡ get_or items 3 e → f ≡ get_or items 4 f → g ≡ get_or items 5 g → items ≡ a ∷ b ∷ d ∷ e ∷ f ∷ g ∷ []
six_elements (h ∷ i ∷ j ∷ k ∷ l ∷ m ∷ []) a b d e f g six at0 at1 at2 at3 at4 at5 = rw (at0, at1, at2, at3, at4, at5) refl
six_elements (h ∷ i ∷ j ∷ k ∷ l ∷ m ∷ n ∷ items) a b d e f g six at0 at1 at2 at3 at4 at5 = absurd (omega (arith, six))
six_elements (h ∷ i ∷ j ∷ k ∷ l ∷ []) a b d e f g six at0 at1 at2 at3 at4 at5 = absurd (omega (arith, six))
six_elements (h ∷ i ∷ j ∷ k ∷ []) a b d e f g six at0 at1 at2 at3 at4 at5 = absurd (omega (arith, six))
six_elements (h ∷ i ∷ j ∷ []) a b d e f g six at0 at1 at2 at3 at4 at5 = absurd (omega (arith, six))
six_elements (h ∷ i ∷ []) a b d e f g six at0 at1 at2 at3 at4 at5 = absurd (omega (arith, six))
six_elements (h ∷ []) a b d e f g six at0 at1 at2 at3 at4 at5 = absurd (omega (arith, six))
six_elements [] a b d e f g six at0 at1 at2 at3 at4 at5 = absurd (omega (arith, six))

pub text_of-append : (xs ys : List (List ℕ)) → text_of (xs ++ ys) ≡ text_of xs ++ text_of ys
text_of-append [] ys = refl
text_of-append (x ∷ xs) ys =
    ap (λ rest. (x ++ 10 ∷ []) ++ rest) (text_of-append xs ys) ∙ sym (append_assoc (x ++ 10 ∷ []) (text_of xs) (text_of ys))

-- a line, and six lists of lines, written one after the other
pub text_of-parts : (old first : List ℕ) (a b d e f g : List (List ℕ)) → ((((((old ++ first ++ 10 ∷ []) ++ text_of a) ++ text_of b) ++ text_of d) ++ text_of e) ++ text_of f) ++ text_of g ≡ old ++ text_of (first ∷ (a ++ (b ++ (d ++ (e ++ (f ++ g))))))
text_of-parts old first a b d e f g =
    rw (text_of-append a (b ++ (d ++ (e ++ (f ++ g)))), text_of-append b (d ++ (e ++ (f ++ g))), text_of-append d (e ++ (f ++ g)), text_of-append e (f ++ g), text_of-append f g) (simp append_assoc)
